-- The index of an opening net.
use Rattle.std.proofs.Common.{◌≡◌, ℕ, zero, suc, ◌+◌, ◌-◌, ◌<◌, ◌≤◌, ◌&&◌, Bool, true, false, nat_lt, List, [], ◌∷◌, length, map, refl, sym, ◌∙◌, ap, subst, ⊎_elim, arith}
use Rattle.std.specs.List.{Contains, range_with_len}
use Rattle.std.proofs.lemmas.Bool.{cases_lt}
use Rattle.ghs_graph.proofs.lemmas.Members.{first_in, later_in}
use Rattle.peer_network.specs.declared.event.Event.{Event}
use Rattle.peer_network.specs.declared.event.Event.TheVariants.{Wake, Take}
use Rattle.peer_index.specs.Places.{HasPlace}
use Rattle.peer_index.specs.Index.{IndexState, IsIndexOf, IsIndexBut}
use Rattle.peer_index.proofs.lemmas.Marks.{but_of}
use Rattle.peer_network.specs.declared.wake_set.WakeSet.{WakeSet}
use Rattle.peer_machine.specs.Rules.{Rules}
use Rattle.peer_machine.specs.Net.{Net, opening, is_port}
use Rattle.peer_machine.specs.Run.{net_after}
use Rattle.peer_machine.proofs.lemmas.Runs.{net_after_is}
use Rattle.peer_net.specs.NetState.{NetState, network, net_of}
use Rattle.peer_runs.specs.WorldState.{lawful_in}

-- the wakes of n nodes, from node v on
abbrev wakes : ℕ → ℕ → List Event
wakes n v = map (λ u. Wake u) (range_with_len v n)

-- the wakes of the nodes from v on to the last
abbrev pub wakes_from : ℕ → ℕ → List Event
wakes_from last v = wakes (last + 1 - v) v

pub next_wake : (last v : ℕ) → v ≤ last → wakes_from last v ≡ Wake v ∷ wakes_from last (v + 1)
next_wake last v le = let more : last + 1 - v ≡ suc (last + 1 - (v + 1)) = omega (arith, le) in ap (λ n. wakes n v) more

pub no_wake : (last v : ℕ) → last < v → wakes_from last v ≡ []
no_wake last v lt = let none : last + 1 - v ≡ 0 = omega (arith, lt) in ap (λ n. wakes n v) none

wake_among : (n v u : ℕ) → v ≤ u → u < v + n → Contains (wakes n v) (Wake u)
wake_among zero v u lo hi = absurd (omega (arith, lo, hi))
wake_among (suc n) v u lo hi = ⊎_elim
    (λ (lt : v < u). later_in (Wake v) (Wake u) (wakes n (v + 1)) (wake_among n (v + 1) u (omega (arith, lt)) (omega (arith, hi))))
    (λ (le : u ≤ v). let e : u ≡ v = omega (arith, lo, le) in rw e (first_in (Wake v) (wakes n (v + 1))))
    (cases_lt v u)

module _ {S M : Type 0} (r : Rules S M) (n : NetState) (wake : WakeSet) (first : n.trace ≡ []) where
  -- no message waits anywhere
  empty : (v p : ℕ) → (net_of r n).queue v p ≡ []
  empty v p =
      ap (λ (w : Net S M). w.queue v p)
      (subst (λ (es : List Event). net_after r n.graph es ≡ opening r (network n)) (sym first)
      (net_after_is r n.graph [] (opening r (network n)) refl))

  no_message : (b : Bool) → (b && false) ≡ false
  no_message true = refl
  no_message false = refl

  -- so no Take is lawful
  pub none_but_wakes : (x : IndexState) → IsIndexOf (network n) (λ _. false) x →
      IsIndexBut (network n) (lawful_in r n wake) (wakes_from n.graph.nodes 1) x
  none_but_wakes x of = but_of (network n) (λ _. false) (lawful_in r n wake) (wakes_from n.graph.nodes 1) x of not_lawful
    where
      not_lawful : (e : Event) → HasPlace (network n) e → (Contains (wakes_from n.graph.nodes 1) e → ⊥) → lawful_in r n wake e ≡ false
      not_lawful (Wake u) has none = absurd (none (wake_among (n.graph.nodes + 1 - 1) 1 u has.0 (let le = has.1 in omega (arith, le))))
      not_lawful (Take u q) has none =
          ap (λ (l : List M). is_port (network n) u q && nat_lt 0 (length l)) (empty u q) ∙ no_message (is_port (network n) u q)
