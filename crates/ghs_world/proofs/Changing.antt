-- The index of what may happen, over one event and at the opening.
use Rattle.std.proofs.Common.{◌≡◌, ℕ, zero, suc, ◌+◌, ◌<◌, ◌≤◌, Bool, true, false, ◌&&◌, List, [], ◌∷◌, Some, refl, sym, ◌∙◌, ap, subst, ⊎_elim, arith}
use Rattle.std.specs.List.{Contains}
use Rattle.std.proofs.lemmas.Bool.{cases_lt}
use Rattle.ghs_graph.specs.Graph.{Shape}
use Rattle.ghs_graph.proofs.lemmas.Members.{first_in, later_in}
use Rattle.ghs_node.specs.declared.delta.Delta.{Delta}
use Rattle.peer_network.specs.declared.event.Event.{Event}
use Rattle.peer_network.specs.declared.event.Event.TheVariants.{Wake, Take}
use Rattle.peer_network.specs.Network.{network_of, is_port}
use Rattle.ghs_protocol.specs.Net.{Net, is_lawful_under, happens, opening}
use Rattle.peer_network.proofs.lemmas.Events.{is_node_of}
use Rattle.ghs_core.specs.NetState.{NetState, network, net_of, IsAnswer, IsSameNet}
use Rattle.peer_index.specs.Places.{HasPlace}
use Rattle.peer_index.specs.Index.{IndexState, IsIndexOf, IsIndexBut}
use Rattle.peer_index.proofs.lemmas.Marks.{but_of}
use Rattle.peer_network.specs.declared.wake_set.WakeSet.{WakeSet}
use Rattle.peer_network.specs.Wakes.{may_wake}
use Rattle.ghs_world.specs.Upkeep.{lawful_in, lawful_first, changed}
use Rattle.ghs_world.specs.WorldState.{WorldState, IsWorld}
use Rattle.ghs_world.proofs.Keeping.{world_same}
use Rattle.ghs_world.proofs.lemmas.Leaving.{leaves, same_else}

-- the index of the net before an event is that of the net after it, but for what has changed
but_after : (old : NetState) (g : Shape) (w : Net) (wake : WakeSet) (e : Event) (d : Delta) (x : IndexState) →
    IsIndexOf (network old) (lawful_in old wake) x → old.graph ≡ g → happens (network old) (net_of old) e ≡ Some w → IsAnswer old e d →
    IsIndexBut (network_of g) (is_lawful_under (may_wake g wake) (network_of g) w) (changed (network_of g) e d.sends) x
but_after old g w wake e d x of same event answer = subst
    (λ (h : Shape). IsIndexBut (network_of h) (is_lawful_under (may_wake h wake) (network_of h) w) (changed (network_of h) e d.sends) x) same
    (but_of (network old) (lawful_in old wake) (is_lawful_under (may_wake old.graph wake) (network old) w) (changed (network old) e d.sends) x of
    (λ f has none. same_else (network old) (may_wake old.graph wake) (net_of old) w e d f
    (leaves (network old) (net_of old) w e d event answer) none))

pub index_but : (old new : NetState) (wake : WakeSet) (e : Event) (d : Delta) (x : IndexState) → IsIndexOf (network old) (lawful_in old wake) x →
    new.graph ≡ old.graph → happens (network old) (net_of old) e ≡ Some (net_of new) → IsAnswer old e d →
    IsIndexBut (network new) (lawful_in new wake) (changed (network new) e d.sends) x
index_but old new wake e d x of graph event answer = but_after old new.graph (net_of new) wake e d x of (sym graph) event answer

-- the wakes of n nodes, from node v on
abbrev pub wakes : ℕ → ℕ → List Event
wakes v zero = []
wakes v (suc n) = Wake v ∷ wakes (v + 1) n

wake_among : (v n u : ℕ) → v ≤ u → u < v + n → Contains (wakes v n) (Wake u)
wake_among v zero u lo hi = absurd (omega arith)
wake_among v (suc n) u lo hi = ⊎_elim
    (λ (lt : v < u). later_in (Wake v) (Wake u) (wakes (v + 1) n) (wake_among (v + 1) n u (omega arith) (omega arith)))
    (λ (le : u ≤ v). let e : u ≡ v = omega arith in rw e (first_in (Wake v) (wakes (v + 1) n)))
    (cases_lt v u)

-- at the opening no Take is lawful
pub none_but_wakes : (g : Shape) (wake : WakeSet) (x : IndexState) → IsIndexOf (network_of g) (λ _. false) x →
    IsIndexBut (network_of g) (lawful_first g wake) (wakes 1 g.nodes) x
none_but_wakes g wake x of = but_of (network_of g) (λ _. false) (lawful_first g wake) (wakes 1 g.nodes) x of not_lawful
  where
    no_message : (b : Bool) → (b && false) ≡ false
    no_message true = refl
    no_message false = refl

    not_lawful : (e : Event) → HasPlace (network_of g) e → (Contains (wakes 1 g.nodes) e → ⊥) → lawful_first g wake e ≡ false
    not_lawful (Wake u) has none = absurd (none (wake_among 1 g.nodes u has.0 (let le = has.1 in omega arith)))
    not_lawful (Take u q) has none = no_message (is_port (network_of g) u q)

pub first_wake : (g : Shape) (wake : WakeSet) (v : ℕ) → 1 ≤ v → v ≤ g.nodes → lawful_first g wake (Wake v) ≡ may_wake g wake v
first_wake g wake v lo hi = rw (is_node_of (network_of g) v lo hi) (both (may_wake g wake v))
  where
    both : (b : Bool) → (b && (true && true)) ≡ b
    both true = refl
    both false = refl

pub one_wake_less : (v n m : ℕ) → n ≡ suc m → wakes v n ≡ Wake v ∷ wakes (v + 1) m
one_wake_less v n m e = rw e refl

-- the index of the opening net
pub index_first : (n : NetState) (g : Shape) (wake : WakeSet) (x : IndexState) → n.graph ≡ g → net_of n ≡ opening (network_of g) →
    IsIndexOf (network_of g) (lawful_first g wake) x → IsIndexOf (network n) (lawful_in n wake) x
index_first n g wake x same net of =
    let here : net_of n ≡ opening (network_of n.graph) = net ∙ ap (λ (h : Shape). opening (network_of h)) (sym same) in
    subst (λ (w : Net). IsIndexOf (network n) (is_lawful_under (may_wake n.graph wake) (network n) w) x) (sym here)
    (subst (λ (h : Shape). IsIndexOf (network_of h) (lawful_first h wake) x) (sym same) of)

-- the same net has the same index
index_same : (old new : NetState) (wake : WakeSet) (x : IndexState) → IsIndexOf (network old) (lawful_in old wake) x → IsSameNet old new →
    IsIndexOf (network new) (lawful_in new wake) x
index_same old new wake x of same = rw (same.graph, same.trace) of

-- a world with the same net is as whole as before
pub whole_still : (s : WorldState) (nodes : ℕ) (x : IndexState) (new : NetState)
    → IsWorld s × (nodes ≡ s.net.graph.nodes) × IsIndexOf (network s.net) (lawful_in s.net s.wake) x → IsSameNet s.net new
    → IsWorld (record s { net = new }) × (nodes ≡ new.graph.nodes) × IsIndexOf (network new) (lawful_in new s.wake) x
whole_still s nodes x new whole same = (
  world_same s new whole.0 same,
  whole.1 ∙ ap (λ (g : Shape). g.nodes) (sym same.graph),
  index_same s.net new s.wake x whole.2 same,
)
