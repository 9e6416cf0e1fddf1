-- Runs done again: the first event that isn't lawful, and that a run has none.
use Rattle.std.proofs.Common.{◌≡◌, ◌+◌, ◌-◌, ◌<◌, ◌∙◌, ℕ, zero, suc, Bool, true, false, ◌&&◌, not, List, [], ◌∷◌, ◌++◌, length, take, drop, get_or, Some, slice_get, sym, ap, subst, arith, length-take-le}
use Rattle.std.proofs.Math.Seq.{split_at}
use Rattle.std.proofs.lemmas.Bool.{false≢true}
use Rattle.std.proofs.lemmas.Option.{same_Some, slice_get-get_or}
use Rattle.ghs_graph.specs.Graph.{Shape}
use Rattle.peer_network.specs.declared.event.Event.{Event}
use Rattle.peer_network.specs.Network.{Network, network_of}
use Rattle.ghs_protocol.specs.Net.{Net, effect, happens, is_lawful, is_lawful_under, opening}
use Rattle.ghs_protocol.specs.Run.{IsRunUnder, net_after, run}
use Rattle.peer_network.specs.Events.{MayWake}
use Rattle.peer_network.proofs.lemmas.Events.{if_some}
use Rattle.ghs_protocol.proofs.lemmas.Runs.{both_some, lawful_under, net_after_is, run_splits}
use Rattle.ghs_core.specs.NetState.{event_node, network}
use Rattle.peer_network.specs.declared.wake_set.WakeSet.{WakeSet}
use Rattle.ghs_world.specs.Outs.{is_out}
use Rattle.ghs_world.specs.Ready.{is_ready}
use Rattle.peer_network.specs.Wakes.{may_wake}
use Rattle.ghs_world.specs.WorldState.{WorldState, may_happen, wakers}
use Rattle.ghs_sched.specs.Replays.{HasReplayed, IsFirstUnlawful}

-- the first event that isn't ready is the first that isn't lawful
pub first_unlawful : (g : Shape) (wake : WakeSet) (es : List Event) (i k : ℕ) (s : WorldState) (d : Event) →
    HasReplayed g wake (take i es) s →
    i < length es →
    is_ready s (get_or es i d) ≡ false →
    IsRunUnder (wakers s) (network s.net) s.net.trace →
    k ≡ length s.net.trace →
    IsFirstUnlawful g wake es (k + 1)
first_unlawful g wake es i k s d done lt refused is_run same =
    let many : length (take i es) ≡ i = length-take-le i es (omega arith) in
    let is : k ≡ i = same ∙ ap length done.trace ∙ many in
    let back : i + 1 - 1 ≡ i = omega arith in
    let none : is_out s.outs (event_node (get_or es i d)) ≡ false = ap (λ os. is_out os (event_node (get_or es i d))) done.outs in
    let unlawful : may_happen s (get_or es i d) ≡ false = sym (ap (λ b. not b && may_happen s (get_or es i d)) none) ∙ refused in
    rw is (record {
      counted = omega arith;
      event = get_or es i d;
      here = rw back (slice_get-get_or es i d lt);
      before = rw (back, ← done.trace, ← done.wake_set, ← done.graph) is_run;
      unlawful = rw (back, ← done.trace, ← done.wake_set, ← done.graph) unlawful;
    })

-- what happens is lawful
lawful_if : (g : Network) (w x : Net) (e : Event) → happens g w e ≡ Some x → is_lawful g w e ≡ true
lawful_if g w x e h = if_some (is_lawful g w e) (effect g w e) x h (λ lawful _. lawful)

-- each event of a run is lawful where it stands
lawful_at : (g : Shape) (may : ℕ → Bool) (es : List Event) (j : ℕ) (d : Event) → IsRunUnder may (network_of g) es → j < length es →
    is_lawful_under may (network_of g) (net_after g (take j es)) (get_or es j d) ≡ true
lawful_at g may es j d is_run lt =
    let n = network_of g in
    let e = get_or es j d in
    let cut : es ≡ take j es ++ e ∷ drop (suc j) es = split_at es j d lt in
    let whole : run n (take j es ++ e ∷ drop (suc j) es) (opening n) ≡ Some is_run.0.0 =
    subst (λ fs. run n fs (opening n) ≡ Some is_run.0.0) cut is_run.0.1 in
    let may_e : MayWake may e = is_run.1 j d lt in
    run_splits n (take j es) (e ∷ drop (suc j) es) (opening n) is_run.0.0 whole (λ x front rest.
    both_some (happens n x e) (λ y. run n (drop (suc j) es) y) is_run.0.0 rest (λ y here _.
    subst (λ w. is_lawful_under may n w e ≡ true) (sym (net_after_is g (take j es) x front))
    ((lawful_under may n x e).1 (may_e, lawful_if n x y e here))))

slice_get-some : (es : List Event) (j : ℕ) (e : Event) → slice_get es j ≡ Some e → (j < length es) × (get_or es j e ≡ e)
slice_get-some [] j e h = cc
slice_get-some (x ∷ es) zero e h = (omega arith, same_Some x e h)
slice_get-some (x ∷ es) (suc j) e h = let rest = slice_get-some es j e h in (omega (arith, rest.0), rest.1)

-- so a run has none that isn't
pub never_unlawful : (g : Shape) (wake : WakeSet) (es : List Event) (k : ℕ) → IsRunUnder (may_wake g wake) (network_of g) es →
    IsFirstUnlawful g wake es k → ⊥
never_unlawful g wake es k is_run first =
    let at = slice_get-some es (k - 1) first.event first.here in
    let lawful = lawful_at g (may_wake g wake) es (k - 1) first.event is_run at.0 in
    false≢true (sym first.unlawful
    ∙ subst (λ e. is_lawful_under (may_wake g wake) (network_of g) (net_after g (take (k - 1) es)) e ≡ true) at.1 lawful)
