-- The numbers of one event more, and how many they are.
use Rattle.std.proofs.Common.{◌≡◌, ℕ, ◌+◌, ◌^◌, ◌<◌, Option, Some, None, List, [], ◌∷◌, ◌++◌, length, refl, sym, ◌∙◌, ap, arith}
use Rattle.std.specs.Prelude.{option_and_then}
use Rattle.std.proofs.lemmas.Option.{same_Some}
use Rattle.ghs_graph.specs.Graph.{Shape, IsGraph}
use Rattle.peer_network.specs.declared.event.Event.{Event}
use Rattle.peer_network.specs.declared.event.Event.TheVariants as events
use Rattle.peer_network.specs.Network.{Network}
use Rattle.peer_network.proofs.lemmas.Sums.{sum_none}
use Rattle.peer_machine.specs.Rules.{Rules, Outcome, Outgoing, HasKinds}
use Rattle.peer_machine.specs.Net.{Net, event_node, happens, opening, take_first}
use Rattle.peer_machine.specs.Ledger.{in_all}
use Rattle.peer_machine.specs.Protocol.{FitsGraphs, IsBoundedBy}
use Rattle.peer_machine.specs.Run.{IsRun, run}
use Rattle.peer_machine.specs.Steps.{Happens, Took, Woke}
use Rattle.peer_machine.proofs.lemmas.Counts.{sent_in_all}
use Rattle.peer_machine.proofs.lemmas.Events.{happening}
use Rattle.peer_machine.proofs.lemmas.Runs.{after_is_net}
use Rattle.peer_net.specs.NetState.{NetState, delivery, net_of, network, work_at}
use Rattle.peer_picking.specs.Newest.{Newest, answered, if_then, newest_after, newest_of, newest_then, none_sent, sent, sent_on}

-- as many were sent as are numbered
pub sent_count : {M : Type 0} (g : Network) (v : ℕ) (ss : Outgoing M) (n : Newest) → (sent g v ss n).count ≡ n.count + length ss
sent_count g v [] n = omega arith
sent_count g v (s ∷ ss) n = let rest = sent_count g v ss (sent_on g v s.0 n) in omega (arith, rest)

module _ {S M : Type 0} (r : Rules S M) where
  -- one event more, at the end
  newest_more : (g : Network) (es : List Event) (e : Event) (w x y : Net S M) (n : Newest) → run r g es w ≡ Some x → happens r g x e ≡ Some y →
      newest_after r g (es ++ e ∷ []) w n ≡ newest_then r g x e (newest_after r g es w n)
  newest_more g [] e w x y n h k =
      let same : w ≡ x = same_Some w x h in
      let here : happens r g w e ≡ Some y = ap (λ (z : Net S M). happens r g z e) same ∙ k in
      ap (λ (o : Option (Net S M)). if_then o (λ z. newest_then r g w e n) n) here ∙ ap (λ (z : Net S M). newest_then r g z e n) same
  newest_more g (f ∷ es) e w x y n h k = go (λ z l. newest_more g es e z x y (newest_then r g w f n) l k) (happens r g w f) h
    where
      go :
          ((z : Net S M) → run r g es z ≡ Some x → newest_after r g (es ++ e ∷ []) z (newest_then r g w f n) ≡
          newest_then r g x e (newest_after r g es z (newest_then r g w f n))) →
          (o : Option (Net S M)) → option_and_then (λ z. run r g es z) o ≡ Some x →
          if_then o (λ z. newest_after r g (es ++ e ∷ []) z (newest_then r g w f n)) n ≡
          newest_then r g x e (if_then o (λ z. newest_after r g es z (newest_then r g w f n)) n)
      go rest None l = cc
      go rest (Some z) l = rest z l

  -- what its node sends is numbered
  pub newest_of_more : (s : NetState) (e : Event) (o : Outcome S M) (y : Net S M) → IsRun r (network s) s.trace →
      happens r (network s) (net_of r s) e ≡ Some y → r.reaction ((net_of r s).node (event_node e)) (work_at (net_of r s) e) ≡ Some o →
      newest_of r (network s) (s.trace ++ e ∷ []) ≡ sent (network s) (event_node e) o.sends (newest_of r (network s) s.trace)
  unfolding newest_of
  newest_of_more s e o y k h a =
      let g = network s in
      newest_more g s.trace e (opening r g) (net_of r s) y none_sent (after_is_net r s.graph s.trace k) h
      ∙ ap (λ (z : Option (Outcome S M)). answered g e z (newest_after r g s.trace (opening r g) none_sent)) a

  -- of no event
  pub none_yet : (g : Network) → newest_of r g [] ≡ none_sent
  unfolding newest_of
  none_yet g = refl

  module _ (kinds : HasKinds r) (g : Network) where
    happens_counted : (w x : Net S M) (e : Event) (n : Newest) → Happens r g w e x → n.count ≡ in_all r w.sent →
        (newest_then r g w e n).count ≡ in_all r x.sent
    happens_counted w _ _ n (Woke v o lo hi s k t) i =
        let count = sent_in_all r g kinds v o w in
        let out = sent_count g v o.sends n in
        ap (λ (z : Option (Outcome S M)). (answered g (events.Wake v) z n).count) k ∙ out ∙ ap (λ (m : ℕ). m + length o.sends) i ∙ sym count
    happens_counted w _ _ n (Took v p m ms o at q k t) i =
        let count = sent_in_all r g kinds v o (take_first r g v p m ms w) in
        let out = sent_count g v o.sends n in
        let rule : r.reaction (w.node v) (work_at w (events.Take v p)) ≡ Some o =
        ap (λ (l : List M). r.reaction (w.node v) (delivery p l)) q ∙ k in
        ap (λ (z : Option (Outcome S M)). (answered g (events.Take v p) z n).count) rule ∙ out ∙ ap (λ (m : ℕ). m + length o.sends) i ∙ sym count

    after_counted : (es : List Event) (w x : Net S M) (n : Newest) → n.count ≡ in_all r w.sent → run r g es w ≡ Some x →
        (newest_after r g es w n).count ≡ in_all r x.sent
    after_counted [] w x n i k = i ∙ ap (λ (z : Net S M). in_all r z.sent) (same_Some w x k)
    after_counted (e ∷ es) w x n i k =
        go (λ y h. after_counted es y x (newest_then r g w e n) (happens_counted w y e n (happening r g w y e h) i)) (happens r g w e) refl k
      where
        go :
            ((y : Net S M) → happens r g w e ≡ Some y → run r g es y ≡ Some x →
            (newest_after r g es y (newest_then r g w e n)).count ≡ in_all r x.sent) →
            (o : Option (Net S M)) → happens r g w e ≡ o → option_and_then (λ y. run r g es y) o ≡ Some x →
            (if_then o (λ y. newest_after r g es y (newest_then r g w e n)) n).count ≡ in_all r x.sent
        go rest None h j = cc
        go rest (Some y) h j = rest y h j

  none_counted : (g : Network) → none_sent.count ≡ in_all r (opening r g).sent
  none_counted g = sym (sum_none r.kinds (λ k. 0) (λ k lt. refl))

  -- the number of a run's last message is within the bound
  pub count_few : (s : NetState) (bound : Shape → ℕ) → HasKinds r → IsBoundedBy r bound → FitsGraphs bound → IsGraph s.graph →
      IsRun r (network s) s.trace → (newest_of r (network s) s.trace).count < 2 ^ 64
  unfolding newest_of
  count_few s bound kinds bounded fits graph k =
      let after = after_is_net r s.graph s.trace k in
      let is = after_counted kinds (network s) s.trace (opening r (network s)) (net_of r s) none_sent (none_counted (network s)) after in
      let most = bounded s.graph (net_of r s) (record { graph = graph; events = s.trace; run = after }) in
      let few = fits s.graph graph in
      omega (arith, is, most, few)
