-- The numbers of one event more, and how many they are.
use Rattle.std.proofs.Common.{◌≡◌, ℕ, ◌+◌, ◌^◌, ◌-◌, ◌<◌, ◌≤◌, Option, Some, None, List, [], ◌∷◌, ◌++◌, length, refl, sym, ◌∙◌, ap, arith}
use Rattle.std.proofs.lemmas.List.{length-map}
use Rattle.std.proofs.lemmas.Option.{same_Some}
use Rattle.ghs_graph.specs.Graph.{IsGraph}
use Rattle.ghs_node.specs.declared.delta.Delta.{Delta}
use Rattle.ghs_node.specs.declared.message.Message.{Message}
use Rattle.ghs_node.specs.Reaction.{reaction}
use Rattle.peer_network.specs.declared.event.Event.{Event}
use Rattle.peer_network.specs.declared.event.Event.TheVariants.{Wake, Take}
use Rattle.ghs_protocol.specs.Laws.{SendsAreBounded}
use Rattle.ghs_protocol.specs.Ledger.{in_all, of_kind}
use Rattle.ghs_protocol.specs.Net.{Net, happens, opening, take_first}
use Rattle.peer_network.specs.Events.{event_node}
use Rattle.peer_network.specs.Network.{Network}
use Rattle.ghs_protocol.specs.Run.{IsRun, and_then, run}
use Rattle.ghs_protocol.specs.Steps.{Happens, Took, Woke, reacted}
use Rattle.ghs_protocol.proofs.lemmas.Balance.{kinds_in_all}
use Rattle.ghs_protocol.proofs.lemmas.Events.{happening}
use Rattle.ghs_protocol.proofs.lemmas.Runs.{after_is_net}
use Rattle.ghs_protocol.proofs.lemmas.Sends.{messages, sent_now}
use Rattle.peer_network.proofs.lemmas.Sums.{sum_add, sum_same}
use Rattle.ghs_core.specs.NetState.{IsAnswer, NetState, delivery, net_of, network, work_at}
use Rattle.ghs_orders.specs.Newest.{Newest, answered, if_then, newest_after, newest_of, newest_then, none_sent, sent}
use Rattle.ghs_orders.proofs.Numbering.{sent_count}

-- one event more, at the end
newest_more : (g : Network) (es : List Event) (e : Event) (w x y : Net) (n : Newest) → run g es w ≡ Some x → happens g x e ≡ Some y →
    newest_after g (es ++ e ∷ []) w n ≡ newest_then g x e (newest_after g es w n)
newest_more g [] e w x y n h k =
    let same : w ≡ x = same_Some w x h in
    let here : happens g w e ≡ Some y = ap (λ (z : Net). happens g z e) same ∙ k in
    ap (λ (o : Option Net). if_then o (λ z. newest_then g w e n) n) here ∙ ap (λ (z : Net). newest_then g z e n) same
newest_more g (f ∷ es) e w x y n h k = go (λ z l. newest_more g es e z x y (newest_then g w f n) l k) (happens g w f) h
  where
    go :
        ((z : Net) → run g es z ≡ Some x → newest_after g (es ++ e ∷ []) z (newest_then g w f n) ≡
        newest_then g x e (newest_after g es z (newest_then g w f n))) →
        (o : Option Net) → and_then o (λ z. run g es z) ≡ Some x →
        if_then o (λ z. newest_after g (es ++ e ∷ []) z (newest_then g w f n)) n ≡
        newest_then g x e (if_then o (λ z. newest_after g es z (newest_then g w f n)) n)
    go rest None l = cc
    go rest (Some z) l = rest z l

-- the numbers of a run with an event more
pub newest_of_more : (s : NetState) (e : Event) (d : Delta) (y : Net) → IsRun (network s) s.trace → happens (network s) (net_of s) e ≡ Some y →
    IsAnswer s e d →
    newest_of (network s) (s.trace ++ e ∷ []) ≡ sent (network s) (event_node e) d.sends (newest_of (network s) s.trace)
unfolding newest_of
newest_of_more s e d y r h a =
    let g = network s in
    newest_more g s.trace e (opening g) (net_of s) y none_sent (after_is_net s.graph s.trace r) h
    ∙ ap (λ (o : Option Delta). answered g e o (newest_after g s.trace (opening g) none_sent)) a

-- of no event
pub none_yet : (g : Network) → newest_of g [] ≡ none_sent
unfolding newest_of
none_yet g = refl

-- what an event sends is counted
sends_counted : (g : Network) (v : ℕ) (d : Delta) (w : Net) → in_all (reacted g v d w).sent ≡ in_all w.sent + length d.sends
sends_counted g v d w =
    let each : in_all (reacted g v d w).sent ≡ in_all (λ k. w.sent k + of_kind k (messages d.sends)) = sum_same 7 _ _ (λ k lt. sent_now g v d w k) in
    let both = sum_add 7 w.sent (λ k. of_kind k (messages d.sends)) in
    let all = kinds_in_all (messages d.sends) in
    let count : length (messages d.sends) ≡ length d.sends = length-map d.sends _ in
    omega (arith, each, both, all, count)

happens_counted : (g : Network) (w x : Net) (e : Event) (n : Newest) → Happens g w e x → n.count ≡ in_all w.sent →
    (newest_then g w e n).count ≡ in_all x.sent
happens_counted g w _ _ n (Woke v d lo hi s r) i =
    let count = sends_counted g v d w in
    let out = sent_count g v d.sends n in
    ap (λ (o : Option Delta). (answered g (Wake v) o n).count) r ∙ out ∙ ap (λ (m : ℕ). m + length d.sends) i ∙ sym count
happens_counted g w _ _ n (Took v p m ms d at q r) i =
    let count = sends_counted g v d (take_first d.fate v p m ms w) in
    let out = sent_count g v d.sends n in
    let rule : reaction (w.node v) (work_at w (Take v p)) ≡ Some d = ap (λ (l : List Message). reaction (w.node v) (delivery p l)) q ∙ r in
    ap (λ (o : Option Delta). (answered g (Take v p) o n).count) rule ∙ out ∙ ap (λ (m : ℕ). m + length d.sends) i ∙ sym count

after_counted : (g : Network) (es : List Event) (w x : Net) (n : Newest) → n.count ≡ in_all w.sent → run g es w ≡ Some x →
    (newest_after g es w n).count ≡ in_all x.sent
after_counted g [] w x n i r = i ∙ ap (λ (z : Net). in_all z.sent) (same_Some w x r)
after_counted g (e ∷ es) w x n i r =
    go (λ y h. after_counted g es y x (newest_then g w e n) (happens_counted g w y e n (happening g w y e h) i)) (happens g w e) refl r
  where
    go :
        ((y : Net) → happens g w e ≡ Some y → run g es y ≡ Some x → (newest_after g es y (newest_then g w e n)).count ≡ in_all x.sent) →
        (o : Option Net) → happens g w e ≡ o → and_then o (λ y. run g es y) ≡ Some x →
        (if_then o (λ y. newest_after g es y (newest_then g w e n)) n).count ≡ in_all x.sent
    go rest None h k = cc
    go rest (Some y) h k = rest y h k

-- the number of a run's last message is how many were sent
count_is_sent : (s : NetState) → IsRun (network s) s.trace → (newest_of (network s) s.trace).count ≡ in_all (net_of s).sent
unfolding newest_of
count_is_sent s r = after_counted (network s) s.trace (opening (network s)) (net_of s) none_sent refl (after_is_net s.graph s.trace r)

-- which is far below the end of its range
pub count_few : (s : NetState) → SendsAreBounded → IsGraph s.graph → IsRun (network s) s.trace → length s.trace ≤ 2 ^ 40 →
    (newest_of (network s) s.trace).count < 2 ^ 64 - 1
count_few s law graph r few =
    let most = law s.graph graph s.trace (net_of s) (after_is_net s.graph s.trace r) in
    let is = count_is_sent s r in
    omega (arith, most, is, few)
