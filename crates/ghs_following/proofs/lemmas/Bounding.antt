-- How great the numbers are.
use Rattle.std.proofs.Common.{◌≡◌, ℕ, suc, ◌+◌, ◌≤◌, Option, Some, None, List, [], ◌∷◌, length, refl, sym, ◌∙◌, ap, subst, arith}
use Rattle.std.proofs.lemmas.List.{length-map}
use Rattle.std.proofs.lemmas.Option.{same_Some}
use Rattle.ghs_node.specs.declared.delta.Delta.{Delta}
use Rattle.ghs_node.specs.declared.message.Message.{Message}
use Rattle.ghs_node.specs.Reaction.{reaction}
use Rattle.ghs_node.specs.Words.{is_sleeping}
use Rattle.peer_network.specs.declared.event.Event.{Event}
use Rattle.peer_network.specs.declared.event.Event.TheVariants.{Wake, Take}
use Rattle.ghs_protocol.specs.Ledger.{in_all, of_kind}
use Rattle.ghs_protocol.specs.Net.{Net, happens, opening, take_first}
use Rattle.peer_network.specs.Events.{event_node}
use Rattle.peer_network.specs.Network.{Network, network_of}
use Rattle.ghs_protocol.specs.Steps as steps
use Rattle.ghs_protocol.specs.Run.{and_then, run}
use Rattle.ghs_protocol.specs.Steps.{Happens, Woke, Took}
use Rattle.ghs_protocol.proofs.lemmas.Balance.{kinds_in_all}
use Rattle.ghs_protocol.proofs.lemmas.Events.{happening}
use Rattle.ghs_protocol.proofs.lemmas.Sends.{messages, sent_now}
use Rattle.peer_network.proofs.lemmas.Sums.{sum_add, sum_same}
use Rattle.ghs_core.specs.NetState.{delivery, work_at}
use Rattle.ghs_protocol.proofs.lemmas.Laws.{sends_within as bounded_sends}
use Rattle.peer_chains.specs.Chains.{Chains, no_chains}
use Rattle.peer_chains.proofs.lemmas.Bounding.{IsWithin, hears_within, more_within, most_within, none_within, sends_within, sent_within}
use Rattle.ghs_following.specs.Chains.{answered, chains_after, chains_of, chains_then, if_then, is_deferred, reacted}
use Rattle.ghs_following.specs.Laws.{ChainsAreSent, ChainsAreWithinBound}

-- by events
then_within : (g : Network) (w : Net) (e : Event) (n : ℕ) (c : Chains) → IsWithin n n c → IsWithin (n + 1) (n + 1) (chains_then g w e c)
then_within g w e n c i = go (reaction (w.node (event_node e)) (work_at w e))
  where
    go : (o : Option Delta) → IsWithin (n + 1) (n + 1) (answered g w e o c)
    go None = more_within n n _ _ c (omega arith) (omega arith) i
    go (Some d) =
        let a = hears_within e n (is_sleeping (w.node (event_node e)).head.phase) (is_deferred d.fate) c i in
        more_within n (suc n) _ _ _ (omega arith) (omega arith)
        (sent_within g (event_node e) n d.sends _ (more_within n n n (suc n) _ (omega arith) (omega arith) a))

pub after_within : (g : Network) (es : List Event) (w : Net) (n : ℕ) (c : Chains) → IsWithin n n c →
    IsWithin (n + length es) (n + length es) (chains_after g es w c)
after_within g [] w n c i = more_within n n _ _ c (omega arith) (omega arith) i
after_within g (e ∷ es) w n c i = go (λ x. after_within g es x (n + 1) (chains_then g w e c) (then_within g w e n c i)) (happens g w e)
  where
    go :
        ((x : Net) → IsWithin (n + 1 + length es) (n + 1 + length es) (chains_after g es x (chains_then g w e c))) → (o : Option Net) →
        IsWithin (n + length (e ∷ es)) (n + length (e ∷ es)) (if_then o (λ x. chains_after g es x (chains_then g w e c)) c)
    go rest None = more_within n n _ _ c (omega arith) (omega arith) i
    go rest (Some x) = more_within (n + 1 + length es) (n + 1 + length es) _ _ _ (omega arith) (omega arith) (rest x)

-- no number of a run is greater than it has events
pub run_within : (g : Network) (es : List Event) → IsWithin (length es) (length es) (chains_of g es)
unfolding chains_of
run_within g es =
    more_within (0 + length es) (0 + length es) _ _ _ (omega arith) (omega arith) (after_within g es (opening g) 0 no_chains (none_within 0))

-- what an event sends is counted
sends_counted : (g : Network) (v : ℕ) (d : Delta) (w : Net) → in_all (steps.reacted g v d w).sent ≡ in_all w.sent + length d.sends
sends_counted g v d w =
    let each : in_all (steps.reacted g v d w).sent ≡ in_all (λ k. w.sent k + of_kind k (messages d.sends)) =
    sum_same 7 _ _ (λ k lt. sent_now g v d w k) in
    let both = sum_add 7 w.sent (λ k. of_kind k (messages d.sends)) in
    let all = kinds_in_all (messages d.sends) in
    let count : length (messages d.sends) ≡ length d.sends = length-map d.sends _ in
    omega (arith, each, both, all, count)

happens_within : (g : Network) (w x : Net) (e : Event) (c : Chains) → Happens g w e x → IsWithin (in_all w.sent) (in_all w.sent) c →
    IsWithin (in_all x.sent) (in_all x.sent) (chains_then g w e c)
happens_within g w _ _ c (Woke v d lo hi s r) i =
    let n = in_all w.sent in
    let count = sends_counted g v d w in
    let out : IsWithin (n + length d.sends) (n + length d.sends) (reacted g w (Wake v) d c) = sends_within g v n d.sends c i in
    let same : chains_then g w (Wake v) c ≡ reacted g w (Wake v) d c = ap (λ (o : Option Delta). answered g w (Wake v) o c) r in
    subst (λ (z : Chains). IsWithin (in_all (steps.reacted g v d w).sent) (in_all (steps.reacted g v d w).sent) z) (sym same)
    (more_within (n + length d.sends) (n + length d.sends) _ _ _ (omega (arith, count)) (omega (arith, count)) out)
happens_within g w _ _ c (Took v p m ms d at q r) i =
    let n = in_all w.sent in
    let w1 = take_first d.fate v p m ms w in
    let count = sends_counted g v d w1 in
    let b = is_sleeping (w.node v).head.phase in
    let out : IsWithin (n + length d.sends) (n + length d.sends) (reacted g w (Take v p) d c) =
    sends_within g v n d.sends _ (hears_within (Take v p) n b (is_deferred d.fate) c i) in
    let rule : reaction (w.node v) (work_at w (Take v p)) ≡ Some d = ap (λ (l : List Message). reaction (w.node v) (delivery p l)) q ∙ r in
    let same : chains_then g w (Take v p) c ≡ reacted g w (Take v p) d c = ap (λ (o : Option Delta). answered g w (Take v p) o c) rule in
    subst (λ (z : Chains). IsWithin (in_all (steps.reacted g v d w1).sent) (in_all (steps.reacted g v d w1).sent) z) (sym same)
    (more_within (n + length d.sends) (n + length d.sends) _ _ _ (omega (arith, count)) (omega (arith, count)) out)

sent_after : (g : Network) (es : List Event) (w x : Net) (c : Chains) → IsWithin (in_all w.sent) (in_all w.sent) c → run g es w ≡ Some x →
    IsWithin (in_all x.sent) (in_all x.sent) (chains_after g es w c)
sent_after g [] w x c i r = let same : w ≡ x = same_Some w x r in subst (λ (z : Net). IsWithin (in_all z.sent) (in_all z.sent) c) same i
sent_after g (e ∷ es) w x c i r =
    go (λ y h. sent_after g es y x (chains_then g w e c) (happens_within g w y e c (happening g w y e h) i)) (happens g w e) refl r
  where
    go :
        ((y : Net) → happens g w e ≡ Some y → run g es y ≡ Some x →
        IsWithin (in_all x.sent) (in_all x.sent) (chains_after g es y (chains_then g w e c))) →
        (o : Option Net) → happens g w e ≡ o → and_then o (λ y. run g es y) ≡ Some x →
        IsWithin (in_all x.sent) (in_all x.sent) (if_then o (λ y. chains_after g es y (chains_then g w e c)) c)
    go rest None h k = cc
    go rest (Some y) h k = rest y h k

pub chains_are_sent : ChainsAreSent
unfolding chains_of
chains_are_sent g es w a =
    most_within (suc g.count) (in_all w.sent) _ (sent_after g es (opening g) w no_chains (none_within (in_all (opening g).sent)) a).node

pub chains_within_bound : ChainsAreWithinBound
chains_within_bound g b es w graph is a =
    let chain = chains_are_sent (network_of g) es w a in
    let bound : in_all w.sent ≤ b = bounded_sends g w (record { graph = graph; events = es; run = a }) b is in
    omega (arith, chain, bound)
