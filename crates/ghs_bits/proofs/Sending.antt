-- What the events of a run send.
use Rattle.std.proofs.Common.{◌≡◌, ℕ, true, ◌+◌, Option, Some, None, List, [], ◌∷◌, ◌++◌, length, refl, sym, ◌∙◌, ap, append_assoc, append-nil, arith}
use Rattle.std.proofs.lemmas.Bool.{and_parts}
use Rattle.std.proofs.lemmas.Option.{same_Some}
use Rattle.ghs_node.specs.declared.delta.Delta.{Delta}
use Rattle.ghs_node.specs.declared.message.Message.{Message}
use Rattle.ghs_node.specs.Reaction.{reaction}
use Rattle.peer_network.specs.declared.event.Event.{Event}
use Rattle.peer_network.specs.declared.event.Event.TheVariants.{Wake, Take}
use Rattle.ghs_protocol.specs.Ledger.{in_all, of_kind}
use Rattle.ghs_protocol.specs.Net.{Net, after_take, after_wake, change, happens, is_lawful, is_waiting, opening, send_all, take_first, takes_from}
use Rattle.peer_network.specs.Events.{event_node}
use Rattle.peer_network.specs.Network.{Network}
use Rattle.ghs_protocol.specs.Run.{IsAfter, IsRun, and_then, run}
use Rattle.ghs_protocol.specs.Steps.{Happens, Woke, Took}
use Rattle.ghs_protocol.proofs.lemmas.Balance.{kinds_in_all, of_kind_append}
use Rattle.ghs_protocol.proofs.lemmas.Events.{happening, lawful_happens}
use Rattle.ghs_protocol.proofs.lemmas.Runs.{after_is_net}
use Rattle.ghs_protocol.proofs.lemmas.Sends.{sent_now}
use Rattle.peer_network.proofs.lemmas.Sums.{sum_same}
use Rattle.ghs_core.specs.NetState.{IsAnswer, IsLawful, NetState, delivery, net_of, network, work_at}
use Rattle.ghs_bits.specs.Bits.{all_sent, if_then, messages_of, sends_after, sends_at, sends_of}

-- a lawful event to which its node reacts leads to a net
module _ (g : Network) (w : Net) where
  taken : (v p : ℕ) (d : Delta) (q : List Message) → is_waiting q ≡ true → reaction (w.node v) (delivery p q) ≡ Some d →
      (x : Net) × (takes_from g w v p q ≡ Some x)
  taken v p d [] some rule = cc
  taken v p d (m ∷ ms) some rule = (send_all g v d.sends (change v d (take_first d.fate v p m ms w)), ap (after_take g w v p m ms) rule)

  pub leads : (e : Event) (d : Delta) → is_lawful g w e ≡ true → reaction (w.node (event_node e)) (work_at w e) ≡ Some d →
      (x : Net) × (happens g w e ≡ Some x)
  leads (Wake v) d l r = (send_all g v d.sends (change v d w), lawful_happens g w (Wake v) l ∙ ap (after_wake g w v) r)
  leads (Take v p) d l r =
      let t : (x : Net) × (takes_from g w v p (w.queue v p) ≡ Some x) = taken v p d (w.queue v p) (and_parts _ _ l).1 r in
      (t.0, lawful_happens g w (Take v p) l ∙ t.1)

-- one event more, at the end
sends_more : (g : Network) (es : List Event) (e : Event) (w x y : Net) → run g es w ≡ Some x → happens g x e ≡ Some y →
    sends_after g (es ++ e ∷ []) w ≡ sends_after g es w ++ sends_at x e
sends_more g [] e w x y h k =
    let same : x ≡ w = sym (same_Some w x h) in
    let here : happens g w e ≡ Some y = ap (λ (z : Net). happens g z e) (sym same) ∙ k in
    ap (λ (o : Option Net). if_then o (λ z. sends_at w e ++ [])) here ∙ append-nil (sends_at w e) ∙ ap (λ (z : Net). sends_at z e) (sym same)
sends_more g (f ∷ es) e w x y h k = go (λ z l. sends_more g es e z x y l k) (happens g w f) h
  where
    go :
        ((z : Net) → run g es z ≡ Some x → sends_after g (es ++ e ∷ []) z ≡ sends_after g es z ++ sends_at x e) → (o : Option Net) →
        and_then o (λ z. run g es z) ≡ Some x →
        if_then o (λ z. sends_at w f ++ sends_after g (es ++ e ∷ []) z) ≡ if_then o (λ z. sends_at w f ++ sends_after g es z) ++ sends_at x e
    go rest None l = cc
    go rest (Some z) l =
        ap (λ (ms : List Message). sends_at w f ++ ms) (rest z l) ∙ sym (append_assoc (sends_at w f) (sends_after g es z) (sends_at x e))

pub sent_more : (s : NetState) (e : Event) (d : Delta) → IsRun (network s) s.trace → IsLawful s e → IsAnswer s e d →
    all_sent (network s) (s.trace ++ e ∷ []) ≡ all_sent (network s) s.trace ++ messages_of d.sends
unfolding all_sent
sent_more s e d r l a =
    let g = network s in
    let y : (x : Net) × (happens g (net_of s) e ≡ Some x) = leads g (net_of s) e d l a in
    sends_more g s.trace e (opening g) (net_of s) y.0 (after_is_net s.graph s.trace r) y.1
    ∙ ap (λ (o : Option Delta). sends_after g s.trace (opening g) ++ sends_of o) a

-- of each kind as many as the net has counted
counted_at : (g : Network) (w x : Net) (e : Event) → Happens g w e x → (k : ℕ) → x.sent k ≡ w.sent k + of_kind k (sends_at w e)
counted_at g w _ _ (Woke v d lo hi s r) k =
    sent_now g v d w k ∙ ap (λ (o : Option Delta). w.sent k + of_kind k (sends_of o)) (sym r)
counted_at g w _ _ (Took v p m ms d at q r) k =
    let rule : reaction (w.node v) (work_at w (Take v p)) ≡ Some d = ap (λ (l : List Message). reaction (w.node v) (delivery p l)) q ∙ r in
    sent_now g v d (take_first d.fate v p m ms w) k ∙ ap (λ (o : Option Delta). w.sent k + of_kind k (sends_of o)) (sym rule)

counted : (g : Network) (es : List Event) (w x : Net) (k : ℕ) → run g es w ≡ Some x → x.sent k ≡ w.sent k + of_kind k (sends_after g es w)
counted g [] w x k h = let same : x.sent k ≡ w.sent k = ap (λ (z : Net). z.sent k) (sym (same_Some w x h)) in omega (arith, same)
counted g (e ∷ es) w x k h = go (λ y l. counted g es y x k l) (happens g w e) refl h
  where
    go :
        ((y : Net) → run g es y ≡ Some x → x.sent k ≡ y.sent k + of_kind k (sends_after g es y)) → (o : Option Net) → happens g w e ≡ o →
        and_then o (λ y. run g es y) ≡ Some x → x.sent k ≡ w.sent k + of_kind k (if_then o (λ y. sends_at w e ++ sends_after g es y))
    go rest None is l = cc
    go rest (Some y) is l =
        let one = counted_at g w y e (happening g w y e is) k in
        let others = rest y l in
        let both = of_kind_append k (sends_at w e) (sends_after g es y) in
        omega (arith, one, others, both)

pub sent_by_kind : (g : Network) (es : List Event) (w : Net) → IsAfter g es w → (k : ℕ) → of_kind k (all_sent g es) ≡ w.sent k
unfolding all_sent
sent_by_kind g es w after k = let all = counted g es (opening g) w k after in omega (arith, all)

pub sent_in_all : (g : Network) (es : List Event) (w : Net) → IsAfter g es w → length (all_sent g es) ≡ in_all w.sent
sent_in_all g es w after = sym (kinds_in_all (all_sent g es)) ∙ sum_same 7 _ _ (λ k lt. sent_by_kind g es w after k)
