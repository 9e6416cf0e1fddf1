-- No two ports have one number, and each port at which a message waits has one.
use Rattle.std.proofs.Common.{◌≡◌, ℕ, suc, ◌<◌, ◌≤◌, Bool, true, Option, Some, None, List, [], ◌∷◌, ◌++◌, refl, sym, ◌∙◌, ap, subst, ⊎_elim, arith}
use Rattle.std.proofs.lemmas.Bool.{and_parts}
use Rattle.std.proofs.lemmas.Option.{same_Some}
use Rattle.ghs_node.specs.declared.delta.Delta.{Delta}
use Rattle.ghs_node.specs.declared.message.Message.{Message}
use Rattle.ghs_node.specs.Reaction.{reaction}
use Rattle.ghs_node.specs.Words.{Outgoing}
use Rattle.peer_network.specs.declared.event.Event.{Event}
use Rattle.peer_network.specs.declared.event.Event.TheVariants.{Wake, Take}
use Rattle.ghs_protocol.specs.Net.{Net, change, happens, is_waiting, left_of, opening, send, send_all, take_first}
use Rattle.peer_network.specs.Network.{is_port, Network, far, far_port}
use Rattle.ghs_protocol.specs.Run.{and_then, run}
use Rattle.ghs_protocol.specs.Steps.{Happens, Took, Woke}
use Rattle.ghs_protocol.proofs.lemmas.Events.{happening}
use Rattle.peer_network.proofs.lemmas.Updates.{one_place, put_at_hit, put_at_miss}
use Rattle.ghs_core.specs.NetState.{delivery, work_at}
use Rattle.ghs_patient.specs.Patience.{moves_on}
use Rattle.ghs_orders.specs.LifoLaws.{LatestIsOne}
use Rattle.ghs_orders.specs.Latest.{IsLatest}
use Rattle.ghs_orders.specs.Newest.{Newest, answered, if_then, newest_after, newest_of, newest_then, none_sent, numbered, sent, sent_on}

record AreApart (n : Newest) : Type 0 where
  within : (v p : ℕ) → n.last v p ≤ n.count
  apart : (v p u q : ℕ) → 0 < n.last v p → n.last v p ≡ n.last u q → (v ≡ u) × (p ≡ q)

record AreOf (w : Net) (n : Newest) : Type 0 where
  numbers : AreApart n
  some : (v p : ℕ) → is_waiting (w.queue v p) ≡ true → 0 < n.last v p

numbered_apart : (v p : ℕ) (n : Newest) → AreApart n → AreApart (numbered v p n)
numbered_apart v p n h = record { within = within; apart = apart }
  where
    m : Newest
    m = numbered v p n

    hit : (a b : ℕ) → (a ≡ v) × (b ≡ p) → (numbered v p n).last a b ≡ suc n.count
    hit a b z = put_at_hit n.last v p a b (suc n.count) z.0 z.1

    miss : (a b : ℕ) → ((a ≡ v) × (b ≡ p) → ⊥) → (numbered v p n).last a b ≡ n.last a b
    miss a b ne = put_at_miss n.last v p a b (suc n.count) ne

    within : (a b : ℕ) → (numbered v p n).last a b ≤ suc n.count
    within a b = ⊎_elim
        (λ z. let is = hit a b z in omega (arith, is))
        (λ ne. let is = miss a b ne in let le = h.within a b in omega (arith, is, le))
        (one_place v p a b)

    apart : (a b u q : ℕ) → 0 < (numbered v p n).last a b → (numbered v p n).last a b ≡ (numbered v p n).last u q → (a ≡ u) × (b ≡ q)
    apart a b u q lt e = ⊎_elim
        (λ z. ⊎_elim
        (λ y. (z.0 ∙ sym y.0, z.1 ∙ sym y.1))
        (λ ne. let one = hit a b z in let other = miss u q ne in let le = h.within u q in absurd (omega (arith, one, other, le, e)))
        (one_place v p u q))
        (λ ne. ⊎_elim
        (λ y. let one = miss a b ne in let other = hit u q y in let le = h.within a b in absurd (omega (arith, one, other, le, e)))
        (λ ne'. h.apart a b u q (subst (λ k. 0 < k) (miss a b ne) lt) (sym (miss a b ne) ∙ e ∙ miss u q ne'))
        (one_place v p u q))
        (one_place v p a b)

module _ (g : Network) (v : ℕ) where
  send_of : (w : Net) (n : Newest) (s : ℕ × Message) → AreOf w n → AreOf (send g v w s) (sent_on g v s.0 n)
  send_of w n s h = record { numbers = numbered_apart (far g v s.0) (far_port g v s.0) n h.numbers; some = some }
    where
      some : (u q : ℕ) → is_waiting ((send g v w s).queue u q) ≡ true → 0 < (sent_on g v s.0 n).last u q
      some u q t = ⊎_elim
          (λ z. let is = put_at_hit n.last (far g v s.0) (far_port g v s.0) u q (suc n.count) z.0 z.1 in omega (arith, is))
          (λ ne.
          let same = put_at_miss w.queue (far g v s.0) (far_port g v s.0) u q (w.queue (far g v s.0) (far_port g v s.0) ++ s.1 ∷ []) ne in
          let is = put_at_miss n.last (far g v s.0) (far_port g v s.0) u q (suc n.count) ne in
          let lt = h.some u q (ap is_waiting (sym same) ∙ t) in
          omega (arith, is, lt))
          (one_place (far g v s.0) (far_port g v s.0) u q)

  sends_of : (ss : Outgoing) (w : Net) (n : Newest) → AreOf w n → AreOf (send_all g v ss w) (sent g v ss n)
  sends_of [] w n h = h
  sends_of (s ∷ ss) w n h = sends_of ss (send g v w s) (sent_on g v s.0 n) (send_of w n s h)

take_of : (v p : ℕ) (m : Message) (ms : List Message) (d : Delta) (w : Net) (n : Newest) → w.queue v p ≡ m ∷ ms → AreOf w n →
    AreOf (take_first d.fate v p m ms w) n
take_of v p m ms d w n is h = record { numbers = h.numbers; some = some }
  where
    some : (u q : ℕ) → is_waiting ((take_first d.fate v p m ms w).queue u q) ≡ true → 0 < n.last u q
    some u q t = ⊎_elim
        (λ (z : (u ≡ v) × (q ≡ p)). let lt = h.some v p (ap is_waiting is) in rw (z.0, z.1) lt)
        (λ ne. h.some u q (ap is_waiting (sym (put_at_miss w.queue v p u q (left_of d.fate m ms) ne)) ∙ t))
        (one_place v p u q)

change_of : (v : ℕ) (d : Delta) (w : Net) (n : Newest) → AreOf w n → AreOf (change v d w) n
change_of v d w n h = record { numbers = h.numbers; some = h.some }

happens_of : (g : Network) (w x : Net) (e : Event) (n : Newest) → Happens g w e x → AreOf w n → AreOf x (newest_then g w e n)
happens_of g w _ _ n (Woke v d lo hi s r) h =
    let same : newest_then g w (Wake v) n ≡ sent g v d.sends n = ap (λ (o : Option Delta). answered g (Wake v) o n) r in
    subst (λ (k : Newest). AreOf (send_all g v d.sends (change v d w)) k) (sym same) (sends_of g v d.sends (change v d w) n (change_of v d w n h))
happens_of g w _ _ n (Took v p m ms d at q r) h =
    let rule : reaction (w.node v) (work_at w (Take v p)) ≡ Some d = ap (λ (l : List Message). reaction (w.node v) (delivery p l)) q ∙ r in
    let same : newest_then g w (Take v p) n ≡ sent g v d.sends n = ap (λ (o : Option Delta). answered g (Take v p) o n) rule in
    let x = take_first d.fate v p m ms w in
    subst (λ (k : Newest). AreOf (send_all g v d.sends (change v d x)) k) (sym same)
    (sends_of g v d.sends (change v d x) n (change_of v d x n (take_of v p m ms d w n q h)))

after_of : (g : Network) (es : List Event) (w x : Net) (n : Newest) → AreOf w n → run g es w ≡ Some x → AreOf x (newest_after g es w n)
after_of g [] w x n i r = subst (λ (z : Net). AreOf z n) (same_Some w x r) i
after_of g (e ∷ es) w x n i r =
    go (λ y h. after_of g es y x (newest_then g w e n) (happens_of g w y e n (happening g w y e h) i)) (happens g w e) refl r
  where
    go : ((y : Net) → happens g w e ≡ Some y → run g es y ≡ Some x → AreOf x (newest_after g es y (newest_then g w e n))) →
        (o : Option Net) → happens g w e ≡ o → and_then o (λ y. run g es y) ≡ Some x →
        AreOf x (if_then o (λ y. newest_after g es y (newest_then g w e n)) n)
    go rest None h k = cc
    go rest (Some y) h k = rest y h k

opening_of : (g : Network) → AreOf (opening g) none_sent
opening_of g = record {
  numbers = record { within = λ v p. omega arith; apart = λ v p u q lt e. absurd (omega (arith, lt)) };
  some = λ v p t. cc t;
}

of_run : (g : Network) (es : List Event) (w : Net) → run g es (opening g) ≡ Some w → AreOf w (newest_of g es)
unfolding newest_of
of_run g es w r = after_of g es (opening g) w none_sent (opening_of g) r

module _ (may : ℕ → Bool) (g : Network) (w : Net) (n : Newest) (h : AreOf w n) where
  some_at : (v p : ℕ) → moves_on may g w (Take v p) ≡ true → 0 < n.last v p
  some_at v p t = h.some v p (and_parts (is_port g v p) _ (and_parts _ _ t).0).1

  one_latest : (e f : Event) → IsLatest may g w n e → IsLatest may g w n f → e ≡ f
  one_latest (Wake v) f a b = absurd a
  one_latest (Take v p) (Wake u) a b = absurd b
  one_latest (Take v p) (Take u q) a b =
      let le = a.1 u q b.0 in
      let ge = b.1 v p a.0 in
      let same = h.numbers.apart v p u q (some_at v p a.0) (omega (arith, le, ge)) in
      ap (λ x. Take x p) same.0 ∙ ap (Take u) same.1

pub latest_is_one : LatestIsOne
latest_is_one may g es w e f r a b = one_latest may g w (newest_of g es) (of_run g es w r) e f a b
