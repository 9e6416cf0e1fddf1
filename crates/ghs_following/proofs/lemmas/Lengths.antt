-- As many numbers wait at a port as messages.
use Rattle.std.proofs.Common.{◌≡◌, ℕ, suc, Bool, Option, Some, None, List, [], ◌∷◌, ◌++◌, length, refl, sym, ◌∙◌, ap, subst, ⊎_elim, arith}
use Rattle.std.proofs.lemmas.List.{length_push}
use Rattle.std.proofs.lemmas.Option.{same_Some}
use Rattle.ghs_node.specs.declared.delta.Delta.{Delta}
use Rattle.ghs_node.specs.declared.delta.Fate.{Fate}
use Rattle.ghs_node.specs.declared.delta.Fate.TheVariants.{Consumed, Requeued}
use Rattle.ghs_node.specs.declared.message.Message.{Message}
use Rattle.ghs_node.specs.Reaction.{reaction}
use Rattle.ghs_node.specs.Words.{Outgoing, is_sleeping}
use Rattle.peer_network.specs.declared.event.Event.{Event}
use Rattle.peer_network.specs.declared.event.Event.TheVariants.{Wake, Take}
use Rattle.ghs_protocol.specs.Net.{Net, change, happens, left_of, opening, send, send_all, take_first}
use Rattle.peer_network.specs.Updates.{put_at}
use Rattle.peer_network.specs.Network.{Network, far, far_port}
use Rattle.ghs_protocol.specs.Run.{and_then, run}
use Rattle.ghs_protocol.specs.Steps.{Happens, Woke, Took}
use Rattle.ghs_protocol.proofs.lemmas.Events.{happening}
use Rattle.peer_network.proofs.lemmas.Updates.{one_place, put_at_hit, put_at_miss}
use Rattle.ghs_core.specs.NetState.{delivery, work_at}
use Rattle.peer_chains.specs.Chains.{Chains, behind, no_chains, sent, sent_on, taken}
use Rattle.ghs_following.specs.Chains.{answered, chains_after, chains_of, chains_then, if_then, is_deferred, reacted}

pub record SameLengths (w : Net) (c : Chains) : Type 0 where
  pub queue : (v p : ℕ) → length (c.queue v p) ≡ length (w.queue v p)

same_put : (f : ℕ → ℕ → List ℕ) (h : ℕ → ℕ → List Message) (v p : ℕ) (l : List ℕ) (m : List Message) → ((u q : ℕ) → length (f u q) ≡ length (h u q)) →
    length l ≡ length m → (u q : ℕ) → length (put_at f v p l u q) ≡ length (put_at h v p m u q)
same_put f h v p l m all this u q = ⊎_elim
    (λ (e : (u ≡ v) × (q ≡ p)). ap length (put_at_hit f v p u q l e.0 e.1) ∙ this ∙ sym (ap length (put_at_hit h v p u q m e.0 e.1)))
    (λ ne. ap length (put_at_miss f v p u q l ne) ∙ all u q ∙ sym (ap length (put_at_miss h v p u q m ne)))
    (one_place v p u q)

one_more : (l : List ℕ) (m : List Message) (n : ℕ) (x : Message) → length l ≡ length m → length (l ++ n ∷ []) ≡ length (m ++ x ∷ [])
one_more l m n x e = let a = length_push l n in let b = length_push m x in omega (arith, a, b, e)

sends : (g : Network) (v : ℕ) (ss : Outgoing) (w : Net) (c : Chains) → SameLengths w c → SameLengths (send_all g v ss w) (sent g v ss c)
sends g v [] w c same = same
sends g v (s ∷ ss) w c same = sends g v ss (send g v w s) (sent_on g v s.0 c) (record {
  queue = same_put c.queue w.queue (far g v s.0) (far_port g v s.0) _ _ same.queue
      (one_more (c.queue (far g v s.0) (far_port g v s.0)) (w.queue (far g v s.0) (far_port g v s.0)) (suc (c.node v)) s.1
      (same.queue (far g v s.0) (far_port g v s.0)));
})

behind_same : (f : Fate) (t : ℕ) (ts : List ℕ) (m : Message) (ms : List Message) → length ts ≡ length ms →
    length (behind (is_deferred f) t ts) ≡ length (left_of f m ms)
behind_same Consumed t ts m ms e = e
behind_same Requeued t ts m ms e = one_more ts ms t m e

takes : (v p : ℕ) (asleep : Bool) (f : Fate) (ts : List ℕ) (m : Message) (ms : List Message) (w : Net) (c : Chains) → length ts ≡ length (m ∷ ms) →
    SameLengths w c → SameLengths (take_first f v p m ms w) (taken v p asleep (is_deferred f) ts c)
takes v p asleep f [] m ms w c many same = absurd (let z : 0 ≡ suc (length ms) = many in omega (arith, z))
takes v p asleep f (t ∷ ts) m ms w c many same = record {
  queue = same_put c.queue w.queue v p (behind (is_deferred f) t ts) (left_of f m ms) same.queue
      (behind_same f t ts m ms (let z : suc (length ts) ≡ suc (length ms) = many in omega (arith, z)));
}

happened : (g : Network) (w x : Net) (e : Event) (c : Chains) → Happens g w e x → SameLengths w c → SameLengths x (chains_then g w e c)
happened g w _ _ c (Woke v d lo hi s r) same =
    let is : chains_then g w (Wake v) c ≡ reacted g w (Wake v) d c = ap (λ (o : Option Delta). answered g w (Wake v) o c) r in
    subst (λ (z : Chains). SameLengths (send_all g v d.sends (change v d w)) z) (sym is)
    (sends g v d.sends (change v d w) c (record { queue = same.queue }))
happened g w _ _ c (Took v p m ms d at q r) same =
    let b = is_sleeping (w.node v).head.phase in
    let many : length (c.queue v p) ≡ length (m ∷ ms) = same.queue v p ∙ ap length q in
    let one : SameLengths (take_first d.fate v p m ms w) (taken v p b (is_deferred d.fate) (c.queue v p) c) =
    takes v p b d.fate (c.queue v p) m ms w c many same in
    let rule : reaction (w.node v) (work_at w (Take v p)) ≡ Some d = ap (λ (l : List Message). reaction (w.node v) (delivery p l)) q ∙ r in
    let is : chains_then g w (Take v p) c ≡ reacted g w (Take v p) d c = ap (λ (o : Option Delta). answered g w (Take v p) o c) rule in
    subst (λ (z : Chains). SameLengths (send_all g v d.sends (change v d (take_first d.fate v p m ms w))) z) (sym is)
    (sends g v d.sends (change v d (take_first d.fate v p m ms w)) (taken v p b (is_deferred d.fate) (c.queue v p) c) (record { queue = one.queue }))

after : (g : Network) (es : List Event) (w x : Net) (c : Chains) → SameLengths w c → run g es w ≡ Some x → SameLengths x (chains_after g es w c)
after g [] w x c i r = let same : w ≡ x = same_Some w x r in subst (λ (z : Net). SameLengths z c) same i
after g (e ∷ es) w x c i r = go (λ y h. after g es y x (chains_then g w e c) (happened g w y e c (happening g w y e h) i)) (happens g w e) refl r
  where
    go :
        ((y : Net) → happens g w e ≡ Some y → run g es y ≡ Some x → SameLengths x (chains_after g es y (chains_then g w e c))) →
        (o : Option Net) → happens g w e ≡ o → and_then o (λ y. run g es y) ≡ Some x →
        SameLengths x (if_then o (λ y. chains_after g es y (chains_then g w e c)) c)
    go rest None h k = cc
    go rest (Some y) h k = rest y h k

pub same_lengths : (g : Network) (es : List Event) (x : Net) → run g es (opening g) ≡ Some x → SameLengths x (chains_of g es)
unfolding chains_of
same_lengths g es x r = after g es (opening g) x no_chains (record { queue = λ v p. refl }) r
