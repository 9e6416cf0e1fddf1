-- Facts of all messages that wait.
use Rattle.std.proofs.Common.{◌≡◌, ℕ, suc, List, [], ◌∷◌, sym, ◌∙◌, subst, ⊎_elim, arith}
use Rattle.std.specs.List.{All}
use Rattle.std.proofs.lemmas.List.Elements.{All-nil, All-cons, All-append}
use Rattle.ghs_node.specs.declared.message.Message.{Message}
use Rattle.ghs_node.specs.declared.delta.Fate.{Fate}
use Rattle.ghs_node.specs.declared.delta.Fate.TheVariants.{Consumed, Requeued}
use Rattle.ghs_node.specs.Words.{Outgoing}
use Rattle.peer_network.specs.Network.{Network, far, far_port, At}
use Rattle.ghs_protocol.specs.Net.{Net, send, send_all, left_of, take_first}
use Rattle.peer_network.proofs.lemmas.Updates.{one_place, put_at_hit, put_at_miss}

pub all_first : {X : Type 0} (P : X → Type 0) (x : X) (xs : List X) → All P (x ∷ xs) → P x
all_first P x xs h = h 0 x (omega arith)

-- two queues that are one have one first message
pub same_first : (x y : Message) (xs ys : List Message) → x ∷ xs ≡ y ∷ ys → x ≡ y
same_first x y xs ys e = cc

pub all_rest : {X : Type 0} (P : X → Type 0) (x : X) (xs : List X) → All P (x ∷ xs) → All P xs
all_rest P x xs h k d lt = h (suc k) d (omega arith)

module _ (P : Message → Type 0) where
  abbrev pub AllWaiting : Net → Type 0
  AllWaiting w = (v p : ℕ) → All P (w.queue v p)

  left_all : (f : Fate) (m : Message) (ms : List Message) → All P (m ∷ ms) → All P (left_of f m ms)
  left_all Consumed m ms h = all_rest P m ms h
  left_all Requeued m ms h = All-append P ms (m ∷ []) (all_rest P m ms h) (All-cons P m [] (all_first P m ms h) (All-nil P))

  pub taken_all : (f : Fate) (v p : ℕ) (m : Message) (ms : List Message) (w : Net) →
      w.queue v p ≡ m ∷ ms →
      AllWaiting w →
      AllWaiting (take_first f v p m ms w)
  taken_all f v p m ms w q h a b =
      ⊎_elim (λ e. subst (All P) (sym (put_at_hit w.queue v p a b _ e.0 e.1)) (left_all f m ms (subst (All P) q (h v p))))
      (λ ne. subst (All P) (sym (put_at_miss w.queue v p a b _ ne)) (h a b)) (one_place v p a b)

  sent_one : (g : Network) (v : ℕ) (s : ℕ × Message) (w : Net) → P s.1 → AllWaiting w → AllWaiting (send g v w s)
  sent_one g v s w i h a b =
      ⊎_elim
      (λ e.
      subst (All P)
      (sym (put_at_hit w.queue (far g v s.0) (far_port g v s.0) a b _ e.0 e.1))
      (All-append P (w.queue (far g v s.0) (far_port g v s.0)) (s.1 ∷ []) (h _ _) (All-cons P s.1 [] i (All-nil P))))
      (λ ne. subst (All P) (sym (put_at_miss w.queue (far g v s.0) (far_port g v s.0) a b _ ne)) (h a b))
      (one_place (far g v s.0) (far_port g v s.0) a b)

  pub sent_all : (g : Network) (v : ℕ) (ss : Outgoing) (w : Net) → All (λ (s : ℕ × Message). P s.1) ss → AllWaiting w → AllWaiting (send_all g v ss w)
  sent_all g v [] w i h = h
  sent_all g v (s ∷ ss) w i h =
      sent_all g v ss (send g v w s) (all_rest (λ (x : ℕ × Message). P x.1) s ss i)
      (sent_one g v s w (all_first (λ (x : ℕ × Message). P x.1) s ss i) h)

-- where no port is, nothing waits
abbrev pub NoneElsewhere : Network → Net → Type 0
NoneElsewhere g w = (v p : ℕ) → (At g v p → ⊥) → w.queue v p ≡ []

pub taken_elsewhere : (g : Network) (f : Fate) (v p : ℕ) (m : Message) (ms : List Message) (w : Net) → At g v p → NoneElsewhere g w →
    NoneElsewhere g (take_first f v p m ms w)
taken_elsewhere g f v p m ms w at h a b off =
    put_at_miss w.queue v p a b _ (λ e. off (subst (λ x. At g x b) (sym e.0) (subst (At g v) (sym e.1) at))) ∙ h a b off

pub sent_elsewhere : (g : Network) (v : ℕ) (ss : Outgoing) (w : Net) → All (λ (s : ℕ × Message). At g (far g v s.0) (far_port g v s.0)) ss →
    NoneElsewhere g w → NoneElsewhere g (send_all g v ss w)
sent_elsewhere g v [] w i h = h
sent_elsewhere g v (s ∷ ss) w i h =
    sent_elsewhere g v ss (send g v w s) (all_rest (λ (x : ℕ × Message). At g (far g v x.0) (far_port g v x.0)) s ss i) one
  where
    to : At g (far g v s.0) (far_port g v s.0)
    to = all_first (λ (x : ℕ × Message). At g (far g v x.0) (far_port g v x.0)) s ss i

    one : NoneElsewhere g (send g v w s)
    one a b off =
        put_at_miss w.queue (far g v s.0) (far_port g v s.0) a b _
        (λ e. off (subst (λ x. At g x b) (sym e.0) (subst (At g (far g v s.0)) (sym e.1) to)))
        ∙ h a b off
