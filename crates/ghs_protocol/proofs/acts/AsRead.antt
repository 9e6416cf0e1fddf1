-- A step of the net, as the invariant reads it.
use Rattle.std.proofs.Common.{◌≡◌, ℕ, ◌+◌, List, [], ◌∷◌, ◌++◌, refl, sym, ◌∙◌, ap, ⊎_elim, arith}
use Rattle.std.proofs.Math.Path.{fun_ext}
use Rattle.std.proofs.lemmas.Bool.{cases_eq}
use Rattle.ghs_node.specs.Words.{Outgoing}
use Rattle.ghs_node.specs.declared.message.Message.{Message}
use Rattle.ghs_node.specs.declared.message.Message.TheVariants.{Connect, Initiate, Test, Accept, Reject, Report, ChangeRoot}
use Rattle.ghs_node.specs.declared.delta.Delta.{Delta}
use Rattle.ghs_node.specs.NodeState.{mark_at}
use Rattle.ghs_node.specs.Reaction.{after}
use Rattle.peer_network.specs.Network.{Network, port_at}
use Rattle.ghs_protocol.specs.Net.{Net, send, send_all}
use Rattle.peer_network.specs.Updates.{put_at}
use Rattle.peer_network.proofs.lemmas.Updates.{put_at_same, put_at_miss}
use Rattle.ghs_protocol.proofs.clauses.Scene.{Seen, unseen, add, adds, see, Member, member, Ghost, push_all}
use Rattle.ghs_protocol.proofs.lemmas.Pushes.{add_all_append}

-- two parts of a queue together
abbrev pub both : Seen → Seen → Seen
both a b = record { tree = a.tree ++ b.tree; tests = a.tests ++ b.tests; accepts = b.accepts + a.accepts; rejects = b.rejects + a.rejects }

pub same_seen : (a b : Seen) → a.tree ≡ b.tree → a.tests ≡ b.tests → a.accepts ≡ b.accepts → a.rejects ≡ b.rejects → a ≡ b
same_seen a b t s x y = λ i. record { tree = t i; tests = s i; accepts = x i; rejects = y i }

none_after : {A : Type 0} (xs : List A) → xs ++ [] ≡ xs
none_after [] = refl
none_after (x ∷ xs) = ap (λ z. x ∷ z) (none_after xs)

assoc : {A : Type 0} (xs ys zs : List A) → (xs ++ ys) ++ zs ≡ xs ++ (ys ++ zs)
assoc [] ys zs = refl
assoc (x ∷ xs) ys zs = ap (λ z. x ∷ z) (assoc xs ys zs)

both_add : (q r : Seen) (m : Message) → both (add q m) r ≡ both q (both (add unseen m) r)
both_add q r (Connect l) = same_seen _ _ (assoc q.tree (Connect l ∷ []) r.tree) refl (omega arith) (omega arith)
both_add q r (Initiate l f s) = same_seen _ _ (assoc q.tree (Initiate l f s ∷ []) r.tree) refl (omega arith) (omega arith)
both_add q r (Test l f) = same_seen _ _ refl (assoc q.tests ((l, f) ∷ []) r.tests) (omega arith) (omega arith)
both_add q r Accept = same_seen _ _ refl refl (omega arith) (omega arith)
both_add q r Reject = same_seen _ _ refl refl (omega arith) (omega arith)
both_add q r (Report w) = same_seen _ _ (assoc q.tree (Report w ∷ []) r.tree) refl (omega arith) (omega arith)
both_add q r ChangeRoot = same_seen _ _ (assoc q.tree (ChangeRoot ∷ []) r.tree) refl (omega arith) (omega arith)

pub see_after : (q : Seen) (ms : List Message) → adds q ms ≡ both q (see ms)
see_after q [] = same_seen _ _ (sym (none_after q.tree)) (sym (none_after q.tests)) (omega arith) (omega arith)
see_after q (m ∷ ms) = see_after (add q m) ms ∙ both_add q (see ms) m ∙ ap (both q) (sym (see_after (add unseen m) ms))

-- a message that stands first
pub see_first : (m : Message) (ms : List Message) → see (m ∷ ms) ≡ both (add unseen m) (see ms)
see_first m ms = see_after (add unseen m) ms

pub see_more : (ms : List Message) (m : Message) → see (ms ++ m ∷ []) ≡ add (see ms) m
see_more ms m = sym (add_all_append add unseen ms (m ∷ []))

pub see_put : (q : ℕ → ℕ → List Message) (v p : ℕ) (ms : List Message) (a b : ℕ) →
    see (put_at q v p ms a b) ≡ put_at (λ x y. see (q x y)) v p (see ms) a b
see_put q v p ms a b =
    ⊎_elim (λ (e : a ≡ v). ⊎_elim
    (λ (h : b ≡ p). rw (e, h) (ap see (put_at_same q v p ms) ∙ sym (put_at_same (λ x y. see (q x y)) v p (see ms))))
    (λ ne. miss (λ z. ne z.1)) (cases_eq b p))
    (λ ne. miss (λ z. ne z.0)) (cases_eq a v)
  where
    miss : ((a ≡ v) × (b ≡ p) → ⊥) → see (put_at q v p ms a b) ≡ put_at (λ x y. see (q x y)) v p (see ms) a b
    miss ne = ap see (put_at_miss q v p a b ms ne) ∙ sym (put_at_miss (λ x y. see (q x y)) v p a b (see ms) ne)

module _ (g : Network) (v : ℕ) where
  pub seen_sent : (ss : Outgoing) (w : Net) → (λ (a b : ℕ). see ((send_all g v ss w).queue a b)) ≡ push_all g v ss (λ a b. see (w.queue a b))
  seen_sent [] w = refl
  seen_sent (s ∷ ss) w =
      seen_sent ss (send g v w s) ∙
      ap (push_all g v ss) (fun_ext (λ a.
      fun_ext (λ b.
      see_put w.queue _ _ (w.queue (port_at g v s.0).far (port_at g v s.0).far_port ++ s.1 ∷ []) a b ∙
      ap
      (λ (x : Seen). put_at (λ c d. see (w.queue c d)) (port_at g v s.0).far (port_at g v s.0).far_port x a b)
      (see_more (w.queue (port_at g v s.0).far (port_at g v s.0).far_port) s.1))))

  -- the member that a reaction leaves
  abbrev pub reacts : Net → Ghost → Delta → Member
  reacts w gh d = record (member w gh v) { head = (after (w.node v) d).head; mark = λ p. mark_at (after (w.node v) d) p }
