-- The test whether two nodes send the same says that each port has the same messages in the same order.
use Rattle.std.proofs.Common.{◌≡◌, ◌⊎◌, inl, inr, ◌∙◌, ◌==◌, ℕ, suc, Bool, true, false, List, [], ◌∷◌, ◌++◌, refl, sym, ap, subst, arith}
use Rattle.std.specs.Bool.{Decides}
use Rattle.std.specs.Cmp.Lexicographic.{pointwise}
use Rattle.std.specs.List.{All, list_all}
use Rattle.std.specs.Prelude.{IsTrue, ◌↔◌}
use Rattle.std.specs.Str.{bytes_eq}
use Rattle.std.proofs.lemmas.Bool.{cond-false, eqb-true}
use Rattle.std.proofs.lemmas.Bool.Decides.{Decides-and, Decides-by_and, Decides-eqb, Decides-like, same_from_decides}
use Rattle.std.proofs.lemmas.List.Elements.{filter-append}
use Rattle.std.proofs.lemmas.Slice.Eq.{bytes_eq-Decides}
use lib.Pointwise.{pointwise_decides}
use Rattle.own_book.specs.Sends.{SameAtPorts, Sending, at_port}
use Rattle.own_judge.specs.Deed.{same_sending, same_sends}

same_pair : (s t : Sending) → (s.0 ≡ t.0) × (s.1 ≡ t.1) → s ≡ t
same_pair s t h = λ i. (h.0 i, h.1 i)

sending_decides : (s t : Sending) → Decides (same_sending s t) (s ≡ t)
sending_decides s t =
    Decides-like (same_sending s t) (same_pair s t) (λ e. (ap (λ (x : Sending). x.0) e, ap (λ (x : Sending). x.1) e))
    (Decides-and (s.0 == t.0) (bytes_eq s.1 t.1) (Decides-eqb s.0 t.0) (bytes_eq-Decides s.1 t.1))

-- where this holds of the port of each, it holds of a port, or nothing goes out there
port_of : (F : ℕ → Type 0) (p : ℕ) (s : Sending) (ss : List Sending) (b : Bool) → (s.0 == p) ≡ b → F s.0 → (at_port p ss ≡ []) ⊎ F p →
    (at_port p (s ∷ ss) ≡ []) ⊎ F p
port_of F p s ss true at first rest = inr (subst F (eqb-true s.0 p at) first)
port_of F p s ss false at first (inl none) = inl (cond-false (s.0 == p) (s ∷ at_port p ss) (at_port p ss) at ∙ none)
port_of F p s ss false at first (inr holds) = inr holds

each_port : (F : ℕ → Type 0) (p : ℕ) (ss : List Sending) → All (λ (s : Sending). F s.0) ss → (at_port p ss ≡ []) ⊎ F p
each_port F p [] all = inl refl
each_port F p (s ∷ ss) all =
    port_of F p s ss (s.0 == p) refl (all 0 s (omega arith)) (each_port F p ss (λ k d lt. all (suc k) d (omega arith)))

both_empty : (xs ys : List Sending) → xs ++ ys ≡ [] → xs ≡ ys
both_empty [] [] e = refl
both_empty [] (y ∷ ys) e = cc
both_empty (x ∷ xs) ys e = cc

from_each : (one other : List Sending) → All (λ (s : Sending). at_port s.0 one ≡ at_port s.0 other) (one ++ other) → SameAtPorts one other
from_each one other all p =
    elim (each_port (λ p. at_port p one ≡ at_port p other) p (one ++ other) all) [
      | inl none ↦ both_empty (at_port p one) (at_port p other) (sym (filter-append (λ (s : Sending). s.0 == p) one other) ∙ none)
      | inr same ↦ same
    ]

pub sends_decide : (one other : List Sending) → Decides (same_sends one other) (SameAtPorts one other)
sends_decide one other =
    Decides-like (same_sends one other) (from_each one other) (λ same k d lt. same _)
    (Decides-by_and (λ (s : Sending). pointwise same_sending (at_port s.0 one) (at_port s.0 other))
    (λ (s : Sending). at_port s.0 one ≡ at_port s.0 other)
    (list_all (λ (s : Sending). pointwise same_sending (at_port s.0 one) (at_port s.0 other)))
    (λ s. pointwise_decides sending_decides (at_port s.0 one) (at_port s.0 other)) refl (λ _ _. refl) (one ++ other))

-- what says whether they send the same is the test
pub told_same : (one other : List Sending) (b : Bool) → IsTrue b ↔ SameAtPorts one other → b ≡ same_sends one other
told_same one other b h = same_from_decides b (same_sends one other) h (sends_decide one other)
