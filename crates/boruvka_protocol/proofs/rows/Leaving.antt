-- A link that leaves a class isn't taken, and its ends lie in two classes.
use Rattle.std.proofs.Common.{◌≡◌, ◌⊎◌, ℕ, ◌<◌, true, ⊎_elim, sym, ◌∙◌, ap, subst}
use Rattle.ghs_graph.specs.declared.key.Key.{Key}
use Rattle.ghs_graph.specs.Links.{Joined, Same, Over, Back}
use Rattle.ghs_graph.specs.Key.{ends_at}
use Rattle.ghs_graph.specs.Ports.{far_end}
use Rattle.ghs_graph.proofs.lemmas.Joining.{joined_then, joined_back}
use Rattle.ghs_graph.proofs.lemmas.Ports.{ends_a, ends_b, far_end_a, far_end_b}
use Rattle.boruvka_protocol.specs.Levels.{Leaves}

-- v and u are its ends
abbrev pub AreEnds : ℕ → ℕ → Key → Type 0
AreEnds v u k = ((v ≡ k.a) × (u ≡ k.b)) ⊎ ((v ≡ k.b) × (u ≡ k.a))

-- from the one end of a link to the other
pub joined_ends : {P : Key → Type 0} (v u : ℕ) (k : Key) → AreEnds v u k → P k → Joined P v u
joined_ends {P} v u k ends p = ⊎_elim
    (λ e. subst (λ x. Joined P x u) (sym e.0) (subst (λ x. Joined P k.a x) (sym e.1) (Over k p Same)))
    (λ e. subst (λ x. Joined P x u) (sym e.0) (subst (λ x. Joined P k.b x) (sym e.1) (Back k p Same)))
    ends

-- the far end, and what it is the far end of
pub end_there : (v u : ℕ) (k : Key) → AreEnds v u k → ends_at u k ≡ true
end_there v u k ends = ⊎_elim
    (λ e. subst (λ x. ends_at x k ≡ true) (sym e.1) (ends_b k))
    (λ e. subst (λ x. ends_at x k ≡ true) (sym e.1) (ends_a k))
    ends

pub far_back : (v u : ℕ) (k : Key) → k.a < k.b → AreEnds v u k → far_end u k ≡ v
far_back v u k lt ends = ⊎_elim
    (λ e. ap (λ x. far_end x k) e.1 ∙ far_end_b k lt ∙ sym e.0)
    (λ e. ap (λ x. far_end x k) e.1 ∙ far_end_a k ∙ sym e.0)
    ends

module _ {S : Key → Type 0} (u : ℕ) (k : Key) (out : Leaves S u k) where
  -- the class of u doesn't hold both ends
  pub not_both : Joined S u k.a → Joined S u k.b → ⊥
  not_both a b = ⊎_elim (λ p. p.1 b) (λ p. p.1 a) out

  pub not_taken : S k → ⊥
  not_taken s = ⊎_elim (λ p. p.1 (joined_then p.0 (Over k s Same))) (λ p. p.1 (joined_then p.0 (Back k s Same))) out

  -- nor the far end
  pub not_joined : (v : ℕ) → AreEnds v u k → Joined S v u → ⊥
  not_joined v ends way = ⊎_elim
      (λ e. not_both (subst (λ x. Joined S u x) e.0 (joined_back way)) (subst (λ x. Joined S u x) e.1 Same))
      (λ e. not_both (subst (λ x. Joined S u x) e.1 Same) (subst (λ x. Joined S u x) e.0 (joined_back way)))
      ends
