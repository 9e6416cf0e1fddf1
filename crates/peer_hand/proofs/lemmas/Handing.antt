-- What is handed over.
use Rattle.std.proofs.Common.{◌≡◌, ◌⊎◌, ℕ, List, Result, Ok, Err, inl, inr, subst, sym, ⊎_elim}
use Rattle.std.specs.Prelude.{IfErr, IfOk, MatchResult}
use Rattle.peer_hand.specs.Handing.{IsHandedOver}
use Rattle.peer_hand.specs.Words.{fault_json}
use Rattle.peer_hand.specs.declared.fault.HandFault.{HandFault}
use Rattle.peer_hand.specs.declared.fault.HandFault.TheVariants.{Memory}

-- an answer's text, or that of its fault; whatever it is, memory may run out before it
module _ {V : Type 0} (items : V → List ℕ) (Good : List ℕ → Type 0) (Bad : HandFault → Type 0) where
  abbrev Is : List ℕ → Type 0
  Is t = Good t ⊎ ((f : HandFault) × Bad f × (t ≡ fault_json f))

  is_answer : (r : Result V HandFault) → IfOk r (λ v. Good (items v)) → IfErr r (λ f. Bad f) → Bad Memory → (t : List ℕ) →
      MatchResult r (λ v. t ≡ items v) (λ f. t ≡ fault_json f) ⊎ (t ≡ fault_json Memory) → Is t
  is_answer (Ok v) good bad none t h =
      ⊎_elim (λ (e : t ≡ items v). inl (subst Good (sym e) good)) (λ (e : t ≡ fault_json Memory). inr (Memory, none, e)) h
  is_answer (Err f) good bad none t h = ⊎_elim (λ (e : t ≡ fault_json f). inr (f, bad, e)) (λ (e : t ≡ fault_json Memory). inr (Memory, none, e)) h

  pub handed : (r : Result V HandFault) (n : ℕ) (old new : List ℕ) → IfOk r (λ v. Good (items v)) → IfErr r (λ f. Bad f) → Bad Memory →
      IsHandedOver (λ t. MatchResult r (λ v. t ≡ items v) (λ f. t ≡ fault_json f) ⊎ (t ≡ fault_json Memory)) n old new →
      IsHandedOver Is n old new
  handed r n old new good bad none h =
      record { text = h.text; is = is_answer r good bad none h.text h.is; count = h.count; fits = h.fits; large = h.large }
