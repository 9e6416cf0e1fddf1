-- Lines of the same counts.
use Rattle.std.proofs.Common.{◌≡◌, ℕ, ◌<◌, decimal, refl, ap}
use Rattle.peer_page.specs.Counts.{counts_json, counts_line, kinds_members}
use Rattle.peer_page.proofs.lemmas.Parts.{same_parts}

same_counts : (n : ℕ) (f h : ℕ → ℕ) → ((k : ℕ) → k < n → f k ≡ h k) → counts_json n f ≡ counts_json n h
unfolding counts_json
same_counts n f h same = rw (same_parts n (λ k. decimal (f k)) (λ k. decimal (h k)) (λ k lt. ap decimal (same k lt))) refl

pub same_line : (m n e e' : ℕ) (s s' c c' : ℕ → ℕ) (r r' q q' : ℕ) → m ≡ n → e ≡ e' →
    ((k : ℕ) → k < n → s k ≡ s' k) → ((k : ℕ) → k < n → c k ≡ c' k) → r ≡ r' → q ≡ q' →
    counts_line m e s c r q ≡ counts_line n e' s' c' r' q'
unfolding counts_line kinds_members
same_line m n e e' s s' c c' r r' q q' kinds events sent consumed requeued queued =
    rw (kinds, events, same_counts n s s' sent, same_counts n c c' consumed, requeued, queued) refl
