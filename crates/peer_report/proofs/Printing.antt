-- Counts and lines one by one.
use Rattle.std.proofs.Common.{◌≡◌, ℕ, zero, suc, ◌+◌, ◌<◌, ◌≤◌, codes, refl, subst, List, [], ◌∷◌, map, ◌++◌, length, sym, ◌∙◌, ap, arith}
use Rattle.std.specs.List.{flat_map, range_with_len}
use Rattle.std.proofs.lemmas.Grind.{flat_map-append}
use Rattle.std.proofs.lemmas.List.{append_assoc, append-nil}
use Rattle.std.proofs.lemmas.List.Folds.{flat_map-map}
use Rattle.std.proofs.lemmas.List.FromFn.{map-range_with_len_more}
use Rattle.peer_explore.specs.declared.row.EndRow.{EndRow}
use Rattle.ghs_graph.specs.Graph.{Shape}
use Rattle.ghs_report.specs.ReportText.{sends_line}
use Rattle.peer_network.specs.Sums.{sum_below}
use Rattle.peer_network.proofs.lemmas.Sums.{sum_same}
use Rattle.peer_machine.specs.Rules.{Rules}
use Rattle.peer_machine.specs.Net.{Net}
use Rattle.peer_machine.specs.Ledger.{in_all}
use Rattle.peer_report.specs.Account.{account_lines, count_text, counts_text, kinds_line}
use Rattle.peer_report.specs.ExploredText.{range_line, row_line, row_lines, states_line}

-- one number more
listed_more : (f : ℕ → List ℕ) (n : ℕ) → flat_map f (range_with_len 0 (n + 1)) ≡ flat_map f (range_with_len 0 n) ++ f n
listed_more f n =
    sym (flat_map-map (λ x. x) f (range_with_len 0 (n + 1)))
    ∙ ap (flat_map (λ x. x)) (map-range_with_len_more f 0 n n (omega arith))
    ∙ flat_map-append (λ x. x) (map f (range_with_len 0 n)) (f n ∷ [])
    ∙ ap (λ l. l ++ (f n ++ [])) (flat_map-map (λ x. x) f (range_with_len 0 n))
    ∙ ap (λ l. flat_map f (range_with_len 0 n) ++ l) (append-nil (f n))

-- one kind more, behind some text
pub counted_more : (n : ℕ) (name : ℕ → List ℕ) (sent : ℕ → ℕ) (word : List ℕ) (count : ℕ) (lead old new : List ℕ) →
    old ≡ lead ++ counts_text n name sent → word ≡ name n → count ≡ sent n → new ≡ old ++ count_text word count →
    new ≡ lead ++ counts_text (n + 1) name sent
counted_more n name sent word count lead old new was named counted is =
    is ∙ ap (λ w. old ++ count_text w count) named ∙ ap (λ c. old ++ count_text (name n) c) counted
    ∙ ap (λ l. l ++ count_text (name n) (sent n)) was
    ∙ append_assoc lead (counts_text n name sent) (count_text (name n) (sent n))
    ∙ ap (λ l. lead ++ l) (sym (listed_more (λ k. count_text (name k) (sent k)) n))

-- the same counts of the first n kinds
pub same_counts : (n : ℕ) (name : ℕ → List ℕ) (f h : ℕ → ℕ) → ((k : ℕ) → k < n → f k ≡ h k) → counts_text n name f ≡ counts_text n name h
same_counts zero name f h same = refl
same_counts (suc n) name f h same =
    up n f
    ∙ ap (λ l. l ++ count_text (name n) (f n)) (same_counts n name f h (λ k lt. same k (omega (arith, lt))))
    ∙ ap (λ j. counts_text n name h ++ count_text (name n) j) (same n (omega arith))
    ∙ sym (up n h)
  where
    up : (k : ℕ) (e : ℕ → ℕ) → counts_text (suc k) name e ≡ counts_text k name e ++ count_text (name k) (e k)
    up k e = ap (λ j. counts_text j name e) (one k) ∙ listed_more (λ j. count_text (name j) (e j)) k
      where
        one : (j : ℕ) → suc j ≡ j + 1
        one j = omega arith

-- the account of a net, as it is printed
pub account_put : {S M : Type 0} (r : Rules S M) (name : ℕ → List ℕ) (bound : Shape → ℕ) (g : Shape) (w : Net S M) (f : ℕ → ℕ) (n total most : ℕ)
    (old mid new : List ℕ) → n ≡ r.kinds → ((k : ℕ) → k < r.kinds → f k ≡ w.sent k) → total ≡ sum_below n f → most ≡ bound g →
    mid ≡ old ++ kinds_line r.kinds name f → new ≡ mid ++ sends_line total most → new ≡ old ++ account_lines r name bound g w
account_put r name bound g w f n total most old mid new e same t b x y =
    y ∙ ap (λ l. l ++ sends_line total most) x
    ∙ append_assoc old (kinds_line r.kinds name f) (sends_line total most)
    ∙ ap (λ l. old ++ ((codes "m" ++ l ++ 10 ∷ []) ++ sends_line total most)) (same_counts r.kinds name f w.sent same)
    ∙ ap (λ j. old ++ (kinds_line r.kinds name w.sent ++ sends_line j most)) (t ∙ ap (λ j. sum_below j f) e ∙ sum_same _ _ _ same)
    ∙ ap (λ j. old ++ (kinds_line r.kinds name w.sent ++ sends_line (in_all r w.sent) j)) b

-- and it is within the bound
pub within_put : {S M : Type 0} (r : Rules S M) (w : Net S M) (f : ℕ → ℕ) (most : ℕ) → ((k : ℕ) → k < r.kinds → f k ≡ w.sent k) → in_all r f ≤ most →
    in_all r w.sent ≤ most
within_put r w f most same le = subst (λ j. j ≤ most) (sum_same _ _ _ same) le

module _ (m : ℕ) (name : ℕ → List ℕ) where
  -- one row more
  pub row_lines_more : (n : ℕ) (rs : List EndRow) (r : EndRow) →
      row_lines m name n (rs ++ r ∷ []) ≡ row_lines m name n rs ++ row_line m name (n + length rs) r
  row_lines_more n [] r = append-nil (row_line m name n r) ∙ ap (λ k. row_line m name k r) (same n)
    where
      same : (k : ℕ) → k ≡ k + 0
      same k = omega arith
  row_lines_more n (s ∷ rs) r =
      ap (λ l. row_line m name n s ++ l) (row_lines_more (suc n) rs r)
      ∙ sym (append_assoc (row_line m name n s) (row_lines m name (suc n) rs) (row_line m name (suc n + length rs) r)) ∙
      ap (λ k. (row_line m name n s ++ row_lines m name (suc n) rs) ++ row_line m name k r) (same (length rs))
    where
      same : (k : ℕ) → suc n + k ≡ n + suc k
      same k = omega arith

  -- the same text of the same numbers
  pub text_as : (rs ss : List EndRow) (a b c d e n o p : ℕ) → rs ≡ ss → a ≡ b → c ≡ d → e ≡ n → o ≡ p →
      row_lines m name 1 rs ++ range_line a c e ++ states_line o ≡ row_lines m name 1 ss ++ range_line b d n ++ states_line p
  text_as rs ss a b c d e n o p x f g h i = λ j. row_lines m name 1 (x j) ++ range_line (f j) (g j) (h j) ++ states_line (i j)
