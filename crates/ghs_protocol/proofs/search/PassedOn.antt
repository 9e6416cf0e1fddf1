-- What a message that goes out on all Branch ports but one leaves on each port, and how many times it goes out.
use Rattle.std.proofs.Common.{◌≡◌, ℕ, zero, suc, ◌+◌, ◌<◌, ◌==◌, Bool, true, false, ◌&&◌, not, List, [], ◌∷◌, length, refl, sym, ◌∙◌, ap, cond, arith, get_or, eq-eqb, ne_eqb, add-zero, zero-add}
use Rattle.ghs_node.specs.declared.mark.Mark.{Mark}
use Rattle.ghs_node.specs.declared.mark.Mark.TheVariants.{Basic, Branch, Rejected}
use Rattle.ghs_node.specs.declared.message.Message.{Message}
use Rattle.ghs_node.specs.Words.{is_branch, on_branches, on_branches_from}
use Rattle.peer_network.specs.Sums.{sum_below}
use Rattle.ghs_protocol.specs.Steps.{sent_on}
use Rattle.peer_network.proofs.lemmas.Sums.{sum_same}

-- nothing goes out on a port that the walk has passed
passed : (ms : List Mark) (q j p : ℕ) (m : Message) → p < q → sent_on (on_branches_from q ms j m) p ≡ []
passed [] q j p m lt = refl
passed (Branch ∷ ms) q j p m lt =
    let rest = passed ms (suc q) j p m (omega arith) in
    elim (q == j) as
    (λ b. sent_on (cond b (on_branches_from (suc q) ms j m) ((q, m) ∷ on_branches_from (suc q) ms j m)) p ≡ [])
    [ true ↦ rest | false ↦ rw (ne_eqb q p (omega arith)) rest ]
passed (_ ∷ ms) q j p m lt = passed ms (suc q) j p m (omega arith)

forward_at : (ms : List Mark) (q j i : ℕ) (m : Message) →
    sent_on (on_branches_from q ms j m) (q + i) ≡ cond (is_branch (get_or ms i Rejected) && not (q + i == j)) (m ∷ []) []
forward_at [] q j i m = refl
forward_at (Branch ∷ ms) q j zero m = rw add-zero (go (q == j) refl)
  where
    past : sent_on (on_branches_from (suc q) ms j m) q ≡ []
    past = passed ms (suc q) j q m (omega arith)

    go : (b : Bool) →
        (q == j) ≡ b →
        sent_on (cond b (on_branches_from (suc q) ms j m) ((q, m) ∷ on_branches_from (suc q) ms j m)) q ≡ cond (not (q == j)) (m ∷ []) []
    go true e = rw (past, e)
    go false e = rw (eq-eqb q q refl, past, e)
forward_at (Basic ∷ ms) q j zero m = rw add-zero (passed ms (suc q) j q m (omega arith))
forward_at (Rejected ∷ ms) q j zero m = rw add-zero (passed ms (suc q) j q m (omega arith))
forward_at (Branch ∷ ms) q j (suc i) m =
    let n : q + suc i ≡ suc q + i = omega arith in
    let rest = forward_at ms (suc q) j i m in
    rw n (elim (q == j) as (λ b.
    sent_on (cond b (on_branches_from (suc q) ms j m) ((q, m) ∷ on_branches_from (suc q) ms j m)) (suc q + i) ≡
    cond (is_branch (get_or ms i Rejected) && not (suc q + i == j)) (m ∷ []) [])
    [ true ↦ rest | false ↦ rw (ne_eqb q (suc q + i) (omega arith)) rest ])
forward_at (Basic ∷ ms) q j (suc i) m = let n : q + suc i ≡ suc q + i = omega arith in rw n (forward_at ms (suc q) j i m)
forward_at (Rejected ∷ ms) q j (suc i) m = let n : q + suc i ≡ suc q + i = omega arith in rw n (forward_at ms (suc q) j i m)

-- the message goes out on p just where p is a Branch port other than j, and once
pub forwards_on : (ms : List Mark) (j p : ℕ) (m : Message) →
    sent_on (on_branches ms j m) p ≡ cond (is_branch (get_or ms p Rejected) && not (p == j)) (m ∷ []) []
forwards_on ms j p m = rw zero-add at (forward_at ms 0 j p m)

-- a sum, its first term taken apart
sum_first : (n : ℕ) (f : ℕ → ℕ) → sum_below (suc n) f ≡ f 0 + sum_below n (λ i. f (suc i))
sum_first zero f = omega arith
sum_first (suc n) f = let z = sum_first n f in omega (arith, z)

-- one for each Branch port but j, counted from q
abbrev pub one_on : List Mark → ℕ → ℕ → ℕ → ℕ
one_on ms q j i = cond (is_branch (get_or ms i Rejected) && not (q + i == j)) 1 0

one_more : {A : Type 0} (b : Bool) (xs : List A) (x : A) → length (cond b xs (x ∷ xs)) ≡ length xs + cond (not b) 1 0
one_more true xs x = omega arith
one_more false xs x = omega arith

count_at : (ms : List Mark) (q j : ℕ) (m : Message) → length (on_branches_from q ms j m) ≡ sum_below (length ms) (one_on ms q j)
count_at [] q j m = refl
count_at (k ∷ ms) q j m = here k (count_at ms (suc q) j m)
  where
    moved : sum_below (length ms) (one_on ms (suc q) j) ≡ sum_below (length ms) (λ i. one_on (k ∷ ms) q j (suc i))
    moved =
        sum_same (length ms) _ _
        (λ i lt. let n : suc q + i ≡ q + suc i = omega arith in ap (λ z. cond (is_branch (get_or ms i Rejected) && not (z == j)) 1 0) n)

    rest :
        length (on_branches_from (suc q) ms j m) ≡ sum_below (length ms) (one_on ms (suc q) j) →
        (k : Mark) → length (on_branches_from (suc q) ms j m) + one_on (k ∷ ms) q j 0 ≡ sum_below (suc (length ms)) (one_on (k ∷ ms) q j)
    rest ih k =
        let z = sum_first (length ms) (one_on (k ∷ ms) q j) in
        let y : sum_below (length ms) (one_on ms (suc q) j) ≡ sum_below (length ms) (λ i. one_on (k ∷ ms) q j (suc i)) = moved in
        omega (arith, ih, y, z)

    here : (k : Mark) →
        length (on_branches_from (suc q) ms j m) ≡ sum_below (length ms) (one_on ms (suc q) j) →
        length (on_branches_from q (k ∷ ms) j m) ≡ sum_below (suc (length ms)) (one_on (k ∷ ms) q j)
    here Basic ih = let z = rest ih Basic in omega (arith, z)
    here Rejected ih = let z = rest ih Rejected in omega (arith, z)
    here Branch ih =
        let e : q + 0 ≡ q = omega arith in
        one_more (q == j) (on_branches_from (suc q) ms j m) (q, m) ∙
        ap (λ z. length (on_branches_from (suc q) ms j m) + cond (not (z == j)) 1 0) (sym e) ∙ rest ih Branch

-- how many times it goes out
pub forwards_many : (ms : List Mark) (j : ℕ) (m : Message) → length (on_branches ms j m) ≡ sum_below (length ms) (one_on ms 0 j)
forwards_many ms j m = count_at ms 0 j m
