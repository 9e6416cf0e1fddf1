-- Steps along the branches of a node.
use Rattle.std.proofs.Common.{◌≡◌, ◌≢◌, ℕ, suc, ◌+◌, ◌<◌, ◌≤◌, List, ◌∷◌, ◌++◌, length, length-append, drop, get_or, refl, ap, arith, add-one, drop-cons, eq-eqb, ne_eqb}
use Rattle.ghs_node.specs.declared.mark.Mark.{Mark}
use Rattle.ghs_node.specs.declared.mark.Mark.TheVariants.{Basic, Branch, Rejected}
use Rattle.ghs_node.specs.declared.message.Message.{Message}
use Rattle.ghs_node.specs.Words.{Outgoing, on_branches, on_branches_from}

pub branches_here : (ms : List Mark) (i j : ℕ) (m : Message) → i < length ms → get_or ms i Rejected ≡ Branch → i ≢ j
    → on_branches_from i (drop i ms) j m ≡ (i, m) ∷ on_branches_from (i + 1) (drop (i + 1) ms) j m
branches_here ms i j m lt e ne = rw (drop-cons ms i Rejected lt, e, ne_eqb i j ne, add-one)

pub branches_past : (ms : List Mark) (i j : ℕ) (m : Message) → i < length ms → (get_or ms i Rejected ≡ Branch → i ≡ j)
    → on_branches_from i (drop i ms) j m ≡ on_branches_from (i + 1) (drop (i + 1) ms) j m
branches_past ms i j m lt h = rw (drop-cons ms i Rejected lt, add-one) (go (get_or ms i Rejected) h)
  where
    go : (k : Mark) → (k ≡ Branch → i ≡ j) → on_branches_from i (k ∷ drop (suc i) ms) j m ≡ on_branches_from (suc i) (drop (suc i) ms) j m
    go Basic f = refl
    go Branch f = rw (eq-eqb i j (f refl))
    go Rejected f = refl

-- what has gone out so far, with the rest, is what was there before, with a message for each branch: so there is a branch
pub some_branch : (ms : List Mark) (i j : ℕ) (m : Message) (old sent : Outgoing) → i < length ms → get_or ms i Rejected ≡ Branch → i ≢ j
    → length old ≤ length sent → sent ++ on_branches_from i (drop i ms) j m ≡ old ++ on_branches ms j m → 0 < length (on_branches ms j m)
some_branch ms i j m old sent lt e ne grown same =
    let here = ap length (branches_here ms i j m lt e ne) in
    let all = ap length same in
    omega (arith, length-append sent (on_branches_from i (drop i ms) j m), length-append old (on_branches ms j m))
