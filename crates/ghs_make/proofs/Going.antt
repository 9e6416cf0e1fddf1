-- A network's text, node by node.
use Rattle.std.proofs.Common.{◌≡◌, ◌∙◌, ℕ, zero, suc, ◌+◌, ◌-◌, ◌<◌, ◌≤◌, List, [], ◌∷◌, ◌++◌, append_assoc, append-nil, refl, ap, sym, subst, arith, ⊎_elim, add-one}
use Rattle.std.specs.Prelude.{Option}
use Rattle.std.proofs.lemmas.Bool.{cases_lt}
use Rattle.std.specs.List.{flat_map}
use Rattle.std.proofs.lemmas.List.Concat.{flat_map-append}
use Rattle.ghs_make.specs.Ends.{smaller_ends}
use Rattle.ghs_make.specs.Network.{count_of_nodes, links_at, links_of_nodes}
use Rattle.ghs_make.specs.Text.{arc_line, head_of, text_of}
use Rattle.ghs_report.specs.Written.{IsOut, IsFront}
use Rattle.ghs_make.specs.declared.network.Network.{Network}
use Rattle.ghs_report.specs.declared.portions.WriteFault.{WriteFault}
use Rattle.ghs_make.proofs.Counts.{links_more, links_none}
use Rattle.ghs_report.proofs.lemmas.Gone.{front_longer, out_more}

-- the text of so many nodes from 2 on
abbrev pub text_to : Network → ℕ → List ℕ
text_to n k = head_of n ++ flat_map arc_line (links_of_nodes n k)

abbrev pub node_lines : Network → ℕ → List ℕ
node_lines n k = flat_map arc_line (links_at n (count_of_nodes n.plan k) (k + 2) (smaller_ends n.plan (k + 2)))

pub text_none : (n : Network) → text_to n 0 ≡ head_of n
text_none n = ap (λ ls. head_of n ++ flat_map arc_line ls) (links_none n) ∙ append-nil (head_of n)

pub text_more : (n : Network) (k : ℕ) → text_to n (k + 1) ≡ text_to n k ++ node_lines n k
text_more n k =
    let new = links_at n (count_of_nodes n.plan k) (k + 2) (smaller_ends n.plan (k + 2)) in
    ap (λ ls. head_of n ++ flat_map arc_line ls) (links_more n k)
    ∙ ap (λ t. head_of n ++ t) (flat_map-append arc_line (links_of_nodes n k) new)
    ∙ sym (append_assoc (head_of n) (flat_map arc_line (links_of_nodes n k)) (flat_map arc_line new))

pub text_whole : (n : Network) → text_to n (n.plan.nodes - 1) ≡ text_of n
unfolding text_of
text_whole n = refl

-- a longer text begins as a shorter one
begins : (n : Network) (k m : ℕ) → k ≤ m → (more : List ℕ) × (text_to n m ≡ text_to n k ++ more)
begins n k zero le = let none : k ≡ 0 = omega (arith, le) in ([], rw none (sym (append-nil (text_to n 0))))
begins n k (suc m) le = ⊎_elim
    (λ below.
    let low : k ≤ m = omega (arith, below) in
    let inner = begins n k m low in
    let one : suc m ≡ m + 1 = omega arith in (
      inner.0 ++ node_lines n m,
      ap (text_to n) one ∙ text_more n m ∙ ap (λ t. t ++ node_lines n m) inner.1 ∙ append_assoc (text_to n k) inner.0 (node_lines n m),
    ))
    (λ here. let same : suc m ≡ k = omega (arith, here, le) in ([], ap (text_to n) same ∙ sym (append-nil (text_to n k))))
    (cases_lt k (suc m))

pub front_of_all : (old now : Option (List ℕ)) (n : Network) (k : ℕ) (f : WriteFault) → k ≤ n.plan.nodes - 1 → IsFront old now (text_to n k) f
    → IsFront old now (text_of n) f
front_of_all old now n k f le front =
    let more = begins n k (n.plan.nodes - 1) le in
    rw (← text_whole n, more.1) (front_longer old now (text_to n k) more.0 f front)

-- the lines of one more node wait
pub out_node : (old now : Option (List ℕ)) (n : Network) (k number gone : ℕ) (rest rest' : List ℕ) → number ≡ count_of_nodes n.plan k
    → IsOut old now (text_to n k) gone rest → rest' ≡ rest ++ flat_map arc_line (links_at n number (k + 2) (smaller_ends n.plan (k + 2)))
    → IsOut old now (text_to n (k + 1)) gone rest'
out_node old now n k number gone rest rest' counted out text =
    rw (text_more n k, text, counted) (out_more old now (text_to n k) rest (node_lines n k) gone out)
