-- Worked examples, computed from the definitions.
use Rattle.std.proofs.Common.{◌≡◌, ℕ, List, [], ◌∷◌, ◌++◌, codes, refl, slice_index_or}
use Rattle.std.specs.Fmt.{digits}
use Rattle.ghs_report.specs.ReportText.{messages_line, named, sends_line}
use Rattle.ghs_report.specs.TreeText.{tree_text}

abbrev line : List ℕ → List ℕ
line text = text ++ 10 ∷ []

-- a triangle with weights 1, 2, 3
triangle-tree :
    tree_text (record { weight = 1; a = 1; b = 2 } ∷ record { weight = 2; a = 2; b = 3 } ∷ []) ≡
    line (codes "t 1 2 1") ++ line (codes "t 2 3 2") ++ line (codes "w 3")
unfolding tree_text digits
triangle-tree = refl

-- a graph without links
no-tree : tree_text [] ≡ line (codes "w 0")
unfolding tree_text digits
no-tree = refl

-- two nodes and a link of weight 5: two Connects, two Initiates and two Reports
abbrev sent_by_two : ℕ → ℕ
sent_by_two k = slice_index_or (2 ∷ 2 ∷ 0 ∷ 0 ∷ 0 ∷ 2 ∷ 0 ∷ []) k 0

two-messages : messages_line sent_by_two ≡ line (codes "m connect=2 initiate=2 test=0 accept=0 reject=0 report=2 changeroot=0")
unfolding named digits
two-messages = refl

two-sends : sends_line 6 12 ≡ line (codes "s 6 12")
unfolding named digits
two-sends = refl
