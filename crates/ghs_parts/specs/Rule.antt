-- The rows of the table of rules, in its order.
use Rattle.std.specs.Prelude.{ℕ, List, [], ◌∷◌}
use Rattle.std.specs.List.{slice_index_or}
use Rattle.ghs_node.specs.declared.row_name.RowName.{RowName}
use Rattle.ghs_node.specs.declared.row_name.RowName.TheVariants as names

abbrev pub rules : List RowName
rules =
    names.Wakes
    ∷ names.WakesAlone
    ∷ names.WokenMerges
    ∷ names.WokenConnectWaits
    ∷ names.WokenTestWaits
    ∷ names.WokenAccepts
    ∷ names.ConnectAbsorbed
    ∷ names.ConnectWaits
    ∷ names.ConnectMerges
    ∷ names.InitiateRests
    ∷ names.InitiateSearches
    ∷ names.TestWaits
    ∷ names.TestAccepted
    ∷ names.TestRejected
    ∷ names.TestsCross
    ∷ names.AcceptHeard
    ∷ names.RejectHeard
    ∷ names.ReportHeard
    ∷ names.ReportWaits
    ∷ names.ReportMovesRoot
    ∷ names.RootMoves
    ∷ names.ReportHalts
    ∷ names.ReportPasses
    ∷ []

-- the row at a place, the first one where there is no such place
abbrev pub rule_at : ℕ → RowName
rule_at p = slice_index_or rules p names.Wakes

-- the place of a row
abbrev pub rule_place : RowName → ℕ
rule_place names.Wakes = 0
rule_place names.WakesAlone = 1
rule_place names.WokenMerges = 2
rule_place names.WokenConnectWaits = 3
rule_place names.WokenTestWaits = 4
rule_place names.WokenAccepts = 5
rule_place names.ConnectAbsorbed = 6
rule_place names.ConnectWaits = 7
rule_place names.ConnectMerges = 8
rule_place names.InitiateRests = 9
rule_place names.InitiateSearches = 10
rule_place names.TestWaits = 11
rule_place names.TestAccepted = 12
rule_place names.TestRejected = 13
rule_place names.TestsCross = 14
rule_place names.AcceptHeard = 15
rule_place names.RejectHeard = 16
rule_place names.ReportHeard = 17
rule_place names.ReportWaits = 18
rule_place names.ReportMovesRoot = 19
rule_place names.RootMoves = 20
rule_place names.ReportHalts = 21
rule_place names.ReportPasses = 22
