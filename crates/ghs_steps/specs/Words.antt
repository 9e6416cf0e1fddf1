-- The words that texts of steps have in common.
use Rattle.std.specs.Prelude.{ℕ, List, [], ◌∷◌, Option, Some, codes}
use Rattle.ghs_graph.specs.declared.key.Key.{Key}
use Rattle.ghs_node.specs.declared.mark.Mark.{Mark}
use Rattle.ghs_node.specs.declared.mark.Mark.TheVariants.{Basic, Branch, Rejected}
use Rattle.ghs_node.specs.declared.message.Message.{Message}
use Rattle.ghs_node.specs.declared.message.Message.TheVariants.{Connect, Initiate, Test, Accept, Reject, Report, ChangeRoot}
use Rattle.ghs_node.specs.declared.message.Phase.{Phase}
use Rattle.ghs_node.specs.declared.message.Phase.TheVariants.{Sleeping, Find, Found}
use Rattle.ghs_node.specs.declared.row_name.RowName.{RowName}
use Rattle.ghs_node.specs.declared.row_name.RowName.TheVariants as names
use Rattle.peer_words.specs.declared.value.Said.{Said}
use Rattle.peer_words.specs.declared.value.Saying.{Saying}
use Rattle.peer_words.specs.declared.value.Value.TheVariants.{Link, Number, Word}

abbrev pub phase_word : Phase → List ℕ
phase_word Sleeping = codes "sleeping"
phase_word Find = codes "find"
phase_word Found = codes "found"

abbrev pub mark_word : Mark → List ℕ
mark_word Basic = codes "basic"
mark_word Branch = codes "branch"
mark_word Rejected = codes "rejected"

-- the names that the table's rows have in PROTOCOL.md
abbrev pub row_word : RowName → List ℕ
row_word names.Wakes = codes "Wakes"
row_word names.WakesAlone = codes "Wakes_alone"
row_word names.WokenMerges = codes "Woken_merges"
row_word names.WokenConnectWaits = codes "Woken_connect_waits"
row_word names.WokenTestWaits = codes "Woken_test_waits"
row_word names.WokenAccepts = codes "Woken_accepts"
row_word names.ConnectAbsorbed = codes "Connect_absorbed"
row_word names.ConnectWaits = codes "Connect_waits"
row_word names.ConnectMerges = codes "Connect_merges"
row_word names.InitiateRests = codes "Initiate_rests"
row_word names.InitiateSearches = codes "Initiate_searches"
row_word names.TestWaits = codes "Test_waits"
row_word names.TestAccepted = codes "Test_accepted"
row_word names.TestRejected = codes "Test_rejected"
row_word names.TestsCross = codes "Tests_cross"
row_word names.AcceptHeard = codes "Accept_heard"
row_word names.RejectHeard = codes "Reject_heard"
row_word names.ReportHeard = codes "Report_heard"
row_word names.ReportWaits = codes "Report_waits"
row_word names.ReportMovesRoot = codes "Report_moves_root"
row_word names.RootMoves = codes "Root_moves"
row_word names.ReportHalts = codes "Report_halts"
row_word names.ReportPasses = codes "Report_passes"

abbrev pub level_said : ℕ → Said
level_said l = record { name = codes "level"; value = Number l }

abbrev pub key_said : Option Key → Said
key_said k = record { name = codes "key"; value = Link k }

abbrev pub phase_said : Phase → Said
phase_said s = record { name = codes "phase"; value = Word (phase_word s) }

-- a message in words
abbrev pub says : Message → Saying
says (Connect l) = record { kind = codes "connect"; carried = level_said l ∷ [] }
says (Initiate l f s) = record { kind = codes "initiate"; carried = level_said l ∷ key_said (Some f) ∷ phase_said s ∷ [] }
says (Test l f) = record { kind = codes "test"; carried = level_said l ∷ key_said (Some f) ∷ [] }
says Accept = record { kind = codes "accept"; carried = [] }
says Reject = record { kind = codes "reject"; carried = [] }
says (Report w) = record { kind = codes "report"; carried = key_said w ∷ [] }
says ChangeRoot = record { kind = codes "changeroot"; carried = [] }
