-- Kinds of messages.
use Rattle.std.specs.Prelude.{ℕ}
use Rattle.ghs_node.specs.declared.kind.Kind.{Kind}
use Rattle.ghs_node.specs.declared.kind.Kind.TheVariants as kinds
use Rattle.ghs_node.specs.declared.message.Message.{Message}
use Rattle.ghs_node.specs.declared.message.Message.TheVariants.{Connect, Initiate, Test, Accept, Reject, Report, ChangeRoot}

abbrev pub kind_of : Message → Kind
kind_of (Connect l) = kinds.Connect
kind_of (Initiate l f s) = kinds.Initiate
kind_of (Test l f) = kinds.Test
kind_of Accept = kinds.Accept
kind_of Reject = kinds.Reject
kind_of (Report w) = kinds.Report
kind_of ChangeRoot = kinds.ChangeRoot

-- the place of a kind in a ledger, 0 to 6
abbrev pub place_of : Kind → ℕ
place_of kinds.Connect = 0
place_of kinds.Initiate = 1
place_of kinds.Test = 2
place_of kinds.Accept = 3
place_of kinds.Reject = 4
place_of kinds.Report = 5
place_of kinds.ChangeRoot = 6
