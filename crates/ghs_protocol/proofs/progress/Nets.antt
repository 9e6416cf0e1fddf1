-- From the clauses of one net to its message that doesn't wait.
use Rattle.std.proofs.Common.{ℕ, Bool, List, [], ◌∷◌, arith}
use Rattle.std.specs.List.{All}
use Rattle.std.proofs.lemmas.List.Elements.{All-cons}
use Rattle.ghs_node.specs.declared.message.Message.{Message}
use Rattle.ghs_node.specs.declared.message.Message.TheVariants.{Connect, Initiate, Test, Accept, Reject, Report, ChangeRoot}
use Rattle.ghs_node.specs.NodeState.{NodeState}
use Rattle.peer_network.specs.Network.{Network}
use Rattle.ghs_protocol.specs.Net.{Net}
use Rattle.ghs_protocol.proofs.clauses.Scene.{Ghost, scene}
use Rattle.ghs_protocol.proofs.clauses.Wiring.{Ground}
use Rattle.ghs_protocol.proofs.clauses.Whole.{Invariant}
use Rattle.ghs_protocol.specs.Living.{Waits, Unended, GoesOn}
use Rattle.ghs_protocol.proofs.clauses.UnderWay.{Living}
use Rattle.ghs_protocol.specs.Living as living
use Rattle.ghs_protocol.proofs.progress.Scenes.{ConnectsLeast}
use Rattle.ghs_protocol.proofs.progress.Found.{node_waits, Found_one, goes_on}
use Rattle.ghs_protocol.proofs.progress.OneWaits.{few}
use Rattle.ghs_protocol.proofs.progress.BothBegun.{AllOf}

pub so : (n : NodeState) (p : ℕ) (x : Message) → node_waits n p x → Waits n p x
so n p (Connect l) h = living.Connect_waits h.0 h.1 h.2
so n p (Report k) h = living.Report_waits h.0 h.1
so n p (Test l f) h = living.Test_waits h.0 h.1
so n p (Initiate l f s) h = elim h [ ]
so n p ChangeRoot h = elim h [ ]
so n p Accept h = elim h [ ]
so n p Reject h = elim h [ ]

pub back : (n : NodeState) (p : ℕ) (x : Message) → Waits n p x → node_waits n p x
back n p _ (living.Connect_waits a b c) = (a, b, c)
back n p _ (living.Report_waits a b) = (a, b)
back n p _ (living.Test_waits a b) = (a, b)

all_so : (n : NodeState) (p : ℕ) (xs : List Message) → AllOf (node_waits n p) xs → All (Waits n p) xs
all_so n p [] h = λ k d lt. absurd (omega arith)
all_so n p (x ∷ xs) h = All-cons (Waits n p) x xs (so n p x h.0) (all_so n p xs h.1)

-- what is found goes on
pub found_goes : (g : Network) → Ground g → (w : Net) (gh : Ghost) → Invariant g (scene w gh) → (S : ℕ → Bool) → Found_one g w S → GoesOn g w S
found_goes g ground w gh holds S z = record {
  node = z.node;
  port = z.port;
  at = z.at;
  member = z.member;
  before = z.place.before;
  message = z.place.message;
  behind = z.place.behind;
  queue = z.place.whole;
  waiting = all_so (w.node z.node) z.port z.place.before z.place.all;
  few = few g ground.wired z.node z.port z.at w gh holds z.place;
  goes = λ h. z.place.goes (back (w.node z.node) z.port z.place.message h);
}

module _ (g : Network) (ground : Ground g) (w : Net) (gh : Ghost) (holds : Invariant g (scene w gh)) (lives : Living g (scene w gh))
    (S : ℕ → Bool) (going : Unended g w S) where
  -- behind one message that waits at most, one that doesn't
  pub progress : ConnectsLeast g (scene w gh) → GoesOn g w S
  progress least = found_goes g ground w gh holds S (goes_on g ground w gh holds lives S going least)
