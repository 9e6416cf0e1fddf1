-- How the two ends of a link stand to each other: e is this end, f the far one.
use Rattle.std.specs.Prelude.{◌≡◌, ◌≢◌, Some}
use Rattle.ghs_node.specs.declared.mark.Mark.TheVariants.{Branch}
use Rattle.ghs_protocol.proofs.clauses.Scene.{TreeEnd}

-- Branch at both ends
pub record Joins (e f : TreeEnd) : Type 0 where
  pub here : e.mark ≡ Branch
  pub there : f.mark ≡ Branch

-- Branch here only: a Connect has gone out
pub record Out (e f : TreeEnd) : Type 0 where
  pub here : e.mark ≡ Branch
  pub there : f.mark ≢ Branch

-- this end is its node's way to the root
abbrev pub Ups : TreeEnd → Type 0
Ups e = e.up ≡ Some e.port

-- e is the child's end, f its parent's
pub record Child (e f : TreeEnd) : Type 0 where
  pub joins : Joins e f
  pub up : Ups e
  pub down : f.up ≢ Some f.port

-- each end is the other's way: a root link
pub record Mutual (e f : TreeEnd) : Type 0 where
  pub joins : Joins e f
  pub up : Ups e
  pub up_beyond : Ups f
