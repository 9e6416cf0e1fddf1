-- What differs at a node after a reaction.
use Rattle.std.specs.Prelude.{ℕ, Bool, true, false, not, ◌&&◌, ◌||◌, ◌==◌, Option, Some, None, List, [], ◌∷◌, ◌++◌, if◌then◌else◌}
use Rattle.ghs_graph.specs.declared.key.Key.{Key}
use Rattle.ghs_node.specs.declared.head.Head.{Head}
use Rattle.ghs_node.specs.declared.delta.Delta.{Delta}
use Rattle.ghs_node.specs.declared.mark.Mark.{Mark}
use Rattle.ghs_node.specs.declared.mark.Mark.TheVariants.{Basic, Branch, Rejected}
use Rattle.ghs_node.specs.Phases.{same_phase}
use Rattle.ghs_node.specs.Words.{Best, key_eq, is_basic, is_branch}
use Rattle.ghs_node.specs.NodeState.{NodeState, mark_at}
use Rattle.ghs_steps.specs.declared.change.Change.{Change}
use Rattle.ghs_steps.specs.declared.change.Change.TheVariants as change

abbrev pub same_mark : Mark → Mark → Bool
same_mark Basic m = is_basic m
same_mark Branch m = is_branch m
same_mark Rejected m = not (is_basic m) && not (is_branch m)

abbrev pub same_key : Option Key → Option Key → Bool
same_key None None = true
same_key None (Some l) = false
same_key (Some k) None = false
same_key (Some k) (Some l) = key_eq k l

abbrev pub same_port : Option ℕ → Option ℕ → Bool
same_port None None = true
same_port None (Some q) = false
same_port (Some p) None = false
same_port (Some p) (Some q) = p == q

abbrev pub same_best : Best → Best → Bool
same_best None None = true
same_best None (Some c) = false
same_best (Some b) None = false
same_best (Some b) (Some c) = (b.0 == c.0) && key_eq b.1 c.1

-- the change, unless it is none
unfoldable pub unless : Bool → Change → List Change
unless same c = if same then [] else (c ∷ [])

-- a reaction sets one mark at most, perhaps to what it was
abbrev pub mark_change : NodeState → Option (ℕ × Mark) → List Change
mark_change n None = []
mark_change n (Some m) = unless (same_mark (mark_at n m.0) m.1) (change.Mark m.0 m.1)

-- the variables that differ: of the fragment, and of the search
abbrev pub fragment_changes : Head → Head → List Change
fragment_changes old new =
    unless (old.level == new.level) (change.Level new.level)
    ++ unless (same_key old.name new.name) (change.Name new.name)
    ++ unless (same_phase old.phase new.phase) (change.Phase new.phase)
    ++ unless (old.find_count == new.find_count) (change.FindCount new.find_count)

abbrev pub search_changes : Head → Head → List Change
search_changes old new =
    unless (same_port old.in_branch new.in_branch) (change.InBranch new.in_branch)
    ++ unless (same_best old.best new.best) (change.Best new.best)
    ++ unless (same_port old.probe new.probe) (change.Probe new.probe)
    ++ unless (old.halted || not new.halted) change.Halted

-- in the order of the texts, each at most once
abbrev pub changes : NodeState → Delta → List Change
changes n d = mark_change n d.mark ++ fragment_changes n.head d.head ++ search_changes n.head d.head
