-- A reaction that is being worked out.
use Rattle.std.specs.Prelude.{◌≡◌, ℕ, Option, None, Some, [], if◌then◌else◌}
use Rattle.boruvka_node.specs.declared.change.Change.{Change}
use Rattle.boruvka_node.specs.declared.draft.Draft.{Draft}
use Rattle.boruvka_node.specs.Words.{is_sleeping}
use Rattle.boruvka_node.specs.State.{State}
use Rattle.boruvka_node.specs.Entering.{after}
use Rattle.boruvka_node.specs.Reaction.{Outcome, GoingOut, silent, says, wakes}

-- nothing is done yet
pub record IsBlank (n : State) (d : Draft) : Type 0 where
  pub head : d.head ≡ n.head
  pub port : d.port ≡ None
  pub entry : d.entry ≡ None
  pub sends : d.sends.items ≡ []

abbrev pub change_of : Draft → Change
change_of d = record { head = d.head; port = d.port; entry = d.entry }

-- the node as the draft has it
abbrev pub drafted : State → Draft → State
drafted n d = after n (change_of d)

-- what the draft comes to, going on with an outcome
abbrev pub goes_on : Draft → Option Outcome → Option Outcome
goes_on d o = says d.sends.items o

-- and with nothing more
abbrev pub is_done : State → Draft → Option Outcome
is_done n d = goes_on d (silent (drafted n d))

-- if there is a rule, its outcome is what the draft has
abbrev pub Gives : State → Option Outcome → Draft → Type 0
Gives n None d = Unit {0}
Gives n (Some o) d = o ≡ record { state = drafted n d; sends = d.sends.items }

-- out over a port, or no more to do
abbrev pub goes_out_if : GoingOut → State → Option ℕ → Option Outcome
goes_out_if go n None = silent n
goes_out_if go n (Some p) = go n p

-- a reaction to a message begins: a sleeper wakes first
abbrev pub begun : State → Option Outcome
begun n = if is_sleeping n.head.phase then wakes n else silent n
