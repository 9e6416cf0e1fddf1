-- What differs at a node after an event.
use Rattle.std.specs.Prelude.{ℕ, zero, suc, Bool, ◌&&◌, List, [], ◌∷◌, ◌++◌, if◌then◌else◌}
use Rattle.std.specs.List.{flat_map, list_any}
use Rattle.std.specs.Str.{bytes_eq}
use Rattle.peer_words.specs.declared.value.Said.{Said}
use Rattle.peer_words.specs.Same.{is_same_value}
use Rattle.peer_words.specs.Words.{Words}
use Rattle.peer_steps.specs.declared.change.Change.{Change}
use Rattle.peer_steps.specs.declared.change.Change.TheVariants.{Mark, Variable, Gone}

-- the change, unless it is none
unfoldable pub unless : Bool → Change → List Change
unless same c = if same then [] else (c ∷ [])

-- a variable of the same name, and one with the same value too
abbrev pub is_named : Said → Said → Bool
is_named x y = bytes_eq y.name x.name

abbrev pub is_said : Said → Said → Bool
is_said x y = is_named x y && is_same_value y.value x.value

-- a variable, unless it was there with the same value; and the name of one that was there, unless it is there still
abbrev pub variable_change : List Said → Said → List Change
variable_change old y = unless (list_any (is_said y) old) (Variable y)

abbrev pub gone_change : List Said → Said → List Change
gone_change new x = unless (list_any (is_named x) new) (Gone x.name)

-- the variables that are new or have another value, in their order; then those that are gone, in theirs
abbrev pub variable_changes : List Said → List Said → List Change
variable_changes old new = flat_map (variable_change old) new ++ flat_map (gone_change new) old

module _ {S M : Type 0} (words : Words S M) (old new : S) where
  -- the mark of a port, if it differs
  abbrev pub mark_change : ℕ → List Change
  mark_change p = unless (bytes_eq (words.mark old p) (words.mark new p)) (Mark p (words.mark new p))

  -- the marks that differ among the first k ports, port by port
  abbrev pub marks_below : ℕ → List Change
  marks_below zero = []
  marks_below (suc k) = marks_below k ++ mark_change k

  -- of a node with so many ports: each mark and each variable at most once, in the order of the texts
  abbrev pub changes : ℕ → List Change
  changes ports = marks_below ports ++ variable_changes (words.variables old) (words.variables new)
