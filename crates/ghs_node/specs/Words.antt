-- Small words on messages, marks and ports.
use Rattle.std.specs.Prelude.{ℕ, zero, suc, Bool, true, false, ◌&&◌, ◌==◌, Option, Some, None, List, [], ◌∷◌, if◌then◌else◌, position}
use Rattle.ghs_graph.specs.declared.key.Key.{Key}
use Rattle.ghs_graph.specs.Key.{key_lt}
use Rattle.ghs_node.specs.declared.mark.Mark.{Mark}
use Rattle.ghs_node.specs.declared.mark.Mark.TheVariants.{Basic, Branch, Rejected}
use Rattle.ghs_node.specs.declared.message.Phase.{Phase}
use Rattle.ghs_node.specs.declared.message.Phase.TheVariants.{Sleeping, Find, Found}
use Rattle.ghs_node.specs.declared.message.Message.{Message}

-- messages with the ports they go out on, in the order of sending
abbrev pub Outgoing : Type 0
Outgoing = List (ℕ × Message)

-- an outgoing link: the port that leads to it, and its key
abbrev pub Best : Type 0
Best = Option (ℕ × Key)

abbrev pub key_eq : Key → Key → Bool
key_eq k l = (k.weight == l.weight) && ((k.a == l.a) && (k.b == l.b))

-- the first key is less; a missing key stands for infinity
abbrev pub below : Option Key → Option Key → Bool
below (Some k) (Some l) = key_lt k l
below (Some k) None = true
below None l = false

-- a missing name differs from every key
abbrev pub is_name : Option Key → Key → Bool
is_name None k = false
is_name (Some n) k = key_eq n k

abbrev pub is_basic : Mark → Bool
is_basic Basic = true
is_basic Branch = false
is_basic Rejected = false

abbrev pub is_branch : Mark → Bool
is_branch Basic = false
is_branch Branch = true
is_branch Rejected = false

abbrev pub is_sleeping : Phase → Bool
is_sleeping Sleeping = true
is_sleeping Find = false
is_sleeping Found = false

abbrev pub is_find : Phase → Bool
is_find Sleeping = false
is_find Find = true
is_find Found = false

-- the place is this port
abbrev pub is_at : Option ℕ → ℕ → Bool
is_at None j = false
is_at (Some p) j = p == j

abbrev pub is_missing : Option ℕ → Bool
is_missing None = true
is_missing (Some p) = false

abbrev pub is_zero : ℕ → Bool
is_zero zero = true
is_zero (suc n) = false

-- the least Basic port
abbrev pub least_basic : List Mark → Option ℕ
least_basic ms = position is_basic ms

-- the message on each Branch port but j, in port order; the first mark is that of port p
abbrev pub on_branches_from : ℕ → List Mark → ℕ → Message → Outgoing
on_branches_from p [] j m = []
on_branches_from p (Basic ∷ ms) j m = on_branches_from (suc p) ms j m
on_branches_from p (Branch ∷ ms) j m = if p == j then on_branches_from (suc p) ms j m else ((p, m) ∷ on_branches_from (suc p) ms j m)
on_branches_from p (Rejected ∷ ms) j m = on_branches_from (suc p) ms j m

abbrev pub on_branches : List Mark → ℕ → Message → Outgoing
on_branches ms j m = on_branches_from 0 ms j m

abbrev pub best_key : Best → Option Key
best_key None = None
best_key (Some b) = Some b.1

-- the lesser of the best so far and a key heard of at a port
abbrev pub better : Best → ℕ → Option Key → Best
better best j None = best
better best j (Some w) = if below (Some w) (best_key best) then Some (j, w) else best

-- one Report more to wait for, where the node is in search
abbrev pub find_more : Phase → ℕ → ℕ
find_more Sleeping c = c
find_more Find c = suc c
find_more Found c = c
