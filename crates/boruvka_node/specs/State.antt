-- A node's state.
use Rattle.std.specs.Prelude.{ℕ, Bool, false, ◌&&◌, ◌||◌, ◌==◌, nat_lt, Option, None, List, length, map, replicate, slice_index_or, slice_set, count_by, position, unwrap_or}
use Rattle.ghs_graph.specs.declared.key.Key.{Key}
use Rattle.ghs_graph.specs.declared.port.Port.{Port}
use Rattle.ghs_graph.specs.Key.{no_key}
use Rattle.ghs_node.specs.Words.{is_name}
use Rattle.boruvka_node.specs.declared.head.Head.{Head}
use Rattle.boruvka_node.specs.declared.mark.Mark.{Mark}
use Rattle.boruvka_node.specs.declared.mark.Mark.TheVariants.{Basic, Inside}
use Rattle.boruvka_node.specs.declared.message.Phase.TheVariants.{Sleeping}
use Rattle.boruvka_node.specs.declared.port_state.PortState.{PortState}
use Rattle.boruvka_node.specs.Words.{is_basic}

-- a node: its number, the keys of its ports in key order, what it keeps of each port, and its own variables
pub record State : Type 0 where
  pub number : ℕ
  pub keys : List Key
  pub ports : List PortState
  pub head : Head

-- a port that nothing has happened at
abbrev pub fresh_port : PortState
fresh_port = record { mark = Basic; owes = false; level = 0; name = None }

-- stands where no port is
abbrev pub no_port : PortState
no_port = record { mark = Inside; owes = false; level = 0; name = None }

-- the head of a node that nothing has happened to
abbrev pub untouched : Head
untouched = record { level = 0; name = None; phase = Sleeping; parent = None; best = None; out = None; halted = false }

-- the opening node: asleep, its ports Basic
abbrev pub sleeper : ℕ → List Port → State
sleeper v ps = record { number = v; keys = map (λ (p : Port). p.key) ps; ports = replicate (length ps) fresh_port; head = untouched }

abbrev pub key_at : State → ℕ → Key
key_at n p = slice_index_or n.keys p no_key

abbrev pub port_at : State → ℕ → PortState
port_at n p = slice_index_or n.ports p no_port

abbrev pub mark_at : State → ℕ → Mark
mark_at n p = (port_at n p).mark

-- how many ports a node has
abbrev pub degree : State → ℕ
degree n = length n.ports

-- one port changes
abbrev pub set_port : State → ℕ → PortState → State
set_port n p x = record n { ports = slice_set n.ports p x }

abbrev pub set_mark : State → ℕ → Mark → State
set_mark n p m = set_port n p (record (port_at n p) { mark = m })

-- level l and name f are what was heard last at the port
abbrev pub was_heard : ℕ → Key → PortState → Bool
was_heard l f x = (x.level == l) && is_name x.name f

-- a search at level l wants for something from the port: a Report that is owed, or from a Basic port a Name of the level or above
abbrev pub is_missing : ℕ → PortState → Bool
is_missing l x = x.owes || (is_basic x.mark && nat_lt x.level l)

abbrev pub missing : State → ℕ
missing n = count_by (is_missing n.head.level) n.ports

-- how many Reports are owed to the node
abbrev pub awaits : State → ℕ
awaits n = count_by (λ (x : PortState). x.owes) n.ports

-- the least Basic port
abbrev pub least_basic : List PortState → Option ℕ
least_basic ps = position (λ (x : PortState). is_basic x.mark) ps

-- Where a name is missing this stands in for it; no run meets it.
abbrev pub name_of : Head → Key
name_of h = unwrap_or h.name no_key
