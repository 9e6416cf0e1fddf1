-- Ports: a node's places in the rising list of the keys that have it as an end.
use Rattle.std.specs.Prelude.{◌≡◌, ℕ, ◌&&◌, ◌==◌, Some, List, filter, map, count_by, slice_get, if◌then◌else◌}
use Rattle.ghs_graph.specs.declared.key.Key.{Key}
use Rattle.ghs_graph.specs.declared.port.Port.{Port}
use Rattle.ghs_graph.specs.Key.{no_key, key_lt, ends_at}

-- stands where a lookup in a list of ports wants a default
abbrev pub no_port : Port
no_port = record { key = no_key; far = 0; far_port = 0 }

-- the keys that have the node as an end
abbrev pub keys_at : List Key → ℕ → List Key
keys_at ks v = filter (ends_at v) ks

-- how many links end at a node
unfoldable pub degree : List Key → ℕ → ℕ
degree ks v = count_by (ends_at v) ks

-- the number of a node's port on a link: how many of its keys are less
abbrev pub port_number : List Key → ℕ → Key → ℕ
port_number ks v k = count_by (λ j. ends_at v j && key_lt j k) ks

-- the end that isn't v
abbrev pub far_end : ℕ → Key → ℕ
far_end v k = if k.a == v then k.b else k.a

-- the port of node v on a link
abbrev pub port_on : List Key → ℕ → Key → Port
port_on ks v k = record { key = k; far = far_end v k; far_port = port_number ks (far_end v k) k }

-- the ports of node v, in key order
unfoldable pub ports_of : List Key → ℕ → List Port
ports_of ks v = map (port_on ks v) (keys_at ks v)

-- p is port i of node v
abbrev pub HasPort : List Key → ℕ → ℕ → Port → Type 0
HasPort ks v i p = slice_get (ports_of ks v) i ≡ Some p
