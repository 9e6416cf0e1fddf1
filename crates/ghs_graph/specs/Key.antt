-- Keys and their order.
use Rattle.std.specs.Prelude.{ℕ, Bool, ◌&&◌, ◌||◌, ◌==◌, nat_lt}
use Rattle.ghs_gr.specs.RawGraph.{Triple}
use Rattle.ghs_graph.specs.declared.key.Key.{Key}

-- j is the smaller key: by weight, then by the smaller end, then by the larger
abbrev pub key_lt : Key → Key → Bool
key_lt j k = nat_lt j.weight k.weight || ((j.weight == k.weight) && (nat_lt j.a k.a || ((j.a == k.a) && nat_lt j.b k.b)))

-- the key that a text gives as a triple
abbrev pub key_of : Triple → Key
key_of t = record { weight = t.0; a = t.1; b = t.2 }

-- stands where a lookup in a list of keys wants a default
abbrev pub no_key : Key
no_key = record { weight = 0; a = 0; b = 0 }

-- the link has the node as an end
abbrev pub ends_at : ℕ → Key → Bool
ends_at v k = (k.a == v) || (k.b == v)
