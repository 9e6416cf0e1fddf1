-- The names of protocols.
use Rattle.std.specs.Prelude.{ℕ, Bool, true, false, codes, cond, List, Option, Some, None}
use Rattle.std.specs.Str.{bytes_eq}
use Rattle.peer_trace.specs.declared.protocol.Protocol.{Protocol}
use Rattle.peer_trace.specs.declared.protocol.Protocol.TheVariants.{Ghs, Boruvka, Echo, Gather}

abbrev pub name_of : Protocol → List ℕ
name_of Ghs = codes "ghs"
name_of Boruvka = codes "boruvka"
name_of Echo = codes "echo"
name_of Gather = codes "gather"

-- whether the heads of its stored runs name it, as they do each but GHS
abbrev pub is_in_heads : Protocol → Bool
is_in_heads Ghs = false
is_in_heads Boruvka = true
is_in_heads Echo = true
is_in_heads Gather = true

-- the protocol of a name
abbrev pub protocol_named : List ℕ → Option Protocol
protocol_named name =
    cond (bytes_eq name (codes "ghs")) (Some Ghs)
    (cond (bytes_eq name (codes "boruvka")) (Some Boruvka)
    (cond (bytes_eq name (codes "echo")) (Some Echo)
    (cond (bytes_eq name (codes "gather")) (Some Gather) None)))
