-- Kinds of networks.
use Rattle.std.specs.Prelude.{ℕ, Bool, true, false, codes, cond, List, Option, Some, None}
use Rattle.std.specs.Str.{bytes_eq}
use Rattle.ghs_make.specs.declared.kind.Kind.{Kind}
use Rattle.ghs_make.specs.declared.kind.Kind.TheVariants.{Path, Ring, Star, Grid, Complete, Tree, Random, Road, Forest, Slow, Busy, FarCore, ChainWake}

abbrev pub kind_name : Kind → List ℕ
kind_name Path = codes "path"
kind_name Ring = codes "ring"
kind_name Star = codes "star"
kind_name Grid = codes "grid"
kind_name Complete = codes "complete"
kind_name Tree = codes "tree"
kind_name Random = codes "random"
kind_name Road = codes "road"
kind_name Forest = codes "forest"
kind_name Slow = codes "slow"
kind_name Busy = codes "busy"
kind_name FarCore = codes "farcore"
kind_name ChainWake = codes "chainwake"

-- the kind of a name
abbrev pub kind_named : List ℕ → Option Kind
kind_named name =
    cond (bytes_eq name (codes "path")) (Some Path)
    (cond (bytes_eq name (codes "ring")) (Some Ring)
    (cond (bytes_eq name (codes "star")) (Some Star)
    (cond (bytes_eq name (codes "grid")) (Some Grid)
    (cond (bytes_eq name (codes "complete")) (Some Complete)
    (cond (bytes_eq name (codes "tree")) (Some Tree)
    (cond (bytes_eq name (codes "random")) (Some Random)
    (cond (bytes_eq name (codes "road")) (Some Road)
    (cond (bytes_eq name (codes "forest")) (Some Forest)
    (cond (bytes_eq name (codes "slow")) (Some Slow)
    (cond (bytes_eq name (codes "busy")) (Some Busy)
    (cond (bytes_eq name (codes "farcore")) (Some FarCore)
    (cond (bytes_eq name (codes "chainwake")) (Some ChainWake) None))))))))))))

-- the kind takes a number of links
abbrev pub takes_links : Kind → Bool
takes_links Random = true
takes_links Forest = true
takes_links _ = false

-- the weights are part of what the kind is
abbrev pub has_own_weights : Kind → Bool
has_own_weights Slow = true
has_own_weights Busy = true
has_own_weights FarCore = true
has_own_weights ChainWake = true
has_own_weights _ = false
