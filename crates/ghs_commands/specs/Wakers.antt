-- Which nodes wake by themselves, as a value.
use Rattle.std.specs.Prelude.{ℕ, zero, suc, ◌∷◌, Bool, true, codes, cond, eqb, nat_lt, length, replicate, List, Option, Some, None, is_some}
use Rattle.std.specs.List.{position_or_len}
use Rattle.std.specs.Option.{option_map}
use Rattle.std.specs.Str.{bytes_eq}
use Rattle.clap.specs.Words.{Text}
use Rattle.ghs_gr.specs.declared.raw_graph.TheConstants.{NODE_LIMIT}
use Rattle.peer_network.specs.declared.wake_set.TheConstants.{MOST_WAKERS}
use Rattle.peer_network.specs.declared.wake_set.WakeSet.{WakeSet}
use Rattle.peer_network.specs.declared.wake_set.WakeSet.TheVariants.{All, First, Listed}
use Rattle.ghs_commands.specs.TwoSeeds.{before_comma, behind_comma}
use Rattle.ghs_commands.specs.Values.{number_in}

-- the number of a node that a text is
abbrev pub node_in : Text → Option ℕ
node_in = number_in 1 NODE_LIMIT

abbrev pub has_comma : Text → Bool
has_comma text = nat_lt (position_or_len (λ b. eqb b 44) text) (length text)

-- a node before others, where there are both
abbrev pub node_then : Option ℕ → Option (List ℕ) → Option (List ℕ)
node_then (Some v) (Some vs) = Some (v ∷ vs)
node_then _ _ = None

-- the nodes that a text lists between commas, n at most; 0 stands for each that is left
unfoldable pub listed : ℕ → Text → Option (List ℕ)
listed zero text = None
listed (suc n) text = node_then (node_in (before_comma text)) (cond (has_comma text) (listed n (behind_comma text)) (Some (replicate n 0)))

-- the wake set that a value names: all, first, or nodes
abbrev pub wake_named : Text → Option WakeSet
wake_named text =
    cond (bytes_eq text (codes "all")) (Some All)
    (cond (bytes_eq text (codes "first")) (Some First) (option_map (λ nodes. Listed (record { nodes = nodes })) (listed MOST_WAKERS text)))

-- a value that isn't given, or one that names a wake set
abbrev pub is_wake : Option Text → Bool
is_wake None = true
is_wake (Some text) = is_some (wake_named text)
