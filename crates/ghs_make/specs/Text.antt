-- The text of a network.
use Rattle.std.specs.Prelude.{ℕ, List, [], ◌∷◌, ◌++◌, codes, cond, decimal, Option, Some, None}
use Rattle.std.specs.List.{flat_map}
use Rattle.ghs_gr.specs.RawGraph.{Triple}
use Rattle.ghs_make.specs.Kind.{kind_name, takes_links}
use Rattle.ghs_make.specs.Network.{links_of}
use Rattle.ghs_make.specs.Weights.{weights_name}
use Rattle.ghs_make.specs.declared.network.Network.{Network}
use Rattle.ghs_make.specs.declared.plan.Plan.{Plan}
use Rattle.ghs_make.specs.declared.weights.Weights.{Weights}

-- ` --links M`, where the kind takes a number of links
abbrev pub links_words : Plan → List ℕ
links_words p = cond (takes_links p.kind) (codes " --links " ++ decimal p.links) []

-- ` --weights W`, where the kind has no weights of its own
abbrev pub weights_words : Option Weights → List ℕ
weights_words None = []
weights_words (Some w) = codes " --weights " ++ weights_name w

-- `KIND NODES --seed SEED`
abbrev pub kind_words : Plan → List ℕ
kind_words p = kind_name p.kind ++ codes " " ++ decimal p.nodes ++ codes " --seed " ++ decimal p.seed

-- the words of the command that makes the network
abbrev pub command_words : Network → List ℕ
command_words n = kind_words n.plan ++ links_words n.plan ++ weights_words n.weights

-- `c ghs make KIND NODES --seed SEED ..`
abbrev pub comment_line : Network → List ℕ
comment_line n = codes "c ghs make " ++ command_words n ++ 10 ∷ []

-- `p sp NODES LINKS`
abbrev pub problem_line : ℕ → ℕ → List ℕ
problem_line nodes links = codes "p sp " ++ decimal nodes ++ codes " " ++ decimal links ++ 10 ∷ []

-- `a LOW HIGH WEIGHT`
abbrev pub arc_line : Triple → List ℕ
arc_line k = codes "a " ++ decimal k.1 ++ codes " " ++ decimal k.2 ++ codes " " ++ decimal k.0 ++ 10 ∷ []

unfoldable pub head_of : Network → List ℕ
head_of n = comment_line n ++ problem_line n.plan.nodes n.links

-- the command in a comment, the numbers of nodes and links, and a line for each link
unfoldable pub text_of : Network → List ℕ
text_of n = head_of n ++ flat_map arc_line (links_of n)
