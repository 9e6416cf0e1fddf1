-- The text of components.
use Rattle.std.specs.Prelude.{◌≡◌, ℕ, Option, Some, None, List, [], ◌∷◌, ◌++◌, codes, decimal}
use Rattle.std.specs.List.{flat_map}
use Rattle.ghs_graph.specs.declared.key.Key.{Key}
use Rattle.ghs_graph.specs.Graph.{Shape}
use Rattle.ghs_report.specs.declared.component.Component.{Component}
use Rattle.ghs_report.specs.Components.{AreAll}

-- `c A B W LEVEL`: the core's smaller end, larger end and weight; `c V 0` of a node without links
abbrev pub core_line : ℕ → ℕ → Option Key → List ℕ
core_line root level (Some k) =
    codes "c " ++ decimal k.a ++ codes " " ++ decimal k.b ++ codes " " ++ decimal k.weight ++ codes " " ++ decimal level ++ 10 ∷ []
core_line root level None = codes "c " ++ decimal root ++ codes " " ++ decimal level ++ 10 ∷ []

-- the line of a component
abbrev pub line_of : Component → List ℕ
line_of c = core_line c.root c.level c.link

-- a line for each component, in the list's order
abbrev pub cores_text : List Component → List ℕ
cores_text cs = flat_map line_of cs

-- behind a text the lines of all components, of each of which this holds
abbrev pub HaveLines : Shape → (Component → Type 0) → List ℕ → List ℕ → Type 0
HaveLines g holds old new = (cs : List Component) × AreAll g holds cs × (new ≡ old ++ cores_text cs)
