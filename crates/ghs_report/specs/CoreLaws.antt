-- What holds of the cores of every run.
use Rattle.std.specs.Prelude.{◌≡◌}
use Rattle.ghs_graph.specs.Graph.{Shape}
use Rattle.ghs_protocol.specs.Laws.{IsNetOf}
use Rattle.ghs_protocol.specs.Net.{Net}
use Rattle.ghs_report.specs.declared.component.Component.{Component}
use Rattle.ghs_report.specs.Components.{HasEndedIn, IsOfGraph}

-- a component ends, in every run, with the core and at the level to which merging the graph leads
abbrev pub CoresAgree : Type 0
CoresAgree = (g : Shape) (w : Net) (c d : Component) → IsNetOf g w → IsOfGraph g c → HasEndedIn g w d → c.root ≡ d.root → c ≡ d
