-- Nodes that are cut into parts.
use Rattle.std.specs.Prelude.{ℕ, ◌<◌, ◌≤◌, ◌^◌}
use Rattle.ghs_gr.specs.declared.raw_graph.TheConstants.{NODE_LIMIT}
use Rattle.ghs_make.specs.declared.picks.Parting.{Parting}

-- no more parts than nodes, and this is one of them
pub record HasParts (parting : Parting) (part : ℕ) : Type 0 where
  pub here : part < parting.parts
  pub each : parting.parts ≤ parting.nodes
  pub few : parting.nodes ≤ NODE_LIMIT
  pub counted : parting.first ≤ 2 ^ 63
