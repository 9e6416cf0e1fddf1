-- What holds of the rules of every book.
use Rattle.std.specs.Prelude.{◌≡◌, ◌+◌, ◌*◌, ◌≤◌, length, true, List}
use Rattle.ghs_graph.specs.Graph.{Shape, IsGraph}
use Rattle.own_book.specs.Entry.{Entry}
use Rattle.peer_network.specs.declared.event.Event.{Event}
use Rattle.peer_network.specs.Network.{network_of}
use Rattle.peer_machine.specs.Protocol.{HasRules, IsBoundedBy, StaysAwake}
use Rattle.peer_machine.specs.Rules.{HasKinds}
use Rattle.peer_machine.specs.Run.{IsRun}
use Rattle.own_rules.specs.Rules.{rules_of}
use Rattle.own_rules.specs.declared.node.Allowance.{Allowance}

-- no run has more events than so many for each node, and one to wake it
abbrev pub RunsAreShort : List Entry → Allowance → Type 0
RunsAreShort book most =
    (g : Shape) → IsGraph g → (es : List Event) → IsRun (rules_of book most) (network_of g) es → length es ≤ g.nodes * most.messages + g.nodes

-- Each message has a kind and each lawful event a rule; no run sends more than so many messages for each node; who has got work is awake. Where
-- deferrals count, each run comes to an end.
pub record KeepsWhatIsPromised (book : List Entry) (most : Allowance) : Type 0 where
  pub kinds : HasKinds (rules_of book most)
  pub rules : HasRules (rules_of book most)
  pub bounded : IsBoundedBy (rules_of book most) (λ g. g.nodes * most.messages)
  pub awake : StaysAwake (rules_of book most)
  pub short : most.deferrals ≡ true → RunsAreShort book most
