use Rattle.ghs_patient.proofs.lemmas.Stirring.{port_below}
use Rattle.ghs_patient.proofs.choices.puts_back.Goals as goal

pub waits-requires : goal.waits-requires
waits-requires c =
    rw c.node.ensures (port_below c.args.net.now c.in-Take.v c.in-Take.port c.trace.ensures.graph c.trace.ensures.run (rw c.in-Take.is at c.requires))
