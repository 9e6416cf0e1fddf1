use Rattle.std.proofs.Common.{ℕ, Option, subst, refl, length}
use Rattle.peer_network.specs.Network.{network_of}
use Rattle.ghs_flags.specs.Flags.{IsFirstFrom}
use Rattle.peer_index.specs.contracts.index.Index.{the_view}
use Rattle.peer_index.proofs.Finding.{no_node_told, node_told}
use Rattle.peer_index.proofs.index.Index.node_from.Goals as goal

pub returns-in-Some : goal.returns-in-Some
returns-in-Some c = λ p of.
    node_told (network_of c.args.graph.now) p (the_view c.self.inside) (rw (← c.self.view_is) at of) c.args.low c.owner_at.result
    c.base_of-base.result (length c.self.inside.marks) c.in-Some.at c.requires.low c.requires.high
    (rw c.deref.ensures.value at c.base_of-base.ensures.base) (rw c.deref-in-Some.ensures.value at c.owner_at.ensures)
    (subst (λ (o : Option ℕ). IsFirstFrom c.self.inside.marks c.base_of-base.result (length c.self.inside.marks) o) c.in-Some.is c.first_from.ensures)

pub returns-in-None : goal.returns-in-None
returns-in-None c = λ p of.
    no_node_told (network_of c.args.graph.now) p (the_view c.self.inside) (rw (← c.self.view_is) at of) c.args.low c.base_of-base.result
    (length c.self.inside.marks) c.requires.low
    (rw c.deref.ensures.value at c.base_of-base.ensures.base) refl
    (subst (λ (o : Option ℕ). IsFirstFrom c.self.inside.marks c.base_of-base.result (length c.self.inside.marks) o) c.in-None.is c.first_from.ensures)
