-- What the invariant says of a node, of the link at one of its ports, and of a joined link.
use Rattle.std.proofs.Common.{◌≡◌, ◌≢◌, ℕ, Option, Some, length, sym, ◌∙◌, ap, ◌⊎◌}
use Rattle.std.proofs.lemmas.Option.{same_Some}
use Rattle.ghs_node.specs.declared.mark.Mark.TheVariants.{Branch}
use Rattle.ghs_node.specs.Words.{is_branch}
use Rattle.peer_network.specs.Network.{Network, At, InNetwork, far, far_port}
use Rattle.peer_network.proofs.lemmas.Wired.{IsWired}
use Rattle.ghs_protocol.proofs.clauses.Scene.{Scene, end, tree_end, far_end, forest}
use Rattle.ghs_protocol.proofs.clauses.Links.{Joins, Ups}
use Rattle.ghs_protocol.proofs.clauses.TreeMessages.{ConnectUnderWay}
use Rattle.ghs_protocol.proofs.clauses.Fragments.{IsJoinedIn}
use Rattle.ghs_protocol.proofs.clauses.Nodes.{NodeFits}
use Rattle.ghs_protocol.proofs.clauses.Whole.{Invariant, LinkFits, NamesOf}
use Rattle.ghs_protocol.proofs.acts.OneLink.{at_near, at_far}

-- the clauses of a node, and of the link at its port p from both ends
pub record LinkClauses (g : Network) (w : Scene) (v p : ℕ) : Type 0 where
  pub fits : NodeFits (length (g.ports v)) (w.at v)
  pub link : LinkFits (NamesOf g w) (end g w v p) (far_end g w v p)
  pub link' : LinkFits (NamesOf g w) (far_end g w v p) (end g w v p)
  pub ways : Joins (tree_end (end g w v p)) (tree_end (far_end g w v p)) → Ups (tree_end (end g w v p)) ⊎ Ups (tree_end (far_end g w v p))

-- the clauses of a node, and of the links at all its ports
pub record NodeClauses (g : Network) (w : Scene) (v : ℕ) : Type 0 where
  pub fits : NodeFits (length (g.ports v)) (w.at v)
  pub link : (p : ℕ) → At g v p → LinkFits (NamesOf g w) (end g w v p) (far_end g w v p)
  pub link' : (p : ℕ) → At g v p → LinkFits (NamesOf g w) (far_end g w v p) (end g w v p)

-- a joined link lies inside one fragment, whose coming level and name both ends have
pub record JoinedClauses (g : Network) (w : Scene) (v p : ℕ) : Type 0 where
  pub joined : IsJoinedIn g (forest w) v p
  pub inside : (w.at v).fragment ≡ (w.at (far g v p)).fragment
  pub ghosts : ((w.at (far g v p)).coming ≡ (w.at v).coming) × ((w.at (far g v p)).coming_name ≡ (w.at v).coming_name)

-- a link that is Branch at both ends is joined
pub joined_in : (g : Network) (w : Scene) (v p : ℕ) → Joins (tree_end (end g w v p)) (tree_end (far_end g w v p)) → IsJoinedIn g (forest w) v p
joined_in g w v p j = record { here = ap is_branch j.here; there = ap is_branch j.there }

pub joined_clauses : (g : Network) (w : Scene) → Invariant g w → (v p : ℕ) → At g v p →
    Joins (tree_end (end g w v p)) (tree_end (far_end g w v p)) → JoinedClauses g w v p
joined_clauses g w holds v p at j =
    record { joined = joined_in g w v p j; inside = inside; ghosts = holds.trees.by_fragment (far g v p) v (sym inside) }
  where
    inside : (w.at v).fragment ≡ (w.at (far g v p)).fragment
    inside = holds.trees.joined_within v p at (joined_in g w v p j)

-- a port that isn't the way to the root
pub not_the_way : {o : Option ℕ} {j : ℕ} → o ≡ Some j → (i : ℕ) → i ≢ j → o ≢ Some i
not_the_way {o} {j} up i ne e = ne (sym (same_Some j i (sym up ∙ e)))

-- a node, and the link at one of its ports
module _ (g : Network) (wired : IsWired g) (w : Scene) (holds : Invariant g w) (v p : ℕ) (at : At g v p) where
  pub node_fits : NodeFits (length (g.ports v)) (w.at v)
  node_fits = holds.nodes v (record { some = at.some; node = at.node })

  pub link_fits : LinkFits (NamesOf g w) (end g w v p) (far_end g w v p)
  link_fits = at_near g wired w (LinkFits (NamesOf g w)) holds.links v p at

  pub link_fits' : LinkFits (NamesOf g w) (far_end g w v p) (end g w v p)
  link_fits' = at_far g wired w (LinkFits (NamesOf g w)) holds.links v p at

  -- a joined link is the way of one of its ends
  pub link_leads : Joins (tree_end (end g w v p)) (tree_end (far_end g w v p)) → Ups (tree_end (end g w v p)) ⊎ Ups (tree_end (far_end g w v p))
  link_leads j = holds.trees.joined_lead v p at (joined_in g w v p j)

  pub link_clauses : LinkClauses g w v p
  link_clauses = record { fits = node_fits; link = link_fits; link' = link_fits'; ways = link_leads }

  -- a Connect is under way to a port that isn't Branch from one that is
  pub connect_comes :
      (w.at (far g v p)).mark (far_port g v p) ≡ Branch →
      (w.at v).mark p ≢ Branch →
      ConnectUnderWay (tree_end (far_end g w v p)) (tree_end (end g w v p))
  connect_comes there here = link_fits'.tree.out_connect (record { here = there; there = here })

pub node_clauses : (g : Network) → IsWired g → (w : Scene) → Invariant g w → (v : ℕ) → InNetwork g v → NodeClauses g w v
node_clauses g wired w holds v is = record {
  fits = holds.nodes v is;
  link = λ p at. link_fits g wired w holds v p at;
  link' = λ p at. link_fits' g wired w holds v p at;
}
