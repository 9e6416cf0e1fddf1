-- Every net of a run has floors; and what that says of its marks.
use Rattle.std.proofs.Common.{◌≡◌, ℕ, ◌≤◌, ◌<◌, None, List, arith, refl, sym, ◌∙◌, ap, subst, ⊎_elim}
use Rattle.ghs_graph.specs.declared.key.Key.{Key}
use Rattle.ghs_graph.specs.Graph.{Shape}
use Rattle.ghs_graph.specs.Links.{Joined, Same, Over as Along, links, InTree}
use Rattle.ghs_graph.specs.Ports.{port_number}
use Rattle.std.proofs.lemmas.List.Elements.{All-contains}
use Rattle.ghs_graph.proofs.lemmas.Joining.{joined_then, joined_back}
use Rattle.peer_network.specs.declared.event.Event.{Event}
use Rattle.peer_network.specs.Network.{Network, network_of, port_at, At, InNetwork}
use Rattle.ghs_protocol.specs.Net.{Net, opening}
use Rattle.ghs_protocol.specs.Run.{IsAfter}
use Rattle.ghs_protocol.specs.Marks.{IsBranchLink, IsJoinedLink, HasHalted}
use Rattle.peer_network.proofs.lemmas.Wired.{HasFewPorts}
use Rattle.ghs_protocol.specs.Laws.{IsNetOf}
use Rattle.ghs_protocol.specs.Interleavings.{BranchLinksInTree, RejectedLinksAside, HaltIsExact, EndIsTree}
use Rattle.ghs_protocol.proofs.clauses.Scene.{scene, forest}
use Rattle.ghs_protocol.proofs.clauses.Changes.{marked}
use Rattle.ghs_protocol.proofs.clauses.Wiring.{Ground}
use Rattle.ghs_protocol.proofs.clauses.Fragments.{IsJoinedIn}
use Rattle.ghs_protocol.proofs.clauses.Whole.{opening_ghost}
use Rattle.ghs_protocol.proofs.clauses.Floors.{HasSound, Sound}
use Rattle.peer_network.proofs.lemmas.Graphs.{graph_few, port_ends}
use Rattle.ghs_protocol.proofs.lemmas.Steps.{run_by_steps}
use Rattle.ghs_protocol.proofs.wake.Opening.{opening_holds}
use Rattle.ghs_protocol.proofs.search.ScanOrder.{opening_floors, opening_scans, opening_lives}
use Rattle.ghs_protocol.proofs.every_run.Trees.{at_a, key_there, branch_in_tree, rejected_aside, branch_is_joined, tree_is_joined}
use Rattle.ghs_protocol.proofs.rows.Rows.{step_keeps}
use Rattle.ghs_protocol.proofs.acts.Grounds.{graph_ground}
use Rattle.ghs_node.proofs.lemmas.{branch_mark}

pub opening_sound : (g : Network) → Sound g (scene (opening g) opening_ghost)
opening_sound g = record {
  first = opening_holds g;
  floor = λ v. None;
  floors = opening_floors g;
  scans = opening_scans g;
  tried = λ v is. record { untried = λ q b. refl; way = λ e ne. absurd (ne refl) };
  lives = opening_lives g;
}

pub after_sound : (g : Network) → Ground g → HasFewPorts g → (es : List Event) (w : Net) → IsAfter g es w → HasSound g w
after_sound g ground few es w h =
    run_by_steps g ground.wired few (HasSound g) (λ w w' f i s. step_keeps g ground w w' f.nodes i s)
    (record { ghost = opening_ghost; holds = opening_sound g }) es w h

pub sound : (g : Shape) (w : Net) → IsNetOf g w → HasSound (network_of g) w
sound g w n = after_sound (network_of g) (graph_ground g n.graph) (graph_few g n.graph) n.events w n.run

pub branch_links_in_tree : BranchLinksInTree
branch_links_in_tree g w n k (v, p, at, e, m) =
    let s = sound g w n in
    subst (InTree g.keys) e (branch_in_tree g n.graph (scene w s.ghost) s.holds.first s.holds.floor s.holds.floors v p at m)

pub rejected_links_aside : RejectedLinksAside
rejected_links_aside g w n k (v, p, at, e, m) tree =
    let s = sound g w n in
    rejected_aside g n.graph (scene w s.ghost) s.holds.first s.holds.floor s.holds.floors v p at m (subst (InTree g.keys) (sym e) tree)

pub halt_is_exact : HaltIsExact
halt_is_exact g w n v lo hi halted k has way = (
  λ tree.
      link k.a (port_number g.keys k.a k) (at_a g n.graph k has) (key_there g n.graph k has)
      (tree_is_joined g n.graph (scene w s.ghost) s.holds.first s.holds.floor s.holds.floors v is halted k.a (port_number g.keys k.a k)
      (at_a g n.graph k has) way (subst (InTree g.keys) (sym (key_there g n.graph k has)) tree)),
  branch,
)
  where
    s : HasSound (network_of g) w
    s = sound g w n

    is : InNetwork (network_of g) v
    is = record { some = lo; node = hi }

    link : (t p : ℕ) →
        At (network_of g) t p →
        (port_at (network_of g) t p).key ≡ k →
        IsJoinedIn (network_of g) (forest (scene w (sound g w n).ghost)) t p →
        IsJoinedLink (network_of g) w k
    link t p at e j = (t, p, at, e, (branch_mark _ j.here, branch_mark _ j.there))

    branch : IsBranchLink (network_of g) w k → InTree g.keys k × IsJoinedLink (network_of g) w k
    branch (t, p, at, e, m) = (
      branch_links_in_tree g w n k (t, p, at, e, m),
      link t p at e (branch_is_joined g n.graph (scene w s.ghost) s.holds.first s.holds.floor s.holds.floors v is halted t p at
          (⊎_elim
          (λ z. subst (Joined (links g.keys) v) (sym (z.0 ∙ ap (λ (x : Key). x.a) e)) way)
          (λ z. subst (Joined (links g.keys) v) (sym (z.0 ∙ ap (λ (x : Key). x.b) e)) (joined_then way (Along k has Same)))
          (port_ends g n.graph t p at))
          m),
    )

pub end_is_tree : EndIsTree
end_is_tree g w n ended k = ((λ b. branch_links_in_tree g w n k b, λ tree. branch (joined tree)), joined)
  where
    joined : InTree g.keys k → IsJoinedLink (network_of g) w k
    joined tree =
        let ends : (1 ≤ k.a) × (k.a < k.b) × (k.b ≤ g.nodes) =
        All-contains (λ (x : Key). (1 ≤ x.a) × (x.a < x.b) × (x.b ≤ g.nodes)) g.keys k n.graph.among tree.0 in
        let h : (u : ℕ) × (1 ≤ u) × (u ≤ g.nodes) × Joined (links g.keys) k.a u × HasHalted w u = ended k.a ends.0 (omega arith) in
        (halt_is_exact g w n h.0 h.1 h.2 h.4 k tree.0 (joined_back h.3)).0 tree

    branch : IsJoinedLink (network_of g) w k → IsBranchLink (network_of g) w k
    branch (v, p, at, e, marked) = (v, p, at, e, marked.0)
