-- Where a run has ended merging has come to its end, and each Branch port is that of a joined link: as many Connects were sent as merging takes.
use Rattle.std.proofs.Common.{◌≡◌, ℕ, ◌≤◌, refl, sym, ◌∙◌, ap, ap₂, subst, ⊎_elim, arith}
use Rattle.ghs_graph.specs.declared.key.Key.{Key}
use Rattle.ghs_graph.specs.Graph.{Shape}
use Rattle.ghs_graph.specs.Links.{Joined, links}
use Rattle.ghs_graph.proofs.lemmas.Joining.{joined_back}
use Rattle.ghs_node.specs.NodeState.{mark_at}
use Rattle.ghs_node.specs.declared.mark.Mark.TheVariants.{Branch}
use Rattle.peer_network.specs.Network.{network_of, At, far, far_port, port_at}
use Rattle.ghs_protocol.specs.Net.{Net}
use Rattle.ghs_protocol.specs.Laws.{IsNetOf}
use Rattle.ghs_protocol.specs.Marks.{HasEnded, HasHalted}
use Rattle.ghs_protocol.specs.Merging.{singles, MergesAll, one_connect, IsLeastOut, Merge, Absorb, Merging, IsWhole, IsEnd}
use Rattle.ghs_protocol.specs.Cores.{HaltedAreHighest, ConnectsOfGraph, ConnectsAgree}
use Rattle.ghs_protocol.proofs.clauses.Scene.{scene}
use Rattle.ghs_protocol.proofs.every_run.Sound.{end_is_tree}
use Rattle.peer_network.proofs.lemmas.Sums.{ports_same}
use Rattle.ghs_protocol.proofs.merging.OneEnd.{one_end, singles_even}
use Rattle.ghs_protocol.proofs.one_core.Components.{joined_in, joined_whole}
use Rattle.ghs_protocol.proofs.one_core.Connects.{one_if_branch, not_one, branch_ports}
use Rattle.ghs_protocol.proofs.one_core.Halted.{IsCoreNode}
use Rattle.ghs_protocol.proofs.one_core.Joins.{one_if_joined, not_joined, joined_ports}
use Rattle.ghs_protocol.proofs.one_core.Links.{joined_at}
use Rattle.ghs_protocol.proofs.one_core.Runs.{simulated, whole_of}
use Rattle.ghs_protocol.proofs.search.FirstReport.{mark_is}
use Rattle.peer_network.proofs.lemmas.Graphs.{link_among}

-- a node that has halted stands at the level of its fragment, which is its component
module _ (g : Shape) (w : Net) (n : IsNetOf g w) (v : ℕ) (lo : 1 ≤ v) (hi : v ≤ g.nodes) (h : HasHalted w v) where
  core : IsCoreNode (network_of g) (scene w (simulated g w n).ghost) v
  core = (simulated g w n).cores v (record { some = lo; node = hi }) h

  pub whole_there : IsWhole g.keys (simulated g w n).state v
  whole_there = whole_of g n.graph (simulated g w n).state (simulated g w n).ghost (simulated g w n).same v core.whole

  pub none_higher : (u : ℕ) → Joined (links g.keys) v u → (w.node u).head.level ≤ (w.node v).head.level
  none_higher u way =
      let b = joined_in g n.graph way (lo, hi) in
      let lag = ((simulated g w n).sound.first.nodes u (record { some = b.0; node = b.1 })).lag.level in
      let same = (simulated g w n).same.from u v (joined_whole g.keys (simulated g w n).state v whole_there way refl) in
      let level = ap (simulated g w n).ghost.coming same in
      let top = core.top in
      omega (arith, lag, level, top)

pub halted_are_highest : HaltedAreHighest
halted_are_highest g w n v u lo hi h way = none_higher g w n v lo hi h u way

module _ (g : Shape) (w : Net) (n : IsNetOf g w) (h : HasEnded g w) where
  -- each component is one fragment
  whole : (u : ℕ) → 1 ≤ u → u ≤ g.nodes → IsWhole g.keys (simulated g w n).state u
  whole u lo hi =
      let e = h u lo hi in
      let there = whole_there g w n e.0 e.1 e.2 e.4 in
      let same = joined_whole g.keys (simulated g w n).state e.0 there (joined_back e.3) refl in
      λ k a b has ends x. there k a b has ends (x ∙ same) ∙ sym same

  -- no link leads out of any fragment
  none_out : (u v : ℕ) (k : Key) → IsLeastOut g.keys (simulated g w n).state u v k → ⊥
  none_out u v k p =
      let ends = link_among g n.graph k p.link in
      ⊎_elim (λ e. closed (subst (λ x. 1 ≤ x) e.0 (omega (arith, ends))) (subst (λ x. x ≤ g.nodes) e.0 (omega (arith, ends))))
      (λ e. closed (subst (λ x. 1 ≤ x) e.1 (omega (arith, ends))) (subst (λ x. x ≤ g.nodes) e.1 (omega (arith, ends)))) p.ends
    where
      closed : 1 ≤ u → u ≤ g.nodes → ⊥
      closed lo hi = p.out (whole u lo hi k u v p.link p.ends refl)

  -- so merging has come to its end
  is_end : IsEnd g.keys (simulated g w n).state
  is_end _ _ _ _ (Merge k u v p s e) = none_out u v k p
  is_end _ _ _ _ (Absorb k u v p lt) = none_out u v k p

  -- each Branch port is that of a joined link
  all_joined : branch_ports (network_of g) w ≡ joined_ports (network_of g) w
  all_joined =
      ports_same (network_of g) (λ v p. one_if_branch (mark_at (w.node v) p))
      (λ v p. one_if_joined (mark_at (w.node v) p) (mark_at (w.node (far (network_of g) v p)) (far_port (network_of g) v p)))
      (λ v p at. ⊎_elim (λ m. branch v p at m) (λ ne. not_one _ ne ∙ sym (not_joined _ _ ne)) (mark_is (mark_at (w.node v) p)))
    where
      branch : (v p : ℕ) →
          At (network_of g) v p →
          mark_at (w.node v) p ≡ Branch →
          one_if_branch (mark_at (w.node v) p) ≡
          one_if_joined (mark_at (w.node v) p) (mark_at (w.node (far (network_of g) v p)) (far_port (network_of g) v p))
      branch v p at m =
          let tree = end_is_tree g w n h (port_at (network_of g) v p).key in
          let j = joined_at g n.graph w v p at (tree.1 (tree.0.0 (v, p, at, refl, m))) in
          ap one_if_branch m ∙ sym (ap₂ one_if_joined j.0 j.1)

  exact : w.sent 0 ≡ (simulated g w n).connects
  exact =
      let x = (simulated g w n).count in
      let y = (simulated g w n).joins in
      omega (arith, x, y, all_joined)

  pub merges_all : MergesAll g.keys one_connect (w.sent 0)
  merges_all = record {
    links = (simulated g w n).links;
    to = (simulated g w n).state;
    way = subst (λ c. Merging g.keys one_connect singles (simulated g w n).links c (simulated g w n).state) (sym exact) (simulated g w n).way;
    end = is_end;
  }

pub connects_of_graph : ConnectsOfGraph
connects_of_graph g w n h = merges_all g w n h

pub connects_agree : ConnectsAgree
connects_agree g w w' n n' h h' =
    let a = merges_all g w n h in
    let b = merges_all g w' n' h' in
    (one_end g.keys one_connect singles a.to b.to a.links b.links (w.sent 0) (w'.sent 0) singles_even a.way a.end b.way b.end).2
