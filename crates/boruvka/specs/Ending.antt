-- The laws of Ends and FindsTree, with their proofs. Nothing here has to be believed.
use Rattle.std.proofs.Common.{◌≡◌, ◌≢◌, ℕ, true, false, refl, ap, arith, List}
use Rattle.ghs_graph.specs.declared.key.Key.{Key}
use Rattle.ghs_graph.specs.Graph.{Shape}
use Rattle.ghs_graph.specs.Links.{Joined, links, InTree}
use Rattle.ghs_graph.proofs.lemmas.Joining.{joined_then, joined_back}
use Rattle.peer_network.specs.Network.{network_of, InNetwork}
use Rattle.peer_network.proofs.lemmas.Graphs.{link_among}
use Rattle.peer_machine.specs.Net.{Net}
use Rattle.peer_machine.specs.Run.{IsNetOf}
use Rattle.peer_machine.specs.Branches.{AreBranches, BranchesAreFound, IsBranchLink}
use Rattle.peer_machine.specs.Ends.{AllAwake, IsSilent, SilenceIsEnd, SilenceWakesAll}
use Rattle.peer_machine.specs.Rules.{NeverDefers}
use Rattle.boruvka_node.specs.declared.mark.Mark.{Mark}
use Rattle.boruvka_node.specs.declared.mark.Mark.TheVariants.{Basic, Asked, Branch, Inside}
use Rattle.boruvka_node.specs.declared.message.Message.{Message}
use Rattle.boruvka_node.specs.declared.message.Phase.TheVariants.{Sleeping}
use Rattle.boruvka_node.specs.Boruvka.{boruvka}
use Rattle.boruvka_node.specs.State.{State}
use Rattle.boruvka_node.specs.Words.{is_branch, is_sleeping}
use Rattle.boruvka_protocol.specs.Marks.{HasHalted, IsJoinedLink}
use Rattle.boruvka_protocol.proofs.lemmas.Laws.{branch_links_in_tree, halt_is_end, silence_is_end, halted_all_awake}
use Rattle.boruvka.specs.Ended.{HasEnded, IsForest, marks_branch}

pub defers_never : NeverDefers boruvka
defers_never n k = refl

branch_so : {m : Mark} → is_branch m ≡ true → m ≡ Branch
branch_so {m = Basic} e = cc
branch_so {m = Asked} e = cc
branch_so {m = Branch} e = refl
branch_so {m = Inside} e = cc

module _ (g : Shape) (w : Net State Message) (is : IsNetOf boruvka g w) where
  is_awake : (v : ℕ) → boruvka.is_asleep (w.node v) ≡ false → (w.node v).head.phase ≢ Sleeping
  is_awake v up z = let yes : is_sleeping (w.node v).head.phase ≡ true = ap is_sleeping z in cc

  -- where nothing waits, one has halted in the component of a node that is awake
  quiet_ends : (v : ℕ) → InNetwork (network_of g) v → (w.node v).head.phase ≢ Sleeping → IsSilent (network_of g) w →
      (u : ℕ) × InNetwork (network_of g) u × Joined (links g.keys) v u × HasHalted w u
  quiet_ends v net awake silent =
      let end = (silence_is_end g w is v net awake (λ u p at way. silent u p at)).1 in
      (end.0, end.1, end.2, end.3)

  -- and then nobody sleeps there
  all_awake : IsSilent (network_of g) w → (u v : ℕ) → InNetwork (network_of g) u → Joined (links g.keys) u v →
      boruvka.is_asleep (w.node u) ≡ false → boruvka.is_asleep (w.node v) ≡ false
  all_awake silent u v here way awake =
      let end = quiet_ends u here (is_awake u awake) silent in
      halted_all_awake g w is end.0 end.1 end.3 v (joined_then (joined_back end.2) way)

  end_is_silent : HasEnded g w → IsSilent (network_of g) w
  end_is_silent ended v p at =
      let end = ended v (record { some = at.some; node = at.node }) in
      (halt_is_end g w is end.0 end.1 end.3).1 v p at (joined_back end.2)

  end_is_awake : HasEnded g w → AllAwake boruvka (network_of g) w
  end_is_awake ended v net = let end = ended v net in halted_all_awake g w is end.0 end.1 end.3 v (joined_back end.2)

  -- at the end each link of the forest is Branch
  of_forest : HasEnded g w → (k : Key) → InTree g.keys k → IsBranchLink marks_branch (network_of g) w k
  of_forest ended k tree =
      let r = link_among g is.graph k tree.0 in
      let end = ended k.a (record { some = r.0; node = omega (arith, r.1, r.2) }) in
      let whole = (halt_is_end g w is end.0 end.1 end.3).0 in
      let joined : IsJoinedLink (network_of g) w k = (whole k tree.0 (joined_back end.2)).0 tree in
      (joined.0, joined.1, joined.2, joined.3, ap is_branch joined.4)

pub all_woken : SilenceWakesAll boruvka
all_woken g w is silent u v here there way awake = all_awake g w is silent u v here way awake

pub silence_ends : SilenceIsEnd boruvka HasEnded
silence_ends g w is = (
  λ ended. (end_is_silent g w is ended, end_is_awake g w is ended),
  λ quiet v net. quiet_ends g w is v net (is_awake g w is v (quiet.1 v net)) quiet.0,
)

pub forest_found : BranchesAreFound boruvka HasEnded marks_branch IsForest
forest_found g w ks is ended are = record {
  rising = are.rising;
  has = λ k h. let l = (are.all k).0 h in branch_links_in_tree g w is k (l.0, l.1, l.2, l.3, branch_so l.4);
  all = λ k t. (are.all k).1 (of_forest g w is ended k t);
}
