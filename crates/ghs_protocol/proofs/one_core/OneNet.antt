-- Two nets where nothing waits are the same in each component that has woken in both.
use Rattle.std.proofs.Common.{◌≡◌, ◌≢◌, ℕ, zero, suc, ◌<◌, Option, Some, None, length, refl, sym, ◌∙◌, ap, arith}
use Rattle.std.proofs.lemmas.List.{same_lists, get_or_default}
use Rattle.ghs_graph.specs.Graph.{Shape}
use Rattle.ghs_graph.specs.Links.{Joined, links}
use Rattle.ghs_graph.proofs.lemmas.Joining.{joined_then}
use Rattle.ghs_node.specs.Words.{Best, is_branch}
use Rattle.ghs_node.specs.declared.mark.Mark.{Mark}
use Rattle.ghs_node.specs.declared.mark.Mark.TheVariants.{Basic, Branch, Rejected}
use Rattle.ghs_node.specs.NodeState.{mark_at}
use Rattle.peer_network.specs.Network.{network_of, At, InNetwork}
use Rattle.ghs_protocol.specs.Net.{Net}
use Rattle.ghs_protocol.specs.Marks.{HasHalted}
use Rattle.ghs_protocol.specs.Cores.{IsCoreEnd, Ends_core, By_itself, IsQuietAt, OneEnd}
use Rattle.ghs_protocol.proofs.clauses.Scene.{scene, forest}
use Rattle.ghs_protocol.proofs.clauses.Fragments.{IsJoinedIn}
use Rattle.peer_network.proofs.lemmas.Graphs.{is_key}
use Rattle.ghs_protocol.proofs.lemmas.Nodes.{ports_many}
use Rattle.ghs_protocol.proofs.acts.Grounds.{graph_ground}
use Rattle.ghs_protocol.proofs.every_run.Trees.{leads_join}
use Rattle.ghs_protocol.proofs.one_core.Runs.{simulated, merges_alike}
use Rattle.ghs_protocol.proofs.one_core.Quiet.{u_is, living, core, same, c_awake, quiet, ended, fits, named, merges, rests, branches, tree_joined, halts}
use Rattle.ghs_protocol.proofs.one_core.Silent.{reach}
use Rattle.ghs_protocol.proofs.one_core.SilentEnds.{no_basic, no_best}
use Rattle.ghs_protocol.proofs.one_core.SameWays.{same_ways}
use Rattle.ghs_protocol.proofs.every_run.Firsts.{formed}
use Rattle.ghs_protocol.proofs.lemmas.Bools.{same_bool}
use Rattle.ghs_node.proofs.lemmas.{branch_mark}

-- one node of the component
module _ (g : Shape) (w : Net) (u : ℕ) (q : IsQuietAt g w u) where
  -- without ports there is no best link
  best_none : (w.node u).head.best ≡ None
  best_none = go (length ((network_of g).ports u)) refl
    where
      no_port : ◌≡◌ {A = ℕ} (length ((network_of g).ports u)) 0 → (b : Best) → (w.node u).head.best ≡ b → b ≡ None
      no_port none None e = refl
      no_port none (Some (p, k)) e = absurd (let lt = ((fits g w u q).best_port p k e).0 in omega (arith, lt, none))

      go : (n : ℕ) → length ((network_of g).ports u) ≡ n → (w.node u).head.best ≡ None
      go zero e = no_port e (w.node u).head.best refl
      go (suc n) e =
          no_best (network_of g) (graph_ground g q.net.graph) (scene w (simulated g w q.net).ghost) (simulated g w q.net).sound (living g w u q)
          (quiet g w u q) (ended g w u q).node (ended g w u q).is (c_awake g w u q) (core g w u q).whole u 0
          (record { some = (u_is g w u q).some; node = (u_is g w u q).node; port = omega (arith, e) }) (same g w u q)

  not_basic : (p : ℕ) → At (network_of g) u p → mark_at (w.node u) p ≢ Basic
  not_basic p at =
      no_basic (network_of g) (graph_ground g q.net.graph) (scene w (simulated g w q.net).ghost) (simulated g w q.net).sound (living g w u q)
      (quiet g w u q) (ended g w u q).node (ended g w u q).is (c_awake g w u q) (core g w u q).whole u p at (same g w u q) p

  way_home : (w.node u).head.in_branch ≢ None → (simulated g w q.net).ghost.up u ≡ (w.node u).head.in_branch
  way_home ne = ((simulated g w q.net).sound.tried u (u_is g w u q)).way best_none ne

  -- a node of its fragment is of its component
  quiet_there : (t : ℕ) → InNetwork (network_of g) t → (simulated g w q.net).ghost.fragment t ≡ (simulated g w q.net).ghost.fragment u →
      Joined (links g.keys) u t
  quiet_there t is e =
      leads_join g q.net.graph (links g.keys) (IsJoinedIn (network_of g) (forest (scene w (simulated g w q.net).ghost)))
      (λ v p at j. is_key g q.net.graph v p at)
      ((simulated g w q.net).sound.first.trees.connected u t (u_is g w u q) is (sym e))

quiet_on : (g : Shape) (w : Net) (u t : ℕ) → IsQuietAt g w u → Joined (links g.keys) u t → IsQuietAt g w t
quiet_on g w u t q j = record {
  net = q.net;
  silent = q.silent;
  woken = q.woken;
  some = q.some;
  node = q.node;
  awake = q.awake;
  way = joined_then q.way j;
}

alike_marks : (a b : Mark) → a ≢ Basic → b ≢ Basic → (a ≡ Branch → b ≡ Branch) → (b ≡ Branch → a ≡ Branch) → a ≡ b
alike_marks Basic b na nb h l = absurd (na refl)
alike_marks Branch b na nb h l = sym (h refl)
alike_marks Rejected Basic na nb h l = absurd (nb refl)
alike_marks Rejected Branch na nb h l = l refl
alike_marks Rejected Rejected na nb h l = refl

module _ (g : Shape) (w w' : Net) (u : ℕ) (q : IsQuietAt g w u) (q' : IsQuietAt g w' u) where
  alike : ((w.node u).head.level ≡ (w'.node u).head.level) × ((w.node u).head.name ≡ (w'.node u).head.name)
  alike = merges_alike g u _ _ _ _ (merges g w u q) (merges g w' u q')

  -- marks
  branch_so : (p : ℕ) → At (network_of g) u p → mark_at (w.node u) p ≡ Branch → mark_at (w'.node u) p ≡ Branch
  branch_so p at m = (branches g w' u q' p at).1 ((branches g w u q p at).0 m)

  branch_back : (p : ℕ) → At (network_of g) u p → mark_at (w'.node u) p ≡ Branch → mark_at (w.node u) p ≡ Branch
  branch_back p at m = (branches g w u q p at).1 ((branches g w' u q' p at).0 m)

  same_marks : (w.node u).marks ≡ (w'.node u).marks
  same_marks =
      same_lists (w.node u).marks (w'.node u).marks (many ∙ sym many')
      (λ k d lt.
      let lt' : k < length (w'.node u).marks = omega (arith, lt, many, many') in
      let at : At (network_of g) u k = record { some = (u_is g w u q).some; node = (u_is g w u q).node; port = omega (arith, lt, many) } in
      get_or_default (w.node u).marks k d Rejected lt ∙
      alike_marks (mark_at (w.node u) k) (mark_at (w'.node u) k) (not_basic g w u q k at) (not_basic g w' u q' k at) (branch_so k at)
      (branch_back k at) ∙
      get_or_default (w'.node u).marks k Rejected d lt')
    where
      many : length (w.node u).marks ≡ length ((network_of g).ports u)
      many = ports_many ((formed g w q.net).nodes u)

      many' : length (w'.node u).marks ≡ length ((network_of g).ports u)
      many' = ports_many ((formed g w' q'.net).nodes u)

  -- ways
  same_joined : (t p : ℕ) →
      At (network_of g) t p →
      (simulated g w q.net).ghost.fragment t ≡ (simulated g w q.net).ghost.fragment (ended g w u q).node →
      IsJoinedIn (network_of g) (forest (scene w (simulated g w q.net).ghost)) t p →
      IsJoinedIn (network_of g) (forest (scene w' (simulated g w' q'.net).ghost)) t p
  same_joined t p at e j =
      let is : InNetwork (network_of g) t = record { some = at.some; node = at.node } in
      let way = quiet_there g w u q t is (e ∙ sym (same g w u q)) in
      let m = tree_joined g w' t (quiet_on g w' u t q' way) p at ((branches g w t (quiet_on g w u t q way) p at).0 (branch_mark _ j.here)) in
      record { here = ap is_branch m.0; there = ap is_branch m.1 }

  same_up : (p : ℕ) → At (network_of g) u p → (simulated g w q.net).ghost.up u ≡ (simulated g w' q'.net).ghost.up u
  same_up p at =
      same_ways (network_of g) (graph_ground g q.net.graph) (scene w (simulated g w q.net).ghost) (simulated g w q.net).sound.first (living g w u q)
      (quiet g w u q) (ended g w u q).node (ended g w u q).is (c_awake g w u q) (core g w u q).whole (scene w' (simulated g w' q'.net).ghost)
      (simulated g w' q'.net).sound.first (living g w' u q') (quiet g w' u q') (ended g w' u q').node (ended g w' u q').is (c_awake g w' u q')
      (core g w' u q').whole same_joined
      (reach (network_of g) (graph_ground g q.net.graph) (scene w (simulated g w q.net).ghost) (simulated g w q.net).sound.first (living g w u q)
      (quiet g w u q) (ended g w u q).node (ended g w u q).is (c_awake g w u q) (core g w u q).whole u p at (same g w u q))
      (same g w u q) (same g w' u q') (sym (named g w u q) ∙ alike.1 ∙ named g w' u q')

  same_in_branch : (w.node u).head.in_branch ≡ (w'.node u).head.in_branch
  same_in_branch = go (w.node u).head.in_branch (w'.node u).head.in_branch refl refl
    where
      none_so : (w.node u).head.in_branch ≡ None → (w'.node u).head.in_branch ≡ None
      none_so e =
          let f = (fits g w u q).naming in
          let f' = (fits g w' u q').naming in f'.in_branch (f'.level (sym alike.1 ∙ f.name e))

      none_back : (w'.node u).head.in_branch ≡ None → (w.node u).head.in_branch ≡ None
      none_back e =
          let f = (fits g w u q).naming in
          let f' = (fits g w' u q').naming in f.in_branch (f.level (alike.1 ∙ f'.name e))

      go : (a b : Option ℕ) → (w.node u).head.in_branch ≡ a → (w'.node u).head.in_branch ≡ b → (w.node u).head.in_branch ≡ (w'.node u).head.in_branch
      go None b e f = e ∙ sym (none_so e)
      go (Some p) None e f = none_back f ∙ sym f
      go (Some p) (Some r) e f =
          let at : At (network_of g) u p =
          record { some = (u_is g w u q).some; node = (u_is g w u q).node; port = (fits g w u q).own_ports.in_branch p e } in
          sym (way_home g w u q (λ z. let y = sym z ∙ e in cc)) ∙ same_up p at ∙ way_home g w' u q' (λ z. let y = sym z ∙ f in cc)

  -- halts
  core_so : IsCoreEnd (network_of g) w u → IsCoreEnd (network_of g) w' u
  core_so (Ends_core p at j e) =
      Ends_core p at (tree_joined g w' u q' p at ((branches g w u q p at).0 j.0)) (sym alike.1 ∙ e)
  core_so (By_itself none e l) = By_itself none (sym alike.1 ∙ e) (sym alike.0 ∙ l)

  halts_so : HasHalted w u → HasHalted w' u
  halts_so h = (halts g w' u q').1 (core_so ((halts g w u q).0 h))

module _ (g : Shape) (w w' : Net) (u : ℕ) (q : IsQuietAt g w u) (q' : IsQuietAt g w' u) where
  same_head : (w.node u).head ≡ (w'.node u).head
  same_head =
      let a = rests g w u q in
      let b = rests g w' u q' in
      let c = alike g w w' u q q' in
      let phase : (w.node u).head.phase ≡ (w'.node u).head.phase = a.0 ∙ sym b.0 in
      let probe : (w.node u).head.probe ≡ (w'.node u).head.probe = a.1 ∙ sym b.1 in
      let count : (w.node u).head.find_count ≡ (w'.node u).head.find_count = a.2 ∙ sym b.2 in
      let best : (w.node u).head.best ≡ (w'.node u).head.best = best_none g w u q ∙ sym (best_none g w' u q') in
      let halted : (w.node u).head.halted ≡ (w'.node u).head.halted =
      same_bool (w.node u).head.halted (w'.node u).head.halted (halts_so g w w' u q q') (halts_so g w' w u q' q) in
      λ i. record {
        level = c.0 i;
        name = c.1 i;
        phase = phase i;
        find_count = count i;
        in_branch = same_in_branch g w w' u q q' i;
        best = best i;
        probe = probe i;
        halted = halted i;
      }

  pub same_node : w.node u ≡ w'.node u
  same_node =
      let a = (formed g w q.net).nodes u in
      let b = (formed g w' q'.net).nodes u in
      let number : (w.node u).number ≡ (w'.node u).number = a.number ∙ sym b.number in
      let keys : (w.node u).keys ≡ (w'.node u).keys = a.keys ∙ sym b.keys in
      λ i. record { number = number i; keys = keys i; marks = same_marks g w w' u q q' i; head = same_head i }

pub one_end_of_all : OneEnd
one_end_of_all g w w' u q q' = same_node g w w' u q q'
