-- Where nothing waits, each node of a component that woke stands where merging leads it.
use Rattle.std.proofs.Common.{◌≡◌, ◌≢◌, ◌↔◌, ℕ, zero, suc, true, false, None, length, refl, sym, ◌∙◌, ap, subst, ⊎_elim, arith}
use Rattle.ghs_graph.specs.declared.key.Key.{Key}
use Rattle.ghs_graph.specs.Graph.{Shape, IsGraph}
use Rattle.ghs_graph.specs.Links.{Joined, Same, Back, links, InTree}
use Rattle.ghs_graph.proofs.lemmas.Joining.{joined_then, joined_back}
use Rattle.ghs_node.specs.declared.mark.Mark.TheVariants.{Branch}
use Rattle.ghs_node.specs.declared.message.Phase.TheVariants.{Sleeping, Find, Found}
use Rattle.ghs_node.specs.NodeState.{mark_at}
use Rattle.peer_network.specs.Network.{network_of, port_at, At, InNetwork}
use Rattle.ghs_protocol.specs.Net.{Net}
use Rattle.ghs_protocol.specs.Marks.{HasHalted, IsJoined, Leads, Here, Over}
use Rattle.ghs_protocol.specs.Living.{AnyLink}
use Rattle.ghs_protocol.specs.Merging.{IsWhole}
use Rattle.ghs_protocol.specs.Cores.{IsCoreEnd, Ends_core, By_itself, MergesTo, IsQuietAt, QuietNames, QuietNodes, QuietBranches, QuietHalts}
use Rattle.ghs_protocol.proofs.clauses.Scene.{scene, see, unseen, forest}
use Rattle.ghs_protocol.proofs.clauses.Fragments.{IsJoinedIn}
use Rattle.ghs_protocol.proofs.clauses.Nodes.{NodeFits}
use Rattle.ghs_protocol.proofs.clauses.UnderWay.{Living}
use Rattle.ghs_protocol.proofs.lemmas.Nodes.{ports_many}
use Rattle.peer_network.proofs.lemmas.Graphs.{graph_wired, is_key, port_ends}
use Rattle.ghs_protocol.proofs.acts.Grounds.{graph_ground}
use Rattle.ghs_protocol.proofs.every_run.Trees.{leads_join}
use Rattle.ghs_protocol.proofs.progress.Awaits.{net_lives, net_awaits}
use Rattle.ghs_protocol.proofs.progress.Finish.{silent_nets_have_ended, silent_nets_are_exact, leads_inside}
use Rattle.ghs_protocol.proofs.one_core.Halted.{IsCoreNode}
use Rattle.ghs_protocol.proofs.one_core.Links.{joined_at}
use Rattle.ghs_protocol.proofs.one_core.Runs.{Simulated, simulated, whole_of, is_core_end}
use Rattle.ghs_protocol.proofs.one_core.Components.{joined_in, joined_whole}
use Rattle.ghs_protocol.proofs.one_core.Silent.{top, found, core_is_root, core_halts}
use Rattle.ghs_protocol.proofs.lemmas.Woken.{at_rest}
use Rattle.ghs_protocol.proofs.every_run.Firsts.{formed}

module _ (g : Shape) (w : Net) (u : ℕ) (q : IsQuietAt g w u) where
  ok : IsGraph g
  ok = q.net.graph

  sim : Simulated g w
  sim = simulated g w q.net

  v_is : InNetwork (network_of g) q.woken
  v_is = record { some = q.some; node = q.node }

  pub u_is : InNetwork (network_of g) u
  u_is = let b = joined_in g q.net.graph q.way (q.some, q.node) in record { some = b.0; node = b.1 }

  pub living : Living (network_of g) (scene w (simulated g w q.net).ghost)
  living = net_lives g w q.net (simulated g w q.net).ghost (simulated g w q.net).sound.lives

  -- a node that has halted
  pub record Ended : Type 0 where
    pub node : ℕ
    pub is : InNetwork (network_of g) node
    pub way : Joined (links g.keys) node u
    pub halted : HasHalted w node

  pub ended : Ended
  ended =
      let h = silent_nets_have_ended g w q.net q.silent q.woken v_is q.awake in
      record {
        node = h.0;
        is = leads_inside (network_of g) (graph_wired g q.net.graph) h.1 v_is;
        way =
            joined_then (joined_back (leads_join g q.net.graph (links g.keys) AnyLink (λ a p at x. is_key g q.net.graph a p at) h.1)) q.way;
        halted = h.2;
      }

  c : ℕ
  c = ended.node

  pub core : IsCoreNode (network_of g) (scene w (simulated g w q.net).ghost) (ended.node)
  core = (simulated g w q.net).cores ended.node ended.is ended.halted

  pub same : (simulated g w q.net).ghost.fragment u ≡ (simulated g w q.net).ghost.fragment (ended.node)
  same =
      (simulated g w q.net).same.from u ended.node
      (joined_whole g.keys (simulated g w q.net).state ended.node
      (whole_of g q.net.graph (simulated g w q.net).state (simulated g w q.net).ghost (simulated g w q.net).same ended.node core.whole) ended.way
      refl)

  pub c_awake : (w.node (ended.node)).head.phase ≢ Sleeping
  c_awake e =
      let z = (((simulated g w q.net).sound.first.nodes ended.node ended.is).untouched e).halted in
      let h = ended.halted in
      let y : false ≡ true = sym z ∙ h in cc

  pub quiet : (t p : ℕ) → At (network_of g) t p → see (w.queue t p) ≡ unseen
  quiet t p at = ap see (q.silent t p at)

  pub fits : NodeFits (length ((network_of g).ports u)) ((scene w (simulated g w q.net).ghost).at u)
  fits = (simulated g w q.net).sound.first.nodes u u_is

  -- how u stands
  pub record Stands : Type 0 where
    pub top : (w.node u).head.level ≡ (simulated g w q.net).ghost.coming ((simulated g w q.net).ghost.fragment u)
    pub found : (w.node u).head.phase ≡ Found
    pub awake : (w.node u).head.phase ≢ Sleeping

  -- without a link it is the one that has halted
  alone : ◌≡◌ {A = ℕ} (length ((network_of g).ports u)) 0 → Stands
  alone none = record { top = subst Top (sym is_c) core.top; found = at_rest _ no_search awake; awake = awake }
    where
      Top : ℕ → Type 0
      Top t = (w.node t).head.level ≡ (simulated g w q.net).ghost.coming ((simulated g w q.net).ghost.fragment t)

      only : {t : ℕ} → Leads (network_of g) (IsJoinedIn (network_of g) (forest (scene w (simulated g w q.net).ghost))) u t → u ≡ t
      only Here = refl
      only (Over p at j l) = absurd (let lt = at.port in omega (arith, lt, none))

      is_c : u ≡ ended.node
      is_c = only ((simulated g w q.net).sound.first.trees.connected u ended.node u_is ended.is same)

      awake : (w.node u).head.phase ≢ Sleeping
      awake = subst (λ t. (w.node t).head.phase ≢ Sleeping) (sym is_c) c_awake

      no_search : (w.node u).head.phase ≢ Find
      no_search e = let s = fits.searching e in let lt = fits.own_ports.in_branch s.port s.in_branch in omega (arith, lt, none)

  linked : (p : ℕ) → At (network_of g) u p → Stands
  linked p at = record {
    top = top (network_of g) (graph_ground g q.net.graph) (scene w (simulated g w q.net).ghost) (simulated g w q.net).sound.first living quiet
        ended.node ended.is c_awake core.whole u p at same;
    found = is_found;
    awake = λ e. let z : Found ≡ Sleeping = sym is_found ∙ e in cc;
  }
    where
      is_found : (w.node u).head.phase ≡ Found
      is_found =
          found (network_of g) (graph_ground g q.net.graph) (scene w (simulated g w q.net).ghost) (simulated g w q.net).sound.first living quiet
          ended.node ended.is c_awake core.whole u p at same

  pub stands : Stands
  stands = go (length ((network_of g).ports u)) refl
    where
      go : (n : ℕ) → length ((network_of g).ports u) ≡ n → Stands
      go zero e = alone e
      go (suc n) e = linked 0 (record { some = u_is.some; node = u_is.node; port = omega (arith, e) })

  pub named : (w.node u).head.name ≡ (simulated g w q.net).ghost.coming_name ((simulated g w q.net).ghost.fragment u)
  named = fits.lag.name stands.top

  pub whole_state : IsWhole g.keys (simulated g w q.net).state u
  whole_state =
      whole_of g q.net.graph (simulated g w q.net).state (simulated g w q.net).ghost (simulated g w q.net).same u
      (λ t p at e. core.whole t p at (e ∙ same) ∙ sym same)

  pub merges : MergesTo g u (w.node u).head.level (w.node u).head.name
  merges = record {
    links = (simulated g w q.net).links;
    connects = (simulated g w q.net).connects;
    to = (simulated g w q.net).state;
    way = (simulated g w q.net).way;
    whole = whole_state;
    level = (simulated g w q.net).same.level u ∙ sym stands.top;
    core = (simulated g w q.net).same.core u ∙ sym named;
  }

  pub rests : ((w.node u).head.phase ≡ Found) × ((w.node u).head.probe ≡ None) × ◌≡◌ {A = ℕ} (w.node u).head.find_count 0
  rests = let z = fits.idle (λ e. let y : Found ≡ Find = sym stands.found ∙ e in cc) in (stands.found, z.0, z.1)

  -- marks
  module _ (p : ℕ) (at : At (network_of g) u p) where
    k : Key
    k = (port_at (network_of g) u p).key

    k_way : Joined (links g.keys) q.woken (port_at (network_of g) u p).key.a
    k_way =
        ⊎_elim (λ e. subst (Joined (links g.keys) q.woken) e.0 q.way)
        (λ e. joined_then (subst (Joined (links g.keys) q.woken) e.0 q.way)
        (Back (port_at (network_of g) u p).key (is_key g q.net.graph u p at) Same))
        (port_ends g q.net.graph u p at)

    -- a link of the tree is joined
    pub tree_joined : InTree g.keys (port_at (network_of g) u p).key → IsJoined (network_of g) w u p
    tree_joined tree =
        joined_at g q.net.graph w u p at
        ((silent_nets_are_exact g w q.net q.silent q.woken v_is q.awake (port_at (network_of g) u p).key (is_key g q.net.graph u p at) k_way).0 tree)

    pub branches : mark_at (w.node u) p ≡ Branch ↔ InTree g.keys (port_at (network_of g) u p).key
    branches =
        let z = silent_nets_are_exact g w q.net q.silent q.woken v_is q.awake (port_at (network_of g) u p).key (is_key g q.net.graph u p at) k_way in
        (λ m. (z.1 (u, p, at, refl, m)).0, λ tree. (tree_joined tree).0)

  -- halts
  ends_halt : IsCoreEnd (network_of g) w u → HasHalted w u
  ends_halt (Ends_core p at j e) =
      core_halts (network_of g) (graph_ground g q.net.graph) (scene w (simulated g w q.net).ghost) (simulated g w q.net).sound.first living quiet
      ended.node ended.is c_awake core.whole u p
      (core_is_root (network_of g) (graph_ground g q.net.graph) (scene w (simulated g w q.net).ghost) (simulated g w q.net).sound.first living quiet
      ended.node ended.is c_awake core.whole u p at same (sym named ∙ e))
      same
  ends_halt (By_itself none e l) = (net_awaits g w q.net u).halts stands.awake (ports_many ((formed g w q.net).nodes u) ∙ none)

  pub halts : HasHalted w u ↔ IsCoreEnd (network_of g) w u
  halts = (λ h. is_core_end g w q.net u u_is.some u_is.node h, ends_halt)

pub quiet_names : QuietNames
quiet_names g w u q = merges g w u q

pub quiet_nodes : QuietNodes
quiet_nodes g w u q = rests g w u q

pub quiet_branches : QuietBranches
quiet_branches g w u q p at = branches g w u q p at

pub quiet_halts : QuietHalts
quiet_halts g w u q = halts g w u q
