-- In each net of a run what is remembered of fragments is a state that merging leads to, and who has halted is at the core of a whole fragment.
use Rattle.std.proofs.Common.{◌≡◌, ◌≢◌, ℕ, ◌+◌, ◌*◌, ◌≤◌, ◌<◌, true, false, Option, List, [], ◌∷◌, ◌++◌, length, refl, sym, ◌∙◌, ap, subst, ⊎_elim, arith}
use Rattle.std.specs.List.{Contains}
use Rattle.ghs_graph.specs.declared.key.Key.{Key}
use Rattle.ghs_graph.specs.Graph.{Shape, IsGraph}
use Rattle.ghs_node.specs.Words.{is_branch}
use Rattle.peer_network.specs.declared.event.Event.{Event}
use Rattle.peer_network.specs.Network.{Network, network_of, port_at, At, far, far_port, InNetwork}
use Rattle.ghs_protocol.specs.Net.{Net, opening}
use Rattle.ghs_protocol.specs.Run.{IsAfter}
use Rattle.ghs_protocol.specs.Marks.{HasHalted}
use Rattle.ghs_protocol.specs.Laws.{IsNetOf}
use Rattle.ghs_protocol.specs.Steps.{Step}
use Rattle.ghs_protocol.specs.Merging.{Fragments, singles, one_connect, Merging, Done, IsWhole}
use Rattle.ghs_protocol.specs.Cores.{IsCoreEnd, Ends_core, By_itself, HaltedAreCoreEnds, MergesTo, CoreIsOfGraph}
use Rattle.std.proofs.lemmas.List.{length-append}
use Rattle.ghs_node.specs.NodeState.{mark_at}
use Rattle.ghs_node.specs.declared.mark.Mark.TheVariants.{Branch}
use Rattle.ghs_node.specs.declared.message.Message.{Message}
use Rattle.ghs_node.specs.declared.message.Message.TheVariants.{Connect}
use Rattle.ghs_node.specs.declared.message.Phase.TheVariants.{Sleeping}
use Rattle.ghs_protocol.proofs.wake.Opening.{unmarked}
use Rattle.ghs_protocol.proofs.union.ConnectIn.{came_in}
use Rattle.ghs_protocol.proofs.rows.Read.{tree_first}
use Rattle.ghs_protocol.proofs.rows.Link.{link_fits, link_fits', link_leads}
use Rattle.ghs_protocol.proofs.clauses.Scene.{Ghost, scene, see, tree_end, end, far_end}
use Rattle.ghs_protocol.proofs.clauses.Floors.{Sound}
use Rattle.ghs_protocol.proofs.clauses.Whole.{opening_ghost}
use Rattle.ghs_protocol.proofs.lemmas.WellFormed.{IsWellFormed}
use Rattle.peer_network.proofs.lemmas.Graphs.{graph_wired, graph_few, is_key}
use Rattle.ghs_protocol.proofs.lemmas.Lasting.{AllLast, event_lasts}
use Rattle.ghs_protocol.proofs.lemmas.Steps.{step_happens, run_by_steps}
use Rattle.ghs_protocol.proofs.acts.Grounds.{graph_ground}
use Rattle.ghs_protocol.proofs.rows.Rows.{Stepped, step_grows, step_takes}
use Rattle.ghs_protocol.proofs.every_run.Sound.{opening_sound}
use Rattle.ghs_protocol.proofs.merging.OneEnd.{Stays, merging_on, whole_stays_on, one_core, singles_even}
use Rattle.ghs_protocol.proofs.one_core.Links.{dart, between}
use Rattle.ghs_protocol.proofs.one_core.Renamed.{Renamed, opening_renamed, Went, grows_merges}
use Rattle.ghs_protocol.proofs.one_core.Connects.{one_if_branch, not_one, branch_ports, step_connects}
use Rattle.peer_network.proofs.lemmas.Sums.{ports_none}
use Rattle.ghs_protocol.proofs.one_core.Joins.{one_if_joined, not_joined, joined_ports, step_branched, join_count}
use Rattle.ghs_protocol.proofs.one_core.Halted.{AtCore, On_core, No_link, IsCoreNode, step_halts}
use Rattle.ghs_node.proofs.lemmas.{branch_mark}

-- the net's fragments are those of a state that merging leads to
pub record Simulated (s : Shape) (w : Net) : Type 0 where
  pub ghost : Ghost
  pub sound : Sound (network_of s) (scene w ghost)
  pub links : List Key
  pub connects : ℕ
  pub state : Fragments
  pub way : Merging s.keys one_connect singles links connects state
  pub same : Renamed state ghost
  -- Connects are as many as the steps took, but for the Branch ports that no step has joined
  pub count : w.sent 0 + 2 * length links ≡ branch_ports (network_of s) w + connects
  -- each step has joined a link
  pub joins : joined_ports (network_of s) w ≡ 2 * length links
  pub cores : (v : ℕ) → InNetwork (network_of s) v → HasHalted w v → IsCoreNode (network_of s) (scene w ghost) v

module _ (s : Shape) (ok : IsGraph s) where
  abbrev g : Network
  g = network_of s

  -- a fragment that no link leaves, by ports and by keys
  module _ (m : Fragments) (gh : Ghost) (same : Renamed m gh) (v : ℕ) where
    pub whole_of : ((t p : ℕ) →
        At (network_of s) t p →
        gh.fragment t ≡ gh.fragment v →
        gh.fragment (far (network_of s) t p) ≡ gh.fragment v) →
        IsWhole s.keys m v
    whole_of h j t x has ends e =
        let d = dart s ok j t x has ends in
        same.to x v (subst (λ y. gh.fragment y ≡ gh.fragment v) d.leads (h t d.port d.at (same.from t v e)))

    pub whole_at : IsWhole s.keys m v → (t p : ℕ) →
        At (network_of s) t p →
        gh.fragment t ≡ gh.fragment v →
        gh.fragment (far (network_of s) t p) ≡ gh.fragment v
    whole_at h t p at e = same.from (far g t p) v (h (port_at g t p).key t (far g t p) (key_in t p at) (between s ok t p at) (same.to t v e))
      where
        key_in : (t p : ℕ) → At (network_of s) t p → Contains s.keys (port_at (network_of s) t p).key
        key_in t p at = is_key s ok t p at

  -- a core node stays one
  module _ (w w' : Net) (lasts : AllLast w w') (gh gh' : Ghost) (sound' : Sound (network_of s) (scene w' gh')) (m m' : Fragments) (fs : List Key)
      (fc : ℕ) (way : Merging s.keys one_connect m fs fc m') (same : Renamed m gh) (same' : Renamed m' gh') where
    core_stays : (v : ℕ) → InNetwork (network_of s) v → IsCoreNode (network_of s) (scene w gh) v → IsCoreNode (network_of s) (scene w' gh') v
    core_stays v is c = record { whole = whole_at m' gh' same' v stays.whole; top = top; core = at c.core }
      where
        stays : Stays s.keys one_connect m m' v
        stays = whole_stays_on s.keys one_connect m fs fc m' v (whole_of m gh same v c.whole) way

        level : gh'.coming (gh'.fragment v) ≡ gh.coming (gh.fragment v)
        level = sym (same'.level v) ∙ stays.level ∙ same.level v

        core : gh'.coming_name (gh'.fragment v) ≡ gh.coming_name (gh.fragment v)
        core = sym (same'.core v) ∙ stays.core ∙ same.core v

        top : (w'.node v).head.level ≡ gh'.coming (gh'.fragment v)
        top =
            let a = (lasts v).level in
            let b = (sound'.first.nodes v is).lag.level in
            let t = c.top in omega (arith, a, b, t, level)

        at : AtCore (network_of s) (scene w gh) v → AtCore (network_of s) (scene w' gh') v
        at (On_core p at' j n) =
            On_core p at'
            (record {
              here = ap is_branch ((lasts v).branch p (branch_mark _ j.here));
              there = ap is_branch ((lasts (far (network_of s) v p)).branch (far_port (network_of s) v p) (branch_mark _ j.there));
            })
            (core ∙ n)
        at (No_link z n l) = No_link z (core ∙ n) (level ∙ l)

  opening_count : (opening (network_of s)).sent 0 + 2 * 0 ≡ branch_ports (network_of s) (opening (network_of s)) + 0
  opening_count = let z = ports_none g (λ v p. one_if_branch (mark_at ((opening (network_of s)).node v) p)) (λ v p. none v p) in omega (arith, z)
    where
      none : (v p : ℕ) → one_if_branch (mark_at ((opening (network_of s)).node v) p) ≡ 0
      none v p = not_one _ (unmarked (length ((network_of s).ports v)) p)

  opening_joins : joined_ports (network_of s) (opening (network_of s)) ≡ 2 * 0
  opening_joins =
      ports_none g
      (λ v p.
      one_if_joined (mark_at ((opening (network_of s)).node v) p)
      (mark_at ((opening (network_of s)).node (far (network_of s) v p)) (far_port (network_of s) v p)))
      (λ v p. not_joined _ _ (unmarked (length ((network_of s).ports v)) p))

  opening_simulated : Simulated s (opening (network_of s))
  opening_simulated = record {
    ghost = opening_ghost;
    sound = opening_sound g;
    links = [];
    connects = 0;
    count = opening_count;
    joins = opening_joins;
    state = singles;
    way = Done;
    same = opening_renamed;
    cores = λ v is h. absurd (let z : false ≡ true = h in cc);
  }

  -- a Connect that is absorbed comes in at a port that isn't Branch
  came_free : (w : Net) (gh : Ghost) → Sound (network_of s) (scene w gh) → (v p l : ℕ) (ms : List Message) →
      At (network_of s) v p →
      w.queue v p ≡ Connect l ∷ ms →
      (w.node v).head.phase ≢ Sleeping → l < (w.node v).head.level → mark_at (w.node v) p ≢ Branch
  came_free w gh h v p l ms at q up lt =
      (came_in (tree_end (end g (scene w gh) v p)) (tree_end (far_end g (scene w gh) v p))
      (link_fits g (graph_wired s ok) (scene w gh) h.first v p at).tree (link_fits' g (graph_wired s ok) (scene w gh) h.first v p at).tree
      (link_leads g (graph_wired s ok) (scene w gh) h.first v p at)
      (λ j. (h.first.trees.by_fragment (far g v p) v
      (sym (h.first.trees.joined_within v p at (record { here = ap is_branch j.here; there = ap is_branch j.there })))).0)
      l (see ms).tree (tree_first (w.queue v p) ms (Connect l) refl q) lt).mark

  step_simulated : (w w' : Net) → IsWellFormed (network_of s) w → Simulated s w → Step (network_of s) w w' → Simulated s w'
  step_simulated w w' f i t =
      let a : Stepped (network_of s) (graph_ground s ok) (step_takes t) w' i.ghost =
      step_grows g (graph_ground s ok) w w' f.nodes i.ghost i.sound t in
      let b : Went s.keys i.state (step_takes t) a.steps a.ghost = grows_merges s ok i.state i.ghost a.ghost i.same (step_takes t) a.steps a.grows in
      let lasts : AllLast w w' = step_happens g f t (λ e h. event_lasts g (graph_wired s ok) w w' e f h) in
      record {
        ghost = a.ghost;
        sound = a.holds;
        links = i.links ++ b.links;
        connects = i.connects + b.connects;
        count =
            let x = i.count in
            let y = b.costs in
            let z = step_connects g w f.nodes (came_free w i.ghost i.sound)
            (λ v is e. ((i.sound.first.nodes v is).untouched e).marks 0) w' t in
            let l = length-append i.links b.links in omega (arith, x, y, z, l);
        state = b.to;
        way = merging_on s.keys one_connect singles i.state b.to i.links b.links i.connects b.connects i.way b.way;
        same = b.same;
        joins =
            let x = i.joins in
            let y = b.many in
            let z = join_count g (graph_wired s ok) w w' lasts i.ghost a.ghost i.sound.first a.holds.first (step_branched g w w' f.nodes t)
            (step_takes t) a.steps a.grows in
            let l = length-append i.links b.links in omega (arith, x, y, z, l);
        cores = λ v is h.
            core_stays w w' lasts i.ghost a.ghost a.holds i.state b.to b.links b.connects b.way i.same b.same v is
            (⊎_elim (λ x. i.cores v is x) (λ x. x) (step_halts g (graph_ground s ok) w f.nodes i.ghost i.sound w' t v h));
      }

  pub after_simulated : (es : List Event) (w : Net) → IsAfter (network_of s) es w → Simulated s w
  after_simulated es w h =
      run_by_steps g (graph_wired s ok) (graph_few s ok) (Simulated s) step_simulated opening_simulated es w h

pub simulated : (s : Shape) (w : Net) → IsNetOf s w → Simulated s w
simulated s w n = after_simulated s n.graph n.events w n.run

-- The laws.

module _ (s : Shape) (w : Net) (n : IsNetOf s w) (v : ℕ) (lo : 1 ≤ v) (hi : v ≤ s.nodes) (h : HasHalted w v) where
  sim : Simulated s w
  sim = simulated s w n

  is : InNetwork (network_of s) v
  is = record { some = lo; node = hi }

  core : IsCoreNode (network_of s) (scene w (simulated s w n).ghost) v
  core = (simulated s w n).cores v is h

  name : (w.node v).head.name ≡ (simulated s w n).ghost.coming_name ((simulated s w n).ghost.fragment v)
  name = ((simulated s w n).sound.first.nodes v is).lag.name core.top

  core_end : AtCore (network_of s) (scene w (simulated s w n).ghost) v → IsCoreEnd (network_of s) w v
  core_end (On_core p at j c) = Ends_core p at (branch_mark _ j.here, branch_mark _ j.there) (name ∙ c)
  core_end (No_link z c l) = By_itself z (name ∙ c) (core.top ∙ l)

  pub halted_merges_to : MergesTo s v (w.node v).head.level (w.node v).head.name
  halted_merges_to = record {
    links = (simulated s w n).links;
    connects = (simulated s w n).connects;
    to = (simulated s w n).state;
    way = (simulated s w n).way;
    whole = whole_of s n.graph (simulated s w n).state (simulated s w n).ghost (simulated s w n).same v core.whole;
    level = (simulated s w n).same.level v ∙ sym core.top;
    core = (simulated s w n).same.core v ∙ sym name;
  }

  pub is_core_end : IsCoreEnd (network_of s) w v
  is_core_end = core_end core.core

-- merging leads to one level and one core
pub merges_alike : (s : Shape) (v l k : ℕ) (c d : Option Key) → MergesTo s v l c → MergesTo s v k d → (l ≡ k) × (c ≡ d)
merges_alike s v l k c d a b =
    let z = one_core s.keys one_connect singles a.to b.to a.links b.links a.connects b.connects v singles_even a.way b.way a.whole b.whole in
    (sym a.level ∙ z.0 ∙ b.level, sym a.core ∙ z.1 ∙ b.core)

pub halted_are_core_ends : HaltedAreCoreEnds
halted_are_core_ends g w n v lo hi h = is_core_end g w n v lo hi h

pub core_is_of_graph : CoreIsOfGraph
core_is_of_graph g w n v lo hi h =
    (halted_merges_to g w n v lo hi h, λ l c m. merges_alike g v l _ c _ m (halted_merges_to g w n v lo hi h))
