-- Where fragments become one, the link is the least that leads out.
use Rattle.std.proofs.Common.{◌≡◌, ◌≢◌, ℕ, true, false, Option, Some, List, ◌||◌, ◌==◌, refl, sym, ◌∙◌, ap, ap₂, subst, subst₂, ⊎_elim, ◌⊎◌, eq-eqb, arith}
use Rattle.std.proofs.lemmas.Bool.{or_left, or_right, or_from, ne_eqb}
use Rattle.ghs_graph.specs.declared.key.Key.{Key}
use Rattle.ghs_node.specs.Words.{is_branch}
use Rattle.ghs_node.specs.declared.mark.Mark.TheVariants.{Branch}
use Rattle.ghs_node.specs.declared.message.Phase.TheVariants.{Sleeping}
use Rattle.ghs_node.specs.declared.message.Message.{Message}
use Rattle.peer_network.specs.Network.{Network, port_at, At, far, far_port, InNetwork}
use Rattle.peer_network.proofs.lemmas.Wired.{IsWired}
use Rattle.peer_network.proofs.lemmas.Updates.{put_same, put_other}
use Rattle.ghs_protocol.proofs.clauses.Scene.{Ghost, Scene, tree_end, end, forest, far_end}
use Rattle.ghs_protocol.proofs.clauses.Links.{Out}
use Rattle.ghs_protocol.proofs.clauses.TreeMessages.{ConnectUnderWay}
use Rattle.ghs_protocol.proofs.clauses.Fragments.{Root, Goes_out, Both_ways, Reach, At_root, By_step}
use Rattle.ghs_protocol.proofs.clauses.Uniting.{SendsRoot}
use Rattle.ghs_protocol.proofs.clauses.Wiring.{Ground}
use Rattle.ghs_protocol.proofs.clauses.Whole.{Invariant}
use Rattle.ghs_protocol.proofs.clauses.Floors.{Floor, lower, Floors}
use Rattle.ghs_protocol.proofs.clauses.Growing.{LeastPort, Grouped}
use Rattle.ghs_protocol.proofs.acts.SameForest.{branch_mark, not_branch}
use Rattle.ghs_protocol.proofs.acts.Reactions.{regrouped}
use Rattle.ghs_protocol.proofs.acts.Floors.{near_fits, lower_on, lower_self, not_above, best_least}
use Rattle.ghs_protocol.proofs.rows.Link.{link_fits, connect_comes}
use Rattle.ghs_protocol.proofs.root.AtRoot.{AtRoot, at_root}
use Rattle.ghs_protocol.proofs.root.Inward.{at_best}
use Rattle.ghs_protocol.proofs.tests.Links.{probe_is}
use Rattle.ghs_protocol.proofs.wake.Floors.{first_least}
use Rattle.ghs_protocol.proofs.wake.Inward.{waking}

-- regrouping, node by node
pub grouped : (c a l : ℕ) (n : Option Key) (gh : Ghost) (o : ℕ → Option ℕ) → Grouped gh (regrouped c a l n (record gh { up = o })) c a l n
grouped c a l n gh o = record {
  inside = λ u h. let e = is u h in rw e refl;
  outside = λ u x y. let e = isn't u x y in rw e refl;
  level = put_same gh.coming a l;
  name = put_same gh.coming_name a n;
  levels = λ b ne. put_other gh.coming a b l ne;
  names = λ b ne. put_other gh.coming_name a b n ne;
}
  where
    is : (u : ℕ) → (gh.fragment u ≡ c) ⊎ (gh.fragment u ≡ a) → ((gh.fragment u == c) || (gh.fragment u == a)) ≡ true
    is u h = ⊎_elim (λ e. or_left _ _ (eq-eqb (gh.fragment u) c e)) (λ e. or_right _ _ (eq-eqb (gh.fragment u) a e)) h

    isn't : (u : ℕ) → gh.fragment u ≢ c → gh.fragment u ≢ a → ((gh.fragment u == c) || (gh.fragment u == a)) ≡ false
    isn't u x y = or_from _ _ (ne_eqb (gh.fragment u) c x) (ne_eqb (gh.fragment u) a y)

module _ (g : Network) (wired : IsWired g) (w : Scene) (holds : Invariant g w) (floor : ℕ → Floor) (floors : Floors g w floor) where
  -- a Connect goes out over the least link
  module _ (v p : ℕ) (at : At g v p) (here : (w.at v).mark p ≡ Branch) (there : (w.at (far g v p)).mark (far_port g v p) ≢ Branch) where
    goes : Out (tree_end (end g w v p)) (tree_end (far_end g w v p))
    goes = record { here = here; there = there }

    under : ConnectUnderWay (tree_end (end g w v p)) (tree_end (far_end g w v p))
    under = (link_fits g wired w holds v p at).tree.out_connect goes

    k : Floor
    k = Some (Some (port_at g v p).key)

    is_floor : floor v ≡ Some (Some (port_at g v p).key)
    is_floor = (near_fits g wired w holds floor floors v p at).out goes

    low : lower (Some (Some (port_at g v p).key)) (floor v) ≡ true
    low =
        subst (λ x. lower (Some (Some (port_at g v p).key)) x ≡ true) (sym is_floor) (lower_self (Some (Some (port_at g v p).key)))

    at_the_root : (t q : ℕ) →
        At g t q →
        Root g (forest w) t q →
        (w.at t).fragment ≡ (w.at v).fragment →
        lower (Some (Some (port_at g v p).key)) (floor t) ≡ true
    at_the_root t q at' root same =
        ⊎_elim (λ h. subst (λ y. lower (Some (Some (port_at g v p).key)) (floor y) ≡ true) (sym h.0) low)
        (λ h.
        absurd
        (under.apart
        (subst
        (λ y. (w.at y).fragment ≡ (w.at v).fragment)
        (sym (wired.back t q at') ∙ ap₂ (far g) h.0 h.1)
        same)))
        (holds.trees.one_root t q v p at' at root (Goes_out (ap is_branch here) (not_branch _ there)) same)

    above : {t : ℕ} → Reach g (forest w) t → (w.at t).fragment ≡ (w.at v).fragment → lower (Some (Some (port_at g v p).key)) (floor t) ≡ true
    above {t} (At_root q at' way root) same = at_the_root t q at' root same
    above {t} (By_step q at' way link r) same =
        ⊎_elim (λ h. at_the_root t q at' (Both_ways link way h) same)
        (λ ne.
        lower_on (Some (Some (port_at g v p).key)) (floor (far g t q)) (floor t)
        (above r (sym (holds.trees.joined_within t q at' link) ∙ same))
        ((near_fits g wired w holds floor floors t q at').falls
        (record { joins = record { here = branch_mark _ link.here; there = branch_mark _ link.there }; up = way; down = ne })))
        (probe_is (w.at (far g t q)).up (far_port g t q))

    v_is : InNetwork g v
    v_is = record { some = at.some; node = at.node }

    awake : (t : ℕ) → InNetwork g t → (w.at t).fragment ≡ (w.at v).fragment → (w.at t).head.phase ≢ Sleeping
    awake t is same e =
        ((holds.nodes v v_is).untouched (subst (λ y. (w.at y).head.phase ≡ Sleeping) (sym (holds.alone t v is v_is e (sym same))) e)).marks p here

    pub out_least : LeastPort g (λ t. (w.at t).fragment) v p
    out_least = record {
      at = at;
      out = under.apart;
      least = λ t q at' same away.
          let is : InNetwork g t = record { some = at'.some; node = at'.node } in
          let z = (holds.nodes t is).points (awake t is same) (omega (arith, at'.port)) in
          not_above (port_at g v p).key (port_at g t q).key
          (lower_on (Some (Some (port_at g v p).key)) (floor t) _ (above (holds.trees.reached t z.port is z.up) same)
          ((near_fits g wired w holds floor floors t q at').none_below (λ e. away (e ∙ same))));
    }

  -- the Connect that stands at port p of v came over the least link
  pub came_least : (v p : ℕ) → At g v p →
      (w.at v).mark p ≢ Branch →
      (w.at (far g v p)).mark (far_port g v p) ≡ Branch →
      LeastPort g (λ t. (w.at t).fragment) (far g v p) (far_port g v p)
  came_least v p at here there =
      out_least (far g v p) (far_port g v p) (wired.there v p at) there
      (subst₂ (λ a b. (w.at a).mark b ≢ Branch) (sym (wired.back v p at)) (sym (wired.back_port v p at)) here)

  -- the root of u goes out over port b, and meets a Connect
  module _ (u : ℕ) (u_is : InNetwork g u) (j : ℕ) (at : At g u j) (ms : List Message) (b : ℕ) (k : Key) (calls : SendsRoot w u j ms)
      (best : (w.at u).head.best ≡ Some (b, k)) (mark : (w.at u).mark b ≢ Branch) where
    root : AtRoot g w u j ms
    root = at_root g wired u u_is j at w holds ms calls

    atb : At g u b
    atb = at_best g wired u u_is j at w holds ms root b k best

    pub root_least : LeastPort g (λ t. (w.at t).fragment) u b
    root_least = record {
      at = atb;
      out = ((link_fits g wired w holds u b atb).search.find_leads k best root.top mark).apart;
      least = best_least g wired w holds floor floors u j at ms root calls b k atb best mark;
    }

    pub root_levels : (w.at (far g u b)).mark (far_port g u b) ≡ Branch → (w.at u).coming ≡ (w.at (far g u b)).coming
    root_levels there =
        let c = connect_comes g wired w holds u b atb there mark in
        let out = (link_fits g wired w holds u b atb).search.find_leads k best root.top mark in
        let x = c.level in let y = c.higher in let z = out.higher in let t = root.top in omega (arith, x, y, z, t)

module _ (g : Network) (ground : Ground g) (w : Scene) (holds : Invariant g w) (floor : ℕ → Floor) (floors : Floors g w floor) where
  -- a node that wakes meets a Connect
  module _ (u : ℕ) (u_is : InNetwork g u) (at : At g u 0) (sleeps : (w.at u).head.phase ≡ Sleeping) where
    pub wake_least : LeastPort g (λ t. (w.at t).fragment) u 0
    wake_least = record {
      at = at;
      out = (waking g ground.wired u u_is w holds at sleeps).apart;
      least = first_least g ground u u_is w holds at sleeps floor floors;
    }

    pub wake_levels : (w.at (far g u 0)).mark (far_port g u 0) ≡ Branch → (w.at u).coming ≡ (w.at (far g u 0)).coming
    wake_levels there =
        let f = (holds.nodes u u_is).untouched sleeps in
        let c = connect_comes g ground.wired w holds u 0 at there (f.marks 0) in
        let x = c.level in let y = c.higher in let z = f.level in let t = f.coming in omega (arith, x, y, z, t)
