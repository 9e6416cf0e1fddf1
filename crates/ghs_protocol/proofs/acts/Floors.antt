-- Floors: what they say of a whole fragment, and that the link over which the root goes out is one of the tree.
use Rattle.std.proofs.Common.{◌≡◌, ◌≢◌, ℕ, true, false, Option, Some, None, List, ◌∷◌, refl, sym, ◌∙◌, ap, ap₂, subst, subst₂, ⊎_elim, arith}
use Rattle.std.proofs.lemmas.Bool.{cases_eq}
use Rattle.std.proofs.lemmas.Bool.Decides.{nat_tests}
use Rattle.ghs_graph.specs.declared.key.Key.{Key}
use Rattle.ghs_graph.specs.Key.{key_lt}
use Rattle.ghs_node.specs.Words.{is_branch, below, best_key}
use Rattle.ghs_node.specs.declared.mark.Mark.TheVariants.{Branch}
use Rattle.ghs_node.specs.declared.message.Phase.TheVariants.{Sleeping, Found}
use Rattle.ghs_node.specs.declared.message.Message.{Message}
use Rattle.ghs_node.specs.declared.message.Message.TheVariants.{Report, ChangeRoot}
use Rattle.peer_network.specs.Network.{Network, port_at, At, far, far_port, InNetwork}
use Rattle.peer_network.proofs.lemmas.Wired.{IsWired}
use Rattle.ghs_protocol.specs.Marks.{Leads, Here, Over}
use Rattle.ghs_protocol.proofs.clauses.Scene.{Scene, End, tree_end, end, forest, far_end}
use Rattle.ghs_protocol.proofs.clauses.Changes.{seen_beyond}
use Rattle.ghs_protocol.proofs.clauses.Fragments.{IsJoinedIn, Root, Both_ways, Reach, At_root, By_step}
use Rattle.ghs_protocol.proofs.clauses.Uniting.{SendsRoot, By_report, By_root}
use Rattle.ghs_protocol.proofs.clauses.Whole.{Invariant, NamesOf}
use Rattle.ghs_protocol.proofs.clauses.Floors.{Floor, lower, FloorsAt, IsTreeLink, Floors}
use Rattle.ghs_protocol.proofs.acts.SameForest.{branch_mark}
use Rattle.ghs_protocol.proofs.tests.Links.{probe_is}
use Rattle.ghs_protocol.proofs.rest.Halt.{Back, Old, Half, back}
use Rattle.ghs_protocol.proofs.root.AtRoot.{AtRoot, root_sent}
use Rattle.ghs_protocol.proofs.rows.Link.{link_fits, link_clauses, joined_clauses}
use Rattle.ghs_protocol.proofs.acts.Situations.{begun_at_top, all_awake}
use Rattle.peer_network.proofs.lemmas.Wires.{at_in}

-- The order of floors.

pub lower_on : (a b c : Floor) → lower a b ≡ true → lower b c ≡ true → lower a c ≡ true
lower_on None b c h l = refl
lower_on (Some a) None c h l = cc
lower_on (Some a) (Some b) None h l = cc
lower_on (Some (Some i)) (Some (Some j)) (Some (Some k)) h l = grind (arith, nat_tests)
lower_on (Some (Some i)) (Some (Some j)) (Some None) h l = refl
lower_on (Some (Some i)) (Some None) (Some (Some k)) h l = cc
lower_on (Some (Some i)) (Some None) (Some None) h l = refl
lower_on (Some None) (Some (Some j)) c h l = cc
lower_on (Some None) (Some None) (Some (Some k)) h l = cc
lower_on (Some None) (Some None) (Some None) h l = refl

pub lower_self : (a : Floor) → lower a a ≡ true
lower_self None = refl
lower_self (Some None) = refl
lower_self (Some (Some k)) = grind (arith, nat_tests)

pub none_lower : (b : Floor) → b ≡ Some None → lower (Some None) b ≡ true
none_lower b e = rw e refl

-- less is not above
pub below_lower : (a b : Option Key) → below a b ≡ true → lower (Some a) (Some b) ≡ true
below_lower (Some i) (Some j) h = grind (arith, nat_tests)
below_lower (Some i) None h = refl
below_lower None b h = cc

pub not_above : (x y : Key) → lower (Some (Some x)) (Some (Some y)) ≡ true → key_lt y x ≡ false
not_above x y h = grind (arith, nat_tests)

-- A cut: where no link that leads out of a fragment has a smaller key, the link isn't spare.
module _ (g : Network) (part : ℕ → ℕ) (a : ℕ) (v p : ℕ) (apart : part (far g v p) ≢ a)
    (least : (t q : ℕ) → At g t q → part t ≡ a → part (far g t q) ≢ a → key_lt (port_at g t q).key (port_at g v p).key ≡ false) where
  stays : {t x : ℕ} → Leads g (λ y z. key_lt (port_at g y z).key (port_at g v p).key ≡ true) t x → part x ≢ a → part t ≡ a → ⊥
  stays Here out in_it = out in_it
  stays {t} (Over q at s l) out in_it = ⊎_elim (λ e. stays l out e) (λ ne. let z = least t q at in_it ne in cc (z, s)) (cases_eq (part (far g t q)) a)

  pub cut_link : part v ≡ a → IsTreeLink g v p
  cut_link in_it l = stays l apart in_it

module _ (g : Network) (wired : IsWired g) (w : Scene) (holds : Invariant g w) (floor : ℕ → Floor) (floors : Floors g w floor) where
  -- what holds of a link, from both ends
  pub near_fits : (v p : ℕ) → At g v p → FloorsAt (end g w v p) (far_end g w v p) (floor v) (floor (far g v p))
  near_fits v p at =
      subst (λ (e : End). FloorsAt (end g w v p) e (floor v) (floor (far g v p)))
      (λ k. record {
        port = far_port g v p;
        key = wired.same_key v p at k;
        mark = (w.at (far g v p)).mark (far_port g v p);
        is = w.at (far g v p);
        seen = seen_beyond g w v p;
      })
      (floors.links v p at)

  pub far_fits : (v p : ℕ) → At g v p → FloorsAt (far_end g w v p) (end g w v p) (floor (far g v p)) (floor v)
  far_fits v p at =
      subst₂ (λ (x y : ℕ). FloorsAt (far_end g w v p) (end g w x y) (floor (far g v p)) (floor x)) (wired.back v p at) (wired.back_port v p at)
      (subst (λ (e : End).
      FloorsAt e
      (end g w (far g (far g v p) (far_port g v p)) (far_port g (far g v p) (far_port g v p))) (floor (far g v p))
      (floor (far g (far g v p) (far_port g v p))))
      (λ k. record {
        port = far_port g v p;
        key = wired.same_key v p at k;
        mark = (w.at (far g v p)).mark (far_port g v p);
        is = w.at (far g v p);
        seen = seen_beyond g w v p;
      })
      (floors.links _ _ (wired.there v p at)))

  -- the floors of a fragment are not below those of its root's ends
  module _ (u j : ℕ) (at : At g u j) (joined : IsJoinedIn g (forest w) u j) (up : (w.at u).up ≡ Some j)
      (up_beyond : (w.at (far g u j)).up ≡ Some (far_port g u j))
      (k : Floor) (low : lower k (floor u) ≡ true) (low' : lower k (floor (far g u j)) ≡ true) where
    at_the_root : (v p : ℕ) → At g v p → Root g (forest w) v p → (w.at v).fragment ≡ (w.at u).fragment → lower k (floor v) ≡ true
    at_the_root v p at' root same =
        ⊎_elim (λ h. subst (λ y. lower k (floor y) ≡ true) (sym h.0) low)
        (λ h. subst (λ y. lower k (floor y) ≡ true) (ap₂ (far g) (sym h.0) (sym h.1) ∙ wired.back v p at') low')
        (holds.trees.one_root v p u j at' at root (Both_ways joined up up_beyond) same)

    pub above_root : {v : ℕ} → Reach g (forest w) v → (w.at v).fragment ≡ (w.at u).fragment → lower k (floor v) ≡ true
    above_root {v} (At_root p at' way root) same = at_the_root v p at' root same
    above_root {v} (By_step p at' way link r) same =
        ⊎_elim (λ h. at_the_root v p at' (Both_ways link way h) same)
        (λ ne.
        lower_on k (floor (far g v p)) (floor v) (above_root r (sym (holds.trees.joined_within v p at' link) ∙ same))
        ((near_fits v p at').falls
        (record { joins = record { here = branch_mark _ link.here; there = branch_mark _ link.there }; up = way; down = ne })))
        (probe_is (w.at (far g v p)).up (far_port g v p))

    module _ (awake : (w.at u).head.phase ≢ Sleeping) where
      -- no link that leads out of the fragment is below the floor
      pub leads_above : (v p : ℕ) →
          At g v p →
          (w.at v).fragment ≡ (w.at u).fragment →
          (w.at (far g v p)).fragment ≢ (w.at u).fragment →
          lower k (Some (Some (port_at g v p).key)) ≡ true
      leads_above v p at' same out =
          let is : InNetwork g v = record { some = at'.some; node = at'.node } in
          let z = (holds.nodes v is).points (all_awake g w holds.alone u (at_in at) awake v is same) (omega (arith, at'.port)) in
          lower_on k (floor v) _ (above_root (holds.trees.reached v z.port is z.up) same) ((near_fits v p at').none_below (λ e. out (e ∙ same)))

  -- The root is about to be sent on.
  module _ (u j : ℕ) (at : At g u j) (ms : List Message) (root : AtRoot g w u j ms) where
    open link_clauses g wired w holds u j at use {link, link', ways}

    there_fits : FloorsAt (far_end g w u j) (end g w u j) (floor (far g u j)) (floor u)
    there_fits = far_fits u j at

    -- the two floors at the root
    pub record RootFloors : Type 0 where
      pub mine : floor u ≡ Some (best_key (w.at u).head.best)
      pub theirs : lower (floor u) (floor (far g u j)) ≡ true

    found : (w.at u).head.phase ≡ Found
    found = root.quiet.found u (record { some = at.some; node = at.node }) refl

    by_report : (k : Option Key) → (waits : (w.seen u j).tree ≡ Report k ∷ ms) → below (best_key (w.at u).head.best) k ≡ true → RootFloors
    by_report k waits better = go (back (tree_end (end g w u j)) (tree_end (far_end g w u j)) link.tree link'.tree ways k ms waits (λ ne. ne root.up))
      where
        go : Back (NamesOf g w (w.at u).fragment) (tree_end (end g w u j)) (tree_end (far_end g w u j)) k ms → RootFloors
        go (Old c h x) = absurd (c.down root.up_beyond)
        go (Half c z a b n p q) =
            let same = (joined_clauses g w holds u j at c.both.joins).ghosts in
            let mine : floor u ≡ Some (best_key (w.at u).head.best) = (near_fits u j at).core c root.top found in
            let theirs : floor (far g u j) ≡ Some (best_key (w.at (far g u j)).head.best) = there_fits.core (record {
              both = record { joins = record { here = c.both.joins.there; there = c.both.joins.here }; up = c.both.up_beyond; up_beyond = c.both.up };
              named = same.1 ∙ c.named;
            }) (begun_at_top (tree_end (far_end g w u j)) z.there b z.at_there) p in
            record {
              mine = mine;
              theirs =
                  subst₂ (λ (x y : Floor). lower x y ≡ true) (sym mine) (sym (theirs ∙ ap Some q))
                  (below_lower (best_key (w.at u).head.best) k better);
            }

    by_root : (waits : (w.seen u j).tree ≡ ChangeRoot ∷ ms) → RootFloors
    by_root waits =
        let s = root_sent (tree_end (end g w u j)) (tree_end (far_end g w u j)) link.tree link'.tree ways ms waits in
        let f = (near_fits u j at).moved s.moved s.fits.queue in
        record { mine = f.0; theirs = subst (λ (x : Floor). lower (floor u) x ≡ true) (sym f.1) (lower_self (floor u)) }

    pub root_floors : SendsRoot w u j ms → RootFloors
    root_floors (By_report k q b p l) = by_report k q l
    root_floors (By_root q) = by_root q

    -- the best link of the root, where it leads out, is the least that does
    module _ (calls : SendsRoot w u j ms) (b : ℕ) (k : Key) (atb : At g u b) (best : (w.at u).head.best ≡ Some (b, k))
        (mark : (w.at u).mark b ≢ Branch) where
      floors_here : RootFloors
      floors_here = root_floors calls

      is_floor : floor u ≡ Some (Some (port_at g u b).key)
      is_floor =
          let out = (link_fits g wired w holds u b atb).search.find_leads k best root.top mark in
          floors_here.mine ∙ ap (λ o. Some (best_key o)) best ∙ ap (λ x. Some (Some x)) out.key

      pub best_least : (t q : ℕ) →
          At g t q →
          (w.at t).fragment ≡ (w.at u).fragment →
          (w.at (far g t q)).fragment ≢ (w.at u).fragment →
          key_lt (port_at g t q).key (port_at g u b).key ≡ false
      best_least t q at' same away =
          let joined : IsJoinedIn g (forest w) u j = record { here = ap is_branch root.joins.here; there = ap is_branch root.joins.there } in
          let z = leads_above u j at joined root.up root.up_beyond (Some (Some (port_at g u b).key))
          (subst (λ x. lower (Some (Some (port_at g u b).key)) x ≡ true) (sym is_floor) (lower_self (Some (Some (port_at g u b).key))))
          (subst (λ x. lower x (floor (far g u j)) ≡ true) is_floor floors_here.theirs) (λ e. cc (e, found)) t q at' same away in
          not_above (port_at g u b).key (port_at g t q).key z

      -- so it is one of the tree
      pub best_in_tree : IsTreeLink g u b
      best_in_tree =
          let out = (link_fits g wired w holds u b atb).search.find_leads k best root.top mark in
          cut_link g (λ t. (w.at t).fragment) (w.at u).fragment u b out.apart best_least refl
