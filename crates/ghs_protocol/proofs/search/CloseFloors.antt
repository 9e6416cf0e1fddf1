-- What an act owes of floors, and that a node that has heard all reports keeps them.
use Rattle.std.proofs.Common.{◌≡◌, ◌≢◌, ℕ, Bool, true, false, not, ◌&&◌, Option, Some, None, List, [], ◌∷◌, ◌++◌, length, refl, sym, ◌∙◌, ap, subst, subst₂, ⊎_elim, arith, if◌then◌else◌}
use Rattle.std.proofs.lemmas.Bool.{cases_eq}
use Rattle.ghs_graph.specs.declared.key.Key.{Key}
use Rattle.ghs_node.specs.declared.mark.Mark.TheVariants.{Basic, Branch}
use Rattle.ghs_node.specs.Words.{is_at, below, best_key, Outgoing}
use Rattle.ghs_node.specs.declared.message.Phase.{Phase}
use Rattle.ghs_node.specs.declared.message.Phase.TheVariants.{Sleeping, Find, Found}
use Rattle.ghs_node.specs.declared.message.Message.{Message}
use Rattle.ghs_node.specs.declared.message.Message.TheVariants.{Report}
use Rattle.peer_network.specs.Network.{Network, port_at, At, far, far_port, InNetwork}
use Rattle.peer_network.proofs.lemmas.Wired.{IsWired}
use Rattle.peer_network.specs.Updates.{put}
use Rattle.ghs_protocol.proofs.clauses.Scene.{Seen, Member, Scene, End, tree_end, end, acts, far_end}
use Rattle.ghs_protocol.proofs.clauses.Changes.{seen_beyond}
use Rattle.ghs_protocol.proofs.clauses.Links.{Joins, Out, Child}
use Rattle.ghs_protocol.proofs.clauses.TreeMessages.{Moved}
use Rattle.ghs_protocol.proofs.clauses.Rest.{Quiet, owes, debt, has_report, has_call}
use Rattle.ghs_protocol.proofs.clauses.Whole.{Invariant, LinkFits, NamesOf}
use Rattle.ghs_protocol.proofs.clauses.Floors.{Floor, lower, FloorsAt, NodeFloor, IsTreeLink, BranchesInTree, HaltedIsWhole, Floors, AllNodeFloors}
use Rattle.peer_network.proofs.lemmas.Updates.{put_same, put_other}
use Rattle.peer_network.proofs.lemmas.Sums.{term_le}
use Rattle.ghs_protocol.proofs.acts.Ends.{acts_read}
use Rattle.ghs_protocol.proofs.acts.SameForest.{near', far'}
use Rattle.ghs_protocol.proofs.acts.OneLink.{by_port_at, sends_one}
use Rattle.ghs_protocol.proofs.search.FirstReport.{mark_is}
use Rattle.ghs_protocol.proofs.union.OneFragment.{Off}
use Rattle.ghs_protocol.proofs.rest.AtRest.{parent_finds, by_find}
use Rattle.ghs_protocol.proofs.search.Close.{busy, joins', unmoved', up, has_report_append}
use Rattle.ghs_protocol.proofs.acts.Situations.{basic_left}
use Rattle.ghs_protocol.proofs.rows.Link.{node_clauses, joined_clauses, not_the_way}
use Rattle.ghs_node.proofs.lemmas.{is_at_is, is_at_not}

-- all clauses of floors, but at the link at port b of u, and but the order of tests
pub record FloorsOff (g : Network) (w : Scene) (floor : ℕ → Floor) (u b : ℕ) : Type 0 where
  pub nodes : AllNodeFloors g w floor
  pub links : (v p : ℕ) → At g v p → Off g u b v p → FloorsAt (end g w v p) (end g w (far g v p) (far_port g v p)) (floor v) (floor (far g v p))
  pub in_tree : BranchesInTree g w
  pub halted : HaltedIsWhole g w

-- One act: node u becomes x, and has floor a then.
module _ (g : Network) (wired : IsWired g) (u : ℕ) (u_is : InNetwork g u) (x : Member) (own : ℕ → Seen) (ss : Outgoing) (w : Scene)
    (floor : ℕ → Floor) (floors : Floors g w floor) (a : Floor) where
  abbrev pub acted : Scene
  acted = acts g u x own ss w

  abbrev pub floor' : ℕ → Floor
  floor' = put floor u a

  floor_here : floor' u ≡ a
  floor_here = put_same floor u a

  floor_else : (v : ℕ) → v ≢ u → floor' v ≡ floor v
  floor_else v ne = put_other floor u v a ne

  pub links_after :
      ((i : ℕ) → At g u i → FloorsAt (near' g wired u u_is x own ss w i) (far' g wired u u_is x own ss w i) a (floor (far g u i))) →
      ((i : ℕ) → At g u i → FloorsAt (far' g wired u u_is x own ss w i) (near' g wired u u_is x own ss w i) (floor (far g u i)) a) →
      (v p : ℕ) → At g v p → FloorsAt (end g acted v p) (end g acted (far g v p) (far_port g v p)) (floor' v) (floor' (far g v p))
  links_after near away =
      acts_read g wired u u_is.some u_is.node x own ss w (λ v p e f. FloorsAt e f (floor' v) (floor' (far g v p)))
      (λ v p at ne ne'.
      subst₂ (FloorsAt (end g w v p) (end g w (far g v p) (far_port g v p))) (sym (floor_else v ne)) (sym (floor_else (far g v p) ne'))
      (floors.links v p at))
      (λ i at.
      subst₂
      (FloorsAt (near' g wired u u_is x own ss w i) (far' g wired u u_is x own ss w i)) (sym floor_here)
      (sym (floor_else (far g u i) (wired.apart u i at))) (near i at))
      (λ i at.
      subst₂
      (FloorsAt (far' g wired u u_is x own ss w i) (near' g wired u u_is x own ss w i)) (sym (floor_else (far g u i) (wired.apart u i at)))
      (sym (ap floor' (wired.back u i at) ∙ floor_here)) (away i at))

  -- the links but that at port b
  pub links_after_off : (b : ℕ) →
      ((i : ℕ) → At g u i → i ≢ b → FloorsAt (near' g wired u u_is x own ss w i) (far' g wired u u_is x own ss w i) a (floor (far g u i))) →
      ((i : ℕ) → At g u i → i ≢ b → FloorsAt (far' g wired u u_is x own ss w i) (near' g wired u u_is x own ss w i) (floor (far g u i)) a) →
      (v p : ℕ) → At g v p → Off g u b v p → FloorsAt (end g acted v p) (end g acted (far g v p) (far_port g v p)) (floor' v) (floor' (far g v p))
  links_after_off b near away =
      acts_read g wired u u_is.some u_is.node x own ss w (λ v p e f. Off g u b v p → FloorsAt e f (floor' v) (floor' (far g v p)))
      (λ v p at ne ne' off.
      subst₂ (FloorsAt (end g w v p) (end g w (far g v p) (far_port g v p))) (sym (floor_else v ne)) (sym (floor_else (far g v p) ne'))
      (floors.links v p at))
      (λ i at off.
      subst₂
      (FloorsAt (near' g wired u u_is x own ss w i) (far' g wired u u_is x own ss w i)) (sym floor_here)
      (sym (floor_else (far g u i) (wired.apart u i at))) (near i at (λ e. off.here (refl, e))))
      (λ i at off.
      subst₂
      (FloorsAt (far' g wired u u_is x own ss w i) (near' g wired u u_is x own ss w i)) (sym (floor_else (far g u i) (wired.apart u i at)))
      (sym (ap floor' (wired.back u i at) ∙ floor_here))
      (away i at (λ e. off.there (wired.back u i at, wired.back_port u i at ∙ e))))

  pub nodes_after : NodeFloor x a → AllNodeFloors g acted floor'
  nodes_after here v is =
      ⊎_elim (λ (e : v ≡ u).
      subst (λ y. NodeFloor (put w.at u x y) (floor' y)) (sym e) (subst₂ NodeFloor (sym (put_same w.at u x)) (sym floor_here) here))
      (λ ne. subst₂ NodeFloor (sym (put_other w.at u v x ne)) (sym (floor_else v ne)) (floors.nodes v is)) (cases_eq v u)

  -- marks: a Branch of u is one of the tree
  pub in_tree_after : ((p : ℕ) → At g u p → x.mark p ≡ Branch → IsTreeLink g u p) → BranchesInTree g acted
  in_tree_after here v p at m =
      ⊎_elim (λ (e : v ≡ u).
      subst (λ y. IsTreeLink g y p) (sym e) (here p (subst (λ y. At g y p) e at)
      (ap (λ (z : Member). z.mark p) (sym (put_same w.at u x)) ∙ subst (λ y. (put w.at u x y).mark p ≡ Branch) e m)))
      (λ ne. floors.in_tree v p at (ap (λ (z : Member). z.mark p) (sym (put_other w.at u v x ne)) ∙ m)) (cases_eq v u)

  keeps : {A : Type 0} (k : Member → A) → k x ≡ k (w.at u) → (v : ℕ) → k (acted.at v) ≡ k (w.at v)
  keeps k same v =
      ⊎_elim
      (λ (e : v ≡ u). subst (λ y. k (put w.at u x y) ≡ k (w.at y)) (sym e) (ap k (put_same w.at u x) ∙ same))
      (λ ne. ap k (put_other w.at u v x ne)) (cases_eq v u)

  -- who has halted, and fragments, are as before
  pub halted_after : x.fragment ≡ (w.at u).fragment → x.head.halted ≡ (w.at u).head.halted → HaltedIsWhole g acted
  halted_after same still v t p is h at inside =
      keeps (λ (m : Member). m.fragment) same (far g t p) ∙
      floors.halted v t p is (sym (keeps (λ (m : Member). m.head.halted) still v) ∙ h) at
      (sym (keeps (λ (m : Member). m.fragment) same t) ∙ inside ∙ keeps (λ (m : Member). m.fragment) same v) ∙
      sym (keeps (λ (m : Member). m.fragment) same v)

  -- u has halted as well, and no link leads out of its fragment
  pub halted_more :
      x.fragment ≡ (w.at u).fragment →
      ((t p : ℕ) → At g t p → (w.at t).fragment ≡ (w.at u).fragment → (w.at (far g t p)).fragment ≡ (w.at u).fragment) →
      HaltedIsWhole g acted
  halted_more same whole v t p is h at inside =
      keeps (λ (m : Member). m.fragment) same (far g t p) ∙
      ⊎_elim (λ (e : v ≡ u). whole t p at (within ∙ ap (λ y. (w.at y).fragment) e) ∙ ap (λ y. (w.at y).fragment) (sym e))
      (λ ne. floors.halted v t p is (ap (λ (m : Member). m.head.halted) (sym (put_other w.at u v x ne)) ∙ h) at within) (cases_eq v u) ∙
      sym (keeps (λ (m : Member). m.fragment) same v)
    where
      within : (w.at t).fragment ≡ (w.at v).fragment
      within = sym (keeps (λ (m : Member). m.fragment) same t) ∙ inside ∙ keeps (λ (m : Member). m.fragment) same v

last_report : (xs : List Message) (k r : Option Key) → xs ++ Report k ∷ [] ≡ Report r ∷ [] → k ≡ r
last_report [] k r e = cc
last_report (y ∷ []) k r e = cc
last_report (y ∷ (z ∷ xs)) k r e = cc

unowed : (b c : Bool) → b ≡ false → ◌≡◌ {A = ℕ} (if not b && c then 1 else 0) 0 → c ≡ false
unowed false false e h = refl
unowed false true e h = cc
unowed true c e h = cc

-- A node that has heard all reports.
module _ (g : Network) (wired : IsWired g) (u : ℕ) (u_is : InNetwork g u) (j : ℕ) (at : At g u j) (w : Scene) (holds : Invariant g w)
    (finds : (w.at u).head.phase ≡ Find) (back : (w.at u).head.in_branch ≡ Some j) (quit : (w.at u).head.probe ≡ None)
    (at_zero : ◌≡◌ {A = ℕ} (w.at u).head.find_count 0)
    (floor : ℕ → Floor) (floors : Floors g w floor)
    (scanned : (q : ℕ) → (w.at u).mark q ≡ Basic → below (Some (port_at g u q).key) (best_key (w.at u).head.best) ≡ false) where
  is : InNetwork g u
  is = u_is

  abbrev pub k : Option Key
  k = best_key (w.at u).head.best

  abbrev pub x : Member
  x = record (w.at u) { head = record (w.at u).head { phase = Found } }

  abbrev pub q : Seen
  q = w.seen u j

  open node_clauses g wired w holds u u_is use {fits, link, link'}

  -- u's ends afterwards, and those across
  abbrev still : ℕ → End
  still i = record { port = i; key = (port_at g u i).key; mark = (w.at u).mark i; is = x; seen = w.seen u i }

  abbrev there : End
  there = record (far_end g w u j) { seen = record (seen_beyond g w u j) { tree = (seen_beyond g w u j).tree ++ Report k ∷ [] } }

  open joins' g wired u u_is j at w holds finds back quit at_zero use {here as branch, there as branch'}
  open joined_clauses g w holds u j at (record { here = branch; there = branch' }) use {inside, ghosts}

  ups : (w.at u).up ≡ Some j
  ups = up g wired u u_is j at w holds finds back quit at_zero

  restless : Quiet g w (w.at u).fragment → ⊥
  restless = busy g wired u u_is j at w holds finds back quit at_zero

  no_out : (i : ℕ) → At g u i → Out (tree_end (end g w u i)) (tree_end (far_end g w u i)) → ⊥
  no_out i at' o = restless (holds.resting.out u i at' (record { here = o.here; there = o.there }))

  -- a port that leads out is Basic
  leads_basic : (i : ℕ) → At g u i → (w.at (far g u i)).fragment ≢ (w.at u).fragment → (w.at u).mark i ≡ Basic
  leads_basic i at' ne =
      basic_left ((w.at u).mark i)
      (λ b.
      ⊎_elim (λ c. ne (sym (joined_clauses g w holds u i at' (record { here = b; there = c })).inside))
      (λ c. no_out i at' (record { here = b; there = c }))
      (mark_is ((w.at (far g u i)).mark (far_port g u i))))
      (λ r. ne (sym ((link i at').search.rejected_inside r)))

  -- nobody owes u a Report
  debts_over : (i : ℕ) → At g u i → ◌≡◌ {A = ℕ} (debt (end g w u i) (end g w (far g u i) (far_port g u i))) 0
  debts_over i at' =
      let z = holds.counted u is in
      let y = term_le (length (g.ports u)) i (λ p. debt (end g w u p) (end g w (far g u p) (far_port g u p))) at'.port in
      omega (arith, z, y, at_zero)

  was_near : (i : ℕ) → At g u i → FloorsAt (end g w u i) (far_end g w u i) (floor u) (floor (far g u i))
  was_near i at' =
      subst (λ (e : End). FloorsAt (end g w u i) e (floor u) (floor (far g u i)))
      (λ z. record {
        port = far_port g u i;
        key = wired.same_key u i at' z;
        mark = (w.at (far g u i)).mark (far_port g u i);
        is = w.at (far g u i);
        seen = seen_beyond g w u i;
      })
      (floors.links u i at')

  was_far : (i : ℕ) → At g u i → FloorsAt (far_end g w u i) (end g w u i) (floor (far g u i)) (floor u)
  was_far i at' =
      subst₂ (λ (y z : ℕ). FloorsAt (far_end g w u i) (end g w y z) (floor (far g u i)) (floor y)) (wired.back u i at') (wired.back_port u i at')
      (subst (λ (e : End).
      FloorsAt e
      (end g w (far g (far g u i) (far_port g u i)) (far_port g (far g u i) (far_port g u i))) (floor (far g u i))
      (floor (far g (far g u i) (far_port g u i))))
      (λ z. record {
        port = far_port g u i;
        key = wired.same_key u i at' z;
        mark = (w.at (far g u i)).mark (far_port g u i);
        is = w.at (far g u i);
        seen = seen_beyond g w u i;
      })
      (floors.links _ _ (wired.there u i at')))

  not_found : (s : Phase) → s ≡ Find → s ≡ Found → ⊥
  not_found s a b = cc (a, b)

  negated : (b : Bool) → b ≡ false → not b ≡ true
  negated b e = ap not e

  -- another link of u
  near_aside : (i : ℕ) → At g u i → i ≢ j → FloorsAt (still i) (far_end g w u i) (Some k) (floor (far g u i))
  near_aside i at' ne = record {
    none_below = λ out. negated _ (scanned i (leads_basic i at' out));
    falls = λ c. absurd (not_the_way ups i ne c.up);
    covered = λ p c o. absurd (not_the_way ups i ne c.up);
    report = λ r c t. absurd (not_the_way ups i ne c.up);
    core = λ c l p. absurd (not_the_way ups i ne c.both.up);
    out = λ o. absurd (no_out i at' (record { here = o.here; there = o.there }));
    moved = λ m t. absurd (not_the_way ups i ne m.both.up);
    best = λ y b l z. (was_near i at').best y b l (record { here = z.here; there = z.there });
  }

  far_aside : (i : ℕ) → At g u i → i ≢ j → FloorsAt (far_end g w u i) (still i) (floor (far g u i)) (Some k)
  far_aside i at' ne = record {
    none_below = (was_far i at').none_below;
    falls = λ c.
        (was_far i at').covered finds
        (record { joins = record { here = c.joins.here; there = c.joins.there }; up = c.up; down = c.down })
        (unowed (is_at (w.at u).up i) _ (is_at_not (w.at u).up i (not_the_way ups i ne)) (debts_over i at'));
    covered = λ p c o. absurd (let z : Found ≡ Find = p in cc);
    report = λ r c t. (was_far i at').report r (record { joins = record { here = c.joins.here; there = c.joins.there }; up = c.up; down = c.down }) t;
    core = λ c l p. absurd (not_the_way ups i ne c.both.up_beyond);
    out = λ o. (was_far i at').out (record { here = o.here; there = o.there });
    moved = λ m t. absurd (not_the_way ups i ne m.both.up_beyond);
    best = λ y b l z. absurd (not_found _ finds ((link' i at').search.find_reported y b l (record { here = z.here; there = z.there })).phase);
  }

  -- the link to the parent, or the core
  here_fits : FloorsAt (still j) there (Some k) (floor (far g u j))
  here_fits = record {
    none_below = λ out. absurd (out (sym inside));
    falls = λ c. subst (λ (y : Floor). lower y (Some k) ≡ true)
        (sym (parent_none (record { joins = record { here = branch; there = branch' }; up = c.up; down = c.down }))) refl;
    covered = λ p c o. absurd (let z = reported in cc (z, o));
    report = λ r c t. ap Some (last_report (seen_beyond g w u j).tree k r t);
    core = λ c l p. refl;
    out = λ o. absurd (o.there branch');
    moved = λ m t.
        absurd (unmoved (record {
          both = record { joins = record { here = branch; there = branch' }; up = m.both.up; up_beyond = m.both.up_beyond };
          unnamed = m.unnamed;
        }));
    best = λ y b l z. absurd ((fits.best_port j y b).1 back);
  }
    where
      unmoved : Moved (tree_end (end g w u j)) (tree_end (far_end g w u j)) → ⊥
      unmoved = unmoved' g wired u u_is j at w holds finds back quit at_zero

      reported : owes there (still j) ≡ true
      reported = rw (has_report_append (seen_beyond g w u j).tree k) refl

      parent_none : Child (tree_end (end g w u j)) (tree_end (far_end g w u j)) → floor (far g u j) ≡ None
      parent_none c =
          let z = wired.there u j at in
          (floors.nodes (far g u j) (record { some = z.some; node = z.node })).search
          (parent_finds g wired w holds u j at c.down
          (by_find (has_report (seen_beyond g w u j).tree) (has_call (w.seen u j).tree) _ (rw (finds, is_at_is (w.at u).head.in_branch j back) refl)))

  there_fits : FloorsAt there (still j) (floor (far g u j)) (Some k)
  there_fits = record {
    none_below = λ out. absurd (out inside);
    falls = λ c. absurd (c.down ups);
    covered = λ p c o. absurd (c.down ups);
    report = λ r c t. absurd (c.down ups);
    core = λ c l p.
        (was_far j at).core (record {
          both = record { joins = record { here = c.both.joins.here; there = c.both.joins.there }; up = c.both.up; up_beyond = c.both.up_beyond };
          named = c.named;
        }) l p;
    out = λ o. absurd (o.there branch);
    moved = λ m t. absurd (unmoved m);
    best = λ y b l z. absurd (not_found _ finds ((link' j at).search.find_reported y b l (record { here = branch'; there = branch })).phase);
  }
    where
      unmoved : Moved (tree_end there) (tree_end (still j)) → ⊥
      unmoved m =
          unmoved' g wired u u_is j at w holds finds back quit at_zero
          (record {
            both = record { joins = record { here = branch; there = branch' }; up = m.both.up_beyond; up_beyond = m.both.up };
            unnamed = λ e. m.unnamed (ghosts.1 ∙ e);
          })

  -- the node reports: its floor is what it reports
  pub closes_floors : Floors g (acts g u x (put (w.seen u) j q) ((j, Report k) ∷ []) w) (put floor u (Some k))
  closes_floors = record {
    nodes =
        nodes_after g wired u u_is x (put (w.seen u) j q) ((j, Report k) ∷ []) w floor floors (Some k)
        (record { asleep = λ e. absurd (let z : Found ≡ Sleeping = e in cc); search = λ e. absurd (let z : Found ≡ Find = e in cc) });
    links =
        links_after g wired u u_is x (put (w.seen u) j q) ((j, Report k) ∷ []) w floor floors (Some k)
        (by_port_at g wired u u_is x j at q (Report k ∷ []) ((j, Report k) ∷ []) (sends_one j (Report k)) w
        (λ i e f. FloorsAt e f (Some k) (floor (far g u i)))
        here_fits near_aside)
        (by_port_at g wired u u_is x j at q (Report k ∷ []) ((j, Report k) ∷ []) (sends_one j (Report k)) w
        (λ i e f. FloorsAt f e (floor (far g u i)) (Some k))
        there_fits far_aside);
    in_tree = in_tree_after g wired u u_is x (put (w.seen u) j q) ((j, Report k) ∷ []) w floor floors (Some k) (λ p at' m. floors.in_tree u p at' m);
    halted = halted_after g wired u u_is x (put (w.seen u) j q) ((j, Report k) ∷ []) w floor floors (Some k) refl refl;
  }
