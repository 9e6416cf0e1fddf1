-- An Initiate is heard and passed on: floors are kept, but that a node which begins to search knows nothing any more.
use Rattle.std.proofs.Common.{◌≡◌, ◌≢◌, ℕ, Bool, true, false, ◌||◌, ◌&&◌, Option, Some, None, List, [], ◌∷◌, ◌++◌, length, refl, sym, ◌∙◌, ap, subst, ⊎_elim, ◌⊎◌, arith, cond}
use Rattle.ghs_graph.specs.declared.key.Key.{Key}
use Rattle.ghs_node.specs.declared.mark.Mark.{Mark}
use Rattle.ghs_node.specs.Words.{is_find, is_at, best_key, Outgoing, on_branches}
use Rattle.ghs_node.specs.declared.message.Phase.{Phase}
use Rattle.ghs_node.specs.declared.message.Phase.TheVariants.{Sleeping, Find, Found}
use Rattle.ghs_node.specs.declared.message.Message.{Message}
use Rattle.ghs_node.specs.declared.message.Message.TheVariants.{Initiate, Report}
use Rattle.peer_network.specs.Network.{Network, port_at, At, far, far_port, InNetwork}
use Rattle.peer_network.proofs.lemmas.Wired.{IsWired}
use Rattle.peer_network.specs.Updates.{put}
use Rattle.ghs_protocol.proofs.clauses.Scene.{Seen, Member, Scene, TreeEnd, tree_end, end, acts, far_end}
use Rattle.ghs_protocol.proofs.clauses.Changes.{left_tree, seen_beyond, took_initiate}
use Rattle.ghs_protocol.proofs.clauses.Links.{Joins, Out, Child}
use Rattle.ghs_protocol.proofs.clauses.TreeMessages.{TreeFits, Upward, Nothing_up, Report_up, Core, CoreQueue, Plain, With_report, Stage, Asking, Called, Begun, asked, called, Moved, MovedFits, To_here, To_there}
use Rattle.ghs_protocol.proofs.clauses.Rest.{has_call, has_report}
use Rattle.ghs_protocol.proofs.clauses.Uniting.{MarksAre}
use Rattle.ghs_protocol.proofs.clauses.Whole.{Invariant, NamesOf}
use Rattle.ghs_protocol.proofs.clauses.Floors.{Floor, lower, owing, FloorsFit, FloorsAt, Floors}
use Rattle.ghs_protocol.proofs.rest.AtRest.{parent_finds, by_call, by_find}
use Rattle.ghs_protocol.proofs.search.Called.{Calls, told}
use Rattle.ghs_protocol.proofs.search.Initiate as initiating
use Rattle.ghs_protocol.proofs.search.Initiate.{has_call_more, has_call_first}
use Rattle.ghs_protocol.proofs.rows.Link.{not_the_way, node_clauses, link_fits, link_fits', joined_clauses}
use Rattle.ghs_protocol.proofs.acts.Floors.{near_fits, far_fits}
use Rattle.ghs_protocol.proofs.search.CloseFloors.{nodes_after, links_after, in_tree_after, halted_after}
use Rattle.ghs_protocol.proofs.acts.Situations.{is_find'}
use Rattle.ghs_protocol.proofs.lemmas.Woken.{at_rest}
use Rattle.ghs_node.proofs.lemmas.{is_at_is}

is_call : (s : Phase) → s ≡ Find → is_find s ≡ true
is_call s e = ap is_find e

-- At a port other than that of the Initiate: t is the far end's queue then, and b the floor then.
module _ (e f : TreeEnd) (l : ℕ) (s : Phase) (o : Option ℕ) (t : List Message) (a b c : Floor) (way : e.up ≢ Some e.port) where
  near_passed :
      (Out e f → ⊥) →
      (f.fragment ≢ e.fragment → lower b (Some (Some e.key)) ≡ true) →
      FloorsFit (told e l s o e.tree) (record f { tree = t }) b c
  near_passed out none = record {
    none_below = none;
    falls = λ z. absurd (way z.up);
    covered = λ p z y. absurd (way z.up);
    report = λ r z y. absurd (way z.up);
    core = λ z y p. absurd (way z.both.up);
    out = λ z. absurd (out (record { here = z.here; there = z.there }));
    moved = λ z y. absurd (way z.both.up);
    best = λ k q y z. absurd (let x : None ≡ Some (e.port, k) = q in cc);
  }

  far_passed :
      (s ≡ Find → Joins f e → has_call t ≡ true) →
      ((k : Key) → f.best ≡ Some (f.port, k) → f.level ≡ f.coming → Joins f e → ⊥) →
      (Child f e → lower b c ≡ true) →
      FloorsFit f e c a →
      FloorsFit (record f { tree = t }) (told e l s o e.tree) c b
  far_passed calls unbest falls h = record {
    none_below = h.none_below;
    falls = λ z. falls (record { joins = record { here = z.joins.here; there = z.joins.there }; up = z.up; down = z.down });
    covered = λ p z y.
        absurd (let q : owing (told e l s o e.tree) (record f { tree = t }) ≡ true =
        by_call (has_report e.tree) (has_call t) (is_find f.phase && is_at f.in_branch f.port)
        (calls p (record { here = z.joins.here; there = z.joins.there })) in
        cc (q, y));
    report = λ r z y. h.report r (record { joins = record { here = z.joins.here; there = z.joins.there }; up = z.up; down = z.down }) y;
    core = λ z y p. absurd (way z.both.up_beyond);
    out = λ z. h.out (record { here = z.here; there = z.there });
    moved = λ z y. absurd (way z.both.up_beyond);
    best = λ k q y z. absurd (unbest k q y (record { here = z.here; there = z.there }));
  }

-- over the core an Initiate begins a search
core_find : (v m l : ℕ) (k n : Key) (s : Phase) (ms : List Message) (x y : Stage) → asked m y ++ called v k x ≡ Initiate l n s ∷ ms → s ≡ Find
core_find v m l k n s ms x Asking q = cc
core_find v m l k n s ms Called Called q = cc
core_find v m l k n s ms Called Begun q = cc
core_find v m l k n s ms Asking Called q = cc
core_find v m l k n s ms Asking Begun q = cc
core_find v m l k n s ms Begun Called q = cc
core_find v m l k n s ms Begun Begun q = cc

half_find : (v l : ℕ) (k n : Key) (s : Phase) (ms : List Message) (r : Option Key) (x : Stage) →
    called v k x ++ Report r ∷ [] ≡ Initiate l n s ∷ ms →
    s ≡ Find
half_find v l k n s ms r Called q = cc
half_find v l k n s ms r Asking q = cc
half_find v l k n s ms r Begun q = cc

pub core_searches : (e f : TreeEnd) (l : ℕ) (n : Key) (s : Phase) (ms : List Message) (x y : Stage) →
    e.tree ≡ Initiate l n s ∷ ms →
    CoreQueue e f x y →
    s ≡ Find
core_searches e f l n s ms x y waits (Plain q) = core_find e.coming f.level l e.key n s ms x y (sym q ∙ waits)
core_searches e f l n s ms x y waits (With_report r q b p k) = half_find e.coming l e.key n s ms r x (sym q ∙ waits)

moved_call : (e f : TreeEnd) (l : ℕ) (n : Key) (s : Phase) (ms : List Message) → e.tree ≡ Initiate l n s ∷ ms → MovedFits e f → ⊥
moved_call e f l n s ms waits (To_here m) = let z = sym waits ∙ m.queue in cc
moved_call e f l n s ms waits (To_there m) = let z = sym waits ∙ m.queue_beyond in cc

-- At the port of the Initiate: b is the floor then.
module _ {N : ℕ → Key → Type 0} (e f : TreeEnd) (l : ℕ) (n : Key) (s : Phase) (ms : List Message) (a b c : Floor) (he : TreeFits N e f)
    (hf : TreeFits N f e) (call : Calls (N e.fragment) e f l n s ms) (waits : e.tree ≡ Initiate l n s ∷ ms)
    (same : f.coming_name ≡ e.coming_name) (keys : f.key ≡ e.key) where
  unmoved : Moved e f → ⊥
  unmoved z = moved_call e f l n s ms waits (he.moved_root z)

  unmoved' : Moved f e → ⊥
  unmoved' z =
      unmoved (record {
        both = record { joins = record { here = z.both.joins.there; there = z.both.joins.here }; up = z.both.up_beyond; up_beyond = z.both.up };
        unnamed = λ q. z.unnamed (same ∙ q ∙ ap Some (sym keys));
      })

  near_told :
      f.fragment ≡ e.fragment →
      (Child e f → lower c b ≡ true) →
      (f.phase ≡ Find → Child e f → owing f (told e l s (Some e.port) ms) ≡ false → lower (Some (best_key f.best)) b ≡ true) →
      FloorsFit (told e l s (Some e.port) ms) f b c
  near_told one falls covered = record {
    none_below = λ o. absurd (o one);
    falls = λ z. falls (record { joins = record { here = z.joins.here; there = z.joins.there }; up = z.up; down = z.down });
    covered = λ p z o. covered p (record { joins = record { here = z.joins.here; there = z.joins.there }; up = z.up; down = z.down }) o;
    report = λ r z t.
        absurd (no_report r t (he.upward (record { joins = record { here = z.joins.here; there = z.joins.there }; up = z.up; down = z.down })));
    core = λ z y p.
        let k : Core e f = record {
          both = record { joins = record { here = z.both.joins.here; there = z.both.joins.there }; up = z.both.up; up_beyond = z.both.up_beyond };
          named = z.named;
        } in
        let q = he.core_queues k in absurd (let x = core_searches e f l n s ms q.here q.there waits q.queue in cc (x, p));
    out = λ z. absurd (z.there call.joins.there);
    moved = λ z t.
        absurd (unmoved (record {
          both = record { joins = record { here = z.both.joins.here; there = z.both.joins.there }; up = z.both.up; up_beyond = z.both.up_beyond };
          unnamed = z.unnamed;
        }));
    best = λ k q y z. absurd (let x : None ≡ Some (e.port, k) = q in cc);
  }
    where
      no_report : (r : Option Key) → f.tree ≡ Report r ∷ [] → Upward e f → ⊥
      no_report r t (Nothing_up q) = let z = sym q ∙ t in cc
      no_report r t (Report_up k q h) = let z = h.level in let x = call.rises in let y = call.most in omega (arith, x, y, z)

  far_told :
      f.fragment ≡ e.fragment →
      ((k : Key) → f.best ≡ Some (f.port, k) → f.level ≡ f.coming → Joins f e → ⊥) →
      FloorsFit f e c a →
      FloorsFit f (told e l s (Some e.port) ms) c b
  far_told one unbest h = record {
    none_below = λ o. absurd (o (sym one));
    falls = λ z. absurd (z.down call.up);
    covered = λ p z o. absurd (z.down call.up);
    report = λ r z t. absurd (z.down call.up);
    core = λ z y p.
        h.core (record {
          both = record { joins = record { here = z.both.joins.here; there = z.both.joins.there }; up = z.both.up; up_beyond = z.both.up_beyond };
          named = z.named;
        }) y p;
    out = λ z. absurd (z.there call.joins.here);
    moved = λ z t.
        absurd (unmoved' (record {
          both = record { joins = record { here = z.both.joins.here; there = z.both.joins.there }; up = z.both.up; up_beyond = z.both.up_beyond };
          unnamed = z.unnamed;
        }));
    best = λ k q y z. absurd (unbest k q y (record { here = z.here; there = z.there }));
  }

module _ (g : Network) (wired : IsWired g) (u : ℕ) (u_is : InNetwork g u) (j : ℕ) (at : At g u j) (w : Scene) (holds : Invariant g w)
    (l : ℕ) (n : Key) (s : Phase) (ms : List Message) (xs : List Mark) (marks : MarksAre g u (w.at u) xs)
    (waits : (w.seen u j).tree ≡ Initiate l n s ∷ ms) (o : Option ℕ) (quit : o ≡ None) (count : ℕ)
    (counts : ◌≡◌ {A = ℕ} (w.at u).head.find_count 0 → count ≡ cond (is_find s) (length (on_branches xs j (Initiate l n s))) 0)
    (floor : ℕ → Floor) (floors : Floors g w floor) (b : Floor) (falls : s ≢ Find → b ≡ floor u) (sought : s ≡ Find → b ≡ None) where
  abbrev hearer : Member
  hearer = took_initiate (w.at u) l n s j o count

  abbrev own : ℕ → Seen
  own = left_tree w u j ms

  abbrev passing : Outgoing
  passing = on_branches xs j (Initiate l n s)

  rests : (w.at u).head.phase ≡ Found
  rests = initiating.found g wired u u_is j at w holds l n s ms xs marks waits o quit count counts

  open initiating.call g wired u u_is j at w holds l n s ms xs marks waits o quit count counts use {up as call_up}
  open node_clauses g wired w holds u u_is use {link, link'}

  no_out : (i : ℕ) → At g u i → i ≢ j → Out (tree_end (end g w u i)) (tree_end (far_end g w u i)) → ⊥
  no_out i at' ne z = not_the_way call_up i ne ((link i at').tree.out_connect z).up

  -- nobody's best is at u: it hasn't come to its level
  unbest : (i : ℕ) →
      At g u i →
      (k : Key) → (w.at (far g u i)).head.best ≡ Some (far_port g u i, k) →
      (w.at (far g u i)).head.level ≡ (w.at (far g u i)).coming →
      Joins (tree_end (far_end g w u i)) (tree_end (end g w u i)) →
      ⊥
  unbest i at' k q y z =
      let h = ((link' i at').search.find_reported k q y z).level in
      let c = initiating.call g wired u u_is j at w holds l n s ms xs marks waits o quit count counts in
      let x = c.rises in
      let v = c.most in
      omega (arith, h, x, v)

  phases : (s ≡ Find) ⊎ (s ≢ Find)
  phases = is_find' s

  none_lower : s ≡ Find → (k : Floor) → lower b k ≡ true
  none_lower e k = subst (λ v. lower v k ≡ true) (sym (sought e)) refl

  not_found : s ≢ Find → s ≡ Found
  not_found ne = at_rest s ne (initiating.call g wired u u_is j at w holds l n s ms xs marks waits o quit count counts).awake

  -- the ports other than that of the Initiate
  near_other : (i : ℕ) →
      At g u i →
      i ≢ j →
      (t : List Message) →
      FloorsFit (told (tree_end (end g w u i)) l s (Some j) (w.seen u i).tree) (record (tree_end (far_end g w u i)) { tree = t }) b
      (floor (far g u i))
  near_other i at' ne t =
      near_passed (tree_end (end g w u i)) (tree_end (far_end g w u i)) l s (Some j) t (floor u) b (floor (far g u i))
      (not_the_way call_up i ne) (no_out i at' ne)
      (λ out. ⊎_elim (λ e. none_lower e _) (λ nt.
      subst (λ v. lower v (Some (Some (port_at g u i).key)) ≡ true) (sym (falls nt))
      ((near_fits g wired w holds floor floors u i at').none_below out))
      phases)

  far_other : (i : ℕ) →
      At g u i →
      i ≢ j →
      (t : List Message) → (s ≡ Find → Joins (tree_end (far_end g w u i)) (tree_end (end g w u i)) → has_call t ≡ true) →
      FloorsFit (record (tree_end (far_end g w u i)) { tree = t }) (told (tree_end (end g w u i)) l s (Some j) (w.seen u i).tree)
      (floor (far g u i)) b
  far_other i at' ne t called =
      far_passed (tree_end (end g w u i)) (tree_end (far_end g w u i)) l s (Some j) t (floor u) b (floor (far g u i))
      (not_the_way call_up i ne) called
      (unbest i at')
      (λ c. ⊎_elim (λ e. none_lower e _)
      (λ nt. subst (λ v. lower v (floor (far g u i)) ≡ true) (sym (falls nt)) ((far_fits g wired w holds floor floors u i at').falls c))
      phases)
      (far_fits g wired w holds floor floors u i at')

  -- the port of the Initiate
  called_first : (s ≡ Find) → has_call (w.seen u j).tree ≡ true
  called_first e = ap has_call waits ∙ has_call_first ms l n s ∙ ap (λ v. v || has_call ms) (is_call s e)

  near_here : FloorsFit (told (tree_end (end g w u j)) l s (Some j) ms) (tree_end (far_end g w u j)) b (floor (far g u j))
  near_here =
      let call = initiating.call g wired u u_is j at w holds l n s ms xs marks waits o quit count counts in
      let inside = (joined_clauses g w holds u j at call.joins).inside in
      near_told (tree_end (end g w u j)) (tree_end (far_end g w u j)) l n s ms (floor u) b (floor (far g u j)) (link j at).tree
      (link' j at).tree call waits
      (holds.trees.by_fragment (far g u j) u (sym inside)).1 refl (sym inside)
      (λ c. ⊎_elim (λ e. subst (λ v. lower v b ≡ true) (sym (parent_none c e)) refl)
      (λ nt. subst (λ v. lower (floor (far g u j)) v ≡ true) (sym (falls nt)) ((near_fits g wired w holds floor floors u j at).falls c))
      phases)
      (λ p c z. ⊎_elim (λ e. absurd (let y = by_self e in cc (y, z)))
      (λ nt.
      subst (λ v. lower (Some (best_key (w.at (far g u j)).head.best)) v ≡ true) (sym (falls nt))
      ((near_fits g wired w holds floor floors u j at).covered p c (owed_before nt z)))
      phases)
    where
      parent_none : Child (tree_end (end g w u j)) (tree_end (far_end g w u j)) → s ≡ Find → floor (far g u j) ≡ None
      parent_none c e =
          let z = wired.there u j at in
          (floors.nodes (far g u j) (record { some = z.some; node = z.node })).search
          (parent_finds g wired w holds u j at c.down
          (by_call (has_report (seen_beyond g w u j).tree) (has_call (w.seen u j).tree) _ (called_first e)))

      by_self : s ≡ Find → owing (tree_end (far_end g w u j)) (told (tree_end (end g w u j)) l s (Some j) ms) ≡ true
      by_self e =
          by_find (has_report (seen_beyond g w u j).tree) (has_call ms) (is_find s && is_at (Some j) j)
          (rw (e, is_at_is (Some j) j refl) refl)

      owed_before :
          s ≢ Find →
          owing (tree_end (far_end g w u j)) (told (tree_end (end g w u j)) l s (Some j) ms) ≡ false →
          owing (tree_end (far_end g w u j)) (tree_end (end g w u j)) ≡ false
      owed_before ne z = go s (not_found ne) z
        where
          go : (p : Phase) →
              p ≡ Found →
              owing (tree_end (far_end g w u j)) (told (tree_end (end g w u j)) l p (Some j) ms) ≡ false →
              owing (tree_end (far_end g w u j)) (tree_end (end g w u j)) ≡ false
          go p e y =
              rw (waits, has_call_first ms l n s, not_found ne, rests)
              (subst (λ v. owing (tree_end (far_end g w u j)) (told (tree_end (end g w u j)) l v (Some j) ms) ≡ false) e y)

  far_here : FloorsFit (tree_end (far_end g w u j)) (told (tree_end (end g w u j)) l s (Some j) ms) (floor (far g u j)) b
  far_here =
      let call = initiating.call g wired u u_is j at w holds l n s ms xs marks waits o quit count counts in
      let inside = (joined_clauses g w holds u j at call.joins).inside in
      far_told (tree_end (end g w u j)) (tree_end (far_end g w u j)) l n s ms (floor u) b (floor (far g u j)) (link j at).tree
      (link' j at).tree call waits
      (holds.trees.by_fragment (far g u j) u (sym inside)).1 refl (sym inside) (unbest j at)
      (far_fits g wired w holds floor floors u j at)

  more_call : (i : ℕ) → s ≡ Find → has_call ((seen_beyond g w u i).tree ++ Initiate l n s ∷ []) ≡ true
  more_call i e =
      has_call_more (seen_beyond g w u i).tree l n s ∙ ap (λ v. has_call (seen_beyond g w u i).tree || v) (is_call s e) ∙
      or_right (has_call (seen_beyond g w u i).tree)
    where
      or_right : (v : Bool) → (v || true) ≡ true
      or_right true = refl
      or_right false = refl

  -- all together
  pub initiates_floors : Floors g (acts g u hearer own passing w) (put floor u b)
  initiates_floors = record {
    nodes =
        nodes_after g wired u u_is hearer own passing w floor floors b (record {
          asleep = λ e. absurd ((initiating.call g wired u u_is j at w holds l n s ms xs marks waits o quit count counts).awake e);
          search = sought;
        });
    links =
        links_after g wired u u_is hearer own passing w floor floors b
        (initiating.by_port_at g wired u u_is j at w holds l n s ms xs marks waits o quit count counts
        (λ i e f. FloorsAt e f b (floor (far g u i)))
        near_here (λ i at' ne m. near_other i at' ne _) (λ i at' ne m. near_other i at' ne _))
        (initiating.by_port_at g wired u u_is j at w holds l n s ms xs marks waits o quit count counts
        (λ i e f. FloorsAt f e (floor (far g u i)) b)
        far_here (λ i at' ne m. far_other i at' ne _ (λ e z. more_call i e)) (λ i at' ne m. far_other i at' ne _ (λ e z. absurd (m z.there))));
    in_tree = in_tree_after g wired u u_is hearer own passing w floor floors b (λ p at' m. floors.in_tree u p at' m);
    halted = halted_after g wired u u_is hearer own passing w floor floors b refl refl;
  }
