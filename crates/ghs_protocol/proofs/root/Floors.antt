-- The root is sent on: floors stay, and are kept.
use Rattle.std.proofs.Common.{◌≡◌, ◌≢◌, ℕ, false, Some, List, [], ◌∷◌, ◌++◌, refl, sym, ◌∙◌, ap, subst, ⊎_elim}
use Rattle.std.proofs.lemmas.Bool.{cases_eq}
use Rattle.std.proofs.lemmas.Option.{same_Some}
use Rattle.ghs_graph.specs.declared.key.Key.{Key}
use Rattle.ghs_node.specs.declared.mark.Mark.{Mark}
use Rattle.ghs_node.specs.declared.mark.Mark.TheVariants.{Branch}
use Rattle.ghs_node.specs.Words.{best_key}
use Rattle.ghs_node.specs.declared.message.Phase.TheVariants.{Find, Found}
use Rattle.ghs_node.specs.declared.message.Message.{Message}
use Rattle.ghs_node.specs.declared.message.Message.TheVariants.{Connect, ChangeRoot}
use Rattle.peer_network.specs.Network.{Network, port_at, At, far, far_port, InNetwork}
use Rattle.peer_network.proofs.lemmas.Wired.{IsWired}
use Rattle.peer_network.specs.Updates.{put}
use Rattle.ghs_protocol.proofs.clauses.Scene.{Seen, add, adds, Member, Scene, End, tree_end, end, acts, far_end}
use Rattle.ghs_protocol.proofs.clauses.Changes.{left_tree, seen_beyond, pointing, sent_out}
use Rattle.ghs_protocol.proofs.clauses.TreeMessages.{Upward, Nothing_up, Report_up}
use Rattle.ghs_protocol.proofs.clauses.Rest.{has_call}
use Rattle.ghs_protocol.proofs.clauses.Wiring.{Ground}
use Rattle.ghs_protocol.proofs.clauses.Uniting.{SendsRoot, meet}
use Rattle.ghs_protocol.proofs.clauses.Whole.{Invariant}
use Rattle.ghs_protocol.proofs.clauses.Floors.{Floor, FloorsAt, IsTreeLink, Floors}
use Rattle.peer_network.proofs.lemmas.Updates.{put_same, put_other}
use Rattle.ghs_protocol.proofs.acts.Reactions.{put_again}
use Rattle.ghs_protocol.proofs.root.AtRoot.{AtRoot, at_root}
use Rattle.ghs_protocol.proofs.root.Sent.{by_ports_at}
use Rattle.ghs_protocol.proofs.root.Inward.{at_best, best_apart, best_aside, best_below}
use Rattle.ghs_protocol.proofs.root.OldLink.{call_append}
use Rattle.ghs_protocol.proofs.rows.Link.{node_clauses, link_clauses, joined_clauses, not_the_way, connect_comes}
use Rattle.ghs_protocol.proofs.acts.Ends.{here_seen, far_seen}
use Rattle.ghs_protocol.proofs.acts.OneLink.{sends_one}
use Rattle.ghs_protocol.proofs.union.MetByRoot.{connects_meeting}
use Rattle.ghs_protocol.proofs.union.Floors.{floors_met}
use Rattle.ghs_protocol.proofs.acts.Floors.{near_fits, far_fits, RootFloors, root_floors, best_in_tree}
use Rattle.ghs_protocol.proofs.search.CloseFloors.{FloorsOff, nodes_after, links_after, links_after_off, in_tree_after, halted_after}
use Rattle.ghs_protocol.proofs.union.Lower.{SameParts, same_parts, below_new}

module _ (g : Network) (wired : IsWired g) (u : ℕ) (u_is : InNetwork g u) (j : ℕ) (at : At g u j) (w : Scene) (holds : Invariant g w)
    (ms : List Message) (root : AtRoot g w u j ms)
    (b : ℕ) (atb : At g u b) (apart : b ≢ j) (μ : ℕ → Mark) (to : μ b ≡ Branch) (same : (i : ℕ) → i ≢ b → μ i ≡ (w.at u).mark i) (m : Message)
    (no_call : (q : Seen) → has_call q.tree ≡ false → has_call (add q m).tree ≡ false) (floor : ℕ → Floor) (floors : Floors g w floor)
    (rf : RootFloors g wired w holds floor floors u j at ms root) where
  abbrev x : Member
  x = record (w.at u) { up = Some b; mark = μ }

  abbrev own : ℕ → Seen
  own = left_tree w u j ms

  abbrev pub still : ℕ → End
  still i = record { port = i; key = (port_at g u i).key; mark = μ i; is = record (w.at u) { up = Some b; mark = μ }; seen = w.seen u i }

  abbrev pub here : End
  here = record {
    port = j;
    key = (port_at g u j).key;
    mark = μ j;
    is = record (w.at u) { up = Some b; mark = μ };
    seen = record (w.seen u j) { tree = ms };
  }

  abbrev pub there : End
  there = record (far_end g w u b) { seen = add (seen_beyond g w u b) m }

  found : (w.at u).head.phase ≡ Found
  found = root.quiet.found u u_is refl

  not_find : (w.at u).head.phase ≡ Find → ⊥
  not_find e = cc (e, found)

  open node_clauses g wired w holds u u_is use {fits}
  open joined_clauses g w holds u j at root.joins use {inside}

  not_way : (i : ℕ) → i ≢ b → Some b ≢ Some i
  not_way i ne e = ne (sym (same_Some b i e))

  away : j ≢ b
  away e = apart (sym e)

  -- the old root link: the far end is a child's now
  near_left : FloorsAt here (far_end g w u j) (floor u) (floor (far g u j))
  near_left = record {
    none_below = λ out. absurd (out (sym inside));
    falls = λ c. absurd (not_way j away c.up);
    covered = λ p c o. absurd (not_way j away c.up);
    report = λ r c t. absurd (not_way j away c.up);
    core = λ c l p. absurd (not_way j away c.both.up);
    out = λ o. absurd (o.there root.joins.there);
    moved = λ z t. absurd (not_way j away z.both.up);
    best = λ y e l z. absurd ((fits.best_port j y e).1 root.in_branch);
  }

  far_left : FloorsAt (far_end g w u j) here (floor (far g u j)) (floor u)
  far_left = record {
    none_below = λ out. absurd (out inside);
    falls = λ c. rf.theirs;
    covered = λ p c o. absurd (not_find p);
    report = λ r c t. absurd (let z = sym root.rest ∙ t in cc);
    core = λ c l p. absurd (not_way j away c.both.up_beyond);
    out = λ o. absurd (o.there (same j away ∙ root.joins.here));
    moved = λ z t. absurd (not_way j away z.both.up_beyond);
    best = λ y e l z. (far_fits g wired w holds floor floors u j at).best y e l (record { here = root.joins.there; there = root.joins.here });
  }

  -- another link
  near_other : (i : ℕ) → At g u i → i ≢ j → i ≢ b → FloorsAt (still i) (far_end g w u i) (floor u) (floor (far g u i))
  near_other i at' ne ne' =
      let f = near_fits g wired w holds floor floors u i at' in
      record {
        none_below = f.none_below;
        falls = λ c. absurd (not_way i ne' c.up);
        covered = λ p c o. absurd (not_way i ne' c.up);
        report = λ r c t. absurd (not_way i ne' c.up);
        core = λ c l p. absurd (not_way i ne' c.both.up);
        out = λ o. f.out (record { here = sym (same i ne') ∙ o.here; there = o.there });
        moved = λ z t. absurd (not_way i ne' z.both.up);
        best = λ y e l z. f.best y e l (record { here = sym (same i ne') ∙ z.here; there = z.there });
      }

  far_other : (i : ℕ) → At g u i → i ≢ j → i ≢ b → FloorsAt (far_end g w u i) (still i) (floor (far g u i)) (floor u)
  far_other i at' ne ne' =
      let f = far_fits g wired w holds floor floors u i at' in
      record {
        none_below = f.none_below;
        falls = λ c.
            f.falls (record {
              joins = record { here = c.joins.here; there = sym (same i ne') ∙ c.joins.there };
              up = c.up;
              down = not_the_way root.up i ne;
            });
        covered = λ p c o. absurd (not_find p);
        report = λ r c t.
            f.report r
            (record {
              joins = record { here = c.joins.here; there = sym (same i ne') ∙ c.joins.there };
              up = c.up;
              down = not_the_way root.up i ne;
            }) t;
        core = λ c l p. absurd (not_way i ne' c.both.up_beyond);
        out = λ o. f.out (record { here = o.here; there = λ e. o.there (same i ne' ∙ e) });
        moved = λ z t. absurd (not_way i ne' z.both.up_beyond);
        best = λ y e l z. f.best y e l (record { here = z.here; there = sym (same i ne') ∙ z.there });
      }

  -- all together
  pub reroutes_floors :
      FloorsAt (still b) there (floor u) (floor (far g u b)) →
      FloorsAt there (still b) (floor (far g u b)) (floor u) →
      IsTreeLink g u b →
      Floors g (acts g u (record (w.at u) { up = Some b; mark = μ }) (left_tree w u j ms) ((b, m) ∷ []) w) floor
  reroutes_floors sent sent' tree =
      subst (Floors g (acts g u x own ((b, m) ∷ []) w)) (put_again floor u) (record {
        nodes =
            nodes_after g wired u u_is x own ((b, m) ∷ []) w floor floors (floor u)
            (let z = floors.nodes u u_is in record { asleep = z.asleep; search = z.search });
        links =
            links_after g wired u u_is x own ((b, m) ∷ []) w floor floors (floor u)
            (by_ports_at g wired u u_is j at w holds ms root b atb apart μ to same m no_call (λ i e f. FloorsAt e f (floor u) (floor (far g u i)))
            near_left sent near_other)
            (by_ports_at g wired u u_is j at w holds ms root b atb apart μ to same m no_call (λ i e f. FloorsAt f e (floor (far g u i)) (floor u))
            far_left sent' far_other);
        in_tree =
            in_tree_after g wired u u_is x own ((b, m) ∷ []) w floor floors (floor u)
            (λ p at' z.
            ⊎_elim (λ (e : p ≡ b). subst (IsTreeLink g u) (sym e) tree) (λ ne. floors.in_tree u p at' (sym (same p ne) ∙ z)) (cases_eq p b));
        halted = halted_after g wired u u_is x own ((b, m) ∷ []) w floor floors (floor u) refl refl;
      })

  -- all together but the link over which the root goes
  pub reroutes_off :
      IsTreeLink g u b →
      FloorsOff g (acts g u (record (w.at u) { up = Some b; mark = μ }) (left_tree w u j ms) ((b, m) ∷ []) w) floor u b
  reroutes_off tree =
      subst (λ f. FloorsOff g (acts g u x own ((b, m) ∷ []) w) f u b) (put_again floor u) (record {
        nodes =
            nodes_after g wired u u_is x own ((b, m) ∷ []) w floor floors (floor u)
            (let z = floors.nodes u u_is in record { asleep = z.asleep; search = z.search });
        links =
            links_after_off g wired u u_is x own ((b, m) ∷ []) w floor floors (floor u) b
            (by_ports_at g wired u u_is j at w holds ms root b atb apart μ to same m no_call
            (λ i e f. i ≢ b → FloorsAt e f (floor u) (floor (far g u i)))
            (λ ne. near_left) (λ ne. absurd (ne refl))
            (λ i at' ne ne' no. near_other i at' ne ne'))
            (by_ports_at g wired u u_is j at w holds ms root b atb apart μ to same m no_call
            (λ i e f. i ≢ b → FloorsAt f e (floor (far g u i)) (floor u))
            (λ ne. far_left) (λ ne. absurd (ne refl))
            (λ i at' ne ne' no. far_other i at' ne ne'));
        in_tree =
            in_tree_after g wired u u_is x own ((b, m) ∷ []) w floor floors (floor u)
            (λ p at' z.
            ⊎_elim (λ (e : p ≡ b). subst (IsTreeLink g u) (sym e) tree) (λ ne. floors.in_tree u p at' (sym (same p ne) ∙ z)) (cases_eq p b));
        halted = halted_after g wired u u_is x own ((b, m) ∷ []) w floor floors (floor u) refl refl;
      })

module _ (g : Network) (wired : IsWired g) (u : ℕ) (u_is : InNetwork g u) (w : Scene) (holds : Invariant g w) (j : ℕ) (at : At g u j)
    (ms : List Message) (b : ℕ) (k : Key) (calls : SendsRoot w u j ms) (best : (w.at u).head.best ≡ Some (b, k))
    (floor : ℕ → Floor) (floors : Floors g w floor) where
  root : AtRoot g w u j ms
  root = at_root g wired u u_is j at w holds ms calls

  rf : RootFloors g wired w holds floor floors u j at ms root
  rf = root_floors g wired w holds floor floors u j at ms root calls

  atb : At g u b
  atb = at_best g wired u u_is j at w holds ms root b k best

  apart : b ≢ j
  apart = best_apart g wired u u_is j at w holds ms root b k best

  open link_clauses g wired w holds u b atb use {fits as my_fits, link, link'}

  is_floor : floor u ≡ Some (Some k)
  is_floor = rf.mine ∙ ap (λ o. Some (best_key o)) best

  -- the root moves on over a Branch link
  module _ (mark : (w.at u).mark b ≡ Branch) where
    open best_below g wired u u_is j at w holds ms root b k best mark use {joins, up as below_way, unnamed, unnamed'}
    open joined_clauses g w holds u b atb joins use {inside as inside_b}

    child_floor : floor (far g u b) ≡ Some (Some k)
    child_floor = (near_fits g wired w holds floor floors u b atb).best k best root.top joins

    -- no ChangeRoot waits at b
    no_root : (w.seen u b).tree ≡ ChangeRoot ∷ [] → ⊥
    no_root q =
        up_only (link'.tree.upward (record {
          joins = record { here = joins.there; there = joins.here };
          up = below_way;
          down = best_aside g wired u u_is j at w holds ms root b k best;
        }))
      where
        up_only : Upward (tree_end (far_end g w u b)) (tree_end (end g w u b)) → ⊥
        up_only (Nothing_up z) = let y = sym z ∙ q in cc
        up_only (Report_up r z h) = let y = sym z ∙ q in cc

    near_best :
        FloorsAt
        (record { port = b; key = (port_at g u b).key; mark = (w.at u).mark b; is = pointing (w.at u) b; seen = w.seen u b })
        (record (far_end g w u b) { seen = add (seen_beyond g w u b) ChangeRoot }) (floor u) (floor (far g u b))
    near_best = record {
      none_below = λ out. absurd (out (sym inside_b));
      falls = λ c. absurd (c.down below_way);
      covered = λ p c o. absurd (c.down below_way);
      report = λ r c t. absurd (c.down below_way);
      core = λ c l p. absurd (unnamed c.named);
      out = λ o. absurd (o.there joins.there);
      moved = λ z t. absurd (no_root t);
      best = λ y e l z. (near_fits g wired w holds floor floors u b atb).best y e l joins;
    }

    far_best :
        FloorsAt
        (record (far_end g w u b) { seen = add (seen_beyond g w u b) ChangeRoot })
        (record { port = b; key = (port_at g u b).key; mark = (w.at u).mark b; is = pointing (w.at u) b; seen = w.seen u b })
        (floor (far g u b)) (floor u)
    far_best = record {
      none_below = λ out. absurd (out inside_b);
      falls = λ c. absurd (c.down refl);
      covered = λ p c o. absurd (c.down refl);
      report = λ r c t. absurd (c.down refl);
      core = λ c l p. absurd (unnamed' c.named);
      out = λ o. absurd (o.there joins.here);
      moved = λ z t. (child_floor ∙ ap Some (sym (link.search.find_reported k best root.top joins).key), is_floor ∙ sym child_floor);
      best = λ y e l z. (far_fits g wired w holds floor floors u b atb).best y e l (record { here = joins.there; there = joins.here });
    }

    pub passes_floors : Floors g (acts g u (pointing (w.at u) b) (left_tree w u j ms) ((b, ChangeRoot) ∷ []) w) floor
    passes_floors =
        reroutes_floors g wired u u_is j at w holds ms root b atb apart (w.at u).mark mark (λ i ne. refl) ChangeRoot
        (λ q n. call_append ChangeRoot refl q.tree ∙ n)
        floor floors rf
        near_best far_best (floors.in_tree u b atb mark)

  -- the root goes out, to a fragment that hasn't connected to this one
  module _ (mark : (w.at u).mark b ≢ Branch) (mark' : (w.at (far g u b)).mark (far_port g u b) ≢ Branch) where
    l : ℕ
    l = (w.at u).head.level

    near_out :
        FloorsAt
        (record { port = b; key = (port_at g u b).key; mark = put (w.at u).mark b Branch b; is = sent_out (w.at u) b; seen = w.seen u b })
        (record (far_end g w u b) { seen = add (seen_beyond g w u b) (Connect (w.at u).head.level) }) (floor u) (floor (far g u b))
    near_out = record {
      none_below = (near_fits g wired w holds floor floors u b atb).none_below;
      falls = λ c. absurd (mark' c.joins.there);
      covered = λ p c o. absurd (mark' c.joins.there);
      report = λ r c t. absurd (mark' c.joins.there);
      core = λ c y p. absurd (mark' c.both.joins.there);
      out = λ o. is_floor ∙ ap (λ z. Some (Some z)) (link.search.find_leads k best root.top mark).key;
      moved = λ z t. absurd (mark' z.both.joins.there);
      best = λ y e h z. absurd (mark' z.there);
    }

    far_out :
        FloorsAt
        (record (far_end g w u b) { seen = add (seen_beyond g w u b) (Connect (w.at u).head.level) })
        (record { port = b; key = (port_at g u b).key; mark = put (w.at u).mark b Branch b; is = sent_out (w.at u) b; seen = w.seen u b })
        (floor (far g u b)) (floor u)
    far_out = record {
      none_below = (far_fits g wired w holds floor floors u b atb).none_below;
      falls = λ c. absurd (mark' c.joins.here);
      covered = λ p c o. absurd (mark' c.joins.here);
      report = λ r c t. absurd (mark' c.joins.here);
      core = λ c y p. absurd (mark' c.both.joins.here);
      out = λ o. absurd (mark' o.here);
      moved = λ z t. absurd (mark' z.both.joins.here);
      best = λ y e h z. absurd (mark' z.here);
    }

    pub connects_floors : Floors g (acts g u (sent_out (w.at u) b) (left_tree w u j ms) ((b, Connect (w.at u).head.level) ∷ []) w) floor
    connects_floors =
        reroutes_floors g wired u u_is j at w holds ms root b atb apart (put (w.at u).mark b Branch) (put_same (w.at u).mark b Branch)
        (λ i ne. put_other (w.at u).mark b i Branch ne)
        (Connect (w.at u).head.level) (λ q n. call_append (Connect (w.at u).head.level) refl q.tree ∙ n) floor floors rf near_out far_out
        (best_in_tree g wired w holds floor floors u j at ms root calls b k atb best mark)

  -- the root goes out, and meets the Connect of the far end
  module _ (ground : Ground g) (mark : (w.at u).mark b ≢ Branch) (mark' : (w.at (far g u b)).mark (far_port g u b) ≡ Branch) where
    abbrev mid : Scene
    mid = acts g u (sent_out (w.at u) b) (left_tree w u j ms) ((b, Connect (w.at u).head.level) ∷ []) w

    here_is : mid.at u ≡ sent_out (w.at u) b
    here_is = put_same w.at u (sent_out (w.at u) b)

    else_is : (t : ℕ) → t ≢ u → mid.at t ≡ w.at t
    else_is t ne = put_other w.at u t (sent_out (w.at u) b) ne

    far_is : mid.at (far g u b) ≡ w.at (far g u b)
    far_is = else_is (far g u b) (wired.apart u b atb)

    same : SameParts w mid
    same = same_parts g u (sent_out (w.at u) b) (left_tree w u j ms) ((b, Connect (w.at u).head.level) ∷ []) w refl refl refl refl

    off : FloorsOff g mid floor u b
    off =
        reroutes_off g wired u u_is j at w holds ms root b atb apart (put (w.at u).mark b Branch) (put_same (w.at u).mark b Branch)
        (λ i ne. put_other (w.at u).mark b i Branch ne)
        (Connect (w.at u).head.level) (λ q n. call_append (Connect (w.at u).head.level) refl q.tree ∙ n) floor floors rf
        (best_in_tree g wired w holds floor floors u j at ms root calls b k atb best mark)

    own_seen : mid.seen u b ≡ w.seen u b
    own_seen =
        here_seen g wired u u_is.some u_is.node (sent_out (w.at u) b) (left_tree w u j ms) ((b, Connect (w.at u).head.level) ∷ []) w b ∙
        put_other (w.seen u) j b (record (w.seen u j) { tree = ms }) apart

    their_seen : (seen_beyond g mid u b).tree ≡ (seen_beyond g w u b).tree ++ Connect (w.at u).head.level ∷ []
    their_seen =
        ap (λ (q : Seen). q.tree)
        (far_seen g wired u u_is.some u_is.node (sent_out (w.at u) b) (left_tree w u j ms) ((b, Connect (w.at u).head.level) ∷ []) w b atb) ∙
        ap (λ ss. (adds (seen_beyond g w u b) ss).tree) ((sends_one b (Connect (w.at u).head.level)).only)

    pub meets_floors : Floors g (meet g u b (acts g u (sent_out (w.at u) b) (left_tree w u j ms) ((b, Connect (w.at u).head.level) ∷ []) w)) floor
    meets_floors =
        let came = connect_comes g wired w holds u b atb mark' mark in
        floors_met g wired mid floor off.nodes off.in_tree off.halted u b atb
        (λ e.
        (link.search.find_leads k best root.top mark).apart (sym (same.fragment (far g u b)) ∙ e ∙ same.fragment u)) off.links
        (below_new g w mid holds same u b came root.top)
        (ap (λ (m : Member). m.mark b) here_is ∙ put_same (w.at u).mark b Branch) (ap (λ (m : Member). m.mark (far_port g u b)) far_is ∙ mark')
        (ap (λ (m : Member). m.up) here_is) (ap (λ (m : Member). m.up) far_is ∙ came.up)
        (λ e.
        let z = came.one in
        let y = ap (λ (q : Seen). q.tree) own_seen in
        let s : Connect (w.at (far g u b)).head.level ∷ [] ≡ ChangeRoot ∷ [] = sym z ∙ sym y ∙ e in cc)
        (λ e.
        let z = came.none in
        let s : [] ++ Connect (w.at u).head.level ∷ [] ≡ ChangeRoot ∷ [] =
        ap (λ q. q ++ Connect (w.at u).head.level ∷ []) (sym z) ∙ sym their_seen ∙ e in
        cc)
        (connects_meeting g ground u u_is w holds j at ms b k calls best mark mark')
