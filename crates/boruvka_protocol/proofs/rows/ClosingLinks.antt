-- A search ends: what that keeps at each link of the node, from both its ends. The node n stands at port p of v, and its far end has m.
use Rattle.std.proofs.Common.{◌≡◌, ◌≢◌, ◌⊎◌, ℕ, suc, ◌<◌, ◌≤◌, inl, inr, ⊎_elim, Bool, true, false, Option, None, List, [], ◌∷◌, refl, sym, ◌∙◌, subst, arith}
use Rattle.ghs_graph.specs.declared.key.Key.{Key}
use Rattle.boruvka_protocol.specs.Levels.{Taken}
use Rattle.ghs_node.specs.Words.{Best}
use Rattle.peer_network.specs.Network.{Network, port_at, far}
use Rattle.boruvka_node.specs.declared.mark.Mark.{Mark}
use Rattle.boruvka_node.specs.declared.mark.Mark.TheVariants.{Basic, Asked, Branch, Inside}
use Rattle.boruvka_node.specs.declared.message.Message.{Message}
use Rattle.boruvka_node.specs.declared.message.Message.TheVariants.{Report}
use Rattle.boruvka_node.specs.declared.message.Phase.TheVariants.{Search, Rest}
use Rattle.boruvka_node.specs.Words.{is_basic}
use Rattle.boruvka_protocol.proofs.invariant.Words.{IsPast, IsWayUp, SubIs}
use Rattle.boruvka_protocol.proofs.invariant.Sides.{Side, AtPort, side_of, far_side_of, heard_at, names_in, calls_in, connects_in, initiates_in, reports_in}
use Rattle.boruvka_protocol.proofs.invariant.Names.{NamesFit}
use Rattle.boruvka_protocol.proofs.invariant.Connects.{HasAsked, Waits, Has_begun, HasChosen, Answered, Comes, Noted, Called}
use Rattle.boruvka_protocol.proofs.invariant.Children.{HasReported, ChildFits}
use Rattle.boruvka_protocol.proofs.invariant.TreeMessages as tree
use Rattle.boruvka_protocol.proofs.invariant.TreeMessages.{CallFits, CallsFit}
use Rattle.boruvka_protocol.proofs.invariant.Whole.{LinkFits}
use Rattle.boruvka_protocol.proofs.Unlike.{one_is_zero, false_is_true}
use Rattle.boruvka_protocol.proofs.rows.Parts.{none_by, chosen_near}
use Rattle.boruvka_protocol.proofs.rows.Leaving.{AreEnds, joined_ends}
use Rattle.boruvka_protocol.proofs.rows.Late.{search_rest}
use Rattle.boruvka_protocol.proofs.rows.Noted.{basic_no_branch}
use Rattle.peer_network.proofs.lemmas.Sums.{node_before}

-- the search is over: the node is at rest with its best, and perhaps has halted
abbrev pub closed_at : AtPort → Best → Bool → AtPort
closed_at n b halted = record { port = n.port; head = record n.head { best = b; phase = Rest; halted = halted } }

branch_or : (m : Mark) → (m ≡ Branch) ⊎ (m ≡ Branch → ⊥)
branch_or Basic = inr (λ x. cc)
branch_or Asked = inr (λ x. cc)
branch_or Branch = inl refl
branch_or Inside = inr (λ x. cc)

-- From v's end: no Report is owed there, and a Basic port was heard at the node's level.
module _ (ks : List Key) (g : Network) (v p : ℕ) (b : Best) (halted : Bool) (n m : AtPort) (q r r' : List Message) (h : LinkFits ks g v p n m q r)
    (search : n.head.phase ≡ Search) (stays : n.head.out ≡ None) (lo : 1 ≤ n.head.level) (paid : n.port.owes ≡ false)
    (heard : is_basic n.port.mark ≡ true → n.head.level ≤ n.port.level) (ends : AreEnds v (far g v p) (port_at g v p).key) where
  abbrev k : Key
  k = (port_at g v p).key

  abbrev e : Side
  e = side_of g v p n

  abbrev f : Side
  f = far_side_of g v p m

  abbrev e' : Side
  e' = side_of g v p (closed_at n b halted)

  -- a Basic port's far end isn't a level below
  not_below : is_basic n.port.mark ≡ true → m.head.level < n.head.level → ⊥
  not_below basic lt = let le = heard basic in let most = h.names.all.at_most in omega (arith, le, most, lt)

  not_late : (i : ℕ) → n.head.level ≡ suc i → Taken ks n.head.level k → n.port.mark ≢ Branch → ⊥
  not_late i lv t ne = let late = h.marks.late i lv t ne in let l = late.level in not_below late.basic (omega (arith, lv, l))

  -- so each link that is taken is Branch
  pub taken_branch : Taken ks n.head.level k → n.port.mark ≡ Branch
  taken_branch t =
      ⊎_elim (λ x. x) (λ ne. let i = node_before n.head.level lo in absurd (not_late i.0 i.1 t ne)) (branch_or n.port.mark)

  -- and each child has reported
  pub child_heard : IsWayUp ks n.head.level (far g v p) k → HasReported n.head.level m.head.level m.head.phase (calls_in q)
  child_heard up = h.owes.heard search (taken_branch up.up.link) up paid

  -- no Connect of the level below is under way
  none_below : (i : ℕ) → suc i ≡ n.head.level → is_basic n.port.mark ≡ true → HasAsked ks i e f → ⊥
  none_below i lv basic (Waits at o) = not_below basic (omega (arith, lv, at))
  none_below i lv basic (Has_begun at least less mark) =
      h.marks.leads_out basic lo (heard basic)
      (joined_ends {P = λ x. Taken ks n.head.level x} v (far g v p) k ends (subst (λ x. Taken ks x k) lv (inr (v, least))))

  calls_near : (x : List Message) → x ≡ calls_in q → CallsFit ks e f x → CallsFit ks e' f x
  calls_near _ same tree.Nothing = tree.Nothing
  calls_near _ same (tree.Chosen i c) = tree.Chosen i (record {
    chosen = chosen_near ks g v p n (closed_at n b halted) f i c.chosen;
    finds = ⊎_elim (λ x. inl x) (λ x. absurd (none_below i x.0 x.2 c.chosen.sender)) c.finds;
  })
  calls_near _ same (tree.Called l name d) = search_rest n.head.phase search d.rest
  calls_near _ same (tree.Chosen_called i l name c d) = search_rest n.head.phase search d.rest
  calls_near _ same (tree.Reported w d) =
      one_is_zero (subst (λ (y : List Message). ◌≡◌ {A = ℕ} (reports_in y) 0) (sym same) ((child_heard d.up).heard d.sender_level))
  calls_near _ same (tree.Passed d) = search_rest n.head.phase search d.rest

  child_near : IsWayUp ks n.head.level (far g v p) k → ChildFits ks e' f (calls_in q) (calls_in r')
  child_near up = record {
    level = (h.children.child up).level;
    behind = λ z. absurd (⊎_elim (λ lt. omega (arith, lt, z)) (λ x. let y = x.0 in omega (arith, y, z)) (child_heard up).past);
    search = λ lv s. ⊎_elim (λ lt. absurd (omega (arith, lt, lv))) (λ x. search_rest m.head.phase s x.1) (child_heard up).past;
    rest = λ x. child_heard up;
  }

  pub closed_near : LinkFits ks g v p (closed_at n b halted) m q r'
  closed_near = record {
    marks = record {
      branch = h.marks.branch;
      inside = h.marks.inside;
      late = λ i lv t ne. absurd (not_late i lv t ne);
      leads_out = h.marks.leads_out;
    };
    names = record {
      said = h.names.said;
      next = h.names.next;
      all = record {
        at_most = h.names.all.at_most;
        basic = h.names.all.basic;
        aside = λ no. let x = h.names.all.aside no in record { apart = x.apart; far = x.far };
      };
      near = h.names.near;
      rest = λ x l basic. heard basic;
    };
    connects = record { asked = λ x. chosen_near ks g v p n (closed_at n b halted) f n.head.level (h.connects.asked x); out = λ x. cc (stays, x) };
    calls = calls_near (calls_in q) refl h.calls;
    children = record {
      child = λ up. child_near up;
      parent = λ up. let x = h.children.parent up in record { level = x.level; mark = x.mark; far_mark = x.far_mark };
    };
    owes = record {
      child = λ o. false_is_true (sym paid ∙ o);
      open_yet = λ o. false_is_true (sym paid ∙ o);
      heard = λ s. search_rest Rest s refl;
      rest = λ ne. paid;
    };
  }

-- From the far end, where the node m stands at port p of v, and across it n ends its search. r waits here, and then r'.
module _ (ks : List Key) (g : Network) (v p : ℕ) (b : Best) (halted : Bool) (m n : AtPort) (r q r' : List Message) (h : LinkFits ks g v p m n r q)
    (search : n.head.phase ≡ Search)
    (done : IsWayUp ks n.head.level v (port_at g v p).key → IsPast n.head.level m.head.level m.head.phase) where
  abbrev c : Side
  c = side_of g v p m

  abbrev d : Side
  d = far_side_of g v p n

  abbrev d' : Side
  d' = far_side_of g v p (closed_at n b halted)

  past_on : {P : Type 0} (l : ℕ) → IsPast l n.head.level n.head.phase → (l < n.head.level → P) → P
  past_on l x go = ⊎_elim go (λ y. search_rest n.head.phase search y.1) x

  chosen_away : (i : ℕ) → HasChosen ks i c d → HasChosen ks i c d'
  chosen_away i x = record { least = x.least; past = past_on i x.past (λ lt. inl lt); sender = go x.sender }
    where
      go : HasAsked ks i c d → HasAsked ks i c d'
      go (Waits lv o) = Waits lv o
      go (Has_begun lv least less mark) = Has_begun lv least less mark

  no_call : (l : ℕ) (name : Key) → CallFits ks l name c d → ⊥
  no_call l name x =
      let lv = x.sender_level in
      ⊎_elim (λ lt. omega (arith, lt, lv)) (λ y. let s = y.0 in omega (arith, s, lv))
      (done (subst (λ y. IsWayUp ks y v (port_at g v p).key) (sym lv) x.up))

  pub calls_away : (x : List Message) → CallsFit ks c d x → CallsFit ks c d' x
  calls_away _ tree.Nothing = tree.Nothing
  calls_away _ (tree.Chosen i x) = tree.Chosen i (record { chosen = chosen_away i x.chosen; finds = x.finds })
  calls_away _ (tree.Called l name x) = absurd (no_call l name x)
  calls_away _ (tree.Chosen_called i l name x y) = absurd (no_call l name y)
  calls_away _ (tree.Reported w x) = search_rest n.head.phase search x.sender_rest
  calls_away _ (tree.Passed x) = tree.Passed (record { up = x.up; rest = x.rest; stays = x.stays; least = x.least })

  heard_away : (l : ℕ) (x y : List Message) → HasReported l n.head.level n.head.phase x → HasReported l n.head.level Rest y
  heard_away l x y rep =
      past_on l rep.past (λ lt. record { past = inl lt; heard = λ e. absurd (omega (arith, lt, e)) })

  module _ (names : names_in r' ≡ names_in r) (connects : ◌≡◌ {A = ℕ} (connects_in (calls_in r')) (connects_in (calls_in r)))
      (initiates : ◌≡◌ {A = ℕ} (initiates_in (calls_in r')) (initiates_in (calls_in r))) (calls : CallsFit ks c d' (calls_in r'))
      (owed : m.port.owes ≡ true → HasReported m.head.level n.head.level Rest (calls_in r') → ⊥) where
    answer_away : Answered ks c d (calls_in r) (calls_in q) → Answered ks c d' (calls_in r') (calls_in q)
    answer_away (Comes one ne) = Comes one ne
    answer_away (Noted none mark lv) = Noted none mark lv
    answer_away (Called none mark lv up one) = Called none mark lv up (initiates ∙ one)

    pub closed_away : LinkFits ks g v p m (closed_at n b halted) r' q
    closed_away = record {
      marks = record {
        branch = h.marks.branch;
        inside = h.marks.inside;
        late = λ i lv t ne.
            let a = h.marks.late i lv t ne in
            record {
              basic = a.basic;
              search = a.search;
              chosen = a.chosen;
              alone = a.alone;
              level = a.level;
              connect = (λ o. connects ∙ a.connect.0 o, λ one. a.connect.1 (sym connects ∙ one));
            };
        leads_out = h.marks.leads_out;
      };
      names = subst (λ ts. NamesFit ks c d' (heard_at m) ts) (sym names)
          (record {
            said = h.names.said;
            next = h.names.next;
            all = record {
              at_most = h.names.all.at_most;
              basic = h.names.all.basic;
              aside = λ no. let x = h.names.all.aside no in record { apart = x.apart; far = x.far };
            };
            near = h.names.near;
            rest = h.names.rest;
          });
      connects = record {
        asked = λ x. chosen_away m.head.level (h.connects.asked x);
        out = λ x.
            let o = h.connects.out x in
            record { least = o.least; rest = o.rest; basic = o.basic; answer = answer_away o.answer; greater = o.greater };
      };
      calls = calls;
      children = record {
        child = λ up.
            let x = h.children.child up in
            record {
              level = x.level;
              behind = λ z. let y = x.behind z in record { search = y.search; rest = λ a. refl; called = y.called };
              search = λ lv s. search_rest Rest s refl;
              rest = λ a. heard_away m.head.level (calls_in r) (calls_in r') (x.rest a);
            };
        parent = λ up. let x = h.children.parent up in record { level = x.level; mark = x.mark; far_mark = x.far_mark };
      };
      owes = record {
        child = h.owes.child;
        open_yet = owed;
        heard = λ s a up o. heard_away m.head.level (calls_in r) (calls_in r') (h.owes.heard s a up o);
        rest = h.owes.rest;
      };
    }

  -- Where the node reports to v, v is in search at its level, the link Branch there, and nothing waits but Names.
  module _ (up : IsWayUp ks n.head.level (far g v p) (port_at g v p).key) (level : m.head.level ≡ n.head.level) (listens : m.head.phase ≡ Search)
      (branch : m.port.mark ≡ Branch) where
    pub empty_there : calls_in r ≡ []
    empty_there = none_by ks c d
        (λ i x. ⊎_elim
        (λ e. past_on i x.chosen.past (λ lt. omega (arith, e, lt, level))) (λ y. basic_no_branch m.port.mark y.2 branch) x.finds)
        (λ l name x. search_rest m.head.phase listens x.rest)
        (λ w x. search_rest n.head.phase search x.sender_rest)
        (λ x. search_rest m.head.phase listens x.rest)
        (calls_in r) h.calls

    pub report_there : (w : Option Key) → SubIs ks n.head.level (far g v p) w → CallsFit ks c d' (Report w ∷ [])
    report_there w sub = tree.Reported w
        (record {
          up = subst (λ x. IsWayUp ks x (far g v p) (port_at g v p).key) (sym level) up;
          sender_level = sym level;
          sender_rest = refl;
          search = listens;
          mark = branch;
          sub = subst (λ x. SubIs ks x (far g v p) w) (sym level) sub;
        })
