-- A node that moves passes the token on over a Branch, to the child from which or from below which the least way out leaves.
use Rattle.std.proofs.Common.{◌≡◌, ◌≢◌, ◌⊎◌, ℕ, suc, ◌<◌, inl, inr, ⊎_elim, true, Option, Some, None, List, [], ◌∷◌, ◌++◌, refl, sym, ◌∙◌, ap, subst, arith}
use Rattle.std.proofs.lemmas.Bool.{cases_eq}
use Rattle.ghs_graph.specs.declared.key.Key.{Key}
use Rattle.ghs_graph.specs.Graph.{Shape, IsGraph}
use Rattle.boruvka_protocol.specs.Levels.{Taken, InClass}
use Rattle.boruvka_protocol.proofs.lemmas.Cuts.{least_at}
use Rattle.peer_network.specs.Network.{Network, network_of, port_at, At, InNetwork, far, far_port}
use Rattle.peer_network.proofs.lemmas.Wired.{IsWired}
use Rattle.peer_network.proofs.lemmas.Wires.{at_in, neighbour}
use Rattle.peer_network.proofs.lemmas.Updates.{one_place}
use Rattle.peer_network.proofs.lemmas.Graphs.{graph_wired, port_ends}
use Rattle.peer_machine.specs.Rules.{Outgoing}
use Rattle.peer_machine.specs.Net.{Net}
use Rattle.boruvka_node.specs.declared.head.Head.{Head}
use Rattle.boruvka_node.specs.declared.mark.Mark.{Mark}
use Rattle.boruvka_node.specs.declared.mark.Mark.TheVariants.{Basic, Asked, Branch, Inside}
use Rattle.boruvka_node.specs.declared.message.Message.{Message}
use Rattle.boruvka_node.specs.declared.message.Message.TheVariants.{ChangeRoot}
use Rattle.boruvka_node.specs.declared.message.Phase.TheVariants.{Sleeping, Search, Rest}
use Rattle.boruvka_node.specs.Words.{is_basic, is_branch}
use Rattle.boruvka_node.specs.State.{State, mark_at}
use Rattle.boruvka_protocol.proofs.Unlike.{rest_is_sleeping}
use Rattle.boruvka_protocol.proofs.levels.UpOnce.{up_of_either}
use Rattle.boruvka_protocol.proofs.follows.Ways.{taken_still}
use Rattle.boruvka_protocol.proofs.invariant.Words.{IsLeast, IsWayUp, IsSubAt}
use Rattle.boruvka_protocol.proofs.invariant.Sides.{Side, AtPort, at_port, side_of, far_side_of, calls_in, connects_in, initiates_in, reports_in, passes_in}
use Rattle.boruvka_protocol.proofs.invariant.Nodes.{NodeFits, AwakeFits}
use Rattle.boruvka_protocol.proofs.invariant.Children.{HasReported, ChildFits}
use Rattle.boruvka_protocol.proofs.invariant.Connects.{HasAsked, Waits, Has_begun, ConnectFits}
use Rattle.boruvka_protocol.proofs.invariant.Search.{LacksSome, HasChild, LeadsTo, Own, By_child}
use Rattle.boruvka_protocol.proofs.invariant.TreeMessages as tree
use Rattle.boruvka_protocol.proofs.invariant.TreeMessages.{PassFits, CallsFit}
use Rattle.boruvka_protocol.proofs.invariant.Token as token
use Rattle.boruvka_protocol.proofs.invariant.Token.{Place, IsTokenAt, In_message, Gone_out, Gone_on, At_end, HaltsFit}
use Rattle.boruvka_protocol.proofs.invariant.Whole.{LinkFits, LinksFit, Ground, Fits}
use Rattle.boruvka_protocol.proofs.rows.Sends.{sent_on, sent_one, sent_none}
use Rattle.boruvka_protocol.proofs.rows.Acts.{Acts, fits_like, far_link, links_one}
use Rattle.boruvka_protocol.proofs.rows.Alike.{SameHeads, SameLevels, SamePhases, PastStays, levels_alike, phases_alike, past_alike, AsManyReports}
use Rattle.boruvka_protocol.proofs.rows.Tokens.{TokensStay, token_stays, halts_stay}
use Rattle.boruvka_protocol.proofs.rows.Others.{nodes_act, waits_like}
use Rattle.boruvka_protocol.proofs.rows.Kept.{heads_act, searches_act}
use Rattle.boruvka_protocol.proofs.rows.Leaving.{AreEnds, joined_ends}
use Rattle.boruvka_protocol.proofs.rows.Late.{search_rest}
use Rattle.boruvka_protocol.proofs.rows.Gone.{none_some}
use Rattle.boruvka_protocol.proofs.rows.Placed.{put_down}
use Rattle.boruvka_protocol.proofs.rows.Queues.{passes_called, calls_append, passes_append, names_before, reports_before}
use Rattle.boruvka_protocol.proofs.rows.AboutToMove.{AboutToMove}
use Rattle.boruvka_protocol.proofs.rows.Moves.{moving_sub}
use Rattle.boruvka_protocol.proofs.rows.Waits.{ReadsAs, waits_as}

basic_plain : (x : Mark) → is_branch x ≡ true → is_basic x ≡ true → ⊥
basic_plain Basic a b = cc
basic_plain Asked a b = cc
basic_plain Branch a b = cc
basic_plain Inside a b = cc

module _ (gr : Shape) (ok : IsGraph gr) (w : Net State Message) (v : ℕ) (here : InNetwork (network_of gr) v)
    (h : AboutToMove gr.keys (network_of gr) w v) (branch : is_branch (mark_at (w.node v) h.best.0) ≡ true)
    (none_on : (x : ℕ) → InNetwork (network_of gr) x → InClass gr.keys (w.node v).head.level v x →
    (w.node x).head.level ≡ suc (w.node v).head.level → (w.node x).head.phase ≡ Search → ⊥) where
  abbrev g : Network
  g = network_of gr

  abbrev ks : List Key
  ks = gr.keys

  wired : IsWired g
  wired = graph_wired gr ok

  abbrev p : ℕ
  p = h.best.0

  abbrev l : ℕ
  l = (w.node v).head.level

  abbrev Child : Type 0
  Child = HasChild ks g v (w.node v) (λ i. (w.node (far g v i)).head) (λ i. w.queue v i) p × IsSubAt ks l (far g v p) h.best.1

  child : Child
  child = go (moving_sub gr ok w v here h).1
    where
      go : LeadsTo ks g v (w.node v) (λ i. (w.node (far g v i)).head) (λ i. w.queue v i) h.best.0 h.best.1 → Child
      go (Own at b key) = absurd (basic_plain (mark_at (w.node v) p) branch b)
      go (By_child c sub) = (c, sub)

  at : At g v p
  at = child.0.at

  abbrev u : ℕ
  u = far g v p

  abbrev b : ℕ
  b = far_port g v p

  abbrev k : Key
  k = (port_at g v p).key

  abbrev n : AtPort
  n = at_port (w.node v) p

  abbrev m : AtPort
  m = at_port (w.node u) b

  abbrev q : List Message
  q = w.queue v p

  abbrev r : List Message
  r = w.queue u b

  link : LinkFits ks g v p n m q r
  link = h.links v p at

  there : LinkFits ks g u b m n r q
  there = far_link g wired ks w h.links v p at

  at_there : At g u b
  at_there = wired.there v p at

  here_there : InNetwork g u
  here_there = at_in at_there

  abbrev s : Side
  s = side_of g u b m

  abbrev t : Side
  t = far_side_of g u b n

  same_node : t.node ≡ v
  same_node = wired.back v p at

  same_key : s.key ≡ k
  same_key = wired.same_key v p at

  ends : AreEnds v u k
  ends = port_ends gr ok v p at

  taken : Taken ks l k
  taken = child.0.child.up.link

  inside : InClass ks l v u
  inside = joined_ends v u k ends taken

  as_child : ChildFits ks (side_of g v p n) (far_side_of g v p m) (calls_in q) (calls_in r)
  as_child = link.children.child child.0.child

  reported : HasReported l m.head.level m.head.phase (calls_in q)
  reported = as_child.rest h.rest

  -- Had the child entered the next level, it would search there, called from where the token has gone on.
  not_above : l < m.head.level → ⊥
  not_above lt = ⊎_elim
      (λ up_u.
      let f = there.children.parent (subst (λ y. IsWayUp ks m.head.level u y) (sym same_key) up_u) in
      ⊎_elim (λ e. omega (arith, e, lt)) (λ e. omega (arith, e, lt)) f.level)
      (λ up_v.
      let c = there.children.child (subst (λ y. IsWayUp ks m.head.level y s.key) (sym same_node)
      (subst (λ y. IsWayUp ks m.head.level v y) (sym same_key) up_v)) in
      let le = c.level in
      let above : suc l ≡ m.head.level = omega (arith, le, lt) in
      none_on u here_there inside (sym above) (c.behind above).search)
      (up_of_either gr ok m.head.level u v k node_there.class (⊎_elim (λ e. inr (e.1, e.0)) (λ e. inl (e.1, e.0)) ends)
      (taken_still ks l m.head.level k (omega (arith, lt)) taken))
    where
      asleep : m.head.phase ≡ Sleeping → ⊥
      asleep z = let e = ap (λ (x : State). x.head.level) (h.ground.untouched u z) in omega (arith, e, lt)

      node_there : NodeFits ks u (w.node u)
      node_there = h.nodes u here_there asleep

  level : (m.head.level ≡ l) × (m.head.phase ≡ Rest)
  level = ⊎_elim (λ lt. absurd (not_above lt)) (λ e. e) reported.past

  node_at : NodeFits ks u (w.node u)
  node_at = h.nodes u here_there (λ z. rest_is_sleeping (sym level.1 ∙ z))

  -- it hasn't gone out, and no token waits there
  stays_there : m.head.out ≡ None
  stays_there = go m.head.out refl
    where
      go : (o : Option ℕ) → m.head.out ≡ o → m.head.out ≡ None
      go None e = e
      go (Some i) e = absurd (h.tokens.none (record {
        node = u;
        place = token.Out;
        inside = inside;
        in_network = here_there;
        at = Gone_out i (record {
          some = at_there.some;
          node = at_there.node;
          port = subst (λ x. i < x) (h.ground.nodes u).ports (node_at.out_port i e);
        }) level.0 e;
      }))

  none_waits : ◌≡◌ {A = ℕ} (passes_in r) 0
  none_waits = ⊎_elim
      (λ (e : passes_in r ≡ 0). e)
      (λ ne. absurd (h.tokens.none (record {
        node = u;
        place = token.Waits;
        inside = inside;
        in_network = here_there;
        at = In_message b at_there level.0 (omega (arith, ne));
      })))
      (cases_eq (passes_in r) 0)

  empty : calls_in r ≡ []
  empty = go (calls_in r) (passes_called r ∙ none_waits) there.calls
    where
      no_connect : {P : Type 0} (i : ℕ) → ConnectFits ks i s t → P
      no_connect {P} i c = asked c.chosen.sender
        where
          asked : HasAsked ks i s t → P
          asked (Waits lv o) = none_some t.port h.stays o
          asked (Has_begun lv least less mark) = ⊎_elim
              (λ e. absurd (omega (arith, e, lv, level.0)))
              (λ e. search_rest m.head.phase e.1 level.1)
              c.finds

      go : (x : List Message) → ◌≡◌ {A = ℕ} (passes_in x) 0 → CallsFit ks s t x → x ≡ []
      go _ z tree.Nothing = refl
      go _ z (tree.Chosen i c) = no_connect i c
      go _ z (tree.Called i name d) = let e = d.sender_level in absurd (omega (arith, e, level.0))
      go _ z (tree.Chosen_called i j name c d) = no_connect i c
      go _ z (tree.Reported i d) = search_rest m.head.phase d.search level.1
      go _ z (tree.Passed d) = absurd (omega (arith, z))

  alone : calls_in (r ++ ChangeRoot ∷ []) ≡ ChangeRoot ∷ []
  alone = calls_append r (ChangeRoot ∷ []) ∙ ap (λ (x : List Message). x ++ ChangeRoot ∷ []) empty

  passed : PassFits ks s t
  passed = record {
    up = subst (λ x. IsWayUp ks x u s.key) (sym level.0) (subst (λ x. IsWayUp ks l u x) (sym same_key) child.0.child);
    rest = level.1;
    stays = stays_there;
    least = (
      h.best.1,
      subst (λ x. IsLeast ks x u h.best.1) (sym level.0) (least_at inside h.least),
      subst (λ x. IsSubAt ks x u h.best.1) (sym level.0) child.1,
    );
  }

  reads : ReadsAs r (r ++ ChangeRoot ∷ [])
  reads = record {
    names = sym (names_before r (ChangeRoot ∷ []) refl);
    connects = ap (λ y. connects_in y) empty ∙ sym (ap (λ y. connects_in y) alone);
    initiates = ap (λ y. initiates_in y) empty ∙ sym (ap (λ y. initiates_in y) alone);
    reports = ap (λ y. reports_in y) empty ∙ sym (ap (λ y. reports_in y) alone);
  }

  reads_here : ReadsAs q q
  reads_here = record { names = refl; connects = refl; initiates = refl; reports = refl }

  near : LinkFits ks g v p n m q (r ++ ChangeRoot ∷ [])
  near = waits_as ks g v p n m q q r (r ++ ChangeRoot ∷ []) link reads_here reads link.calls

  away : LinkFits ks g u b m n (r ++ ChangeRoot ∷ []) q
  away = waits_as ks g u b m n r (r ++ ChangeRoot ∷ []) q q there reads reads_here
      (subst (λ x. CallsFit ks s t x) (sym alone) (tree.Passed passed))

  module _ (w' : Net State Message) (a : Acts g w w' v (w.node v) (w.queue v) ((p, ChangeRoot) ∷ [])) where
    abbrev ss : Outgoing Message
    ss = (p, ChangeRoot) ∷ []

    -- what waited at the far end of port i
    abbrev back : ℕ → List Message
    back i = w.queue (far g v i) (far_port g v i)

    sent_here_is : r ++ ChangeRoot ∷ [] ≡ r ++ sent_on ss p
    sent_here_is = sent_one r p ChangeRoot

    links : LinksFit ks g w'
    links = links_one g wired ks w w' v (w.node v) (w.queue v) ss a here h.links p (λ i ne. refl) (λ i ne. refl)
        (λ i ne. sent_none (back i) p ChangeRoot i ne)
        (fits_like g wired ks refl refl refl sent_here_is near) (fits_like g wired ks refl refl sent_here_is refl away)

    heads : SameHeads w w'
    heads = heads_act ks g w w' v (w.node v) (w.queue v) ss a refl

    same_level : SameLevels w w'
    same_level = levels_alike w w' heads

    same_phase : SamePhases w w'
    same_phase = phases_alike w w' heads

    as_many_reports : AsManyReports g w w'
    as_many_reports = waits_like ks g w w' v (w.node v) (w.queue v) ss a wired here (λ x. reports_in (calls_in x)) (λ i at_i. refl)
        (λ i at_i. ⊎_elim
        (λ (e : i ≡ p).
        subst (λ y. ◌≡◌ {A = ℕ} (reports_in (calls_in (back y))) (reports_in (calls_in (back y ++ sent_on ss y)))) (sym e)
        (reports_before r (ChangeRoot ∷ []) refl ∙ ap (λ (x : List Message). reports_in (calls_in x)) sent_here_is))
        (λ ne. ap (λ (x : List Message). reports_in (calls_in x)) (sent_none (back i) p ChangeRoot i ne))
        (cases_eq i p))

    -- what waits at other ports is what waited there
    queue_there : (x i : ℕ) → At g x i → ((x ≡ u) × (i ≡ b) → ⊥) → w.queue x i ≡ w'.queue x i
    queue_there x i at_x apart = ⊎_elim
        (λ (e : x ≡ v). subst (λ y. w.queue y i ≡ w'.queue y i) (sym e) (sym (a.queue i (subst (λ y. At g y i) e at_x))))
        (λ ne. ⊎_elim
        (λ (e : far g x i ≡ v). across e)
        (λ fne. sym (a.queues x i ne (λ j e f. fne (neighbour g wired v j x i here.some here.node at_x e f))))
        (cases_eq (far g x i) v))
        (cases_eq x v)
      where
        across : far g x i ≡ v → w.queue x i ≡ w'.queue x i
        across e =
            let j = far_port g x i in
            let at_j : At g v j = subst (λ y. At g y j) e (wired.there x i at_x) in
            let ex : far g v j ≡ x = subst (λ y. far g y j ≡ x) e (wired.back x i at_x) in
            let ei : far_port g v j ≡ i = subst (λ y. far_port g y j ≡ i) e (wired.back_port x i at_x) in
            let ne : j ≢ p = λ z. apart (sym ex ∙ ap (λ y. far g v y) z, sym ei ∙ ap (λ y. far_port g v y) z) in
            subst (λ y. w.queue y i ≡ w'.queue y i) ex
            (subst (λ y. w.queue (far g v j) y ≡ w'.queue (far g v j) y) ei (sent_none (back j) p ChangeRoot j ne ∙ sym (a.far_queue j at_j)))

    token_to : TokensStay ks g w w'
    token_to i x place = token_stays ks g w w' i x place (same_level x)
        (λ j at_j lt. ⊎_elim
        (λ e.
        let some : 0 < passes_in r = subst (λ y. 0 < passes_in (w.queue u y)) e.1 (subst (λ y. 0 < passes_in (w.queue y j)) e.0 lt) in
        absurd (omega (arith, some, none_waits)))
        (λ apart. subst (λ (y : List Message). 0 < passes_in y) (queue_there x j at_j apart) lt)
        (one_place u b x j))
        (λ lv j out. sym (ap (λ (y : Head). y.out) (heads x)) ∙ out)
        (λ lv z. sym (ap (λ (y : Head). y.halted) (heads x)) ∙ z)

    token_from : (i x : ℕ) (place : Place) → IsTokenAt ks g w' i x place →
        IsTokenAt ks g w i x place ⊎ ((i ≡ l) × (x ≡ u) × (place ≡ token.Waits))
    token_from i x _ (In_message j at_j lv lt) = ⊎_elim
        (λ e. inr (sym (subst (λ y. (w.node y).head.level ≡ i) e.0 (same_level x ∙ lv)) ∙ level.0, e.0, refl))
        (λ apart.
        inl (In_message j at_j (same_level x ∙ lv) (subst (λ (y : List Message). 0 < passes_in y) (sym (queue_there x j at_j apart)) lt)))
        (one_place u b x j)
    token_from i x _ (Gone_out j at_j lv out) = inl (Gone_out j at_j (same_level x ∙ lv) (ap (λ (y : Head). y.out) (heads x) ∙ out))
    token_from i x _ (Gone_on c lt chosen end) = inl (Gone_on c (subst (λ y. i < y) (sym (same_level x)) lt) chosen end)
    token_from i x _ (At_end lv halted) = inl (At_end (same_level x ∙ lv) (ap (λ (y : Head). y.halted) (heads x) ∙ halted))

    waits_now : 0 < passes_in (w'.queue u b)
    waits_now = subst (λ (y : List Message). 0 < passes_in y) (sent_here_is ∙ sym (a.far_queue p at)) some
      where
        some : 0 < passes_in (r ++ ChangeRoot ∷ [])
        some = omega (arith, passes_append r (ChangeRoot ∷ []))

    past_to : PastStays w w'
    past_to = past_alike w w' same_level same_phase

    past_from : PastStays w' w
    past_from = past_alike w' w (λ x. sym (same_level x)) (λ x. sym (same_phase x))

    halted : HaltsFit ks g w'
    halted = halts_stay ks g w w' same_level same_phase (λ x z. ap (λ (y : Head). y.halted) (heads x) ∙ z) h.tokens.halted

    -- with the ground, which every event keeps
    pub passes_fits : Ground g w' → Fits ks g w'
    passes_fits ground = record {
      ground = ground;
      nodes = nodes_act ks g w w' v (w.node v) (w.queue v) ss a (λ x y. AwakeFits ks x y) h.nodes (h.nodes v here);
      links = links;
      search = searches_act ks g w w' v (w.node v) (w.queue v) ss a heads as_many_reports h.search (h.search v here);
      lacks = nodes_act ks g w w' v (w.node v) (w.queue v) ss a (λ x y. LacksSome y) h.lacks (h.lacks v here);
      tokens = put_down ks g w w' v l u token.Waits refl h.tokens here_there inside (In_message b at_there (sym (same_level u) ∙ level.0) waits_now)
          token_to token_from past_to past_from halted;
    }
