-- A search ends: with a parent the node reports, and all clauses hold; a root without a way out halts, and all hold; a root with one
-- is about to move.
use Rattle.std.proofs.Common.{◌≡◌, ◌≢◌, ℕ, ◌<◌, inl, inr, ⊎_elim, Bool, true, false, Option, None, Some, [], ◌∷◌, refl, sym, ◌∙◌, ap, subst, arith}
use Rattle.std.proofs.lemmas.Bool.{cases_eq, both_ways}
use Rattle.ghs_graph.specs.declared.key.Key.{Key}
use Rattle.ghs_graph.specs.Graph.{Shape, IsGraph}
use Rattle.ghs_graph.specs.Links.{Same}
use Rattle.ghs_graph.proofs.lemmas.Joining.{joined_back}
use Rattle.boruvka_protocol.specs.Levels.{Taken, InClass, HasWayOut, IsOfLevel}
use Rattle.boruvka_protocol.specs.WaysUp.{IsTop, IsSub}
use Rattle.boruvka_protocol.proofs.lemmas.Computing.{in_class_decided}
use Rattle.boruvka_protocol.proofs.lemmas.WaysOut.{least_out}
use Rattle.boruvka_protocol.proofs.lemmas.WaysUp.{top_inside, top_at, sub_of_top_is_least}
use Rattle.ghs_node.specs.Words.{Best, best_key}
use Rattle.peer_network.specs.Network.{Network, network_of, InNetwork, At, port_at, far}
use Rattle.peer_machine.specs.Rules.{Outgoing}
use Rattle.peer_machine.specs.Net.{Net}
use Rattle.boruvka_node.specs.declared.message.Message.{Message}
use Rattle.boruvka_node.specs.declared.message.Message.TheVariants.{Report}
use Rattle.boruvka_node.specs.declared.message.Phase.TheVariants.{Search, Rest}
use Rattle.boruvka_node.specs.State.{State, degree, key_at, least_basic}
use Rattle.boruvka_node.specs.Reaction.{is_over, own_best, rested, halted}
use Rattle.boruvka_protocol.proofs.invariant.Words.{IsPast, IsLeast, IsRoot, IsWayUp, IsSubAt, HasNoSub, SubIs}
use Rattle.boruvka_protocol.proofs.invariant.Nodes.{ParentIs}
use Rattle.boruvka_protocol.proofs.invariant.Search.{BestIsSub}
use Rattle.boruvka_protocol.proofs.invariant.Token.{Place, Waits, Out, On, Ended, IsTokenAt, In_message, Gone_out, Gone_on, At_end, Token, RootIsPast, TokenFits, HaltFits}
use Rattle.boruvka_protocol.proofs.invariant.Whole.{Ground, Fits, NearlyFits}
use Rattle.boruvka_protocol.proofs.levels.OneWay.{one_root, root_has_none, one_port_up}
use Rattle.boruvka_protocol.proofs.rows.Sends.{sent_on, sent_here, sent_elsewhere}
use Rattle.boruvka_protocol.proofs.rows.Acts.{Acts}
use Rattle.boruvka_protocol.proofs.rows.Late.{search_rest}
use Rattle.boruvka_protocol.proofs.rows.Alike.{SameLevels, SameOuts, SameHalted, PastStays, AsManyPasses}
use Rattle.boruvka_protocol.proofs.rows.Tokens.{root_as, root_stays}
use Rattle.boruvka_protocol.proofs.rows.OwnPorts.{own_key}
use Rattle.boruvka_protocol.proofs.rows.Kept.{variable_act}
use Rattle.boruvka_protocol.proofs.rows.Changed.{token_from, tokens_changed}
use Rattle.boruvka_protocol.proofs.rows.AboutToMove.{AboutToMove}
use Rattle.boruvka_protocol.proofs.rows.ClosingSub.{best_is_sub}
use Rattle.boruvka_protocol.proofs.rows.ClosingNet as net
use Rattle.boruvka_protocol.proofs.rows.ClosingNet.{closed, over_search, over_none, SentOn, Still, Reports}

module _ (gr : Shape) (ok : IsGraph gr) (w : Net State Message) (v : ℕ) (fits : NearlyFits gr.keys (network_of gr) w v)
    (here : InNetwork (network_of gr) v) (over : is_over (w.node v) ≡ true) where
  abbrev g : Network
  g = network_of gr

  abbrev n : State
  n = w.node v

  abbrev l : ℕ
  l = n.head.level

  abbrev key : ℕ → Key
  key p = (port_at g v p).key

  abbrev best : Best
  best = own_best n (least_basic n.ports)

  search : n.head.phase ≡ Search
  search = over_search n over

  goes_on : n.head.halted ≡ false
  goes_on = ((fits.search v here).search search).goes_on

  class : IsOfLevel gr.keys l v
  class = (net.node gr ok w v fits here over).class

  parent : ParentIs gr.keys l v n n.head.parent
  parent = (net.node gr ok w v fits here over).parent

  is_sub : BestIsSub gr.keys g v n (λ p. (w.node (far g v p)).head) (λ p. w.queue v p) best
  is_sub = best_is_sub gr ok w v fits here search (over_none n over)

  top_is : (r s : ℕ) → IsTop gr.keys l v r → IsTop gr.keys l v s → s ≡ r
  top_is r s t x = one_root gr ok l v s r class x t

  -- a root has no way up
  root_no_up : IsRoot gr.keys l v → (k : Key) → IsWayUp gr.keys l v k → ⊥
  root_no_up root k up = root_has_none gr ok l v k class root up

  -- who is the root of a class is one of its nodes, and its own root
  own_root : (u : ℕ) → IsTop gr.keys l u v → IsRoot gr.keys l v
  own_root u t = top_at gr.keys l u v v (top_inside gr.keys l u v t) t

  -- before, no root of v's class had ended its search of this level
  not_past : (u : ℕ) → InClass gr.keys l v u → RootIsPast gr.keys g w l u → IsRoot gr.keys l v → ⊥
  not_past u way r root =
      let t = top_at gr.keys l u v r.root (joined_back way) r.top in
      ⊎_elim (λ lt. omega (arith, lt)) (λ x. search_rest n.head.phase search x.1)
      (subst (λ x. IsPast l (w.node x).head.level (w.node x).head.phase) (top_is v r.root root t) r.past)

  module _ (end : Bool) (w' : Net State Message) (ss : Outgoing Message) (a : Acts g w w' v (closed n end) (w.queue v) ss)
      (sent : (i : ℕ) → At g v i → SentOn gr ok w v fits here over i (sent_on ss i)) where
    levels : SameLevels w w'
    levels = net.levels gr ok w v fits here over end w' ss a sent

    passes : AsManyPasses g w w'
    passes = net.passes gr ok w v fits here over end w' ss a sent

    outs : SameOuts w w'
    outs = variable_act gr.keys g w w' v (closed n end) (w.queue v) ss a (λ x. x.out) refl

    halts : (u : ℕ) → u ≢ v → (w.node u).head.halted ≡ (w'.node u).head.halted
    halts u ne = ap (λ (x : State). x.head.halted) (a.others u ne)

    past_here : (m : ℕ) → IsPast m l n.head.phase → IsPast m l Rest
    past_here m x = ⊎_elim (λ lt. inl lt) (λ y. search_rest n.head.phase search y.1) x

    past_to : PastStays w w'
    past_to m u p = ⊎_elim
        (λ (e : u ≡ v).
        subst (λ y. IsPast m (w'.node y).head.level (w'.node y).head.phase) (sym e)
        (subst (λ (x : State). IsPast m x.head.level x.head.phase) (sym a.node)
        (past_here m (subst (λ y. IsPast m (w.node y).head.level (w.node y).head.phase) e p))))
        (λ ne. subst (λ (x : State). IsPast m x.head.level x.head.phase) (a.others u ne) p)
        (cases_eq u v)

    past_from : (m u : ℕ) → (u ≡ v → m ≡ l → ⊥) → IsPast m (w'.node u).head.level (w'.node u).head.phase →
        IsPast m (w.node u).head.level (w.node u).head.phase
    past_from m u other p = ⊎_elim
        (λ (e : u ≡ v).
        let q = subst (λ (x : State). IsPast m x.head.level x.head.phase) a.node
        (subst (λ y. IsPast m (w'.node y).head.level (w'.node y).head.phase) e p) in
        subst (λ y. IsPast m (w.node y).head.level (w.node y).head.phase) (sym e)
        (⊎_elim (λ lt. inl lt) (λ y. absurd (other e (sym y.0))) q))
        (λ ne. subst (λ (x : State). IsPast m x.head.level x.head.phase) (sym (a.others u ne)) p)
        (cases_eq u v)

    root_to : (m u : ℕ) → RootIsPast gr.keys g w m u → RootIsPast gr.keys g w' m u
    root_to = root_stays gr.keys g w w' past_to

    root_from : (m u : ℕ) → (IsTop gr.keys m u v → m ≡ l → ⊥) → RootIsPast gr.keys g w' m u → RootIsPast gr.keys g w m u
    root_from m u other r = root_as gr.keys g w' w m u r (past_from m r.root (λ e lv. other (subst (λ x. IsTop gr.keys m u x) e r.top) lv) r.past)

    -- the tokens of a class that v isn't the root of at its level
    token_else : (m u : ℕ) → InNetwork g u → IsOfLevel gr.keys m u → (IsTop gr.keys m u v → m ≡ l → ⊥) →
        ((x : ℕ) → InClass gr.keys m u x → ◌≡◌ {A = ℕ} (w.node x).head.level m → (w.node x).head.halted ≡ (w'.node x).head.halted) →
        TokenFits gr.keys g w' m u
    token_else m u at proper other same =
        tokens_changed gr.keys g w w' levels passes m u (λ x way lv. outs x) same (root_to m u) (root_from m u other)
        (fits.tokens.one m u at proper)

    halted_else : (u : ℕ) → InNetwork g u → u ≢ v → (w'.node u).head.halted ≡ true → HaltFits gr.keys g w' u (w'.node u)
    halted_else u at ne h =
        let f = fits.tokens.halted u at (halts u ne ∙ h) in
        subst (λ (x : State). HaltFits gr.keys g w' u x) (a.others u ne) (record { whole = f.whole; root = f.root; rest = f.rest })

    level_now : ◌≡◌ {A = ℕ} (w'.node v).head.level l
    level_now = ap (λ (x : State). x.head.level) a.node

    rest_now : (w'.node v).head.phase ≡ Rest
    rest_now = ap (λ (x : State). x.head.phase) a.node

  -- v goes on unless it halts
  module _ (w' : Net State Message) (ss : Outgoing Message) (a : Acts g w w' v (closed n n.head.halted) (w.queue v) ss) where
    same_halted : SameHalted w w'
    same_halted = variable_act gr.keys g w w' v (closed n n.head.halted) (w.queue v) ss a (λ x. x.halted) refl

    not_halted : (u : ℕ) → (w'.node u).head.halted ≡ true → u ≢ v
    not_halted u h e = both_ways n.head.halted goes_on (subst (λ y. (w.node y).head.halted ≡ true) e (same_halted u ∙ h))

  -- With a parent: it reports.
  module _ (p : ℕ) (has : n.head.parent ≡ Some p) where
    par : (p < degree n) × IsWayUp gr.keys l v (key_at n p)
    par = subst (λ (x : Option ℕ). ParentIs gr.keys l v n x) has parent

    at_p : At g v p
    at_p = record { some = here.some; node = here.node; port = subst (λ x. p < x) (fits.ground.nodes v).ports par.0 }

    up : IsWayUp gr.keys l v (key p)
    up = subst (λ (x : Key). IsWayUp gr.keys l v x) (own_key (fits.ground.nodes v) p at_p) par.1

    no_root : IsRoot gr.keys l v → ⊥
    no_root root = root_no_up root (key p) up

    -- no other port leads up
    only : (i : ℕ) → At g v i → IsWayUp gr.keys l v (key i) → i ≡ p
    only i at x = one_port_up gr ok l v i p class at at_p x up

    sub_is : (b : Best) → BestIsSub gr.keys g v n (λ q. (w.node (far g v q)).head) (λ q. w.queue v q) b → SubIs gr.keys l v (best_key b)
    sub_is None h = h
    sub_is (Some b) h = h.0

    abbrev report : Outgoing Message
    report = (p, Report (best_key best)) ∷ []

    sent_up : (i : ℕ) → At g v i → SentOn gr ok w v fits here over i (sent_on report i)
    sent_up i at = ⊎_elim
        (λ (e : i ≡ p).
        subst (λ y. SentOn gr ok w v fits here over y (sent_on report y)) (sym e)
        (subst (λ x. SentOn gr ok w v fits here over p x) (sym (sent_here (p, Report (best_key best)) [] p refl))
        (Reports (best_key best) up (sub_is best is_sub))))
        (λ ne.
        subst (λ x. SentOn gr ok w v fits here over i x) (sym (sent_elsewhere (p, Report (best_key best)) [] i (λ e. ne (sym e))))
        (Still (λ x. ne (only i at x))))
        (cases_eq i p)

    -- all clauses hold behind it
    pub reports_fits : (w' : Net State Message) → Acts g w w' v (rested n) (w.queue v) ((p, Report (best_key (rested n).head.best)) ∷ []) →
        Ground g w' → Fits gr.keys g w'
    reports_fits w' a ground = record {
      ground = ground;
      nodes = net.nodes gr ok w v fits here over n.head.halted w' report a sent_up;
      links = net.links gr ok w v fits here over n.head.halted w' report a sent_up;
      search = net.searches gr ok w v fits here over n.head.halted w' report a sent_up;
      lacks = net.lacks gr ok w v fits here over n.head.halted w' report a sent_up;
      tokens = record {
        halted = λ u at h. halted_else n.head.halted w' report a sent_up u at (not_halted w' report a u h) h;
        one = λ m u at proper. token_else n.head.halted w' report a sent_up m u at proper
            (λ t lv. no_root (own_root u (subst (λ x. IsTop gr.keys x u v) lv t)))
            (λ x way lv. same_halted w' report a x);
      };
    }

  -- A root: nothing goes out.
  module _ (has : n.head.parent ≡ None) where
    root : IsRoot gr.keys l v
    root = subst (λ (x : Option ℕ). ParentIs gr.keys l v n x) has parent

    nothing_sent : (i : ℕ) → At g v i → SentOn gr ok w v fits here over i []
    nothing_sent i at = Still (root_no_up root (key i))

    -- With a way out it is about to move.
    module _ (b : ℕ × Key) (found : best ≡ Some b) (w' : Net State Message) (a : Acts g w w' v (rested n) (w.queue v) []) where
      sub : IsSubAt gr.keys l v b.1
      sub = (subst (λ (x : Best). BestIsSub gr.keys g v n (λ p. (w.node (far g v p)).head) (λ p. w.queue v p) x) found is_sub).0

      least : IsLeast gr.keys l v b.1
      least = (sub_of_top_is_least gr ok l v v root b.1).0
          (subst (λ x. IsSub gr.keys (Taken gr.keys l) x v b.1) (top_is v sub.root root sub.top) sub.sub)

      now : ◌≡◌ {A = ℕ} (w'.node v).head.level l
      now = level_now n.head.halted w' [] a nothing_sent

      none_yet : Token gr.keys g w' l v → ⊥
      none_yet t = not_past v Same
          ((fits.tokens.one l v here class).none
          (token_from gr.keys g w w' (levels n.head.halted w' [] a nothing_sent) (passes n.head.halted w' [] a nothing_sent) l v
          (λ x way lv. outs n.head.halted w' [] a nothing_sent x) (λ x way lv. same_halted w' [] a x) t))
          root

      pub moves_next : Ground g w' → AboutToMove gr.keys g w' v
      moves_next ground = record {
        ground = ground;
        nodes = net.nodes gr ok w v fits here over n.head.halted w' [] a nothing_sent;
        links = net.links gr ok w v fits here over n.head.halted w' [] a nothing_sent;
        search = net.searches gr ok w v fits here over n.head.halted w' [] a nothing_sent;
        lacks = net.lacks gr ok w v fits here over n.head.halted w' [] a nothing_sent;
        rest = rest_now n.head.halted w' [] a nothing_sent;
        stays = ap (λ (x : State). x.head.out) a.node ∙ net.stays gr ok w v fits here over;
        best = b;
        is = ap (λ (x : State). x.head.best) a.node ∙ found;
        least = subst (λ x. IsLeast gr.keys x v b.1) (sym now) least;
        tokens = record {
          halted = λ u at h. halted_else n.head.halted w' [] a nothing_sent u at (not_halted w' [] a u h) h;
          past = record {
            root = v;
            top = subst (λ x. IsTop gr.keys x v v) (sym now) root;
            past = inr (refl, rest_now n.head.halted w' [] a nothing_sent);
          };
          none = λ t. none_yet (subst (λ x. Token gr.keys g w' x v) now t);
          one = λ m u at proper other. token_else n.head.halted w' [] a nothing_sent m u at proper
              (λ t lv. other (lv ∙ sym now) (joined_back (top_inside gr.keys m u v t)))
              (λ x way lv. same_halted w' [] a x);
        };
      }

    -- Without one it halts.
    module _ (found : best ≡ None) (w' : Net State Message) (a : Acts g w w' v (halted (rested n)) (w.queue v) []) where
      whole : HasWayOut gr.keys l v → ⊥
      whole out =
          let no_sub : HasNoSub gr.keys l v =
          subst (λ (x : Best). BestIsSub gr.keys g v n (λ p. (w.node (far g v p)).head) (λ p. w.queue v p) x) found is_sub in
          let least = least_out gr.keys l v out in
          no_sub v root least.0 ((sub_of_top_is_least gr ok l v v root least.0).1 least.1).is

      at_level : ◌≡◌ {A = ℕ} (w'.node v).head.level l
      at_level = level_now true w' [] a nothing_sent

      at_rest : (w'.node v).head.phase ≡ Rest
      at_rest = rest_now true w' [] a nothing_sent

      ended : (w'.node v).head.halted ≡ true
      ended = ap (λ (x : State). x.head.halted) a.node

      -- v's own class
      module _ (u : ℕ) (at : InNetwork g u) (proper : IsOfLevel gr.keys l u) (way : InClass gr.keys l v u) where
        none_before : Token gr.keys g w l u → ⊥
        none_before t = not_past u way ((fits.tokens.one l u at proper).none t) root

        place_is : (x : ℕ) (place : Place) → InClass gr.keys l u x → InNetwork g x → IsTokenAt gr.keys g w' l x place → (x ≡ v) × (place ≡ Ended)
        place_is x _ inside there (In_message p at_p lv lt) = absurd (none_before (record {
          node = x;
          place = Waits;
          inside = inside;
          in_network = there;
          at = In_message p at_p (levels true w' [] a nothing_sent x ∙ lv) (subst (λ y. 0 < y) (sym (passes true w' [] a nothing_sent x p at_p)) lt);
        }))
        place_is x _ inside there (Gone_out p at_p lv out) = absurd (none_before (record {
          node = x;
          place = Out;
          inside = inside;
          in_network = there;
          at = Gone_out p at_p (levels true w' [] a nothing_sent x ∙ lv) (outs true w' [] a nothing_sent x ∙ out);
        }))
        place_is x _ inside there (Gone_on k lt least end) = absurd (none_before (record {
          node = x;
          place = On;
          inside = inside;
          in_network = there;
          at = Gone_on k (subst (λ y. l < y) (sym (levels true w' [] a nothing_sent x)) lt) least end;
        }))
        place_is x _ inside there (At_end lv h) = ⊎_elim
            (λ e. (e, refl))
            (λ ne. absurd (none_before (record {
              node = x;
              place = Ended;
              inside = inside;
              in_network = there;
              at = At_end (levels true w' [] a nothing_sent x ∙ lv) (halts true w' [] a nothing_sent x ne ∙ h);
            })))
            (cases_eq x v)

        own_token : TokenFits gr.keys g w' l u
        own_token = record {
          some = λ r. record { node = v; place = Ended; inside = joined_back way; in_network = here; at = At_end at_level ended };
          one = λ s t.
              let x = place_is s.node s.place s.inside s.in_network s.at in
              let y = place_is t.node t.place t.inside t.in_network t.at in
              (x.0 ∙ sym y.0, x.1 ∙ sym y.1);
          none = λ t. record { root = v; top = top_at gr.keys l v u v way root; past = inr (at_level, at_rest) };
        }

      other_token : (m u : ℕ) → InNetwork g u → IsOfLevel gr.keys m u → (m ≡ l → InClass gr.keys m v u → ⊥) → TokenFits gr.keys g w' m u
      other_token m u at proper other = token_else true w' [] a nothing_sent m u at proper
          (λ t lv. other lv (joined_back (top_inside gr.keys m u v t)))
          (λ x way lv. ⊎_elim
          (λ (e : x ≡ v). absurd (other
          (sym lv ∙ ap (λ y. (w.node y).head.level) e)
          (joined_back (subst (λ y. InClass gr.keys m u y) e way))))
          (λ ne. halts true w' [] a nothing_sent x ne)
          (cases_eq x v))

      pub halts_fits : Ground g w' → Fits gr.keys g w'
      halts_fits ground = record {
        ground = ground;
        nodes = net.nodes gr ok w v fits here over true w' [] a nothing_sent;
        links = net.links gr ok w v fits here over true w' [] a nothing_sent;
        search = net.searches gr ok w v fits here over true w' [] a nothing_sent;
        lacks = net.lacks gr ok w v fits here over true w' [] a nothing_sent;
        tokens = record {
          halted = λ u at h. ⊎_elim
              (λ (e : u ≡ v).
              subst (λ y. HaltFits gr.keys g w' y (w'.node y)) (sym e)
              (subst (λ (x : State). HaltFits gr.keys g w' v x) (sym a.node) (record { whole = whole; root = root; rest = refl })))
              (λ ne. halted_else true w' [] a nothing_sent u at ne h)
              (cases_eq u v);
          one = λ m u at proper. ⊎_elim
              (λ (e : m ≡ l). ⊎_elim
              (λ way.
              subst (λ x. TokenFits gr.keys g w' x u) (sym e) (own_token u at (subst (λ x. IsOfLevel gr.keys x u) e proper) way))
              (λ away. other_token m u at proper (λ lv way. away (subst (λ x. InClass gr.keys x v u) lv way)))
              (in_class_decided gr.keys l v u))
              (λ ne. other_token m u at proper (λ lv way. ne lv))
              (cases_eq m l);
        };
      }
