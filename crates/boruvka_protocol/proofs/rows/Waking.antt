-- A sleeper wakes: behind it all clauses hold.
use Rattle.std.proofs.Common.{◌≡◌, ℕ, ◌<◌, inr, ⊎_elim, true, List, [], ◌∷◌, length, refl, sym, ◌∙◌, ap, subst, arith, append-nil}
use Rattle.std.proofs.lemmas.Bool.{cases_eq}
use Rattle.std.proofs.lemmas.List.{get_or-replicate}
use Rattle.std.proofs.lemmas.Option.{same_Some}
use Rattle.ghs_graph.specs.declared.key.Key.{Key}
use Rattle.ghs_graph.specs.Graph.{Shape, IsGraph}
use Rattle.ghs_graph.specs.Links.{Same}
use Rattle.boruvka_protocol.specs.Levels.{Taken, HasWayOut, InClass}
use Rattle.boruvka_protocol.specs.WaysUp.{IsTop}
use Rattle.boruvka_protocol.proofs.lemmas.FirstPorts.{first_port_is_least}
use Rattle.peer_network.specs.Network.{Network, network_of, port_at, At, InNetwork, far, far_port}
use Rattle.peer_network.proofs.lemmas.Wired.{IsWired}
use Rattle.peer_network.proofs.lemmas.Graphs.{graph_wired, has_port}
use Rattle.peer_machine.specs.Net.{Net, put}
use Rattle.peer_network.proofs.lemmas.Updates.{put_same}
use Rattle.boruvka_node.specs.declared.head.Head.{Head}
use Rattle.boruvka_node.specs.declared.mark.Mark.{Mark}
use Rattle.boruvka_node.specs.declared.mark.Mark.TheVariants.{Basic}
use Rattle.boruvka_node.specs.Words.{is_basic}
use Rattle.boruvka_node.specs.declared.message.Message.{Message}
use Rattle.boruvka_node.specs.declared.message.Message.TheVariants.{Connect}
use Rattle.boruvka_node.specs.declared.message.Phase.TheVariants.{Sleeping, Rest}
use Rattle.boruvka_node.specs.declared.port_state.PortState.{PortState}
use Rattle.boruvka_node.specs.State as state
use Rattle.boruvka_node.specs.State.{State, sleeper, fresh_port, no_port, mark_at, degree}
use Rattle.boruvka_node.specs.Reaction.{woken}
use Rattle.boruvka_protocol.proofs.invariant.Words.{IsPast, IsLeast, IsRoot}
use Rattle.boruvka_protocol.proofs.invariant.Sides.{AtPort, at_port}
use Rattle.boruvka_protocol.proofs.invariant.Nodes.{NodeFits, AwakeFits}
use Rattle.boruvka_protocol.proofs.invariant.Search.{LacksSome, SearchFits}
use Rattle.boruvka_protocol.proofs.invariant.Token.{Token, RootIsPast, TokenFits}
use Rattle.boruvka_protocol.proofs.invariant.Whole.{LinksFit, Ground, Fits}
use Rattle.boruvka_protocol.proofs.Unlike.{rest_is_search, sleeping_is_rest, basic_is_asked}
use Rattle.boruvka_protocol.proofs.rows.Table.{gone, still}
use Rattle.boruvka_protocol.proofs.rows.Acts.{Acts, acts_woken, fits_like, far_link, links_act}
use Rattle.boruvka_protocol.proofs.rows.Alike.{SameLevels, PastStays}
use Rattle.boruvka_protocol.proofs.rows.Tokens.{TokensStay, token_stays, tokens_stay, root_as, root_stays}
use Rattle.boruvka_protocol.proofs.rows.Searches.{search_by}
use Rattle.boruvka_protocol.proofs.rows.Others.{nodes_act}
use Rattle.boruvka_protocol.proofs.rows.Kept.{variable_act}
use Rattle.boruvka_protocol.proofs.rows.AboutToMove.{TokensBut}
use Rattle.boruvka_protocol.proofs.rows.Holding.{Holding, acts_then, out_fits}
use Rattle.boruvka_protocol.proofs.rows.Woken.{asleep_at, woken_at, asleep_past, woken_near, woken_away}

module _ (gr : Shape) (ok : IsGraph gr) (w : Net State Message) (v : ℕ) (here : InNetwork (network_of gr) v) (fits : Fits gr.keys (network_of gr) w)
    (asleep : (w.node v).head.phase ≡ Sleeping) where
  abbrev g : Network
  g = network_of gr

  abbrev ks : List Key
  ks = gr.keys

  wired : IsWired g
  wired = graph_wired gr ok

  abbrev n : State
  n = sleeper v (g.ports v)

  is_sleeper : w.node v ≡ n
  is_sleeper = fits.ground.untouched v asleep

  -- the net in which v has woken, and has sent nothing yet
  abbrev pub woken_net : Net State Message
  woken_net = record w { node = put w.node v (woken n) }

  pub woken_acts : Acts g w woken_net v (woken n) (w.queue v) []
  woken_acts = acts_woken g wired w v (still (woken n))

  pub woken_is : woken_net.node v ≡ woken n
  woken_is = put_same w.node v (woken n)

  fresh : (i : ℕ) → At g v i → state.port_at n i ≡ fresh_port
  fresh i at = get_or-replicate (length (g.ports v)) i fresh_port no_port at.port

  here_before : (i : ℕ) → At g v i → at_port (w.node v) i ≡ asleep_at
  here_before i at =
      ap (λ (x : State). at_port x i) is_sleeper
      ∙ ap (λ (x : PortState). let y : AtPort = record { port = x; head = n.head } in y) (fresh i at)

  here_now : (i : ℕ) → At g v i → at_port (woken n) i ≡ woken_at
  here_now i at = ap (λ (x : PortState). let y : AtPort = record { port = x; head = (woken n).head } in y) (fresh i at)

  mid_links : LinksFit ks g woken_net
  mid_links = links_act g wired ks w woken_net v (woken n) (w.queue v) [] woken_acts here fits.links
      (λ i at. fits_like g wired ks (sym (here_now i at)) refl refl (sym (append-nil _))
      (woken_near ks g v i (at_port (w.node (far g v i)) (far_port g v i)) (w.queue v i) (w.queue (far g v i) (far_port g v i))
      (fits_like g wired ks (here_before i at) refl refl refl (fits.links v i at))))
      (λ i at. fits_like g wired ks refl (sym (here_now i at)) (sym (append-nil _)) refl
      (woken_away ks g (far g v i) (far_port g v i) (at_port (w.node (far g v i)) (far_port g v i)) (w.queue (far g v i) (far_port g v i))
      (w.queue v i)
      (fits_like g wired ks refl (here_before i at) refl refl (far_link g wired ks w fits.links v i at))))

  -- a variable that waking leaves
  same_at : {A : Type 0} (f : Head → A) → f (woken n).head ≡ f n.head → (u : ℕ) → f (w.node u).head ≡ f (woken_net.node u).head
  same_at f e =
      variable_act ks g w woken_net v (woken n) (w.queue v) [] woken_acts f (ap (λ (z : State). f z.head) is_sleeper ∙ sym e)

  same_level : SameLevels w woken_net
  same_level = same_at (λ x. x.level) refl

  pub woken_level : ◌≡◌ {A = ℕ} (woken_net.node v).head.level 0
  woken_level = ap (λ (x : State). x.head.level) woken_is

  level_before : ◌≡◌ {A = ℕ} (w.node v).head.level 0
  level_before = ap (λ (x : State). x.head.level) is_sleeper

  never_past : {P : Type 0} (m : ℕ) → IsPast m (w.node v).head.level (w.node v).head.phase → P
  never_past m h = asleep_past m (subst (λ x. IsPast m x Sleeping) level_before (subst (λ x. IsPast m (w.node v).head.level x) asleep h))

  -- who was past a level is so, and at levels above 0 nobody else
  past_to : PastStays w woken_net
  past_to m u h = ⊎_elim
      (λ (e : u ≡ v). never_past m (subst (λ y. IsPast m (w.node y).head.level (w.node y).head.phase) e h))
      (λ ne. subst (λ (x : State). IsPast m x.head.level x.head.phase) (woken_acts.others u ne) h)
      (cases_eq u v)

  past_from : (m u : ℕ) → ((m ≡ 0) × (u ≡ v) → ⊥) → IsPast m (woken_net.node u).head.level (woken_net.node u).head.phase →
      IsPast m (w.node u).head.level (w.node u).head.phase
  past_from m u apart h = ⊎_elim
      (λ (e : u ≡ v). absurd (⊎_elim
      (λ lt. below (subst (λ y. m < (woken_net.node y).head.level) e lt))
      (λ z. apart (sym z.0 ∙ subst (λ y. ◌≡◌ {A = ℕ} (woken_net.node y).head.level 0) (sym e) woken_level, e))
      h))
      (λ ne. subst (λ (x : State). IsPast m x.head.level x.head.phase) (sym (woken_acts.others u ne)) h)
      (cases_eq u v)
    where
      below : m < (woken_net.node v).head.level → ⊥
      below lt = omega (arith, lt, woken_level)

  token_to : TokensStay ks g w woken_net
  token_to m x place = token_stays ks g w woken_net m x place (same_level x) (λ q at lt. lt)
      (λ lv q out. sym (same_at (λ y. y.out) refl x) ∙ out)
      (λ lv halted. sym (same_at (λ y. y.halted) refl x) ∙ halted)

  token_from : TokensStay ks g woken_net w
  token_from m x place = token_stays ks g woken_net w m x place (sym (same_level x)) (λ q at lt. lt)
      (λ lv q out. same_at (λ y. y.out) refl x ∙ out)
      (λ lv halted. same_at (λ y. y.halted) refl x ∙ halted)

  from : (m u : ℕ) → Token ks g woken_net m u → Token ks g w m u
  from = tokens_stay ks g woken_net w token_from

  -- v by itself is the class of level 0 whose token it holds
  nowhere : Token ks g w 0 v → ⊥
  nowhere t =
      let r = (fits.tokens.one 0 v here tt).none t in
      never_past 0 (subst (λ y. IsPast 0 (w.node y).head.level (w.node y).head.phase) r.top r.past)

  other : (m u : ℕ) → (m ≡ 0 → InClass ks m v u → ⊥) → TokenFits ks g w m u → TokenFits ks g woken_net m u
  unfolding from tokens_stay
  other m u apart f = record {
    some = λ r. tokens_stay ks g w woken_net token_to m u
        (f.some (root_as ks g woken_net w m u r (past_from m r.root (λ z. away r z.0 z.1) r.past)));
    one = λ s t. f.one (from m u s) (from m u t);
    none = λ t. root_stays ks g w woken_net past_to m u (f.none (from m u t));
  }
    where
      away : (r : RootIsPast ks g woken_net m u) → m ≡ 0 → r.root ≡ v → ⊥
      away r z e =
          let own : v ≡ u = sym e ∙ subst (λ x. IsTop ks x u r.root) z r.top in
          apart z (subst (λ x. InClass ks m v x) own Same)

  mid_tokens : TokensBut ks g woken_net v
  mid_tokens = record {
    halted = λ u at x.
        let f = fits.tokens.halted u at (same_at (λ y. y.halted) refl u ∙ x) in
        record {
          whole = λ o. f.whole (subst (λ y. HasWayOut ks y u) (sym (same_level u)) o);
          root = subst (λ y. IsRoot ks y u) (same_level u) f.root;
          rest = ⊎_elim
              (λ (e : u ≡ v). sleeping_is_rest (sym asleep ∙ subst (λ y. (w.node y).head.phase ≡ Rest) e f.rest))
              (λ ne. sym (ap (λ (y : State). y.head.phase) (woken_acts.others u ne)) ∙ f.rest)
              (cases_eq u v);
        };
    past = subst (λ x. RootIsPast ks g woken_net x v) (sym woken_level)
        (record { root = v; top = refl; past = inr (woken_level, ap (λ (x : State). x.head.phase) woken_is) });
    none = λ t. nowhere (from 0 v (subst (λ x. Token ks g woken_net x v) woken_level t));
    one = λ m u at proper apart. other m u (λ z. apart (z ∙ sym woken_level)) (fits.tokens.one m u at proper);
  }

  pub woken_holding : Ground g woken_net → Holding ks g woken_net v
  woken_holding ground = record {
    ground = ground;
    others = λ u at ne. subst (λ x. AwakeFits ks u x) (woken_acts.others u ne) (fits.nodes u at);
    links = mid_links;
    search = searches;
    lacks = nodes_act ks g w woken_net v (woken n) (w.queue v) [] woken_acts (λ y x. LacksSome x) fits.lacks (λ s. rest_is_search s);
    rest = ap (λ (x : State). x.head.phase) woken_is;
    stays = ap (λ (x : State). x.head.out) woken_is;
    tokens = mid_tokens;
  }
    where
      searches : (u : ℕ) → InNetwork g u → SearchFits ks g u (woken_net.node u) (λ q. (woken_net.node (far g u q)).head) (λ q. woken_net.queue u q)
      searches u at_u = search_by ks g u (woken_net.node u) (λ q. (w.node (far g u q)).head) (λ q. (woken_net.node (far g u q)).head)
          (λ q. w.queue u q)
          (λ q. woken_net.queue u q)
          (λ q c r. record { past = past_to _ (far g u q) r.past; heard = λ x. r.heard (same_level (far g u q) ∙ x) })
          (λ q c r. record {
            past = past_from _ (far g u q) (λ z. subst (λ x. Taken ks x (port_at g u q).key) z.0 c.child.up.link) r.past;
            heard = λ x. r.heard (sym (same_level (far g u q)) ∙ x);
          })
          (nodes_act ks g w woken_net v (woken n) (w.queue v) [] woken_acts
          (λ y x. SearchFits ks g y x (λ q. (w.node (far g y q)).head) (λ q. w.queue y q)) fits.search
          (record { search = λ s. rest_is_search s; rest = λ r lo. absurd (omega (arith, lo)) }) u at_u)

  -- With ports it goes out over the first one.
  module _ (some : 0 < degree (w.node v)) where
    at_first : At g v 0
    at_first = record { some = here.some; node = here.node; port = subst (λ x. 0 < x) (fits.ground.nodes v).ports some }

    first_least : IsLeast ks 0 v (port_at g v 0).key
    first_least = first_port_is_least gr ok v (port_at g v 0) (has_port gr ok v 0 at_first)

    out_node : NodeFits ks v (gone (woken n) 0)
    out_node = record {
      class = tt;
      name = refl;
      parent = refl;
      ground = λ z. record { rest = refl; best = refl; alone = λ x. absurd (omega (arith, x, many)); out = λ lt. refl };
      out_port = λ i e. subst (λ x. x < degree n) (same_Some 0 i e) many;
    }
      where
        many : 0 < degree n
        many = subst (λ (x : State). 0 < degree x) is_sleeper some

    pub wakes_fits : (w' : Net State Message) → Acts g w w' v (gone (woken n) 0) (w.queue v) ((0, Connect 0) ∷ []) →
        Ground g woken_net → Ground g w' → Fits ks g w'
    wakes_fits w' a ground ground' = out_fits gr ok woken_net w' v 0 at_first (woken_holding ground) basic
        (subst (λ x. IsLeast ks x v (port_at g v 0).key) (sym woken_level) first_least)
        (subst (λ (x : State). Acts g woken_net w' v (gone x 0) (w.queue v) ((0, Connect x.head.level) ∷ [])) (sym woken_is)
        (acts_then g w woken_net w' v (woken n) (gone (woken n) 0) (w.queue v) ((0, Connect 0) ∷ []) woken_acts a))
        (subst (λ (x : State). NodeFits ks v (gone x 0)) (sym woken_is) out_node)
        (λ e. basic_is_asked (sym mark ∙ e)) ground'
      where
        mark : mark_at (woken_net.node v) 0 ≡ Basic
        mark = ap (λ (x : State). mark_at x 0) woken_is ∙ ap (λ (x : PortState). x.mark) (fresh 0 at_first)

        basic : is_basic (mark_at (woken_net.node v) 0) ≡ true
        basic = ap (λ (x : Mark). is_basic x) mark
