-- A node at rest with the token in hand goes out over its class's least way out: what it finds there, and that all links fit behind it.
use Rattle.std.proofs.Common.{◌≡◌, ◌≢◌, ◌⊎◌, ℕ, suc, ◌<◌, ◌≤◌, inl, inr, ⊎_elim, true, Some, None, List, [], ◌∷◌, ◌++◌, refl, sym, ◌∙◌, ap, subst, arith}
use Rattle.std.proofs.lemmas.Bool.{cases_eq}
use Rattle.std.proofs.lemmas.Option.{same_Some}
use Rattle.ghs_graph.specs.declared.key.Key.{Key}
use Rattle.ghs_graph.specs.Graph.{Shape, IsGraph}
use Rattle.ghs_graph.specs.Links.{Same}
use Rattle.boruvka_protocol.specs.Levels.{Taken}
use Rattle.boruvka_protocol.proofs.lemmas.WaysOut.{next_of_level}
use Rattle.peer_network.specs.Network.{Network, network_of, port_at, At, InNetwork, far, far_port}
use Rattle.peer_network.proofs.lemmas.Wired.{IsWired}
use Rattle.peer_network.proofs.lemmas.Graphs.{graph_wired, port_ends}
use Rattle.peer_network.proofs.lemmas.Wires.{at_in}
use Rattle.peer_machine.specs.Net.{Net}
use Rattle.boruvka_node.specs.declared.mark.Mark.TheVariants.{Asked, Branch}
use Rattle.boruvka_node.specs.declared.message.Message.{Message}
use Rattle.boruvka_node.specs.declared.message.Message.TheVariants.{Connect}
use Rattle.boruvka_node.specs.declared.message.Phase.TheVariants.{Rest}
use Rattle.boruvka_node.specs.Words.{is_basic}
use Rattle.boruvka_node.specs.State.{State, mark_at}
use Rattle.boruvka_protocol.proofs.invariant.Words.{IsLeast, IsWayUp}
use Rattle.boruvka_protocol.proofs.invariant.Sides.{Side, AtPort, at_port, side_of, far_side_of, calls_in, connects_in, initiates_in, reports_in, passes_in}
use Rattle.boruvka_protocol.proofs.invariant.Children.{ChildrenFit}
use Rattle.boruvka_protocol.proofs.rows.EntersDown.{EndFits}
use Rattle.boruvka_protocol.proofs.invariant.Connects.{HasAsked, Waits, Has_begun, Finds, ConnectFits, Answered, Comes}
use Rattle.boruvka_protocol.proofs.invariant.TreeMessages as tree
use Rattle.boruvka_protocol.proofs.invariant.TreeMessages.{CallsFit}
use Rattle.boruvka_protocol.proofs.invariant.Token.{Token, In_message}
use Rattle.boruvka_protocol.proofs.invariant.Token as token
use Rattle.boruvka_protocol.proofs.invariant.Whole.{LinkFits, LinkIn, LinksFit}
use Rattle.boruvka_protocol.proofs.levels.UpOnce.{up_of_either}
use Rattle.boruvka_protocol.proofs.rows.Table.{gone}
use Rattle.boruvka_protocol.proofs.rows.Sends.{sent_on, sent_one, sent_none}
use Rattle.boruvka_protocol.proofs.rows.Queues.{passes_called, calls_append, names_before}
use Rattle.boruvka_protocol.proofs.rows.Acts.{Acts, fits_like, far_link, now_near, link_by, links_act}
use Rattle.boruvka_protocol.proofs.rows.Parts.{none_by, calls_far}
use Rattle.boruvka_protocol.proofs.rows.Leaving.{AreEnds, not_taken}
use Rattle.boruvka_protocol.proofs.rows.Noted.{basic_no_branch}
use Rattle.boruvka_protocol.proofs.rows.Gone.{gone_at, none_some, gone_end, gone_children, gone_near, gone_away}

module _ (ks : List Key) where
  -- over which link an Initiate comes that waits
  pub called_over : (e f : Side) (x : List Message) → CallsFit ks e f x → ◌≡◌ {A = ℕ} (initiates_in x) 1 →
      (Taken ks e.level e.key ⊎ (e.out ≡ Some e.port)) × (e.phase ≡ Rest)
  called_over e f _ tree.Nothing one = absurd (omega (arith, one))
  called_over e f _ (tree.Chosen k c) one = absurd (omega (arith, one))
  called_over e f _ (tree.Called k name d) one = (d.over, d.rest)
  called_over e f _ (tree.Chosen_called j k name c d) one = (d.over, d.rest)
  called_over e f _ (tree.Reported k d) one = absurd (omega (arith, one))
  called_over e f _ (tree.Passed d) one = absurd (omega (arith, one))

module _ (gr : Shape) (ok : IsGraph gr) (w : Net State Message) (v p : ℕ) (at : At (network_of gr) v p)
    (links : LinksFit gr.keys (network_of gr) w) (rest : (w.node v).head.phase ≡ Rest) (stays : (w.node v).head.out ≡ None)
    (basic : is_basic (mark_at (w.node v) p) ≡ true)
    (least : IsLeast gr.keys (w.node v).head.level v (port_at (network_of gr) v p).key)
    (none : Token gr.keys (network_of gr) w (w.node v).head.level v → ⊥) where
  abbrev g : Network
  g = network_of gr

  abbrev ks : List Key
  ks = gr.keys

  pub wired : IsWired g
  wired = graph_wired gr ok

  abbrev l : ℕ
  l = (w.node v).head.level

  abbrev u : ℕ
  u = far g v p

  abbrev b : ℕ
  b = far_port g v p

  abbrev k : Key
  k = (port_at g v p).key

  abbrev n : AtPort
  n = at_port (w.node v) p

  abbrev m : AtPort
  m = at_port (w.node u) b

  abbrev q : List Message
  q = w.queue v p

  abbrev r : List Message
  r = w.queue u b

  pub here_v : InNetwork g v
  here_v = at_in at

  ends : AreEnds v u k
  ends = port_ends gr ok v p at

  here : LinkFits ks g v p n m q r
  here = links v p at

  there : LinkFits ks g u b m n r q
  there = far_link g wired ks w links v p at

  abbrev s : Side
  s = side_of g u b m

  abbrev t : Side
  t = far_side_of g u b n

  abbrev t' : Side
  t' = far_side_of g u b (gone_at p n)

  same_node : t.node ≡ v
  same_node = wired.back v p at

  same_port : t.port ≡ p
  same_port = wired.back_port v p at

  same_key : s.key ≡ k
  same_key = wired.same_key v p at

  untaken : {P : Type 0} → Taken ks l k → P
  untaken x = absurd (not_taken v k least.leaves x)

  no_branch : {P : Type 0} → n.port.mark ≡ Branch → P
  no_branch x = basic_no_branch n.port.mark basic x

  -- v has chosen nobody at the far end yet
  none_asked : {P : Type 0} (i : ℕ) → HasAsked ks i s t → P
  none_asked i (Waits lv o) = none_some t.port stays o
  none_asked i (Has_begun lv lt less mark) = no_branch mark

  not_asked : m.port.mark ≢ Asked
  not_asked x = none_asked m.head.level (there.connects.asked x).sender

  -- what waits at the far end: nothing but Names
  empty : calls_in r ≡ []
  empty = none_by ks s t (λ i c. none_asked i c.chosen.sender) (λ i name d. no_branch d.sender_mark)
      (λ x d. untaken (subst (λ y. Taken ks y k) (sym d.sender_level) (subst (λ y. Taken ks m.head.level y) same_key d.up.up.link)))
      (λ d. no_branch (there.children.parent d.up).far_mark) (calls_in r) there.calls

  alone : calls_in (r ++ Connect l ∷ []) ≡ Connect l ∷ []
  alone = calls_append r (Connect l ∷ []) ∙ ap (λ (x : List Message). x ++ Connect l ∷ []) empty

  -- the far end is of v's level, or one above it
  levels : (l ≤ m.head.level) × (m.head.level ≤ suc l)
  levels = (
    ⊎_elim
        (λ (z : l ≡ 0). omega (arith, z))
        (λ ne. let a = here.names.rest rest (omega (arith, ne)) basic in let c = here.names.all.at_most in omega (arith, a, c))
        (cases_eq l 0),
    (here.names.near basic).0,
  )

  taken : Taken ks (suc l) k
  taken = inr (v, least)

  -- where it is above, the link isn't Branch there: it would be the parent, or have called v
  not_branch : suc l ≡ m.head.level → m.port.mark ≢ Branch
  not_branch up x = ⊎_elim
      (λ up_v.
      let c = there.children.child (subst (λ y. IsWayUp ks y t.node s.key) up (subst (λ y. IsWayUp ks (suc l) y s.key) (sym same_node)
      (subst (λ y. IsWayUp ks (suc l) v y) (sym same_key) up_v))) in
      let d = called_over ks (side_of g v p n) (far_side_of g v p m) (calls_in q) here.calls ((c.behind up).called x) in
      ⊎_elim (λ y. untaken y) (λ o. none_some p stays o) d.0)
      (λ up_u.
      no_branch (there.children.parent (subst (λ y. IsWayUp ks y u s.key) up (subst (λ y. IsWayUp ks (suc l) u y) (sym same_key) up_u))).far_mark)
      (up_of_either gr ok (suc l) v u k (next_of_level ks l v (k, least.link, least.leaves)) ends taken)

  finds : Finds ks l s
  finds = ⊎_elim
      (λ (e : l ≡ m.head.level). inl e)
      (λ ne.
      let up : suc l ≡ m.head.level = let a = levels.0 in let c = levels.1 in omega (arith, ne, a, c) in
      let late = there.marks.late l (sym up) (subst (λ y. Taken ks y s.key) up (subst (λ y. Taken ks (suc l) y) (sym same_key) taken))
      (not_branch up) in
      inr (up, late.search, late.basic))
      (cases_eq l m.head.level)

  comes : ConnectFits ks l s t'
  comes = record {
    chosen = record {
      least = subst (λ y. IsLeast ks l y s.key) (sym same_node) (subst (λ y. IsLeast ks l v y) (sym same_key) least);
      past = inr (refl, rest);
      sender = Waits refl (ap (λ y. Some y) (sym same_port));
    };
    finds = finds;
  }

  away_out : LinkFits ks g u b m (gone_at p n) (r ++ Connect l ∷ []) q
  away_out = gone_away ks g p u b m n stays r (r ++ Connect l ∷ []) q there (sym (names_before r (Connect l ∷ []) refl))
      (ap (λ y. initiates_in y) empty ∙ sym (ap (λ y. initiates_in y) alone))
      (ap (λ y. reports_in y) empty ∙ sym (ap (λ y. reports_in y) alone))
      (λ c. (λ o. ap (λ y. connects_in y) alone, λ one. ap (λ y. Some y) (sym same_port)))
      (subst (λ x. CallsFit ks s t' x) (sym alone) (tree.Chosen l comes))

  -- no ChangeRoot waits at v
  no_pass : (i : ℕ) → At g v i → ◌≡◌ {A = ℕ} (passes_in (calls_in (w.queue v i))) 0
  no_pass i at_i = ⊎_elim
      (λ (e : passes_in (w.queue v i) ≡ 0). passes_called (w.queue v i) ∙ e)
      (λ ne. absurd (none (record {
        node = v;
        place = token.Waits;
        inside = Same;
        in_network = here_v;
        at = In_message i at_i refl (omega (arith, ne));
      })))
      (cases_eq (passes_in (w.queue v i)) 0)

  -- what v has gone out with, but for who is the greater end of a core
  pub out_answered : Answered ks (side_of g v p (gone_at p n)) (far_side_of g v p m) (calls_in q) (calls_in (r ++ Connect l ∷ []))
  out_answered = Comes (ap (λ y. connects_in y) alone) not_asked

  near_out : (n.port.mark ≡ Asked → u < v) → LinkFits ks g v p (gone_at p n) m q (r ++ Connect l ∷ [])
  near_out greater = gone_near ks g p v p n m stays q r (r ++ Connect l ∷ []) here (no_pass p at)
      (ap (λ y. initiates_in y) empty ∙ sym (ap (λ y. initiates_in y) alone))
      (λ o. record { least = least; rest = rest; basic = basic; answer = out_answered; greater = greater })

  -- v's end of the link, but for what became of the Connect
  pub core_end : EndFits ks g v p (gone_at p n) m q
  core_end = gone_end ks g p v p n m stays q r (r ++ Connect l ∷ []) here (no_pass p at)
      (ap (λ y. initiates_in y) empty ∙ sym (ap (λ y. initiates_in y) alone))

  pub core_children : ChildrenFit ks (side_of g v p (gone_at p n)) (far_side_of g v p m) (calls_in q) (calls_in (r ++ Connect l ∷ []))
  core_children = gone_children ks g p v p n m stays q r (r ++ Connect l ∷ []) here (no_pass p at)
      (ap (λ y. initiates_in y) empty ∙ sym (ap (λ y. initiates_in y) alone))

  -- The other links.
  module _ (i : ℕ) (at_i : At g v i) (ne : i ≢ p) where
    other_near : LinkFits ks g v i (gone_at p (at_port (w.node v) i)) (at_port (w.node (far g v i)) (far_port g v i)) (w.queue v i)
        (w.queue (far g v i) (far_port g v i))
    other_near = gone_near ks g p v i (at_port (w.node v) i) (at_port (w.node (far g v i)) (far_port g v i)) stays (w.queue v i)
        (w.queue (far g v i) (far_port g v i)) (w.queue (far g v i) (far_port g v i)) (links v i at_i) (no_pass i at_i) refl
        (λ o. absurd (ne (sym (same_Some p i o))))

    other_away : LinkFits ks g (far g v i) (far_port g v i) (at_port (w.node (far g v i)) (far_port g v i)) (gone_at p (at_port (w.node v) i))
        (w.queue (far g v i) (far_port g v i)) (w.queue v i)
    other_away =
        let x = far g v i in
        let y = far_port g v i in
        let h = far_link g wired ks w links v i at_i in
        gone_away ks g p x y (at_port (w.node x) y) (at_port (w.node v) i) stays (w.queue x y) (w.queue x y) (w.queue v i) h refl refl refl
        (λ c. (
          λ o. absurd (ne (sym (wired.back_port v i at_i) ∙ sym (same_Some p (far_port g x y) o))),
          λ one. none_some (far_port g x y) stays (c.1 one),
        ))
        (calls_far ks g x y (at_port (w.node v) i) (at_port (w.node v) i).port (Some p) (side_of g x y (at_port (w.node x) y))
        (λ o. none_some (far_port g x y) stays o) (λ z. z) (calls_in (w.queue x y)) h.calls)

  module _ (w' : Net State Message) (a : Acts g w w' v (gone (w.node v) p) (w.queue v) ((p, Connect l) ∷ [])) where
    -- what waited at the far end of port i, and what waits there now
    abbrev back : ℕ → List Message
    back i = w.queue (far g v i) (far_port g v i)

    abbrev sent : ℕ → List Message
    sent i = back i ++ sent_on ((p, Connect l) ∷ []) i

    sent_here_is : r ++ Connect l ∷ [] ≡ sent p
    sent_here_is = sent_one r p (Connect l)

    abbrev Near : ℕ → Type 0
    Near i = LinkFits ks g v i (at_port (gone (w.node v) p) i) (at_port (w.node (far g v i)) (far_port g v i)) (w.queue v i) (sent i)

    abbrev Away : ℕ → Type 0
    Away i = LinkFits ks g (far g v i) (far_port g v i) (at_port (w.node (far g v i)) (far_port g v i)) (at_port (gone (w.node v) p) i) (sent i)
        (w.queue v i)

    away_now : (i : ℕ) → At g v i → Away i
    away_now i at_i = ⊎_elim
        (λ (e : i ≡ p). subst (λ y. Away y) (sym e) (fits_like g wired ks refl refl sent_here_is refl away_out))
        (λ ne. fits_like g wired ks refl refl (sent_none (back i) p (Connect l) i ne) refl (other_away i at_i ne))
        (cases_eq i p)

    pub out_links : (n.port.mark ≡ Asked → u < v) → LinksFit ks g w'
    out_links greater = links_act g wired ks w w' v (gone (w.node v) p) (w.queue v) ((p, Connect l) ∷ []) a here_v links
        (λ i at_i. ⊎_elim
        (λ (e : i ≡ p). subst (λ y. Near y) (sym e) (fits_like g wired ks refl refl refl sent_here_is (near_out greater)))
        (λ ne. fits_like g wired ks refl refl refl (sent_none (back i) p (Connect l) i ne) (other_near i at_i ne))
        (cases_eq i p))
        away_now

    -- Behind the act, all links from other nodes, and from v at its other ports.

    pub out_links_there : (y i : ℕ) → At g y i → y ≢ v → LinkIn ks g w' y i
    out_links_there y i at_y apart = link_by g wired ks w w' v (gone (w.node v) p) (w.queue v) ((p, Connect l) ∷ []) a here_v
        (λ x j at_x ne fne. links x j at_x) away_now y i at_y (λ e. absurd (apart e))

    pub out_links_near : (i : ℕ) → At g v i → i ≢ p → LinkIn ks g w' v i
    out_links_near i at_i ne = now_near g wired ks w w' v (gone (w.node v) p) (w.queue v) ((p, Connect l) ∷ []) a here_v i at_i
        (fits_like g wired ks refl refl refl (sent_none (back i) p (Connect l) i ne) (other_near i at_i ne))
