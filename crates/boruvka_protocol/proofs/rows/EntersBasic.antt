-- A node enters the next level: what that keeps at a link that it hasn't joined and that isn't known to lie inside, from both its ends.
use Rattle.std.proofs.Common.{◌≡◌, ◌≢◌, ℕ, zero, suc, ◌+◌, ◌≤◌, inl, inr, ⊎_elim, true, false, Option, Some, List, [], ◌∷◌, ◌++◌, length, refl, sym, ◌∙◌, ap, subst, arith}
use Rattle.std.proofs.lemmas.Bool.{cases_eq}
use Rattle.std.proofs.lemmas.Option.{same_Some}
use Rattle.ghs_graph.specs.declared.key.Key.{Key}
use Rattle.ghs_graph.specs.Graph.{Shape, IsGraph}
use Rattle.ghs_graph.specs.Links.{InTree}
use Rattle.ghs_graph.proofs.lemmas.Joining.{joined_then, joined_back, joined_by_none}
use Rattle.boruvka_protocol.specs.Levels.{Taken, InClass, IsOfLevel}
use Rattle.boruvka_protocol.specs.Cores.{IsCore}
use Rattle.boruvka_protocol.proofs.lemmas.Cuts.{least_at_end}
use Rattle.boruvka_protocol.proofs.lemmas.Cores.{classes_have_one_core}
use Rattle.boruvka_protocol.proofs.lemmas.WaysOut.{inside_is_tree}
use Rattle.boruvka_protocol.proofs.lemmas.WaysUp.{core_at}
use Rattle.peer_network.specs.Network.{Network, network_of, port_at, far, far_port}
use Rattle.boruvka_node.specs.declared.mark.Mark.{Mark}
use Rattle.boruvka_node.specs.declared.mark.Mark.TheVariants.{Basic, Asked, Branch}
use Rattle.boruvka_node.specs.declared.message.Message.{Message}
use Rattle.boruvka_node.specs.declared.message.Message.TheVariants.{Name}
use Rattle.boruvka_node.specs.declared.message.Phase.TheVariants.{Search, Rest}
use Rattle.boruvka_node.specs.Words.{is_basic}
use Rattle.boruvka_protocol.proofs.invariant.Words.{IsName, IsLeast, IsWayUp}
use Rattle.boruvka_protocol.proofs.invariant.Sides.{Side, AtPort, side_of, far_side_of, Told, calls_in, names_in, connects_in}
use Rattle.boruvka_protocol.proofs.invariant.Marks.{IsLate}
use Rattle.boruvka_protocol.proofs.invariant.Names.{AreNamesFrom, ToldFits}
use Rattle.boruvka_protocol.proofs.invariant.Connects.{HasAsked, Waits, Has_begun, ConnectFits, Answered, Comes, Noted, Called}
use Rattle.boruvka_protocol.proofs.invariant.TreeMessages as tree
use Rattle.boruvka_protocol.proofs.invariant.TreeMessages.{CallsFit}
use Rattle.boruvka_protocol.proofs.invariant.Children.{ChildFits}
use Rattle.boruvka_protocol.proofs.invariant.Whole.{LinkFits}
use Rattle.boruvka_protocol.proofs.Unlike.{basic_is_branch, basic_is_inside, basic_is_asked, false_is_true, none_is_some}
use Rattle.boruvka_protocol.proofs.rows.Leaving.{AreEnds}
use Rattle.boruvka_protocol.proofs.rows.Noted.{basic_no_branch}
use Rattle.boruvka_protocol.proofs.rows.Late.{search_rest}
use Rattle.boruvka_protocol.proofs.rows.Queues.{names_append, calls_before}
use Rattle.boruvka_protocol.proofs.rows.Parts.{chosen_near}
use Rattle.boruvka_protocol.proofs.rows.EntersInside.{entered_as, told_more, follows}

-- A link over which the node hasn't gone out, and no Connect was noted: Basic, and not the node's way up.
module _ (gr : Shape) (ok : IsGraph gr) (v p : ℕ) (c : Key) (up : Option ℕ) (n m : AtPort) (q r : List Message)
    (h : LinkFits gr.keys (network_of gr) v p n m q r)
    (hf : LinkFits gr.keys (network_of gr) (far (network_of gr) v p) (far_port (network_of gr) v p) m n r q)
    (there : far (network_of gr) (far (network_of gr) v p) (far_port (network_of gr) v p) ≡ v)
    (there_port : far_port (network_of gr) (far (network_of gr) v p) (far_port (network_of gr) v p) ≡ p)
    (same_key : (port_at (network_of gr) (far (network_of gr) v p) (far_port (network_of gr) v p)).key ≡ (port_at (network_of gr) v p).key)
    (ends : AreEnds v (far (network_of gr) v p) (port_at (network_of gr) v p).key) (other : far (network_of gr) v p ≢ v)
    (rest : n.head.phase ≡ Rest) (basic : n.port.mark ≡ Basic) (stays : n.head.out ≡ Some p → ⊥)
    (class : IsOfLevel gr.keys (suc n.head.level) v) (core : IsCore gr.keys n.head.level v c)
    (ups : Taken gr.keys (suc n.head.level) (port_at (network_of gr) v p).key →
    IsWayUp gr.keys (suc n.head.level) (far (network_of gr) v p) (port_at (network_of gr) v p).key)
    (not_up : IsWayUp gr.keys (suc n.head.level) v (port_at (network_of gr) v p).key → ⊥)
    (not_least : IsLeast gr.keys n.head.level v (port_at (network_of gr) v p).key → ⊥) where
  abbrev g : Network
  g = network_of gr

  abbrev u : ℕ
  u = far g v p

  abbrev b : ℕ
  b = far_port g v p

  abbrev k : Key
  k = (port_at g v p).key

  abbrev l : ℕ
  l = n.head.level

  was_basic : is_basic n.port.mark ≡ true
  was_basic = ap is_basic basic

  no_branch : {P : Type 0} → n.port.mark ≡ Branch → P
  no_branch x = basic_no_branch n.port.mark was_basic x

  pub untaken : Taken gr.keys l k → ⊥
  untaken = go l refl
    where
      go : (x : ℕ) → l ≡ x → Taken gr.keys x k → ⊥
      go zero e t = t
      go (suc i) e t =
          let late = h.marks.late i e (subst (λ y. Taken gr.keys y k) (sym e) t) (λ y. no_branch y) in
          search_rest n.head.phase late.search rest

  -- the far end has been told of as many levels, and is at most one above
  pub low : l ≤ m.head.level
  low = go l refl
    where
      go : (x : ℕ) → l ≡ x → x ≤ m.head.level
      go zero e = omega arith
      go (suc i) e =
          let heard = h.names.rest rest (omega (arith, e)) was_basic in
          let most = h.names.all.at_most in
          omega (arith, heard, most, e)

  pub high : m.head.level ≤ suc l
  high = (h.names.near was_basic).0

  pub apart : InClass gr.keys l v u → ⊥
  apart = go l refl
    where
      go : (x : ℕ) → l ≡ x → InClass gr.keys x v u → ⊥
      go zero e way = other (sym (joined_by_none (λ y s. s) way))
      go (suc i) e way =
          let lo : 1 ≤ l = omega (arith, e) in
          h.marks.leads_out was_basic lo (h.names.rest rest lo was_basic) (subst (λ y. InClass gr.keys y v u) (sym e) way)

  -- where the link is taken now, the far end is a level below, and chose it alone
  pub sender_level : Taken gr.keys (suc l) k → m.head.level ≡ l
  sender_level t = ⊎_elim (λ e. e) (λ ne. absurd (above (omega (arith, ne, low, high)))) (cases_eq m.head.level l)
    where
      above : m.head.level ≡ suc l → ⊥
      above e = ⊎_elim (λ x. omega (arith, x, e)) (λ x. omega (arith, x, e))
          (hf.children.parent (subst (λ x. IsWayUp gr.keys x u (port_at g u b).key) (sym e)
          (subst (λ (x : Key). IsWayUp gr.keys (suc l) u x) (sym same_key) (ups t)))).level

  chosen : Taken gr.keys (suc l) k → IsLeast gr.keys l u k
  chosen (inl t) = absurd (untaken t)
  chosen (inr x) = ⊎_elim at_a at_b (least_at_end x.1)
    where
      at_a : IsLeast gr.keys l k.a k → IsLeast gr.keys l u k
      at_a y = ⊎_elim
          (λ z. absurd (not_least (subst (λ w. IsLeast gr.keys l w k) (sym z.0) y)))
          (λ z. subst (λ w. IsLeast gr.keys l w k) (sym z.1) y)
          ends

      at_b : IsLeast gr.keys l k.b k → IsLeast gr.keys l u k
      at_b y = ⊎_elim
          (λ z. subst (λ w. IsLeast gr.keys l w k) (sym z.1) y)
          (λ z. absurd (not_least (subst (λ w. IsLeast gr.keys l w k) (sym z.0) y)))
          ends

  -- nothing is taken there at the far end's level
  free_far : {P : Type 0} → Taken gr.keys m.head.level (port_at g u b).key → P
  free_far t = ⊎_elim
      (λ e. absurd (untaken (subst (λ x. Taken gr.keys x k) e at_k)))
      (λ ne.
      let above : m.head.level ≡ suc l = omega (arith, ne, low, high) in
      let same = sender_level (subst (λ x. Taken gr.keys x k) above at_k) in
      absurd (ne same))
      (cases_eq m.head.level l)
    where
      at_k : Taken gr.keys m.head.level k
      at_k = subst (λ (x : Key). Taken gr.keys m.head.level x) same_key t

  abbrev e : Side
  e = side_of g v p n

  abbrev f : Side
  f = far_side_of g v p m

  abbrev d : Side
  d = side_of g u b m

  abbrev t : Side
  t = far_side_of g u b n

  -- At the node that enters, where its new name wasn't heard.

  module _ (unheard : n.port.level ≡ suc l → n.port.name ≡ Some c → ⊥) where
    abbrev e' : Side
    e' = side_of g v p (entered_as n Basic false c up)

    leads : suc l ≤ n.port.level → InClass gr.keys (suc l) v u → ⊥
    leads le way = unheard lv (named.1 ∙ ap (λ (x : Key). Some x) same)
      where
        lv : n.port.level ≡ suc l
        lv = let most = h.names.all.at_most in omega (arith, le, most, high)

        named : (x : Key) × (n.port.name ≡ Some x) × IsCore gr.keys l u x
        named = subst (λ x. IsName gr.keys x u n.port.name) lv h.names.said

        one : (x : Key) × IsCore gr.keys l v x × ((j : Key) → IsCore gr.keys l v j → j ≡ x)
        one = classes_have_one_core gr ok l v class

        same : named.0 ≡ c
        same = one.2 named.0 (core_at gr.keys l u v named.0 (joined_back way) named.2) ∙ sym (one.2 c core)

    waits_for : (f.out ≡ Some f.port) → ◌≡◌ {A = ℕ} (connects_in (calls_in q)) 1
    waits_for x = go (hf.connects.out x).answer
      where
        go : Answered gr.keys d t (calls_in r) (calls_in q) → ◌≡◌ {A = ℕ} (connects_in (calls_in q)) 1
        go (Comes one ne) = one
        go (Noted none mark lv) = basic_is_asked (sym basic ∙ mark)
        go (Called none mark lv w one) = no_branch mark

    sent_out : (i : ℕ) → ConnectFits gr.keys i e f → f.out ≡ Some f.port
    sent_out i x = ⊎_elim same (λ y. search_rest n.head.phase y.1 rest) x.finds
      where
        same : i ≡ l → f.out ≡ Some f.port
        same lv = go x.chosen.sender
          where
            go : HasAsked gr.keys i e f → f.out ≡ Some f.port
            go (Waits a out) = out
            go (Has_begun a least less mark) = absurd (not_least (subst (λ y. IsLeast gr.keys y v k) lv least))

    waits_out : (x : List Message) → CallsFit gr.keys e f x → ◌≡◌ {A = ℕ} (connects_in x) 1 → f.out ≡ Some f.port
    waits_out _ tree.Nothing one = zero_one one
      where
        zero_one : {P : Type 0} → ◌≡◌ {A = ℕ} 0 1 → P
        zero_one x = absurd (omega (arith, x))
    waits_out _ (tree.Chosen i x) one = sent_out i x
    waits_out _ (tree.Called i name x) one = absurd (not_up x.up)
    waits_out _ (tree.Chosen_called i j name x y) one = sent_out i x
    waits_out _ (tree.Reported i x) one = search_rest n.head.phase x.search rest
    waits_out _ (tree.Passed x) one = absurd (untaken x.up.up.link)

    late_now : Taken gr.keys (suc l) k → IsLate gr.keys l e' f (calls_in q)
    late_now x = record {
      basic = refl;
      search = refl;
      chosen = chosen x;
      alone = not_least;
      level = sender_level x;
      connect = (waits_for, waits_out (calls_in q) h.calls);
    }

    connect_now : (i : ℕ) → ConnectFits gr.keys i e f → ConnectFits gr.keys i e' f
    connect_now i x = record {
      chosen = chosen_near gr.keys g v p n (entered_as n Basic false c up) f i x.chosen;
      finds = ⊎_elim (λ y. inr (ap suc y, refl, refl)) (λ y. search_rest n.head.phase y.1 rest) x.finds;
    }

    calls_now : (x : List Message) → CallsFit gr.keys e f x → CallsFit gr.keys e' f x
    calls_now _ tree.Nothing = tree.Nothing
    calls_now _ (tree.Chosen i x) = tree.Chosen i (connect_now i x)
    calls_now _ (tree.Called i name x) = absurd (not_up x.up)
    calls_now _ (tree.Chosen_called i j name x y) = absurd (not_up y.up)
    calls_now _ (tree.Reported i x) = search_rest n.head.phase x.search rest
    calls_now _ (tree.Passed x) = absurd (untaken x.up.up.link)

    child_now : (r' : List Message) → IsWayUp gr.keys (suc l) u k → ChildFits gr.keys e' f (calls_in q) r'
    child_now r' w = record {
      level = omega (arith, lv);
      behind = λ x. record { search = refl; rest = λ y. basic_is_branch y; called = λ y. basic_is_branch y };
      search = λ x. absurd (omega (arith, x, lv));
      rest = λ x. search_rest Search refl x;
    }
      where
        lv : m.head.level ≡ l
        lv = sender_level w.up.link

    pub basic_near : (r' : List Message) → LinkFits gr.keys g v p (entered_as n Basic false c up) m q r'
    basic_near r' = record {
      marks = record {
        branch = λ x. basic_is_branch x;
        inside = λ x. basic_is_inside x;
        late = λ i lv x ne. subst (λ y. IsLate gr.keys y e' f (calls_in q)) (let z : l ≡ i = omega (arith, lv) in z) (late_now x);
        leads_out = λ x lo le way. leads le way;
      };
      names = record {
        said = h.names.said;
        next = h.names.next;
        all = record {
          at_most = h.names.all.at_most;
          basic = h.names.all.basic;
          aside = λ no. let a = h.names.all.aside no in record { apart = a.apart; far = a.far };
        };
        near = λ x. (omega (arith, high), omega (arith, low));
        rest = λ x. search_rest Search refl x;
      };
      connects = record { asked = λ x. basic_is_asked x; out = λ x. none_is_some _ x };
      calls = calls_now (calls_in q) h.calls;
      children = record { child = λ w. child_now (calls_in r') w; parent = λ w. absurd (not_up w) };
      owes = record { child = λ o. false_is_true o; open_yet = λ o. false_is_true o; heard = λ s x. basic_is_branch x; rest = λ ne. refl };
    }

  -- where it was heard, the link lies inside, and isn't in the forest
  module _ (own_level : n.port.level ≡ suc l) (own_name : n.port.name ≡ Some c) where
    core_there : IsCore gr.keys l u c
    core_there = go (subst (λ x. IsName gr.keys x u n.port.name) own_level h.names.said)
      where
        go : (x : Key) × (n.port.name ≡ Some x) × IsCore gr.keys l u x → IsCore gr.keys l u c
        go x = subst (λ y. IsCore gr.keys l u y) (same_Some _ _ (sym x.1 ∙ own_name)) x.2

    pub one_class : InClass gr.keys (suc l) v u
    one_class = joined_then core.inside (joined_back core_there.inside)

    pub aside_now : InTree gr.keys k → ⊥
    aside_now is =
        let same = sender_level ((inside_is_tree gr ok (suc l) k ends_joined).1 is) in
        let most = h.names.all.at_most in
        omega (arith, same, most, own_level)
      where
        ends_joined : InClass gr.keys (suc l) k.a k.b
        ends_joined = ⊎_elim
            (λ x. subst (λ y. InClass gr.keys (suc l) y k.b) x.0 (subst (λ y. InClass gr.keys (suc l) v y) x.1 one_class))
            (λ x. joined_back (subst (λ y. InClass gr.keys (suc l) y k.a) x.0 (subst (λ y. InClass gr.keys (suc l) v y) x.1 one_class)))
            ends

  -- At the far end, which is told the name; the port is Basic or Inside now.

  module _ (mark : Mark) (no_call : mark ≢ Branch) (not_asked : mark ≢ Asked) where
    abbrev t' : Side
    t' = far_side_of g u b (entered_as n mark false c up)

    told_there : m.port.level + length (names_in r) ≡ l
    told_there = hf.names.all.basic was_basic

    abbrev told_now : List Told
    told_now = names_in r ++ record { level = suc l; name = c } ∷ []

    names_now : names_in (r ++ Name (suc l) c ∷ []) ≡ told_now
    names_now = names_append r (Name (suc l) c ∷ [])

    many_now : m.port.level + length (names_in (r ++ Name (suc l) c ∷ [])) ≡ suc l
    many_now = many _ _ _ told_there (ap (λ (x : List Told). length x) names_now ∙ told_more (names_in r) (record { level = suc l; name = c }))
      where
        many : (a x y : ℕ) → a + x ≡ l → y ≡ suc x → a + y ≡ suc l
        many a x y at more = omega (arith, at, more)

    next_now : AreNamesFrom gr.keys t'.node m.port.level (names_in (r ++ Name (suc l) c ∷ []))
    next_now = subst (λ x. AreNamesFrom gr.keys t'.node m.port.level x) (sym names_now)
        (follows gr.keys t'.node m.port.level (names_in r) (record { level = suc l; name = c }) hf.names.next (ap suc (sym told_there))
        (subst (λ x. IsCore gr.keys x t'.node c) (sym told_there) (subst (λ x. IsCore gr.keys l x c) (sym there) core)))

    all_now : ToldFits gr.keys d t' (suc l)
    all_now = record {
      at_most = omega arith;
      basic = λ x. refl;
      aside = λ no. record {
        apart = λ i lt. ⊎_elim
            (λ (e : i ≡ l). λ (way : InClass gr.keys i u t.node).
            apart (joined_back (subst (λ x. InClass gr.keys l u x) there (subst (λ x. InClass gr.keys x u t.node) e way))))
            (λ ne. λ (way : InClass gr.keys i u t.node).
            (hf.names.all.aside no).apart i (let less = told_there in omega (arith, lt, ne, less)) way)
            (cases_eq i l);
        far = inl refl;
      };
    }

    answer_now : (x : List Message) → Answered gr.keys d t (calls_in r) (calls_in q) → Answered gr.keys d t' x (calls_in q)
    answer_now x (Comes one ne) = Comes one not_asked
    answer_now x (Noted none asked lv) = basic_is_asked (sym basic ∙ asked)
    answer_now x (Called none branch lv w one) = no_branch branch

    never_asked : {P : Type 0} (i : ℕ) → HasAsked gr.keys i d t → P
    never_asked i (Waits lv out) = absurd (stays (out ∙ ap (λ x. Some x) there_port))
    never_asked i (Has_begun lv least less branch) = no_branch branch

    calls_there' : (x : List Message) → CallsFit gr.keys d t x → CallsFit gr.keys d t' x
    calls_there' _ tree.Nothing = tree.Nothing
    calls_there' _ (tree.Chosen i x) = never_asked i x.chosen.sender
    calls_there' _ (tree.Called i name x) = no_branch x.sender_mark
    calls_there' _ (tree.Chosen_called i j name x y) = never_asked i x.chosen.sender
    calls_there' _ (tree.Reported i x) = free_far x.up.up.link
    calls_there' _ (tree.Passed x) = tree.Passed (record { up = x.up; rest = x.rest; stays = x.stays; least = x.least })

    pub basic_away : LinkFits gr.keys g u b m (entered_as n mark false c up) (r ++ Name (suc l) c ∷ []) q
    basic_away = record {
      marks = record {
        branch = hf.marks.branch;
        inside = hf.marks.inside;
        late = λ i lv x ne. free_far x;
        leads_out = hf.marks.leads_out;
      };
      names = record {
        said = hf.names.said;
        next = next_now;
        all = subst (λ x. ToldFits gr.keys d t' x) (sym many_now) all_now;
        near = λ x. (omega (arith, low), omega (arith, high));
        rest = hf.names.rest;
      };
      connects = record {
        asked = λ x. never_asked m.head.level (hf.connects.asked x).sender;
        out = λ x.
            let o = hf.connects.out x in
            record {
              least = o.least;
              rest = o.rest;
              basic = o.basic;
              answer = answer_now (calls_in (r ++ Name (suc l) c ∷ [])) o.answer;
              greater = o.greater;
            };
      };
      calls = subst (λ x. CallsFit gr.keys d t' x) (sym (calls_before r (Name (suc l) c ∷ []) refl)) (calls_there' (calls_in r) hf.calls);
      children = record { child = λ w. free_far w.up.link; parent = λ w. free_far w.up.link };
      owes = record {
        child = hf.owes.child;
        open_yet = λ o. free_far (hf.owes.child o).1.up.link;
        heard = λ s x w. free_far w.up.link;
        rest = hf.owes.rest;
      };
    }
