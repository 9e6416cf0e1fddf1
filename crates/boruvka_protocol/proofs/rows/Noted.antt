-- A Connect of the node's own level is noted: what that keeps at the link, from both its ends.
use Rattle.std.proofs.Common.{◌≡◌, ℕ, ◌<◌, true, Some, List, ◌∷◌, refl, sym, subst}
use Rattle.ghs_graph.specs.declared.key.Key.{Key}
use Rattle.boruvka_protocol.specs.Levels.{Taken, InClass}
use Rattle.peer_network.specs.Network.{Network, port_at, far}
use Rattle.boruvka_node.specs.declared.mark.Mark.{Mark}
use Rattle.boruvka_node.specs.declared.mark.Mark.TheVariants.{Basic, Asked, Branch, Inside}
use Rattle.boruvka_node.specs.declared.message.Message.{Message}
use Rattle.boruvka_node.specs.declared.message.Message.TheVariants.{Connect}
use Rattle.boruvka_node.specs.Words.{is_basic}
use Rattle.boruvka_protocol.proofs.invariant.Sides.{Side, AtPort, side_of, far_side_of, heard_at, calls_in, names_in, connects_in}
use Rattle.boruvka_protocol.proofs.invariant.Marks.{MarksFit}
use Rattle.boruvka_protocol.proofs.invariant.Names.{NamesFit}
use Rattle.boruvka_protocol.proofs.invariant.Connects.{HasAsked, Waits, Has_begun, HasChosen, ConnectFits, Answered, Comes, Noted, Called, OutFits}
use Rattle.boruvka_protocol.proofs.invariant.TreeMessages as tree
use Rattle.boruvka_protocol.proofs.invariant.TreeMessages.{CallsFit, Nothing, Chosen, Chosen_called}
use Rattle.boruvka_protocol.proofs.invariant.Children.{ChildrenFit}
use Rattle.boruvka_protocol.proofs.invariant.Whole.{LinkFits}
use Rattle.boruvka_protocol.proofs.Unlike.{asked_is_branch, asked_is_inside}
use Rattle.boruvka_protocol.proofs.rows.Parts.{chosen_near, call_near, chosen_far, calls_far}
use Rattle.boruvka_protocol.proofs.rows.Leaving.{AreEnds, not_taken, not_joined}

-- a port with the mark Asked
abbrev pub asked_at : AtPort → AtPort
asked_at n = record n { port = record n.port { mark = Asked } }

pub basic_no_branch : {P : Type 0} (x : Mark) → is_basic x ≡ true → x ≡ Branch → P
basic_no_branch Basic b e = cc
basic_no_branch Asked b e = cc
basic_no_branch Branch b e = cc
basic_no_branch Inside b e = cc

module _ (ks : List Key) where
  -- what a Connect at the head of a queue says
  pub first_connect : (e f : Side) (l : ℕ) (rest : List Message) → CallsFit ks e f (Connect l ∷ rest) →
      ConnectFits ks l e f × (◌≡◌ {A = ℕ} (connects_in rest) 0)
  first_connect e f l _ (Chosen _ c) = (c, refl)
  first_connect e f l _ (Chosen_called _ k name c d) = (c, refl)

  module _ (g : Network) (v p : ℕ) (n m : AtPort) (l : ℕ) (q r : List Message) (h : LinkFits ks g v p n m (Connect l ∷ q) r)
      (level : l ≡ n.head.level) (ends : AreEnds v (far g v p) (port_at g v p).key) where
    abbrev e : Side
    e = side_of g v p n

    abbrev e' : Side
    e' = side_of g v p (asked_at n)

    abbrev f : Side
    f = far_side_of g v p m

    first : ConnectFits ks l e f × (◌≡◌ {A = ℕ} (connects_in (calls_in q)) 0)
    first = first_connect e f l (calls_in q) h.calls

    chosen : HasChosen ks n.head.level e f
    chosen = subst (λ x. HasChosen ks x e f) level first.0.chosen

    pub none_left : ◌≡◌ {A = ℕ} (connects_in (calls_in q)) 0
    none_left = first.1

    untaken : Taken ks n.head.level (port_at g v p).key → ⊥
    untaken = not_taken (far g v p) (port_at g v p).key chosen.least.leaves

    apart : InClass ks n.head.level v (far g v p) → ⊥
    apart way = not_joined (far g v p) (port_at g v p).key chosen.least.leaves v ends way

    not_branch : n.port.mark ≡ Branch → ⊥
    not_branch b = untaken (h.marks.branch b)

    -- the port was Basic, or Asked
    pub was_basic : is_basic n.port.mark ≡ true
    was_basic = go n.port.mark refl
      where
        go : (x : Mark) → n.port.mark ≡ x → is_basic x ≡ true
        go Basic b = refl
        go Asked b = refl
        go Branch b = absurd (not_branch b)
        go Inside b = absurd (apart (h.marks.inside b).0)

    -- the sender is of the same level, unless it has made the link Branch
    pub sender_level : is_basic m.port.mark ≡ true → m.head.level ≡ n.head.level
    sender_level b = go chosen.sender
      where
        go : HasAsked ks n.head.level e f → m.head.level ≡ n.head.level
        go (Waits lv out) = lv
        go (Has_begun lv least less mark) = basic_no_branch m.port.mark b mark

    rest_like : (rest : List Message) → CallsFit ks e f (Connect l ∷ rest) → CallsFit ks e' f rest
    rest_like _ (Chosen _ c) = Nothing
    rest_like _ (Chosen_called _ k name c d) =
        tree.Called k name (call_near ks g v p n (record n.port { mark = Asked }) n.head.out f (λ o. o) k name d)

    -- At the node that notes it.

    pub noted_marks : MarksFit ks e' f n.port.level (calls_in q)
    noted_marks = record {
      branch = λ x. asked_is_branch x;
      inside = λ x. asked_is_inside x;
      late = λ k lv t ne. absurd (untaken t);
      leads_out = λ b lo le s. apart s;
    }

    pub noted_names : NamesFit ks e' f (heard_at n) (names_in q)
    noted_names = record {
      said = h.names.said;
      next = h.names.next;
      all = record {
        at_most = h.names.all.at_most;
        basic = h.names.all.basic;
        aside = λ no. let a = h.names.all.aside no in record { apart = a.apart; far = a.far };
      };
      near = λ b. h.names.near was_basic;
      rest = λ x lo b. h.names.rest x lo was_basic;
    }

    pub noted_chosen : HasChosen ks n.head.level e' f
    noted_chosen = chosen_near ks g v p n (asked_at n) f n.head.level chosen

    pub noted_calls : CallsFit ks e' f (calls_in q)
    noted_calls = rest_like (calls_in q) h.calls

    pub noted_children : ChildrenFit ks e' f (calls_in q) (calls_in r)
    noted_children = record { child = λ up. absurd (untaken up.up.link); parent = λ up. absurd (untaken up.up.link) }

    pub noted_near_by : (n.head.out ≡ Some p → OutFits ks e' f (calls_in q) (calls_in r)) → LinkFits ks g v p (asked_at n) m q r
    noted_near_by out = record {
      marks = noted_marks;
      names = noted_names;
      connects = record { asked = λ x. noted_chosen; out = out };
      calls = noted_calls;
      children = noted_children;
      owes = record {
        child = λ o. absurd (not_branch (h.owes.child o).0);
        open_yet = λ o. absurd (not_branch (h.owes.child o).0);
        heard = λ s b. asked_is_branch b;
        rest = h.owes.rest;
      };
    }

    -- where it hasn't gone out over the link itself
    pub noted_near : (n.head.out ≡ Some p → ⊥) → LinkFits ks g v p (asked_at n) m q r
    noted_near stays = noted_near_by (λ x. absurd (stays x))

    answer_like : Answered ks e f (calls_in (Connect l ∷ q)) (calls_in r) → Answered ks e' f (calls_in q) (calls_in r)
    answer_like (Comes one ne) = Comes one ne
    answer_like (Noted none mark lv) = Noted none mark lv
    answer_like (Called none mark lv up one) = Called none mark lv up one

    -- where it has, and is the greater end of a core
    pub noted_greater : far g v p < v → LinkFits ks g v p (asked_at n) m q r
    noted_greater less = noted_near_by (λ x.
        let o = h.connects.out x in
        record { least = o.least; rest = o.rest; basic = refl; answer = answer_like o.answer; greater = λ y. less })

  -- The same from the sender's end: its port is v's p, with m there, and the node that notes has n.
  module _ (g : Network) (v p : ℕ) (m n : AtPort) (l : ℕ) (r q : List Message) (h : LinkFits ks g v p m n r (Connect l ∷ q))
      (basic : is_basic n.port.mark ≡ true) (none : ◌≡◌ {A = ℕ} (connects_in (calls_in q)) 0)
      (sent : is_basic m.port.mark ≡ true → m.head.level ≡ n.head.level) where
    abbrev s : Side
    s = side_of g v p m

    abbrev t : Side
    t = far_side_of g v p n

    abbrev t' : Side
    t' = far_side_of g v p (asked_at n)

    never : {P : Type 0} → n.port.mark ≡ Branch → P
    never b = basic_no_branch n.port.mark basic b

    pub noted_away : LinkFits ks g v p m (asked_at n) r q
    noted_away = record {
      marks = record {
        branch = h.marks.branch;
        inside = h.marks.inside;
        late = λ k lv x ne.
            let a = h.marks.late k lv x ne in
            record { basic = a.basic; search = a.search; chosen = a.chosen; alone = a.alone; level = a.level; connect = a.connect };
        leads_out = h.marks.leads_out;
      };
      names = record {
        said = h.names.said;
        next = h.names.next;
        all = record {
          at_most = h.names.all.at_most;
          basic = λ b. h.names.all.basic basic;
          aside = λ no. let a = h.names.all.aside no in record { apart = a.apart; far = a.far };
        };
        near = h.names.near;
        rest = h.names.rest;
      };
      connects = record {
        asked = λ x. chosen_far ks g v p n (record n.port { mark = Asked }) n.head.out s (λ o. o) (λ b. never b) m.head.level (h.connects.asked x);
        out = λ x.
            let o = h.connects.out x in
            record { least = o.least; rest = o.rest; basic = o.basic; answer = Noted none refl (sym (sent o.basic)); greater = o.greater };
      };
      calls = calls_far ks g v p n (record n.port { mark = Asked }) n.head.out s (λ o. o) (λ b. never b) (calls_in r) h.calls;
      children = record {
        child = λ up.
            let c = h.children.child up in
            record {
              level = c.level;
              behind = λ z. let b = c.behind z in record { search = b.search; rest = b.rest; called = b.called };
              search = c.search;
              rest = c.rest;
            };
        parent = λ up. never (h.children.parent up).far_mark;
      };
      owes = record { child = h.owes.child; open_yet = h.owes.open_yet; heard = h.owes.heard; rest = h.owes.rest };
    }
