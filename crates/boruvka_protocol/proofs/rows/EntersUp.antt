-- A node is called, and enters the next level: what that keeps at the link to its parent, from both its ends.
use Rattle.std.proofs.Common.{◌≡◌, ℕ, suc, inl, ⊎_elim, false, Option, List, [], ◌∷◌, refl, sym, ◌∙◌, subst, arith}
use Rattle.ghs_graph.specs.declared.key.Key.{Key}
use Rattle.ghs_graph.specs.Links.{InTree}
use Rattle.boruvka_protocol.proofs.lemmas.Cuts.{taken_in_tree}
use Rattle.peer_network.specs.Network.{Network, port_at, far, far_port}
use Rattle.boruvka_node.specs.declared.mark.Mark.TheVariants.{Branch}
use Rattle.boruvka_node.specs.declared.message.Message.{Message}
use Rattle.boruvka_node.specs.declared.message.Message.TheVariants.{Initiate}
use Rattle.boruvka_node.specs.declared.message.Phase.TheVariants.{Search, Rest}
use Rattle.boruvka_protocol.proofs.invariant.Words.{IsWayUp}
use Rattle.boruvka_protocol.proofs.invariant.Sides.{Side, AtPort, side_of, far_side_of, calls_in}
use Rattle.boruvka_protocol.proofs.invariant.Connects.{ConnectFits}
use Rattle.boruvka_protocol.proofs.invariant.TreeMessages as tree
use Rattle.boruvka_protocol.proofs.invariant.TreeMessages.{CallFits, CallsFit}
use Rattle.boruvka_protocol.proofs.invariant.Whole.{LinkFits}
use Rattle.boruvka_protocol.proofs.Unlike.{branch_is_inside, branch_is_asked, branch_is_plain, false_is_true, none_is_some}
use Rattle.boruvka_protocol.proofs.rows.Noted.{basic_no_branch}
use Rattle.boruvka_protocol.proofs.rows.Late.{search_rest}
use Rattle.boruvka_protocol.proofs.rows.EntersInside.{entered_as}

-- what a call at the head of a queue says; nothing more waits behind it but Names
pub first_call : (ks : List Key) (e f : Side) (i : ℕ) (c : Key) (rest : List Message) → CallsFit ks e f (Initiate i c ∷ rest) →
    CallFits ks i c e f × (rest ≡ [])
first_call ks e f i c _ (tree.Called _ name x) = (x, refl)

-- The link at port p of v, which is at rest with n there; the far end has m, and its call stands at the head.
module _ (ks : List Key) (g : Network) (v p a : ℕ) (c : Key) (up : Option ℕ) (n m : AtPort) (q r : List Message)
    (h : LinkFits ks g v p n m (Initiate a c ∷ q) r)
    (hf : LinkFits ks g (far g v p) (far_port g v p) m n r (Initiate a c ∷ q))
    (same_key : (port_at g (far g v p) (far_port g v p)).key ≡ (port_at g v p).key)
    (one_way : IsWayUp ks (suc n.head.level) (far g v p) (port_at g v p).key → ⊥) where
  abbrev u : ℕ
  u = far g v p

  abbrev b : ℕ
  b = far_port g v p

  abbrev k : Key
  k = (port_at g v p).key

  abbrev k' : Key
  k' = (port_at g u b).key

  abbrev l : ℕ
  l = n.head.level

  abbrev d : Side
  d = side_of g u b m

  abbrev t : Side
  t = far_side_of g u b n

  abbrev t' : Side
  t' = far_side_of g u b (entered_as n Branch false c up)

  pub call : CallFits ks a c (side_of g v p n) (far_side_of g v p m)
  call = (first_call ks (side_of g v p n) (far_side_of g v p m) a c (calls_in q) h.calls).0

  empty : calls_in q ≡ []
  empty = (first_call ks (side_of g v p n) (far_side_of g v p m) a c (calls_in q) h.calls).1

  -- at the node that enters
  pub up_near : LinkFits ks g v p (entered_as n Branch false c up) m q r
  up_near = record {
    marks = record {
      branch = λ x. call.up.up.link;
      inside = λ x. branch_is_inside x;
      late = λ i lv x ne. absurd (ne refl);
      leads_out = λ x. branch_is_plain x;
    };
    names = record {
      said = h.names.said;
      next = h.names.next;
      all = record {
        at_most = h.names.all.at_most;
        basic = h.names.all.basic;
        aside = λ no. let a = h.names.all.aside no in record { apart = a.apart; far = a.far };
      };
      near = λ x. branch_is_plain x;
      rest = λ x. search_rest Search refl x;
    };
    connects = record { asked = λ x. branch_is_asked x; out = λ x. none_is_some _ x };
    calls = subst (λ x. CallsFit ks (side_of g v p (entered_as n Branch false c up)) (far_side_of g v p m) x) (sym empty) tree.Nothing;
    children = record {
      child = λ w. absurd (one_way w);
      parent = λ w. record { level = inl call.sender_level; mark = refl; far_mark = call.sender_mark };
    };
    owes = record {
      child = λ o. false_is_true o;
      open_yet = λ o. false_is_true o;
      heard = λ s x w. absurd (one_way w);
      rest = λ ne. refl;
    };
  }

  far_search : {P : Type 0} → m.head.phase ≡ Rest → P
  far_search x = search_rest m.head.phase call.sender_search x

  no_connect : {P : Type 0} (i : ℕ) → ConnectFits ks i d t → P
  no_connect i x = ⊎_elim
      (λ y. absurd (⊎_elim
      (λ lt. let lv = call.sender_level in omega (arith, lt, y, lv))
      (λ z. let lv = call.sender_level in let same = z.0 in omega (arith, same, y, lv))
      x.chosen.past))
      (λ y. basic_no_branch m.port.mark y.2 call.sender_mark)
      x.finds

  calls_now : (x : List Message) → CallsFit ks d t x → CallsFit ks d t' x
  calls_now _ tree.Nothing = tree.Nothing
  calls_now _ (tree.Chosen i x) = no_connect i x
  calls_now _ (tree.Called i name x) = far_search x.rest
  calls_now _ (tree.Chosen_called i j name x y) = no_connect i x
  calls_now _ (tree.Reported i x) = absurd (let lv = call.sender_level in let same = x.sender_level in omega (arith, same, lv))
  calls_now _ (tree.Passed x) = far_search x.rest

  no_up : {P : Type 0} → IsWayUp ks m.head.level u k' → P
  no_up w = absurd (one_way (subst (λ x. IsWayUp ks x u k) call.sender_level (subst (λ (x : Key). IsWayUp ks m.head.level u x) same_key w)))

  -- from the parent's end
  pub up_away : LinkFits ks g u b m (entered_as n Branch false c up) r q
  up_away = record {
    marks = record {
      branch = hf.marks.branch;
      inside = hf.marks.inside;
      late = λ i lv x ne. absurd (ne call.sender_mark);
      leads_out = hf.marks.leads_out;
    };
    names = record {
      said = hf.names.said;
      next = hf.names.next;
      all = record {
        at_most = let most = hf.names.all.at_most in omega (arith, most);
        basic = λ x. branch_is_plain x;
        aside = λ no. absurd (no (subst (λ (x : Key). InTree ks x) (sym same_key) (taken_in_tree ks (suc l) k call.up.up.link)));
      };
      near = λ x. basic_no_branch m.port.mark x call.sender_mark;
      rest = hf.names.rest;
    };
    connects = record {
      asked = λ x. branch_is_asked (sym call.sender_mark ∙ x);
      out = λ x. far_search (hf.connects.out x).rest;
    };
    calls = calls_now (calls_in r) hf.calls;
    children = record {
      child = λ w. record {
        level = let lv = call.sender_level in omega (arith, lv);
        behind = λ x. absurd (let lv = call.sender_level in omega (arith, x, lv));
        search = λ x s. call.sender_search;
        rest = λ x. far_search x;
      };
      parent = λ w. no_up w;
    };
    owes = record {
      child = hf.owes.child;
      open_yet = λ o rep. ⊎_elim
          (λ lt. let lv = call.sender_level in omega (arith, lt, lv))
          (λ x. search_rest Search refl x.1)
          rep.past;
      heard = λ s x w no. absurd (⊎_elim
          (λ lt. let lv = call.sender_level in omega (arith, lt, lv))
          (λ y. let lv = call.sender_level in let same = y.0 in omega (arith, same, lv))
          (hf.owes.heard s x w no).past);
      rest = hf.owes.rest;
    };
  }
