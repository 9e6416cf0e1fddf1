-- A node enters the next level, and calls a neighbour there, whose way up the link is: what that keeps at it, from both its ends.
use Rattle.std.proofs.Common.{◌≡◌, ◌⊎◌, ℕ, suc, ◌+◌, ◌<◌, inl, inr, ⊎_elim, true, Option, Some, List, [], ◌∷◌, ◌++◌, length, refl, sym, ◌∙◌, ap, subst, arith}
use Rattle.ghs_graph.specs.declared.key.Key.{Key}
use Rattle.boruvka_protocol.specs.Levels.{Taken}
use Rattle.boruvka_protocol.specs.Cores.{IsCore}
use Rattle.boruvka_protocol.proofs.lemmas.Cuts.{taken_in_tree}
use Rattle.peer_network.specs.Network.{Network, port_at, far, far_port}
use Rattle.boruvka_node.specs.declared.mark.Mark.TheVariants.{Asked, Branch}
use Rattle.boruvka_node.specs.declared.message.Message.{Message}
use Rattle.boruvka_node.specs.declared.message.Message.TheVariants.{Initiate}
use Rattle.boruvka_node.specs.declared.message.Phase.TheVariants.{Search, Rest}
use Rattle.boruvka_protocol.proofs.invariant.Words.{IsLeast, IsWayUp}
use Rattle.boruvka_protocol.proofs.invariant.Sides.{Side, AtPort, side_of, far_side_of, calls_in, connects_in, initiates_in, passes_in}
use Rattle.boruvka_protocol.proofs.invariant.Names.{AreNamesFrom, ToldFits}
use Rattle.boruvka_protocol.proofs.invariant.Connects.{HasAsked, Waits, Has_begun, HasChosen, ConnectFits, Answered, Comes, Noted, Called}
use Rattle.boruvka_protocol.proofs.invariant.TreeMessages as tree
use Rattle.boruvka_protocol.proofs.invariant.TreeMessages.{CallFits, CallsFit}
use Rattle.boruvka_protocol.proofs.invariant.Whole.{MarksAt, NamesAt, CallsAt, LinkFits}
use Rattle.boruvka_protocol.proofs.Unlike.{one_is_zero, branch_is_inside, branch_is_asked, branch_is_plain, false_is_true, true_is_false, none_is_some}
use Rattle.boruvka_protocol.proofs.rows.Queues.{calls_append, names_before}
use Rattle.boruvka_protocol.proofs.rows.Leaving.{not_taken}
use Rattle.boruvka_protocol.proofs.rows.Late.{search_rest}
use Rattle.boruvka_protocol.proofs.rows.EntersInside.{entered_as}

-- What is asked of the link at the end of the node that enters; that it has gone out over it itself may be.
pub record EndFits (ks : List Key) (g : Network) (v p : ℕ) (n m : AtPort) (q : List Message) : Type 0 where
  pub marks : MarksAt ks g v p n m q
  pub names : NamesAt ks g v p n m q
  pub asked : n.port.mark ≡ Asked → HasChosen ks n.head.level (side_of g v p n) (far_side_of g v p m)
  pub calls : CallsAt ks g v p n m q

pub end_fits : {ks : List Key} {g : Network} {v p : ℕ} {n m : AtPort} {q r : List Message} → LinkFits ks g v p n m q r → EndFits ks g v p n m q
end_fits h = record { marks = h.marks; names = h.names; asked = h.connects.asked; calls = h.calls }

-- The link at port p of v, which is at rest with n there; the far end has m, is at rest at the same level, and the link is its way up at the next.
module _ (ks : List Key) (g : Network) (v p : ℕ) (c : Key) (up : Option ℕ) (n m : AtPort) (q r : List Message)
    (h : EndFits ks g v p n m q)
    (hf : LinkFits ks g (far g v p) (far_port g v p) m n r q)
    (there : far g (far g v p) (far_port g v p) ≡ v)
    (there_port : far_port g (far g v p) (far_port g v p) ≡ p)
    (same_key : (port_at g (far g v p) (far_port g v p)).key ≡ (port_at g v p).key)
    (rest : n.head.phase ≡ Rest) (mark : (n.port.mark ≡ Branch) ⊎ (n.port.mark ≡ Asked))
    (level : m.head.level ≡ n.head.level) (far_rest : m.head.phase ≡ Rest)
    (core : IsCore ks n.head.level (far g v p) c)
    (up_there : IsWayUp ks (suc n.head.level) (far g v p) (port_at g v p).key)
    (not_up : IsWayUp ks (suc n.head.level) v (port_at g v p).key → ⊥)
    (meets : IsLeast ks n.head.level v (port_at g v p).key → IsLeast ks n.head.level (far g v p) (port_at g v p).key × (v < far g v p))
    (unpassed : ◌≡◌ {A = ℕ} (passes_in (calls_in q)) 0) (unpassed_there : ◌≡◌ {A = ℕ} (passes_in (calls_in r)) 0) where
  abbrev u : ℕ
  u = far g v p

  abbrev b : ℕ
  b = far_port g v p

  abbrev k : Key
  k = (port_at g v p).key

  abbrev l : ℕ
  l = n.head.level

  abbrev e : Side
  e = side_of g v p n

  abbrev f : Side
  f = far_side_of g v p m

  abbrev d : Side
  d = side_of g u b m

  abbrev t : Side
  t = far_side_of g u b n

  abbrev t' : Side
  t' = far_side_of g u b (entered_as n Branch true c up)

  below : {P : Type 0} → m.head.level ≡ suc l → P
  below x = absurd (omega (arith, level, x))

  -- no Connect waits: it was noted, or the link is taken already
  no_connect : {P : Type 0} (i : ℕ) → ConnectFits ks i e f → ◌≡◌ {A = ℕ} (connects_in (calls_in q)) 1 → P
  no_connect i x one = ⊎_elim same (λ y. search_rest n.head.phase y.1 rest) x.finds
    where
      same : {P : Type 0} → i ≡ l → P
      same lv = ⊎_elim
          (λ y. absurd (not_taken u k least.leaves (h.marks.branch y)))
          (λ y. go y x.chosen.sender)
          mark
        where
          least : IsLeast ks l u k
          least = subst (λ y. IsLeast ks y u k) lv x.chosen.least

          go : {P : Type 0} → n.port.mark ≡ Asked → HasAsked ks i e f → P
          go asked (Has_begun a z less w) = below (a ∙ ap suc lv)
          go asked (Waits a out) = answer (hf.connects.out out).answer
            where
              answer : {P : Type 0} → Answered ks d t (calls_in r) (calls_in q) → P
              answer (Comes y ne) = absurd (ne asked)
              answer (Noted none y z) = one_is_zero (sym one ∙ none)
              answer (Called none y z w s) = one_is_zero (sym one ∙ none)

  -- nothing waits here
  pub empty : calls_in q ≡ []
  empty = go (calls_in q) refl h.calls
    where
      go : (x : List Message) → calls_in q ≡ x → CallsFit ks e f x → x ≡ []
      go _ same tree.Nothing = refl
      go _ same (tree.Chosen i x) = no_connect i x (ap (λ (y : List Message). connects_in y) same)
      go _ same (tree.Called i name x) = absurd (not_up x.up)
      go _ same (tree.Chosen_called i j name x y) = absurd (not_up y.up)
      go _ same (tree.Reported i x) = search_rest n.head.phase x.search rest
      go _ same (tree.Passed x) = one_is_zero (sym (ap (λ (y : List Message). passes_in y) same) ∙ unpassed)

  -- over a link of its class, or the one that the far end went out over
  over : Taken ks l k ⊎ (m.head.out ≡ Some b)
  over = ⊎_elim (λ y. inl (h.marks.branch y)) (λ y. inr (waits (h.asked y).sender)) mark
    where
      waits : HasAsked ks l e f → m.head.out ≡ Some b
      waits (Waits lv out) = out
      waits (Has_begun lv least less x) = below lv

  one_call_behind : (x : List Message) → CallsFit ks d t x → ◌≡◌ {A = ℕ} (passes_in x) 0 →
      ◌≡◌ {A = ℕ} (initiates_in (x ++ Initiate (suc l) c ∷ [])) 1
  one_call_behind _ tree.Nothing none = refl
  one_call_behind _ (tree.Chosen i x) none = refl
  one_call_behind _ (tree.Called i name x) none = search_rest n.head.phase x.sender_search rest
  one_call_behind _ (tree.Chosen_called i j name x y) none = search_rest n.head.phase y.sender_search rest
  one_call_behind _ (tree.Reported i x) none = search_rest m.head.phase x.search far_rest
  one_call_behind _ (tree.Passed x) none = one_is_zero none

  -- one call waits there now
  pub one_call : ◌≡◌ {A = ℕ} (initiates_in (calls_in (r ++ Initiate (suc l) c ∷ []))) 1
  one_call = subst (λ x. ◌≡◌ {A = ℕ} (initiates_in x) 1) (sym (calls_append r (Initiate (suc l) c ∷ [])))
      (one_call_behind (calls_in r) hf.calls unpassed_there)

  -- at the node that enters
  pub down_near : LinkFits ks g v p (entered_as n Branch true c up) m q (r ++ Initiate (suc l) c ∷ [])
  down_near = record {
    marks = record {
      branch = λ x. up_there.up.link;
      inside = λ x. branch_is_inside x;
      late = λ i lv x ne. absurd (ne refl);
      leads_out = λ x. branch_is_plain x;
    };
    names = record {
      said = h.names.said;
      next = h.names.next;
      all = record {
        at_most = h.names.all.at_most;
        basic = h.names.all.basic;
        aside = λ no. let a = h.names.all.aside no in record { apart = a.apart; far = a.far };
      };
      near = λ x. branch_is_plain x;
      rest = λ x. search_rest Search refl x;
    };
    connects = record { asked = λ x. branch_is_asked x; out = λ x. none_is_some _ x };
    calls = subst (λ x. CallsFit ks (side_of g v p (entered_as n Branch true c up)) f x) (sym empty) tree.Nothing;
    children = record {
      child = λ w. record {
        level = omega (arith, level);
        behind = λ x. record { search = refl; rest = λ y. far_rest; called = λ y. one_call };
        search = λ x. below x;
        rest = λ x. search_rest Search refl x;
      };
      parent = λ w. absurd (not_up w);
    };
    owes = record {
      child = λ o. (refl, up_there);
      open_yet = λ o rep. ⊎_elim (λ lt. omega (arith, lt, level)) (λ x. below x.0) rep.past;
      heard = λ s x w no. true_is_false no;
      rest = λ ne. absurd (ne refl);
    };
  }

  -- From the far end.

  abbrev k' : Key
  k' = (port_at g u b).key

  up_now : IsWayUp ks (suc m.head.level) u k'
  up_now = subst (λ x. IsWayUp ks (suc x) u k') (sym level) (subst (λ (x : Key). IsWayUp ks (suc l) u x) (sym same_key) up_there)

  call : CallFits ks (suc l) c d t'
  call = record {
    level = ap suc (sym level);
    core = subst (λ x. IsCore ks x u c) (sym level) core;
    up = up_now;
    rest = far_rest;
    sender_level = ap suc (sym level);
    sender_search = refl;
    sender_mark = refl;
    over = ⊎_elim
        (λ x. inl (subst (λ y. Taken ks y k') (sym level) (subst (λ (y : Key). Taken ks l y) (sym same_key) x)))
        (λ x. inr x)
        over;
  }

  -- who has gone out over the link here is the lesser end of a core, and has begun
  begun : (i : ℕ) → i ≡ m.head.level → IsLeast ks i t.node k' → HasAsked ks i d t'
  begun i lv least = Has_begun (ap suc (sym (lv ∙ level)))
      (subst (λ x. IsLeast ks x u k') (sym (lv ∙ level)) (subst (λ (x : Key). IsLeast ks l u x) (sym same_key) both.0))
      (subst (λ x. x < u) (sym there) both.1) refl
    where
      both : IsLeast ks l u k × (v < u)
      both = meets (subst (λ (x : Key). IsLeast ks l v x) same_key
          (subst (λ x. IsLeast ks l x k') there (subst (λ x. IsLeast ks x t.node k') (lv ∙ level) least)))

  connect_now : (i : ℕ) → ConnectFits ks i d t → ConnectFits ks i d t'
  connect_now i x = ⊎_elim same (λ y. search_rest m.head.phase y.1 far_rest) x.finds
    where
      same : i ≡ m.head.level → ConnectFits ks i d t'
      same lv = record {
        chosen = record { least = x.chosen.least; past = inl (omega (arith, lv, level)); sender = begun i lv x.chosen.least };
        finds = inl lv;
      }

  calls_now : (x : List Message) → CallsFit ks d t x → ◌≡◌ {A = ℕ} (passes_in x) 0 → CallsFit ks d t' (x ++ Initiate (suc l) c ∷ [])
  calls_now _ tree.Nothing none = tree.Called (suc l) c call
  calls_now _ (tree.Chosen i x) none = tree.Chosen_called i (suc l) c (connect_now i x) call
  calls_now _ (tree.Called i name x) none = search_rest n.head.phase x.sender_search rest
  calls_now _ (tree.Chosen_called i j name x y) none = search_rest n.head.phase y.sender_search rest
  calls_now _ (tree.Reported i x) none = search_rest m.head.phase x.search far_rest
  calls_now _ (tree.Passed x) none = one_is_zero none

  pub down_away : LinkFits ks g u b m (entered_as n Branch true c up) (r ++ Initiate (suc l) c ∷ []) q
  down_away = record {
    marks = record {
      branch = hf.marks.branch;
      inside = hf.marks.inside;
      late = λ i lv x ne. search_rest m.head.phase (hf.marks.late i lv x ne).search far_rest;
      leads_out = hf.marks.leads_out;
    };
    names = record {
      said = hf.names.said;
      next = subst (λ x. AreNamesFrom ks t'.node m.port.level x) (sym (names_before r (Initiate (suc l) c ∷ []) refl)) hf.names.next;
      all = subst (λ x. ToldFits ks d t' (m.port.level + length x)) (sym (names_before r (Initiate (suc l) c ∷ []) refl))
          (record {
            at_most = let most = hf.names.all.at_most in omega (arith, most);
            basic = λ x. branch_is_plain x;
            aside = λ no. absurd (no (taken_in_tree ks (suc m.head.level) k' up_now.up.link));
          });
      near = λ x. (omega (arith, level), omega (arith, level));
      rest = hf.names.rest;
    };
    connects = record {
      asked = λ x.
          let a = hf.connects.asked x in
          record { least = a.least; past = inl (omega (arith, level)); sender = begun m.head.level refl a.least };
      out = λ x.
          let o = hf.connects.out x in
          record {
            least = o.least;
            rest = o.rest;
            basic = o.basic;
            answer = Called (ap (λ (y : List Message). connects_in y) empty) refl (ap suc (sym level)) up_now one_call;
            greater = o.greater;
          };
    };
    calls = subst (λ x. CallsFit ks d t' x) (sym (calls_append r (Initiate (suc l) c ∷ []))) (calls_now (calls_in r) hf.calls unpassed_there);
    children = record {
      child = λ w. record {
        level = omega (arith, level);
        behind = λ x. absurd (omega (arith, x, level));
        search = λ x. below (sym x);
        rest = λ x. record { past = inl (omega (arith, level)); heard = λ y. below (sym y) };
      };
      parent = λ w. record { level = inr (ap suc (sym level)); mark = (hf.children.parent w).mark; far_mark = refl };
    };
    owes = record {
      child = hf.owes.child;
      open_yet = λ o. false_is_true (sym (hf.owes.rest (λ s. search_rest m.head.phase s far_rest)) ∙ o);
      heard = λ s. search_rest m.head.phase s far_rest;
      rest = hf.owes.rest;
    };
  }
