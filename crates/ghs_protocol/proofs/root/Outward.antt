-- The root goes out over the best link, to a fragment that hasn't connected to this one.
use Rattle.std.proofs.Common.{◌≡◌, ◌≢◌, ℕ, Bool, true, false, Some, List, [], ◌∷◌, ◌++◌, refl, sym, ◌∙◌, ap, ap₂, subst, subst₂, ⊎_elim, ◌⊎◌, inl, inr}
use Rattle.std.proofs.lemmas.Bool.{cases_eq, cases_Bool}
use Rattle.ghs_graph.specs.declared.key.Key.{Key}
use Rattle.ghs_node.specs.Words.{is_branch}
use Rattle.ghs_node.specs.declared.mark.Mark.TheVariants.{Branch}
use Rattle.ghs_node.specs.declared.message.Message.{Message}
use Rattle.ghs_node.specs.declared.message.Message.TheVariants.{Connect}
use Rattle.peer_network.specs.Network.{Network, port_at, At, far, far_port, InNetwork}
use Rattle.peer_network.proofs.lemmas.Wired.{IsWired}
use Rattle.peer_network.specs.Updates.{put}
use Rattle.ghs_protocol.proofs.clauses.Scene.{Member, Scene, End, TreeEnd, TestEnd, tree_end, end, forest, acts, far_end, test_end}
use Rattle.ghs_protocol.proofs.clauses.Changes.{left_tree, seen_beyond, sent_out}
use Rattle.ghs_protocol.proofs.clauses.TreeMessages.{TreeFits}
use Rattle.ghs_protocol.proofs.clauses.Search.{SearchFits, LeadsOut}
use Rattle.ghs_protocol.proofs.clauses.Tests.{TestsFit}
use Rattle.ghs_protocol.proofs.clauses.Fragments.{Goes_out}
use Rattle.ghs_protocol.proofs.clauses.Rest.{debt}
use Rattle.ghs_protocol.proofs.clauses.Whole.{LinkFits, Invariant, NamesOf}
use Rattle.ghs_protocol.proofs.clauses.Uniting.{SendsRoot}
use Rattle.peer_network.proofs.lemmas.Updates.{put_same, put_other}
use Rattle.ghs_protocol.proofs.root.AtRoot.{AtRoot, at_root}
use Rattle.ghs_protocol.proofs.root.Ways.{Turns}
use Rattle.ghs_protocol.proofs.root.OldLink.{call_append, report_append}
use Rattle.ghs_protocol.proofs.root.Sent.{reroutes}
use Rattle.ghs_protocol.proofs.root.Inward.{at_best, best_apart, leads_to, old_roots}
use Rattle.ghs_protocol.proofs.acts.SameForest.{not_branch}
use Rattle.ghs_protocol.proofs.acts.Situations.{basic_left}
use Rattle.ghs_protocol.proofs.rows.Link.{link_clauses}

-- a port turns Branch: the clauses of Tests
abbrev pub joined_by : TestEnd → TestEnd
joined_by e = record e { mark = Branch }

pub tests_branch : (e f : TestEnd) → TestsFit e f → TestsFit (joined_by e) f
tests_branch e f h = record {
  probing = λ p. let z = h.probing p in record { one = z.one; from = z.from; accepted = z.accepted; rejected = z.rejected };
  not_probing = λ p.
      let z = h.not_probing p in
      record {
        accepts = z.accepts;
        rejects = z.rejects;
        one = z.one;
        crossed = λ l.
            let c = z.crossed l in
            record { probe = c.probe; same = c.same; mark = λ y. cc; tests = c.tests; accepts = c.accepts; rejects = c.rejects; from = c.from };
      };
}

pub tests_branch' : (e f : TestEnd) → TestsFit f e → TestsFit f (joined_by e)
tests_branch' e f h = record {
  probing = λ p.
      let z = h.probing p in
      record { one = z.one; from = z.from; accepted = z.accepted; rejected = λ l. let r = z.rejected l in (r.0, (λ y. cc), r.2) };
  not_probing = λ p.
      let z = h.not_probing p in
      record {
        accepts = z.accepts;
        rejects = z.rejects;
        one = z.one;
        crossed = λ l.
            let c = z.crossed l in
            record { probe = c.probe; same = c.same; mark = c.mark; tests = c.tests; accepts = c.accepts; rejects = c.rejects; from = c.from };
      };
}

-- e has connected over the link
abbrev pub connected : TreeEnd → TreeEnd
connected e = record e { up = Some e.port; mark = Branch }

abbrev pub asked_by : TreeEnd → ℕ → TreeEnd
asked_by f l = record f { tree = f.tree ++ Connect l ∷ [] }

-- the far end hasn't connected
module _ (e f : TreeEnd) (k : Key) (mark : e.mark ≢ Branch) (mark' : f.mark ≢ Branch) (out : LeadsOut e f k) (top : e.level ≡ e.coming)
    (s : SearchFits e f) (s' : SearchFits f e) where
  pub tree_connects : {N : ℕ → Key → Type 0} → TreeFits N e f → TreeFits N f e → TreeFits N (connected e) (asked_by f e.level)
  tree_connects h h' = record {
    out_connect = λ o. record {
      mark = basic_left f.mark mark' (λ z. out.apart (s'.rejected_inside z));
      up = refl;
      apart = out.apart;
      level = top;
      higher = out.higher;
      one = ap (λ t. t ++ Connect e.level ∷ []) (h'.silent mark' mark);
      none = h.silent mark mark';
    };
    silent = λ x y. absurd (x refl);
    core_ends = λ j n. absurd (mark' j.there);
    upward = λ c. absurd (mark' c.joins.there);
    downward = λ c. absurd (mark' c.joins.there);
    core_queues = λ c. absurd (mark' c.both.joins.there);
    moved_root = λ c. absurd (mark' c.both.joins.there);
  }

  pub tree_connects' : {N : ℕ → Key → Type 0} → TreeFits N (asked_by f e.level) (connected e)
  tree_connects' = record {
    out_connect = λ o. absurd (mark' o.here);
    silent = λ x y. absurd (y refl);
    core_ends = λ j n. absurd (mark' j.here);
    upward = λ c. absurd (mark' c.joins.here);
    downward = λ c. absurd (mark' c.joins.here);
    core_queues = λ c. absurd (mark' c.both.joins.here);
    moved_root = λ c. absurd (mark' c.both.joins.here);
  }

  pub search_connects : SearchFits (connected e) (asked_by f e.level)
  search_connects = record {
    rejected_inside = λ z. cc;
    find_leads = λ l x y z. absurd (z refl);
    find_reported = λ l x y j. absurd (mark' j.there);
  }

  pub search_connects' : SearchFits (asked_by f e.level) (connected e)
  search_connects' = record {
    rejected_inside = s'.rejected_inside;
    find_leads = λ l x y z. let t = s'.find_leads l x y z in record { key = t.key; apart = t.apart; higher = t.higher };
    find_reported = λ l x y j. absurd (mark' j.here);
  }

-- e, whose node is m then, connects over the link to f, which hasn't
module _ (N : ℕ → Key → Type 0) (e f : End) (m : Member) (k : Key) (mark : e.mark ≢ Branch) (mark' : f.mark ≢ Branch)
    (out : LeadsOut (tree_end e) (tree_end f) k) (top : e.is.head.level ≡ e.is.coming) (h : LinkFits N e f) (h' : LinkFits N f e)
    (tree : tree_end (record e { mark = Branch; is = m }) ≡ connected (tree_end e))
    (tests : test_end (record e { mark = Branch; is = m }) ≡ joined_by (test_end e)) where
  abbrev pub connecting : End
  connecting = record e { mark = Branch; is = m }

  abbrev pub asked_end : End
  asked_end = record f { seen = record f.seen { tree = f.seen.tree ++ Connect e.is.head.level ∷ [] } }

  pub connects_near : LinkFits N connecting asked_end
  connects_near = record {
    tree =
        subst (λ t. TreeFits N t (asked_by (tree_end f) e.is.head.level)) (sym tree)
        (tree_connects (tree_end e) (tree_end f) k mark mark' out top h.search h'.search h.tree h'.tree);
    search =
        subst (λ t. SearchFits t (asked_by (tree_end f) e.is.head.level)) (sym tree)
        (search_connects (tree_end e) (tree_end f) k mark mark' out top h.search h'.search);
    tests = subst (λ t. TestsFit t (test_end f)) (sym tests) (tests_branch _ _ h.tests);
  }

  pub connects_far : LinkFits N asked_end connecting
  connects_far = record {
    tree =
        subst (TreeFits N (asked_by (tree_end f) e.is.head.level)) (sym tree)
        (tree_connects' (tree_end e) (tree_end f) k mark mark' out top h.search h'.search);
    search =
        subst (SearchFits (asked_by (tree_end f) e.is.head.level)) (sym tree)
        (search_connects' (tree_end e) (tree_end f) k mark mark' out top h.search h'.search);
    tests = subst (TestsFit (test_end f)) (sym tests) (tests_branch' _ _ h'.tests);
  }

module _ (g : Network) (wired : IsWired g) (u : ℕ) (u_is : InNetwork g u) (j : ℕ) (at : At g u j) (w : Scene) (holds : Invariant g w)
    (ms : List Message) (root : AtRoot g w u j ms)
    (b : ℕ) (k : Key) (best : (w.at u).head.best ≡ Some (b, k)) (mark : (w.at u).mark b ≢ Branch) where
  atb : At g u b
  atb = at_best g wired u u_is j at w holds ms root b k best

  open link_clauses g wired w holds u b atb use {link as out_link, link' as out_link'}

  pub leads_out : LeadsOut (tree_end (end g w u b)) (tree_end (far_end g w u b)) k
  leads_out = out_link.search.find_leads k best root.top mark

  goes : Member
  goes = sent_out (w.at u) b

  -- which ports are Branch afterwards
  abbrev pub branch_now : ℕ → ℕ → Bool
  branch_now v p = is_branch ((put w.at u (sent_out (w.at u) b) v).mark p)

  pub branch_here : branch_now u b ≡ true
  branch_here = ap (λ (m : Member). is_branch (m.mark b)) (put_same w.at u _) ∙ ap is_branch (put_same (w.at u).mark b Branch)

  pub branch_else : (v p : ℕ) → ((v ≡ u) × (p ≡ b) → ⊥) → branch_now v p ≡ is_branch ((w.at v).mark p)
  branch_else v p ne = ⊎_elim same (λ no. ap (λ (m : Member). is_branch (m.mark p)) (put_other w.at u v _ no)) (cases_eq v u)
    where
      same : v ≡ u → branch_now v p ≡ is_branch ((w.at v).mark p)
      same e =
          subst (λ y. branch_now y p ≡ is_branch ((w.at y).mark p)) (sym e)
          (ap (λ (m : Member). is_branch (m.mark p)) (put_same w.at u _) ∙ ap is_branch (put_other (w.at u).mark b p Branch (λ z. ne (e, z))))

  pub branch_more : (v p : ℕ) → is_branch ((w.at v).mark p) ≡ true → branch_now v p ≡ true
  branch_more v p h =
      ⊎_elim (λ e. ⊎_elim
      (λ e'. subst₂ (λ y z. branch_now y z ≡ true) (sym e) (sym e') branch_here)
      (λ ne. branch_else v p (λ z. ne z.1) ∙ h)
      (cases_eq p b))
      (λ ne. branch_else v p (λ z. ne z.0) ∙ h) (cases_eq v u)

  pub branch_less : (v p : ℕ) → branch_now v p ≡ false → is_branch ((w.at v).mark p) ≡ false
  branch_less v p h = ⊎_elim (λ e. absurd (let z = branch_more v p e in cc (z, h))) (λ e. e) (cases_Bool (is_branch ((w.at v).mark p)))

  pub branch_is : (v p : ℕ) → branch_now v p ≡ true → ((v ≡ u) × (p ≡ b)) ⊎ (is_branch ((w.at v).mark p) ≡ true)
  branch_is v p h =
      ⊎_elim
      (λ e. ⊎_elim (λ e'. inl (e, e')) (λ ne. inr (sym (branch_else v p (λ z. ne z.1)) ∙ h)) (cases_eq p b))
      (λ ne. inr (sym (branch_else v p (λ z. ne z.0)) ∙ h))
      (cases_eq v u)

  module _ (mark' : (w.at (far g u b)).mark (far_port g u b) ≢ Branch) where
    far_none : is_branch ((w.at (far g u b)).mark (far_port g u b)) ≡ false
    far_none = not_branch _ mark'

    -- this link has no Branch but here
    not_far : (v p : ℕ) → At g v p → far g v p ≡ u → far_port g v p ≡ b → is_branch ((w.at v).mark p) ≡ false
    not_far v p at' e h =
        subst₂ (λ y z. is_branch ((w.at y).mark z) ≡ false) (ap₂ (far g) (sym e) (sym h) ∙ wired.back v p at')
        (ap₂ (far_port g) (sym e) (sym h) ∙ wired.back_port v p at') far_none

    turns : Turns g (forest w) u b branch_now
    turns = record {
      at = atb;
      keeps = λ v p at' l. record { here = branch_more v p l.here; there = branch_more _ _ l.there };
      only = λ v p at' l. record { here = was v p at' l.here l.there; there = was' v p at' l.here l.there };
      out_keeps = λ v p at' x y. (branch_more v p x, branch_else _ _ (λ z. let n = not_far v p at' z.0 z.1 in cc (n, x)) ∙ y);
      out_only = λ v p at' x y. ⊎_elim inl (λ h. inr (h, branch_less _ _ y)) (branch_is v p x);
      led = leads_to g wired u u_is j at w holds ms root b k best;
      old = old_roots g wired u u_is j at w holds ms root b k best;
      root = Goes_out branch_here (branch_else _ _ (λ z. wired.apart u b atb z.0) ∙ far_none);
    }
      where
        far_is : (v p : ℕ) → At g v p → v ≡ u → p ≡ b → branch_now (far g v p) (far_port g v p) ≡ true → ⊥
        far_is v p at' e h x =
            let n = subst₂ (λ y z. branch_now (far g y z) (far_port g y z) ≡ true) e h x in
            let o = branch_else (far g u b) (far_port g u b) (λ z. wired.apart u b atb z.0) ∙ far_none in cc (n, o)

        was : (v p : ℕ) → At g v p → branch_now v p ≡ true → branch_now (far g v p) (far_port g v p) ≡ true → is_branch ((w.at v).mark p) ≡ true
        was v p at' x y = ⊎_elim (λ z. absurd (far_is v p at' z.0 z.1 y)) (λ h. h) (branch_is v p x)

        was' : (v p : ℕ) →
            At g v p →
            branch_now v p ≡ true →
            branch_now (far g v p) (far_port g v p) ≡ true →
            is_branch ((w.at (far g v p)).mark (far_port g v p)) ≡ true
        was' v p at' x y = ⊎_elim (λ z. absurd (let n = not_far v p at' z.0 z.1 in let o = was v p at' x y in cc (n, o))) (λ h. h) (branch_is _ _ y)

    abbrev sender : End
    sender = record { port = b; key = (port_at g u b).key; mark = Branch; is = sent_out (w.at u) b; seen = w.seen u b }

    abbrev sender' : End
    sender' = record { port = b; key = (port_at g u b).key; mark = put (w.at u).mark b Branch b; is = sent_out (w.at u) b; seen = w.seen u b }

    abbrev receiver : End
    receiver = record (far_end g w u b) {
      seen = record (seen_beyond g w u b) { tree = (seen_beyond g w u b).tree ++ Connect (w.at u).head.level ∷ [] };
    }

    marked : sender ≡ sender'
    marked = λ i. record {
      port = b;
      key = (port_at g u b).key;
      mark = sym (put_same (w.at u).mark b Branch) i;
      is = sent_out (w.at u) b;
      seen = w.seen u b;
    }

    owing : debt receiver sender' ≡ debt (far_end g w u b) (end g w u b)
    owing = rw (report_append (Connect (w.at u).head.level) refl (seen_beyond g w u b).tree) refl

    pub goes_out : Invariant g (acts g u (sent_out (w.at u) b) (left_tree w u j ms) ((b, Connect (w.at u).head.level) ∷ []) w)
    goes_out =
        reroutes g wired u u_is j at w holds ms root b atb (best_apart g wired u u_is j at w holds ms root b k best)
        (put (w.at u).mark b Branch) (put_same (w.at u).mark b Branch)
        (λ i ne. put_other (w.at u).mark b i Branch ne)
        (Connect (w.at u).head.level) (λ q n. call_append (Connect (w.at u).head.level) refl q.tree ∙ n) turns
        (subst (λ e. LinkFits (NamesOf g w) e receiver) marked
        (connects_near (NamesOf g w) (end g w u b) (far_end g w u b) (sent_out (w.at u) b) k mark mark' leads_out root.top
        out_link out_link' refl refl))
        (subst (LinkFits (NamesOf g w) receiver) marked
        (connects_far (NamesOf g w) (end g w u b) (far_end g w u b) (sent_out (w.at u) b) k mark mark' leads_out root.top
        out_link out_link' refl refl))
        owing

-- a step: the root goes out over its best link, the far end not being a Branch
pub connects_out :
    (g : Network) (wired : IsWired g) (u : ℕ) (u_is : InNetwork g u) (w : Scene) (holds : Invariant g w) (j : ℕ) (at : At g u j)
    (ms : List Message) (b : ℕ) (k : Key) →
    SendsRoot w u j ms → (w.at u).head.best ≡ Some (b, k) → (w.at u).mark b ≢ Branch → (w.at (far g u b)).mark (far_port g u b) ≢ Branch →
    Invariant g (acts g u (sent_out (w.at u) b) (left_tree w u j ms) ((b, Connect (w.at u).head.level) ∷ []) w)
connects_out g wired u u_is w holds j at ms b k calls best mark mark' =
    goes_out g wired u u_is j at w holds ms (at_root g wired u u_is j at w holds ms calls) b k best mark mark'
