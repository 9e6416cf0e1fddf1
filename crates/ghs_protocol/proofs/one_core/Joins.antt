-- In each step as many links are joined as fragments become one with another.
use Rattle.std.proofs.Common.{◌≡◌, ◌≢◌, ℕ, ◌+◌, ◌*◌, Option, Some, refl, sym, ◌∙◌, ap, ap₂, subst, subst₂, ⊎_elim, ◌⊎◌, inl, inr, get_or, get_or-set_same, arith}
use Rattle.std.proofs.lemmas.Bool.{cases_eq}
use Rattle.ghs_node.specs.declared.mark.Mark.{Mark}
use Rattle.ghs_node.specs.declared.mark.Mark.TheVariants.{Basic, Branch, Rejected}
use Rattle.ghs_node.specs.declared.delta.Delta.{Delta}
use Rattle.ghs_node.specs.Laws.{MarkChange, Stays, To_branch, To_rejected}
use Rattle.ghs_node.specs.NodeState.{NodeState, mark_at, with_mark}
use Rattle.ghs_node.specs.Reaction.{after}
use Rattle.ghs_node.specs.Words.{is_branch}
use Rattle.ghs_node.proofs.lemmas.{mark_set, awake_marks, branch_mark}
use Rattle.peer_network.specs.Network.{Network, At, InNetwork, far, far_port}
use Rattle.ghs_protocol.specs.Net.{Net, take_first}
use Rattle.peer_network.specs.Updates.{put, put_at}
use Rattle.ghs_protocol.specs.Marks.{Leads, Here, Over}
use Rattle.peer_network.specs.Sums.{sum_over_ports}
use Rattle.ghs_protocol.specs.Nodes.{IsNodeOf}
use Rattle.ghs_protocol.specs.Steps.{Step, Wakes_up, Takes_one, reacted, waking}
use Rattle.peer_network.proofs.lemmas.Wired.{IsWired}
use Rattle.ghs_protocol.proofs.lemmas.Nodes.{ports_many}
use Rattle.ghs_protocol.proofs.lemmas.Sends.{node_here, node_there}
use Rattle.peer_network.proofs.lemmas.Sums.{ports_one, ports_same}
use Rattle.ghs_protocol.proofs.lemmas.Lasting.{AllLast}
use Rattle.peer_network.proofs.lemmas.Updates.{put_same, put_other}
use Rattle.ghs_protocol.proofs.clauses.Scene.{Ghost, scene, forest}
use Rattle.ghs_protocol.proofs.clauses.Fragments.{IsJoinedIn}
use Rattle.ghs_protocol.proofs.clauses.Whole.{Invariant}
use Rattle.ghs_protocol.proofs.clauses.Growing.{Grows, As_it_was, Meets, Takes_in}
use Rattle.ghs_protocol.proofs.search.FirstReport.{mark_is}
use Rattle.ghs_protocol.proofs.rows.Link.{link_fits'}
use Rattle.ghs_protocol.proofs.one_core.Connects.{one_if_branch, not_one, wake_change}

-- 1 for a joined link, at each of its ends
abbrev pub one_if_joined : Mark → Mark → ℕ
one_if_joined Basic n = 0
one_if_joined Branch n = one_if_branch n
one_if_joined Rejected n = 0

-- how many ports are those of joined links
abbrev pub joined_ports : Network → Net → ℕ
joined_ports g w = sum_over_ports g (λ v p. one_if_joined (mark_at (w.node v) p) (mark_at (w.node (far g v p)) (far_port g v p)))

pub not_joined : (m n : Mark) → m ≢ Branch → one_if_joined m n ≡ 0
not_joined Basic n ne = refl
not_joined Branch n ne = absurd (ne refl)
not_joined Rejected n ne = refl

not_joined_there : (m n : Mark) → n ≢ Branch → one_if_joined m n ≡ 0
not_joined_there Basic n ne = refl
not_joined_there Branch n ne = not_one n ne
not_joined_there Rejected n ne = refl

both_joined : (m n : Mark) → m ≡ Branch → n ≡ Branch → one_if_joined m n ≡ 1
both_joined m n e f = ap₂ one_if_joined e f

-- two ends are Branch before and after
same_joined : (m n m' n' : Mark) → (m ≡ Branch → m' ≡ Branch) → (m' ≡ Branch → m ≡ Branch) → (n ≡ Branch → n' ≡ Branch) →
    (n' ≡ Branch → n ≡ Branch) → one_if_joined m n ≡ one_if_joined m' n'
same_joined m n m' n' a b c d =
    ⊎_elim
    (λ x. ⊎_elim (λ y. both_joined m n x y ∙ sym (both_joined m' n' (a x) (c y)))
    (λ y. not_joined_there m n y ∙ sym (not_joined_there m' n' (λ z. y (d z)))) (mark_is n))
    (λ x. not_joined m n x ∙ sym (not_joined m' n' (λ z. x (b z)))) (mark_is m)

put_here : (k : ℕ → ℕ → ℕ) (v q n : ℕ) → put_at k v q n v q ≡ n
put_here k v q n = ap (λ (x : ℕ → ℕ). x q) (put_same k v (put (k v) q n)) ∙ put_same (k v) q n

put_there : (k : ℕ → ℕ → ℕ) (v q n u p : ℕ) → ((u ≡ v) × (p ≡ q) → ⊥) → put_at k v q n u p ≡ k u p
put_there k v q n u p out =
    ⊎_elim
    (λ (e : u ≡ v).
    subst (λ z. put k v (put (k v) q n) z p ≡ k z p) (sym e)
    (ap (λ (x : ℕ → ℕ). x p) (put_same k v (put (k v) q n)) ∙ put_other (k v) q p n (λ z. out (e, z))))
    (λ ne. ap (λ (x : ℕ → ℕ). x p) (put_other k v u (put (k v) q n) ne)) (cases_eq u v)

-- which ports have become Branch: none, or one
pub data Branched (g : Network) (w w' : Net) : Type 0 where
  No_port : ((u p : ℕ) → mark_at (w'.node u) p ≡ Branch → mark_at (w.node u) p ≡ Branch) → Branched g w w'
  One_port : (v q : ℕ) → At g v q →
      mark_at (w.node v) q ≢ Branch →
      mark_at (w'.node v) q ≡ Branch →
      ((u p : ℕ) → ((u ≡ v) × (p ≡ q) → ⊥) → mark_at (w'.node u) p ≡ Branch → mark_at (w.node u) p ≡ Branch) →
      Branched g w w'

module _ (g : Network) (w w' : Net) (v : ℕ) (v_is : InNetwork g v) (is : IsNodeOf g v (w.node v)) (d : Delta)
    (here : w'.node v ≡ after (w.node v) d) (there : (u : ℕ) → u ≢ v → w'.node u ≡ w.node u) where
  -- the marks of v
  abbrev now : ℕ → Mark
  now p = get_or (with_mark (w.node v).marks d.mark) p Rejected

  is_now : (p : ℕ) → mark_at (w'.node v) p ≡ get_or (with_mark (w.node v).marks d.mark) p Rejected
  is_now p = ap (λ (n : NodeState). mark_at n p) here

  -- what holds at v holds everywhere
  everywhere : (X : ℕ → ℕ → Type 0) →
      ((p : ℕ) → (X v p → ⊥) → get_or (with_mark (w.node v).marks d.mark) p Rejected ≡ Branch → mark_at (w.node v) p ≡ Branch) →
      (u p : ℕ) → (X u p → ⊥) → mark_at (w'.node u) p ≡ Branch → mark_at (w.node u) p ≡ Branch
  everywhere X at u p out e =
      ⊎_elim
      (λ (x : u ≡ v).
      subst (λ y. (X y p → ⊥) → mark_at (w'.node y) p ≡ Branch → mark_at (w.node y) p ≡ Branch) (sym x)
      (λ no' e'. at p no' (sym (is_now p) ∙ e')) out e)
      (λ ne. sym (ap (λ (n : NodeState). mark_at n p) (there u ne)) ∙ e) (cases_eq u v)

  pub branched : (o : Option (ℕ × Mark)) → d.mark ≡ o → MarkChange (w.node v) o → Branched g w w'
  branched _ e Stays =
      No_port (λ u p m. everywhere (λ a b. ⊥) (λ q no z. sym (ap (λ x. get_or (with_mark (w.node v).marks x) q Rejected) e) ∙ z) u p (λ z. z) m)
  branched _ e (To_rejected q lt b) =
      No_port
      (λ u p m.
      everywhere (λ a b. ⊥)
      (λ r no z.
      let y : get_or (with_mark (w.node v).marks (Some (q, Rejected))) r Rejected ≡ Branch =
      sym (ap (λ x. get_or (with_mark (w.node v).marks x) r Rejected) e) ∙ z in
      ⊎_elim (λ s. sym s ∙ y) (λ s. absurd (let x : Rejected ≡ Branch = sym s.1 ∙ y in cc)) (mark_set (w.node v).marks q r Rejected))
      u p (λ z. z) m)
  branched _ e (To_branch q lt) = ⊎_elim old new (mark_is (mark_at (w.node v) q))
    where
      set : (r : ℕ) → get_or (with_mark (w.node v).marks d.mark) r Rejected ≡ Branch → (mark_at (w.node v) r ≡ Branch) ⊎ (r ≡ q)
      set r z =
          let y : get_or (with_mark (w.node v).marks (Some (q, Branch))) r Rejected ≡ Branch =
          sym (ap (λ x. get_or (with_mark (w.node v).marks x) r Rejected) e) ∙ z in
          ⊎_elim (λ s. inl (sym s ∙ y)) (λ s. inr s.0) (mark_set (w.node v).marks q r Branch)

      old : mark_at (w.node v) q ≡ Branch → Branched g w w'
      old m =
          No_port
          (λ u p h.
          everywhere (λ a b. ⊥)
          (λ r no z. ⊎_elim (λ s. s) (λ s. subst (λ y. mark_at (w.node v) y ≡ Branch) (sym s) m) (set r z)) u p (λ z. z) h)

      new : mark_at (w.node v) q ≢ Branch → Branched g w w'
      new m =
          One_port v q (record { some = v_is.some; node = v_is.node; port = omega (arith, lt, ports_many is) }) m
          (is_now q ∙ ap (λ x. get_or (with_mark (w.node v).marks x) q Rejected) e ∙ get_or-set_same (w.node v).marks q Branch Rejected lt)
          (λ u p no h.
          everywhere (λ a b. (a ≡ v) × (b ≡ q)) (λ r no' z. ⊎_elim (λ s. s) (λ s. absurd (no' (refl, s))) (set r z)) u p no h)

pub step_branched : (g : Network) (w w' : Net) → ((v : ℕ) → IsNodeOf g v (w.node v)) → Step g w w' → Branched g w w'
step_branched g w _ nodes (Wakes_up v lo hi sleeps) =
    branched g w (reacted g v (waking (w.node v)) w) v (record { some = lo; node = hi }) (nodes v) (waking (w.node v))
    (node_here g v (waking (w.node v)) w) (node_there g v (waking (w.node v)) w) (waking (w.node v)).mark refl
    (wake_change (w.node v) (w.node v).marks refl)
step_branched g w _ nodes (Takes_one v p m ms d at q up row) =
    branched g w (reacted g v d (take_first d.fate v p m ms w)) v (record { some = at.some; node = at.node }) (nodes v) d
    (node_here g v d (take_first d.fate v p m ms w)) (node_there g v d (take_first d.fate v p m ms w)) d.mark refl
    (awake_marks (nodes v).node (let lt = at.port in omega (arith, lt, ports_many (nodes v))) row)

-- how the number of joined ports changes
module _ (g : Network) (wired : IsWired g) (w w' : Net) (lasts : AllLast w w') where
  f : ℕ → ℕ → ℕ
  f v p = one_if_joined (mark_at (w.node v) p) (mark_at (w.node (far g v p)) (far_port g v p))

  h : ℕ → ℕ → ℕ
  h v p = one_if_joined (mark_at (w'.node v) p) (mark_at (w'.node (far g v p)) (far_port g v p))

  stays : (u p : ℕ) → mark_at (w.node u) p ≡ Branch → mark_at (w'.node u) p ≡ Branch
  stays u p = (lasts u).branch p

  none_more : ((u p : ℕ) → mark_at (w'.node u) p ≡ Branch → mark_at (w.node u) p ≡ Branch) → joined_ports g w' ≡ joined_ports g w
  unfolding f h
  none_more was =
      sym
      (ports_same g f h
      (λ u p at.
      same_joined _ _ _ _ (stays u p) (was u p) (stays (far g u p) (far_port g u p)) (was (far g u p) (far_port g u p))))

  module _ (v q : ℕ) (at : At g v q) (free : mark_at (w.node v) q ≢ Branch) (set : mark_at (w'.node v) q ≡ Branch)
      (was : (u p : ℕ) → ((u ≡ v) × (p ≡ q) → ⊥) → mark_at (w'.node u) p ≡ Branch → mark_at (w.node u) p ≡ Branch) where
    x : ℕ
    x = far g v q

    y : ℕ
    y = far_port g v q

    at' : At g (far g v q) (far_port g v q)
    at' = wired.there v q at

    other : (far g v q ≡ v) × (far_port g v q ≡ q) → ⊥
    other e = wired.apart v q at e.0

    -- a port that is neither end of the link
    aside : (u p : ℕ) → At g u p → ((u ≡ v) × (p ≡ q) → ⊥) → ((u ≡ far g v q) × (p ≡ far_port g v q) → ⊥) → f u p ≡ h u p
    unfolding f h
    aside u p atu n1 n2 = same_joined _ _ _ _ (stays u p) (was u p n1) (stays (far g u p) (far_port g u p)) (was (far g u p) (far_port g u p) across)
      where
        across : (far g u p ≡ v) × (far_port g u p ≡ q) → ⊥
        across e =
            n2
            (sym (wired.back u p atu) ∙ ap₂ (far g) e.0 e.1, sym (wired.back_port u p atu) ∙ ap₂ (far_port g) e.0 e.1)

    cases_port : (u p a b : ℕ) → ((u ≡ a) × (p ≡ b)) ⊎ ((u ≡ a) × (p ≡ b) → ⊥)
    cases_port u p a b =
        ⊎_elim (λ e. ⊎_elim (λ d. inl (e, d)) (λ ne. inr (λ z. ne z.1)) (cases_eq p b)) (λ ne. inr (λ z. ne z.0)) (cases_eq u a)

    back_free : mark_at (w.node (far g (far g v q) (far_port g v q))) (far_port g (far g v q) (far_port g v q)) ≢ Branch
    back_free = subst₂ (λ a b. mark_at (w.node a) b ≢ Branch) (sym (wired.back v q at)) (sym (wired.back_port v q at)) free

    back_set : mark_at (w'.node (far g (far g v q) (far_port g v q))) (far_port g (far g v q) (far_port g v q)) ≡ Branch
    back_set = subst₂ (λ a b. mark_at (w'.node a) b ≡ Branch) (sym (wired.back v q at)) (sym (wired.back_port v q at)) set

    -- the far end isn't Branch
    out : mark_at (w.node (far g v q)) (far_port g v q) ≢ Branch → joined_ports g w' ≡ joined_ports g w
    unfolding f h
    out ne = sym (ports_same g f h each)
      where
        ne' : mark_at (w'.node (far g v q)) (far_port g v q) ≢ Branch
        ne' z = ne (was (far g v q) (far_port g v q) other z)

        mine : f v q ≡ h v q
        mine = not_joined_there _ _ ne ∙ sym (not_joined_there _ _ ne')

        theirs : f (far g v q) (far_port g v q) ≡ h (far g v q) (far_port g v q)
        theirs = not_joined _ _ ne ∙ sym (not_joined _ _ ne')

        each : (u p : ℕ) → At g u p → f u p ≡ h u p
        each u p atu =
            ⊎_elim (λ e. subst₂ (λ a b. f a b ≡ h a b) (sym e.0) (sym e.1) mine)
            (λ no.
            ⊎_elim (λ e. subst₂ (λ a b. f a b ≡ h a b) (sym e.0) (sym e.1) theirs) (λ no'. aside u p atu no no')
            (cases_port u p (far g v q) (far_port g v q)))
            (cases_port u p v q)

    -- the far end is
    meets : mark_at (w.node (far g v q)) (far_port g v q) ≡ Branch → joined_ports g w' ≡ joined_ports g w + 2
    unfolding f h
    meets m =
        omega (
          arith,
          ports_one g f mid v q at (λ a b out. sym (put_there f v q (h v q) a b out)),
          ports_one g mid last (far g v q) (far_port g v q) at'
              (λ a b out. sym (put_there mid (far g v q) (far_port g v q) (h (far g v q) (far_port g v q)) a b out)),
          ports_same g h last rest,
          mine,
          own,
          own',
          theirs,
          theirs',
          theirs'',
        )
      where
        mid : ℕ → ℕ → ℕ
        mid = put_at f v q (h v q)

        last : ℕ → ℕ → ℕ
        last = put_at (put_at f v q (h v q)) (far g v q) (far_port g v q) (h (far g v q) (far_port g v q))

        mine : f v q ≡ 0
        mine = not_joined _ _ free

        own : put_at f v q (h v q) v q ≡ h v q
        own = put_here f v q (h v q)

        own' : h v q ≡ 1
        own' = both_joined _ _ set (stays (far g v q) (far_port g v q) m)

        theirs : put_at f v q (h v q) (far g v q) (far_port g v q) ≡ 0
        theirs = put_there f v q (h v q) (far g v q) (far_port g v q) other ∙ not_joined_there _ _ back_free

        theirs' : put_at (put_at f v q (h v q)) (far g v q) (far_port g v q) (h (far g v q) (far_port g v q)) (far g v q) (far_port g v q) ≡
            h (far g v q) (far_port g v q)
        theirs' = put_here (put_at f v q (h v q)) (far g v q) (far_port g v q) (h (far g v q) (far_port g v q))

        theirs'' : h (far g v q) (far_port g v q) ≡ 1
        theirs'' = both_joined _ _ (stays (far g v q) (far_port g v q) m) back_set

        rest : (a b : ℕ) →
            At g a b →
            h a b ≡ put_at (put_at f v q (h v q)) (far g v q) (far_port g v q) (h (far g v q) (far_port g v q)) a b
        rest a b atu =
            ⊎_elim (λ e. subst₂ (λ c d. h c d ≡ put_at (put_at f v q (h v q)) (far g v q) (far_port g v q) (h (far g v q) (far_port g v q)) c d)
            (sym e.0) (sym e.1) (sym theirs'))
            (λ n2.
            ⊎_elim
            (λ e.
            subst₂ (λ c d. h c d ≡ put_at f v q (h v q) c d) (sym e.0) (sym e.1) (sym own) ∙
            sym (put_there (put_at f v q (h v q)) (far g v q) (far_port g v q) (h (far g v q) (far_port g v q)) a b n2))
            (λ n1.
            sym (aside a b atu n1 n2) ∙ sym (put_there f v q (h v q) a b n1) ∙
            sym (put_there (put_at f v q (h v q)) (far g v q) (far_port g v q) (h (far g v q) (far_port g v q)) a b n2))
            (cases_port a b v q))
            (cases_port a b (far g v q) (far_port g v q))

    -- a link is joined, or none is
    pub one_more :
        ((mark_at (w.node (far g v q)) (far_port g v q) ≡ Branch) × (joined_ports g w' ≡ joined_ports g w + 2)) ⊎
        ((mark_at (w.node (far g v q)) (far_port g v q) ≢ Branch) × (joined_ports g w' ≡ joined_ports g w))
    one_more =
        ⊎_elim (λ m. inl (m, meets m)) (λ ne. inr (ne, out ne)) (mark_is (mark_at (w.node (far g v q)) (far_port g v q)))

-- fragments become one exactly where a link is joined
module _ (g : Network) (wired : IsWired g) (w w' : Net) (lasts : AllLast w w') (gh gh' : Ghost) (holds : Invariant g (scene w gh))
    (holds' : Invariant g (scene w' gh')) where
  abbrev Joined_before : Type 0
  Joined_before = (u p : ℕ) → At g u p → IsJoinedIn g (forest (scene w' gh')) u p → IsJoinedIn g (forest (scene w gh)) u p

  -- where no link is newly joined, who lies in one fragment did
  led : Joined_before → {x y : ℕ} → Leads g (IsJoinedIn g (forest (scene w' gh'))) x y → gh.fragment x ≡ gh.fragment y
  led old Here = refl
  led old {x} (Over p at j l) = holds.trees.joined_within x p at (old x p at j) ∙ led old l

  no_new : Joined_before → (v p : ℕ) → At g v p →
      gh.fragment (far g v p) ≢ gh.fragment v →
      gh'.fragment v ≡ gh'.fragment (far g v p) →
      ⊥
  no_new old v p at apart e =
      let t = wired.there v p at in
      apart
      (sym
      (led old (holds'.trees.connected v (far g v p) (record { some = at.some; node = at.node }) (record { some = t.some; node = t.node }) e)))

  no_growth : Joined_before → (t n : ℕ) → Grows g gh gh' t n → ◌≡◌ {A = ℕ} n 0
  no_growth old _ _ (As_it_was a b c) = refl
  no_growth old _ _ (Meets v p here there levels grown) =
      absurd (no_new old v p here.at here.out (grown.inside v (inr refl) ∙ sym (grown.inside (far g v p) (inl refl))))
  no_growth old _ _ (Takes_in v p at there lt grown) =
      absurd
      (no_new old v p at
      (λ e. there.out (ap gh.fragment (wired.back v p at) ∙ sym e))
      (grown.inside v (inr refl) ∙ sym (grown.inside (far g v p) (inl refl))))

  module _ (v q : ℕ) (at : At g v q) (free : mark_at (w.node v) q ≢ Branch) (set : mark_at (w'.node v) q ≡ Branch)
      (was : (u p : ℕ) → ((u ≡ v) × (p ≡ q) → ⊥) → mark_at (w'.node u) p ≡ Branch → mark_at (w.node u) p ≡ Branch) where
    -- a link that is joined now lies between two fragments that have become one
    growth : mark_at (w.node (far g v q)) (far_port g v q) ≡ Branch → (t n : ℕ) → Grows g gh gh' t n → ◌≡◌ {A = ℕ} n 1
    growth m _ _ (Meets a b c d e f) = refl
    growth m _ _ (Takes_in a b c d e f) = refl
    growth m _ _ (As_it_was a b c) =
        absurd
        (((link_fits' g wired (scene w gh) holds v q at).tree.out_connect (record { here = m; there = free })).apart where_same)
      where
        joined : IsJoinedIn g (forest (scene w' gh')) v q
        joined = record { here = ap is_branch set; there = ap is_branch ((lasts (far g v q)).branch (far_port g v q) m) }

        where_same : gh.fragment v ≡ gh.fragment (far g v q)
        where_same = (λ i. sym a i v) ∙ holds'.trees.joined_within v q at joined ∙ (λ i. a i (far g v q))

    -- where the far end isn't Branch no link is newly joined
    old : mark_at (w.node (far g v q)) (far_port g v q) ≢ Branch → Joined_before
    old ne u p atu j = record { here = ap is_branch (was u p n1 here); there = ap is_branch (was (far g u p) (far_port g u p) n2 there) }
      where
        here : mark_at (w'.node u) p ≡ Branch
        here = branch_mark _ j.here

        there : mark_at (w'.node (far g u p)) (far_port g u p) ≡ Branch
        there = branch_mark _ j.there

        theirs : mark_at (w'.node (far g v q)) (far_port g v q) ≡ Branch → ⊥
        theirs m = ne (was (far g v q) (far_port g v q) (λ e. wired.apart v q at e.0) m)

        n1 : (u ≡ v) × (p ≡ q) → ⊥
        n1 e = theirs (subst₂ (λ a b. mark_at (w'.node (far g a b)) (far_port g a b) ≡ Branch) e.0 e.1 there)

        n2 : (far g u p ≡ v) × (far_port g u p ≡ q) → ⊥
        n2 e =
            theirs
            (subst₂ (λ a b. mark_at (w'.node (far g a b)) (far_port g a b) ≡ Branch) e.0 e.1
            (subst₂ (λ a b. mark_at (w'.node a) b ≡ Branch) (sym (wired.back u p atu)) (sym (wired.back_port u p atu)) here))

  pub join_count : Branched g w w' → (t n : ℕ) → Grows g gh gh' t n → joined_ports g w' ≡ joined_ports g w + 2 * n
  join_count (No_port was) t n x =
      let z = no_growth (λ u p at j. record {
        here = ap is_branch (was u p (branch_mark _ j.here));
        there = ap is_branch (was (far g u p) (far_port g u p) (branch_mark _ j.there));
      }) t n x in
      let y = none_more g wired w w' lasts was in omega (arith, z, y)
  join_count (One_port v q at free set was) t n x =
      ⊎_elim (λ h. let z = growth v q at free set was h.0 t n x in let y = h.1 in omega (arith, z, y))
      (λ h. let z = no_growth (old v q at free set was h.0) t n x in let y = h.1 in omega (arith, z, y))
      (one_more g wired w w' lasts v q at free set was)
