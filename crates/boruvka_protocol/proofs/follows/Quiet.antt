-- A link at whose ends nothing waits.
use Rattle.std.proofs.Common.{◌≡◌, ◌≢◌, ℕ, suc, ◌+◌, ◌<◌, ◌≤◌, ◌⊎◌, inl, inr, ⊎_elim, Bool, true, Some, [], sym, subst, arith}
use Rattle.std.proofs.lemmas.Bool.{cases_lt}
use Rattle.ghs_graph.specs.declared.key.Key.{Key}
use Rattle.ghs_graph.specs.Graph.{Shape, IsGraph}
use Rattle.ghs_graph.specs.Links.{Joined, Same, Over, Back, InTree}
use Rattle.ghs_graph.proofs.lemmas.Joining.{joined_then, joined_back, joined_by_none}
use Rattle.peer_network.proofs.lemmas.Graphs.{link_among}
use Rattle.boruvka_protocol.specs.Levels.{Leaves, Taken, InClass, IsOfLevel}
use Rattle.boruvka_protocol.proofs.lemmas.WaysUp.{level_at}
use Rattle.boruvka_node.specs.declared.mark.Mark.TheVariants.{Basic, Asked, Branch, Inside}
use Rattle.boruvka_node.specs.declared.message.Phase.TheVariants.{Sleeping}
use Rattle.boruvka_node.specs.Words.{is_basic}
use Rattle.boruvka_protocol.proofs.invariant.Words.{IsWayUp}
use Rattle.boruvka_protocol.proofs.invariant.Sides.{Side, Heard}
use Rattle.boruvka_protocol.proofs.invariant.Names.{IsToldAside}
use Rattle.boruvka_protocol.proofs.invariant.Connects.{Answered, Comes, Noted, Called}
use Rattle.boruvka_protocol.proofs.follows.Cases.{mark_cases, basic_no_branch, by_branch}
use Rattle.boruvka_protocol.proofs.follows.Ways.{up_either}
use Rattle.boruvka_protocol.proofs.follows.Seen.{Wire, Seen}

-- what S has doesn't lead out of a class
taken_stays : {S : Key → Type 0} {v : ℕ} (k : Key) → S k → Leaves S v k → ⊥
taken_stays k s (inl p) = p.1 (joined_then p.0 (Over k s Same))
taken_stays k s (inr p) = p.1 (joined_then p.0 (Back k s Same))

-- The ends of a link that leads out of the class of one of them.

apart_at : {S : Key → Type 0} {u v : ℕ} (k : Key) → (u ≡ k.a) × (v ≡ k.b) → Leaves S u k → Joined S u v → ⊥
apart_at {S} {u} {v} k e (inl p) way = p.1 (subst (λ x. Joined S u x) e.1 way)
apart_at {S} {u} {v} k e (inr p) way = p.1 (subst (λ x. Joined S u x) e.0 Same)

apart_at_b : {S : Key → Type 0} {u v : ℕ} (k : Key) → (u ≡ k.b) × (v ≡ k.a) → Leaves S u k → Joined S u v → ⊥
apart_at_b {S} {u} {v} k e (inl p) way = p.1 (subst (λ x. Joined S u x) e.0 Same)
apart_at_b {S} {u} {v} k e (inr p) way = p.1 (subst (λ x. Joined S u x) e.1 way)

pub ends_apart : {S : Key → Type 0} {u v : ℕ} (k : Key) → ((u ≡ k.a) × (v ≡ k.b)) ⊎ ((u ≡ k.b) × (v ≡ k.a)) → Leaves S u k → Joined S u v → ⊥
ends_apart k (inl e) out way = apart_at k e out way
ends_apart k (inr e) out way = apart_at_b k e out way

-- it leads out of that of the other one too
pub leaves_across : {S : Key → Type 0} {u v : ℕ} (k : Key) → ((u ≡ k.a) × (v ≡ k.b)) ⊎ ((u ≡ k.b) × (v ≡ k.a)) → Leaves S u k → Leaves S v k
leaves_across {S} {u} {v} k (inl e) out =
    inr (subst (λ x. Joined S v x) e.1 Same, λ way. apart_at k e out (subst (λ x. Joined S x v) (sym e.0) (joined_back way)))
leaves_across {S} {u} {v} k (inr e) out =
    inl (subst (λ x. Joined S v x) e.1 Same, λ way. apart_at_b k e out (subst (λ x. Joined S x v) (sym e.0) (joined_back way)))

module _ (g : Shape) (ok : IsGraph g) where
  pub wire_apart : (e f : Side) → Wire g.keys e f → e.node ≡ f.node → ⊥
  wire_apart e f wire q =
      let o = (link_among g ok e.key wire.link).1 in
      ⊎_elim (λ p. omega (arith, p.0, p.1, q, o)) (λ p. omega (arith, p.0, p.1, q, o)) wire.ends

  -- a taken link is the way up of one of its ends
  pub link_up : (e f : Side) → Wire g.keys e f → (l : ℕ) → Taken g.keys l e.key → IsOfLevel g.keys l e.node →
      IsWayUp g.keys l e.node e.key ⊎ IsWayUp g.keys l f.node e.key
  link_up e f wire l t h = go wire.ends
    where
      go : ((e.node ≡ e.key.a) × (f.node ≡ e.key.b)) ⊎ ((e.node ≡ e.key.b) × (f.node ≡ e.key.a)) →
          IsWayUp g.keys l e.node e.key ⊎ IsWayUp g.keys l f.node e.key
      go (inl p) = ⊎_elim
          (λ u. inl (subst (λ x. IsWayUp g.keys l x e.key) (sym p.0) u))
          (λ u. inr (subst (λ x. IsWayUp g.keys l x e.key) (sym p.1) u))
          (up_either g ok l e.key t (subst (λ x. IsOfLevel g.keys l x) p.0 h))
      go (inr p) = ⊎_elim
          (λ u. inr (subst (λ x. IsWayUp g.keys l x e.key) (sym p.1) u))
          (λ u. inl (subst (λ x. IsWayUp g.keys l x e.key) (sym p.0) u))
          (up_either g ok l e.key t (level_at g.keys l e.key.b e.key.a (Back e.key t Same) (subst (λ x. IsOfLevel g.keys l x) p.0 h)))

  -- One end with what it has heard, and the other one: no message waits at either.
  module _ (e f : Side) (heard far_heard : Heard) (owes far_owes : Bool) (s : Seen g.keys e f heard owes [] [])
      (t : Seen g.keys f e far_heard far_owes [] []) where
    -- over a link that is Branch at e, and taken at e's level, the levels are one, as no call waits
    branch_level : e.mark ≡ Branch → f.level < e.level → Taken g.keys e.level e.key → IsOfLevel g.keys e.level e.node → ⊥
    branch_level b less taken of_level = ⊎_elim
        (λ up. ⊎_elim
        (λ q. omega (arith, q, less))
        (λ q. omega (arith, q, less))
        (s.children.parent up).level)
        (λ up.
        let c = s.children.child up in
        let low = c.level in
        let one : suc f.level ≡ e.level = omega (arith, less, low) in
        let called : ◌≡◌ {A = ℕ} 0 1 = (c.behind one).called b in
        omega (arith, called))
        (link_up e f s.wire e.level taken of_level)

    -- who is joined with f by what is taken up to f's level is at that level, if not below
    pub same_level : f.level ≤ e.level → Taken g.keys f.level e.key → Taken g.keys e.level e.key → IsOfLevel g.keys e.level e.node → e.level ≡ f.level
    same_level le at_f at_e of_level = ⊎_elim
        (λ less. absurd (branch_level (branch less) less at_e of_level))
        (λ ge. omega (arith, le, ge))
        (cases_lt f.level e.level)
      where
        branch : f.level < e.level → e.mark ≡ Branch
        branch less = by_branch e.mark (λ b. b) (λ nb. absurd (late nb (link_up e f s.wire e.level at_e of_level)))
          where
            late : e.mark ≢ Branch → IsWayUp g.keys e.level e.node e.key ⊎ IsWayUp g.keys e.level f.node e.key → ⊥
            late nb (inl up) = ⊎_elim (λ q. omega (arith, q, less)) (λ q. omega (arith, q, less)) (s.children.parent up).level
            late nb (inr up) =
                let low = (s.children.child up).level in
                let one : e.level ≡ suc f.level = omega (arith, less, low) in
                taken_stays e.key at_f (s.marks.late f.level one at_e nb).chosen.leaves

    -- nobody sleeps beside a node of a level above 0
    pub no_sleeper : 1 ≤ e.level → IsOfLevel g.keys e.level e.node → f.phase ≡ Sleeping → f.mark ≡ Basic → f.level ≡ 0 → far_heard.level ≡ 0 → ⊥
    no_sleeper some of_level asleep plain ground nothing = ⊎_elim basic (⊎_elim branch inside) (mark_cases e.mark)
      where
        basic : is_basic e.mark ≡ true → ⊥
        basic b = let all : far_heard.level + 0 ≡ e.level = t.names.all.basic b in omega (arith, all, nothing, some)

        branch : e.mark ≡ Branch → ⊥
        branch b = branch_level b (omega (arith, ground, some)) (s.marks.branch b) of_level

        inside : e.mark ≡ Inside → ⊥
        inside i =
            let x = s.marks.inside i in
            let aside : IsToldAside g.keys f e (far_heard.level + 0) = t.names.all.aside
            (λ z. x.1 (subst (λ (k : Key). InTree g.keys k) s.wire.same z)) in
            let told : far_heard.level + 0 ≡ 0 = omega (arith, nothing) in
            ⊎_elim
            (λ q. omega (arith, q, told, some))
            (λ c. wire_apart f e t.wire (joined_by_none (λ k z. z) (subst (λ n. InClass g.keys n f.node e.node) told c)))
            aside.far

    -- at a Basic port the level was heard, where the far end is no level below
    pub level_heard : (m : ℕ) → e.level ≡ suc m → suc m ≤ f.level → IsOfLevel g.keys f.level f.node → is_basic e.mark ≡ true → suc m ≤ heard.level
    level_heard m at far of_level b = ⊎_elim basic (⊎_elim branch inside) (mark_cases f.mark)
      where
        basic : is_basic f.mark ≡ true → suc m ≤ heard.level
        basic fb = let all : heard.level + 0 ≡ f.level = s.names.all.basic fb in omega (arith, all, far)

        branch : f.mark ≡ Branch → suc m ≤ heard.level
        branch fb = absurd (⊎_elim above level (cases_lt (suc m) f.level))
          where
            taken : Taken g.keys f.level f.key
            taken = t.marks.branch fb

            above : suc m < f.level → ⊥
            above less = ⊎_elim
                (λ up. ⊎_elim
                (λ q. omega (arith, q, less, at))
                (λ q. omega (arith, q, less, at))
                (t.children.parent up).level)
                (λ up.
                let c = t.children.child up in
                let low = c.level in
                let one : suc e.level ≡ f.level = omega (arith, less, low, at) in
                let called : ◌≡◌ {A = ℕ} 0 1 = (c.behind one).called fb in
                omega (arith, called))
                (link_up f e t.wire f.level taken of_level)

            level : f.level ≤ suc m → ⊥
            level le =
                let same : f.level ≡ e.level = omega (arith, le, far, at) in
                let here : Taken g.keys e.level e.key =
                subst (λ (k : Key). Taken g.keys e.level k) s.wire.same (subst (λ x. Taken g.keys x f.key) same taken) in
                let below = (s.marks.late m at here (basic_no_branch e.mark b)).level in
                omega (arith, below, far)

        inside : f.mark ≡ Inside → suc m ≤ heard.level
        inside i = ⊎_elim
            (λ q. omega (arith, q, far))
            (λ c. ⊎_elim
            (λ less. absurd (back.apart (heard.level + 0) (omega (arith, less, told, at)) (joined_back c)))
            (λ ge. ge)
            (cases_lt heard.level (suc m)))
            aside.far
          where
            outside : InTree g.keys f.key → ⊥
            outside = (t.marks.inside i).1

            aside : IsToldAside g.keys e f (heard.level + 0)
            aside = s.names.all.aside (λ z. outside (subst (λ (k : Key). InTree g.keys k) (sym s.wire.same) z))

            back : IsToldAside g.keys f e (far_heard.level + 0)
            back = t.names.all.aside outside

            told : far_heard.level + 0 ≡ e.level
            told = t.names.all.basic b

    -- whose Connect has been noted
    pub record IsNoted : Type 0 where
      pub asked : f.mark ≡ Asked
      pub level : f.level ≡ e.level

    pub out_noted : e.out ≡ Some e.port → IsNoted
    out_noted out = go (s.connects.out out).answer
      where
        go : Answered g.keys e f [] [] → IsNoted
        go (Comes c n) = let no : ◌≡◌ {A = ℕ} 0 1 = c in absurd (omega (arith, no))
        go (Noted c a l) = record { asked = a; level = l }
        go (Called c b l up i) = let no : ◌≡◌ {A = ℕ} 0 1 = i in absurd (omega (arith, no))

    -- both ends can't be out over the link
    pub not_both_out : e.out ≡ Some e.port → f.out ≡ Some f.port → e.mark ≡ Asked → f.mark ≡ Asked → ⊥
    not_both_out out far_out asked far_asked =
        let here = (s.connects.out out).greater asked in
        let there = (t.connects.out far_out).greater far_asked in
        omega (arith, here, there)
