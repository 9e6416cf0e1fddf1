-- Two fragments become one: floors stay, and are kept.
use Rattle.std.proofs.Common.{◌≡◌, ◌≢◌, ℕ, suc, ◌<◌, Bool, true, false, ◌||◌, ◌==◌, Option, Some, [], ◌∷◌, refl, sym, ◌∙◌, ap, ap₂, subst, subst₂, ⊎_elim, ◌⊎◌, inl, inr, arith, if◌then◌else◌, eqb-true, eq-eqb}
use Rattle.ghs_graph.specs.declared.key.Key.{Key}
use Rattle.ghs_node.specs.declared.mark.Mark.TheVariants.{Branch}
use Rattle.ghs_node.specs.declared.message.Message.TheVariants.{ChangeRoot}
use Rattle.ghs_node.specs.declared.head.Head.{Head}
use Rattle.peer_network.specs.Network.{Network, port_at, At, far, far_port, InNetwork}
use Rattle.peer_network.proofs.lemmas.Wired.{IsWired}
use Rattle.ghs_protocol.proofs.clauses.Scene.{Member, Scene, TreeEnd, tree_end, end}
use Rattle.ghs_protocol.proofs.clauses.Changes.{seen_beyond}
use Rattle.ghs_protocol.proofs.clauses.Links.{Joins, Mutual, Ups}
use Rattle.ghs_protocol.proofs.clauses.Uniting.{joining, relabel, meet}
use Rattle.ghs_protocol.proofs.clauses.Whole.{Invariant}
use Rattle.ghs_protocol.proofs.clauses.Fragments.{Both_ways}
use Rattle.ghs_node.specs.Words.{is_branch}
use Rattle.ghs_protocol.proofs.clauses.Floors.{Floor, FloorsFit, FloorsAt, NodeFloor, BranchesInTree, HaltedIsWhole, Floors}
use Rattle.ghs_protocol.proofs.union.OneFragment.{Off}
use Rattle.ghs_protocol.proofs.union.Absorb.{Where, On_it, Across, Off_it, where_is}
use Rattle.std.proofs.lemmas.Bool.{or_cases, or_parts}

-- other fragments, coming levels and names at both ends
abbrev with_ghosts : TreeEnd → ℕ → ℕ → Option Key → TreeEnd
with_ghosts e x y z = record e { fragment = x; coming = y; coming_name = z }

pub refit :
    (e f : TreeEnd) (x y x' y' : ℕ) (z z' : Option Key) (a c : Floor) → (x' ≢ x → f.fragment ≢ e.fragment) →
    (e.level ≡ y → (e.level ≡ e.coming) × (z ≡ Some e.key → e.coming_name ≡ Some e.key)) →
    (Mutual e f → z ≢ Some e.key → e.tree ≡ ChangeRoot ∷ [] → e.coming_name ≢ Some e.key) →
    FloorsFit e f a c → FloorsFit (with_ghosts e x y z) (with_ghosts f x' y' z') a c
refit e f x y x' y' z z' a c out top still h = record {
  none_below = λ o. h.none_below (out o);
  falls = λ s. h.falls (record { joins = record { here = s.joins.here; there = s.joins.there }; up = s.up; down = s.down });
  covered = λ p s o. h.covered p (record { joins = record { here = s.joins.here; there = s.joins.there }; up = s.up; down = s.down }) o;
  report = λ r s t. h.report r (record { joins = record { here = s.joins.here; there = s.joins.there }; up = s.up; down = s.down }) t;
  core = λ s l p.
      h.core (record {
        both = record { joins = record { here = s.both.joins.here; there = s.both.joins.there }; up = s.both.up; up_beyond = s.both.up_beyond };
        named = (top l).1 s.named;
      }) (top l).0 p;
  out = λ o. h.out (record { here = o.here; there = o.there });
  moved = λ s t.
      let m : Mutual e f =
      record { joins = record { here = s.both.joins.here; there = s.both.joins.there }; up = s.both.up; up_beyond = s.both.up_beyond } in
      h.moved (record { both = m; unnamed = still m s.unnamed t }) t;
  best = λ k b l s. h.best k b (top l).0 (record { here = s.here; there = s.there });
}

module _ (c a l : ℕ) (n : Option Key) where
  -- who joins keeps all else
  pub joining_as : (m : Member) →
      joining c a l n m ≡
      record m { fragment = (joining c a l n m).fragment; coming = (joining c a l n m).coming; coming_name = (joining c a l n m).coming_name }
  joining_as m = go ((m.fragment == c) || (m.fragment == a))
    where
      go : (b : Bool) →
          ◌≡◌ {A = Member}
          (if b then record m { fragment = a; coming = l; coming_name = n } else m) (record m {
            fragment = (if b then record m { fragment = a; coming = l; coming_name = n } else m).fragment;
            coming = (if b then record m { fragment = a; coming = l; coming_name = n } else m).coming;
            coming_name = (if b then record m { fragment = a; coming = l; coming_name = n } else m).coming_name;
          })
      go true = refl
      go false = refl

  -- whether a member joins
  pub data Joining (m : Member) : Type 0 where
    Joined_in :
        (m.fragment ≡ c) ⊎ (m.fragment ≡ a) →
        (joining c a l n m).fragment ≡ a →
        (joining c a l n m).coming ≡ l →
        (joining c a l n m).coming_name ≡ n →
        Joining m
    Left_out : m.fragment ≢ c → m.fragment ≢ a → joining c a l n m ≡ m → Joining m

  pub joining_is : (m : Member) → Joining m
  joining_is m = go ((m.fragment == c) || (m.fragment == a)) refl
    where
      go : (b : Bool) → ((m.fragment == c) || (m.fragment == a)) ≡ b → Joining m
      go true e =
          Joined_in
          (⊎_elim (λ t. inl (eqb-true m.fragment c t)) (λ t. inr (eqb-true m.fragment a t)) (or_cases _ _ e)) (rw e refl) (rw e refl) (rw e refl)
      go false e =
          let z : ((m.fragment == c) ≡ false) × ((m.fragment == a) ≡ false) = or_parts (m.fragment == c) (m.fragment == a) e in
          Left_out (λ t. let y = eq-eqb m.fragment c t in let x = z.0 in cc (x, y))
          (λ t. let y = eq-eqb m.fragment a t in let x = z.1 in cc (x, y))
          (rw e refl)

-- The fragments at both ends of port b of u become one.
module _ (g : Network) (wired : IsWired g) (w : Scene) (floor : ℕ → Floor)
    (nodes : (v : ℕ) → InNetwork g v → NodeFloor (w.at v) (floor v)) (in_tree : BranchesInTree g w) (halted : HaltedIsWhole g w)
    (u b : ℕ) (at : At g u b) (apart : (w.at (far g u b)).fragment ≢ (w.at u).fragment)
    (links : (t p : ℕ) →
    At g t p →
    Off g u b t p →
    FloorsAt (end g w t p) (end g w (far g t p) (far_port g t p)) (floor t) (floor (far g t p)))
    (l : ℕ) (n : Option Key)
    -- who joins is below the new level, or has it and the name already
    (low : (t : ℕ) →
    InNetwork g t →
    ((w.at t).fragment ≡ (w.at (far g u b)).fragment) ⊎ ((w.at t).fragment ≡ (w.at u).fragment) →
    ((w.at t).head.level < l) ⊎ (((w.at t).coming ≡ l) × ((w.at t).coming_name ≡ n)))
    -- no ChangeRoot is under way where the level rises
    (still : (t p : ℕ) →
    At g t p →
    Off g u b t p →
    (w.at t).head.level < l →
    ((w.at t).fragment ≡ (w.at (far g u b)).fragment) ⊎ ((w.at t).fragment ≡ (w.at u).fragment) →
    (w.seen t p).tree ≡ ChangeRoot ∷ [] →
    Mutual (tree_end (end g w t p)) (tree_end (end g w (far g t p) (far_port g t p))) →
    ⊥)
  where
    abbrev pub c : ℕ
    c = (w.at (far g u b)).fragment

    abbrev pub a : ℕ
    a = (w.at u).fragment

    abbrev pub united : Scene
    united = relabel (w.at (far g u b)).fragment (w.at u).fragment l n w

    abbrev new : ℕ → Member
    new t = joining (w.at (far g u b)).fragment (w.at u).fragment l n (w.at t)

    -- an end afterwards
    end_as : (t p : ℕ) →
        tree_end (end g united t p) ≡
        record (tree_end (end g w t p)) { fragment = (new t).fragment; coming = (new t).coming; coming_name = (new t).coming_name }
    end_as t p = λ i.
        tree_end (record {
          port = p;
          key = (port_at g t p).key;
          mark = (joining_as c a l n (w.at t) i).mark p;
          is = joining_as c a l n (w.at t) i;
          seen = w.seen t p;
        })

    -- who was in one fragment is in one
    together : (t v : ℕ) → (w.at t).fragment ≡ (w.at v).fragment → (new t).fragment ≡ (new v).fragment
    together t v e = go (joining_is c a l n (w.at t)) (joining_is c a l n (w.at v))
      where
        go : Joining c a l n (w.at t) → Joining c a l n (w.at v) → (new t).fragment ≡ (new v).fragment
        go (Joined_in i x y z) (Joined_in i' x' y' z') = x ∙ sym x'
        go (Joined_in i x y z) (Left_out ne ne' s) = absurd (⊎_elim (λ h. ne (sym e ∙ h)) (λ h. ne' (sym e ∙ h)) i)
        go (Left_out ne ne' s) (Joined_in i x y z) = absurd (⊎_elim (λ h. ne (e ∙ h)) (λ h. ne' (e ∙ h)) i)
        go (Left_out ne ne' s) (Left_out me me' s') = ap (λ (m : Member). m.fragment) s ∙ e ∙ sym (ap (λ (m : Member). m.fragment) s')

    refits : (t p : ℕ) →
        At g t p →
        Off g u b t p →
        FloorsAt (end g united t p) (end g united (far g t p) (far_port g t p)) (floor t) (floor (far g t p))
    refits t p at' off =
        subst₂ (λ x y. FloorsFit x y (floor t) (floor (far g t p))) (sym (end_as t p)) (sym (end_as (far g t p) (far_port g t p)))
        (refit (tree_end (end g w t p)) (tree_end (end g w (far g t p) (far_port g t p))) _ _ _ _ _ _ (floor t) (floor (far g t p))
        (λ ne e. ne (together (far g t p) t e)) (top (joining_is c a l n (w.at t)))
        (moved (joining_is c a l n (w.at t))) (links t p at' off))
      where
        is : InNetwork g t
        is = record { some = at'.some; node = at'.node }

        top :
            Joining c a l n (w.at t) →
            (w.at t).head.level ≡ (new t).coming →
            ((w.at t).head.level ≡ (w.at t).coming) ×
            ((new t).coming_name ≡ Some (port_at g t p).key → (w.at t).coming_name ≡ Some (port_at g t p).key)
        top (Left_out ne ne' s) e = (e ∙ ap (λ (m : Member). m.coming) s, λ h. ap (λ (m : Member). m.coming_name) (sym s) ∙ h)
        top (Joined_in i x y z) e = ⊎_elim (λ lt. absurd (omega (arith, e, y, lt))) (λ q. (e ∙ y ∙ sym q.0, λ h. q.1 ∙ sym z ∙ h)) (low t is i)

        moved :
            Joining c a l n (w.at t) →
            Mutual (tree_end (end g w t p)) (tree_end (end g w (far g t p) (far_port g t p))) →
            (new t).coming_name ≢ Some (port_at g t p).key →
            (w.seen t p).tree ≡ ChangeRoot ∷ [] →
            (w.at t).coming_name ≢ Some (port_at g t p).key
        moved (Left_out ne ne' s) m other r e = other (ap (λ (m : Member). m.coming_name) s ∙ e)
        moved (Joined_in i x y z) m other r e = ⊎_elim (λ lt. still t p at' off lt i r m) (λ q. other (z ∙ sym q.1 ∙ e)) (low t is i)

    -- nobody of the two fragments has halted
    none_halted : (v : ℕ) → InNetwork g v → (w.at v).head.halted ≡ true → ((w.at v).fragment ≡ c) ⊎ ((w.at v).fragment ≡ a) → ⊥
    none_halted v is h i =
        ⊎_elim
        (λ e.
        apart (sym (subst (λ y. (w.at y).fragment ≡ (w.at (far g u b)).fragment) (wired.back u b at)
        (halted v (far g u b) (far_port g u b) is h (wired.there u b at) (sym e) ∙ e))))
        (λ e. apart (halted v u b is h at (sym e) ∙ e)) i

    halted_united : HaltedIsWhole g united
    halted_united v t p is h at' inside = go (joining_is c a l n (w.at v)) (joining_is c a l n (w.at t))
      where
        was : (w.at v).head.halted ≡ true
        was = ap (λ (m : Member). m.head.halted) (sym (joining_as c a l n (w.at v))) ∙ h

        go : Joining c a l n (w.at v) → Joining c a l n (w.at t) → (new (far g t p)).fragment ≡ (new v).fragment
        go (Joined_in i x y z) j = absurd (none_halted v is was i)
        go (Left_out ne ne' s) (Joined_in i x y z) = absurd (ne' (ap (λ (m : Member). m.fragment) (sym s) ∙ sym inside ∙ x))
        go (Left_out ne ne' s) (Left_out me me' s') =
            together (far g t p) v (halted v t p is was at' (ap (λ (m : Member). m.fragment) (sym s') ∙ inside ∙ ap (λ (m : Member). m.fragment) s))

    fields : {A : Type 0} (k : Member → A) →
        ((m : Member) (x y : ℕ) (z : Option Key) → k (record m { fragment = x; coming = y; coming_name = z }) ≡ k m) →
        (t : ℕ) → k (new t) ≡ k (w.at t)
    fields k same t = ap k (joining_as c a l n (w.at t)) ∙ same (w.at t) _ _ _

    -- all together
    pub floors_united :
        FloorsAt (end g united u b) (end g united (far g u b) (far_port g u b)) (floor u) (floor (far g u b)) →
        FloorsAt (end g united (far g u b) (far_port g u b)) (end g united u b) (floor (far g u b)) (floor u) →
        Floors g united floor
    floors_united near away = record {
      nodes = λ v is.
          let z = nodes v is in
          let s = fields (λ m. m.head) (λ m x y z. refl) v in
          record {
            asleep = λ e. z.asleep (sym (ap (λ (h : Head). h.phase) s) ∙ e);
            search = λ e. z.search (sym (ap (λ (h : Head). h.phase) s) ∙ e);
          };
      links = λ t p at'. go t p at' (where_is g u b t p);
      in_tree = λ v p at' m. in_tree v p at' (ap (λ f. f p) (sym (fields (λ m. m.mark) (λ m x y z. refl) v)) ∙ m);
      halted = halted_united;
    }
      where
        go : (t p : ℕ) →
            At g t p →
            Where g u b t p →
            FloorsAt (end g united t p) (end g united (far g t p) (far_port g t p)) (floor t) (floor (far g t p))
        go t p at' (On_it e e') =
            subst₂
            (λ x y. FloorsAt (end g united x y) (end g united (far g x y) (far_port g x y)) (floor x) (floor (far g x y)))
            (sym e) (sym e') near
        go t p at' (Across e e') =
            subst₂ (λ x y. FloorsAt (end g united t p) (end g united x y) (floor t) (floor x)) (sym e) (sym e')
            (subst₂
            (λ x y. FloorsAt (end g united x y) (end g united u b) (floor x) (floor u))
            (ap₂ (far g) (sym e) (sym e') ∙ wired.back t p at') (ap₂ (far_port g) (sym e) (sym e') ∙ wired.back_port t p at') away)
        go t p at' (Off_it off) = refits t p at' off

-- a link that has just become the core
pub new_core_floors : (e f : TreeEnd) (a c : Floor) →
    Joins e f →
    Ups e →
    Ups f →
    e.level ≢ e.coming →
    f.fragment ≡ e.fragment →
    e.tree ≢ ChangeRoot ∷ [] →
    FloorsFit e f a c
new_core_floors e f a c j up up' low same quiet = record {
  none_below = λ o. absurd (o same);
  falls = λ s. absurd (s.down up');
  covered = λ p s o. absurd (s.down up');
  report = λ r s t. absurd (s.down up');
  core = λ s l p. absurd (low l);
  out = λ o. absurd (o.there j.there);
  moved = λ s t. absurd (quiet t);
  best = λ k b l s. absurd (low l);
}

-- Two Connects meet over port b of u: in the net w both are under way.
module _ (g : Network) (wired : IsWired g) (w : Scene) (floor : ℕ → Floor)
    (nodes : (v : ℕ) → InNetwork g v → NodeFloor (w.at v) (floor v)) (in_tree : BranchesInTree g w) (halted : HaltedIsWhole g w)
    (u b : ℕ) (at : At g u b) (apart : (w.at (far g u b)).fragment ≢ (w.at u).fragment)
    (links : (t p : ℕ) → At g t p → Off g u b t p → FloorsAt (end g w t p) (end g w (far g t p) (far_port g t p)) (floor t) (floor (far g t p)))
    (low : (t : ℕ) →
    InNetwork g t →
    ((w.at t).fragment ≡ (w.at (far g u b)).fragment) ⊎ ((w.at t).fragment ≡ (w.at u).fragment) →
    (w.at t).head.level < suc (w.at u).head.level)
    (here : (w.at u).mark b ≡ Branch) (there : (w.at (far g u b)).mark (far_port g u b) ≡ Branch) (way : (w.at u).up ≡ Some b)
    (way' : (w.at (far g u b)).up ≡ Some (far_port g u b))
    (no_root : (w.seen u b).tree ≢ ChangeRoot ∷ []) (no_root' : (seen_beyond g w u b).tree ≢ ChangeRoot ∷ [])
    (holds : Invariant g (meet g u b w)) where
  abbrev far_part : ℕ
  far_part = (w.at (far g u b)).fragment

  abbrev near_part : ℕ
  near_part = (w.at u).fragment

  abbrev new_level : ℕ
  new_level = suc (w.at u).head.level

  abbrev new_name : Option Key
  new_name = Some (port_at g u b).key

  abbrev merged : Scene
  merged = meet g u b w

  marks_of : (t : ℕ) → (merged.at t).mark ≡ (w.at t).mark
  marks_of t = ap (λ (m : Member). m.mark) (joining_as far_part near_part new_level new_name (w.at t))

  ups_of : (t : ℕ) → (merged.at t).up ≡ (w.at t).up
  ups_of t = ap (λ (m : Member). m.up) (joining_as far_part near_part new_level new_name (w.at t))

  inside_of : (t : ℕ) → ((w.at t).fragment ≡ far_part) ⊎ ((w.at t).fragment ≡ near_part) → (merged.at t).fragment ≡ near_part
  inside_of t i = go (joining_is far_part near_part new_level new_name (w.at t))
    where
      go : Joining far_part near_part new_level new_name (w.at t) → (merged.at t).fragment ≡ near_part
      go (Joined_in j x y z) = x
      go (Left_out ne ne' s) = absurd (⊎_elim ne ne' i)

  coming_of : (t : ℕ) → ((w.at t).fragment ≡ far_part) ⊎ ((w.at t).fragment ≡ near_part) → (merged.at t).coming ≡ new_level
  coming_of t i = go (joining_is far_part near_part new_level new_name (w.at t))
    where
      go : Joining far_part near_part new_level new_name (w.at t) → (merged.at t).coming ≡ new_level
      go (Joined_in j x y z) = y
      go (Left_out ne ne' s) = absurd (⊎_elim ne ne' i)

  -- the new core is the only link that leads both ways
  only_root : (t p : ℕ) →
      At g t p →
      Off g u b t p →
      ((w.at t).fragment ≡ far_part) ⊎ ((w.at t).fragment ≡ near_part) →
      Mutual (tree_end (end g w t p)) (tree_end (end g w (far g t p) (far_port g t p))) →
      ⊥
  only_root t p at' off i m =
      ⊎_elim (λ h. off.here h) (λ h. off.there h)
      (holds.trees.one_root t p u b at' at
      (Both_ways (record {
        here = ap (λ f. is_branch (f p)) (marks_of t) ∙ ap is_branch m.joins.here;
        there = ap (λ f. is_branch (f (far_port g t p))) (marks_of (far g t p)) ∙ ap is_branch m.joins.there;
      }) (ups_of t ∙ m.up) (ups_of (far g t p) ∙ m.up_beyond))
      (Both_ways (record {
        here = ap (λ f. is_branch (f b)) (marks_of u) ∙ ap is_branch here;
        there = ap (λ f. is_branch (f (far_port g u b))) (marks_of (far g u b)) ∙ ap is_branch there;
      }) (ups_of u ∙ way) (ups_of (far g u b) ∙ way'))
      (inside_of t i ∙ sym (inside_of u (inr refl))))

  level_of : (t : ℕ) → (merged.at t).head.level ≡ (w.at t).head.level
  level_of t = ap (λ (m : Member). m.head.level) (joining_as far_part near_part new_level new_name (w.at t))

  y_in : InNetwork g (far g u b)
  y_in = let z = wired.there u b at in record { some = z.some; node = z.node }

  below : (t : ℕ) → InNetwork g t → ((w.at t).fragment ≡ far_part) ⊎ ((w.at t).fragment ≡ near_part) → (merged.at t).head.level ≢ (merged.at t).coming
  below t is i e = let lt = low t is i in let x = level_of t in let y = coming_of t i in omega (arith, e, lt, x, y)

  pub floors_met : Floors g (meet g u b w) floor
  floors_met =
      floors_united g wired w floor nodes in_tree halted u b at apart links new_level new_name (λ t is i. inl (low t is i))
      (λ t p at' off lt i r m. only_root t p at' off i m)
      (new_core_floors (tree_end (end g merged u b)) (tree_end (end g merged (far g u b) (far_port g u b))) (floor u) (floor (far g u b)) joins
      (ups_of u ∙ way) (ups_of (far g u b) ∙ way') (below u (record { some = at.some; node = at.node }) (inr refl))
      (inside_of (far g u b) (inl refl) ∙ sym (inside_of u (inr refl))) no_root)
      (new_core_floors (tree_end (end g merged (far g u b) (far_port g u b))) (tree_end (end g merged u b)) (floor (far g u b)) (floor u)
      (record { here = joins.there; there = joins.here }) (ups_of (far g u b) ∙ way') (ups_of u ∙ way) (below (far g u b) y_in (inl refl))
      (inside_of u (inr refl) ∙ sym (inside_of (far g u b) (inl refl))) no_root')
    where
      joins : Joins (tree_end (end g merged u b)) (tree_end (end g merged (far g u b) (far_port g u b)))
      joins = record { here = ap (λ f. f b) (marks_of u) ∙ here; there = ap (λ f. f (far_port g u b)) (marks_of (far g u b)) ∙ there }
