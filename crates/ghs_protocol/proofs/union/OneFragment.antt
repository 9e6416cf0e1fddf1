-- Two fragments become one over a link that is newly joined: what is owed, and what follows.
use Rattle.std.proofs.Common.{◌≡◌, ◌≢◌, ℕ, ◌^◌, ◌<◌, ◌≤◌, Bool, true, false, not, ◌&&◌, ◌||◌, Option, Some, None, refl, sym, ◌∙◌, ap, ap₂, subst, subst₂, ⊎_elim, ◌⊎◌, inl, inr, length, arith, cond, if◌then◌else◌}
use Rattle.std.proofs.lemmas.Bool.{cases_eq, cases_Bool}
use Rattle.ghs_graph.specs.declared.key.Key.{Key}
use Rattle.ghs_node.specs.declared.message.Phase.TheVariants.{Sleeping, Found}
use Rattle.ghs_node.specs.declared.head.Head.{Head}
use Rattle.ghs_node.specs.Words.{is_branch, is_find, is_at}
use Rattle.peer_network.specs.Network.{Network, port_at, At, far, far_port, InNetwork}
use Rattle.peer_network.proofs.lemmas.Wired.{IsWired}
use Rattle.ghs_protocol.specs.Marks.{Leads, Here, Over}
use Rattle.ghs_protocol.specs.Interleavings.{HaveAtLeast}
use Rattle.ghs_protocol.proofs.acts.Many.{many_as}
use Rattle.ghs_protocol.proofs.clauses.Scene.{Member, Scene, end, tree_end, test_end, forest}
use Rattle.ghs_protocol.proofs.clauses.Changes.{seen_beyond}
use Rattle.ghs_protocol.proofs.clauses.Nodes.{NodeFits}
use Rattle.ghs_protocol.proofs.clauses.Links.{Joins, Out, Mutual}
use Rattle.ghs_protocol.proofs.clauses.Fragments.{IsJoinedIn, Names, NamesWithin, LargeFragments, FragmentsJoined, JoinedWithin, JoinedLinksLead, Root, Goes_out, Both_ways, OneRoot, Reach, At_root, By_step, RootsReached, GhostsByFragment}
use Rattle.ghs_protocol.proofs.clauses.Rest.{Alone, Named, Resting, has_call, has_report, owes, debt, debts, DebtsCounted}
use Rattle.ghs_protocol.proofs.clauses.Whole.{Invariant, NamesOf, LinkFits, NodesFit}
use Rattle.peer_network.proofs.lemmas.Sums.{sum_same, term_le}
use Rattle.ghs_protocol.proofs.search.ReportGone.{debt_one}
use Rattle.ghs_protocol.proofs.acts.Situations.{probing_finds}
use Rattle.ghs_protocol.proofs.union.Risen.{tree_named, Lifts, tree_lifted, tree_lifted_here, tree_lifted_there, search_lifted, search_lifted_there, tests_lifted, tests_lifted_here, tests_lifted_there}
use Rattle.ghs_protocol.proofs.acts.SameForest.{not_branch}
use Rattle.std.proofs.lemmas.Option.{same_Some}

-- a member of a fragment that is lifted comes to fragment a, level l and name n
abbrev pub raised : ℕ → ℕ → Option Key → Member → Member
raised a l n m = record m { fragment = a; coming = l; coming_name = n }

abbrev pub rise : (ℕ → Bool) → ℕ → ℕ → Option Key → Member → Member
rise lifts a l n m = if lifts m.fragment then raised a l n m else m

abbrev pub risen : (ℕ → Bool) → ℕ → ℕ → Option Key → Scene → Scene
risen lifts a l n w = record w { at = λ t. rise lifts a l n (w.at t) }

pub rise_in : (lifts : ℕ → Bool) (a l : ℕ) (n : Option Key) (m : Member) → lifts m.fragment ≡ true → rise lifts a l n m ≡ raised a l n m
rise_in lifts a l n m e = rw e refl

pub rise_out : (lifts : ℕ → Bool) (a l : ℕ) (n : Option Key) (m : Member) → lifts m.fragment ≡ false → rise lifts a l n m ≡ m
rise_out lifts a l n m e = rw e refl

-- a field that rising leaves
pub rise_keeps : {A : Type 0} (k : Member → A) (lifts : ℕ → Bool) (a l : ℕ) (n : Option Key) (m : Member) →
    k (raised a l n m) ≡ k m →
    k (rise lifts a l n m) ≡ k m
rise_keeps k lifts a l n m e = elim (lifts m.fragment) as (λ b. k (cond b (raised a l n m) m) ≡ k m) [ true ↦ e | false ↦ refl ]

-- the link at port p of t is another one than that at port b of v
pub record Off (g : Network) (v b t p : ℕ) : Type 0 where
  pub here : (t ≡ v) × (p ≡ b) → ⊥
  pub there : (far g t p ≡ v) × (far_port g t p ≡ b) → ⊥

-- what is known of the scene w before the lift; the new link is that at port b of v, and v's fragment gives the number
pub record Joinable (g : Network) (w : Scene) (v b : ℕ) (lifts : ℕ → Bool) (l : ℕ) (n : Option Key) : Type 0 where
  pub at : At g v b
  pub bridge : IsJoinedIn g (forest w) v b
  -- the clauses, but for those of the new link and of the united fragment
  pub nodes : NodesFit g w
  pub links : (t p : ℕ) → At g t p → Off g v b t p → LinkFits (NamesOf g w) (end g w t p) (end g w (far g t p) (far_port g t p))
  pub by_fragment : GhostsByFragment g (forest w)
  pub names_within : NamesWithin g (forest w)
  pub sizes : LargeFragments g (forest w)
  pub within : (t p : ℕ) → At g t p → Off g v b t p → IsJoinedIn g (forest w) t p → (w.at t).fragment ≡ (w.at (far g t p)).fragment
  pub connected : FragmentsJoined g (forest w)
  pub joined_lead : JoinedLinksLead g (forest w)
  pub reached : RootsReached g (forest w)
  pub alone : Alone g w
  pub named : Named g w
  pub counted : DebtsCounted g w
  -- which fragments are lifted, and what they are like
  pub awake : (w.at v).head.phase ≢ Sleeping
  pub which : (k : ℕ) → lifts k ≡ true → (k ≡ (w.at v).fragment) ⊎ (k ≡ (w.at (far g v b)).fragment)
  pub far_lifts : lifts (w.at (far g v b)).fragment ≡ true
  pub kept : lifts (w.at v).fragment ≡ false → (l ≡ (w.at v).coming) × (n ≡ (w.at v).coming_name)
  pub low : (t : ℕ) → InNetwork g t → lifts (w.at t).fragment ≡ true → (w.at t).coming < l
  pub found : (t : ℕ) → InNetwork g t → lifts (w.at t).fragment ≡ true → (w.at t).head.phase ≡ Found
  pub uncalled : (t p : ℕ) → At g t p → Off g v b t p → lifts (w.at t).fragment ≡ true → has_call (w.seen t p).tree ≡ false
  pub unrooted : (t p : ℕ) → At g t p → Off g v b t p → lifts (w.at t).fragment ≡ true → Root g (forest w) t p → ⊥
  pub name : Key
  pub is_name : n ≡ Some name
  pub name_in : Names g (forest w) (w.at v).fragment name
  pub other : (t p : ℕ) → At g t p → Off g v b t p → lifts (w.at t).fragment ≡ true → IsJoinedIn g (forest w) t p → n ≢ Some (port_at g t p).key

module _ (g : Network) (wired : IsWired g) (w : Scene) (v b : ℕ) (lifts : ℕ → Bool) (l : ℕ) (n : Option Key)
    (known : Joinable g w v b lifts l n) where
  abbrev pub united : Scene
  united = risen lifts (w.at v).fragment l n w

  new : ℕ → ℕ
  new k = if lifts k then (w.at v).fragment else k

  fragment_is : (t : ℕ) → (united.at t).fragment ≡ new (w.at t).fragment
  unfolding new
  fragment_is t =
      elim (lifts (w.at t).fragment) as
      (λ x. (cond x (raised (w.at v).fragment l n (w.at t)) (w.at t)).fragment ≡ cond x (w.at v).fragment (w.at t).fragment)
      [ true ↦ refl | false ↦ refl ]

  head_is : (t : ℕ) → (united.at t).head ≡ (w.at t).head
  head_is t = rise_keeps (λ (m : Member). m.head) lifts (w.at v).fragment l n (w.at t) refl

  up_is : (t : ℕ) → (united.at t).up ≡ (w.at t).up
  up_is t = rise_keeps (λ (m : Member). m.up) lifts (w.at v).fragment l n (w.at t) refl

  mark_kept : (t p : ℕ) → (united.at t).mark p ≡ (w.at t).mark p
  mark_kept t p = rise_keeps (λ (m : Member). m.mark p) lifts (w.at v).fragment l n (w.at t) refl

  -- joined links, roots and ways are the same
  pub joined_to : (t p : ℕ) → IsJoinedIn g (forest w) t p → IsJoinedIn g (forest united) t p
  joined_to t p j = record { here = ap is_branch (mark_kept t p) ∙ j.here; there = ap is_branch (mark_kept _ _) ∙ j.there }

  pub joined_from : (t p : ℕ) → IsJoinedIn g (forest united) t p → IsJoinedIn g (forest w) t p
  joined_from t p j = record { here = sym (ap is_branch (mark_kept t p)) ∙ j.here; there = sym (ap is_branch (mark_kept _ _)) ∙ j.there }

  pub root_from : (t p : ℕ) → Root g (forest united) t p → Root g (forest w) t p
  root_from t p (Goes_out h k) = Goes_out (sym (ap is_branch (mark_kept t p)) ∙ h) (sym (ap is_branch (mark_kept _ _)) ∙ k)
  root_from t p (Both_ways j h k) = Both_ways (joined_from t p j) (sym (up_is t) ∙ h) (sym (up_is _) ∙ k)

  root_to : (t p : ℕ) → Root g (forest w) t p → Root g (forest united) t p
  root_to t p (Goes_out h k) = Goes_out (ap is_branch (mark_kept t p) ∙ h) (ap is_branch (mark_kept _ _) ∙ k)
  root_to t p (Both_ways j h k) = Both_ways (joined_to t p j) (up_is t ∙ h) (up_is _ ∙ k)

  reach_to : {t : ℕ} → Reach g (forest w) t → Reach g (forest united) t
  reach_to (At_root {v = t} p at h r) = At_root p at (up_is t ∙ h) (root_to t p r)
  reach_to (By_step {v = t} p at h j r) = By_step p at (up_is t ∙ h) (joined_to t p j) (reach_to r)

  leads_to : {s t : ℕ} → Leads g (IsJoinedIn g (forest w)) s t → Leads g (IsJoinedIn g (forest united)) s t
  leads_to Here = Here
  leads_to (Over {v = s} p at j r) = Over p at (joined_to s p j) (leads_to r)

  names_to : (k : ℕ) (x : Key) → Names g (forest w) k x → Names g (forest united) (new k) x
  names_to k x z = record {
    node = z.node;
    port = z.port;
    at = z.at;
    joined = joined_to _ _ z.joined;
    fragment = fragment_is z.node ∙ ap new z.fragment;
    key = z.key;
  }

  new_in : (k : ℕ) → lifts k ≡ true → new k ≡ (w.at v).fragment
  unfolding new
  new_in k e = rw e refl

  new_out : (k : ℕ) → lifts k ≡ false → new k ≡ k
  unfolding new
  new_out k e = rw e refl

  new_here : new (w.at v).fragment ≡ (w.at v).fragment
  new_here = ⊎_elim (λ e. new_in _ e) (λ e. new_out _ e) (cases_Bool (lifts (w.at v).fragment))

  pub names_here : (x : Key) → Names g (forest w) (w.at v).fragment x → Names g (forest united) (w.at v).fragment x
  names_here x z = subst (λ k. Names g (forest united) k x) new_here (names_to _ x z)

  pub names_in : (k : ℕ) → lifts k ≡ true → (x : Key) → Names g (forest w) k x → Names g (forest united) (w.at v).fragment x
  names_in k e x z = subst (λ y. Names g (forest united) y x) (new_in k e) (names_to k x z)

  pub names_out : (k : ℕ) → lifts k ≡ false → (x : Key) → Names g (forest w) k x → Names g (forest united) k x
  names_out k e x z = subst (λ y. Names g (forest united) y x) (new_out k e) (names_to k x z)

  -- a node of the united fragment has its level and name
  there : (t : ℕ) → (united.at t).fragment ≡ (w.at v).fragment → ((united.at t).coming ≡ l) × ((united.at t).coming_name ≡ n)
  there t e =
      ⊎_elim
      (λ x. (
        ap (λ (m : Member). m.coming) (rise_in lifts (w.at v).fragment l n (w.at t) x),
        ap (λ (m : Member). m.coming_name) (rise_in lifts (w.at v).fragment l n (w.at t) x),
      ))
      (λ x.
      let same : (w.at t).fragment ≡ (w.at v).fragment = sym (new_out _ x) ∙ sym (fragment_is t) ∙ e in
      let k = known.kept (sym (ap lifts same) ∙ x) in
      let z = known.by_fragment t v same in (
        ap (λ (m : Member). m.coming) (rise_out lifts (w.at v).fragment l n (w.at t) x) ∙ z.0 ∙ sym k.0,
        ap (λ (m : Member). m.coming_name) (rise_out lifts (w.at v).fragment l n (w.at t) x) ∙ z.1 ∙ sym k.1,
      ))
      (cases_Bool (lifts (w.at t).fragment))

  -- any other node is as it was
  other_is : (t : ℕ) → ((united.at t).fragment ≢ (w.at v).fragment) → (lifts (w.at t).fragment ≡ false) × (united.at t ≡ w.at t)
  other_is t ne =
      ⊎_elim (λ x. absurd (ne (fragment_is t ∙ new_in _ x))) (λ x. (x, rise_out lifts (w.at v).fragment l n (w.at t) x))
      (cases_Bool (lifts (w.at t).fragment))

  by_fragment' : GhostsByFragment g (forest united)
  by_fragment' s t e =
      ⊎_elim
      (λ x. let y = there s x in let z = there t (sym e ∙ x) in (y.0 ∙ sym z.0, y.1 ∙ sym z.1))
      (λ ne.
      let y = other_is s ne in
      let z = other_is t (λ q. ne (e ∙ q)) in
      let k = known.by_fragment s t (sym (ap (λ (m : Member). m.fragment) y.1) ∙ e ∙ ap (λ (m : Member). m.fragment) z.1) in (
        ap (λ (m : Member). m.coming) y.1 ∙ k.0 ∙ sym (ap (λ (m : Member). m.coming) z.1),
        ap (λ (m : Member). m.coming_name) y.1 ∙ k.1 ∙ sym (ap (λ (m : Member). m.coming_name) z.1),
      ))
      (cases_eq (united.at s).fragment (w.at v).fragment)

  above : 1 ≤ l
  above =
      let t = wired.there v b known.at in
      let z = known.low (far g v b) (record { some = t.some; node = t.node }) known.far_lifts in omega (arith, z)

  names_within' : NamesWithin g (forest united)
  names_within' = record {
    none = λ t is e. ⊎_elim
        (λ x. absurd (let y = (there t x).1 in let z = known.is_name in none_some (sym e ∙ y ∙ z)))
        (λ ne.
        let y = (other_is t ne).1 in
        ap (λ (m : Member). m.coming) y ∙ known.names_within.none t is (sym (ap (λ (m : Member). m.coming_name) y) ∙ e))
        (cases_eq (united.at t).fragment (w.at v).fragment);
    at_zero = λ t is e. ⊎_elim
        (λ x. absurd (let y = (there t x).0 in let z = above in omega (arith, y, z, e)))
        (λ ne.
        let y = (other_is t ne).1 in
        ap (λ (m : Member). m.coming_name) y ∙ known.names_within.at_zero t is (sym (ap (λ (m : Member). m.coming) y) ∙ e))
        (cases_eq (united.at t).fragment (w.at v).fragment);
    inside =
        λ t k is e. ⊎_elim
        (λ x.
        subst (λ y. Names g (forest united) y k) (sym x) (names_here k
        (subst (λ y. Names g (forest w) (w.at v).fragment y) (same_Some known.name k (sym known.is_name ∙ sym (there t x).1 ∙ e)) known.name_in)))
        (λ ne.
        let y = other_is t ne in
        subst (λ z. Names g (forest united) z k) (sym (ap (λ (m : Member). m.fragment) y.1))
        (names_out _ y.0 k (known.names_within.inside t k is (sym (ap (λ (m : Member). m.coming_name) y.1) ∙ e))))
        (cases_eq (united.at t).fragment (w.at v).fragment);
  }
    where
      none_some : {k : Key} → None ≡ Some k → ⊥
      none_some e = cc

  sizes' : HaveAtLeast (2 ^ l) (λ t. InNetwork g t × ((united.at t).fragment ≡ (w.at v).fragment)) → LargeFragments g (forest united)
  sizes' many t is = ⊎_elim here away (cases_eq (united.at t).fragment (w.at v).fragment)
    where
      here :
          (united.at t).fragment ≡ (w.at v).fragment →
          HaveAtLeast (2 ^ (united.at t).coming) (λ s. InNetwork g s × ((united.at s).fragment ≡ (united.at t).fragment))
      here e = subst₂ (λ x y. HaveAtLeast (2 ^ y) (λ s. InNetwork g s × ((united.at s).fragment ≡ x))) (sym e) (sym (there t e).0) many

      away :
          (united.at t).fragment ≢ (w.at v).fragment →
          HaveAtLeast (2 ^ (united.at t).coming) (λ s. InNetwork g s × ((united.at s).fragment ≡ (united.at t).fragment))
      away ne =
          subst
          (λ z. HaveAtLeast (2 ^ z) (λ s. InNetwork g s × ((united.at s).fragment ≡ (united.at t).fragment)))
          (sym (ap (λ (m : Member). m.coming) (other_is t ne).1))
          (many_as _ (λ s e. (e.0, fragment_is s ∙ ap new e.1 ∙ sym (fragment_is t))) (known.sizes t is))

  -- a link is the new one, from this end or the other, or off it
  pub data Place (t p : ℕ) : Type 0 where
    On_it : t ≡ v → p ≡ b → Place t p
    Across : far g t p ≡ v → far_port g t p ≡ b → Place t p
    Off_it : Off g v b t p → Place t p

  pub place : (t p : ℕ) → Place t p
  place t p = ⊎_elim (λ e. ⊎_elim (λ h. On_it e h) (λ ne. away (λ z. ne z.1)) (cases_eq p b)) (λ ne. away (λ z. ne z.0)) (cases_eq t v)
    where
      away : ((t ≡ v) × (p ≡ b) → ⊥) → Place t p
      away off =
          ⊎_elim
          (λ e. ⊎_elim (λ h. Across e h) (λ ne. Off_it (record { here = off; there = λ z. ne z.1 })) (cases_eq (far_port g t p) b))
          (λ ne. Off_it (record { here = off; there = λ z. ne z.0 }))
          (cases_eq (far g t p) v)

  fragment_here : (united.at v).fragment ≡ (w.at v).fragment
  fragment_here = fragment_is v ∙ new_here

  fragment_far : (united.at (far g v b)).fragment ≡ (w.at v).fragment
  fragment_far = fragment_is (far g v b) ∙ new_in _ known.far_lifts

  joined_within' : JoinedWithin g (forest united)
  joined_within' t p at j = go (place t p)
    where
      go : Place t p → (united.at t).fragment ≡ (united.at (far g t p)).fragment
      go (On_it e h) = subst₂ (λ x y. (united.at x).fragment ≡ (united.at (far g x y)).fragment) (sym e) (sym h) (fragment_here ∙ sym fragment_far)
      go (Across e h) =
          let back : t ≡ far g v b = sym (wired.back t p at) ∙ ap₂ (far g) e h in
          ap (λ y. (united.at y).fragment) back ∙ fragment_far ∙ sym fragment_here ∙ ap (λ y. (united.at y).fragment) (sym e)
      go (Off_it off) = fragment_is t ∙ ap (λ k. new k) (known.within t p at off (joined_from t p j)) ∙ sym (fragment_is (far g t p))

  -- v and y = its far end are joined, both ways
  over : Leads g (IsJoinedIn g (forest united)) v (far g v b)
  over = Over b known.at (joined_to v b known.bridge) Here

  back_over : Leads g (IsJoinedIn g (forest united)) (far g v b) v
  back_over =
      subst (λ y. Leads g (IsJoinedIn g (forest united)) (far g v b) y) (wired.back v b known.at)
      (Over (far_port g v b) (wired.there v b known.at) (record {
        here = z.there;
        there = subst₂ (λ x y. (forest united).branch x y ≡ true) (sym (wired.back v b known.at)) (sym (wired.back_port v b known.at)) z.here;
      }) Here)
    where
      z : IsJoinedIn g (forest united) v b
      z = joined_to v b known.bridge

  on : {s t r : ℕ} →
      Leads g (IsJoinedIn g (forest united)) s t →
      Leads g (IsJoinedIn g (forest united)) t r →
      Leads g (IsJoinedIn g (forest united)) s r
  on Here k = k
  on (Over p at s j) k = Over p at s (on j k)

  here_in : InNetwork g v
  here_in = record { some = known.at.some; node = known.at.node }

  far_in : InNetwork g (far g v b)
  far_in = let t = wired.there v b known.at in record { some = t.some; node = t.node }

  -- a node of the united fragment was in one of the two
  part : (t : ℕ) →
      (united.at t).fragment ≡ (w.at v).fragment →
      ((w.at t).fragment ≡ (w.at v).fragment) ⊎ ((w.at t).fragment ≡ (w.at (far g v b)).fragment)
  part t e = ⊎_elim (λ x. known.which _ x) (λ x. inl (sym (new_out _ x) ∙ sym (fragment_is t) ∙ e)) (cases_Bool (lifts (w.at t).fragment))

  connected' : FragmentsJoined g (forest united)
  connected' s t is it e =
      ⊎_elim (λ x. both (part s x) (part t (sym e ∙ x)))
      (λ ne.
      let y = (other_is s ne).1 in
      let z = (other_is t (λ q. ne (e ∙ q))).1 in
      leads_to (known.connected s t is it (sym (ap (λ (m : Member). m.fragment) y) ∙ e ∙ ap (λ (m : Member). m.fragment) z)))
      (cases_eq (united.at s).fragment (w.at v).fragment)
    where
      both :
          ((w.at s).fragment ≡ (w.at v).fragment) ⊎ ((w.at s).fragment ≡ (w.at (far g v b)).fragment) →
          ((w.at t).fragment ≡ (w.at v).fragment) ⊎ ((w.at t).fragment ≡ (w.at (far g v b)).fragment) →
          Leads g (IsJoinedIn g (forest united)) s t
      both (inl x) (inl y) = leads_to (known.connected s t is it (x ∙ sym y))
      both (inr x) (inr y) = leads_to (known.connected s t is it (x ∙ sym y))
      both (inl x) (inr y) = on (leads_to (known.connected s v is here_in x)) (on over (leads_to (known.connected (far g v b) t far_in it (sym y))))
      both (inr x) (inl y) =
          on (leads_to (known.connected s (far g v b) is far_in x)) (on back_over (leads_to (known.connected v t here_in it (sym y))))

  joined_lead' : JoinedLinksLead g (forest united)
  joined_lead' t p at j = ⊎_elim (λ x. inl (up_is t ∙ x)) (λ x. inr (up_is _ ∙ x)) (known.joined_lead t p at (joined_from t p j))

  reached' : RootsReached g (forest united)
  reached' t p is e = reach_to (known.reached t p is (sym (up_is t) ∙ e))

  alone' : Alone g united
  alone' t s it is asleep same = ⊎_elim (λ x. absurd (let z = known.found t it x in cc (z, slept))) calm (cases_Bool (lifts (w.at t).fragment))
    where
      slept : (w.at t).head.phase ≡ Sleeping
      slept = ap (λ (h : Head). h.phase) (sym (head_is t)) ∙ asleep

      calm : lifts (w.at t).fragment ≡ false → s ≡ t
      calm x =
          ⊎_elim (λ y.
          absurd (let z : (w.at t).fragment ≡ (w.at v).fragment = kept x ∙ sym same ∙ fragment_is s ∙ new_in _ y in
          known.awake (subst (λ q. (w.at q).head.phase ≡ Sleeping) (sym (known.alone t v it here_in slept (sym z))) slept)))
          (λ y. known.alone t s it is slept (sym (new_out _ y) ∙ sym (fragment_is s) ∙ same ∙ fragment_is t ∙ new_out _ x))
          (cases_Bool (lifts (w.at s).fragment))
        where
          kept : lifts (w.at t).fragment ≡ false → (w.at t).fragment ≡ (united.at t).fragment
          kept x = sym (new_out _ x) ∙ sym (fragment_is t)

  named' : Named g united
  named' t k it e =
      subst (λ y. Names g (forest united) y k) (sym (fragment_is t))
      (names_to _ k (known.named t k it (ap (λ (h : Head). h.name) (sym (head_is t)) ∙ e)))

  -- debts don't read fragments
  debt_same : (t p s q : ℕ) → debt (end g united t p) (end g united s q) ≡ debt (end g w t p) (end g w s q)
  debt_same t p s q =
      ap₂ (λ o h.
      cond (not (is_at o p) &&
      (has_report (w.seen t p).tree || (has_call (w.seen s q).tree || (is_find (of_head h).phase && is_at (of_head h).in_branch q))))
      1 0)
      (up_is t) (head_is s)
    where
      of_head : Head → Head
      of_head h = h

  counted' : DebtsCounted g united
  counted' t it =
      ap (λ (h : Head). h.find_count) (head_is t) ∙ known.counted t it ∙
      sum_same (length (g.ports t)) _ _ (λ p lt. sym (debt_same t p (far g t p) (far_port g t p)))

  -- who is lifted waits for no Report
  unowed : (t p : ℕ) →
      At g t p →
      (w.at t).head.phase ≡ Found →
      (w.at t).up ≢ Some p →
      owes (end g w t p) (end g w (far g t p) (far_port g t p)) ≡ false
  unowed t p at rests ne =
      ⊎_elim
      (λ x. absurd (let z = debt_one (end g w t p) (end g w (far g t p) (far_port g t p)) ne x in omega (arith, z, term, count, none)))
      (λ x. x)
      (cases_Bool (owes (end g w t p) (end g w (far g t p) (far_port g t p))))
    where
      is : InNetwork g t
      is = record { some = at.some; node = at.node }

      none : ◌≡◌ {A = ℕ} (w.at t).head.find_count 0
      none = ((known.nodes t is).idle (λ z. cc (z, rests))).1

      count : (w.at t).head.find_count ≡ debts g w t
      count = known.counted t is

      term : debt (end g w t p) (end g w (far g t p) (far_port g t p)) ≤ debts g w t
      term = term_le (length (g.ports t)) p (λ i. debt (end g w t i) (end g w (far g t i) (far_port g t i))) at.port

  first_of : (x y : Bool) → (x || y) ≡ false → x ≡ false
  first_of true y e = absurd (let z = e in cc)
  first_of false y e = refl

  root_out : (t p : ℕ) → Out (tree_end (end g w t p)) (tree_end (end g w (far g t p) (far_port g t p))) → Root g (forest w) t p
  root_out t p o = Goes_out (ap is_branch o.here) (not_branch _ o.there)

  root_both : (t p : ℕ) → Mutual (tree_end (end g w t p)) (tree_end (end g w (far g t p) (far_port g t p))) → Root g (forest w) t p
  root_both t p m = Both_ways (record { here = ap is_branch m.joins.here; there = ap is_branch m.joins.there }) m.up m.up_beyond

  lifts_at : (t p : ℕ) →
      At g t p →
      Off g v b t p →
      lifts (w.at t).fragment ≡ true →
      Lifts (w.at v).fragment l n (tree_end (end g w t p)) (tree_end (end g w (far g t p) (far_port g t p)))
  lifts_at t p at off x = record {
    low = let y = (known.nodes t is).lag.level in let z = known.low t is x in omega (arith, y, z);
    found = known.found t is x;
    uncalled = known.uncalled t p at off x;
    unreported = λ ne. first_of _ _ (unowed t p at (known.found t is x) ne);
    in_not_out = λ o. known.unrooted t p at off x (root_out t p o);
    unrooted = λ m. known.unrooted t p at off x (root_both t p m);
  }
    where
      is : InNetwork g t
      is = record { some = at.some; node = at.node }

  -- the far end of a link that is off the new one
  off_far : (t p : ℕ) → At g t p → Off g v b t p → Off g v b (far g t p) (far_port g t p)
  off_far t p at off = record { here = off.there; there = λ z. off.here (sym (wired.back t p at) ∙ z.0, sym (wired.back_port t p at) ∙ z.1) }

  idle : (t : ℕ) → InNetwork g t → lifts (w.at t).fragment ≡ true → (w.at t).head.probe ≡ None
  idle t is x = ((known.nodes t is).idle (λ z. cc (z, known.found t is x))).0

  -- the link, its ends as these members
  ends_as : (t p : ℕ) → Member → Member → Type 0
  ends_as t p m k =
      LinkFits (NamesOf g united)
      (record { port = p; key = (port_at g t p).key; mark = m.mark p; is = m; seen = w.seen t p }) (record {
        port = far_port g t p;
        key = (port_at g (far g t p) (far_port g t p)).key;
        mark = k.mark (far_port g t p);
        is = k;
        seen = seen_beyond g w t p;
      })

  -- the links off the new one
  off_link : (t p : ℕ) → At g t p → Off g v b t p → LinkFits (NamesOf g united) (end g united t p) (end g united (far g t p) (far_port g t p))
  unfolding ends_as
  off_link t p at off = go (cases_Bool (lifts (w.at t).fragment)) (cases_Bool (lifts (w.at (far g t p)).fragment))
    where
      h : LinkFits (NamesOf g w) (end g w t p) (end g w (far g t p) (far_port g t p))
      h = known.links t p at off

      is : InNetwork g t
      is = record { some = at.some; node = at.node }

      is' : InNetwork g (far g t p)
      is' = let z = wired.there t p at in record { some = z.some; node = z.node }

      far_is : tree_end (end g w (far g (far g t p) (far_port g t p)) (far_port g (far g t p) (far_port g t p))) ≡ tree_end (end g w t p)
      far_is = λ k. tree_end (end g w (wired.back t p at k) (wired.back_port t p at k))

      mine : lifts (w.at t).fragment ≡ true → Lifts (w.at v).fragment l n (tree_end (end g w t p)) (tree_end (end g w (far g t p) (far_port g t p)))
      mine x = lifts_at t p at off x

      theirs :
          lifts (w.at (far g t p)).fragment ≡ true →
          Lifts (w.at v).fragment l n (tree_end (end g w (far g t p) (far_port g t p))) (tree_end (end g w t p))
      theirs x =
          subst
          (Lifts (w.at v).fragment l n (tree_end (end g w (far g t p) (far_port g t p)))) far_is
          (lifts_at _ _ (wired.there t p at) (off_far t p at off) x)

      unequal : {x y : ℕ} → lifts x ≡ true → lifts y ≡ false → x ≢ y
      unequal x y e = let z = ap lifts e in cc (x, y, z)

      joined : Joins (tree_end (end g w t p)) (tree_end (end g w (far g t p) (far_port g t p))) → IsJoinedIn g (forest w) t p
      joined z = record { here = ap is_branch z.here; there = ap is_branch z.there }

      stays : lifts (w.at t).fragment ≡ false → (w.at t).fragment ≡ (w.at v).fragment → (w.at t).coming ≡ l
      stays x same = (known.by_fragment t v same).0 ∙ sym (known.kept (sym (ap lifts same) ∙ x)).0

      as_raised : (s : ℕ) → lifts (w.at s).fragment ≡ true → raised (w.at v).fragment l n (w.at s) ≡ rise lifts (w.at v).fragment l n (w.at s)
      as_raised s x = sym (rise_in lifts (w.at v).fragment l n (w.at s) x)

      as_left : (s : ℕ) → lifts (w.at s).fragment ≡ false → w.at s ≡ rise lifts (w.at v).fragment l n (w.at s)
      as_left s x = sym (rise_out lifts (w.at v).fragment l n (w.at s) x)

      go :
          (lifts (w.at t).fragment ≡ true) ⊎ (lifts (w.at t).fragment ≡ false) →
          (lifts (w.at (far g t p)).fragment ≡ true) ⊎ (lifts (w.at (far g t p)).fragment ≡ false) →
          LinkFits (NamesOf g united) (end g united t p) (end g united (far g t p) (far_port g t p))
      go (inl x) (inl y) = subst₂ (ends_as t p) (as_raised t x) (as_raised (far g t p) y) (record {
        tree =
            tree_lifted (w.at v).fragment l n (NamesOf g w) (NamesOf g united) (tree_end (end g w t p))
            (tree_end (end g w (far g t p) (far_port g t p))) (mine x) (theirs y) (λ z. known.other t p at off x (joined z)) (names_in _ x) h.tree;
        search =
            search_lifted (w.at v).fragment l n (tree_end (end g w t p))
            (record (tree_end (end g w (far g t p) (far_port g t p))) { fragment = (w.at v).fragment; coming = l; coming_name = n }) (mine x).low
            (λ z. refl);
        tests =
            tests_lifted (w.at v).fragment l n (test_end (end g w t p)) (test_end (end g w (far g t p) (far_port g t p))) (idle t is x)
            (idle _ is' y) h.tests;
      })
      go (inl x) (inr y) = subst₂ (ends_as t p) (as_raised t x) (as_left (far g t p) y) (record {
        tree =
            tree_lifted_here (w.at v).fragment l n (NamesOf g w) (NamesOf g united) (tree_end (end g w t p))
            (tree_end (end g w (far g t p) (far_port g t p))) (mine x) (λ z. unequal x y (known.within t p at off (joined z))) h.tree;
        search =
            search_lifted (w.at v).fragment l n (tree_end (end g w t p)) (tree_end (end g w (far g t p) (far_port g t p))) (mine x).low
            (λ z. absurd (unequal x y (h.search.rejected_inside z)));
        tests =
            tests_lifted_here (w.at v).fragment l n (test_end (end g w t p)) (test_end (end g w (far g t p) (far_port g t p))) (idle t is x)
            (λ z. unequal x y (sym z)) h.tests;
      })
      go (inr x) (inl y) = subst₂ (ends_as t p) (as_left t x) (as_raised (far g t p) y) (record {
        tree =
            tree_lifted_there (w.at v).fragment l n (NamesOf g w) (NamesOf g united) (tree_end (end g w t p))
            (tree_end (end g w (far g t p) (far_port g t p))) (theirs y).low (stays x) (λ z. unequal y x (sym (known.within t p at off (joined z))))
            h.tree;
        search =
            search_lifted_there (w.at v).fragment l n (tree_end (end g w t p)) (tree_end (end g w (far g t p) (far_port g t p))) (theirs y).low
            (stays x) (λ z. unequal y x (sym (known.within t p at off (joined z)))) (λ z. unequal y x (sym (h.search.rejected_inside z))) h.search;
        tests =
            tests_lifted_there (w.at v).fragment l n (test_end (end g w t p)) (test_end (end g w (far g t p) (far_port g t p))) (idle _ is' y)
            (λ z. unequal y x z) (λ z le same.
            let s = ((known.nodes t is).searching (probing_finds (known.nodes t is) z)).level in
            let c = stays x (sym same) in let q = (theirs y).low in omega (arith, s, c, q, le))
            h.tests;
      })
      go (inr x) (inr y) = subst₂ (ends_as t p) (as_left t x) (as_left (far g t p) y) (record {
        tree =
            tree_named (NamesOf g w) (NamesOf g united) (tree_end (end g w t p)) (tree_end (end g w (far g t p) (far_port g t p))) (names_out _ x)
            h.tree;
        search = h.search;
        tests = h.tests;
      })

  raised_fits : (k : ℕ) (m : Member) → m.head.phase ≡ Found → m.coming < l → NodeFits k m → NodeFits k (raised (w.at v).fragment l n m)
  raised_fits k m rests lt h = record {
    own_ports = record { probe = h.own_ports.probe; in_branch = h.own_ports.in_branch; mark = h.own_ports.mark };
    untouched = λ e. absurd (cc (e, rests));
    points = λ e z. let y = h.points e z in record { port = y.port; up = y.up; within = y.within; mark = y.mark };
    idle = h.idle;
    searching = λ e. absurd (cc (e, rests));
    naming = record { level = h.naming.level; in_branch = h.naming.in_branch; name = h.naming.name };
    lag = let y = h.lag.level in record { level = omega (arith, y, lt); name = λ e. absurd (omega (arith, y, lt, e)) };
    best_port = h.best_port;
  }

  nodes' : (t : ℕ) → InNetwork g t → NodeFits (length (g.ports t)) (united.at t)
  nodes' t is =
      ⊎_elim (λ x.
      subst (NodeFits (length (g.ports t))) (sym (rise_in lifts (w.at v).fragment l n (w.at t) x))
      (raised_fits _ (w.at t) (known.found t is x) (known.low t is x) (known.nodes t is)))
      (λ x. subst (NodeFits (length (g.ports t))) (sym (rise_out lifts (w.at v).fragment l n (w.at t) x)) (known.nodes t is))
      (cases_Bool (lifts (w.at t).fragment))

  -- all together
  pub unites :
      HaveAtLeast (2 ^ l) (λ t. InNetwork g t × ((united.at t).fragment ≡ (w.at v).fragment)) →
      OneRoot g (forest united) →
      Resting g united →
      LinkFits (NamesOf g united) (end g united v b) (end g united (far g v b) (far_port g v b)) →
      LinkFits (NamesOf g united) (end g united (far g v b) (far_port g v b)) (end g united v b) →
      Invariant g united
  unites many one rest near away = record {
    nodes = nodes';
    trees = record {
      by_fragment = by_fragment';
      names_within = names_within';
      sizes = sizes' many;
      joined_within = joined_within';
      connected = connected';
      joined_lead = joined_lead';
      one_root = one;
      reached = reached';
    };
    links = λ t p at. go t p at (place t p);
    alone = alone';
    named = named';
    resting = rest;
    counted = counted';
  }
    where
      go : (t p : ℕ) → At g t p → Place t p → LinkFits (NamesOf g united) (end g united t p) (end g united (far g t p) (far_port g t p))
      go t p at (On_it e h) =
          subst₂ (λ x y. LinkFits (NamesOf g united) (end g united x y) (end g united (far g x y) (far_port g x y))) (sym e) (sym h) near
      go t p at (Across e h) =
          let back : far g v b ≡ t = sym (ap₂ (far g) e h) ∙ wired.back t p at in
          let back' : far_port g v b ≡ p = sym (ap₂ (far_port g) e h) ∙ wired.back_port t p at in
          subst₂
          (λ x y. LinkFits (NamesOf g united) (end g united x y) (end g united (far g t p) (far_port g t p)))
          back back'
          (subst₂ (λ x y. LinkFits (NamesOf g united) (end g united (far g v b) (far_port g v b)) (end g united x y)) (sym e) (sym h) away)
      go t p at (Off_it off) = off_link t p at off
