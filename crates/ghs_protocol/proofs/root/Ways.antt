-- The way to the root turns to another port of one node: fragments and roots afterwards.
use Rattle.std.proofs.Common.{◌≡◌, ◌≢◌, ℕ, Bool, true, false, Some, sym, ◌∙◌, ap, ap₂, subst, subst₂, ⊎_elim, ◌⊎◌, inl, inr}
use Rattle.std.proofs.lemmas.Bool.{cases_eq}
use Rattle.std.proofs.lemmas.Option.{same_Some}
use Rattle.ghs_graph.specs.declared.key.Key.{Key}
use Rattle.peer_network.specs.Network.{Network, At, far, far_port}
use Rattle.peer_network.proofs.lemmas.Wired.{IsWired}
use Rattle.peer_network.specs.Updates.{put}
use Rattle.ghs_protocol.specs.Marks.{Leads, Here, Over}
use Rattle.ghs_protocol.proofs.clauses.Scene.{Forest}
use Rattle.ghs_protocol.proofs.clauses.Fragments.{IsJoinedIn, Names, ForestFits, Root, Goes_out, Both_ways, Reach, At_root, By_step}
use Rattle.peer_network.proofs.lemmas.Updates.{put_same, put_other}

-- what is joined by some links is joined by more
pub leads_map : {g : Network} {S T : ℕ → ℕ → Type 0} → ((v p : ℕ) → At g v p → S v p → T v p) → {v u : ℕ} → Leads g S v u → Leads g T v u
leads_map h Here = Here
leads_map h (Over {v = v} p at s l) = Over p at (h v p at s) (leads_map h l)

-- where a root lies afterwards
data Lies (g : Network) (s : Forest) (u b v p : ℕ) : Type 0 where
  Elsewhere : Root g s v p → s.fragment v ≢ s.fragment u → Lies g s u b v p
  Near : v ≡ u → p ≡ b → Lies g s u b v p
  Away : far g v p ≡ u → far_port g v p ≡ b → s.fragment v ≡ s.fragment u → Lies g s u b v p

-- the node u's way turns to port b, and marks may turn to Branch
abbrev pub turning : Forest → ℕ → ℕ → (ℕ → ℕ → Bool) → Forest
turning s u b β = record s { branch = β; up = put s.up u (Some b) }

-- u's old root, if it has one, is a joined link at u
abbrev pub RootAtNode : Network → Forest → ℕ → Type 0
RootAtNode g s u = (v p : ℕ) → At g v p → Root g s v p → s.fragment v ≡ s.fragment u → IsJoinedIn g s v p × ((v ≡ u) ⊎ (far g v p ≡ u))

-- the joined links of u are their far ends' ways
abbrev pub NeighboursLed : Network → Forest → ℕ → Type 0
NeighboursLed g s u = (p : ℕ) → At g u p → IsJoinedIn g s u p → s.up (far g u p) ≡ Some (far_port g u p)

-- what the turn asks for: the same links are joined, u's old root is at u, and its new one at b
pub record Turns (g : Network) (s : Forest) (u b : ℕ) (β : ℕ → ℕ → Bool) : Type 0 where
  pub at : At g u b
  pub keeps : (v p : ℕ) → At g v p → IsJoinedIn g s v p → IsJoinedIn g (turning s u b β) v p
  pub only : (v p : ℕ) → At g v p → IsJoinedIn g (turning s u b β) v p → IsJoinedIn g s v p
  pub out_keeps : (v p : ℕ) →
      At g v p →
      s.branch v p ≡ true →
      s.branch (far g v p) (far_port g v p) ≡ false →
      (β v p ≡ true) × (β (far g v p) (far_port g v p) ≡ false)
  pub out_only : (v p : ℕ) →
      At g v p →
      β v p ≡ true →
      β (far g v p) (far_port g v p) ≡ false →
      ((v ≡ u) × (p ≡ b)) ⊎ ((s.branch v p ≡ true) × (s.branch (far g v p) (far_port g v p) ≡ false))
  pub led : NeighboursLed g s u
  pub old : RootAtNode g s u
  pub root : Root g (turning s u b β) u b

module _ (g : Network) (wired : IsWired g) (s : Forest) (u b : ℕ) (β : ℕ → ℕ → Bool) (turns : Turns g s u b β) (fits : ForestFits g s) where
  s' : Forest
  s' = turning s u b β

  up_other : (v p : ℕ) → v ≢ u → s.up v ≡ Some p → s'.up v ≡ Some p
  unfolding s'
  up_other v p ne e = put_other s.up u v (Some b) ne ∙ e

  up_was : (v p : ℕ) → v ≢ u → s'.up v ≡ Some p → s.up v ≡ Some p
  unfolding s'
  up_was v p ne e = sym (put_other s.up u v (Some b) ne) ∙ e

  up_here : s'.up u ≡ Some b
  unfolding s'
  up_here = put_same s.up u (Some b)

  pub names_turn : (a : ℕ) (k : Key) → Names g s a k → Names g (turning s u b β) a k
  names_turn a k n = record { node = n.node; port = n.port; at = n.at; joined = turns.keeps _ _ n.at n.joined; fragment = n.fragment; key = n.key }

  -- reaching the root
  reach_here : Reach g s' u
  unfolding s'
  reach_here = At_root b turns.at up_here turns.root

  rooted : (v p : ℕ) → At g v p → s.up v ≡ Some p → v ≢ u → Root g s v p → Reach g s' v
  unfolding s'
  rooted v p at way ne (Goes_out a c) = let t = turns.out_keeps v p at a c in At_root p at (up_other v p ne way) (Goes_out t.0 t.1)
  rooted v p at way ne (Both_ways l x y) =
      ⊎_elim (λ e. By_step p at (up_other v p ne way) (turns.keeps v p at l) (subst (Reach g s') (sym e) reach_here))
      (λ ne'. At_root p at (up_other v p ne way) (Both_ways (turns.keeps v p at l) (up_other v p ne x) (up_other _ _ ne' y))) (cases_eq (far g v p) u)

  carried : {v : ℕ} → Reach g s v → Reach g s' v
  unfolding s'
  carried {v} (At_root p at way r) = ⊎_elim (λ e. subst (Reach g s') (sym e) reach_here) (λ ne. rooted v p at way ne r) (cases_eq v u)
  carried {v} (By_step p at way l r) =
      ⊎_elim (λ e. subst (Reach g s') (sym e) reach_here)
      (λ ne. By_step p at (up_other v p ne way) (turns.keeps v p at l) (carried r))
      (cases_eq v u)

  -- one root
  lies : (v p : ℕ) → At g v p → Root g s' v p → Lies g s u b v p
  unfolding s'
  lies v p at (Goes_out a c) =
      ⊎_elim (λ h. Near h.0 h.1)
      (λ h. Elsewhere (Goes_out h.0 h.1) (λ e. let z = (turns.old v p at (Goes_out h.0 h.1) e).0.there in cc (z, h.1)))
      (turns.out_only v p at a c)
  lies v p at (Both_ways l x y) = ⊎_elim near (λ ne. ⊎_elim away (beside ne) (cases_eq (far g v p) u)) (cases_eq v u)
    where
      near : v ≡ u → Lies g s u b v p
      near e = Near e (sym (same_Some b p (sym up_here ∙ subst (λ y. s'.up y ≡ Some p) e x)))

      away : far g v p ≡ u → Lies g s u b v p
      away e =
          Away e
          (sym (same_Some b _ (sym up_here ∙ subst (λ z. s'.up z ≡ Some (far_port g v p)) e y)))
          (fits.joined_within v p at (turns.only v p at l) ∙ ap s.fragment e)

      beside : v ≢ u → far g v p ≢ u → Lies g s u b v p
      beside ne ne' =
          let r : Root g s v p = Both_ways (turns.only v p at l) (up_was v p ne x) (up_was _ _ ne' y) in
          Elsewhere r (λ e. ⊎_elim ne ne' (turns.old v p at r e).1)

  meets : (v p a q : ℕ) →
      At g v p →
      At g a q →
      Lies g s u b v p →
      Lies g s u b a q →
      s.fragment v ≡ s.fragment a →
      ((v ≡ a) × (p ≡ q)) ⊎ ((far g v p ≡ a) × (far_port g v p ≡ q))
  meets v p a q at at' (Elsewhere r ne) (Elsewhere r' ne') same = fits.one_root v p a q at at' r r' same
  meets v p a q at at' (Elsewhere r ne) (Near e h) same = absurd (ne (same ∙ ap s.fragment e))
  meets v p a q at at' (Elsewhere r ne) (Away e h f) same = absurd (ne (same ∙ f))
  meets v p a q at at' (Near e h) (Elsewhere r ne) same = absurd (ne (sym same ∙ ap s.fragment e))
  meets v p a q at at' (Away e h f) (Elsewhere r ne) same = absurd (ne (sym same ∙ f))
  meets v p a q at at' (Near e h) (Near e' h') same = inl (e ∙ sym e', h ∙ sym h')
  meets v p a q at at' (Near e h) (Away e' h' f) same =
      inr (ap₂ (far g) (e ∙ sym e') (h ∙ sym h') ∙ wired.back a q at', ap₂ (far_port g) (e ∙ sym e') (h ∙ sym h') ∙ wired.back_port a q at')
  meets v p a q at at' (Away e h f) (Near e' h') same = inr (e ∙ sym e', h ∙ sym h')
  meets v p a q at at' (Away e h f) (Away e' h' f') same =
      inl (
        sym (wired.back v p at) ∙ ap₂ (far g) (e ∙ sym e') (h ∙ sym h') ∙ wired.back a q at',
        sym (wired.back_port v p at) ∙ ap₂ (far_port g) (e ∙ sym e') (h ∙ sym h') ∙ wired.back_port a q at',
      )

  -- each joined link leads to the root
  still_leads : (v p : ℕ) → At g v p → IsJoinedIn g s v p → (s'.up v ≡ Some p) ⊎ (s'.up (far g v p) ≡ Some (far_port g v p))
  still_leads v p at l = ⊎_elim here (λ ne. ⊎_elim there (beside ne) (cases_eq (far g v p) u)) (cases_eq v u)
    where
      here : v ≡ u → (s'.up v ≡ Some p) ⊎ (s'.up (far g v p) ≡ Some (far_port g v p))
      here e =
          let at' : At g u p = subst (λ y. At g y p) e at in
          let way : s.up (far g v p) ≡ Some (far_port g v p) =
          subst (λ y. s.up (far g y p) ≡ Some (far_port g y p)) (sym e) (turns.led p at' (subst (λ y. IsJoinedIn g s y p) e l)) in
          inr (up_other _ _ (λ z. wired.apart v p at (z ∙ sym e)) way)

      there : far g v p ≡ u → (s'.up v ≡ Some p) ⊎ (s'.up (far g v p) ≡ Some (far_port g v p))
      there e =
          let i = far_port g v p in
          let at' : At g u i = subst (λ y. At g y i) e (wired.there v p at) in
          let back : far g u i ≡ v = ap (λ y. far g y i) (sym e) ∙ wired.back v p at in
          let back' : far_port g u i ≡ p = ap (λ y. far_port g y i) (sym e) ∙ wired.back_port v p at in
          let l' : IsJoinedIn g s u i = record { here = subst (λ y. s.branch y i ≡ true) e l.there; there = ap₂ s.branch back back' ∙ l.here } in
          let way : s.up v ≡ Some p = subst₂ (λ y z. s.up y ≡ Some z) back back' (turns.led i at' l') in
          inl (up_other v p (λ z. wired.apart v p at (e ∙ sym z)) way)

      beside : v ≢ u → far g v p ≢ u → (s'.up v ≡ Some p) ⊎ (s'.up (far g v p) ≡ Some (far_port g v p))
      beside ne ne' = ⊎_elim (λ e. inl (up_other v p ne e)) (λ e. inr (up_other _ _ ne' e)) (fits.joined_lead v p at l)

  pub forest_turn : ForestFits g (turning s u b β)
  unfolding s'
  forest_turn = record {
    by_fragment = fits.by_fragment;
    names_within = record {
      none = fits.names_within.none;
      at_zero = fits.names_within.at_zero;
      inside = λ v k is e. names_turn _ k (fits.names_within.inside v k is e);
    };
    sizes = fits.sizes;
    joined_within = λ v p at l. fits.joined_within v p at (turns.only v p at l);
    connected = λ a v ia iv e. leads_map turns.keeps (fits.connected a v ia iv e);
    joined_lead = λ v p at l. still_leads v p at (turns.only v p at l);
    one_root = λ v p a q at at' r r' same. meets v p a q at at' (lies v p at r) (lies a q at' r') same;
    reached = λ v p is e. ⊎_elim (λ h. subst (Reach g s') (sym h) reach_here) (λ ne. carried (fits.reached v p is (up_was v p ne e))) (cases_eq v u);
  }
