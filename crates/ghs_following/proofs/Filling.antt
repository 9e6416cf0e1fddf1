-- Queues, of messages or of numbers: two events of two nodes fill them the same in either order.
use Rattle.std.proofs.Common.{◌≡◌, ◌≢◌, ℕ, Bool, true, false, ◌==◌, ◌⊎◌, inl, inr, List, [], ◌∷◌, ◌++◌, refl, sym, ◌∙◌, ap, ap₂, cond, ⊎_elim, eq-eqb, ne_eqb, append_assoc, append-nil}
use Rattle.std.specs.List.{All}
use Rattle.std.proofs.lemmas.Bool.{cases_eq}
use Rattle.ghs_node.specs.declared.delta.Fate.{Fate}
use Rattle.ghs_node.specs.declared.delta.Fate.TheVariants.{Consumed, Requeued}
use Rattle.peer_network.specs.declared.event.Event.{Event}
use Rattle.peer_network.specs.declared.event.Event.TheVariants.{Wake, Take}
use Rattle.peer_network.specs.Network.{Network, far, far_port, At, is_port}
use Rattle.peer_network.specs.Events.{event_node}
use Rattle.peer_network.specs.Updates.{put_at}
use Rattle.peer_network.proofs.lemmas.Events.{at_of, is_port_of}
use Rattle.ghs_protocol.proofs.lemmas.Queues.{all_first, all_rest}
use Rattle.peer_network.proofs.lemmas.Updates.{one_place, put_at_hit, put_at_miss}
use Rattle.peer_network.proofs.lemmas.Wired.{IsWired}

-- what goes out on a port
abbrev pub on_port : {A : Type 0} → List (ℕ × A) → ℕ → List A
on_port [] p = []
on_port (s ∷ ss) p = cond (s.0 == p) (s.1 ∷ on_port ss p) (on_port ss p)

-- what comes to port b of a of what v sends
abbrev pub comes : {A : Type 0} → Network → ℕ → List (ℕ × A) → ℕ → ℕ → List A
comes g v ss a b = cond (far g a b == v) (on_port ss (far_port g a b)) []

-- the queues once v has sent
abbrev pub fills : {A : Type 0} → Network → ℕ → List (ℕ × A) → (ℕ → ℕ → List A) → ℕ → ℕ → List A
fills g v [] q = q
fills g v (s ∷ ss) q = fills g v ss (put_at q (far g v s.0) (far_port g v s.0) (q (far g v s.0) (far_port g v s.0) ++ s.1 ∷ []))

-- a queue once its first was taken
abbrev pub turned : {A : Type 0} → Fate → List A → List A
turned f [] = []
turned Consumed (t ∷ ts) = ts
turned Requeued (t ∷ ts) = ts ++ t ∷ []

-- the queues once an event has taken what it takes
abbrev pub taking : {A : Type 0} → Event → Fate → (ℕ → ℕ → List A) → ℕ → ℕ → List A
taking (Wake v) f q = q
taking (Take v p) f q = put_at q v p (turned f (q v p))

-- and once its node has sent
abbrev pub acts : {A : Type 0} → Network → Event → Fate → List (ℕ × A) → (ℕ → ℕ → List A) → ℕ → ℕ → List A
acts g e f ss q = fills g (event_node e) ss (taking e f q)

-- each goes out on a port
abbrev pub OnPorts : {A : Type 0} → Network → ℕ → List (ℕ × A) → Type 0
OnPorts g v ss = All (λ s. At g v s.0) ss

-- a place is a port or it isn't
pub port_or_not : (g : Network) (a b : ℕ) → At g a b ⊎ (At g a b → ⊥)
port_or_not g a b = go (is_port g a b) refl
  where
    go : (t : Bool) → is_port g a b ≡ t → At g a b ⊎ (At g a b → ⊥)
    go true e = inl (at_of g a b e)
    go false e = inr (λ at. no (sym e ∙ is_port_of g a b at))
      where
        no : false ≡ true → ⊥
        no h = cc

-- an event takes at a place or it doesn't
pub takes_or_not : (e : Event) (a b : ℕ) → (e ≡ Take a b) ⊎ (e ≡ Take a b → ⊥)
takes_or_not (Wake v) a b = inr (λ h. cc)
takes_or_not (Take v p) a b =
    ⊎_elim (λ (h : (a ≡ v) × (b ≡ p)). inl (ap₂ Take (sym h.0) (sym h.1))) (λ ne. inr (λ h. ne (cc, cc))) (one_place v p a b)

module _ {A : Type 0} where
  pub takes_hit : (e : Event) (f : Fate) (q : ℕ → ℕ → List A) (a b : ℕ) → e ≡ Take a b → taking e f q a b ≡ turned f (q a b)
  takes_hit e f q a b h = rw h (put_at_hit q a b a b (turned f (q a b)) refl refl)

  pub takes_miss : (e : Event) (f : Fate) (q : ℕ → ℕ → List A) (a b : ℕ) → (e ≡ Take a b → ⊥) → taking e f q a b ≡ q a b
  takes_miss (Wake v) f q a b ne = refl
  takes_miss (Take v p) f q a b ne = put_at_miss q v p a b _ (λ h. ne (ap₂ Take (sym h.0) (sym h.1)))

  -- what comes behind a first one stays behind the others, unless the first goes behind it
  pub turned_grown : (f : Fate) (l c : List A) → l ≢ [] → (f ≡ Requeued → c ≡ []) → turned f (l ++ c) ≡ turned f l ++ c
  turned_grown f [] c some none = absurd (some refl)
  turned_grown Consumed (t ∷ ts) c some none = refl
  turned_grown Requeued (t ∷ ts) c some none = rw (none refl) (ap (λ (l : List A). l ++ t ∷ []) (append-nil ts) ∙ sym (append-nil (ts ++ t ∷ [])))

  nothing : (b : Bool) → ◌≡◌ {A = List A} (cond b [] []) []
  nothing true = refl
  nothing false = refl

  comes_cons : (g : Network) (v : ℕ) (s : ℕ × A) (ss : List (ℕ × A)) (a b : ℕ) → comes g v (s ∷ ss) a b ≡ comes g v (s ∷ []) a b ++ comes g v ss a b
  comes_cons g v s ss a b = go (far g a b == v) (s.0 == far_port g a b)
    where
      go : (h k : Bool) →
          cond h (cond k (s.1 ∷ on_port ss (far_port g a b)) (on_port ss (far_port g a b))) [] ≡
          cond h (cond k (s.1 ∷ []) []) [] ++ cond h (on_port ss (far_port g a b)) []
      go true true = refl
      go true false = refl
      go false k = refl

  module _ (g : Network) (wired : IsWired g) where
    -- one comes to the far end of its port, and nowhere else
    one_comes : (v : ℕ) (s : ℕ × A) (q : ℕ → ℕ → List A) (a b : ℕ) → At g v s.0 → At g a b →
        put_at q (far g v s.0) (far_port g v s.0) (q (far g v s.0) (far_port g v s.0) ++ s.1 ∷ []) a b ≡ q a b ++ comes g v (s ∷ []) a b
    one_comes v s q a b at here = ⊎_elim hit miss (one_place (far g v s.0) (far_port g v s.0) a b)
      where
        hit : (a ≡ far g v s.0) × (b ≡ far_port g v s.0) →
            put_at q (far g v s.0) (far_port g v s.0) (q (far g v s.0) (far_port g v s.0) ++ s.1 ∷ []) a b ≡ q a b ++ comes g v (s ∷ []) a b
        hit e =
            let back : far g a b ≡ v = ap₂ (far g) e.0 e.1 ∙ wired.back v s.0 at in
            let port : s.0 ≡ far_port g a b = sym (ap₂ (far_port g) e.0 e.1 ∙ wired.back_port v s.0 at) in
            put_at_hit q (far g v s.0) (far_port g v s.0) a b _ e.0 e.1 ∙ ap (λ (l : List A). l ++ s.1 ∷ []) (ap₂ q (sym e.0) (sym e.1))
            ∙ ap (λ (l : List A). q a b ++ l) (sym (rw (eq-eqb _ _ back, eq-eqb _ _ port) refl))

        miss : ((a ≡ far g v s.0) × (b ≡ far_port g v s.0) → ⊥) →
            put_at q (far g v s.0) (far_port g v s.0) (q (far g v s.0) (far_port g v s.0) ++ s.1 ∷ []) a b ≡ q a b ++ comes g v (s ∷ []) a b
        miss ne = put_at_miss q (far g v s.0) (far_port g v s.0) a b _ ne ∙ sym (ap (λ (l : List A). q a b ++ l) none ∙ append-nil (q a b))
          where
            none : comes g v (s ∷ []) a b ≡ []
            none = ⊎_elim
                (λ (e : far g a b ≡ v). ⊎_elim
                (λ (h : s.0 ≡ far_port g a b). absurd (ne (
                  sym (wired.back a b here) ∙ ap₂ (far g) e (sym h),
                  sym (wired.back_port a b here) ∙ ap₂ (far_port g) e (sym h),
                )))
                (λ (h : s.0 ≢ far_port g a b). rw (ne_eqb s.0 (far_port g a b) h) (nothing (far g a b == v))) (cases_eq s.0 (far_port g a b)))
                (λ (e : far g a b ≢ v). rw (ne_eqb (far g a b) v e) refl) (cases_eq (far g a b) v)

    pub fills_at : (v : ℕ) (ss : List (ℕ × A)) (q : ℕ → ℕ → List A) (a b : ℕ) → OnPorts g v ss → At g a b →
        fills g v ss q a b ≡ q a b ++ comes g v ss a b
    fills_at v [] q a b on here = sym (ap (λ (l : List A). q a b ++ l) (nothing (far g a b == v)) ∙ append-nil (q a b))
    fills_at v (s ∷ ss) q a b on here =
        fills_at v ss _ a b (all_rest (λ (t : ℕ × A). At g v t.0) s ss on) here
        ∙ ap (λ (l : List A). l ++ comes g v ss a b) (one_comes v s q a b (all_first (λ (t : ℕ × A). At g v t.0) s ss on) here)
        ∙ append_assoc (q a b) (comes g v (s ∷ []) a b) (comes g v ss a b)
        ∙ ap (λ (l : List A). q a b ++ l) (sym (comes_cons g v s ss a b))

    pub fills_off : (v : ℕ) (ss : List (ℕ × A)) (q : ℕ → ℕ → List A) (a b : ℕ) → OnPorts g v ss → (At g a b → ⊥) → fills g v ss q a b ≡ q a b
    fills_off v [] q a b on off = refl
    fills_off v (s ∷ ss) q a b on off =
        fills_off v ss _ a b (all_rest (λ (t : ℕ × A). At g v t.0) s ss on) off
        ∙ put_at_miss q (far g v s.0) (far_port g v s.0) a b _
        (λ e. off (rw (e.0, e.1) (wired.there v s.0 (all_first (λ (t : ℕ × A). At g v t.0) s ss on))))

    -- nothing comes to a node of what it sends itself
    pub none_back : (v : ℕ) (ss : List (ℕ × A)) (b : ℕ) → At g v b → comes g v ss v b ≡ []
    none_back v ss b at = rw (ne_eqb (far g v b) v (wired.apart v b at)) refl

    -- two nodes send to no queue both
    one_sender : (u v : ℕ) (ss rs : List (ℕ × A)) (a b : ℕ) → u ≢ v → (comes g u ss a b ≡ []) ⊎ (comes g v rs a b ≡ [])
    one_sender u v ss rs a b ne = ⊎_elim
        (λ (e : far g a b ≡ u). inr (rw (ne_eqb (far g a b) v (λ h. ne (sym e ∙ h))) refl))
        (λ (e : far g a b ≢ u). inl (rw (ne_eqb (far g a b) u e) refl)) (cases_eq (far g a b) u)

    either_way : (l c d : List A) → (c ≡ []) ⊎ (d ≡ []) → (l ++ c) ++ d ≡ (l ++ d) ++ c
    either_way l c d none = ⊎_elim
        (λ (h : c ≡ []). rw h (ap (λ (x : List A). x ++ d) (append-nil l) ∙ sym (append-nil (l ++ d))))
        (λ (h : d ≡ []). rw h (append-nil (l ++ c) ∙ ap (λ (x : List A). x ++ c) (sym (append-nil l)))) none

-- what an event takes is there, at a port, and what its node sends goes out on ports
pub record IsFit {A : Type 0} (g : Network) (q : ℕ → ℕ → List A) (e : Event) (ss : List (ℕ × A)) : Type 0 where
  pub at : (a b : ℕ) → e ≡ Take a b → At g a b
  pub some : (a b : ℕ) → e ≡ Take a b → q a b ≢ []
  pub on : OnPorts g (event_node e) ss

-- where the first event puts something back, the second one sends nothing
abbrev pub StaysClear : {A : Type 0} → Network → Event → Fate → Event → List (ℕ × A) → Type 0
StaysClear g e d f rs = (a b : ℕ) → e ≡ Take a b → d ≡ Requeued → comes g (event_node f) rs a b ≡ []

module _ {A : Type 0} (g : Network) (wired : IsWired g) (q : ℕ → ℕ → List A) where
  -- where the first of two events takes
  taken_there : (e f : Event) (d h : Fate) (ss rs : List (ℕ × A)) → event_node e ≢ event_node f → IsFit g q e ss → IsFit g q f rs →
      StaysClear g e d f rs → (a b : ℕ) → e ≡ Take a b → acts g f h rs (acts g e d ss q) a b ≡ acts g e d ss (acts g f h rs q) a b
  taken_there e f d h ss rs ne fe ff clear a b is =
      let here : At g a b = fe.at a b is in
      let node : event_node e ≡ a = ap event_node is in
      let miss : f ≡ Take a b → ⊥ = λ k. ne (node ∙ sym (ap event_node k)) in
      let ce : List A = comes g (event_node e) ss a b in
      let cf : List A = comes g (event_node f) rs a b in
      let none : ce ≡ [] = ap (λ v. comes g v ss a b) node ∙ none_back g wired a ss b here in
      let first : acts g e d ss q a b ≡ turned d (q a b) =
      fills_at g wired (event_node e) ss (taking e d q) a b fe.on here ∙ ap₂ (λ (x y : List A). x ++ y) (takes_hit e d q a b is) none
      ∙ append-nil _ in
      let left : acts g f h rs (acts g e d ss q) a b ≡ turned d (q a b) ++ cf =
      fills_at g wired (event_node f) rs _ a b ff.on here ∙ ap (λ (x : List A). x ++ cf) (takes_miss f h _ a b miss ∙ first) in
      let other : acts g f h rs q a b ≡ q a b ++ cf =
      fills_at g wired (event_node f) rs _ a b ff.on here ∙ ap (λ (x : List A). x ++ cf) (takes_miss f h q a b miss) in
      let right : acts g e d ss (acts g f h rs q) a b ≡ turned d (q a b ++ cf) =
      fills_at g wired (event_node e) ss (taking e d _) a b fe.on here
      ∙ ap₂ (λ (x y : List A). x ++ y) (takes_hit e d _ a b is ∙ ap (turned d) other) none ∙ append-nil _ in
      left ∙ sym (right ∙ turned_grown d (q a b) cf (fe.some a b is) (clear a b is))

  -- where neither takes
  taken_nowhere : (e f : Event) (d h : Fate) (ss rs : List (ℕ × A)) → event_node e ≢ event_node f → IsFit g q e ss → IsFit g q f rs →
      (a b : ℕ) → At g a b → (e ≡ Take a b → ⊥) → (f ≡ Take a b → ⊥) → acts g f h rs (acts g e d ss q) a b ≡ acts g e d ss (acts g f h rs q) a b
  taken_nowhere e f d h ss rs ne fe ff a b here no_e no_f =
      let ce : List A = comes g (event_node e) ss a b in
      let cf : List A = comes g (event_node f) rs a b in
      let one : acts g e d ss q a b ≡ q a b ++ ce =
      fills_at g wired (event_node e) ss _ a b fe.on here ∙ ap (λ (x : List A). x ++ ce) (takes_miss e d q a b no_e) in
      let other : acts g f h rs q a b ≡ q a b ++ cf =
      fills_at g wired (event_node f) rs _ a b ff.on here ∙ ap (λ (x : List A). x ++ cf) (takes_miss f h q a b no_f) in
      fills_at g wired (event_node f) rs _ a b ff.on here ∙ ap (λ (x : List A). x ++ cf) (takes_miss f h _ a b no_f ∙ one)
      ∙ either_way g wired (q a b) ce cf (one_sender g wired (event_node e) (event_node f) ss rs a b ne)
      ∙ sym (fills_at g wired (event_node e) ss _ a b fe.on here ∙ ap (λ (x : List A). x ++ ce) (takes_miss e d _ a b no_e ∙ other))

  -- where no port is
  nowhere : (e f : Event) (d h : Fate) (ss rs : List (ℕ × A)) → IsFit g q e ss → IsFit g q f rs →
      (a b : ℕ) → (At g a b → ⊥) → acts g f h rs (acts g e d ss q) a b ≡ acts g e d ss (acts g f h rs q) a b
  nowhere e f d h ss rs fe ff a b off =
      let no_e : e ≡ Take a b → ⊥ = λ k. off (fe.at a b k) in
      let no_f : f ≡ Take a b → ⊥ = λ k. off (ff.at a b k) in
      fills_off g wired (event_node f) rs _ a b ff.on off ∙ takes_miss f h _ a b no_f ∙ fills_off g wired (event_node e) ss _ a b fe.on off
      ∙ takes_miss e d q a b no_e
      ∙ sym (fills_off g wired (event_node e) ss _ a b fe.on off ∙ takes_miss e d _ a b no_e ∙ fills_off g wired (event_node f) rs _ a b ff.on off
      ∙ takes_miss f h q a b no_f)

  -- the queues are the same in either order
  pub acts_swap : (e f : Event) (d h : Fate) (ss rs : List (ℕ × A)) → event_node e ≢ event_node f → IsFit g q e ss → IsFit g q f rs →
      StaysClear g e d f rs → StaysClear g f h e ss → (a b : ℕ) → acts g f h rs (acts g e d ss q) a b ≡ acts g e d ss (acts g f h rs q) a b
  acts_swap e f d h ss rs ne fe ff clear_e clear_f a b = ⊎_elim
      (λ (here : At g a b). ⊎_elim
      (λ (is : e ≡ Take a b). taken_there e f d h ss rs ne fe ff clear_e a b is)
      (λ no_e. ⊎_elim
      (λ (is : f ≡ Take a b). sym (taken_there f e h d rs ss (λ z. ne (sym z)) ff fe clear_f a b is))
      (λ no_f. taken_nowhere e f d h ss rs ne fe ff a b here no_e no_f) (takes_or_not f a b)) (takes_or_not e a b))
      (λ off. nowhere e f d h ss rs fe ff a b off) (port_or_not g a b)

  -- what waits first where an event takes stays first, whatever another node does
  pub first_stays : (e f : Event) (h : Fate) (rs : List (ℕ × A)) → event_node e ≢ event_node f → IsFit g q f rs →
      (a b : ℕ) → At g a b → e ≡ Take a b → (c : List A) × (acts g f h rs q a b ≡ q a b ++ c)
  first_stays e f h rs ne ff a b here is =
      let miss : f ≡ Take a b → ⊥ = λ k. ne (ap event_node is ∙ sym (ap event_node k)) in (
        comes g (event_node f) rs a b,
        fills_at g wired (event_node f) rs _ a b ff.on here ∙ ap (λ (x : List A). x ++ comes g (event_node f) rs a b) (takes_miss f h q a b miss),
      )
