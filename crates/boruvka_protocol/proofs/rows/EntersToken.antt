-- A node enters the next level: if it had the token of its old class, the token has gone on; of the new class there is none yet.
use Rattle.std.proofs.Common.{◌≡◌, ◌≢◌, ℕ, suc, ◌<◌, inl, inr, ⊎_elim, true, Some, None, List, refl, sym, ◌∙◌, ap, subst, arith}
use Rattle.std.proofs.lemmas.Bool.{cases_eq}
use Rattle.ghs_graph.specs.declared.key.Key.{Key}
use Rattle.ghs_graph.specs.Key.{ends_at}
use Rattle.boruvka_protocol.specs.Levels.{HasWayOut, InClass}
use Rattle.peer_network.specs.Network.{Network, At, InNetwork, port_at}
use Rattle.peer_machine.specs.Net.{Net}
use Rattle.boruvka_node.specs.declared.message.Message.{Message}
use Rattle.boruvka_node.specs.declared.message.Phase.TheVariants.{Search, Rest}
use Rattle.boruvka_node.specs.State.{State}
use Rattle.boruvka_protocol.proofs.invariant.Words.{IsPast, IsLeast}
use Rattle.boruvka_protocol.proofs.invariant.Sides.{passes_in}
use Rattle.boruvka_protocol.proofs.invariant.Token.{Place, Out, On, IsTokenAt, In_message, Gone_out, Gone_on, At_end, Token, RootIsPast, TokenFits, HaltFits, TokensFit}
use Rattle.boruvka_protocol.proofs.Unlike.{none_is_some}
use Rattle.boruvka_protocol.proofs.rows.Late.{search_rest}

module _ (ks : List Key) (g : Network) (w w' : Net State Message) (v : ℕ) (others : (u : ℕ) → u ≢ v → w.node u ≡ w'.node u)
    (passes : (u p : ℕ) → At g u p → passes_in (w.queue u p) ≡ passes_in (w'.queue u p))
    (level : (w'.node v).head.level ≡ suc (w.node v).head.level) (search : (w'.node v).head.phase ≡ Search) (stays : (w'.node v).head.out ≡ None)
    (as_halted : (w'.node v).head.halted ≡ (w.node v).head.halted) (rest : (w.node v).head.phase ≡ Rest)
    (way_out : HasWayOut ks (w.node v).head.level v) (here : InNetwork g v)
    (unpassed : (p : ℕ) → At g v p → ◌≡◌ {A = ℕ} (passes_in (w.queue v p)) 0)
    (out_end : (p : ℕ) → At g v p → (w.node v).head.out ≡ Some p →
    IsLeast ks (w.node v).head.level v (port_at g v p).key × (ends_at v (port_at g v p).key ≡ true))
    (end_out : (k : Key) → IsLeast ks (w.node v).head.level v k → ends_at v k ≡ true → (p : ℕ) × At g v p × ((w.node v).head.out ≡ Some p))
    (fits : TokensFit ks g w) where
  abbrev l : ℕ
  l = (w.node v).head.level

  goes_on : (w.node v).head.halted ≡ true → ⊥
  goes_on h = (fits.halted v here h).whole way_out

  waits_for : {P : Type 0} (p : ℕ) → At g v p → 0 < passes_in (w.queue v p) → P
  waits_for p at lt = absurd (omega (arith, lt, unpassed p at))

  -- what was a token is one behind it, and the node's own has gone on
  token_to : (m : ℕ) (place : Place) → IsTokenAt ks g w m v place → (q : Place) × IsTokenAt ks g w' m v q
  token_to m _ (In_message p at lv lt) = waits_for p at lt
  token_to m _ (Gone_out p at lv out) = let o = out_end p at out in
      (On, Gone_on (port_at g v p).key (omega (arith, lv, level)) (subst (λ x. IsLeast ks x v (port_at g v p).key) lv o.0) o.1)
  token_to m _ (Gone_on k lt least end) = (On, Gone_on k (omega (arith, lt, level)) least end)
  token_to m _ (At_end lv halted) = absurd (goes_on halted)

  token_there : (m u : ℕ) (place : Place) → u ≢ v → IsTokenAt ks g w m u place → IsTokenAt ks g w' m u place
  token_there m u _ ne (In_message p at lv lt) = In_message p at (ap (λ (x : State). x.head.level) (sym (others u ne)) ∙ lv)
      (subst (λ x. 0 < x) (passes u p at) lt)
  token_there m u _ ne (Gone_out p at lv out) = Gone_out p at (ap (λ (x : State). x.head.level) (sym (others u ne)) ∙ lv)
      (ap (λ (x : State). x.head.out) (sym (others u ne)) ∙ out)
  token_there m u _ ne (Gone_on k lt least end) = Gone_on k (subst (λ (x : State). m < x.head.level) (others u ne) lt) least end
  token_there m u _ ne (At_end lv halted) = At_end (ap (λ (x : State). x.head.level) (sym (others u ne)) ∙ lv)
      (ap (λ (x : State). x.head.halted) (sym (others u ne)) ∙ halted)

  to : (m x : ℕ) → Token ks g w m x → Token ks g w' m x
  to m x t = ⊎_elim
      (λ e. let at = token_to m t.place (subst (λ y. IsTokenAt ks g w m y t.place) e t.at) in
      record { node = v; place = at.0; inside = subst (λ y. InClass ks m x y) e t.inside; in_network = here; at = at.1 })
      (λ ne. record {
        node = t.node;
        place = t.place;
        inside = t.inside;
        in_network = t.in_network;
        at = token_there m t.node t.place ne t.at;
      })
      (cases_eq t.node v)

  token_back : (m u : ℕ) (place : Place) → u ≢ v → IsTokenAt ks g w' m u place → IsTokenAt ks g w m u place
  token_back m u _ ne (In_message p at lv lt) = In_message p at (ap (λ (x : State). x.head.level) (others u ne) ∙ lv)
      (subst (λ x. 0 < x) (sym (passes u p at)) lt)
  token_back m u _ ne (Gone_out p at lv out) = Gone_out p at (ap (λ (x : State). x.head.level) (others u ne) ∙ lv)
      (ap (λ (x : State). x.head.out) (others u ne) ∙ out)
  token_back m u _ ne (Gone_on k lt least end) = Gone_on k (subst (λ (x : State). m < x.head.level) (sym (others u ne)) lt) least end
  token_back m u _ ne (At_end lv halted) = At_end (ap (λ (x : State). x.head.level) (others u ne) ∙ lv)
      (ap (λ (x : State). x.head.halted) (others u ne) ∙ halted)

  -- a token behind it, by what it was: the node's own, which has gone on, or the same
  data Was (m x u : ℕ) (place : Place) : Type 0 where
    Went : u ≡ v → place ≡ On → (s : Token ks g w m x) → s.node ≡ v → s.place ≡ Out → Was m x u place
    Kept : (s : Token ks g w m x) → s.node ≡ u → s.place ≡ place → IsTokenAt ks g w' m u place → Was m x u place

  at_v : (m x : ℕ) (place : Place) → InClass ks m x v → IsTokenAt ks g w' m v place → Was m x v place
  at_v m x _ inside (In_message p at lv lt) = waits_for p at (subst (λ y. 0 < y) (sym (passes v p at)) lt)
  at_v m x _ inside (Gone_out p at lv out) = none_is_some p (sym stays ∙ out)
  at_v m x _ inside (Gone_on k lt least end) = ⊎_elim
      (λ (e : l ≡ m).
      let out = end_out k (subst (λ y. IsLeast ks y v k) (sym e) least) end in
      Went refl refl (record { node = v; place = Out; inside = inside; in_network = here; at = Gone_out out.0 out.1 e out.2 }) refl refl)
      (λ ne.
      let s : Token ks g w m x = record {
        node = v;
        place = On;
        inside = inside;
        in_network = here;
        at = Gone_on k (omega (arith, lt, level, ne)) least end;
      } in
      Kept s refl refl (Gone_on k lt least end))
      (cases_eq l m)
  at_v m x _ inside (At_end lv halted) = absurd (goes_on (sym as_halted ∙ halted))

  was : (m x : ℕ) (t : Token ks g w' m x) → Was m x t.node t.place
  was m x t = ⊎_elim
      (λ e. subst (λ y. Was m x y t.place) (sym e)
      (at_v m x t.place (subst (λ y. InClass ks m x y) e t.inside) (subst (λ y. IsTokenAt ks g w' m y t.place) e t.at)))
      (λ ne.
      let s : Token ks g w m x = record {
        node = t.node;
        place = t.place;
        inside = t.inside;
        in_network = t.in_network;
        at = token_back m t.node t.place ne t.at;
      } in
      Kept s refl refl t.at)
      (cases_eq t.node v)

  before : (m x u : ℕ) (place : Place) → Was m x u place → Token ks g w m x
  before m x u place (Went e p s n o) = s
  before m x u place (Kept s n p at) = s

  -- the node hasn't gone out any more
  not_out : {P : Type 0} (m : ℕ) → IsTokenAt ks g w' m v Out → P
  not_out m (Gone_out p at lv out) = none_is_some p (sym stays ∙ out)

  module _ (m x : ℕ) (f : TokenFits ks g w m x) where
    mixed : {P : Type 0} (u : ℕ) (place : Place) (s t : Token ks g w m x) → s.node ≡ v → s.place ≡ Out → t.node ≡ u → t.place ≡ place →
        IsTokenAt ks g w' m u place → P
    mixed u place s t sn sp tn tp at =
        let same = f.one s t in
        not_out m (subst (λ y. IsTokenAt ks g w' m v y) (sym tp ∙ sym same.1 ∙ sp)
        (subst (λ y. IsTokenAt ks g w' m y place) (sym tn ∙ sym same.0 ∙ sn) at))

    one_of : (a b : ℕ) (p q : Place) → Was m x a p → Was m x b q → (a ≡ b) × (p ≡ q)
    one_of a b p q (Went e o s n z) (Went e' o' s' n' z') = (e ∙ sym e', o ∙ sym o')
    one_of a b p q (Went e o s n z) (Kept t tn tp at) = mixed b q s t n z tn tp at
    one_of a b p q (Kept t tn tp at) (Went e o s n z) = mixed a p s t n z tn tp at
    one_of a b p q (Kept s sn sp at) (Kept t tn tp at') = let same = f.one s t in (sym sn ∙ same.0 ∙ tn, sym sp ∙ same.1 ∙ tp)

    past_from : RootIsPast ks g w' m x → RootIsPast ks g w m x
    past_from r = record { root = r.root; top = r.top; past = ⊎_elim own other (cases_eq r.root v) }
      where
        own : r.root ≡ v → IsPast m (w.node r.root).head.level (w.node r.root).head.phase
        own e = subst (λ y. IsPast m (w.node y).head.level (w.node y).head.phase) (sym e)
            (⊎_elim
            (λ lt. ⊎_elim (λ (z : l ≡ m). inr (z, rest)) (λ ne. inl (omega (arith, lt, ne, level))) (cases_eq l m))
            (λ z. search_rest (w'.node v).head.phase search z.1)
            (subst (λ y. IsPast m (w'.node y).head.level (w'.node y).head.phase) e r.past))

        other : r.root ≢ v → IsPast m (w.node r.root).head.level (w.node r.root).head.phase
        other ne = subst (λ (y : State). IsPast m y.head.level y.head.phase) (sym (others r.root ne)) r.past

    past_to : RootIsPast ks g w m x → RootIsPast ks g w' m x
    past_to r = record { root = r.root; top = r.top; past = ⊎_elim own other (cases_eq r.root v) }
      where
        own : r.root ≡ v → IsPast m (w'.node r.root).head.level (w'.node r.root).head.phase
        own e = subst (λ y. IsPast m (w'.node y).head.level (w'.node y).head.phase) (sym e)
            (inl (⊎_elim (λ lt. omega (arith, lt, level)) (λ z. let same = z.0 in omega (arith, same, level))
            (subst (λ y. IsPast m (w.node y).head.level (w.node y).head.phase) e r.past)))

        other : r.root ≢ v → IsPast m (w'.node r.root).head.level (w'.node r.root).head.phase
        other ne = subst (λ (y : State). IsPast m y.head.level y.head.phase) (others r.root ne) r.past

    token_now : TokenFits ks g w' m x
    token_now = record {
      some = λ r. to m x (f.some (past_from r));
      one = λ s t. one_of s.node t.node s.place t.place (was m x s) (was m x t);
      none = λ t. past_to (f.none (before m x t.node t.place (was m x t)));
    }

  halt_now : (u : ℕ) → u ≢ v → HaltFits ks g w u (w.node u) → HaltFits ks g w' u (w'.node u)
  halt_now u ne h = subst (λ (y : State). HaltFits ks g w' u y) (others u ne)
      (let same : HaltFits ks g w' u (w.node u) = record { whole = h.whole; root = h.root; rest = h.rest } in same)

  pub tokens_enter : TokensFit ks g w'
  tokens_enter = record {
    halted = λ u at h. ⊎_elim
        (λ e. absurd (goes_on (sym as_halted ∙ subst (λ y. (w'.node y).head.halted ≡ true) e h)))
        (λ ne. halt_now u ne (fits.halted u at (ap (λ (y : State). y.head.halted) (others u ne) ∙ h)))
        (cases_eq u v);
    one = λ m x at proper. token_now m x (fits.one m x at proper);
  }
