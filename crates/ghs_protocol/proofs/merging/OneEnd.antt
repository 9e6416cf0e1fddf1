-- All orders of merging end in one: two mergings from one state can go on to one state, with as many steps each.
use Rattle.std.proofs.Common.{◌≡◌, ◌≢◌, ℕ, suc, ◌+◌, Option, List, [], ◌∷◌, ◌++◌, length, zero-add, refl, sym, ◌∙◌, ap, subst, ⊎_elim, arith}
use Rattle.ghs_graph.specs.declared.key.Key.{Key}
use Rattle.ghs_protocol.specs.Merging.{Fragments, singles, united, IsLeastOut, Unites, Merge, Absorb, Merging, Done, Then, IsWhole, IsEnd}
use Rattle.ghs_protocol.proofs.merging.United.{outside, still_one, was_one, IsEven, united_even}
use Rattle.ghs_protocol.proofs.merging.Least.{turned}
use Rattle.ghs_protocol.proofs.merging.Diamond.{Closes, Same, Square, diamond}

module _ (ks : List Key) (pay : Option Key → ℕ → ℕ) where
  pub step_even : (m : Fragments) (k : Key) (c : ℕ) (n : Fragments) → Unites ks pay m k c n → IsEven m → IsEven n
  step_even m k _ _ (Merge _ u v p q s) even = united_even m u v _ _ even
  step_even m k _ _ (Absorb _ u v p lt) even = united_even m u v _ _ even

  pub merging_even : (m : Fragments) (es : List Key) (c : ℕ) (z : Fragments) → Merging ks pay m es c z → IsEven m → IsEven z
  merging_even m _ _ _ Done even = even
  merging_even m _ _ z (Then {n = n} {k = k} {es = es} {c = c} {d = d} s r) even = merging_even n es d z r (step_even m k c n s even)

  -- steps, and further ones
  pub merging_on : (m n z : Fragments) (es fs : List Key) (c d : ℕ) → Merging ks pay m es c n → Merging ks pay n fs d z →
      Merging ks pay m (es ++ fs) (c + d) z
  merging_on m n z es fs c d s t = go m n z es fs c d s t
    where
      more : (m x z : Fragments) (k : Key) (gs : List Key) (a b d e : ℕ) → a + (b + d) ≡ e → Unites ks pay m k a x → Merging ks pay x gs (b + d) z →
          Merging ks pay m (k ∷ gs) e z
      more m x z k gs a b d e is s r = subst (λ y. Merging ks pay m (k ∷ gs) y z) is (Then s r)

      go : (m n z : Fragments) (es fs : List Key) (c d : ℕ) → Merging ks pay m es c n → Merging ks pay n fs d z →
          Merging ks pay m (es ++ fs) (c + d) z
      go m _ z _ fs _ d Done t = subst (λ y. Merging ks pay m fs y z) (sym (zero-add d)) t
      go m n z _ fs _ d (Then {n = x} {k = k} {es = es} {c = a} {d = b} s r) t =
          more m x z k (es ++ fs) a b d (a + b + d) (omega arith) s (go x n z es fs b d r t)

  -- p, with this step or none, leads to q: so many steps, for so many Connects
  pub data AtMostOne (p q : Fragments) : ℕ → ℕ → Type 0 where
    No_step : p ≡ q → AtMostOne p q 0 0
    A_step : (k : Key) (c : ℕ) → Unites ks pay p k c q → AtMostOne p q 1 c

  -- n leads to q, and p by one step at most; the step to n took c Connects, the way to p as many steps and Connects as this
  pub record Strip (n p : Fragments) (c many cost : ℕ) : Type 0 where
    pub to : Fragments
    pub links : List Key
    pub connects : ℕ
    pub steps : ℕ
    pub last_connects : ℕ
    pub way : Merging ks pay n links connects to
    pub last : AtMostOne p to steps last_connects
    pub count : suc (length links) ≡ many + steps
    pub costs : c + connects ≡ cost + last_connects

  pub strip : (m n p : Fragments) (k : Key) (c : ℕ) (es : List Key) (d : ℕ) → IsEven m → Unites ks pay m k c n → Merging ks pay m es d p →
      Strip n p c (length es) d
  strip m n _ k c _ _ even s Done = record {
    to = n;
    links = [];
    connects = 0;
    steps = 1;
    last_connects = c;
    way = Done;
    last = A_step k c s;
    count = refl;
    costs = omega arith;
  }
  strip m n p k c _ _ even s (Then {n = x} {k = f} {es = es} {c = a} {d = b} t r) =
      go (λ q u. strip x q p k c es b (step_even m f a x t even) u r) (diamond ks pay m even k f c a n x s t)
    where
      go : ((q : Fragments) → Unites ks pay x k c q → Strip q p c (length es) b) → Closes ks pay n x k f c a → Strip n p c (length (f ∷ es)) (a + b)
      go more (Same e same) =
          record {
            to = p;
            links = es;
            connects = b;
            steps = 0;
            last_connects = 0;
            way = subst (λ y. Merging ks pay y es b p) (sym e) r;
            last = No_step refl;
            count = omega arith;
            costs = omega (arith, same);
          }
      go more (Square q u v) =
          let i = more q v in
          record {
            to = i.to;
            links = f ∷ i.links;
            connects = a + i.connects;
            steps = i.steps;
            last_connects = i.last_connects;
            way = Then u i.way;
            last = i.last;
            count = let h = i.count in omega (arith, h);
            costs = let h = i.costs in omega (arith, h);
          }

  -- both lead to one state
  pub record Meeting (n p : Fragments) (i j c d : ℕ) : Type 0 where
    pub to : Fragments
    pub links : List Key
    pub others : List Key
    pub connects : ℕ
    pub other_connects : ℕ
    pub way : Merging ks pay n links connects to
    pub way_other : Merging ks pay p others other_connects to
    pub count : i + length links ≡ j + length others
    pub costs : c + connects ≡ d + other_connects

  pub meeting : (m n p : Fragments) (es fs : List Key) (c d : ℕ) → IsEven m → Merging ks pay m es c n → Merging ks pay m fs d p →
      Meeting n p (length es) (length fs) c d
  meeting m _ p _ fs _ d even Done t = record {
    to = p;
    links = fs;
    others = [];
    connects = d;
    other_connects = 0;
    way = t;
    way_other = Done;
    count = omega arith;
    costs = omega arith;
  }
  meeting m n p _ fs _ d even (Then {n = x} {k = k} {es = es} {c = a} {d = b} s r) t =
      let i = strip m x p k a fs d even s t in
      last i.links i.connects i.last i.count i.costs (meeting x n i.to es i.links b i.connects (step_even m k a x s even) r i.way)
    where
      last : {q : Fragments} {j l : ℕ} (gs : List Key) (h : ℕ) →
          AtMostOne p q j l →
          suc (length gs) ≡ length fs + j →
          a + h ≡ d + l →
          Meeting n q (length es) (length gs) b h →
          Meeting n p (length (k ∷ es)) (length fs) (a + b) d
      last gs h (No_step e) x y i = record {
        to = i.to;
        links = i.links;
        others = i.others;
        connects = i.connects;
        other_connects = i.other_connects;
        way = i.way;
        way_other = subst (λ z. Merging ks pay z i.others i.other_connects i.to) (sym e) i.way_other;
        count = let u = i.count in omega (arith, x, u);
        costs = let u = i.costs in omega (arith, y, u);
      }
      last gs h (A_step f l g) x y i = record {
        to = i.to;
        links = i.links;
        others = f ∷ i.others;
        connects = i.connects;
        other_connects = l + i.other_connects;
        way = i.way;
        way_other = Then g i.way_other;
        count = let u = i.count in omega (arith, x, u);
        costs = let u = i.costs in omega (arith, y, u);
      }

  -- an end goes no further
  pub end_stays : (m : Fragments) (es : List Key) (c : ℕ) (z : Fragments) → IsEnd ks m → Merging ks pay m es c z →
      (z ≡ m) × (es ≡ []) × ◌≡◌ {A = ℕ} c 0
  end_stays m _ _ _ no_more Done = (refl, refl, refl)
  end_stays m _ _ z no_more (Then {n = n} {k = k} {c = c} s r) = absurd (no_more pay k c n s)

  -- all orders end in one state, after as many steps, for as many Connects
  pub one_end : (m y z : Fragments) (es fs : List Key) (c d : ℕ) →
      IsEven m →
      Merging ks pay m es c y →
      IsEnd ks y →
      Merging ks pay m fs d z →
      IsEnd ks z →
      (y ≡ z) × (length es ≡ length fs) × (c ≡ d)
  one_end m y z es fs c d even s ends t ends' =
      let i = meeting m y z es fs c d even s t in
      let a = end_stays y i.links i.connects i.to ends i.way in
      let b = end_stays z i.others i.other_connects i.to ends' i.way_other in
      let u = i.count in
      let v = i.costs in
      let e = ap length a.1 in let f = ap length b.1 in let g = a.2 in let h = b.2 in
      (sym a.0 ∙ b.0, omega (arith, u, e, f), omega (arith, v, g, h))

  -- a fragment that no link leaves is never changed
  pub record Stays (m n : Fragments) (v : ℕ) : Type 0 where
    pub whole : IsWhole ks n v
    pub level : n.level v ≡ m.level v
    pub core : n.core v ≡ m.core v

  left_out : (m : Fragments) (u w l v : ℕ) (c : Option Key) → IsWhole ks m v →
      m.fragment v ≢ m.fragment u → m.fragment v ≢ m.fragment w → Stays m (united u w l c m) v
  left_out m u w l v c whole a b =
      let o = outside m u w l c v a b in
      record {
        whole = λ j s t has ends e. still_one m u w l c t v (whole j s t has ends
            (⊎_elim (λ z. z) (λ h. absurd (⊎_elim a b h.1)) (was_one m u w l c s v e)));
        level = o.level;
        core = o.core;
      }

  not_from : (m : Fragments) (u w v : ℕ) (k : Key) → IsWhole ks m v → IsLeastOut ks m u w k → m.fragment v ≢ m.fragment u
  not_from m u w v k whole p e = p.out (whole k u w p.link p.ends (sym e) ∙ e)

  not_into : (m : Fragments) (u w v : ℕ) (k : Key) → IsWhole ks m v → IsLeastOut ks m u w k → m.fragment v ≢ m.fragment w
  not_into m u w v k whole p e = p.out (sym e ∙ sym (whole k w u p.link (turned k u w p.ends) (sym e)))

  pub whole_stays : (m : Fragments) (k : Key) (c : ℕ) (n : Fragments) (v : ℕ) → IsWhole ks m v → Unites ks pay m k c n → Stays m n v
  whole_stays m k _ _ v whole (Merge _ u w p q s) =
      left_out m u w _ v _ whole (not_from m u w v k whole p) (not_into m u w v k whole p)
  whole_stays m k _ _ v whole (Absorb _ u w p lt) =
      left_out m u w _ v _ whole (not_from m u w v k whole p) (not_into m u w v k whole p)

  pub whole_stays_on : (m : Fragments) (es : List Key) (c : ℕ) (z : Fragments) (v : ℕ) → IsWhole ks m v → Merging ks pay m es c z → Stays m z v
  whole_stays_on m _ _ _ v whole Done = record { whole = whole; level = refl; core = refl }
  whole_stays_on m _ _ z v whole (Then {n = n} {k = k} {es = es} {c = c} {d = d} s r) =
      let a = whole_stays m k c n v whole s in
      let b = whole_stays_on n es d z v a.whole r in
      record { whole = b.whole; level = b.level ∙ a.level; core = b.core ∙ a.core }

  -- so level and core of such a fragment are the same, whatever order led to it
  pub one_core : (m y z : Fragments) (es fs : List Key) (c d : ℕ) (v : ℕ) →
      IsEven m →
      Merging ks pay m es c y →
      Merging ks pay m fs d z →
      IsWhole ks y v →
      IsWhole ks z v →
      (y.level v ≡ z.level v) × (y.core v ≡ z.core v)
  one_core m y z es fs c d v even s t whole whole' =
      let i = meeting m y z es fs c d even s t in
      let a = whole_stays_on y i.links i.connects i.to v whole i.way in
      let b = whole_stays_on z i.others i.other_connects i.to v whole' i.way_other in
      (sym a.level ∙ b.level, sym a.core ∙ b.core)

pub singles_even : IsEven singles
singles_even x y e = (refl, refl)
