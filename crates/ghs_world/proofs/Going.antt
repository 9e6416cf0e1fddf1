-- Events that go out and come back.
use Rattle.std.proofs.Common.{◌≡◌, ◌≢◌, ℕ, ◌+◌, ◌-◌, ◌<◌, ◌≤◌, ◌⊎◌, Bool, true, false, cond, ◌||◌, ◌==◌, Some, List, [], ◌∷◌, ◌++◌, length, get_or, set, refl, sym, ◌∙◌, ap, ⊎_elim, arith, nat_cmp, length-set, get_or-set_same, get_or-set_other, le_refl}
use Rattle.std.specs.BTreeMap.{insert_entry, is_at}
use Rattle.std.specs.Map.{lookup, remove_entry}
use Rattle.std.proofs.lemmas.Bool.{cases_eq, cases_order, eq-eqb, ne_eqb, le-ltb, lt-ltb, or_left, or_right, or_parts, both_ways}
use Rattle.std.proofs.lemmas.Option.{same_Some}
use Rattle.peer_network.specs.declared.event.Event.{Event}
use Rattle.peer_network.specs.declared.event.Event.TheVariants.{Wake, Take}
use Rattle.ghs_core.specs.NetState.{event_node}
use Rattle.ghs_world.specs.Outs.{Outs, event_out, without, is_out, message_of, messages_out, RiseTo, AreApart, AreOfNodes, AreKept, AllOut}

same_number : (n k : ℕ) → is_at (nat_cmp n) k ≡ (k == n)
same_number n k = ⊎_elim
    (λ (e : n ≡ k). rw (le-ltb n k (omega arith), eq-eqb n k e, eq-eqb k n (sym e)))
    (λ ne. ⊎_elim
    (λ (lt : n < k). rw (lt-ltb n k lt, ne_eqb k n (λ z. ne (sym z))))
    (λ (gt : k < n). rw (le-ltb n k (omega arith), ne_eqb n k ne, ne_eqb k n (λ z. ne (sym z))))
    (apart ne (cases_order n k)))
    (cases_eq n k)
  where
    apart : (n ≡ k → ⊥) → (n ≡ k) ⊎ ((n < k) ⊎ (k < n)) → (n < k) ⊎ (k < n)
    apart ne c = ⊎_elim (λ e. absurd (ne e)) (λ r. r) c

-- what the map answers
pub found : (n : ℕ) (os : Outs) → lookup (is_at (nat_cmp n)) os ≡ event_out os n
found n [] = refl
found n (o ∷ os) = rw (same_number n o.0, found n os)

pub removed : (n : ℕ) (os : Outs) → remove_entry (is_at (nat_cmp n)) os ≡ without n os
removed n [] = refl
removed n (o ∷ os) = rw (same_number n o.0, removed n os)

-- no more events than numbers
pub rise_many : (low : ℕ) (os : Outs) (high : ℕ) → RiseTo low os high → low + length os ≤ high
rise_many low [] high r = omega arith
rise_many low (o ∷ os) high r = let rest = rise_many o.0 os high r.1 in let first = r.0 in omega arith

-- a number above all others comes last
pub inserted : (low : ℕ) (os : Outs) (high : ℕ) (e : Event) → RiseTo low os high → insert_entry nat_cmp os (high + 1) e ≡ os ++ (high + 1, e) ∷ []
inserted low [] high e r = refl
inserted low (o ∷ os) high e r =
    let below = rise_many o.0 os high r.1 in
    rw (le-ltb (high + 1) o.0 (omega arith), ne_eqb (high + 1) o.0 (λ z. absurd (omega arith)), inserted o.0 os high e r.1)

rise_more : (low : ℕ) (os : Outs) (high : ℕ) (e : Event) → RiseTo low os high → RiseTo low (os ++ (high + 1, e) ∷ []) (high + 1)
rise_more low [] high e r = (omega arith, le_refl _)
rise_more low (o ∷ os) high e r = (r.0, rise_more o.0 os high e r.1)

rise_lower : (low less : ℕ) (os : Outs) (high : ℕ) → less ≤ low → RiseTo low os high → RiseTo less os high
rise_lower low less [] high le r = omega arith
rise_lower low less (o ∷ os) high le r = (let a = r.0 in omega arith, r.1)

rise_without : (n low : ℕ) (os : Outs) (high : ℕ) → RiseTo low os high → RiseTo low (without n os) high
rise_without n low [] high r = r
rise_without n low (o ∷ os) high r = ⊎_elim
    (λ (e : o.0 ≡ n). rw (eq-eqb o.0 n e) (rise_lower o.0 low os high (let a = r.0 in omega arith) r.1))
    (λ ne. rw (ne_eqb o.0 n ne) (r.0, rise_without n o.0 os high r.1)) (cases_eq o.0 n)

out_more : (os : Outs) (o : ℕ × Event) (v : ℕ) → is_out (os ++ o ∷ []) v ≡ (is_out os v || (event_node o.1 == v))
out_more [] o v = last (event_node o.1 == v)
  where
    last : (b : Bool) → (b || false) ≡ (false || b)
    last true = refl
    last false = refl
out_more (p ∷ os) o v = rw (out_more os o v) (assoc (event_node p.1 == v) (is_out os v) (event_node o.1 == v))
  where
    assoc : (a b c : Bool) → (a || (b || c)) ≡ ((a || b) || c)
    assoc true b c = refl
    assoc false b c = refl

apart_more : (os : Outs) (o : ℕ × Event) → AreApart os → is_out os (event_node o.1) ≡ false → AreApart (os ++ o ∷ [])
apart_more [] o a h = (refl, tt)
apart_more (p ∷ os) o a h =
    let b = or_parts _ _ h in (
      rw (
        out_more os o (event_node p.1),
        a.0,
        ne_eqb (event_node o.1) (event_node p.1) (λ z. same_false (event_node p.1) (event_node o.1) (sym z) b.0),
      ),
      apart_more os o a.1 b.1,
    )
  where
    same_false : (x y : ℕ) → x ≡ y → (x == y) ≡ false → ⊥
    same_false x y e f = let t = eq-eqb x y e in cc

nodes_more : (k : ℕ) (os : Outs) (o : ℕ × Event) → AreOfNodes k os → 1 ≤ event_node o.1 → event_node o.1 ≤ k → AreOfNodes k (os ++ o ∷ [])
nodes_more k [] o a lo hi = (lo, hi, tt)
nodes_more k (p ∷ os) o a lo hi = (a.0, a.1, nodes_more k os o a.2 lo hi)

messages_more : (os : Outs) (o : ℕ × Event) → messages_out (os ++ o ∷ []) ≡ messages_out os + message_of o.1
messages_more [] o = omega arith
messages_more (p ∷ os) o = let rest = messages_more os o in omega arith

pub message_few : (e : Event) → message_of e ≤ 1
message_few (Wake v) = omega arith
message_few (Take v p) = omega arith

pub messages_few : (os : Outs) → messages_out os ≤ length os
messages_few [] = omega arith
messages_few (o ∷ os) = let rest = messages_few os in let one = message_few o.1 in omega arith

-- one event more is out
pub added : (os : Outs) (last : ℕ) (busy : List Bool) (taken : ℕ) (e : Event) →
    AreKept os last busy taken →
    1 ≤ event_node e →
    event_node e ≤ length busy →
    is_out os (event_node e) ≡ false →
    AreKept (os ++ (last + 1, e) ∷ []) (last + 1) (set busy (event_node e - 1) true) (taken + message_of e)
added os last busy taken e kept lo hi home = record {
  rise = rise_more 0 os last e kept.rise;
  apart = apart_more os (last + 1, e) kept.apart home;
  nodes = rw (length-set busy (event_node e - 1) true) (nodes_more (length busy) os (last + 1, e) kept.nodes lo hi);
  marked = λ v low high. rw (out_more os (last + 1, e) v) (⊎_elim
      (λ (z : event_node e ≡ v).
      rw (← z, get_or-set_same busy (event_node e - 1) true false (omega arith), eq-eqb (event_node e) (event_node e) refl, home))
      (λ ne. let l = length-set busy (event_node e - 1) true in
      rw (
        get_or-set_other busy (event_node e - 1) (v - 1) true false (λ z. ne (omega arith)),
        ne_eqb (event_node e) v ne,
        kept.marked v low (omega arith),
      )
      (sym (or_false (is_out os v))))
      (cases_eq (event_node e) v));
  counted = let c = kept.counted in let m = messages_more os (last + 1, e) in omega arith;
}
  where
    or_false : (b : Bool) → (b || false) ≡ b
    or_false true = refl
    or_false false = refl

-- where an event is out under a number, it is the first or stands behind
there : {P : Type 0} (n : ℕ) (e : Event) (o : ℕ × Event) (os : Outs) →
    event_out (o ∷ os) n ≡ Some e →
    (o.0 ≡ n → o.1 ≡ e → P) →
    (o.0 ≢ n → event_out os n ≡ Some e → P) →
    P
there n e o os h first behind = ⊎_elim
    (λ (z : o.0 ≡ n).
    let s : Some o.1 ≡ Some e = sym (ap (λ b. cond b (Some o.1) (event_out os n)) (eq-eqb o.0 n z)) ∙ h in first z (same_Some o.1 e s))
    (λ ne. behind ne (sym (ap (λ b. cond b (Some o.1) (event_out os n)) (ne_eqb o.0 n ne)) ∙ h))
    (cases_eq o.0 n)

module _ (n : ℕ) (e : Event) where
  pub is_there : (os : Outs) → event_out os n ≡ Some e → is_out os (event_node e) ≡ true
  is_there [] h = cc
  is_there (o ∷ os) h = there n e o os h
      (λ z t. or_left (event_node o.1 == event_node e) (is_out os (event_node e)) (eq-eqb _ _ (ap event_node t)))
      (λ ne t. or_right (event_node o.1 == event_node e) (is_out os (event_node e)) (is_there os t))

  pub node_there : (k : ℕ) (os : Outs) → AreOfNodes k os → event_out os n ≡ Some e → (1 ≤ event_node e) × (event_node e ≤ k)
  node_there k [] a h = cc
  node_there k (o ∷ os) a h = there n e o os h (λ z t. rw (← t) (a.0, a.1)) (λ ne t. node_there k os a.2 t)

  pub out_same : (os : Outs) → event_out os n ≡ Some e → (v : ℕ) → event_node e ≢ v → is_out (without n os) v ≡ is_out os v
  out_same [] h v apart = refl
  out_same (o ∷ os) h v apart = there n e o os h
      (λ z t. rw (eq-eqb o.0 n z, ne_eqb (event_node o.1) v (λ x. apart (sym (ap event_node t) ∙ x))))
      (λ ne t. rw (ne_eqb o.0 n ne, out_same os t v apart))

  pub out_home : (os : Outs) → AreApart os → event_out os n ≡ Some e → is_out (without n os) (event_node e) ≡ false
  out_home [] a h = refl
  out_home (o ∷ os) a h = there n e o os h
      (λ z t. rw (eq-eqb o.0 n z, ← t) a.0)
      (λ ne t.
      rw (
        ne_eqb o.0 n ne,
        ne_eqb (event_node o.1) (event_node e) (λ x. both_ways _ (ap (is_out os) (sym x) ∙ a.0) (is_there os t)),
        out_home os a.1 t,
      ))

  out_less : (os : Outs) → event_out os n ≡ Some e → AreApart os → (v : ℕ) → is_out os v ≡ false → is_out (without n os) v ≡ false
  out_less os h a v none = ⊎_elim
      (λ (z : event_node e ≡ v). sym (ap (is_out (without n os)) z) ∙ out_home os a h)
      (λ ne. out_same os h v ne ∙ none) (cases_eq (event_node e) v)

  apart_without : (os : Outs) → event_out os n ≡ Some e → AreApart os → AreApart (without n os)
  apart_without [] h a = tt
  apart_without (o ∷ os) h a = there n e o os h
      (λ z t. rw (eq-eqb o.0 n z) a.1)
      (λ ne t. rw (ne_eqb o.0 n ne) (out_less os t a.1 (event_node o.1) a.0, apart_without os t a.1))

  nodes_without : (k : ℕ) (os : Outs) → AreOfNodes k os → AreOfNodes k (without n os)
  nodes_without k [] a = tt
  nodes_without k (o ∷ os) a = ⊎_elim
      (λ (z : o.0 ≡ n). rw (eq-eqb o.0 n z) a.2)
      (λ ne. rw (ne_eqb o.0 n ne) (a.0, a.1, nodes_without k os a.2)) (cases_eq o.0 n)

  pub messages_less : (os : Outs) → event_out os n ≡ Some e → messages_out (without n os) + message_of e ≡ messages_out os
  messages_less [] h = cc
  messages_less (o ∷ os) h = there n e o os h
      (λ z t. rw (eq-eqb o.0 n z, ← t) (omega arith))
      (λ ne t. rw (ne_eqb o.0 n ne) (let rest = messages_less os t in omega arith))

  -- the event is out no more
  pub come_back : (os : Outs) (last : ℕ) (busy : List Bool) (taken : ℕ) →
      AreKept os last busy taken →
      event_out os n ≡ Some e →
      AreKept (without n os) last (set busy (event_node e - 1) false) (taken - message_of e)
  come_back os last busy taken kept h =
      let at = node_there (length busy) os kept.nodes h in
      let l = length-set busy (event_node e - 1) false in
      record {
        rise = rise_without n 0 os last kept.rise;
        apart = apart_without os h kept.apart;
        nodes = rw l (nodes_without (length busy) os kept.nodes);
        marked = λ v low high. ⊎_elim
            (λ (z : event_node e ≡ v).
            rw
            (← z, get_or-set_same busy (event_node e - 1) false false (let hi = at.1 in let lo = at.0 in omega arith))
            (sym (out_home os kept.apart h)))
            (λ ne.
            rw
            (get_or-set_other busy (event_node e - 1) (v - 1) false false (λ z. ne (let lo = at.0 in omega arith)), kept.marked v low (omega arith))
            (sym (out_same os h v ne)))
            (cases_eq (event_node e) v);
        counted = let c = kept.counted in let m = messages_less os h in omega arith;
      }

-- while events come back one by one: those left are still marked, each once
pub record AreLeft (os : Outs) (busy : List Bool) (many : ℕ) : Type 0 where
  pub many_still : length busy ≡ many
  pub apart : AreApart os
  pub nodes : AreOfNodes many os
  pub marked : (v : ℕ) → 1 ≤ v → v ≤ many → get_or busy (v - 1) false ≡ is_out os v

pub left_first : (os : Outs) (busy : List Bool) (many last taken : ℕ) → AreKept os last busy taken → many ≡ length busy → AreLeft os busy many
left_first os busy many last taken kept e = rw e (record { many_still = refl; apart = kept.apart; nodes = kept.nodes; marked = kept.marked })

pub left_less : (o : ℕ × Event) (os : Outs) (busy : List Bool) (many : ℕ) →
    AreLeft (o ∷ os) busy many →
    AreLeft os (set busy (event_node o.1 - 1) false) many
left_less o os busy many left =
    let l = length-set busy (event_node o.1 - 1) false in
    let m = left.many_still in
    let lo = left.nodes.0 in
    let hi = left.nodes.1 in
    record {
      many_still = l ∙ m;
      apart = left.apart.1;
      nodes = left.nodes.2;
      marked = λ v low high. ⊎_elim
          (λ (z : event_node o.1 ≡ v). rw (← z, get_or-set_same busy (event_node o.1 - 1) false false (omega arith)) (sym left.apart.0))
          (λ ne. let h = left.marked v low high in
          get_or-set_other busy (event_node o.1 - 1) (v - 1) false false (λ z. ne (omega arith)) ∙ h ∙
          ap (λ b. b || is_out os v) (ne_eqb (event_node o.1) v ne))
          (cases_eq (event_node o.1) v);
    }

pub left_none : (busy : List Bool) (many last : ℕ) → AreLeft [] busy many → AreKept [] last busy 0
left_none busy many last left = record {
  rise = omega arith;
  apart = tt;
  nodes = tt;
  marked = λ v low high. left.marked v low (let m = left.many_still in omega arith);
  counted = refl;
}

module _ (p : Event → Bool) where
  pub all_more : (os : Outs) (o : ℕ × Event) → AllOut p os → p o.1 ≡ true → AllOut p (os ++ o ∷ [])
  all_more [] o a h = (h, tt)
  all_more (x ∷ os) o a h = (a.0, all_more os o a.1 h)

  pub all_without : (n : ℕ) (os : Outs) → AllOut p os → AllOut p (without n os)
  all_without n [] a = tt
  all_without n (o ∷ os) a = ⊎_elim
      (λ (z : o.0 ≡ n). rw (eq-eqb o.0 n z) a.1)
      (λ ne. rw (ne_eqb o.0 n ne) (a.0, all_without n os a.1)) (cases_eq o.0 n)

  pub all_at : (n : ℕ) (e : Event) (os : Outs) → AllOut p os → event_out os n ≡ Some e → p e ≡ true
  all_at n e [] a h = cc
  all_at n e (o ∷ os) a h = there n e o os h (λ z t. ap p (sym t) ∙ a.0) (λ ne t. all_at n e os a.1 t)

  -- what passes one test passes another, for events of other nodes than v
  pub all_same : (q : Event → Bool) (v : ℕ) →
      ((f : Event) → event_node f ≢ v → p f ≡ true → q f ≡ true) →
      (os : Outs) → is_out os v ≡ false →
      AllOut p os →
      AllOut q os
  all_same q v still [] none a = tt
  all_same q v still (o ∷ os) none a =
      let b = or_parts _ _ none in
      (still o.1 (λ z. both_ways _ b.0 (eq-eqb (event_node o.1) v z)) a.0, all_same q v still os b.1 a.1)

pub length_without : (n : ℕ) (e : Event) (os : Outs) → event_out os n ≡ Some e → length (without n os) + 1 ≡ length os
length_without n e [] h = cc
length_without n e (o ∷ os) h = there n e o os h
    (λ z t. rw (eq-eqb o.0 n z) (omega arith))
    (λ ne t. rw (ne_eqb o.0 n ne) (let rest = length_without n e os t in omega arith))

-- a number is passed over
pub passed : (os : Outs) (last : ℕ) (busy : List Bool) (taken : ℕ) → AreKept os last busy taken → AreKept os (last + 1) busy taken
passed os last busy taken kept =
    record { rise = rise_higher 0 os last kept.rise; apart = kept.apart; nodes = kept.nodes; marked = kept.marked; counted = kept.counted }
  where
    rise_higher : (low : ℕ) (os : Outs) (high : ℕ) → RiseTo low os high → RiseTo low os (high + 1)
    rise_higher low [] high r = omega arith
    rise_higher low (o ∷ os) high r = (r.0, rise_higher o.0 os high r.1)

-- the tickets of other numbers stay
pub event_same : (n m : ℕ) (os : Outs) → m ≢ n → event_out (without n os) m ≡ event_out os m
event_same n m [] ne = refl
event_same n m (o ∷ os) ne = ⊎_elim
    (λ (e : o.0 ≡ n). rw (eq-eqb o.0 n e, ne_eqb o.0 m (λ z. ne (sym z ∙ e))))
    (λ other. rw (ne_eqb o.0 n other, event_same n m os ne)) (cases_eq o.0 n)
