-- What has been heard at ports: a message more, and that there are few.
use Rattle.std.proofs.Common.{◌≡◌, ◌≢◌, ℕ, zero, suc, ◌+◌, ◌<◌, ◌≤◌, ◌⊎◌, inl, inr, Bool, true, false, Option, List, [], ◌∷◌, ◌++◌, length, cond, refl, sym, ◌∙◌, ap, subst, ⊎_elim, arith, append-nil, length-append}
use Rattle.std.specs.Prelude.{filter}
use Rattle.std.proofs.lemmas.Bool.{cases_eq, cases_Bool, true≢false, eqb-true}
use Rattle.std.proofs.lemmas.List.{nil_from_length}
use Rattle.ghs_graph.specs.declared.key.Key.{Key}
use Rattle.peer_network.specs.Network.{Network, far, far_port}
use Rattle.peer_network.specs.Sums.{sum_below}
use Rattle.peer_network.proofs.lemmas.Sums.{sum_less, sum_few, sum_one}
use Rattle.peer_network.proofs.lemmas.Updates.{put_same, put_other}
use Rattle.peer_machine.specs.Net.{Net, put, take_first}
use Rattle.gather_node.specs.declared.message.Message.{Message}
use Rattle.gather_node.specs.declared.message.Message.TheVariants.{Explore, Back, Tree}
use Rattle.gather_node.specs.Forest.{forest}
use Rattle.gather_node.specs.Gather.{gather}
use Rattle.gather_node.specs.State.{State, is_that}
use Rattle.gather_protocol.proofs.Accounts.{Account, taken, with_heard}
use Rattle.gather_protocol.proofs.Sends.{back_of, is_of, sent_on}
use Rattle.gather_protocol.proofs.Waves.{AllAccounts, Past, knows, sent_of}

-- One message at most is sent over a port in a wave.

pub sent_few : (j : Bool) (x : ℕ) (parent : Option ℕ) (a : ℕ) (ks : List Key) (i : ℕ) → length (sent_on j x parent a ks i) ≤ 1
sent_few false x parent a ks i = omega arith
sent_few true x parent a ks i = go (is_that parent i) a
  where
    go : (b : Bool) (a : ℕ) → length (cond b [] (Explore x ∷ []) ++ cond b (back_of x a ks) []) ≤ 1
    go true zero = omega arith
    go true (suc k) = omega arith
    go false a = omega arith

-- and it is one of two
pub data SentAs (j : Bool) (x : ℕ) (parent : Option ℕ) (a : ℕ) (ks : List Key) (i : ℕ) (m : Message) : Type 0 where
  WasAsked : j ≡ true → is_that parent i ≡ false → m ≡ Explore x → SentAs j x parent a ks i m
  WasBack : j ≡ true → is_that parent i ≡ true → a ≡ 0 → m ≡ Back x (forest ks) → SentAs j x parent a ks i m

pub sent_as : (j : Bool) (x : ℕ) (parent : Option ℕ) (a : ℕ) (ks : List Key) (i : ℕ) (m : Message) → sent_on j x parent a ks i ≡ m ∷ [] →
    SentAs j x parent a ks i m
sent_as false x parent a ks i m h = cc
sent_as true x parent a ks i m h = go (is_that parent i) refl a refl h
  where
    go : (b : Bool) → is_that parent i ≡ b → (c : ℕ) → a ≡ c → cond b [] (Explore x ∷ []) ++ cond b (back_of x c ks) [] ≡ m ∷ [] →
        SentAs true x parent a ks i m
    go true e zero f z = WasBack refl e f (let q : m ≡ Back x (forest ks) = cc in q)
    go true e (suc k) f z = cc
    go false e c f z = WasAsked refl e (let q : m ≡ Explore x = cc in q)

-- who has sent something has joined
pub sent_joined : (j : Bool) (x : ℕ) (parent : Option ℕ) (a : ℕ) (ks : List Key) (i : ℕ) → sent_on j x parent a ks i ≢ [] → j ≡ true
sent_joined true x parent a ks i h = refl
sent_joined false x parent a ks i h = absurd (h refl)

pub nil_or : {X : Type 0} (xs : List X) → (xs ≡ []) ⊎ (xs ≢ [])
nil_or [] = inl refl
nil_or (x ∷ xs) = inr (λ h. cc)

pub some_long : {X : Type 0} (xs : List X) → xs ≢ [] → 1 ≤ length xs
some_long [] h = absurd (h refl)
some_long (x ∷ xs) h = omega arith

pub long_some : {X : Type 0} (xs : List X) → 1 ≤ length xs → xs ≢ []
long_some [] le h = absurd (omega arith)
long_some (x ∷ xs) le h = cc

pub append_some : {X : Type 0} (xs ys : List X) → xs ≢ [] → xs ++ ys ≢ []
append_some xs ys h = let a = some_long xs h in long_some (xs ++ ys) (let b = length-append xs ys in omega (arith, a, b))

pub append_nil_left : {X : Type 0} (xs ys : List X) → xs ++ ys ≢ [] → xs ≡ [] → ys ≢ []
append_nil_left xs ys h e z = h (ap (λ (l : _). l ++ ys) e ∙ z)

-- A message more.

abbrev pub with_more : (ℕ → ℕ → List Message) → ℕ → Message → ℕ → ℕ → List Message
with_more heard p m x = put (heard x) p (heard x p ++ filter (is_of x) (m ∷ []))

of_one : (x : ℕ) (m : Message) → is_of x m ≡ true → filter (is_of x) (m ∷ []) ≡ m ∷ []
of_one x m h = rw h refl

of_none : (x : ℕ) (m : Message) → is_of x m ≡ false → ◌≡◌ {A = List Message} (filter (is_of x) (m ∷ [])) []
of_none x m h = rw h refl

pub one_wave : (x y : ℕ) (m : Message) → is_of x m ≡ true → is_of y m ≡ true → x ≡ y
one_wave x y (Explore z) h k = sym (eqb-true z x h) ∙ eqb-true z y k
one_wave x y (Back z ks) h k = sym (eqb-true z x h) ∙ eqb-true z y k
one_wave x y (Tree ks) h k = absurd (true≢false (sym h))

module _ (heard : ℕ → ℕ → List Message) (p : ℕ) (m : Message) where
  pub more_here : (x : ℕ) → with_more heard p m x p ≡ heard x p ++ filter (is_of x) (m ∷ [])
  more_here x = put_same (heard x) p (heard x p ++ filter (is_of x) (m ∷ []))

  pub more_there : (x q : ℕ) → q ≢ p → with_more heard p m x q ≡ heard x q
  more_there x q ne = put_other (heard x) p q (heard x p ++ filter (is_of x) (m ∷ [])) ne

  -- in a wave that isn't the message's, nothing more
  pub quiet : (x q : ℕ) → is_of x m ≡ false → with_more heard p m x q ≡ heard x q
  quiet x q h = ⊎_elim
      (λ (e : q ≡ p).
      subst (λ j. with_more heard p m x j ≡ heard x j) (sym e)
      (more_here x ∙ ap (λ (l : List Message). heard x p ++ l) (of_none x m h) ∙ append-nil (heard x p)))
      (λ ne. more_there x q ne) (cases_eq q p)

  pub grows : (x q : ℕ) → heard x q ≢ [] → with_more heard p m x q ≢ []
  grows x q h = ⊎_elim
      (λ (e : q ≡ p).
      subst (λ j. with_more heard p m x j ≢ []) (sym e)
      (λ z. append_some (heard x p) (filter (is_of x) (m ∷ [])) (subst (λ j. heard x j ≢ []) e h) (sym (more_here x) ∙ z)))
      (λ ne z. h (sym (more_there x q ne) ∙ z)) (cases_eq q p)

  pub heard_cases : (x q : ℕ) → with_more heard p m x q ≢ [] → (heard x q ≢ []) ⊎ ((q ≡ p) × (is_of x m ≡ true))
  heard_cases x q h = ⊎_elim
      (λ (e : q ≡ p). ⊎_elim
      (λ t. inr (e, t))
      (λ t. inl (λ z. h (quiet x q t ∙ z))) (cases_Bool (is_of x m)))
      (λ ne. inl (λ z. h (more_there x q ne ∙ z))) (cases_eq q p)

  -- one more, where nothing was heard before
  pub first_heard : (x : ℕ) → is_of x m ≡ true → heard x p ≡ [] → with_more heard p m x p ≡ m ∷ []
  first_heard x t e = more_here x ∙ ap (λ (l : List Message). l ++ filter (is_of x) (m ∷ [])) e ∙ of_one x m t

  pub one_more_heard : (x n : ℕ) → p < n → is_of x m ≡ true → heard x p ≡ [] →
      sum_below n (λ q. length (with_more heard p m x q)) ≡ suc (sum_below n (λ q. length (heard x q)))
  one_more_heard x n lt t e =
      let a =
      sum_one n p (λ q. length (heard x q)) (λ q. length (with_more heard p m x q)) lt (λ j ne. ap length (sym (more_there x j ne))) in
      let b = ap length e in
      let c = ap length (first_heard x t e) in
      omega (arith, a, b, c)

-- Accounts.

module _ (g : Network) (w : Net State Message) (past : ℕ → Past) (heard : ℕ → ℕ → List Message) (x u q : ℕ)
    (a : sent_of g (far g u q) (past (far g u q)) x (far_port g u q) ≡ heard u q ++ filter (is_of x) (w.queue u q)) where
  few : length (heard u q) + length (filter (is_of x) (w.queue u q)) ≤ 1
  few =
      let s = past (far g u q) in
      let b = sent_few (s.joined x) x (s.parent x) (s.awaits x) (knows g (far g u q) (s.brought x)) (far_port g u q) in
      let c = ap length a in
      let d = length-append (heard u q) (filter (is_of x) (w.queue u q)) in
      omega (arith, b, c, d)

  pub few_heard : length (heard u q) ≤ 1
  few_heard = let f = few in omega (arith, f)

  -- the first message that waits is all that was sent in its wave
  pub front : (m : Message) (ms : List Message) → w.queue u q ≡ m ∷ ms → is_of x m ≡ true →
      (heard u q ≡ []) × (sent_of g (far g u q) (past (far g u q)) x (far_port g u q) ≡ m ∷ [])
  front m ms e t =
      let here : filter (is_of x) (w.queue u q) ≡ m ∷ filter (is_of x) ms = ap (filter (is_of x)) e ∙ first in
      let f = few in
      let l = ap length here in
      let none = nil_from_length (heard u q) (let f = few in omega (arith, f, l)) in
      let rest : filter (is_of x) ms ≡ [] = nil_from_length (filter (is_of x) ms) (omega (arith, f, l)) in
      (none, a ∙ ap (λ (y : List Message). y ++ filter (is_of x) (w.queue u q)) none ∙ here ∙ ap (λ (y : List Message). m ∷ y) rest)
    where
      first : filter (is_of x) (m ∷ ms) ≡ m ∷ filter (is_of x) ms
      first = rw t refl

-- where one of n numbers that are 1 at most is 0, they are less than n together; so where they are n together, none is 0
pub none_zero : (n j : ℕ) (f : ℕ → ℕ) → j < n → ((i : ℕ) → i < n → f i ≤ 1) → sum_below n f ≡ n → 1 ≤ f j
none_zero n j f lt most e = ⊎_elim
    (λ (z : f j ≡ 0).
    absurd
    (let a = sum_less n j f (λ i. 1) lt most (omega (arith, z)) in let b = sum_few n (λ i. 1) (λ i. omega arith) in omega (arith, a, b, e)))
    (λ ne. omega (arith, ne)) (cases_eq (f j) 0)

-- the accounts once the first message of a queue is taken
pub over_taken : (g : Network) (w : Net State Message) (past : ℕ → Past) (v p : ℕ) (m : Message) (ms : List Message) (s : Past) →
    w.queue v p ≡ m ∷ ms → s.heard ≡ with_more (past v).heard p m → AllAccounts g w past →
    (x : ℕ) → Account g (take_first gather g v p m ms w) (is_of x) (λ u i. sent_of g u (past u) x i) (λ u q. (put past v s u).heard x q)
over_taken g w past v p m ms s e h over x u q at =
    taken g w (is_of x) (λ u i. sent_of g u (past u) x i) (λ u q. (past u).heard x q) v p m ms e (over x) u q at
    ∙ ap (λ (l : List Message). l ++ filter (is_of x) ((take_first gather g v p m ms w).queue u q)) (same u)
  where
    same : (u : ℕ) → with_heard (is_of x) (λ u q. (past u).heard x q) v p m u q ≡ (put past v s u).heard x q
    same u = ⊎_elim
        (λ (z : u ≡ v).
        subst (λ b. with_heard (is_of x) (λ u q. (past u).heard x q) v p m b q ≡ (put past v s b).heard x q) (sym z)
        (ap (λ (f : ℕ → List Message). f q)
        (put_same (λ u q. (past u).heard x q) v (put ((past v).heard x) p ((past v).heard x p ++ filter (is_of x) (m ∷ []))))
        ∙ ap (λ (f : ℕ → ℕ → List Message). f x q) (sym h) ∙ ap (λ (b : Past). b.heard x q) (sym (put_same past v s))))
        (λ ne.
        ap (λ (f : ℕ → List Message). f q)
        (put_other (λ u q. (past u).heard x q) v u (put ((past v).heard x) p ((past v).heard x p ++ filter (is_of x) (m ∷ []))) ne)
        ∙ ap (λ (b : Past). b.heard x q) (sym (put_other past v u s ne)))
        (cases_eq u v)
