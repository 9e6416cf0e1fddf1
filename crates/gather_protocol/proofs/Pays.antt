-- What a reaction sends, counted: in a wave a node sends as many messages as it has ports, once nothing is owed.
use Rattle.std.proofs.Common.{◌≡◌, ◌≢◌, ℕ, zero, suc, ◌+◌, ◌-◌, ◌<◌, ◌≤◌, ◌==◌, Bool, true, false, Option, Some, None, List, [], ◌∷◌, ◌++◌, length, get_or, cond, refl, ⊎_elim, arith, lt-ltb, eq-eqb, ne_eqb}
use Rattle.std.proofs.lemmas.Bool.{and_parts, and_from, cases_eq}
use Rattle.ghs_graph.specs.declared.key.Key.{Key}
use Rattle.peer_network.specs.Network.{Network}
use Rattle.peer_machine.specs.Rules.{Outgoing, messages}
use Rattle.peer_machine.specs.Net.{are_on_ports}
use Rattle.peer_machine.specs.Ledger.{of_kind}
use Rattle.gather_node.specs.declared.message.Message.{Message}
use Rattle.gather_node.specs.declared.message.Message.TheVariants.{Explore, Back, Tree}
use Rattle.gather_node.specs.Forest.{common, forest}
use Rattle.gather_node.specs.Gather.{gather}
use Rattle.gather_node.specs.Reaction.{closed, due, explores, in_wave, joins_wave, tree_at, trees}
use Rattle.gather_node.specs.State.{State, degree, is_that, known}

-- Explores and Backs
abbrev pub plain : Outgoing Message → ℕ
plain ss = of_kind gather 0 (messages ss) + of_kind gather 1 (messages ss)

pub plain_append : (a b : Outgoing Message) → plain (a ++ b) ≡ plain a + plain b
plain_append [] b = omega arith
plain_append (s ∷ a) b = let h = plain_append a b in omega (arith, h)

one_explore : (b : Bool) (x n : ℕ) → plain (cond b [] ((n, Explore x) ∷ [])) ≡ cond b 0 1
one_explore true x n = refl
one_explore false x n = refl

explores_more : (x n : ℕ) (out : Option ℕ) → plain (explores x (suc n) out) ≡ plain (explores x n out) + cond (is_that out n) 0 1
explores_more x n out =
    let a = plain_append (explores x n out) (cond (is_that out n) [] ((n, Explore x) ∷ [])) in
    let b = one_explore (is_that out n) x n in
    omega (arith, a, b)

all_explored : (x n : ℕ) → plain (explores x n None) ≡ n
all_explored x zero = refl
all_explored x (suc n) = let a = explores_more x n None in let b = all_explored x n in omega (arith, a, b)

explored_below : (x n q : ℕ) → n ≤ q → plain (explores x n (Some q)) ≡ n
explored_below x zero q le = refl
explored_below x (suc n) q le =
    let a = explores_more x n (Some q) in
    let b = explored_below x n q (omega arith) in
    let c : ◌≡◌ {A = ℕ} (cond (q == n) 0 1) 1 = rw (ne_eqb q n (λ e. omega (arith, e, le))) refl in
    omega (arith, a, b, c)

others_explored : (x n q : ℕ) → q < n → plain (explores x n (Some q)) + 1 ≡ n
others_explored x zero q lt = absurd (omega (arith, lt))
others_explored x (suc n) q lt = ⊎_elim here (there (λ l. others_explored x n q l)) (cases_eq q n)
  where
    here : q ≡ n → plain (explores x (suc n) (Some q)) + 1 ≡ suc n
    here e =
        let a = explores_more x n (Some q) in
        let b = explored_below x n q (omega (arith, e)) in
        let c : ◌≡◌ {A = ℕ} (cond (q == n) 0 1) 0 = rw (eq-eqb q n e) refl in
        omega (arith, a, b, c)

    there : (q < n → plain (explores x n (Some q)) + 1 ≡ n) → q ≢ n → plain (explores x (suc n) (Some q)) + 1 ≡ suc n
    there ih ne =
        let a = explores_more x n (Some q) in
        let b = ih (omega (arith, lt, ne)) in
        let c : ◌≡◌ {A = ℕ} (cond (q == n) 0 1) 1 = rw (ne_eqb q n ne) refl in
        omega (arith, a, b, c)

one_tree : (tree : List Key) (n : ℕ) (b : Option (List Key)) → plain (tree_at tree n b) ≡ 0
one_tree tree n None = refl
one_tree tree n (Some sent) = refl

pub plain_trees : (tree : List Key) (n : ℕ) (bs : List (Option (List Key))) → plain (trees tree n bs) ≡ 0
plain_trees tree zero bs = refl
plain_trees tree (suc n) bs =
    let a = plain_append (trees tree n bs) (tree_at tree n (get_or bs n None)) in
    let b = plain_trees tree n bs in
    let c = one_tree tree n (get_or bs n None) in
    omega (arith, a, b, c)

-- a Back is owed while something is awaited
abbrev pub back_owed : Option ℕ → ℕ → ℕ
back_owed None a = 0
back_owed (Some q) zero = 0
back_owed (Some q) (suc k) = 1

abbrev pub owed : Option ℕ → Option ℕ → ℕ → ℕ
owed None parent a = 0
owed (Some x) parent a = back_owed parent a

abbrev pub owes : State → ℕ
owes n = owed n.head.wave n.head.parent n.head.awaits

closed_pays : (n : State) (x a : ℕ) (parent : Option ℕ) (ss : Outgoing Message) →
    plain (closed n x a parent ss).sends + back_owed parent a ≡ plain ss + back_owed parent 1
closed_pays n x (suc k) None ss = omega arith
closed_pays n x (suc k) (Some q) ss = omega arith
closed_pays n x zero (Some q) ss = let a = plain_append ss ((q, Back x (forest (known n))) ∷ []) in omega (arith, a)
closed_pays n x zero None ss =
    let a = plain_append ss (trees (forest (known n)) (degree n) n.brought) in
    let b = plain_trees (forest (known n)) (degree n) n.brought in
    omega (arith, a, b)

-- who joins sends a message on each port, but for what it owes
pub joins_pays : (n : State) (x : ℕ) (par : Option ℕ) → ((q : ℕ) → par ≡ Some q → q < degree n) →
    plain (joins_wave n x par).sends + back_owed par (due (degree n) par) ≡ degree n
joins_pays n x None fits =
    let a = closed_pays (in_wave n x None) x (degree n) None (explores x (degree n) None) in
    let b = all_explored x (degree n) in
    omega (arith, a, b)
joins_pays n x (Some q) fits =
    let a = closed_pays (in_wave n x (Some q)) x (degree n - 1) (Some q) (explores x (degree n) (Some q)) in
    let b = others_explored x (degree n) q (fits q refl) in
    omega (arith, a, b)

-- who hears an answer sends what it owes, or owes it still
pub hears_pays : (n : State) (x k : ℕ) (parent : Option ℕ) → plain (closed n x k parent []).sends + back_owed parent k ≡ back_owed parent 1
hears_pays n x k parent = let a = closed_pays n x k parent [] in omega (arith, a)

-- Messages that go out on ports.

module _ (g : Network) (v : ℕ) where
  on_both : (a b : Outgoing Message) → are_on_ports gather g v a ≡ true → are_on_ports gather g v b ≡ true → are_on_ports gather g v (a ++ b) ≡ true
  on_both [] b x y = y
  on_both (s ∷ a) b x y = let h = and_parts _ _ x in and_from _ _ h.0 (on_both a b h.1 y)

  one_on : (q : ℕ) (m : Message) → q < length (g.ports v) → are_on_ports gather g v ((q, m) ∷ []) ≡ true
  one_on q m lt = and_from _ _ (lt-ltb q _ lt) refl

  explores_on : (x n : ℕ) (out : Option ℕ) → n ≤ length (g.ports v) → are_on_ports gather g v (explores x n out) ≡ true
  explores_on x zero out le = refl
  explores_on x (suc n) out le = on_both (explores x n out) _ (explores_on x n out (omega arith)) (last (is_that out n))
    where
      last : (b : Bool) → are_on_ports gather g v (cond b [] ((n, Explore x) ∷ [])) ≡ true
      last true = refl
      last false = one_on n (Explore x) (omega arith)

  pub trees_on : (tree : List Key) (n : ℕ) (bs : List (Option (List Key))) → n ≤ length (g.ports v) → are_on_ports gather g v (trees tree n bs) ≡ true
  trees_on tree zero bs le = refl
  trees_on tree (suc n) bs le = on_both (trees tree n bs) _ (trees_on tree n bs (omega arith)) (last (get_or bs n None))
    where
      last : (b : Option (List Key)) → are_on_ports gather g v (tree_at tree n b) ≡ true
      last None = refl
      last (Some sent) = one_on n (Tree (common tree sent)) (omega arith)

  pub closed_on : (n : State) (x a : ℕ) (parent : Option ℕ) (ss : Outgoing Message) → are_on_ports gather g v ss ≡ true →
      ((q : ℕ) → parent ≡ Some q → q < length (g.ports v)) → degree n ≤ length (g.ports v) →
      are_on_ports gather g v (closed n x a parent ss).sends ≡ true
  closed_on n x (suc k) parent ss on fits le = on
  closed_on n x zero (Some q) ss on fits le =
      on_both ss ((q, Back x (forest (known n))) ∷ []) on (one_on q (Back x (forest (known n))) (fits q refl))
  closed_on n x zero None ss on fits le =
      on_both ss (trees (forest (known n)) (degree n) n.brought) on (trees_on (forest (known n)) (degree n) n.brought le)

  pub joins_on : (n : State) (x : ℕ) (par : Option ℕ) → ((q : ℕ) → par ≡ Some q → q < length (g.ports v)) → degree n ≤ length (g.ports v) →
      are_on_ports gather g v (joins_wave n x par).sends ≡ true
  joins_on n x par fits le =
      closed_on (in_wave n x par) x (due (degree n) par) par (explores x (degree n) par) (explores_on x (degree n) par le) fits le
