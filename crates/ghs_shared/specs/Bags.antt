-- What went through a queue: what each pass has put and taken.
use Rattle.std.specs.Prelude.{◌≡◌, ◌==◌, ℕ, ◌+◌, ◌<◌, true, false, if◌then◌else◌, List, [], ◌∷◌, ◌++◌, length}
use mathlib.Core.Option.{some}
use lib.ListN.{get_elem?}
use Rattle.atomic_table.specs.Seated.{TableId}
use Rattle.ghs_shared.specs.declared.pass_view.PassView.{PassView}

-- which queue it is, and how many shares of it there are
pub record Name : Type 0 where
  pub table : TableId
  pub all : ℕ

-- what a contract sees of a queue
pub record Line : Type 0 where
  pub name : Name
  pub capacity : ℕ

-- what a contract sees of a pass
pub record Bags : Type 0 where
  pub name : Name
  pub shares : ℕ
  pub put : List ℕ
  pub taken : List ℕ

-- the weights of some numbers, added up
abbrev pub weigh : (ℕ → ℕ) → List ℕ → ℕ
weigh h [] = 0
weigh h (n ∷ ns) = h n + weigh h ns

-- how often a number stands in a list
abbrev pub times : ℕ → List ℕ → ℕ
times n ns = weigh (λ m. if m == n then 1 else 0) ns

-- something of each pass, added up
abbrev pub total : (PassView → ℕ) → List PassView → ℕ
total f [] = 0
total f (v ∷ vs) = f v + total f vs

abbrev pub pass_view : ℕ → ℕ → List ℕ → List ℕ → PassView
pass_view all shares put taken = record { opening = false; all = all; shares = shares; put = put; taken = taken }

-- a pass that knows nothing and holds no share
abbrev pub nobody : PassView
nobody = pass_view 0 0 [] []

-- the first pass while it counts up how many shares there are to be
abbrev pub opener : ℕ → PassView
opener all = record { opening = true; all = all; shares = 0; put = []; taken = [] }

-- a pass without shares has put and taken nothing, and one with shares knows how many there are; where there is one share, its order is the queue's
pub record FitsOne (all : ℕ) (items : List ℕ) (port : ℕ) (v : PassView) : Type 0 where
  pub idle : v.shares ≡ 0 → (v.put ≡ []) × (v.taken ≡ [])
  pub knows : 0 < v.shares → v.all ≡ all
  pub opens : v.opening ≡ true → (port ≡ 0) × (all ≡ 0)
  pub order : all ≡ 1 → 0 < v.shares → v.put ≡ v.taken ++ items

-- the rule: over all passes, what was put is what was taken and what is left, however the numbers are weighed
pub record IsReady (items : List ℕ) (views : List PassView) : Type 0 where
  pub all : ℕ
  pub shares : total (λ v. v.shares) views ≡ all
  pub weights : (h : ℕ → ℕ) → total (λ v. weigh h v.put) views ≡ total (λ v. weigh h v.taken) views + weigh h items
  pub each : (port : ℕ) (v : PassView) → get_elem? views port ≡ some v → FitsOne all items port v

-- what one pass alone has put is what it has taken and what is left; where there is one share, in this order
pub record Knows (v : PassView) (items : List ℕ) : Type 0 where
  pub weights : (h : ℕ → ℕ) → weigh h v.put ≡ weigh h v.taken + weigh h items
  pub order : v.all ≡ 1 → v.put ≡ v.taken ++ items

-- a pass with all shares knows that of what is left
abbrev pub Known : PassView → List ℕ → Type 0
Known v items = v.shares ≡ v.all → Knows v items

-- a number is in the bag of those that were put
abbrev pub PutOne : PassView → ℕ → PassView → Type 0
PutOne v n w = w ≡ pass_view v.all v.shares (v.put ++ n ∷ []) v.taken

-- a number is in the bag of those that were taken; a pass with all shares had put more than it had taken
abbrev pub TakenOne : PassView → ℕ → PassView → Type 0
TakenOne v n w = (w ≡ pass_view v.all v.shares v.put (v.taken ++ n ∷ [])) × (v.shares ≡ v.all → length v.taken < length v.put)
