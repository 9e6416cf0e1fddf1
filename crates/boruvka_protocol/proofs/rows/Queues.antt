-- What is read of a queue: where more waits behind, of both parts together.
use Rattle.std.proofs.Common.{◌≡◌, ℕ, suc, ◌+◌, List, [], ◌∷◌, ◌++◌, refl, ◌∙◌, ap, arith, append-nil}
use Rattle.boruvka_node.specs.declared.message.Message.{Message}
use Rattle.boruvka_node.specs.declared.message.Message.TheVariants.{Connect, Initiate, Name, Report, ChangeRoot}
use Rattle.boruvka_protocol.proofs.invariant.Sides.{Told, calls_in, names_in, reports_in, passes_in}

-- as many ChangeRoots are among the calls
pub passes_called : (q : List Message) → ◌≡◌ {A = ℕ} (passes_in (calls_in q)) (passes_in q)
passes_called [] = refl
passes_called (Connect m ∷ q) = passes_called q
passes_called (Initiate m k ∷ q) = passes_called q
passes_called (Name m k ∷ q) = passes_called q
passes_called (Report k ∷ q) = passes_called q
passes_called (ChangeRoot ∷ q) = ap suc (passes_called q)

pub calls_append : (a b : List Message) → calls_in (a ++ b) ≡ calls_in a ++ calls_in b
calls_append [] b = refl
calls_append (Connect m ∷ a) b = ap (λ (x : List Message). Connect m ∷ x) (calls_append a b)
calls_append (Initiate m k ∷ a) b = ap (λ (x : List Message). Initiate m k ∷ x) (calls_append a b)
calls_append (Name m k ∷ a) b = calls_append a b
calls_append (Report k ∷ a) b = ap (λ (x : List Message). Report k ∷ x) (calls_append a b)
calls_append (ChangeRoot ∷ a) b = ap (λ (x : List Message). ChangeRoot ∷ x) (calls_append a b)

pub names_append : (a b : List Message) → names_in (a ++ b) ≡ names_in a ++ names_in b
names_append [] b = refl
names_append (Connect m ∷ a) b = names_append a b
names_append (Initiate m k ∷ a) b = names_append a b
names_append (Name m k ∷ a) b = ap (λ (x : List Told). record { level = m; name = k } ∷ x) (names_append a b)
names_append (Report k ∷ a) b = names_append a b
names_append (ChangeRoot ∷ a) b = names_append a b

pub passes_append : (a b : List Message) → ◌≡◌ {A = ℕ} (passes_in (a ++ b)) (passes_in a + passes_in b)
passes_append [] b = omega arith
passes_append (Connect m ∷ a) b = passes_append a b
passes_append (Initiate m k ∷ a) b = passes_append a b
passes_append (Name m k ∷ a) b = passes_append a b
passes_append (Report k ∷ a) b = passes_append a b
passes_append (ChangeRoot ∷ a) b = omega (arith, passes_append a b)

pub reports_append : (a b : List Message) → ◌≡◌ {A = ℕ} (reports_in (a ++ b)) (reports_in a + reports_in b)
reports_append [] b = omega arith
reports_append (Connect m ∷ a) b = reports_append a b
reports_append (Initiate m k ∷ a) b = reports_append a b
reports_append (Name m k ∷ a) b = reports_append a b
reports_append (Report k ∷ a) b = omega (arith, reports_append a b)
reports_append (ChangeRoot ∷ a) b = reports_append a b

-- So where b waits behind: the calls, or the Names, are those of q where b has none, and as many Reports and ChangeRoots.
module _ (q b : List Message) where
  pub calls_before : calls_in b ≡ [] → calls_in (q ++ b) ≡ calls_in q
  calls_before none = calls_append q b ∙ ap (λ (x : List Message). calls_in q ++ x) none ∙ append-nil (calls_in q)

  pub names_before : names_in b ≡ [] → names_in (q ++ b) ≡ names_in q
  names_before none = names_append q b ∙ ap (λ (x : List Told). names_in q ++ x) none ∙ append-nil (names_in q)

  pub passes_before : ◌≡◌ {A = ℕ} (passes_in b) 0 → ◌≡◌ {A = ℕ} (passes_in q) (passes_in (q ++ b))
  passes_before none = omega (arith, passes_append q b, none)

  -- Reports are counted among the calls
  pub reports_behind : ◌≡◌ {A = ℕ} (reports_in (calls_in (q ++ b))) (reports_in (calls_in q) + reports_in (calls_in b))
  reports_behind = ap (λ (x : List Message). reports_in x) (calls_append q b) ∙ reports_append (calls_in q) (calls_in b)

  pub reports_before : ◌≡◌ {A = ℕ} (reports_in (calls_in b)) 0 → ◌≡◌ {A = ℕ} (reports_in (calls_in q)) (reports_in (calls_in (q ++ b)))
  reports_before none = omega (arith, reports_behind, none)
