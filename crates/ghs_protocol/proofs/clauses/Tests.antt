-- Clauses of Tests and their answers on a link.
use Rattle.std.specs.Prelude.{◌≡◌, ◌≢◌, ℕ, ◌+◌, ◌≤◌, Option, Some, List, [], ◌∷◌, length, ⊤}
use Rattle.ghs_graph.specs.declared.key.Key.{Key}
use Rattle.ghs_node.specs.declared.mark.Mark.TheVariants.{Basic}
use Rattle.ghs_protocol.proofs.clauses.Scene.{TestEnd}

-- each Test has this level and name
abbrev pub AllFrom : ℕ → Option Key → List (ℕ × Key) → Type 0
AllFrom l n [] = ⊤
AllFrom l n (t ∷ ts) = (t.0 ≡ l) × (n ≡ Some t.1) × AllFrom l n ts

-- while e probes the link, one Test or one answer is on its way
pub record Probes (e f : TestEnd) : Type 0 where
  pub one : length f.tests + (e.accepts + e.rejects) ≤ 1
  pub from : AllFrom e.level e.name f.tests
  pub accepted : 1 ≤ e.accepts → (f.fragment ≢ e.fragment) × (e.level ≤ f.level)
  pub rejected : 1 ≤ e.rejects → (f.fragment ≡ e.fragment) × (f.mark ≢ Basic) × (f.probe ≢ Some f.port)

-- a Test of e's that f's own has crossed
pub record Crossed (e f : TestEnd) : Type 0 where
  pub probe : f.probe ≡ Some f.port
  pub same : f.fragment ≡ e.fragment
  pub mark : e.mark ≢ Basic
  pub tests : ◌≡◌ {A = ℕ} (length e.tests) 0
  pub accepts : ◌≡◌ {A = ℕ} f.accepts 0
  pub rejects : ◌≡◌ {A = ℕ} f.rejects 0
  pub from : AllFrom f.level f.name f.tests

-- while e doesn't, no answer is, and a Test at most that was crossed
pub record Strays (e f : TestEnd) : Type 0 where
  pub accepts : ◌≡◌ {A = ℕ} e.accepts 0
  pub rejects : ◌≡◌ {A = ℕ} e.rejects 0
  pub one : length f.tests ≤ 1
  pub crossed : 1 ≤ length f.tests → Crossed e f

-- the clause of an end that probes
abbrev pub WhileProbing : TestEnd → TestEnd → Type 0
WhileProbing e f = e.probe ≡ Some e.port → Probes e f

-- the clause of an end that doesn't
abbrev pub NotProbing : TestEnd → TestEnd → Type 0
NotProbing e f = e.probe ≢ Some e.port → Strays e f

-- all clauses of Tests at one link
pub record TestsFit (e f : TestEnd) : Type 0 where
  pub probing : WhileProbing e f
  pub not_probing : NotProbing e f
