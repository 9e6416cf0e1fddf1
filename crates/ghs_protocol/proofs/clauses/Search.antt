-- Clauses of the search for the least outgoing link.
use Rattle.std.specs.Prelude.{◌≡◌, ◌≢◌, ◌≤◌, Some}
use Rattle.ghs_graph.specs.declared.key.Key.{Key}
use Rattle.ghs_node.specs.declared.mark.Mark.TheVariants.{Branch, Rejected}
use Rattle.ghs_protocol.proofs.clauses.Scene.{TreeEnd}
use Rattle.ghs_protocol.proofs.clauses.Links.{Joins}
use Rattle.ghs_protocol.proofs.clauses.TreeMessages.{Reported}

-- a Rejected link lies inside one fragment
abbrev pub RejectedInside : TreeEnd → TreeEnd → Type 0
RejectedInside e f = e.mark ≡ Rejected → e.fragment ≡ f.fragment

-- the link leads out of the fragment, to a level at least as high
pub record LeadsOut (e f : TreeEnd) (k : Key) : Type 0 where
  pub key : k ≡ e.key
  pub apart : f.fragment ≢ e.fragment
  pub higher : e.level ≤ f.level

-- a best link of one's own leads out
abbrev pub FindLeadsOut : TreeEnd → TreeEnd → Type 0
FindLeadsOut e f = (k : Key) → e.best ≡ Some (e.port, k) → e.level ≡ e.coming → e.mark ≢ Branch → LeadsOut e f k

-- a best link that a child reported is still the child's
abbrev pub FindIsReported : TreeEnd → TreeEnd → Type 0
FindIsReported e f = (k : Key) → e.best ≡ Some (e.port, k) → e.level ≡ e.coming → Joins e f → Reported f (Some k)

-- all clauses of the search at one link
pub record SearchFits (e f : TreeEnd) : Type 0 where
  pub rejected_inside : RejectedInside e f
  pub find_leads : FindLeadsOut e f
  pub find_reported : FindIsReported e f
