-- The table is whole: one row for each work outside the list, none for work on it.
use Rattle.std.proofs.Common.{◌≡◌, ◌↔◌, Option, Some, None, refl, sym, ◌∙◌, ◌⊎◌, inl, inr}
use Rattle.std.proofs.lemmas.Option.{same_Some}
use Rattle.ghs_node.specs.declared.delta.Delta.{Delta}
use Rattle.ghs_node.specs.declared.work.Work.{Work}
use Rattle.ghs_node.specs.NodeState.{NodeState, IsNode}
use Rattle.ghs_node.specs.Reaction.{reaction, HasPort}
use Rattle.ghs_node.specs.Rows.{Row}
use Rattle.ghs_node.specs.NoRule.{NoRule}
use Rattle.ghs_node.proofs.Inversion.{reaction_inverts}
use Rattle.ghs_node.proofs.Ruleless.{reaction_ruleless}
use Rattle.ghs_node.proofs.Computed.{row_computes, ruleless_computes}

pub table_is_whole : (n : NodeState) (w : Work) → IsNode n → HasPort n w → ((d : Delta) × Row n w d) ⊎ NoRule n w
table_is_whole n w f h = go (reaction n w) refl
  where
    go : (o : Option Delta) → reaction n w ≡ o → ((d : Delta) × Row n w d) ⊎ NoRule n w
    go None e = inr (reaction_ruleless n w f.level e)
    go (Some d) e = inl (d, reaction_inverts n w d h e)

pub row_is_one : (n : NodeState) (w : Work) (d e : Delta) → Row n w d → Row n w e → d ≡ e
row_is_one n w d e r s = same_Some d e (sym (row_computes n w d r) ∙ row_computes n w e s)

pub list_has_no_row : (n : NodeState) (w : Work) (d : Delta) → NoRule n w → Row n w d → ⊥
list_has_no_row n w d l r = let a = ruleless_computes n w l in let b = row_computes n w d r in cc

pub row_is_reaction : (n : NodeState) (w : Work) (d : Delta) → HasPort n w → (Row n w d ↔ (reaction n w ≡ Some d))
row_is_reaction n w d h = (row_computes n w d, reaction_inverts n w d h)
