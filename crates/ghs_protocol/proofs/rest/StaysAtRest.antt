-- Fragments at rest, where marks and ways stay as they were.
use Rattle.std.proofs.Common.{◌≡◌, ◌≢◌, ℕ, sym, ◌∙◌, ap, subst}
use Rattle.ghs_node.specs.declared.mark.Mark.TheVariants.{Branch}
use Rattle.ghs_node.specs.Words.{is_branch}
use Rattle.peer_network.specs.Network.{Network}
use Rattle.ghs_protocol.proofs.clauses.Scene.{Scene, Forest, forest}
use Rattle.ghs_protocol.proofs.clauses.Rest.{Quiet, Resting}
use Rattle.ghs_node.proofs.lemmas.{branch_mark}

module _ (g : Network) (w w' : Scene) (same : forest w' ≡ forest w) where
  was : (v p : ℕ) → (w'.at v).mark p ≡ Branch → (w.at v).mark p ≡ Branch
  was v p e = branch_mark _ (sym (ap (λ (s : Forest). s.branch v p) same) ∙ ap is_branch e)

  was_not : (v p : ℕ) → (w'.at v).mark p ≢ Branch → (w.at v).mark p ≢ Branch
  was_not v p ne = λ e. ne (branch_mark _ (ap (λ (s : Forest). s.branch v p) same ∙ ap is_branch e))

  ups : (v : ℕ) → (w'.at v).up ≡ (w.at v).up
  ups v = ap (λ (s : Forest). s.up v) same

  pub rests_alike : ((a : ℕ) → Quiet g w a → Quiet g w' a) → Resting g w → Resting g w'
  rests_alike quiet r = record {
    out = λ v p at o.
        subst (Quiet g w') (ap (λ (s : Forest). s.fragment v) (sym same))
        (quiet _ (r.out v p at (record { here = was v p o.here; there = was_not _ _ o.there })));
    moved = λ v p at m.
        subst (Quiet g w') (ap (λ (s : Forest). s.fragment v) (sym same)) (quiet _ (r.moved v p at (record {
          both = record {
            joins = record { here = was v p m.both.joins.here; there = was _ _ m.both.joins.there };
            up = sym (ups v) ∙ m.both.up;
            up_beyond = sym (ups _) ∙ m.both.up_beyond;
          };
          unnamed = λ e. m.unnamed (ap (λ (s : Forest). s.coming_name v) same ∙ e);
        })));
  }
