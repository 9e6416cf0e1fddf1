-- Components put down one after another, by rising least node.
use Rattle.std.proofs.Common.{◌≡◌, ◌≢◌, ℕ, ◌<◌, ◌≤◌, ◌+◌, ⊎_elim, List, [], ◌∷◌, ◌++◌, sym, ◌∙◌, subst, arith}
use Rattle.std.specs.List.{All}
use Rattle.std.proofs.lemmas.Bool.{cases_eq}
use Rattle.std.proofs.lemmas.List.Quantifiers.{all_pairs_push}
use Rattle.std.proofs.lemmas.List.Elements.{All-push, Contains-push, Contains-append_left}
use Rattle.ghs_graph.specs.Components.{IsRoot}
use Rattle.ghs_graph.specs.Graph.{Shape}
use Rattle.ghs_graph.proofs.lemmas.Components.{root_is_one}
use Rattle.ghs_report.specs.declared.component.Component.{Component}
use Rattle.ghs_report.specs.Components.{AreBelow}

module _ (g : Shape) (holds : Component → Type 0) (v : ℕ) (cs : List Component) (b : AreBelow g holds v cs) where
  abbrev Is : ℕ → Component → Type 0
  Is m c = (1 ≤ c.root) × (c.root < m) × (c.root ≤ g.nodes) × IsRoot g.keys c.root c.root × holds c

  weaker : All (λ (c : Component). (1 ≤ c.root) × (c.root < v + 1) × (c.root ≤ g.nodes) × IsRoot g.keys c.root c.root × holds c) cs
  weaker i d lt = let e = b.each i d lt in (e.0, (let q = e.1 in omega (arith, q)), e.2, e.3, e.4)

  pub below_none : (r : ℕ) → IsRoot g.keys v r → r ≢ v → AreBelow g holds (v + 1) cs
  below_none r root ne = record {
    rising = b.rising;
    each = weaker;
    all =
        λ u lo lt is.
        ⊎_elim (λ (e : u ≡ v). absurd (ne (root_is_one g.keys v r v root (subst (λ x. IsRoot g.keys x x) e is))))
        (λ other. b.all u lo (omega (arith, lt, other)) is) (cases_eq u v);
  }

  pub below_one : (c : Component) (more : List Component) → 1 ≤ v → v ≤ g.nodes → c.root ≡ v → IsRoot g.keys v v → holds c → more ≡ cs ++ c ∷ [] →
      AreBelow g holds (v + 1) more
  below_one c more lo hi e root h is = rw is (record {
    rising =
        all_pairs_push (λ (x y : Component). x.root < y.root) cs c b.rising (λ i d lt. let z = b.each i d lt in let q = z.1 in omega (arith, q, e));
    each =
        All-push (λ (x : Component). (1 ≤ x.root) × (x.root < v + 1) × (x.root ≤ g.nodes) × IsRoot g.keys x.root x.root × holds x) cs c weaker
        (omega (arith, lo, e), omega (arith, e), omega (arith, hi, e), subst (λ x. IsRoot g.keys x x) (sym e) root, h);
    all =
        λ u low lt r.
        ⊎_elim (λ (q : u ≡ v). (c, Contains-push cs c, e ∙ sym q))
        (λ other. let z = b.all u low (omega (arith, lt, other)) r in (z.0, Contains-append_left cs (c ∷ []) z.0 z.1, z.2)) (cases_eq u v);
  })

pub below_first : (g : Shape) (holds : Component → Type 0) (cs : List Component) → cs ≡ [] → AreBelow g holds 1 cs
below_first g holds cs e = rw e (record {
  rising = λ i j d lt within. absurd (omega (arith, within));
  each = λ i d lt. absurd (omega (arith, lt));
  all = λ v lo lt r. absurd (omega (arith, lo, lt));
})
