use Rattle.std.proofs.Common.{◌≡◌, ◌==◌, ◌&&◌, true, refl, sym, ◌∙◌, ap, eq-eqb}
use Rattle.std.specs.Bool.{Decides}
use Rattle.std.proofs.lemmas.Bool.{and_parts, eqb-true}
use Rattle.std.proofs.lemmas.Slice.Eq.{slice_eq-Decides}
use Rattle.ghs_graph.specs.declared.key.Key.{Key}
use Rattle.ghs_graph.specs.Graph.{Shape}
use Rattle.ghs_graph.proofs.graph.Graph.same.Goals as goal

key_decides : (a b : Key) → Decides ((a.weight == b.weight) && ((a.a == b.a) && (a.b == b.b))) (a ≡ b)
key_decides a b = (
  λ t. equal (and_parts (a.weight == b.weight) ((a.a == b.a) && (a.b == b.b)) t),
  λ e.
      let p = ap (λ (k : Key). k.weight) e in
      let q = ap (λ (k : Key). k.a) e in let r = ap (λ (k : Key). k.b) e in rw (eq-eqb a.weight b.weight p, eq-eqb a.a b.a q, eq-eqb a.b b.b r) refl,
)
  where
    equal : ((a.weight == b.weight) ≡ true) × (((a.a == b.a) && (a.b == b.b)) ≡ true) → a ≡ b
    equal h =
        let g = and_parts (a.a == b.a) (a.b == b.b) h.1 in
        λ i. record { weight = eqb-true a.weight b.weight h.0 i; a = eqb-true a.a b.a g.0 i; b = eqb-true a.b b.b g.1 i }

pub returns-then-self-other : goal.returns-then-self-other
returns-then-self-other c =
    let d = slice_eq-Decides key_decides c.as_slice.result.now c.as_slice-then-self-other.result.now c.eq.result c.eq.ensures in
    let n : c.self.inside.nodes ≡ c.other.inside.nodes = c.if-self-other.true in (
      λ t.
          sym c.self.view_is
          ∙
          (let k : c.self.inside.keys.items ≡ c.other.inside.keys.items =
          sym c.as_slice.ensures.value ∙ d.0 t ∙ c.as_slice-then-self-other.ensures.value in
          λ i. record { nodes = n i; keys = k i })
          ∙ c.other.view_is,
      λ e.
          d.1
          (c.as_slice.ensures.value ∙ ap (λ (s : Shape). s.keys) (c.self.view_is ∙ e ∙ sym c.other.view_is)
          ∙ sym c.as_slice-then-self-other.ensures.value),
    )
