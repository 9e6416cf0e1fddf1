-- Who has gone out is called over no other link.
use Rattle.std.proofs.Common.{◌≡◌, ℕ, suc, ◌<◌, inr, ⊎_elim, true, sym, ◌∙◌, ap, subst, refl}
use Rattle.ghs_graph.specs.declared.key.Key.{Key}
use Rattle.ghs_graph.specs.Key.{ends_at}
use Rattle.ghs_graph.specs.Links.{Joined, Same, Back}
use Rattle.ghs_graph.specs.Ports.{far_end}
use Rattle.ghs_graph.specs.Graph.{Shape, IsGraph}
use Rattle.ghs_graph.proofs.lemmas.Ports.{ends_b, end_cases, far_end_a, far_end_b}
use Rattle.peer_network.proofs.lemmas.Graphs.{link_among}
use Rattle.boruvka_protocol.specs.Levels.{Taken, IsOfLevel}
use Rattle.boruvka_protocol.specs.WaysUp.{IsTop, Away}
use Rattle.boruvka_protocol.proofs.lemmas.KeyOrder.{keys_decided}
use Rattle.boruvka_protocol.proofs.lemmas.Cores.{least_is_one}
use Rattle.boruvka_protocol.proofs.lemmas.WaysOut.{least_out}
use Rattle.boruvka_protocol.proofs.invariant.Words.{IsLeast, IsWayUp}
use Rattle.boruvka_protocol.proofs.levels.OneWay.{root_has_none, one_way_up}
use Rattle.boruvka_protocol.proofs.levels.Chosen.{chosen_up}
use Rattle.boruvka_protocol.proofs.follows.Ways.{ends_from}
use Rattle.boruvka_protocol.proofs.follows.Quiet.{leaves_across}

-- the greater end of a core has it as its way up
pub core_up : (g : Shape) → IsGraph g → (l : ℕ) (c : Key) → IsLeast g.keys l c.a c → IsLeast g.keys l c.b c → IsWayUp g.keys (suc l) c.b c
core_up g ok l c of_a of_b = record {
  root = c.a;
  top = (c, record { inside = across; of_a = of_a; of_b = of_b }, refl);
  up = record { link = inr (c.b, of_b); ends = ends_b c; on = subst (λ x. Joined (Away (Taken g.keys (suc l)) c.b) x c.a) (sym far) Same };
}
  where
    far : far_end c.b c ≡ c.a
    far = far_end_b c (link_among g ok c of_b.link).1

    across : Joined (Taken g.keys (suc l)) c.b c.a
    across = Back c (inr (c.b, of_b)) Same

module _ (g : Shape) (ok : IsGraph g) (l v : ℕ) (out up : Key) (of_level : IsOfLevel g.keys (suc l) v) (least : IsLeast g.keys l v out)
    (ends : ends_at v out ≡ true) (called : IsWayUp g.keys (suc l) v up) where
  lt : out.a < out.b
  lt = (link_among g ok out least.link).1

  -- where the far end chose it too, it is the core, and v its greater end, as the lesser one has no way up
  of_core : IsLeast g.keys l (far_end v out) out → IsWayUp g.keys (suc l) v out
  of_core far = ⊎_elim at_a at_b (end_cases v out ends)
    where
      at_a : v ≡ out.a → IsWayUp g.keys (suc l) v out
      at_a e = root_has_none g ok (suc l) v up of_level at_top called
        where
          of_a : IsLeast g.keys l out.a out
          of_a = subst (λ x. IsLeast g.keys l x out) e least

          of_b : IsLeast g.keys l out.b out
          of_b = subst (λ x. IsLeast g.keys l x out) (ap (λ x. far_end x out) e ∙ far_end_a out) far

          at_top : IsTop g.keys (suc l) v v
          at_top = (out, record { inside = subst (λ x. Joined (Taken g.keys (suc l)) v x) e Same; of_a = of_a; of_b = of_b }, e)

      at_b : v ≡ out.b → IsWayUp g.keys (suc l) v out
      at_b e = subst (λ x. IsWayUp g.keys (suc l) x out) (sym e)
          (core_up g ok l out
          (subst (λ x. IsLeast g.keys l x out) (ap (λ x. far_end x out) e ∙ far_end_b out lt) far)
          (subst (λ x. IsLeast g.keys l x out) e least))

  -- who is called is so over the link that it has gone out over, where it has
  pub called_over_out : out ≡ up
  called_over_out = one_way_up g ok (suc l) v out up of_level way called
    where
      of_far : (k : Key) × IsLeast g.keys l (far_end v out) k
      of_far = least_out g.keys l (far_end v out) (out, least.link, leaves_across out (ends_from out v lt ends) least.leaves)

      way : IsWayUp g.keys (suc l) v out
      way = ⊎_elim
          (λ same. of_core (subst (λ (k : Key). IsLeast g.keys l (far_end v out) k) same of_far.1))
          (λ other. chosen_up g ok l v out of_level least ends (λ alone. other (least_is_one of_far.1 alone)))
          (keys_decided of_far.0 out)
