-- Nodes that have halted, put down one after another.
use Rattle.std.proofs.Common.{◌≡◌, ◌≢◌, ℕ, ◌<◌, ◌≤◌, ◌+◌, inr, ⊎_elim, List, length, get_or, set, sym, ◌∙◌, ap, subst, arith, get_or-set_same, get_or-set_other, length-set}
use Rattle.std.proofs.lemmas.Bool.{cases_eq}
use Rattle.ghs_graph.specs.Components.{IsRoot}
use Rattle.ghs_graph.specs.Graph.{Shape}
use Rattle.ghs_graph.specs.Links.{Same}
use Rattle.ghs_graph.proofs.lemmas.Components.{root_is_one}
use Rattle.ghs_graph.proofs.lemmas.Joining.{joined_then, joined_back}
use Rattle.ghs_protocol.specs.Marks.{HasHalted, HasEnded}
use Rattle.ghs_protocol.specs.Net.{Net}
use Rattle.ghs_report.specs.Halting.{AreHalted, IsHaltedOf}

module _ (g : Shape) (w : Net) (v : ℕ) (nodes : List ℕ) (a : AreHalted g w v nodes) where
  pub halts_not : (HasHalted w v → ⊥) → AreHalted g w (v + 1) nodes
  halts_not still = record {
    places = a.places;
    each = a.each;
    all =
        λ u r lo lt hi h root.
        ⊎_elim (λ (e : u ≡ v). absurd (still (subst (λ x. HasHalted w x) e h))) (λ ne. a.all u r lo (omega (arith, lt, ne)) hi h root) (cases_eq u v);
  }

  pub halts_one : (r : ℕ) → 1 ≤ v → v ≤ g.nodes → HasHalted w v → IsRoot g.keys v r → AreHalted g w (v + 1) (set nodes r v)
  halts_one r lo hi h root = record {
    places = length-set nodes r v ∙ a.places;
    each =
        λ x.
        ⊎_elim
        (λ (e : x ≡ r).
        rw (e, here) (inr (record { some = lo; within = hi; root = root; halted = h })))
        (λ ne. rw (away x ne) (a.each x)) (cases_eq x r);
    all = λ u x low lt high hu ru. all u x low lt high hu ru;
  }
    where
      inside : r < length nodes
      inside = let z = root.least v Same in let p = a.places in omega (arith, z, p, hi)

      here : get_or (set nodes r v) r 0 ≡ v
      here = get_or-set_same nodes r v 0 inside

      away : (x : ℕ) → x ≢ r → get_or (set nodes r v) x 0 ≡ get_or nodes x 0
      away x ne = get_or-set_other nodes r x v 0 ne

      all : (u x : ℕ) → 1 ≤ u → u < v + 1 → u ≤ g.nodes → HasHalted w u → IsRoot g.keys u x → get_or (set nodes r v) x 0 ≢ 0
      all u x low lt high hu ru z =
          ⊎_elim
          (λ (e : x ≡ r). let q : v ≡ 0 = (sym here ∙ ap (λ n. get_or (set nodes r v) n 0) (sym e) ∙ z) in absurd (omega (arith, q, lo)))
          (λ ne.
          ⊎_elim (λ (e : u ≡ v). absurd (ne (root_is_one g.keys v x r (subst (λ n. IsRoot g.keys n x) e ru) root)))
          (λ other. a.all u x low (omega (arith, lt, other)) high hu ru (sym (away x ne) ∙ z)) (cases_eq u v)) (cases_eq x r)

-- where a run has ended there is one in each component
pub halts_somewhere : (g : Shape) (w : Net) (nodes : List ℕ) (r : ℕ) → AreHalted g w (g.nodes + 1) nodes → HasEnded g w → 1 ≤ r → r ≤ g.nodes →
    IsRoot g.keys r r → IsHaltedOf g w r (get_or nodes r 0)
halts_somewhere g w nodes r a ended lo hi root =
    let u = ended r lo hi in
    let of_u : IsRoot g.keys u.0 r = (record { joined = joined_back u.3; least = λ x way. root.least x (joined_then u.3 way) }) in
    ⊎_elim (λ z. absurd (a.all u.0 r u.1 (let q = u.2 in omega (arith, q)) u.2 u.4 of_u z)) (λ h. h) (a.each r)
