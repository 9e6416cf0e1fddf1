-- The ports of a node that enters: as many as before, and each by itself.
use Rattle.std.proofs.Common.{◌≡◌, ℕ, zero, suc, ◌+◌, ◌<◌, List, [], ◌∷◌, length, get_or, refl, sym, ◌∙◌, ap, arith, add-zero}
use Rattle.boruvka_node.specs.declared.change.Entry.{Entry}
use Rattle.boruvka_node.specs.declared.port_state.PortState.{PortState}
use Rattle.boruvka_node.specs.State.{no_port}
use Rattle.boruvka_node.specs.Entering.{entered_from, entered_port}

pub length_entered : (e : Entry) (q : ℕ) (ps : List PortState) → length (entered_from e q ps) ≡ length ps
length_entered e q [] = refl
length_entered e q (p ∷ ps) = ap (λ k. suc k) (length_entered e (suc q) ps)

entered_at : (e : Entry) (q : ℕ) (ps : List PortState) (k : ℕ) → k < length ps →
    get_or (entered_from e q ps) k no_port ≡ entered_port e (q + k) (get_or ps k no_port)
entered_at e q [] k lt = absurd (omega (arith, lt))
entered_at e q (p ∷ ps) zero lt = ap (λ i. entered_port e i p) (sym (add-zero q))
entered_at e q (p ∷ ps) (suc k) lt =
    let shift : suc q + k ≡ q + suc k = omega arith in
    entered_at e (suc q) ps k (omega (arith, lt)) ∙ ap (λ i. entered_port e i (get_or ps k no_port)) shift

pub get_entered : (e : Entry) (ps : List PortState) (k : ℕ) → k < length ps →
    get_or (entered_from e 0 ps) k no_port ≡ entered_port e k (get_or ps k no_port)
get_entered e ps k lt =
    let same : 0 + k ≡ k = omega arith in
    entered_at e 0 ps k lt ∙ ap (λ i. entered_port e i (get_or ps k no_port)) same
