-- What is said of a graph is said of the text that a device gives.
use Rattle.std.proofs.Common.{◌≡◌, ℕ, List, Option, Some, None, inr, map, subst}
use Rattle.std.specs.Prelude.{◌⊎◌, IfErr, IfOk, IfSome, Result, Ok, Err}
use Rattle.ghs_gr.specs.Judgement.{TextIs}
use Rattle.ghs_gr.specs.RawGraph.{RawShape}
use Rattle.ghs_graph.specs.Graph.{Shape}
use Rattle.ghs_graph.specs.Key.{key_of}
use Rattle.ghs_answers.specs.declared.fault.ServeFault.{ServeFault}
use Rattle.peer_network.specs.Wakes.{missing}
use Rattle.peer_network.specs.declared.wake_set.WakeSet.{WakeSet}
use Rattle.ghs_cli.specs.Serving.{IsGraphCause, IsRead, IsTextOf, shape_of}
use Rattle.ghs_cli.proofs.Serves.{same_shape}

-- a graph that is built of what a text says has that text
pub text_of_built : (wake : WakeSet) (input : Option (List ℕ)) (raw : RawShape) (g : Shape) →
    IfSome input (λ i. TextIs i (Ok raw)) →
    missing wake raw.nodes ≡ None →
    g.nodes ≡ raw.nodes →
    g.keys ≡ map key_of raw.keys →
    IfSome input (λ i. IsTextOf wake i g)
text_of_built wake None raw g is has nodes keys = tt
text_of_built wake (Some i) raw g is has nodes keys = (raw, record { text = is; has = has }, same_shape g raw nodes keys)

-- what holds of a graph holds of the one that is built of what its text says
of_text : {wake : WakeSet} (P : Shape → Type 0) (input : List ℕ) (g : Shape) → IsTextOf wake input g → P g →
    (raw : RawShape) × IsRead wake input raw × P (shape_of raw)
of_text P input g (raw, is, same) holds = (raw, is, subst P same holds)

-- so what a result says of a graph it says of the text,
pub output_of_text : {A : Type 0} (wake : WakeSet) (r : Result A ServeFault) (P : A → Shape → Type 0) (g : Shape) (input : Option (List ℕ)) →
    IfSome input (λ i. IsTextOf wake i g) →
    IfOk r (λ x. P x g) →
    IfOk r (λ x. IfSome input (λ i. (raw : RawShape) × IsRead wake i raw × P x (shape_of raw)))
output_of_text wake (Ok x) P g None is holds = tt
output_of_text wake (Ok x) P g (Some i) is holds = of_text (P x) i g is holds
output_of_text wake (Err fault) P g input is holds = tt

-- and what a fault says
pub cause_of_text : {A : Type 0} (wake : WakeSet) (r : Result A ServeFault) (P : Shape → ServeFault → Type 0) (g : Shape) (input : Option (List ℕ)) →
    IfSome input (λ i. IsTextOf wake i g) →
    IfErr r (P g) →
    IfErr r (λ fault. IfSome input (λ i. IsGraphCause wake i fault ⊎ ((raw : RawShape) × IsRead wake i raw × P (shape_of raw) fault)))
cause_of_text wake (Ok x) P g input is holds = tt
cause_of_text wake (Err fault) P g None is holds = tt
cause_of_text wake (Err fault) P g (Some i) is holds = inr (of_text (λ s. P s fault) i g is holds)
