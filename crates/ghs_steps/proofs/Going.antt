-- What goes out while the events of a run are gone over.
use Rattle.std.proofs.Common.{◌≡◌, ℕ, ◌+◌, ◌<◌, List, [], ◌∷◌, ◌++◌, length, get_or, take, drop, Option, sym, ◌∙◌, ap, ap₂, append_assoc}
use Rattle.std.specs.List.{flat_map}
use Rattle.std.proofs.lemmas.List.{take_more}
use Rattle.ghs_graph.specs.Graph.{Shape}
use Rattle.peer_network.specs.declared.event.Event.{Event}
use Rattle.peer_network.specs.Network.{network_of}
use Rattle.ghs_protocol.specs.Run.{IsRun}
use Rattle.ghs_core.specs.NetState.{NetState, IsLawful}
use Rattle.ghs_choices.specs.declared.choice.Choice.{Choice}
use Rattle.ghs_report.specs.declared.portions.WriteFault.{WriteFault}
use Rattle.ghs_steps.specs.Step.{chosen, step, steps, steps_behind}
use Rattle.ghs_choices.specs.declared.form.Form.{Form}
use Rattle.ghs_steps.specs.Lines.{line_in, lines, shown}
use Rattle.ghs_report.specs.Written.{IsFront, IsOut}
use Rattle.ghs_report.proofs.lemmas.Gone.{front_longer, out_more}
use Rattle.ghs_steps.proofs.Stepping.{lawful_here, steps_more, text_front, text_more}

pub lawful_net : (s : NetState) (g : Shape) (es : List Event) (i : ℕ) (d : Event) → s.graph ≡ g → s.trace ≡ take i es →
    IsRun (network_of g) es → i < length es →
    IsLawful s (get_or es i d)
lawful_net s g es i d graph trace is_run lt = rw (graph, trace) (lawful_here g es i d is_run lt)

pub trace_more : (s new : NetState) (es : List Event) (i : ℕ) (d : Event) → s.trace ≡ take i es → i < length es →
    new.trace ≡ s.trace ++ get_or es i d ∷ [] →
    new.trace ≡ take (i + 1) es
trace_more s new es i d trace lt more = more ∙ (ap (λ (fs : List Event). fs ++ get_or es i d ∷ []) trace ∙ sym (take_more es i d lt))

pub out_shown : (old now : Option (List ℕ)) (form : Form) (g : Shape) (c : Choice) (es : List Event) (i gone : ℕ) (d : Event) (s : NetState)
    (rest rest' : List ℕ) → s.graph ≡ g → s.trace ≡ take i es → i < length es → IsOut old now (lines form g (take i es) c) gone rest →
    rest' ≡ rest ++ shown form s.graph s.trace (get_or es i d) c →
    IsOut old now (lines form g (take (i + 1) es) c) gone rest'
out_shown old now form g c es i gone d s rest rest' graph trace lt out more =
    rw (text_more form g c es i d lt, more, graph, trace)
    (out_more old now (lines form g (take i es) c) rest (shown form g (take i es) (get_or es i d) c) gone out)

pub front_of_all : (old now : Option (List ℕ)) (form : Form) (g : Shape) (c : Choice) (es : List Event) (i : ℕ) (f : WriteFault) →
    IsFront old now (lines form g (take i es) c) f →
    IsFront old now (lines form g es c) f
front_of_all old now form g c es i f front =
    rw (text_front form g c es i)
    (front_longer old now (lines form g (take i es) c)
    (flat_map (line_in form) (chosen c (steps_behind g (take i es) (drop i es)))) f front)

-- what one step appends
pub lines_put : (f : Form) (s : NetState) (g : Shape) (es : List Event) (i : ℕ) (d : Event) (old rest rest' : List ℕ) →
    s.graph ≡ g → s.trace ≡ take i es → i < length es → rest ≡ old ++ flat_map (line_in f) (steps g (take i es)) →
    rest' ≡ rest ++ line_in f (step s.graph s.trace (get_or es i d)) →
    rest' ≡ old ++ flat_map (line_in f) (steps g (take (i + 1) es))
lines_put f s g es i d old rest rest' graph trace lt so_far more =
    more
    ∙ (ap₂ (λ (t : List ℕ) (l : List ℕ). t ++ l) so_far (ap₂ (λ (h : Shape) (fs : List Event). line_in f (step h fs (get_or es i d))) graph trace)
    ∙ (append_assoc old (flat_map (line_in f) (steps g (take i es))) (line_in f (step g (take i es) (get_or es i d)))
    ∙ ap (λ t. old ++ t) (sym (steps_more f g es i d lt))))
