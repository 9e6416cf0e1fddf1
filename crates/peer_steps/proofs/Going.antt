-- What goes out while the events of a run are gone over.
use Rattle.std.proofs.Common.{◌≡◌, ℕ, ◌+◌, ◌<◌, List, [], ◌∷◌, ◌++◌, length, get_or, take, drop, Option, sym, ◌∙◌, ap, append_assoc, append-nil}
use Rattle.std.proofs.lemmas.List.{take_more, take-append-drop}
use Rattle.ghs_graph.specs.Graph.{Shape}
use Rattle.peer_network.specs.declared.event.Event.{Event}
use Rattle.peer_network.specs.Network.{network_of}
use Rattle.ghs_report.specs.declared.portions.WriteFault.{WriteFault}
use Rattle.ghs_report.specs.Written.{IsFront, IsOut}
use Rattle.ghs_report.proofs.lemmas.Gone.{front_longer, out_more}
use Rattle.ghs_choices.specs.declared.choice.Choice.{Choice}
use Rattle.ghs_choices.specs.declared.form.Form.{Form}
use Rattle.peer_machine.specs.Run.{IsRun}
use Rattle.peer_net.specs.NetState.{NetState, IsLawful}
use Rattle.peer_machine.specs.Rules.{Rules}
use Rattle.peer_words.specs.Words.{Words}
use Rattle.peer_steps.specs.Lines.{all_lines, line_by, lines, shown, told_behind}
use Rattle.peer_steps.proofs.Lawful.{lawful_here}

-- of events that come one after another, by what is told of each
module _ (tells : List Event → Event → List ℕ) where
  told_append : (done es fs : List Event) → told_behind tells done (es ++ fs) ≡ told_behind tells done es ++ told_behind tells (done ++ es) fs
  told_append done [] fs = ap (λ (d : List Event). told_behind tells d fs) (sym (append-nil done))
  told_append done (e ∷ es) fs =
      ap (λ t. tells done e ++ t)
      (told_append (done ++ e ∷ []) es fs
      ∙ ap (λ (d : List Event). told_behind tells (done ++ e ∷ []) es ++ told_behind tells d fs) (append_assoc done (e ∷ []) es))
      ∙ sym (append_assoc (tells done e) (told_behind tells (done ++ e ∷ []) es) (told_behind tells (done ++ e ∷ es) fs))

  -- one event more
  told_more : (es : List Event) (i : ℕ) (d : Event) → i < length es →
      told_behind tells [] (take (i + 1) es) ≡ told_behind tells [] (take i es) ++ tells (take i es) (get_or es i d)
  told_more es i d lt =
      ap (told_behind tells []) (take_more es i d lt)
      ∙ (told_append [] (take i es) (get_or es i d ∷ [])
      ∙ ap (λ t. told_behind tells [] (take i es) ++ t) (append-nil (tells (take i es) (get_or es i d))))

  -- the text of the first events is a front of the text
  told_front : (es : List Event) (i : ℕ) →
      told_behind tells [] es ≡ told_behind tells [] (take i es) ++ told_behind tells (take i es) (drop i es)
  told_front es i = ap (told_behind tells []) (sym (take-append-drop i es)) ∙ told_append [] (take i es) (drop i es)

pub next_lawful : {S M : Type 0} (r : Rules S M) (s : NetState) (g : Shape) (es : List Event) (i : ℕ) (d : Event) → s.graph ≡ g →
    s.trace ≡ take i es →
    IsRun r (network_of g) es → i < length es →
    IsLawful r s (get_or es i d)
next_lawful r s g es i d graph trace is_run lt = rw (graph, trace) (lawful_here r g es i d is_run lt)

-- the trace has grown by the next event
pub grown : (done now es : List Event) (i : ℕ) (d : Event) → done ≡ take i es → i < length es → now ≡ done ++ get_or es i d ∷ [] →
    now ≡ take (i + 1) es
grown done now es i d is lt more = more ∙ (ap (λ (fs : List Event). fs ++ get_or es i d ∷ []) is ∙ sym (take_more es i d lt))

pub out_next : {S M : Type 0} (r : Rules S M) (words : Words S M) (f : Form) (g : Shape) (c : Choice) (old now : Option (List ℕ))
    (es : List Event) (i gone : ℕ) (d : Event) (s : NetState)
    (rest rest' : List ℕ) → s.graph ≡ g → s.trace ≡ take i es → i < length es → IsOut old now (lines r words f g c (take i es)) gone rest →
    rest' ≡ rest ++ shown r words f s.graph c s.trace (get_or es i d) →
    IsOut old now (lines r words f g c (take (i + 1) es)) gone rest'
out_next r words f g c old now es i gone d s rest rest' graph trace lt out more =
    rw (told_more (shown r words f g c) es i d lt, more, graph, trace)
    (out_more old now (lines r words f g c (take i es)) rest (shown r words f g c (take i es) (get_or es i d)) gone out)

pub front_of_lines : {S M : Type 0} (r : Rules S M) (words : Words S M) (old now : Option (List ℕ)) (f : Form) (g : Shape) (c : Choice)
    (es : List Event) (i : ℕ) (fault : WriteFault) →
    IsFront old now (lines r words f g c (take i es)) fault →
    IsFront old now (lines r words f g c es) fault
front_of_lines r words old now f g c es i fault front =
    rw (told_front (shown r words f g c) es i)
    (front_longer old now (lines r words f g c (take i es)) (told_behind (shown r words f g c) (take i es) (drop i es)) fault front)

-- what one event appends, where all are told
pub lines_put : {S M : Type 0} (r : Rules S M) (words : Words S M) (f : Form) (s : NetState) (g : Shape) (es : List Event) (i : ℕ) (d : Event)
    (old so_far now : List ℕ) → s.graph ≡ g →
    s.trace ≡ take i es → i < length es → so_far ≡ old ++ all_lines r words f g (take i es) →
    now ≡ so_far ++ line_by r words f s.graph s.trace (get_or es i d) →
    now ≡ old ++ all_lines r words f g (take (i + 1) es)
lines_put r words f s g es i d old so_far now graph trace lt so more =
    rw (more, so, graph, trace, told_more (line_by r words f g) es i d lt)
    (append_assoc old (all_lines r words f g (take i es)) (line_by r words f g (take i es) (get_or es i d)))
