-- The steps of a trace, one after another.
use Rattle.std.proofs.Common.{◌≡◌, ℕ, suc, ◌+◌, ◌<◌, true, Option, Some, map, List, [], ◌∷◌, ◌++◌, length, get_or, take, drop, filter, refl, sym, ◌∙◌, ap, subst, append_assoc, append-nil}
use Rattle.std.specs.List.{flat_map}
use Rattle.std.proofs.Math.Seq.{split_at}
use Rattle.std.proofs.lemmas.List.{take_more, take-append-drop}
use Rattle.std.proofs.lemmas.List.Elements.{filter-append}
use Rattle.std.proofs.lemmas.List.Concat.{flat_map-append}
use Rattle.ghs_graph.specs.Graph.{Shape}
use Rattle.ghs_node.specs.declared.delta.Delta.{Delta}
use Rattle.ghs_node.specs.declared.row_name.RowName.{RowName}
use Rattle.ghs_node.specs.declared.work.Work.{Work}
use Rattle.ghs_node.specs.NodeState.{NodeState}
use Rattle.ghs_node.specs.Reaction.{reaction}
use Rattle.ghs_node.specs.RowName.{row_name}
use Rattle.ghs_steps.specs.declared.change.Change.{Change}
use Rattle.ghs_steps.specs.declared.sent.Sent.{Sent}
use Rattle.peer_network.specs.declared.event.Event.{Event}
use Rattle.peer_network.specs.Network.{network_of}
use Rattle.ghs_protocol.specs.Ledger.{in_all}
use Rattle.ghs_protocol.specs.Net.{effect, happens, is_lawful, opening}
use Rattle.peer_network.specs.Events.{event_node}
use Rattle.ghs_protocol.specs.Run.{IsRun, net_after, run}
use Rattle.peer_network.proofs.lemmas.Events.{if_some}
use Rattle.ghs_protocol.proofs.lemmas.Runs.{both_some, net_after_is, run_splits}
use Rattle.ghs_core.specs.NetState.{NetState, net_of, work_at}
use Rattle.ghs_choices.specs.declared.choice.Choice.{Choice}
use Rattle.ghs_steps.specs.Changes.{changes}
use Rattle.ghs_choices.specs.Choice.{is_chosen}
use Rattle.ghs_steps.specs.Step.{chosen, step, steps, steps_behind}
use Rattle.ghs_steps.specs.Told.{Told, sent_by}
use Rattle.peer_steps.specs.Told.{event_far}
use Rattle.ghs_choices.specs.declared.form.Form.{Form}
use Rattle.ghs_steps.specs.Lines.{line_in, lines, shown}

steps_append : (g : Shape) (done es fs : List Event) → steps_behind g done (es ++ fs) ≡ steps_behind g done es ++ steps_behind g (done ++ es) fs
steps_append g done [] fs = ap (λ (d : List Event). steps_behind g d fs) (sym (append-nil done))
steps_append g done (e ∷ es) fs =
    ap (λ ss. step g done e ∷ ss)
    (steps_append g (done ++ e ∷ []) es fs
    ∙ ap (λ (d : List Event). steps_behind g (done ++ e ∷ []) es ++ steps_behind g d fs) (append_assoc done (e ∷ []) es))

text_append : (f : Form) (g : Shape) (c : Choice) (es fs : List Event) →
    lines f g (es ++ fs) c ≡ lines f g es c ++ flat_map (line_in f) (chosen c (steps_behind g es fs))
text_append f g c es fs =
    let p = λ (t : Told). is_chosen c t.moment.number (event_node t.moment.event) in
    ap (λ ss. flat_map (line_in f) (filter p ss)) (steps_append g [] es fs)
    ∙ (ap (flat_map (line_in f)) (filter-append p (steps g es) (steps_behind g es fs))
    ∙ flat_map-append (line_in f) (filter p (steps g es)) (filter p (steps_behind g es fs)))

-- one event more
pub text_more : (f : Form) (g : Shape) (c : Choice) (es : List Event) (i : ℕ) (d : Event) → i < length es →
    lines f g (take (i + 1) es) c ≡ lines f g (take i es) c ++ shown f g (take i es) (get_or es i d) c
text_more f g c es i d lt = ap (λ (fs : List Event). lines f g fs c) (take_more es i d lt) ∙ text_append f g c (take i es) (get_or es i d ∷ [])

-- one step more
pub steps_more : (f : Form) (g : Shape) (es : List Event) (i : ℕ) (d : Event) → i < length es →
    flat_map (line_in f) (steps g (take (i + 1) es)) ≡ flat_map (line_in f) (steps g (take i es)) ++ line_in f (step g (take i es) (get_or es i d))
steps_more f g es i d lt =
    let e = get_or es i d in
    ap (λ (fs : List Event). flat_map (line_in f) (steps g fs)) (take_more es i d lt)
    ∙ (ap (flat_map (line_in f)) (steps_append g [] (take i es) (e ∷ []))
    ∙ (flat_map-append (line_in f) (steps g (take i es)) (step g (take i es) e ∷ [])
    ∙ ap (λ t. flat_map (line_in f) (steps g (take i es)) ++ t) (append-nil (line_in f (step g (take i es) e)))))

-- the text of the first events is a front of the text
pub text_front : (f : Form) (g : Shape) (c : Choice) (es : List Event) (i : ℕ) →
    lines f g es c ≡ lines f g (take i es) c ++ flat_map (line_in f) (chosen c (steps_behind g (take i es) (drop i es)))
text_front f g c es i = ap (λ (fs : List Event). lines f g fs c) (sym (take-append-drop i es)) ∙ text_append f g c (take i es) (drop i es)

-- each event of a run is lawful where it stands
pub lawful_here : (g : Shape) (es : List Event) (i : ℕ) (d : Event) → IsRun (network_of g) es → i < length es →
    is_lawful (network_of g) (net_after g (take i es)) (get_or es i d) ≡ true
lawful_here g es i d is_run lt =
    let n = network_of g in
    let e = get_or es i d in
    let cut : es ≡ take i es ++ e ∷ drop (suc i) es = split_at es i d lt in
    let whole : run n (take i es ++ e ∷ drop (suc i) es) (opening n) ≡ Some is_run.0 =
    subst (λ fs. run n fs (opening n) ≡ Some is_run.0) cut is_run.1 in
    run_splits n (take i es) (e ∷ drop (suc i) es) (opening n) is_run.0 whole (λ x front rest.
    both_some (happens n x e) (λ y. run n (drop (suc i) es) y) is_run.0 rest (λ y here _.
    subst (λ w. is_lawful n w e ≡ true) (sym (net_after_is g (take i es) x front))
    (if_some (is_lawful n x e) (effect n x e) y here (λ lawful _. lawful))))

-- the line of a step, from what is at hand
pub put_is :
    (f : Form) (g : Shape) (done : List Event) (e : Event) (d : Delta) (new : NetState) (n : NodeState) (number total : ℕ)
    (far : Option ℕ) (k : Work)
    (r : RowName) (cs : List Change) (ss : List Sent) → n ≡ (net_after g done).node (event_node e) →
    reaction ((net_after g done).node (event_node e)) (work_at (net_after g done) e) ≡ Some d → new.graph ≡ g → new.trace ≡ done ++ e ∷ [] →
    number ≡ length done + 1 → total ≡ in_all (net_of new).sent → far ≡ event_far g e → k ≡ work_at (net_after g done) e →
    r ≡ row_name n (work_at (net_after g done) e) → cs ≡ changes n d → ss ≡ map (sent_by g (event_node e)) d.sends →
    line_in f (record {
      moment = record { number = number; event = e; far = far; work = k; row = r; fate = d.fate; total = total };
      changes = cs;
      sends = ss;
    }) ≡ line_in f (step g done e)
put_is f g done e d new n number total far k r cs ss is_n h same_g trace is_number is_total is_far is_k is_r is_cs is_ss =
    rw (is_ss, is_r, is_cs, is_number, is_total, is_far, is_k, is_n, trace, same_g, h) refl
