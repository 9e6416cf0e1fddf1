-- What the judge carries from event to event.
use Rattle.std.proofs.Common.{◌≡◌, ◌+◌, ◌-◌, ◌<◌, ◌∙◌, ℕ, Bool, true, false, Some, None, List, [], ◌∷◌, ◌++◌, length, get_or, take, drop, refl, sym, ap, ap₂, append_assoc, append-nil, add-one, drop-cons}
use Rattle.std.specs.Prelude.{slice_get, slice_set}
use Rattle.std.proofs.lemmas.List.{take_more}
use Rattle.std.proofs.lemmas.Option.{get_or_from_slice_get, slice_get-get_or, slice_get_read}
use Rattle.ghs_graph.specs.Graph.{Shape}
use Rattle.own_book.specs.Entry.{Entry}
use Rattle.own_judge.specs.Judging.{GoesOn, HasDecided, HasWeighed, IsTold, carried, is_open}
use Rattle.own_judge.specs.Look.{look_at}
use Rattle.own_judge.specs.Report.{amiss_text, difference_text, event_text, row_text}
use Rattle.own_judge.specs.Verdict.{Asks, Verdict, line, looks_behind, own_after, own_at, question_line, questions_in}
use Rattle.own_judge.specs.declared.end.End.{End}
use Rattle.own_judge.specs.declared.look.Look.{Look}
use Rattle.own_judge.specs.declared.look.Look.TheVariants as look
use Rattle.own_judge.specs.declared.look.Own.{Own}
use Rattle.own_judge.specs.declared.look.Own.TheVariants as own
use Rattle.peer_network.specs.declared.event.Event.{Event}
use Rattle.peer_network.specs.Events.{event_node}

-- behind an open question nothing decides
asked_more : (qs : List ℕ) (k : ℕ) (l : Look) (ls : List Look) →
    carried true qs k (l ∷ ls) ≡ carried true (qs ++ question_line l) (k + 1) ls
asked_more qs k (look.Open q) ls = ap Asks (sym (append_assoc qs (line q) (questions_in ls)))
asked_more qs k (look.Agrees s) ls = ap (λ t. Asks (t ++ questions_in ls)) (sym (append-nil qs))
asked_more qs k look.Silent ls = ap (λ t. Asks (t ++ questions_in ls)) (sym (append-nil qs))
asked_more qs k (look.Fails a) ls = ap (λ t. Asks (t ++ questions_in ls)) (sym (append-nil qs))
asked_more qs k (look.Differs d) ls = ap (λ t. Asks (t ++ questions_in ls)) (sym (append-nil qs))

-- an event that decides nothing
undecided_more : (g : Shape) (done : List Event) (e : Event) (old new : List ℕ) (k : ℕ) (l : Look) (ls : List Look) →
    HasDecided g done e l old new None → carried false [] k (l ∷ ls) ≡ carried (is_open l) (question_line l) (k + 1) ls
undecided_more g done e old new k (look.Open q) ls h = refl
undecided_more g done e old new k (look.Agrees s) ls h = refl
undecided_more g done e old new k look.Silent ls h = refl
undecided_more g done e old new k (look.Fails a) ls h = let no = h.0 in cc
undecided_more g done e old new k (look.Differs d) ls h = let no = h.0 in cc

-- an event that decides
ended_here : (g : Shape) (es : List Event) (i : ℕ) (e : Event) (l : Look) (ls : List Look) (old new : List ℕ) (ends : End) → old ≡ [] →
    slice_get es i ≡ Some e → HasDecided g (take i es) e l old new (Some ends) → IsTold g es (carried false old i (l ∷ ls)) ends new
ended_here g es i e (look.Fails a) ls old new ends none at h = let is = h.0 in record {
  ends = cc;
  printed = rw at (h.1 ∙ ap (λ (t : List ℕ). t ++ event_text g (take i es) e ++ amiss_text a) none);
}
ended_here g es i e (look.Differs d) ls old new ends none at h = let is = h.0 in record {
  ends = cc;
  printed = rw at (h.1 ∙ ap (λ (t : List ℕ). t ++ event_text g (take i es) e ++ row_text g (take i es) e ++ difference_text g (event_node e) d) none);
}
ended_here g es i e (look.Agrees s) ls old new ends none at h = let no = h.0 in cc
ended_here g es i e (look.Open q) ls old new ends none at h = let no = h.0 in cc
ended_here g es i e look.Silent ls old new ends none at h = let no = h.0 in cc

-- the next event, and what comes of it
pub looks_more : (book : List Entry) (kinds : List ℕ) (g : Shape) (es : List Event) (owns : List Own) (i : ℕ) (d : Event) → i < length es →
    let e = get_or es i d in
    let l = look_at book kinds g (take i es) e (own_at owns (event_node e)) in
    looks_behind book kinds g (take i es) owns (drop i es)
    ≡ l ∷ looks_behind book kinds g (take (i + 1) es) (slice_set owns (event_node e - 1) (own_after l)) (drop (i + 1) es)
looks_more book kinds g es owns i d lt =
    let e = get_or es i d in
    let l = look_at book kinds g (take i es) e (own_at owns (event_node e)) in
    let more = slice_set owns (event_node e - 1) (own_after l) in
    let cut : drop i es ≡ e ∷ drop (i + 1) es = rw add-one (drop-cons es i d lt) in
    ap (λ (fs : List Event). looks_behind book kinds g (take i es) owns fs) cut
    ∙ ap (λ (fs : List Event). l ∷ looks_behind book kinds g fs more (drop (i + 1) es)) (sym (take_more es i d lt))

-- what has been told where an event ends the judging
pub ended : (book : List Entry) (kinds : List ℕ) (g h : Shape) (es done : List Event) (owns : List Own) (i : ℕ) (d : Event) (own : Own)
    (v : Verdict) (asked asked' : Bool) (old new : List ℕ) (l : Look) (ends : End) → h ≡ g → done ≡ take i es → i < length es →
    own ≡ own_at owns (event_node (get_or es i d)) → l ≡ look_at book kinds h done (get_or es i d) own →
    v ≡ carried asked old i (looks_behind book kinds g (take i es) owns (drop i es)) → (asked ≡ false → old ≡ []) →
    HasWeighed h done (get_or es i d) l asked old asked' new (Some ends) → IsTold g es v ends new
ended book kinds g h es done owns i d own v asked asked' old new l ends same_g same_done lt is_own is_l same none decided =
    let e = get_or es i d in
    let here : l ≡ look_at book kinds g (take i es) e (own_at owns (event_node e)) = rw (is_l, same_g, same_done, is_own) refl in
    let ls = looks_behind book kinds g (take (i + 1) es) (slice_set owns (event_node e - 1) (own_after l)) (drop (i + 1) es) in
    let more : looks_behind book kinds g (take i es) owns (drop i es) ≡ l ∷ ls = rw here (looks_more book kinds g es owns i d lt) in
    let all : v ≡ carried false old i (l ∷ ls) = same ∙ ap₂ (λ (b : Bool) (m : List Look). carried b old i m) decided.0 more in
    let at : slice_get es i ≡ Some e = slice_get-get_or es i d lt in
    rw all (ended_here g es i e l ls old new ends (none decided.0) at (rw (sym same_g, sym same_done) decided.1))

-- what is carried where the judging goes on
pub went_on : (book : List Entry) (kinds : List ℕ) (g h : Shape) (es done : List Event) (owns : List Own) (i : ℕ) (d : Event) (own : Own)
    (v : Verdict) (asked asked' : Bool) (old new : List ℕ) (l : Look) → h ≡ g → done ≡ take i es → i < length es →
    own ≡ own_at owns (event_node (get_or es i d)) → l ≡ look_at book kinds h done (get_or es i d) own →
    v ≡ carried asked old i (looks_behind book kinds g (take i es) owns (drop i es)) → GoesOn l asked old asked' new →
    v ≡ carried asked' new (i + 1)
    (looks_behind book kinds g (take (i + 1) es) (slice_set owns (event_node (get_or es i d) - 1) (own_after l)) (drop (i + 1) es))
went_on book kinds g h es done owns i d own v asked asked' old new l same_g same_done lt is_own is_l same on =
    let e = get_or es i d in
    let here : l ≡ look_at book kinds g (take i es) e (own_at owns (event_node e)) = rw (is_l, same_g, same_done, is_own) refl in
    let ls = looks_behind book kinds g (take (i + 1) es) (slice_set owns (event_node e - 1) (own_after l)) (drop (i + 1) es) in
    let more : looks_behind book kinds g (take i es) owns (drop i es) ≡ l ∷ ls = rw here (looks_more book kinds g es owns i d lt) in
    same ∙ ap (carried asked old i) more ∙ on.on i ls

-- what is known of a node, read from the list
pub own_is : (owns : List Own) (u v : ℕ) (x : Own) → u ≡ v → u - 1 < length owns → x ≡ get_or owns (u - 1) x → x ≡ own_at owns v
own_is owns u v x same lt is =
    let at : slice_get owns (u - 1) ≡ Some x = slice_get_read owns (length owns) (u - 1) x refl lt is in
    rw (sym same) (sym (get_or_from_slice_get owns (u - 1) x own.Unopened at))
