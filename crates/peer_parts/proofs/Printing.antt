-- What is printed of a seed's run.
use Rattle.std.proofs.Common.{◌≡◌, ◌∙◌, List, ◌++◌, ℕ, false, inl, inr, ap, subst}
use Rattle.std.specs.Prelude.{Result, Ok, Err, IfOk}
use Rattle.std.specs.declared.alloc.AllocError.{AllocError}
use Rattle.ghs_graph.specs.Graph.{Shape}
use Rattle.peer_network.specs.declared.event.Event.{Event}
use Rattle.peer_machine.specs.Net.{Net}
use Rattle.peer_machine.specs.Rules.{Rules}
use Rattle.peer_report.specs.Runs.{IsRan, IsRunThatEnds}
use Rattle.peer_report.specs.declared.run.RunEnd.{RunEnd}
use Rattle.peer_report.specs.declared.run.RunEnd.TheVariants.{Ended, Stopped}
use Rattle.peer_runs.specs.WorldState.{WorldState}
use Rattle.peer_sweep.specs.declared.setup.Setup.{Setup}
use Rattle.ghs_choices.specs.declared.form.Form.{Form}
use Rattle.peer_words.specs.Words.{Words}
use Rattle.peer_parts.specs.declared.columns.Column.{Column}
use Rattle.peer_parts.specs.declared.rows.RowCount.{RowCount}
use Rattle.peer_parts.specs.Kept.{AreNodeParts, AreRowParts, RowsState}
use Rattle.peer_parts.specs.Lines.{node_lines, row_lines}
use Rattle.peer_parts.specs.Parts.{node_parts, row_parts}
use Rattle.peer_parts.specs.Seeded.{IsPrinted}
use Rattle.peer_parts.proofs.Playing.{nodes_listed}

module _ {S M : Type 0} (r : Rules S M) (words : Words S M) (has_ended : Shape → Net S M → Type 0) where
  one_printed : (text : List Event → List ℕ) (g : Shape) (setup : Setup) (seed : ℕ) (es : List Event) (end : RunEnd) (lines : List ℕ) →
      IsRunThatEnds r has_ended setup.schedule_kind seed setup.wake setup.turns g es end → lines ≡ text es →
      IsPrinted r words has_ended text g setup seed lines
  one_printed text g setup seed es Ended lines run is = record { events = es; run = inl run; printed = is }
  one_printed text g setup seed es Stopped lines run is = record { events = es; run = inr run; printed = is }

  -- the lines of the run that the seed's schedule has made of a copy of the graph stand behind a text
  run_printed : (text : List Event → List ℕ) (g copy : Shape) (setup : Setup) (seed : ℕ) (es : List Event) (end : RunEnd) (lines old new : List ℕ)
      (x : Result (Unit {0}) AllocError) → copy ≡ g →
      IsRunThatEnds r has_ended setup.schedule_kind seed setup.wake setup.turns copy es end →
      lines ≡ text es →
      IfOk x (λ _. new ≡ old ++ lines) →
      IfOk x (λ _. (more : List ℕ) × IsPrinted r words has_ended text g setup seed more × (new ≡ old ++ more))
  run_printed text g copy setup seed es end lines old new (Ok u) same run is put = (
    lines,
    one_printed text g setup seed es end lines
        (subst (λ (s : Shape). IsRunThatEnds r has_ended setup.schedule_kind seed setup.wake setup.turns s es end) same run) is,
    put,
  )
  run_printed text g copy setup seed es end lines old new (Err e) same run is put = tt

  module _ (form : Form) (front : List ℕ) (columns : List Column) (g copy : Shape) (setup : Setup) (seed : ℕ) (w : WorldState) (end : RunEnd)
      (same : copy ≡ g) (ran : IsRan r has_ended setup.schedule_kind seed setup.wake setup.turns copy w end) where
    -- the lines of its nodes
    pub nodes_printed : (parts all : List (List ℕ)) (old new : List ℕ) (x : Result (Unit {0}) AllocError) →
        AreNodeParts r words w.net.graph w.net.trace parts →
        all ≡ parts →
        IfOk x (λ _. new ≡ old ++ node_lines form front seed columns all) →
        IfOk x
        (λ _. (more : List ℕ)
        × IsPrinted r words has_ended (λ es. node_lines form front seed columns (node_parts r words g es)) g setup seed more
        × (new ≡ old ++ more))
    nodes_printed parts all old new x are is put =
        let listed : all ≡ node_parts r words g w.net.trace =
        is ∙ nodes_listed r words w.net.graph w.net.trace parts are
        ∙ ap (λ (h : Shape). node_parts r words h w.net.trace) (ran.0 ∙ same) in
        run_printed (λ es. node_lines form front seed columns (node_parts r words g es)) g copy setup seed w.net.trace end
        (node_lines form front seed columns all) old new x same ran.1 (ap (λ (l : List (List ℕ)). node_lines form front seed columns l) listed) put

    -- and those of its rows
    pub rows_printed : (s : RowsState) (rows : List RowCount) (old new : List ℕ) (x : Result (Unit {0}) AllocError) →
        AreRowParts r words w.net.graph w.net.trace s →
        rows ≡ s.list →
        s.lost ≡ false →
        IfOk x (λ _. new ≡ old ++ row_lines form front seed columns rows) →
        IfOk x
        (λ _. (more : List ℕ)
        × IsPrinted r words has_ended (λ es. row_lines form front seed columns (row_parts r words g es)) g setup seed more
        × (new ≡ old ++ more))
    rows_printed s rows old new x are is kept put =
        let listed : rows ≡ row_parts r words g w.net.trace =
        is ∙ are kept ∙ ap (λ (h : Shape). row_parts r words h w.net.trace) (ran.0 ∙ same) in
        run_printed (λ es. row_lines form front seed columns (row_parts r words g es)) g copy setup seed w.net.trace end
        (row_lines form front seed columns rows) old new x same ran.1 (ap (λ (l : List RowCount). row_lines form front seed columns l) listed) put
