-- Runs of many seeds by a book.
use Rattle.std.proofs.Common.{◌≡◌, ℕ, ◌+◌, ◌++◌, List, [], ◌∷◌, Option, Some, None, length, refl, subst, sym}
use Rattle.std.specs.Prelude.{IfNone, IfSome}
use Rattle.std.specs.List.{All}
use Rattle.ghs_choices.specs.declared.check.Check.{Check}
use Rattle.ghs_graph.specs.Graph.{Shape}
use Rattle.own_book.specs.Entry.{Entry}
use Rattle.own_runs.specs.declared.sweep.BookFigures.{BookFigures}
use Rattle.peer_sweep.proofs.lemmas.Room.{runs_leave_room}
use Rattle.peer_sweep.specs.Figures.{LeavesRoom}
use Rattle.peer_sweep.specs.Sweep.{AreRuns, NextRun}
use Rattle.peer_sweep.specs.declared.figures.Figures.{Figures}
use Rattle.peer_sweep.specs.declared.setup.Setup.{Setup}
use Rattle.own_cli.specs.Sweep.{IsQuiet, IsSeedOf, IsSoundRun, IsTroubleOf, IsTroubledAt}
use Rattle.own_cli.specs.declared.run.OwnTold.{OwnTold}

-- a sound run leaves room for the sums of many
sound_leaves_room : (book : List Entry) (check : Option Check) (g : Shape) (setup : Setup) (seed : ℕ) (f : Figures) →
    IsSoundRun book check g setup seed f → LeavesRoom f
sound_leaves_room book check g setup seed f sound =
    let room = sound.run.figures.counts.room in
    subst LeavesRoom (sym sound.same) (record { weight = room.weight; bits = room.bits })

pub sound_are_roomy : (book : List Entry) (check : Option Check) (g : Shape) (setup : Setup) (first : ℕ) (runs : List Figures) →
    AreRuns (IsSoundRun book check) g setup first runs →
    All LeavesRoom runs
sound_are_roomy book check = runs_leave_room (IsSoundRun book check) (sound_leaves_room book check)

module _ (book : List Entry) (check : Option Check) (g : Shape) (setup : Setup) (first : ℕ) (runs : List Figures) (ran : BookFigures)
    (seed : ℕ) where
  -- the run of the next seed isn't sound
  pub next_troubled : AreRuns (IsSoundRun book check) g setup first runs →
      seed ≡ first + length runs →
      IsSeedOf book check g setup seed ran →
      (found : Option OwnTold) (told : OwnTold) →
      found ≡ Some told →
      IfSome found (λ told. IsTroubleOf seed ran told.end told.text.items) →
      IsTroubledAt book check g setup first runs told.end told.text.items
  next_troubled before next run found told is trouble =
      let printed : IsTroubleOf seed ran told.end told.text.items =
      subst (λ (o : Option OwnTold). IfSome o (λ t. IsTroubleOf seed ran t.end t.text.items)) is trouble in
      record {
        before = before;
        ran = ran;
        run = subst (λ (s : ℕ). IsSeedOf book check g setup s ran) next run;
        printed = subst (λ (s : ℕ). IsTroubleOf s ran told.end told.text.items) next printed;
      }

  -- it is, and stands behind those before it
  pub next_sound : AreRuns (IsSoundRun book check) g setup first runs →
      seed ≡ first + length runs →
      IsSeedOf book check g setup seed ran →
      (found : Option OwnTold) →
      found ≡ None →
      IfNone found (IsQuiet ran) →
      (new : List Figures) →
      new ≡ runs ++ ran.figures ∷ [] →
      AreRuns (IsSoundRun book check) g setup first new
  next_sound before next run found is quiet new behind =
      let none : IsQuiet ran = subst (λ (o : Option OwnTold). IfNone o (IsQuiet ran)) is quiet in
      let sound : IsSoundRun book check g setup (first + length runs) ran.figures = record {
        ran = ran;
        run = subst (λ (s : ℕ). IsSeedOf book check g setup s ran) next run;
        quiet = none;
        same = refl;
      } in
      subst (λ (l : List Figures). AreRuns (IsSoundRun book check) g setup first l) (sym behind) (NextRun runs ran.figures before sound)
