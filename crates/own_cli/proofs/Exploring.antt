-- All runs of a small network by a book.
use Rattle.std.proofs.Common.{◌≡◌, ℕ, ◌++◌, List, Option, Vec, Global, ap₂, refl, subst, sym, ◌∙◌}
use Rattle.ghs_choices.specs.declared.check.Check.{Check}
use Rattle.ghs_commands.specs.declared.exploring.ExploreOptions.{ExploreOptions}
use Rattle.ghs_graph.specs.Graph.{Shape}
use Rattle.own_book.specs.Entry.{Entry}
use Rattle.own_runs.specs.Mark.{mark_of}
use Rattle.own_runs.specs.declared.explore.BookEnds.{BookEnds}
use Rattle.own_runs.specs.declared.explore.BookExplored.{BookExplored}
use Rattle.own_runs.specs.declared.explore.BookExplored.TheVariants as told
use Rattle.own_runs.specs.declared.explore.Failure.{Failure}
use Rattle.peer_network.specs.declared.event.Event.{Event}
use Rattle.peer_trace.specs.Text.{own_text}
use Rattle.own_cli.specs.Explore.{IsFoundOwn, IsOwnExploration, IsToldAs, IsToldBy, leads_there, never_ends}
use Rattle.own_cli.specs.declared.run.OwnEnd.{OwnEnd}
use Rattle.own_cli.specs.declared.run.OwnTold.{OwnTold}
use Rattle.own_cli.specs.declared.run.OwnEnd.TheVariants as end

module _ (o : ExploreOptions) (check : Option Check) (g : Shape) (book : List Entry) (x : BookExplored) (is : IsToldBy o check g book x) where
  printed_so : (y : BookExplored) (e : OwnEnd) (text : List ℕ) → x ≡ y → IsToldAs o.finding book y e text → IsOwnExploration o check g book e text
  printed_so y e text same printed = record {
    told = x;
    is = is;
    printed = subst (λ (z : BookExplored). IsToldAs o.finding book z e text) (sym same) printed;
  }

  -- the questions that the book lacks
  pub lacking_printed : (questions : Vec ℕ Global) → x ≡ told.Lacks questions → IsOwnExploration o check g book end.Asks questions.items
  lacking_printed questions same = printed_so (told.Lacks questions) end.Asks questions.items same (refl, refl)

  -- what is said of answers, and the events of a run that leads there
  pub failure_printed : (f : Failure) (text : List ℕ) → x ≡ told.Fails f →
      text ≡ f.text.items ++ leads_there ++ own_text (mark_of book) f.events.items →
      IsOwnExploration o check g book end.Fails text
  failure_printed f text same printed = printed_so (told.Fails f) end.Fails text same (refl, printed)

  -- what is said of a run that never ends, and its events
  pub endless_printed : (events : Vec Event Global) (f : Failure) (printed : OwnTold) → x ≡ told.Endless events → f.events ≡ events →
      f.text.items ≡ never_ends → printed.end ≡ end.Misses →
      printed.text.items ≡ f.text.items ++ leads_there ++ own_text (mark_of book) f.events.items →
      IsOwnExploration o check g book printed.end printed.text.items
  endless_printed events f printed same is_events is_text ends is =
      subst (λ (e : OwnEnd). IsOwnExploration o check g book e printed.text.items) (sym ends)
      (printed_so (told.Endless events) end.Misses printed.text.items same
      (refl, is ∙ ap₂ (λ t (es : Vec Event Global). t ++ leads_there ++ own_text (mark_of book) es.items) is_text is_events))

  -- what is said of an end, and the events of a run that leads there
  pub miss_printed : (f : Failure) (printed : OwnTold) → x ≡ told.Misses f → printed.end ≡ end.Misses →
      printed.text.items ≡ f.text.items ++ leads_there ++ own_text (mark_of book) f.events.items →
      IsOwnExploration o check g book printed.end printed.text.items
  miss_printed f printed same ends is =
      subst (λ (e : OwnEnd). IsOwnExploration o check g book e printed.text.items) (sym ends)
      (printed_so (told.Misses f) end.Misses printed.text.items same (refl, is))

  -- what was found of all runs
  pub found_printed : (found : BookEnds) (text : List ℕ) → x ≡ told.Whole found → IsFoundOwn o.finding book found text →
      IsOwnExploration o check g book end.Ended text
  found_printed found text same printed = printed_so (told.Whole found) end.Ended text same (refl, printed)
