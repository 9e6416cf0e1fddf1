-- What the verbs of the program come to, by each protocol.
use Rattle.std.specs.Prelude.{ℕ, Bool, List}
use Rattle.ghs_graph.specs.declared.key.Key.{Key}
use Rattle.ghs_graph.specs.Graph.{Shape}
use Rattle.ghs_graph.specs.Links.{IsTree}
use Rattle.peer_machine.specs.Net.{Net}
use Rattle.peer_machine.specs.Rules.{Rules}
use Rattle.peer_network.specs.declared.event.Event.{Event}
use Rattle.peer_network.specs.declared.wake_set.WakeSet.{WakeSet}
use Rattle.peer_trace.specs.declared.protocol.Protocol.{Protocol}
use Rattle.peer_trace.specs.declared.protocol.Protocol.TheVariants as protocol
use Rattle.peer_words.specs.Words.{Words}
use Rattle.boruvka.specs.Ended.{HasEnded, IsForest, marks_branch}
use Rattle.boruvka.specs.Words.{words}
use Rattle.boruvka_node.specs.Boruvka.{boruvka}
use Rattle.boruvka_protocol.specs.Bound.{bound_of}
use Rattle.boruvka.specs.Looks.{looks}
use Rattle.echo.specs.Echo as wave
use Rattle.echo.specs.Ended as wave_end
use Rattle.echo.specs.Looks as wave_looks
use Rattle.echo.specs.Words as wave_words
use Rattle.gather.specs.Looks as gather_looks
use Rattle.gather.specs.Words as gather_words
use Rattle.gather_node.specs.Gather.{gather}
use Rattle.gather_protocol.specs.Bound as gather_bound
use Rattle.gather_protocol.specs.Laws as gather_laws
use Rattle.peer_view.specs.PairPage.{IsPairPage}
use Rattle.peer_view.specs.RunPage.{IsRunPage}
use Rattle.ghs_commands.specs.declared.exploring.ExploreOptions.{ExploreOptions}
use Rattle.ghs_commands.specs.declared.job.RunOptions.{RunOptions}
use Rattle.ghs_commands.specs.declared.job.StepsOptions.{StepsOptions}
use Rattle.ghs_commands.specs.declared.job.StoredViewOptions.{StoredViewOptions}
use Rattle.ghs_commands.specs.declared.job.ViewOptions.{ViewOptions}
use Rattle.ghs_sched.specs.Replays as ghs
use Rattle.peer_runs.specs.Replays.{IsFirstUnlawful}
use Rattle.ghs_answers.specs.declared.fault.ServeFault.{ServeFault}
use Rattle.ghs_answers.specs.declared.fault.ServeFault.TheVariants as serve
use Rattle.ghs_cli.specs.AnyExplore as any_explore
use Rattle.ghs_answers.specs.Stepping.{AreSteps}
use Rattle.ghs_answers.specs.StoredView.{HasNoStoredView, IsStoredView}
use Rattle.ghs_cli.specs.AnyRun as any_run
use Rattle.ghs_cli.specs.AnyView as any_view
use Rattle.ghs_cli.specs.Exploring as exploring
use Rattle.ghs_cli.specs.Running as running
use Rattle.ghs_cli.specs.Viewing as viewing

-- what each verb comes to: what its output is, of a graph, or of a graph and the events of a stored run, and why there is none
pub record Verbs : Type 1 where
  -- a run: what goes out where it ends, and where its turns are used (true); and that it has turns for all the events that it may have
  pub runs : RunOptions → Shape → Bool → List ℕ → Type 0
  pub stops : RunOptions → Shape → ServeFault → Type 0
  pub is_bounded : RunOptions → Shape → Type 0
  -- a stored run that is played again; its first event that isn't lawful; and its steps
  pub replays : WakeSet → Shape → List Event → List ℕ → Type 0
  pub cant_replay : WakeSet → Shape → List Event → ServeFault → Type 0
  pub is_unlawful : WakeSet → Shape → List Event → ℕ → Type 0
  pub tells : StepsOptions → Shape → List Event → List ℕ → Type 0
  -- the page of a run, and that of a stored one
  pub views : ViewOptions → Shape → List ℕ → Type 0
  pub cant_view : ViewOptions → Shape → ServeFault → Type 0
  pub views_stored : StoredViewOptions → Shape → List Event → List ℕ → Type 0
  pub cant_view_stored : StoredViewOptions → Shape → List Event → ServeFault → Type 0
  -- an exploration
  pub explores : ExploreOptions → Shape → List ℕ → Type 0
  pub cant_explore : ExploreOptions → Shape → ServeFault → Type 0

-- by GHS
abbrev pub ghs_verbs : Verbs
ghs_verbs = record {
  runs = running.IsRan;
  stops = running.StopsRun;
  is_bounded = running.IsBounded;
  replays = running.IsReplayed;
  cant_replay = running.IsRunCause;
  is_unlawful = λ wake g. ghs.IsFirstUnlawful g wake;
  tells = running.AreSteps;
  views = viewing.IsView;
  cant_view = viewing.HasNoView;
  views_stored = viewing.IsStoredView;
  cant_view_stored = viewing.HasNoStoredView;
  explores = λ o. exploring.IsFound o.finding o;
  cant_explore = exploring.FindsNothing;
}

-- by any protocol: its rules, when a run has ended, its words, the bound on messages, the marks of links, what marked links are at the
-- end, and the protocol as heads of stored runs name it; and what pages are
module _ {S M : Type 0} (r : Rules S M) (has_ended : Shape → Net S M → Type 0) (words : Words S M) (bound : Shape → ℕ)
    (is_branch : S → ℕ → Bool) (found : Shape → List Key → Type 0) (p : Protocol)
    (is_page : Shape → List Event → ℕ → ℕ → List ℕ → Type 0) (is_pair_page : Shape → List Event → List Event → ℕ → ℕ → List ℕ → Type 0) where
  abbrev pub any_verbs : Verbs
  any_verbs = record {
    runs = any_run.IsRan r has_ended words.kind bound is_branch found p;
    stops = any_run.StopsRun r has_ended;
    is_bounded = any_run.HasTurnsFor bound;
    replays = any_run.IsReplayed r has_ended words.kind bound is_branch found;
    cant_replay = any_run.IsRunCause r has_ended;
    is_unlawful = λ wake g. IsFirstUnlawful r g wake;
    tells = AreSteps r words;
    views = any_view.IsView r is_page has_ended is_pair_page;
    cant_view = any_view.HasNoView r has_ended;
    views_stored = IsStoredView r is_page;
    cant_view_stored = HasNoStoredView r;
    explores = λ o. any_explore.IsFound r words.kind bound p o.finding o;
    cant_explore = any_explore.FindsNothing r;
  }

-- a run that has turns for all its events isn't stopped at its turns
abbrev pub NeverStops : Verbs → Type 0
NeverStops v = (o : RunOptions) (g : Shape) → v.stops o g serve.TurnLimit → v.is_bounded o g → ⊥

-- a further protocol has a line here
abbrev pub verbs_of : Protocol → Verbs
verbs_of protocol.Ghs = ghs_verbs
verbs_of protocol.Boruvka =
    any_verbs boruvka HasEnded words bound_of marks_branch IsForest protocol.Boruvka
    (IsRunPage boruvka words looks bound_of) (IsPairPage boruvka words looks bound_of)
verbs_of protocol.Echo =
    any_verbs wave.echo wave_end.HasEnded wave_words.words wave.bound_of wave_end.marks_parent wave_end.IsForest protocol.Echo
    (IsRunPage wave.echo wave_words.words wave_looks.looks wave.bound_of) (IsPairPage wave.echo wave_words.words wave_looks.looks wave.bound_of)
verbs_of protocol.Gather =
    any_verbs gather gather_laws.HasEnded gather_words.words gather_bound.bound_of gather_laws.marks_branch (λ g ks. IsTree g.keys ks)
    protocol.Gather
    (IsRunPage gather gather_words.words gather_looks.looks gather_bound.bound_of)
    (IsPairPage gather gather_words.words gather_looks.looks gather_bound.bound_of)
