-- What goes out of the pages of runs by a book is of those runs.
use Rattle.std.proofs.Common.{◌≡◌, ℕ, ◌<◌, length, List, Option, None, Some, Result, Ok, Err, inl, inr, refl, subst, sym}
use Rattle.std.specs.Prelude.{IfErr, IfOk}
use Rattle.ghs_graph.specs.Graph.{Shape}
use Rattle.ghs_report.specs.Writing.{HasWritten}
use Rattle.own_book.specs.Entry.{Entry}
use Rattle.own_rules.specs.declared.protocol.TheConstants.{RUNNING}
use Rattle.own_rules.specs.declared.run.BookRun.{BookRun}
use Rattle.own_view.specs.Page.{IsPageBy, IsPairBy}
use Rattle.peer_network.specs.declared.event.Event.{Event}
use Rattle.peer_page.specs.Limits.{IsPairTooLarge, IsTooLarge}
use Rattle.ghs_commands.specs.declared.job.StoredViewOptions.{StoredViewOptions}
use Rattle.ghs_commands.specs.declared.job.ViewOptions.{ViewOptions}
use Rattle.own_cli.specs.View.{HasNoOwnView, HasStoredOwnView, HasViewedOwn, IsLargeBy, IsOneView, IsOwnView, IsPairTrouble, IsShownRun, IsSound}
use Rattle.own_cli.specs.View.{IsStoredOwnView, IsTrouble, IsTwoView, IsViewBy}
use Rattle.own_cli.specs.declared.run.OwnEnd.{OwnEnd}
use Rattle.own_cli.specs.declared.run.OwnEnd.TheVariants.{Ended}
use Rattle.own_cli.specs.declared.run.OwnTold.{OwnTold}
use Rattle.ghs_answers.specs.declared.fault.ServeFault.{ServeFault}
use Rattle.ghs_answers.specs.declared.fault.ServeFault.TheVariants as serve

-- a page doesn't change with what names its graph and its events
module _ (book : List Entry) (from to : ℕ) (text : List ℕ) where
  pub same_page : (g h : Shape) (a b : List Event) → g ≡ h → a ≡ b →
      IsPageBy book RUNNING g a from to text →
      IsPageBy book RUNNING h b from to text
  same_page g h a b e f page =
      subst (λ (s : Shape). IsPageBy book RUNNING s b from to text) e
      (subst (λ (es : List Event). IsPageBy book RUNNING g es from to text) f page)

  pub same_pair : (g h : Shape) (a b c d : List Event) → g ≡ h → a ≡ b → c ≡ d →
      IsPairBy book RUNNING g a c from to text →
      IsPairBy book RUNNING h b d from to text
  same_pair g h a b c d e f i page =
      subst (λ (s : Shape). IsPairBy book RUNNING s b d from to text) e
      (subst (λ (es : List Event). IsPairBy book RUNNING g es d from to text) f
      (subst (λ (es : List Event). IsPairBy book RUNNING g a es from to text) i page))

module _ (o : ViewOptions) (g : Shape) (book : List Entry) where
  -- a page is too large
  pub one_large : (ran : BookRun) (es : List Event) → o.beside ≡ None → IsShownRun o o.seed g book ran → es ≡ ran.events.items →
      IsTooLarge g es o.to →
      HasNoOwnView o g book serve.PageTooLarge
  one_large ran es alone run is large =
      subst (λ (b : Option ℕ). IsLargeBy b o g book) (sym alone)
      (record { ran = ran; run = run; large = subst (λ (fs : List Event). IsTooLarge g fs o.to) is large })

  pub two_large : (beside : ℕ) (first second : BookRun) (es fs : List Event) → o.beside ≡ Some beside →
      IsShownRun o o.seed g book first →
      IsShownRun o beside g book second →
      es ≡ first.events.items →
      fs ≡ second.events.items →
      IsPairTooLarge g es fs o.to →
      HasNoOwnView o g book serve.PageTooLarge
  two_large beside first second es fs two run other is too large =
      subst (λ (b : Option ℕ). IsLargeBy b o g book) (sym two)
      (record {
        first = first;
        run = run;
        second = second;
        other = other;
        large = subst (λ (a : List Event). IsPairTooLarge g a second.events.items o.to) is
            (subst (λ (a : List Event). IsPairTooLarge g es a o.to) too large);
      })

  -- the page of a run without trouble
  pub one_shown : (same : Shape) (ran shown : BookRun) (text : List ℕ) → same ≡ g → IsShownRun o o.seed g book ran → shown ≡ ran →
      IsSound ran →
      IsPageBy book RUNNING same shown.events.items o.from o.to text →
      IsOneView o g book Ended text
  one_shown same ran shown text e run is sound page = record {
    ran = ran;
    run = run;
    printed = inr (
      refl,
      sound,
      subst (λ (s : Shape). IsPageBy book RUNNING s ran.events.items o.from o.to text) e
          (subst (λ (r : BookRun). IsPageBy book RUNNING same r.events.items o.from o.to text) is page),
    );
  }

  -- its trouble
  pub one_troubled : (ran : BookRun) (end : OwnEnd) (text : List ℕ) → IsShownRun o o.seed g book ran → IsTrouble ran end text →
      IsOneView o g book end text
  one_troubled ran end text run trouble = record { ran = ran; run = run; printed = inl trouble }

  -- of two runs
  pub two_shown : (beside : ℕ) (same : Shape) (first second shown other_shown : BookRun) (text : List ℕ) → same ≡ g →
      IsShownRun o o.seed g book first →
      IsShownRun o beside g book second →
      shown ≡ first →
      other_shown ≡ second →
      IsSound first →
      IsSound second →
      IsPairBy book RUNNING same shown.events.items other_shown.events.items o.from o.to text →
      IsTwoView o beside g book Ended text
  two_shown beside same first second shown other_shown text e run other is too sound other_sound page = record {
    first = first;
    run = run;
    second = second;
    other = other;
    printed = inr (
      refl,
      sound,
      other_sound,
      subst (λ (s : Shape). IsPairBy book RUNNING s first.events.items second.events.items o.from o.to text) e
          (subst (λ (r : BookRun). IsPairBy book RUNNING same r.events.items second.events.items o.from o.to text) is
          (subst (λ (r : BookRun). IsPairBy book RUNNING same shown.events.items r.events.items o.from o.to text) too page)),
    );
  }

  pub two_troubled : (beside : ℕ) (first second : BookRun) (end : OwnEnd) (text : List ℕ) →
      IsShownRun o o.seed g book first →
      IsShownRun o beside g book second →
      IsPairTrouble first second end text →
      IsTwoView o beside g book end text
  two_troubled beside first second end text run other trouble =
      record { first = first; run = run; second = second; other = other; printed = inl trouble }

  -- the view is of one run or of two, as the options say
  module _ (x : Result OwnTold ServeFault) where
    pub view_alone : o.beside ≡ None →
        IfOk x (λ told. IsOneView o g book told.end told.text.items) →
        IfOk x (λ told. IsOwnView o g book told.end told.text.items)
    view_alone alone shown =
        subst (λ (b : Option ℕ). IfOk x (λ told. IsViewBy b o g book told.end told.text.items)) (sym alone) shown

    pub view_beside : (beside : ℕ) → o.beside ≡ Some beside →
        IfOk x (λ told. IsTwoView o beside g book told.end told.text.items) →
        IfOk x (λ told. IsOwnView o g book told.end told.text.items)
    view_beside beside two shown =
        subst (λ (b : Option ℕ). IfOk x (λ told. IsViewBy b o g book told.end told.text.items)) (sym two) shown

  -- all of it has gone out, or its first bytes
  module _ (end : OwnEnd) (bytes text : List ℕ) (old new : Option (List ℕ)) where
    pub viewed_all : bytes ≡ text → IsOwnView o g book end text → HasWritten old new bytes (length bytes) →
        HasViewedOwn o g book old new (Ok end)
    viewed_all is view out = (text, view, subst (λ (b : List ℕ). HasWritten old new b (length b)) is out)

    pub viewed_part : (result : Result OwnEnd ServeFault) (written : ℕ) → bytes ≡ text → result ≡ Err (serve.Write written) →
        IsOwnView o g book end text →
        written < length bytes →
        HasWritten old new bytes written →
        HasViewedOwn o g book old new result
    viewed_part result written is fault view few out =
        rw fault (
          text,
          (end, view),
          subst (λ (b : List ℕ). written < length b) is few,
          subst (λ (b : List ℕ). HasWritten old new b written) is out,
        )

module _ (o : StoredViewOptions) (g : Shape) (book : List Entry) (events : List Event) (bytes text : List ℕ) (old new : Option (List ℕ)) where
  -- the same of a stored run
  pub stored_all : bytes ≡ text → IsStoredOwnView o g book events text → HasWritten old new bytes (length bytes) →
      HasStoredOwnView o g book events old new (Ok tt)
  stored_all is view out = (text, view, subst (λ (b : List ℕ). HasWritten old new b (length b)) is out)

  pub stored_part : (result : Result (Unit {0}) ServeFault) (written : ℕ) → bytes ≡ text → result ≡ Err (serve.Write written) →
      IsStoredOwnView o g book events text →
      written < length bytes →
      HasWritten old new bytes written →
      HasStoredOwnView o g book events old new result
  stored_part result written is fault view few out =
      rw fault (
        text,
        view,
        subst (λ (b : List ℕ). written < length b) is few,
        subst (λ (b : List ℕ). HasWritten old new b written) is out,
      )

-- why there is no page of a copy of the graph is why there is none of the graph
pub unviewed : (o : ViewOptions) (g : Shape) (book : List Entry) (copy : Shape) (result : Result OwnTold ServeFault) (fault : ServeFault) →
    result ≡ Err fault → copy ≡ g → HasNoOwnView o copy book fault → IfErr result (HasNoOwnView o g book)
unviewed o g book copy result fault is same why =
    subst (λ (r : Result OwnTold ServeFault). IfErr r (HasNoOwnView o g book)) (sym is) (subst (λ h. HasNoOwnView o h book fault) same why)
