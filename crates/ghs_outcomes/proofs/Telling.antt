-- What is told of all runs of a graph, piece by piece.
use Rattle.std.proofs.Common.{◌≡◌, ℕ, ◌+◌, ◌<◌, ◌≤◌, None, Some, List, [], ◌∷◌, ◌++◌, arith, length, take, ap, subst, sym, ◌∙◌, ⊎_elim}
use Rattle.std.specs.Prelude.{IfOk, Result, Ok, Err, get_or, slice_get}
use Rattle.std.proofs.lemmas.Bool.{cases_lt}
use Rattle.std.proofs.lemmas.List.{append_assoc, append-nil, take_more}
use Rattle.std.proofs.lemmas.Option.{slice_get_cases}
use Rattle.ghs_graph.specs.Graph.{Shape}
use Rattle.peer_machine.specs.Explorable.{IsSmall}
use Rattle.peer_network.specs.declared.event.Event.{Event}
use Rattle.peer_network.specs.declared.wake_set.WakeSet.{WakeSet}
use Rattle.ghs_outcomes.specs.Outcomes.{AreOutcomes, No_runs, More, Explores, HasRunsBehind, IsTold, Outcomes}

-- a graph that isn't too large is small
pub small_by : (g : Shape) → ((IsSmall g → ⊥) → ⊥) → IsSmall g
small_by g large = ⊎_elim
    (λ (nodes : g.nodes < 13). ⊎_elim
    (λ (links : length g.keys < 21). record { nodes = omega (arith, nodes); links = omega (arith, links) })
    (λ (links : 21 ≤ length g.keys). absurd (large (λ s. let l = s.links in omega (arith, l, links))))
    (cases_lt (length g.keys) 21))
    (λ (nodes : 13 ≤ g.nodes). absurd (large (λ s. let n = s.nodes in omega (arith, n, nodes))))
    (cases_lt g.nodes 13)

module _ (x : Explores) where
  -- where there is a text of all runs of a small graph, it is told
  pub told_if : {A E : Type 0} (g : Shape) (wake : WakeSet) (limit : ℕ) (result : Result A E) (text : A → List ℕ) → IsSmall g →
      IfOk result (λ y. AreOutcomes x g wake limit (text y)) → IfOk result (λ y. IsTold x g wake limit (text y))
  told_if g wake limit (Ok y) text small are = Outcomes small are
  told_if g wake limit (Err e) text small are = tt

  -- nothing stands behind a text yet
  pub no_runs : (g : Shape) (wake : WakeSet) (rows : List x.Row) (text : List ℕ) → HasRunsBehind x g wake (take 0 rows) text text
  no_runs g wake rows text = ([], No_runs, sym (append-nil text))

  -- the run of one row more: its events were written, and what was written has been put behind the text
  pub one_more : (g : Shape) (wake : WakeSet) (rows : List x.Row) (k : ℕ) (es given : List Event) (written put old now then : List ℕ) →
      k < length rows →
      HasRunsBehind x g wake (take k rows) old now →
      ((r : x.Row) → slice_get rows k ≡ Some r → x.ends_in g wake r es) →
      given ≡ es → written ≡ x.stored given → put ≡ written → then ≡ now ++ put →
      HasRunsBehind x g wake (take (k + 1) rows) old then
  one_more g wake rows k es given written put old now then within has ends lent is_written is_put behind =
      let is : then ≡ now ++ x.stored es = behind ∙ ap (λ (l : List ℕ). now ++ l) (is_put ∙ is_written ∙ ap x.stored lent) in
      ⊎_elim
      (λ (found : (r : x.Row) × (k < length rows) × (slice_get rows k ≡ Some r) × (get_or rows k r ≡ r)).
      let r = found.0 in
      subst (λ (l : List x.Row). HasRunsBehind x g wake l old then)
      (sym (take_more rows k r within ∙ ap (λ (y : x.Row). take k rows ++ y ∷ []) found.3)) (
        has.0 ++ x.stored es,
        More (take k rows) has.0 r es has.1 (ends r found.2),
        is ∙ ap (λ (l : List ℕ). l ++ x.stored es) has.2 ∙ append_assoc old has.0 (x.stored es),
      ))
      (λ (past : (length rows ≤ k) × (slice_get rows k ≡ None)). absurd (let over : length rows ≤ k = past.0 in omega arith))
      (slice_get_cases rows k).1

  -- all that was explored, told
  pub outcomes : (g eg : Shape) (wake ewake : WakeSet) (limit : ℕ) (rows : List x.Row) (states : ℕ) (printed text : List ℕ) →
      eg ≡ g → ewake ≡ wake → states ≤ limit →
      x.are_ends eg ewake rows →
      x.have_range eg ewake rows →
      x.has_states eg ewake states →
      x.is_text eg ewake rows states printed →
      HasRunsBehind x eg ewake rows printed text →
      AreOutcomes x g wake limit text
  outcomes g eg wake ewake limit rows states printed text graph is few ends range reached is_text told =
      subst (λ (s : Shape). AreOutcomes x s wake limit text) graph
      (subst (λ (w : WakeSet). AreOutcomes x eg w limit text) is (record {
        rows = rows;
        states = states;
        ends = ends;
        range = range;
        reached = reached;
        few = few;
        printed = printed;
        is_text = is_text;
        told = told;
      }))
