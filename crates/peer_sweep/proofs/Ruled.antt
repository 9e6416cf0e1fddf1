-- The figures of a run by the rules of a protocol.
use Rattle.std.proofs.Common.{◌≡◌, ◌∙◌, List, ◌<◌, ◌≤◌, ◌*◌, ◌^◌, ℕ, Bool, inl, inr, subst, arith}
use Rattle.std.proofs.lemmas.Nat.{mul-le}
use Rattle.std.specs.Prelude.{Result, Ok, Err, IfOk}
use Rattle.std.specs.declared.alloc.AllocError.{AllocError}
use Rattle.ghs_graph.specs.Graph.{Shape}
use Rattle.peer_network.specs.declared.event.Event.{Event}
use Rattle.peer_machine.specs.Net.{Net}
use Rattle.peer_machine.specs.Rules.{Rules}
use Rattle.peer_net.specs.NetState.{NetState}
use Rattle.peer_report.specs.Runs.{IsRunThatEnds}
use Rattle.peer_report.specs.declared.run.RunEnd.{RunEnd}
use Rattle.peer_report.specs.declared.run.RunEnd.TheVariants.{Ended, Stopped}
use Rattle.peer_sweep.specs.declared.figures.Figures.{Figures}
use Rattle.peer_sweep.specs.declared.setup.Setup.{Setup}
use Rattle.peer_sweep.specs.Figures.{AreFigures}
use Rattle.peer_sweep.specs.Runs.{AreFiguresOf, IsRunOf}

module _ {S M : Type 0} (r : Rules S M) (bound : Shape → ℕ) (is_branch : S → ℕ → Bool) (has_ended : Shape → Net S M → Type 0) where
  -- a run, however it has come to stand
  pub of_either : (setup : Setup) (seed : ℕ) (g : Shape) (es : List Event) (end : RunEnd) →
      IsRunThatEnds r has_ended setup.schedule_kind seed setup.wake setup.turns g es end → IsRunOf r bound is_branch has_ended g setup seed es
  of_either setup seed g es Ended run = inl run
  of_either setup seed g es Stopped run = inr run

  -- the figures of the net n that the seed's run has left of a copy of the graph are that run's
  pub figures_of_run : (g copy : Shape) (setup : Setup) (seed : ℕ) (n m : NetState) (end : RunEnd) (x : Result Figures AllocError) → n ≡ m →
      m.graph ≡ copy → copy ≡ g → IsRunThatEnds r has_ended setup.schedule_kind seed setup.wake setup.turns copy m.trace end →
      IfOk x (λ f. AreFigures r bound is_branch has_ended n.graph n.trace f) →
      IfOk x (λ f. AreFiguresOf r bound is_branch has_ended g setup seed f)
  figures_of_run g copy setup seed n m end (Ok f) same own graph run figures = record {
    events = m.trace;
    run = subst (λ (s : Shape). IsRunOf r bound is_branch has_ended s setup seed m.trace) graph (of_either setup seed copy m.trace end run);
    figures =
        subst (λ (s : Shape). AreFigures r bound is_branch has_ended s m.trace f) (own ∙ graph)
        (subst (λ (x : NetState). AreFigures r bound is_branch has_ended x.graph x.trace f) same figures);
  }
  figures_of_run g copy setup seed n m end (Err e) same own graph run figures = tt

-- so few messages, none of them so long, have no more bits than this
pub few_bits : (bits sent longest bound : ℕ) → bits ≤ sent * longest → sent ≤ bound → bound < 2 ^ 64 → longest < 2 ^ 32 → bits < 2 ^ 96
few_bits bits sent longest bound within few fits short =
    let most = mul-le sent longest 18446744073709551615 4294967295 (omega (arith, few, fits)) (omega (arith, short)) in
    omega (arith, within, most)
