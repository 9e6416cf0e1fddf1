-- Figures of a run from the opening of a graph.
use Rattle.std.proofs.Common.{◌≡◌, ◌∙◌, ℕ, subst}
use Rattle.std.specs.Prelude.{Result, Ok, Err, IfOk}
use Rattle.std.specs.declared.alloc.AllocError.{AllocError}
use Rattle.ghs_core.specs.NetState.{NetState}
use Rattle.ghs_graph.specs.Graph.{Shape}
use Rattle.ghs_picking.specs.Picking.{IsPickedBy}
use Rattle.peer_network.specs.declared.wake_set.WakeSet.{WakeSet}
use Rattle.ghs_world.specs.WorldState.{WorldState}
use Rattle.peer_sweep.specs.declared.figures.Figures.{Figures}
use Rattle.peer_sweep.specs.declared.setup.Setup.{Setup}
use Rattle.ghs_sweep.specs.Figures.{AreFigures}
use Rattle.ghs_sweep.specs.Sweep.{AreFiguresOf}

-- a world has just been opened over a graph
pub record IsOpened (g : Shape) (setup : Setup) (s : WorldState) : Type 0 where
  pub graph : s.net.graph ≡ g
  pub wake : s.wake ≡ setup.wake
  pub turns : s.turns ≡ setup.turns

-- where the seed has picked the run of its net, the net's figures are those of the seed
pub figures_of_run : (g : Shape) (setup : Setup) (seed : ℕ) (old new : WorldState) (net : NetState) (r : Result Figures AllocError) →
    IsOpened g setup old →
    new.net.graph ≡ old.net.graph →
    IsPickedBy setup.schedule_kind seed old.wake old.turns old.net.graph new.net.trace →
    net ≡ new.net →
    IfOk r (λ f. AreFigures net.graph net.trace f) →
    IfOk r (λ f. AreFiguresOf g setup seed f)
figures_of_run g setup seed old new net (Err e) opened stays picked same figures = figures
figures_of_run g setup seed old new net (Ok f) opened stays picked same figures = record {
  events = new.net.trace;
  run = subst (λ (s : Shape). IsPickedBy setup.schedule_kind seed setup.wake setup.turns s new.net.trace) opened.graph
      (subst (λ (w : WakeSet). IsPickedBy setup.schedule_kind seed w setup.turns old.net.graph new.net.trace) opened.wake
      (subst (λ (t : ℕ). IsPickedBy setup.schedule_kind seed old.wake t old.net.graph new.net.trace) opened.turns picked));
  figures = subst (λ (s : Shape). AreFigures s new.net.trace f) (stays ∙ opened.graph)
      (subst (λ (n : NetState). AreFigures n.graph n.trace f) same figures);
}
