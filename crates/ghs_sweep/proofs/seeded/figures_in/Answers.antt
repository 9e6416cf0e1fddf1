use Rattle.std.proofs.Common.{refl}
use Rattle.ghs_sweep.proofs.Opened.{IsOpened, figures_of_run}
use Rattle.ghs_sweep.proofs.seeded.figures_in.Goals as goal

pub returns : goal.returns
returns c =
    let opened : IsOpened c.args.world.now.net.graph c.args.setup c.args.world.now =
    record { graph = refl; wake = c.requires.wake; turns = c.requires.turns } in
    figures_of_run c.args.world.now.net.graph c.args.setup c.args.seed c.args.world.now c.run_measured.new.world c.net.result.now
    c.figures_with.result opened c.run_measured.ensures.graph c.in_ok-lengths.ensures.run c.net.ensures.net c.figures_with.ensures
