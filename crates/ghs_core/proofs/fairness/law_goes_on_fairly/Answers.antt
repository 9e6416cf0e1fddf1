use Rattle.std.proofs.Common.{subst, sym}
use Rattle.ghs_protocol.specs.Laws.{IsNetOf}
use Rattle.ghs_protocol.proofs.lemmas.Laws.{fair_courses_end, full_laps_are_few, laps_are_few, no_fair_run_is_endless, no_message_is_stuck, prompt_runs_are_short, served_runs_are_short}
use Rattle.ghs_core.proofs.Interleaved.{net_of_run}
use Rattle.ghs_core.proofs.fairness.law_goes_on_fairly.Goals as goal

pub returns : goal.returns
returns c =
    let g = c.args.net.now.graph in
    let net = net_of_run _ _ c.trace.ensures.graph c.trace.ensures.run in
    record {
      goes = no_message_is_stuck _ _ net;
      laps = laps_are_few _ _ net;
      full_laps = full_laps_are_few _ _ net;
      served = served_runs_are_short _ _ net;
      prompt = prompt_runs_are_short _ _ net;
      endless = λ nets event at. no_fair_run_is_endless g nets event (subst (IsNetOf g) (sym at) net);
      rests = λ may nets event at wakes. fair_courses_end g may nets event (subst (IsNetOf g) (sym at) net) wakes;
    }
