use Rattle.peer_report.proofs.Turns.{turns_suffice}
use Rattle.peer_report.proofs.laws.law_turns.Goals as goal

pub returns : goal.returns
returns g c =
    let p = g.met.P.Protocol in
    let e = g.met.P.Ends in
    turns_suffice g.P.Protocol.rules g.P.Ends.has_ended g.P.Protocol.bound e.never_defers e.stays_awake p.has_kinds p.has_rules p.is_bounded
