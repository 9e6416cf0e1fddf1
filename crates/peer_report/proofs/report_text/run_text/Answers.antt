use Rattle.peer_report.proofs.report_text.run_text.Goals as goal

pub returns-clause-ended : goal.returns-clause-ended
returns-clause-ended g c = rw (← c.net.ensures.net) c.report_text.ensures.ended

pub returns-clause-not_ended : goal.returns-clause-not_ended
returns-clause-not_ended g c = rw (← c.net.ensures.net) c.report_text.ensures.not_ended
