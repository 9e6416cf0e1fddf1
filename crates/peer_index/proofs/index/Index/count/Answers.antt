use Rattle.std.proofs.Common.{◌∙◌, ap}
use Rattle.ghs_flags.specs.Flags.{count}
use Rattle.peer_index.specs.Places.{all_events}
use Rattle.peer_index.proofs.lemmas.Marks.{count_is}
use Rattle.peer_index.proofs.index.Index.count.Goals as goal

pub returns-clause-pass : goal.returns-clause-pass
returns-clause-pass c = λ g p x. c.count.ensures ∙ ap count (rw (← c.self.view_is) at x.marks) ∙ count_is p (all_events g)
