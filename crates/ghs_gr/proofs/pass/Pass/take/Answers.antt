use Rattle.std.proofs.Common.{◌∙◌, ap, arith}
use Rattle.std.specs.Prelude.{not}
use Rattle.ghs_gr.proofs.Passes.{few_found, takes_sound}
use Rattle.ghs_gr.proofs.pass.Pass.take.Goals as goal

pub note-requires-clause-room : goal.note-requires-clause-room
note-requires-clause-room c = omega (arith, few_found c.requires.pass.0 c.args.self.now c.requires.sound c.requires.pass.1, c.requires.room)

pub returns-in_ok-note-clause-pass : goal.returns-in_ok-note-clause-pass
returns-in_ok-note-clause-pass c = λ lines h.
    takes_sound lines c.args.line c.args.self.now c.note.new.self c.line_fault-self.result c.requires.sound h
    c.line_fault-self.ensures (c.is_none.ensures ∙ ap not c.if-is_none.true)
    c.in_ok-note.ensures.notes c.in_ok-note.ensures.lines c.in_ok-note.ensures.fault
