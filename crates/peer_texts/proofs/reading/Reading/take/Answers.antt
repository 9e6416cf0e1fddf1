use Rattle.std.proofs.Common.{◌∙◌, sym}
use Rattle.peer_texts.proofs.Readings.{reads_more}
use Rattle.peer_texts.proofs.reading.Reading.take.Goals as goal

pub returns-clause-read : goal.returns-clause-read
returns-clause-read c = λ lines h.
    let ensured = c.in_ok-note.ensures in
    reads_more lines c.args.line c.args.self.now c.note.new.self h
    (sym c.line_fault.ensures ∙ c.in_default.is) ensured.said ensured.events ensured.lines
