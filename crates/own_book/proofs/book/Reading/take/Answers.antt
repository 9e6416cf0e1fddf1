use Rattle.std.proofs.Common.{◌≡◌, ◌≤◌, ◌+◌, ◌∷◌, ◌++◌, [], ◌∙◌, ap, arith, length, sym, subst, Some}
use Rattle.std.proofs.lemmas.Bool.{not-false, not-true}
use Rattle.own_book.specs.Book.{line_fault}
use Rattle.own_book.specs.Line.{Line, meaning}
use Rattle.own_book.specs.Reads.{HasRead}
use Rattle.own_book.specs.declared.fault.LineFault.TheVariants.{TooMany, Wavers}
use Rattle.own_book.proofs.Readings.{faulty, reads_again, reads_new, too_many, waver_fault}
use Rattle.own_book.proofs.book.Reading.take.Goals as goal

pub returns-then-before-ge-LINES-clause-fault : goal.returns-then-before-ge-LINES-clause-fault
returns-then-before-ge-LINES-clause-fault c = λ other lines more h.
    let many : 1048576 ≤ length lines = omega (arith, h.counted, c.if-before-ge-LINES.true) in
    faulty lines more (meaning c.args.line.now) h.book.sound TooMany (c.args.self.now.lines + 1) c.at.result
    (too_many lines c.args.line.now many) (omega (arith, h.counted)) c.at.ensures

pub returns-then-ne-clause-fault : goal.returns-then-ne-clause-fault
returns-then-ne-clause-fault c = λ other lines more h.
    let question = c.in-Ok.parts.0.now in
    let answer = c.in-Ok.parts.1.now in
    let fault : line_fault lines (meaning c.args.line.now) ≡ Some (Wavers c.in-Some.first) =
    ap (line_fault lines) c.in-Ok.ensures.says
    ∙ waver_fault lines question answer c.args.self.now h (omega (arith, c.if-before-ge-LINES.false)) c.in-Some.first c.in-Some.told.now
    c.in-Some.ensures.some (not-true _ (sym c.ne.ensures ∙ c.if-ne.true)) in
    faulty lines more (meaning c.args.line.now) h.book.sound (Wavers c.in-Some.first) (c.args.self.now.lines + 1) c.at-then-ne.result
    fault (omega (arith, h.counted)) c.at-then-ne.ensures

pub returns-else-ne-clause-read : goal.returns-else-ne-clause-read
returns-else-ne-clause-read c = λ lines h.
    let question = c.in-Ok.parts.0.now in
    let answer = c.in-Ok.parts.1.now in
    subst (λ (l : Line). HasRead (lines ++ l ∷ []) (record { book = c.args.self.now.book; lines = c.args.self.now.lines + 1 }))
    (sym c.in-Ok.ensures.says)
    (reads_again lines question answer c.args.self.now h (omega (arith, c.if-before-ge-LINES.false)) c.in-Some.first c.in-Some.told.now
    c.in-Some.ensures.some (not-false _ (sym c.ne.ensures ∙ c.if-ne.false)))

pub returns-in_ok-add-in-None-clause-read : goal.returns-in_ok-add-in-None-clause-read
returns-in_ok-add-in-None-clause-read c = λ lines h.
    let question = c.in-Ok.parts.0.now in
    let answer = c.in-Ok.parts.1.now in
    subst (λ (l : Line). HasRead (lines ++ l ∷ []) (record { book = c.add.new.self; lines = c.args.self.now.lines + 1 }))
    (sym c.in-Ok.ensures.says)
    (reads_new lines question answer c.args.self.now h (omega (arith, c.if-before-ge-LINES.false)) c.in-None.ensures.none
    c.add.new.self c.in_ok-add-in-None.ensures)
