use Rattle.std.proofs.Common.{◌∙◌, ◌++◌, ap, refl}
use Rattle.ghs_gr.proofs.Readings.{took_lines, took_part}
use Rattle.ghs_gr.proofs.reading.ReadingTaker.take.Goals as goal

pub returns-in_ok-extend_from_slice-in-Some-2 : goal.returns-in_ok-extend_from_slice-in-Some-2
returns-in_ok-extend_from_slice-in-Some-2 c = λ text taken.
    took_lines text c.args.chunk.now c.in-Some.lines.now c.in-Some.rest.now c.as_slice.result.now c.args.self.now _ taken
    c.in-Some.ensures.cut c.in-Some.ensures.feed c.in-Some.ensures.last (c.as_slice.ensures.value ∙ c.in_ok-extend_from_slice-in-Some.ensures.items)
    (c.in_ok-extend_from_slice-in-Some-2.ensures.items ∙ ap (λ bs. bs ++ c.in-Some.rest.now) c.clear.ensures.items)
    c.in_ok-go_over-in-Some.ensures.pass c.in_ok-go_over-in-Some.ensures.lines

pub returns-in_ok-extend_from_slice-in-None : goal.returns-in_ok-extend_from_slice-in-None
returns-in_ok-extend_from_slice-in-None c = λ text taken.
    took_part text c.args.chunk.now c.args.self.now _ taken c.in-None.ensures.none c.in_ok-extend_from_slice-in-None.ensures.items refl
