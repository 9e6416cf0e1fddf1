use Rattle.std.proofs.Common.{rules, ◌≡◌, length}
use Rattle.ghs_report.proofs.lemmas.Gone.{out_failed, out_sent}
use Rattle.ghs_report.proofs.portions.send_off.Goals as goal

pub returns-in-Ok-clause-out : goal.returns-in-Ok-clause-out
returns-in-Ok-clause-out g c = λ old all out.
    let many : c.len.result ≡ length c.args.text.now.items = search rules in
    rw (many, c.clear.ensures.items) (out_sent old _ _ all _ _ out (rw c.as_slice.ensures.value at c.in-Ok.ensures.ok))

pub returns-in-Err-clause-front : goal.returns-in-Err-clause-front
returns-in-Err-clause-front g c = λ old all out.
    let told = rw c.as_slice.ensures.value at c.in-Err.ensures.err in
    out_failed old _ _ all _ _ _ out told.0 told.1
