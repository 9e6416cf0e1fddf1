use Rattle.std.proofs.Common.{◌≡◌, ◌≤◌, ◌+◌, ◌++◌, List, length}
use Rattle.ghs_gr.specs.Line.{meanings}
use Rattle.ghs_gr.specs.Pass.{IsPass}
use Rattle.ghs_gr.specs.declared.line.Line.{Line}
use Rattle.ghs_gr.proofs.pass.Pass.go_over.Given as goal

abbrev pub invariant-lines : goal.invariant-lines
invariant-lines l = record {
  pass : (lines : List Line) → IsPass lines l.fn.self
      → (gone : List Line) × (meanings l.text ≡ gone ++ meanings l.rest) × IsPass (lines ++ gone) l.self;
  room : l.self.lines + length l.rest ≤ l.fn.self.lines + length l.text;
}

abbrev pub decreases-lines : goal.decreases-lines
decreases-lines l = length l.rest
