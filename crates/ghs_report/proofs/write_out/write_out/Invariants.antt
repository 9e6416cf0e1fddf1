use Rattle.std.proofs.Common.{length, ◌-◌, ◌≡◌, ◌≤◌, false}
use Rattle.ghs_report.specs.Writing.{HasWritten}
use Rattle.ghs_report.proofs.write_out.write_out.Given as goal

abbrev pub invariant-writes : goal.invariant-writes
invariant-writes g l = record {
  within : l.written ≤ length l.bytes;
  sound : g.W.Sink.has_failed l.writer ≡ false;
  out : HasWritten (g.W.Sink.held l.fn.writer) (g.W.Sink.held l.writer) l.bytes l.written;
}

abbrev pub decreases-writes : goal.decreases-writes
decreases-writes g l = length l.bytes - l.written
