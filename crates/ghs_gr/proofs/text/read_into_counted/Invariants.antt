use Rattle.std.proofs.Common.{◌≡◌, ◌≤◌, ◌<◌, ◌-◌, ◌+◌, ℕ, List, false, length}
use Rattle.std.specs.Io.KnownBytes.{Consumes}
use Rattle.ghs_gr.specs.declared.text.TheConstants.{TEXT_LIMIT}
use Rattle.ghs_gr.proofs.text.read_into_counted.Given as goal

abbrev pub invariant-reads : goal.invariant-reads
invariant-reads g l = record {
  room : 0 < length l.room.items;
  within : l.length ≤ TEXT_LIMIT;
  fresh : g.R.Source.has_failed l.reader ≡ false;
  taken : (text : List ℕ) × Consumes (g.R.Source.left l.fn.reader) (g.R.Source.left l.reader) text
      × g.T.Taker.has_taken l.taker text × (length text ≡ l.length);
  cost : l.steps ≤ l.fn.steps + l.length;
}

abbrev pub decreases-reads : goal.decreases-reads
decreases-reads g l = TEXT_LIMIT - l.length
