use Rattle.ghs_protocol.specs.Merging.{singles}
use Rattle.ghs_protocol.proofs.merging.OneEnd.{merging_even, singles_even}
use Rattle.ghs_protocol.proofs.merging.Ends.{end_whole}
use Rattle.ghs_protocol.proofs.cores.law_ends_are_whole.Goals as goal

pub returns : goal.returns
returns c ks pay es k z s no_more = end_whole ks pay z (merging_even ks pay singles es k z s singles_even) no_more
