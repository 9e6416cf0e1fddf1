use Rattle.ghs_gr.proofs.Stops.{stops_are}
use Rattle.ghs_gr.proofs.digits.stops_of.Goals as goal

pub returns : goal.returns
returns c = stops_are c.args.bytes c.fits-bytes.0 c.fits-bytes.1
