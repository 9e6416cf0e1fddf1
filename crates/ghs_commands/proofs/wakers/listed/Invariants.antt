use denote.Shadow.{shadow}
use denote.Text.{Utf8}
use Rattle.ghs_commands.proofs.Listing.{HasListed}
use Rattle.ghs_commands.proofs.wakers.listed.Given as goal

abbrev pub invariant-loop-place : goal.invariant-loop-place
invariant-loop-place l = HasListed l.text l.rest l.nodes l.place × shadow (Utf8 l.rest)
