use Rattle.std.proofs.Common.{◌≡◌, take}
use Rattle.ghs_following.proofs.walk.follow_all.Given as goal

abbrev pub invariant-loop-event : goal.invariant-loop-event
invariant-loop-event g l = record {
  graph : l.net.graph ≡ l.graph;
  trace : l.net.trace ≡ take l.event-index l.events;
  kept : g.F.Follower.is_of l.net.graph l.net.trace l.kept;
}
