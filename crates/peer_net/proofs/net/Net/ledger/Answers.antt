use Rattle.std.proofs.Common.{refl}
use Rattle.peer_net.proofs.Reading.{told, within}
use Rattle.peer_net.proofs.net.Net.ledger.Goals as goal

pub returns-clause-counts : goal.returns-clause-counts
returns-clause-counts g c = rw (← c.self.view_is) (told c.self.invariant.1 g.met.P.Protocol.has_kinds
    (record {
      sent = c.as_slice.result;
      consumed = c.as_slice-2.result;
      queued = c.total.result;
      deferred = c.self.inside.counts.deferred;
    })
    c.as_slice.ensures.value c.as_slice-2.ensures.value c.total.ensures refl)

pub returns-clause-bound : goal.returns-clause-bound
returns-clause-bound g c = rw (← c.self.view_is) (within c.self.invariant.1 g.met.P.Protocol.is_bounded
    (record {
      sent = c.as_slice.result;
      consumed = c.as_slice-2.result;
      queued = c.total.result;
      deferred = c.self.inside.counts.deferred;
    })
    c.as_slice.ensures.value)
