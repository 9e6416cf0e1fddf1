use Rattle.std.proofs.Common.{rules}
use Rattle.peer_sweep.proofs.rules.figures_of.Goals as goal

pub returns : goal.returns
returns g c =
    let counts = c.counts_of-figures.ensures in
    let messages = counts.messages in
    record {
      nodes = counts.nodes;
      links = counts.links;
      events = counts.events;
      messages = record {
        sent = messages.sent;
        kinds = messages.kinds;
        requeued = messages.requeued;
        queued = messages.queued;
        bound = messages.bound;
        within = messages.within;
      };
      level = counts.level;
      fragments = counts.fragments;
      weight = record {
        branches = c.in_ok-tree.tree.items;
        all = c.in_ok-tree.ensures.links;
        sum = search rules;
      };
      ended = c.net_ended.ensures;
      lengths = counts.lengths;
      room = record { weight = c.total_weight.ensures.small; bits = counts.room.bits };
    }
