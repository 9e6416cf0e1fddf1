use Rattle.std.proofs.Common.{◌≡◌, ◌++◌, length, take}
use Rattle.std.specs.List.{flat_map}
use Rattle.peer_texts.specs.Text.{event_text, head_text}
use Rattle.peer_texts.proofs.trace.write_trace.Given as goal

abbrev pub invariant-loop-event : goal.invariant-loop-event
invariant-loop-event l = l.text.items ≡ head_text (length l.events) ++ flat_map event_text (take l.event-index l.events)
