-- Counts over all kinds, stage by stage.
use Rattle.std.proofs.Common.{◌≡◌, ℕ, ◌+◌, ◌-◌, ◌<◌, ◌≤◌, ◌==◌, ◌^◌, List, [], ◌∷◌, length, get_or, refl, ◌∙◌, ap, cond, arith}
use Rattle.std.proofs.lemmas.List.{length-map}
use Rattle.ghs_node.specs.declared.message.Message.{Message}
use Rattle.ghs_node.specs.declared.delta.Fate.{Fate}
use Rattle.ghs_node.specs.declared.delta.Fate.TheVariants.{Consumed, Requeued}
use Rattle.ghs_node.specs.declared.delta.Delta.{Delta}
use Rattle.ghs_node.specs.Kind.{kind_of, place_of}
use Rattle.ghs_node.specs.Words.{Outgoing}
use Rattle.ghs_node.specs.NodeState.{NodeState}
use Rattle.ghs_graph.specs.Graph.{Shape}
use Rattle.peer_channels.specs.Channels.{ChannelsState, HasQueue, IsFor, SamePorts, HasRoomFor, room_at, total_of}
use Rattle.peer_channels.proofs.lemmas.Ports.{same_alike}
use Rattle.peer_channels.proofs.lemmas.Rooms.{room_kept}
use Rattle.peer_network.specs.declared.event.Event.{Event}
use Rattle.peer_network.specs.Network.{network_of}
use Rattle.ghs_protocol.specs.Net.{Net, one_if_consumed}
use Rattle.ghs_protocol.specs.Ledger.{of_kind, in_all}
use Rattle.peer_network.proofs.lemmas.Sums.{sum_same, sum_none, sum_add, term_le}
use Rattle.ghs_protocol.proofs.lemmas.Balance.{kinds_in_all, none_or_none, one_fate}
use Rattle.ghs_core.specs.declared.counts.Counts.{Counts}
use Rattle.ghs_core.specs.Dispatch.{Arrives, CountsSends, Disposes, messages_of}
use Rattle.ghs_core.specs.Kept.{Shows, CountsFit}
use Rattle.ghs_core.proofs.Stages.{Stage, Wakes, Takes}

-- counts that rise by h kind by kind rise by its sum
rise : (f f' h : ℕ → ℕ) → ((k : ℕ) → k < 7 → f' k ≡ f k + h k) → in_all f' ≡ in_all f + in_all h
rise f f' h e = sum_same 7 f' (λ k. f k + h k) e ∙ sum_add 7 f h

-- the fate of one message
fate_counts : (f : Fate) (m : Message) → in_all (λ k. cond (place_of (kind_of m) == k) (one_if_consumed f) 0) ≡ one_if_consumed f
fate_counts Consumed m =
    sum_same 7 (λ k. cond (place_of (kind_of m) == k) 1 0) (λ k. of_kind k (m ∷ [])) (λ k lt. omega arith) ∙ kinds_in_all (m ∷ [])
fate_counts Requeued m = sum_none 7 (λ k. cond (place_of (kind_of m) == k) 0 0) (λ k lt. none_or_none (place_of (kind_of m) == k))

-- what the first stage leaves: fewer wait by the one that was consumed, and the sent are as they were
pub record Disposed (channels l : ChannelsState Message) (counts c : Counts) : Type 0 where
  pub sent : c.sent ≡ counts.sent
  pub balance : total_of l + in_all (λ k. get_or c.consumed k 0) ≡ total_of channels + in_all (λ k. get_or counts.consumed k 0)
  pub fewer : total_of l ≤ total_of channels
  pub consumed : in_all (λ k. get_or c.consumed k 0) ≤ in_all (λ k. get_or counts.consumed k 0) + 1
  pub requeued : c.requeued ≤ counts.requeued + 1
  pub ports : SamePorts channels l

module _ (g : Shape) (w : Net) (nodes : List NodeState) (channels : ChannelsState Message) (counts : Counts) (for : IsFor g channels)
    (shows : Shows (network_of g) w nodes channels counts) where
  pub disposed : {e : Event} {d : Delta} {x : Net} (l : ChannelsState Message) (c : Counts) →
      Stage (network_of g) w e d x →
      Disposes e d.fate channels l counts c →
      Disposed channels l counts c
  disposed l c (Wakes v d lo hi s r) z =
      rw (z.0, z.1)
      (record { sent = refl; balance = refl; fewer = omega arith; consumed = omega arith; requeued = omega arith; ports = same_alike channels })
  disposed l c (Takes v p m ms d at q r) z =
      let one = z m ms (shows.queue v p at ∙ q) in
      let t = one.0.total in
      let all =
      rise (λ k. get_or counts.consumed k 0) (λ k. get_or c.consumed k 0) (λ k. cond (place_of (kind_of m) == k) (one_if_consumed d.fate) 0)
      one.1.consumed in
      let kind = fate_counts d.fate m in
      let fate = one_fate d.fate in
      let again = one.1.requeued in
      record {
        sent = one.1.sent;
        balance = omega (arith, t, all, kind);
        fewer = omega (arith, t);
        consumed = omega (arith, all, kind, fate);
        requeued = omega (arith, again, fate);
        ports = one.0.ports;
      }

  -- the first stage takes no room
  pub disposed_room : {e : Event} {d : Delta} {x : Net} (l : ChannelsState Message) (c : Counts) (v : ℕ) (ss : Outgoing) →
      Stage (network_of g) w e d x →
      Disposes e d.fate channels l counts c → HasRoomFor v ss channels → HasRoomFor v ss l
  disposed_room l c u ss (Wakes v d lo hi s r) z room = rw z.0 room
  disposed_room l c u ss (Takes v p m ms d at q r) z room =
      let one = z m ms (shows.queue v p at ∙ q) in room_kept g channels l u ss for one.0.ports one.0.rooms room

  pub disposed_rooms : {e : Event} {d : Delta} {x : Net} (l : ChannelsState Message) (c : Counts) →
      Stage (network_of g) w e d x →
      Disposes e d.fate channels l counts c →
      (u r : ℕ) →
      HasQueue channels u r → room_at channels u r ≤ room_at l u r
  disposed_rooms l c (Wakes v d lo hi s r) z = λ u r has. rw z.0 (omega arith)
  disposed_rooms l c (Takes v p m ms d at q r) z = (z m ms (shows.queue v p at ∙ q)).0.rooms

-- the second stage: the sends are counted
pub fit_more : (n : ℕ) (channels l l' : ChannelsState Message) (counts c : Counts) (sent : List ℕ) (g : Shape) (v : ℕ) (ss : Outgoing) →
    length ss ≤ 8388610 →
    CountsFit n channels counts → Disposed channels l counts c → Arrives g v ss l l' → CountsSends ss c.sent sent →
    CountsFit (n + 1) l' (record { sent = sent; consumed = c.consumed; requeued = c.requeued })
fit_more n channels l l' counts c sent g v ss few fit s a told =
    let all : in_all (λ k. get_or sent k 0) ≡ in_all (λ k. get_or c.sent k 0) + in_all (λ k. of_kind k (messages_of ss)) =
    rise (λ k. get_or c.sent k 0) (λ k. get_or sent k 0) (λ k. of_kind k (messages_of ss)) told in
    let kinds : in_all (λ k. of_kind k (messages_of ss)) ≡ length ss = kinds_in_all (messages_of ss) ∙ length-map ss (λ (x : ℕ × Message). x.1) in
    let same : in_all (λ k. get_or c.sent k 0) ≡ in_all (λ k. get_or counts.sent k 0) = ap (λ (xs : List ℕ). in_all (λ k. get_or xs k 0)) s.sent in
    let total = a.total in
    record {
      sent = let f = fit.sent in omega (arith, all, kinds, same, few, f);
      consumed = let f = fit.consumed in let o = s.consumed in omega (arith, f, o);
      requeued = let f = fit.requeued in let o = s.requeued in omega (arith, f, o);
      waiting = let f = fit.waiting in let o = s.balance in omega (arith, all, kinds, same, total, f, o);
    }

-- there is room for the counts of one event more
pub total_fits : (n : ℕ) (channels l : ChannelsState Message) (counts c : Counts) (k : ℕ) →
    n < 2 ^ 40 →
    k ≤ 8388610 →
    CountsFit n channels counts →
    Disposed channels l counts c →
    total_of l + k < 2 ^ 64
total_fits n channels l counts c k lt few fit s =
    let a = fit.sent in
    let b = fit.waiting in
    let t = s.fewer in
    omega (arith, a, b, t)

pub sent_fits : (n : ℕ) (channels l : ChannelsState Message) (counts c : Counts) (k i : ℕ) →
    n < 2 ^ 40 →
    k ≤ 8388610 →
    CountsFit n channels counts →
    Disposed channels l counts c →
    i < 7 →
    get_or c.sent i 0 + k < 2 ^ 64
sent_fits n channels l counts c k i lt few fit s below =
    let one = term_le 7 i (λ j. get_or c.sent j 0) below in
    let same : in_all (λ j. get_or c.sent j 0) ≡ in_all (λ j. get_or counts.sent j 0) = ap (λ (xs : List ℕ). in_all (λ j. get_or xs j 0)) s.sent in
    let a = fit.sent in
    omega (arith, one, same, a)

pub consumed_fits : (n : ℕ) (channels : ChannelsState Message) (counts : Counts) (i : ℕ) →
    n < 2 ^ 40 →
    CountsFit n channels counts →
    i < 7 →
    get_or counts.consumed i 0 < 2 ^ 64 - 1
consumed_fits n channels counts i lt fit below =
    let one = term_le 7 i (λ j. get_or counts.consumed j 0) below in
    let a = fit.consumed in
    omega (arith, one, a)
