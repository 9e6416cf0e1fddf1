-- Queues of a net as the fields show them: one changes, messages go out.
use Rattle.std.proofs.Common.{◌≡◌, ℕ, true, false, Bool, ◌+◌, ◌≤◌, ◌<◌, List, [], ◌∷◌, ◌++◌, length, get_or, take, drop, refl, sym, ◌∙◌, ap, subst, ⊎_elim, arith, length-append}
use Rattle.std.proofs.lemmas.List.{take_more, take_all}
use Rattle.ghs_graph.specs.Graph.{Shape}
use Rattle.peer_network.specs.Network.{Network, network_of, At}
use Rattle.peer_network.proofs.lemmas.Updates.{put_at_miss, put_at_same, one_place}
use Rattle.peer_channels.specs.Queue.{QueueState, pushed}
use Rattle.peer_channels.specs.Channels.{ChannelsState, HasQueue, IsPort, IsFor, SamePorts, Changes, GoOut, HasRoomFor, Outgoing, port_of, queue_at, state_at, total_of, destination_of}
use Rattle.peer_channels.proofs.lemmas.Ports.{far_port_is, same_alike, same_for, same_then}
use Rattle.peer_channels.proofs.lemmas.Rooms.{at_port, port_queue, leads_to, room_after}
use Rattle.peer_machine.specs.Rules.{Rules}
use Rattle.peer_machine.specs.Net.{Net, left_of, put_at, send_all}
use Rattle.peer_net.specs.Queues.{AreQueues, after_first, with_sent, with_all_sent}

module _ {M : Type 0} where
  -- one queue changes
  pub changed : (g : Shape) {waits : ℕ → ℕ → List M} (l l' : ChannelsState M) (v p : ℕ) (q : QueueState M) (ms : List M) → AreQueues g waits l →
      Changes l l' v p q → q.list ≡ ms → AreQueues g (put_at waits v p ms) l'
  changed g {waits} l l' v p q ms it c e = record {
    ports = same_for g l l' c.ports it.ports;
    queue = λ u r at. ⊎_elim (hit u r) (miss u r at)
        (one_place v p u r);
  }
    where
      hit : (u r : ℕ) → (u ≡ v) × (r ≡ p) → queue_at l' u r ≡ put_at waits v p ms u r
      hit u r z = rw (z.0, z.1) (ap (λ (x : QueueState M). x.list) c.here ∙ e ∙ sym (put_at_same waits v p ms))

      miss : (u r : ℕ) → At (network_of g) u r → ((u ≡ v) × (r ≡ p) → ⊥) → queue_at l' u r ≡ put_at waits v p ms u r
      miss u r at ne =
          ap (λ (x : QueueState M). x.list) (c.elsewhere u r (port_queue it.ports u r at) ne) ∙ it.queue u r at
          ∙ sym (put_at_miss waits v p u r ms ne)

  -- the first message is taken
  pub first_left : (later : Bool) (q : QueueState M) (m : M) (ms : List M) → q.list ≡ m ∷ ms → (after_first later q).list ≡ left_of later m ms
  first_left true q m ms e = rw e refl
  first_left false q m ms e = rw e refl

  pub first_room : (later : Bool) (q : QueueState M) → q.room ≤ (after_first later q).room
  first_room true q = omega arith
  first_room false q = go q.list
    where
      go : (ms : List M) → q.room ≤ (after_first false (record { list = ms; room = q.room })).room
      go [] = omega arith
      go (m ∷ ms) = omega arith

  -- messages go out one after another
  pub sent_append : (g : Network) (v : ℕ) (a b : Outgoing M) (waits : ℕ → ℕ → List M) →
      with_all_sent g v (a ++ b) waits ≡ with_all_sent g v b (with_all_sent g v a waits)
  sent_append g v [] b waits = refl
  sent_append g v (s ∷ a) b waits = sent_append g v a b (with_sent g v waits s)

  -- what holds once the first i messages are out
  pub record Sent (g : Shape) (v : ℕ) (ss : Outgoing M) (i : ℕ) (old l : ChannelsState M) : Type 0 where
    pub ports : SamePorts old l
    pub queues : (waits : ℕ → ℕ → List M) → AreQueues g waits old → AreQueues g (with_all_sent (network_of g) v (take i ss) waits) l
    pub room : HasRoomFor v (drop i ss) l
    pub total : total_of l ≡ total_of old + length (take i ss)

  pub none_sent : (g : Shape) (v : ℕ) (ss : Outgoing M) (l : ChannelsState M) → HasRoomFor v ss l → Sent g v ss 0 l l
  none_sent g v ss l room = record { ports = same_alike l; queues = λ waits it. it; room = room; total = omega arith }

  pub one_sent : (g : Shape) (v : ℕ) (ss : Outgoing M) (i : ℕ) (d x : ℕ × M) (old l l' : ChannelsState M) → IsFor g old → GoOut old v ss →
      i < length ss → x ≡ get_or ss i d → Sent g v ss i old l →
      Changes l l' (destination_of l v x.0).0 (destination_of l v x.0).1
      (pushed (state_at l (destination_of l v x.0).0 (destination_of l v x.0).1) x.1) →
      Sent g v ss (i + 1) old l'
  one_sent g v ss i d x old l l' for out more is h c = record {
    ports = same_then old l l' h.ports c.ports;
    queues = queues;
    room = room_after g v l l' ss i d x (same_for g old l h.ports for) more is port h.room there;
    total =
        let t = there.total in
        let before = h.total in
        let one : length (queue_at l (port_of g v x.0).far (port_of g v x.0).far_port ++ x.1 ∷ []) ≡
        length (queue_at l (port_of g v x.0).far (port_of g v x.0).far_port) + 1 = length-append _ _ in
        let longer : length (take i ss ++ x ∷ []) ≡ length (take i ss) + 1 = length-append (take i ss) (x ∷ []) in
        rw next (omega (arith, t, before, one, longer));
  }
    where
      port : IsPort g v x.0
      port = (for.queues v x.0).0 (let P : ℕ × M → Type 0 = λ y. HasQueue old v y.0 in subst P (sym is) (out i d more))

      there : let to = port_of g v x.0 in Changes l l' to.far to.far_port (pushed (state_at l to.far to.far_port) x.1)
      there =
          let P : ℕ × ℕ → Type 0 = λ t. Changes l l' t.0 t.1 (pushed (state_at l t.0 t.1) x.1) in
          subst P (leads_to g old l for h.ports v x.0 port) c

      next : take (i + 1) ss ≡ take i ss ++ x ∷ []
      next = take_more ss i d more ∙ ap (λ (y : ℕ × M). take i ss ++ y ∷ []) (sym is)

      queues : (waits : ℕ → ℕ → List M) → AreQueues g waits old → AreQueues g (with_all_sent (network_of g) v (take (i + 1) ss) waits) l'
      queues waits it =
          let before = h.queues waits it in
          let now = changed g l l' (port_of g v x.0).far (port_of g v x.0).far_port _
          (with_all_sent (network_of g) v (take i ss) waits (port_of g v x.0).far (port_of g v x.0).far_port ++ x.1 ∷ []) before there
          (ap (λ (y : List M). y ++ x.1 ∷ []) (before.queue _ _ (at_port far_is))) in
          rw (next, sent_append (network_of g) v (take i ss) (x ∷ []) waits) now
        where
          far_is : IsPort g (port_of g v x.0).far (port_of g v x.0).far_port
          far_is = far_port_is g for.graph v x.0 port.port

  -- all of them
  pub all_sent : (g : Shape) (v : ℕ) (ss : Outgoing M) (i : ℕ) (old l : ChannelsState M) → Sent g v ss i old l → length ss ≤ i →
      (waits : ℕ → ℕ → List M) → AreQueues g waits old → AreQueues g (with_all_sent (network_of g) v ss waits) l
  all_sent g v ss i old l h le waits it =
      let P : Outgoing M → Type 0 = λ xs. AreQueues g (with_all_sent (network_of g) v xs waits) l in
      subst P (take_all i ss le) (h.queues waits it)

-- the machine sends so
pub machine_sends : {S M : Type 0} (r : Rules S M) (g : Network) (v : ℕ) (ss : Outgoing M) (w : Net S M) →
    (send_all r g v ss w).queue ≡ with_all_sent g v ss w.queue
machine_sends r g v [] w = refl
machine_sends r g v (s ∷ ss) w = machine_sends r g v ss _
