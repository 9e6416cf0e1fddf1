-- Sends, message by message.
use Rattle.std.proofs.Common.{◌≡◌, ◌≢◌, ℕ, Bool, true, false, ◌+◌, ◌-◌, ◌<◌, ◌≤◌, ◌==◌, List, [], ◌∷◌, ◌++◌, length, get_or, set, take, drop, refl, subst, sym, ◌∙◌, ap, cond, ⊎_elim, eq-eqb, ne_eqb, arith, append-nil, append_assoc, length-append, get_or-set_same, get_or-set_other, length-set}
use Rattle.std.proofs.lemmas.Bool.{cases_eq}
use Rattle.std.proofs.lemmas.List.{take_more}
use Rattle.ghs_graph.specs.Graph.{Shape}
use Rattle.ghs_node.specs.declared.message.Message.{Message}
use Rattle.ghs_node.specs.Kind.{kind_of, place_of}
use Rattle.ghs_node.specs.Words.{Outgoing}
use Rattle.peer_channels.specs.Queue.{QueueState, pushed}
use Rattle.peer_channels.specs.Channels.{ChannelsState, HasQueue, IsPort, IsFor, GoOut, HasRoomFor, Changes, state_at, queue_at, room_at, port_of, destination_of}
use Rattle.peer_channels.proofs.lemmas.Ports.{same_then, same_alike, same_for}
use Rattle.peer_channels.proofs.lemmas.Rooms.{at_port, port_at, leads_to, room_after}
use Rattle.peer_network.specs.Network.{Network, At, network_of, far}
use Rattle.peer_network.proofs.lemmas.Wired.{IsWired}
use Rattle.peer_network.proofs.lemmas.Graphs.{graph_wired}
use Rattle.peer_network.proofs.lemmas.Updates.{one_place}
use Rattle.ghs_protocol.specs.Ledger.{of_kind}
use Rattle.ghs_core.specs.Dispatch.{Arrives, CountsSends, arriving, messages_of}
use Rattle.ghs_core.proofs.Arriving.{arriving_push, one_arrives, one_misses, kinds_push}

-- what holds once the first i messages are out
pub record Sent (g : Shape) (v : ℕ) (ss : Outgoing) (i : ℕ) (old l : ChannelsState Message) (os s : List ℕ) : Type 0 where
  pub arrives : Arrives g v (take i ss) old l
  pub room : HasRoomFor v (drop i ss) l
  pub counts : CountsSends (take i ss) os s
  pub width : length s ≡ length os

module _ (g : Shape) (v : ℕ) where
  -- one message more
  arrives_more : (old l l' : ChannelsState Message) (ss : Outgoing) (i : ℕ) (m : Message) → IsFor g old → IsPort g v i → Arrives g v ss old l →
      Changes l l' (port_of g v i).far (port_of g v i).far_port (pushed (state_at l (port_of g v i).far (port_of g v i).far_port) m) →
      Arrives g v (ss ++ (i, m) ∷ []) old l'
  arrives_more old l l' ss i m for lt a c = record {
    ports = same_then old l l' a.ports c.ports;
    queue = queue;
    rooms = rooms;
    total =
        let t = c.total in
        let e = a.total in
        let n : length (queue_at l to_node to_port ++ m ∷ []) ≡ length (queue_at l to_node to_port) + 1 = length-append _ _ in
        omega (arith, t, e, n, length-append ss ((i, m) ∷ []));
  }
    where
      to_node : ℕ
      to_node = (port_of g v i).far

      to_port : ℕ
      to_port = (port_of g v i).far_port

      net : Network
      net = network_of g

      wired : IsWired (network_of g)
      wired = graph_wired g for.graph

      queue : (u r : ℕ) → At (network_of g) u r → queue_at l' u r ≡ queue_at old u r ++ arriving (network_of g) v (ss ++ (i, m) ∷ []) u r
      queue u r at = rw (arriving_push (network_of g) v ss (i, m) u r) (⊎_elim same other (one_place to_node to_port u r))
        where
          same :
              (u ≡ to_node) × (r ≡ to_port) →
              queue_at l' u r ≡ queue_at old u r ++ (arriving (network_of g) v ss u r ++ arriving (network_of g) v ((i, m) ∷ []) u r)
          same e =
              let there : At (network_of g) to_node to_port = wired.there v i (at_port lt) in
              let one : arriving (network_of g) v ((i, m) ∷ []) to_node to_port ≡ m ∷ [] = one_arrives (network_of g) v wired (i, m) (at_port lt) in
              let now : queue_at l' to_node to_port ≡ queue_at l to_node to_port ++ m ∷ [] = ap (λ (q : QueueState Message). q.list) c.here in
              rw (e.0, e.1) (now ∙
              rw (a.queue to_node to_port there, one)
              (append_assoc (queue_at old to_node to_port) (arriving (network_of g) v ss to_node to_port) (m ∷ [])))

          other :
              ((u ≡ to_node) × (r ≡ to_port) → ⊥) →
              queue_at l' u r ≡ queue_at old u r ++ (arriving (network_of g) v ss u r ++ arriving (network_of g) v ((i, m) ∷ []) u r)
          other ne =
              let had : HasQueue l u r = (a.ports.queues u r).0 ((for.queues u r).1 (port_at at)) in
              let none : arriving (network_of g) v ((i, m) ∷ []) u r ≡ [] = one_misses (network_of g) v wired (i, m) u r (at_port lt) at ne in
              ap (λ (q : QueueState Message). q.list) (c.elsewhere u r had ne) ∙ a.queue u r at ∙ rw (none, append-nil) refl

      rooms : (u r : ℕ) → At (network_of g) u r → room_at old u r ≤ room_at l' u r + length (arriving (network_of g) v (ss ++ (i, m) ∷ []) u r)
      rooms u r at =
          let before = a.rooms u r at in
          let more :
          length (arriving (network_of g) v (ss ++ (i, m) ∷ []) u r) ≡
          length (arriving (network_of g) v ss u r) + length (arriving (network_of g) v ((i, m) ∷ []) u r) =
          ap length (arriving_push (network_of g) v ss (i, m) u r) ∙ length-append _ _ in
          ⊎_elim
          (λ (e : (u ≡ to_node) × (r ≡ to_port)).
          let one : length (arriving (network_of g) v ((i, m) ∷ []) u r) ≡ 1 =
          rw (e.0, e.1) (ap length (one_arrives (network_of g) v wired (i, m) (at_port lt))) in
          let now : room_at l' u r ≡ room_at l u r - 1 = rw (e.0, e.1) (ap (λ (q : QueueState Message). q.room) c.here) in
          omega (arith, before, more, one, now))
          (λ ne.
          let had : HasQueue l u r = (a.ports.queues u r).0 ((for.queues u r).1 (port_at at)) in
          let now : room_at l' u r ≡ room_at l u r = ap (λ (q : QueueState Message). q.room) (c.elsewhere u r had ne) in
          omega (arith, before, more, now))
          (one_place to_node to_port u r)

-- one message more is counted
counts_more : (ss : Outgoing) (x : ℕ × Message) (os s : List ℕ) (k : ℕ) → length s ≡ 7 → k ≡ place_of (kind_of x.1) → k < 7 → CountsSends ss os s →
    CountsSends (ss ++ x ∷ []) os (set s k (get_or s k 0 + 1))
counts_more ss x os s k w e lt c j below = ⊎_elim hit miss (cases_eq j k)
  where
    one : of_kind j (messages_of (ss ++ x ∷ [])) ≡ of_kind j (messages_of ss) + cond (place_of (kind_of x.1) == j) 1 0
    one = kinds_push j ss x

    had : get_or s j 0 ≡ get_or os j 0 + of_kind j (messages_of ss)
    had = c j below

    hit : j ≡ k → get_or (set s k (get_or s k 0 + 1)) j 0 ≡ get_or os j 0 + of_kind j (messages_of (ss ++ x ∷ []))
    hit z =
        let now : get_or (set s k (get_or s k 0 + 1)) j 0 ≡ get_or s j 0 + 1 =
        rw z (get_or-set_same s k (get_or s k 0 + 1) 0 (omega (arith, w, lt))) in
        let add : ◌≡◌ {A = ℕ} (cond (place_of (kind_of x.1) == j) 1 0) 1 = rw (eq-eqb (place_of (kind_of x.1)) j (sym (z ∙ e))) refl in
        omega (arith, now, add, one, had)

    miss : j ≢ k → get_or (set s k (get_or s k 0 + 1)) j 0 ≡ get_or os j 0 + of_kind j (messages_of (ss ++ x ∷ []))
    miss ne =
        let now : get_or (set s k (get_or s k 0 + 1)) j 0 ≡ get_or s j 0 = get_or-set_other s k j (get_or s k 0 + 1) 0 ne in
        let add : ◌≡◌ {A = ℕ} (cond (place_of (kind_of x.1) == j) 1 0) 0 = rw (ne_eqb (place_of (kind_of x.1)) j (λ z. ne (sym z ∙ sym e))) refl in
        omega (arith, now, add, one, had)

-- no kind has more messages than there are
pub kind_few : (k : ℕ) (ss : Outgoing) → of_kind k (messages_of ss) ≤ length ss
kind_few k [] = omega arith
kind_few k (s ∷ ss) = let rest = kind_few k ss in let one = one_few (place_of (kind_of s.1) == k) in omega (arith, rest, one)
  where
    one_few : (b : Bool) → cond b 1 0 ≤ 1
    one_few true = omega arith
    one_few false = omega arith

-- the loop of all sends: at the start, and one message on
pub none_sent : (g : Shape) (v : ℕ) (ss : Outgoing) (l : ChannelsState Message) (s : List ℕ) → HasRoomFor v ss l → Sent g v ss 0 l l s s
none_sent g v ss l s room = record {
  arrives = record { ports = same_alike l; queue = λ u r at. sym (none u r); rooms = λ u r at. omega arith; total = omega arith };
  room = room;
  counts = λ k lt. omega arith;
  width = refl;
}
  where
    none : (u r : ℕ) → queue_at l u r ++ arriving (network_of g) v [] u r ≡ queue_at l u r
    none u r =
        elim (far (network_of g) u r == v) as (λ b. queue_at l u r ++ cond b [] [] ≡ queue_at l u r)
        [ true ↦ append-nil _ | false ↦ append-nil _ ]

pub one_sent : (g : Shape) (v : ℕ) (ss : Outgoing) (i : ℕ) (d x : ℕ × Message) (old l l' : ChannelsState Message) (os s : List ℕ) (k : ℕ) →
    IsFor g old →
    GoOut old v ss →
    length os ≡ 7 → i < length ss → x ≡ get_or ss i d → k ≡ place_of (kind_of x.1) → k < 7 → Sent g v ss i old l os s →
    Changes l l' (destination_of l v x.0).0 (destination_of l v x.0).1
    (pushed (state_at l (destination_of l v x.0).0 (destination_of l v x.0).1) x.1) →
    Sent g v ss (i + 1) old l' os (set s k (get_or s k 0 + 1))
one_sent g v ss i d x old l l' os s k for out seven more is e lt h c = record {
  arrives = rw (take_more ss i d more, sym is) (arrives_more g v old l l' (take i ss) x.0 x.1 for port h.arrives there);
  room = room_after g v l l' ss i d x (same_for g old l h.arrives.ports for) more is port h.room there;
  counts = rw (take_more ss i d more, sym is) (counts_more (take i ss) x os s k (h.width ∙ seven) e lt h.counts);
  width = length-set s k _ ∙ h.width;
}
  where
    port : IsPort g v x.0
    port = (for.queues v x.0).0 (let P : ℕ × Message → Type 0 = λ y. HasQueue old v y.0 in subst P (sym is) (out i d more))

    there : Changes l l' (port_of g v x.0).far (port_of g v x.0).far_port (pushed (state_at l (port_of g v x.0).far (port_of g v x.0).far_port) x.1)
    there =
        let P : ℕ × ℕ → Type 0 = λ t. Changes l l' t.0 t.1 (pushed (state_at l t.0 t.1) x.1) in
        subst P (leads_to g old l for h.arrives.ports v x.0 port) c
