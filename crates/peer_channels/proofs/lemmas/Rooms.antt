-- Where messages go, and the room for them at the far ends.
use Rattle.std.proofs.Common.{◌≡◌, ◌≢◌, ℕ, ◌+◌, ◌-◌, ◌<◌, ◌≤◌, ◌==◌, ◌∷◌, length, get_or, drop, refl, subst, sym, ◌∙◌, ap, cond, ⊎_elim, eq-eqb, ne_eqb, arith}
use Rattle.std.specs.List.{count_by}
use Rattle.std.proofs.lemmas.Bool.{cases_eq}
use Rattle.std.proofs.lemmas.List.Sums.{sum_by-drop_more}
use Rattle.ghs_graph.specs.Graph.{Shape}
use Rattle.peer_network.specs.Network.{At, network_of}
use Rattle.peer_network.proofs.lemmas.Graphs.{graph_wired}
use Rattle.peer_network.proofs.lemmas.Updates.{one_place}
use Rattle.peer_network.proofs.lemmas.Wires.{far_apart}
use Rattle.peer_channels.specs.Queue.{QueueState, pushed}
use Rattle.peer_channels.specs.Channels.{ChannelsState, Outgoing, HasQueue, IsPort, IsFor, SamePorts, GoOut, HasRoomFor, Changes, state_at, room_at, port_of, far_end, destination_of}
use Rattle.peer_channels.proofs.lemmas.Ports.{same_destination, far_queue}

-- a port of a graph is one of its network
pub at_port : {g : Shape} {v i : ℕ} → IsPort g v i → At (network_of g) v i
at_port p = record { some = p.some; node = p.node; port = p.port }

pub port_at : {g : Shape} {v i : ℕ} → At (network_of g) v i → IsPort g v i
port_at p = record { some = p.some; node = p.node; port = p.port }

module _ {M : Type 0} where
  -- a port of the graph has a queue
  pub port_queue : {g : Shape} {l : ChannelsState M} → IsFor g l → (v p : ℕ) → At (network_of g) v p → HasQueue l v p
  port_queue for v p at = (for.queues v p).1 (port_at at)

  -- where a message goes
  pub leads_to : (g : Shape) (old l : ChannelsState M) → IsFor g old → SamePorts old l → (v i : ℕ) → IsPort g v i →
      destination_of l v i ≡ far_end g v i
  leads_to g old l for same v i port = same_destination old l same v i ∙ for.leads v i port

  module _ (g : Shape) (v : ℕ) where
    -- the room that the next message leaves
    pub room_after : (l l' : ChannelsState M) (ss : Outgoing M) (i : ℕ) (d s : ℕ × M) → IsFor g l → i < length ss → s ≡ get_or ss i d →
        IsPort g v s.0 →
        HasRoomFor v (drop i ss) l →
        Changes l l' (port_of g v s.0).far (port_of g v s.0).far_port (pushed (state_at l (port_of g v s.0).far (port_of g v s.0).far_port) s.1) →
        HasRoomFor v (drop (i + 1) ss) l'
    room_after l l' ss i d s for more is port room c p has =
        let at : IsPort g v p = (for.queues v p).0 ((c.ports.queues v p).1 has) in
        let led : destination_of l' v p ≡ far_end g v p = leads_to g l l' for c.ports v p at in
        rw led (⊎_elim (here at) (elsewhere at) (cases_eq p s.0))
      where
        had : (p : ℕ) →
            count_by (λ (x : ℕ × M). x.0 == p) (drop i ss) ≡ cond (s.0 == p) 1 0 + count_by (λ (x : ℕ × M). x.0 == p) (drop (i + 1) ss)
        had p = sum_by-drop_more (λ (x : ℕ × M). cond (x.0 == p) 1 0) ss i d more ∙ rw is refl

        room_for : (p : ℕ) →
            IsPort g v p →
            count_by (λ (x : ℕ × M). x.0 == p) (drop i ss) ≤ room_at l (port_of g v p).far (port_of g v p).far_port
        room_for p at = rw (for.leads v p at) at (room p ((for.queues v p).1 at))

        here : {p : ℕ} →
            IsPort g v p →
            p ≡ s.0 →
            count_by (λ (x : ℕ × M). x.0 == p) (drop (i + 1) ss) ≤ room_at l' (port_of g v p).far (port_of g v p).far_port
        here {p} at e =
            let mine : count_by (λ (x : ℕ × M). x.0 == s.0) (drop i ss) ≡ 1 + count_by (λ (x : ℕ × M). x.0 == s.0) (drop (i + 1) ss) =
            had s.0 ∙ rw (eq-eqb s.0 s.0 refl) refl in
            let left : room_at l' (port_of g v s.0).far (port_of g v s.0).far_port ≡ room_at l (port_of g v s.0).far (port_of g v s.0).far_port - 1 =
            ap (λ (q : QueueState M). q.room) c.here in
            let r = room_for s.0 port in
            rw e (omega (arith, mine, left, r))

        elsewhere : {p : ℕ} →
            IsPort g v p →
            p ≢ s.0 →
            count_by (λ (x : ℕ × M). x.0 == p) (drop (i + 1) ss) ≤ room_at l' (port_of g v p).far (port_of g v p).far_port
        elsewhere {p} at ne =
            let ours : count_by (λ (x : ℕ × M). x.0 == p) (drop i ss) ≡ count_by (λ (x : ℕ × M). x.0 == p) (drop (i + 1) ss) =
            had p ∙ rw (ne_eqb s.0 p (λ z. ne (sym z))) (omega arith) in
            let apart = far_apart (network_of g) (graph_wired g for.graph) v p s.0 (at_port at) (λ z. ne (sym z)) in
            let same : room_at l' (port_of g v p).far (port_of g v p).far_port ≡ room_at l (port_of g v p).far (port_of g v p).far_port =
            ap (λ (q : QueueState M). q.room) (c.elsewhere _ _ (far_queue g l for v p at.port) apart) in
            let r = room_for p at in
            omega (arith, ours, same, r)

  -- the room for the next message
  pub room_for_next : (v : ℕ) (l : ChannelsState M) (ss : Outgoing M) (i : ℕ) (d s : ℕ × M) → i < length ss → s ≡ get_or ss i d → HasQueue l v s.0 →
      HasRoomFor v (drop i ss) l → 0 < room_at l (destination_of l v s.0).0 (destination_of l v s.0).1
  room_for_next v l ss i d s more is has room =
      let one = sum_by-drop_more (λ (x : ℕ × M). cond (x.0 == s.0) 1 0) ss i d more in
      let first : ◌≡◌ {A = ℕ} (cond ((get_or ss i d).0 == s.0) 1 0) 1 = rw (sym is, eq-eqb s.0 s.0 refl) refl in
      let r = room s.0 has in
      omega (arith, one, first, r)

  -- the port that a message goes out on
  pub port_out : (old l : ChannelsState M) (v : ℕ) (ss : Outgoing M) (i : ℕ) (x : ℕ × M) →
      GoOut old v ss →
      SamePorts old l →
      i < length ss →
      x ≡ get_or ss i x →
      HasQueue l v x.0
  port_out old l v ss i x out same lt is =
      (same.queues v x.0).0 (let P : ℕ × M → Type 0 = λ y. HasQueue old v y.0 in subst P (sym is) (out i x lt))

  -- where the lists change and nowhere is less room, what had room has it
  pub room_kept : (g : Shape) (l l' : ChannelsState M) (v : ℕ) (ss : Outgoing M) → IsFor g l → SamePorts l l' →
      ((u r : ℕ) → HasQueue l u r → room_at l u r ≤ room_at l' u r) →
      HasRoomFor v ss l →
      HasRoomFor v ss l'
  room_kept g l l' v ss for same more room i has =
      let had = (same.queues v i).1 has in
      let port = (for.queues v i).0 had in
      let led : destination_of l v i ≡ far_end g v i = for.leads v i port in
      let enough = rw led at (room i had) in
      let kept = more _ _ (far_queue g l for v i port.port) in
      rw (same_destination l l' same v i, led) (omega (arith, kept, enough))

  -- one queue changed, and has no less room
  pub rooms_kept : (l l' : ChannelsState M) (v p : ℕ) (q : QueueState M) → Changes l l' v p q → room_at l v p ≤ q.room → (u r : ℕ) →
      HasQueue l u r → room_at l u r ≤ room_at l' u r
  rooms_kept l l' v p q c more u r has = ⊎_elim
      (λ (z : (u ≡ v) × (r ≡ p)).
      let now : room_at l' v p ≡ q.room = ap (λ (x : QueueState M). x.room) c.here in
      rw (z.0, z.1) (omega (arith, now, more)))
      (λ apart.
      let now : room_at l' u r ≡ room_at l u r = ap (λ (x : QueueState M). x.room) (c.elsewhere u r has apart) in
      omega (arith, now))
      (one_place v p u r)
