-- One message that goes out.
use Rattle.std.proofs.Common.{◌≡◌, ℕ, zero, suc, ◌<◌, ◌==◌, [], ◌∷◌, List, cond, refl, eq-eqb, arith}
use Rattle.ghs_node.specs.declared.message.Message.{Message}
use Rattle.ghs_node.specs.Words.{Outgoing}
use Rattle.ghs_graph.specs.Graph.{Shape}
use Rattle.peer_channels.specs.Channels.{ChannelsState, HasQueue, IsPort, IsFor, GoOut, HasRoomFor, room_at, destination_of, far_end}

pub one_out : (l : ChannelsState Message) (v p : ℕ) (m : Message) → HasQueue l v p → GoOut l v ((p, m) ∷ [])
one_out l v p m h zero d lt = h
one_out l v p m h (suc k) d lt = absurd (omega arith)

pub one_has_room : (l : ChannelsState Message) (v p : ℕ) (m : Message) → HasQueue l v p → HasRoomFor v ((p, m) ∷ []) l →
    0 < room_at l (destination_of l v p).0 (destination_of l v p).1
one_has_room l v p m h room =
    let r = room p h in
    let one : ◌≡◌ {A = ℕ} (cond (p == p) 1 0) 1 = rw (eq-eqb p p refl) refl in
    omega (arith, r, one)

-- the same, of the far end in the graph
pub far_has_room : (g : Shape) (l : ChannelsState Message) → IsFor g l → (v p : ℕ) (m : Message) → IsPort g v p → HasRoomFor v ((p, m) ∷ []) l →
    0 < room_at l (far_end g v p).0 (far_end g v p).1
far_has_room g l for v p m at room = rw (for.leads v p at) at (one_has_room l v p m ((for.queues v p).1 at) room)
