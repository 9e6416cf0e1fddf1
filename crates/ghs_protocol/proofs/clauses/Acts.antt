-- One act of a node, over any kind of state (a node, with what a proof keeps beside it) and any reading of a queue.
use Rattle.std.specs.Prelude.{ℕ, List, [], ◌∷◌, ◌++◌}
use Rattle.ghs_node.specs.declared.message.Message.{Message}
use Rattle.ghs_node.specs.Words.{Outgoing}
use Rattle.peer_network.specs.Network.{Network, port_at}
use Rattle.peer_network.specs.Updates.{put, put_at}

-- messages more, one after another, by what adds one
abbrev pub add_all : {Q : Type 0} → (Q → Message → Q) → Q → List Message → Q
add_all add q [] = q
add_all add q (m ∷ ms) = add_all add (add q m) ms

-- a message more, at the end of a list
abbrev pub at_end : List Message → Message → List Message
at_end q m = q ++ m ∷ []

-- one message of node v's goes out
abbrev pub push : {Q : Type 0} → (Q → Message → Q) → Network → ℕ → (ℕ → ℕ → Q) → ℕ × Message → ℕ → ℕ → Q
push add g v q s =
    let to = port_at g v s.0 in
    put_at q to.far to.far_port (add (q to.far to.far_port) s.1)

abbrev pub push_all : {Q : Type 0} → (Q → Message → Q) → Network → ℕ → Outgoing → (ℕ → ℕ → Q) → ℕ → ℕ → Q
push_all add g v [] q = q
push_all add g v (s ∷ ss) q = push_all add g v ss (push add g v q s)

-- a state at each node, and the queues
pub record Places (X Q : Type 0) : Type 0 where
  pub at : ℕ → X
  pub queue : ℕ → ℕ → Q

-- one side of a link: the port there, the state of its node, and what waits at that port
pub record Side (X Q : Type 0) : Type 0 where
  pub port : ℕ
  pub is : X
  pub waits : Q

abbrev pub side : {X Q : Type 0} → Places X Q → ℕ → ℕ → Side X Q
side w v p = record { port = p; is = w.at v; waits = w.queue v p }

-- node u becomes x, its own queues become own, and it sends ss
abbrev pub acts : {X Q : Type 0} → (Q → Message → Q) → Network → ℕ → X → (ℕ → Q) → Outgoing → Places X Q → Places X Q
acts add g u x own ss w = record { at = put w.at u x; queue = push_all add g u ss (put w.queue u own) }
