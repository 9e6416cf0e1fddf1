-- Chains of messages, each sent because of the one before: the numbers that tell how long they are, whatever the messages are.
use Rattle.std.specs.Prelude.{ℕ, zero, suc, max, Bool, true, false, List, [], ◌∷◌, ◌++◌}
use Rattle.peer_network.specs.declared.event.Event.{Event}
use Rattle.peer_network.specs.declared.event.Event.TheVariants.{Wake, Take}
use Rattle.peer_network.specs.Network.{Network, port_at}
use Rattle.peer_network.specs.Updates.{put, put_at}

-- how many messages have led to each node, one because of another, and to each message that waits, itself the last
pub record Chains : Type 0 where
  pub node : ℕ → ℕ
  pub queue : ℕ → ℕ → List ℕ

abbrev pub no_chains : Chains
no_chains = record { node = λ v. 0; queue = λ v p. [] }

-- a number more, the last, in the queue of a port
abbrev pub with_last : ℕ → ℕ → ℕ → Chains → Chains
with_last v p n c = record c { queue = put_at c.queue v p (c.queue v p ++ n ∷ []) }

-- a message that a node sends on a port ends a chain longer by one than the node's
abbrev pub sent_on : Network → ℕ → ℕ → Chains → Chains
sent_on g v p c = let to = port_at g v p in with_last to.far to.far_port (suc (c.node v)) c

-- each message goes out on its port; what it says doesn't matter
abbrev pub sent : {M : Type 0} → Network → ℕ → List (ℕ × M) → Chains → Chains
sent g v [] c = c
sent g v (s ∷ ss) c = sent g v ss (sent_on g v s.0 c)

-- A node that takes a message, and defers it or not, asleep or not, has heard of it once it has consumed it, or was woken by it
abbrev pub heard : Bool → Bool → ℕ → ℕ → ℕ
heard false asleep n t = max n t
heard true true n t = max n t
heard true false n t = n

-- what waits once the first was taken: where it was deferred, it is at the end; else it is gone
abbrev pub behind : Bool → ℕ → List ℕ → List ℕ
behind false t ts = ts
behind true t ts = ts ++ t ∷ []

-- node v, asleep or not, has taken the first message of its port p, and has deferred it or not
abbrev pub taken : ℕ → ℕ → Bool → Bool → List ℕ → Chains → Chains
taken v p asleep deferred [] c = c
taken v p asleep deferred (t ∷ ts) c =
    record { node = put c.node v (heard deferred asleep (c.node v) t); queue = put_at c.queue v p (behind deferred t ts) }

-- the node of an event hears of the message that the event takes, if it takes one
abbrev pub hears : Event → Bool → Bool → Chains → Chains
hears (Wake v) asleep deferred c = c
hears (Take v p) asleep deferred c = taken v p asleep deferred (c.queue v p) c

-- the greatest of f 0 to f (n - 1)
abbrev pub most_below : ℕ → (ℕ → ℕ) → ℕ
most_below zero f = 0
most_below (suc n) f = max (most_below n f) (f n)
