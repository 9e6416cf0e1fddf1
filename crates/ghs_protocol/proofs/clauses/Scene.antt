-- The net as the invariant reads it, with what it remembers beside it.
use Rattle.std.specs.Prelude.{ℕ, suc, Bool, Option, List, [], ◌∷◌, ◌++◌}
use Rattle.ghs_graph.specs.declared.key.Key.{Key}
use Rattle.ghs_node.specs.declared.mark.Mark.{Mark}
use Rattle.ghs_node.specs.declared.message.Phase.{Phase}
use Rattle.ghs_node.specs.declared.message.Message.{Message}
use Rattle.ghs_node.specs.declared.message.Message.TheVariants.{Connect, Initiate, Test, Accept, Reject, Report, ChangeRoot}
use Rattle.ghs_node.specs.declared.head.Head.{Head}
use Rattle.ghs_node.specs.Words.{Outgoing, Best, is_branch}
use Rattle.ghs_node.specs.NodeState.{mark_at}
use Rattle.peer_network.specs.Network.{Network, port_at, far, far_port}
use Rattle.ghs_protocol.proofs.clauses.Acts.{add_all, push_all as pushes}
use Rattle.ghs_protocol.specs.Net.{Net}
use Rattle.peer_network.specs.Updates.{put}

-- What is read of a queue: its tree messages in order, its Tests in order, and how many Accepts and Rejects.
-- The place of Tests and answers among the other messages never matters.
pub record Seen : Type 0 where
  pub tree : List Message
  pub tests : List (ℕ × Key)
  pub accepts : ℕ
  pub rejects : ℕ

-- an empty queue
abbrev pub unseen : Seen
unseen = record { tree = []; tests = []; accepts = 0; rejects = 0 }

-- a message more, at the end
abbrev pub add : Seen → Message → Seen
add q (Connect l) = record q { tree = q.tree ++ Connect l ∷ [] }
add q (Initiate l f s) = record q { tree = q.tree ++ Initiate l f s ∷ [] }
add q (Test l f) = record q { tests = q.tests ++ (l, f) ∷ [] }
add q Accept = record q { accepts = suc q.accepts }
add q Reject = record q { rejects = suc q.rejects }
add q (Report w) = record q { tree = q.tree ++ Report w ∷ [] }
add q ChangeRoot = record q { tree = q.tree ++ ChangeRoot ∷ [] }

-- messages more, one after another
abbrev pub adds : Seen → List Message → Seen
adds q ms = add_all add q ms

-- what is read of a queue's messages
abbrev pub see : List Message → Seen
see ms = adds unseen ms

-- A node with what is remembered of it: its fragment's number, the level and the name that the whole fragment will have
-- once the messages on their way have come in, and the port that leads towards the fragment's root.
pub record Member : Type 0 where
  pub head : Head
  pub mark : ℕ → Mark
  pub fragment : ℕ
  pub coming : ℕ
  pub coming_name : Option Key
  pub up : Option ℕ

-- the memory beside the net; coming level and name are of a fragment's number
pub record Ghost : Type 0 where
  pub fragment : ℕ → ℕ
  pub coming : ℕ → ℕ
  pub coming_name : ℕ → Option Key
  pub up : ℕ → Option ℕ

-- all members, and what is read of the queue at each port
pub record Scene : Type 0 where
  pub at : ℕ → Member
  pub seen : ℕ → ℕ → Seen

-- a node of the net with what is remembered of it
abbrev pub member : Net → Ghost → ℕ → Member
member w gh v = record {
  head = (w.node v).head;
  mark = λ p. mark_at (w.node v) p;
  fragment = gh.fragment v;
  coming = gh.coming (gh.fragment v);
  coming_name = gh.coming_name (gh.fragment v);
  up = gh.up v;
}

-- the net with its memory
abbrev pub scene : Net → Ghost → Scene
scene w gh = record { at = λ v. member w gh v; seen = λ v p. see (w.queue v p) }

-- one end of a link: the port, the link's key, the port's mark, the node, and the queue there
pub record End : Type 0 where
  pub port : ℕ
  pub key : Key
  pub mark : Mark
  pub is : Member
  pub seen : Seen

-- the end at port p of v
abbrev pub end : Network → Scene → ℕ → ℕ → End
end g w v p = record { port = p; key = (port_at g v p).key; mark = (w.at v).mark p; is = w.at v; seen = w.seen v p }

-- the far end of the link at port p of v, of which the key is the same
abbrev pub far_end : Network → Scene → ℕ → ℕ → End
far_end g w v p = record {
  port = far_port g v p;
  key = (port_at g v p).key;
  mark = (w.at (far g v p)).mark (far_port g v p);
  is = w.at (far g v p);
  seen = w.seen (far g v p) (far_port g v p);
}

-- what the clauses on tree messages and on the search read of an end
pub record TreeEnd : Type 0 where
  pub port : ℕ
  pub key : Key
  pub mark : Mark
  pub fragment : ℕ
  pub coming : ℕ
  pub coming_name : Option Key
  pub up : Option ℕ
  pub level : ℕ
  pub phase : Phase
  pub in_branch : Option ℕ
  pub best : Best
  pub tree : List Message

-- what those on Tests and their answers read
pub record TestEnd : Type 0 where
  pub port : ℕ
  pub mark : Mark
  pub fragment : ℕ
  pub level : ℕ
  pub name : Option Key
  pub probe : Option ℕ
  pub tests : List (ℕ × Key)
  pub accepts : ℕ
  pub rejects : ℕ

abbrev pub tree_end : End → TreeEnd
tree_end e = record {
  port = e.port;
  key = e.key;
  mark = e.mark;
  fragment = e.is.fragment;
  coming = e.is.coming;
  coming_name = e.is.coming_name;
  up = e.is.up;
  level = e.is.head.level;
  phase = e.is.head.phase;
  in_branch = e.is.head.in_branch;
  best = e.is.head.best;
  tree = e.seen.tree;
}

abbrev pub test_end : End → TestEnd
test_end e = record {
  port = e.port;
  mark = e.mark;
  fragment = e.is.fragment;
  level = e.is.head.level;
  name = e.is.head.name;
  probe = e.is.head.probe;
  tests = e.seen.tests;
  accepts = e.seen.accepts;
  rejects = e.seen.rejects;
}

-- what fragments are read off: Branch marks and the memory
pub record Forest : Type 0 where
  pub branch : ℕ → ℕ → Bool
  pub fragment : ℕ → ℕ
  pub coming : ℕ → ℕ
  pub coming_name : ℕ → Option Key
  pub up : ℕ → Option ℕ

abbrev pub forest : Scene → Forest
forest w = record {
  branch = λ v p. is_branch ((w.at v).mark p);
  fragment = λ v. (w.at v).fragment;
  coming = λ v. (w.at v).coming;
  coming_name = λ v. (w.at v).coming_name;
  up = λ v. (w.at v).up;
}

-- messages go out, one after another
abbrev pub push_all : Network → ℕ → Outgoing → (ℕ → ℕ → Seen) → ℕ → ℕ → Seen
push_all g v ss q = pushes add g v ss q

-- one act of a node: u becomes x, its own queues become own, and it sends ss
abbrev pub acts : Network → ℕ → Member → (ℕ → Seen) → Outgoing → Scene → Scene
acts g u x own ss w = record { at = put w.at u x; seen = push_all g u ss (put w.seen u own) }
