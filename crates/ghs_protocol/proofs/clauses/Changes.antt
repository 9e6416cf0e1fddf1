-- What the rows make of a member, and what they leave to be read at a node's ports.
use Rattle.std.specs.Prelude.{ℕ, Bool, true, Option, Some, None, List}
use Rattle.ghs_graph.specs.declared.key.Key.{Key}
use Rattle.ghs_node.specs.declared.mark.Mark.{Mark}
use Rattle.ghs_node.specs.declared.mark.Mark.TheVariants.{Basic, Branch, Rejected}
use Rattle.ghs_node.specs.declared.message.Phase.{Phase}
use Rattle.ghs_node.specs.declared.message.Phase.TheVariants.{Found}
use Rattle.ghs_node.specs.declared.message.Message.{Message}
use Rattle.ghs_node.specs.Words.{better, find_more}
use Rattle.peer_network.specs.Network.{Network, far, far_port}
use Rattle.peer_network.specs.Updates.{put}
use Rattle.ghs_protocol.proofs.clauses.Scene.{Seen, Member, Scene}

-- what is read at u's ports, with these tree messages, Tests or answers at j
abbrev pub left_tree : Scene → ℕ → ℕ → List Message → ℕ → Seen
left_tree w u j ms = put (w.seen u) j (record (w.seen u j) { tree = ms })

abbrev pub left_tests : Scene → ℕ → ℕ → List (ℕ × Key) → ℕ → Seen
left_tests w u j ts = put (w.seen u) j (record (w.seen u j) { tests = ts })

abbrev pub left_accepts : Scene → ℕ → ℕ → ℕ → ℕ → Seen
left_accepts w u j a = put (w.seen u) j (record (w.seen u j) { accepts = a })

abbrev pub left_rejects : Scene → ℕ → ℕ → ℕ → ℕ → Seen
left_rejects w u j r = put (w.seen u) j (record (w.seen u j) { rejects = r })

-- what is read at the far end of the link at port p of v
abbrev pub seen_beyond : Network → Scene → ℕ → ℕ → Seen
seen_beyond g w v p = w.seen (far g v p) (far_port g v p)

-- a Basic mark turns Rejected
abbrev pub rejected : Mark → Mark
rejected Basic = Rejected
rejected Branch = Branch
rejected Rejected = Rejected

abbrev pub marked : (ℕ → Mark) → ℕ → ℕ → Mark
marked f j = put f j (rejected (f j))

-- the far end of j lies inside
abbrev pub rules_out : Member → ℕ → Member
rules_out m j = record m { mark = marked m.mark j }

-- the same, and j is where it probed
abbrev pub took_reject : Member → ℕ → Member
took_reject m j = record m { mark = marked m.mark j; head = record m.head { probe = None } }

-- the far end of j, where it probed, lies outside; k is the link's key
abbrev pub took_accept : Member → ℕ → Key → Member
took_accept m j k = record m { head = record m.head { probe = None; best = better m.head.best j (Some k) } }

-- a child's Report came in, and c more are waited for
abbrev pub took_report : Member → ℕ → Option Key → ℕ → Member
took_report m j k c = record m { head = record m.head { find_count = c; best = better m.head.best j k } }

-- an Initiate came in at j, with o for probe and c Reports to wait for
abbrev pub took_initiate : Member → ℕ → Key → Phase → ℕ → Option ℕ → ℕ → Member
took_initiate m l n s j o c = record m {
  head = record m.head { level = l; name = Some n; phase = s; in_branch = Some j; best = None; probe = o; find_count = c };
}

-- one that doesn't call to search
abbrev pub took_rest : Member → ℕ → Key → ℕ → Member
took_rest m l n j = record m { head = record m.head { level = l; name = Some n; phase = Found; in_branch = Some j; best = None } }

-- whether it has halted is what b says
abbrev pub with_halt : Member → Bool → Member
with_halt m b = record m { head = record m.head { halted = b } }

-- it wakes and halts: it has no port
abbrev pub halts_alone : Member → Member
halts_alone m = record m { head = record m.head { phase = Found; halted = true } }

-- the root leaves over b, a Branch
abbrev pub pointing : Member → ℕ → Member
pointing m b = record m { up = Some b }

-- the root leaves over b, which becomes Branch
abbrev pub sent_out : Member → ℕ → Member
sent_out m b = record m { up = Some b; mark = put m.mark b Branch }

-- it takes in the fragment beyond j
abbrev pub took_child : Member → ℕ → Member
took_child m j = record m { head = record m.head { find_count = find_more m.head.phase m.head.find_count }; mark = put m.mark j Branch }

-- it wakes, and its least link becomes Branch
abbrev pub awakened : Member → Member
awakened m = record m { head = record m.head { level = 0; phase = Found; find_count = 0 }; mark = put m.mark 0 Branch; up = Some 0 }
