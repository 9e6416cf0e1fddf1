-- What pays for the messages: a level that a node has risen to, or a port. Nothing is remembered for it but what the invariant remembers.
use Rattle.std.specs.Prelude.{◌≡◌, ◌≢◌, ℕ, zero, suc, ◌+◌, ◌≤◌, ◌<◌, Bool, true, false, ◌&&◌, nat_le, Option, Some, None, List, [], ◌∷◌, if◌then◌else◌}
use Rattle.ghs_graph.specs.declared.key.Key.{Key}
use Rattle.ghs_node.specs.declared.head.Head.{Head}
use Rattle.ghs_node.specs.declared.mark.Mark.{Mark}
use Rattle.ghs_node.specs.declared.mark.Mark.TheVariants.{Basic, Branch, Rejected}
use Rattle.ghs_node.specs.declared.message.Phase.{Phase}
use Rattle.ghs_node.specs.declared.message.Phase.TheVariants.{Sleeping, Find, Found}
use Rattle.ghs_node.specs.declared.message.Message.{Message}
use Rattle.ghs_node.specs.Words.{is_at}
use Rattle.peer_network.specs.Network.{Network, far, far_port, At, InNetwork}
use Rattle.ghs_protocol.specs.Net.{Net}
use Rattle.ghs_protocol.specs.Ledger.{of_kind}
use Rattle.peer_network.specs.Sums.{sum_over_nodes, sum_over_ports}
use Rattle.ghs_protocol.specs.Payments.{testing}
use Rattle.ghs_protocol.proofs.clauses.Scene.{Ghost, Scene, scene, end, TestEnd, test_end}
use Rattle.ghs_protocol.proofs.clauses.Whole.{opening_ghost}
use Rattle.ghs_protocol.proofs.clauses.Floors.{Sound}

-- 1 where a node searches
abbrev pub finding : Phase → ℕ
finding Sleeping = 0
finding Find = 1
finding Found = 0

-- 1 where a node's way to the root isn't its way to the core: since its last Initiate it has sent the root on
abbrev pub moved_on : Option ℕ → Option ℕ → ℕ
moved_on core None = 0
moved_on core (Some p) = if is_at core p then 0 else 1

-- 1 where a port is probed, or the level is the highest there is
abbrev pub busy : ℕ → ℕ → Option ℕ → ℕ
busy k zero o = testing o
busy k (suc l) o = if nat_le k (suc l) then 1 else testing o

-- 1 where a Test waits
abbrev pub any_test : List (ℕ × Key) → Bool
any_test [] = false
any_test (t ∷ ts) = true

-- An end pays once, for a Reject that it sends or for a Test of its own that ends in no Accept. It can't have paid where its mark is
-- Basic, while it probes the link, while the far end's Test waits here, nor before the far end has a mark or probes the link.
abbrev pub settled : Bool → Mark → Mark → ℕ
settled b Basic n = 0
settled b Branch Basic = 0
settled b Branch Branch = 1
settled b Branch Rejected = 1
settled b Rejected Basic = if b then 1 else 0
settled b Rejected Branch = 1
settled b Rejected Rejected = 1

-- whether this end probes the link, and the far end; whether a Test waits here; the two marks
abbrev pub due : Bool → Bool → Bool → Mark → Mark → ℕ
due own b t m n = if own then 0 else (if b && t then 0 else settled b m n)

-- 1 where e may have paid
abbrev pub paid : TestEnd → TestEnd → ℕ
paid e f = due (is_at e.probe e.port) (is_at f.probe f.port) (any_test e.tests) e.mark f.mark

-- the same in a scene, and in a net, of which what is remembered doesn't matter here
abbrev pub paid_at : Network → Scene → ℕ → ℕ → ℕ
paid_at g w v p = paid (test_end (end g w v p)) (test_end (end g w (far g v p) (far_port g v p)))

abbrev pub paid_in : Network → Net → ℕ
paid_in g w = sum_over_ports g (paid_at g (scene w opening_ghost))

-- who has sent the root on, and who has found a link that leads out, is below the highest level
pub record IsLow (k : ℕ) (h : Head) (up : Option ℕ) : Type 0 where
  pub moved : 1 ≤ moved_on h.in_branch up → h.level < k
  pub best : h.best ≢ None → h.level < k

-- What was sent is at most what is paid, k being the highest level.
pub record Charges (g : Network) (k : ℕ) (up : ℕ → Option ℕ) (w : Net) : Type 0 where
  -- each Initiate that came in has raised a level
  pub calls : w.consumed 1 ≤ sum_over_nodes g (λ v. (w.node v).head.level)
  -- a Report and a search that goes on, one a level
  pub reports : w.sent 5 + sum_over_nodes g (λ v. finding (w.node v).head.phase) ≤ sum_over_nodes g (λ v. (w.node v).head.level)
  -- a Connect or ChangeRoot, one a level that is left, and one at the present level
  pub roots : w.sent 0 + w.sent 6 ≤ sum_over_nodes g (λ v. (w.node v).head.level) + sum_over_nodes g (λ v. moved_on (w.node v).head.in_branch (up v))
  -- an Accept that came in, or a Test that is out, one a level
  pub accepts :
      w.consumed 3 + sum_over_nodes g (λ v. busy k (w.node v).head.level (w.node v).head.probe) ≤ sum_over_nodes g
      (λ v. (w.node v).head.level)
  -- each Test has its Accept, or is out, or is paid by a port; so is each Reject
  pub tests : w.sent 2 + w.sent 4 ≤ w.consumed 3 + sum_over_nodes g (λ v. testing (w.node v).head.probe) + paid_in g w
  pub low : (v : ℕ) → InNetwork g v → IsLow k (w.node v).head (up v)

-- What one act of a node pays: its head was h, with this way to the root, and is x; ss are the kinds sent, c counts what came in; ports pay d.
pub record Pays (k : ℕ) (h : Head) (o : Option ℕ) (x : Head) (o' : Option ℕ) (c : ℕ → ℕ) (ss : List Message) (d : ℕ) : Type 0 where
  pub calls : c 1 + h.level ≤ x.level
  pub reports : of_kind 5 ss + (finding x.phase + h.level) ≤ x.level + finding h.phase
  pub roots : of_kind 0 ss + of_kind 6 ss + (h.level + moved_on h.in_branch o) ≤ x.level + moved_on x.in_branch o'
  pub accepts : c 3 + (busy k x.level x.probe + h.level) ≤ x.level + busy k h.level h.probe
  pub tests : of_kind 2 ss + of_kind 4 ss + testing h.probe ≤ c 3 + testing x.probe + d
  pub low : IsLow k x o'
  -- a level that is left is left by an Initiate alone
  pub rises : h.level < x.level → (c 1 ≤ 1) × (c 3 ≡ 0) × (of_kind 0 ss + of_kind 6 ss ≡ 0) × (of_kind 5 ss + finding x.phase ≤ 1)

-- no port has paid less than before, and port p of node v pays a more
pub record Rises (g : Network) (w w' : Scene) (v p a : ℕ) : Type 0 where
  pub stays : (u q : ℕ) → At g u q → paid_at g w u q ≤ paid_at g w' u q
  pub more : 1 ≤ a → At g v p × (paid_at g w v p + a ≤ paid_at g w' v p)

-- node v has acted, and paid
pub record Acted (g : Network) (k v : ℕ) (up up' : ℕ → Option ℕ) (w w' : Net) : Type 0 where
  pub came : ℕ → ℕ
  pub kinds : List Message
  pub port : ℕ
  pub paid_more : ℕ
  pub there : (u : ℕ) → u ≢ v → w'.node u ≡ w.node u
  pub ways : (u : ℕ) → u ≢ v → up' u ≡ up u
  pub sent : (j : ℕ) → w'.sent j ≡ w.sent j + of_kind j kinds
  pub consumed : (j : ℕ) → w'.consumed j ≡ w.consumed j + came j
  pub ports : Rises g (scene w opening_ghost) (scene w' opening_ghost) v port paid_more
  pub pays : Pays k (w.node v).head (up v) (w'.node v).head (up' v) came kinds paid_more

-- some memory with these ways to the root makes all clauses of floors hold
pub record SoundWith (g : Network) (up : ℕ → Option ℕ) (n : Net) : Type 0 where
  pub ghost : Ghost
  pub holds : Sound g (scene n ghost)
  pub ups : ghost.up ≡ up

-- and charges are paid
pub record HasCharges (g : Network) (k : ℕ) (n : Net) : Type 0 where
  pub up : ℕ → Option ℕ
  pub sound : SoundWith g up n
  pub charges : Charges g k up n
