-- What is always under way: a probe's Test or the answer, the Initiates that bring a child to its parent's level, the Report of a
-- core end that is done.
-- Each clause names only what it reads, part by part, so that it stays the same fact when anything else changes.
use Rattle.std.specs.Prelude.{◌≡◌, ◌≢◌, ℕ, ◌≤◌, Bool, true, false, ◌&&◌, Option, Some, None, List, [], ◌∷◌, length}
use Rattle.ghs_graph.specs.declared.key.Key.{Key}
use Rattle.ghs_node.specs.declared.mark.Mark.TheVariants.{Branch}
use Rattle.ghs_node.specs.declared.message.Phase.{Phase}
use Rattle.ghs_node.specs.declared.message.Phase.TheVariants.{Sleeping, Find, Found}
use Rattle.ghs_node.specs.declared.message.Message.{Message}
use Rattle.ghs_node.specs.declared.message.Message.TheVariants.{Initiate}
use Rattle.ghs_node.specs.Words.{Best, below, best_key, is_zero, is_missing}
use Rattle.peer_network.specs.Network.{Network, far, far_port, At, InNetwork}
use Rattle.ghs_protocol.proofs.clauses.Scene.{Scene, Member, End, end}
use Rattle.ghs_protocol.proofs.clauses.Rest.{has_report}

-- what is under way for a probe: its Test at the far end, the answer, or the far end's own Test here, which the probe's has crossed
pub data Answering (across : List (ℕ × Key)) (accepts rejects : ℕ) (own : List (ℕ × Key)) (probe : Option ℕ) (port : ℕ) : Type 0 where
  Test_there : 1 ≤ length across → Answering across accepts rejects own probe port
  Accept_here : 1 ≤ accepts → Answering across accepts rejects own probe port
  Reject_here : 1 ≤ rejects → Answering across accepts rejects own probe port
  Crossed_here : 1 ≤ length own → probe ≢ Some port → Answering across accepts rejects own probe port

-- a probe has something under way
abbrev pub ProbeAsks : End → End → Type 0
ProbeAsks e f = e.is.head.probe ≡ Some e.port → Answering f.seen.tests e.seen.accepts e.seen.rejects e.seen.tests f.is.head.probe f.port

-- the level to which the Initiates among them bring a node of level l
abbrev pub brought_to : ℕ → List Message → ℕ
brought_to l [] = l
brought_to l (Initiate k f s ∷ ms) = brought_to k ms
brought_to l (_ ∷ ms) = brought_to l ms

-- e is a child's end, and f its parent's
abbrev pub IsChild : End → End → Type 0
IsChild e f = (e.mark ≡ Branch) × (f.mark ≡ Branch) × (e.is.up ≡ Some e.port) × (f.is.up ≢ Some f.port)

-- the Initiates on their way bring a child to its parent's level
abbrev pub ChildBrought : End → End → Type 0
ChildBrought e f = IsChild e f → brought_to e.is.head.level e.seen.tree ≡ f.is.head.level

-- a core link: the way of both its ends, and the one of the coming name
abbrev pub IsCore : End → End → Type 0
IsCore e f = (e.mark ≡ Branch) × (f.mark ≡ Branch) × (e.is.up ≡ Some e.port) × (f.is.up ≡ Some f.port) × (e.is.coming_name ≡ Some e.key)

-- a core end, of this level, coming level, phase, best link and halt, has heard the Report of an end whose best link is other, and its own isn't less
pub record HeardBy (level coming : ℕ) (phase : Phase) (best other : Best) (halted : Bool) : Type 0 where
  pub top : level ≡ coming
  pub done : phase ≡ Found
  pub key : below (best_key best) (best_key other) ≡ false
  pub halts : other ≡ None → best ≡ None → halted ≡ true

-- the Report of a core end that is done is under way, or was heard without a move of the root
abbrev pub CoreHeard : End → End → Type 0
CoreHeard e f =
    IsCore e f →
    e.is.head.level ≡ e.is.coming →
    e.is.head.phase ≡ Found →
    has_report f.seen.tree ≡ false →
    HeardBy f.is.head.level f.is.coming f.is.head.phase f.is.head.best e.is.head.best f.is.head.halted

-- all three, of each link from each end
pub record Lives (g : Network) (w : Scene) : Type 0 where
  pub asks : (v p : ℕ) → At g v p → ProbeAsks (end g w v p) (end g w (far g v p) (far_port g v p))
  pub brought : (v p : ℕ) → At g v p → ChildBrought (end g w v p) (end g w (far g v p) (far_port g v p))
  pub heard : (v p : ℕ) → At g v p → CoreHeard (end g w v p) (end g w (far g v p) (far_port g v p))

-- who is awake without ports has halted
abbrev pub NoPortHalts : ℕ → Member → Type 0
NoPortHalts n m = m.head.phase ≢ Sleeping → ◌≡◌ {A = ℕ} n 0 → m.head.halted ≡ true

-- who searches waits for Reports or for an answer
abbrev pub FindAwaits : Member → Type 0
FindAwaits m = m.head.phase ≡ Find → (is_zero m.head.find_count && is_missing m.head.probe) ≡ false

-- the same, with what holds of each node
pub record Living (g : Network) (w : Scene) : Type 0 where
  pub no_port : (v : ℕ) → InNetwork g v → NoPortHalts (length (g.ports v)) (w.at v)
  pub awaits : (v : ℕ) → InNetwork g v → FindAwaits (w.at v)
  pub links : Lives g w
