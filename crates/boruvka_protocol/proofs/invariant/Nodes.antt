-- Clauses of one node: its level, name and parent are those of its class.
use Rattle.std.specs.Prelude.{◌≡◌, ◌≢◌, ℕ, ◌<◌, true, Option, Some, None, List}
use Rattle.ghs_graph.specs.declared.key.Key.{Key}
use Rattle.boruvka_protocol.specs.Levels.{IsOfLevel}
use Rattle.boruvka_node.specs.declared.message.Phase.TheVariants.{Sleeping, Rest}
use Rattle.boruvka_node.specs.State.{State, degree, key_at}
use Rattle.boruvka_protocol.proofs.invariant.Words.{IsName, IsRoot, IsWayUp}

module _ (ks : List Key) where
  -- the parent is the port that leads up; the root has none
  abbrev pub ParentIs : ℕ → ℕ → State → Option ℕ → Type 0
  ParentIs l v n None = IsRoot ks l v
  ParentIs l v n (Some p) = (p < degree n) × IsWayUp ks l v (key_at n p)

  -- what a node of level 0 has done: without a port it has halted, and else it has gone out over its least port
  pub record IsOut (n : State) : Type 0 where
    pub rest : n.head.phase ≡ Rest
    pub best : n.head.best ≡ None
    pub alone : ◌≡◌ {A = ℕ} (degree n) 0 → n.head.halted ≡ true
    pub out : 0 < degree n → n.head.out ≡ Some 0

  -- a node that is awake
  pub record NodeFits (v : ℕ) (n : State) : Type 0 where
    pub class : IsOfLevel ks n.head.level v
    pub name : IsName ks n.head.level v n.head.name
    pub parent : ParentIs n.head.level v n n.head.parent
    pub ground : ◌≡◌ {A = ℕ} n.head.level 0 → IsOut n
    -- the Connect of its level went out on a port
    pub out_port : (p : ℕ) → n.head.out ≡ Some p → p < degree n

  abbrev pub AwakeFits : ℕ → State → Type 0
  AwakeFits v n = n.head.phase ≢ Sleeping → NodeFits v n
