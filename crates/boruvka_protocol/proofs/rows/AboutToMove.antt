-- A node that holds the token of its class, at rest, and is about to move.
use Rattle.std.specs.Prelude.{◌≡◌, ℕ, Some, None, List}
use Rattle.ghs_graph.specs.declared.key.Key.{Key}
use Rattle.boruvka_protocol.specs.Levels.{InClass, IsOfLevel}
use Rattle.peer_network.specs.Network.{Network, InNetwork}
use Rattle.peer_machine.specs.Net.{Net}
use Rattle.boruvka_node.specs.declared.message.Message.{Message}
use Rattle.boruvka_node.specs.declared.message.Phase.TheVariants.{Rest}
use Rattle.boruvka_node.specs.State.{State}
use Rattle.boruvka_protocol.proofs.invariant.Words.{IsLeast}
use Rattle.boruvka_protocol.proofs.invariant.Token.{Token, RootIsPast, TokenFits, HaltsFit}
use Rattle.boruvka_protocol.proofs.invariant.Whole.{Ground, NodesFit, LinksFit, SearchesFit, SearchersLack}

-- tokens of all classes but that of v at its level, whose token v itself holds
pub record TokensBut (ks : List Key) (g : Network) (w : Net State Message) (v : ℕ) : Type 0 where
  pub halted : HaltsFit ks g w
  pub past : RootIsPast ks g w (w.node v).head.level v
  pub none : Token ks g w (w.node v).head.level v → ⊥
  pub one : (l u : ℕ) → InNetwork g u → IsOfLevel ks l u → (l ≡ (w.node v).head.level → InClass ks l v u → ⊥) → TokenFits ks g w l u

pub record AboutToMove (ks : List Key) (g : Network) (w : Net State Message) (v : ℕ) : Type 0 where
  pub ground : Ground g w
  pub nodes : NodesFit ks g w
  pub links : LinksFit ks g w
  pub search : SearchesFit ks g w
  pub lacks : SearchersLack g w
  pub rest : (w.node v).head.phase ≡ Rest
  pub stays : (w.node v).head.out ≡ None
  pub best : ℕ × Key
  pub is : (w.node v).head.best ≡ Some best
  pub least : IsLeast ks (w.node v).head.level v best.1
  pub tokens : TokensBut ks g w v
