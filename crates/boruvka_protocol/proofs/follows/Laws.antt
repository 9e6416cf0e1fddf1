-- The laws that follow where every net of a run keeps the invariant.
use Rattle.ghs_graph.specs.Graph.{Shape}
use Rattle.peer_machine.specs.Net.{Net}
use Rattle.peer_machine.specs.Run.{IsNetOf}
use Rattle.boruvka_node.specs.declared.message.Message.{Message}
use Rattle.boruvka_node.specs.State.{State}
use Rattle.boruvka_node.specs.Boruvka.{boruvka}
use Rattle.boruvka_protocol.specs.Laws.{EventsHaveRules, BranchLinksInTree, InsideLinksAside, SilenceIsEnd, HaltIsEnd}
use Rattle.boruvka_protocol.proofs.invariant.Whole.{Holds}
use Rattle.boruvka_protocol.proofs.follows.Tree.{branch_in_tree, inside_aside}
use Rattle.boruvka_protocol.proofs.follows.Rules.{lawful_has_rule}
use Rattle.boruvka_protocol.proofs.follows.Silence.{ends_in_silence}
use Rattle.boruvka_protocol.proofs.follows.Halt.{ends_at_halt}
use Rattle.boruvka_protocol.proofs.follows.OrderKept.{names_end_in_runs}

module _ (every : (g : Shape) (w : Net State Message) → IsNetOf boruvka g w → Holds g w) where
  pub events_have_rules : EventsHaveRules
  events_have_rules g w is e lawful = lawful_has_rule g w (every g w is) e lawful

  pub branch_links_in_tree : BranchLinksInTree
  branch_links_in_tree g w is k branch = branch_in_tree g w (every g w is) k branch

  pub inside_links_aside : InsideLinksAside
  inside_links_aside g w is k inside = inside_aside g w (every g w is) k inside

  pub silence_is_end : SilenceIsEnd
  silence_is_end g w is v net woke quiet = ends_in_silence g w (every g w is) v net quiet woke

  pub halt_is_end : HaltIsEnd
  halt_is_end g w is v net halted = ends_at_halt g w (every g w is) (names_end_in_runs every g w is) v net halted
