-- A node that has heard something, and goes on with its search.
use Rattle.std.proofs.Common.{◌≡◌, ℕ, ◌==◌, true, false, List, refl, sym, subst, ⊎_elim, arith}
use Rattle.std.proofs.lemmas.Bool.{cases_eq, and_cases, both_ways, eqb-false}
use Rattle.ghs_graph.specs.declared.key.Key.{Key}
use Rattle.peer_network.specs.Network.{Network}
use Rattle.peer_machine.specs.Net.{Net}
use Rattle.boruvka_node.specs.declared.message.Message.{Message}
use Rattle.boruvka_node.specs.declared.message.Phase.{Phase}
use Rattle.boruvka_node.specs.Words.{is_search}
use Rattle.boruvka_node.specs.State.{State, missing}
use Rattle.boruvka_node.specs.Reaction.{is_over}
use Rattle.boruvka_protocol.proofs.invariant.Search.{LacksSome}
use Rattle.boruvka_protocol.proofs.invariant.Whole.{Fits, NearlyFits}

-- a search that isn't over waits for something
not_over : (n : State) → is_over n ≡ false → LacksSome n
not_over n over s = ⊎_elim
    (λ a. absurd (both_ways (is_search n.head.phase) a (subst (λ (x : Phase). is_search x ≡ true) (sym s) refl)))
    (λ b. let ne = eqb-false (missing n) 0 b in omega (arith, ne))
    (and_cases (is_search n.head.phase) (missing n == 0) over)

-- close, where the search isn't over: all clauses hold
pub goes_on_fits : (ks : List Key) (g : Network) (w : Net State Message) (v : ℕ) → NearlyFits ks g w v → is_over (w.node v) ≡ false → Fits ks g w
goes_on_fits ks g w v h over = record {
  ground = h.ground;
  nodes = h.nodes;
  links = h.links;
  search = h.search;
  lacks = λ u at. ⊎_elim
      (λ (e : u ≡ v). subst (λ y. LacksSome (w.node y)) (sym e) (not_over (w.node v) over))
      (λ ne. h.others u at ne)
      (cases_eq u v);
  tokens = h.tokens;
}
