-- A link aside of the forest: it is taken at no level, and is nobody's least way out; so nothing waits there but Names.
use Rattle.std.proofs.Common.{ℕ, suc, List}
use Rattle.ghs_graph.specs.declared.key.Key.{Key}
use Rattle.ghs_graph.specs.Links.{InTree}
use Rattle.boruvka_protocol.specs.Levels.{Taken}
use Rattle.boruvka_protocol.proofs.lemmas.Cuts.{taken_in_tree, least_in_tree}
use Rattle.boruvka_node.specs.declared.message.Message.{Message}
use Rattle.boruvka_protocol.proofs.invariant.Words.{IsLeast}
use Rattle.boruvka_protocol.proofs.invariant.Sides.{Side}
use Rattle.boruvka_protocol.proofs.invariant.TreeMessages.{CallsFit, Nothing, Chosen, Called, Chosen_called, Reported, Passed}

module _ (ks : List Key) (k : Key) (aside : InTree ks k → ⊥) where
  pub never_taken : {P : Type 0} (l : ℕ) → Taken ks l k → P
  never_taken l t = absurd (aside (taken_in_tree ks l k t))

  pub never_least : {P : Type 0} (l v : ℕ) → IsLeast ks l v k → P
  never_least l v least = absurd (aside (least_in_tree ks (Taken ks l) v k least))

-- so whatever waits fits any ends
pub calls_aside : (ks : List Key) (e f e' f' : Side) → (InTree ks e.key → ⊥) → (x : List Message) → CallsFit ks e f x →
    CallsFit ks e' f' x
calls_aside ks e f e' f' aside _ Nothing = Nothing
calls_aside ks e f e' f' aside _ (Chosen m c) = never_least ks e.key aside m f.node c.chosen.least
calls_aside ks e f e' f' aside _ (Called l name d) = never_taken ks e.key aside (suc e.level) d.up.up.link
calls_aside ks e f e' f' aside _ (Chosen_called m l name c d) = never_least ks e.key aside m f.node c.chosen.least
calls_aside ks e f e' f' aside _ (Reported least d) = never_taken ks e.key aside e.level d.up.up.link
calls_aside ks e f e' f' aside _ (Passed d) = never_taken ks e.key aside e.level d.up.up.link
