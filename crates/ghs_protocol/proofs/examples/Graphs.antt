-- Runs of small graphs to their end, computed from the definitions: what was sent, who halted, and the marks.
use Rattle.std.proofs.Common.{◌≡◌, ℕ, zero, suc, true, false, Bool, List, [], ◌∷◌, ◌++◌, refl}
use Rattle.ghs_graph.specs.declared.key.Key.{Key}
use Rattle.ghs_graph.specs.Ports.{ports_of}
use Rattle.ghs_node.specs.declared.mark.Mark.{Mark}
use Rattle.ghs_node.specs.declared.mark.Mark.TheVariants.{Branch, Rejected}
use Rattle.peer_network.specs.declared.event.Event.{Event}
use Rattle.peer_network.specs.declared.event.Event.TheVariants.{Wake, Take}
use Rattle.ghs_protocol.specs.Net.{Net}
use Rattle.ghs_protocol.specs.Run.{net_after}

abbrev key : ℕ → ℕ → ℕ → Key
key w a b = record { weight = w; a = a; b = b }

-- what is compared: how many Connects, Initiates, Tests, Accepts, Rejects, Reports and ChangeRoots were sent; and of each node
-- whether it has halted, and its marks
record Seen : Type 0 where
  sent : List ℕ
  halted : List Bool
  marks : List (List Mark)

-- of nodes 1 to n
abbrev each : {A : Type 0} → ℕ → (ℕ → A) → List A
each zero f = []
each (suc n) f = each n f ++ f (suc n) ∷ []

abbrev seen : ℕ → Net → Seen
seen n w = record {
  sent = w.sent 0 ∷ w.sent 1 ∷ w.sent 2 ∷ w.sent 3 ∷ w.sent 4 ∷ w.sent 5 ∷ w.sent 6 ∷ [];
  halted = each n (λ v. (w.node v).head.halted);
  marks = each n (λ v. (w.node v).marks);
}

-- what is seen of the net after these events of the graph with these links
abbrev outcome : ℕ → List Key → List Event → Seen
outcome n ks es = seen n (net_after (record { nodes = n; keys = ks }) es)

-- two nodes with two links: the Tests cross on the second and are not answered
abbrev twin : List Event
twin =
    Wake 1 ∷ Wake 2 ∷ Take 1 0 ∷ Take 2 0 ∷ Take 1 0 ∷ Take 2 0 ∷ Take 2 1 ∷ Take 1 0 ∷ Take 1 1 ∷ Take 2 0 ∷ []

twin-ends : outcome 2 (key 5 1 2 ∷ key 6 1 2 ∷ []) twin ≡ record {
  sent = 2 ∷ 2 ∷ 2 ∷ 0 ∷ 0 ∷ 2 ∷ 0 ∷ [];
  halted = false ∷ true ∷ [];
  marks = (Branch ∷ Rejected ∷ []) ∷ (Branch ∷ Rejected ∷ []) ∷ [];
}
unfolding net_after ports_of
twin-ends = refl

-- three nodes in a row: a Test is rejected on a link that has become Branch
abbrev path : List Event
path =
    Wake 1 ∷ Wake 2 ∷ Wake 3 ∷ Take 1 0 ∷ Take 2 0 ∷ Take 2 1 ∷ Take 1 0 ∷ Take 2 0 ∷ Take 2 1 ∷ Take 3 0 ∷
    Take 2 0 ∷ Take 3 0 ∷ Take 2 0 ∷ Take 2 1 ∷ Take 3 0 ∷ Take 2 0 ∷ Take 2 1 ∷ Take 1 0 ∷ []

path-ends : outcome 3 (key 5 1 2 ∷ key 7 2 3 ∷ []) path ≡ record {
  sent = 3 ∷ 3 ∷ 1 ∷ 0 ∷ 1 ∷ 3 ∷ 0 ∷ [];
  halted = true ∷ false ∷ false ∷ [];
  marks = (Branch ∷ []) ∷ (Branch ∷ Branch ∷ []) ∷ (Branch ∷ []) ∷ [];
}
unfolding net_after ports_of
path-ends = refl

-- a triangle: two Tests cross on its heaviest link
abbrev triangle : List Event
triangle =
    Wake 1 ∷ Wake 2 ∷ Wake 3 ∷ Take 1 0 ∷ Take 2 0 ∷ Take 2 1 ∷ Take 1 0 ∷ Take 2 0 ∷ Take 2 1 ∷ Take 3 0 ∷
    Take 3 1 ∷ Take 3 0 ∷ Take 3 1 ∷ Take 1 1 ∷ Take 2 0 ∷ Take 2 1 ∷ Take 3 0 ∷ Take 2 0 ∷ Take 2 1 ∷ Take 1 0 ∷ []

triangle-ends : outcome 3 (key 1 1 2 ∷ key 2 2 3 ∷ key 3 1 3 ∷ []) triangle ≡ record {
  sent = 3 ∷ 3 ∷ 3 ∷ 0 ∷ 1 ∷ 3 ∷ 0 ∷ [];
  halted = true ∷ false ∷ false ∷ [];
  marks = (Branch ∷ Rejected ∷ []) ∷ (Branch ∷ Branch ∷ []) ∷ (Branch ∷ Rejected ∷ []) ∷ [];
}
unfolding net_after ports_of
triangle-ends = refl

-- four nodes in a row: two fragments of level 1 merge to one of level 2
abbrev four : List Event
four =
    Wake 1 ∷ Wake 2 ∷ Wake 3 ∷ Wake 4 ∷ Take 1 0 ∷ Take 2 0 ∷ Take 3 0 ∷ Take 4 0 ∷ Take 1 0 ∷ Take 2 0 ∷
    Take 3 0 ∷ Take 3 1 ∷ Take 4 0 ∷ Take 2 0 ∷ Take 2 1 ∷ Take 3 0 ∷ Take 3 1 ∷ Take 4 0 ∷ Take 2 0 ∷ Take 2 1 ∷
    Take 3 0 ∷ Take 1 0 ∷ Take 2 0 ∷ Take 2 1 ∷ Take 3 1 ∷ Take 2 1 ∷ Take 3 1 ∷ Take 4 0 ∷ Take 1 0 ∷ Take 2 0 ∷
    Take 3 0 ∷ Take 3 1 ∷ []

four-ends : outcome 4 (key 1 1 2 ∷ key 2 3 4 ∷ key 3 2 3 ∷ []) four ≡ record {
  sent = 6 ∷ 8 ∷ 2 ∷ 2 ∷ 0 ∷ 8 ∷ 0 ∷ [];
  halted = false ∷ false ∷ true ∷ false ∷ [];
  marks = (Branch ∷ []) ∷ (Branch ∷ Branch ∷ []) ∷ (Branch ∷ Branch ∷ []) ∷ (Branch ∷ []) ∷ [];
}
unfolding net_after ports_of
four-ends = refl

-- five nodes in a row: the core moves once
abbrev five : List Event
five =
    Wake 1 ∷ Wake 2 ∷ Wake 3 ∷ Wake 4 ∷ Wake 5 ∷ Take 1 0 ∷ Take 2 0 ∷ Take 2 1 ∷ Take 4 0 ∷ Take 5 0 ∷
    Take 1 0 ∷ Take 2 0 ∷ Take 2 1 ∷ Take 3 0 ∷ Take 4 0 ∷ Take 5 0 ∷ Take 2 0 ∷ Take 3 0 ∷ Take 3 1 ∷ Take 4 0 ∷
    Take 4 1 ∷ Take 2 0 ∷ Take 3 0 ∷ Take 3 1 ∷ Take 4 0 ∷ Take 4 1 ∷ Take 5 0 ∷ Take 2 0 ∷ Take 2 1 ∷ Take 4 0 ∷
    Take 2 0 ∷ Take 2 1 ∷ Take 3 1 ∷ Take 1 0 ∷ Take 2 0 ∷ Take 3 0 ∷ Take 3 1 ∷ Take 4 1 ∷ Take 3 1 ∷ Take 4 1 ∷
    Take 5 0 ∷ Take 2 1 ∷ Take 4 0 ∷ Take 1 0 ∷ Take 2 0 ∷ Take 3 0 ∷ Take 3 1 ∷ []

five-ends : outcome 5 (key 1 1 2 ∷ key 2 2 3 ∷ key 3 4 5 ∷ key 4 3 4 ∷ []) five ≡ record {
  sent = 7 ∷ 10 ∷ 3 ∷ 2 ∷ 1 ∷ 10 ∷ 1 ∷ [];
  halted = false ∷ false ∷ true ∷ false ∷ false ∷ [];
  marks = (Branch ∷ []) ∷ (Branch ∷ Branch ∷ []) ∷ (Branch ∷ Branch ∷ []) ∷ (Branch ∷ Branch ∷ []) ∷ (Branch ∷ []) ∷ [];
}
unfolding net_after ports_of
five-ends = refl
