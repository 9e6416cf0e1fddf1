-- Clauses of the order in a queue, beside the invariant: with them no Name is left at a port that isn't Basic any more. OrderKept proves them.
use Rattle.std.proofs.Common.{◌≡◌, ℕ, ⊎_elim, List, [], ◌∷◌, length, arith}
use Rattle.std.proofs.lemmas.Bool.{both_ways, cases_lt}
use Rattle.ghs_graph.specs.declared.key.Key.{Key}
use Rattle.ghs_graph.specs.Graph.{Shape}
use Rattle.peer_network.specs.Network.{network_of, far, At}
use Rattle.boruvka_protocol.specs.Levels.{InClass}
use Rattle.peer_machine.specs.Net.{Net}
use Rattle.boruvka_node.specs.declared.mark.Mark.{Mark}
use Rattle.boruvka_node.specs.declared.mark.Mark.TheVariants.{Asked, Branch, Inside}
use Rattle.boruvka_node.specs.declared.message.Message.{Message}
use Rattle.boruvka_node.specs.declared.message.Message.TheVariants.{Connect, Initiate, Name, Report, ChangeRoot}
use Rattle.boruvka_node.specs.Words.{is_basic}
use Rattle.boruvka_node.specs.State.{State, port_at, mark_at}
use Rattle.boruvka_protocol.proofs.invariant.Sides.{Side, Heard, names_in, calls_in}
use Rattle.boruvka_protocol.proofs.invariant.Marks.{MarksFit}
use Rattle.boruvka_protocol.proofs.invariant.Names.{NamesFit}
use Rattle.boruvka_protocol.proofs.invariant.Whole.{Holds}
use Rattle.boruvka_protocol.proofs.follows.Cases.{mark_cases}
use Rattle.boruvka_protocol.proofs.follows.Seen.{SeenAt, seen}
use Rattle.boruvka_protocol.proofs.follows.Halt.{NamesEnd, none_in}

-- Names stand before all else
abbrev pub NamesFirst : List Message → Type 0
NamesFirst [] = Unit
NamesFirst (Connect l ∷ ms) = names_in ms ≡ []
NamesFirst (Initiate l f ∷ ms) = names_in ms ≡ []
NamesFirst (Name l f ∷ ms) = NamesFirst ms
NamesFirst (Report k ∷ ms) = names_in ms ≡ []
NamesFirst (ChangeRoot ∷ ms) = names_in ms ≡ []

-- A link from v to u: v has this mark at its port, has heard this level there, and ms is what waits there.
pub record OrderFits (ks : List Key) (v u : ℕ) (mark : Mark) (heard : ℕ) (ms : List Message) : Type 0 where
  pub first : NamesFirst ms
  -- no Name waits where a Connect was noted, nor at a Branch port
  pub asked : mark ≡ Asked → names_in ms ≡ []
  pub branch : mark ≡ Branch → names_in ms ≡ []
  -- Inside: at the level heard one class holds both ends
  pub inside : mark ≡ Inside → InClass ks heard v u

-- nor at an Inside port, as Names are told up to the level that joins its ends
pub none_inside : (ks : List Key) (e f : Side) (heard : Heard) (ms : List Message) → MarksFit ks e f heard.level (calls_in ms) →
    NamesFit ks e f heard (names_in ms) → OrderFits ks e.node f.node e.mark heard.level ms → e.mark ≡ Inside → names_in ms ≡ []
none_inside ks e f heard ms m n o i = none_in (names_in ms) (⊎_elim
    (λ some. absurd ((n.all.aside (m.inside i).1).apart heard.level (omega (arith, some)) (o.inside i)))
    (λ none. none)
    (cases_lt 0 (length (names_in ms))))

-- the order at port p of v
abbrev pub OrderAt : Shape → Net State Message → ℕ → ℕ → Type 0
OrderAt g w v p = OrderFits g.keys v (far (network_of g) v p) (mark_at (w.node v) p) (port_at (w.node v) p).level (w.queue v p)

-- at each port of a net
abbrev pub Ordered : Shape → Net State Message → Type 0
Ordered g w = (v p : ℕ) → At (network_of g) v p → OrderAt g w v p

module _ (g : Shape) (w : Net State Message) (h : Holds g w) (order : Ordered g w) where
  pub names_end : NamesEnd g w
  names_end v p at other = ⊎_elim
      (λ basic. absurd (both_ways (is_basic (mark_at (w.node v) p)) other basic))
      (λ o. ⊎_elim
      (λ b. (order v p at).branch b)
      (λ i. none_inside g.keys _ _ _ (w.queue v p) s.marks s.names (order v p at) i)
      o)
      (mark_cases (mark_at (w.node v) p))
    where
      s : SeenAt g w v p
      s = seen g w h v p at
