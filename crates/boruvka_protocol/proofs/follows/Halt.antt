-- A halt is the end: no message waits in the component of a node that has halted.
--
-- For the Names one fact is wanted that the invariant doesn't say: none waits at a port that isn't Basic any more (OrderKept).
use Rattle.std.proofs.Common.{◌≡◌, ℕ, ◌≤◌, ⊎_elim, true, false, List, [], ◌∷◌, length, refl, ◌∙◌, subst, arith}
use Rattle.std.proofs.lemmas.Bool.{cases_Bool, cases_lt}
use Rattle.ghs_graph.specs.declared.key.Key.{Key}
use Rattle.ghs_graph.specs.Graph.{Shape}
use Rattle.ghs_graph.specs.Links.{Joined, links}
use Rattle.ghs_graph.proofs.lemmas.Joining.{joined_then, joined_back}
use Rattle.peer_network.specs.Network.{network_of, far, InNetwork, At}
use Rattle.boruvka_protocol.specs.Levels.{HasWayOut}
use Rattle.boruvka_protocol.proofs.lemmas.WaysOut.{way_out_at}
use Rattle.peer_machine.specs.Net.{Net}
use Rattle.boruvka_node.specs.declared.message.Message.{Message}
use Rattle.boruvka_node.specs.declared.message.Message.TheVariants.{Connect, Initiate, Name, Report, ChangeRoot}
use Rattle.boruvka_node.specs.declared.message.Phase.TheVariants.{Rest}
use Rattle.boruvka_node.specs.Words.{is_basic}
use Rattle.boruvka_node.specs.State.{State, mark_at}
use Rattle.boruvka_protocol.specs.Laws.{IsWholeAt, IsSilentAt}
use Rattle.boruvka_protocol.specs.Marks.{HasHalted}
use Rattle.boruvka_protocol.proofs.invariant.Sides.{Side, Heard, Told, names_in, calls_in}
use Rattle.boruvka_protocol.proofs.invariant.Names.{NamesFit}
use Rattle.boruvka_protocol.proofs.invariant.Connects.{ConnectFits}
use Rattle.boruvka_protocol.proofs.invariant.TreeMessages.{CallsFit}
use Rattle.boruvka_protocol.proofs.invariant.Whole.{Holds}
use Rattle.boruvka_protocol.proofs.rows.Parts.{none_by}
use Rattle.boruvka_protocol.proofs.follows.Cases.{not_both}
use Rattle.boruvka_protocol.proofs.follows.Ways.{over}
use Rattle.boruvka_protocol.proofs.follows.Seen.{SeenAt, seen}
use Rattle.boruvka_protocol.proofs.follows.Tree.{Done, halted_done, halted_whole}

-- no Name waits at a port that isn't Basic
abbrev pub NamesEnd : Shape → Net State Message → Type 0
NamesEnd g w = (u p : ℕ) → At (network_of g) u p → is_basic (mark_at (w.node u) p) ≡ false → names_in (w.queue u p) ≡ []

-- a queue without Names and without other messages is empty
nothing_left : (q : List Message) → names_in q ≡ [] → calls_in q ≡ [] → q ≡ []
nothing_left [] n c = refl
nothing_left (Connect l ∷ q) n c = cc
nothing_left (Initiate l f ∷ q) n c = cc
nothing_left (Name l f ∷ q) n c = cc
nothing_left (Report k ∷ q) n c = cc
nothing_left (ChangeRoot ∷ q) n c = cc

pub none_in : (ts : List Told) → length ts ≤ 0 → ts ≡ []
none_in [] e = refl
none_in (t ∷ ts) e = absurd (omega (arith, e))

-- Both ends are at rest at level l, and neither class has a way out there.
module _ (ks : List Key) (l : ℕ) (e f : Side) (at : e.level ≡ l) (rest : e.phase ≡ Rest) (far_at : f.level ≡ l) (far_rest : f.phase ≡ Rest)
    (none : HasWayOut ks l e.node → ⊥) (far_none : HasWayOut ks l f.node → ⊥) where
  no_connect : (m : ℕ) → ConnectFits ks m e f → ⊥
  no_connect m c = ⊎_elim
      (λ same. far_none (subst (λ x. HasWayOut ks x f.node) (same ∙ at) (e.key, c.chosen.least.link, c.chosen.least.leaves)))
      (λ late. not_both e.phase late.1 rest)
      c.finds

  no_calls : (q : List Message) → CallsFit ks e f q → q ≡ []
  no_calls = none_by ks e f no_connect
      (λ k name c. not_both f.phase c.sender_search far_rest)
      (λ k c. not_both e.phase c.search rest)
      (λ c. let least = c.least.1 in none (subst (λ x. HasWayOut ks x e.node) at (c.least.0, least.link, least.leaves)))

  no_names : (heard : Heard) (ts : List Told) → NamesFit ks e f heard ts → is_basic e.mark ≡ true → ts ≡ []
  no_names heard ts n basic = none_in ts (⊎_elim
      (λ some.
      let low = n.rest rest some basic in
      let all = n.all.at_most in
      omega (arith, low, all, at, far_at))
      (λ zero_level.
      let all = n.all.at_most in
      omega (arith, zero_level, all, at, far_at))
      (cases_lt 0 e.level))

module _ (g : Shape) (w : Net State Message) (h : Holds g w) (ended : NamesEnd g w) (v : ℕ) (net : InNetwork (network_of g) v)
    (halted : HasHalted w v) where
  abbrev l : ℕ
  l = (w.node v).head.level

  none_out : (x : ℕ) → Joined (links g.keys) v x → HasWayOut g.keys l x → ⊥
  none_out x way out = (h.fits.tokens.halted v net halted).whole (way_out_at g.keys l (joined_back way) out)

  pub silent_at_halt : IsSilentAt g w v
  silent_at_halt u p at way = nothing_left (w.queue u p) names
      (no_calls g.keys l _ _ here.level here.rest there.level there.rest (none_out u way) (none_out y far_way) (calls_in (w.queue u p)) s.calls)
    where
      y : ℕ
      y = far (network_of g) u p

      s : SeenAt g w u p
      s = seen g w h u p at

      far_way : Joined (links g.keys) v y
      far_way = joined_then way (over {P = links g.keys} _ s.wire.link s.wire.ends)

      here : Done g w h l u
      here = halted_done g w h v net halted u way

      there : Done g w h l y
      there = halted_done g w h v net halted y far_way

      names : names_in (w.queue u p) ≡ []
      names = ⊎_elim
          (λ basic.
          no_names g.keys l _ _ here.level here.rest there.level there.rest (none_out u way) (none_out y far_way) _
          (names_in (w.queue u p)) s.names basic)
          (λ other. ended u p at other)
          (cases_Bool (is_basic (mark_at (w.node u) p)))

  -- where a node has halted, its component is whole, and no message waits there
  pub ends_at_halt : IsWholeAt g w v × IsSilentAt g w v
  ends_at_halt = (halted_whole g w h v net halted, silent_at_halt)
