-- The invariant at the opening: everybody sleeps, and nothing waits.
use Rattle.std.proofs.Common.{◌≡◌, ℕ, inl, false, List, length, refl, sym, ◌∙◌, ap, subst, arith}
use Rattle.std.proofs.lemmas.List.{get_or-replicate}
use Rattle.ghs_graph.specs.declared.key.Key.{Key}
use Rattle.ghs_graph.specs.Graph.{Shape, IsGraph}
use Rattle.peer_network.specs.Network.{Network, network_of, At, far}
use Rattle.peer_network.proofs.lemmas.Wired.{IsWired}
use Rattle.peer_network.proofs.lemmas.Graphs.{graph_wired}
use Rattle.peer_machine.specs.Net.{opening}
use Rattle.boruvka_node.specs.declared.mark.Mark.TheVariants.{Basic}
use Rattle.boruvka_node.specs.declared.port_state.PortState.{PortState}
use Rattle.boruvka_node.specs.State as state
use Rattle.boruvka_node.specs.State.{sleeper, fresh_port, no_port}
use Rattle.boruvka_node.specs.Boruvka.{boruvka}
use Rattle.boruvka_protocol.proofs.invariant.Words.{IsName}
use Rattle.boruvka_protocol.proofs.invariant.TreeMessages.{Nothing}
use Rattle.boruvka_protocol.proofs.invariant.Token.{Place, IsTokenAt, In_message, Gone_out, Gone_on, At_end}
use Rattle.boruvka_protocol.proofs.invariant.Whole.{LinksFit, Fits, Holds}
use Rattle.boruvka_protocol.proofs.Unlike.{sleeping_is_search, sleeping_is_rest, basic_is_branch, basic_is_inside, basic_is_asked, false_is_true, none_is_some}
use Rattle.boruvka_protocol.proofs.every_run.Ground.{ground_opening}
use Rattle.boruvka_protocol.proofs.rows.Woken.{asleep_past}

-- no two of these are one
module _ (ks : List Key) (g : Network) where
  -- a port of a sleeper
  fresh : (v p : ℕ) → At g v p → state.port_at (sleeper v (g.ports v)) p ≡ fresh_port
  fresh v p at = get_or-replicate (length (g.ports v)) p fresh_port no_port at.port

  module _ (wired : IsWired g) where
    link_opening : LinksFit ks g (opening boruvka g)
    link_opening v p at = record {
      marks = record {
        branch = λ e. basic_is_branch (sym mark ∙ e);
        inside = λ e. basic_is_inside (sym mark ∙ e);
        late = λ m e t ne. absurd (omega (arith, e));
        leads_out = λ b lo le. absurd (omega (arith, lo));
      };
      names = record {
        said = subst (λ (x : PortState). IsName ks x.level (far g v p) x.name) (sym port) refl;
        next = tt;
        all = record {
          at_most = omega (arith, level);
          basic = λ b. omega (arith, level);
          aside = λ no. record { apart = λ m lt. absurd (omega (arith, lt, level)); far = inl (omega (arith, level)) };
        };
        near = λ b. (omega arith, omega arith);
        rest = λ r. sleeping_is_rest r;
      };
      connects = record { asked = λ e. basic_is_asked (sym mark ∙ e); out = λ e. none_is_some p e };
      calls = Nothing;
      children = record { child = λ h. absurd h.up.link; parent = λ h. absurd h.up.link };
      owes = record {
        child = λ e. false_is_true (sym owes ∙ e);
        open_yet = λ e. false_is_true (sym owes ∙ e);
        heard = λ s. sleeping_is_search s;
        rest = λ ne. owes;
      };
    }
      where
        port : state.port_at (sleeper v (g.ports v)) p ≡ fresh_port
        port = fresh v p at

        mark : (state.port_at (sleeper v (g.ports v)) p).mark ≡ Basic
        mark = ap (λ (x : PortState). x.mark) port

        level : ◌≡◌ {A = ℕ} (state.port_at (sleeper v (g.ports v)) p).level 0
        level = ap (λ (x : PortState). x.level) port

        owes : (state.port_at (sleeper v (g.ports v)) p).owes ≡ false
        owes = ap (λ (x : PortState). x.owes) port

  no_token : (l u : ℕ) (place : Place) → IsTokenAt ks g (opening boruvka g) l u place → ⊥
  no_token l u _ (In_message p at e lt) = omega (arith, lt)
  no_token l u _ (Gone_out p at e out) = none_is_some p out
  no_token l u _ (Gone_on k lt least end) = omega (arith, lt)
  no_token l u _ (At_end e halted) = false_is_true halted

  pub fits_opening : IsWired g → Fits ks g (opening boruvka g)
  fits_opening wired = record {
    ground = ground_opening g;
    nodes = λ v here up. absurd (up refl);
    links = link_opening wired;
    search = λ v here. record { search = λ s. sleeping_is_search s; rest = λ r. sleeping_is_rest r };
    lacks = λ v here s. sleeping_is_search s;
    tokens = record {
      halted = λ v here h. false_is_true h;
      one = λ l v here proper. record {
        some = λ past. asleep_past l past.past;
        one = λ s t. absurd (no_token l s.node s.place s.at);
        none = λ t. absurd (no_token l t.node t.place t.at);
      };
    };
  }

pub holds_opening : (g : Shape) → IsGraph g → Holds g (opening boruvka (network_of g))
holds_opening g ok = record { graph = ok; fits = fits_opening g.keys (network_of g) (graph_wired g ok) }
