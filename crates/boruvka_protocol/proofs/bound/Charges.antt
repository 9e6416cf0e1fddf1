-- Names, Initiates and Reports are paid for by levels: those heard at ports, those of nodes, and those whose search has ended.
use Rattle.std.proofs.Common.{◌≡◌, ◌≢◌, ℕ, ◌+◌, ◌<◌, ◌≤◌, ◌==◌, Bool, true, false, List, [], ◌∷◌, length, cond, refl, sym, ap, subst, arith, ⊎_elim}
use Rattle.std.proofs.lemmas.Bool.{cases_eq}
use Rattle.peer_network.specs.Network.{Network, At}
use Rattle.peer_network.specs.Sums.{sum_below, sum_over_nodes, sum_over_ports}
use Rattle.peer_network.proofs.lemmas.Sums.{sum_none}
use Rattle.peer_machine.specs.Net.{Net, opening}
use Rattle.peer_machine.specs.Ledger.{of_kind}
use Rattle.peer_machine.specs.Rules.{Outgoing, messages}
use Rattle.boruvka_node.specs.declared.message.Message.{Message}
use Rattle.boruvka_node.specs.declared.message.Message.TheVariants.{ChangeRoot}
use Rattle.boruvka_node.specs.declared.message.Phase.{Phase}
use Rattle.boruvka_node.specs.declared.message.Phase.TheVariants.{Rest}
use Rattle.boruvka_node.specs.State.{State, degree, port_at}
use Rattle.boruvka_node.specs.Reaction.{Outcome}
use Rattle.boruvka_node.specs.Boruvka.{boruvka}
use Rattle.boruvka_protocol.proofs.bound.Sums.{node_changes, ports_rise}
use Rattle.boruvka_protocol.proofs.bound.Turns.{Before, sent_of, searching, Turn, Stays, Sends_on, Sends_out, Rises}
use Rattle.boruvka_protocol.proofs.bound.Steps.{Comes, From_none, From_port, Step}

-- the level of a node, the level heard at a port of it, and 1 where it searches
abbrev pub level_of : Net State Message → ℕ → ℕ
level_of w v = (w.node v).head.level

abbrev pub heard_of : Net State Message → ℕ → ℕ → ℕ
heard_of w v p = (port_at (w.node v) p).level

abbrev pub searching_of : Net State Message → ℕ → ℕ
searching_of w v = searching (w.node v).head.phase

pub record Charges (g : Network) (w : Net State Message) : Type 0 where
  -- each Name consumed has raised the level heard at a port
  pub names : w.consumed 2 ≤ sum_over_ports g (heard_of w)
  -- each Initiate consumed has raised a node's level
  pub calls : w.consumed 1 ≤ sum_over_nodes g (level_of w)
  -- each Report sent has ended a node's search of a level
  pub reports : w.sent 3 + sum_over_nodes g (searching_of w) ≤ sum_over_nodes g (level_of w)

-- one message is one of a kind at most
pub one_of_kind : (k : ℕ) (m : Message) → of_kind boruvka k (m ∷ []) ≤ 1
one_of_kind k m = go (boruvka.kind_of m == k)
  where
    go : (b : Bool) → cond b 1 0 + 0 ≤ 1
    go true = omega arith
    go false = omega arith

searching_rest : (x : Phase) → x ≡ Rest → ◌≡◌ {A = ℕ} (searching x) 0
searching_rest x e = ap searching e

reports_on : (p : ℕ) (ss : Outgoing Message) → ss ≡ (p, ChangeRoot) ∷ [] → ◌≡◌ {A = ℕ} (of_kind boruvka 3 (messages ss)) 0
reports_on p ss e = ap (λ x. of_kind boruvka 3 (messages x)) e

-- a reaction's Report ends a search
turn_reports : (b : Before) (ms : List Message) (o : Outcome) → Turn b ms o →
    sent_of 3 o + searching o.state.head.phase + b.level ≤ o.state.head.level + searching b.phase
turn_reports b ms o (Stays lv ph s0 s4 s3) = omega (arith, lv, s3)
turn_reports b ms o (Sends_on c may lv ph e t s) =
    omega (arith, lv, searching_rest o.state.head.phase ph, reports_on c.0 o.sends s)
turn_reports b ms o (Sends_out may lv ph s0 s4 s3) = omega (arith, lv, searching_rest o.state.head.phase ph, s3)
turn_reports b ms o (Rises x lv s4 s0 s3) = omega (arith, lv, s3)

module _ (g : Network) (w w' : Net State Message) (v : ℕ) (o : Outcome) (own : ℕ → List Message) (ms : List Message)
    (s : Step g w w' v o own ms) where
  -- a number of a node's state, at v and elsewhere
  now_at : (P : State → ℕ) → P (w'.node v) ≡ P o.state
  now_at P = ap P s.act.node

  elsewhere : (P : State → ℕ) (u : ℕ) → u ≢ v → P (w.node u) ≡ P (w'.node u)
  elsewhere P u ne = ap P (s.act.others u ne)

  pub node_number : (P : State → ℕ) →
      sum_over_nodes g (λ u. P (w'.node u)) + P (w.node v) ≡ sum_over_nodes g (λ u. P (w.node u)) + P o.state
  node_number P =
      let z = node_changes g (λ u. P (w.node u)) (λ u. P (w'.node u)) v s.here (λ u ne. elsewhere P u ne) in
      let y = now_at P in
      omega (arith, z, y)

  module _ (many : degree (w.node v) ≡ length (g.ports v)) where
    heard_rises : (u q : ℕ) → At g u q → heard_of w u q ≤ heard_of w' u q
    heard_rises u q at = ⊎_elim
        (λ (e : u ≡ v).
        let lt : q < degree (w.node v) = subst (λ x. q < x) (sym many) (subst (λ y. q < length (g.ports y)) e at.port) in
        let more = s.hears.levels q lt in
        let now = now_at (λ n. (port_at n q).level) in
        subst (λ y. heard_of w y q ≤ heard_of w' y q) (sym e) (omega (arith, more, now)))
        (λ ne. let same = elsewhere (λ n. (port_at n q).level) u ne in omega (arith, same))
        (cases_eq u v)

    names_step : Comes g w v o.state own ms → w.consumed 2 ≤ sum_over_ports g (heard_of w) → w'.consumed 2 ≤ sum_over_ports g (heard_of w')
    names_step (From_none e same) before =
        let all = ports_rise g 0 (heard_of w) (heard_of w') (omega arith) heard_rises (λ lt. absurd (omega (arith, lt))) in
        let none : ◌≡◌ {A = ℕ} (of_kind boruvka 2 ms) 0 = ap (of_kind boruvka 2) e in
        omega (arith, before, all, none, s.consumed 2)
    names_step (From_port p m rest at e q left others named) before =
        let now = now_at (λ n. (port_at n p).level) in
        let all = ports_rise g (of_kind boruvka 2 (m ∷ [])) (heard_of w) (heard_of w') (one_of_kind 2 m) heard_rises
        (λ lt. (v, p, at, omega (arith, named, now, lt))) in
        let one : of_kind boruvka 2 ms ≡ of_kind boruvka 2 (m ∷ []) = ap (of_kind boruvka 2) e in
        omega (arith, before, all, one, s.consumed 2)

    pub charges_step : Charges g w → Charges g w'
    charges_step c = record {
      names = names_step s.comes c.names;
      calls = omega (arith, c.calls, s.consumed 1, s.called, node_number (λ n. n.head.level));
      reports =
          omega (
            arith,
            c.reports,
            s.sent 3,
            turn_reports _ ms o s.turn,
            node_number (λ n. n.head.level),
            node_number (λ n. searching n.head.phase),
          );
    }

pub charges_opening : (g : Network) → Charges g (opening boruvka g)
charges_opening g = record {
  names = least _;
  calls = least _;
  reports = let z = nothing g.count in omega (arith, z, least (sum_over_nodes g (level_of (opening boruvka g))));
}
  where
    least : (n : ℕ) → 0 ≤ n
    least n = omega arith

    nothing : (n : ℕ) → sum_below n (λ i. 0) ≡ 0
    nothing n = sum_none n (λ i. 0) (λ i lt. refl)
