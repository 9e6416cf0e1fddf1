-- A Connect comes over the port that the node has gone out over, and it is the lesser end of that core.
use Rattle.std.proofs.Common.{◌≡◌, ℕ, ◌<◌, nat_lt, true, false, Some, None, List, [], ◌∷◌, sym, ◌∙◌, ap, subst, append-nil, arith}
use Rattle.ghs_graph.specs.Graph.{Shape, IsGraph}
use Rattle.ghs_graph.specs.Ports.{far_end}
use Rattle.peer_network.specs.Network.{Network, network_of, port_at, At, far, far_port}
use Rattle.peer_network.proofs.lemmas.Wired.{IsWired}
use Rattle.peer_network.proofs.lemmas.Graphs.{graph_wired}
use Rattle.peer_network.proofs.lemmas.Updates.{put_same}
use Rattle.peer_machine.specs.Net.{Net, put, reacted, take_first}
use Rattle.boruvka_node.specs.declared.mark.Mark.TheVariants.{Asked}
use Rattle.boruvka_node.specs.declared.message.Message.{Message}
use Rattle.boruvka_node.specs.declared.message.Message.TheVariants.{Connect}
use Rattle.boruvka_node.specs.declared.message.Phase.TheVariants.{Sleeping}
use Rattle.boruvka_node.specs.State as state
use Rattle.boruvka_node.specs.State.{State, degree, key_at, mark_at, set_mark}
use Rattle.boruvka_node.specs.Boruvka.{boruvka}
use Rattle.boruvka_protocol.proofs.invariant.Words.{IsLeast}
use Rattle.boruvka_protocol.proofs.invariant.Sides.{AtPort, at_port, side_of, far_side_of, calls_in}
use Rattle.boruvka_protocol.proofs.invariant.Connects.{OutFits}
use Rattle.boruvka_protocol.proofs.invariant.Children.{ChildrenFit}
use Rattle.boruvka_protocol.proofs.invariant.Whole.{Ground, Fits, NearlyFits}
use Rattle.boruvka_protocol.proofs.Unlike.{rest_is_sleeping, search_is_sleeping}
use Rattle.boruvka_protocol.proofs.every_run.Ground.{ground_taken}
use Rattle.boruvka_protocol.proofs.rows.Table.{still}
use Rattle.boruvka_protocol.proofs.rows.Grows.{grows_on, grows_port, grows_entered}
use Rattle.boruvka_protocol.proofs.rows.Ports.{mark_set}
use Rattle.boruvka_protocol.proofs.rows.Acts.{Acts, acts_taken}
use Rattle.boruvka_protocol.proofs.rows.OwnPorts.{port_below, is_lesser, is_greater}
use Rattle.boruvka_protocol.proofs.rows.Noted.{asked_at}
use Rattle.boruvka_protocol.proofs.rows.Noting.{asked_here, here, end_noted, children_noted, noted_acts, noted_but}
use Rattle.boruvka_protocol.proofs.rows.Asked.{met_greater, noted_nodes, noted_search, noted_lacks, noted_tokens}
use Rattle.boruvka_protocol.proofs.rows.EntersDown.{EndFits}
use Rattle.boruvka_protocol.proofs.rows.Enters.{entry}
use Rattle.boruvka_protocol.proofs.rows.CalledIn.{enters_only}
use Rattle.boruvka_protocol.proofs.rows.CoreIn.{AboutToMeet, core_after}

module _ (gr : Shape) (ok : IsGraph gr) (w : Net State Message) (v j l : ℕ) (ms : List Message) (at : At (network_of gr) v j)
    (fits : Fits gr.keys (network_of gr) w) (waits : w.queue v j ≡ Connect l ∷ ms) (level : l ≡ (w.node v).head.level)
    (out : (w.node v).head.out ≡ Some j) where
  abbrev g : Network
  g = network_of gr

  wired : IsWired g
  wired = graph_wired gr ok

  port : j < degree (w.node v)
  port = port_below (fits.ground.nodes v) j at

  abbrev n : AtPort
  n = at_port (w.node v) j

  abbrev m : AtPort
  m = at_port (w.node (far g v j)) (far_port g v j)

  abbrev r : List Message
  r = w.queue (far g v j) (far_port g v j)

  abbrev now : State
  now = set_mark (w.node v) j Asked

  abbrev pub mid : Net State Message
  mid = reacted boruvka g v (still now) (take_first boruvka g v j (Connect l) ms w)

  a : Acts g w mid v now (put (w.queue v) j ms) []
  a = noted_acts gr ok w v j l ms at fits.links waits port level

  own : OutFits gr.keys (side_of g v j n) (far_side_of g v j m) (calls_in (Connect l ∷ ms)) (calls_in r)
  own = (here gr ok w v j l ms at fits.links waits port level).connects.out out

  own_now : asked_at n ≡ at_port (mid.node v) j
  own_now = sym (asked_here (w.node v) j port) ∙ ap (λ (x : State). at_port x j) (sym a.node)

  far_now : m ≡ at_port (mid.node (far g v j)) (far_port g v j)
  far_now = ap (λ (x : State). at_port x (far_port g v j)) (a.others (far g v j) (wired.apart v j at))

  left_now : ms ≡ mid.queue v j
  left_now = sym (put_same (w.queue v) j ms) ∙ sym (a.queue j at)

  sent_now : r ≡ mid.queue (far g v j) (far_port g v j)
  sent_now = sym (append-nil r) ∙ sym (a.far_queue j at)

  about_to_meet : v < far g v j → Ground g mid → AboutToMeet gr mid v j
  about_to_meet less ground = record {
    at = at;
    out = ap (λ (x : State). x.head.out) a.node ∙ out;
    asked = ap (λ (x : State). mark_at x j) a.node ∙ mark_set (w.node v) j (record (state.port_at (w.node v) j) { mark = Asked }) port;
    rest = ap (λ (x : State). x.head.phase) a.node ∙ own.rest;
    less = less;
    least = subst (λ (x : State). IsLeast gr.keys x.head.level v (port_at g v j).key) (sym a.node) own.least;
    all = record {
      ground = ground;
      nodes = noted_nodes gr ok w v j l ms at fits waits level;
      search = noted_search gr ok w v j l ms at fits waits level;
      lacks = noted_lacks gr ok w v j l ms at fits waits level;
      tokens = noted_tokens gr ok w v j l ms at fits waits level;
    };
    links = noted_but gr ok w v j l ms at fits.links waits port level;
    end = subst (λ (x : AtPort). EndFits gr.keys g v j x (at_port (mid.node (far g v j)) (far_port g v j)) (mid.queue v j)) own_now
        (subst (λ (x : AtPort). EndFits gr.keys g v j (asked_at n) x (mid.queue v j)) far_now
        (subst (λ (x : List Message). EndFits gr.keys g v j (asked_at n) m x) left_now
        (end_noted gr ok w v j l ms at fits.links waits port level)));
    children =
        subst (λ (x : AtPort). ChildrenFit gr.keys (side_of g v j x) (far_side_of g v j (at_port (mid.node (far g v j)) (far_port g v j)))
        (calls_in (mid.queue v j)) (calls_in (mid.queue (far g v j) (far_port g v j)))) own_now
        (subst (λ (x : AtPort). ChildrenFit gr.keys (side_of g v j (asked_at n)) (far_side_of g v j x)
        (calls_in (mid.queue v j)) (calls_in (mid.queue (far g v j) (far_port g v j)))) far_now
        (subst (λ (x : List Message). ChildrenFit gr.keys (side_of g v j (asked_at n)) (far_side_of g v j m)
        (calls_in x) (calls_in (mid.queue (far g v j) (far_port g v j)))) left_now
        (subst (λ (x : List Message). ChildrenFit gr.keys (side_of g v j (asked_at n)) (far_side_of g v j m)
        (calls_in ms) (calls_in x)) sent_now (children_noted gr ok w v j l ms at fits.links waits port level))));
  }

  abbrev pub after_core : Net State Message
  after_core = reacted boruvka g v (enters_only now (key_at now j) None) (take_first boruvka g v j (Connect l) ms w)

  no_sleep : (w.node v).head.phase ≡ Sleeping → ⊥
  no_sleep s = rest_is_sleeping (sym own.rest ∙ s)

  pub met_ground : Ground g mid
  met_ground = ground_taken g wired w v j (Connect l) ms (still now) fits.ground at waits (grows_port (w.node v) j _, no_sleep)

  pub core_ground : Ground g after_core
  core_ground = ground_taken g wired w v j (Connect l) ms (enters_only now (key_at now j) None) fits.ground at waits
      (grows_on (grows_port (w.node v) j _) (grows_entered now (entry now (key_at now j) None) (omega arith)), λ s. search_is_sleeping s)

  -- row Met, at the greater end, which waits to be called: all clauses hold
  pub met_waits : nat_lt now.number (far_end now.number (key_at now j)) ≡ false → Fits gr.keys g mid
  met_waits t = met_greater gr ok w v j l ms at fits waits level
      (is_greater gr ok v j (w.node v) (fits.ground.nodes v) at t) met_ground

  -- row Met, at the lesser end: all holds where it has entered, and hasn't looked yet whether its search is over
  pub met_begins : nat_lt now.number (far_end now.number (key_at now j)) ≡ true → NearlyFits gr.keys g after_core v
  met_begins t = core_after gr ok w mid after_core v j now (put (w.queue v) j ms) []
      (about_to_meet (is_lesser gr ok v j (w.node v) (fits.ground.nodes v) at t) met_ground) a
      (acts_taken g wired w v j (Connect l) ms (enters_only now (key_at now j) None)) core_ground
