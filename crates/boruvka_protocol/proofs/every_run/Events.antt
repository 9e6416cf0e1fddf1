-- A run has as many events as it takes messages and wakes nodes; no node wakes twice.
use Rattle.std.proofs.Common.{◌≡◌, ◌≢◌, false, refl, sym, ◌∙◌, ap, arith}
use Rattle.peer_network.specs.declared.event.Event.{Event}
use Rattle.peer_network.specs.Network.{Network, network_of}
use Rattle.peer_machine.specs.declared.work.Work.{Work}
use Rattle.peer_machine.specs.declared.work.Work.TheVariants.{Wake, Deliver}
use Rattle.peer_machine.specs.Rules.{Outcome, HasKinds}
use Rattle.peer_machine.specs.Net.{Net, event_node, take_first}
use Rattle.peer_machine.specs.Protocol.{StaysAwake}
use Rattle.peer_machine.specs.Steps.{Happens, Woke, Took}
use Rattle.peer_machine.proofs.lemmas.Sends.{node_here}
use Rattle.peer_machine.proofs.lemmas.Ends.{events_few}
use Rattle.boruvka_node.specs.declared.message.Message.{Message}
use Rattle.boruvka_node.specs.declared.message.Message.TheVariants.{Connect, Initiate, Name, Report, ChangeRoot}
use Rattle.boruvka_node.specs.declared.message.Phase.{Phase}
use Rattle.boruvka_node.specs.declared.message.Phase.TheVariants.{Sleeping, Search, Rest}
use Rattle.boruvka_node.specs.Words.{is_sleeping}
use Rattle.boruvka_node.specs.State.{State}
use Rattle.boruvka_node.specs.Boruvka.{boruvka}
use Rattle.boruvka_protocol.specs.Laws.{EventsAreFew}
use Rattle.boruvka_protocol.proofs.invariant.Whole.{Ground}
use Rattle.boruvka_protocol.proofs.rows.Grows.{reaction_grows}
use Rattle.boruvka_protocol.proofs.every_run.Ground.{ground_after, sleeper_level}

-- each message is of one of the five kinds
pub has_kinds : HasKinds boruvka
has_kinds (Connect l) = omega arith
has_kinds (Initiate l f) = omega arith
has_kinds (Name l f) = omega arith
has_kinds (Report k) = omega arith
has_kinds ChangeRoot = omega arith

no_sleeper : (x : Phase) → x ≢ Sleeping → is_sleeping x ≡ false
no_sleeper Sleeping ne = absurd (ne refl)
no_sleeper Search ne = refl
no_sleeper Rest ne = refl

-- an event leaves its node awake
event_stays : (g : Network) (w w' : Net State Message) (e : Event) → Ground g w → Happens boruvka g w e w' →
    boruvka.is_asleep (w'.node (event_node e)) ≡ false
event_stays g w _ _ i (Woke v o lo hi s r t) =
    ap (λ (n : State). is_sleeping n.head.phase) (node_here boruvka g v o w)
    ∙ no_sleeper o.state.head.phase (reaction_grows (w.node v) Wake o (sleeper_level i v) r).1
event_stays g w _ _ i (Took v p m ms o at q r t) =
    ap (λ (n : State). is_sleeping n.head.phase) (node_here boruvka g v o (take_first boruvka g v p m ms w))
    ∙ no_sleeper o.state.head.phase (reaction_grows (w.node v) (Deliver p m) o (sleeper_level i v) r).1

pub stays_awake : StaysAwake boruvka
stays_awake g w w' e is h = event_stays (network_of g) w w' e (ground_after g w is) h

pub events_are_few : EventsAreFew
events_are_few g ok es w h = events_few boruvka (λ n k. refl) stays_awake has_kinds g es w ok h
