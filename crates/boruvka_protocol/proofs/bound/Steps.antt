-- An event, as its node fares in it.
use Rattle.std.proofs.Common.{◌≡◌, ◌≢◌, ℕ, ◌+◌, ◌≤◌, List, [], ◌∷◌, refl, ◌∙◌, ap, arith}
use Rattle.peer_network.specs.Network.{Network, At, InNetwork}
use Rattle.peer_network.specs.declared.event.Event.{Event}
use Rattle.peer_network.proofs.lemmas.Wired.{IsWired}
use Rattle.peer_network.proofs.lemmas.Updates.{put_same, put_other}
use Rattle.peer_network.proofs.lemmas.Wires.{at_in}
use Rattle.peer_machine.specs.Net.{Net, put, take_first}
use Rattle.peer_machine.specs.Ledger.{of_kind}
use Rattle.peer_machine.specs.Steps.{Happens, Woke, Took}
use Rattle.peer_machine.specs.declared.work.Work.TheVariants.{Wake, Deliver}
use Rattle.peer_machine.proofs.lemmas.Sends.{sent_now, consumed_now}
use Rattle.peer_machine.proofs.lemmas.Counts.{take_counts}
use Rattle.boruvka_node.specs.declared.message.Message.{Message}
use Rattle.boruvka_node.specs.declared.message.Message.TheVariants.{ChangeRoot}
use Rattle.boruvka_node.specs.declared.message.Phase.TheVariants.{Rest}
use Rattle.boruvka_node.specs.State.{State, port_at}
use Rattle.boruvka_node.specs.Reaction.{Outcome}
use Rattle.boruvka_node.specs.Boruvka.{boruvka}
use Rattle.boruvka_protocol.proofs.invariant.Whole.{Ground}
use Rattle.boruvka_protocol.proofs.rows.Acts.{Acts, acts_woken, acts_taken}
use Rattle.boruvka_protocol.proofs.rows.Grows.{reaction_grows}
use Rattle.boruvka_protocol.proofs.every_run.Ground.{sleeper_level}
use Rattle.boruvka_protocol.proofs.bound.Turns.{before, sent_of, Turn, reaction_turn}
use Rattle.boruvka_protocol.proofs.bound.Hears.{Hears, HearsFrom, wake_hears, take_hears, take_calls}

-- where what the node takes comes from, and what is left at its ports
pub data Comes (g : Network) (w : Net State Message) (v : ℕ) (n' : State) (own : ℕ → List Message) (ms : List Message) : Type 0 where
  From_none : ms ≡ [] → ((i : ℕ) → own i ≡ w.queue v i) → Comes g w v n' own ms
  From_port : (p : ℕ) (m : Message) (rest : List Message) → At g v p → ms ≡ m ∷ [] → w.queue v p ≡ m ∷ rest → own p ≡ rest →
      ((i : ℕ) → i ≢ p → own i ≡ w.queue v i) → of_kind boruvka 2 (m ∷ []) + (port_at (w.node v) p).level ≤ (port_at n' p).level →
      Comes g w v n' own ms

-- node v reacts, by o, to ms, which is nothing or a message
pub record Step (g : Network) (w w' : Net State Message) (v : ℕ) (o : Outcome) (own : ℕ → List Message) (ms : List Message) : Type 0 where
  pub here : InNetwork g v
  pub act : Acts g w w' v o.state own o.sends
  pub comes : Comes g w v o.state own ms
  pub turn : Turn (before (w.node v)) ms o
  pub hears : Hears (w.node v) o.state
  pub called : of_kind boruvka 1 ms + (w.node v).head.level ≤ o.state.head.level
  pub sent : (k : ℕ) → w'.sent k ≡ w.sent k + sent_of k o
  pub consumed : (k : ℕ) → w'.consumed k ≡ w.consumed k + of_kind boruvka k ms

-- an event is a step
pub record Stepped (g : Network) (w w' : Net State Message) : Type 0 where
  pub node : ℕ
  pub outcome : Outcome
  pub own : ℕ → List Message
  pub taken : List Message
  pub step : Step g w w' node outcome own taken

first_is : {P : Type 0} (m : Message) (ms : List Message) → [] ≡ m ∷ ms → P
first_is m ms e = cc

head_of : (m m' : Message) → m ∷ [] ≡ m' ∷ [] → m ≡ m'
head_of m m' e = cc

module _ (g : Network) (wired : IsWired g) where
  -- where a ChangeRoot finds its node at rest
  pub stepped : (w w' : Net State Message) (e : Event) → Ground g w →
      ((v p : ℕ) (rest : List Message) → At g v p → w.queue v p ≡ ChangeRoot ∷ rest → (w.node v).head.phase ≡ Rest) →
      Happens boruvka g w e w' → Stepped g w w'
  stepped w _ _ i rests (Woke v o lo hi s r t) = record {
    node = v;
    outcome = o;
    own = w.queue v;
    taken = [];
    step = record {
      here = record { some = lo; node = hi };
      act = acts_woken g wired w v o;
      comes = From_none refl (λ i. refl);
      turn = reaction_turn (w.node v) Wake o (sleeper_level i v) (λ z. first_is ChangeRoot [] z) r;
      hears = wake_hears (w.node v) o r;
      called = let up = (reaction_grows (w.node v) Wake o (sleeper_level i v) r).0 in omega (arith, up.level);
      sent = λ k. sent_now boruvka g v o w k;
      consumed = λ k. omega (arith, ap (λ (f : ℕ → ℕ). f k) (consumed_now boruvka g v o w));
    };
  }
  stepped w _ _ i rests (Took v p m ms o at q r t) = record {
    node = v;
    outcome = o;
    own = put (w.queue v) p ms;
    taken = m ∷ [];
    step = record {
      here = at_in at;
      act = acts_taken g wired w v p m ms o;
      comes = From_port p m ms at refl q (put_same (w.queue v) p ms) (λ i ne. put_other (w.queue v) p i ms ne) from.named;
      turn = reaction_turn (w.node v) (Deliver p m) o (sleeper_level i v)
          (λ z. rests v p ms at (q ∙ ap (λ y. y ∷ ms) (head_of m ChangeRoot z))) r;
      hears = from.hears;
      called = take_calls (w.node v) p m o (sleeper_level i v) r;
      sent = λ k. sent_now boruvka g v o (take_first boruvka g v p m ms w) k;
      consumed = λ k.
          omega (
            arith,
            ap (λ (f : ℕ → ℕ). f k) (consumed_now boruvka g v o (take_first boruvka g v p m ms w)),
            take_counts boruvka g v p m ms w k,
          );
    };
  }
    where
      from : HearsFrom (w.node v) p m o.state
      from = take_hears (w.node v) p m o r
