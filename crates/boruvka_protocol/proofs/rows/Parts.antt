-- What waits at a port, message by message: it fits still where each of them does, and nothing is there where none of them can be.
use Rattle.std.proofs.Common.{◌≡◌, ℕ, Option, Some, List, [], inl, inr, ⊎_elim, refl}
use Rattle.ghs_graph.specs.declared.key.Key.{Key}
use Rattle.peer_network.specs.Network.{Network, far_port}
use Rattle.boruvka_node.specs.declared.mark.Mark.TheVariants.{Branch}
use Rattle.boruvka_node.specs.declared.message.Message.{Message}
use Rattle.boruvka_node.specs.declared.port_state.PortState.{PortState}
use Rattle.boruvka_protocol.proofs.invariant.Sides.{Side, AtPort, side_of, far_side_of}
use Rattle.boruvka_protocol.proofs.invariant.Connects.{HasAsked, Waits, Has_begun, HasChosen, ConnectFits}
use Rattle.boruvka_protocol.proofs.invariant.TreeMessages.{CallFits, ReportFits, PassFits, CallsFit, Nothing, Chosen, Called, Chosen_called, Reported, Passed}

module _ (ks : List Key) where
  pub calls_by : (e f e' f' : Side) → ((m : ℕ) → ConnectFits ks m e f → ConnectFits ks m e' f') →
      ((l : ℕ) (name : Key) → CallFits ks l name e f → CallFits ks l name e' f') →
      ((least : Option Key) → ReportFits ks least e f → ReportFits ks least e' f') → (PassFits ks e f → PassFits ks e' f') →
      (x : List Message) → CallsFit ks e f x → CallsFit ks e' f' x
  calls_by e f e' f' connect call report pass _ Nothing = Nothing
  calls_by e f e' f' connect call report pass _ (Chosen m c) = Chosen m (connect m c)
  calls_by e f e' f' connect call report pass _ (Called l name d) = Called l name (call l name d)
  calls_by e f e' f' connect call report pass _ (Chosen_called m l name c d) = Chosen_called m l name (connect m c) (call l name d)
  calls_by e f e' f' connect call report pass _ (Reported least d) = Reported least (report least d)
  calls_by e f e' f' connect call report pass _ (Passed d) = Passed (pass d)

  pub none_by : (e f : Side) → ((m : ℕ) → ConnectFits ks m e f → ⊥) → ((l : ℕ) (name : Key) → CallFits ks l name e f → ⊥) →
      ((least : Option Key) → ReportFits ks least e f → ⊥) → (PassFits ks e f → ⊥) →
      (x : List Message) → CallsFit ks e f x → x ≡ []
  none_by e f connect call report pass _ Nothing = refl
  none_by e f connect call report pass _ (Chosen m c) = absurd (connect m c)
  none_by e f connect call report pass _ (Called l name d) = absurd (call l name d)
  none_by e f connect call report pass _ (Chosen_called m l name c d) = absurd (connect m c)
  none_by e f connect call report pass _ (Reported least d) = absurd (report least d)
  none_by e f connect call report pass _ (Passed d) = absurd (pass d)

-- what the node has at a port, where it keeps something else of the port, and has gone out over another one
abbrev pub other_at : AtPort → PortState → Option ℕ → AtPort
other_at n port out = record { port = port; head = record n.head { out = out } }

module _ (ks : List Key) (g : Network) (v p : ℕ) where
  -- At the node itself: of what the far end sent nothing is read here but which link it is.
  module _ (n n' : AtPort) (f : Side) where
    pub asked_near : (m : ℕ) → HasAsked ks m (side_of g v p n) f → HasAsked ks m (side_of g v p n') f
    asked_near m (Waits lv out) = Waits lv out
    asked_near m (Has_begun lv least less mark) = Has_begun lv least less mark

    pub chosen_near : (m : ℕ) → HasChosen ks m (side_of g v p n) f → HasChosen ks m (side_of g v p n') f
    chosen_near m c = record { least = c.least; past = c.past; sender = asked_near m c.sender }

  -- and of a call no more than level and phase, and whether the node has gone out over the link
  module _ (n : AtPort) (port : PortState) (out : Option ℕ) (f : Side) (still : n.head.out ≡ Some p → out ≡ Some p) where
    pub call_near : (l : ℕ) (name : Key) → CallFits ks l name (side_of g v p n) f → CallFits ks l name (side_of g v p (other_at n port out)) f
    call_near l name d = record {
      level = d.level;
      core = d.core;
      up = d.up;
      rest = d.rest;
      sender_level = d.sender_level;
      sender_search = d.sender_search;
      sender_mark = d.sender_mark;
      over = ⊎_elim (λ t. inl t) (λ o. inr (still o)) d.over;
    }

  -- From the far end, v by its port p: of the node no more is read than level, phase, and whether it has joined the link or gone out over it.
  module _ (n : AtPort) (port : PortState) (out : Option ℕ) (s : Side) (still : n.head.out ≡ Some (far_port g v p) → out ≡ Some (far_port g v p))
      (joined : n.port.mark ≡ Branch → port.mark ≡ Branch) where
    abbrev t : Side
    t = far_side_of g v p n

    abbrev t' : Side
    t' = far_side_of g v p (other_at n port out)

    asked_far : (m : ℕ) → HasAsked ks m s t → HasAsked ks m s t'
    asked_far m (Waits lv o) = Waits lv (still o)
    asked_far m (Has_begun lv least less mark) = Has_begun lv least less (joined mark)

    pub chosen_far : (m : ℕ) → HasChosen ks m s t → HasChosen ks m s t'
    chosen_far m c = record { least = c.least; past = c.past; sender = asked_far m c.sender }

    pub calls_far : (x : List Message) → CallsFit ks s t x → CallsFit ks s t' x
    calls_far = calls_by ks s t s t'
        (λ m c. record { chosen = chosen_far m c.chosen; finds = c.finds })
        (λ l name d. record {
          level = d.level;
          core = d.core;
          up = d.up;
          rest = d.rest;
          sender_level = d.sender_level;
          sender_search = d.sender_search;
          sender_mark = joined d.sender_mark;
          over = d.over;
        })
        (λ k d. record { up = d.up; sender_level = d.sender_level; sender_rest = d.sender_rest; search = d.search; mark = d.mark; sub = d.sub })
        (λ d. record { up = d.up; rest = d.rest; stays = d.stays; least = d.least })
