-- Each event keeps the invariant, and so every net of a run has it. A take at a sleeper is a wake, and then the message.
use Rattle.std.proofs.Common.{◌≡◌, ℕ, nat_lt, Option, Some, None, List, ◌∷◌, refl, sym, ◌∙◌, ap, subst, ⊎_elim}
use Rattle.std.proofs.lemmas.Bool.{cases_eq}
use Rattle.ghs_graph.specs.Graph.{Shape, IsGraph}
use Rattle.peer_network.specs.declared.event.Event.{Event}
use Rattle.peer_network.specs.Network.{Network, network_of, At, InNetwork}
use Rattle.peer_network.proofs.lemmas.Wired.{IsWired}
use Rattle.peer_network.proofs.lemmas.Graphs.{graph_wired}
use Rattle.peer_network.proofs.lemmas.Updates.{put_same, put_other}
use Rattle.peer_network.proofs.lemmas.Wires.{at_in}
use Rattle.peer_machine.specs.declared.work.Work.TheVariants.{Wake, Deliver}
use Rattle.peer_machine.specs.Net.{Net, put, opening, reacted, take_first}
use Rattle.peer_machine.specs.Run.{IsNetOf}
use Rattle.peer_machine.specs.Steps.{Happens, Woke, Took}
use Rattle.peer_machine.proofs.lemmas.Runs.{run_keeps}
use Rattle.boruvka_node.specs.declared.message.Message.{Message}
use Rattle.boruvka_node.specs.declared.message.Message.TheVariants.{Connect, Initiate, Name, Report, ChangeRoot}
use Rattle.boruvka_node.specs.declared.message.Phase.TheVariants.{Sleeping}
use Rattle.boruvka_node.specs.Words.{is_sleeping}
use Rattle.boruvka_node.specs.State.{State, degree}
use Rattle.boruvka_node.specs.Reaction.{Outcome, and_then, wakes, asleep, awake, reaction}
use Rattle.boruvka_node.specs.Boruvka.{boruvka}
use Rattle.boruvka_protocol.proofs.invariant.Whole.{Ground, Fits, Holds}
use Rattle.boruvka_protocol.proofs.Unlike.{none_is_some}
use Rattle.boruvka_protocol.proofs.rows.Table.{said}
use Rattle.boruvka_protocol.proofs.rows.Read.{read_if, read_says, waking, row_of}
use Rattle.boruvka_protocol.proofs.rows.Grows.{Wakes_up, grows_waking, sleeping_tells, awake_woken}
use Rattle.boruvka_protocol.proofs.rows.Acts.{Acts, acts_woken, acts_taken}
use Rattle.boruvka_protocol.proofs.rows.Between.{acts_between, acts_left}
use Rattle.boruvka_protocol.proofs.every_run.Ground.{ground_reacted, ground_event, sleeper_level}
use Rattle.boruvka_protocol.proofs.every_run.Opening.{holds_opening}
use Rattle.boruvka_protocol.proofs.every_run.Turns.{row_fits, waking_fits}

module _ (gr : Shape) (ok : IsGraph gr) where
  abbrev g : Network
  g = network_of gr

  wired : IsWired g
  wired = graph_wired gr ok

  -- node v sleeps, and wakes
  module _ (w : Net State Message) (v : ℕ) (here : InNetwork g v) (fits : Fits gr.keys g w) (sleeps : (w.node v).head.phase ≡ Sleeping) where
    module _ (a : Outcome) (woke : wakes (w.node v) ≡ Some a) where
      abbrev mid : Net State Message
      mid = reacted boruvka g v a w

      first : Acts g w mid v a.state (w.queue v) a.sends
      first = acts_woken g wired w v a

      up : Wakes_up (w.node v) a.state
      up = let h = waking (w.node v) a woke in (grows_waking (w.node v) a (sleeper_level fits.ground v sleeps) h, awake_woken (w.node v) a h)

      ground_mid : Ground g mid
      ground_mid = ground_reacted g w w v a fits.ground refl up wired here (λ u p at ne h. h)

      fits_mid : Fits gr.keys g mid
      fits_mid = waking_fits gr ok w mid v a here fits sleeps (waking (w.node v) a woke) first ground_mid

    -- and then has its row
    module _ (w' : Net State Message) (p : ℕ) (m : Message) (ms : List Message) (at : At g v p) (q : w.queue v p ≡ m ∷ ms)
        (ground : Ground g w') where
      left_same : (a : Outcome) (woke : wakes (w.node v) ≡ Some a) (i : ℕ) → At g v i → put (w.queue v) p ms i ≡ put ((mid a woke).queue v) p ms i
      left_same a woke i there = ⊎_elim
          (λ (e : i ≡ p).
          subst (λ y. put (w.queue v) p ms y ≡ put ((mid a woke).queue v) p ms y) (sym e)
          (put_same (w.queue v) p ms ∙ sym (put_same ((mid a woke).queue v) p ms)))
          (λ ne.
          put_other (w.queue v) p i ms ne ∙ sym ((first a woke).queue i there) ∙ sym (put_other ((mid a woke).queue v) p i ms ne))
          (cases_eq i p)

      woken_row : (a y : Outcome) (woke : wakes (w.node v) ≡ Some a) → awake a.state p m ≡ Some y →
          Acts g w w' v y.state (put (w.queue v) p ms) (said a.sends y).sends → Fits gr.keys g w'
      woken_row a y woke row acts =
          let x = mid a woke in
          let one = first a woke in
          row_fits gr ok x w' v p m ms y at (fits_mid a woke)
          (λ s. (up a woke).1 (sym (ap (λ (n : State). n.head.phase) one.node) ∙ s))
          (one.queue p at ∙ q)
          (row_of (x.node v) p m y (subst (λ (n : State). awake n p m ≡ Some y) (sym one.node) row))
          (acts_left g x w' v y.state (put (w.queue v) p ms) (put (x.queue v) p ms) y.sends (left_same a woke)
          (acts_between g w x w' v a.state y.state (w.queue v) (put (w.queue v) p ms) a.sends y.sends one acts))
          ground

      then_row : (x : Option Outcome) → wakes (w.node v) ≡ x → (f : State → Option Outcome) → ((n : State) → f n ≡ awake n p m) → (o : Outcome) →
          and_then x f ≡ Some o → Acts g w w' v o.state (put (w.queue v) p ms) o.sends → Fits gr.keys g w'
      then_row None e f same o h acts = none_is_some o h
      then_row (Some a) e f same o h acts = read_says a.sends (f a.state) o h
          (λ y k is.
          woken_row a y e (sym (same a.state) ∙ k)
          (subst (λ (z : Outcome). Acts g w w' v z.state (put (w.queue v) p ms) z.sends) (sym is) acts))

  asleep_fits : (w w' : Net State Message) (v p : ℕ) (m : Message) (ms : List Message) (o : Outcome) → At g v p → Fits gr.keys g w →
      (w.node v).head.phase ≡ Sleeping → w.queue v p ≡ m ∷ ms → asleep (w.node v) p m ≡ Some o →
      Acts g w w' v o.state (put (w.queue v) p ms) o.sends → Ground g w' → Fits gr.keys g w'
  asleep_fits w w' v p (Connect l) ms o at fits sleeps q h acts ground =
      then_row w v (at_in at) fits sleeps w' p (Connect l) ms at q ground (wakes (w.node v)) refl
      (λ n. awake n p (Connect l)) (λ n. refl) o h acts
  asleep_fits w w' v p (Initiate l f) ms o at fits sleeps q h acts ground = none_is_some o h
  asleep_fits w w' v p (Name l f) ms o at fits sleeps q h acts ground =
      then_row w v (at_in at) fits sleeps w' p (Name l f) ms at q ground (wakes (w.node v)) refl
      (λ n. awake n p (Name l f)) (λ n. refl) o h acts
  asleep_fits w w' v p (Report k) ms o at fits sleeps q h acts ground = none_is_some o h
  asleep_fits w w' v p ChangeRoot ms o at fits sleeps q h acts ground = none_is_some o h

  -- by the reaction
  woke_fits : (w w' : Net State Message) (v : ℕ) (o : Outcome) → InNetwork g v → Fits gr.keys g w → reaction (w.node v) Wake ≡ Some o →
      Acts g w w' v o.state (w.queue v) o.sends → Ground g w' → Fits gr.keys g w'
  woke_fits w w' v o here fits r acts ground = read_if (is_sleeping (w.node v).head.phase) _ _ o r
      (λ t x. waking_fits gr ok w w' v o here fits ((sleeping_tells (w.node v).head.phase).0 t) (waking (w.node v) o x) acts ground)
      (λ t x. none_is_some o x)

  took_fits : (w w' : Net State Message) (v p : ℕ) (m : Message) (ms : List Message) (o : Outcome) → At g v p → Fits gr.keys g w →
      w.queue v p ≡ m ∷ ms → reaction (w.node v) (Deliver p m) ≡ Some o → Acts g w w' v o.state (put (w.queue v) p ms) o.sends → Ground g w' →
      Fits gr.keys g w'
  took_fits w w' v p m ms o at fits q r acts ground = read_if (nat_lt p (degree (w.node v))) _ _ o r
      (λ port x.
      read_if (is_sleeping (w.node v).head.phase) _ _ o x
      (λ t y. asleep_fits w w' v p m ms o at fits ((sleeping_tells (w.node v).head.phase).0 t) q y acts ground)
      (λ t y.
      row_fits gr ok w w' v p m ms o at fits ((sleeping_tells (w.node v).head.phase).1 t) q (row_of (w.node v) p m o y) acts ground))
      (λ port x. none_is_some o x)

  pub event_fits : (w w' : Net State Message) (e : Event) → Fits gr.keys g w → Happens boruvka g w e w' → Fits gr.keys g w'
  event_fits w _ _ fits (Woke v o lo hi s r t) =
      woke_fits w (reacted boruvka g v o w) v o (record { some = lo; node = hi }) fits r (acts_woken g wired w v o)
      (ground_event g wired w _ _ fits.ground (Woke v o lo hi s r t))
  event_fits w _ _ fits (Took v p m ms o at q r t) =
      took_fits w (reacted boruvka g v o (take_first boruvka g v p m ms w)) v p m ms o at fits q r (acts_taken g wired w v p m ms o)
      (ground_event g wired w _ _ fits.ground (Took v p m ms o at q r t))

-- every net of a run has the invariant
pub every_holds : (gr : Shape) (w : Net State Message) → IsNetOf boruvka gr w → Holds gr w
every_holds gr w h = record {
  graph = h.graph;
  fits = run_keeps boruvka (network_of gr) (Fits gr.keys (network_of gr)) (λ x y e fits k. event_fits gr h.graph x y e fits k) h.events
      (opening boruvka (network_of gr)) w (holds_opening gr h.graph).fits h.run;
}
