-- A message is put back just where it waits, and then nothing else changes.
use Rattle.std.proofs.Common.{◌≡◌, ◌≢◌, ℕ, ◌+◌, List, [], ◌∷◌, ◌++◌, refl, sym, ◌∙◌, ap, subst, ⊎_elim, ◌⊎◌, inl, inr, arith}
use Rattle.std.proofs.lemmas.Bool.{cases_eq}
use Rattle.std.proofs.lemmas.Option.{same_Some}
use Rattle.ghs_node.specs.declared.message.Phase.TheVariants.{Sleeping}
use Rattle.ghs_node.specs.declared.message.Message.{Message}
use Rattle.ghs_node.specs.declared.delta.Fate.TheVariants.{Consumed, Requeued}
use Rattle.ghs_node.specs.declared.delta.Delta.{Delta}
use Rattle.ghs_node.specs.declared.work.Work.TheVariants.{Deliver}
use Rattle.ghs_node.specs.Reaction.{requeues}
use Rattle.ghs_node.specs.Rows.{AwakeRow}
use Rattle.ghs_node.specs.Rows as rows
use Rattle.ghs_node.specs.Kind.{kind_of, place_of}
use Rattle.ghs_node.specs.NodeState.{NodeState}
use Rattle.ghs_node.proofs.lemmas.{reaction_inverts}
use Rattle.peer_network.specs.declared.event.Event.TheVariants as events
use Rattle.peer_network.specs.Network.{Network, network_of, At}
use Rattle.ghs_protocol.specs.Net.{Net}
use Rattle.ghs_protocol.specs.Nodes.{IsNodeOf}
use Rattle.ghs_protocol.specs.Steps.{Happens, Took, taken}
use Rattle.ghs_protocol.specs.Living.{Waits, Turned, RequeuesAreWaits, WaitingTakesTurn}
use Rattle.ghs_protocol.specs.Living as living
use Rattle.ghs_protocol.proofs.lemmas.Nodes.{ports_many}
use Rattle.peer_network.proofs.lemmas.Graphs.{graph_wired, graph_few}
use Rattle.ghs_protocol.proofs.lemmas.WellFormed.{after_formed}
use Rattle.ghs_protocol.proofs.lemmas.Events.{happens_so}
use Rattle.peer_network.proofs.lemmas.Updates.{put_same, put_other, put_at_same, put_at_miss}
use Rattle.ghs_protocol.proofs.lemmas.Waiting.{waits_reaction}
use Rattle.ghs_protocol.proofs.lemmas.Woken.{awake_row}

pub fate_is : (n : NodeState) (j : ℕ) (m : Message) (d : Delta) → n.head.phase ≢ Sleeping → AwakeRow n j m d → (d.fate ≡ Consumed) ⊎ Waits n j m
fate_is n j m _ up (rows.Connect_absorbed lt few) = inl refl
fate_is n j m _ up (rows.Connect_waits le b) = inr (living.Connect_waits up le b)
fate_is n j m _ up (rows.Connect_merges le ne lt) = inl refl
fate_is n j m _ up (rows.Initiate_rests lt) = inl refl
fate_is n j m _ up (rows.Initiate_searches lt few s) = inl refl
fate_is n j m _ up (rows.Test_waits lt) = inr (living.Test_waits up lt)
fate_is n j m _ up (rows.Test_accepted le x) = inl refl
fate_is n j m _ up (rows.Test_rejected le x y) = inl refl
fate_is n j m _ up (rows.Tests_cross le x y s) = inl refl
fate_is n j m _ up (rows.Accept_heard x c) = inl refl
fate_is n j m _ up (rows.Reject_heard x s) = inl refl
fate_is n j m _ up (rows.Report_heard c x y z) = inl refl
fate_is n j m _ up (rows.Report_waits x y) = inr (living.Report_waits x y)
fate_is n j m _ up (rows.Report_moves_root b k x y z t) = inl refl
fate_is n j m _ up (rows.Report_halts x y z) = inl refl
fate_is n j m _ up (rows.Report_passes x y z t) = inl refl
fate_is n j m _ up (rows.Root_moves b k x) = inl refl

pub requeues_are_waits : RequeuesAreWaits
requeues_are_waits n p m d lt up r = (
  λ e. ⊎_elim (λ c. absurd (let z : Consumed ≡ Requeued = sym c ∙ e in cc)) (λ h. h)
      (fate_is n p m d up (awake_row up (reaction_inverts n (Deliver p m) d lt r))),
  λ h. ap (λ (x : Delta). x.fate) (same_Some d (requeues n.head) (sym r ∙ waits_reaction n p m lt h)),
)

module _ (g : Network) (w : Net) (v p : ℕ) (m : Message) (ms : List Message) where
  abbrev pub turned : Net
  turned = taken g v p m ms (requeues (w.node v).head) w

  pub turns : Turned w v p m ms (taken g v p m ms (requeues (w.node v).head) w)
  turns = record {
    queue = put_at_same w.queue v p (ms ++ m ∷ []);
    queues = λ u q ne. put_at_miss w.queue v p u q (ms ++ m ∷ []) ne;
    nodes = λ u. ⊎_elim
        (λ (e : u ≡ v). subst (λ y. turned.node y ≡ w.node y) (sym e) (put_same w.node v (w.node v)))
        (λ ne. put_other w.node v u (w.node v) ne)
        (cases_eq u v);
    sent = λ k. refl;
    consumed = λ k. ⊎_elim (λ (e : k ≡ place_of (kind_of m)).
        subst (λ y. turned.consumed y ≡ w.consumed y) (sym e)
        (let z = put_same w.consumed (place_of (kind_of m)) (w.consumed (place_of (kind_of m)) + 0) in omega (arith, z)))
        (λ ne. put_other w.consumed (place_of (kind_of m)) k _ ne)
        (cases_eq k (place_of (kind_of m)));
    requeued = omega arith;
  }

  module _ (at : At g v p) (is : IsNodeOf g v (w.node v)) (waits : w.queue v p ≡ m ∷ ms) (h : Waits (w.node v) p m) where
    -- it can be taken
    pub turn_happens : Happens g w (events.Take v p) (taken g v p m ms (requeues (w.node v).head) w)
    turn_happens = Took v p m ms (requeues (w.node v).head) at waits (waits_reaction (w.node v) p m (omega (arith, at.port, ports_many is)) h)

pub turned_by : (g : Network) (w w' : Net) (v p : ℕ) (m : Message) (ms : List Message) →
    At g v p →
    IsNodeOf g v (w.node v) →
    w.queue v p ≡ m ∷ ms →
    Waits (w.node v) p m →
    Happens g w (events.Take v p) w' →
    Turned w v p m ms w'
turned_by g w w' v p m ms at is waits h t =
    subst (Turned w v p m ms) (same_Some _ _ (sym (happens_so (turn_happens g w v p m ms at is waits h)) ∙ happens_so t)) (turns g w v p m ms)

pub waiting_takes_turn : WaitingTakesTurn
waiting_takes_turn g w w' n v p m ms at waits h t =
    turned_by (network_of g) w w' v p m ms at
    ((after_formed (network_of g) (graph_wired g n.graph) (graph_few g n.graph) n.events w n.run).nodes v) waits h t
