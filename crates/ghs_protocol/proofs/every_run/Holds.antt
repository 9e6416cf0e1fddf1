-- Every net of a run has the invariant, and what follows from it.
use Rattle.std.proofs.Common.{◌≡◌, ℕ, ◌^◌, ◌≤◌, true, Option, Some, None, List, [], ◌∷◌, refl, sym, pow_mono}
use Rattle.std.proofs.lemmas.Bool.{and_parts}
use Rattle.std.specs.Prelude.{IsSome}
use Rattle.ghs_node.specs.declared.mark.Mark.TheVariants.{Rejected}
use Rattle.ghs_node.specs.declared.message.Message.{Message}
use Rattle.ghs_node.specs.declared.message.Phase.TheVariants.{Sleeping}
use Rattle.ghs_node.specs.declared.delta.Delta.{Delta}
use Rattle.ghs_node.specs.declared.work.Work.{Work}
use Rattle.ghs_node.specs.declared.work.Work.TheVariants.{Deliver}
use Rattle.ghs_node.specs.Reaction.{reaction}
use Rattle.ghs_node.specs.NodeState.{mark_at}
use Rattle.ghs_node.specs.Words.{is_sleeping}
use Rattle.ghs_node.proofs.lemmas.{sleeping_is, reaction_ruleless, branch_mark}
use Rattle.peer_network.specs.declared.event.Event.{Event}
use Rattle.peer_network.specs.declared.event.Event.TheVariants as events
use Rattle.peer_network.specs.Network.{Network, At, far, InNetwork, is_node}
use Rattle.peer_network.proofs.lemmas.Wired.{IsWired, HasFewPorts}
use Rattle.ghs_protocol.specs.Net.{Net, is_lawful, effect, takes_from, after_take, is_waiting}
use Rattle.ghs_protocol.specs.Run.{run, IsAfter}
use Rattle.ghs_protocol.specs.Marks.{Leads, Here, Over, InOneFragment}
use Rattle.ghs_protocol.specs.Interleavings.{HaveAtLeast, Asks, To_wake, To_take}
use Rattle.ghs_protocol.proofs.acts.Many.{many_as, no_more}
use Rattle.ghs_protocol.proofs.clauses.Scene.{forest, scene}
use Rattle.ghs_protocol.proofs.clauses.Fragments.{IsJoinedIn}
use Rattle.ghs_protocol.proofs.clauses.Wiring.{Ground}
use Rattle.ghs_protocol.proofs.clauses.Whole.{HasInvariant}
use Rattle.peer_network.proofs.lemmas.Events.{at_of}
use Rattle.ghs_protocol.proofs.lemmas.WellFormed.{IsWellFormed, after_formed}
use Rattle.ghs_protocol.proofs.rows.Rows.{step_keeps}
use Rattle.ghs_protocol.proofs.every_run.Sound.{after_sound}
use Rattle.ghs_protocol.proofs.clauses.Floors.{HasSound}
use Rattle.ghs_protocol.proofs.every_run.RejectedStays.{run_rejected}
use Rattle.ghs_protocol.proofs.every_run.SparesRejected.{spares}
use Rattle.ghs_protocol.proofs.every_run.Foreseen.{foreseen}

-- what the invariant rests on, and it
pub record Holds (g : Network) (w : Net) : Type 0 where
  pub formed : IsWellFormed g w
  pub sound : HasSound g w

-- the invariant alone
abbrev pub without_floors : {g : Network} {w : Net} → HasSound g w → HasInvariant g w
without_floors s = record { ghost = s.ghost; holds = s.holds.first }

module _ (g : Network) (ground : Ground g) where
  -- every net of a run
  pub after_holds : HasFewPorts g → (es : List Event) (w : Net) → IsAfter g es w → Holds g w
  after_holds few es w h =
      record { formed = after_formed g ground.wired few es w h; sound = after_sound g ground few es w h }

  -- between two moments of a run
  pub rejected_stays : (es : List Event) (w w' : Net) →
      Holds g w →
      run g es w ≡ Some w' →
      (v p : ℕ) → At g v p →
      mark_at (w.node v) p ≡ Rejected →
      mark_at (w'.node v) p ≡ Rejected
  rejected_stays es w w' h r =
      run_rejected g ground.wired (HasSound g) (λ x y f i s. step_keeps g ground x y f.nodes i s)
      (λ x f i. spares g ground.wired x (without_floors i))
      es w w' h.formed h.sound r

module _ (g : Network) (wired : IsWired g) (w : Net) (h : Holds g w) where
  -- joined in the forest, and by marks
  leads_so : (v u : ℕ) → Leads g (IsJoinedIn g (forest (scene w h.sound.ghost))) v u → InOneFragment g w v u
  leads_so v _ Here = Here
  leads_so v u (Over p at j l) = Over p at (branch_mark _ j.here, branch_mark _ j.there) (leads_so _ u l)

  pub large : (v : ℕ) → 1 ≤ v → v ≤ g.count → HaveAtLeast (2 ^ (w.node v).head.level) (λ u. (1 ≤ u) × (u ≤ g.count) × InOneFragment g w v u)
  large v lo hi =
      no_more (2 ^ (w.node v).head.level) _ (pow_mono (h.sound.holds.first.nodes v is).lag.level)
      (many_as _ (λ u e. (e.0.some, e.0.node, leads_so v u (h.sound.holds.first.trees.connected v u is e.0 (sym e.1))))
      (h.sound.holds.first.trees.sizes v is))
    where
      is : InNetwork g v
      is = record { some = lo; node = hi }

  pub rejected_inside : (v p : ℕ) → At g v p → mark_at (w.node v) p ≡ Rejected → InOneFragment g w v (far g v p)
  rejected_inside v p at r =
      let t = wired.there v p at in
      leads_so v (far g v p)
      (h.sound.holds.first.trees.connected v (far g v p) (record { some = at.some; node = at.node }) (record { some = t.some; node = t.node })
      ((h.sound.holds.first.links v p at).search.rejected_inside r))

  module _ (few : g.count ≤ 1048576) where
    -- a message that is taken has a reaction
    reacts : (v p : ℕ) →
        At g v p →
        (m : Message) (ms : List Message) → w.queue v p ≡ m ∷ ms →
        (o : Option Delta) → reaction (w.node v) (Deliver p m) ≡ o →
        IsSome o
    reacts v p at m ms q None e =
        absurd
        (foreseen g wired few v p at w (h.formed.nodes v) h.sound.ghost h.sound.holds.first m ms q
        (reaction_ruleless (w.node v) (Deliver p m) (h.formed.nodes v).node.level e))
    reacts v p at m ms q (Some d) e = refl

    took : (v p : ℕ) (m : Message) (ms : List Message) (o : Option Delta) → IsSome o → IsSome (after_take g w v p m ms o)
    took v p m ms None s = cc
    took v p m ms (Some d) s = refl

    takes : (v p : ℕ) → At g v p → (q : List Message) → w.queue v p ≡ q → is_waiting q ≡ true → IsSome (takes_from g w v p q)
    takes v p at [] q l = cc
    takes v p at (m ∷ ms) q l = took v p m ms (reaction (w.node v) (Deliver p m)) (reacts v p at m ms q (reaction (w.node v) (Deliver p m)) refl)

    pub has_rule : (e : Event) → is_lawful g w e ≡ true → IsSome (effect g w e)
    has_rule (events.Wake v) l =
        let s : (w.node v).head.phase ≡ Sleeping =
        sleeping_is (w.node v).head.phase (and_parts (is_node g v) (is_sleeping (w.node v).head.phase) l).1 in
        rw s refl
    has_rule (events.Take v p) l = let b = and_parts _ _ l in takes v p (at_of g v p b.0) (w.queue v p) refl b.1

    pub has_reaction : (v : ℕ) (k : Work) → Asks g w v k → IsSome (reaction (w.node v) k)
    has_reaction v k (To_wake u lo hi s) = rw s refl
    has_reaction v k (To_take u p m ms at q) = reacts u p at m ms q (reaction (w.node u) (Deliver p m)) refl
