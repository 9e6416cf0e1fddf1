-- Every net of a run has paid for what was sent.
use Rattle.std.proofs.Common.{◌≡◌, ℕ, ◌≤◌, ◌<◌, Option, Some, None, List, [], ◌∷◌, length, refl, sym, ap, subst, arith, get_or}
use Rattle.ghs_graph.specs.Bound.{IsFloorLog2}
use Rattle.ghs_node.specs.declared.mark.Mark.{Mark}
use Rattle.ghs_node.specs.declared.mark.Mark.TheVariants.{Branch, Rejected}
use Rattle.ghs_node.specs.declared.message.Phase.TheVariants.{Sleeping}
use Rattle.ghs_node.specs.declared.delta.Delta.{Delta}
use Rattle.ghs_node.specs.NodeState.{NodeState, mark_at, degree, with_mark}
use Rattle.ghs_node.specs.Reaction.{at_wake, wakes, wakes_alone}
use Rattle.peer_network.specs.declared.event.Event.{Event}
use Rattle.peer_network.specs.Network.{At, Network}
use Rattle.peer_network.proofs.lemmas.Wired.{IsWired, HasFewPorts}
use Rattle.ghs_protocol.specs.Net.{Net, opening}
use Rattle.peer_network.specs.Updates.{put}
use Rattle.ghs_protocol.specs.Run.{IsAfter}
use Rattle.ghs_protocol.specs.Nodes.{IsNodeOf}
use Rattle.ghs_protocol.proofs.lemmas.WellFormed.{AreNodes}
use Rattle.ghs_protocol.specs.Steps.{Step, Takes_one, Wakes_up, reacted, taken, waking}
use Rattle.ghs_protocol.proofs.clauses.Scene.{Ghost, Scene, see, scene}
use Rattle.ghs_protocol.proofs.clauses.Nodes.{Untouched}
use Rattle.ghs_protocol.proofs.clauses.Wiring.{Ground}
use Rattle.ghs_protocol.proofs.clauses.Whole.{opening_ghost}
use Rattle.ghs_protocol.proofs.clauses.Floors.{Sound}
use Rattle.ghs_protocol.proofs.clauses.Growing.{Kept}
use Rattle.ghs_protocol.proofs.clauses.Charges.{Acted, Charges, HasCharges, Pays, Rises, SoundWith}
use Rattle.ghs_protocol.proofs.lemmas.Nodes.{ports_many}
use Rattle.ghs_protocol.proofs.lemmas.Sends.{messages, consumed_now, node_here, node_there, sent_now}
use Rattle.ghs_protocol.proofs.lemmas.Steps.{run_by_steps}
use Rattle.peer_network.proofs.lemmas.Sums.{sum_none}
use Rattle.peer_network.proofs.lemmas.Updates.{put_same, put_other}
use Rattle.ghs_protocol.proofs.lemmas.Woken.{asleep_basic, step_node}
use Rattle.ghs_protocol.proofs.charges.Acts.{charges_keep, pays_alone, pays_wake}
use Rattle.ghs_protocol.proofs.charges.Due.{Grows, NoTests}
use Rattle.ghs_protocol.proofs.charges.Rows.{row_acts}
use Rattle.ghs_protocol.proofs.charges.PortActs.{calm_pays, grows_branch}
use Rattle.ghs_protocol.proofs.acts.AsRead.{reacts}
use Rattle.ghs_protocol.proofs.rows.Read.{set_marks}
use Rattle.ghs_protocol.proofs.rows.Rows.{row_keeps, up_waking, ups_after, wake_keeps}
use Rattle.ghs_protocol.proofs.every_run.Sound.{opening_sound}
use Rattle.ghs_protocol.proofs.acts.Reactions.{wake_acts}

module _ (g : Network) (wired : IsWired g) (k : ℕ) (log : IsFloorLog2 g.count k) (v : ℕ) (lo : 1 ≤ v) (hi : v ≤ g.count) (w : Net)
    (is : IsNodeOf g v (w.node v)) (gh : Ghost) (sound : Sound g (scene w gh)) (sleeps : (w.node v).head.phase ≡ Sleeping) where
  rested : Untouched ((scene w gh).at v)
  rested = (sound.first.nodes v (record { some = lo; node = hi })).untouched sleeps

  -- a node reacts to no message, pays, and its ports pay nothing
  reacts_pays :
      (d : Delta) (o : Option ℕ) → NoTests (messages d.sends) →
      d.head.probe ≡ (w.node v).head.probe →
      ((i : ℕ) → Grows (mark_at (w.node v) i) (get_or (with_mark (w.node v).marks d.mark) i Rejected)) →
      Pays k (w.node v).head None d.head o (λ j. 0) (messages d.sends) 0 → Acted g k v gh.up (put gh.up v o) w (reacted g v d w)
  reacts_pays d o none probe grows pays = record {
    came = λ j. 0;
    kinds = messages d.sends;
    port = 0;
    paid_more = 0;
    there = node_there g v d w;
    ways = λ u ne. put_other gh.up v u o ne;
    sent = sent_now g v d w;
    consumed = λ j. let z = ap (λ (f : ℕ → ℕ). f j) (consumed_now g v d w) in omega (arith, z);
    ports =
        let r = subst (λ (z : Scene). Rises g (scene w opening_ghost) z v 0 0) (sym (wake_acts g v w opening_ghost None d))
        (calm_pays g wired v (record { some = lo; node = hi }) (record (reacts g v w opening_ghost d) { up = None }) (λ i. see (w.queue v i))
        (scene w opening_ghost) (λ i h. h) d.sends none probe grows 0) in
        record { stays = r.stays; more = r.more };
    pays =
        subst
        (λ (n : NodeState). Pays k (w.node v).head (gh.up v) n.head (put gh.up v o v) (λ j. 0) (messages d.sends) 0)
        (sym (node_here g v d w))
        (subst (λ a. Pays k (w.node v).head a d.head (put gh.up v o v) (λ j. 0) (messages d.sends) 0) (sym rested.up)
        (subst (λ a. Pays k (w.node v).head None d.head a (λ j. 0) (messages d.sends) 0) (sym (put_same gh.up v o)) pays));
  }

  wakes_over : At g v 0 → Acted g k v gh.up (put gh.up v (Some 0)) w (reacted g v (wakes (w.node v)) w)
  wakes_over at =
      reacts_pays (wakes (w.node v)) (Some 0) refl refl
      (λ i.
      subst (λ (f : ℕ → Mark). Grows (mark_at (w.node v) i) (f i)) (sym (set_marks (w.node v).marks 0 Branch in_marks))
      (grows_branch (λ q. mark_at (w.node v) q) 0 i (λ z. let y = asleep_basic (w.node v) 0 is.node sleeps in_marks in cc (y, z))))
      (pays_wake k (w.node v).head (λ j. 0) one rested.level sleeps rested.in_branch rested.best refl refl)
    where
      in_marks : 0 < degree (w.node v)
      in_marks = let lt = at.port in omega (arith, lt, ports_many is)

      one : 1 ≤ k
      one =
          log.greatest 1
          (let t = wired.there v 0 at in let a = t.some in let b = t.node in let ne = wired.apart v 0 at in omega (arith, a, b, ne, lo, hi))

  pub wake_acts_so : Acted g k v gh.up (put gh.up v (up_waking (w.node v).marks (gh.up v))) w (reacted g v (waking (w.node v)) w)
  wake_acts_so = go (w.node v).marks refl
    where
      go : (ks : List Mark) →
          (w.node v).marks ≡ ks →
          Acted g k v gh.up (put gh.up v (up_waking ks (gh.up v))) w (reacted g v (at_wake (w.node v) ks) w)
      go [] e = reacts_pays (wakes_alone (w.node v)) (gh.up v) refl refl (λ i ne. refl)
          (subst
          (λ a. Pays k (w.node v).head None (wakes_alone (w.node v)).head a (λ j. 0) [] 0)
          (sym rested.up) (pays_alone k (w.node v).head (λ j. 0) sleeps rested.best refl refl))
      go (m ∷ ks) e = wakes_over (record { some = lo; node = hi; port = let z = ports_many is in let y = ap length e in omega (arith, z, y) })

module _ (g : Network) (ground : Ground g) (k : ℕ) (log : IsFloorLog2 g.count k) where
  -- what is known of a net, by its memory
  -- without what it has grown from
  with_memory : {w : Net} {t : ℕ} {gh : Ghost} {up : ℕ → Option ℕ} → Kept g t gh up w → SoundWith g up w
  with_memory s = record { ghost = s.ghost; holds = s.holds; ups = s.ups }

  pub by_memory : {w : Net} {up : ℕ → Option ℕ} (s : SoundWith g up w) → Charges g k up w → Charges g k s.ghost.up w
  by_memory {w} s c = subst (λ u. Charges g k u w) (sym s.ups) c

  -- a step: who acts, and what that pays
  pub record Stepped (w w' : Net) (h : HasCharges g k w) (v : ℕ) : Type 0 where
    pub some : 1 ≤ v
    pub within : v ≤ g.count
    pub up : ℕ → Option ℕ
    pub sound : SoundWith g up w'
    pub acted : Acted g k v h.up up w w'

  pub stepped : (w w' : Net) → AreNodes g w → (h : HasCharges g k w) → (s : Step g w w') → Stepped w w' h (step_node s)
  stepped w _ nodes h (Wakes_up v lo hi sleeps) = record {
    some = lo;
    within = hi;
    up = put h.sound.ghost.up v (up_waking (w.node v).marks (h.sound.ghost.up v));
    sound = with_memory (wake_keeps g ground v (record { some = lo; node = hi }) w (nodes v) h.sound.ghost h.sound.holds sleeps);
    acted =
        subst
        (λ u. Acted g k v u (put h.sound.ghost.up v (up_waking (w.node v).marks (h.sound.ghost.up v))) w (reacted g v (waking (w.node v)) w))
        h.sound.ups
        (wake_acts_so g ground.wired k log v lo hi w (nodes v) h.sound.ghost h.sound.holds sleeps);
  }
  stepped w _ nodes h (Takes_one v p m ms d at q up row) = record {
    some = at.some;
    within = at.node;
    up = ups_after row h.sound.ghost.up v;
    sound = with_memory (row_keeps g ground v p at w (nodes v) h.sound.ghost h.sound.holds m ms d q up row);
    acted = subst (λ u. Acted g k v u (ups_after row h.sound.ghost.up v) w (taken g v p m ms d w)) h.sound.ups
        (row_acts g ground k log v p at w (nodes v) h.sound.ghost h.sound.holds (by_memory h.sound h.charges) ms m d q row);
  }

  pub charged : (w w' : Net) (h : HasCharges g k w) (v : ℕ) → Stepped w w' h v → HasCharges g k w'
  charged w w' h v s = record { up = s.up; sound = s.sound; charges = charges_keep g k v s.some s.within h.up s.up w w' s.acted h.charges }

  opening_charges : Charges g k (λ v. None) (opening g)
  opening_charges = record {
    calls = omega arith;
    reports = let z = sum_none g.count (λ i. 0) (λ i lt. refl) in omega (arith, z);
    roots = omega arith;
    accepts = let z = sum_none g.count (λ i. 0) (λ i lt. refl) in omega (arith, z);
    tests = omega arith;
    low = λ v is. record { moved = λ m. absurd (omega (arith, m)); best = λ ne. absurd (ne refl) };
  }

  pub opening_has : HasCharges g k (opening g)
  opening_has = record { up = λ v. None; sound = record { ghost = opening_ghost; holds = opening_sound g; ups = refl }; charges = opening_charges }

  pub after_charges : HasFewPorts g → (es : List Event) (w : Net) → IsAfter g es w → HasCharges g k w
  after_charges few es w h =
      run_by_steps g ground.wired few (HasCharges g k)
      (λ w w' f i s. charged w w' i (step_node s) (stepped w w' f.nodes i s))
      opening_has es w h
