-- Each row of the table keeps the invariant: what a reaction does is cut into acts, each from one net to the next.
use Rattle.std.proofs.Common.{◌≡◌, ◌≢◌, ℕ, suc, nat_lt, true, false, Option, Some, List, [], ◌∷◌, ◌++◌, refl, sym, ◌∙◌, ap, subst, arith, append-nil, eq-eqb, eqb-true}
use Rattle.std.proofs.lemmas.Bool.{both_ways, eqb-false}
use Rattle.std.proofs.lemmas.Option.{same_Some}
use Rattle.ghs_graph.specs.declared.key.Key.{Key}
use Rattle.ghs_graph.specs.Graph.{Shape, IsGraph}
use Rattle.ghs_graph.specs.Ports.{far_end}
use Rattle.boruvka_protocol.specs.Levels.{InClass, IsOfLevel}
use Rattle.boruvka_protocol.proofs.lemmas.WaysUp.{classes_have_one_top}
use Rattle.ghs_node.specs.Words.{is_at}
use Rattle.peer_network.specs.Network.{Network, network_of, At, InNetwork, far, far_port}
use Rattle.peer_network.proofs.lemmas.Wired.{IsWired}
use Rattle.peer_network.proofs.lemmas.Graphs.{graph_wired}
use Rattle.peer_network.proofs.lemmas.Wires.{at_in}
use Rattle.peer_machine.specs.Rules.{Outgoing}
use Rattle.peer_machine.specs.Net.{Net, put, reacted, take_first}
use Rattle.boruvka_node.specs.declared.change.Entry.{Entry}
use Rattle.boruvka_node.specs.declared.mark.Mark.{Mark}
use Rattle.boruvka_node.specs.declared.mark.Mark.TheVariants.{Asked}
use Rattle.boruvka_node.specs.declared.message.Message.{Message}
use Rattle.boruvka_node.specs.declared.message.Message.TheVariants.{Connect, Initiate, ChangeRoot}
use Rattle.boruvka_node.specs.declared.message.Phase.TheVariants.{Sleeping, Search}
use Rattle.boruvka_node.specs.Words.{is_asked, is_branch}
use Rattle.boruvka_node.specs.State.{State, sleeper, key_at, mark_at, set_mark, degree, name_of}
use Rattle.boruvka_node.specs.Entering.{entered, told_from}
use Rattle.boruvka_node.specs.Reaction.{Outcome, is_over, rested, halted, woken, heard, reported}
use Rattle.boruvka_node.specs.Boruvka.{boruvka}
use Rattle.boruvka_protocol.proofs.invariant.Whole.{Ground, Fits, NearlyFits}
use Rattle.boruvka_protocol.proofs.Unlike.{rest_is_sleeping, search_is_sleeping}
use Rattle.boruvka_protocol.proofs.rows.Table.{still, gone, adopted, core_entry, call_entry, Moving, Passes, Goes, Closing, Goes_on, Reports, Halts, Moves, Connecting, Connects, Waking, Alone, Wakes, Enters, Waits, Begins, Going, Goes_out, Meets, Row, Noted, Met, Late, Called, Named, Told, Moved}
use Rattle.boruvka_protocol.proofs.rows.Grows.{Wakes_up, grows_on, grows_port, grows_rested, grows_gone, grows_reported, grows_entered, grows_woken}
use Rattle.boruvka_protocol.proofs.rows.Acts.{Acts, acts_woken, acts_taken}
use Rattle.boruvka_protocol.proofs.rows.Between.{acts_on, same_fits}
use Rattle.boruvka_protocol.proofs.rows.Unasked.{Unmet, Unasked, entered_unasked, closes_unasked}
use Rattle.boruvka_protocol.proofs.rows.Asked.{noted_fits}
use Rattle.boruvka_protocol.proofs.rows.Adopted.{late_fits}
use Rattle.boruvka_protocol.proofs.rows.Hears.{named_nearly}
use Rattle.boruvka_protocol.proofs.rows.Ending.{goes_on_fits}
use Rattle.boruvka_protocol.proofs.rows.AboutToMove.{AboutToMove}
use Rattle.boruvka_protocol.proofs.rows.Closes.{reports_fits, halts_fits, moves_next}
use Rattle.boruvka_protocol.proofs.rows.Reported.{reported_nearly}
use Rattle.boruvka_protocol.proofs.rows.Above.{token_gone_on}
use Rattle.boruvka_protocol.proofs.rows.Moves.{moves_out, out_port, holding, least_out, gone_node}
use Rattle.boruvka_protocol.proofs.rows.AtCore.{at_core}
use Rattle.boruvka_protocol.proofs.rows.OwnPorts.{is_lesser, is_greater}
use Rattle.boruvka_protocol.proofs.rows.CoreIn.{core_after}
use Rattle.boruvka_protocol.proofs.rows.CalledIn.{called_nearly}
use Rattle.boruvka_protocol.proofs.rows.Met.{met_waits, met_begins}
use Rattle.boruvka_protocol.proofs.rows.Halting.{wakes_alone}
use Rattle.boruvka_protocol.proofs.rows.Took.{acts_took, took}
use Rattle.boruvka_protocol.proofs.rows.Passing.{passes_fits}
use Rattle.boruvka_protocol.proofs.rows.Waking.{wakes_fits}
use Rattle.boruvka_protocol.proofs.follows.Cases.{searching_is, asked_is}
use Rattle.boruvka_protocol.proofs.follows.Told.{out_at}
use Rattle.boruvka_protocol.proofs.every_run.Ground.{ground_reacted, ground_taken, taken_empty, sleeper_level}

-- a node has gone out on another port, or not at all
not_out : (o : Option ℕ) (j : ℕ) → is_at o j ≡ false → o ≡ Some j → ⊥
not_out o j other e = both_ways (is_at o j) other (subst (λ x. is_at x j ≡ true) (sym e) (eq-eqb j j refl))

module _ (gr : Shape) (ok : IsGraph gr) where
  abbrev g : Network
  g = network_of gr

  wired : IsWired g
  wired = graph_wired gr ok

  -- what going out leads to keeps the invariant, from a node that is about to move
  abbrev GoesRight : (State → ℕ → Outcome → Type 0) → Type 0
  GoesRight G =
      (w w' : Net State Message) (v : ℕ) (o : Outcome) → InNetwork g v → (h : AboutToMove gr.keys g w v) →
      is_branch (mark_at (w.node v) h.best.0) ≡ false → G (w.node v) h.best.0 o → Acts g w w' v o.state (w.queue v) o.sends → Ground g w' →
      Fits gr.keys g w'

  -- while v holds its class's token, nobody of the class searches at the next level
  none_gone_on : (w : Net State Message) (v : ℕ) → InNetwork g v → AboutToMove gr.keys g w v → (x : ℕ) → InNetwork g x →
      InClass gr.keys (w.node v).head.level v x → (w.node x).head.level ≡ suc (w.node v).head.level → (w.node x).head.phase ≡ Search → ⊥
  none_gone_on w v here h x net inside level searching =
      let class : IsOfLevel gr.keys (suc (w.node v).head.level) x =
      subst (λ l. IsOfLevel gr.keys l x) level (h.nodes x net (λ s. search_is_sleeping (sym searching ∙ s))).class in
      let top = classes_have_one_top gr ok (suc (w.node v).head.level) x class in
      h.tokens.none (token_gone_on gr w ok (λ u i at. let k = h.links u i at in record { marks = k.marks; children = k.children })
      (λ u at lo. (h.nodes u at (λ s. let z = sleeper_level h.ground u s in omega (arith, lo, z))).class)
      (w.node v).head.level v x top.0 top.1 class inside net level searching).0

  -- goes out where no Connect has come, or as the greater end of a core
  outs_fits : (w w' : Net State Message) (v : ℕ) → InNetwork g v → (h : AboutToMove gr.keys g w v) → is_branch (mark_at (w.node v) h.best.0) ≡ false →
      (is_asked (mark_at (w.node v) h.best.0) ≡ true →
      nat_lt (w.node v).number (far_end (w.node v).number (key_at (w.node v) h.best.0)) ≡ false) →
      Acts g w w' v (gone (w.node v) h.best.0) (w.queue v) ((h.best.0, Connect (w.node v).head.level) ∷ []) → Ground g w' → Fits gr.keys g w'
  outs_fits w w' v here h plain greater a ground =
      moves_out gr ok w v here h w' plain
      (λ e.
      is_greater gr ok v h.best.0 (w.node v) (h.ground.nodes v) (out_port gr ok w v here h plain).at
      (greater (ap (λ (x : Mark). is_asked x) e)))
      a ground

  module _ (G : State → ℕ → Outcome → Type 0) (goes : GoesRight G) where
    moving_fits : (w w' : Net State Message) (v : ℕ) (o : Outcome) → InNetwork g v → (h : AboutToMove gr.keys g w v) →
        Moving G (w.node v) h.best.0 o → Acts g w w' v o.state (w.queue v) o.sends → Ground g w' → Fits gr.keys g w'
    moving_fits w w' v _ here h (Passes b) a ground = passes_fits gr ok w v here h b (none_gone_on w v here h) w' a ground
    moving_fits w w' v o here h (Goes plain x) a ground = goes w w' v o here h plain x a ground

    -- a root moves, from the net in which it is at rest and has sent nothing yet
    root_fits : (w w' : Net State Message) (v : ℕ) (o : Outcome) (b : ℕ × Key) → InNetwork g v → (near : NearlyFits gr.keys g w v) →
        AboutToMove gr.keys g (reacted boruvka g v (still (rested (w.node v))) w) v → (rested (w.node v)).head.best ≡ Some b →
        Moving G (rested (w.node v)) b.0 o → Acts g w w' v o.state (w.queue v) o.sends → Ground g w' → Fits gr.keys g w'
    root_fits w w' v o b here near h e m a ground =
        let mid = reacted boruvka g v (still (rested (w.node v))) w in
        let first : Acts g w mid v (rested (w.node v)) (w.queue v) [] = acts_woken g wired w v (still (rested (w.node v))) in
        let same : h.best ≡ b = same_Some _ _ (sym h.is ∙ ap (λ (x : State). x.head.best) first.node ∙ e) in
        moving_fits mid w' v o here h
        (subst (λ (x : State). Moving G x h.best.0 o) (sym first.node)
        (subst (λ (y : ℕ × Key). Moving G (rested (w.node v)) y.0 o) (sym same) m))
        (acts_on g w mid w' v (rested (w.node v)) o.state (w.queue v) [] o.sends first a)
        ground

    ends_fits : (w w' : Net State Message) (v : ℕ) (o : Outcome) → InNetwork g v → NearlyFits gr.keys g w v → is_over (w.node v) ≡ true →
        Closing G (w.node v) o → Acts g w w' v o.state (w.queue v) o.sends → Ground g w' → Fits gr.keys g w'
    ends_fits w w' v _ here near over (Goes_on goes_on) a ground = absurd (both_ways (is_over (w.node v)) goes_on over)
    ends_fits w w' v _ here near over (Reports p also up) a ground = reports_fits gr ok w v near here over p up w' a ground
    ends_fits w w' v _ here near over (Halts also up none) a ground = halts_fits gr ok w v near here over up none w' a ground
    ends_fits w w' v o here near over (Moves b also up e m) a ground =
        root_fits w w' v o b here near
        (moves_next gr ok w v near here over up b e (reacted boruvka g v (still (rested (w.node v))) w)
        (acts_woken g wired w v (still (rested (w.node v))))
        (ground_reacted g w w v (still (rested (w.node v))) near.ground refl (grows_rested (w.node v), rest_is_sleeping) wired here
        (λ u p at ne h. h)))
        e m a ground

    -- v has come to n by way of the net mid, and closes
    module _ (w mid w' : Net State Message) (v : ℕ) (n : State) (own : ℕ → List Message) (ss : Outgoing Message) (here : InNetwork g v)
        (near : NearlyFits gr.keys g mid v) (first : Acts g w mid v n own ss) (ground : Ground g w') where
      ended_fits : (o : Outcome) → is_over n ≡ true → Closing G n o → Acts g w w' v o.state own (ss ++ o.sends) → Fits gr.keys g w'
      ended_fits o over c a = ends_fits mid w' v o here near
          (subst (λ (x : State). is_over x ≡ true) (sym first.node) over)
          (subst (λ (x : State). Closing G x o) (sym first.node) c)
          (acts_on g w mid w' v n o.state own ss o.sends first a)
          ground

      closes_fits : (o : Outcome) → Closing G n o → Acts g w w' v o.state own (ss ++ o.sends) → Fits gr.keys g w'
      closes_fits _ (Goes_on goes_on) a =
          same_fits gr ok w mid w' v n own ss here first
          (subst (λ (x : Outgoing Message). Acts g w w' v n own x) (append-nil ss) a)
          (goes_on_fits gr.keys g mid v near (subst (λ (x : State). is_over x ≡ false) (sym first.node) goes_on))
          ground
      closes_fits _ (Reports p over up) a = ended_fits _ over (Reports p over up) a
      closes_fits _ (Halts over up none) a = ended_fits _ over (Halts over up none) a
      closes_fits o (Moves b over up e m) a = ended_fits o over (Moves b over up e m) a

  unmet_right : GoesRight Unmet
  unmet_right w w' v _ here h plain (Unasked t) a ground =
      outs_fits w w' v here h plain (λ asked. absurd (both_ways (is_asked (mark_at (w.node v) h.best.0)) t asked)) a ground

  -- v enters, and closes
  enters_fits : (w mid w' : Net State Message) (v : ℕ) (n : State) (e : Entry) (own : ℕ → List Message) (ss : Outgoing Message) (o : Outcome) →
      InNetwork g v → NearlyFits gr.keys g mid v → Acts g w mid v (entered n e) own ss → Ground g w' →
      Closing Connecting (entered n e) o → Acts g w w' v o.state own (ss ++ o.sends) → Fits gr.keys g w'
  enters_fits w mid w' v n e own ss o here near first ground c a =
      closes_fits Unmet unmet_right w mid w' v (entered n e) own ss here near first ground o
      (closes_unasked (entered n e) (entered_unasked n e) o c) a

  -- the lesser end of a core has gone out, and enters: all holds but that it may wait for nothing
  core_nearly : (w w' : Net State Message) (v : ℕ) → InNetwork g v → (h : AboutToMove gr.keys g w v) →
      is_branch (mark_at (w.node v) h.best.0) ≡ false → is_asked (mark_at (w.node v) h.best.0) ≡ true →
      nat_lt (w.node v).number (far_end (w.node v).number (key_at (w.node v) h.best.0)) ≡ true →
      Acts g w w' v (entered (gone (w.node v) h.best.0) (core_entry (gone (w.node v) h.best.0) h.best.0)) (w.queue v)
      ((h.best.0, Connect (w.node v).head.level) ∷ told_from (core_entry (gone (w.node v) h.best.0) h.best.0) 0 (w.node v).ports) →
      Ground g w' → NearlyFits gr.keys g w' v
  core_nearly w w' v here h plain asked t a ground =
      let p = h.best.0 in
      let n = gone (w.node v) p in
      let out : Outcome = record { state = n; sends = (p, Connect (w.node v).head.level) ∷ [] } in
      let mid = reacted boruvka g v out w in
      let first : Acts g w mid v n (w.queue v) out.sends = acts_woken g wired w v out in
      let o = out_port gr ok w v here h plain in
      core_after gr ok w mid w' v p n (w.queue v) out.sends
      (at_core gr ok w mid v p o.at (holding gr ok w v here h) o.basic (least_out gr ok w v here h o) first (gone_node gr ok w v here h o.at)
      (asked_is (mark_at (w.node v) p) asked) (is_lesser gr ok v p (w.node v) (h.ground.nodes v) o.at t)
      (ground_reacted g w w v out h.ground refl (grows_gone (w.node v) p, λ s. rest_is_sleeping (sym h.rest ∙ s)) wired here (λ u q at ne z. z)))
      first a ground

  -- the lesser end of a core enters as soon as it has gone out
  begins_fits : (w w' : Net State Message) (v : ℕ) (o : Outcome) → InNetwork g v → (h : AboutToMove gr.keys g w v) →
      is_branch (mark_at (w.node v) h.best.0) ≡ false → is_asked (mark_at (w.node v) h.best.0) ≡ true →
      nat_lt (w.node v).number (far_end (w.node v).number (key_at (w.node v) h.best.0)) ≡ true →
      Closing Connecting (entered (gone (w.node v) h.best.0) (core_entry (gone (w.node v) h.best.0) h.best.0)) o →
      Acts g w w' v o.state (w.queue v)
      ((h.best.0, Connect (w.node v).head.level) ∷ told_from (core_entry (gone (w.node v) h.best.0) h.best.0) 0 (w.node v).ports ++ o.sends) →
      Ground g w' → Fits gr.keys g w'
  begins_fits w w' v o here h plain asked t c a ground =
      let n = gone (w.node v) h.best.0 in
      let e = core_entry n h.best.0 in
      let ss : Outgoing Message = (h.best.0, Connect (w.node v).head.level) ∷ told_from e 0 (w.node v).ports in
      let done : Outcome = record { state = entered n e; sends = ss } in
      let mid = reacted boruvka g v done w in
      enters_fits w mid w' v n e (w.queue v) ss o here
      (core_nearly w mid v here h plain asked t (acts_woken g wired w v done)
      (ground_reacted g w w v done h.ground refl
      (grows_on (grows_gone (w.node v) h.best.0) (grows_entered n e (omega arith)), search_is_sleeping) wired here (λ u q at ne z. z)))
      (acts_woken g wired w v done) ground c a

  going_right : GoesRight Going
  going_right w w' v _ here h plain (Goes_out t) a ground =
      outs_fits w w' v here h plain (λ asked. absurd (both_ways (is_asked (mark_at (w.node v) h.best.0)) t asked)) a ground
  going_right w w' v _ here h plain (Meets asked (Waits t)) a ground = outs_fits w w' v here h plain (λ x. t) a ground
  going_right w w' v _ here h plain (Meets asked (Begins t (Enters {o} top c))) a ground =
      begins_fits w w' v o here h plain asked t c a ground

  -- A message is taken at port j of v.
  module _ (w w' : Net State Message) (v j : ℕ) (m : Message) (ms : List Message) (at : At g v j) (fits : Fits gr.keys g w)
      (q : w.queue v j ≡ m ∷ ms) (ground : Ground g w') where
    here : InNetwork g v
    here = at_in at

    abbrev own : ℕ → List Message
    own = put (w.queue v) j ms

    -- the net in which v has come to n, and has sent this
    abbrev taken : State → Outgoing Message → Net State Message
    taken n ss = reacted boruvka g v (record { state = n; sends = ss }) (take_first boruvka g v j m ms w)

    taken_acts : (n : State) (ss : Outgoing Message) → Acts g w (taken n ss) v n own ss
    taken_acts n ss = acts_taken g wired w v j m ms (record { state = n; sends = ss })

    taken_ground : (n : State) (ss : Outgoing Message) → Wakes_up (w.node v) n → Ground g (taken n ss)
    taken_ground n ss up = ground_taken g wired w v j m ms (record { state = n; sends = ss }) fits.ground at q up

    -- v enters
    taken_enters : (n : State) (e : Entry) (o : Outcome) → NearlyFits gr.keys g (taken (entered n e) (told_from e 0 n.ports)) v →
        Closing Connecting (entered n e) o → Acts g w w' v o.state own (told_from e 0 n.ports ++ o.sends) → Fits gr.keys g w'
    taken_enters n e o near c a =
        let told = told_from e 0 n.ports in
        enters_fits w (taken (entered n e) told) w' v n e own told o here near (taken_acts (entered n e) told) ground c a

    -- v has heard something, and closes
    taken_closes : (n : State) (o : Outcome) → NearlyFits gr.keys g (taken n []) v → Closing Going n o → Acts g w w' v o.state own o.sends →
        Fits gr.keys g w'
    taken_closes n o near c a = closes_fits Going going_right w (taken n []) w' v n own [] here near (taken_acts n []) ground o c a

    -- all holds behind what v has done
    taken_fits : (n : State) (ss : Outgoing Message) → Fits gr.keys g (taken n ss) → Acts g w w' v n own ss → Fits gr.keys g w'
    taken_fits n ss behind a = same_fits gr ok w (taken n ss) w' v n own ss here (taken_acts n ss) a behind ground

  -- A ChangeRoot is taken, and v moves.
  taken_moves : (w w' : Net State Message) (v j : ℕ) (ms : List Message) (o : Outcome) (b : ℕ × Key) → At g v j → Fits gr.keys g w →
      w.queue v j ≡ ChangeRoot ∷ ms → Ground g w' → (w.node v).head.best ≡ Some b →
      Moving Going (w.node v) b.0 o → Acts g w w' v o.state (put (w.queue v) j ms) o.sends → Fits gr.keys g w'
  taken_moves w w' v j ms o b at fits q ground e move a =
      let mid = take_first boruvka g v j ChangeRoot ms w in
      let own = put (w.queue v) j ms in
      let first : Acts g w mid v (w.node v) own [] = acts_took g wired w v j ChangeRoot ms in
      let h = took gr ok w v j ms at fits q (record {
        nodes = fits.ground.nodes;
        untouched = fits.ground.untouched;
        silent = λ u p there s. taken_empty g w v j ChangeRoot ms (far g u p) (far_port g u p) q (fits.ground.silent u p there s);
      }) in
      let same : h.best ≡ b = same_Some _ _ (sym h.is ∙ e) in
      moving_fits Going going_right mid w' v o (at_in at) h
      (subst (λ (y : ℕ × Key). Moving Going (w.node v) y.0 o) (sym same) move)
      (acts_on g w mid w' v (w.node v) o.state own [] o.sends first a)
      ground

  pub row_fits : (w w' : Net State Message) (v j : ℕ) (m : Message) (ms : List Message) (o : Outcome) → At g v j → Fits gr.keys g w →
      (w.node v).head.phase ≢ Sleeping → w.queue v j ≡ m ∷ ms → Row (w.node v) j m o → Acts g w w' v o.state (put (w.queue v) j ms) o.sends →
      Ground g w' → Fits gr.keys g w'
  row_fits w w' v j m ms _ at fits up q (Noted {l} e other) a ground =
      let n = set_mark (w.node v) j Asked in
      taken_fits w w' v j m ms at fits q ground n []
      (noted_fits gr ok w v j l ms at fits q e (not_out (w.node v).head.out j other)
      (taken_ground w w' v j m ms at fits q ground n [] (grows_port (w.node v) j _, up))) a
  row_fits w w' v j m ms _ at fits up q (Met {l} e out (Waits t)) a ground =
      let n = set_mark (w.node v) j Asked in
      taken_fits w w' v j m ms at fits q ground n [] (met_waits gr ok w v j l ms at fits q e (out_at (w.node v) j out) t) a
  row_fits w w' v j m ms _ at fits up q (Met {l} e out (Begins t (Enters {o} top c))) a ground =
      let n = set_mark (w.node v) j Asked in
      taken_enters w w' v j m ms at fits q ground n (core_entry n j) o
      (met_begins gr ok w v j l ms at fits q e (out_at (w.node v) j out) t) c a
  row_fits w w' v j m ms _ at fits up q (Late {l} e basic s) a ground =
      let ss : Outgoing Message = (j, Initiate (w.node v).head.level (name_of (w.node v).head)) ∷ [] in
      taken_fits w w' v j m ms at fits q ground (adopted (w.node v) j) ss
      (late_fits gr ok w v j l ms at fits q e basic (searching_is (w.node v).head.phase s)
      (taken_ground w w' v j m ms at fits q ground (adopted (w.node v) j) ss (grows_port (w.node v) j _, up))) a
  row_fits w w' v j m ms _ at fits up q (Called {l} {f} r e (Enters {o} top c)) a ground =
      let n = w.node v in
      taken_enters w w' v j m ms at fits q ground n (call_entry n j l f) o
      (subst
      (λ x.
      NearlyFits gr.keys g
      (taken w w' v j m ms at fits q ground (entered n (call_entry n j x f)) (told_from (call_entry n j x f) 0 n.ports)) v)
      (sym e) (called_nearly gr ok w v j l f ms at fits q))
      c a
  row_fits w w' v j m ms o at fits up q (Named {l} {f} next c) a ground =
      let now = heard (w.node v) j l f in
      taken_closes w w' v j m ms at fits q ground now o
      (named_nearly gr ok w v j l f ms at fits q up
      (taken_ground w w' v j m ms at fits q ground now [] (grows_port (w.node v) j _, up))) c a
  row_fits w w' v j m ms o at fits up q (Told {k} owes c) a ground =
      let now = reported (w.node v) j k in
      taken_closes w w' v j m ms at fits q ground now o
      (reported_nearly gr ok w v j k ms at fits q
      (taken_ground w w' v j m ms at fits q ground now [] (grows_reported (w.node v) j k, up))) c a
  row_fits w w' v j _ ms o at fits up q (Moved b e move) a ground = taken_moves w w' v j ms o b at fits q ground e move a

  -- the net in which a sleeper has woken, and done nothing yet
  woken_ground : (w : Net State Message) (v : ℕ) → InNetwork g v → Fits gr.keys g w → (w.node v).head.phase ≡ Sleeping →
      Ground g (reacted boruvka g v (still (woken (sleeper v (g.ports v)))) w)
  woken_ground w v here fits sleeps =
      let n = sleeper v (g.ports v) in
      ground_reacted g w w v (still (woken n)) fits.ground refl
      (subst (λ (x : State). Wakes_up x (woken n)) (sym (fits.ground.untouched v sleeps)) (grows_woken n refl, rest_is_sleeping)) wired here
      (λ u q at ne z. z)

  -- a sleeper wakes
  pub waking_fits : (w w' : Net State Message) (v : ℕ) (o : Outcome) → InNetwork g v → Fits gr.keys g w → (w.node v).head.phase ≡ Sleeping →
      Waking (w.node v) o → Acts g w w' v o.state (w.queue v) o.sends → Ground g w' → Fits gr.keys g w'
  waking_fits w w' v _ here fits sleeps (Alone none) a ground =
      let n = sleeper v (g.ports v) in
      let is : w.node v ≡ n = fits.ground.untouched v sleeps in
      wakes_alone gr ok w v here fits sleeps (eqb-true (degree (w.node v)) 0 none) w'
      (subst (λ (x : State). Acts g w w' v (halted (woken x)) (w.queue v) []) is a)
      (woken_ground w v here fits sleeps) ground
  waking_fits w w' v _ here fits sleeps (Wakes some Connects) a ground =
      let n = sleeper v (g.ports v) in
      let is : w.node v ≡ n = fits.ground.untouched v sleeps in
      let ne = eqb-false (degree (w.node v)) 0 some in
      wakes_fits gr ok w v here fits sleeps (omega (arith, ne)) w'
      (subst (λ (x : State). Acts g w w' v (gone (woken x) 0) (w.queue v) ((0, Connect 0) ∷ [])) is a)
      (woken_ground w v here fits sleeps) ground
