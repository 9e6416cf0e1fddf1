-- Each row of the table, and the wake, read as steps of a scene: all clauses are kept. A row's lemma has its name.
use Rattle.ghs_graph.specs.declared.key.Key.{Key}
use Rattle.ghs_node.specs.NodeState.{NodeState, degree, key_at, mark_at, with_mark}
use Rattle.ghs_node.specs.Reaction.{Ending, absorbs, answered, at_wake, does, ends, heard, merges, moves_root, name_of, no_probe, passed_on, reject_at, requeues, rests, root_mark, root_message, searching, stops, wakes, wakes_alone}
use Rattle.ghs_node.specs.Rows.{Accept_heard, AwakeRow, Closes, Connect_absorbed, Connect_merges, Connect_waits, Initiate_rests, Initiate_searches, Reject_heard, Report_halts, Report_heard, Report_moves_root, Report_passes, Report_waits, Root_moves, Settles, Test_accepted, Test_rejected, Test_waits, Tests_cross}
use Rattle.ghs_node.specs.Words.{Outgoing, below, best_key, is_name}
use Rattle.ghs_node.specs.declared.delta.Delta.{Delta}
use Rattle.ghs_node.specs.declared.delta.Fate.TheVariants.{Consumed}
use Rattle.ghs_node.specs.declared.head.Head.{Head}
use Rattle.ghs_node.specs.declared.mark.Mark.{Mark}
use Rattle.ghs_node.specs.declared.mark.Mark.TheVariants.{Basic, Branch, Rejected}
use Rattle.ghs_node.specs.declared.message.Message.{Message}
use Rattle.ghs_node.specs.declared.message.Message.TheVariants.{Accept, ChangeRoot, Connect, Initiate, Reject, Report, Test}
use Rattle.ghs_node.specs.declared.message.Phase.TheVariants.{Find, Found, Sleeping}
use Rattle.ghs_protocol.proofs.acts.AsRead.{reacts}
use Rattle.ghs_protocol.proofs.search.FirstReport.{Heard, heard_first, mark_is}
use Rattle.ghs_protocol.proofs.rows.EndingAct.{ended}
use Rattle.ghs_protocol.proofs.rows.Requeue.{connect_round, lone_connect, lone_report, lone_test, report_round, test_round}
use Rattle.ghs_protocol.proofs.rows.Read.{other_name, same_name, accept_first, accept_left, all_left, is_tree, key_is_port, reject_first, reject_left, reject_marks, seen, set_marks, test_first, test_left, tree_first, tree_left, marks_are}
use Rattle.ghs_protocol.proofs.rows.Link.{link_fits, link_fits', link_leads, node_fits}
use Rattle.ghs_protocol.proofs.acts.Situations.{is_find', probing_finds}
use Rattle.ghs_protocol.proofs.rows.Ending.{EndsSo, closes_so, ends_after_so, settles_so}
use Rattle.ghs_protocol.proofs.rows.Steps.{absorb_sound, accept_nearly, accept_scanned, accept_sound, cross_nearly, end_sound, lone_sound, meet_sound, out_sound, pass_sound, reject_nearly, reject_sound, report_nearly, report_scanned, rest_sound, search_nearly, serve_sound, wake_meeting_sound, wake_out_sound}
use Rattle.ghs_protocol.proofs.acts.Reactions.{grouped_scene, regrouped, round_scene, taken_acts, taken_up, wake_acts, with_up}
use Rattle.ghs_protocol.proofs.lemmas.Nodes.{ports_many}
use Rattle.ghs_protocol.proofs.clauses.Growing.{As_it_was, Grouped, Grows, Kept, LeastPort, Meets, Takes_in}
use Rattle.peer_network.proofs.lemmas.Updates.{put_same}
use Rattle.ghs_protocol.proofs.union.Absorb.{came}
use Rattle.ghs_protocol.proofs.union.ConnectIn.{Came}
use Rattle.ghs_protocol.proofs.union.LeastLinks.{came_least, grouped, root_least, root_levels, wake_least, wake_levels}
use Rattle.ghs_protocol.proofs.clauses.Floors.{HasSound, Nearly, ScansInOrder, Sound}
use Rattle.ghs_protocol.proofs.clauses.Uniting.{By_report, By_root, SendsRoot, absorb, meet}
use Rattle.ghs_protocol.proofs.clauses.Wiring.{Ground}
use Rattle.ghs_protocol.proofs.clauses.Scene.{Ghost, Member, Seen, Scene, acts, end, see, test_end, tree_end, scene, far_end}
use Rattle.ghs_protocol.proofs.clauses.Changes.{marked}
use Rattle.ghs_protocol.specs.Net.{Net}
use Rattle.peer_network.specs.Updates.{put}
use Rattle.peer_network.specs.Network.{At, Network, far, far_port, port_at, InNetwork}
use Rattle.ghs_protocol.specs.Nodes.{IsNodeOf}
use Rattle.ghs_protocol.proofs.lemmas.WellFormed.{AreNodes}
use Rattle.ghs_protocol.specs.Steps.{Step, Takes_one, Wakes_up, reacted, taken, waking}
use Rattle.std.proofs.Common.{List, None, Option, Some, [], ap, ap₂, arith, false, get_or, inl, inr, length, refl, subst, suc, sym, true, ℕ, ⊎_elim, ◌++◌, ◌+◌, ◌<◌, ◌∙◌, ◌∷◌, ◌≡◌, ◌≢◌, ◌≤◌}
use Rattle.peer_network.proofs.lemmas.Wires.{at_in}
use Rattle.ghs_protocol.proofs.root.AtRoot.{at_root}

-- the ways to the root after a row: that of v, where it sends the root on
abbrev pub ups_after : {n : NodeState} {p : ℕ} {m : Message} {d : Delta} → AwakeRow n p m d → (ℕ → Option ℕ) → ℕ → ℕ → Option ℕ
ups_after (Report_moves_root b k way found best less) up v = put up v (Some b)
ups_after (Root_moves b k best) up v = put up v (Some b)
ups_after _ up v = up

-- how many fragments a row takes in
abbrev pub takes_in : {n : NodeState} {p : ℕ} {m : Message} {d : Delta} → AwakeRow n p m d → ℕ
takes_in (Connect_absorbed lt few) = 1
takes_in _ = 0

-- and a step
abbrev pub step_takes : {g : Network} {w w' : Net} → Step g w w' → ℕ
step_takes (Wakes_up v lo hi sleeps) = 0
step_takes (Takes_one v p m ms d at q up row) = takes_in row

-- and after a wake: over port 0, if there is one
abbrev pub up_waking : List Mark → Option ℕ → Option ℕ
up_waking [] o = o
up_waking (m ∷ ms) o = Some 0

-- a scene in which the clauses hold, as a net with some memory
module _ (g : Network) (v : ℕ) where
  absorbed_sound :
      (p : ℕ) (w : Net) (gh : Ghost) → At g v p → LeastPort g gh.fragment (far g v p) (far_port g v p) →
      gh.coming (gh.fragment (far g v p)) < gh.coming (gh.fragment v) → Sound g (absorb g v p (scene w gh)) → Kept g 1 gh gh.up w
  absorbed_sound p w gh at least lt h =
      record {
        ghost = regrouped (gh.fragment (far g v p)) (gh.fragment v) (gh.coming (gh.fragment v)) (gh.coming_name (gh.fragment v)) gh;
        ups = refl;
        holds = subst (Sound g) (sym (grouped_scene _ _ _ _ w gh)) h;
        steps = 1;
        grows =
            Takes_in v p at least lt
            (grouped (gh.fragment (far g v p)) (gh.fragment v) (gh.coming (gh.fragment v)) (gh.coming_name (gh.fragment v)) gh gh.up);
      }

  met_sound :
      (p : ℕ) (w : Net) (gh : Ghost) (o : ℕ → Option ℕ) → LeastPort g gh.fragment v p → LeastPort g gh.fragment (far g v p) (far_port g v p) →
      gh.coming (gh.fragment v) ≡ gh.coming (gh.fragment (far g v p)) → (w.node v).head.level ≡ gh.coming (gh.fragment v) →
      Sound g (meet g v p (scene w (record gh { up = o }))) → Kept g 0 gh o w
  met_sound p w gh o here there levels top h =
      record {
        ghost =
            regrouped (gh.fragment (far g v p)) (gh.fragment v) (suc (w.node v).head.level) (Some (port_at g v p).key) (record gh { up = o });
        ups = refl;
        holds = subst (Sound g) (sym (grouped_scene _ _ _ _ w (record gh { up = o }))) h;
        steps = 1;
        grows =
            Meets v p here there levels
            (subst
            (λ l.
            Grouped gh
            (regrouped (gh.fragment (far g v p)) (gh.fragment v) (suc (w.node v).head.level) (Some (port_at g v p).key) (record gh { up = o }))
            (gh.fragment (far g v p)) (gh.fragment v) (suc l) (Some (port_at g v p).key))
            top (grouped (gh.fragment (far g v p)) (gh.fragment v) (suc (w.node v).head.level) (Some (port_at g v p).key) gh o));
      }

  taken_sound :
      (w : Net) (gh : Ghost) (p : ℕ) (m : Message) (ms : List Message) (d : Delta) (x : Member) → d.fate ≡ Consumed → reacts g v w gh d ≡ x →
      Sound g (acts g v x (put (λ i. see (w.queue v i)) p (see ms)) d.sends (scene w gh)) → Kept g 0 gh gh.up (taken g v p m ms d w)
  taken_sound w gh p m ms d x e is h =
      record {
        ghost = gh;
        ups = refl;
        steps = 0;
        grows = As_it_was refl refl refl;
        holds =
            subst (Sound g) (sym (taken_acts g v w gh p m ms d e))
            (subst (λ (y : Member). Sound g (acts g v y (put (λ i. see (w.queue v i)) p (see ms)) d.sends (scene w gh))) (sym is) h);
      }

module _ (g : Network) (v p : ℕ) (w : Net) (gh : Ghost) (ms : List Message) where
  abbrev left : Seen → ℕ → Seen
  left q = put (λ i. see (w.queue v i)) p q

  tree_taken :
      (m : Message) → is_tree m ≡ true → w.queue v p ≡ m ∷ ms → (d : Delta) (x : Member) → d.fate ≡ Consumed → reacts g v w gh d ≡ x →
      ((see (w.queue v p)).tree ≡ m ∷ (see ms).tree →
      Sound g (acts g v x (left (record (see (w.queue v p)) { tree = (see ms).tree })) d.sends (scene w gh))) →
      Kept g 0 gh gh.up (taken g v p m ms d w)
  tree_taken m tree waits d x once is act =
      taken_sound g v w gh p m ms d x once is
      (subst (λ (q : Seen). Sound g (acts g v x (left q) d.sends (scene w gh))) (tree_left (w.queue v p) ms m tree waits)
      (act (tree_first (w.queue v p) ms m tree waits)))

  search_taken :
      Ground g → 1 ≤ v → v ≤ g.count → (m : Message) (q : Seen) → q ≡ see ms → (x : Member) (mark : Option (ℕ × Mark)) (ss : Outgoing) (e : Ending) →
      reacts g v w gh (ends x.head mark ss e) ≡ ended x e → x.head.phase ≡ Find → EndsSo g v x e → Nearly g (acts g v x (left q) ss (scene w gh)) v →
      Kept g 0 gh gh.up (taken g v p m ms (ends x.head mark ss e) w)
  search_taken ground lo hi m q rest x mark ss e is finds by act =
      taken_sound g v w gh p m ms (ends x.head mark ss e) (ended x e) refl is
      (ends_after_so g ground v (record { some = lo; node = hi }) x (left (see ms)) ss (scene w gh)
      (subst (λ (s : Seen). Nearly g (acts g v x (left s) ss (scene w gh)) v) rest act) e finds by)

-- a message that goes round: the scene stays
module _ (g : Network) (ground : Ground g) (v p : ℕ) (at : At g v p) (w : Net) (gh : Ghost) (sound : Sound g (scene w gh)) (ms : List Message) where
  goes_round : (m : Message) → see (ms ++ m ∷ []) ≡ see (w.queue v p) → Kept g 0 gh gh.up (taken g v p m ms (requeues (w.node v).head) w)
  goes_round m e = record {
    ghost = gh;
    ups = refl;
    steps = 0;
    grows = As_it_was refl refl refl;
    holds = subst (Sound g) (sym (round_scene g v w gh p m ms e)) sound;
  }

  pub connect_again : (l : ℕ) → w.queue v p ≡ Connect l ∷ ms → ((scene w gh).at v).mark p ≡ Basic → see (ms ++ Connect l ∷ []) ≡ see (w.queue v p)
  connect_again l waits basic =
      (connect_round l ms (lone_connect (tree_end (end g (scene w gh) v p)) (tree_end (far_end g (scene w gh) v p))
      (link_fits g ground.wired (scene w gh) sound.first v p at).tree (link_fits' g ground.wired (scene w gh) sound.first v p at).tree l
      (see ms).tree (tree_first (w.queue v p) ms (Connect l) refl waits) basic) ∙ sym (ap see waits))

  row_connect_waits : (l : ℕ) →
      w.queue v p ≡ Connect l ∷ ms →
      ((scene w gh).at v).mark p ≡ Basic →
      Kept g 0 gh gh.up (taken g v p (Connect l) ms (requeues (w.node v).head) w)
  row_connect_waits l waits basic = goes_round (Connect l) (connect_again l waits basic)

  pub report_again :
      (k : Option Key) → w.queue v p ≡ Report k ∷ ms → (w.node v).head.in_branch ≡ Some p → (w.node v).head.phase ≡ Find →
      see (ms ++ Report k ∷ []) ≡ see (w.queue v p)
  report_again k waits way finds =
      (report_round k ms (lone_report (tree_end (end g (scene w gh) v p)) (tree_end (far_end g (scene w gh) v p))
      (link_fits g ground.wired (scene w gh) sound.first v p at).tree (link_fits' g ground.wired (scene w gh) sound.first v p at).tree
      (link_leads g ground.wired (scene w gh) sound.first v p at) k (see ms).tree (tree_first (w.queue v p) ms (Report k) refl waits) finds up) ∙
      sym (ap see waits))
    where
      up : gh.up v ≡ Some p
      up = let s = (node_fits g ground.wired (scene w gh) sound.first v p at).searching finds in s.up ∙ sym s.in_branch ∙ way

  row_report_waits :
      (k : Option Key) → w.queue v p ≡ Report k ∷ ms → (w.node v).head.in_branch ≡ Some p → (w.node v).head.phase ≡ Find →
      Kept g 0 gh gh.up (taken g v p (Report k) ms (requeues (w.node v).head) w)
  row_report_waits k waits way finds = goes_round (Report k) (report_again k waits way finds)

  pub test_again : (l : ℕ) (n : Key) → w.queue v p ≡ Test l n ∷ ms → see (ms ++ Test l n ∷ []) ≡ see (w.queue v p)
  test_again l n waits =
      (test_round l n ms (lone_test (test_end (end g (scene w gh) v p)) (test_end (far_end g (scene w gh) v p))
      (link_fits' g ground.wired (scene w gh) sound.first v p at).tests (l, n) (see ms).tests (test_first (w.queue v p) ms l n waits)) ∙
      sym (ap see waits))

  row_test_waits : (l : ℕ) (n : Key) → w.queue v p ≡ Test l n ∷ ms → Kept g 0 gh gh.up (taken g v p (Test l n) ms (requeues (w.node v).head) w)
  row_test_waits l n waits = goes_round (Test l n) (test_again l n waits)

-- a message that is taken for good
module _ (g : Network) (ground : Ground g) (v p : ℕ) (at : At g v p) (w : Net) (is : IsNodeOf g v (w.node v)) (gh : Ghost)
    (sound : Sound g (scene w gh)) (ms : List Message) where
  -- Tests and their answers

  in_marks : p < degree (w.node v)
  in_marks = let lt = at.port in omega (arith, lt, ports_many is)

  probes_find : (w.node v).head.probe ≡ Some p → (w.node v).head.phase ≡ Find
  probes_find own = probing_finds (node_fits g ground.wired (scene w gh) sound.first v p at) own

  -- a Test is taken
  test_taken :
      (l : ℕ) (n : Key) → w.queue v p ≡ Test l n ∷ ms → (d : Delta) (x : Member) → d.fate ≡ Consumed → reacts g v w gh d ≡ x →
      ((see (w.queue v p)).tests ≡ (l, n) ∷ (see ms).tests →
      Sound g (acts g v x (left g v p w gh ms (record (see (w.queue v p)) { tests = (see ms).tests })) d.sends (scene w gh))) →
      Kept g 0 gh gh.up (taken g v p (Test l n) ms d w)
  test_taken l n waits d x once is act =
      taken_sound g v w gh p (Test l n) ms d x once is
      (subst
      (λ (q : Seen). Sound g (acts g v x (left g v p w gh ms q) d.sends (scene w gh)))
      (test_left (w.queue v p) ms l n waits) (act (test_first (w.queue v p) ms l n waits)))

  row_test_accepted :
      (l : ℕ) (n : Key) → w.queue v p ≡ Test l n ∷ ms → l ≤ (w.node v).head.level → is_name (w.node v).head.name n ≡ false →
      Kept g 0 gh gh.up (taken g v p (Test l n) ms (does (w.node v).head None ((p, Accept) ∷ [])) w)
  row_test_accepted l n waits le other =
      test_taken l n waits (does (w.node v).head None ((p, Accept) ∷ [])) ((scene w gh).at v) refl refl
      (λ first.
      accept_sound g ground.wired v (at_in at) p at (scene w gh) sound l n (see ms).tests first le (other_name (w.node v).head.name n other))

  -- with port p rejected where it was Basic
  abbrev rejecting : Head → Member
  rejecting h = record ((scene w gh).at v) { head = h; mark = marked ((scene w gh).at v).mark p }

  rejects : (h : Head) (ss : Outgoing) → reacts g v w gh (does h (reject_at (w.node v) p) ss) ≡ rejecting h
  rejects h ss = λ i. record (rejecting h) { mark = reject_marks (w.node v) p in_marks i }

  row_test_rejected :
      (l : ℕ) (n : Key) → (w.node v).head.phase ≢ Sleeping → w.queue v p ≡ Test l n ∷ ms → is_name (w.node v).head.name n ≡ true →
      (w.node v).head.probe ≢ Some p →
      Kept g 0 gh gh.up (taken g v p (Test l n) ms (does (w.node v).head (reject_at (w.node v) p) ((p, Reject) ∷ [])) w)
  row_test_rejected l n awake waits name free =
      test_taken l n waits (does (w.node v).head (reject_at (w.node v) p) ((p, Reject) ∷ [])) (rejecting (w.node v).head) refl
      (rejects _ ((p, Reject) ∷ []))
      (λ first.
      reject_sound g ground.wired v (at_in at) p at (scene w gh) sound l n (see ms).tests ground.keyed awake first (same_name _ n name) free)

  -- the search goes on after port p was rejected
  abbrev unprobed : Head
  unprobed = no_probe (w.node v).head

  goes_on :
      (m : Message) (q : Seen) (e : Ending) → q ≡ see ms → (w.node v).head.phase ≡ Find →
      Nearly g (acts g v (rejecting unprobed) (left g v p w gh ms q) [] (scene w gh)) v →
      Settles (with_mark (w.node v).marks (reject_at (w.node v) p)) unprobed e →
      Kept g 0 gh gh.up (taken g v p m ms (ends unprobed (reject_at (w.node v) p) [] e) w)
  goes_on m q e rest finds act s =
      search_taken g v p w gh ms ground at.some at.node m q rest (rejecting unprobed) (reject_at (w.node v) p) [] e
      (λ i. ended (rejects unprobed [] i) e) finds (settles_so g v (rejecting unprobed) _ e (reject_marks (w.node v) p in_marks) refl s) act

  row_tests_cross :
      (l : ℕ) (n : Key) (e : Ending) → w.queue v p ≡ Test l n ∷ ms → is_name (w.node v).head.name n ≡ true → (w.node v).head.probe ≡ Some p →
      Settles (with_mark (w.node v).marks (reject_at (w.node v) p)) (no_probe (w.node v).head) e →
      Kept g 0 gh gh.up (taken g v p (Test l n) ms (ends (no_probe (w.node v).head) (reject_at (w.node v) p) [] e) w)
  row_tests_cross l n e waits name own s =
      goes_on (Test l n) _ e (test_left (w.queue v p) ms l n waits) (probes_find own)
      (cross_nearly g ground.wired v (at_in at) p at (scene w gh) sound l n (see ms).tests ground.keyed (test_first (w.queue v p) ms l n waits)
      (same_name _ n name) own)
      s

  row_reject_heard :
      (e : Ending) → w.queue v p ≡ Reject ∷ ms → (w.node v).head.probe ≡ Some p →
      Settles (with_mark (w.node v).marks (reject_at (w.node v) p)) (no_probe (w.node v).head) e →
      Kept g 0 gh gh.up (taken g v p Reject ms (ends (no_probe (w.node v).head) (reject_at (w.node v) p) [] e) w)
  row_reject_heard e waits own s =
      goes_on Reject _ e (reject_left (w.queue v p) ms waits) (probes_find own)
      (reject_nearly g ground.wired v (at_in at) p at (scene w gh) sound (see ms).rejects (reject_first (w.queue v p) ms waits) own) s

  -- an Accept of a link of this key is heard
  abbrev accepting : Key → Member
  accepting k = record ((scene w gh).at v) { head = answered (w.node v).head p (Some k) }

  abbrev accepted : Seen
  accepted = record (see (w.queue v p)) { accepts = (see ms).accepts }

  row_accept_heard :
      (e : Ending) → w.queue v p ≡ Accept ∷ ms → (w.node v).head.probe ≡ Some p → Closes (answered (w.node v).head p (Some (key_at (w.node v) p))) e →
      Kept g 0 gh gh.up (taken g v p Accept ms (ends (answered (w.node v).head p (Some (key_at (w.node v) p))) None [] e) w)
  row_accept_heard e waits own c =
      search_taken g v p w gh ms ground at.some at.node Accept accepted (accept_left (w.queue v p) ms waits) (accepting (key_at (w.node v) p)) None
      [] e refl (probes_find own)
      (closes_so g v (accepting (key_at (w.node v) p)) e (subst (λ k. ScansInOrder g v (accepting k)) (sym (key_is_port g v (w.node v) p is))
      (accept_scanned g ground.wired v (at_in at) p at (scene w gh) sound (see ms).accepts (accept_first (w.queue v p) ms waits) own))
      c)
      (subst
      (λ k. Nearly g (acts g v (accepting k) (left g v p w gh ms accepted) [] (scene w gh)) v)
      (sym (key_is_port g v (w.node v) p is))
      (accept_nearly g ground.wired v (at_in at) p at (scene w gh) sound (see ms).accepts (accept_first (w.queue v p) ms waits) own))

  -- Connects over the core, Initiates and Reports

  -- the node, as a member with another head
  abbrev with_head : Head → Member
  with_head h = record ((scene w gh).at v) { head = h }

  -- a Connect is answered with an Initiate of this name
  abbrev Answered : Key → Type 0
  Answered k =
      Sound g
      (acts g v ((scene w gh).at v)
      (left g v p w gh ms (record (see (w.queue v p)) { tree = (see ms).tree })) ((p, Initiate ((w.node v).head.level + 1) k Find) ∷ [])
      (scene w gh))

  row_connect_merges : (l : ℕ) →
      w.queue v p ≡ Connect l ∷ ms →
      mark_at (w.node v) p ≢ Basic →
      Kept g 0 gh gh.up (taken g v p (Connect l) ms (merges (w.node v) p) w)
  row_connect_merges l waits marked =
      tree_taken g v p w gh ms (Connect l) refl waits (merges (w.node v) p) ((scene w gh).at v) refl refl
      (λ first.
      subst Answered (sym (key_is_port g v (w.node v) p is))
      (serve_sound g ground.wired v (at_in at) p at (scene w gh) sound l (see ms).tree first marked))

  row_initiate_rests : (l : ℕ) (f : Key) →
      w.queue v p ≡ Initiate l f Found ∷ ms →
      Kept g 0 gh gh.up (taken g v p (Initiate l f Found) ms (rests (w.node v) p l f) w)
  row_initiate_rests l f waits =
      tree_taken g v p w gh ms (Initiate l f Found) refl waits (rests (w.node v) p l f) (with_head (rests (w.node v) p l f).head) refl refl
      (rest_sound g ground.wired v (at_in at) (scene w gh) sound p at (see ms).tree l f (w.node v).marks (marks_are g v w gh is))

  row_initiate_searches :
      (l : ℕ) (f : Key) (e : Ending) → w.queue v p ≡ Initiate l f Find ∷ ms → Settles (w.node v).marks (no_probe (searching (w.node v) p l f)) e →
      Kept g 0 gh gh.up (taken g v p (Initiate l f Find) ms (ends (no_probe (searching (w.node v) p l f)) None (passed_on (w.node v) p l f Find) e) w)
  row_initiate_searches l f e waits s =
      search_taken g v p w gh ms ground at.some at.node (Initiate l f Find) _ (tree_left (w.queue v p) ms (Initiate l f Find) refl waits) x None
      (passed_on (w.node v) p l f Find) e refl refl (settles_so g v x (w.node v).marks e refl refl s)
      (search_nearly g ground.wired v (at_in at) (scene w gh) sound p at (see ms).tree l f (w.node v).marks (marks_are g v w gh is)
      (tree_first (w.queue v p) ms (Initiate l f Find) refl waits))
    where
      x : Member
      x = with_head (no_probe (searching (w.node v) p l f))

  row_report_heard :
      (k : Option Key) (c : ℕ) (e : Ending) → w.queue v p ≡ Report k ∷ ms → (w.node v).head.in_branch ≢ Some p → (w.node v).head.find_count ≡ suc c →
      Closes (heard (w.node v).head c p k) e → Kept g 0 gh gh.up (taken g v p (Report k) ms (ends (heard (w.node v).head c p k) None [] e) w)
  row_report_heard k c e waits away count s =
      search_taken g v p w gh ms ground at.some at.node (Report k) _ (all_left (w.queue v p) ms (Report k) refl waits none) x None [] e refl finds
      (closes_so g v x e (report_scanned g ground.wired v (at_in at) p at (scene w gh) sound k (see ms).tree c first away count) s)
      (report_nearly g ground.wired v (at_in at) p at (scene w gh) sound k (see ms).tree c first away count)
    where
      x : Member
      x = with_head (heard (w.node v).head c p k)

      first : (see (w.queue v p)).tree ≡ Report k ∷ (see ms).tree
      first = tree_first (w.queue v p) ms (Report k) refl waits

      only : Heard (tree_end (end g (scene w gh) v p)) (tree_end (far_end g (scene w gh) v p)) k
      only =
          heard_first (tree_end (end g (scene w gh) v p)) (tree_end (far_end g (scene w gh) v p))
          (link_fits g ground.wired (scene w gh) sound.first v p at).tree
          (link_fits' g ground.wired (scene w gh) sound.first v p at).tree (link_leads g ground.wired (scene w gh) sound.first v p at) k
          (see ms).tree first away

      none : (see ms).tree ≡ []
      none = let z : Report k ∷ (see ms).tree ≡ Report k ∷ [] = sym first ∙ only.tree in cc

      finds : (w.node v).head.phase ≡ Find
      finds =
          ⊎_elim (λ h. h)
          (λ ne. absurd (let z = ((node_fits g ground.wired (scene w gh) sound.first v p at).idle ne).1 in omega (arith, z, count)))
          (is_find' (w.node v).head.phase)

  row_report_halts : (k : Option Key) →
      w.queue v p ≡ Report k ∷ ms →
      (w.node v).head.phase ≡ Found →
      k ≡ None →
      (w.node v).head.best ≡ None →
      Kept g 0 gh gh.up (taken g v p (Report k) ms (stops (w.node v).head) w)
  row_report_halts k waits found none best =
      tree_taken g v p w gh ms (Report k) refl waits (stops (w.node v).head) (with_head (stops (w.node v).head).head) refl refl
      (λ first.
      end_sound g ground.wired v (at_in at) p at (scene w gh) sound k (see ms).tree first found true (inr (none, best))
      (ap₂ below (ap best_key best) none) (λ x y. refl))

  row_report_passes : (k : Option Key) →
      w.queue v p ≡ Report k ∷ ms →
      (w.node v).head.phase ≡ Found →
      below (best_key (w.node v).head.best) k ≡ false →
      (k ≡ None → (w.node v).head.best ≢ None) →
      Kept g 0 gh gh.up (taken g v p (Report k) ms (does (w.node v).head None []) w)
  row_report_passes k waits found less some =
      tree_taken g v p w gh ms (Report k) refl waits (does (w.node v).head None []) ((scene w gh).at v) refl refl
      (λ first.
      end_sound g ground.wired v (at_in at) p at (scene w gh) sound k (see ms).tree first found (w.node v).head.halted (inl refl) less
      (λ x y. absurd (some x y)))

  -- a Connect is absorbed, or the root moves

  -- v's queues, the first tree message of port p taken
  abbrev popped : ℕ → Seen
  popped = put (λ i. see (w.queue v i)) p (record (see (w.queue v p)) { tree = (see ms).tree })

  in_moving : (i : ℕ) → At g v i → i < degree (w.node v)
  in_moving i at' = let lt = at'.port in omega (arith, lt, ports_many is)

  branched : (i : ℕ) →
      At g v i →
      (λ (q : ℕ). get_or (with_mark (w.node v).marks (Some (i, Branch))) q Rejected) ≡ put ((scene w gh).at v).mark i Branch
  branched i at' = set_marks (w.node v).marks i Branch (in_moving i at')

  -- who has a level has a name
  named : 0 < (w.node v).head.level → (w.node v).head.name ≡ Some (name_of (w.node v).head)
  named lt = go (w.node v).head.name refl
    where
      go : (o : Option Key) → (w.node v).head.name ≡ o → (w.node v).head.name ≡ Some (name_of (w.node v).head)
      go None e = absurd (let z = (sound.first.nodes v (at_in at)).naming.level e in omega (arith, z, lt))
      go (Some k) e = e ∙ ap (λ o. Some (name_of (record (w.node v).head { name = o }))) (sym e)

  row_connect_absorbed :
      (l : ℕ) → w.queue v p ≡ Connect l ∷ ms → l < (w.node v).head.level → (w.node v).head.phase ≢ Sleeping →
      Kept g 1 gh gh.up (taken g v p (Connect l) ms (absorbs (w.node v) p) w)
  row_connect_absorbed l waits lower awake =
      absorbed_sound g v p absorbed gh at
      (came_least g ground.wired (scene w gh) sound.first sound.floor sound.floors v p at its.mark its.mark')
      (let a = its.under.level in let b = its.level in let c = (sound.first.nodes v (at_in at)).lag.level in omega (arith, a, b, c, lower))
      (subst (λ (z : Scene). Sound g (absorb g v p z)) (sym same) step)
    where
      first : (see (w.queue v p)).tree ≡ Connect l ∷ (see ms).tree
      first = tree_first (w.queue v p) ms (Connect l) refl waits

      its : Came (tree_end (end g (scene w gh) v p)) (tree_end (far_end g (scene w gh) v p)) l (see ms).tree
      its =
          came g ground v (at_in at) (scene w gh) sound.first p at (see ms).tree l (name_of (w.node v).head) first lower
          (named (omega (arith, lower))) awake

      absorbed : Net
      absorbed = taken g v p (Connect l) ms (absorbs (w.node v) p) w

      x : Member
      x = record ((scene w gh).at v) { head = (absorbs (w.node v) p).head; mark = put ((scene w gh).at v).mark p Branch }

      answer : Message
      answer = Initiate (w.node v).head.level (name_of (w.node v).head) (w.node v).head.phase

      step : Sound g (absorb g v p (acts g v x popped ((p, answer) ∷ []) (scene w gh)))
      step =
          absorb_sound g ground.wired v (at_in at) (scene w gh) sound p at (see ms).tree ground l (name_of (w.node v).head) first lower
          (named (omega (arith, lower))) awake

      same : scene absorbed gh ≡ acts g v x popped ((p, answer) ∷ []) (scene w gh)
      same =
          taken_acts g v w gh p (Connect l) ms (absorbs (w.node v) p) refl ∙
          (λ i.
          acts g v (record x { mark = branched p at i })
          (put (λ i. see (w.queue v i)) p (sym (tree_left (w.queue v p) ms (Connect l) refl waits) i)) ((p, answer) ∷ []) (scene w gh))

  -- the root moves over port b, as a message that calls for it has come in
  module _ (m : Message) (b : ℕ) (k : Key) (calls : SendsRoot (scene w gh) v p (see ms).tree)
      (waits : see (w.queue v p) ≡ record (see ms) { tree = m ∷ (see ms).tree }) (best : (w.node v).head.best ≡ Some (b, k)) where
    abbrev moved_net : Net
    moved_net = taken g v p m ms (moves_root (w.node v) b) w

    -- v points over port b, and its marks are these
    abbrev moved_member : (ℕ → Mark) → Member
    moved_member x = record ((scene w gh).at v) { up = Some b; mark = x }

    best_at : At g v b
    best_at = record { some = at.some; node = at.node; port = ((sound.first.nodes v (at_in at)).best_port b k best).0 }

    left_is : see ms ≡ record (see (w.queue v p)) { tree = (see ms).tree }
    left_is = λ i. record (sym waits i) { tree = (see ms).tree }

    moved :
        (o : Option (ℕ × Mark)) (s : Message) (x : ℕ → Mark) → root_mark (mark_at (w.node v) b) b ≡ o →
        root_message (mark_at (w.node v) b) (w.node v).head.level ≡ s → (λ (q : ℕ). get_or (with_mark (w.node v).marks o) q Rejected) ≡ x →
        scene moved_net (with_up gh v (Some b)) ≡ acts g v (moved_member x) popped ((b, s) ∷ []) (scene w gh)
    moved o s x mark message marks =
        taken_up g v w gh (Some b) p m ms (moves_root (w.node v) b) refl ∙
        (λ i.
        acts g v
        (moved_member (λ q. get_or (with_mark (w.node v).marks (mark i)) q Rejected)) (put (λ i. see (w.queue v i)) p (left_is i))
        ((b, message i) ∷ []) (scene w gh)) ∙
        (λ i. acts g v (moved_member (marks i)) popped ((b, s) ∷ []) (scene w gh))

    -- a Connect goes out, and meets another or not
    connects :
        (n : Mark) → mark_at (w.node v) b ≡ n → n ≢ Branch → root_mark n b ≡ Some (b, Branch) →
        root_message n (w.node v).head.level ≡ Connect (w.node v).head.level → Kept g 0 gh (put gh.up v (Some b)) moved_net
    connects n e ne mark message = ⊎_elim meets goes_out (mark_is (((scene w gh).at (far g v b)).mark (far_port g v b)))
      where
        free : mark_at (w.node v) b ≢ Branch
        free z = ne (sym e ∙ z)

        same :
            scene moved_net (with_up gh v (Some b)) ≡
            acts g v (moved_member (put ((scene w gh).at v).mark b Branch)) popped ((b, Connect (w.node v).head.level) ∷ []) (scene w gh)
        same =
            moved (Some (b, Branch)) (Connect (w.node v).head.level) (put ((scene w gh).at v).mark b Branch) (ap (λ z. root_mark z b) e ∙ mark)
            (ap (λ z. root_message z (w.node v).head.level) e ∙ message) (branched b best_at)

        meets : ((scene w gh).at (far g v b)).mark (far_port g v b) ≡ Branch → Kept g 0 gh (put gh.up v (Some b)) moved_net
        meets met =
            met_sound g v b moved_net gh (put gh.up v (Some b))
            (root_least g ground.wired (scene w gh) sound.first sound.floor sound.floors v (at_in at) p at (see ms).tree b k calls best free)
            (came_least g ground.wired (scene w gh) sound.first sound.floor sound.floors v b best_at free met)
            (root_levels g ground.wired (scene w gh) sound.first sound.floor sound.floors v (at_in at) p at (see ms).tree b k calls best free met)
            (ap (λ (z : Scene). (z.at v).head.level) same ∙
            ap (λ (z : Member). z.head.level) (put_same (scene w gh).at v (moved_member (put ((scene w gh).at v).mark b Branch))) ∙
            (at_root g ground.wired v (at_in at) p at (scene w gh) sound.first (see ms).tree calls).top)
            (subst (λ (z : Scene). Sound g (meet g v b z)) (sym same)
            (meet_sound g ground.wired v (at_in at) (scene w gh) sound p at (see ms).tree b k calls best ground free met))

        goes_out : ((scene w gh).at (far g v b)).mark (far_port g v b) ≢ Branch → Kept g 0 gh (put gh.up v (Some b)) moved_net
        goes_out apart =
            record {
              ghost = with_up gh v (Some b);
              ups = refl;
              steps = 0;
              grows = As_it_was refl refl refl;
              holds =
                  subst (Sound g) (sym same) (out_sound g ground.wired v (at_in at) (scene w gh) sound p at (see ms).tree b k calls best free apart);
            }

    moves : Kept g 0 gh (put gh.up v (Some b)) moved_net
    moves = go (mark_at (w.node v) b) refl
      where
        same :
            mark_at (w.node v) b ≡ Branch →
            scene moved_net (with_up gh v (Some b)) ≡ acts g v (moved_member ((scene w gh).at v).mark) popped ((b, ChangeRoot) ∷ []) (scene w gh)
        same e = moved None ChangeRoot ((scene w gh).at v).mark (ap (λ z. root_mark z b) e) (ap (λ z. root_message z (w.node v).head.level) e) refl

        go : (n : Mark) → mark_at (w.node v) b ≡ n → Kept g 0 gh (put gh.up v (Some b)) moved_net
        go Basic e = connects Basic e (λ z. cc) refl refl
        go Rejected e = connects Rejected e (λ z. cc) refl refl
        go Branch e =
            record {
              ghost = with_up gh v (Some b);
              ups = refl;
              steps = 0;
              grows = As_it_was refl refl refl;
              holds = subst (Sound g) (sym (same e)) (pass_sound g ground.wired v (at_in at) (scene w gh) sound p at (see ms).tree b k calls best e);
            }

  row_report_moves_root :
      (r : Option Key) (b : ℕ) (k : Key) → w.queue v p ≡ Report r ∷ ms → (w.node v).head.in_branch ≡ Some p → (w.node v).head.phase ≡ Found →
      (w.node v).head.best ≡ Some (b, k) →
      below (Some k) r ≡ true →
      Kept g 0 gh (put gh.up v (Some b)) (taken g v p (Report r) ms (moves_root (w.node v) b) w)
  row_report_moves_root r b k waits way found best less =
      moves (Report r) b k
      (By_report r (tree_first (w.queue v p) ms (Report r) refl waits) way found (ap (λ o. below (best_key o) r) best ∙ less))
      (seen (w.queue v p) ms (Report r) refl waits) best

  row_root_moves : (b : ℕ) (k : Key) →
      w.queue v p ≡ ChangeRoot ∷ ms →
      (w.node v).head.best ≡ Some (b, k) →
      Kept g 0 gh (put gh.up v (Some b)) (taken g v p ChangeRoot ms (moves_root (w.node v) b) w)
  row_root_moves b k waits best =
      moves ChangeRoot b k (By_root (tree_first (w.queue v p) ms ChangeRoot refl waits)) (seen (w.queue v p) ms ChangeRoot refl waits) best

-- a wake
module _ (g : Network) (ground : Ground g) (v : ℕ) (v_is : InNetwork g v) (w : Net) (is : IsNodeOf g v (w.node v)) (gh : Ghost)
    (sound : Sound g (scene w gh)) (sleeps : (w.node v).head.phase ≡ Sleeping) where
  wakes_over : At g v 0 → Kept g 0 gh (put gh.up v (Some 0)) (reacted g v (wakes (w.node v)) w)
  wakes_over at = ⊎_elim meets goes_out (mark_is (((scene w gh).at (far g v 0)).mark (far_port g v 0)))
    where
      woken_net : Net
      woken_net = reacted g v (wakes (w.node v)) w

      x : Member
      x = record ((scene w gh).at v) {
        head = record (w.node v).head { level = 0; phase = Found; find_count = 0 };
        mark = put ((scene w gh).at v).mark 0 Branch;
        up = Some 0;
      }

      in_moving : 0 < degree (w.node v)
      in_moving = let lt = at.port in omega (arith, lt, ports_many is)

      same : scene woken_net (with_up gh v (Some 0)) ≡ acts g v x ((scene w gh).seen v) ((0, Connect 0) ∷ []) (scene w gh)
      same =
          wake_acts g v w gh (Some 0) (wakes (w.node v)) ∙
          (λ i.
          acts g v (record x { mark = set_marks (w.node v).marks 0 Branch in_moving i }) ((scene w gh).seen v) ((0, Connect 0) ∷ []) (scene w gh))

      meets : ((scene w gh).at (far g v 0)).mark (far_port g v 0) ≡ Branch → Kept g 0 gh (put gh.up v (Some 0)) woken_net
      meets met =
          met_sound g v 0 woken_net gh (put gh.up v (Some 0)) (wake_least g ground (scene w gh) sound.first sound.floor sound.floors v v_is at sleeps)
          (came_least g ground.wired (scene w gh) sound.first sound.floor sound.floors v 0 at
          (((sound.first.nodes v v_is).untouched sleeps).marks 0) met)
          (wake_levels g ground (scene w gh) sound.first sound.floor sound.floors v v_is at sleeps met)
          (ap (λ (z : Scene). (z.at v).head.level) same ∙ ap (λ (z : Member). z.head.level) (put_same (scene w gh).at v x) ∙
          sym ((sound.first.nodes v v_is).untouched sleeps).coming)
          (subst (λ (z : Scene). Sound g (meet g v 0 z)) (sym same) (wake_meeting_sound g ground v v_is (scene w gh) sound sleeps at met))

      goes_out : ((scene w gh).at (far g v 0)).mark (far_port g v 0) ≢ Branch → Kept g 0 gh (put gh.up v (Some 0)) woken_net
      goes_out apart = record {
        ghost = with_up gh v (Some 0);
        ups = refl;
        steps = 0;
        grows = As_it_was refl refl refl;
        holds = subst (Sound g) (sym same) (wake_out_sound g ground v v_is (scene w gh) sound sleeps at apart);
      }

  pub wake_keeps : Kept g 0 gh (put gh.up v (up_waking (w.node v).marks (gh.up v))) (reacted g v (waking (w.node v)) w)
  wake_keeps = go (w.node v).marks refl
    where
      go : (ks : List Mark) → (w.node v).marks ≡ ks → Kept g 0 gh (put gh.up v (up_waking ks (gh.up v))) (reacted g v (at_wake (w.node v) ks) w)
      go [] e =
          record {
            ghost = with_up gh v (gh.up v);
            ups = refl;
            steps = 0;
            grows = As_it_was refl refl refl;
            holds =
                subst (Sound g) (sym (wake_acts g v w gh (gh.up v) (wakes_alone (w.node v))))
                (lone_sound g ground v v_is (scene w gh) sound sleeps (sym (ports_many is) ∙ ap length e));
          }
      go (k ∷ ks) e =
          wakes_over (record { some = v_is.some; node = v_is.node; port = let z = ports_many is in let y = ap length e in omega (arith, z, y) })

-- all rows, and all steps of a net
module _ (g : Network) (ground : Ground g) where
  pub row_keeps :
      (v p : ℕ) → At g v p → (w : Net) → IsNodeOf g v (w.node v) → (gh : Ghost) → Sound g (scene w gh) →
      (m : Message) (ms : List Message) (d : Delta) → w.queue v p ≡ m ∷ ms → (w.node v).head.phase ≢ Sleeping → (row : AwakeRow (w.node v) p m d) →
      Kept g (takes_in row) gh (ups_after row gh.up v) (taken g v p m ms d w)
  row_keeps v p at w is gh holds m ms d q up (Connect_absorbed {l = l} lt few) = row_connect_absorbed g ground v p at w is gh holds ms l q lt up
  row_keeps v p at w is gh holds m ms d q up (Connect_waits {l = l} le basic) = row_connect_waits g ground v p at w gh holds ms l q basic
  row_keeps v p at w is gh holds m ms d q up (Connect_merges {l = l} le marked low) = row_connect_merges g ground v p at w is gh holds ms l q marked
  row_keeps v p at w is gh holds m ms d q up (Initiate_rests {l = l} {f = f} lt) = row_initiate_rests g ground v p at w is gh holds ms l f q
  row_keeps v p at w is gh holds m ms d q up (Initiate_searches {l = l} {f = f} {e = e} lt few s) = row_initiate_searches g ground v p at
      w is gh holds ms l f e q s
  row_keeps v p at w is gh holds m ms d q up (Test_waits {l = l} {f = f} lt) = row_test_waits g ground v p at w gh holds ms l f q
  row_keeps v p at w is gh holds m ms d q up (Test_accepted {l = l} {f = f} le other) = row_test_accepted g ground v p at w is gh holds ms
      l f q le other
  row_keeps v p at w is gh holds m ms d q up (Test_rejected {l = l} {f = f} le same free) = row_test_rejected g ground v p at w is gh
      holds ms l f up q same free
  row_keeps v p at w is gh holds m ms d q up (Tests_cross {l = l} {f = f} {e = e} le same own s) = row_tests_cross g ground v p at w is gh
      holds ms l f e q same own s
  row_keeps v p at w is gh holds m ms d q up (Accept_heard {e = e} own c) = row_accept_heard g ground v p at w is gh holds ms e q own c
  row_keeps v p at w is gh holds m ms d q up (Reject_heard {e = e} own s) = row_reject_heard g ground v p at w is gh holds ms e q own s
  row_keeps v p at w is gh holds m ms d q up (Report_heard {w = k} {e = e} c away count s) = row_report_heard g ground v p at w is gh
      holds ms k c e q away count s
  row_keeps v p at w is gh holds m ms d q up (Report_waits {w = k} way finds) = row_report_waits g ground v p at w gh holds ms k q way finds
  row_keeps v p at w is gh holds m ms d q up (Report_moves_root {w = r} b k way found best less) = row_report_moves_root g ground v p at w
      is gh holds ms r b k q way found best less
  row_keeps v p at w is gh holds m ms d q up (Report_halts way found best) = row_report_halts g ground v p at w is gh holds ms None q found refl best
  row_keeps v p at w is gh holds m ms d q up (Report_passes {w = k} way found b s) = row_report_passes g ground v p at w is gh holds ms k q found b s
  row_keeps v p at w is gh holds m ms d q up (Root_moves b k best) = row_root_moves g ground v p at w is gh holds ms b k q best

  -- what a step leaves, and how the memory has grown
  pub record Stepped (took : ℕ) (w' : Net) (before : Ghost) : Type 0 where
    pub ghost : Ghost
    pub holds : Sound g (scene w' ghost)
    pub steps : ℕ
    pub grows : Grows g before ghost took steps

  pub step_grows : (w w' : Net) → AreNodes g w → (gh : Ghost) → Sound g (scene w gh) → (t : Step g w w') → Stepped (step_takes t) w' gh
  step_grows w _ nodes gh h (Wakes_up v lo hi sleeps) =
      let s = wake_keeps g ground v (record { some = lo; node = hi }) w (nodes v) gh h sleeps in
      record { ghost = s.ghost; holds = s.holds; steps = s.steps; grows = s.grows }
  step_grows w _ nodes gh h (Takes_one v p m ms d at q up row) =
      let s = row_keeps v p at w (nodes v) gh h m ms d q up row in record { ghost = s.ghost; holds = s.holds; steps = s.steps; grows = s.grows }

  pub step_keeps : (w w' : Net) → AreNodes g w → HasSound g w → Step g w w' → HasSound g w'
  step_keeps w w' nodes h t = let s = step_grows w w' nodes h.ghost h.holds t in record { ghost = s.ghost; holds = s.holds }
