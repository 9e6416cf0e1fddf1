-- Each row pays for what it sends.
use Rattle.std.proofs.Common.{◌≡◌, ◌≢◌, ◌⊎◌, inl, inr, ℕ, suc, ◌+◌, ◌≤◌, ◌<◌, ◌==◌, true, false, Option, Some, None, List, [], ◌∷◌, ◌++◌, length, refl, sym, ◌∙◌, ap, subst, arith, ⊎_elim, get_or, cond}
use Rattle.ghs_graph.specs.declared.key.Key.{Key}
use Rattle.ghs_graph.specs.Bound.{IsFloorLog2}
use Rattle.ghs_node.specs.declared.head.Head.{Head}
use Rattle.ghs_node.specs.declared.mark.Mark.{Mark}
use Rattle.ghs_node.specs.declared.mark.Mark.TheVariants.{Basic, Branch, Rejected}
use Rattle.ghs_node.specs.declared.message.Phase.TheVariants.{Find, Found}
use Rattle.ghs_node.specs.declared.message.Message.{Message}
use Rattle.ghs_node.specs.declared.message.Message.TheVariants.{Connect, Initiate, Test, Accept, Reject, Report, ChangeRoot}
use Rattle.ghs_node.specs.declared.delta.Delta.{Delta}
use Rattle.ghs_node.specs.declared.delta.Fate.TheVariants.{Consumed}
use Rattle.ghs_node.specs.Kind.{kind_of, place_of}
use Rattle.ghs_node.specs.NodeState.{degree, key_at, mark_at, with_mark}
use Rattle.ghs_node.specs.Words.{below, best_key, is_at, is_branch, is_name}
use Rattle.ghs_node.specs.Reaction.{Ending, Probing, absorbs, answered, does, ends, heard, last_sends, merges, moves_root, no_probe, passed_on, probe_after, reject_at, requeues, rests, root_mark, root_message, searching, stops}
use Rattle.ghs_node.specs.Rows.{Accept_heard, AwakeRow, Closes, Reports, Waits, Connect_absorbed, Connect_merges, Connect_waits, Initiate_rests, Initiate_searches, Reject_heard, Report_halts, Report_heard, Report_moves_root, Report_passes, Report_waits, Root_moves, Settles, Test_accepted, Test_rejected, Test_waits, Tests_cross}
use Rattle.peer_network.specs.Network.{At, Network, far, far_port, InNetwork}
use Rattle.ghs_protocol.specs.Net.{Net, one_if_consumed}
use Rattle.peer_network.specs.Updates.{put}
use Rattle.ghs_protocol.specs.Nodes.{IsNodeOf}
use Rattle.ghs_protocol.specs.Steps.{taken}
use Rattle.ghs_protocol.proofs.clauses.Scene.{Ghost, Seen, TreeEnd, Scene, end, see, test_end, tree_end, scene, far_end}
use Rattle.ghs_protocol.proofs.clauses.Changes.{rejected, marked}
use Rattle.ghs_protocol.proofs.clauses.TreeMessages.{TreeFits}
use Rattle.ghs_protocol.proofs.clauses.Uniting.{By_report, By_root, SendsRoot}
use Rattle.ghs_protocol.proofs.clauses.Wiring.{Ground}
use Rattle.ghs_protocol.proofs.clauses.Whole.{opening_ghost}
use Rattle.ghs_protocol.proofs.clauses.Floors.{Sound}
use Rattle.ghs_protocol.proofs.clauses.Charges.{Acted, Charges, IsLow, Pays, Rises, any_test}
use Rattle.ghs_protocol.proofs.lemmas.Nodes.{ports_many}
use Rattle.ghs_protocol.proofs.lemmas.Sends.{messages}
use Rattle.peer_network.proofs.lemmas.Updates.{put_same, put_other}
use Rattle.ghs_protocol.proofs.charges.Acts.{all_calls, pays_accept, pays_idle, pays_report, pays_rest, pays_root, pays_search, pays_turn}
use Rattle.ghs_protocol.proofs.search.Initiate as initiating
use Rattle.ghs_protocol.proofs.charges.TopLevel.{below_top}
use Rattle.ghs_protocol.proofs.charges.Due.{Grows, NoTests}
use Rattle.ghs_protocol.proofs.charges.PortActs.{accept_pays, calm_pays, grows_branch, reject_pays, search_pays, turn_pays}
use Rattle.ghs_protocol.proofs.tests.Steps.{cross_inside, reject_inside}
use Rattle.ghs_protocol.proofs.acts.AsRead.{reacts}
use Rattle.ghs_protocol.proofs.search.FirstReport.{Heard, heard_first, mark_is}
use Rattle.ghs_protocol.proofs.root.AtRoot.{AtRoot, at_root}
use Rattle.ghs_protocol.proofs.rows.Read.{accept_first, reject_first, reject_marks, same_name, set_marks, test_first, tree_first, marks_are}
use Rattle.ghs_protocol.proofs.rows.Link.{link_fits, link_leads, link_clauses}
use Rattle.ghs_protocol.proofs.acts.Situations.{is_find', probing_finds}
use Rattle.ghs_protocol.proofs.rows.Steps.{basic_was}
use Rattle.ghs_protocol.proofs.rows.Rows.{ups_after, connect_again, report_again, test_again}
use Rattle.ghs_protocol.proofs.acts.Reactions.{round_scene}
use Rattle.ghs_protocol.proofs.charges.Taken.{arrives, fewer, lone, next_basic, no_probing, none_left, taken_pays}
use Rattle.ghs_protocol.proofs.tests.Links.{accepted_apart, not_basic, probe_is, rejected_facts}
use Rattle.peer_network.proofs.lemmas.Wires.{at_in}
use Rattle.ghs_protocol.proofs.lemmas.Balance.{none_or_none}
use Rattle.ghs_node.proofs.lemmas.{is_at_is, is_at_not}

-- a port at which a tree message waits isn't Rejected
not_rejected : {N : ℕ → Key → Type 0} (e f : TreeEnd) →
    TreeFits N e f →
    TreeFits N f e →
    (m : Message) (ms : List Message) → e.tree ≡ m ∷ ms →
    e.mark ≢ Rejected
not_rejected e f he hf m ms waits rej = ⊎_elim
    (λ b. let z = (hf.out_connect (record { here = b; there = λ y. cc (y, rej) })).mark in cc (z, rej))
    (λ ne. let z = he.silent (λ y. cc (y, rej)) ne in cc (z, waits))
    (mark_is f.mark)

closes_quiet : (h x : Head) (e : Ending) → Closes h e → NoTests (messages (last_sends x e))
closes_quiet h x _ (Reports a b) = refl
closes_quiet h x _ (Waits a) = refl

pub closes_probe : (h : Head) (e : Ending) (o : Option ℕ) → Closes h e → probe_after o e ≡ o
closes_probe h _ o (Reports a b) = refl
closes_probe h _ o (Waits a) = refl

module _ (g : Network) (ground : Ground g) (k : ℕ) (log : IsFloorLog2 g.count k) (v p : ℕ) (at : At g v p) (w : Net)
    (is : IsNodeOf g v (w.node v)) (gh : Ghost) (sound : Sound g (scene w gh)) (charges : Charges g k gh.up w) (ms : List Message) where
  inside : InNetwork g v
  inside = record { some = at.some; node = at.node }

  open link_clauses g ground.wired (scene w gh) sound.first v p at use {link, link'}

  low : IsLow k (w.node v).head (gh.up v)
  low = charges.low v inside

  far_in : InNetwork g (far g v p)
  far_in = let t = ground.wired.there v p at in record { some = t.some; node = t.node }

  in_marks : p < degree (w.node v)
  in_marks = let lt = at.port in omega (arith, lt, ports_many is)

  -- v's queues, with the first message of port p taken
  abbrev own : ℕ → Seen
  own = put (λ i. see (w.queue v i)) p (see ms)

  own_tests : any_test (see ms).tests ≡ false → any_test (own p).tests ≡ false
  own_tests e = ap (λ (s : Seen). any_test s.tests) (put_same (λ i. see (w.queue v i)) p (see ms)) ∙ e

  -- a row that is done with its message, and leaves ways to the root as they are
  pays_so : (m : Message) (d : Delta) (a : ℕ) →
      d.fate ≡ Consumed →
      Rises g (scene w opening_ghost) (scene (taken g v p m ms d w) opening_ghost) v p a →
      Pays k (w.node v).head (gh.up v) d.head (gh.up v) (λ j. cond (place_of (kind_of m) == j) 1 0) (messages d.sends) a →
      Acted g k v gh.up gh.up w (taken g v p m ms d w)
  pays_so m d a once more pays =
      taken_pays g v p w m ms d k gh.up gh.up a (λ u ne. refl) more
      (subst (λ f.
      Pays k (w.node v).head (gh.up v) d.head (gh.up v) (λ j. cond (place_of (kind_of m) == j) (one_if_consumed f) 0) (messages d.sends) a)
      (sym once) pays)

  -- one that probes as before, and sends no Test
  calm : (m : Message) → w.queue v p ≡ m ∷ ms → (d : Delta) → d.fate ≡ Consumed → NoTests (messages d.sends) → d.head.probe ≡ (w.node v).head.probe →
      ((i : ℕ) → Grows (mark_at (w.node v) i) (get_or (with_mark (w.node v).marks d.mark) i Rejected)) →
      Rises g (scene w opening_ghost) (scene (taken g v p m ms d w) opening_ghost) v p 0
  calm m waits d once none probe grows =
      arrives g v p w m ms d once 0
      (calm_pays g ground.wired v (at_in at) (reacts g v w opening_ghost d) own (scene w opening_ghost) (fewer g v p w m ms waits) d.sends none
      probe grows p)

  -- where no mark changes either
  still : (i : ℕ) → Grows (mark_at (w.node v) i) (get_or (with_mark (w.node v).marks None) i Rejected)
  still i ne = refl

  row_connect_absorbed : (l : ℕ) → w.queue v p ≡ Connect l ∷ ms → Acted g k v gh.up gh.up w (taken g v p (Connect l) ms (absorbs (w.node v) p) w)
  row_connect_absorbed l waits =
      pays_so (Connect l) (absorbs (w.node v) p) 0 refl
      (calm (Connect l) waits (absorbs (w.node v) p) refl refl refl
      (λ i.
      subst (λ (f : ℕ → Mark). Grows (mark_at (w.node v) i) (f i)) (sym (set_marks (w.node v).marks p Branch in_marks))
      (grows_branch (λ q. mark_at (w.node v) q) p i free)))
      (pays_idle k (w.node v).head (gh.up v) low (absorbs (w.node v) p).head _ _ 0 refl refl refl refl refl refl refl refl refl refl refl)
    where
      free : mark_at (w.node v) p ≢ Rejected
      free =
          not_rejected (tree_end (end g (scene w gh) v p)) (tree_end (far_end g (scene w gh) v p)) link.tree link'.tree (Connect l)
          (see ms).tree
          (tree_first (w.queue v p) ms (Connect l) refl waits)

  row_connect_merges : (l : ℕ) → w.queue v p ≡ Connect l ∷ ms → Acted g k v gh.up gh.up w (taken g v p (Connect l) ms (merges (w.node v) p) w)
  row_connect_merges l waits =
      pays_so (Connect l) (merges (w.node v) p) 0 refl (calm (Connect l) waits (merges (w.node v) p) refl refl refl still)
      (pays_idle k (w.node v).head (gh.up v) low (w.node v).head _ _ 0 refl refl refl refl refl refl refl refl refl refl refl)

  row_test_accepted : (l : ℕ) (n : Key) →
      w.queue v p ≡ Test l n ∷ ms →
      Acted g k v gh.up gh.up w (taken g v p (Test l n) ms (does (w.node v).head None ((p, Accept) ∷ [])) w)
  row_test_accepted l n waits =
      pays_so (Test l n) (does (w.node v).head None ((p, Accept) ∷ [])) 0 refl
      (calm (Test l n) waits (does (w.node v).head None ((p, Accept) ∷ [])) refl refl refl still)
      (pays_idle k (w.node v).head (gh.up v) low (w.node v).head _ _ 0 refl refl refl refl refl refl refl refl refl refl refl)

  row_report_halts : (r : Option Key) → w.queue v p ≡ Report r ∷ ms → Acted g k v gh.up gh.up w (taken g v p (Report r) ms (stops (w.node v).head) w)
  row_report_halts r waits =
      pays_so (Report r) (stops (w.node v).head) 0 refl (calm (Report r) waits (stops (w.node v).head) refl refl refl still)
      (pays_idle k (w.node v).head (gh.up v) low (stops (w.node v).head).head _ _ 0 refl refl refl refl refl refl refl refl refl refl refl)

  row_report_passes : (r : Option Key) →
      w.queue v p ≡ Report r ∷ ms →
      Acted g k v gh.up gh.up w (taken g v p (Report r) ms (does (w.node v).head None []) w)
  row_report_passes r waits =
      pays_so (Report r) (does (w.node v).head None []) 0 refl (calm (Report r) waits (does (w.node v).head None []) refl refl refl still)
      (pays_idle k (w.node v).head (gh.up v) low (w.node v).head _ _ 0 refl refl refl refl refl refl refl refl refl refl refl)

  -- a message that goes round
  row_round : (m : Message) → see (ms ++ m ∷ []) ≡ see (w.queue v p) → Acted g k v gh.up gh.up w (taken g v p m ms (requeues (w.node v).head) w)
  row_round m e =
      taken_pays g v p w m ms (requeues (w.node v).head) k gh.up gh.up 0 (λ u ne. refl)
      (subst (λ (z : Scene). Rises g (scene w opening_ghost) z v p 0) (sym (round_scene g v w opening_ghost p m ms e))
      (record { stays = λ u q at'. omega arith; more = λ h. absurd (omega (arith, h)) }))
      (pays_idle k (w.node v).head (gh.up v) low (w.node v).head (λ j. cond (place_of (kind_of m) == j) 0 0) [] 0 refl refl refl refl refl
      (none_or_none (place_of (kind_of m) == 1)) (none_or_none (place_of (kind_of m) == 3)) refl refl refl refl)

  row_initiate_rests : (l : ℕ) (f : Key) →
      w.queue v p ≡ Initiate l f Found ∷ ms →
      (w.node v).head.level < l →
      Acted g k v gh.up gh.up w (taken g v p (Initiate l f Found) ms (rests (w.node v) p l f) w)
  row_initiate_rests l f waits lt =
      pays_so (Initiate l f Found) (rests (w.node v) p l f) 0 refl
      (calm (Initiate l f Found) waits (rests (w.node v) p l f) refl (all_calls 0 (w.node v).marks p l f Found 2 (λ e. omega (arith, e))) refl still)
      (pays_rest k (w.node v).head (gh.up v) low p l f (w.node v).head.find_count _ (passed_on (w.node v) p l f Found) lt up refl refl
      (all_calls 0 (w.node v).marks p l f Found))
    where
      up : gh.up v ≡ Some p
      up =
          (initiating.call g ground.wired v (at_in at) p at (scene w gh) sound.first l f Found (see ms).tree (w.node v).marks (marks_are g v w gh is)
          (tree_first (w.queue v p) ms (Initiate l f Found) refl waits) None refl 0 (λ e. refl)).up

  pub search_free : (l : ℕ) (f : Key) → w.queue v p ≡ Initiate l f Find ∷ ms → (w.node v).head.probe ≡ None
  search_free l f waits =
      (initiating.idle g ground.wired v (at_in at) p at (scene w gh) sound.first l f Find (see ms).tree (w.node v).marks (marks_are g v w gh is)
      (tree_first (w.queue v p) ms (Initiate l f Find) refl waits) None refl (length (passed_on (w.node v) p l f Find)) (λ e. refl)).0

  row_initiate_searches :
      (l : ℕ) (f : Key) (e : Ending) → w.queue v p ≡ Initiate l f Find ∷ ms →
      (w.node v).head.level < l →
      Settles (w.node v).marks (no_probe (searching (w.node v) p l f)) e →
      Acted g k v gh.up gh.up w
      (taken g v p (Initiate l f Find) ms (ends (no_probe (searching (w.node v) p l f)) None (passed_on (w.node v) p l f Find) e) w)
  row_initiate_searches l f e waits lt s =
      pays_so (Initiate l f Find) (ends (no_probe (searching (w.node v) p l f)) None (passed_on (w.node v) p l f Find) e) 0 refl
      (arrives g v p w (Initiate l f Find) ms (ends (no_probe (searching (w.node v) p l f)) None (passed_on (w.node v) p l f Find) e) refl 0
      (search_pays g ground.wired v (at_in at)
      (reacts g v w opening_ghost (ends (no_probe (searching (w.node v) p l f)) None (passed_on (w.node v) p l f Find) e)) own
      (scene w opening_ghost) (fewer g v p w (Initiate l f Find) ms waits)
      (passed_on (w.node v) p l f Find) (no_probe (searching (w.node v) p l f)) e
      (all_calls 0 (w.node v).marks p l f Find 2 (λ e. omega (arith, e))) refl
      (next_basic (w.node v).marks (no_probe (searching (w.node v) p l f)) e s) refl free p))
      (pays_search k (w.node v).head (gh.up v) low p l f
      ((w.node v).head.find_count + length (passed_on (w.node v) p l f Find)) _ (passed_on (w.node v) p l f Find) e lt free up refl refl
      (all_calls 0 (w.node v).marks p l f Find))
    where
      up : gh.up v ≡ Some p
      up =
          (initiating.call g ground.wired v (at_in at) p at (scene w gh) sound.first l f Find (see ms).tree (w.node v).marks (marks_are g v w gh is)
          (tree_first (w.queue v p) ms (Initiate l f Find) refl waits) None refl (length (passed_on (w.node v) p l f Find)) (λ e. refl)).up

      free : (w.node v).head.probe ≡ None
      free =
          (initiating.idle g ground.wired v (at_in at) p at (scene w gh) sound.first l f Find (see ms).tree (w.node v).marks (marks_are g v w gh is)
          (tree_first (w.queue v p) ms (Initiate l f Find) refl waits) None refl (length (passed_on (w.node v) p l f Find)) (λ e. refl)).0

  -- the marks once port p is Rejected where it was Basic
  rejects : (λ (q : ℕ). get_or (with_mark (w.node v).marks (reject_at (w.node v) p)) q Rejected) ≡ marked (λ q. mark_at (w.node v) q) p
  rejects = reject_marks (w.node v) p in_marks

  -- port p, Rejected where it was Basic, is Branch only if it was
  was_branch : marked (λ q. mark_at (w.node v) q) p p ≡ Branch → mark_at (w.node v) p ≡ Branch
  was_branch e = go (mark_at (w.node v) p) (sym (put_same (λ q. mark_at (w.node v) q) p (rejected (mark_at (w.node v) p))) ∙ e)
    where
      go : (m : Mark) → rejected m ≡ Branch → m ≡ Branch
      go Branch h = refl
      go Basic h = cc
      go Rejected h = cc

  -- a Branch of a link inside the fragment is one whose far end has a mark
  marked_beyond :
      gh.fragment v ≡ gh.fragment (far g v p) →
      mark_at (w.node v) p ≡ Branch →
      ((scene w gh).at (far g v p)).mark (far_port g v p) ≢ Basic
  marked_beyond same here basic = (link.tree.out_connect (record { here = here; there = λ e. cc (e, basic) })).apart (sym same)

  pub rejected_rises :
      (l : ℕ) (n : Key) → w.queue v p ≡ Test l n ∷ ms → is_name (w.node v).head.name n ≡ true → (w.node v).head.probe ≢ Some p →
      Rises g (scene w opening_ghost)
      (scene (taken g v p (Test l n) ms (does (w.node v).head (reject_at (w.node v) p) ((p, Reject) ∷ [])) w) opening_ghost) v p 1
  rejected_rises l n waits name free =
      (arrives g v p w (Test l n) ms (does (w.node v).head (reject_at (w.node v) p) ((p, Reject) ∷ [])) refl 1
      (reject_pays g ground.wired v (at_in at)
      (reacts g v w opening_ghost (does (w.node v).head (reject_at (w.node v) p) ((p, Reject) ∷ []))) own (scene w opening_ghost)
      (fewer g v p w (Test l n) ms waits) p at
      ((p, Reject) ∷ []) refl refl (is_at_not (w.node v).head.probe p free) rejects
      (is_at_is (w.node (far g v p)).head.probe (far_port g v p) theirs) (ap any_test first)
      (own_tests (none_left (l, n) (see ms).tests (see (w.queue v p)).tests first
      (lone (test_end (end g (scene w gh) v p)) (test_end (far_end g (scene w gh) v p)) link'.tests)))
      (λ e. marked_beyond same (was_branch (sym (ap (λ (f : ℕ → Mark). f p) rejects) ∙ e)))))
    where
      first : (see (w.queue v p)).tests ≡ (l, n) ∷ (see ms).tests
      first = test_first (w.queue v p) ms l n waits

      same : gh.fragment v ≡ gh.fragment (far g v p)
      same = reject_inside g ground.wired v (at_in at) p at (scene w gh) sound.first l n (see ms).tests ground.keyed first (same_name _ n name) free

      theirs : (w.node (far g v p)).head.probe ≡ Some (far_port g v p)
      theirs =
          ⊎_elim (λ e. e)
          (λ ne. absurd (free ((link'.tests.not_probing ne).crossed (let z = ap length first in omega (arith, z))).probe))
          (probe_is (w.node (far g v p)).head.probe (far_port g v p))

  row_test_rejected :
      (l : ℕ) (n : Key) → w.queue v p ≡ Test l n ∷ ms → is_name (w.node v).head.name n ≡ true → (w.node v).head.probe ≢ Some p →
      Acted g k v gh.up gh.up w (taken g v p (Test l n) ms (does (w.node v).head (reject_at (w.node v) p) ((p, Reject) ∷ [])) w)
  row_test_rejected l n waits name free =
      pays_so (Test l n) (does (w.node v).head (reject_at (w.node v) p) ((p, Reject) ∷ [])) 1 refl
      (rejected_rises l n waits name free)
      (pays_idle k (w.node v).head (gh.up v) low (w.node v).head _ _ 1 refl refl refl refl refl refl refl refl refl refl refl)

  -- port p stops being probed, and pays
  turn_rises :
      (m : Message) (e : Ending) → w.queue v p ≡ m ∷ ms →
      (w.node v).head.probe ≡ Some p →
      Settles (with_mark (w.node v).marks (reject_at (w.node v) p)) (no_probe (w.node v).head) e →
      (is_at (w.node (far g v p)).head.probe (far_port g v p) ≡ true → any_test (see ms).tests ≡ false) →
      (mark_at (w.node (far g v p)) (far_port g v p) ≢ Basic) ⊎
      ((is_at (w.node (far g v p)).head.probe (far_port g v p) ≡ true) × (marked (λ q. mark_at (w.node v) q) p p ≡ Rejected)) →
      Rises g (scene w opening_ghost) (scene (taken g v p m ms (ends (no_probe (w.node v).head) (reject_at (w.node v) p) [] e) w) opening_ghost) v p 1
  turn_rises m e waits mine s met why =
      (arrives g v p w m ms (ends (no_probe (w.node v).head) (reject_at (w.node v) p) [] e) refl 1
      (turn_pays g ground.wired v (at_in at)
      (reacts g v w opening_ghost (ends (no_probe (w.node v).head) (reject_at (w.node v) p) [] e)) own (scene w opening_ghost)
      (fewer g v p w m ms waits) p at
      (no_probe (w.node v).head) e refl mine (λ q z. basic_was (λ q. mark_at (w.node v) q) p q (next q z))
      (λ q z y.
      not_basic (mark_at (w.node v) p) (sym (put_same (λ q. mark_at (w.node v) q) p (rejected (mark_at (w.node v) p))) ∙
      subst (λ x. marked (λ q. mark_at (w.node v) q) p x ≡ Basic) y (next q z)))
      rejects (λ z. own_tests (met z)) (⊎_elim inl (λ z. inr (z.0, ap (λ (f : ℕ → Mark). f p) rejects ∙ z.1)) why)))
    where
      next : (q : ℕ) → e ≡ Probing q → marked (λ q. mark_at (w.node v) q) p q ≡ Basic
      next q z =
          sym (ap (λ (f : ℕ → Mark). f q) rejects) ∙
          next_basic (with_mark (w.node v).marks (reject_at (w.node v) p)) (no_probe (w.node v).head) e s q z

  turns :
      (m : Message) (e : Ending) → (w.node v).head.probe ≡ Some p →
      ◌≡◌ {A = ℕ} (cond (place_of (kind_of m) == 1) 1 0) 0 →
      ◌≡◌ {A = ℕ} (cond (place_of (kind_of m) == 3) 1 0) 0 →
      Rises g (scene w opening_ghost)
      (scene (taken g v p m ms (ends (no_probe (w.node v).head) (reject_at (w.node v) p) [] e) w) opening_ghost) v p 1 →
      Acted g k v gh.up gh.up w (taken g v p m ms (ends (no_probe (w.node v).head) (reject_at (w.node v) p) [] e) w)
  turns m e mine c1 c3 rises =
      pays_so m (ends (no_probe (w.node v).head) (reject_at (w.node v) p) [] e) 1 refl rises
      (pays_turn k (w.node v).head (gh.up v) low p _ e mine (probing_finds (sound.first.nodes v inside) mine) c1 c3)

  pub cross_rises :
      (l : ℕ) (n : Key) (e : Ending) → w.queue v p ≡ Test l n ∷ ms → is_name (w.node v).head.name n ≡ true → (w.node v).head.probe ≡ Some p →
      Settles (with_mark (w.node v).marks (reject_at (w.node v) p)) (no_probe (w.node v).head) e →
      Rises g (scene w opening_ghost)
      (scene (taken g v p (Test l n) ms (ends (no_probe (w.node v).head) (reject_at (w.node v) p) [] e) w) opening_ghost) v p 1
  cross_rises l n e waits name mine s =
      turn_rises (Test l n) e waits mine s
      (λ z.
      none_left (l, n) (see ms).tests (see (w.queue v p)).tests first
      (lone (test_end (end g (scene w gh) v p)) (test_end (far_end g (scene w gh) v p)) link'.tests))
      (⊎_elim
      (λ own.
      kind (marked (λ q. mark_at (w.node v) q) p p)
      (λ z. not_basic (mark_at (w.node v) p) (sym (put_same (λ q. mark_at (w.node v) q) p (rejected (mark_at (w.node v) p))) ∙ z))
      (is_at_is (w.node (far g v p)).head.probe (far_port g v p) own) (λ z. marked_beyond same (was_branch z)))
      (λ ne. inl ((link'.tests.not_probing ne).crossed (let z = ap length first in omega (arith, z))).mark)
      (probe_is (w.node (far g v p)).head.probe (far_port g v p)))
    where
      first : (see (w.queue v p)).tests ≡ (l, n) ∷ (see ms).tests
      first = test_first (w.queue v p) ms l n waits

      same : gh.fragment v ≡ gh.fragment (far g v p)
      same = cross_inside g ground.wired v (at_in at) p at (scene w gh) sound.first l n (see ms).tests ground.keyed first (same_name _ n name) mine

      kind : (m : Mark) →
          m ≢ Basic →
          is_at (w.node (far g v p)).head.probe (far_port g v p) ≡ true →
          (m ≡ Branch → mark_at (w.node (far g v p)) (far_port g v p) ≢ Basic) →
          (mark_at (w.node (far g v p)) (far_port g v p) ≢ Basic) ⊎ ((is_at (w.node (far g v p)).head.probe (far_port g v p) ≡ true) × (m ≡ Rejected))
      kind Basic ne own f = absurd (ne refl)
      kind Branch ne own f = inl (f refl)
      kind Rejected ne own f = inr (own, refl)

  row_tests_cross :
      (l : ℕ) (n : Key) (e : Ending) → w.queue v p ≡ Test l n ∷ ms → is_name (w.node v).head.name n ≡ true → (w.node v).head.probe ≡ Some p →
      Settles (with_mark (w.node v).marks (reject_at (w.node v) p)) (no_probe (w.node v).head) e →
      Acted g k v gh.up gh.up w (taken g v p (Test l n) ms (ends (no_probe (w.node v).head) (reject_at (w.node v) p) [] e) w)
  row_tests_cross l n e waits name mine s = turns (Test l n) e mine refl refl (cross_rises l n e waits name mine s)

  pub heard_rises :
      (e : Ending) → w.queue v p ≡ Reject ∷ ms →
      (w.node v).head.probe ≡ Some p →
      Settles (with_mark (w.node v).marks (reject_at (w.node v) p)) (no_probe (w.node v).head) e →
      Rises g (scene w opening_ghost)
      (scene (taken g v p Reject ms (ends (no_probe (w.node v).head) (reject_at (w.node v) p) [] e) w) opening_ghost) v p 1
  heard_rises e waits mine s =
      let facts =
      rejected_facts (test_end (end g (scene w gh) v p)) (test_end (far_end g (scene w gh) v p)) mine link.tests link'.tests
      (see ms).rejects
      (reject_first (w.queue v p) ms waits) in
      turn_rises Reject e waits mine s
      (λ z. absurd (let y = is_at_not (w.node (far g v p)).head.probe (far_port g v p) facts.2 in cc (y, z))) (inl facts.1)

  row_reject_heard :
      (e : Ending) → w.queue v p ≡ Reject ∷ ms →
      (w.node v).head.probe ≡ Some p →
      Settles (with_mark (w.node v).marks (reject_at (w.node v) p)) (no_probe (w.node v).head) e →
      Acted g k v gh.up gh.up w (taken g v p Reject ms (ends (no_probe (w.node v).head) (reject_at (w.node v) p) [] e) w)
  row_reject_heard e waits mine s = turns Reject e mine refl refl (heard_rises e waits mine s)

  row_accept_heard :
      (e : Ending) → w.queue v p ≡ Accept ∷ ms → (w.node v).head.probe ≡ Some p → Closes (answered (w.node v).head p (Some (key_at (w.node v) p))) e →
      Acted g k v gh.up gh.up w (taken g v p Accept ms (ends (answered (w.node v).head p (Some (key_at (w.node v) p))) None [] e) w)
  row_accept_heard e waits mine c =
      pays_so Accept (ends (answered (w.node v).head p (Some (key_at (w.node v) p))) None [] e) 0 refl
      (arrives g v p w Accept ms (ends (answered (w.node v).head p (Some (key_at (w.node v) p))) None [] e) refl 0
      (accept_pays g ground.wired v (at_in at)
      (reacts g v w opening_ghost (ends (answered (w.node v).head p (Some (key_at (w.node v) p))) None [] e)) own (scene w opening_ghost)
      (fewer g v p w Accept ms waits) p at
      (answered (w.node v).head p (Some (key_at (w.node v) p))) e refl mine (λ q z. absurd (no_probing _ e c q z))
      (λ q z. absurd (no_probing _ e c q z)) refl
      (λ b rej. apart.0 (link'.search.rejected_inside rej))))
      (pays_accept k (w.node v).head (gh.up v) low p (Some (key_at (w.node v) p)) _ e mine finds lower refl refl c)
    where
      finds : (w.node v).head.phase ≡ Find
      finds = probing_finds (sound.first.nodes v inside) mine

      apart : (gh.fragment (far g v p) ≢ gh.fragment v) × ((w.node v).head.level ≤ (w.node (far g v p)).head.level)
      apart =
          accepted_apart (test_end (end g (scene w gh) v p)) (test_end (far_end g (scene w gh) v p)) mine link.tests link'.tests
          (see ms).accepts
          (accept_first (w.queue v p) ms waits)

      lower : (w.node v).head.level < k
      lower =
          let top = ((sound.first.nodes v inside).searching finds).level in
          let lag = (sound.first.nodes (far g v p) far_in).lag.level in
          let z = below_top g k log (scene w gh) sound.first v (far g v p) inside far_in apart.0 (omega (arith, top, lag, apart.1)) in
          omega (arith, z, top)

  row_report_heard :
      (r : Option Key) (c : ℕ) (e : Ending) → w.queue v p ≡ Report r ∷ ms → (w.node v).head.in_branch ≢ Some p → (w.node v).head.find_count ≡ suc c →
      Closes (heard (w.node v).head c p r) e → Acted g k v gh.up gh.up w (taken g v p (Report r) ms (ends (heard (w.node v).head c p r) None [] e) w)
  row_report_heard r c e waits away count s =
      pays_so (Report r) (ends (heard (w.node v).head c p r) None [] e) 0 refl
      (calm (Report r) waits (ends (heard (w.node v).head c p r) None [] e) refl
      (closes_quiet (heard (w.node v).head c p r) (heard (w.node v).head c p r) e s)
      (closes_probe (heard (w.node v).head c p r) e (w.node v).head.probe s) still)
      (subst (λ o.
      Pays k (w.node v).head (gh.up v)
      (record (ends (heard (w.node v).head c p r) None [] e).head { probe = o }) (gh.up v) (λ j. cond (5 == j) 1 0)
      (messages (last_sends (heard (w.node v).head c p r) e)) 0)
      refl
      (pays_report k (w.node v).head (gh.up v) low c p r _ e finds lower refl refl s))
    where
      finds : (w.node v).head.phase ≡ Find
      finds =
          ⊎_elim (λ h. h) (λ ne. absurd (let z = ((sound.first.nodes v inside).idle ne).1 in omega (arith, z, count)))
          (is_find' (w.node v).head.phase)

      only : Heard (tree_end (end g (scene w gh) v p)) (tree_end (far_end g (scene w gh) v p)) r
      only =
          heard_first (tree_end (end g (scene w gh) v p)) (tree_end (far_end g (scene w gh) v p)) link.tree link'.tree
          (link_leads g ground.wired (scene w gh) sound.first v p at) r (see ms).tree
          (tree_first (w.queue v p) ms (Report r) refl waits) away

      lower : r ≢ None → (w.node v).head.level < k
      lower some =
          let j = only.child.joins in
          let same = sound.first.trees.joined_within v p at (record { here = ap is_branch j.there; there = ap is_branch j.here }) in
          let coming = (sound.first.trees.by_fragment v (far g v p) same).0 in
          let top = ((sound.first.nodes v inside).searching finds).level in
          let top' = only.reported.level in
          let z = (charges.low (far g v p) far_in).best (λ e. some (sym only.reported.key ∙ ap best_key e)) in
          omega (arith, coming, top, top', z)

  -- the root is sent on over port b
  root_moves :
      (m : Message) (b : ℕ) (q : Key) → SendsRoot (scene w gh) v p (see ms).tree → w.queue v p ≡ m ∷ ms → (w.node v).head.best ≡ Some (b, q) →
      ◌≡◌ {A = ℕ} (cond (place_of (kind_of m) == 1) 1 0) 0 →
      ◌≡◌ {A = ℕ} (cond (place_of (kind_of m) == 3) 1 0) 0 →
      Acted g k v gh.up (put gh.up v (Some b)) w (taken g v p m ms (moves_root (w.node v) b) w)
  root_moves m b q calls waits best c1 c3 =
      taken_pays g v p w m ms (moves_root (w.node v) b) k gh.up (put gh.up v (Some b)) 0 (λ u ne. put_other gh.up v u (Some b) ne)
      (calm m waits (moves_root (w.node v) b) refl (no_tests (mark_at (w.node v) b)) refl grows)
      (subst (λ o.
      Pays k (w.node v).head (gh.up v) (w.node v).head o (λ j. cond (place_of (kind_of m) == j) 1 0)
      (messages (moves_root (w.node v) b).sends) 0)
      (sym (put_same gh.up v (Some b)))
      (pays_root k (w.node v).head (gh.up v) low p b (mark_at (w.node v) b) _ root.in_branch root.up
      ((sound.first.nodes v inside).best_port b q best).1
      (low.best (λ e. cc (e, best))) c1 c3))
    where
      root : AtRoot g (scene w gh) v p (see ms).tree
      root = at_root g ground.wired v (at_in at) p at (scene w gh) sound.first (see ms).tree calls

      at_b : At g v b
      at_b = record { some = at.some; node = at.node; port = ((sound.first.nodes v inside).best_port b q best).0 }

      no_tests : (n : Mark) → NoTests (messages ((b, root_message n (w.node v).head.level) ∷ []))
      no_tests Basic = refl
      no_tests Branch = refl
      no_tests Rejected = refl

      free : mark_at (w.node v) b ≢ Rejected
      free rej =
          let l = link_fits g ground.wired (scene w gh) sound.first v b at_b in
          (l.search.find_leads q best root.top (λ z. cc (z, rej))).apart (sym (l.search.rejected_inside rej))

      in_b : b < degree (w.node v)
      in_b = let lt = at_b.port in omega (arith, lt, ports_many is)

      branched : (i : ℕ) → Grows (mark_at (w.node v) i) (get_or (with_mark (w.node v).marks (Some (b, Branch))) i Rejected)
      branched i =
          subst (λ (f : ℕ → Mark). Grows (mark_at (w.node v) i) (f i)) (sym (set_marks (w.node v).marks b Branch in_b))
          (grows_branch (λ q. mark_at (w.node v) q) b i free)

      kind : (n : Mark) → (i : ℕ) → Grows (mark_at (w.node v) i) (get_or (with_mark (w.node v).marks (root_mark n b)) i Rejected)
      kind Basic = branched
      kind Branch = still
      kind Rejected = branched

      grows : (i : ℕ) → Grows (mark_at (w.node v) i) (get_or (with_mark (w.node v).marks (root_mark (mark_at (w.node v) b) b)) i Rejected)
      grows = kind (mark_at (w.node v) b)

  -- each row
  pub row_acts :
      (m : Message) (d : Delta) → w.queue v p ≡ m ∷ ms →
      (row : AwakeRow (w.node v) p m d) → Acted g k v gh.up (ups_after row gh.up v) w (taken g v p m ms d w)
  row_acts m d q (Connect_absorbed {l = l} lt few) = row_connect_absorbed l q
  row_acts m d q (Connect_waits {l = l} le basic) = row_round (Connect l) (connect_again g ground v p at w gh sound ms l q basic)
  row_acts m d q (Connect_merges {l = l} le free lower) = row_connect_merges l q
  row_acts m d q (Initiate_rests {l = l} {f = f} lt) = row_initiate_rests l f q lt
  row_acts m d q (Initiate_searches {l = l} {f = f} {e = e} lt few s) = row_initiate_searches l f e q lt s
  row_acts m d q (Test_waits {l = l} {f = f} lt) = row_round (Test l f) (test_again g ground v p at w gh sound ms l f q)
  row_acts m d q (Test_accepted {l = l} {f = f} le other) = row_test_accepted l f q
  row_acts m d q (Test_rejected {l = l} {f = f} le same free) = row_test_rejected l f q same free
  row_acts m d q (Tests_cross {l = l} {f = f} {e = e} le same mine s) = row_tests_cross l f e q same mine s
  row_acts m d q (Accept_heard {e = e} mine c) = row_accept_heard e q mine c
  row_acts m d q (Reject_heard {e = e} mine s) = row_reject_heard e q mine s
  row_acts m d q (Report_heard {w = r} {e = e} c away count s) = row_report_heard r c e q away count s
  row_acts m d q (Report_waits {w = r} way finds) = row_round (Report r) (report_again g ground v p at w gh sound ms r q way finds)
  row_acts m d q (Report_moves_root {w = r} b y way found best less) =
      root_moves (Report r) b y
      (By_report r (tree_first (w.queue v p) ms (Report r) refl q) way found (ap (λ o. below (best_key o) r) best ∙ less)) q best refl refl
  row_acts m d q (Report_halts way found best) = row_report_halts None q
  row_acts m d q (Report_passes {w = r} way found b s) = row_report_passes r q
  row_acts m d q (Root_moves b y best) = root_moves ChangeRoot b y (By_root (tree_first (w.queue v p) ms ChangeRoot refl q)) q best refl refl
