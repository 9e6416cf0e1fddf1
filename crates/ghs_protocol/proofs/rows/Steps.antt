-- Each step, with floors and tests in order.
use Rattle.std.proofs.Common.{◌≡◌, ◌≢◌, ℕ, suc, ◌+◌, ◌≤◌, ◌<◌, Bool, true, false, Option, Some, None, List, [], ◌∷◌, length, refl, sym, ◌∙◌, subst, zero-add, ⊎_elim, ◌⊎◌, inl, inr}
use Rattle.std.proofs.lemmas.Bool.{cases_eq}
use Rattle.ghs_graph.specs.declared.key.Key.{Key}
use Rattle.ghs_node.specs.declared.mark.Mark.{Mark}
use Rattle.ghs_node.specs.declared.mark.Mark.TheVariants.{Basic, Branch}
use Rattle.ghs_node.specs.declared.message.Phase.TheVariants.{Sleeping, Find, Found}
use Rattle.ghs_node.specs.declared.message.Message.{Message}
use Rattle.ghs_node.specs.declared.message.Message.TheVariants.{Connect, Initiate, Accept, Reject, Report, ChangeRoot}
use Rattle.ghs_node.specs.Words.{below, best_key, on_branches}
use Rattle.peer_network.specs.Network.{Network, port_at, At, far, far_port, InNetwork}
use Rattle.peer_network.proofs.lemmas.Wired.{IsWired}
use Rattle.peer_network.specs.Updates.{put}
use Rattle.ghs_protocol.proofs.clauses.Scene.{Member, Scene, acts}
use Rattle.ghs_protocol.proofs.clauses.Changes.{left_tree, left_tests, left_accepts, left_rejects, rejected, marked, rules_out, took_reject, took_accept, took_report, took_initiate, took_rest, with_halt, halts_alone, pointing, sent_out, took_child, awakened}
use Rattle.ghs_protocol.proofs.clauses.Wiring.{IsKeyed, Ground}
use Rattle.ghs_protocol.proofs.clauses.Uniting.{MarksAre, SendsRoot, relabel, meet, absorb}
use Rattle.ghs_protocol.proofs.clauses.Floors.{ScansInOrder, AllScan, Sound, Nearly, Tried}
use Rattle.ghs_protocol.proofs.rows.Tried.{tried_same, tried_put, tried_relabel, tried_fewer, better_none, tried_woken}
use Rattle.peer_network.proofs.lemmas.Updates.{put_same, put_other}
use Rattle.ghs_protocol.proofs.tests.Links.{not_basic}
use Rattle.ghs_protocol.proofs.acts.Situations.{probing_finds}
use Rattle.ghs_protocol.proofs.tests.Steps.{accept_sends, reject_sends, crosses, hears_reject}
use Rattle.ghs_protocol.proofs.search.Answers.{hears_accept, hears_report}
use Rattle.ghs_protocol.proofs.rest.Halt.{report_ends}
use Rattle.ghs_protocol.proofs.union.CoreAnswered.{serves}
use Rattle.ghs_protocol.proofs.search.Initiate.{initiates_rest, initiates_search, idle, call}
use Rattle.ghs_protocol.proofs.root.AtRoot.{at_root}
use Rattle.ghs_protocol.proofs.root.Inward.{passes_root}
use Rattle.ghs_protocol.proofs.root.Outward.{connects_out}
use Rattle.ghs_protocol.proofs.union.MetByRoot.{connects_meeting}
use Rattle.ghs_protocol.proofs.union.Absorb.{absorbs_in}
use Rattle.ghs_protocol.proofs.wake.Inward.{wakes_meeting}
use Rattle.ghs_protocol.proofs.wake.Outward.{wakes_out}
use Rattle.ghs_protocol.proofs.wake.Alone as lone
use Rattle.ghs_protocol.proofs.search.AnswersFloors.{ends_floors, accept_floors, accept_scans, report_floors, report_scans}
use Rattle.ghs_protocol.proofs.root.Floors.{passes_floors, connects_floors, meets_floors}
use Rattle.ghs_protocol.proofs.union.Floors.{joining_as}
use Rattle.ghs_protocol.proofs.wake.Floors.{wakes_out_floors, wakes_meeting_floors}
use Rattle.ghs_protocol.proofs.union.AbsorbFloors.{absorbs_floors}
use Rattle.ghs_protocol.proofs.tests.Floors.{accept_sent_floors, reject_sent_floors, cross_floors, reject_floors, serve_floors, lone_floors}
use Rattle.ghs_protocol.proofs.search.InitiateFloors.{initiates_floors}
use Rattle.ghs_protocol.proofs.search.ScanOrder.{rests_scan}
use Rattle.ghs_protocol.proofs.tests.UnderWay.{accept_sent_lives, reject_sent_lives, cross_lives, reject_lives, accept_lives, report_lives, serve_lives, end_lives, lone_lives}
use Rattle.ghs_protocol.proofs.search.InitiateUnderWay.{initiates_lives}
use Rattle.ghs_protocol.proofs.root.UnderWay.{passes_lives, connects_lives, meets_lives}
use Rattle.ghs_protocol.proofs.wake.UnderWay.{wakes_out_lives, wakes_meeting_lives}
use Rattle.ghs_protocol.proofs.union.AbsorbUnderWay.{absorbs_lives}

-- the same but for what scanning doesn't read, and fewer Basic ports
fewer : (g : Network) (u : ℕ) (m x : Member) →
    x.head.phase ≡ m.head.phase →
    x.head.probe ≡ m.head.probe →
    x.head.best ≡ m.head.best →
    ((q : ℕ) → x.mark q ≡ Basic → m.mark q ≡ Basic) →
    ScansInOrder g u m →
    ScansInOrder g u x
fewer g u m x phase probe best marks s = record {
  probing = λ p q e o b. s.probing p q (sym phase ∙ e) (sym probe ∙ o) (marks q b);
  done = λ q e o b.
      subst (λ y. below (Some (port_at g u q).key) (best_key y) ≡ false) (sym best) (s.done q (sym phase ∙ e) (sym probe ∙ o) (marks q b));
}

pub basic_was : (f : ℕ → Mark) (j q : ℕ) → marked f j q ≡ Basic → f q ≡ Basic
basic_was f j q e =
    ⊎_elim
    (λ (z : q ≡ j). absurd (not_basic (f j) (sym (put_same f j (rejected (f j))) ∙ subst (λ y. marked f j y ≡ Basic) z e)))
    (λ ne. sym (put_other f j q (rejected (f j)) ne) ∙ e)
    (cases_eq q j)

basic_still : (f : ℕ → Mark) (j q : ℕ) → put f j Branch q ≡ Basic → f q ≡ Basic
basic_still f j q e =
    ⊎_elim
    (λ (z : q ≡ j). absurd (let y = sym (put_same f j Branch) ∙ subst (λ y. put f j Branch y ≡ Basic) z e in cc))
    (λ ne. sym (put_other f j q Branch ne) ∙ e)
    (cases_eq q j)

scans_relabel : (g : Network) (c a l : ℕ) (n : Option Key) (w : Scene) → AllScan g w → AllScan g (relabel c a l n w)
scans_relabel g c a l n w h v is =
    subst (ScansInOrder g v) (sym (joining_as c a l n (w.at v))) (let s = h v is in record { probing = s.probing; done = s.done })

-- after an act of u
now_but : (g : Network) (u : ℕ) (x : Member) (at : ℕ → Member) →
    ((v : ℕ) → InNetwork g v → ScansInOrder g v (at v)) →
    (v : ℕ) → InNetwork g v →
    v ≢ u →
    ScansInOrder g v (put at u x v)
now_but g u x at h v is ne = subst (ScansInOrder g v) (sym (put_other at u v x ne)) (h v is)

now : (g : Network) (u : ℕ) (x : Member) (at : ℕ → Member) →
    ((v : ℕ) → InNetwork g v → ScansInOrder g v (at v)) →
    ScansInOrder g u x →
    (v : ℕ) → InNetwork g v →
    ScansInOrder g v (put at u x v)
now g u x at h here v is =
    ⊎_elim
    (λ (e : v ≡ u). subst (λ y. ScansInOrder g y (put at u x y)) (sym e) (subst (ScansInOrder g u) (sym (put_same at u x)) here))
    (λ ne. now_but g u x at h v is ne) (cases_eq v u)

module _ (g : Network) (wired : IsWired g) (u : ℕ) (u_is : InNetwork g u) (j : ℕ) (at : At g u j) (w : Scene) (s : Sound g w) where
  here : InNetwork g u
  here = u_is

  pub accept_sound : (l : ℕ) (n : Key) (ts : List (ℕ × Key)) →
      (w.seen u j).tests ≡ (l, n) ∷ ts →
      l ≤ (w.at u).head.level →
      (w.at u).head.name ≢ Some n →
      Sound g (acts g u (w.at u) (left_tests w u j ts) ((j, Accept) ∷ []) w)
  accept_sound l n ts waits le other = record {
    first = accept_sends g wired u u_is j at w s.first l n ts waits le other;
    floor = s.floor;
    floors = accept_sent_floors g wired u u_is j at w s.first s.floor s.floors ts;
    scans = now g u (w.at u) w.at s.scans (s.scans u here);
    tried = tried_same g u (w.at u) w.at s.floor s.tried (s.tried u here);
    lives = accept_sent_lives g wired u u_is j at w s.first s.lives l n ts waits other;
  }

  pub reject_sound : (l : ℕ) (n : Key) (ts : List (ℕ × Key)) →
      IsKeyed g →
      (w.at u).head.phase ≢ Sleeping →
      (w.seen u j).tests ≡ (l, n) ∷ ts →
      (w.at u).head.name ≡ Some n →
      (w.at u).head.probe ≢ Some j →
      Sound g (acts g u (rules_out (w.at u) j) (left_tests w u j ts) ((j, Reject) ∷ []) w)
  reject_sound l n ts keyed awake waits name free = record {
    first = reject_sends g wired u u_is j at w s.first l n ts keyed awake waits name free;
    floor = s.floor;
    floors = reject_sent_floors g wired u u_is j at w s.first s.floor s.floors ts;
    scans =
        now g u (rules_out (w.at u) j) w.at s.scans
        (fewer g u (w.at u) (rules_out (w.at u) j) refl refl refl (basic_was (w.at u).mark j) (s.scans u here));
    tried = tried_same g u (rules_out (w.at u) j) w.at s.floor s.tried
        (tried_fewer g u (w.at u) (rules_out (w.at u) j) (s.floor u) (basic_was (w.at u).mark j) (λ e. e) refl refl (s.tried u here));
    lives = reject_sent_lives g wired u u_is j at w s.first s.lives ts free;
  }

  pub cross_nearly : (l : ℕ) (n : Key) (ts : List (ℕ × Key)) →
      IsKeyed g →
      (w.seen u j).tests ≡ (l, n) ∷ ts →
      (w.at u).head.name ≡ Some n →
      (w.at u).head.probe ≡ Some j →
      Nearly g (acts g u (took_reject (w.at u) j) (left_tests w u j ts) [] w) u
  cross_nearly l n ts keyed waits name own = record {
    first = crosses g wired u u_is j at w s.first l n ts keyed waits name own;
    floor = s.floor;
    floors = cross_floors g wired u u_is j at w s.first s.floor s.floors ts;
    scans = now_but g u (took_reject (w.at u) j) w.at s.scans;
    tried = tried_same g u (took_reject (w.at u) j) w.at s.floor s.tried
        (tried_fewer g u (w.at u) (took_reject (w.at u) j) (s.floor u) (basic_was (w.at u).mark j) (λ e. e) refl refl (s.tried u here));
    lives = cross_lives g wired u u_is j at w s.first s.lives l n ts keyed waits name own;
  }

  pub reject_nearly : (r : ℕ) →
      (w.seen u j).rejects ≡ suc r →
      (w.at u).head.probe ≡ Some j →
      Nearly g (acts g u (took_reject (w.at u) j) (left_rejects w u j r) [] w) u
  reject_nearly r waits own = record {
    first = hears_reject g wired u u_is j at w s.first r waits own;
    floor = s.floor;
    floors = reject_floors g wired u u_is j at w s.first s.floor s.floors r;
    scans = now_but g u (took_reject (w.at u) j) w.at s.scans;
    tried = tried_same g u (took_reject (w.at u) j) w.at s.floor s.tried
        (tried_fewer g u (w.at u) (took_reject (w.at u) j) (s.floor u) (basic_was (w.at u).mark j) (λ e. e) refl refl (s.tried u here));
    lives = reject_lives g wired u u_is j at w s.first s.lives r;
  }

  pub accept_nearly : (a : ℕ) →
      (w.seen u j).accepts ≡ suc a →
      (w.at u).head.probe ≡ Some j →
      Nearly g (acts g u (took_accept (w.at u) j (port_at g u j).key) (left_accepts w u j a) [] w) u
  accept_nearly a waits own = record {
    first = hears_accept g wired u u_is j at w s.first a waits own;
    floor = s.floor;
    floors = accept_floors g wired u u_is j at w s.first a waits own s.floor s.floors;
    scans = now_but g u (took_accept (w.at u) j (port_at g u j).key) w.at s.scans;
    tried = tried_same g u (took_accept (w.at u) j (port_at g u j).key) w.at s.floor s.tried
        (tried_fewer g u (w.at u) (took_accept (w.at u) j (port_at g u j).key) (s.floor u) (λ q b. b)
        (λ e. better_none (w.at u).head.best j (Some (port_at g u j).key) e) refl refl (s.tried u here));
    lives = accept_lives g wired u u_is j at w s.first s.lives a own;
  }

  pub accept_scanned : (a : ℕ) →
      (w.seen u j).accepts ≡ suc a →
      (own : (w.at u).head.probe ≡ Some j) → ScansInOrder g u (took_accept (w.at u) j (port_at g u j).key)
  accept_scanned a waits own = record {
    probing = λ p q e o b. absurd (let z : None ≡ Some p = o in cc);
    done = λ q e o b.
        accept_scans g wired u u_is j at w s.first a waits own s.floor s.floors
        (λ r m. (s.scans u here).probing j r (probing_finds (s.first.nodes u here) own) own m)
        q b;
  }

  pub report_nearly : (k : Option Key) (ms : List Message) (c : ℕ) →
      (w.seen u j).tree ≡ Report k ∷ ms →
      (w.at u).head.in_branch ≢ Some j →
      (w.at u).head.find_count ≡ suc c →
      Nearly g (acts g u (took_report (w.at u) j k c) (left_tree w u j []) [] w) u
  report_nearly k ms c waits away count = record {
    first = hears_report g wired u u_is j at w s.first k ms c waits away count;
    floor = s.floor;
    floors = report_floors g wired u u_is j at w s.first k ms c waits away count s.floor s.floors;
    scans = now_but g u (took_report (w.at u) j k c) w.at s.scans;
    tried = tried_same g u (took_report (w.at u) j k c) w.at s.floor s.tried
        (tried_fewer g u (w.at u) (took_report (w.at u) j k c) (s.floor u) (λ q b. b)
        (λ e. better_none (w.at u).head.best j k e) refl refl (s.tried u here));
    lives = report_lives g wired u u_is j at w s.first s.lives k ms c waits away count;
  }

  pub report_scanned : (k : Option Key) (ms : List Message) (c : ℕ) →
      (w.seen u j).tree ≡ Report k ∷ ms →
      (w.at u).head.in_branch ≢ Some j →
      (w.at u).head.find_count ≡ suc c →
      ScansInOrder g u (took_report (w.at u) j k c)
  report_scanned k ms c waits away count = record {
    probing = λ p q e o b. (s.scans u here).probing p q e o b;
    done = λ q e o b. report_scans g wired u u_is j at w s.first k ms c waits away count s.floor s.floors (λ r m. (s.scans u here).done r e o m) q b;
  }

  pub serve_sound : (l : ℕ) (ms : List Message) →
      (w.seen u j).tree ≡ Connect l ∷ ms →
      (w.at u).mark j ≢ Basic →
      Sound g (acts g u (w.at u) (left_tree w u j ms) ((j, Initiate ((w.at u).head.level + 1) (port_at g u j).key Find) ∷ []) w)
  serve_sound l ms waits m = record {
    first = serves g wired u u_is j at w s.first l ms waits m;
    floor = s.floor;
    floors = serve_floors g wired u u_is j at w s.first s.floor s.floors l ms waits m ((w.at u).head.level + 1) (port_at g u j).key;
    scans = now g u (w.at u) w.at s.scans (s.scans u here);
    tried = tried_same g u (w.at u) w.at s.floor s.tried (s.tried u here);
    lives = serve_lives g wired u u_is j at w s.first s.lives l ms waits m ((w.at u).head.level + 1) (port_at g u j).key;
  }

  pub end_sound : (k : Option Key) (ms : List Message) →
      (w.seen u j).tree ≡ Report k ∷ ms →
      (w.at u).head.phase ≡ Found →
      (b : Bool) → (b ≡ (w.at u).head.halted) ⊎ ((k ≡ None) × ((w.at u).head.best ≡ None)) →
      below (best_key (w.at u).head.best) k ≡ false →
      (k ≡ None → (w.at u).head.best ≡ None → b ≡ true) →
      Sound g (acts g u (with_halt (w.at u) b) (left_tree w u j ms) [] w)
  end_sound k ms waits rests b why less halts = record {
    first = report_ends g wired u u_is j at w s.first k ms waits rests b;
    floor = s.floor;
    floors = ends_floors g wired u u_is j at w s.first k ms waits rests s.floor s.floors b why;
    scans = now g u (with_halt (w.at u) b) w.at s.scans (rests_scan g u (with_halt (w.at u) b) (λ e. cc (e, rests)));
    tried = tried_same g u (with_halt (w.at u) b) w.at s.floor s.tried
        (tried_fewer g u (w.at u) (with_halt (w.at u) b) (s.floor u) (λ q b. b) (λ e. e) refl refl (s.tried u here));
    lives =
        end_lives g wired u u_is j at w s.first s.lives k ms waits rests b (⊎_elim (λ e. inl e) (λ z. inr (halts z.0 z.1)) why) less halts;
  }

module _ (g : Network) (wired : IsWired g) (u : ℕ) (u_is : InNetwork g u) (w : Scene) (s : Sound g w) (j : ℕ) (at : At g u j)
    (ms : List Message) where
  this : InNetwork g u
  this = u_is

  pub rest_sound : (l : ℕ) (n : Key) (xs : List Mark) →
      MarksAre g u (w.at u) xs →
      (w.seen u j).tree ≡ Initiate l n Found ∷ ms →
      Sound g (acts g u (took_rest (w.at u) l n j) (left_tree w u j ms) (on_branches xs j (Initiate l n Found)) w)
  rest_sound l n xs marks waits = record {
    first = initiates_rest g wired u u_is w s.first j at ms l n xs marks waits;
    floor = put s.floor u (s.floor u);
    floors =
        initiates_floors g wired u u_is j at w s.first l n Found ms xs marks waits (w.at u).head.probe
        (idle g wired u u_is j at w s.first l n Found ms xs marks waits None refl 0 (λ e. refl)).0 (w.at u).head.find_count (λ e. e) s.floor
        s.floors (s.floor u) (λ ne. refl) (λ e. absurd (let z : Found ≡ Find = e in cc));
    scans = now g u (took_rest (w.at u) l n j) w.at s.scans (rests_scan g u (took_rest (w.at u) l n j) (λ e. let z : Found ≡ Find = e in cc));
    tried =
        tried_put g u (took_rest (w.at u) l n j) w.at s.floor (s.floor u) s.tried
        (record {
          untried = (s.tried u this).untried;
          way = λ e ne. (call g wired u u_is j at w s.first l n Found ms xs marks waits None refl 0 (λ e. refl)).up;
        });
    lives =
        initiates_lives g wired u u_is j at w s.first s.lives l n Found ms xs marks waits (w.at u).head.probe
        (idle g wired u u_is j at w s.first l n Found ms xs marks waits None refl 0 (λ e. refl)).0 (w.at u).head.find_count (λ e. e);
  }

  pub search_nearly : (l : ℕ) (n : Key) (xs : List Mark) →
      MarksAre g u (w.at u) xs →
      (w.seen u j).tree ≡ Initiate l n Find ∷ ms →
      Nearly g (acts g u
      (took_initiate (w.at u) l n Find j None ((w.at u).head.find_count + length (on_branches xs j (Initiate l n Find)))) (left_tree w u j ms)
      (on_branches xs j (Initiate l n Find)) w)
      u
  search_nearly l n xs marks waits = record {
    first = initiates_search g wired u u_is w s.first j at ms l n xs marks waits;
    floor = put s.floor u None;
    floors =
        initiates_floors g wired u u_is j at w s.first l n Find ms xs marks waits None refl
        ((w.at u).head.find_count + length (on_branches xs j (Initiate l n Find))) (λ e. rw e (zero-add _)) s.floor s.floors None
        (λ ne. absurd (ne refl)) (λ e. refl);
    scans =
        now_but g u
        (took_initiate (w.at u) l n Find j None ((w.at u).head.find_count + length (on_branches xs j (Initiate l n Find)))) w.at s.scans;
    tried =
        tried_put g u
        (took_initiate (w.at u) l n Find j None ((w.at u).head.find_count + length (on_branches xs j (Initiate l n Find)))) w.at s.floor None s.tried
        (record {
          untried = λ q b. refl;
          way = λ e ne.
              (call g wired u u_is j at w s.first l n Find ms xs marks waits None refl
              ((w.at u).head.find_count + length (on_branches xs j (Initiate l n Find))) (λ e. rw e (zero-add _))).up;
        });
    lives =
        initiates_lives g wired u u_is j at w s.first s.lives l n Find ms xs marks waits None refl
        ((w.at u).head.find_count + length (on_branches xs j (Initiate l n Find))) (λ e. rw e (zero-add _));
  }

  -- the root is sent on
  module _ (b : ℕ) (k : Key) (calls : SendsRoot w u j ms) (best : (w.at u).head.best ≡ Some (b, k)) where
    rested : (w.at u).head.phase ≡ Found
    rested = let r = at_root g wired u u_is j at w s.first ms calls in r.quiet.found u this refl

    no_best : (w.at u).head.best ≡ None → ⊥
    no_best e = cc (e, best)

    pub pass_sound : (w.at u).mark b ≡ Branch → Sound g (acts g u (pointing (w.at u) b) (left_tree w u j ms) ((b, ChangeRoot) ∷ []) w)
    pass_sound m = record {
      first = passes_root g wired u u_is w s.first j at ms b k calls best m;
      floor = s.floor;
      floors = passes_floors g wired u u_is w s.first j at ms b k calls best s.floor s.floors m;
      scans = now g u (pointing (w.at u) b) w.at s.scans (rests_scan g u (pointing (w.at u) b) (λ e. cc (e, rested)));
      tried =
          tried_same g u (pointing (w.at u) b) w.at s.floor s.tried
          (record { untried = (s.tried u this).untried; way = λ e ne. absurd (no_best e) });
      lives = passes_lives g wired u u_is w s.first s.lives j at ms b k calls best m;
    }

    pub out_sound :
        (w.at u).mark b ≢ Branch →
        (w.at (far g u b)).mark (far_port g u b) ≢ Branch →
        Sound g (acts g u (sent_out (w.at u) b) (left_tree w u j ms) ((b, Connect (w.at u).head.level) ∷ []) w)
    out_sound m m' = record {
      first = connects_out g wired u u_is w s.first j at ms b k calls best m m';
      floor = s.floor;
      floors = connects_floors g wired u u_is w s.first j at ms b k calls best s.floor s.floors m m';
      scans = now g u (sent_out (w.at u) b) w.at s.scans (rests_scan g u (sent_out (w.at u) b) (λ e. cc (e, rested)));
      tried =
          tried_same g u (sent_out (w.at u) b) w.at s.floor s.tried
          (record { untried = λ q z. (s.tried u this).untried q (basic_still (w.at u).mark b q z); way = λ e ne. absurd (no_best e) });
      lives = connects_lives g wired u u_is w s.first s.lives j at ms b k calls best m m';
    }

    pub meet_sound :
        Ground g →
        (w.at u).mark b ≢ Branch →
        (w.at (far g u b)).mark (far_port g u b) ≡ Branch →
        Sound g (meet g u b (acts g u (sent_out (w.at u) b) (left_tree w u j ms) ((b, Connect (w.at u).head.level) ∷ []) w))
    meet_sound ground m m' = record {
      first = connects_meeting g ground u u_is w s.first j at ms b k calls best m m';
      floor = s.floor;
      floors = meets_floors g wired u u_is w s.first j at ms b k calls best s.floor s.floors ground m m';
      scans =
          scans_relabel g _ _ _ _
          (acts g u (sent_out (w.at u) b) (left_tree w u j ms) ((b, Connect (w.at u).head.level) ∷ []) w)
          (now g u (sent_out (w.at u) b) w.at s.scans (rests_scan g u (sent_out (w.at u) b) (λ e. cc (e, rested))));
      tried =
          tried_relabel g _ _ _ _
          (acts g u (sent_out (w.at u) b) (left_tree w u j ms) ((b, Connect (w.at u).head.level) ∷ []) w) s.floor
          (tried_same g u (sent_out (w.at u) b) w.at s.floor s.tried
          (record { untried = λ q z. (s.tried u this).untried q (basic_still (w.at u).mark b q z); way = λ e ne. absurd (no_best e) }));
      lives = meets_lives g wired u u_is w s.first s.lives j at ms b k calls best m ground m';
    }

  pub absorb_sound :
      Ground g →
      (l : ℕ) (k : Key) → (w.seen u j).tree ≡ Connect l ∷ ms →
      l < (w.at u).head.level →
      (w.at u).head.name ≡ Some k →
      (w.at u).head.phase ≢ Sleeping →
      Sound g (absorb g u j (acts g u (took_child (w.at u) j) (left_tree w u j ms) ((j, Initiate (w.at u).head.level k (w.at u).head.phase) ∷ []) w))
  absorb_sound ground l k waits less name awake = record {
    first = absorbs_in g ground u u_is w s.first j at ms l k waits less name awake;
    floor = s.floor;
    floors = absorbs_floors g ground u u_is w s.first j at ms l k waits less name awake s.floor s.floors;
    scans =
        scans_relabel g _ _ _ _
        (acts g u (took_child (w.at u) j) (left_tree w u j ms) ((j, Initiate (w.at u).head.level k (w.at u).head.phase) ∷ []) w)
        (now g u (took_child (w.at u) j) w.at s.scans
        (fewer g u (w.at u) (took_child (w.at u) j) refl refl refl (basic_still (w.at u).mark j) (s.scans u this)));
    tried =
        tried_relabel g _ _ _ _
        (acts g u (took_child (w.at u) j) (left_tree w u j ms) ((j, Initiate (w.at u).head.level k (w.at u).head.phase) ∷ []) w) s.floor
        (tried_same g u (took_child (w.at u) j) w.at s.floor s.tried
        (tried_fewer g u (w.at u) (took_child (w.at u) j) (s.floor u) (basic_still (w.at u).mark j) (λ e. e) refl refl (s.tried u this)));
    lives = absorbs_lives g ground u u_is w s.first s.lives j at ms l k waits less name awake;
  }

-- a node wakes
module _ (g : Network) (ground : Ground g) (u : ℕ) (u_is : InNetwork g u) (w : Scene) (s : Sound g w) (sleeps : (w.at u).head.phase ≡ Sleeping) where
  abbrev waker : Member
  waker = awakened (w.at u)

  awoken : (v : ℕ) → InNetwork g v → ScansInOrder g v (put w.at u waker v)
  awoken = now g u waker w.at s.scans (rests_scan g u waker (λ e. let z : Found ≡ Find = e in cc))

  woken_tried : (v : ℕ) → InNetwork g v → Tried g v (put w.at u (awakened (w.at u)) v) (put s.floor u (Some (Some (port_at g u 0).key)) v)
  woken_tried =
      tried_put g u (awakened (w.at u)) w.at s.floor (Some (Some (port_at g u 0).key)) s.tried
      (tried_woken g ground u u_is (w.at u) (s.first.nodes u u_is) ((s.first.nodes u u_is).untouched sleeps))

  pub wake_out_sound : (at : At g u 0) →
      (w.at (far g u 0)).mark (far_port g u 0) ≢ Branch →
      Sound g (acts g u (awakened (w.at u)) (w.seen u) ((0, Connect 0) ∷ []) w)
  wake_out_sound at m = record {
    first = wakes_out g ground.wired u u_is w s.first at sleeps m;
    floor = put s.floor u (Some (Some (port_at g u 0).key));
    floors = wakes_out_floors g ground u u_is w s.first at sleeps s.floor s.floors m;
    scans = awoken;
    tried = woken_tried;
    lives = wakes_out_lives g ground.wired u u_is w s.first s.lives at sleeps m;
  }

  pub wake_meeting_sound : (at : At g u 0) →
      (w.at (far g u 0)).mark (far_port g u 0) ≡ Branch →
      Sound g (meet g u 0 (acts g u (awakened (w.at u)) (w.seen u) ((0, Connect 0) ∷ []) w))
  wake_meeting_sound at m = record {
    first = wakes_meeting g ground.wired u u_is w s.first at sleeps ground m;
    floor = put s.floor u (Some (Some (port_at g u 0).key));
    floors = wakes_meeting_floors g ground u u_is w s.first at sleeps s.floor s.floors m;
    scans = scans_relabel g _ _ _ _ (acts g u (awakened (w.at u)) (w.seen u) ((0, Connect 0) ∷ []) w) awoken;
    tried =
        tried_relabel g _ _ _ _ (acts g u (awakened (w.at u)) (w.seen u) ((0, Connect 0) ∷ []) w)
        (put s.floor u (Some (Some (port_at g u 0).key))) woken_tried;
    lives = wakes_meeting_lives g ground.wired u u_is w s.first s.lives at sleeps ground m;
  }

  pub lone_sound : ◌≡◌ {A = ℕ} (length (g.ports u)) 0 → Sound g (acts g u (halts_alone (w.at u)) (w.seen u) [] w)
  lone_sound none = record {
    first = lone.wakes_alone g ground.wired u u_is w s.first none sleeps;
    floor = s.floor;
    floors = lone_floors g ground.wired u u_is w s.first none sleeps s.floor s.floors;
    scans = now g u (halts_alone (w.at u)) w.at s.scans (rests_scan g u (halts_alone (w.at u)) (λ e. let z : Found ≡ Find = e in cc));
    tried =
        tried_same g u (halts_alone (w.at u)) w.at s.floor s.tried
        (tried_fewer g u (w.at u) (halts_alone (w.at u)) (s.floor u) (λ q b. b) (λ e. e) refl refl (s.tried u u_is));
    lives = lone_lives g ground.wired u u_is w s.lives none;
  }
