-- How a reaction of the search ends, with floors and tests in order.
use Rattle.std.proofs.Common.{◌≡◌, ◌≢◌, ℕ, zero, suc, ◌<◌, true, false, Option, Some, None, List, [], ◌∷◌, ◌++◌, length, lt-ltb, refl, sym, ◌∙◌, ap, subst, get_or, arith, ⊎_elim}
use Rattle.std.specs.List.{position_or_len}
use Rattle.std.proofs.lemmas.Bool.{cases_eq}
use Rattle.std.proofs.lemmas.List.Quantifiers.{position-Some}
use Rattle.ghs_node.specs.declared.mark.Mark.{Mark}
use Rattle.ghs_node.specs.declared.mark.Mark.TheVariants.{Basic, Branch, Rejected}
use Rattle.ghs_node.specs.declared.message.Phase.TheVariants.{Find}
use Rattle.ghs_node.specs.declared.message.Message.TheVariants.{Report}
use Rattle.ghs_node.specs.Words.{Outgoing, is_basic, below, best_key, least_basic}
use Rattle.ghs_node.specs.Reaction.{Ending, Probing, Reporting, Waiting, last_sends, name_of, core_port}
use Rattle.ghs_node.specs.Rows.{Closes, Reports, Waits, Settles, Probes, Exhausts}
use Rattle.ghs_node.proofs.lemmas.{basic_is}
use Rattle.ghs_protocol.proofs.clauses.Wiring.{Ground}
use Rattle.peer_network.specs.Network.{Network, port_at, At, InNetwork}
use Rattle.peer_network.specs.Updates.{put}
use Rattle.ghs_protocol.proofs.clauses.Scene.{Seen, Member, Scene, acts}
use Rattle.ghs_protocol.proofs.clauses.Nodes.{Searching}
use Rattle.ghs_protocol.proofs.clauses.Floors.{Floors, ScansInOrder, Sound, Nearly, lower}
use Rattle.ghs_protocol.proofs.rows.Tried.{tried_same, tried_put, tried_fewer}
use Rattle.ghs_graph.specs.declared.key.Key.{Key}
use Rattle.ghs_protocol.proofs.clauses.UnderWay.{Lives}
use Rattle.peer_network.proofs.lemmas.Updates.{put_same}
use Rattle.ghs_protocol.proofs.tests.UnderWay.{scan_lives, closes_lives}
use Rattle.ghs_protocol.proofs.acts.Reactions.{put_again, acts_split}
use Rattle.ghs_protocol.proofs.rows.EndingAct.{Tests_next, Reports_now, ended, ends_alone}
use Rattle.ghs_protocol.proofs.tests.Floors.{scan_floors}
use Rattle.ghs_protocol.proofs.search.CloseFloors.{closes_floors}
use Rattle.ghs_protocol.proofs.search.ScanOrder.{scans_after, rests_scan, exhausted_scan, probing_scan}

-- the ending that a node in this state comes to
pub data EndsSo (g : Network) (v : ℕ) (m : Member) : Ending → Type 0 where
  Tests_least : (p : ℕ) → m.head.probe ≡ None → m.mark p ≡ Basic → ((q : ℕ) → q < p → m.mark q ≢ Basic) → EndsSo g v m (Probing p)
  Reports_so : ◌≡◌ {A = ℕ} m.head.find_count 0 → m.head.probe ≡ None → ScansInOrder g v m → EndsSo g v m Reporting
  Waits_so : ScansInOrder g v m → EndsSo g v m Waiting

pub closes_so : (g : Network) (v : ℕ) (m : Member) (e : Ending) → ScansInOrder g v m → Closes m.head e → EndsSo g v m e
closes_so g v m _ s (Reports z p) = Reports_so z p s
closes_so g v m _ s (Waits w) = Waits_so s

basic_within : (ms : List Mark) (q : ℕ) → get_or ms q Rejected ≡ Basic → position_or_len is_basic ms < length ms
basic_within [] q e = cc
basic_within (Basic ∷ ms) q e = omega arith
basic_within (Branch ∷ ms) zero e = cc
basic_within (Branch ∷ ms) (suc q) e = let z = basic_within ms q e in omega (arith, z)
basic_within (Rejected ∷ ms) zero e = cc
basic_within (Rejected ∷ ms) (suc q) e = let z = basic_within ms q e in omega (arith, z)

least_none : (ms : List Mark) → least_basic ms ≡ None → (q : ℕ) → get_or ms q Rejected ≢ Basic
least_none ms e q b =
    let lt = lt-ltb (position_or_len is_basic ms) (length ms) (basic_within ms q b) in
    let some : least_basic ms ≡ Some (position_or_len is_basic ms) = rw lt refl in
    let z : Some (position_or_len is_basic ms) ≡ None = sym some ∙ e in cc

least_some : (ms : List Mark) (p : ℕ) → least_basic ms ≡ Some p → (q : ℕ) → q < p → get_or ms q Rejected ≢ Basic
least_some ms p e q lt b =
    let z = (position-Some is_basic ms p Rejected e).2 q lt in let y : is_basic (get_or ms q Rejected) ≡ true = ap is_basic b in cc (y, z)

pub settles_so : (g : Network) (v : ℕ) (m : Member) (ms : List Mark) (e : Ending) →
    (λ (p : ℕ). get_or ms p Rejected) ≡ m.mark →
    m.head.probe ≡ None →
    Settles ms m.head e →
    EndsSo g v m e
settles_so g v m ms _ is none (Probes p least) =
    Tests_least p none
    (sym (ap (λ (f : ℕ → Mark). f p) is) ∙ basic_is _ (position-Some is_basic ms p Rejected least).1)
    (λ q lt b. least_some ms p least q lt (ap (λ (f : ℕ → Mark). f q) is ∙ b))
settles_so g v m ms e is none (Exhausts least c) =
    closes_so g v m e (exhausted_scan g v m none (λ q b. least_none ms least q (ap (λ (f : ℕ → Mark). f q) is ∙ b))) c

not_lower : (k a : Option Key) → below k a ≡ false → lower (Some a) (Some k) ≡ true
not_lower k a e = rw e refl

module _ (g : Network) (ground : Ground g) (v : ℕ) (v_is : InNetwork g v) where
  is : InNetwork g v
  is = v_is

  -- the ending alone
  ends_so : (w : Scene) →
      (n : Nearly g w v) → (e : Ending) → (w.at v).head.phase ≡ Find →
      EndsSo g v (w.at v) e →
      Sound g (acts g v (ended (w.at v) e) (w.seen v) (last_sends (w.at v).head e) w)
  ends_so w n _ finds (Tests_least p none basic least) = record {
    first = ends_alone g ground.wired v v_is w n.first (Probing p) finds (Tests_next p none basic);
    floor = n.floor;
    floors =
        subst
        (λ (q : ℕ → Seen). Floors g (acts g v (ended (w.at v) (Probing p)) q (last_sends (w.at v).head (Probing p)) w) n.floor)
        (put_again (w.seen v) p)
        (scan_floors g ground.wired v v_is p at w n.first n.floor n.floors (w.at v).head.level (name_of (w.at v).head));
    scans =
        scans_after g v v_is.some v_is.node (ended (w.at v) (Probing p)) (w.seen v) (last_sends (w.at v).head (Probing p)) w n.scans
        (probing_scan g ground.ordered v (ended (w.at v) (Probing p)) p at refl least
        (λ q b. record { some = v_is.some; node = v_is.node; port = (n.first.nodes v is).own_ports.mark q (λ z. cc (z, b)) }));
    tried =
        tried_same g v (ended (w.at v) (Probing p)) w.at n.floor n.tried
        (tried_fewer g v (w.at v) (ended (w.at v) (Probing p)) (n.floor v) (λ q b. b) (λ e. e) refl refl (n.tried v is));
    lives =
        subst
        (λ (q : ℕ → Seen). Lives g (acts g v (ended (w.at v) (Probing p)) q (last_sends (w.at v).head (Probing p)) w))
        (put_again (w.seen v) p)
        (scan_lives g ground.wired v v_is p at w n.first n.lives (w.at v).head.level (name_of (w.at v).head) none basic);
  }
    where
      at : At g v p
      at = record { some = v_is.some; node = v_is.node; port = (n.first.nodes v is).own_ports.mark p (λ z. cc (z, basic)) }
  ends_so w n _ finds (Reports_so at_zero none scan) = record {
    first = ends_alone g ground.wired v v_is w n.first Reporting finds (Reports_now at_zero none);
    floor = put n.floor v (Some (best_key (w.at v).head.best));
    floors =
        subst (λ (q : ℕ → Seen).
        Floors g
        (acts g v (ended (w.at v) Reporting) q (last_sends (w.at v).head Reporting) w) (put n.floor v (Some (best_key (w.at v).head.best))))
        (put_again (w.seen v) s.port)
        (subst (λ b.
        Floors g
        (acts g v (ended (w.at v) Reporting) (put (w.seen v) s.port (w.seen v s.port)) ((b, Report (best_key (w.at v).head.best)) ∷ []) w)
        (put n.floor v (Some (best_key (w.at v).head.best))))
        (sym way)
        (closes_floors g ground.wired v v_is s.port at w n.first finds s.in_branch none at_zero n.floor n.floors (λ q b. scan.done q finds none b)));
    scans =
        scans_after g v v_is.some v_is.node (ended (w.at v) Reporting) (w.seen v) (last_sends (w.at v).head Reporting) w n.scans
        (rests_scan g v (ended (w.at v) Reporting) (λ e. cc));
    tried =
        tried_put g v (ended (w.at v) Reporting) w.at n.floor (Some (best_key (w.at v).head.best)) n.tried
        (record {
          untried = λ q b. not_lower (Some (port_at g v q).key) (best_key (w.at v).head.best) (scan.done q finds none b);
          way = (n.tried v is).way;
        });
    lives =
        subst (λ (q : ℕ → Seen). Lives g (acts g v (ended (w.at v) Reporting) q (last_sends (w.at v).head Reporting) w)) (put_again (w.seen v) s.port)
        (subst (λ b.
        Lives g
        (acts g v (ended (w.at v) Reporting) (put (w.seen v) s.port (w.seen v s.port)) ((b, Report (best_key (w.at v).head.best)) ∷ []) w))
        (sym way)
        (closes_lives g ground.wired v v_is s.port at w n.first n.lives finds s.in_branch (best_key (w.at v).head.best)));
  }
    where
      s : Searching (w.at v)
      s = (n.first.nodes v is).searching finds

      way : core_port (w.at v).head ≡ s.port
      way = ap (λ o. core_port (record (w.at v).head { in_branch = o })) s.in_branch

      at : At g v s.port
      at = record { some = v_is.some; node = v_is.node; port = (n.first.nodes v is).own_ports.in_branch s.port s.in_branch }
  ends_so w n _ finds (Waits_so scan) =
      subst (Sound g) (λ i. record { at = sym (put_again w.at v) i; seen = sym (put_again w.seen v) i })
      (record {
        first = n.first;
        floor = n.floor;
        floors = n.floors;
        scans = λ u iu. ⊎_elim (λ (e : u ≡ v). subst (λ y. ScansInOrder g y (w.at y)) (sym e) scan) (λ ne. n.scans u iu ne) (cases_eq u v);
        tried = n.tried;
        lives = n.lives;
      })

  -- the reaction with its ending, as one act
  pub ends_after_so :
      (x : Member) (own : ℕ → Seen) (ss : Outgoing) (w : Scene) → Nearly g (acts g v x own ss w) v → (e : Ending) → x.head.phase ≡ Find →
      EndsSo g v x e → Sound g (acts g v (ended x e) own (ss ++ last_sends x.head e) w)
  ends_after_so x own ss w n e finds by =
      subst (Sound g) (sym (acts_split g v (ended x e) x own ss (last_sends x.head e) w))
      (subst
      (λ (m : Member). Sound g (acts g v (ended m e) (mid.seen v) (last_sends m.head e) mid))
      is_x
      (ends_so mid n e (ap (λ (m : Member). m.head.phase) is_x ∙ finds) (subst (λ (m : Member). EndsSo g v m e) (sym is_x) by)))
    where
      mid : Scene
      mid = acts g v x own ss w

      is_x : mid.at v ≡ x
      is_x = put_same w.at v x
