-- Ports are tested in key order; and the opening.
use Rattle.std.proofs.Common.{◌≡◌, ◌≢◌, ℕ, ◌≤◌, ◌<◌, true, false, Some, None, length, refl, sym, ◌∙◌, subst, ⊎_elim, arith}
use Rattle.std.proofs.lemmas.Bool.{cases_eq, cases_lt}
use Rattle.std.proofs.lemmas.Option.{same_Some}
use Rattle.ghs_graph.specs.Key.{key_lt}
use Rattle.ghs_node.specs.declared.mark.Mark.TheVariants.{Basic, Branch}
use Rattle.ghs_node.specs.Words.{Outgoing}
use Rattle.ghs_node.specs.declared.message.Phase.TheVariants.{Sleeping, Find}
use Rattle.ghs_protocol.proofs.clauses.Wiring.{IsOrdered}
use Rattle.peer_network.specs.Network.{Network, port_at, At}
use Rattle.ghs_protocol.specs.Net.{opening}
use Rattle.peer_network.specs.Updates.{put}
use Rattle.ghs_protocol.proofs.clauses.Scene.{Seen, Member, Scene, scene, acts}
use Rattle.ghs_protocol.proofs.clauses.Whole.{opening_ghost}
use Rattle.ghs_protocol.proofs.clauses.UnderWay.{Lives}
use Rattle.ghs_protocol.proofs.clauses.Floors.{Floors, ScansInOrder, AllScan, AllScanBut}
use Rattle.peer_network.proofs.lemmas.Updates.{put_same, put_other}
use Rattle.ghs_graph.proofs.lemmas.Keys.{lt_asymmetric, lt_irreflexive}
use Rattle.ghs_protocol.proofs.wake.Opening.{unmarked}

module _ (g : Network) (u : ℕ) (lo : 1 ≤ u) (hi : u ≤ g.count) (x : Member) (own : ℕ → Seen) (ss : Outgoing) (w : Scene) where
  -- all but u, which has yet to test its next port
  pub scans_but : AllScanBut g w u → AllScanBut g (acts g u x own ss w) u
  scans_but h v is ne = subst (ScansInOrder g v) (sym (put_other w.at u v x ne)) (h v is ne)

  -- and u as well
  pub scans_after : AllScanBut g w u → ScansInOrder g u x → AllScan g (acts g u x own ss w)
  scans_after h here v is =
      ⊎_elim
      (λ (e : v ≡ u). subst (λ y. ScansInOrder g y (put w.at u x y)) (sym e) (subst (ScansInOrder g u) (sym (put_same w.at u x)) here))
      (λ ne. scans_but h v is ne) (cases_eq v u)

-- who doesn't search, or has no Basic port left and probes none, tests in order
pub rests_scan : (g : Network) (u : ℕ) (x : Member) → x.head.phase ≢ Find → ScansInOrder g u x
rests_scan g u x ne = record { probing = λ p q e. absurd (ne e); done = λ q e. absurd (ne e) }

pub exhausted_scan : (g : Network) (u : ℕ) (x : Member) → x.head.probe ≡ None → ((q : ℕ) → x.mark q ≢ Basic) → ScansInOrder g u x
exhausted_scan g u x none left = record { probing = λ p q e o b. absurd (left q b); done = λ q e o b. absurd (left q b) }

-- a Test goes out to the least Basic port
pub probing_scan : (g : Network) →
    IsOrdered g →
    (u : ℕ) (x : Member) (p : ℕ) → At g u p →
    x.head.probe ≡ Some p →
    ((q : ℕ) → q < p → x.mark q ≢ Basic) →
    ((q : ℕ) → x.mark q ≡ Basic → At g u q) →
    ScansInOrder g u x
probing_scan g ordered u x p at probe least within = record {
  probing = λ r q e o b. subst (λ y. key_lt (port_at g u q).key (port_at g u y).key ≡ false) (same_Some p r (sym probe ∙ o)) (order q b);
  done = λ q e o b. absurd (let z = sym probe ∙ o in cc);
}
  where
    order : (q : ℕ) → x.mark q ≡ Basic → key_lt (port_at g u q).key (port_at g u p).key ≡ false
    order q b =
        ⊎_elim (λ (e : q ≡ p). subst (λ y. key_lt (port_at g u y).key (port_at g u p).key ≡ false) (sym e) (lt_irreflexive (port_at g u p).key))
        (λ ne. lt_asymmetric (port_at g u p).key (port_at g u q).key (ordered u p q (past q b ne) (within q b))) (cases_eq q p)
      where
        past : (q : ℕ) → x.mark q ≡ Basic → q ≢ p → p < q
        past q b ne = ⊎_elim (λ (lt : q < p). absurd (least q lt b)) (λ (le : p ≤ q). omega (arith, le, ne)) (cases_lt q p)

-- at the opening nothing is known
pub opening_floors : (g : Network) → Floors g (scene (opening g) opening_ghost) (λ v. None)
opening_floors g = record {
  nodes = λ v is. record { asleep = λ e. refl; search = λ e. refl };
  links = λ v p at. record {
    none_below = λ o. refl;
    falls = λ c. refl;
    covered = λ e c. absurd (let z : Sleeping ≡ Find = e in cc);
    report = λ k c. absurd (none v p c.joins.here);
    core = λ c. absurd (none v p c.both.joins.here);
    out = λ o. absurd (none v p o.here);
    moved = λ m. absurd (none v p m.both.joins.here);
    best = λ k e. absurd (let z : None ≡ Some (p, k) = e in cc);
  };
  in_tree = λ v p at m. absurd (none v p m);
  halted = λ v t p is h. absurd (let z : false ≡ true = h in cc);
}
  where
    none : (v p : ℕ) → ((scene (opening g) opening_ghost).at v).mark p ≢ Branch
    none v p = unmarked (length (g.ports v)) p

pub opening_scans : (g : Network) → AllScan g (scene (opening g) opening_ghost)
opening_scans g v is = rests_scan g v ((scene (opening g) opening_ghost).at v) (λ e. let z : Sleeping ≡ Find = e in cc)

pub opening_lives : (g : Network) → Lives g (scene (opening g) opening_ghost)
opening_lives g = record {
  asks = λ v p at e. absurd (let z : None ≡ Some p = e in cc);
  brought = λ v p at c. absurd (unmarked (length (g.ports v)) p c.0);
  heard = λ v p at c. absurd (unmarked (length (g.ports v)) p c.0);
}
