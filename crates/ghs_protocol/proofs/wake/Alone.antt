-- A node without ports wakes and halts.
use Rattle.std.proofs.Common.{◌≡◌, ◌≢◌, ℕ, [], refl, sym, ◌∙◌, ap, subst, length, arith}
use Rattle.ghs_node.specs.declared.message.Phase.TheVariants.{Sleeping, Find, Found}
use Rattle.peer_network.specs.Network.{Network, At, far_port, InNetwork}
use Rattle.peer_network.proofs.lemmas.Wired.{IsWired}
use Rattle.peer_network.proofs.lemmas.Updates.{put_other}
use Rattle.peer_network.proofs.lemmas.Sums.{sum_same}
use Rattle.ghs_protocol.proofs.clauses.Scene.{Member, Scene, acts}
use Rattle.ghs_protocol.proofs.clauses.Changes.{halts_alone}
use Rattle.ghs_protocol.proofs.clauses.Nodes.{NodeFits, Untouched}
use Rattle.ghs_protocol.proofs.clauses.Rest.{Quiet, Resting}
use Rattle.ghs_protocol.proofs.clauses.Whole.{Invariant}
use Rattle.ghs_protocol.proofs.acts.SameForest.{quiet_after, sums_after, kept_after}
use Rattle.ghs_protocol.proofs.rows.Link.{node_clauses}

module _ (g : Network) (wired : IsWired g) (u : ℕ) (u_is : InNetwork g u) (w : Scene) (holds : Invariant g w)
    (lone : ◌≡◌ {A = ℕ} (length (g.ports u)) 0) (sleeps : (w.at u).head.phase ≡ Sleeping) where
  x : Member
  x = halts_alone (w.at u)

  here : InNetwork g u
  here = u_is

  open node_clauses g wired w holds u u_is use {fits}

  fresh : Untouched (w.at u)
  fresh = fits.untouched sleeps

  not_some : (i : ℕ) → At g u i → ⊥
  not_some i at = let p = at.port in omega (arith, p, lone)

  else_where : (v p : ℕ) → At g v p → v ≢ u
  else_where v p at e = not_some p (subst (λ y. At g y p) e at)

  after : Scene
  after = acts g u x (w.seen u) [] w

  same : (v p : ℕ) → At g v p → after.at v ≡ w.at v
  unfolding after
  same v p at = put_other w.at u v x (else_where v p at)

  node : NodeFits (length (g.ports u)) x
  unfolding x
  node = record {
    own_ports = record { probe = fits.own_ports.probe; in_branch = fits.own_ports.in_branch; mark = fits.own_ports.mark };
    untouched = λ e. absurd (let z : Found ≡ Sleeping = e in cc);
    points = λ e lt. absurd (omega (arith, lt, lone));
    idle = λ e. (fresh.probe, fresh.find_count);
    searching = λ e. absurd (let z : Found ≡ Find = e in cc);
    naming = record { level = fits.naming.level; in_branch = fits.naming.in_branch; name = fits.naming.name };
    lag = record { level = fits.lag.level; name = fits.lag.name };
    best_port = fits.best_port;
  }

  quiet : (a : ℕ) → Quiet g w a → Quiet g after a
  unfolding after x
  quiet a q = quiet_after g wired u u_is x (w.seen u) [] w a q (λ e. refl) (λ i at. absurd (not_some i at)) (λ i at. absurd (not_some i at))

  rests : Resting g after
  rests = record {
    out = λ v p at o.
        subst (λ (m : Member). Quiet g after m.fragment) (sym (same v p at)) (quiet (w.at v).fragment (holds.resting.out v p at (record {
          here = sym (ap (λ (m : Member). m.mark p) (same v p at)) ∙ o.here;
          there = λ e. o.there (ap (λ (m : Member). m.mark (far_port g v p)) (same _ _ (wired.there v p at)) ∙ e);
        })));
    moved =
        λ v p at m. subst (λ (m : Member). Quiet g after m.fragment) (sym (same v p at))
        (quiet (w.at v).fragment (holds.resting.moved v p at (record {
          both = record {
            joins = record {
              here = sym (ap (λ (m : Member). m.mark p) (same v p at)) ∙ m.both.joins.here;
              there = sym (ap (λ (m : Member). m.mark (far_port g v p)) (same _ _ (wired.there v p at))) ∙ m.both.joins.there;
            };
            up = sym (ap (λ (m : Member). m.up) (same v p at)) ∙ m.both.up;
            up_beyond = sym (ap (λ (m : Member). m.up) (same _ _ (wired.there v p at))) ∙ m.both.up_beyond;
          };
          unnamed = λ e. m.unnamed (ap (λ (m : Member). m.coming_name) (same v p at) ∙ e);
        })));
  }

  pub wakes_alone : Invariant g (acts g u (halts_alone (w.at u)) (w.seen u) [] w)
  unfolding after x
  wakes_alone =
      kept_after g wired u u_is x (w.seen u) [] w holds
      (record { fragment = refl; coming = refl; coming_name = refl; up = refl; branch = λ p. refl }) node (λ i at. absurd (not_some i at))
      (λ i at. absurd (not_some i at)) (λ e. absurd (let z : Found ≡ Sleeping = e in cc)) (λ k e. holds.named u k here e) rests
      (sums_after g wired u u_is x (w.seen u) [] w holds.counted
      (holds.counted u here ∙ sum_same (length (g.ports u)) _ _ (λ i lt. absurd (omega (arith, lt, lone)))) (λ i at. absurd (not_some i at)))
