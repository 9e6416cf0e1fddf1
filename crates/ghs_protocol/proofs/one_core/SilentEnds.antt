-- Where nothing waits, in a fragment that no link leaves, no node has a best link, and no port is Basic: all floors are infinite.
use Rattle.std.proofs.Common.{◌≡◌, ◌≢◌, ℕ, true, false, Some, None, refl, sym, ◌∙◌, ap, subst, ⊎_elim}
use Rattle.ghs_graph.specs.declared.key.Key.{Key}
use Rattle.ghs_node.specs.Words.{Best, best_key}
use Rattle.ghs_node.specs.declared.mark.Mark.TheVariants.{Basic, Branch}
use Rattle.ghs_node.specs.declared.message.Phase.TheVariants.{Sleeping}
use Rattle.peer_network.specs.Network.{Network, port_at, At, far, far_port, InNetwork}
use Rattle.ghs_protocol.proofs.clauses.Scene.{Scene, unseen, forest}
use Rattle.ghs_protocol.proofs.clauses.Floors.{Floor, lower, Sound}
use Rattle.ghs_protocol.proofs.clauses.Wiring.{Ground}
use Rattle.ghs_protocol.proofs.clauses.UnderWay.{Living}
use Rattle.ghs_protocol.proofs.acts.Floors.{near_fits, above_root, none_lower}
use Rattle.ghs_protocol.proofs.search.FirstReport.{mark_is}
use Rattle.ghs_protocol.proofs.rows.Link.{link_fits}
use Rattle.ghs_protocol.proofs.progress.Halves.{RootLink, turned}
use Rattle.ghs_protocol.proofs.one_core.Silent.{reach, top, found, root_of, best_none, begun}
use Rattle.ghs_protocol.proofs.progress.BothBegun.{BegunCore}
use Rattle.ghs_node.proofs.lemmas.{branch_mark}

infinite : (b : Floor) → lower (Some None) b ≡ true → b ≡ Some None
infinite None h = cc
infinite (Some None) h = refl
infinite (Some (Some k)) h = absurd (let z : false ≡ true = h in cc)

no_key : (b : Floor) (k : Key) → b ≡ Some None → lower b (Some (Some k)) ≡ true → ⊥
no_key b k e h = let z : lower (Some None) (Some (Some k)) ≡ true = subst (λ x. lower x (Some (Some k)) ≡ true) e h in let y : false ≡ true = z in cc

module _ (g : Network) (ground : Ground g) (w : Scene) (s : Sound g w) (lives : Living g w)
    (silent : (v p : ℕ) → At g v p → w.seen v p ≡ unseen) (u : ℕ) (u_is : InNetwork g u) (awake : (w.at u).head.phase ≢ Sleeping)
    (whole : (t p : ℕ) → At g t p → (w.at t).fragment ≡ (w.at u).fragment → (w.at (far g t p)).fragment ≡ (w.at u).fragment) where
  -- all floors are as high as those of the core
  module _ (a j : ℕ) (r : RootLink g (forest w) a j) (same : (w.at a).fragment ≡ (w.at u).fragment) where
    core_floor : (b i : ℕ) → RootLink g (forest w) b i → (w.at b).fragment ≡ (w.at u).fragment → s.floor b ≡ Some None
    core_floor b i l e =
        let d : BegunCore g w b i = begun g ground w s.first lives silent u u_is awake whole b i l in
        (near_fits g ground.wired w s.first s.floor s.floors b i l.at).core
        (record {
          both = record {
            joins = record { here = branch_mark _ l.joined.here; there = branch_mark _ l.joined.there };
            up = l.up;
            up_beyond = l.up_beyond;
          };
          named = d.named;
        })
        d.top (found g ground w s.first lives silent u u_is awake whole b i l.at e) ∙
        ap (λ o. Some (best_key o)) (best_none g ground w s.first lives silent u u_is awake whole b i l e)

    floor_here : (t p : ℕ) → At g t p → (w.at t).fragment ≡ (w.at u).fragment → s.floor t ≡ Some None
    floor_here t p at e =
        infinite (s.floor t)
        (above_root g ground.wired w s.first s.floor s.floors a j r.at r.joined r.up r.up_beyond (Some None) (none_lower _ (core_floor a j r same))
        (none_lower _ (core_floor (far g a j) (far_port g a j) (turned g ground.wired (forest w) a j r) (whole a j r.at same)))
        (reach g ground w s.first lives silent u u_is awake whole t p at e) (e ∙ sym same))

  pub floor_none : (t p : ℕ) → At g t p → (w.at t).fragment ≡ (w.at u).fragment → s.floor t ≡ Some None
  floor_none t p at e =
      go (root_of g ground w s.first lives silent u u_is awake whole (reach g ground w s.first lives silent u u_is awake whole t p at e) e)
    where
      go :
          (a : ℕ) × (j : ℕ) × ((w.at a).fragment ≡ (w.at u).fragment) × BegunCore g w a j →
          s.floor t ≡ Some None
      go (a, j, same, d) = floor_here a j d.link same t p at e

  module _ (t p : ℕ) (at : At g t p) (same : (w.at t).fragment ≡ (w.at u).fragment) where
    is : InNetwork g t
    is = record { some = at.some; node = at.node }

    -- no port is Basic
    pub no_basic : (q : ℕ) → (w.at t).mark q ≢ Basic
    no_basic q b = no_key (s.floor t) (port_at g t q).key (floor_none t p at same) ((s.tried t is).untried q b)

    -- there is no best link
    pub no_best : (w.at t).head.best ≡ None
    no_best = go (w.at t).head.best refl
      where
        go : (b : Best) → (w.at t).head.best ≡ b → b ≡ None
        go None e = refl
        go (Some (b, k)) e =
            absurd (⊎_elim (λ m. ⊎_elim (λ m'. joined m m') (λ m'. out m m') (mark_is ((w.at (far g t b)).mark (far_port g t b)))) apart
            (mark_is ((w.at t).mark b)))
          where
            atb : At g t b
            atb = record { some = at.some; node = at.node; port = ((s.first.nodes t is).best_port b k e).0 }

            is_top : (w.at t).head.level ≡ (w.at t).coming
            is_top = top g ground w s.first lives silent u u_is awake whole t p at same

            inside : (w.at (far g t b)).fragment ≡ (w.at t).fragment
            inside = whole t b atb same ∙ sym same

            apart : (w.at t).mark b ≢ Branch → ⊥
            apart m = ((link_fits g ground.wired w s.first t b atb).search.find_leads k e is_top m).apart inside

            out : (w.at t).mark b ≡ Branch → (w.at (far g t b)).mark (far_port g t b) ≢ Branch → ⊥
            out m m' = ((link_fits g ground.wired w s.first t b atb).tree.out_connect (record { here = m; there = m' })).apart inside

            joined : (w.at t).mark b ≡ Branch → (w.at (far g t b)).mark (far_port g t b) ≡ Branch → ⊥
            joined m m' =
                let x : s.floor (far g t b) ≡ Some (Some k) =
                (near_fits g ground.wired w s.first s.floor s.floors t b atb).best k e is_top (record { here = m; there = m' }) in
                let y : s.floor (far g t b) ≡ Some None =
                floor_none (far g t b) (far_port g t b) (ground.wired.there t b atb) (whole t b atb same) in
                let z : ◌≡◌ {A = Floor} (Some None) (Some (Some k)) = sym y ∙ x in cc
