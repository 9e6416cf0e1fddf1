-- In several pieces a run sends fewer messages: each has a node without a parent, which is never told.
use Rattle.std.proofs.Common.{◌≡◌, ◌≢◌, ℕ, zero, suc, ◌+◌, ◌*◌, ◌<◌, ◌≤◌, ◌⊎◌, inl, inr, Bool, true, Option, Some, None, List, [], ◌∷◌, length, cond, refl, sym, ◌∙◌, ap, subst, ⊎_elim, arith}
use Rattle.std.specs.Prelude.{is_none}
use Rattle.std.specs.List.{AllPairs, Contains}
use Rattle.std.proofs.lemmas.Bool.{cases_eq}
use Rattle.ghs_graph.specs.Components.{HasComponents, IsRoot}
use Rattle.ghs_graph.specs.Graph.{Shape, IsGraph}
use Rattle.ghs_graph.specs.Links.{Joined, Same, Over, Back, links}
use Rattle.ghs_graph.proofs.lemmas.Joining.{joined_then, joined_back}
use Rattle.ghs_graph.proofs.lemmas.Members.{first_in, later_in}
use Rattle.peer_network.specs.Network.{network_of, InNetwork, At, far, port_at}
use Rattle.peer_network.specs.Sums.{sum_below, sum_over_nodes}
use Rattle.peer_network.proofs.lemmas.Graphs.{graph_wired, is_key, port_ends, twice_links}
use Rattle.peer_network.proofs.lemmas.Sums.{sum_one, sum_few, node_before}
use Rattle.peer_network.proofs.lemmas.Updates.{put_same, put_other}
use Rattle.peer_machine.specs.Net.{Net, put}
use Rattle.peer_machine.proofs.lemmas.Balance.{after_balanced}
use Rattle.gather_node.specs.declared.message.Message.{Message}
use Rattle.gather_node.specs.Gather.{gather}
use Rattle.gather_node.specs.State.{State}
use Rattle.gather_protocol.specs.Bound.{wakers_in}
use Rattle.gather_protocol.specs.Laws.{SendsWithinPieces}
use Rattle.gather_protocol.proofs.Bound.{has_parent, parent_once, trees_by_parents, waves_few}
use Rattle.gather_protocol.proofs.Events.{after_waves}
use Rattle.gather_protocol.proofs.TreeEvents.{after_trees}
use Rattle.gather_protocol.proofs.Waves.{Waves}

-- Of n numbers that are 1 at most one is 0 for each element of a list, and none for two.
few_by : (Q : ℕ → ℕ → Type 0) (n : ℕ) (rs : List ℕ) (f : ℕ → ℕ) → ((i : ℕ) → f i ≤ 1) → AllPairs (λ r s. r < s) rs →
    ((r s p : ℕ) → Q r p → Q s p → r ≡ s) → ((r : ℕ) → Contains rs r → (p : ℕ) × (p < n) × Q r p × (f p ≡ 0)) → sum_below n f + length rs ≤ n
few_by Q n [] f most rise one each = let a = sum_few n f most in omega (arith, a)
few_by Q n (r ∷ rs) f most rise one each =
    let e = each r (first_in r rs) in
    let p = e.0 in
    let a =
    few_by Q n rs (put f p 1) few (λ i j d lt jl. rise (suc i) (suc j) d (omega arith) (omega arith)) one
    (rest p e.2 (λ s h. each s (later_in r s rs h))) in
    let b = sum_one n p f (put f p 1) e.1 (λ i ne. sym (put_other f p i 1 ne)) in
    let c = put_same f p 1 in
    let z = e.3 in
    omega (arith, a, b, c, z)
  where
    few : (i : ℕ) → put f (each r (first_in r rs)).0 1 i ≤ 1
    few i =
        let p = (each r (first_in r rs)).0 in
        ⊎_elim (λ (q : i ≡ p). let c = ap (put f p 1) q ∙ put_same f p 1 in omega (arith, c))
        (λ ne. let c = put_other f p i 1 ne in let m = most i in omega (arith, c, m)) (cases_eq i p)

    rest : (p : ℕ) → Q r p → ((s : ℕ) → Contains rs s → (q : ℕ) × (q < n) × Q s q × (f q ≡ 0)) →
        (s : ℕ) → Contains rs s → (q : ℕ) × (q < n) × Q s q × (put f p 1 q ≡ 0)
    rest p here more s h =
        let m = more s h in
        let less : r < s = subst (λ y. r < y) h.2 (rise 0 (suc h.0) s (omega arith) (let l = h.1 in omega (arith, l))) in
        (m.0, m.1, m.2, put_other f p m.0 1 (λ e. let q = one r s m.0 (subst (Q r) (sym e) here) m.2 in omega (arith, q, less)) ∙ m.3)

module _ (g : Shape) (ok : IsGraph g) (may : ℕ → Bool) (w : Net State Message) (i : Waves (network_of g) may w) where
  -- the far end of a port is joined with its node
  port_joins : (v p : ℕ) → At (network_of g) v p → Joined (links g.keys) v (far (network_of g) v p)
  port_joins v p at =
      let k = (port_at (network_of g) v p).key in
      let h = is_key g ok v p at in
      ⊎_elim
      (λ e.
      subst (λ y. Joined (links g.keys) y (far (network_of g) v p)) (sym e.0)
      (subst (λ y. Joined (links g.keys) k.a y) (sym e.1) (Over k h Same)))
      (λ e.
      subst (λ y. Joined (links g.keys) y (far (network_of g) v p)) (sym e.0)
      (subst (λ y. Joined (links g.keys) k.b y) (sym e.1) (Back k h Same)))
      (port_ends g ok v p at)

  -- who has joined a wave is joined with the node that began it
  wave_joins : (x r v : ℕ) → (i.past v).rank x ≤ r → (i.past v).joined x ≡ true → Joined (links g.keys) v x
  wave_joins x zero v le j = go ((i.past v).parent x) refl
    where
      go : (o : Option ℕ) → (i.past v).parent x ≡ o → Joined (links g.keys) v x
      go None e = subst (λ y. Joined (links g.keys) v y) (i.led.first v x j e) Same
      go (Some p) e = absurd (let l = i.led.later v x p j e in omega (arith, l, le))
  wave_joins x (suc r) v le j = go (λ u l k. wave_joins x r u l k) ((i.past v).parent x) refl
    where
      go : ((u : ℕ) → (i.past u).rank x ≤ r → (i.past u).joined x ≡ true → Joined (links g.keys) u x) → (o : Option ℕ) →
          (i.past v).parent x ≡ o → Joined (links g.keys) v x
      go ih None e = subst (λ y. Joined (links g.keys) v y) (i.led.first v x j e) Same
      go ih (Some p) e =
          let up = i.led.ups v x p j e in
          joined_then (port_joins v p up.at)
          (ih (far (network_of g) v p) (let l = i.led.later v x p j e in omega (arith, l, le)) up.up)

  -- a node that has no parent, in the piece of a node
  pub record Alone (r v : ℕ) : Type 0 where
    pub node : InNetwork (network_of g) v
    pub joined : Joined (links g.keys) r v
    pub none : (w.node v).head.parent ≡ None

  alone_from : (fuel x : ℕ) → x ≤ fuel → (i.past x).joined x ≡ true → (v : ℕ) × Alone x v
  alone_from zero x le j = absurd (let a = (i.led.inside x x j).some in omega (arith, le, a))
  alone_from (suc fuel) x le j = let l = (i.nodes x).least x j in go l.0 l.1 l.2 (cases_eq l.0 x) (λ y k m. alone_from fuel y k m)
    where
      go : (y : ℕ) → (w.node x).head.wave ≡ Some y → y ≤ x → (y ≡ x) ⊎ (y ≢ x) →
          ((y : ℕ) → y ≤ fuel → (i.past y).joined y ≡ true → (v : ℕ) × Alone y v) → (v : ℕ) × Alone x v
      go y e lex (inl q) ih = (
        x,
        record {
          node = i.led.inside x x j;
          joined = Same;
          none = sym ((i.nodes x).now x (e ∙ ap Some q)).parent ∙ i.led.own x j;
        },
      )
      go y e lex (inr ne) ih =
          let jy = ((i.nodes x).now y e).joined in
          let m = ih y (omega (arith, le, lex, ne)) (i.led.root x y jy) in (
            m.0,
            record {
              node = m.1.node;
              joined = joined_then (wave_joins y ((i.past x).rank y) x (omega arith) jy) m.1.joined;
              none = m.1.none;
            },
          )

  alone_in : (r : ℕ) → InNetwork (network_of g) r → (v : ℕ) × Alone r v
  alone_in r net = by (w.node r).head.wave refl
    where
      by : (o : Option ℕ) → (w.node r).head.wave ≡ o → (v : ℕ) × Alone r v
      by None e = (r, record { node = net; joined = Same; none = (i.nodes r).idle e })
      by (Some x) e =
          let j = ((i.nodes r).now x e).joined in
          let m = alone_from x x (omega arith) (i.led.root r x j) in (
            m.0,
            record {
              node = m.1.node;
              joined = joined_then (wave_joins x ((i.past r).rank x) r (omega arith) j) m.1.joined;
              none = m.1.none;
            },
          )

  pub parents_by_pieces : (c : ℕ) → HasComponents g c → sum_over_nodes (network_of g) (λ v. has_parent (w.node v)) + c ≤ g.nodes
  parents_by_pieces c h =
      let a =
      few_by (λ r p. IsRoot g.keys r r × Joined (links g.keys) r (suc p)) g.nodes h.leasts (λ p. has_parent (w.node (suc p)))
      (λ p. parent_once (w.node (suc p)).head.parent) h.rising
      (λ r s p a b.
      let way = joined_then a.1 (joined_back b.1) in
      let x = a.0.least s way in
      let y = b.0.least r (joined_back way) in
      omega (arith, x, y))
      each in
      let n = h.number in
      omega (arith, a, n)
    where
      each : (r : ℕ) → Contains h.leasts r →
          (p : ℕ) × (p < g.nodes) × (IsRoot g.keys r r × Joined (links g.keys) r (suc p)) × (has_parent (w.node (suc p)) ≡ 0)
      each r m =
          let b = h.has r m in
          let v = alone_in r (record { some = b.0; node = b.1 }) in
          let k = node_before v.0 v.1.node.some in
          let e = k.1 in
          let hi = v.1.node.node in (
            k.0,
            omega (arith, e, hi),
            (b.2, subst (λ y. Joined (links g.keys) r y) e v.1.joined),
            ap (λ y. has_parent (w.node y)) (sym e) ∙ ap (λ (o : Option ℕ). cond (is_none o) 0 1) v.1.none,
          )

pub sends_within_pieces : SendsWithinPieces
sends_within_pieces g c may es w ok pieces allow h =
    let n = network_of g in
    let wired = graph_wired g ok in
    let i = after_waves n may wired es w allow h in
    let t = after_trees n may wired es w allow h in
    let a = waves_few n may wired w i t in
    let b = twice_links g ok in
    let d = trees_by_parents n may wired w i t (after_balanced gather n wired es w h 2) in
    let f = parents_by_pieces g ok may w i c pieces in
    let k : wakers_in n may * (2 * length g.keys) ≡ 2 * (length g.keys * wakers_in n may) = omega arith in
    let e : wakers_in n may * sum_over_nodes n (λ v. length (n.ports v)) ≡ wakers_in n may * (2 * length g.keys) = ap (λ s. wakers_in n may * s) b in
    omega (arith, a, d, f, k, e)
