-- What a node has not tried lies above its floor, and its way home is kept, over one act of a node.
use Rattle.std.proofs.Common.{◌≡◌, ℕ, zero, suc, Bool, true, false, cond, Option, Some, None, length, refl, sym, ◌∙◌, subst, ⊎_elim, arith}
use Rattle.std.proofs.lemmas.Bool.{cases_eq}
use Rattle.ghs_graph.specs.declared.key.Key.{Key}
use Rattle.ghs_node.specs.Words.{Best, below, best_key, better}
use Rattle.ghs_node.specs.declared.mark.Mark.TheVariants.{Basic, Branch}
use Rattle.peer_network.specs.Network.{Network, port_at, InNetwork}
use Rattle.peer_network.specs.Updates.{put}
use Rattle.ghs_protocol.proofs.clauses.Scene.{Member, Scene}
use Rattle.ghs_protocol.proofs.clauses.Changes.{awakened}
use Rattle.ghs_protocol.proofs.clauses.Nodes.{NodeFits, Untouched}
use Rattle.ghs_protocol.proofs.clauses.Uniting.{relabel}
use Rattle.ghs_protocol.proofs.clauses.Wiring.{Ground}
use Rattle.ghs_protocol.proofs.clauses.Floors.{Floor, lower, Tried, AllTried}
use Rattle.peer_network.proofs.lemmas.Updates.{put_same, put_other}
use Rattle.ghs_protocol.proofs.acts.Floors.{below_lower}
use Rattle.ghs_protocol.proofs.union.Floors.{joining_as}

-- a node that acts: the floors of the others stay, and its own does or becomes a
pub tried_same : (g : Network) (u : ℕ) (x : Member) (at : ℕ → Member) (floor : ℕ → Floor) →
    ((v : ℕ) → InNetwork g v → Tried g v (at v) (floor v)) →
    Tried g u x (floor u) →
    (v : ℕ) → InNetwork g v →
    Tried g v (put at u x v) (floor v)
tried_same g u x at floor h here v is =
    ⊎_elim
    (λ (e : v ≡ u). subst (λ y. Tried g y (put at u x y) (floor y)) (sym e) (subst (λ m. Tried g u m (floor u)) (sym (put_same at u x)) here))
    (λ ne. subst (λ m. Tried g v m (floor v)) (sym (put_other at u v x ne)) (h v is)) (cases_eq v u)

pub tried_put : (g : Network) (u : ℕ) (x : Member) (at : ℕ → Member) (floor : ℕ → Floor) (a : Floor) →
    ((v : ℕ) → InNetwork g v → Tried g v (at v) (floor v)) →
    Tried g u x a →
    (v : ℕ) → InNetwork g v →
    Tried g v (put at u x v) (put floor u a v)
tried_put g u x at floor a h here v is =
    ⊎_elim
    (λ (e : v ≡ u).
    subst (λ y. Tried g y (put at u x y) (put floor u a y)) (sym e)
    (subst (λ m. Tried g u m (put floor u a u)) (sym (put_same at u x)) (subst (Tried g u x) (sym (put_same floor u a)) here)))
    (λ ne.
    subst (λ m. Tried g v m (put floor u a v)) (sym (put_other at u v x ne)) (subst (Tried g v (at v)) (sym (put_other floor u v a ne)) (h v is)))
    (cases_eq v u)

pub tried_relabel : (g : Network) (c a l : ℕ) (n : Option Key) (w : Scene) (floor : ℕ → Floor) → AllTried g w floor →
    AllTried g (relabel c a l n w) floor
tried_relabel g c a l n w floor h v is =
    subst (λ m. Tried g v m (floor v)) (sym (joining_as c a l n (w.at v))) (let t = h v is in record { untried = t.untried; way = t.way })

-- fewer Basic ports, the same floor, and no best link only where there was none
pub tried_fewer : (g : Network) (u : ℕ) (m x : Member) (a : Floor) →
    ((q : ℕ) → x.mark q ≡ Basic → m.mark q ≡ Basic) →
    (x.head.best ≡ None → m.head.best ≡ None) →
    x.head.in_branch ≡ m.head.in_branch →
    x.up ≡ m.up →
    Tried g u m a →
    Tried g u x a
tried_fewer g u m x a marks best way up t = record {
  untried = λ q b. t.untried q (marks q b);
  way = λ e ne. up ∙ t.way (best e) (λ z. ne (way ∙ z)) ∙ sym way;
}

pub better_none : (b : Best) (j : ℕ) (o : Option Key) → better b j o ≡ None → b ≡ None
better_none None j o e = refl
better_none (Some x) j None e = e
better_none (Some x) j (Some k) e = go (below (Some k) (best_key (Some x))) e
  where
    go : (t : Bool) → ◌≡◌ {A = Best} (cond t (Some (j, k)) (Some x)) None → ◌≡◌ {A = Best} (Some x) None
    go true h = let z : ◌≡◌ {A = Best} (Some (j, k)) None = h in cc
    go false h = h

-- a node that wakes
pub tried_woken : (g : Network) (ground : Ground g) (u : ℕ) → InNetwork g u → (m : Member) → NodeFits (length (g.ports u)) m → Untouched m →
    Tried g u (awakened m) (Some (Some (port_at g u 0).key))
tried_woken g ground u is m fits fresh = record {
  untried = λ q b. above q b;
  way = λ e ne. absurd (ne fresh.in_branch);
}
  where
    above : (q : ℕ) → put m.mark 0 Branch q ≡ Basic → lower (Some (Some (port_at g u 0).key)) (Some (Some (port_at g u q).key)) ≡ true
    above zero b = absurd (let z : Branch ≡ Basic = b in cc)
    above (suc q) b =
        let was : m.mark (suc q) ≡ Basic = sym (put_other m.mark 0 (suc q) Branch (omega arith)) ∙ b in
        below_lower (Some (port_at g u 0).key) (Some (port_at g u (suc q)).key)
        (ground.ordered u 0 (suc q) (omega arith)
        (record { some = is.some; node = is.node; port = fits.own_ports.mark (suc q) (λ z. cc (z, was)) }))
