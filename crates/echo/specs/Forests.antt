-- What the branches of a run that has ended are, with the proof. Nothing here has to be believed.
use Rattle.std.proofs.Common.{◌≡◌, ◌≢◌, ℕ, ◌+◌, ◌<◌, ◌≤◌, ◌==◌, ◌⊎◌, inl, inr, true, false, Option, Some, None, List, refl, sym, ◌∙◌, ap, subst, ⊎_elim, arith}
use Rattle.std.specs.List.{Contains}
use Rattle.std.proofs.lemmas.Bool.{true≢false, eqb-true, eq-eqb}
use Rattle.std.proofs.lemmas.Option.{same_Some}
use Rattle.ghs_graph.specs.declared.key.Key.{Key}
use Rattle.ghs_graph.specs.Graph.{Shape}
use Rattle.ghs_graph.specs.Laws.{links_but}
use Rattle.ghs_graph.specs.Links.{Joined, Same, Over, Back, links}
use Rattle.ghs_graph.proofs.lemmas.Joining.{joined_back}
use Rattle.peer_network.specs.Network.{Network, network_of, At, far, port_at}
use Rattle.peer_network.proofs.lemmas.Graphs.{is_key, port_ends}
use Rattle.peer_machine.specs.Net.{Net}
use Rattle.peer_machine.specs.Run.{IsNetOf}
use Rattle.peer_machine.specs.Branches.{AreBranches, BranchesAreFound}
use Rattle.echo.specs.declared.node.Message.{Message}
use Rattle.echo.specs.declared.node.Node.{Node}
use Rattle.echo.specs.Echo.{echo, is_left_out}
use Rattle.echo.specs.Ended.{HasEnded, marks_parent, IsForest}
use Rattle.echo.specs.Waves.{Parents}
use Rattle.echo.specs.Ending.{wave_of}

-- Ways along links.

-- what each link of a set carries over, a way carries over
pub carried : {S : Key → Type 0} (P : ℕ → Type 0) → ((k : Key) → S k → (P k.a → P k.b) × (P k.b → P k.a)) → {u v : ℕ} → Joined S u v → P u → P v
carried P each Same x = x
carried P each (Over k s way) x = carried P each way ((each k s).0 x)
carried P each (Back k s way) x = carried P each way ((each k s).1 x)

-- x and y are the ends of a link
abbrev Ends : ℕ → ℕ → Key → Type 0
Ends x y k = ((x ≡ k.a) × (y ≡ k.b)) ⊎ ((x ≡ k.b) × (y ≡ k.a))

from_ends : (P : ℕ → Type 0) (x y : ℕ) (k : Key) → Ends x y k → (P x → P y) → (P y → P x) → (P k.a → P k.b) × (P k.b → P k.a)
from_ends P x y k (inl e) f h = (
  λ z. subst P e.1 (f (subst P (sym e.0) z)),
  λ z. subst P e.0 (h (subst P (sym e.1) z)),
)
from_ends P x y k (inr e) f h = (
  λ z. subst P e.0 (h (subst P (sym e.1) z)),
  λ z. subst P e.1 (f (subst P (sym e.0) z)),
)

to_ends : (P : ℕ → Type 0) (x y : ℕ) (k : Key) → Ends x y k → (P k.a → P k.b) × (P k.b → P k.a) → P x → P y
to_ends P x y k (inl e) f z = subst P (sym e.1) (f.0 (subst P e.0 z))
to_ends P x y k (inr e) f z = subst P (sym e.1) (f.1 (subst P e.0 z))

-- Parents.

marked : (x : Option ℕ) (p : ℕ) → is_left_out x p ≡ true → x ≡ Some p
marked None p e = absurd (true≢false (sym e))
marked (Some q) p e = ap Some (eqb-true q p e)

marks : (x : Option ℕ) (p : ℕ) → x ≡ Some p → is_left_out x p ≡ true
marks x p e = ap (λ y. is_left_out y p) e ∙ eq-eqb p p refl

-- x is v, or parents lead from x to v
pub data Under (g : Network) (w : Net Node Message) (v : ℕ) : ℕ → Type 0 where
  Here : Under g w v v
  Down : (x p : ℕ) → (w.node x).head.parent ≡ Some p → Under g w v (far g x p) → Under g w v x

module _ (g : Network) (w : Net Node Message) (v : ℕ) where
  under_up : {x : ℕ} → Under g w v x → x ≢ v → (q : ℕ) → (w.node x).head.parent ≡ Some q → Under g w v (far g x q)
  under_up Here ne q e = absurd (ne refl)
  under_up (Down x p h rest) ne q e = subst (λ i. Under g w v (far g x i)) (same_Some _ _ (sym h ∙ e)) rest

  under_rank : (i : Parents g w) → {x : ℕ} → Under g w v x → i.rank v ≤ i.rank x
  under_rank i Here = omega arith
  under_rank i (Down x p h rest) = let a = under_rank i rest in let b = (i.up x p h).1 in omega (arith, a, b)

  pub under_root : {x : ℕ} → Under g w v x → (w.node x).head.parent ≡ None → x ≡ v
  under_root Here e = refl
  under_root (Down x p h rest) e = let z : ◌≡◌ {A = Option ℕ} (Some p) None = sym h ∙ e in cc

module _ (g : Shape) (w : Net Node Message) (ks : List Key) (is : IsNetOf echo g w) (are : AreBranches marks_parent (network_of g) w ks) where
  -- of v's branches but its own to its parent, each has both ends below v or neither
  pub beside : (v : ℕ) (j : Key) → Contains ks j →
      ((x q : ℕ) → At (network_of g) x q → (port_at (network_of g) x q).key ≡ j → (w.node x).head.parent ≡ Some q → x ≢ v) →
      (Under (network_of g) w v j.a → Under (network_of g) w v j.b) × (Under (network_of g) w v j.b → Under (network_of g) w v j.a)
  beside v j has aside =
      let c = (are.all j).0 has in
      let x = c.0 in
      let q = c.1 in
      let parent = marked (w.node x).head.parent q c.4 in
      let ends : Ends x (far (network_of g) x q) j = subst (λ (k : Key). Ends x (far (network_of g) x q) k) c.3 (port_ends g is.graph x q c.2) in
      from_ends (Under (network_of g) w v) x (far (network_of g) x q) j ends
      (λ z. under_up (network_of g) w v z (aside x q c.2 c.3 parent) q parent)
      (λ z. Down x q parent z)

  no_cycle : (k : Key) → Contains ks k → Joined (links_but ks k) k.a k.b → ⊥
  no_cycle k has way =
      let b = (are.all k).0 has in
      let v = b.0 in
      let p = b.1 in
      let i = (wave_of g w is).parents in
      let parent = marked (w.node v).head.parent p b.4 in
      let ends : Ends v (far (network_of g) v p) k = subst (λ (j : Key). Ends v (far (network_of g) v p) j) b.3 (port_ends g is.graph v p b.2) in
      let each = λ (j : Key) (s : links_but ks k j).
      beside v j s.0
      (λ x q at e h same.
      s.1
      (
      sym e
      ∙ ap (λ y. (port_at (network_of g) x y).key) (same_Some _ _ (sym h ∙ ap (λ y. (w.node y).head.parent) same ∙ parent))
      ∙ ap (λ y. (port_at (network_of g) y p).key) same ∙ b.3
      )) in
      let below =
      to_ends (Under (network_of g) w v) v (far (network_of g) v p) k ends
      (carried (Under (network_of g) w v) each way, carried (Under (network_of g) w v) each (joined_back way)) Here in
      let low = under_rank (network_of g) w v i below in
      let up = (i.up v p parent).1 in
      omega (arith, low, up)

  pub of_graph : (k : Key) → Contains ks k → Contains g.keys k
  of_graph k has = let b = (are.all k).0 has in subst (λ (j : Key). Contains g.keys j) b.3 (is_key g is.graph b.0 b.1 b.2)

  -- a branch joins a node with its parent
  pub to_parent : (v p : ℕ) → At (network_of g) v p → (w.node v).head.parent ≡ Some p → Joined (links ks) v (far (network_of g) v p)
  to_parent v p at h =
      let k = (port_at (network_of g) v p).key in
      let has : Contains ks k = (are.all k).1 (v, p, at, refl, marks (w.node v).head.parent p h) in
      ⊎_elim
      (λ (e : (v ≡ k.a) × (far (network_of g) v p ≡ k.b)).
      subst (λ x. Joined (links ks) x (far (network_of g) v p)) (sym e.0) (subst (λ x. Joined (links ks) k.a x) (sym e.1) (Over k has Same)))
      (λ (e : (v ≡ k.b) × (far (network_of g) v p ≡ k.a)).
      subst (λ x. Joined (links ks) x (far (network_of g) v p)) (sym e.0) (subst (λ x. Joined (links ks) k.b x) (sym e.1) (Back k has Same)))
      (port_ends g is.graph v p at)

pub forest_found : BranchesAreFound echo HasEnded marks_parent IsForest
forest_found g w ks is ended are = record { rising = are.rising; of_graph = of_graph g w ks is are; no_cycle = no_cycle g w ks is are }
