-- A link that is taken at the next level is the way up of one of its ends, and of one alone; and what a node's own choice becomes there.
use Rattle.std.proofs.Common.{◌≡◌, ◌⊎◌, ℕ, suc, ◌<◌, inl, inr, ⊎_elim, true, List, sym, subst}
use Rattle.ghs_graph.specs.declared.key.Key.{Key}
use Rattle.ghs_graph.specs.Key.{ends_at}
use Rattle.ghs_graph.specs.Links.{Same, Back}
use Rattle.ghs_graph.specs.Ports.{far_end}
use Rattle.ghs_graph.specs.Graph.{Shape, IsGraph}
use Rattle.ghs_graph.proofs.lemmas.Joining.{joined_back}
use Rattle.peer_network.proofs.lemmas.Graphs.{link_among}
use Rattle.boruvka_protocol.specs.Levels.{Taken, InClass, IsOfLevel}
use Rattle.boruvka_protocol.specs.Cores.{IsCore}
use Rattle.boruvka_protocol.specs.WaysUp.{IsTop, IsUp}
use Rattle.boruvka_protocol.specs.LevelLaws.{IsUpFrom}
use Rattle.boruvka_protocol.proofs.lemmas.KeyOrder.{keys_decided}
use Rattle.boruvka_protocol.proofs.lemmas.Cores.{least_is_one}
use Rattle.boruvka_protocol.proofs.lemmas.WaysOut.{least_out}
use Rattle.boruvka_protocol.proofs.lemmas.WaysUp.{top_at, classes_have_one_top, links_are_ways_up}
use Rattle.boruvka_protocol.proofs.invariant.Words.{IsLeast, IsWayUp}
use Rattle.boruvka_protocol.proofs.levels.Chosen.{chosen_up}
use Rattle.boruvka_protocol.proofs.rows.Leaving.{AreEnds, joined_ends, end_there, far_back}
use Rattle.boruvka_protocol.proofs.follows.Called.{core_up}
use Rattle.boruvka_protocol.proofs.follows.Quiet.{leaves_across}

-- v and u are the ends of k, in a class of the level
module _ (g : Shape) (ok : IsGraph g) (l v u : ℕ) (k : Key) (class : IsOfLevel g.keys l v) (ends : AreEnds v u k) where
  from_v : Taken g.keys l k → InClass g.keys l v k.a
  from_v t = ⊎_elim
      (λ e. subst (λ x. InClass g.keys l x k.a) (sym e.0) Same)
      (λ e. subst (λ x. InClass g.keys l x k.a) (sym e.0) (Back k t Same))
      ends

  top : (r : ℕ) × IsTop g.keys l v r × InClass g.keys l v r × ((s : ℕ) → IsTop g.keys l v s → s ≡ r)
  top = classes_have_one_top g ok l v class

  ups : Taken g.keys l k → IsUpFrom (Taken g.keys l) top.0 k.a k.b k ⊎ IsUpFrom (Taken g.keys l) top.0 k.b k.a k
  ups t = links_are_ways_up g ok l v top.0 top.1 k t (from_v t)

  at_v : IsUp (Taken g.keys l) top.0 v k → IsWayUp g.keys l v k
  at_v up = record { root = top.0; top = top.1; up = up }

  at_u : Taken g.keys l k → IsUp (Taken g.keys l) top.0 u k → IsWayUp g.keys l u k
  at_u t up = record { root = top.0; top = top_at g.keys l v u top.0 (joined_ends v u k ends t) top.1; up = up }

  pub up_of_either : Taken g.keys l k → IsWayUp g.keys l v k ⊎ IsWayUp g.keys l u k
  up_of_either t = ⊎_elim
      (λ a. ⊎_elim
      (λ e. inl (at_v (subst (λ x. IsUp (Taken g.keys l) top.0 x k) (sym e.0) a.0)))
      (λ e. inr (at_u t (subst (λ x. IsUp (Taken g.keys l) top.0 x k) (sym e.1) a.0)))
      ends)
      (λ b. ⊎_elim
      (λ e. inr (at_u t (subst (λ x. IsUp (Taken g.keys l) top.0 x k) (sym e.1) b.0)))
      (λ e. inl (at_v (subst (λ x. IsUp (Taken g.keys l) top.0 x k) (sym e.0) b.0)))
      ends)
      (ups t)

  pub up_of_one : IsWayUp g.keys l v k → IsWayUp g.keys l u k → ⊥
  up_of_one a b = ⊎_elim
      (λ x. ⊎_elim
      (λ e. x.1 (subst (λ y. IsUp (Taken g.keys l) top.0 y k) e.1 up_u))
      (λ e. x.1 (subst (λ y. IsUp (Taken g.keys l) top.0 y k) e.0 up_v))
      ends)
      (λ x. ⊎_elim
      (λ e. x.1 (subst (λ y. IsUp (Taken g.keys l) top.0 y k) e.0 up_v))
      (λ e. x.1 (subst (λ y. IsUp (Taken g.keys l) top.0 y k) e.1 up_u))
      ends)
      (ups a.up.link)
    where
      up_v : IsUp (Taken g.keys l) top.0 v k
      up_v = subst (λ r. IsUp (Taken g.keys l) r v k) (top.3 a.root a.top) a.up

      up_u : IsUp (Taken g.keys l) top.0 u k
      up_u = subst (λ r. IsUp (Taken g.keys l) r u k)
          (top.3 b.root (top_at g.keys l u v b.root (joined_back (joined_ends v u k ends a.up.link)) b.top)) b.up

-- the far end chose the link too: it is a core, and v the lesser end
pub record IsMet (ks : List Key) (l v u : ℕ) (k : Key) : Type 0 where
  pub far : IsLeast ks l u k
  pub less : v < u
  pub first : v ≡ k.a
  pub core : IsCore ks l v k

-- a node's own choice is its way up at the next level, or a core whose lesser end it is
module _ (g : Shape) (ok : IsGraph g) (l v u : ℕ) (k : Key) (class : IsOfLevel g.keys (suc l) v) (ends : AreEnds v u k)
    (least : IsLeast g.keys l v k) where
  ordered : k.a < k.b
  ordered = (link_among g ok k least.link).1

  swapped : AreEnds u v k
  swapped = ⊎_elim (λ e. inr (e.1, e.0)) (λ e. inl (e.1, e.0)) ends

  far_is : far_end v k ≡ u
  far_is = far_back u v k ordered swapped

  ends_v : ends_at v k ≡ true
  ends_v = end_there u v k swapped

  both : IsLeast g.keys l u k → IsWayUp g.keys (suc l) v k ⊎ IsMet g.keys l v u k
  both there = ⊎_elim lesser greater ends
    where
      lesser : (v ≡ k.a) × (u ≡ k.b) → IsWayUp g.keys (suc l) v k ⊎ IsMet g.keys l v u k
      lesser e = inr (record {
        far = there;
        less = subst (λ x. x < u) (sym e.0) (subst (λ x. k.a < x) (sym e.1) ordered);
        first = e.0;
        core = record {
          inside = subst (λ x. InClass g.keys (suc l) v x) e.0 Same;
          of_a = subst (λ x. IsLeast g.keys l x k) e.0 least;
          of_b = subst (λ x. IsLeast g.keys l x k) e.1 there;
        };
      })

      greater : (v ≡ k.b) × (u ≡ k.a) → IsWayUp g.keys (suc l) v k ⊎ IsMet g.keys l v u k
      greater e = inl (subst (λ x. IsWayUp g.keys (suc l) x k) (sym e.0)
          (core_up g ok l k (subst (λ x. IsLeast g.keys l x k) e.1 there) (subst (λ x. IsLeast g.keys l x k) e.0 least)))

  pub own_choice : IsWayUp g.keys (suc l) v k ⊎ IsMet g.keys l v u k
  own_choice = ⊎_elim
      (λ same. both (subst (λ (j : Key). IsLeast g.keys l u j) same of_far.1))
      (λ other. inl (chosen_up g ok l v k class least ends_v (λ there.
      other (least_is_one of_far.1 (subst (λ x. IsLeast g.keys l x k) far_is there)))))
      (keys_decided of_far.0 k)
    where
      of_far : (j : Key) × IsLeast g.keys l u j
      of_far = least_out g.keys l u
          (k, least.link, leaves_across k ends least.leaves)
