-- Branch links lie in the minimum spanning forest and Inside links don't; where a node has halted, its component is whole.
use Rattle.std.proofs.Common.{◌≡◌, ℕ, zero, suc, inl, inr, List, refl, sym, ◌∙◌, ap, subst, arith}
use Rattle.std.specs.List.{Contains}
use Rattle.ghs_graph.specs.declared.key.Key.{Key}
use Rattle.ghs_graph.specs.Graph.{Shape}
use Rattle.ghs_graph.specs.Links.{Joined, Over, Same, links, InTree}
use Rattle.ghs_graph.specs.Ports.{far_end}
use Rattle.ghs_graph.proofs.lemmas.Joining.{joined_then, joined_back}
use Rattle.ghs_graph.proofs.lemmas.Ports.{ends_a, far_end_a}
use Rattle.peer_network.specs.Network.{network_of, port_at, far, far_port, InNetwork}
use Rattle.boruvka_protocol.specs.Levels.{Taken, InClass, HasWayOut}
use Rattle.boruvka_protocol.specs.WaysUp.{IsTop, IsUp, IsBelow, Here, Up}
use Rattle.boruvka_protocol.proofs.lemmas.Cuts.{taken_in_tree, taken_links}
use Rattle.boruvka_protocol.proofs.lemmas.WaysOut.{way_out_at, inside_is_tree}
use Rattle.boruvka_protocol.proofs.lemmas.WaysUp.{top_at, ways_up_lead_to_top}
use Rattle.peer_machine.specs.Net.{Net}
use Rattle.boruvka_node.specs.declared.message.Message.{Message}
use Rattle.boruvka_node.specs.declared.mark.Mark.TheVariants.{Branch}
use Rattle.boruvka_node.specs.declared.message.Phase.TheVariants.{Rest}
use Rattle.boruvka_node.specs.State.{State}
use Rattle.boruvka_protocol.specs.Marks.{IsBranchLink, IsInsideLink, IsJoinedLink, HasHalted}
use Rattle.boruvka_protocol.specs.Laws.{IsWholeAt}
use Rattle.boruvka_protocol.proofs.invariant.Words.{IsPast, IsWayUp}
use Rattle.boruvka_protocol.proofs.invariant.Sides.{Side}
use Rattle.boruvka_protocol.proofs.invariant.Marks.{MarksFit}
use Rattle.boruvka_protocol.proofs.invariant.Whole.{Holds}
use Rattle.boruvka_protocol.proofs.follows.Cases.{by_branch, not_both}
use Rattle.boruvka_protocol.proofs.follows.Ways.{PortOn, port_on_link, far_by_link, over, ends_from, taken_ordered, had_way_out, in_whole}
use Rattle.boruvka_protocol.proofs.follows.Seen.{SeenAt, SeenBackAt, seen, seen_back, node_fits, joined_in}

-- at rest each taken link is Branch
pub rest_is_branch : (ks : List Key) (l : ℕ) (e f : Side) (heard : ℕ) (q : List Message) → MarksFit ks e f heard q → e.level ≡ l → e.phase ≡ Rest →
    Taken ks l e.key → e.mark ≡ Branch
rest_is_branch ks zero e f heard q m at rest t = absurd t
rest_is_branch ks (suc l) e f heard q m at rest t = by_branch e.mark
    (λ b. b)
    (λ nb. absurd (not_both e.phase (m.late l at (subst (λ x. Taken ks x e.key) (sym at) t) nb).search rest))

module _ (g : Shape) (w : Net State Message) (h : Holds g w) where
  -- each Branch link is in the forest
  pub branch_in_tree : (k : Key) → IsBranchLink (network_of g) w k → InTree g.keys k
  branch_in_tree k b =
      let s = seen g w h b.0 b.1 b.2 in
      subst (λ (x : Key). InTree g.keys x) b.3 (taken_in_tree g.keys _ _ (s.marks.branch b.4))

  -- no Inside link is
  pub inside_aside : (k : Key) → IsInsideLink (network_of g) w k → InTree g.keys k → ⊥
  inside_aside k b t =
      let s = seen g w h b.0 b.1 b.2 in
      (s.marks.inside b.4).1 (subst (λ (x : Key). InTree g.keys x) (sym b.3) t)

  -- node x has come to the end at level l
  pub record Done (l x : ℕ) : Type 0 where
    pub level : (w.node x).head.level ≡ l
    pub rest : (w.node x).head.phase ≡ Rest

  -- In the class of r at level l, which has no way out, r is the top, and done.
  module _ (l r : ℕ) (top : IsTop g.keys l r r) (none : HasWayOut g.keys l r → ⊥) (net : InNetwork (network_of g) r) (done : Done l r) where
    net_at : {u : ℕ} → InClass g.keys l r u → InNetwork (network_of g) u
    net_at inside = joined_in g w h net (taken_links g.keys l inside)

    -- who is past the level here has stayed at it
    past_done : (u : ℕ) → InClass g.keys l r u → IsPast l (w.node u).head.level (w.node u).head.phase → Done l u
    past_done u inside (inl above) = absurd (none (way_out_at g.keys l (joined_back (taken_links g.keys l inside))
        (had_way_out g.keys _ l u (node_fits g w h u (net_at inside) (omega (arith, above))).class above)))
    past_done u inside (inr at) = record { level = at.0; rest = at.1 }

    -- a child is done if its parent is
    child_done : (u : ℕ) (k : Key) → InClass g.keys l r u → IsUp (Taken g.keys l) r u k → Done l (far_end u k) → Done l u
    child_done u k inside up parent =
        let link = seen_back g w h u s.port s.at in
        let key = (port_at (network_of g) (far (network_of g) u s.port) (far_port (network_of g) u s.port)).key in
        let child = subst (λ x. IsWayUp g.keys x u key) (sym d.level) (subst (λ (x : Key). IsWayUp g.keys l u x) (sym s.key ∙ link.wire.same) way) in
        past_done u inside
        (subst (λ x. IsPast x (w.node u).head.level (w.node u).head.phase) d.level ((link.children.child child).rest d.rest).past)
      where
        s : PortOn (network_of g) u k
        s = port_on_link g h.graph u k (taken_in_tree g.keys l k up.link).0 up.ends

        d : Done l (far (network_of g) u s.port)
        d = subst (Done l) (sym (far_by_link g h.graph u s.port s.at ∙ ap (far_end u) s.key)) parent

        way : IsWayUp g.keys l u k
        way = record { root = r; top = top_at g.keys l r _ r inside top; up = up }

    -- so all below r are
    done_below : {u x : ℕ} → IsBelow (Taken g.keys l) r u x → x ≡ r → InClass g.keys l r u → Done l u
    done_below Here e inside = subst (Done l) (sym e) done
    done_below {u} (Up k up rest) e inside = child_done u k inside up (done_below rest e
        (joined_then inside (over k up.link (ends_from k u (taken_ordered g h.graph l k up.link) up.ends))))

    -- which is the component
    pub all_done : (x : ℕ) → Joined (links g.keys) r x → Done l x
    all_done x way =
        let inside = in_whole g.keys l none way in
        done_below (ways_up_lead_to_top g h.graph l x r (top_at g.keys l r _ r inside top)) refl inside

    -- there the links of the forest are Branch at both ends
    tree_is_branch : (k : Key) → Contains g.keys k → Joined (links g.keys) r k.a → InTree g.keys k → IsJoinedLink (network_of g) w k
    tree_is_branch k is way in_tree = (
      k.a,
      s.port,
      s.at,
      s.key,
      rest_is_branch g.keys l _ _ _ _ near.marks here.level here.rest (subst (λ (x : Key). Taken g.keys l x) (sym s.key) t),
      rest_is_branch g.keys l _ _ _ _ back.marks there.level there.rest
          (subst (λ (x : Key). Taken g.keys l x) (sym s.key ∙ back.wire.same) t),
    )
      where
        b_way : Joined (links g.keys) r k.b
        b_way = joined_then way (Over k is Same)

        t : Taken g.keys l k
        t = (inside_is_tree g h.graph l k (joined_then (joined_back (in_whole g.keys l none way)) (in_whole g.keys l none b_way))).1 in_tree

        s : PortOn (network_of g) k.a k
        s = port_on_link g h.graph k.a k is (ends_a k)

        near : SeenAt g w k.a s.port
        near = seen g w h k.a s.port s.at

        back : SeenBackAt g w k.a s.port
        back = seen_back g w h k.a s.port s.at

        here : Done l k.a
        here = all_done k.a way

        there : Done l (far (network_of g) k.a s.port)
        there = subst (Done l) (sym (far_by_link g h.graph k.a s.port s.at ∙ ap (far_end k.a) s.key ∙ far_end_a k)) (all_done k.b b_way)

    pub whole_here : IsWholeAt g w r
    whole_here k is way = (tree_is_branch k is way, branch_in_tree k)

  -- the class of a node that has halted is its component, which is done
  pub halted_done : (v : ℕ) → InNetwork (network_of g) v → HasHalted w v → (x : ℕ) → Joined (links g.keys) v x → Done (w.node v).head.level x
  halted_done v net halted =
      let f = h.fits.tokens.halted v net halted in
      all_done (w.node v).head.level v f.root f.whole net (record { level = refl; rest = f.rest })

  -- and whole
  pub halted_whole : (v : ℕ) → InNetwork (network_of g) v → HasHalted w v → IsWholeAt g w v
  halted_whole v net halted =
      let f = h.fits.tokens.halted v net halted in
      whole_here (w.node v).head.level v f.root f.whole net (record { level = refl; rest = f.rest })
