-- One port of a node becomes a Branch: what the act leaves.
use Rattle.std.proofs.Common.{◌≡◌, ◌≢◌, ℕ, ◌^◌, true, sym, ◌∙◌, ap, subst, subst₂, ⊎_elim, length}
use Rattle.std.proofs.lemmas.Bool.{cases_eq}
use Rattle.ghs_graph.specs.declared.key.Key.{Key}
use Rattle.ghs_node.specs.declared.mark.Mark.TheVariants.{Branch}
use Rattle.ghs_node.specs.declared.message.Phase.TheVariants.{Sleeping}
use Rattle.ghs_node.specs.Words.{Outgoing, is_branch}
use Rattle.peer_network.specs.Network.{Network, At, far, far_port, InNetwork}
use Rattle.peer_network.proofs.lemmas.Wired.{IsWired}
use Rattle.ghs_protocol.specs.Marks.{Leads, Here, Over}
use Rattle.ghs_protocol.specs.Interleavings.{HaveAtLeast}
use Rattle.ghs_protocol.proofs.acts.Many.{many_as}
use Rattle.ghs_protocol.proofs.clauses.Scene.{Seen, Member, Scene, End, end, tree_end, forest, acts}
use Rattle.ghs_protocol.proofs.clauses.Nodes.{NodeFits}
use Rattle.ghs_protocol.proofs.clauses.Fragments.{IsJoinedIn, Names, NamesWithin, LargeFragments, FragmentsJoined, GhostsByFragment}
use Rattle.ghs_protocol.proofs.clauses.Rest.{Alone, Named}
use Rattle.ghs_protocol.proofs.clauses.Whole.{Invariant, NamesOf, LinkFits}
use Rattle.peer_network.proofs.lemmas.Updates.{put_same, put_other}
use Rattle.ghs_protocol.proofs.acts.Ends.{acts_keeps_off}
use Rattle.ghs_protocol.proofs.acts.SameForest.{near', far', node_after}
use Rattle.ghs_protocol.proofs.union.Risen.{tree_named}
use Rattle.ghs_protocol.proofs.union.OneFragment.{Off}

-- x is m with a Branch more
pub record Branches (m x : Member) (b : ℕ) : Type 0 where
  pub fragment : x.fragment ≡ m.fragment
  pub coming : x.coming ≡ m.coming
  pub coming_name : x.coming_name ≡ m.coming_name
  pub mark : x.mark b ≡ Branch
  pub marks : (p : ℕ) → p ≢ b → x.mark p ≡ m.mark p

-- more names at a link
pub link_named : (N N' : ℕ → Key → Type 0) (e f : End) → ((k : Key) → N e.is.fragment k → N' e.is.fragment k) → LinkFits N e f → LinkFits N' e f
link_named N N' e f h l = record { tree = tree_named N N' (tree_end e) (tree_end f) h l.tree; search = l.search; tests = l.tests }

module _ (g : Network) (wired : IsWired g) (u : ℕ) (u_is : InNetwork g u) (b : ℕ) (at : At g u b) (w : Scene) (holds : Invariant g w)
    (x : Member) (own : ℕ → Seen) (ss : Outgoing) (more : Branches (w.at u) x b) where
  abbrev pub grown : Scene
  grown = acts g u x own ss w

  pub at_here : grown.at u ≡ x
  at_here = put_same w.at u x

  pub at_else : (t : ℕ) → t ≢ u → grown.at t ≡ w.at t
  at_else t ne = put_other w.at u t x ne

  -- a fact of a member that x has from m
  same_as : {A : Type 0} (k : Member → A) → k x ≡ k (w.at u) → (t : ℕ) → k (grown.at t) ≡ k (w.at t)
  same_as k e t =
      ⊎_elim (λ (h : t ≡ u). subst (λ y. k (grown.at y) ≡ k (w.at y)) (sym h) (ap k at_here ∙ e)) (λ ne. ap k (at_else t ne)) (cases_eq t u)

  pub fragment_was : (t : ℕ) → (grown.at t).fragment ≡ (w.at t).fragment
  fragment_was t = same_as (λ m. m.fragment) more.fragment t

  pub coming_was : (t : ℕ) → (grown.at t).coming ≡ (w.at t).coming
  coming_was t = same_as (λ m. m.coming) more.coming t

  pub name_was : (t : ℕ) → (grown.at t).coming_name ≡ (w.at t).coming_name
  name_was t = same_as (λ m. m.coming_name) more.coming_name t

  pub mark_else : (t p : ℕ) → ((t ≡ u) × (p ≡ b) → ⊥) → (grown.at t).mark p ≡ (w.at t).mark p
  mark_else t p off =
      ⊎_elim (λ (e : t ≡ u).
      subst (λ y. (grown.at y).mark p ≡ (w.at y).mark p) (sym e) (ap (λ (m : Member). m.mark p) at_here ∙ more.marks p (λ z. off (e, z))))
      (λ ne. ap (λ (m : Member). m.mark p) (at_else t ne))
      (cases_eq t u)

  pub mark_here : (grown.at u).mark b ≡ Branch
  mark_here = ap (λ (m : Member). m.mark b) at_here ∙ more.mark

  pub branch_grows : (t p : ℕ) → is_branch ((w.at t).mark p) ≡ true → is_branch ((grown.at t).mark p) ≡ true
  branch_grows t p e =
      ⊎_elim (λ (h : t ≡ u). ⊎_elim
      (λ (h' : p ≡ b). subst₂ (λ y z. is_branch ((grown.at y).mark z) ≡ true) (sym h) (sym h') (ap is_branch mark_here))
      (λ ne. ap is_branch (mark_else t p (λ z. ne z.1)) ∙ e)
      (cases_eq p b))
      (λ ne. ap is_branch (mark_else t p (λ z. ne z.0)) ∙ e)
      (cases_eq t u)

  pub joined_grows : (t p : ℕ) → IsJoinedIn g (forest w) t p → IsJoinedIn g (forest grown) t p
  joined_grows t p j = record { here = branch_grows t p j.here; there = branch_grows _ _ j.there }

  -- what a branch more leaves
  pub record GrownAs : Type 0 where
    pub fragment : (t : ℕ) → (grown.at t).fragment ≡ (w.at t).fragment
    pub coming : (t : ℕ) → (grown.at t).coming ≡ (w.at t).coming
    pub name : (t : ℕ) → (grown.at t).coming_name ≡ (w.at t).coming_name
    pub joined : (t p : ℕ) → IsJoinedIn g (forest w) t p → IsJoinedIn g (forest grown) t p

  pub grown_as : GrownAs
  grown_as = record { fragment = fragment_was; coming = coming_was; name = name_was; joined = joined_grows }

  pub joined_was : (t p : ℕ) → Off g u b t p → IsJoinedIn g (forest grown) t p → IsJoinedIn g (forest w) t p
  joined_was t p off j =
      record { here = sym (ap is_branch (mark_else t p off.here)) ∙ j.here; there = sym (ap is_branch (mark_else _ _ off.there)) ∙ j.there }

  pub bridged : (w.at (far g u b)).mark (far_port g u b) ≡ Branch → IsJoinedIn g (forest grown) u b
  bridged far_branch = record { here = ap is_branch mark_here; there = ap is_branch (mark_else _ _ (λ z. wired.apart u b at z.0) ∙ far_branch) }

  pub names_grow : (a : ℕ) (k : Key) → Names g (forest w) a k → Names g (forest grown) a k
  names_grow a k z = record {
    node = z.node;
    port = z.port;
    at = z.at;
    joined = joined_grows _ _ z.joined;
    fragment = fragment_was z.node ∙ z.fragment;
    key = z.key;
  }

  leads_grow : {s t : ℕ} → Leads g (IsJoinedIn g (forest w)) s t → Leads g (IsJoinedIn g (forest grown)) s t
  leads_grow Here = Here
  leads_grow (Over {v = s} p at j r) = Over p at (joined_grows s p j) (leads_grow r)

  pub by_fragment_grown : GhostsByFragment g (forest grown)
  by_fragment_grown s t e =
      let z = holds.trees.by_fragment s t (sym (fragment_was s) ∙ e ∙ fragment_was t) in
      (coming_was s ∙ z.0 ∙ sym (coming_was t), name_was s ∙ z.1 ∙ sym (name_was t))

  pub names_within_grown : NamesWithin g (forest grown)
  names_within_grown = let z = holds.trees.names_within in record {
    none = λ t is e. coming_was t ∙ z.none t is (sym (name_was t) ∙ e);
    at_zero = λ t is e. name_was t ∙ z.at_zero t is (sym (coming_was t) ∙ e);
    inside = λ t k is e. subst (λ a. Names g (forest grown) a k) (sym (fragment_was t)) (names_grow _ k (z.inside t k is (sym (name_was t) ∙ e)));
  }

  pub sizes_grown : LargeFragments g (forest grown)
  sizes_grown t is =
      subst
      (λ k. HaveAtLeast (2 ^ k) (λ s. InNetwork g s × ((grown.at s).fragment ≡ (grown.at t).fragment)))
      (sym (coming_was t))
      (many_as _ (λ s e. (e.0, fragment_was s ∙ e.1 ∙ sym (fragment_was t))) (holds.trees.sizes t is))

  pub within_grown : (t p : ℕ) → At g t p → Off g u b t p → IsJoinedIn g (forest grown) t p → (grown.at t).fragment ≡ (grown.at (far g t p)).fragment
  within_grown t p at' off j = fragment_was t ∙ holds.trees.joined_within t p at' (joined_was t p off j) ∙ sym (fragment_was (far g t p))

  pub connected_grown : FragmentsJoined g (forest grown)
  connected_grown s t is it e = leads_grow (holds.trees.connected s t is it (sym (fragment_was s) ∙ e ∙ fragment_was t))

  pub alone_grown : (x.head.phase ≢ Sleeping) → Alone g grown
  alone_grown awake t s it is asleep same =
      ⊎_elim (λ (h : t ≡ u).
      absurd (awake (ap (λ (m : Member). m.head.phase) (sym at_here) ∙ subst (λ y. (grown.at y).head.phase ≡ Sleeping) h asleep)))
      (λ ne.
      holds.alone t s it is (ap (λ (m : Member). m.head.phase) (sym (at_else t ne)) ∙ asleep) (sym (fragment_was s) ∙ same ∙ fragment_was t))
      (cases_eq t u)

  pub named_grown : x.head.name ≡ (w.at u).head.name → Named g grown
  named_grown same t k it e =
      subst (λ a. Names g (forest grown) a k) (sym (fragment_was t))
      (names_grow _ k (holds.named t k it (sym (same_as (λ m. m.head.name) same t) ∙ e)))

  pub nodes_grown : NodeFits (length (g.ports u)) x → (t : ℕ) → InNetwork g t → NodeFits (length (g.ports t)) (grown.at t)
  nodes_grown here = node_after g wired u u_is x own ss w NodeFits holds.nodes here

  -- the links off the new one, where those of u are seen to
  pub links_grown : ((i : ℕ) → At g u i → i ≢ b → LinkFits (NamesOf g w) (near' g wired u u_is x own ss w i) (far' g wired u u_is x own ss w i)) →
      ((i : ℕ) → At g u i → i ≢ b → LinkFits (NamesOf g w) (far' g wired u u_is x own ss w i) (near' g wired u u_is x own ss w i)) →
      (t p : ℕ) → At g t p →
      Off g u b t p →
      LinkFits (NamesOf g grown) (end g grown t p) (end g grown (far g t p) (far_port g t p))
  links_grown near away t p at' off =
      acts_keeps_off g wired u u_is.some u_is.node x own ss w (LinkFits (NamesOf g grown)) b
      (λ s q at'' ne ne'. link_named (NamesOf g w) (NamesOf g grown) _ _ (λ k z. names_grow _ k z) (holds.links s q at''))
      (λ i at'' ne. link_named (NamesOf g w) (NamesOf g grown) _ _ (λ k z. names_grow _ k z) (near i at'' ne))
      (λ i at'' ne. link_named (NamesOf g w) (NamesOf g grown) _ _ (λ k z. names_grow _ k z) (away i at'' ne)) t p at' off.here off.there
