-- A core link at whose ends each tree message waits: both ends have begun at the level of the core.
use Rattle.std.proofs.Common.{◌≡◌, ◌≢◌, ℕ, ◌≤◌, Option, Some, List, [], ◌∷◌, ◌++◌, refl, sym, ◌∙◌, subst, ◌⊎◌, inl, inr}
use Rattle.std.specs.Prelude.{⊤}
use Rattle.ghs_graph.specs.declared.key.Key.{Key}
use Rattle.ghs_node.specs.declared.mark.Mark.TheVariants.{Basic, Branch}
use Rattle.ghs_node.specs.declared.message.Phase.TheVariants.{Sleeping, Find}
use Rattle.ghs_node.specs.declared.message.Message.{Message}
use Rattle.ghs_node.specs.declared.message.Message.TheVariants.{Connect, Initiate, Test, Accept, Reject, Report, ChangeRoot}
use Rattle.peer_network.specs.Network.{Network, port_at, far, far_port}
use Rattle.ghs_protocol.proofs.clauses.Scene.{Scene, Member, TreeEnd, end, tree_end, forest}
use Rattle.ghs_protocol.proofs.clauses.Links.{Mutual}
use Rattle.ghs_protocol.proofs.clauses.TreeMessages.{CoreFits, CoreQueue, Plain, With_report, Stage, Asking, Called, Begun, AtStage, asked, called, MovedFits, To_here, To_there}
use Rattle.ghs_protocol.proofs.clauses.Whole.{Invariant}
use Rattle.ghs_protocol.proofs.search.FirstReport.{key_is}
use Rattle.ghs_protocol.proofs.progress.Halves.{RootLink}
use Rattle.ghs_protocol.proofs.clauses.Nodes.{IsAtTop}
use Rattle.ghs_node.proofs.lemmas.{branch_mark}

-- a tree message waits
abbrev pub tree_waits : Member → ℕ → Message → Type 0
tree_waits m p (Connect l) = (m.head.phase ≢ Sleeping) × (m.head.level ≤ l) × (m.mark p ≡ Basic)
tree_waits m p (Report k) = (m.head.in_branch ≡ Some p) × (m.head.phase ≡ Find)
tree_waits m p (Initiate l f s) = Prim.⊥
tree_waits m p ChangeRoot = Prim.⊥
tree_waits m p (Test l f) = Prim.⊥
tree_waits m p Accept = Prim.⊥
tree_waits m p Reject = Prim.⊥

abbrev pub AllOf : (Message → Type 0) → List Message → Type 0
AllOf P [] = ⊤
AllOf P (x ∷ xs) = (P x) × AllOf P xs

pub first_of : (P : Message → Type 0) (x : Message) (xs ys : List Message) → ys ≡ x ∷ xs → AllOf P ys → P x
first_of P x xs ys e a = let z : AllOf P (x ∷ xs) = subst (AllOf P) e a in z.0

-- the link is the core that its ends' fragment is named after, and both have its level
pub record BegunCore (g : Network) (w : Scene) (a j : ℕ) : Type 0 where
  pub link : RootLink g (forest w) a j
  pub named : (w.at a).coming_name ≡ Some (port_at g a j).key
  pub top : IsAtTop (w.at a)
  pub top' : IsAtTop (w.at (far g a j))

-- no Connect and no Initiate stands in a queue of the core
none_asked : (x : Member) (p l v : ℕ) (n : Key) (s t : Stage) →
    x.mark p ≡ Branch →
    AllOf (tree_waits x p) (asked l t ++ called v n s) →
    (s ≢ Called) × (t ≢ Asking)
none_asked x p l v n s Asking b h =
    absurd (let z : (x.head.phase ≢ Sleeping) × (x.head.level ≤ l) × (x.mark p ≡ Basic) = h.0 in let y : Branch ≡ Basic = sym b ∙ z.2 in cc)
none_asked x p l v n Called Called b h = elim h.0 [ ]
none_asked x p l v n Called Begun b h = elim h.0 [ ]
none_asked x p l v n Asking Called b h = ((λ z. cc), (λ z. cc))
none_asked x p l v n Asking Begun b h = ((λ z. cc), (λ z. cc))
none_asked x p l v n Begun Called b h = ((λ z. cc), (λ z. cc))
none_asked x p l v n Begun Begun b h = ((λ z. cc), (λ z. cc))

not_called : (x : Member) (p v : ℕ) (n : Key) (s : Stage) (k : Option Key) → AllOf (tree_waits x p) (called v n s ++ Report k ∷ []) → s ≢ Called
not_called x p v n Called k h = elim h.0 [ ]
not_called x p v n Asking k h = λ z. cc
not_called x p v n Begun k h = λ z. cc

begun_not_asking : (t : Stage) → t ≡ Begun → t ≢ Asking
begun_not_asking t e h = let z : Begun ≡ Asking = sym e ∙ h in cc

-- one end's queue: that end hasn't been called, and the other one doesn't ask
queue_begun : (x : Member) (p : ℕ) (e f : TreeEnd) (s t : Stage) →
    x.mark p ≡ Branch →
    AllOf (tree_waits x p) e.tree →
    CoreQueue e f s t →
    (s ≢ Called) × (t ≢ Asking)
queue_begun x p e f s t b all (Plain q) = none_asked x p f.level e.coming e.key s t b (subst (AllOf (tree_waits x p)) q all)
queue_begun x p e f s t b all (With_report k q y c d) =
    (not_called x p e.coming e.key s k (subst (AllOf (tree_waits x p)) q all), begun_not_asking t y)

module _ (g : Network) (w : Scene) (holds : Invariant g w) (a j : ℕ) (r : RootLink g (forest w) a j)
    (near : AllOf (tree_waits (w.at a) j) (w.seen a j).tree)
    (away : AllOf (tree_waits (w.at (far g a j)) (far_port g a j)) (w.seen (far g a j) (far_port g a j)).tree) where
  abbrev e0 : TreeEnd
  e0 = tree_end (end g w a j)

  abbrev f0 : TreeEnd
  f0 = tree_end (end g w (far g a j) (far_port g a j))

  both : Mutual e0 f0
  both = record { joins = record { here = branch_mark _ r.joined.here; there = branch_mark _ r.joined.there }; up = r.up; up_beyond = r.up_beyond }

  -- no ChangeRoot is under way
  is_named : ((w.at a).coming_name ≡ Some (port_at g a j).key) ⊎ ((w.at a).coming_name ≢ Some (port_at g a j).key) →
      (w.at a).coming_name ≡ Some (port_at g a j).key
  is_named (inl named) = named
  is_named (inr ne) = absurd (moves ((holds.links a j r.at).tree.moved_root (record { both = both; unnamed = ne })))
    where
      moves : MovedFits e0 f0 → ⊥
      moves (To_here x) = first_of (tree_waits (w.at a) j) ChangeRoot [] _ x.queue near
      moves (To_there x) = first_of (tree_waits (w.at (far g a j)) (far_port g a j)) ChangeRoot [] _ x.queue away

  at_stages : (x y : Stage) → AtStage e0 x → AtStage f0 y → x ≢ Called → x ≢ Asking → y ≢ Called → y ≢ Asking →
      (e0.level ≡ e0.coming) × (f0.level ≡ f0.coming)
  at_stages Begun Begun p c h i k l = (p, c)
  at_stages Called y p c h i k l = absurd (h refl)
  at_stages Asking y p c h i k l = absurd (i refl)
  at_stages Begun Called p c h i k l = absurd (k refl)
  at_stages Begun Asking p c h i k l = absurd (l refl)

  pub both_begun : BegunCore g w a j
  both_begun =
      let named = is_named (key_is (w.at a).coming_name (port_at g a j).key) in
      let z : CoreFits e0 f0 = (holds.links a j r.at).tree.core_queues (record { both = both; named = named }) in
      let x = queue_begun (w.at a) j e0 f0 z.here z.there both.joins.here near z.queue in
      let y = queue_begun (w.at (far g a j)) (far_port g a j) f0 e0 z.there z.here both.joins.there away z.queue_beyond in
      let both_top = at_stages z.here z.there z.at_here z.at_there x.0 y.1 y.0 x.1 in
      record { link = r; named = named; top = both_top.0; top' = both_top.1 }
