-- A Connect of a lower level is absorbed: what is always under way.
use Rattle.std.proofs.Common.{◌≡◌, ◌≢◌, ℕ, ◌<◌, Some, List, [], ◌∷◌, refl, sym, ◌∙◌, ap, subst, subst₂, ⊎_elim, ◌⊎◌, inl, inr}
use Rattle.std.proofs.lemmas.Bool.{cases_eq}
use Rattle.ghs_graph.specs.declared.key.Key.{Key}
use Rattle.ghs_node.specs.declared.mark.Mark.TheVariants.{Branch}
use Rattle.ghs_node.specs.Words.{is_branch}
use Rattle.ghs_node.specs.declared.message.Phase.TheVariants.{Sleeping}
use Rattle.ghs_node.specs.declared.message.Message.{Message}
use Rattle.ghs_node.specs.declared.message.Message.TheVariants.{Connect, Initiate}
use Rattle.peer_network.specs.Network.{Network, At, far, far_port, InNetwork}
use Rattle.peer_network.specs.Updates.{put}
use Rattle.ghs_protocol.proofs.clauses.Scene.{Seen, Member, Scene, end, acts}
use Rattle.ghs_protocol.proofs.clauses.Changes.{left_tree, seen_beyond, took_child}
use Rattle.ghs_protocol.proofs.clauses.Wiring.{Ground}
use Rattle.ghs_protocol.proofs.clauses.Uniting.{absorb}
use Rattle.ghs_protocol.proofs.clauses.Whole.{Invariant}
use Rattle.ghs_protocol.proofs.clauses.UnderWay.{IsCore, Lives}
use Rattle.peer_network.proofs.lemmas.Updates.{put_same, put_other, put_alike}
use Rattle.ghs_protocol.proofs.acts.OneLink.{sends_one}
use Rattle.ghs_protocol.proofs.union.Absorb.{absorbs_in, came, below, way_not}
use Rattle.ghs_protocol.proofs.tests.UnderWay.{touches_lives, near_asks, far_asks, near_brought, far_brought, near_heard, far_heard, brought_by_call}
use Rattle.ghs_protocol.proofs.union.UnderWay.{united_lives}
use Rattle.ghs_protocol.proofs.union.Lower.{SameParts, same_parts, below_coming}

module _ (g : Network) (ground : Ground g) (u : ℕ) (u_is : InNetwork g u) (w : Scene) (holds : Invariant g w) (lives : Lives g w)
    (j : ℕ) (at : At g u j) (ms : List Message) (l : ℕ) (k : Key) (waits : (w.seen u j).tree ≡ Connect l ∷ ms)
    (less : l < (w.at u).head.level) (name : (w.at u).head.name ≡ Some k)
    (awake : (w.at u).head.phase ≢ Sleeping) where
  abbrev x : Member
  x = took_child (w.at u) j

  abbrev q : Seen
  q = record (w.seen u j) { tree = ms }

  abbrev call : Message
  call = Initiate (w.at u).head.level k (w.at u).head.phase

  abbrev grown : Scene
  grown = acts g u (took_child (w.at u) j) (left_tree w u j ms) ((j, Initiate (w.at u).head.level k (w.at u).head.phase) ∷ []) w

  open came g ground u u_is w holds j at ms l k waits less name awake use {under}

  no_way : (w.at u).up ≢ Some j
  no_way = way_not g ground u u_is w holds j at ms l k waits less name awake

  was : (i : ℕ) → i ≢ j → put (w.at u).mark j Branch i ≡ Branch → (w.at u).mark i ≡ Branch
  was i ne e = sym (put_other (w.at u).mark j i Branch ne) ∙ e

  grown_lives : Lives g grown
  grown_lives =
      touches_lives g ground.wired u u_is x j at q (call ∷ []) ((j, call) ∷ []) (sends_one j call) w lives (
        near_asks g ground.wired u u_is j at w holds lives j at,
        far_asks g ground.wired u u_is j at w holds lives j at,
        (λ i at' ne. near_asks g ground.wired u u_is j at w holds lives i at'),
        (λ i at' ne. far_asks g ground.wired u u_is j at w holds lives i at'),
      ) (
        (λ c. absurd (no_way c.2)),
        (λ c. brought_by_call (seen_beyond g w u j).tree (w.at (far g u j)).head.level (w.at u).head.level k (w.at u).head.phase),
        (λ i at' ne c. near_brought g ground.wired u u_is j at w holds lives i at' (was i ne c.0, c.1, c.2, c.3)),
        (λ i at' ne c. far_brought g ground.wired u u_is j at w holds lives i at' (c.0, was i ne c.1, c.2, c.3)),
      ) (
        (λ c. absurd (no_way c.2)),
        (λ c. absurd (no_way c.3)),
        (λ i at' ne c. near_heard g ground.wired u u_is j at w holds lives i at' (was i ne c.0, c.1, c.2, c.3, c.4)),
        (λ i at' ne c. far_heard g ground.wired u u_is j at w holds lives i at' (c.0, was i ne c.1, c.2, c.3, c.4)),
      )

  same : SameParts w grown
  same = same_parts g u x (left_tree w u j ms) ((j, call) ∷ []) w refl refl refl refl

  -- a Branch afterwards was one, but for u's at j
  branch_was : (t p : ℕ) → ((t ≡ u) × (p ≡ j) → ⊥) → (grown.at t).mark p ≡ Branch → (w.at t).mark p ≡ Branch
  branch_was t p off e =
      ⊎_elim (λ h.
      subst (λ y. (w.at y).mark p ≡ Branch) (sym h)
      (was p (λ z. off (h, z)) (ap (λ (m : Member). m.mark p) (sym (put_same w.at u x)) ∙ subst (λ y. (grown.at y).mark p ≡ Branch) h e)))
      (λ ne. ap (λ (m : Member). m.mark p) (sym (put_other w.at u t x ne)) ∙ e) (cases_eq t u)

  -- a core link lies in one fragment already
  core_alike : (t p : ℕ) →
      At g t p →
      IsCore (end g grown t p) (end g grown (far g t p) (far_port g t p)) →
      (grown.at (far g t p)).coming ≡ (grown.at t).coming
  core_alike t p at' c =
      same.coming (far g t p) ∙
      (holds.trees.by_fragment (far g t p) t (sym (holds.trees.joined_within t p at' (record {
        here =
            ap is_branch
            (branch_was t p (λ z.
            no_way (subst₂ (λ a b. (w.at a).up ≡ Some b) z.0 z.1 (sym (put_alike (λ (m : Member). m.up) w.at u x refl t) ∙ c.2)))
            c.0);
        there =
            ap is_branch
            (branch_was (far g t p) (far_port g t p) (λ z.
            no_way (subst₂ (λ a b. (w.at a).up ≡ Some b) z.0 z.1 (sym (put_alike (λ (m : Member). m.up) w.at u x refl (far g t p)) ∙ c.3))) c.1);
      })))).0 ∙
      sym (same.coming t)

  low : (t : ℕ) → InNetwork g t → ((grown.at t).fragment ≡ (grown.at (far g u j)).fragment) ⊎ ((grown.at t).fragment ≡ (grown.at u).fragment) →
      ((grown.at t).head.level < (grown.at u).coming) ⊎
      (((grown.at t).coming ≡ (grown.at u).coming) × ((grown.at t).coming_name ≡ (grown.at u).coming_name) ×
      ((p : ℕ) → At g t p →
      IsCore (end g grown t p) (end g grown (far g t p) (far_port g t p)) →
      (grown.at (far g t p)).coming ≡ (grown.at t).coming))
  low t it i =
      ⊎_elim inl (λ z. inr (z.0, z.1, core_alike t))
      (below_coming g w grown holds same u j under u_is (below g ground u u_is w holds j at ms l k waits less name awake) t it i)

  pub absorbs_lives :
      Lives g
      (absorb g u j (acts g u (took_child (w.at u) j) (left_tree w u j ms) ((j, Initiate (w.at u).head.level k (w.at u).head.phase) ∷ []) w))
  absorbs_lives =
      united_lives g grown grown_lives (grown.at (far g u j)).fragment (grown.at u).fragment (grown.at u).coming (grown.at u).coming_name low
      (absorbs_in g ground u u_is w holds j at ms l k waits less name awake)
