-- A sleeping node wakes: what is always under way.
use Rattle.std.proofs.Common.{◌≡◌, ◌≢◌, ℕ, suc, Some, [], ◌∷◌, refl, sym, ◌∙◌, subst, inl}
use Rattle.ghs_node.specs.declared.mark.Mark.TheVariants.{Branch}
use Rattle.ghs_node.specs.Words.{Outgoing}
use Rattle.ghs_node.specs.declared.message.Phase.TheVariants.{Sleeping}
use Rattle.ghs_node.specs.declared.message.Message.TheVariants.{Connect}
use Rattle.peer_network.specs.Network.{Network, port_at, At, far, far_port, InNetwork}
use Rattle.peer_network.proofs.lemmas.Wired.{IsWired}
use Rattle.ghs_protocol.proofs.clauses.Scene.{Member, Scene, acts}
use Rattle.ghs_protocol.proofs.clauses.Changes.{awakened}
use Rattle.ghs_protocol.proofs.clauses.Wiring.{Ground}
use Rattle.ghs_protocol.proofs.clauses.Uniting.{meet}
use Rattle.ghs_protocol.proofs.clauses.Whole.{Invariant}
use Rattle.ghs_protocol.proofs.clauses.UnderWay.{Lives}
use Rattle.ghs_protocol.proofs.acts.OneLink.{sends_one}
use Rattle.ghs_protocol.proofs.acts.Reactions.{put_again}
use Rattle.ghs_protocol.proofs.rows.Link.{connect_comes}
use Rattle.ghs_protocol.proofs.wake.Inward.{wakes_meeting, waking}
use Rattle.ghs_protocol.proofs.tests.UnderWay.{touches_lives, near_asks, far_asks}
use Rattle.ghs_protocol.proofs.union.UnderWay.{no_name, united_lives}
use Rattle.ghs_protocol.proofs.union.Lower.{SameParts, same_parts, below_new}

module _ (g : Network) (wired : IsWired g) (u : ℕ) (u_is : InNetwork g u) (w : Scene) (holds : Invariant g w) (lives : Lives g w)
    (at : At g u 0) (sleeps : (w.at u).head.phase ≡ Sleeping) where
  abbrev x : Member
  x = awakened (w.at u)

  abbrev ss : Outgoing
  ss = (0, Connect 0) ∷ []

  abbrev woken : Scene
  woken = acts g u (awakened (w.at u)) (w.seen u) ((0, Connect 0) ∷ []) w

  is : InNetwork g u
  is = u_is

  open waking g wired u u_is w holds at sleeps use {fresh, plain}

  -- no node is a child over the link, and it hasn't the coming name
  woken_lives :
      ((w.at (far g u 0)).mark (far_port g u 0) ≡ Branch → (w.at (far g u 0)).up ≡ Some (far_port g u 0)) →
      ((w.at (far g u 0)).mark (far_port g u 0) ≡ Branch → (w.at u).coming_name ≢ Some (port_at g u 0).key) →
      ((w.at (far g u 0)).mark (far_port g u 0) ≡ Branch → (w.at (far g u 0)).coming_name ≢ Some (port_at g u 0).key) → Lives g woken
  woken_lives unchild unnamed unnamed' =
      subst (λ q. Lives g (acts g u x q ss w)) (put_again (w.seen u) 0)
      (touches_lives g wired u u_is x 0 at (w.seen u 0) (Connect 0 ∷ []) ss (sends_one 0 (Connect 0)) w lives (
        near_asks g wired u u_is 0 at w holds lives 0 at,
        far_asks g wired u u_is 0 at w holds lives 0 at,
        (λ i at' ne. near_asks g wired u u_is 0 at w holds lives i at'),
        (λ i at' ne. far_asks g wired u u_is 0 at w holds lives i at'),
      ) (
        (λ c. absurd (c.3 (unchild c.1))),
        (λ c. absurd (c.3 refl)),
        (λ i at' ne c. absurd (plain i ne c.0)),
        (λ i at' ne c. absurd (plain i ne c.1)),
      ) (
        (λ c. absurd (unnamed c.1 c.4)),
        (λ c. absurd (unnamed' c.0 c.4)),
        (λ i at' ne c. absurd (plain i ne c.0)),
        (λ i at' ne c. absurd (plain i ne c.1)),
      ))

  -- nobody has connected over the link
  pub wakes_out_lives : (w.at (far g u 0)).mark (far_port g u 0) ≢ Branch → Lives g (acts g u (awakened (w.at u)) (w.seen u) ((0, Connect 0) ∷ []) w)
  wakes_out_lives free = woken_lives (λ e. absurd (free e)) (λ e. absurd (free e)) (λ e. absurd (free e))

  -- the far end's Connect has come in
  module _ (ground : Ground g) (met : (w.at (far g u 0)).mark (far_port g u 0) ≡ Branch) where
    same : SameParts w woken
    same = same_parts g u x (w.seen u) ss w refl refl refl (sym fresh.level)

    woken_met : Lives g woken
    woken_met =
        let came = connect_comes g wired w holds u 0 at met (fresh.marks 0) in
        woken_lives (λ e. came.up) (λ e. no_name g ground.keyed w holds u 0 at (fresh.marks 0) u is)
        (λ e.
        no_name g ground.keyed w holds u 0 at (fresh.marks 0) (far g u 0)
        (let z = wired.there u 0 at in record { some = z.some; node = z.node }))

    pub wakes_meeting_lives : Lives g (meet g u 0 (acts g u (awakened (w.at u)) (w.seen u) ((0, Connect 0) ∷ []) w))
    wakes_meeting_lives =
        let came = connect_comes g wired w holds u 0 at met (fresh.marks 0) in
        united_lives g woken woken_met (woken.at (far g u 0)).fragment (woken.at u).fragment (suc (woken.at u).head.level)
        (Some (port_at g u 0).key)
        (λ t it i. inl (below_new g w woken holds same u 0 came (fresh.level ∙ sym fresh.coming) t it i))
        (wakes_meeting g wired u u_is w holds at sleeps ground met)
