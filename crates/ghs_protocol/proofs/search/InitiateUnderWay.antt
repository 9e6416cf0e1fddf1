-- An Initiate is heard and passed on: what is always under way.
use Rattle.std.proofs.Common.{◌≡◌, ◌≢◌, ℕ, Option, Some, None, List, [], ◌∷◌, ◌++◌, length, refl, sym, ◌∙◌, ap, subst, arith, cond}
use Rattle.ghs_graph.specs.declared.key.Key.{Key}
use Rattle.ghs_node.specs.declared.mark.Mark.{Mark}
use Rattle.ghs_node.specs.declared.mark.Mark.TheVariants.{Branch}
use Rattle.ghs_node.specs.Words.{is_find, Outgoing, on_branches}
use Rattle.ghs_node.specs.declared.message.Phase.{Phase}
use Rattle.ghs_node.specs.declared.message.Phase.TheVariants.{Find, Found}
use Rattle.ghs_node.specs.declared.message.Message.{Message}
use Rattle.ghs_node.specs.declared.message.Message.TheVariants.{Initiate}
use Rattle.peer_network.specs.Network.{Network, At, far, far_port, InNetwork}
use Rattle.peer_network.proofs.lemmas.Wired.{IsWired}
use Rattle.ghs_protocol.proofs.clauses.Scene.{Seen, Member, Scene, End, tree_end, end, acts, far_end}
use Rattle.ghs_protocol.proofs.clauses.Changes.{left_tree, seen_beyond, took_initiate}
use Rattle.ghs_protocol.proofs.clauses.TreeMessages.{CoreFits}
use Rattle.ghs_protocol.proofs.clauses.Rest.{has_report}
use Rattle.ghs_protocol.proofs.clauses.Uniting.{MarksAre}
use Rattle.ghs_protocol.proofs.clauses.Whole.{Invariant}
use Rattle.ghs_protocol.proofs.clauses.UnderWay.{Answering, ProbeAsks, brought_to, ChildBrought, IsCore, CoreHeard, Lives}
use Rattle.ghs_protocol.proofs.acts.Ends.{acts_keeps}
use Rattle.ghs_protocol.proofs.search.Initiate as initiating
use Rattle.ghs_protocol.proofs.rows.Link.{link_fits, not_the_way}
use Rattle.ghs_protocol.proofs.search.InitiateFloors.{core_searches}
use Rattle.ghs_protocol.proofs.tests.UnderWay.{dropped, far_asks, near_brought, far_heard, brought_by_call}

module _ (g : Network) (wired : IsWired g) (u : ℕ) (u_is : InNetwork g u) (j : ℕ) (at : At g u j) (w : Scene) (holds : Invariant g w)
    (lives : Lives g w) (l : ℕ) (n : Key) (s : Phase) (ms : List Message) (xs : List Mark) (marks : MarksAre g u (w.at u) xs)
    (waits : (w.seen u j).tree ≡ Initiate l n s ∷ ms) (o : Option ℕ) (quit : o ≡ None) (count : ℕ)
    (counts : ◌≡◌ {A = ℕ} (w.at u).head.find_count 0 → count ≡ cond (is_find s) (length (on_branches xs j (Initiate l n s))) 0) where
  abbrev hearer : Member
  hearer = took_initiate (w.at u) l n s j o count

  abbrev own : ℕ → Seen
  own = left_tree w u j ms

  abbrev passing : Outgoing
  passing = on_branches xs j (Initiate l n s)

  open initiating.call g wired u u_is j at w holds l n s ms xs marks waits o quit count counts use {up as call_up}

  -- a fact of all links
  initiates :
      (P : End → End → Type 0) → ((v p : ℕ) → At g v p → P (end g w v p) (end g w (far g v p) (far_port g v p))) →
      P (record (end g w u j) { is = hearer; seen = record (w.seen u j) { tree = ms } }) (far_end g w u j) →
      P (far_end g w u j) (record (end g w u j) { is = hearer; seen = record (w.seen u j) { tree = ms } }) →
      ((i : ℕ) → At g u i →
      i ≢ j →
      (t : List Message) →
      P (record (end g w u i) { is = hearer }) (record (far_end g w u i) { seen = record (seen_beyond g w u i) { tree = t } })) →
      ((i : ℕ) → At g u i →
      i ≢ j →
      (t : List Message) → ((w.at u).mark i ≡ Branch → t ≡ (seen_beyond g w u i).tree ++ Initiate l n s ∷ []) →
      P (record (far_end g w u i) { seen = record (seen_beyond g w u i) { tree = t } }) (record (end g w u i) { is = hearer })) →
      (v p : ℕ) → At g v p → P (end g (acts g u hearer own passing w) v p) (end g (acts g u hearer own passing w) (far g v p) (far_port g v p))
  initiates P all hit hit' miss miss' =
      acts_keeps g wired u u_is.some u_is.node hearer own passing w P all
      (initiating.by_port_at g wired u u_is j at w holds l n s ms xs marks waits o quit count counts (λ i e f. P e f) hit
      (λ i at' ne m. miss i at' ne _) (λ i at' ne m. miss i at' ne _))
      (initiating.by_port_at g wired u u_is j at w holds l n s ms xs marks waits o quit count counts (λ i e f. P f e) hit'
      (λ i at' ne m. miss' i at' ne _ (λ z. refl))
      (λ i at' ne m. miss' i at' ne _ (λ z. absurd (m z))))

  unprobed : (i : ℕ) → o ≡ Some i → ⊥
  unprobed i e = let z = sym quit ∙ e in cc

  left_asks : (i : ℕ) →
      At g u i →
      (w.at (far g u i)).head.probe ≡ Some (far_port g u i) →
      Answering (w.seen u i).tests (seen_beyond g w u i).accepts (seen_beyond g w u i).rejects (seen_beyond g w u i).tests o i
  left_asks i at' theirs =
      subst
      (λ y. Answering (w.seen u i).tests (seen_beyond g w u i).accepts (seen_beyond g w u i).rejects (seen_beyond g w u i).tests y i)
      (sym quit)
      (dropped _ _ _ _ (w.at u).head.probe i (far_asks g wired u u_is j at w holds lives i at' theirs))

  -- over the core it begins a search
  core_finds : IsCore (end g w u j) (far_end g w u j) → s ≡ Find
  core_finds c =
      let q : CoreFits (tree_end (end g w u j)) (tree_end (far_end g w u j)) = (link_fits g wired w holds u j at).tree.core_queues
      (record { both = record { joins = record { here = c.0; there = c.1 }; up = c.2; up_beyond = c.3 }; named = c.4 }) in
      core_searches (tree_end (end g w u j)) (tree_end (far_end g w u j)) l n s ms q.here q.there waits q.queue

  -- who isn't at its coming level has heard nothing
  low : (w.at u).head.level ≡ (w.at u).coming → ⊥
  low e =
      let c = initiating.call g wired u u_is j at w holds l n s ms xs marks waits o quit count counts in
      let a = c.rises in
      let b = c.most in
      omega (arith, a, b, e)

  pub initiates_lives : Lives g (acts g u (took_initiate (w.at u) l n s j o count) (left_tree w u j ms) (on_branches xs j (Initiate l n s)) w)
  initiates_lives = record {
    asks =
        initiates ProbeAsks lives.asks (λ z. absurd (unprobed j z)) (left_asks j at) (λ i at' ne t z. absurd (unprobed i z))
        (λ i at' ne t is. left_asks i at');
    brought =
        initiates ChildBrought lives.brought
        (λ c. ap (brought_to (w.at u).head.level) (sym waits) ∙ near_brought g wired u u_is j at w holds lives j at c)
        (λ c. absurd (c.3 call_up)) (λ i at' ne t c. absurd (not_the_way call_up i ne c.2))
        (λ i at' ne t is c.
        ap (brought_to (w.at (far g u i)).head.level) (is c.1) ∙ brought_by_call (seen_beyond g w u i).tree (w.at (far g u i)).head.level l n s);
    heard =
        initiates CoreHeard lives.heard
        (λ c t f r. absurd (let z = core_finds c in let y : s ≡ Found = f in cc (z, y)))
        (λ c t f r. absurd (low (far_heard g wired u u_is j at w holds lives j at c t f (ap has_report waits ∙ r)).top))
        (λ i at' ne t c. absurd (not_the_way call_up i ne c.2))
        (λ i at' ne t is c. absurd (not_the_way call_up i ne c.3));
  }
