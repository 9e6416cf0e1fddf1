-- Steps of a node that touch the two queues of one link, and leave the fragments' forest.
use Rattle.std.proofs.Common.{◌≡◌, ◌≢◌, ℕ, ◌+◌, false, List, [], ◌∷◌, refl, sym, ◌∙◌, ap, ap₂, subst, subst₂, ⊎_elim, length, arith, eq-eqb, ne_eqb, ◌≤◌}
use Rattle.std.proofs.lemmas.Bool.{cases_eq}
use Rattle.ghs_node.specs.declared.mark.Mark.TheVariants.{Branch}
use Rattle.ghs_node.specs.Words.{is_branch, Outgoing}
use Rattle.ghs_node.specs.declared.message.Phase.TheVariants.{Sleeping, Found}
use Rattle.ghs_node.specs.declared.message.Message.{Message}
use Rattle.peer_network.specs.Network.{Network, port_at, At, far, far_port, InNetwork}
use Rattle.peer_network.proofs.lemmas.Wired.{IsWired}
use Rattle.peer_network.specs.Updates.{put}
use Rattle.ghs_protocol.specs.Steps.{sent_on}
use Rattle.peer_network.proofs.lemmas.Updates.{put_same, put_other}
use Rattle.peer_network.proofs.lemmas.Sums.{sum_same, sum_one, term_le}
use Rattle.peer_network.specs.Sums.{sum_below}
use Rattle.ghs_protocol.proofs.clauses.Scene.{Seen, adds, Member, Scene, End, end, Forest, forest, acts, far_end}
use Rattle.ghs_protocol.proofs.clauses.Changes.{seen_beyond}
use Rattle.ghs_protocol.proofs.clauses.Nodes.{NodeFits}
use Rattle.ghs_protocol.proofs.clauses.Whole.{LinkFits, Invariant, NamesOf}
use Rattle.ghs_protocol.proofs.clauses.Fragments.{Names}
use Rattle.ghs_protocol.proofs.clauses.Rest.{Quiet, Resting, has_call, debt, DebtsCounted}
use Rattle.ghs_protocol.proofs.acts.SameForest.{Alike, near', far', quiet_after, forest_after, sums_after, kept_after, branch_mark}
use Rattle.peer_network.proofs.lemmas.Wires.{at_in}

-- all that is sent goes out on port j, or nothing
pub record SendsOn (j : ℕ) (ms : List Message) (ss : Outgoing) : Type 0 where
  pub only : sent_on ss j ≡ ms
  pub none : (i : ℕ) → i ≢ j → sent_on ss i ≡ []

pub sends_none : (j : ℕ) → SendsOn j [] []
sends_none j = record { only = refl; none = λ i ne. refl }

pub sends_one : (j : ℕ) (m : Message) → SendsOn j (m ∷ []) ((j, m) ∷ [])
sends_one j m = record { only = rw (eq-eqb j j refl) refl; none = λ i ne. rw (ne_eqb j i (λ e. ne (sym e))) refl }

-- a node's find_count is what its neighbours owe it
pub debts_here : (g : Network) → IsWired g → (w : Scene) → DebtsCounted g w → (u : ℕ) → InNetwork g u →
    (w.at u).head.find_count ≡ sum_below (length (g.ports u)) (λ i. debt (end g w u i) (far_end g w u i))
debts_here g wired w counted u is =
    counted u is ∙
    sum_same (length (g.ports u)) _ _ (λ i lt. ap (debt (end g w u i)) (far_is_end i (record { some = is.some; node = is.node; port = lt })))
  where
    far_is_end : (i : ℕ) → At g u i → end g w (far g u i) (far_port g u i) ≡ far_end g w u i
    far_is_end i at = λ k. record {
      port = far_port g u i;
      key = wired.same_key u i at k;
      mark = (w.at (far g u i)).mark (far_port g u i);
      is = w.at (far g u i);
      seen = seen_beyond g w u i;
    }

-- what one neighbour owes is at most find_count
pub debt_within : (g : Network) → IsWired g → (w : Scene) → DebtsCounted g w → (u i : ℕ) → At g u i →
    debt (end g w u i) (far_end g w u i) ≤ (w.at u).head.find_count
debt_within g wired w counted u i at =
    subst (λ n. debt (end g w u i) (far_end g w u i) ≤ n) (sym (debts_here g wired w counted u (at_in at)))
    (term_le (length (g.ports u)) i (λ p. debt (end g w u p) (far_end g w u p)) at.port)

-- a fact of all links, at the two ends of u's
module _ (g : Network) (wired : IsWired g) (w : Scene) (P : End → End → Type 0)
    (all : (v p : ℕ) → At g v p → P (end g w v p) (end g w (far g v p) (far_port g v p))) (u i : ℕ) (at : At g u i) where
  far_is : end g w (far g u i) (far_port g u i) ≡ far_end g w u i
  far_is = λ k. record {
    port = far_port g u i;
    key = wired.same_key u i at k;
    mark = (w.at (far g u i)).mark (far_port g u i);
    is = w.at (far g u i);
    seen = seen_beyond g w u i;
  }

  pub at_near : P (end g w u i) (far_end g w u i)
  at_near = subst (P (end g w u i)) far_is (all u i at)

  pub at_far : P (far_end g w u i) (end g w u i)
  at_far = subst₂ P far_is (λ k. end g w (wired.back u i at k) (wired.back_port u i at k)) (all _ _ (wired.there u i at))

module _ (g : Network) (wired : IsWired g) (u : ℕ) (u_is : InNetwork g u) (x : Member) (j : ℕ) (at : At g u j) (q : Seen)
    (ms : List Message) (ss : Outgoing) (on : SendsOn j ms ss) (w : Scene) where
  pub own : ℕ → Seen
  own = put (w.seen u) j q

  -- u's ends of a link but j's, and of j's link
  abbrev pub still : ℕ → End
  still i = record { port = i; key = (port_at g u i).key; mark = (x).mark (i); is = x; seen = w.seen u i }

  abbrev pub here : End
  here = record { port = j; key = (port_at g u j).key; mark = (x).mark (j); is = x; seen = q }

  abbrev pub there : End
  there = record (far_end g w u j) { seen = adds (seen_beyond g w u j) ms }

  abbrev pub onto : ℕ → End
  onto i = far_end g w u i

  pub near_still : (i : ℕ) → i ≢ j → near' g wired u u_is x own ss w i ≡ still i
  unfolding own
  near_still i ne = λ k. record { port = i; key = (port_at g u i).key; mark = (x).mark (i); is = x; seen = put_other (w.seen u) j i q ne k }

  pub far_onto : (i : ℕ) → i ≢ j → far' g wired u u_is x own ss w i ≡ onto i
  unfolding own
  far_onto i ne = λ k. record (far_end g w u i) { seen = adds (seen_beyond g w u i) (on.none i ne k) }

  pub near_here : near' g wired u u_is x own ss w j ≡ here
  unfolding own
  near_here = λ k. record { port = j; key = (port_at g u j).key; mark = (x).mark (j); is = x; seen = put_same (w.seen u) j q k }

  pub far_there : far' g wired u u_is x own ss w j ≡ there
  unfolding own
  far_there = λ k. record (far_end g w u j) { seen = adds (seen_beyond g w u j) (on.only k) }

  pub by_port : (P : End → End → Type 0) →
      P here there →
      ((i : ℕ) → At g u i → i ≢ j → P (still i) (onto i)) →
      (i : ℕ) → At g u i →
      P (near' g wired u u_is x own ss w i) (far' g wired u u_is x own ss w i)
  by_port P hit miss i at' =
      ⊎_elim (λ (e : i ≡ j).
      subst
      (λ y. P (near' g wired u u_is x own ss w y) (far' g wired u u_is x own ss w y))
      (sym e) (subst₂ P (sym near_here) (sym far_there) hit))
      (λ ne. subst₂ P (sym (near_still i ne)) (sym (far_onto i ne)) (miss i at' ne))
      (cases_eq i j)

  pub by_port' : (P : End → End → Type 0) →
      P there here →
      ((i : ℕ) → At g u i → i ≢ j → P (onto i) (still i)) →
      (i : ℕ) → At g u i →
      P (far' g wired u u_is x own ss w i) (near' g wired u u_is x own ss w i)
  by_port' P hit miss = by_port (λ e f. P f e) hit miss

  -- a fact of the two ends that names the port
  pub by_port_at : (P : ℕ → End → End → Type 0) →
      P j here there →
      ((i : ℕ) → At g u i → i ≢ j → P i (still i) (onto i)) →
      (i : ℕ) → At g u i →
      P i (near' g wired u u_is x (put (w.seen u) j q) ss w i) (far' g wired u u_is x (put (w.seen u) j q) ss w i)
  unfolding own
  by_port_at P hit miss i at' =
      ⊎_elim (λ (e : i ≡ j).
      subst
      (λ y. P y (near' g wired u u_is x own ss w y) (far' g wired u u_is x own ss w y))
      (sym e) (subst₂ (P j) (sym near_here) (sym far_there) hit))
      (λ ne. subst₂ (P i) (sym (near_still i ne)) (sym (far_onto i ne)) (miss i at' ne))
      (cases_eq i j)

  abbrev pub then : Scene
  then = acts g u x (put (w.seen u) j q) ss w

  -- find_count
  pub sums_one :
      DebtsCounted g w →
      x.head.find_count + debt (end g w u j) (onto j) ≡ (w.at u).head.find_count + debt here there →
      ((i : ℕ) → i ≢ j → debt (still i) (onto i) ≡ debt (end g w u i) (onto i)) →
      debt there here ≡ debt (onto j) (end g w u j) →
      ((i : ℕ) → i ≢ j → debt (onto i) (still i) ≡ debt (onto i) (end g w u i)) →
      DebtsCounted g then
  unfolding own
  sums_one counted count mine hit theirs =
      sums_after g wired u u_is x own ss w counted total
      (λ i at'. ⊎_elim (λ (e : i ≡ j).
      subst
      (λ y. debt (far' g wired u u_is x own ss w y) (near' g wired u u_is x own ss w y) ≡ debt (onto y) (end g w u y))
      (sym e) (ap₂ debt far_there near_here ∙ hit))
      (λ ne. ap₂ debt (far_onto i ne) (near_still i ne) ∙ theirs i ne)
      (cases_eq i j))
    where
      f : ℕ → ℕ
      f i = debt (end g w u i) (onto i)

      h : ℕ → ℕ
      h i = debt (near' g wired u u_is x own ss w i) (far' g wired u u_is x own ss w i)

      one : sum_below (length (g.ports u)) h + f j ≡ sum_below (length (g.ports u)) f + h j
      one = sum_one (length (g.ports u)) j f h at.port (λ i ne. sym (ap₂ debt (near_still i ne) (far_onto i ne) ∙ mine i ne))

      hj : h j ≡ debt here there
      hj = ap₂ debt near_here far_there

      old : (w.at u).head.find_count ≡ sum_below (length (g.ports u)) f
      old = debts_here g wired w counted u u_is

      total : x.head.find_count ≡ sum_below (length (g.ports u)) h
      total = omega (arith, one, hj, old, count)

  -- the clauses of the links that aren't touched, from each end
  abbrev pub AsideNear : Type 0
  AsideNear =
      (i : ℕ) → At g u i → i ≢ j →
      LinkFits (NamesOf g w) (end g w u i) (onto i) →
      LinkFits (NamesOf g w) (onto i) (end g w u i) →
      LinkFits (NamesOf g w) (still i) (onto i)

  abbrev pub AsideFar : Type 0
  AsideFar =
      (i : ℕ) → At g u i → i ≢ j →
      LinkFits (NamesOf g w) (end g w u i) (onto i) →
      LinkFits (NamesOf g w) (onto i) (end g w u i) →
      LinkFits (NamesOf g w) (onto i) (still i)

  -- all together, where what rests is seen to otherwise
  pub kept_at :
      Alike (w.at u) x →
      Resting g then →
      Invariant g w →
      NodeFits (length (g.ports u)) x →
      LinkFits (NamesOf g w) here there →
      LinkFits (NamesOf g w) there here →
      AsideNear →
      AsideFar →
      (x.head.phase ≡ Sleeping → (w.at u).head.phase ≡ Sleeping) →
      x.head.name ≡ (w.at u).head.name →
      DebtsCounted g then →
      Invariant g then
  unfolding own
  kept_at alike resting holds node hit hit' miss miss' awake name counted =
      kept_after g wired u u_is x own ss w holds alike node
      (by_port (LinkFits (NamesOf g w)) hit (λ i at' ne. miss i at' ne (was_near i at') (was_far i at')))
      (by_port' (LinkFits (NamesOf g w)) hit' (λ i at' ne. miss' i at' ne (was_near i at') (was_far i at'))) awake
      (λ k e. subst (λ a. Names g (forest w) a k) (sym alike.fragment) (holds.named u k u_is (sym name ∙ e)))
      resting counted
    where
      was_near : (i : ℕ) → At g u i → LinkFits (NamesOf g w) (end g w u i) (onto i)
      was_near i at' = at_near g wired w (LinkFits (NamesOf g w)) holds.links u i at'

      was_far : (i : ℕ) → At g u i → LinkFits (NamesOf g w) (onto i) (end g w u i)
      was_far i at' = at_far g wired w (LinkFits (NamesOf g w)) holds.links u i at'

  -- quiet fragments stay quiet
  pub record Calm : Type 0 where
    pub alike : Alike (w.at u) x
    pub found : (w.at u).head.phase ≡ Found → x.head.phase ≡ Found
    pub mine : has_call (w.seen u j).tree ≡ false → has_call q.tree ≡ false
    pub theirs : has_call (seen_beyond g w u j).tree ≡ false → has_call (adds (seen_beyond g w u j) ms).tree ≡ false

  module _ (calm : Calm) where
    forests : forest then ≡ forest w
    unfolding own
    forests = forest_after g wired u u_is x own ss w calm.alike

    branches : (v p : ℕ) → is_branch ((then.at v).mark p) ≡ is_branch ((w.at v).mark p)
    branches v p = ap (λ (s : Forest). s.branch v p) forests

    was : (v p : ℕ) → (then.at v).mark p ≡ Branch → (w.at v).mark p ≡ Branch
    was v p e = branch_mark _ (sym (branches v p) ∙ ap is_branch e)

    was_not : (v p : ℕ) → (then.at v).mark p ≢ Branch → (w.at v).mark p ≢ Branch
    was_not v p ne = λ e. ne (branch_mark _ (branches v p ∙ ap is_branch e))

    ups : (v : ℕ) → (then.at v).up ≡ (w.at v).up
    ups v = ap (λ (s : Forest). s.up v) forests

    frags : (v : ℕ) → (then.at v).fragment ≡ (w.at v).fragment
    frags v = ap (λ (s : Forest). s.fragment v) forests

    names : (v : ℕ) → (then.at v).coming_name ≡ (w.at v).coming_name
    names v = ap (λ (s : Forest). s.coming_name v) forests

    calm_quiet : (a : ℕ) → Quiet g w a → Quiet g then a
    unfolding own
    calm_quiet a z =
        quiet_after g wired u u_is x own ss w a z
        (λ e. calm.found (z.found u u_is (sym calm.alike.fragment ∙ e)))
        (by_port (λ e f. e.is.fragment ≡ a → has_call e.seen.tree ≡ false) (λ e. calm.mine (z.uncalled u j at (sym calm.alike.fragment ∙ e)))
        (λ i at' ne e. z.uncalled u i at' (sym calm.alike.fragment ∙ e)))
        (by_port' (λ e f. e.is.fragment ≡ a → has_call e.seen.tree ≡ false) (λ e. calm.theirs (z.uncalled _ _ (wired.there u j at) e))
        (λ i at' ne e. z.uncalled _ _ (wired.there u i at') e))

    pub resting_calm : Resting g w → Resting g then
    resting_calm r = record {
      out = λ v p at' o.
          subst (Quiet g then) (sym (frags v)) (calm_quiet _ (r.out v p at' (record { here = was v p o.here; there = was_not _ _ o.there })));
      moved = λ v p at' m.
          subst (Quiet g then) (sym (frags v)) (calm_quiet _ (r.moved v p at' (record {
            both = record {
              joins = record { here = was v p m.both.joins.here; there = was _ _ m.both.joins.there };
              up = sym (ups v) ∙ m.both.up;
              up_beyond = sym (ups _) ∙ m.both.up_beyond;
            };
            unnamed = λ e. m.unnamed (names v ∙ e);
          })));
    }

    -- all together, for calm steps
    pub kept_one :
        Invariant g w →
        NodeFits (length (g.ports u)) x →
        LinkFits (NamesOf g w) here there →
        LinkFits (NamesOf g w) there here →
        AsideNear →
        AsideFar →
        (x.head.phase ≡ Sleeping → (w.at u).head.phase ≡ Sleeping) →
        x.head.name ≡ (w.at u).head.name →
        DebtsCounted g then →
        Invariant g then
    kept_one holds = kept_at calm.alike (resting_calm holds.resting) holds
