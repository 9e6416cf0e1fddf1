-- The links that the walk finds are the branch links, and at the end what the protocol finds.
use Rattle.std.proofs.Common.{◌≡◌, ℕ, ◌≤◌, Bool, true, false, ◌||◌, List, refl, sym, ◌∙◌, ap, ap₂, subst, ⊎_elim, arith, Result, IfOk}
use Rattle.std.specs.List.{Contains, filter}
use Rattle.std.proofs.lemmas.Bool.{or_cases}
use Rattle.std.proofs.lemmas.List.Kept.{AllPairs-filter}
use Rattle.std.proofs.lemmas.Option.{slice_get_within, get_or_from_slice_get}
use Rattle.std.proofs.lemmas.Result.{IfOk-weaker}
use Rattle.ghs_graph.specs.declared.key.Key.{Key}
use Rattle.ghs_graph.specs.declared.port.Port.{Port}
use Rattle.ghs_graph.specs.Graph.{Shape}
use Rattle.ghs_graph.specs.Key.{key_lt}
use Rattle.ghs_graph.specs.Laws.{HasTwoPorts}
use Rattle.ghs_graph.specs.Ports.{ports_of, port_number, port_on, no_port, HasPort}
use Rattle.ghs_graph.proofs.lemmas.Members.{filter_has, in_filter}
use Rattle.ghs_graph.proofs.lemmas.Ports.{links_have_two_ports}
use Rattle.peer_network.specs.Network.{network_of}
use Rattle.peer_network.proofs.lemmas.Graphs.{has_port, is_key, link_among}
use Rattle.peer_machine.specs.Net.{Net}
use Rattle.peer_machine.specs.Rules.{Rules}
use Rattle.peer_machine.specs.Run.{IsNetOf}
use Rattle.peer_machine.specs.Branches.{AreBranches, BranchesAreFound, IsBranchLink}
use Rattle.peer_report.specs.Branches.{is_branch_at, is_branch_link}

or_true : (b : Bool) → (b || true) ≡ true
or_true true = refl
or_true false = refl

module _ {S M : Type 0} (r : Rules S M) (is_branch : S → ℕ → Bool) (g : Shape) (w : Net S M) (is : IsNetOf r g w) where
  abbrev found : List Key
  found = filter (is_branch_link is_branch g.keys w) g.keys

  -- a port that is marked
  by_port : (k : Key) (v : ℕ) → 1 ≤ v → v ≤ g.nodes → HasPort g.keys v (port_number g.keys v k) (port_on g.keys v k) →
      is_branch_at is_branch g.keys w v k ≡ true → IsBranchLink is_branch (network_of g) w k
  by_port k v lo hi has t = (
    v,
    port_number g.keys v k,
    record { some = lo; node = hi; port = slice_get_within (ports_of g.keys v) (port_number g.keys v k) (port_on g.keys v k) has },
    ap (λ (x : Port). x.key) (get_or_from_slice_get (ports_of g.keys v) (port_number g.keys v k) (port_on g.keys v k) no_port has),
    t,
  )

  there : (k : Key) → Contains found k → IsBranchLink is_branch (network_of g) w k
  there k h =
      let u = in_filter (is_branch_link is_branch g.keys w) g.keys k h in
      let two : HasTwoPorts g.keys k = links_have_two_ports g is.graph k u.0 in
      let r = link_among g is.graph k u.0 in
      ⊎_elim
      (λ (a : is_branch_at is_branch g.keys w k.a k ≡ true). by_port k k.a r.0 (omega (arith, r.1, r.2)) two.at_a a)
      (λ (b : is_branch_at is_branch g.keys w k.b k ≡ true). by_port k k.b (omega (arith, r.0, r.1)) r.2 two.at_b b)
      (or_cases _ _ u.1)

  -- the mark of a port on the link, by the number of the port there
  marked : (k : Key) (v p u q : ℕ) → (v ≡ u) × (p ≡ q) → is_branch (w.node v) p ≡ true → is_branch (w.node u) q ≡ true
  marked k v p u q e m = sym (ap₂ (λ (x y : ℕ). is_branch (w.node x) y) e.0 e.1) ∙ m

  back : (k : Key) → IsBranchLink is_branch (network_of g) w k → Contains found k
  back k l =
      let has : Contains g.keys k = subst (λ (x : Key). Contains g.keys x) l.3 (is_key g is.graph l.0 l.1 l.2) in
      let two : HasTwoPorts g.keys k = links_have_two_ports g is.graph k has in
      filter_has (is_branch_link is_branch g.keys w) g.keys k has
      (⊎_elim
      (λ (e : (l.0 ≡ k.a) × (l.1 ≡ port_number g.keys k.a k)). at_a (marked k l.0 l.1 k.a (port_number g.keys k.a k) e l.4))
      (λ (e : (l.0 ≡ k.b) × (l.1 ≡ port_number g.keys k.b k)). at_b (marked k l.0 l.1 k.b (port_number g.keys k.b k) e l.4))
      (two.only l.0 l.1 _ (has_port g is.graph l.0 l.1 l.2) l.3))
    where
      at_a : is_branch_at is_branch g.keys w k.a k ≡ true → is_branch_link is_branch g.keys w k ≡ true
      at_a t = ap (λ b. b || is_branch_at is_branch g.keys w k.b k) t

      at_b : is_branch_at is_branch g.keys w k.b k ≡ true → is_branch_link is_branch g.keys w k ≡ true
      at_b t = ap (λ b. is_branch_at is_branch g.keys w k.a k || b) t ∙ or_true (is_branch_at is_branch g.keys w k.a k)

  branches_are : AreBranches is_branch (network_of g) w found
  branches_are = record {
    rising = AllPairs-filter (λ j k. key_lt j k ≡ true) (is_branch_link is_branch g.keys w) g.keys is.graph.rising;
    all = λ k. (there k, back k);
  }

  -- the same of what calls answer
  pub branches_told : {X E : Type 0} (f : X → List Key) (o : Result X E) → IfOk o (λ x. f x ≡ found) →
      IfOk o (λ x. AreBranches is_branch (network_of g) w (f x))
  branches_told f o h =
      IfOk-weaker o (λ x. f x ≡ found) (λ x. AreBranches is_branch (network_of g) w (f x)) (λ x e. rw e branches_are) h

  -- at the end
  pub found_told : (has_ended : Shape → Net S M → Type 0) (finds : Shape → List Key → Type 0) →
      BranchesAreFound r has_ended is_branch finds → {X E : Type 0} (f : X → List Key) (o : Result X E) → IfOk o (λ x. f x ≡ found) →
      IfOk o (λ x. has_ended g w → finds g (f x))
  found_told has_ended finds law f o h =
      IfOk-weaker o (λ x. f x ≡ found) (λ x. has_ended g w → finds g (f x))
      (λ x e ended. rw e (law g w found is ended branches_are)) h
