-- Which events are due, by how many messages of the round wait at a port.
use Rattle.std.proofs.Common.{◌≡◌, ℕ, zero, suc, ◌&&◌, Bool, true, false, nat_le, nat_lt, List, [], ◌++◌, length, replicate, refl, sym, ◌∙◌, ap, subst, arith, le-leb, leb-true, lt-ltb, ⊎_elim}
use Rattle.std.proofs.lemmas.Bool.{cases_Bool}
use Rattle.ghs_graph.specs.Graph.{Shape}
use Rattle.ghs_graph.proofs.lemmas.Members.{filter_has, nothing_in}
use Rattle.std.specs.List.{Contains}
use Rattle.peer_network.specs.declared.event.Event.{Event}
use Rattle.peer_network.specs.declared.event.Event.TheVariants.{Wake, Take}
use Rattle.peer_network.specs.Network.{At, is_port, network_of}
use Rattle.peer_network.proofs.lemmas.Events.{is_node_of, is_port_of}
use Rattle.peer_index.specs.Places.{HasPlace, all_events}
use Rattle.peer_index.proofs.lemmas.Listed.{listed}
use Rattle.peer_machine.specs.Rules.{Rules}
use Rattle.peer_machine.specs.Run.{net_after}
use Rattle.peer_lengths.specs.Chain.{numbers_of}
use Rattle.peer_runs.specs.Lawful.{is_lawful_under}
use Rattle.peer_picking.specs.Kept.{AreCounted}
use Rattle.peer_picking.specs.Rounds.{events_in, is_by, is_in}
use Rattle.peer_picking.proofs.Lined.{AreLined}

-- the first message is of the round just where one of the round waits
due_front : (a b n k : ℕ) (l : List ℕ) → l ≡ replicate a n ++ replicate b (suc n) → length l ≡ k → (nat_lt 0 k && is_by n l) ≡ nat_lt 0 a
due_front zero zero n k l is many =
    let none : k ≡ 0 = sym many ∙ ap length is in
    rw none refl
due_front zero (suc b) n k l is many =
    let late : is_by n l ≡ false = ap (is_by n) is ∙ not_le n in
    rw late (and_false (nat_lt 0 k))
  where
    not_le : (m : ℕ) → nat_le (suc m) m ≡ false
    not_le m = ⊎_elim (λ t. let le = leb-true (suc m) m t in absurd (omega (arith, le))) (λ f. f) (cases_Bool (nat_le (suc m) m))

    and_false : (c : Bool) → (c && false) ≡ false
    and_false true = refl
    and_false false = refl
due_front (suc a) b n k l is many =
    let early : is_by n l ≡ true = ap (is_by n) is ∙ le-leb n n (omega arith) in
    let some : nat_lt 0 k ≡ true = lt-ltb 0 k (let count : length l ≡ suc (length (replicate a n ++ replicate b
    (suc n))) = ap length is in omega (arith, many, count)) in
    rw (early, some) (sym (lt-ltb 0 (suc a) (omega arith)))

and_true : (b : Bool) → (b && true) ≡ b
and_true true = refl
and_true false = refl

module _ {S M : Type 0} (r : Rules S M) (may : ℕ → Bool) (g : Shape) (es : List Event) (n : ℕ) (a b : ℕ → ℕ → ℕ)
    (lined : AreLined (numbers_of r (network_of g) es) (net_after r g es))
    (counted : AreCounted (network_of g) (numbers_of r (network_of g) es) n a b) where
  -- a Take is of the round where a message of the round waits at its port; a wake always is
  pub take_in : (v p : ℕ) → At (network_of g) v p → is_in r may g es n (Take v p) ≡ nat_lt 0 (a v p)
  take_in v p at =
      let port : is_port (network_of g) v p ≡ true = is_port_of (network_of g) v p at in
      rw port (due_front (a v p) (b v p) n (length ((net_after r g es).queue v p)) ((numbers_of r (network_of g) es).queue v p)
      (counted.queue v p at)
      (lined v p))

  pub wake_in : (v : ℕ) → is_in r may g es n (Wake v) ≡ is_lawful_under r may (network_of g) (net_after r g es) (Wake v)
  wake_in v = and_true (is_lawful_under r may (network_of g) (net_after r g es) (Wake v))

  -- where the round has no event, none of its messages is left, and nobody may wake
  pub none_left : events_in r may g es n ≡ [] → (v p : ℕ) → At (network_of g) v p → a v p ≡ 0
  none_left none v p at = go (a v p) (take_in v p at)
    where
      go : (k : ℕ) → is_in r may g es n (Take v p) ≡ nat_lt 0 k → k ≡ 0
      go zero is = refl
      go (suc k) is =
          absurd (nothing_in (Take v p)
          (subst (λ (l : List Event). Contains l (Take v p)) none
          (filter_has (is_in r may g es n) (all_events (network_of g)) (Take v p) (listed (network_of g) (Take v p)
          (is_port_of (network_of g) v p at)) (is ∙ lt-ltb 0 (suc k) (omega arith)))))

  pub no_wake : events_in r may g es n ≡ [] → (v : ℕ) → HasPlace (network_of g) (Wake v) →
      is_lawful_under r may (network_of g) (net_after r g es) (Wake v) ≡ false
  no_wake none v has = go (is_in r may g es n (Wake v)) refl
    where
      go : (c : Bool) → is_in r may g es n (Wake v) ≡ c → is_lawful_under r may (network_of g) (net_after r g es) (Wake v) ≡ false
      go false is = sym (wake_in v) ∙ is
      go true is =
          absurd (nothing_in (Wake v)
          (subst (λ (l : List Event). Contains l (Wake v)) none
          (filter_has (is_in r may g es n) (all_events (network_of g)) (Wake v) (listed (network_of g) (Wake v)
          (is_node_of (network_of g) v has.0 has.1)) is)))
