-- What is kept of each event, as a mark or a rank, and put right one event after another.
use Rattle.std.proofs.Common.{◌≡◌, ◌≢◌, ℕ, zero, suc, ◌+◌, ◌<◌, ◌≤◌, Bool, true, false, Option, Some, None, List, [], ◌∷◌, length, set, refl, sym, ◌∙◌, ap, ap₂, subst, ⊎_elim, arith, get_or-set_same, get_or-set_other}
use Rattle.std.specs.List.{All, Contains}
use Rattle.std.proofs.lemmas.Bool.{cases_eq, both_ways}
use Rattle.ghs_graph.specs.Graph.{Shape, IsGraph}
use Rattle.ghs_graph.specs.Ports.{ports_of}
use Rattle.ghs_graph.proofs.lemmas.Members.{first_in, later_in, nothing_in, in_cases}
use Rattle.ghs_node.specs.declared.delta.Delta.{Delta}
use Rattle.ghs_node.specs.declared.head.Head.{Head}
use Rattle.ghs_node.specs.declared.mark.Mark.{Mark}
use Rattle.ghs_node.specs.declared.message.Message.{Message}
use Rattle.ghs_node.specs.Words.{Outgoing}
use Rattle.peer_network.specs.declared.event.Event.{Event}
use Rattle.peer_network.specs.declared.event.Event.TheVariants.{Wake, Take}
use Rattle.peer_network.specs.Network.{Network, far, far_port, network_of}
use Rattle.peer_network.proofs.lemmas.Graphs.{graph_wired}
use Rattle.peer_network.specs.Events.{event_node}
use Rattle.ghs_flags.specs.Flags.{at}
use Rattle.peer_index.specs.Index.{IndexState, IsFor}
use Rattle.peer_index.specs.Places.{HasPlace, place}
use Rattle.peer_index.proofs.lemmas.Places.{place_apart, place_within}
use Rattle.ghs_patient.specs.Choices.{IsMarked, IsOwn, IsStirred, are_alike, far_takes}
use Rattle.ghs_patient.specs.Walks.{on_each, on_takes}
use Rattle.ghs_patient.proofs.lemmas.Places.{own_node}

-- one mark more is right
pub set_right : (g : Network) (p : Event → Bool) (wrong : Event → Type 0) (e : Event) (x : IndexState) → IsFor g x → HasPlace g e →
    ((f : Event) → HasPlace g f → (wrong f → ⊥) → at x.marks (place g f) ≡ p f) →
    (f : Event) → HasPlace g f → (wrong f × (f ≢ e) → ⊥) → at (set x.marks (place g e) (p e)) (place g f) ≡ p f
set_right g p wrong e x is has right f there none = ⊎_elim
    (λ (same : place g f ≡ place g e).
    let one : f ≡ e = place_apart g f e there has same in
    let within = place_within g e has in
    let many = is.many in
    ap (at (set x.marks (place g e) (p e))) same ∙ get_or-set_same x.marks (place g e) (p e) false (omega arith) ∙ ap p (sym one))
    (λ (other : place g f ≢ place g e).
    get_or-set_other x.marks (place g e) (place g f) (p e) false other ∙ right f there (λ w. none (w, λ z. other (ap (place g) z))))
    (cases_eq (place g f) (place g e))

-- a Take of node v at one of its first n ports
abbrev pub IsBelow : ℕ → ℕ → Event → Type 0
IsBelow v n (Wake u) = ⊥
IsBelow v n (Take u q) = (u ≡ v) × (q < n)

none_below : (v : ℕ) (f : Event) → IsBelow v 0 f → ⊥
none_below v (Wake u) b = b
none_below v (Take u q) b = let lt = b.1 in absurd (omega arith)

not_below : (v n : ℕ) (f : Event) → (IsBelow v n f → ⊥) → f ≢ Take v n → IsBelow v (suc n) f → ⊥
not_below v n (Wake u) past ne b = b
not_below v n (Take u q) past ne b = ⊎_elim
    (λ (e : q ≡ n). ne (ap (λ x. Take x q) b.0 ∙ ap (Take v) e))
    (λ other. past (b.0, let lt = b.1 in omega (arith, lt, other)))
    (cases_eq q n)

-- an event of node v, or of a later one
abbrev pub IsFrom : ℕ → Event → Type 0
IsFrom v f = v ≤ event_node f

pub all_from : (g : Network) (f : Event) → HasPlace g f → IsFrom 1 f
all_from g (Wake u) there = there.0
all_from g (Take u q) there = there.some

pub none_from : (g : Network) (v : ℕ) → g.count < v → (f : Event) → HasPlace g f → IsFrom v f → ⊥
none_from g v past (Wake u) there from = let hi = there.1 in omega (arith, hi, from, past)
none_from g v past (Take u q) there from = let hi = there.node in omega (arith, hi, from, past)

same_many : (g : Network) (u v : ℕ) → u ≡ v → length (g.ports u) ≡ length (g.ports v)
same_many g u v e = ap (λ x. length (g.ports x)) e

-- what is neither the wake of node v nor one of its Takes is of a later node
from_next : (g : Network) (v n : ℕ) → n ≡ length (g.ports v) → (f : Event) → HasPlace g f →
    (IsFrom v f × (f ≢ Wake v)) × (IsBelow v n f → ⊥) →
    IsFrom (v + 1) f
from_next g v n many (Wake u) there w =
    ⊎_elim (λ (e : u ≡ v). absurd (w.0.1 (ap Wake e))) (λ ne. let le = w.0.0 in omega (arith, le, ne)) (cases_eq u v)
from_next g v n many (Take u q) there w = ⊎_elim
    (λ (e : u ≡ v). let lt = there.port in let same = same_many g u v e in absurd (w.1 (e, omega (arith, lt, many, same))))
    (λ ne. let le = w.0.0 in omega (arith, le, ne))
    (cases_eq u v)

-- what a node sends arrives at ports
pub far_places : (g : Shape) (v : ℕ) → IsGraph g → 1 ≤ v → v ≤ g.nodes → (ss : Outgoing) →
    All (λ (m : ℕ × Message). m.0 < length (ports_of g.keys v)) ss →
    (f : Event) → Contains (far_takes (network_of g) v ss) f → HasPlace (network_of g) f
far_places g v ok lo hi [] all f k = absurd (nothing_in f k)
far_places g v ok lo hi (m ∷ ss) all f k = ⊎_elim
    (far_places g v ok lo hi ss (λ i d lt. all (suc i) d (omega (arith, lt))) f)
    (λ z. subst (HasPlace (network_of g)) z ((graph_wired g ok).there v m.0 (record { some = lo; node = hi; port = all 0 m (omega arith) })))
    (in_cases (Take (far (network_of g) v m.0) (far_port (network_of g) v m.0)) f (far_takes (network_of g) v ss) k)

-- of the Takes of a node none is left once all have been put right
own_past : (g : Network) (v n : ℕ) (before : Head) (d : Delta) → n ≡ length (g.ports v) → (f : Event) → HasPlace g f →
    IsOwn v before d f × (IsBelow v n f → ⊥) → ⊥
own_past g v n before d many (Wake u) there w = w.0
own_past g v n before d many (Take u q) there w =
    let lt = there.port in
    let same = same_many g u v w.0.0 in
    w.1 (w.0.0, omega (arith, lt, many, same))

-- nor, where the heads are alike, once the one at the port that was marked has been
own_marked : (v : ℕ) (before : Head) (d : Delta) (m : ℕ × Mark) → are_alike before d.head ≡ true → d.mark ≡ Some m → (f : Event) →
    IsOwn v before d f × (f ≢ Take v m.0) → ⊥
own_marked v before d m alike is (Wake u) w = w.0
own_marked v before d m alike is (Take u q) w = ⊎_elim
    (λ f. both_ways (are_alike before d.head) f alike)
    (λ k. let z : m.0 ≡ q = rw is at k in w.1 (ap (λ x. Take x q) w.0.0 ∙ ap (Take v) (sym z)))
    w.0.1

not_marked : (o : Option (ℕ × Mark)) (q : ℕ) → ((m : ℕ × Mark) → o ≡ Some m → ⊥) → IsMarked o q → ⊥
not_marked None q unmarked k = k
not_marked (Some m) q unmarked k = unmarked m refl

-- nor where none was marked
own_unmarked : (v : ℕ) (before : Head) (d : Delta) → are_alike before d.head ≡ true → ((m : ℕ × Mark) → d.mark ≡ Some m → ⊥) → (f : Event) →
    IsOwn v before d f → ⊥
own_unmarked v before d alike unmarked (Wake u) w = w
own_unmarked v before d alike unmarked (Take u q) w =
    ⊎_elim (λ f. both_ways (are_alike before d.head) f alike) (λ k. not_marked d.mark q unmarked k) w.1

-- of all events only Takes of a node that has reacted may be wrong, at ports where other messages may wait now
pub record AreOwnLeft (C : Type 0) (g : Network) (But : (Event → Type 0) → C → Type 0) (v : ℕ) (before : Head) (d : Delta) (c : C) : Type 0 where
  pub low : 1 ≤ v
  pub high : v ≤ g.count
  pub left : But (IsOwn v before d) c

-- What is right but perhaps for some events, where putting one right leaves the others, and where more may be wrong.
module _ (C : Type 0) (g : Network) (But : (Event → Type 0) → C → Type 0) (put : Event → C → C)
    (one : (wrong : Event → Type 0) (e : Event) (c : C) → But wrong c → HasPlace g e → But (λ f. wrong f × (f ≢ e)) (put e c))
    (wider : (wrong more : Event → Type 0) (c : C) → But wrong c → ((f : Event) → HasPlace g f → wrong f → more f) → But more c) where
  pub right_to : (wrong : Event → Type 0) (v n : ℕ) (c : C) → But wrong c → ((q : ℕ) → q < n → HasPlace g (Take v q)) →
      But (λ f. wrong f × (IsBelow v n f → ⊥)) (on_takes put v n c)
  right_to wrong v zero c h has = wider wrong (λ f. wrong f × (IsBelow v 0 f → ⊥)) c h (λ f there w. (w, none_below v f))
  right_to wrong v (suc n) c h has =
      wider (λ f. (wrong f × (IsBelow v n f → ⊥)) × (f ≢ Take v n)) (λ f. wrong f × (IsBelow v (suc n) f → ⊥)) (on_takes put v (suc n) c)
      (one (λ f. wrong f × (IsBelow v n f → ⊥)) (Take v n) (on_takes put v n c)
      (right_to wrong v n c h (λ q lt. has q (omega (arith, lt)))) (has n (omega arith)))
      (λ f there w. (w.0.0, not_below v n f w.0.1 w.1))

  pub right_all : (wrong : Event → Type 0) (es : List Event) (c : C) → But wrong c → ((f : Event) → Contains es f → HasPlace g f) →
      But (λ f. wrong f × (Contains es f → ⊥)) (on_each put es c)
  right_all wrong [] c h has = wider wrong (λ f. wrong f × (Contains [] f → ⊥)) c h (λ f there w. (w, nothing_in f))
  right_all wrong (e ∷ es) c h has =
      wider (λ f. (wrong f × (f ≢ e)) × (Contains es f → ⊥)) (λ f. wrong f × (Contains (e ∷ es) f → ⊥)) (on_each put (e ∷ es) c)
      (right_all (λ f. wrong f × (f ≢ e)) es (put e c) (one wrong e c h (has e (first_in e es))) (λ f k. has f (later_in e f es k)))
      (λ f there w. (w.0.0, λ k. ⊎_elim w.1 (λ z. w.0.1 (sym z)) (in_cases e f es k)))

  -- the events of a node
  pub one_node : (v n : ℕ) (c : C) → But (IsFrom v) c → 1 ≤ v → v ≤ g.count → n ≡ length (g.ports v) →
      But (IsFrom (v + 1)) (on_takes put v n (put (Wake v) c))
  one_node v n c h lo hi many =
      wider (λ f. (IsFrom v f × (f ≢ Wake v)) × (IsBelow v n f → ⊥)) (IsFrom (v + 1)) (on_takes put v n (put (Wake v) c))
      (right_to (λ f. IsFrom v f × (f ≢ Wake v)) v n (put (Wake v) c) (one (IsFrom v) (Wake v) c h (lo, hi))
      (λ q lt. record { some = lo; node = hi; port = omega (arith, lt, many) }))
      (from_next g v n many)

  -- the wake of an event's node, itself and the Takes at the far ends of what was sent
  stirred_left : (e : Event) (before : Head) (d : Delta) (c : C) → HasPlace g e →
      ((f : Event) → Contains (far_takes g (event_node e) d.sends) f → HasPlace g f) →
      But (IsStirred g e before d) c →
      But (IsOwn (event_node e) before d) (on_each put (far_takes g (event_node e) d.sends) (put e (put (Wake (event_node e)) c)))
  stirred_left e before d c has places stirred =
      wider
      (λ f. ((IsStirred g e before d f × (f ≢ Wake (event_node e))) × (f ≢ e)) × (Contains (far_takes g (event_node e) d.sends) f → ⊥))
      (IsOwn (event_node e) before d) (on_each put (far_takes g (event_node e) d.sends) (put e (put (Wake (event_node e)) c)))
      (right_all (λ f. (IsStirred g e before d f × (f ≢ Wake (event_node e))) × (f ≢ e)) (far_takes g (event_node e) d.sends)
      (put e (put (Wake (event_node e)) c))
      (one (λ f. IsStirred g e before d f × (f ≢ Wake (event_node e))) e (put (Wake (event_node e)) c)
      (one (IsStirred g e before d) (Wake (event_node e)) c stirred (own_node g e has)) has)
      places)
      (λ f there w. ⊎_elim
      (λ k. absurd (⊎_elim
      (λ k'. ⊎_elim w.1 (λ z. w.0.1 (sym z)) (in_cases e f (far_takes g (event_node e) d.sends) k'))
      (λ z. w.0.0.1 (sym z)) (in_cases (Wake (event_node e)) f (e ∷ far_takes g (event_node e) d.sends) k)))
      (λ own. own) w.0.0.0)

  pub stirred_seen : (e : Event) (before : Head) (d : Delta) (v : ℕ) (sends : Outgoing) (c first second third : C) →
      v ≡ event_node e → sends ≡ d.sends → HasPlace g e →
      ((f : Event) → Contains (far_takes g (event_node e) d.sends) f → HasPlace g f) →
      But (IsStirred g e before d) c →
      first ≡ put (Wake v) c → second ≡ put e first → third ≡ on_each put (far_takes g v sends) second →
      AreOwnLeft C g But v before d third
  stirred_seen e before d v sends c first second third node out has places stirred a b z =
      let own = own_node g e has in
      let is : third ≡ on_each put (far_takes g (event_node e) d.sends) (put e (put (Wake (event_node e)) c)) =
      z ∙ ap₂ (λ u ss. on_each put (far_takes g u ss) second) node out
      ∙ ap (on_each put (far_takes g (event_node e) d.sends)) (b ∙ ap (put e) (a ∙ ap (λ u. put (Wake u) c) node)) in
      rw (node, is) (record { low = own.0; high = own.1; left = stirred_left e before d c has places stirred })

  -- Then all is right once the Takes of the node have been put right, or the one that was marked.
  module _ (Right : C → Type 0) (all_right : (wrong : Event → Type 0) (c : C) → But wrong c → ((f : Event) → HasPlace g f → wrong f → ⊥) → Right c)
      (v : ℕ) (before : Head) (d : Delta) (c : C) (seen : AreOwnLeft C g But v before d c) where
    pub own_all : (n : ℕ) → n ≡ length (g.ports v) → Right (on_takes put v n c)
    own_all n many =
        all_right (λ f. IsOwn v before d f × (IsBelow v n f → ⊥)) (on_takes put v n c)
        (right_to (IsOwn v before d) v n c seen.left (λ q lt. record { some = seen.low; node = seen.high; port = omega (arith, lt, many) }))
        (own_past g v n before d many)

    pub own_one : (m : ℕ × Mark) → are_alike before d.head ≡ true → d.mark ≡ Some m → HasPlace g (Take v m.0) → Right (put (Take v m.0) c)
    own_one m alike is there =
        all_right (λ f. IsOwn v before d f × (f ≢ Take v m.0)) (put (Take v m.0) c) (one (IsOwn v before d) (Take v m.0) c seen.left there)
        (λ f has w. own_marked v before d m alike is f w)

    pub own_none : are_alike before d.head ≡ true → ((m : ℕ × Mark) → d.mark ≡ Some m → ⊥) → Right c
    own_none alike unmarked = all_right (IsOwn v before d) c seen.left (λ f has w. own_unmarked v before d alike unmarked f w)
