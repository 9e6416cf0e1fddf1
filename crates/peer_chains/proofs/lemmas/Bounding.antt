-- How great the numbers are.
use Rattle.std.proofs.Common.{◌≡◌, ℕ, zero, suc, Bool, true, false, ◌+◌, ◌≤◌, List, [], ◌∷◌, length, sym, subst, ⊎_elim, arith}
use Rattle.std.specs.List.{All}
use Rattle.std.proofs.lemmas.Bool.{cases_eq}
use Rattle.std.proofs.lemmas.List.Elements.{All-nil, All-cons, All-append}
use Rattle.peer_network.specs.declared.event.Event.{Event}
use Rattle.peer_network.specs.declared.event.Event.TheVariants.{Wake, Take}
use Rattle.peer_network.specs.Updates.{put, put_at}
use Rattle.peer_network.specs.Network.{Network, far, far_port}
use Rattle.peer_network.proofs.lemmas.Updates.{one_place, put_at_hit, put_at_miss, put_other, put_same}
use Rattle.peer_chains.specs.Chains.{Chains, behind, heard, hears, most_below, no_chains, sent, sent_on, taken}

-- a list of numbers no greater than q
abbrev pub Below : ℕ → List ℕ → Type 0
Below q ts = All (λ t. t ≤ q) ts

pub first_below : (q t : ℕ) (ts : List ℕ) → Below q (t ∷ ts) → t ≤ q
first_below q t ts b = b 0 t (omega arith)

pub rest_below : (q t : ℕ) (ts : List ℕ) → Below q (t ∷ ts) → Below q ts
rest_below q t ts b k d lt = b (suc k) d (omega arith)

-- no node's number is greater than n, and none that waits than q
pub record IsWithin (n q : ℕ) (c : Chains) : Type 0 where
  pub node : (v : ℕ) → c.node v ≤ n
  pub queue : (v p : ℕ) → Below q (c.queue v p)

pub more_within : (n q m r : ℕ) (c : Chains) → n ≤ m → q ≤ r → IsWithin n q c → IsWithin m r c
more_within n q m r c a b w = record {
  node = λ v. let x = w.node v in omega (arith, x, a);
  queue = λ v p k d lt. let x = w.queue v p k d lt in omega (arith, x, b);
}

-- a line put at a place is among them
pub put_below : (q : ℕ) (f : ℕ → ℕ → List ℕ) (v p : ℕ) (line : List ℕ) → ((u r : ℕ) → Below q (f u r)) → Below q line → (u r : ℕ) →
    Below q (put_at f v p line u r)
put_below q f v p line all this u r = ⊎_elim
    (λ (e : (u ≡ v) × (r ≡ p)). let P : List ℕ → Type 0 = Below q in subst P (sym (put_at_hit f v p u r line e.0 e.1)) this)
    (λ ne. let P : List ℕ → Type 0 = Below q in subst P (sym (put_at_miss f v p u r line ne)) (all u r))
    (one_place v p u r)

pub sent_on_within : (g : Network) (v p n q : ℕ) (c : Chains) → suc (c.node v) ≤ q → IsWithin n q c → IsWithin n q (sent_on g v p c)
sent_on_within g v p n q c lt w = record {
  node = w.node;
  queue = put_below q c.queue (far g v p) (far_port g v p) _ w.queue
      (All-append (λ t. t ≤ q) (c.queue (far g v p) (far_port g v p)) (suc (c.node v) ∷ []) (w.queue _ _)
      (All-cons (λ t. t ≤ q) (suc (c.node v)) [] lt (All-nil (λ t. t ≤ q))));
}

-- by events: what is sent is one more than a node's number at most
pub sent_within : {M : Type 0} (g : Network) (v n : ℕ) (ss : List (ℕ × M)) (c : Chains) → IsWithin n (suc n) c → IsWithin n (suc n) (sent g v ss c)
sent_within g v n [] c w = w
sent_within g v n (s ∷ ss) c w =
    sent_within g v n ss (sent_on g v s.0 c) (sent_on_within g v s.0 n (suc n) c (let x = w.node v in omega (arith, x)) w)

-- by messages: each makes the numbers greater by one at most
pub sends_within : {M : Type 0} (g : Network) (v n : ℕ) (ss : List (ℕ × M)) (c : Chains) → IsWithin n n c →
    IsWithin (n + length ss) (n + length ss) (sent g v ss c)
sends_within g v n [] c w = more_within n n _ _ c (omega arith) (omega arith) w
sends_within g v n (s ∷ ss) c w =
    let one : IsWithin (n + 1) (n + 1) (sent_on g v s.0 c) =
    sent_on_within g v s.0 (n + 1) (n + 1) c (let x = w.node v in omega (arith, x))
    (more_within n n (n + 1) (n + 1) c (omega arith) (omega arith) w) in
    more_within (n + 1 + length ss) (n + 1 + length ss) _ _ _ (omega arith) (omega arith) (sends_within g v (n + 1) ss (sent_on g v s.0 c) one)

pub heard_within : (f asleep : Bool) (n q m t : ℕ) → m ≤ n → t ≤ n → heard f asleep m t ≤ n
heard_within false asleep n q m t a b = omega (arith, a, b)
heard_within true true n q m t a b = omega (arith, a, b)
heard_within true false n q m t a b = a

pub behind_below : (f : Bool) (q t : ℕ) (ts : List ℕ) → Below q (t ∷ ts) → Below q (behind f t ts)
behind_below false q t ts b = rest_below q t ts b
behind_below true q t ts b =
    All-append (λ x. x ≤ q) ts (t ∷ []) (rest_below q t ts b)
    (All-cons (λ x. x ≤ q) t [] (first_below q t ts b) (All-nil (λ x. x ≤ q)))

pub put_node : (n : ℕ) (f : ℕ → ℕ) (v m : ℕ) → ((u : ℕ) → f u ≤ n) → m ≤ n → (u : ℕ) → put f v m u ≤ n
put_node n f v m all this u = ⊎_elim
    (λ (e : u ≡ v). rw e (let x = put_same f v m in omega (arith, x, this)))
    (λ ne. let x = put_other f v u m ne in let y = all u in omega (arith, x, y))
    (cases_eq u v)

taken_within : (v p n : ℕ) (asleep f : Bool) (ts : List ℕ) (c : Chains) → IsWithin n n c → Below n ts →
    IsWithin n n (taken v p asleep f ts c)
taken_within v p n asleep f [] c w b = w
taken_within v p n asleep f (t ∷ ts) c w b = record {
  node = put_node n c.node v (heard f asleep (c.node v) t) w.node (heard_within f asleep n n (c.node v) t (w.node v) (first_below n t ts b));
  queue = put_below n c.queue v p (behind f t ts) w.queue (behind_below f n t ts b);
}

pub hears_within : (e : Event) (n : ℕ) (asleep f : Bool) (c : Chains) → IsWithin n n c → IsWithin n n (hears e asleep f c)
hears_within (Wake v) n asleep f c w = w
hears_within (Take v p) n asleep f c w = taken_within v p n asleep f (c.queue v p) c w (w.queue v p)

-- the greatest of some numbers is within, where each is
pub most_within : (n m : ℕ) (f : ℕ → ℕ) → ((v : ℕ) → f v ≤ m) → most_below n f ≤ m
most_within zero m f all = omega arith
most_within (suc n) m f all = let a = most_within n m f all in let b = all n in omega (arith, a, b)

-- no number anywhere
pub none_within : (n : ℕ) → IsWithin n n no_chains
none_within n = record { node = λ v. omega arith; queue = λ v p. All-nil (λ t. t ≤ n) }
