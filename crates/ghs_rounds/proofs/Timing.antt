-- In a round of a run by rounds, who hears of a message has the round's number then.
use Rattle.std.proofs.Common.{◌≡◌, ◌≢◌, ℕ, suc, ◌≤◌, Bool, true, false, List, [], ◌∷◌, ◌++◌, length, refl, sym, ◌∙◌, ap, ⊎_elim, ◌⊎◌, arith, append-nil, append_assoc}
use Rattle.std.specs.List.{All}
use Rattle.std.proofs.lemmas.List.Elements.{All-nil, All-cons, All-append}
use Rattle.ghs_node.specs.declared.delta.Fate.{Fate}
use Rattle.ghs_node.specs.declared.delta.Fate.TheVariants.{Consumed, Requeued}
use Rattle.ghs_node.specs.declared.message.Message.{Message}
use Rattle.ghs_node.specs.NodeState.{NodeState}
use Rattle.ghs_node.specs.Words.{Outgoing}
use Rattle.peer_network.specs.declared.event.Event.{Event}
use Rattle.peer_network.specs.declared.event.Event.TheVariants.{Wake, Take}
use Rattle.ghs_protocol.specs.Living.{Waits}
use Rattle.peer_network.specs.Events.{event_node}
use Rattle.peer_network.specs.Network.{Network, far, far_port}
use Rattle.ghs_protocol.proofs.lemmas.Queues.{all_first, all_rest}
use Rattle.peer_network.proofs.lemmas.Updates.{one_place, put_at_hit, put_at_miss}
use Rattle.peer_chains.specs.Chains.{Chains, behind, heard, hears, sent, sent_on, taken}
use Rattle.ghs_following.specs.Chains.{is_deferred}

-- Of a queue: who takes from its front what doesn't wait, takes a message that arrives in round r or later, if it hasn't waited before one that does.
abbrev pub AreLate : NodeState → ℕ → ℕ → List Message → List ℕ → Type 0
AreLate n p r [] ts = Unit {0}
AreLate n p r (m ∷ ms) [] = ⊥
AreLate n p r (m ∷ ms) (t ∷ ts) = (Waits n p m → AreLate n p r ms ts) × ((Waits n p m → ⊥) → r ≤ t)

module _ (n : NodeState) (p r : ℕ) where
  pub late_append : (ms : List Message) (ts : List ℕ) (came : List Message) (nums : List ℕ) →
      AreLate n p r ms ts → length ts ≡ length ms → AreLate n p r came nums → AreLate n p r (ms ++ came) (ts ++ nums)
  late_append [] [] came nums late same more = more
  late_append [] (t ∷ ts) came nums late same more = absurd (let z : suc (length ts) ≡ 0 = same in omega (arith, z))
  late_append (m ∷ ms) [] came nums late same more = absurd late
  late_append (m ∷ ms) (t ∷ ts) came nums late same more =
      let many : length ts ≡ length ms = let z : suc (length ts) ≡ suc (length ms) = same in omega (arith, z) in
      (λ w. late_append ms ts came nums (late.0 w) many more, late.1)

  pub late_all : (ms : List Message) (ts : List ℕ) → length ts ≡ length ms → All (λ t. r ≤ t) ts → AreLate n p r ms ts
  late_all [] ts same all = tt
  late_all (m ∷ ms) [] same all = absurd (let z : 0 ≡ suc (length ms) = same in omega (arith, z))
  late_all (m ∷ ms) (t ∷ ts) same all =
      let many : length ts ≡ length ms = let z : suc (length ts) ≡ suc (length ms) = same in omega (arith, z) in
      (λ w. late_all ms ts many (all_rest (λ t. r ≤ t) t ts all), λ w. all_first (λ t. r ≤ t) t ts all)

-- What comes in at a queue is put behind, and ends a chain longer by one than the sender's.
pub record HasCome (n : ℕ) (old new : List ℕ) : Type 0 where
  pub came : List ℕ
  pub is : new ≡ old ++ came
  pub all : All (λ t. t ≡ n) came

none_came : (n : ℕ) (old new : List ℕ) → new ≡ old → HasCome n old new
none_came n old new e = record { came = []; is = e ∙ sym (append-nil old); all = All-nil (λ t. t ≡ n) }

come_on : (n : ℕ) (a b c : List ℕ) → HasCome n a b → HasCome n b c → HasCome n a c
come_on n a b c h k = record {
  came = h.came ++ k.came;
  is = k.is ∙ ap (λ l. l ++ k.came) h.is ∙ append_assoc a h.came k.came;
  all = All-append (λ t. t ≡ n) h.came k.came h.all k.all;
}

module _ (g : Network) (v : ℕ) where
  one_come : (p : ℕ) (c : Chains) (u q : ℕ) → HasCome (suc (c.node v)) (c.queue u q) ((sent_on g v p c).queue u q)
  one_come p c u q = ⊎_elim
      (λ (e : (u ≡ far g v p) × (q ≡ far_port g v p)). record {
        came = suc (c.node v) ∷ [];
        is = put_at_hit c.queue (far g v p) (far_port g v p) u q _ e.0 e.1
            ∙ ap (λ (l : List ℕ). l ++ suc (c.node v) ∷ []) (sym (ap (λ a. c.queue a q) e.0 ∙ ap (c.queue (far g v p)) e.1));
        all = All-cons (λ t. t ≡ suc (c.node v)) (suc (c.node v)) [] refl (All-nil (λ t. t ≡ suc (c.node v)));
      })
      (λ ne. none_came (suc (c.node v)) (c.queue u q) _ (put_at_miss c.queue (far g v p) (far_port g v p) u q _ ne))
      (one_place (far g v p) (far_port g v p) u q)

  pub sent_come : (ss : Outgoing) (c : Chains) (u q : ℕ) → HasCome (suc (c.node v)) (c.queue u q) ((sent g v ss c).queue u q)
  sent_come [] c u q = none_came (suc (c.node v)) (c.queue u q) (c.queue u q) refl
  sent_come (s ∷ ss) c u q =
      come_on (suc (c.node v)) (c.queue u q) ((sent_on g v s.0 c).queue u q) ((sent g v ss (sent_on g v s.0 c)).queue u q)
      (one_come s.0 c u q) (sent_come ss (sent_on g v s.0 c) u q)

  pub sent_node : (ss : Outgoing) (c : Chains) (u : ℕ) → (sent g v ss c).node u ≡ c.node u
  sent_node [] c u = refl
  sent_node (s ∷ ss) c u = sent_node ss (sent_on g v s.0 c) u

-- Hearing changes the queues of the event's node alone.
taken_queue : (v p : ℕ) (asleep : Bool) (f : Fate) (ts : List ℕ) (c : Chains) (u q : ℕ) → u ≢ v →
    (taken v p asleep (is_deferred f) ts c).queue u q ≡ c.queue u q
taken_queue v p asleep f [] c u q ne = refl
taken_queue v p asleep f (t ∷ ts) c u q ne = put_at_miss c.queue v p u q (behind (is_deferred f) t ts) (λ z. ne z.0)

pub hears_queue : (e : Event) (asleep : Bool) (f : Fate) (c : Chains) (u q : ℕ) → u ≢ event_node e →
    (hears e asleep (is_deferred f) c).queue u q ≡ c.queue u q
hears_queue (Wake v) asleep f c u q ne = refl
hears_queue (Take v p) asleep f c u q ne = taken_queue v p asleep f (c.queue v p) c u q ne

-- A message of the round, or a later one's, gives who hears of it the round's number.
pub heard_is : (f : Fate) (asleep : Bool) (k t r : ℕ) → k ≤ r → t ≤ r → (k ≡ r) ⊎ (r ≤ t) → (f ≡ Consumed) ⊎ (asleep ≡ true) →
    heard (is_deferred f) asleep k t ≡ r
heard_is Consumed asleep k t r a b c d = ⊎_elim (λ e. omega (arith, a, b, e)) (λ le. omega (arith, a, b, le)) c
heard_is Requeued true k t r a b c d = ⊎_elim (λ e. omega (arith, a, b, e)) (λ le. omega (arith, a, b, le)) c
heard_is Requeued false k t r a b c d = absurd (⊎_elim (λ z. cc) (λ z. cc) d)
