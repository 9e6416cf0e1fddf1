-- What of a queue is due in a round: a message before which all have arrived, itself too. As long as it is there it stays due, and when the
-- round is over
-- what is due waits.
use Rattle.std.proofs.Common.{◌≡◌, ℕ, suc, ◌≤◌, Some, List, [], ◌∷◌, ◌++◌, length, refl, sym, ◌∙◌, ap, subst, subst₂, ⊎_elim, inl, inr, ◌⊎◌, arith}
use Rattle.std.specs.List.{All}
use Rattle.std.proofs.lemmas.Bool.{both_ways, cases_Bool}
use Rattle.ghs_graph.specs.Graph.{Shape}
use Rattle.ghs_node.specs.declared.delta.Delta.{Delta}
use Rattle.ghs_node.specs.declared.delta.Fate.{Fate}
use Rattle.ghs_node.specs.declared.delta.Fate.TheVariants.{Consumed, Requeued}
use Rattle.ghs_node.specs.declared.message.Message.{Message}
use Rattle.ghs_node.specs.declared.message.Phase.TheVariants.{Sleeping}
use Rattle.ghs_node.specs.declared.work.Work.TheVariants.{Deliver}
use Rattle.ghs_node.specs.NodeState.{NodeState}
use Rattle.ghs_node.specs.Reaction.{reaction}
use Rattle.ghs_node.specs.Words.{is_sleeping}
use Rattle.peer_network.specs.declared.event.Event.TheVariants.{Take}
use Rattle.peer_network.specs.Network.{At, network_of}
use Rattle.peer_network.proofs.lemmas.Updates.{one_place, put_at_hit, put_at_miss}
use Rattle.ghs_protocol.specs.Laws.{IsNetOf}
use Rattle.ghs_protocol.specs.Living.{Waits}
use Rattle.ghs_protocol.specs.Net.{Net, left_of}
use Rattle.ghs_protocol.specs.Steps as steps
use Rattle.ghs_protocol.proofs.lemmas.Queues.{all_first, all_rest}
use Rattle.ghs_protocol.proofs.lemmas.Time.{Came, Has, queue_hit, queue_miss}
use Rattle.ghs_core.specs.Waits.{waits}
use Rattle.ghs_core.proofs.lemmas.Waiting.{waits_so, waits_test}
use Rattle.peer_chains.specs.Chains.{Chains, behind, hears, taken}
use Rattle.ghs_following.specs.Chains.{is_deferred, reacted}
use Rattle.ghs_rounds.proofs.Timing.{AreLate, sent_come}

abbrev pub Due : (Message → Type 0) → ℕ → List Message → List ℕ → Type 0
Due P r [] ts = ⊥
Due P r (m ∷ ms) [] = ⊥
Due P r (m ∷ ms) (t ∷ ts) = (t ≤ r) × (P m ⊎ Due P r ms ts)

pub due_map : (P Q : Message → Type 0) (r : ℕ) → ((m : Message) → P m → Q m) → (ms : List Message) (ts : List ℕ) → Due P r ms ts → Due Q r ms ts
due_map P Q r f [] ts h = absurd h
due_map P Q r f (m ∷ ms) [] h = absurd h
due_map P Q r f (m ∷ ms) (t ∷ ts) h = (h.0, ⊎_elim (λ k. inl (f m k)) (λ k. inr (due_map P Q r f ms ts k)) h.1)

module _ (P : Message → Type 0) (r : ℕ) where
  pub due_append : (ms : List Message) (ts : List ℕ) (came : List Message) (nums : List ℕ) → Due P r ms ts → Due P r (ms ++ came) (ts ++ nums)
  due_append [] ts came nums h = absurd h
  due_append (m ∷ ms) [] came nums h = absurd h
  due_append (m ∷ ms) (t ∷ ts) came nums h = (h.0, ⊎_elim inl (λ k. inr (due_append ms ts came nums k)) h.1)

  -- where all have arrived
  pub due_all : (ms : List Message) (ts : List ℕ) → length ts ≡ length ms → All (λ t. t ≤ r) ts → Has P ms → Due P r ms ts
  due_all [] ts same all h = absurd h
  due_all (m ∷ ms) [] same all h = absurd (let z : 0 ≡ suc (length ms) = same in omega (arith, z))
  due_all (m ∷ ms) (t ∷ ts) same all h =
      let many : length ts ≡ length ms = let z : suc (length ts) ≡ suc (length ms) = same in omega (arith, z) in
      (all_first (λ t. t ≤ r) t ts all, ⊎_elim inl (λ k. inr (due_all ms ts many (all_rest (λ t. t ≤ r) t ts all) k)) h)

  due_left : (f : Fate) (m : Message) (ms : List Message) (t : ℕ) (ts : List ℕ) → Due P r ms ts →
      Due P r (left_of f m ms) (behind (is_deferred f) t ts)
  due_left Consumed m ms t ts h = h
  due_left Requeued m ms t ts h = due_append ms ts (m ∷ []) (t ∷ []) h

  -- where the round is over, what doesn't wait arrives later
  pub late_none : (n : NodeState) (p : ℕ) → ((m : Message) → P m → Waits n p m → ⊥) → (ms : List Message) (ts : List ℕ) →
      AreLate n p (suc r) ms ts → Due P r ms ts → ⊥
  late_none n p free [] ts late h = h
  late_none n p free (m ∷ ms) [] late h = h
  late_none n p free (m ∷ ms) (t ∷ ts) late h = ⊎_elim
      (λ w. let z = waits_so n p m w in ⊎_elim (λ k. free m k z) (λ k. late_none n p free ms ts (late.0 z) k) h.1)
      (λ no. let a = late.1 (λ z. both_ways (waits n p m) no (waits_test n p m z)) in let b = h.0 in omega (arith, a, b))
      (cases_Bool (waits n p m))

  -- an event takes it, or leaves it due
  module _ (g : Shape) (w : Net) (n : IsNetOf g w) (a j : ℕ) (m : Message) (ms : List Message) (d : Delta) (at : At (network_of g) a j)
      (first : w.queue a j ≡ m ∷ ms) (answer : reaction (w.node a) (Deliver j m) ≡ Some d) (up : (w.node a).head.phase ≡ Sleeping → ⊥)
      (c : Chains) where
    abbrev x : Net
    x = steps.taken (network_of g) a j m ms d w

    abbrev heard : Chains
    heard = hears (Take a j) (is_sleeping (w.node a).head.phase) (is_deferred d.fate) c

    abbrev after : Chains
    after = reacted (network_of g) w (Take a j) d c

    heard_hit : (t : ℕ) (us : List ℕ) → c.queue a j ≡ t ∷ us → heard.queue a j ≡ behind (is_deferred d.fate) t us
    heard_hit t us e =
        ap (λ (l : List ℕ). (taken a j (is_sleeping (w.node a).head.phase) (is_deferred d.fate) l c).queue a j) e
        ∙ put_at_hit c.queue a j a j (behind (is_deferred d.fate) t us) refl refl

    heard_miss : (y k : ℕ) → ((y ≡ a) × (k ≡ j) → ⊥) → heard.queue y k ≡ c.queue y k
    heard_miss y k ne = go (c.queue a j)
      where
        go : (ts : List ℕ) → (taken a j (is_sleeping (w.node a).head.phase) (is_deferred d.fate) ts c).queue y k ≡ c.queue y k
        go [] = refl
        go (t ∷ ts) = put_at_miss c.queue a j y k (behind (is_deferred d.fate) t ts) ne

    hit : (ts : List ℕ) → c.queue a j ≡ ts → Due P r (m ∷ ms) ts → P m ⊎ Due P r (x.queue a j) (after.queue a j)
    hit [] e h = absurd h
    hit (t ∷ us) e h = ⊎_elim
        inl
        (λ k.
        let q : Came (left_of d.fate m ms) (x.queue a j) = queue_hit g w n a j m ms d at first answer up in
        let nums = sent_come (network_of g) a d.sends heard a j in
        let is : after.queue a j ≡ behind (is_deferred d.fate) t us ++ nums.came = nums.is ∙ ap (λ (l : List ℕ). l ++ nums.came) (heard_hit t us e) in
        inr (subst₂ (Due P r) (sym q.1) (sym is)
        (due_append (left_of d.fate m ms) (behind (is_deferred d.fate) t us) q.0 nums.came (due_left d.fate m ms t us k))))
        h.1

    pub due_on : (y k : ℕ) → Due P r (w.queue y k) (c.queue y k) → ((y ≡ a) × (k ≡ j) × P m) ⊎ Due P r (x.queue y k) (after.queue y k)
    due_on y k h = ⊎_elim
        (λ (e : (y ≡ a) × (k ≡ j)).
        let here : Due P r (w.queue a j) (c.queue a j) = subst₂ (λ u q. Due P r (w.queue u q) (c.queue u q)) e.0 e.1 h in
        ⊎_elim
        (λ p. inl (e.0, e.1, p))
        (λ z. inr (subst₂ (λ u q. Due P r (x.queue u q) (after.queue u q)) (sym e.0) (sym e.1) z))
        (hit (c.queue a j) refl (subst (λ (l : List Message). Due P r l (c.queue a j)) first here)))
        (λ ne.
        let q : Came (w.queue y k) (x.queue y k) = queue_miss g w n a j m ms d at first answer up y k ne in
        let nums = sent_come (network_of g) a d.sends heard y k in
        let is : after.queue y k ≡ c.queue y k ++ nums.came = nums.is ∙ ap (λ (l : List ℕ). l ++ nums.came) (heard_miss y k ne) in
        inr (subst₂ (Due P r) (sym q.1) (sym is)
        (due_append (w.queue y k) (c.queue y k) q.0 nums.came h)))
        (one_place a j y k)
