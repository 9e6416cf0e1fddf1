-- Slots, each a queue and the place that it leads to: what is told of the two lists is told of one list of slots.
use Rattle.std.proofs.Common.{◌≡◌, ℕ, ◌+◌, ◌<◌, ◌≤◌, List, length, get_or, set, subst, sym, ◌∙◌, ap, arith}
use Rattle.std.specs.List.{All}
use Rattle.std.proofs.lemmas.List.{length-map, map-set}
use Rattle.std.proofs.Math.ListN.{get_or-map}
use Rattle.std.proofs.Math.Seq.{map-set_same}
use Rattle.peer_channels.specs.Queue.{QueueState, Slot}
use Rattle.peer_channels.specs.Channels.{Outgoing, ChannelsState, HasQueue, Changes, KeepsLists, HasRoomFor, first_queue, state_at, destination_of}
use Rattle.peer_channels.specs.Kept.{Laid, AreInOrder, IsKept, KeepsEach, HasRoomAt, seen, laid, queues_in, places_in, places_from}
use Rattle.peer_channels.proofs.Places.{stands_at, state_found, changed_by, kept_with, one_waits, far_found, far_state, far_changed}
use Rattle.peer_channels.proofs.Reserving.{lists_kept, still_kept, stretch_among, room_there}

-- as many queues as slots

module _ {M : Type 0} where
  pub count_queues : (slots : List (Slot M)) → length (queues_in slots) ≡ length slots
  count_queues slots = length-map slots (λ (s : Slot M). s.queue)

  pub count_places : (slots : List (Slot M)) → length (places_in slots) ≡ length slots
  count_places slots = length-map slots (λ (s : Slot M). s.far)

  -- what a slot has stands in the lists at its place
  pub queue_there : (slots : List (Slot M)) (i : ℕ) (x : Slot M) → x ≡ get_or slots i x → x.queue ≡ get_or (queues_in slots) i x.queue
  queue_there slots i x was = ap (λ (s : Slot M). s.queue) was ∙ sym (get_or-map (λ (s : Slot M). s.queue) slots i x)

  pub place_there : (slots : List (Slot M)) (i n : ℕ) (x : Slot M) → n ≡ x.far → x ≡ get_or slots i x → n ≡ get_or (places_in slots) i n
  place_there slots i n x is was = rw is (ap (λ (s : Slot M). s.far) was ∙ sym (get_or-map (λ (s : Slot M). s.far) slots i x))

  -- other queues, which lead to the same places
  pub laid_again : (starts : List ℕ) (slots rs : List (Slot M)) →
      places_in rs ≡ places_in slots →
      record (laid starts slots) { queues = queues_in rs } ≡ laid starts rs
  laid_again starts slots rs same = λ i. record { starts = starts; queues = queues_in rs; far = sym same i }

  pub queues_set : (slots : List (Slot M)) (i : ℕ) (r : Slot M) → queues_in (set slots i r) ≡ set (queues_in slots) i r.queue
  queues_set slots i r = map-set (λ (s : Slot M). s.queue) slots i r

  pub places_set : (slots : List (Slot M)) (i : ℕ) (x r : Slot M) → x ≡ get_or slots i x → r.far ≡ x.far → places_in (set slots i r) ≡ places_in slots
  places_set slots i x r was same = map-set_same (λ (s : Slot M). s.far) slots i r x (same ∙ ap (λ (s : Slot M). s.far) was)

  laid_set : (starts : List ℕ) (slots : List (Slot M)) (i : ℕ) (x r : Slot M) →
      x ≡ get_or slots i x →
      r.far ≡ x.far →
      record (laid starts slots) { queues = set (queues_in slots) i r.queue } ≡ laid starts (set slots i r)
  laid_set starts slots i x r was same =
      λ j. record { starts = starts; queues = sym (queues_set slots i r) j; far = sym (places_set slots i x r was same) j }

  module _ (starts : List ℕ) (slots : List (Slot M)) where
    abbrev old : ChannelsState M
    old = seen (laid starts slots)

    pub slot_stands : AreInOrder (laid starts slots) → (v p start : ℕ) → HasQueue old v p → start ≡ get_or starts v start →
        start + p < length slots
    slot_stands order v p start has found =
        let s = stands_at (laid starts slots) order v p start has found in let n = count_queues slots in omega (arith, s, n)

    pub slot_state : AreInOrder (laid starts slots) → (v p start : ℕ) (x : Slot M) → HasQueue old v p →
        start ≡ get_or starts v start → x ≡ get_or slots (start + p) x → x.queue ≡ state_at old v p
    slot_state order v p start x has found was =
        state_found (laid starts slots) order v p start x.queue has found (queue_there slots (start + p) x was)

    pub slot_changed : AreInOrder (laid starts slots) → (v p start : ℕ) (f : QueueState M → QueueState M) (x r : Slot M) →
        HasQueue old v p → start ≡ get_or starts v start → x ≡ get_or slots (start + p) x → r.queue ≡ f x.queue →
        r.far ≡ x.far →
        Changes old (seen (laid starts (set slots (start + p) r))) v p (f (state_at old v p))
    slot_changed order v p start f x r has found was now same =
        let Told : Laid M → Type 0 = λ l. Changes old (seen l) v p (f (state_at old v p)) in
        subst Told (laid_set starts slots (start + p) x r was same)
        (changed_by (laid starts slots) order v p start f x.queue r.queue has found (queue_there slots (start + p) x was) now)

    pub slot_kept : (claims : List ℕ) (sum n i : ℕ) (x r : Slot M) → IsKept (laid starts slots) claims sum → i < length slots → x ≡ get_or slots i x →
        r.far ≡ x.far → n + length x.queue.list ≡ sum + length r.queue.list → IsKept (laid starts (set slots i r)) claims n
    slot_kept claims sum n i x r kept lt was same e =
        let Told : Laid M → Type 0 = λ l. IsKept l claims n in
        subst Told (laid_set starts slots i x r was same)
        (kept_with (laid starts slots) claims sum n i x.queue r.queue kept (let c = count_queues slots in omega (arith, lt, c))
        (queue_there slots i x was) e)

    pub slot_waits : (claims : List ℕ) (sum i : ℕ) (x : Slot M) → IsKept (laid starts slots) claims sum → i < length slots → x ≡ get_or slots i x →
        length x.queue.list ≤ sum
    slot_waits claims sum i x kept lt was =
        one_waits (laid starts slots) claims sum i x.queue kept (let c = count_queues slots in omega (arith, lt, c)) (queue_there slots i x was)

    -- a message is sent: to the slot that the one at hand leads to
    module _ (order : AreInOrder (laid starts slots)) (v p start i : ℕ) (has : HasQueue old v p)
        (found : start ≡ get_or starts v start) (from : Slot M) (to : i ≡ from.far) (read : from ≡ get_or slots (start + p) from) where
      leads : i ≡ get_or (places_in slots) (start + p) i
      leads = place_there slots (start + p) i from to read

      pub far_slot : i < length slots
      far_slot = let s = far_found (laid starts slots) order v p start i has found leads in let n = count_queues slots in omega (arith, s, n)

      pub far_slot_state : (x : Slot M) → x ≡ get_or slots i x →
          x.queue ≡ state_at old (destination_of old v p).0 (destination_of old v p).1
      far_slot_state x was = far_state (laid starts slots) order v p start i has found leads x.queue (queue_there slots i x was)

      pub far_slot_changed : (f : QueueState M → QueueState M) (x r : Slot M) → x ≡ get_or slots i x → r.queue ≡ f x.queue → r.far ≡ x.far →
          let there = destination_of old v p in Changes old (seen (laid starts (set slots i r))) there.0 there.1 (f (state_at old there.0 there.1))
      far_slot_changed f x r was now same =
          let there = destination_of old v p in
          let Told : Laid M → Type 0 = λ l. Changes old (seen l) there.0 there.1 (f (state_at old there.0 there.1)) in
          subst Told (laid_set starts slots i x r was same)
          (far_changed (laid starts slots) order v p start i has found leads f x.queue r.queue (queue_there slots i x was) now)

    -- room is made: the slots lead where they did
    module _ (rs : List (Slot M)) (count : length rs ≡ length slots) (same : places_in rs ≡ places_in slots) where
      pub same_count : length (queues_in rs) ≡ length (queues_in slots)
      same_count = count_queues rs ∙ count ∙ sym (count_queues slots)

      pub slots_keep_lists : AreInOrder (laid starts slots) → KeepsEach (queues_in slots) (queues_in rs) →
          KeepsLists old (seen (laid starts rs))
      slots_keep_lists order k =
          let Told : Laid M → Type 0 = λ l. KeepsLists old (seen l) in
          subst Told (laid_again starts slots rs same) (lists_kept (laid starts slots) (queues_in rs) order same_count k)

      pub slots_still_kept : (claims cs : List ℕ) (total : ℕ) → IsKept (laid starts slots) claims total → KeepsEach (queues_in slots) (queues_in rs) →
          length cs ≡ length claims → ((k : ℕ) → get_or cs k 0 ≡ 0) → IsKept (laid starts rs) cs total
      slots_still_kept claims cs total kept k wide none =
          let Told : Laid M → Type 0 = λ l. IsKept l cs total in
          subst Told (laid_again starts slots rs same) (still_kept (laid starts slots) (queues_in rs) claims cs total kept same_count k wide none)

    -- the places that the queues of a node lead to, and room at them
    module _ (order : AreInOrder (laid starts slots)) (v start : ℕ) (node : v < length old.queues)
        (told : start ≡ first_queue old v) (claims : List ℕ) (sum : ℕ) (kept : IsKept (laid starts slots) claims sum) where
      pub slots_among : All (λ i. i < length slots) (places_from start (length claims) slots)
      slots_among k d lt =
          let a = stretch_among (laid starts slots) order v start node told claims sum kept k d lt in
          let c = count_queues slots in omega (arith, a, c)

      pub slots_room_there : (rs : List (Slot M)) → length rs ≡ length slots → places_in rs ≡ places_in slots → (ss : Outgoing M) →
          HasRoomAt (places_from start (length claims) slots) ss (queues_in rs) → HasRoomFor v ss (seen (laid starts rs))
      slots_room_there rs count same ss room =
          let Told : Laid M → Type 0 = λ l. HasRoomFor v ss (seen l) in
          subst Told (laid_again starts slots rs same)
          (room_there (laid starts slots) order v start node told claims sum kept ss (queues_in rs) (same_count rs count same) room)
