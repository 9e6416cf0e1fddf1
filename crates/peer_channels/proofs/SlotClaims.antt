-- Claims, message by message, where the far ends' places stand in the slots.
use Rattle.std.proofs.Common.{◌≡◌, ℕ, ◌+◌, ◌-◌, ◌<◌, ◌≤◌, List, length, get_or, set, slice_index, drop, min, subst, sym, ◌∙◌, ap, arith, length-take, length-drop}
use Rattle.std.specs.List.{All}
use Rattle.std.proofs.lemmas.List.{get_or_default, get_or-take, get_or-drop, take_all}
use Rattle.std.proofs.Math.ListN.{get_or-map}
use Rattle.peer_channels.specs.Queue.{QueueState, Slot, no_queue}
use Rattle.peer_channels.specs.Channels.{Outgoing}
use Rattle.peer_channels.specs.Kept.{KeepsEach, HasRoomAt, count_on, queues_in, places_in, places_from}
use Rattle.peer_channels.proofs.Claiming.{Claimed, kept_more, claimed_more, claims_only, was_full, its_port}
use Rattle.peer_channels.proofs.Slots.{count_queues, count_places, queue_there, queues_set, places_set}

-- how many places stand there

module _ {M : Type 0} where
  many_from : (start most : ℕ) (slots : List (Slot M)) → length (places_from start most slots) ≡ min most (length slots - start)
  many_from start most slots =
      length-take most (drop start (places_in slots)) ∙
      (let d = length-drop start (places_in slots) in let c = count_places slots in ap (min most) (omega (arith, d, c)))

  -- the claims and the slots once the first i messages have their room
  pub record SlotsClaimed (start most : ℕ) (ss : Outgoing M) (i : ℕ) (old slots : List (Slot M)) (claims : List ℕ) : Type 0 where
    pub claimed : Claimed (places_from start most old) ss i (queues_in old) (queues_in slots) claims
    pub places : places_in slots ≡ places_in old

  -- a message is at hand, and n is where its port leads
  module _ (start most : ℕ) (ss : Outgoing M) (i : ℕ) (old slots : List (Slot M)) (claims : List ℕ) (s : ℕ × M) (n : ℕ) (d : Slot M)
      (so_far : SlotsClaimed start most ss i old slots claims)
      (lt : i < length ss) (is : s ≡ get_or ss i s) (ports : All (λ x. x.0 < length (places_from start most old)) ss)
      (among : All (λ k. k < length old) (places_from start most old)) (wide : length claims ≡ most) (count : length slots ≡ length old)
      (leads : n ≡ (get_or slots (start + s.0) d).far) where
    abbrev far : List ℕ
    far = places_from start most old

    port : s.0 < length far
    port = its_port far ss i s ports lt is

    few : length far ≤ length claims
    few = let m = many_from start most old in omega (arith, m, wide)

    there : n ≡ get_or far s.0 0
    there =
        let m = many_from start most old in
        let p = port in
        let c = count_places slots in
        leads ∙ sym (get_or-map (λ (x : Slot M). x.far) slots (start + s.0) d) ∙
        get_or_default (places_in slots) (start + s.0) d.far 0 (omega (arith, m, p, c, count)) ∙
        ap (λ (ps : List ℕ). get_or ps (start + s.0) 0) so_far.places ∙
        sym (get_or-take most (drop start (places_in old)) s.0 0 (omega (arith, m, p)) ∙ get_or-drop start (places_in old) s.0 0)

    pub far_inside : n < length slots
    far_inside = let a = among s.0 0 port in let t = there in omega (arith, a, t, count)

    there_inside : get_or far s.0 0 < length (queues_in slots)
    there_inside = let a = far_inside in let t = there in let c = count_queues slots in omega (arith, a, t, c)

    -- no claim for a port on which nothing goes out
    pub slots_only : (k : ℕ) → count_on k ss ≡ 0 → slice_index (set claims s.0 (get_or claims s.0 0 + 1)) k ≡ 0
    slots_only =
        claims_only far ss i (queues_in old) (queues_in slots) claims s no_queue no_queue so_far.claimed lt is port few there_inside

    -- the slot there is read, and another one written
    module _ (e r : Slot M) where
      abbrev x : Slot M
      x = get_or slots n e

      was : x ≡ get_or slots n x
      was = get_or_default slots n e x far_inside

      queue_was : x.queue ≡ get_or (queues_in slots) (get_or far s.0 0) x.queue
      queue_was = queue_there slots n x was ∙ ap (λ (k : ℕ). get_or (queues_in slots) k x.queue) there

      list_was : x.queue.list ≡ (get_or (queues_in slots) (get_or far s.0 0) x.queue).list
      list_was = ap (λ (q : QueueState M). q.list) queue_was

      room_was : x.queue.room ≡ (get_or (queues_in slots) (get_or far s.0 0) x.queue).room
      room_was = ap (λ (q : QueueState M). q.room) queue_was

      queues_now : set (queues_in slots) (get_or far s.0 0) r.queue ≡ queues_in (set slots n r)
      queues_now = ap (λ (k : ℕ). set (queues_in slots) k r.queue) (sym there) ∙ sym (queues_set slots n r)

      pub same_places : r.far ≡ (get_or slots n e).far → places_in (set slots n r) ≡ places_in old
      same_places same = places_set slots n x r was same ∙ so_far.places

      pub slots_keep :
          r.queue.list ≡ (get_or slots n e).queue.list →
          (get_or slots n e).queue.room ≤ r.queue.room →
          KeepsEach (queues_in old) (queues_in (set slots n r))
      slots_keep list more =
          let Told : List (QueueState M) → Type 0 = λ qs. KeepsEach (queues_in old) qs in
          let w = room_was in
          subst Told queues_now
          (kept_more far ss i (queues_in old) (queues_in slots) claims s x.queue r.queue so_far.claimed lt is port few there_inside (list ∙ list_was)
          (omega (arith, more, w)))

      pub slots_claimed :
          r.queue.list ≡ (get_or slots n e).queue.list →
          (get_or slots n e).queue.room ≤ r.queue.room →
          get_or claims s.0 0 + 1 ≤ r.queue.room →
          r.far ≡ (get_or slots n e).far →
          SlotsClaimed start most ss (i + 1) old (set slots n r) (set claims s.0 (get_or claims s.0 0 + 1))
      slots_claimed list more enough same =
          let Told : List (QueueState M) → Type 0 = λ qs. Claimed far ss (i + 1) (queues_in old) qs (set claims s.0 (get_or claims s.0 0 + 1)) in
          let w = room_was in
          record {
            claimed = subst Told queues_now
                (claimed_more far ss i (queues_in old) (queues_in slots) claims s x.queue r.queue so_far.claimed lt is port few there_inside
                (list ∙ list_was) (omega (arith, more, w)) enough);
            places = same_places same;
          }

      pub slots_full : (get_or slots n e).queue.room < get_or claims s.0 0 + 1 → HasRoomAt far ss (queues_in old) → ⊥
      slots_full full =
          let w = room_was in
          was_full far ss i (queues_in old) (queues_in slots) claims s x.queue r.queue so_far.claimed lt is port few there_inside
          (omega (arith, full, w))

  -- the claim that was just made
  pub claim_now : (start most : ℕ) (slots : List (Slot M)) (claims : List ℕ) (ss : Outgoing M) (i : ℕ) (s : ℕ × M) →
      All (λ x. x.0 < length (places_from start most slots)) ss →
      i < length ss →
      s ≡ get_or ss i s → length claims ≡ most → s.0 < length claims
  claim_now start most slots claims ss i s ports lt is wide =
      let p = its_port (places_from start most slots) ss i s ports lt is in
      let m = many_from start most slots in omega (arith, p, m, wide)

  -- once all messages have their room
  pub room_for_all : (start most : ℕ) (ss : Outgoing M) (i : ℕ) (old slots : List (Slot M)) (claims : List ℕ) →
      SlotsClaimed start most ss i old slots claims →
      length ss ≤ i →
      HasRoomAt (places_from start most old) ss (queues_in slots)
  room_for_all start most ss i old slots claims done le =
      let Told : Outgoing M → Type 0 = λ xs. HasRoomAt (places_from start most old) xs (queues_in slots) in
      subst Told (take_all i ss le) done.claimed.room
