-- What a reserve leaves as it was, and where it makes room.
use Rattle.std.proofs.Common.{◌≡◌, ◌≢◌, ℕ, ◌+◌, ◌-◌, ◌<◌, ◌==◌, List, [], ◌∷◌, ◌++◌, length, get_or, take, drop, min, cond, refl, sym, ◌∙◌, ap, ⊎_elim, ne_eqb, arith, suc, length-take, length-drop}
use Rattle.std.specs.List.{All, sum_by}
use Rattle.std.proofs.lemmas.Bool.{cases_lt}
use Rattle.std.proofs.lemmas.List.{get_or_default, get_or-take, get_or-drop}
use Rattle.std.proofs.lemmas.List.Sums.{sum_by-cons}
use Rattle.std.proofs.Math.Seq.{take-append_seam}
use Rattle.peer_channels.specs.Queue.{QueueState, no_queue}
use Rattle.peer_channels.specs.Channels.{Outgoing, KeepsLists, GoOut, HasRoomFor, first_queue, state_at, destination_of}
use Rattle.peer_channels.specs.Kept.{Laid, AreInOrder, IsKept, KeepsEach, HasRoomAt, count_on, start_of, port_at, seen}
use Rattle.peer_channels.proofs.lemmas.Ports.{same_destination}
use Rattle.peer_channels.proofs.Places.{HasPlace, first_is, place_within, has_place, place_has, place_of_port, state_is, destination_is, total_is, seen_count, same_ports, still_in_order}

-- a list that was written over whole

pub written_over : {X : Type 0} (n : ℕ) (ws xs : List X) → n ≡ length xs → length ws ≡ length xs → take n (ws ++ drop (length ws) xs) ≡ ws
written_over n ws xs e w = let z : n ≡ length ws = e ∙ sym w in rw z (take-append_seam ws (drop (length ws) xs))

module _ {M : Type 0} where
  same_total : (qs rs : List (QueueState M)) → length rs ≡ length qs → ((i : ℕ) → (get_or rs i no_queue).list ≡ (get_or qs i no_queue).list) →
      sum_by (λ (q : QueueState M). length q.list) rs ≡ sum_by (λ (q : QueueState M). length q.list) qs
  same_total [] [] e same = refl
  same_total [] (r ∷ rs) e same = absurd (omega arith)
  same_total (q ∷ qs) [] e same = absurd (omega arith)
  same_total (q ∷ qs) (r ∷ rs) e same =
      let rest = same_total qs rs (omega arith) (λ i. same (suc i)) in
      let first : length r.list ≡ length q.list = ap length (same 0) in
      sum_by-cons (λ (x : QueueState M). length x.list) r rs ∙ omega (arith, rest, first)
      ∙ sym (sum_by-cons (λ (x : QueueState M). length x.list) q qs)

  -- the lists are as they were, and nowhere is less room
  pub lists_kept : (l : Laid M) (rs : List (QueueState M)) →
      AreInOrder l →
      length rs ≡ length l.queues →
      KeepsEach l.queues rs →
      KeepsLists (seen l) (seen (record l { queues = rs }))
  lists_kept l rs order e k = record {
    ports = same_ports l rs e order;
    lists = λ v p h.
        let at = has_place l order v p h in
        ap (λ (q : QueueState M). q.list) (state_is (record l { queues = rs }) after v p (record { node = at.node; port = at.port })) ∙
        (k (start_of l v + p)).0 ∙ sym (ap (λ (q : QueueState M). q.list) (state_is l order v p at));
    rooms = λ v p h.
        let at = has_place l order v p h in
        let now = ap (λ (q : QueueState M). q.room) (state_is (record l { queues = rs }) after v p (record { node = at.node; port = at.port })) in
        let was = ap (λ (q : QueueState M). q.room) (state_is l order v p at) in
        let more = (k (start_of l v + p)).1 in
        omega (arith, now, was, more);
    total = total_is (record l { queues = rs }) after ∙ same_total l.queues rs e (λ i. (k i).0) ∙ sym (total_is l order);
  }
    where
      after : AreInOrder (record l { queues = rs })
      after = still_in_order l rs e order

  pub still_kept : (l : Laid M) (rs : List (QueueState M)) (claims cs : List ℕ) (total : ℕ) →
      IsKept l claims total →
      length rs ≡ length l.queues →
      KeepsEach l.queues rs →
      length cs ≡ length claims → ((k : ℕ) → get_or cs k 0 ≡ 0) → IsKept (record l { queues = rs }) cs total
  still_kept l rs claims cs total kept e k wide none = record {
    order = still_in_order l rs e kept.order;
    enough = λ v lt. let a = kept.enough v lt in omega (arith, a, wide);
    unclaimed = none;
    total = kept.total ∙ sym (same_total l.queues rs e (λ i. (k i).0));
  }

  abbrev one_on : ℕ → ℕ × M → ℕ
  one_on k s = cond (s.0 == k) 1 0

  -- no message goes out on a port
  none_on : (k : ℕ) (ss : Outgoing M) → ((i : ℕ) (d : ℕ × M) → i < length ss → (get_or ss i d).0 ≢ k) → count_on k ss ≡ 0
  none_on k [] apart = refl
  none_on k (s ∷ ss) apart =
      let rest = none_on k ss (λ i d lt. apart (suc i) d (omega arith)) in
      let first : one_on k s ≡ 0 = rw (ne_eqb s.0 k (apart 0 s (omega arith))) refl in
      sum_by-cons (one_on k) s ss ∙ omega (arith, rest, first)

  -- The places of the far ends of a node's ports: the list of all from there on, as far as there are claims.
  module _ (l : Laid M) (order : AreInOrder l) (v start : ℕ) (node : v < length (seen l).queues) (told : start ≡ first_queue (seen l) v)
      (claims : List ℕ) (sum : ℕ) (kept : IsKept l claims sum) where
    next_inside : v + 1 < length l.starts
    next_inside = let n = seen_count l order in omega (arith, n, node)

    abbrev pub stretch : List ℕ
    stretch = take (length claims) (drop start l.far)

    start_is : start ≡ start_of l v
    start_is = told ∙ first_is l order v (let n = next_inside in omega arith)

    stretch_length : length stretch ≡ min (length claims) (length l.far - start)
    stretch_length = length-take (length claims) (drop start l.far) ∙ ap (min (length claims)) (length-drop start l.far)

    stretch_at : (p d : ℕ) → p < length stretch → get_or stretch p d ≡ get_or l.far (start_of l v + p) d
    stretch_at p d lt =
        let w = stretch_length in
        get_or-take (length claims) (drop start l.far) p d (omega arith) ∙ get_or-drop start l.far p d ∙
        ap (λ (s : ℕ). get_or l.far (s + p) d) start_is

    in_stretch : (p : ℕ) → HasPlace l v p → p < length stretch
    in_stretch p at =
        let port = at.port in
        let z = start_is in
        let w = stretch_length in
        let lt = place_within l order v p at in
        let wide = order.wide in
        let e = kept.enough v next_inside in
        omega arith

    pub stretch_among : All (λ i. i < length l.queues) stretch
    stretch_among p d lt =
        let w = stretch_length in
        let z = start_is in
        let wide = order.wide in
        let is = stretch_at p d lt in
        let here : start_of l v + p < length l.queues = omega arith in
        let f = order.far (start_of l v + p) here in
        let same = get_or_default l.far (start_of l v + p) d 0 (omega arith) in
        omega arith

    pub ports_in_stretch : (ss : Outgoing M) → GoOut (seen l) v ss → All (λ s. s.0 < length stretch) ss
    ports_in_stretch ss out i d lt = in_stretch (get_or ss i d).0 (has_place l order v (get_or ss i d).0 (out i d lt))

    -- where there is room at the destinations
    far_room : (rs : List (QueueState M)) → length rs ≡ length l.queues → (p : ℕ) → HasPlace l v p →
        (state_at (seen (record l { queues = rs })) (destination_of (seen l) v p).0 (destination_of (seen l) v p).1).room ≡
        (get_or rs (get_or stretch p 0) no_queue).room
    far_room rs e p at =
        let after = still_in_order l rs e order in
        let i = get_or l.far (start_of l v + p) 0 in
        let there = place_of_port l order i (order.far (start_of l v + p) (place_within l order v p at)) in
        let state = state_is (record l { queues = rs }) after (port_at l.starts i).0 (port_at l.starts i).1
        (record { node = there.0.node; port = there.0.port }) in
        rw (destination_is l order v p at, stretch_at p 0 (in_stretch p at))
        (ap (λ (q : QueueState M). q.room) state ∙ ap (λ (k : ℕ). (get_or rs k no_queue).room) there.1)

    pub room_there : (ss : Outgoing M) (rs : List (QueueState M)) →
        length rs ≡ length l.queues →
        HasRoomAt stretch ss rs →
        HasRoomFor v ss (seen (record l { queues = rs }))
    room_there ss rs e room p h =
        let after = still_in_order l rs e order in
        let at = has_place (record l { queues = rs }) after v p h in
        let here : HasPlace l v p = record { node = at.node; port = at.port } in
        let there = far_room rs e p here in
        let r = room p (in_stretch p here) in
        let to = same_destination (seen l) (seen (record l { queues = rs })) (same_ports l rs e order) v p in
        rw to (omega (arith, there, r))

    pub room_here : (ss : Outgoing M) → GoOut (seen l) v ss → HasRoomFor v ss (seen l) → HasRoomAt stretch ss l.queues
    room_here ss out room p lt =
        ⊎_elim
        (λ (port : start_of l v + p < start_of l (v + 1)).
        let at : HasPlace l v p = record { node = next_inside; port = port } in
        let there = far_room l.queues (λ i. length l.queues) p at in
        let r = room p (place_has l order v p at) in
        omega (arith, there, r))
        (λ past.
        let none = none_on p ss (λ i d inside is.
        let at = has_place l order v (get_or ss i d).0 (out i d inside) in
        let port = at.port in
        absurd (omega (arith, port, past, is))) in
        omega (arith, none))
        (cases_lt (start_of l v + p) (start_of l (v + 1)))
