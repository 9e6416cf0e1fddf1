-- Claims, message by message.
use Rattle.std.proofs.Common.{◌≡◌, ◌≢◌, ℕ, ◌+◌, ◌<◌, ◌≤◌, ◌==◌, List, [], ◌∷◌, length, get_or, set, take, cond, subst, sym, ◌∙◌, ap, ⊎_elim, eq-eqb, ne_eqb, arith, get_or-set_same, get_or-set_other}
use Rattle.std.specs.List.{All}
use Rattle.std.specs.Prelude.{Result, Ok, Err, OnErr}
use Rattle.std.proofs.lemmas.Bool.{cases_eq}
use Rattle.std.proofs.lemmas.List.{get_or_default, take_more}
use Rattle.std.proofs.lemmas.List.Sums.{sum_by-take-le, sum_by-append}
use Rattle.peer_channels.specs.Queue.{QueueState, no_queue}
use Rattle.peer_channels.specs.Channels.{Outgoing}
use Rattle.peer_channels.specs.Kept.{KeepsEach, HasRoomAt, ClaimsOnly, count_on}

-- what holds once the first i messages have their room

pub claim_is : (claims : List ℕ) (p : ℕ) → p < length claims → get_or (set claims p (get_or claims p 0 + 1)) p 0 ≡ get_or claims p 0 + 1
claim_is claims p lt = get_or-set_same claims p (get_or claims p 0 + 1) 0 lt

pub on_err : {A E P : Type 0} (r : Result A E) → P → OnErr r P
on_err (Ok x) p = tt
on_err (Err e) p = p

module _ {M : Type 0} where
  pub record Claimed (far : List ℕ) (ss : Outgoing M) (i : ℕ) (old qs : List (QueueState M)) (claims : List ℕ) : Type 0 where
    pub kept : KeepsEach old qs
    pub counts : (k : ℕ) → get_or claims k 0 ≡ count_on k (take i ss)
    pub room : HasRoomAt far (take i ss) qs

  abbrev one_if_on : ℕ → ℕ × M → ℕ
  one_if_on k s = cond (s.0 == k) 1 0

  count_more : (k : ℕ) (ss : Outgoing M) (i : ℕ) (s : ℕ × M) →
      i < length ss →
      s ≡ get_or ss i s →
      count_on k (take (i + 1) ss) ≡ count_on k (take i ss) + one_if_on k s
  count_more k ss i s lt is =
      ap (λ (xs : Outgoing M). count_on k xs) (take_more ss i s lt) ∙ sum_by-append (one_if_on k) (take i ss) (get_or ss i s ∷ []) ∙
      (let one : one_if_on k (get_or ss i s) ≡ one_if_on k s = ap (one_if_on k) (sym is) in omega (arith, one))

  count_here : (ss : Outgoing M) (i : ℕ) (s : ℕ × M) →
      i < length ss →
      s ≡ get_or ss i s →
      count_on s.0 (take (i + 1) ss) ≡ count_on s.0 (take i ss) + 1
  count_here ss i s lt is =
      let more = count_more s.0 ss i s lt is in
      let one : one_if_on s.0 s ≡ 1 = rw (eq-eqb s.0 s.0 (λ j. s.0)) (λ j. 1) in
      omega (arith, more, one)

  count_elsewhere : (k : ℕ) (ss : Outgoing M) (i : ℕ) (s : ℕ × M) →
      i < length ss →
      s ≡ get_or ss i s →
      k ≢ s.0 →
      count_on k (take (i + 1) ss) ≡ count_on k (take i ss)
  count_elsewhere k ss i s lt is ne =
      let more = count_more k ss i s lt is in
      let none : one_if_on k s ≡ 0 = rw (ne_eqb s.0 k (λ z. ne (sym z))) (λ j. 0) in
      omega (arith, more, none)

  -- one message more has its room
  module _ (far : List ℕ) (ss : Outgoing M) (i : ℕ) (old qs : List (QueueState M)) (claims : List ℕ) (s : ℕ × M) (x r : QueueState M)
      (claimed : Claimed far ss i old qs claims) (lt : i < length ss) (is : s ≡ get_or ss i s) (port : s.0 < length far)
      (wide : length far ≤ length claims)
      (inside : get_or far s.0 0 < length qs) where
    abbrev place : ℕ
    place = get_or far s.0 0

    at_place : get_or qs place x ≡ get_or qs place no_queue
    at_place = get_or_default qs place x no_queue inside

    list_was : (get_or qs place x).list ≡ (get_or qs place no_queue).list
    list_was = ap (λ (q : QueueState M). q.list) at_place

    room_was : (get_or qs place x).room ≡ (get_or qs place no_queue).room
    room_was = ap (λ (q : QueueState M). q.room) at_place

    pub kept_more : r.list ≡ (get_or qs (get_or far s.0 0) x).list → (get_or qs (get_or far s.0 0) x).room ≤ r.room →
        KeepsEach old (set qs (get_or far s.0 0) r)
    kept_more list more j =
        ⊎_elim
        (λ (z : j ≡ place).
        let now = get_or-set_same qs place r no_queue inside in
        let k = claimed.kept place in
        rw z (rw now (list ∙ list_was ∙ k.0, let b = k.1 in omega (arith, more, room_was, b))))
        (λ ne. rw (get_or-set_other qs place j r no_queue ne) (claimed.kept j))
        (cases_eq j place)

    pub claimed_more :
        r.list ≡ (get_or qs (get_or far s.0 0) x).list →
        (get_or qs (get_or far s.0 0) x).room ≤ r.room →
        get_or claims s.0 0 + 1 ≤ r.room →
        Claimed far ss (i + 1) old (set qs (get_or far s.0 0) r) (set claims s.0 (get_or claims s.0 0 + 1))
    claimed_more list more enough = record { kept = kept_more list more; counts = counts; room = room }
      where
        counts : (k : ℕ) → get_or (set claims s.0 (get_or claims s.0 0 + 1)) k 0 ≡ count_on k (take (i + 1) ss)
        counts k = ⊎_elim
            (λ (z : k ≡ s.0).
            rw z (get_or-set_same claims s.0 (get_or claims s.0 0 + 1) 0 (omega (arith, port, wide)) ∙
            (let had = claimed.counts s.0 in let one = count_here ss i s lt is in omega (arith, had, one))))
            (λ ne. get_or-set_other claims s.0 k (get_or claims s.0 0 + 1) 0 ne ∙ claimed.counts k ∙ sym (count_elsewhere k ss i s lt is ne))
            (cases_eq k s.0)

        room : HasRoomAt far (take (i + 1) ss) (set qs place r)
        room p below = ⊎_elim
            (λ (z : p ≡ s.0).
            let now : (get_or (set qs place r) place no_queue).room ≡ r.room =
            ap (λ (q : QueueState M). q.room) (get_or-set_same qs place r no_queue inside) in
            let had = claimed.counts s.0 in
            let one = count_here ss i s lt is in
            rw z (omega (arith, now, had, one, enough)))
            (λ ne.
            let had = claimed.room p below in
            let same = count_elsewhere p ss i s lt is ne in
            let kept : (get_or qs (get_or far p 0) no_queue).room ≤ (get_or (set qs place r) (get_or far p 0) no_queue).room = ⊎_elim
            (λ (e : get_or far p 0 ≡ place).
            let now : (get_or (set qs place r) place no_queue).room ≡ r.room =
            ap (λ (q : QueueState M). q.room) (get_or-set_same qs place r no_queue inside) in
            rw e (omega (arith, now, room_was, more)))
            (λ apart.
            let now : (get_or (set qs place r) (get_or far p 0) no_queue).room ≡ (get_or qs (get_or far p 0) no_queue).room =
            ap (λ (q : QueueState M). q.room) (get_or-set_other qs place (get_or far p 0) r no_queue apart) in
            omega (arith, now))
            (cases_eq (get_or far p 0) place) in
            omega (arith, had, same, kept))
            (cases_eq p s.0)

    -- where it got none there wasn't room for all
    pub claims_only : ClaimsOnly ss (set claims s.0 (get_or claims s.0 0 + 1))
    claims_only k none =
        let here = count_here ss i s lt is in
        let few : count_on s.0 (take (i + 1) ss) ≤ count_on s.0 ss = sum_by-take-le (one_if_on s.0) ss (i + 1) in
        let apart : k ≢ s.0 = λ z. let n : count_on s.0 ss ≡ 0 = rw z at none in absurd (omega (arith, here, few, n)) in
        let rest : count_on k (take i ss) ≤ count_on k ss = sum_by-take-le (one_if_on k) ss i in
        let had = claimed.counts k in
        get_or-set_other claims s.0 k (get_or claims s.0 0 + 1) 0 apart ∙ omega (arith, rest, had, none)

    pub was_full : (get_or qs (get_or far s.0 0) x).room < get_or claims s.0 0 + 1 → HasRoomAt far ss old → ⊥
    was_full full had =
        let here = count_here ss i s lt is in
        let few : count_on s.0 (take (i + 1) ss) ≤ count_on s.0 ss = sum_by-take-le (one_if_on s.0) ss (i + 1) in
        let count = claimed.counts s.0 in
        let kept = (claimed.kept place).1 in
        let room : (get_or qs place x).room ≡ (get_or qs place no_queue).room = ap (λ (q : QueueState M). q.room) at_place in
        let r = had s.0 port in
        omega (arith, here, few, count, kept, room, r, full)

  -- the port of the message at hand
  pub its_port : (far : List ℕ) (ss : Outgoing M) (i : ℕ) (s : ℕ × M) →
      All (λ x. x.0 < length far) ss →
      i < length ss →
      s ≡ get_or ss i s →
      s.0 < length far
  its_port far ss i s all lt is = let P : ℕ × M → Type 0 = λ x. x.0 < length far in subst P (sym is) (all i s lt)
