-- Each round pays: the rounds of a run are at most the tree messages that it takes, and twice B for each level.
-- Of the run no more is used than what stands here as hypotheses: L1 to L8 of the note.
use Rattle.std.proofs.Common.{◌≡◌, ◌≢◌, ◌⊎◌, inl, inr, ℕ, zero, suc, ◌+◌, ◌*◌, ◌<◌, ◌≤◌, ⊎_elim, arith}

module _ (W : Type 0) (step : ℕ → W → W → Type 0) (quiet : ℕ → W → Type 0) (open_is : W) (member : ℕ → Type 0) (level : W → ℕ → ℕ)
    (probes : W → ℕ → Type 0) (bill : W → ℕ → ℕ) (taken : W → ℕ) (due : ℕ → W → ℕ → Type 0) (tree : ℕ → W → Type 0) (B K : ℕ) where
  -- the states of a run, each with its round
  pub data InRound : W → ℕ → Type 0 where
    Begun : InRound open_is 0
    Went : (w x : W) (r : ℕ) → InRound w r → step r w x → InRound x r
    Over : (w : W) (r : ℕ) → InRound w r → quiet r w → InRound w (suc r)

  abbrev pub Low : W → ℕ → Type 0
  Low w l = (v : ℕ) → member v → l ≤ level w v

  -- what is known of states, of events, and of the ends of rounds
  pub record Facts : Type 0 where
    pub someone : (v : ℕ) × member v
    pub top : (w : W) (r : ℕ) → InRound w r → (v : ℕ) → member v → level w v ≤ K
    pub here : (w : W) (l : ℕ) → ((v : ℕ) × member v × (level w v ≡ l)) ⊎ ((v : ℕ) → member v → level w v ≢ l)
    pub at_zero : (w : W) (r : ℕ) → InRound w r → (v : ℕ) → member v → level w v ≡ 0 → probes w v → ⊥
    pub some_bill : (w : W) (v : ℕ) → 1 ≤ bill w v
    -- L2
    pub most_bill : (w : W) (r : ℕ) → InRound w r → (v : ℕ) → member v → probes w v → bill w v ≤ 2 * B
    -- of an event
    pub rises : (w x : W) (r : ℕ) → InRound w r → step r w x → (v : ℕ) → member v → level w v ≤ level x v
    pub takes : (w x : W) (r : ℕ) → InRound w r → step r w x → taken w ≤ taken x
    -- L3, L4: at the least level who probes did so before, and owed no less
    pub old : (w x : W) (r : ℕ) → InRound w r → step r w x → (l : ℕ) → Low w l → (v : ℕ) → member v → level x v ≡ l → probes x v →
        (level w v ≡ l) × probes w v × (bill x v ≤ bill w v)
    -- L5, L6, L8: what he waits for stays due, or he owes less
    pub waits : (w x : W) (r : ℕ) → InRound w r → step r w x → (l : ℕ) → Low w l → (v : ℕ) → member v → level x v ≡ l → probes x v → due r w v →
        due r x v ⊎ (suc (bill x v) ≤ bill w v)
    -- L7, L8: a free tree message stays due, or one is taken
    pub goes : (w x : W) (r : ℕ) → InRound w r → step r w x → tree r w → tree r x ⊎ (suc (taken w) ≤ taken x)
    -- of the end of a round: nothing free is due, all that is free will be, and something is
    pub no_due : (w : W) (r : ℕ) → InRound w r → quiet r w → (v : ℕ) → member v → probes w v → due r w v → ⊥
    pub no_tree : (w : W) (r : ℕ) → InRound w r → quiet r w → tree r w → ⊥
    pub all_due : (w : W) (r : ℕ) → InRound w r → quiet r w → (l : ℕ) → Low w l → (v : ℕ) → member v → level w v ≡ l → probes w v → due (suc r) w v
    -- L1
    pub moves : (w : W) (r : ℕ) → InRound w r → quiet r w → (l : ℕ) → Low w l → (v : ℕ) → member v → level w v ≡ l →
        tree (suc r) w ⊎ ((u : ℕ) × member u × (level w u ≡ l) × probes w u)

  module _ (facts : Facts) where
    -- who is at the least level and probes owes at most m
    abbrev Owe : W → ℕ → ℕ → Type 0
    Owe w l m = (v : ℕ) → member v → level w v ≡ l → probes w v → bill w v ≤ m

    abbrev OweOrWait : ℕ → W → ℕ → ℕ → Type 0
    OweOrWait r w l k = (v : ℕ) → member v → level w v ≡ l → probes w v → (bill w v ≤ k) ⊎ ((bill w v ≤ suc k) × due r w v)

    -- where a round stands: it has paid; or the probers of the least level pay for it; or a tree message will
    data Mode (r : ℕ) (w : W) (l : ℕ) : ℕ → Type 0 where
      Paid : (m : ℕ) → Low w l → r + m ≤ taken w + 2 * (B * l) → Owe w l m → Mode r w l m
      Testing : (k : ℕ) → Low w l → r + k ≤ taken w + 2 * (B * l) → OweOrWait r w l k → Mode r w l (suc k)
      Waiting : Low w l → r ≤ suc (taken w + 2 * (B * l)) → Owe w l 0 → tree r w → Mode r w l 0

    low_later : (w x : W) (r l : ℕ) → InRound w r → step r w x → Low w l → Low x l
    low_later w x r l at s low v is = let a = low v is in let b = facts.rises w x r at s v is in omega (arith, a, b)

    owe_later : (w x : W) (r l m : ℕ) → InRound w r → step r w x → Low w l → Owe w l m → Owe x l m
    owe_later w x r l m at s low owe v is e p =
        let z = facts.old w x r at s l low v is e p in
        let a = owe v is z.0 z.1 in let b = z.2 in omega (arith, a, b)

    wait_later : (w x : W) (r l k : ℕ) → InRound w r → step r w x → Low w l → OweOrWait r w l k → OweOrWait r x l k
    wait_later w x r l k at s low owe v is e p =
        let z = facts.old w x r at s l low v is e p in
        let b = z.2 in
        ⊎_elim
        (λ a. inl (omega (arith, a, b)))
        (λ d.
        let a = d.0 in
        ⊎_elim
        (λ still. inr (omega (arith, a, b), still))
        (λ less. inl (omega (arith, a, less)))
        (facts.waits w x r at s l low v is e p d.1))
        (owe v is z.0 z.1)

    -- an event
    went : (w x : W) (r l m : ℕ) → InRound w r → step r w x → Mode r w l m → Mode r x l m
    went w x r l _ at s (Paid m low le owe) =
        let t = facts.takes w x r at s in
        Paid m (low_later w x r l at s low) (omega (arith, le, t)) (owe_later w x r l m at s low owe)
    went w x r l _ at s (Testing k low le owe) =
        let t = facts.takes w x r at s in
        Testing k (low_later w x r l at s low) (omega (arith, le, t)) (wait_later w x r l k at s low owe)
    went w x r l _ at s (Waiting low le owe free) =
        let t = facts.takes w x r at s in
        ⊎_elim
        (λ still. Waiting (low_later w x r l at s low) (omega (arith, le, t)) (owe_later w x r l 0 at s low owe) still)
        (λ more. Paid 0 (low_later w x r l at s low) (omega (arith, le, more)) (owe_later w x r l 0 at s low owe))
        (facts.goes w x r at s free)

    -- some level and some bill
    record Stands (r : ℕ) (w : W) : Type 0 where
      pub least : ℕ
      pub owed : ℕ
      pub mode : Mode r w least owed

    -- the next round, where this one has paid: fuel is how many levels may lie above
    next : (w : W) (r : ℕ) → InRound w r → quiet r w → (fuel l m : ℕ) → K < l + fuel → Low w l → r + m ≤ taken w + 2 * (B * l) → Owe w l m →
        Stands (suc r) w
    next w r at q zero l m lt low le owe =
        absurd (let a = low facts.someone.0 facts.someone.1 in let b = facts.top w r at facts.someone.0 facts.someone.1 in omega (arith, lt, a, b))
    next w r at q (suc fuel) l m lt low le owe = ⊎_elim (λ h. begin m le owe h.0 h.1 h.2)
        (λ none. higher (λ le' low' owe'. next w r at q fuel (suc l) (2 * B) le' low' (omega (arith, le, more)) owe') none) (facts.here w l)
      where
        begin : (m : ℕ) → r + m ≤ taken w + 2 * (B * l) → Owe w l m → (v : ℕ) → member v → level w v ≡ l → Stands (suc r) w
        begin (suc k) le owe v is e = record {
          least = l;
          owed = suc k;
          mode = Testing k low (omega (arith, le)) (λ u u_is at_l p. inr (owe u u_is at_l p, facts.all_due w r at q l low u u_is at_l p));
        }
        begin zero le owe v is e = ⊎_elim
            (λ free. record { least = l; owed = 0; mode = Waiting low (omega (arith, le)) owe free })
            (λ u. absurd (let a = owe u.0 u.1 u.2 u.3 in let b = facts.some_bill w u.0 in omega (arith, a, b)))
            (facts.moves w r at q l low v is e)

        low_next : ((v : ℕ) → member v → level w v ≢ l) → Low w (suc l)
        low_next none v is = let a = low v is in let ne = none v is in omega (arith, a, ne)

        more : 2 * (B * suc l) ≡ 2 * (B * l) + 2 * B
        more = omega arith

        higher : (K < suc l + fuel → Low w (suc l) → Owe w (suc l) (2 * B) → Stands (suc r) w) → ((v : ℕ) → member v → level w v ≢ l) → Stands
            (suc r) w
        higher go none = go (omega (arith, lt)) (low_next none) (λ v is at_l p. facts.most_bill w r at v is p)

    over : (w : W) (r l m : ℕ) → InRound w r → quiet r w → Mode r w l m → Stands (suc r) w
    over w r l _ at q (Paid m low le owe) = next w r at q (suc K) l m (omega arith) low le owe
    over w r l _ at q (Testing k low le owe) =
        next w r at q (suc K) l k (omega arith) low le
        (λ v is e p. ⊎_elim (λ a. a) (λ d. absurd (facts.no_due w r at q v is p d.1)) (owe v is e p))
    over w r l _ at q (Waiting low le owe free) = absurd (facts.no_tree w r at q free)

    stands : (w : W) (r : ℕ) → InRound w r → Stands r w
    stands _ _ Begun = record {
      least = 0;
      owed = 0;
      mode = Paid 0 (λ v is. omega arith) (omega arith) (λ v is e p. absurd (facts.at_zero open_is 0 Begun v is e p));
    }
    stands _ _ (Went w x r at s) = let z = stands w r at in record { least = z.least; owed = z.owed; mode = went w x r z.least z.owed at s z.mode }
    stands _ _ (Over w r at q) = let z = stands w r at in over w r z.least z.owed at q z.mode

    times_most : (l : ℕ) → l ≤ K → B * l ≤ B * K
    times_most l le = mul_le B l K le
      where
        mul_le : (b l k : ℕ) → l ≤ k → b * l ≤ b * k
        mul_le zero l k le = omega arith
        mul_le (suc b) l k le = let a = mul_le b l k le in omega (arith, a, le)

    near : (w : W) (r l m : ℕ) → InRound w r → Mode r w l m → r ≤ suc (taken w + 2 * (B * K))
    near w r l m at mode = go mode
      where
        below : Low w l → B * l ≤ B * K
        below low = times_most l (let a = low facts.someone.0 facts.someone.1 in let b = facts.top w r at facts.someone.0 facts.someone.1 in
            omega (arith, a, b))

        go : {m : ℕ} → Mode r w l m → r ≤ suc (taken w + 2 * (B * K))
        go (Paid m low le owe) = let a = below low in omega (arith, le, a)
        go (Testing k low le owe) = let a = below low in omega (arith, le, a)
        go (Waiting low le owe free) = let a = below low in omega (arith, le, a)

    -- at every moment the rounds are at most one more than the tree messages taken and twice B for each level
    pub rounds_pay : (w : W) (r : ℕ) → InRound w r → r ≤ suc (taken w + 2 * (B * K))
    rounds_pay w r at = let z = stands w r at in near w r z.least z.owed at z.mode

    -- and no more than that where a further tree message is taken
    pub last_pays : (w : W) (r n : ℕ) → InRound w r → suc (taken w) ≤ n → r ≤ n + 2 * (B * K)
    last_pays w r n at more = let a = rounds_pay w r at in omega (arith, a, more)
