-- Each fair run comes to its end.
use Rattle.std.proofs.Common.{◌≡◌, ℕ, zero, suc, ◌≤◌, ◌+◌, Bool, Option, Some, None, List, [], ◌∷◌, ◌++◌, length, refl, sym, ◌∙◌, ap, subst, subst₂, ⊎_elim, ◌⊎◌, inl, inr, arith, unwrap_or}
use Rattle.std.specs.List.{All}
use Rattle.ghs_graph.specs.Graph.{Shape, IsGraph}
use Rattle.ghs_node.specs.declared.message.Message.{Message}
use Rattle.peer_network.specs.declared.event.Event.{Event}
use Rattle.peer_network.specs.declared.event.Event.TheVariants as events
use Rattle.peer_network.specs.declared.event.Event.TheVariants.{Take}
use Rattle.peer_network.specs.Network.{network_of, At}
use Rattle.ghs_protocol.specs.Net.{Net, happens}
use Rattle.ghs_protocol.specs.Ledger.{in_all}
use Rattle.ghs_protocol.specs.Laws.{IsNetOf}
use Rattle.ghs_protocol.specs.Steps.{Happens, Woke}
use Rattle.ghs_protocol.specs.Living.{Waits, Turned, GoesOn, if_can, all_that_can, Stands, Now, Soon, StandsTwice, Now_and_soon, Soon_twice, IsRound, Comes, FairRunsEnd}
use Rattle.peer_network.proofs.lemmas.Graphs.{graph_wired}
use Rattle.ghs_protocol.proofs.lemmas.Events.{happening, happens_so}
use Rattle.ghs_protocol.proofs.lemmas.Sends.{consumed_now}
use Rattle.peer_network.proofs.lemmas.Updates.{one_place}
use Rattle.ghs_protocol.proofs.progress.Requeues.{turned_by}
use Rattle.ghs_protocol.proofs.progress.Finish.{reached, Held, real, component, later, can_take, formed, grows, most, going, advance, woken_more}
use Rattle.ghs_protocol.proofs.charges.Bound.{sends_within}
use Rattle.ghs_protocol.proofs.progress.Runs.{no_run_is_stuck}

append_last : (bs cs : List Message) (x m : Message) → (bs ++ x ∷ cs) ++ m ∷ [] ≡ bs ++ x ∷ (cs ++ m ∷ [])
append_last [] cs x m = refl
append_last (y ∷ bs) cs x m = ap (λ zs. y ∷ zs) (append_last bs cs x m)

first_same : (x y : Message) (xs ys : List Message) → x ∷ xs ≡ y ∷ ys → (x ≡ y) × (xs ≡ ys)
first_same x y xs ys e = (cc, cc)

module _ (g : Shape) (graph : IsGraph g) where
  -- a wake gets on
  pub wake_gets_on : (w : Net) (v : ℕ) (w' : Net) →
      IsNetOf g w →
      Happens (network_of g) w (events.Wake v) w' →
      suc (reached (network_of g) w) ≤ reached (network_of g) w'
  wake_gets_on w _ _ n (Woke v d lo hi s r) =
      let a = woken_more (network_of g) (graph_wired g graph) w (formed g graph w n) v d lo hi s r in
      let c = ap in_all (consumed_now (network_of g) v d w) in
      omega (arith, a, c)

  -- one event
  net_one : (w : Net) (e : Event) → IsNetOf g w → IsNetOf g (if_can (network_of g) w e)
  net_one w e n = go (happens (network_of g) w e) refl
    where
      go : (o : Option Net) → happens (network_of g) w e ≡ o → IsNetOf g (unwrap_or o w)
      go None h = n
      go (Some x) h = later g graph w x e n (happening (network_of g) w x e h)

  least_one : (w : Net) (e : Event) → IsNetOf g w → reached (network_of g) w ≤ reached (network_of g) (if_can (network_of g) w e)
  least_one w e n = go (happens (network_of g) w e) refl
    where
      by : (x : Net) (e : Event) → Happens (network_of g) w e x → reached (network_of g) w ≤ reached (network_of g) x
      by x (events.Wake v) h = let z = wake_gets_on w v x n h in omega (arith, z)
      by x (Take v p) h = grows g graph w x v p n h

      go : (o : Option Net) → happens (network_of g) w e ≡ o → reached (network_of g) w ≤ reached (network_of g) (unwrap_or o w)
      go None h = omega arith
      go (Some x) h = by x e (happening (network_of g) w x e h)

  -- several
  pub net_all : (es : List Event) (w : Net) → IsNetOf g w → IsNetOf g (all_that_can (network_of g) w es)
  net_all [] w n = n
  net_all (e ∷ es) w n = net_all es (if_can (network_of g) w e) (net_one w e n)

  least_all : (es : List Event) (w : Net) → IsNetOf g w → reached (network_of g) w ≤ reached (network_of g) (all_that_can (network_of g) w es)
  least_all [] w n = omega arith
  least_all (e ∷ es) w n = let a = least_one w e n in let z = least_all es (if_can (network_of g) w e) (net_one w e n) in omega (arith, a, z)

  -- behind at most k messages at this port stands one that doesn't wait
  pub record Ready (v p k : ℕ) (w : Net) : Type 0 where
    pub before : List Message
    pub message : Message
    pub behind : List Message
    pub queue : w.queue v p ≡ before ++ message ∷ behind
    pub few : length before ≤ k
    pub goes : Waits (w.node v) p message → ⊥

  -- where nodes and the queue stay it stands there still
  stays : (v p k : ℕ) (w w' : Net) → (w'.node v ≡ w.node v) → (w'.queue v p ≡ w.queue v p) → Ready v p k w → Ready v p k w'
  stays v p k w w' same q r = record {
    before = r.before;
    message = r.message;
    behind = r.behind;
    queue = q ∙ r.queue;
    few = r.few;
    goes = subst (λ y. Waits y p r.message → ⊥) (sym same) r.goes;
  }

  module _ (v p : ℕ) (at : At (network_of g) v p) where
    -- a turn of its queue brings it nearer
    nearer : (k : ℕ) (w w' : Net) (m : Message) (ms : List Message) →
        w.queue v p ≡ m ∷ ms →
        Waits (w.node v) p m →
        Turned w v p m ms w' →
        Ready v p (suc k) w →
        Ready v p k w'
    nearer k w w' m ms q waits t r = go r.before r.queue r.few
      where
        go : (bs : List Message) → w.queue v p ≡ bs ++ r.message ∷ r.behind → length bs ≤ suc k → Ready v p k w'
        go [] e f = absurd (r.goes (subst (Waits (w.node v) p) (first_same m r.message ms r.behind (sym q ∙ e)).0 waits))
        go (x ∷ bs) e f = record {
          before = bs;
          message = r.message;
          behind = r.behind ++ m ∷ [];
          queue =
              t.queue ∙ ap (λ zs. zs ++ m ∷ []) (first_same m x ms (bs ++ r.message ∷ r.behind) (sym q ∙ e)).1 ∙ append_last bs r.behind r.message m;
          few = omega (arith, f);
          goes = subst (λ y. Waits y p r.message → ⊥) (sym (t.nodes v)) r.goes;
        }

    first_goes : (w : Net) (m : Message) (ms : List Message) → w.queue v p ≡ m ∷ ms → Waits (w.node v) p m → Ready v p 0 w → ⊥
    first_goes w m ms q waits r = go r.before r.queue r.few
      where
        go : (bs : List Message) → w.queue v p ≡ bs ++ r.message ∷ r.behind → length bs ≤ 0 → ⊥
        go [] e f = r.goes (subst (Waits (w.node v) p) (first_same m r.message ms r.behind (sym q ∙ e)).0 waits)
        go (x ∷ bs) e f = omega (arith, f)

    -- any event that happens gets on, or leaves it there; one at this very port, if it doesn't get on, brings it nearer
    pub happened : (w w' : Net) (e : Event) →
        IsNetOf g w →
        Happens (network_of g) w e w' →
        (suc (reached (network_of g) w) ≤ reached (network_of g) w') ⊎
        (((k : ℕ) → Ready v p k w → Ready v p k w') × (e ≡ Take v p → (k : ℕ) → Ready v p (suc k) w → Ready v p k w') ×
        (e ≡ Take v p → Ready v p 0 w → ⊥))
    happened w w' (events.Wake u) n h = inl (wake_gets_on w u w' n h)
    happened w w' (Take u q) n h = ⊎_elim (λ z. inl z) held (real g graph w w' (Take u q) n u q refl h)
      where
        held :
            Held g graph w u q →
            (suc (reached (network_of g) w) ≤ reached (network_of g) w') ⊎
            (((k : ℕ) → Ready v p k w → Ready v p k w') × (Take u q ≡ Take v p → (k : ℕ) → Ready v p (suc k) w → Ready v p k w') ×
            (Take u q ≡ Take v p → Ready v p 0 w → ⊥))
        held z =
            inr (
              (λ k r. ⊎_elim
                  (λ e. weaker k (nearer k w w' z.message z.behind (here e.0 e.1 ∙ z.queue) (there e.0 e.1 z.waits) (turned_here e.0 e.1) (more k r)))
                  (λ ne. stays v p k w w' (t.nodes v) (t.queues v p (λ y. ne y)) r)
                  (one_place u q v p)),
              (λ i k r.
                  let ea : u ≡ v = cc in
                  let eb : q ≡ p = cc in
                  nearer k w w' z.message z.behind (here (sym ea) (sym eb) ∙ z.queue) (there (sym ea) (sym eb) z.waits)
                  (turned_here (sym ea) (sym eb)) r),
              (λ i r.
                  let ea : u ≡ v = cc in
                  let eb : q ≡ p = cc in first_goes w z.message z.behind (here (sym ea) (sym eb) ∙ z.queue) (there (sym ea) (sym eb) z.waits) r),
            )
          where
            t : Turned w u q z.message z.behind w'
            t = turned_by (network_of g) w w' u q z.message z.behind z.at ((formed g graph w n).nodes u) z.queue z.waits h

            here : v ≡ u → p ≡ q → w.queue v p ≡ w.queue u q
            here a b = λ i. w.queue (a i) (b i)

            there : v ≡ u → p ≡ q → Waits (w.node u) q z.message → Waits (w.node v) p z.message
            there a b y = subst₂ (λ c d. Waits (w.node c) d z.message) (sym a) (sym b) y

            turned_here : v ≡ u → p ≡ q → Turned w v p z.message z.behind w'
            turned_here a b = subst₂ (λ c d. Turned w c d z.message z.behind w') (sym a) (sym b) t

            more : (k : ℕ) → Ready v p k w → Ready v p (suc k) w
            more k r = record {
              before = r.before;
              message = r.message;
              behind = r.behind;
              queue = r.queue;
              few = (let f = r.few in omega (arith, f));
              goes = r.goes;
            }

            weaker : (k : ℕ) → Ready v p k w' → Ready v p k w'
            weaker k r = r

    -- a queue with such a message can be taken from
    not_none : (w : Net) → IsNetOf g w → (k : ℕ) → Ready v p k w → happens (network_of g) w (Take v p) ≡ None → ⊥
    not_none w n k r e = go r.before r.queue
      where
        taken_now : (w' : Net) × Happens (network_of g) w (Take v p) w' → ⊥
        taken_now t = let z = sym (happens_so t.1) ∙ e in cc

        go : (bs : List Message) → w.queue v p ≡ bs ++ r.message ∷ r.behind → ⊥
        go [] q = taken_now (can_take g graph w n v p at r.message r.behind q)
        go (x ∷ bs) q = taken_now (can_take g graph w n v p at x (bs ++ r.message ∷ r.behind) q)

    step : (k : ℕ) (w : Net) (e : Event) →
        IsNetOf g w →
        Ready v p k w →
        (suc (reached (network_of g) w) ≤ reached (network_of g) (if_can (network_of g) w e)) ⊎ Ready v p k (if_can (network_of g) w e)
    step k w e n r = go (happens (network_of g) w e) refl
      where
        go : (o : Option Net) →
            happens (network_of g) w e ≡ o →
            (suc (reached (network_of g) w) ≤ reached (network_of g) (unwrap_or o w)) ⊎ Ready v p k (unwrap_or o w)
        go None h = inr r
        go (Some x) h = ⊎_elim (λ z. inl z) (λ z. inr (z.0 k r)) (happened w x e n (happening (network_of g) w x e h))

    step_nearer : (k : ℕ) (w : Net) →
        IsNetOf g w →
        Ready v p (suc k) w →
        (suc (reached (network_of g) w) ≤ reached (network_of g) (if_can (network_of g) w (Take v p))) ⊎ Ready v p k
        (if_can (network_of g) w (Take v p))
    step_nearer k w n r = go (happens (network_of g) w (Take v p)) refl
      where
        go : (o : Option Net) →
            happens (network_of g) w (Take v p) ≡ o →
            (suc (reached (network_of g) w) ≤ reached (network_of g) (unwrap_or o w)) ⊎ Ready v p k (unwrap_or o w)
        go None h = absurd (not_none w n (suc k) r h)
        go (Some x) h = ⊎_elim (λ z. inl z) (λ z. inr (z.1 refl k r)) (happened w x (Take v p) n (happening (network_of g) w x (Take v p) h))

    step_last : (w : Net) → IsNetOf g w → Ready v p 0 w → suc (reached (network_of g) w) ≤ reached (network_of g) (if_can (network_of g) w (Take v p))
    step_last w n r = go (happens (network_of g) w (Take v p)) refl
      where
        go : (o : Option Net) → happens (network_of g) w (Take v p) ≡ o → suc (reached (network_of g) w) ≤ reached (network_of g) (unwrap_or o w)
        go None h = absurd (not_none w n 0 r h)
        go (Some x) h = ⊎_elim (λ z. z) (λ z. absurd (z.2 refl r)) (happened w x (Take v p) n (happening (network_of g) w x (Take v p) h))

    once : (es : List Event) →
        Stands (Take v p) es →
        (w : Net) → IsNetOf g w →
        Ready v p 0 w →
        suc (reached (network_of g) w) ≤ reached (network_of g) (all_that_can (network_of g) w es)
    once _ (Now {es = es}) w n r =
        let a = step_last w n r in let z = least_all es (if_can (network_of g) w (Take v p)) (net_one w (Take v p) n) in omega (arith, a, z)
    once _ (Soon {x = x} {es = es} s) w n r =
        ⊎_elim (λ a. let z = least_all es (if_can (network_of g) w x) (net_one w x n) in omega (arith, a, z))
        (λ r'. let a = least_one w x n in let z = once es s (if_can (network_of g) w x) (net_one w x n) r' in omega (arith, a, z)) (step 0 w x n r)

    twice : (es : List Event) →
        StandsTwice (Take v p) es →
        (w : Net) → IsNetOf g w →
        Ready v p 1 w →
        suc (reached (network_of g) w) ≤ reached (network_of g) (all_that_can (network_of g) w es)
    twice _ (Now_and_soon {es = es} s) w n r =
        ⊎_elim (λ a. let z = least_all es (if_can (network_of g) w (Take v p)) (net_one w (Take v p) n) in omega (arith, a, z))
        (λ r'.
        let a = least_one w (Take v p) n in
        let z = once es s (if_can (network_of g) w (Take v p)) (net_one w (Take v p) n) r' in omega (arith, a, z))
        (step_nearer 0 w n r)
    twice _ (Soon_twice {x = x} {es = es} s) w n r =
        ⊎_elim (λ a. let z = least_all es (if_can (network_of g) w x) (net_one w x n) in omega (arith, a, z))
        (λ r'. let a = least_one w x n in let z = twice es s (if_can (network_of g) w x) (net_one w x n) r' in omega (arith, a, z)) (step 1 w x n r)

  -- a round gets on, where a component has still to end
  pub round_gets_on : (w : Net) →
      IsNetOf g w →
      (S : ℕ → Bool) → GoesOn (network_of g) w S →
      (es : List Event) → IsRound (network_of g) es →
      suc (reached (network_of g) w) ≤ reached (network_of g) (all_that_can (network_of g) w es)
  round_gets_on w n S z es round =
      twice z.node z.port z.at es (round z.node z.port z.at) w n
      (record { before = z.before; message = z.message; behind = z.behind; queue = z.queue; few = z.few; goes = z.goes })

  module _ (b : ℕ) (within : (w : Net) → IsNetOf g w → in_all w.sent ≤ b) where
    -- whoever has got as far as can be has come to the end
    pub at_most : (w : Net) → IsNetOf g w → b + g.nodes ≤ reached (network_of g) w → (S : ℕ → Bool) → GoesOn (network_of g) w S → ⊥
    at_most w n le S z = let a = advance g graph w n S z in let m = most g graph b within a.next a.is in let x = a.more in omega (arith, le, m, x)

    pub onto : (w : Net) (es : List Event) (rs : List (List Event)) →
        Comes (network_of g) (all_that_can (network_of g) w es) rs →
        Comes (network_of g) w (es ∷ rs)
    onto w es rs c = record { first = es ∷ c.first; others = c.others; whole = ap (λ xs. es ∷ xs) c.whole; ended = c.ended }

    comes : (k : ℕ) (rs : List (List Event)) →
        All (IsRound (network_of g)) rs →
        (w : Net) → IsNetOf g w →
        b + g.nodes ≤ k + reached (network_of g) w →
        k ≤ length rs →
        Comes (network_of g) w rs
    comes zero rs rounds w n le enough =
        ⊎_elim
        (λ z. absurd (at_most w n (omega (arith, le)) (component g graph z.0) (no_run_is_stuck g w n (component g graph z.0) z.1)))
        (λ all. record { first = []; others = rs; whole = refl; ended = all })
        (going g graph w)
    comes (suc k) [] rounds w n le enough = absurd (omega (arith, enough))
    comes (suc k) (es ∷ rs) rounds w n le enough =
        ⊎_elim
        (λ z.
        let a = round_gets_on w n (component g graph z.0) (no_run_is_stuck g w n (component g graph z.0) z.1) es (rounds 0 es (omega arith)) in
        onto w es rs
        (comes k rs (λ i d lt. rounds (suc i) d (omega (arith, lt))) (all_that_can (network_of g) w es) (net_all es w n) (omega (arith, le, a))
        (omega (arith, enough))))
        (λ all. record { first = []; others = es ∷ rs; whole = refl; ended = all }) (going g graph w)

pub fair_runs_end : FairRunsEnd
fair_runs_end g w n b is rs rounds enough = comes g n.graph b (λ x m. sends_within g x m b is) (b + g.nodes) rs rounds w n (omega arith) enough
