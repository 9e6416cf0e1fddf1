-- What every net of a run keeps, port by port: what went out was heard or waits, and parents lead up. Nothing here has to be believed.
use Rattle.std.proofs.Common.{◌≡◌, ◌≢◌, ℕ, zero, suc, ◌+◌, ◌-◌, ◌<◌, ◌≤◌, ◌==◌, ◌⊎◌, inl, inr, Bool, true, false, nat_lt, Option, Some, None, List, [], ◌∷◌, ◌++◌, length, cond, refl, sym, ◌∙◌, ap, subst, ⊎_elim, arith, append-nil, length-append}
use Rattle.std.specs.Prelude.{is_none}
use Rattle.std.proofs.lemmas.Option.{same_Some}
use Rattle.std.proofs.lemmas.Bool.{and_parts, cases_eq, cases_Bool, true≢false, ltb-true, eq-eqb, ne_eqb}
use Rattle.std.proofs.lemmas.Bool.Decides.{eqb_tells}
use Rattle.peer_network.specs.declared.event.Event.{Event}
use Rattle.peer_network.specs.Network.{Network, InNetwork, At, far, far_port}
use Rattle.peer_network.specs.Sums.{sum_below, sum_over_nodes}
use Rattle.peer_network.proofs.lemmas.Sums.{sum_same, sum_none, sum_one, sum_less, sum_few, node_before}
use Rattle.peer_network.proofs.lemmas.Updates.{put_same, put_other, put_at_hit, put_at_miss, put_at_same, put_at_port, put_at_node, one_place}
use Rattle.peer_network.proofs.lemmas.Wired.{IsWired}
use Rattle.peer_machine.specs.declared.work.Work.TheVariants.{Wake, Deliver}
use Rattle.peer_machine.specs.Rules.{Outcome, Outgoing, messages}
use Rattle.peer_machine.specs.Net.{Net, opening, put, put_at, send, send_all, are_on_ports, reacted, take_first}
use Rattle.peer_machine.specs.Run.{IsAfter}
use Rattle.peer_machine.specs.Ledger.{of_kind}
use Rattle.peer_machine.specs.Steps.{Happens, Woke, Took}
use Rattle.peer_machine.proofs.lemmas.Runs.{run_keeps}
use Rattle.peer_machine.proofs.lemmas.Sends.{node_here, node_there, sent_now}
use Rattle.echo.specs.declared.node.Message.{Message}
use Rattle.echo.specs.declared.node.Message.TheVariants.{Explore, Echo}
use Rattle.echo.specs.declared.node.Node.{Node}
use Rattle.echo.specs.Echo.{echo, reaction, joined, answered, explores, echoes, is_left_out}
use Rattle.echo.specs.Proved.{Whole, opening_whole, event_whole, one_out}

-- Of messages that go out, those on a port.

abbrev pub on_port : ℕ → Outgoing Message → ℕ
on_port i [] = 0
on_port i (s ∷ ss) = cond (s.0 == i) 1 0 + on_port i ss

on_port_append : (i : ℕ) (a b : Outgoing Message) → on_port i (a ++ b) ≡ on_port i a + on_port i b
on_port_append i [] b = omega arith
on_port_append i (s ∷ a) b = omega (arith, on_port_append i a b)

same_port : (n i : ℕ) → n ≡ i → ◌≡◌ {A = ℕ} (cond (n == i) 1 0) 1
same_port n i e = rw (eq-eqb n i e) refl

other_port : (n i : ℕ) → n ≢ i → ◌≡◌ {A = ℕ} (cond (n == i) 1 0) 0
other_port n i ne = rw (ne_eqb n i ne) refl

one_there : (b : Bool) (n : ℕ) → on_port n (one_out b n) ≡ cond b 0 1
one_there true n = refl
one_there false n = omega (arith, same_port n n refl)

one_elsewhere : (b : Bool) (n i : ℕ) → n ≢ i → on_port i (one_out b n) ≡ 0
one_elsewhere true n i ne = refl
one_elsewhere false n i ne = omega (arith, other_port n i ne)

-- an Explore goes out on each of the first n ports but the one that is left out
unexplored : (n i : ℕ) (out : Option ℕ) → n ≤ i → on_port i (explores n out) ≡ 0
unexplored zero i out le = refl
unexplored (suc n) i out le =
    let a = on_port_append i (explores n out) (one_out (is_left_out out n) n) in
    let b = unexplored n i out (omega arith) in
    let c = one_elsewhere (is_left_out out n) n i (λ e. omega arith) in
    omega (arith, a, b, c)

explored : (n i : ℕ) (out : Option ℕ) → i < n → on_port i (explores n out) ≡ cond (is_left_out out i) 0 1
explored zero i out lt = absurd (omega arith)
explored (suc n) i out lt = ⊎_elim here (there (λ l. explored n i out l)) (cases_eq i n)
  where
    here : i ≡ n → on_port i (explores (suc n) out) ≡ cond (is_left_out out i) 0 1
    here e =
        let a = on_port_append n (explores n out) (one_out (is_left_out out n) n) in
        let b = unexplored n n out (omega arith) in
        let c = one_there (is_left_out out n) n in
        let z : on_port n (explores (suc n) out) ≡ cond (is_left_out out n) 0 1 = omega (arith, a, b, c) in
        subst (λ x. on_port x (explores (suc n) out) ≡ cond (is_left_out out x) 0 1) (sym e) z

    there : (i < n → on_port i (explores n out) ≡ cond (is_left_out out i) 0 1) → i ≢ n →
        on_port i (explores (suc n) out) ≡ cond (is_left_out out i) 0 1
    there ih ne =
        let a = on_port_append i (explores n out) (one_out (is_left_out out n) n) in
        let b = ih (omega arith) in
        let c = one_elsewhere (is_left_out out n) n i (λ e. ne (sym e)) in
        omega (arith, a, b, c)

-- What a node has sent so far, in the order of sending.

abbrev pub sent_if : Bool → ℕ → Option ℕ → ℕ → Outgoing Message
sent_if b ports parent awaits = cond b (explores ports parent ++ echoes awaits parent) []

abbrev pub sent_by : Node → Outgoing Message
sent_by n = sent_if n.head.awake n.ports n.head.parent n.head.awaits

-- one message on each port, once no answer is awaited
pub each_sent : (ports i : ℕ) (parent : Option ℕ) → i < ports → on_port i (explores ports parent ++ echoes 0 parent) ≡ 1
each_sent ports i None lt =
    let a = on_port_append i (explores ports None) [] in let b = explored ports i None lt in omega (arith, a, b)
each_sent ports i (Some q) lt =
    let a = on_port_append i (explores ports (Some q)) ((q, Echo) ∷ []) in
    let b = explored ports i (Some q) lt in
    let c = both (q == i) in
    omega (arith, a, b, c)
  where
    both : (b : Bool) → ◌≡◌ {A = ℕ} (cond b 0 1 + cond b 1 0) 1
    both true = refl
    both false = refl

pub none_sent : (b : Bool) (i ports awaits : ℕ) (parent : Option ℕ) → b ≡ false → on_port i (sent_if b ports parent awaits) ≡ 0
none_sent true i ports awaits parent e = absurd (true≢false e)
none_sent false i ports awaits parent e = refl

pub one_sent : (b : Bool) (i ports awaits : ℕ) (parent : Option ℕ) → i < ports → on_port i (sent_if b ports parent awaits) ≤ 1
one_sent false i ports awaits parent lt = omega arith
one_sent true i ports zero parent lt = omega (arith, each_sent ports i parent lt)
one_sent true i ports (suc k) parent lt =
    let a = on_port_append i (explores ports parent) [] in
    let b = explored ports i parent lt in
    let c = most (is_left_out parent i) in
    omega (arith, a, b, c)
  where
    most : (b : Bool) → cond b 0 1 ≤ 1
    most true = omega arith
    most false = omega arith

-- only the parent is told nothing yet, while an answer is awaited
pub not_sent : (i ports awaits : ℕ) (parent : Option ℕ) → i < ports → on_port i (sent_if true ports parent awaits) ≡ 0 →
    (parent ≡ Some i) × (1 ≤ awaits)
not_sent i ports zero parent lt e = absurd (let a = each_sent ports i parent lt in omega (arith, a, e))
not_sent i ports (suc k) None lt e =
    absurd (let a = on_port_append i (explores ports None) [] in let b = explored ports i None lt in omega (arith, a, b, e))
not_sent i ports (suc k) (Some q) lt e = ⊎_elim (λ y. (ap Some y.1, omega arith)) (λ n. absurd (off n.0)) (eqb_tells q i)
  where
    off : (q == i) ≡ false → ⊥
    off f =
        let a = on_port_append i (explores ports (Some q)) [] in
        let b = explored ports i (Some q) lt in
        let c : ◌≡◌ {A = ℕ} (cond (q == i) 0 1) 1 = rw f refl in
        omega (arith, a, b, c, e)

-- Of messages that go out, the Echoes.

abbrev pub echoes_in : Outgoing Message → ℕ
echoes_in ss = of_kind echo 1 (messages ss)

echoes_append : (a b : Outgoing Message) → echoes_in (a ++ b) ≡ echoes_in a + echoes_in b
echoes_append [] b = omega arith
echoes_append (s ∷ a) b = omega (arith, echoes_append a b)

one_is_none : (b : Bool) (n : ℕ) → echoes_in (one_out b n) ≡ 0
one_is_none true n = refl
one_is_none false n = refl

no_echoes : (n : ℕ) (out : Option ℕ) → echoes_in (explores n out) ≡ 0
no_echoes zero out = refl
no_echoes (suc n) out =
    let a = echoes_append (explores n out) (one_out (is_left_out out n) n) in
    let b = one_is_none (is_left_out out n) n in
    omega (arith, a, b, no_echoes n out)

abbrev pub echoed_if : Bool → ℕ → Option ℕ → ℕ → ℕ
echoed_if b ports parent awaits = echoes_in (sent_if b ports parent awaits)

abbrev pub echoed : Node → ℕ
echoed n = echoed_if n.head.awake n.ports n.head.parent n.head.awaits

-- who has a parent has sent it one Echo, once no answer is awaited
pub echoes_at_end : (ports : ℕ) (parent : Option ℕ) → echoed_if true ports parent 0 ≡ cond (is_none parent) 0 1
echoes_at_end ports None =
    let a = echoes_append (explores ports None) [] in let b = no_echoes ports None in omega (arith, a, b)
echoes_at_end ports (Some q) =
    let a = echoes_append (explores ports (Some q)) ((q, Echo) ∷ []) in let b = no_echoes ports (Some q) in omega (arith, a, b)

-- from how many ports a node has heard nothing yet
abbrev pub left_if : Bool → ℕ → ℕ → ℕ
left_if b awaits ports = cond b awaits ports

abbrev pub left : Node → ℕ
left n = left_if n.head.awake n.head.awaits n.ports

-- Reactions, by their rows.

pub woke_as : (n : Node) (o : Outcome Node Message) → reaction n Wake ≡ Some o → (n.head.awake ≡ false) × (joined n None n.ports ≡ o)
woke_as n o h = go n.head.awake refl h
  where
    go : (b : Bool) → n.head.awake ≡ b → cond b None (Some (joined n None n.ports)) ≡ Some o → (n.head.awake ≡ false) × (joined n None n.ports ≡ o)
    go true a z = cc
    go false a z = (a, same_Some _ _ z)

abbrev pub Heard : Node → Outcome Node Message → Type 0
Heard n o = (n.head.awake ≡ true) × (answered n n.head.awaits ≡ o)

abbrev pub Asked : Node → ℕ → Outcome Node Message → Type 0
Asked n p o = (n.head.awake ≡ false) × (joined n (Some p) (n.ports - 1) ≡ o)

pub told_as : (n : Node) (p : ℕ) (m : Message) (o : Outcome Node Message) → reaction n (Deliver p m) ≡ Some o → Heard n o ⊎ Asked n p o
told_as n p m o h = on (nat_lt p n.ports) h
  where
    by : (b : Bool) → n.head.awake ≡ b → cond b (answered n n.head.awaits) (joined n (Some p) (n.ports - 1)) ≡ o → Heard n o ⊎ Asked n p o
    by true a z = inl (a, z)
    by false a z = inr (a, z)

    on : (b : Bool) → cond b (Some (cond n.head.awake (answered n n.head.awaits) (joined n (Some p) (n.ports - 1)))) None ≡ Some o →
        Heard n o ⊎ Asked n p o
    on true z = by n.head.awake refl (same_Some _ _ z)
    on false z = cc

-- a reaction leaves its node awake, and it has sent what goes out besides
pub record Adds (n : Node) (o : Outcome Node Message) : Type 0 where
  pub awake : o.state.head.awake ≡ true
  pub sent : sent_by o.state ≡ sent_by n ++ o.sends

joined_adds : (n : Node) (parent : Option ℕ) (awaits : ℕ) → n.head.awake ≡ false → Adds n (joined n parent awaits)
joined_adds n parent awaits a = record {
  awake = refl;
  sent = ap (λ b. sent_if b n.ports n.head.parent n.head.awaits ++ (explores n.ports parent ++ echoes awaits parent)) (sym a);
}

answered_adds : (n : Node) (k : ℕ) → n.head.awake ≡ true → n.head.awaits ≡ k → Adds n (answered n k)
answered_adds n zero a e = record { awake = a; sent = sym (append-nil _) }
answered_adds n (suc k) a e = record {
  awake = a;
  sent =
      ap (λ b. sent_if b n.ports n.head.parent k) a
      ∙ ap (λ l. l ++ echoes k n.head.parent) (sym (append-nil (explores n.ports n.head.parent)))
      ∙ ap (λ x. (explores n.ports n.head.parent ++ echoes x n.head.parent) ++ echoes k n.head.parent) (sym e)
      ∙ ap (λ b. sent_if b n.ports n.head.parent n.head.awaits ++ echoes k n.head.parent) (sym a);
}

pub woke_adds : (n : Node) (o : Outcome Node Message) → reaction n Wake ≡ Some o → Adds n o
woke_adds n o h = let r = woke_as n o h in subst (Adds n) r.1 (joined_adds n None n.ports r.0)

pub told_adds : (n : Node) (p : ℕ) (m : Message) (o : Outcome Node Message) → reaction n (Deliver p m) ≡ Some o → Adds n o
told_adds n p m o h = ⊎_elim
    (λ (r : Heard n o). subst (Adds n) r.1 (answered_adds n n.head.awaits r.0 refl))
    (λ (r : Asked n p o). subst (Adds n) r.1 (joined_adds n (Some p) (n.ports - 1) r.0)) (told_as n p m o h)

-- Numbers below 2.

-- where none of n numbers is more than 1, and one is 0, they are less than n together
pub falls_short : (n j : ℕ) (f : ℕ → ℕ) → j < n → ((i : ℕ) → i < n → f i ≤ 1) → f j ≡ 0 → suc (sum_below n f) ≤ n
falls_short n j f lt most e =
    let a = sum_less n j f (λ i. 1) lt most (omega arith) in
    let b = sum_few n (λ i. 1) (λ i. omega arith) in
    omega (arith, a, b)

-- numbers that are less than n together have a 0 among them
pub some_zero : (n : ℕ) (f : ℕ → ℕ) → suc (sum_below n f) ≤ n → (i : ℕ) × (i < n) × (f i ≡ 0)
some_zero zero f le = absurd (omega arith)
some_zero (suc n) f le = ⊎_elim (λ (e : f n ≡ 0). (n, omega arith, e)) (λ ne. before (some_zero n f (omega arith))) (cases_eq (f n) 0)
  where
    before : (i : ℕ) × (i < n) × (f i ≡ 0) → (i : ℕ) × (i < suc n) × (f i ≡ 0)
    before z = (z.0, (let l = z.1 in omega (arith, l)), z.2)

pub all_zero : (n j : ℕ) (f : ℕ → ℕ) → j < n → sum_below n f ≡ 0 → f j ≡ 0
all_zero zero j f lt e = absurd (omega arith)
all_zero (suc n) j f lt e = ⊎_elim (λ (z : j ≡ n). rw z (omega arith)) (λ ne. all_zero n j f (omega arith) (omega arith)) (cases_eq j n)

-- How queues grow.

cond_none : (b : Bool) → ◌≡◌ {A = ℕ} (cond b 0 0) 0
cond_none true = refl
cond_none false = refl

cond_add : (b : Bool) (x y : ℕ) → cond b (x + y) 0 ≡ cond b x 0 + cond b y 0
cond_add true x y = refl
cond_add false x y = refl

both_on : (a b c d : ℕ) → a ≡ b → c ≡ d → ◌≡◌ {A = ℕ} (cond (a == b) (cond (c == d) 1 0) 0) 1
both_on a b c d x y = rw (eq-eqb a b x, eq-eqb c d y) refl

one_off : (a b c d : ℕ) → ((a ≡ b) × (c ≡ d) → ⊥) → ◌≡◌ {A = ℕ} (cond (a == b) (cond (c == d) 1 0) 0) 0
one_off a b c d never = ⊎_elim
    (λ x. ⊎_elim (λ y. absurd (never (x.1, y.1))) (λ y. rw (x.0, y.0) refl) (eqb_tells c d)) (λ x. rw x.0 refl) (eqb_tells a b)

module _ (g : Network) (wired : IsWired g) (v : ℕ) (lo : 1 ≤ v) (hi : v ≤ g.count) where
  -- one message more waits where it went
  one_queue : (w : Net Node Message) (s : ℕ × Message) → At g v s.0 → (u q : ℕ) → At g u q →
      length ((send echo g v w s).queue u q) ≡ length (w.queue u q) + cond (far g u q == v) (cond (s.0 == far_port g u q) 1 0) 0
  one_queue w s on u q at = ⊎_elim here there (one_place (far g v s.0) (far_port g v s.0) u q)
    where
      to : List Message
      to = w.queue (far g v s.0) (far_port g v s.0) ++ s.1 ∷ []

      here : (u ≡ far g v s.0) × (q ≡ far_port g v s.0) →
          length ((send echo g v w s).queue u q) ≡ length (w.queue u q) + cond (far g u q == v) (cond (s.0 == far_port g u q) 1 0) 0
      here e =
          let a = ap length (put_at_hit w.queue (far g v s.0) (far_port g v s.0) u q to e.0 e.1) in
          let b = length-append (w.queue (far g v s.0) (far_port g v s.0)) (s.1 ∷ []) in
          let c : length (w.queue u q) ≡ length (w.queue (far g v s.0) (far_port g v s.0)) = rw (e.0, e.1) refl in
          let x : far g u q ≡ v = rw (e.0, e.1) (wired.back v s.0 on) in
          let y : s.0 ≡ far_port g u q = rw (e.0, e.1) (sym (wired.back_port v s.0 on)) in
          let d = both_on (far g u q) v s.0 (far_port g u q) x y in
          omega (arith, a, b, c, d)

      there : ((u ≡ far g v s.0) × (q ≡ far_port g v s.0) → ⊥) →
          length ((send echo g v w s).queue u q) ≡ length (w.queue u q) + cond (far g u q == v) (cond (s.0 == far_port g u q) 1 0) 0
      there ne =
          let a = ap length (put_at_miss w.queue (far g v s.0) (far_port g v s.0) u q to ne) in
          let d =
          one_off (far g u q) v s.0 (far_port g u q)
          (λ z. ne (
            sym (wired.back u q at) ∙ ap (λ x. far g x (far_port g u q)) z.0 ∙ ap (far g v) (sym z.1),
            sym (wired.back_port u q at) ∙ ap (λ x. far_port g x (far_port g u q)) z.0 ∙ ap (far_port g v) (sym z.1),
          )) in
          omega (arith, a, d)

  queues : (ss : Outgoing Message) (w : Net Node Message) → are_on_ports echo g v ss ≡ true → (u q : ℕ) → At g u q →
      length ((send_all echo g v ss w).queue u q) ≡ length (w.queue u q) + cond (far g u q == v) (on_port (far_port g u q) ss) 0
  queues [] w t u q at = omega (arith, cond_none (far g u q == v))
  queues (s ∷ ss) w t u q at =
      let h = and_parts _ _ t in
      let a = one_queue w s (record { some = lo; node = hi; port = ltb-true s.0 _ h.0 }) u q at in
      let b = queues ss (send echo g v w s) h.1 u q at in
      let c = cond_add (far g u q == v) (cond (s.0 == far_port g u q) 1 0) (on_port (far_port g u q) ss) in
      omega (arith, a, b, c)

  module _ (o : Outcome Node Message) (w : Net Node Message) (adds : Adds (w.node v) o) (t : are_on_ports echo g v o.sends ≡ true) where
    -- what the nodes have sent on a port
    counts : (u i : ℕ) →
        on_port i (sent_by ((reacted echo g v o w).node u)) ≡ on_port i (sent_by (w.node u)) + cond (u == v) (on_port i o.sends) 0
    counts u i = ⊎_elim here there (eqb_tells u v)
      where
        here : ((u == v) ≡ true) × (u ≡ v) →
            on_port i (sent_by ((reacted echo g v o w).node u)) ≡ on_port i (sent_by (w.node u)) + cond (u == v) (on_port i o.sends) 0
        here e =
            let a : on_port i (sent_by ((reacted echo g v o w).node u)) ≡ on_port i (sent_by o.state) =
            ap (λ (n : Node). on_port i (sent_by n)) (ap (λ x. (reacted echo g v o w).node x) e.1 ∙ node_here echo g v o w) in
            let b : on_port i (sent_by o.state) ≡ on_port i (sent_by (w.node v) ++ o.sends) = ap (on_port i) adds.sent in
            let c = on_port_append i (sent_by (w.node v)) o.sends in
            let d : on_port i (sent_by (w.node u)) ≡ on_port i (sent_by (w.node v)) = ap (λ x. on_port i (sent_by (w.node x))) e.1 in
            let f : cond (u == v) (on_port i o.sends) 0 ≡ on_port i o.sends = rw e.0 refl in
            omega (arith, a, b, c, d, f)

        there : ((u == v) ≡ false) × (u ≢ v) →
            on_port i (sent_by ((reacted echo g v o w).node u)) ≡ on_port i (sent_by (w.node u)) + cond (u == v) (on_port i o.sends) 0
        there e =
            let a : on_port i (sent_by ((reacted echo g v o w).node u)) ≡ on_port i (sent_by (w.node u)) =
            ap (λ (n : Node). on_port i (sent_by n)) (node_there echo g v o w u e.1) in
            let f : ◌≡◌ {A = ℕ} (cond (u == v) (on_port i o.sends) 0) 0 = rw e.0 refl in
            omega (arith, a, f)

    pub kept_awake : (u : ℕ) → (w.node u).head.awake ≡ true → ((reacted echo g v o w).node u).head.awake ≡ true
    kept_awake u a = ⊎_elim
        (λ (e : u ≡ v). ap (λ (n : Node). n.head.awake) (ap (λ x. (reacted echo g v o w).node x) e ∙ node_here echo g v o w) ∙ adds.awake)
        (λ ne. ap (λ (n : Node). n.head.awake) (node_there echo g v o w u ne) ∙ a) (cases_eq u v)

    still_echoes : w.sent 1 ≡ sum_over_nodes g (λ x. echoed (w.node x)) →
        (reacted echo g v o w).sent 1 ≡ sum_over_nodes g (λ x. echoed ((reacted echo g v o w).node x))
    still_echoes i = let j = node_before v lo in go j.0 j.1
      where
        go : (k : ℕ) → v ≡ suc k → (reacted echo g v o w).sent 1 ≡ sum_over_nodes g (λ x. echoed ((reacted echo g v o w).node x))
        go k e =
            let one =
            sum_one g.count k (λ x. echoed (w.node (suc x))) (λ x. echoed ((reacted echo g v o w).node (suc x))) (omega (arith, e, hi))
            (λ x ne. ap echoed (sym (node_there echo g v o w (suc x) (λ z. ne (omega (arith, z, e)))))) in
            let here : echoed ((reacted echo g v o w).node (suc k)) ≡ echoed o.state =
            ap (λ x. echoed ((reacted echo g v o w).node x)) (sym e) ∙ ap echoed (node_here echo g v o w) in
            let more : echoed o.state ≡ echoes_in (sent_by (w.node v) ++ o.sends) = ap echoes_in adds.sent in
            let split = echoes_append (sent_by (w.node v)) o.sends in
            let was : echoed (w.node (suc k)) ≡ echoed (w.node v) = ap (λ x. echoed (w.node x)) (sym e) in
            let sent = sent_now echo g v o w 1 in
            omega (arith, one, here, more, split, was, sent, i)

    -- what has gone out over a link was heard or waits
    still_links : (heard : ℕ → ℕ → ℕ) →
        ((u q : ℕ) → At g u q → on_port (far_port g u q) (sent_by (w.node (far g u q))) ≡ heard u q + length (w.queue u q)) →
        (u q : ℕ) → At g u q →
        on_port (far_port g u q) (sent_by ((reacted echo g v o w).node (far g u q))) ≡ heard u q + length ((reacted echo g v o w).queue u q)
    still_links heard links u q at =
        let a = links u q at in
        let b = counts (far g u q) (far_port g u q) in
        let c = queues o.sends (record w { node = put w.node v o.state }) t u q at in
        omega (arith, a, b, c)

-- What went out on a port was heard or waits; and a node has heard of all its ports but those from which it awaits an answer.
pub record Links (g : Network) (w : Net Node Message) : Type 0 where
  pub heard : ℕ → ℕ → ℕ
  pub over : (u q : ℕ) → At g u q → on_port (far_port g u q) (sent_by (w.node (far g u q))) ≡ heard u q + length (w.queue u q)
  pub rest : (u : ℕ) → InNetwork g u → left (w.node u) + sum_below (length (g.ports u)) (heard u) ≡ length (g.ports u)

-- Parents are awake, and lead up by a rank that all below the top have.
pub record Parents (g : Network) (w : Net Node Message) : Type 0 where
  pub rank : ℕ → ℕ
  pub top : ℕ
  pub below : (v : ℕ) → (w.node v).head.awake ≡ true → rank v < top
  pub up : (v p : ℕ) → (w.node v).head.parent ≡ Some p → ((w.node (far g v p)).head.awake ≡ true) × (rank (far g v p) < rank v)

pub record Wave (g : Network) (w : Net Node Message) : Type 0 where
  pub whole : Whole g w
  pub links : Links g w
  pub parents : Parents g w
  pub echoes : w.sent 1 ≡ sum_over_nodes g (λ v. echoed (w.node v))

module _ (g : Network) (wired : IsWired g) where
  -- at most one message waits or was heard at a port
  pub heard_few : (w : Net Node Message) → (i : Wave g w) → (u q : ℕ) → At g u q → i.links.heard u q + length (w.queue u q) ≤ 1
  heard_few w i u q at =
      let n = w.node (far g u q) in
      let lt = subst (λ x. far_port g u q < x) (sym (i.whole.ports (far g u q))) (wired.there u q at).port in
      let a = one_sent n.head.awake (far_port g u q) n.ports n.head.awaits n.head.parent lt in
      let b = i.links.over u q at in
      omega (arith, a, b)

  -- who awaits nothing has no message waiting
  pub none_waits : (w : Net Node Message) → (i : Wave g w) → (u q : ℕ) → At g u q → left (w.node u) ≡ 0 → ◌≡◌ {A = ℕ} (length (w.queue u q)) 0
  none_waits w i u q at z = ⊎_elim
      (λ (e : i.links.heard u q ≡ 0).
      absurd (
      let a =
      falls_short (length (g.ports u)) q (i.links.heard u) at.port
      (λ p lt. let f = heard_few w i u p (record { some = at.some; node = at.node; port = lt }) in omega (arith, f)) e in
      let b = i.links.rest u (record { some = at.some; node = at.node }) in
      omega (arith, a, b, z)
      ))
      (λ ne. let f = heard_few w i u q at in omega (arith, f)) (cases_eq (i.links.heard u q) 0)

  -- a message waits: its sender is awake
  pub waits_awake : (w : Net Node Message) → Links g w → (u q : ℕ) → At g u q → 1 ≤ length (w.queue u q) → (w.node (far g u q)).head.awake ≡ true
  waits_awake w i u q at le = ⊎_elim (λ a. a)
      (λ a.
      let n = w.node (far g u q) in
      absurd (
      let z = none_sent n.head.awake (far_port g u q) n.ports n.head.awaits n.head.parent a in let b = i.over u q at in omega (arith, z, b)
      ))
      (cases_Bool (w.node (far g u q)).head.awake)

  module _ (v : ℕ) (o : Outcome Node Message) (w : Net Node Message) (adds : Adds (w.node v) o) where
    -- where a node joins, it is of the greatest rank
    joins_parents : Parents g w → (w.node v).head.awake ≡ false →
        ((p : ℕ) → o.state.head.parent ≡ Some p → (w.node (far g v p)).head.awake ≡ true) → Parents g (reacted echo g v o w)
    joins_parents i sleeps asks = record {
      rank = put i.rank v i.top;
      top = suc i.top;
      below = λ u a. ⊎_elim
          (λ (e : u ≡ v). let z : put i.rank v i.top u ≡ i.top = rw e (put_same i.rank v i.top) in omega (arith, z))
          (λ ne.
          let b = i.below u (sym (ap (λ (n : Node). n.head.awake) (node_there echo g v o w u ne)) ∙ a) in
          let z = put_other i.rank v u i.top ne in
          omega (arith, z, b))
          (cases_eq u v);
      up = λ u p h. ⊎_elim (here u p h) (there u p h) (cases_eq u v);
    }
      where
        not_v : (x : ℕ) → (w.node x).head.awake ≡ true → x ≢ v
        not_v x a e = true≢false (sym a ∙ ap (λ y. (w.node y).head.awake) e ∙ sleeps)

        still : (x : ℕ) → (w.node x).head.awake ≡ true → ((reacted echo g v o w).node x).head.awake ≡ true
        still x a = ap (λ (n : Node). n.head.awake) (node_there echo g v o w x (not_v x a)) ∙ a

        here : (u p : ℕ) → ((reacted echo g v o w).node u).head.parent ≡ Some p → u ≡ v →
            (((reacted echo g v o w).node (far g u p)).head.awake ≡ true) × (put i.rank v i.top (far g u p) < put i.rank v i.top u)
        here u p h e =
            let parent : o.state.head.parent ≡ Some p =
            ap (λ (n : Node). n.head.parent) (sym (ap (λ x. (reacted echo g v o w).node x) e ∙ node_here echo g v o w)) ∙ h in
            let a : (w.node (far g u p)).head.awake ≡ true = rw e (asks p parent) in
            let x : put i.rank v i.top u ≡ i.top = rw e (put_same i.rank v i.top) in
            let y = put_other i.rank v (far g u p) i.top (not_v (far g u p) a) in
            let b = i.below (far g u p) a in
            (still (far g u p) a, omega (arith, x, y, b))

        there : (u p : ℕ) → ((reacted echo g v o w).node u).head.parent ≡ Some p → u ≢ v →
            (((reacted echo g v o w).node (far g u p)).head.awake ≡ true) × (put i.rank v i.top (far g u p) < put i.rank v i.top u)
        there u p h ne =
            let b = i.up u p (sym (ap (λ (n : Node). n.head.parent) (node_there echo g v o w u ne)) ∙ h) in
            let x = put_other i.rank v u i.top ne in
            let y = put_other i.rank v (far g u p) i.top (not_v (far g u p) b.0) in
            let l = b.1 in
            (still (far g u p) b.0, omega (arith, x, y, l))

    -- where one hears, all parents stay
    hears_parents : Parents g w → (w.node v).head.awake ≡ true → o.state.head.parent ≡ (w.node v).head.parent → Parents g (reacted echo g v o w)
    hears_parents i wakes same = record {
      rank = i.rank;
      top = i.top;
      below = λ u a. i.below u (⊎_elim
          (λ (e : u ≡ v). ap (λ x. (w.node x).head.awake) e ∙ wakes)
          (λ ne. sym (ap (λ (n : Node). n.head.awake) (node_there echo g v o w u ne)) ∙ a) (cases_eq u v));
      up = λ u p h.
          let b = i.up u p (was u p h) in
          (still (far g u p) b.0, b.1);
    }
      where
        still : (x : ℕ) → (w.node x).head.awake ≡ true → ((reacted echo g v o w).node x).head.awake ≡ true
        still x a = ⊎_elim
            (λ (e : x ≡ v). ap (λ (n : Node). n.head.awake) (ap (λ y. (reacted echo g v o w).node y) e ∙ node_here echo g v o w) ∙ adds.awake)
            (λ ne. ap (λ (n : Node). n.head.awake) (node_there echo g v o w x ne) ∙ a) (cases_eq x v)

        was : (u p : ℕ) → ((reacted echo g v o w).node u).head.parent ≡ Some p → (w.node u).head.parent ≡ Some p
        was u p h = ⊎_elim
            (λ (e : u ≡ v).
            ap (λ x. (w.node x).head.parent) e ∙ sym same
            ∙ ap (λ (n : Node). n.head.parent) (sym (ap (λ x. (reacted echo g v o w).node x) e ∙ node_here echo g v o w)) ∙ h)
            (λ ne. sym (ap (λ (n : Node). n.head.parent) (node_there echo g v o w u ne)) ∙ h) (cases_eq u v)

  -- the take of a message that waits: it has been heard
  taken_links : (w : Net Node Message) (i : Links g w) (v p : ℕ) (m : Message) (ms : List Message) → w.queue v p ≡ m ∷ ms →
      (u q : ℕ) → At g u q →
      on_port (far_port g u q) (sent_by (w.node (far g u q))) ≡
      put_at i.heard v p (suc (i.heard v p)) u q + length ((take_first echo g v p m ms w).queue u q)
  taken_links w i v p m ms e u q at = ⊎_elim here there (one_place v p u q)
    where
      here : (u ≡ v) × (q ≡ p) →
          on_port (far_port g u q) (sent_by (w.node (far g u q))) ≡
          put_at i.heard v p (suc (i.heard v p)) u q + length ((take_first echo g v p m ms w).queue u q)
      here z =
          let a = i.over u q at in
          let b = put_at_hit i.heard v p u q (suc (i.heard v p)) z.0 z.1 in
          let c = ap length (put_at_hit w.queue v p u q ms z.0 z.1) in
          let d : length (w.queue u q) ≡ length (m ∷ ms) = rw (z.0, z.1) (ap length e) in
          let f : i.heard u q ≡ i.heard v p = rw (z.0, z.1) refl in
          omega (arith, a, b, c, d, f)

      there : ((u ≡ v) × (q ≡ p) → ⊥) →
          on_port (far_port g u q) (sent_by (w.node (far g u q))) ≡
          put_at i.heard v p (suc (i.heard v p)) u q + length ((take_first echo g v p m ms w).queue u q)
      there ne =
          let a = i.over u q at in
          let b = put_at_miss i.heard v p u q (suc (i.heard v p)) ne in
          let c = ap length (put_at_miss w.queue v p u q ms ne) in
          omega (arith, a, b, c)

  -- a message that is taken is awaited, and one less is then
  told_left : (w : Net Node Message) (i : Wave g w) (v p : ℕ) (m : Message) (ms : List Message) (o : Outcome Node Message) → At g v p →
      w.queue v p ≡ m ∷ ms → reaction (w.node v) (Deliver p m) ≡ Some o → left o.state + 1 ≡ left (w.node v)
  told_left w i v p m ms o at e h = ⊎_elim heard asked (told_as (w.node v) p m o h)
    where
      some : left (w.node v) ≡ 0 → ⊥
      some z =
          let a = none_waits w i v p at z in
          let b = ap length e in
          omega (arith, a, b)

      by : (k : ℕ) → (w.node v).head.awake ≡ true → (w.node v).head.awaits ≡ k → left (answered (w.node v) k).state + 1 ≡ left (w.node v)
      by zero a z = absurd (some (ap (λ b. left_if b (w.node v).head.awaits (w.node v).ports) a ∙ z))
      by (suc k) a z =
          let x = ap (λ b. left_if b (w.node v).head.awaits (w.node v).ports) a in
          let y = ap (λ b. left_if b k (w.node v).ports) a in
          omega (arith, x, y, z)

      heard : Heard (w.node v) o → left o.state + 1 ≡ left (w.node v)
      heard r = subst (λ (x : Outcome Node Message). left x.state + 1 ≡ left (w.node v)) r.1 (by (w.node v).head.awaits r.0 refl)

      asked : Asked (w.node v) p o → left o.state + 1 ≡ left (w.node v)
      asked r = subst (λ (x : Outcome Node Message). left x.state + 1 ≡ left (w.node v)) r.1
          (
          let x = ap (λ b. left_if b (w.node v).head.awaits (w.node v).ports) r.0 in
          let lt = subst (λ y. p < y) (sym (i.whole.ports v)) at.port in
          omega (arith, x, lt)
          )

  event_wave : (w w' : Net Node Message) (e : Event) → Wave g w → Happens echo g w e w' → Wave g w'
  event_wave w _ e i (Woke v o lo hi s h t) = record {
    whole = event_whole g w _ e i.whole (Woke v o lo hi s h t);
    links = record {
      heard = i.links.heard;
      over = still_links g wired v lo hi o w adds t i.links.heard i.links.over;
      rest = λ u net. ⊎_elim
          (λ (z : u ≡ v).
          let a = i.links.rest u net in
          let b : left ((reacted echo g v o w).node u) ≡ left o.state =
          ap left (ap (λ x. (reacted echo g v o w).node x) z ∙ node_here echo g v o w) in
          let c : left (w.node u) ≡ left (w.node v) = ap (λ x. left (w.node x)) z in
          let d = same in
          omega (arith, a, b, c, d))
          (λ ne. let a = i.links.rest u net in let b = ap left (node_there echo g v o w u ne) in omega (arith, a, b)) (cases_eq u v);
    };
    parents = joins_parents v o w adds i.parents row.0 (λ p z. absurd (none p z));
    echoes = still_echoes g wired v lo hi o w adds t i.echoes;
  }
    where
      row : ((w.node v).head.awake ≡ false) × (joined (w.node v) None (w.node v).ports ≡ o)
      row = woke_as (w.node v) o h

      adds : Adds (w.node v) o
      adds = woke_adds (w.node v) o h

      none : (p : ℕ) → o.state.head.parent ≡ Some p → ⊥
      none p z = let x : ◌≡◌ {A = Option ℕ} None (Some p) = ap (λ (y : Outcome Node Message). y.state.head.parent) row.1 ∙ z in cc

      same : left o.state ≡ left (w.node v)
      same =
          ap (λ (y : Outcome Node Message). left y.state) (sym row.1)
          ∙ ap (λ b. left_if b (w.node v).head.awaits (w.node v).ports) (sym row.0)
  event_wave w _ e i (Took v p m ms o at q h t) = record {
    whole = event_whole g w _ e i.whole (Took v p m ms o at q h t);
    links = record {
      heard = put_at i.links.heard v p (suc (i.links.heard v p));
      over = still_links g wired v at.some at.node o x adds t _ (taken_links w i.links v p m ms q);
      rest = λ u net. ⊎_elim (here u net) (there u net) (cases_eq u v);
    };
    parents = ⊎_elim
        (λ (r : Heard (w.node v) o). hears_parents v o x adds before r.0
        (ap (λ (y : Outcome Node Message). y.state.head.parent) (sym r.1) ∙ kept (w.node v).head.awaits))
        (λ (r : Asked (w.node v) p o). joins_parents v o x adds before r.0
        (λ p' z.
        let same : p ≡ p' = same_Some _ _ (ap (λ (y : Outcome Node Message). y.state.head.parent) r.1 ∙ z) in
        subst (λ y. (w.node (far g v y)).head.awake ≡ true) same (waits_awake w i.links v p at (let l = ap length q in omega (arith, l)))))
        (told_as (w.node v) p m o h);
    echoes = still_echoes g wired v at.some at.node o x adds t i.echoes;
  }
    where
      x : Net Node Message
      x = take_first echo g v p m ms w

      adds : Adds (w.node v) o
      adds = told_adds (w.node v) p m o h

      before : Parents g (take_first echo g v p m ms w)
      before = record { rank = i.parents.rank; top = i.parents.top; below = i.parents.below; up = i.parents.up }

      kept : (k : ℕ) → (answered (w.node v) k).state.head.parent ≡ (w.node v).head.parent
      kept zero = refl
      kept (suc k) = refl

      here : (u : ℕ) → InNetwork g u → u ≡ v →
          left ((reacted echo g v o (take_first echo g v p m ms w)).node u) +
          sum_below (length (g.ports u)) (put_at i.links.heard v p (suc (i.links.heard v p)) u) ≡ length (g.ports u)
      here u net z =
          let a = i.links.rest v (record { some = at.some; node = at.node }) in
          let b =
          ap left
          (ap (λ y. (reacted echo g v o (take_first echo g v p m ms w)).node y) z ∙ node_here echo g v o (take_first echo g v p m ms w)) in
          let c = told_left w i v p m ms o at q h in
          let d =
          sum_one (length (g.ports v)) p (i.links.heard v) (put_at i.links.heard v p (suc (i.links.heard v p)) v) at.port
          (λ j ne. sym (put_at_port i.links.heard v p j (suc (i.links.heard v p)) ne)) in
          let f = put_at_same i.links.heard v p (suc (i.links.heard v p)) in
          let k : sum_below (length (g.ports u)) (put_at i.links.heard v p (suc (i.links.heard v p)) u) ≡
          sum_below (length (g.ports v)) (put_at i.links.heard v p (suc (i.links.heard v p)) v) =
          ap (λ y. sum_below (length (g.ports y)) (put_at i.links.heard v p (suc (i.links.heard v p)) y)) z in
          let l : length (g.ports u) ≡ length (g.ports v) = ap (λ y. length (g.ports y)) z in
          omega (arith, a, b, c, d, f, k, l)

      there : (u : ℕ) → InNetwork g u → u ≢ v →
          left ((reacted echo g v o (take_first echo g v p m ms w)).node u) +
          sum_below (length (g.ports u)) (put_at i.links.heard v p (suc (i.links.heard v p)) u) ≡ length (g.ports u)
      there u net ne =
          let a = i.links.rest u net in
          let b = ap left (node_there echo g v o (take_first echo g v p m ms w) u ne) in
          let c =
          sum_same (length (g.ports u)) (put_at i.links.heard v p (suc (i.links.heard v p)) u) (i.links.heard u)
          (λ j lt. put_at_node i.links.heard v p u j (suc (i.links.heard v p)) ne) in
          omega (arith, a, b, c)

  opening_wave : Wave g (opening echo g)
  opening_wave = record {
    whole = opening_whole g;
    links = record {
      heard = λ u q. 0;
      over = λ u q at. refl;
      rest = λ u net. let z = sum_none (length (g.ports u)) (λ q. 0) (λ q lt. refl) in omega (arith, z);
    };
    parents = record {
      rank = λ v. 0;
      top = 0;
      below = λ v a. absurd (true≢false (sym a));
      up = λ v p h. cc;
    };
    echoes = sym (sum_none g.count (λ x. 0) (λ x lt. refl));
  }

  pub after_wave : (es : List Event) (w : Net Node Message) → IsAfter echo g es w → Wave g w
  after_wave es w h = run_keeps echo g (Wave g) event_wave es (opening echo g) w opening_wave h
