-- Accounts: what nodes have sent over links was taken at the far end or waits there, in the order of sending.
use Rattle.std.proofs.Common.{◌≡◌, ◌≢◌, ℕ, ◌≤◌, ◌==◌, Bool, true, false, List, [], ◌∷◌, ◌++◌, cond, refl, sym, ◌∙◌, ap, subst, ⊎_elim, append-nil, append_assoc, ltb-true, eq-eqb}
use Rattle.std.specs.Prelude.{filter}
use Rattle.std.proofs.lemmas.Bool.{and_parts}
use Rattle.std.proofs.lemmas.Bool.Decides.{eqb_tells}
use Rattle.std.proofs.lemmas.List.Elements.{filter-append}
use Rattle.peer_network.specs.Network.{Network, At, far, far_port}
use Rattle.peer_network.proofs.lemmas.Updates.{put_at_hit, put_at_miss, one_place}
use Rattle.peer_network.proofs.lemmas.Wired.{IsWired}
use Rattle.peer_machine.specs.Rules.{Outcome, Outgoing}
use Rattle.peer_machine.specs.Net.{Net, put, put_at, send, send_all, are_on_ports, reacted, take_first}
use Rattle.gather_node.specs.Gather.{gather}
use Rattle.gather_node.specs.declared.message.Message.{Message}
use Rattle.gather_node.specs.State.{State}

-- of messages that go out, those on a port
abbrev pub on_port : ℕ → Outgoing Message → List Message
on_port i [] = []
on_port i (s ∷ ss) = cond (s.0 == i) (s.1 ∷ on_port i ss) (on_port i ss)

cons_append : (c : Bool) (x : Message) (a b : List Message) → cond c (x ∷ (a ++ b)) (a ++ b) ≡ cond c (x ∷ a) a ++ b
cons_append true x a b = refl
cons_append false x a b = refl

pub on_port_append : (i : ℕ) (a b : Outgoing Message) → on_port i (a ++ b) ≡ on_port i a ++ on_port i b
on_port_append i [] b = refl
on_port_append i (s ∷ a) b =
    ap (λ (l : List Message). cond (s.0 == i) (s.1 ∷ l) l) (on_port_append i a b) ∙ cons_append (s.0 == i) s.1 (on_port i a) (on_port i b)

pub cond_nil : (b : Bool) → ◌≡◌ {A = List Message} (cond b [] []) []
cond_nil true = refl
cond_nil false = refl

cond_split : (b c : Bool) (x : Message) (xs : List Message) →
    cond b (cond c (x ∷ []) []) [] ++ cond b xs [] ≡ cond b (cond c (x ∷ xs) xs) []
cond_split true true x xs = refl
cond_split true false x xs = refl
cond_split false c x xs = refl

both_on : (a b c d : ℕ) (x : Message) → a ≡ b → c ≡ d → cond (a == b) (cond (c == d) (x ∷ []) []) [] ≡ x ∷ []
both_on a b c d x e h = rw (eq-eqb a b e, eq-eqb c d h) refl

one_off : (a b c d : ℕ) (x : Message) → ((a ≡ b) × (c ≡ d) → ⊥) → ◌≡◌ {A = List Message} (cond (a == b) (cond (c == d) (x ∷ []) []) []) []
one_off a b c d x never = ⊎_elim
    (λ h. ⊎_elim (λ y. absurd (never (h.1, y.1))) (λ y. rw (h.0, y.0) refl) (eqb_tells c d)) (λ h. rw h.0 refl) (eqb_tells a b)

-- over each link: what was sent with this test was heard or waits
abbrev pub Account : Network → Net State Message → (Message → Bool) → (ℕ → ℕ → List Message) → (ℕ → ℕ → List Message) → Type 0
Account g w t sent heard = (u q : ℕ) → At g u q → sent (far g u q) (far_port g u q) ≡ heard u q ++ filter t (w.queue u q)

module _ (g : Network) (wired : IsWired g) (v : ℕ) (lo : 1 ≤ v) (hi : v ≤ g.count) where
  -- one message more waits where it went
  one_queue : (w : Net State Message) (s : ℕ × Message) → At g v s.0 → (u q : ℕ) → At g u q →
      (send gather g v w s).queue u q ≡ w.queue u q ++ cond (far g u q == v) (cond (s.0 == far_port g u q) (s.1 ∷ []) []) []
  one_queue w s on u q at = ⊎_elim here there (one_place (far g v s.0) (far_port g v s.0) u q)
    where
      to : List Message
      to = w.queue (far g v s.0) (far_port g v s.0) ++ s.1 ∷ []

      here : (u ≡ far g v s.0) × (q ≡ far_port g v s.0) →
          (send gather g v w s).queue u q ≡ w.queue u q ++ cond (far g u q == v) (cond (s.0 == far_port g u q) (s.1 ∷ []) []) []
      here e =
          let a = put_at_hit w.queue (far g v s.0) (far_port g v s.0) u q to e.0 e.1 in
          let c : w.queue (far g v s.0) (far_port g v s.0) ≡ w.queue u q = rw (e.0, e.1) refl in
          let x : far g u q ≡ v = rw (e.0, e.1) (wired.back v s.0 on) in
          let y : s.0 ≡ far_port g u q = rw (e.0, e.1) (sym (wired.back_port v s.0 on)) in
          let d = both_on (far g u q) v s.0 (far_port g u q) s.1 x y in
          a ∙ ap (λ (l : List Message). l ++ s.1 ∷ []) c ∙ ap (λ (l : List Message). w.queue u q ++ l) (sym d)

      there : ((u ≡ far g v s.0) × (q ≡ far_port g v s.0) → ⊥) →
          (send gather g v w s).queue u q ≡ w.queue u q ++ cond (far g u q == v) (cond (s.0 == far_port g u q) (s.1 ∷ []) []) []
      there ne =
          let a = put_at_miss w.queue (far g v s.0) (far_port g v s.0) u q to ne in
          let d =
          one_off (far g u q) v s.0 (far_port g u q) s.1
          (λ z. ne (
            sym (wired.back u q at) ∙ ap (λ x. far g x (far_port g u q)) z.0 ∙ ap (far g v) (sym z.1),
            sym (wired.back_port u q at) ∙ ap (λ x. far_port g x (far_port g u q)) z.0 ∙ ap (far_port g v) (sym z.1),
          )) in
          a ∙ sym (append-nil (w.queue u q)) ∙ ap (λ (l : List Message). w.queue u q ++ l) (sym d)

  pub queues : (ss : Outgoing Message) (w : Net State Message) → are_on_ports gather g v ss ≡ true → (u q : ℕ) → At g u q →
      (send_all gather g v ss w).queue u q ≡ w.queue u q ++ cond (far g u q == v) (on_port (far_port g u q) ss) []
  queues [] w t u q at = sym (append-nil (w.queue u q)) ∙ ap (λ (l : List Message). w.queue u q ++ l) (sym (cond_nil (far g u q == v)))
  queues (s ∷ ss) w t u q at =
      let h = and_parts _ _ t in
      let i = far_port g u q in
      let b = far g u q == v in
      queues ss (send gather g v w s) h.1 u q at
      ∙ ap (λ (l : List Message). l ++ cond b (on_port i ss) [])
      (one_queue w s (record { some = lo; node = hi; port = ltb-true s.0 _ h.0 }) u q at)
      ∙ append_assoc (w.queue u q) (cond b (cond (s.0 == i) (s.1 ∷ []) []) []) (cond b (on_port i ss) [])
      ∙ ap (λ (l : List Message). w.queue u q ++ l) (cond_split b (s.0 == i) s.1 (on_port i ss))

  -- what goes out in a reaction is sent
  pub still : (o : Outcome State Message) (w : Net State Message) → are_on_ports gather g v o.sends ≡ true → (t : Message → Bool) →
      (sent sent' heard : ℕ → ℕ → List Message) → ((u i : ℕ) → u ≢ v → sent' u i ≡ sent u i) →
      ((i : ℕ) → At g v i → sent' v i ≡ sent v i ++ filter t (on_port i o.sends)) → Account g w t sent heard →
      Account g (reacted gather g v o w) t sent' heard
  still o w on t sent sent' heard others own acc u q at = ⊎_elim here there (eqb_tells (far g u q) v)
    where
      i : ℕ
      i = far_port g u q

      now : (reacted gather g v o w).queue u q ≡ w.queue u q ++ cond (far g u q == v) (on_port i o.sends) []
      now = queues o.sends (record w { node = put w.node v o.state }) on u q at

      here : ((far g u q == v) ≡ true) × (far g u q ≡ v) →
          sent' (far g u q) (far_port g u q) ≡ heard u q ++ filter t ((reacted gather g v o w).queue u q)
      here e =
          let there = wired.there u q at in
          let at' : At g v i = subst (λ x. At g x i) e.1 there in
          let more : (reacted gather g v o w).queue u q ≡ w.queue u q ++ on_port i o.sends =
          now ∙ ap (λ b. w.queue u q ++ cond b (on_port i o.sends) []) e.0 in
          ap (λ x. sent' x i) e.1 ∙ own i at' ∙ ap (λ x. sent x i ++ filter t (on_port i o.sends)) (sym e.1)
          ∙ ap (λ (l : List Message). l ++ filter t (on_port i o.sends)) (acc u q at)
          ∙ append_assoc (heard u q) (filter t (w.queue u q)) (filter t (on_port i o.sends))
          ∙ ap (λ (l : List Message). heard u q ++ l) (sym (ap (filter t) more ∙ filter-append t (w.queue u q) (on_port i o.sends)))

      there : ((far g u q == v) ≡ false) × (far g u q ≢ v) →
          sent' (far g u q) (far_port g u q) ≡ heard u q ++ filter t ((reacted gather g v o w).queue u q)
      there e =
          let same : (reacted gather g v o w).queue u q ≡ w.queue u q =
          now ∙ ap (λ b. w.queue u q ++ cond b (on_port i o.sends) []) e.0 ∙ append-nil (w.queue u q) in
          others (far g u q) i e.1 ∙ acc u q at ∙ ap (λ (l : List Message). heard u q ++ filter t l) (sym same)

-- a message is taken, and so heard
abbrev pub with_heard : (Message → Bool) → (ℕ → ℕ → List Message) → ℕ → ℕ → Message → ℕ → ℕ → List Message
with_heard t heard v p m = put_at heard v p (heard v p ++ filter t (m ∷ []))

first_split : (t : Message → Bool) (m : Message) (ms : List Message) → filter t (m ∷ ms) ≡ filter t (m ∷ []) ++ filter t ms
first_split t m ms = filter-append t (m ∷ []) ms

pub taken : (g : Network) (w : Net State Message) (t : Message → Bool) (sent heard : ℕ → ℕ → List Message) (v p : ℕ) (m : Message)
    (ms : List Message) →
    w.queue v p ≡ m ∷ ms → Account g w t sent heard → Account g (take_first gather g v p m ms w) t sent (with_heard t heard v p m)
taken g w t sent heard v p m ms e acc u q at = ⊎_elim here there (one_place v p u q)
  where
    here : (u ≡ v) × (q ≡ p) →
        sent (far g u q) (far_port g u q) ≡ with_heard t heard v p m u q ++ filter t ((take_first gather g v p m ms w).queue u q)
    here z =
        let a = acc u q at in
        let b = put_at_hit heard v p u q (heard v p ++ filter t (m ∷ [])) z.0 z.1 in
        let c : put_at w.queue v p ms u q ≡ ms = put_at_hit w.queue v p u q ms z.0 z.1 in
        let d : w.queue u q ≡ m ∷ ms = rw (z.0, z.1) e in
        let f : heard u q ≡ heard v p = rw (z.0, z.1) refl in
        a ∙ ap (λ (l : List Message). heard u q ++ filter t l) d ∙ ap (λ (l : List Message). l ++ filter t (m ∷ ms)) f
        ∙ ap (λ (l : List Message). heard v p ++ l) (first_split t m ms) ∙ sym (append_assoc (heard v p) (filter t (m ∷ [])) (filter t ms))
        ∙ ap (λ (l : List Message). l ++ filter t ms) (sym b) ∙ ap (λ (l : List Message). with_heard t heard v p m u q ++ filter t l) (sym c)

    there : ((u ≡ v) × (q ≡ p) → ⊥) →
        sent (far g u q) (far_port g u q) ≡ with_heard t heard v p m u q ++ filter t ((take_first gather g v p m ms w).queue u q)
    there ne =
        let b = put_at_miss heard v p u q (heard v p ++ filter t (m ∷ [])) ne in
        let c : put_at w.queue v p ms u q ≡ w.queue u q = put_at_miss w.queue v p u q ms ne in
        acc u q at ∙ ap (λ (l : List Message). l ++ filter t (w.queue u q)) (sym b)
        ∙ ap (λ (l : List Message). with_heard t heard v p m u q ++ filter t l) (sym c)
