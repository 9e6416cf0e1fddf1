-- A wave that has come back to its leader: all whom it can reach have joined it, await nothing, and are in no other.
use Rattle.std.proofs.Common.{◌≡◌, ◌≢◌, ℕ, zero, suc, ◌≤◌, Bool, true, false, Option, Some, None, List, [], ◌∷◌, ◌++◌, cond, refl, sym, ◌∙◌, ap, subst, arith, eq-eqb}
use Rattle.std.specs.Prelude.{filter}
use Rattle.ghs_graph.specs.declared.key.Key.{Key}
use Rattle.peer_network.specs.Network.{Network, At, far, far_port}
use Rattle.peer_network.proofs.lemmas.Wired.{IsWired}
use Rattle.peer_machine.specs.Net.{Net}
use Rattle.gather_node.specs.declared.message.Message.{Message}
use Rattle.gather_node.specs.declared.message.Message.TheVariants.{Explore}
use Rattle.gather_node.specs.State.{State, is_that}
use Rattle.gather_protocol.proofs.Heard.{append_some, sent_joined}
use Rattle.gather_protocol.proofs.Sends.{is_of, sent_on}
use Rattle.gather_protocol.proofs.Waves.{Waves, knows, sent_of}

-- over its parent port a node sends once it awaits nothing
sent_back : (j : Bool) (x : ℕ) (parent : Option ℕ) (a : ℕ) (ks : List Key) (i : ℕ) → parent ≡ Some i → sent_on j x parent a ks i ≢ [] → a ≡ 0
sent_back false x parent a ks i e h = absurd (h refl)
sent_back true x parent zero ks i e h = refl
sent_back true x parent (suc k) ks i e h =
    absurd (h (ap (λ b. cond b [] (Explore x ∷ []) ++ cond b [] []) (ap (λ o. is_that o i) e ∙ eq-eqb i i refl)))

module _ (g : Network) (may : ℕ → Bool) (wired : IsWired g) (w : Net State Message) (i : Waves g may w) where
  abbrev pub joined : ℕ → ℕ → Type 0
  joined v x = (i.past v).joined x ≡ true

  -- the node has joined the wave, and awaits nothing in it
  pub record Done (v x : ℕ) : Type 0 where
    pub in_it : (i.past v).joined x ≡ true
    pub over : (i.past v).awaits x ≡ 0

  -- what was heard was sent
  pub heard_sent : (v x q : ℕ) → At g v q → (i.past v).heard x q ≢ [] → sent_of g (far g v q) (i.past (far g v q)) x (far_port g v q) ≢ []
  heard_sent v x q at h z = append_some ((i.past v).heard x q) (filter (is_of x) (w.queue v q)) h (sym (i.over x v q at) ∙ z)

  -- its neighbours have joined it too
  pub next_joined : (v x q : ℕ) → At g v q → Done v x → joined (far g v q) x
  next_joined v x q at d =
      let s = i.past (far g v q) in
      sent_joined (s.joined x) x (s.parent x) (s.awaits x) (knows g (far g v q) (s.brought x)) (far_port g v q)
      (heard_sent v x q at ((i.nodes v).full x q at d.in_it d.over))

  -- a child of one that is done is done
  child_done : (v x p : ℕ) → joined v x → (i.past v).parent x ≡ Some p → Done (far g v p) x → Done v x
  child_done v x p j e d =
      let up = i.led.ups v x p j e in
      let there = wired.there v p up.at in
      let s = i.past v in
      let h = heard_sent (far g v p) x (far_port g v p) there ((i.nodes (far g v p)).full x (far_port g v p) there d.in_it d.over) in
      let h' : sent_of g v (i.past v) x p ≢ [] =
      subst (λ b. sent_of g b (i.past b) x p ≢ []) (wired.back v p up.at)
      (subst (λ b. sent_of g (far g (far g v p) (far_port g v p)) (i.past (far g (far g v p) (far_port g v p))) x b ≢ [])
      (wired.back_port v p up.at) h) in
      record { in_it = j; over = sent_back (s.joined x) x (s.parent x) (s.awaits x) (knows g v (s.brought x)) p e h' }

  -- where its first node is done, all who have joined a wave are
  below_done : (x r v : ℕ) → Done x x → (i.past v).rank x ≤ r → joined v x → Done v x
  below_done x zero v d le j = go ((i.past v).parent x) refl
    where
      go : (o : Option ℕ) → (i.past v).parent x ≡ o → Done v x
      go None e = subst (λ b. Done b x) (sym (i.led.first v x j e)) d
      go (Some p) e = absurd (let l = i.led.later v x p j e in omega (arith, l, le))
  below_done x (suc r) v d le j = go (λ b l k. below_done x r b d l k) ((i.past v).parent x) refl
    where
      go : ((b : ℕ) → (i.past b).rank x ≤ r → joined b x → Done b x) → (o : Option ℕ) → (i.past v).parent x ≡ o → Done v x
      go ih None e = subst (λ b. Done b x) (sym (i.led.first v x j e)) d
      go ih (Some p) e =
          child_done v x p j e
          (ih (far g v p) (let l = i.led.later v x p j e in omega (arith, l, le)) (i.led.ups v x p j e).up)

  pub all_done : (v x : ℕ) → Done x x → joined v x → Done v x
  all_done v x d j = below_done x ((i.past v).rank x) v d (omega arith) j

  -- who has joined another wave leads by its parents to the first node of that, which has joined this one too
  reaches : (x y r v : ℕ) → Done x x → (i.past v).rank y ≤ r → joined v y → joined v x → joined y x
  reaches x y zero v d le j k = go ((i.past v).parent y) refl
    where
      go : (o : Option ℕ) → (i.past v).parent y ≡ o → joined y x
      go None e = subst (λ b. joined b x) (i.led.first v y j e) k
      go (Some p) e = absurd (let l = i.led.later v y p j e in omega (arith, l, le))
  reaches x y (suc r) v d le j k = go (λ b l m n. reaches x y r b d l m n) ((i.past v).parent y) refl
    where
      go : ((b : ℕ) → (i.past b).rank y ≤ r → joined b y → joined b x → joined y x) → (o : Option ℕ) → (i.past v).parent y ≡ o → joined y x
      go ih None e = subst (λ b. joined b x) (i.led.first v y j e) k
      go ih (Some p) e =
          let up = i.led.ups v y p j e in
          ih (far g v p) (let l = i.led.later v y p j e in omega (arith, l, le)) up.up (next_joined v x p up.at (all_done v x d k))

  -- who has joined it is in no other wave
  pub done_wave : (v x : ℕ) → Done x x → joined v x → (w.node v).head.wave ≡ Some x
  done_wave v x d j =
      let l = (i.nodes v).least x j in
      let y = l.0 in
      let jy = ((i.nodes v).now y l.1).joined in
      let k = reaches x y ((i.past v).rank y) v d (omega arith) jy j in
      let le = i.led.woke y x (i.led.root v y jy) k in
      let ge = l.2 in
      l.1 ∙ ap Some (let e : y ≡ x = omega (arith, le, ge) in e)

  pub done_awaits : (v x : ℕ) → Done x x → joined v x → (w.node v).head.awaits ≡ 0
  done_awaits v x d j = sym ((i.nodes v).now x (done_wave v x d j)).awaits ∙ (all_done v x d j).over
