-- What an event leaves at other nodes than its own.
use Rattle.std.proofs.Common.{◌≡◌, ◌≢◌, ℕ, List, ◌++◌, ◌∙◌, ap}
use Rattle.peer_network.specs.declared.event.Event.{Event}
use Rattle.peer_network.specs.Network.{Network, far, far_port}
use Rattle.peer_network.proofs.lemmas.Updates.{put_at_node}
use Rattle.peer_machine.specs.declared.work.Work.TheVariants.{Deliver}
use Rattle.peer_machine.specs.Rules.{Rules, Outcome}
use Rattle.peer_machine.specs.Net.{Net, left_of, put, event_node, reacted, take_first}
use Rattle.peer_machine.specs.Steps.{Happens, Woke, Took}
use Rattle.peer_machine.proofs.lemmas.Sends.{node_there, queue_grows, queue_kept}

module _ {S M : Type 0} (r : Rules S M) (g : Network) where
  pub node_stays : (w w' : Net S M) (e : Event) → Happens r g w e w' → (u : ℕ) → u ≢ event_node e → w'.node u ≡ w.node u
  node_stays w _ _ (Woke v o lo hi s e t) u ne = node_there r g v o w u ne
  node_stays w _ _ (Took v p m ms o at q e t) u ne = node_there r g v o (take_first r g v p m ms w) u ne

  -- a queue at (u, q) is as in x, with something behind it, and just so where no port of v leads there
  abbrev Appends : ℕ → ℕ → ℕ → List M → List M → Type 0
  Appends v u q old new =
      (ms : List M) × (new ≡ old ++ ms) × (((i : ℕ) → far g v i ≡ u → far_port g v i ≡ q → ⊥) → new ≡ old)

  reacted_appends : (v : ℕ) (o : Outcome S M) (w : Net S M) (u q : ℕ) → Appends v u q (w.queue u q) ((reacted r g v o w).queue u q)
  reacted_appends v o w u q =
      let x : Net S M = record w { node = put w.node v o.state } in
      let grows = queue_grows r g v u q o.sends x in
      (grows.0, grows.1, λ away. queue_kept r g v u q o.sends x away)

  pub queue_appends : (w w' : Net S M) (e : Event) → Happens r g w e w' → (u q : ℕ) → u ≢ event_node e →
      Appends (event_node e) u q (w.queue u q) (w'.queue u q)
  queue_appends w _ _ (Woke v o lo hi s e t) u q ne = reacted_appends v o w u q
  queue_appends w _ _ (Took v p m ms o at l e t) u q ne =
      let x = take_first r g v p m ms w in
      let rest = reacted_appends v o x u q in
      let same : x.queue u q ≡ w.queue u q = put_at_node w.queue v p u q (left_of (r.defers (w.node v) (Deliver p m)) m ms) ne in
      (rest.0, rest.1 ∙ ap (λ y. y ++ rest.0) same, λ away. rest.2 away ∙ same)
