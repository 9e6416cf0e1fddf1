-- What an event leaves as it was, and what it brings to the far ends of its node's ports.
use Rattle.std.proofs.Common.{◌≡◌, ◌≢◌, ℕ, suc, ◌+◌, ◌<◌, ◌≤◌, ◌&&◌, Bool, true, Some, List, [], ◌∷◌, ◌++◌, length, map, drop, drop-cons, get_or, nat_lt, refl, sym, ◌∙◌, ap, subst, arith, length-append, ltb-true}
use Rattle.std.specs.List.{All, Contains}
use Rattle.std.proofs.lemmas.Bool.{and_parts}
use Rattle.std.proofs.lemmas.Option.{same_Some}
use Rattle.std.proofs.lemmas.List.Elements.{All-nil, All-cons}
use Rattle.ghs_graph.proofs.lemmas.Members.{first_in, later_in}
use Rattle.peer_network.specs.declared.event.Event.{Event}
use Rattle.peer_network.specs.declared.event.Event.TheVariants.{Wake, Take}
use Rattle.peer_network.specs.Network.{Network, far, far_port}
use Rattle.peer_network.proofs.lemmas.Updates.{put_at_hit, put_at_miss}
use Rattle.peer_index.specs.Places.{far_take}
use Rattle.peer_machine.specs.Rules.{Rules, Outcome, Outgoing}
use Rattle.peer_machine.specs.Net.{Net, event_node, is_node, is_port, put, send, send_all, take_first, reacted, are_on_ports}
use Rattle.peer_machine.specs.Steps.{Happens, Woke, Took}
use Rattle.peer_machine.proofs.lemmas.Sends.{node_there, queue_grows}
use Rattle.peer_net.specs.NetState.{delivery, work_at}
use Rattle.peer_runs.specs.Lawful.{is_lawful_under}
use Rattle.peer_runs.specs.Upkeep.{changed, HasArrived}

-- the Takes at the far ends
abbrev pub arrivals : {M : Type 0} → Network → ℕ → Outgoing M → List Event
arrivals {M} g v ss = map (λ (s : ℕ × M). far_take g v s.0) ss

-- the next of them
pub next_arrival : {M : Type 0} (g : Network) (v : ℕ) (ss : Outgoing M) (i : ℕ) (s : ℕ × M) → i < length ss → s ≡ get_or ss i s →
    arrivals g v (drop i ss) ≡ far_take g v s.0 ∷ arrivals g v (drop (i + 1) ss)
next_arrival {M} g v ss i s lt e =
    let up : suc i ≡ i + 1 = omega arith in
    ap (arrivals g v) (drop-cons ss i s lt ∙ ap (λ (x : ℕ × M). x ∷ drop (suc i) ss) (sym e))
    ∙ ap (λ (n : ℕ). far_take g v s.0 ∷ arrivals g v (drop n ss)) up

module _ {S M : Type 0} (r : Rules S M) (g : Network) (v : ℕ) where
  -- no message comes in at a port that none is sent to
  unsent : (ss : Outgoing M) (w : Net S M) (u q : ℕ) → (Contains (arrivals g v ss) (Take u q) → ⊥) →
      (send_all r g v ss w).queue u q ≡ w.queue u q
  unsent [] w u q none = refl
  unsent (s ∷ ss) w u q none =
      unsent ss (send r g v w s) u q (λ h. none (later_in (far_take g v s.0) (Take u q) _ h))
      ∙ put_at_miss w.queue (far g v s.0) (far_port g v s.0) u q _
      (λ z. none (subst (λ (e : Event). Contains (e ∷ arrivals g v ss) (Take u q)) (ap (λ a. Take a q) z.0 ∙ ap (Take (far g v s.0)) z.1)
      (first_in (Take u q) (arrivals g v ss))))

  -- what was sent first waits, whatever is sent behind it
  one_waits : (s : ℕ × M) (ss : Outgoing M) (w : Net S M) →
      0 < length ((send_all r g v ss (send r g v w s)).queue (far g v s.0) (far_port g v s.0))
  one_waits s ss w =
      let a = far g v s.0 in
      let b = far_port g v s.0 in
      let grows = queue_grows r g v a b ss (send r g v w s) in
      let here = put_at_hit w.queue a b a b (w.queue a b ++ s.1 ∷ []) refl refl in
      omega (
        arith,
        ap (λ (l : List M). length l) grows.1,
        ap (λ (l : List M). length l) here,
        length-append ((send r g v w s).queue a b) grows.0,
        length-append (w.queue a b) (s.1 ∷ []),
      )

  -- and so does all that was sent
  all_arrived : (ss : Outgoing M) (w : Net S M) → 1 ≤ v → v ≤ g.count → are_on_ports r g v ss ≡ true →
      All (λ (s : ℕ × M). HasArrived g (send_all r g v ss w) v s.0) ss
  all_arrived [] w lo hi t = All-nil (λ (s : ℕ × M). HasArrived g w v s.0)
  all_arrived (s ∷ ss) w lo hi t =
      let h = and_parts _ _ t in
      All-cons (λ (x : ℕ × M). HasArrived g (send_all r g v ss (send r g v w s)) v x.0) s ss
      (record { port = record { some = lo; node = hi; port = ltb-true s.0 _ h.0 }; waits = one_waits s ss w })
      (all_arrived ss (send r g v w s) lo hi h.1)

-- An event that has happened: its node has reacted to it, in a net that is as it was but for what the event takes.
pub record Done {S M : Type 0} (r : Rules S M) (g : Network) (w w' : Net S M) (e : Event) (ss : Outgoing M) : Type 0 where
  pub some : 1 ≤ event_node e
  pub node : event_node e ≤ g.count
  pub out : Outcome S M
  pub sends : ss ≡ out.sends
  pub on_ports : are_on_ports r g (event_node e) out.sends ≡ true
  pub taken : Net S M
  pub nodes : (u : ℕ) → taken.node u ≡ w.node u
  pub queues : (u q : ℕ) → Take u q ≢ e → taken.queue u q ≡ w.queue u q
  pub is : w' ≡ reacted r g (event_node e) out taken

module _ {S M : Type 0} (r : Rules S M) (g : Network) where
  pub done_of : (w w' : Net S M) (e : Event) (ss : Outgoing M) (o : Outcome S M) → Happens r g w e w' →
      r.reaction (w.node (event_node e)) (work_at w e) ≡ Some o → ss ≡ o.sends → Done r g w w' e ss
  done_of w _ _ ss o (Woke v x lo hi s h t) a z = record {
    some = lo;
    node = hi;
    out = x;
    sends = z ∙ ap (λ (y : Outcome S M). y.sends) (same_Some o x (sym a ∙ h));
    on_ports = t;
    taken = w;
    nodes = λ u. refl;
    queues = λ u q ne. refl;
    is = refl;
  }
  done_of w _ _ ss o (Took v p m ms x at l h t) a z = record {
    some = at.some;
    node = at.node;
    out = x;
    sends = z ∙ ap (λ (y : Outcome S M). y.sends) (same_Some o x (sym a ∙ ap (λ k. r.reaction (w.node v) (delivery p k)) l ∙ h));
    on_ports = t;
    taken = take_first r g v p m ms w;
    nodes = λ u. refl;
    queues = λ u q ne. put_at_miss w.queue v p u q _ (λ z. ne (ap (λ a. Take a q) z.0 ∙ ap (Take v) z.1));
    is = refl;
  }

module _ {S M : Type 0} {r : Rules S M} {g : Network} {w w' : Net S M} {e : Event} {ss : Outgoing M} (done : Done r g w w' e ss) where
  -- what isn't among the changed events
  past : (f : Event) → (Contains (changed g e ss) f → ⊥) →
      (f ≢ Wake (event_node e)) × (f ≢ e) × (Contains (arrivals g (event_node e) ss) f → ⊥)
  past f none =
      let fs = arrivals g (event_node e) ss in (
        λ z. none (subst (λ (x : Event). Contains (x ∷ e ∷ fs) f) z (first_in f (e ∷ fs))),
        λ z. none (later_in (Wake (event_node e)) f (e ∷ fs) (subst (λ (x : Event). Contains (x ∷ fs) f) z (first_in f fs))),
        λ h. none (later_in (Wake (event_node e)) f (e ∷ fs) (later_in e f fs h)),
      )

  -- the net in which the messages go out
  abbrev before : Net S M
  before = record done.taken { node = put done.taken.node (event_node e) done.out.state }

  queue_same : (u q : ℕ) → (Contains (changed g e ss) (Take u q) → ⊥) → w'.queue u q ≡ w.queue u q
  queue_same u q none =
      let apart = past (Take u q) none in
      ap (λ (x : Net S M). x.queue u q) done.is
      ∙ unsent r g (event_node e) done.out.sends before u q
      (subst (λ (l : Outgoing M). Contains (arrivals g (event_node e) l) (Take u q) → ⊥) done.sends apart.2)
      ∙ done.queues u q apart.1

  node_same : (u : ℕ) → u ≢ event_node e → w'.node u ≡ w.node u
  node_same u ne = ap (λ (x : Net S M). x.node u) done.is ∙ node_there r g (event_node e) done.out done.taken u ne ∙ done.nodes u

  -- an event that isn't among the changed ones is as lawful as before
  pub same_else : (may : ℕ → Bool) (f : Event) → (Contains (changed g e ss) f → ⊥) → is_lawful_under r may g w' f ≡ is_lawful_under r may g w f
  same_else may (Wake u) none =
      ap (λ (n : S). (is_node g u && r.is_asleep n) && may u) (node_same u (λ z. (past (Wake u) none).0 (ap Wake z)))
  same_else may (Take u q) none = ap (λ (l : List M). is_port g u q && nat_lt 0 (length l)) (queue_same u q none)

  -- at the far ends of what was sent messages wait
  pub have_arrived : All (λ (s : ℕ × M). HasArrived g w' (event_node e) s.0) ss
  have_arrived =
      subst (λ (x : Net S M). All (λ (s : ℕ × M). HasArrived g x (event_node e) s.0) ss) (sym done.is)
      (subst (λ (l : Outgoing M). All (λ (s : ℕ × M). HasArrived g (reacted r g (event_node e) done.out done.taken) (event_node e) s.0) l)
      (sym done.sends) (all_arrived r g (event_node e) done.out.sends before done.some done.node done.on_ports))
