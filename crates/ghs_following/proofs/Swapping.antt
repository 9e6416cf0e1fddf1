-- Two events that have nothing to do with each other, in either order.
use Rattle.std.proofs.Common.{◌≡◌, ◌≢◌, ℕ, suc, ◌+◌, Bool, true, false, ◌&&◌, ◌==◌, Option, Some, None, List, [], ◌∷◌, ◌++◌, length, refl, sym, ◌∙◌, ap, ap₂, subst, cond, ⊎_elim, arith}
use Rattle.std.specs.List.{slice_index_or}
use Rattle.std.specs.Prelude.{IsSome}
use Rattle.std.proofs.lemmas.Bool.{and_parts, cases_eq}
use Rattle.std.proofs.lemmas.List.Elements.{All-nil, All-cons}
use Rattle.std.proofs.lemmas.Option.{same_Some}
use Rattle.std.proofs.Math.Path.{fun_ext}
use Rattle.ghs_node.specs.declared.delta.Delta.{Delta}
use Rattle.ghs_node.specs.declared.delta.Fate.{Fate}
use Rattle.ghs_node.specs.declared.delta.Fate.TheVariants.{Consumed, Requeued}
use Rattle.ghs_node.specs.declared.message.Message.{Message}
use Rattle.ghs_node.specs.declared.work.Work.TheVariants.{Wake as To_wake, Deliver}
use Rattle.ghs_node.specs.Kind.{kind_of, place_of}
use Rattle.ghs_node.specs.NodeState.{NodeState}
use Rattle.ghs_node.specs.Reaction.{reaction, after}
use Rattle.ghs_node.specs.Rows.{Row}
use Rattle.ghs_node.specs.Words.{Outgoing, is_sleeping}
use Rattle.ghs_node.proofs.lemmas.{reaction_inverts, row_ported}
use Rattle.peer_network.specs.declared.event.Event.{Event}
use Rattle.peer_network.specs.declared.event.Event.TheVariants.{Wake, Take}
use Rattle.ghs_protocol.specs.Laws.{IsNetOf}
use Rattle.ghs_protocol.specs.Ledger.{of_kind}
use Rattle.ghs_protocol.specs.Net.{Net, change, effect, happens, is_lawful, is_waiting, left_of, one_if_consumed, one_if_requeued, opening, send, send_all, take_first, takes_from, after_take, after_wake}
use Rattle.peer_network.specs.Network.{is_node, is_port, Network, At, far, far_port, network_of}
use Rattle.peer_network.specs.Events.{event_node}
use Rattle.peer_network.specs.Updates.{put, put_at}
use Rattle.ghs_protocol.specs.Run.{and_then, run}
use Rattle.ghs_protocol.specs.Steps as steps
use Rattle.ghs_protocol.specs.Steps.{sent_on}
use Rattle.ghs_protocol.proofs.lemmas.Events.{lawful_happens}
use Rattle.peer_network.proofs.lemmas.Events.{at_of, node_of}
use Rattle.peer_network.proofs.lemmas.Graphs.{graph_few, graph_wired}
use Rattle.ghs_protocol.proofs.lemmas.Laws.{events_have_rules}
use Rattle.ghs_protocol.proofs.lemmas.Nodes.{ports_many}
use Rattle.ghs_protocol.proofs.lemmas.Queues.{all_first, all_rest}
use Rattle.ghs_protocol.proofs.lemmas.Runs.{run_joins}
use Rattle.ghs_protocol.proofs.lemmas.Sends.{consumed_sent, count_sent, messages, node_sent, requeued_sent}
use Rattle.peer_network.proofs.lemmas.Updates.{put_count, put_other, put_same}
use Rattle.ghs_protocol.proofs.lemmas.WellFormed.{IsWellFormed, after_formed, event_row}
use Rattle.peer_network.proofs.lemmas.Wired.{IsWired}
use Rattle.ghs_core.specs.Dispatch.{arriving}
use Rattle.ghs_core.specs.NetState.{delivery}
use Rattle.peer_chains.specs.Chains.{Chains, behind, heard, hears, most_below, no_chains, sent, sent_on as number_on, taken}
use Rattle.ghs_following.specs.Chains.{answered, chains_after, chains_of, chains_then, if_then, is_deferred}
use Rattle.ghs_following.specs.Swaps.{AreAlike, AreApart, No_swap, OrdersAreAlike, PutsBackAt, SendsTo, Swap_more, SwapsAreAlike, answer}
use Rattle.ghs_following.proofs.Filling.{IsFit, OnPorts, StaysClear, acts, acts_swap, comes, fills, first_stays, on_port, taking, turned}
use Rattle.ghs_following.proofs.lemmas.Lengths.{SameLengths, same_lengths}
use Rattle.peer_chains.proofs.lemmas.Hears.{hears_node, sent_node}

-- The net after an event, by what its node does.

abbrev pub disposed : ℕ → ℕ → Fate → List Message → Net → Net
disposed v p f [] w = w
disposed v p f (m ∷ ms) w = take_first f v p m ms w

abbrev pub dispose : Event → Fate → Net → Net
dispose (Wake v) f w = w
dispose (Take v p) f w = disposed v p f (w.queue v p) w

abbrev pub made : Network → Event → Delta → Net → Net
made g e d w = steps.reacted g (event_node e) d (dispose e d.fate w)

-- how many of a kind are consumed of what waits first, and whether it is put back
abbrev eaten : Fate → List Message → ℕ → ℕ
eaten f [] k = 0
eaten f (m ∷ ms) k = cond (place_of (kind_of m) == k) (one_if_consumed f) 0

abbrev eats : Event → Fate → (ℕ → ℕ → List Message) → ℕ → ℕ
eats (Wake v) f q k = 0
eats (Take v p) f q k = eaten f (q v p) k

abbrev back_of : Fate → List Message → ℕ
back_of f [] = 0
back_of f (m ∷ ms) = one_if_requeued f

abbrev backs : Event → Fate → (ℕ → ℕ → List Message) → ℕ
backs (Wake v) f q = 0
backs (Take v p) f q = back_of f (q v p)

-- something waits where the event takes
abbrev IsThere : {A : Type 0} → (ℕ → ℕ → List A) → Event → Type 0
IsThere q e = (a b : ℕ) → e ≡ Take a b → q a b ≢ []

module _ (w : Net) (f : Fate) where
  dispose_node : (e : Event) → (dispose e f w).node ≡ w.node
  dispose_node (Wake v) = refl
  dispose_node (Take v p) = go (w.queue v p)
    where
      go : (l : List Message) → (disposed v p f l w).node ≡ w.node
      go [] = refl
      go (m ∷ ms) = refl

  dispose_sent : (e : Event) → (dispose e f w).sent ≡ w.sent
  dispose_sent (Wake v) = refl
  dispose_sent (Take v p) = go (w.queue v p)
    where
      go : (l : List Message) → (disposed v p f l w).sent ≡ w.sent
      go [] = refl
      go (m ∷ ms) = refl

  dispose_consumed : (e : Event) (k : ℕ) → (dispose e f w).consumed k ≡ w.consumed k + eats e f w.queue k
  dispose_consumed (Wake v) k = omega arith
  dispose_consumed (Take v p) k = go (w.queue v p)
    where
      go : (l : List Message) → (disposed v p f l w).consumed k ≡ w.consumed k + eaten f l k
      go [] = omega arith
      go (m ∷ ms) = put_count w.consumed (place_of (kind_of m)) (one_if_consumed f) _ k refl

  dispose_requeued : (e : Event) → (dispose e f w).requeued ≡ w.requeued + backs e f w.queue
  dispose_requeued (Wake v) = omega arith
  dispose_requeued (Take v p) = go (w.queue v p)
    where
      go : (l : List Message) → (disposed v p f l w).requeued ≡ w.requeued + back_of f l
      go [] = omega arith
      go (m ∷ ms) = refl

  left_is : (m : Message) (ms : List Message) → left_of f m ms ≡ turned f (m ∷ ms)
  left_is m ms = go f
    where
      go : (x : Fate) → left_of x m ms ≡ turned x (m ∷ ms)
      go Consumed = refl
      go Requeued = refl

  dispose_queue : (e : Event) → IsThere w.queue e → (dispose e f w).queue ≡ taking e f w.queue
  dispose_queue (Wake v) there = refl
  dispose_queue (Take v p) there = go (w.queue v p) refl
    where
      go : (l : List Message) → w.queue v p ≡ l → (disposed v p f l w).queue ≡ put_at w.queue v p (turned f (w.queue v p))
      go [] q = absurd (there v p refl q)
      go (m ∷ ms) q = ap (put_at w.queue v p) (left_is m ms ∙ ap (turned f) (sym q))

queues_fill : (g : Network) (v : ℕ) (ss : Outgoing) (w : Net) → (send_all g v ss w).queue ≡ fills g v ss w.queue
queues_fill g v [] w = refl
queues_fill g v (s ∷ ss) w = queues_fill g v ss (send g v w s)

module _ (g : Network) (e : Event) (d : Delta) (w : Net) where
  made_node : (made g e d w).node ≡ put w.node (event_node e) (after (w.node (event_node e)) d)
  made_node =
      node_sent g (event_node e) d.sends (change (event_node e) d (dispose e d.fate w))
      ∙ ap (λ (n : ℕ → NodeState). put n (event_node e) (after (n (event_node e)) d)) (dispose_node w d.fate e)

  made_here : (made g e d w).node (event_node e) ≡ after (w.node (event_node e)) d
  made_here = ap (λ (n : ℕ → NodeState). n (event_node e)) made_node ∙ put_same w.node (event_node e) _

  made_there : (v : ℕ) → v ≢ event_node e → (made g e d w).node v ≡ w.node v
  made_there v ne = ap (λ (n : ℕ → NodeState). n v) made_node ∙ put_other w.node (event_node e) v _ ne

  made_queue : IsThere w.queue e → (made g e d w).queue ≡ acts g e d.fate d.sends w.queue
  made_queue there =
      queues_fill g (event_node e) d.sends (change (event_node e) d (dispose e d.fate w))
      ∙ ap (fills g (event_node e) d.sends) (dispose_queue w d.fate e there)

  made_sent : (k : ℕ) → (made g e d w).sent k ≡ w.sent k + of_kind k (messages d.sends)
  made_sent k =
      count_sent g (event_node e) d.sends (change (event_node e) d (dispose e d.fate w)) k
      ∙ ap (λ (n : ℕ → ℕ). n k + of_kind k (messages d.sends)) (dispose_sent w d.fate e)

  made_consumed : (k : ℕ) → (made g e d w).consumed k ≡ w.consumed k + eats e d.fate w.queue k
  made_consumed k =
      ap (λ (n : ℕ → ℕ). n k) (consumed_sent g (event_node e) d.sends (change (event_node e) d (dispose e d.fate w))) ∙ dispose_consumed w d.fate e k

  made_requeued : (made g e d w).requeued ≡ w.requeued + backs e d.fate w.queue
  made_requeued = requeued_sent g (event_node e) d.sends (change (event_node e) d (dispose e d.fate w)) ∙ dispose_requeued w d.fate e

-- an event that may happen and has a rule happens
pub happens_made : (g : Network) (w : Net) (e : Event) (d : Delta) → is_lawful g w e ≡ true → answer w e ≡ Some d →
    happens g w e ≡ Some (made g e d w)
happens_made g w (Wake v) d l r = lawful_happens g w (Wake v) l ∙ ap (after_wake g w v) r
happens_made g w (Take v p) d l r = lawful_happens g w (Take v p) l ∙ go (w.queue v p) (and_parts _ _ l).1 r
  where
    go : (q : List Message) → is_waiting q ≡ true → reaction (w.node v) (delivery p q) ≡ Some d →
        takes_from g w v p q ≡ Some (steps.reacted g v d (disposed v p d.fate q w))
    go [] some rule = cc
    go (m ∷ ms) some rule = ap (after_take g w v p m ms) rule

-- it had a rule, if it happens
answer_some : (g : Network) (w x : Net) (e : Event) → is_lawful g w e ≡ true → happens g w e ≡ Some x → (d : Delta) × (answer w e ≡ Some d)
answer_some g w x (Wake v) l h = go (answer w (Wake v)) refl (sym (lawful_happens g w (Wake v) l) ∙ h)
  where
    go : (o : Option Delta) → answer w (Wake v) ≡ o → after_wake g w v o ≡ Some x → (d : Delta) × (answer w (Wake v) ≡ Some d)
    go None e k = cc
    go (Some d) e k = (d, e)
answer_some g w x (Take v p) l h = from (w.queue v p) (and_parts _ _ l).1 refl (sym (lawful_happens g w (Take v p) l) ∙ h)
  where
    go : (q : List Message) (m : Message) (ms : List Message) (o : Option Delta) → answer w (Take v p) ≡ o → after_take g w v p m ms o ≡ Some x →
        (d : Delta) × (answer w (Take v p) ≡ Some d)
    go q m ms None e k = cc
    go q m ms (Some d) e k = (d, e)

    from : (q : List Message) → is_waiting q ≡ true → w.queue v p ≡ q → takes_from g w v p q ≡ Some x → (d : Delta) × (answer w (Take v p) ≡ Some d)
    from [] some e k = cc
    from (m ∷ ms) some e k = go (m ∷ ms) m ms (reaction (w.node v) (Deliver p m)) (ap (λ (q : List Message). reaction (w.node v) (delivery p q)) e) k

-- it has one
ruled : (g : Network) (w : Net) (e : Event) → is_lawful g w e ≡ true → IsSome (effect g w e) → (d : Delta) × (answer w e ≡ Some d)
ruled g w e l some = go (effect g w e) refl some
  where
    go : (o : Option Net) → effect g w e ≡ o → IsSome (effect g w e) → (d : Delta) × (answer w e ≡ Some d)
    go None k s = absurd (let z = s in cc)
    go (Some x) k s = answer_some g w x e l (lawful_happens g w e l ∙ k)

-- where it takes, a port is and something waits
lawful_at : (g : Network) (w : Net) (e : Event) → is_lawful g w e ≡ true → (a b : ℕ) → e ≡ Take a b → At g a b
lawful_at g w e l a b is = at_of g a b (and_parts _ _ (subst (λ (x : Event). is_lawful g w x ≡ true) is l)).0

lawful_there : (g : Network) (w : Net) (e : Event) → is_lawful g w e ≡ true → IsThere w.queue e
lawful_there g w e l a b is = some (w.queue a b) (and_parts _ _ (subst (λ (x : Event). is_lawful g w x ≡ true) is l)).1
  where
    some : (q : List Message) → is_waiting q ≡ true → q ≢ []
    some [] h = cc
    some (m ∷ ms) h = λ k. cc

-- its node sends on ports
pub on_ports : (g : Network) → IsWired g → (w : Net) → IsWellFormed g w → (e : Event) (d : Delta) → is_lawful g w e ≡ true → answer w e ≡ Some d →
    OnPorts g (event_node e) d.sends
on_ports g wired w formed (Wake v) d l r x y lt =
    let n = node_of g v (and_parts _ _ l).0 in
    let row : Row (w.node v) To_wake d = reaction_inverts (w.node v) To_wake d tt r in
    record {
      some = n.0;
      node = n.1;
      port = let a = row_ported (w.node v) To_wake d (formed.nodes v).node row x y lt in let b = ports_many (formed.nodes v) in omega (arith, a, b);
    }
on_ports g wired w formed (Take v p) d l r x y lt = go (w.queue v p) (and_parts _ _ l).1 r
  where
    at : At g v p
    at = at_of g v p (and_parts _ _ l).0

    go : (q : List Message) → is_waiting q ≡ true → reaction (w.node v) (delivery p q) ≡ Some d → At g v (slice_index_or d.sends x y).0
    go [] some rule = cc
    go (m ∷ ms) some rule =
        let row : Row (w.node v) (Deliver p m) d = event_row g wired v (w.node v) p m d at (formed.nodes v) rule in
        record {
          some = at.some;
          node = at.node;
          port = let a = row_ported (w.node v) (Deliver p m) d (formed.nodes v).node row x y lt in let b = ports_many (formed.nodes v) in
              omega (arith, a, b);
        }

-- What an event of another node leaves of an event: its node, and what is first in the queue from which it takes.
module _ (g : Network) (wired : IsWired g) (w : Net) (e f : Event) (h : Delta) (ne : event_node e ≢ event_node f) (ff : IsFit g w.queue f h.sends)
    (le : is_lawful g w e ≡ true) where
  beside_node : (made g f h w).node (event_node e) ≡ w.node (event_node e)
  beside_node = made_there g f h w (event_node e) ne

  beside_queue : (a b : ℕ) → e ≡ Take a b → (c : List Message) × ((made g f h w).queue a b ≡ w.queue a b ++ c)
  beside_queue a b is =
      let c = first_stays g wired w.queue e f h.fate h.sends ne ff a b (lawful_at g w e le a b is) is in
      (c.0, ap (λ (q : ℕ → ℕ → List Message). q a b) (made_queue g f h w ff.some) ∙ c.1)

  -- of a list that isn't empty what is behind it changes nothing that is read of its first
  first_same : {B : Type 0} (k : List Message → B) → ((m : Message) (ms c : List Message) → k ((m ∷ ms) ++ c) ≡ k (m ∷ ms)) →
      (q q' c : List Message) → q ≢ [] → q' ≡ q ++ c → k q' ≡ k q
  first_same k same [] q' c some grown = absurd (some refl)
  first_same k same (m ∷ ms) q' c some grown = ap k grown ∙ same m ms c

  beside_read : {B : Type 0} (k : List Message → B) → ((m : Message) (ms c : List Message) → k ((m ∷ ms) ++ c) ≡ k (m ∷ ms)) →
      (a b : ℕ) → e ≡ Take a b → k ((made g f h w).queue a b) ≡ k (w.queue a b)
  beside_read k same a b is =
      let c = beside_queue a b is in
      first_same k same (w.queue a b) ((made g f h w).queue a b) c.0 (lawful_there g w e le a b is) c.1

module _ (g : Network) (wired : IsWired g) (w : Net) (f : Event) (h : Delta) (ff : IsFit g w.queue f h.sends) where
  -- it has the same rule
  beside_answer : (e : Event) → event_node e ≢ event_node f → is_lawful g w e ≡ true → answer (made g f h w) e ≡ answer w e
  beside_answer (Wake v) ne le = ap (λ (n : NodeState). reaction n To_wake) (beside_node g wired w (Wake v) f h ne ff le)
  beside_answer (Take v p) ne le =
      ap (λ (n : NodeState). reaction n (delivery p ((made g f h w).queue v p))) (beside_node g wired w (Take v p) f h ne ff le)
      ∙ ap (reaction (w.node v)) (beside_read g wired w (Take v p) f h ne ff le (delivery p) (λ m ms c. refl) v p refl)

  -- it may still happen
  beside_lawful : (e : Event) → event_node e ≢ event_node f → is_lawful g w e ≡ true → is_lawful g (made g f h w) e ≡ true
  beside_lawful (Wake v) ne le = ap (λ (n : NodeState). is_node g v && is_sleeping n.head.phase) (beside_node g wired w (Wake v) f h ne ff le) ∙ le
  beside_lawful (Take v p) ne le =
      ap (λ (b : Bool). is_port g v p && b) (beside_read g wired w (Take v p) f h ne ff le is_waiting (λ m ms c. refl) v p refl) ∙ le

  -- and it consumes or puts back the same
  beside_eats : (e : Event) (x : Fate) (k : ℕ) → event_node e ≢ event_node f → is_lawful g w e ≡ true →
      eats e x (made g f h w).queue k ≡ eats e x w.queue k
  beside_eats (Wake v) x k ne le = refl
  beside_eats (Take v p) x k ne le = beside_read g wired w (Take v p) f h ne ff le (λ q. eaten x q k) (λ m ms c. refl) v p refl

  beside_backs : (e : Event) (x : Fate) → event_node e ≢ event_node f → is_lawful g w e ≡ true → backs e x (made g f h w).queue ≡ backs e x w.queue
  beside_backs (Wake v) x ne le = refl
  beside_backs (Take v p) x ne le = beside_read g wired w (Take v p) f h ne ff le (back_of x) (λ m ms c. refl) v p refl

  beside_there : (e : Event) → event_node e ≢ event_node f → is_lawful g w e ≡ true → IsThere (made g f h w).queue e
  beside_there e ne le a b is none =
      let c = beside_queue g wired w e f h ne ff le a b is in
      lawful_there g w e le a b is (left_none (w.queue a b) c.0 (sym c.1 ∙ none))
    where
      left_none : (q c : List Message) → q ++ c ≡ [] → q ≡ []
      left_none [] c z = refl
      left_none (m ∷ q) c z = cc

-- Two events of two nodes with what they do, in either order.
module _ (g : Network) (wired : IsWired g) (w : Net) (e f : Event) (d h : Delta) (ne : event_node e ≢ event_node f)
    (le : is_lawful g w e ≡ true) (lf : is_lawful g w f ≡ true) (ae : answer w e ≡ Some d) (af : answer w f ≡ Some h)
    (fe : IsFit g w.queue e d.sends) (ff : IsFit g w.queue f h.sends)
    (clear_e : StaysClear g e d.fate f h.sends) (clear_f : StaysClear g f h.fate e d.sends) where
  en : event_node f ≢ event_node e
  en z = ne (sym z)

  nodes_swap : (v : ℕ) → (made g f h (made g e d w)).node v ≡ (made g e d (made g f h w)).node v
  nodes_swap v = ⊎_elim at_e (λ away. ⊎_elim (at_f away) (nowhere away) (cases_eq v (event_node f))) (cases_eq v (event_node e))
    where
      at_e : v ≡ event_node e → (made g f h (made g e d w)).node v ≡ (made g e d (made g f h w)).node v
      at_e is =
          rw is (made_there g f h (made g e d w) (event_node e) ne ∙ made_here g e d w
          ∙ sym (made_here g e d (made g f h w) ∙ ap (λ (n : NodeState). after n d) (made_there g f h w (event_node e) ne)))

      at_f : v ≢ event_node e → v ≡ event_node f → (made g f h (made g e d w)).node v ≡ (made g e d (made g f h w)).node v
      at_f away is =
          rw is (made_here g f h (made g e d w) ∙ ap (λ (n : NodeState). after n h) (made_there g e d w (event_node f) en)
          ∙ sym (made_there g e d (made g f h w) (event_node f) en ∙ made_here g f h w))

      nowhere : v ≢ event_node e → v ≢ event_node f → (made g f h (made g e d w)).node v ≡ (made g e d (made g f h w)).node v
      nowhere away off =
          made_there g f h (made g e d w) v off ∙ made_there g e d w v away
          ∙ sym (made_there g e d (made g f h w) v away ∙ made_there g f h w v off)

  queues_swap : (a b : ℕ) → (made g f h (made g e d w)).queue a b ≡ (made g e d (made g f h w)).queue a b
  queues_swap a b =
      ap (λ (q : ℕ → ℕ → List Message). q a b)
      (made_queue g f h (made g e d w) (beside_there g wired w e d fe f en lf) ∙ ap (acts g f h.fate h.sends) (made_queue g e d w fe.some))
      ∙ acts_swap g wired w.queue e f d.fate h.fate d.sends h.sends ne fe ff clear_e clear_f a b
      ∙ sym (ap (λ (q : ℕ → ℕ → List Message). q a b)
      (made_queue g e d (made g f h w) (beside_there g wired w f h ff e ne le) ∙ ap (acts g e d.fate d.sends) (made_queue g f h w ff.some)))

  sent_swap : (k : ℕ) → (made g f h (made g e d w)).sent k ≡ (made g e d (made g f h w)).sent k
  sent_swap k =
      let a = made_sent g f h (made g e d w) k in
      let b = made_sent g e d w k in
      let x = made_sent g e d (made g f h w) k in
      let y = made_sent g f h w k in
      omega (arith, a, b, x, y)

  consumed_swap : (k : ℕ) → (made g f h (made g e d w)).consumed k ≡ (made g e d (made g f h w)).consumed k
  consumed_swap k =
      let a = made_consumed g f h (made g e d w) k in
      let b = made_consumed g e d w k in
      let c = beside_eats g wired w e d fe f h.fate k en lf in
      let x = made_consumed g e d (made g f h w) k in
      let y = made_consumed g f h w k in
      let z = beside_eats g wired w f h ff e d.fate k ne le in
      omega (arith, a, b, c, x, y, z)

  requeued_swap : (made g f h (made g e d w)).requeued ≡ (made g e d (made g f h w)).requeued
  requeued_swap =
      let a = made_requeued g f h (made g e d w) in
      let b = made_requeued g e d w in
      let c = beside_backs g wired w e d fe f h.fate en lf in
      let x = made_requeued g e d (made g f h w) in
      let y = made_requeued g f h w in
      let z = beside_backs g wired w f h ff e d.fate ne le in
      omega (arith, a, b, c, x, y, z)

  -- one net
  nets_swap : made g f h (made g e d w) ≡ made g e d (made g f h w)
  nets_swap = λ i. record {
    node = fun_ext nodes_swap i;
    queue = fun_ext (λ a. fun_ext (λ b. queues_swap a b)) i;
    sent = fun_ext sent_swap i;
    consumed = fun_ext consumed_swap i;
    requeued = requeued_swap i;
  }

-- The chains.

-- what a node sends, each with one number
abbrev stamped : ℕ → Outgoing → List (ℕ × ℕ)
stamped n [] = []
stamped n (s ∷ ss) = (s.0, n) ∷ stamped n ss

-- the chains once a node, asleep or not, has heard and sent
abbrev told : Network → Bool → Event → Delta → Chains → Chains
told g b e d c = sent g (event_node e) d.sends (hears e b (is_deferred d.fate) c)

-- the number that a node has once it has heard
abbrev number : Event → Bool → Fate → Chains → ℕ
number e b f c = (hears e b (is_deferred f) c).node (event_node e)

hears_queue : (e : Event) (b : Bool) (f : Fate) (c : Chains) → IsThere c.queue e → (hears e b (is_deferred f) c).queue ≡ taking e f c.queue
hears_queue (Wake u) b f c there = refl
hears_queue (Take u p) b f c there = go (c.queue u p) refl
  where
    behind_is : (x : Fate) (t : ℕ) (ts : List ℕ) → behind (is_deferred x) t ts ≡ turned x (t ∷ ts)
    behind_is Consumed t ts = refl
    behind_is Requeued t ts = refl

    go : (l : List ℕ) → c.queue u p ≡ l → (taken u p b (is_deferred f) l c).queue ≡ put_at c.queue u p (turned f (c.queue u p))
    go [] q = absurd (there u p refl q)
    go (t ∷ ts) q = ap (put_at c.queue u p) (behind_is f t ts ∙ ap (turned f) (sym q))

-- it rests on the node's number and on what is first in the queue alone
number_same : (e : Event) (b : Bool) (f : Fate) (c c' : Chains) → IsThere c.queue e → c'.node (event_node e) ≡ c.node (event_node e) →
    ((x y : ℕ) → e ≡ Take x y → (r : List ℕ) × (c'.queue x y ≡ c.queue x y ++ r)) → number e b f c' ≡ number e b f c
number_same (Wake u) b f c c' there node grown = node
number_same (Take u p) b f c c' there node grown = let r = grown u p refl in go (c.queue u p) (there u p refl) (c'.queue u p) r.0 r.1
  where
    of : (t : ℕ) (ts : List ℕ) (z : Chains) → (taken u p b (is_deferred f) (t ∷ ts) z).node u ≡ heard (is_deferred f) b (z.node u) t
    of t ts z = put_same z.node u _

    go : (l : List ℕ) → l ≢ [] → (l' r : List ℕ) → l' ≡ l ++ r → (taken u p b (is_deferred f) l' c').node u ≡ (taken u p b (is_deferred f) l c).node u
    go [] some l' r e = absurd (some refl)
    go (t ∷ ts) some l' r e =
        ap (λ (x : List ℕ). (taken u p b (is_deferred f) x c').node u) e ∙ of t (ts ++ r) c'
        ∙ ap (λ (n : ℕ). heard (is_deferred f) b n t) node ∙ sym (of t ts c)

module _ (g : Network) (v : ℕ) where
  sent_queue : (ss : Outgoing) (c : Chains) → (sent g v ss c).queue ≡ fills g v (stamped (suc (c.node v)) ss) c.queue
  sent_queue [] c = refl
  sent_queue (s ∷ ss) c = sent_queue ss (number_on g v s.0 c)

module _ (g : Network) (b : Bool) (e : Event) (d : Delta) (c : Chains) where
  told_here : (told g b e d c).node (event_node e) ≡ number e b d.fate c
  told_here = ap (λ (n : ℕ → ℕ). n (event_node e)) (sent_node g (event_node e) d.sends (hears e b (is_deferred d.fate) c))

  told_there : (v : ℕ) → v ≢ event_node e → (told g b e d c).node v ≡ c.node v
  told_there v ne =
      ap (λ (n : ℕ → ℕ). n v) (sent_node g (event_node e) d.sends (hears e b (is_deferred d.fate) c))
      ∙ hears_node e b (is_deferred d.fate) c v ne

  told_queue : IsThere c.queue e → (told g b e d c).queue ≡ acts g e d.fate (stamped (suc (number e b d.fate c)) d.sends) c.queue
  told_queue there =
      sent_queue g (event_node e) d.sends (hears e b (is_deferred d.fate) c)
      ∙ ap (fills g (event_node e) (stamped (suc (number e b d.fate c)) d.sends)) (hears_queue e b d.fate c there)

stamped_on : (g : Network) (v n : ℕ) (ss : Outgoing) → OnPorts g v ss → OnPorts g v (stamped n ss)
stamped_on g v n [] on = All-nil (λ (s : ℕ × ℕ). At g v s.0)
stamped_on g v n (s ∷ ss) on =
    All-cons (λ (t : ℕ × ℕ). At g v t.0) (s.0, n) (stamped n ss) (all_first (λ (t : ℕ × Message). At g v t.0) s ss on)
    (stamped_on g v n ss (all_rest (λ (t : ℕ × Message). At g v t.0) s ss on))

stamped_off : (n p : ℕ) (rs : Outgoing) → on_port rs p ≡ [] → on_port (stamped n rs) p ≡ []
stamped_off n p [] e = refl
stamped_off n p (s ∷ rs) e = test (λ k. stamped_off n p rs k) (s.0 == p) e
  where
    test : (on_port rs p ≡ [] → on_port (stamped n rs) p ≡ []) → (t : Bool) → cond t (s.1 ∷ on_port rs p) (on_port rs p) ≡ [] →
        cond t (n ∷ on_port (stamped n rs) p) (on_port (stamped n rs) p) ≡ []
    test rest true k = cc
    test rest false k = rest k

stamped_none : (g : Network) (v n : ℕ) (ss : Outgoing) (a b : ℕ) → comes g v ss a b ≡ [] → comes g v (stamped n ss) a b ≡ []
stamped_none g v n ss a b = go (far g a b == v)
  where
    go : (t : Bool) → cond t (on_port ss (far_port g a b)) [] ≡ [] → cond t (on_port (stamped n ss) (far_port g a b)) [] ≡ []
    go true e = stamped_off n (far_port g a b) ss e
    go false e = refl

-- as many numbers wait as messages
numbers_there : (w : Net) (c : Chains) (e : Event) → SameLengths w c → IsThere w.queue e → IsThere c.queue e
numbers_there w c e same there a b is none = there a b is (empty (w.queue a b) (sym (same.queue a b) ∙ ap length none))
  where
    empty : (q : List Message) → length q ≡ 0 → q ≡ []
    empty [] h = refl
    empty (m ∷ q) h = absurd (let z : suc (length q) ≡ 0 = h in omega (arith, z))

-- an event that another node's event leaves where it was
module _ (g : Network) (wired : IsWired g) (c : Chains) (e f : Event) (b : Bool) (h : Delta) (ne : event_node e ≢ event_node f)
    (at : (x y : ℕ) → e ≡ Take x y → At g x y) (there : IsThere c.queue e) (ff : (n : ℕ) → IsFit g c.queue f (stamped n h.sends)) where
  still_grown : (x y : ℕ) → e ≡ Take x y → (r : List ℕ) × ((told g b f h c).queue x y ≡ c.queue x y ++ r)
  still_grown x y is =
      let n = suc (number f b h.fate c) in
      let r = first_stays g wired c.queue e f h.fate (stamped n h.sends) ne (ff n) x y (at x y is) is in
      (r.0, ap (λ (q : ℕ → ℕ → List ℕ). q x y) (told_queue g b f h c (ff n).some) ∙ r.1)

  still_number : (a : Bool) (x : Fate) → number e a x (told g b f h c) ≡ number e a x c
  still_number a x = number_same e a x c (told g b f h c) there (told_there g b f h c (event_node e) ne) still_grown

  still_there : IsThere (told g b f h c).queue e
  still_there x y is none = let r = still_grown x y is in there x y is (left_none (c.queue x y) r.0 (sym r.1 ∙ none))
    where
      left_none : (q r : List ℕ) → q ++ r ≡ [] → q ≡ []
      left_none [] r z = refl
      left_none (m ∷ q) r z = cc

module _ (g : Network) (wired : IsWired g) (c : Chains) (e f : Event) (a b : Bool) (d h : Delta) (ne : event_node e ≢ event_node f)
    (fe : (n : ℕ) → IsFit g c.queue e (stamped n d.sends)) (ff : (n : ℕ) → IsFit g c.queue f (stamped n h.sends))
    (clear_e : (n : ℕ) → StaysClear g e d.fate f (stamped n h.sends)) (clear_f : (n : ℕ) → StaysClear g f h.fate e (stamped n d.sends)) where
  ne' : event_node f ≢ event_node e
  ne' z = ne (sym z)

  first_e : (told g b f h (told g a e d c)).node (event_node e) ≡ (told g a e d (told g b f h c)).node (event_node e)
  first_e =
      told_there g b f h (told g a e d c) (event_node e) ne ∙ told_here g a e d c
      ∙ sym (told_here g a e d (told g b f h c) ∙ still_number g wired c e f b h ne (fe 0).at (fe 0).some ff a d.fate)

  first_f : (told g b f h (told g a e d c)).node (event_node f) ≡ (told g a e d (told g b f h c)).node (event_node f)
  first_f =
      told_here g b f h (told g a e d c) ∙ still_number g wired c f e a d ne' (ff 0).at (ff 0).some fe b h.fate
      ∙ sym (told_there g a e d (told g b f h c) (event_node f) ne' ∙ told_here g b f h c)

  told_nodes : (v : ℕ) → (told g b f h (told g a e d c)).node v ≡ (told g a e d (told g b f h c)).node v
  told_nodes v = ⊎_elim (λ (is : v ≡ event_node e). rw is first_e)
      (λ away. ⊎_elim (λ (is : v ≡ event_node f). rw is first_f)
      (λ off. told_there g b f h (told g a e d c) v off ∙ told_there g a e d c v away
      ∙ sym (told_there g a e d (told g b f h c) v away ∙ told_there g b f h c v off))
      (cases_eq v (event_node f))) (cases_eq v (event_node e))

  told_queues : (x y : ℕ) → (told g b f h (told g a e d c)).queue x y ≡ (told g a e d (told g b f h c)).queue x y
  told_queues x y =
      let n = suc (number e a d.fate c) in
      let m = suc (number f b h.fate c) in
      let left : (told g b f h (told g a e d c)).queue ≡ acts g f h.fate (stamped m h.sends) (acts g e d.fate (stamped n d.sends) c.queue) =
      told_queue g b f h (told g a e d c) (still_there g wired c f e a d ne' (ff 0).at (ff 0).some fe)
      ∙ ap₂ (λ (k : ℕ) (q : ℕ → ℕ → List ℕ). acts g f h.fate (stamped (suc k) h.sends) q)
      (still_number g wired c f e a d ne' (ff 0).at (ff 0).some fe b h.fate) (told_queue g a e d c (fe 0).some) in
      let right : (told g a e d (told g b f h c)).queue ≡ acts g e d.fate (stamped n d.sends) (acts g f h.fate (stamped m h.sends) c.queue) =
      told_queue g a e d (told g b f h c) (still_there g wired c e f b h ne (fe 0).at (fe 0).some ff)
      ∙ ap₂ (λ (k : ℕ) (q : ℕ → ℕ → List ℕ). acts g e d.fate (stamped (suc k) d.sends) q)
      (still_number g wired c e f b h ne (fe 0).at (fe 0).some ff a d.fate) (told_queue g b f h c (ff 0).some) in
      ap (λ (q : ℕ → ℕ → List ℕ). q x y) left
      ∙ acts_swap g wired c.queue e f d.fate h.fate (stamped n d.sends) (stamped m h.sends) ne (fe n) (ff m) (clear_e m) (clear_f n) x y
      ∙ ap (λ (q : ℕ → ℕ → List ℕ). q x y) (sym right)

  -- one number at each node and each message
  told_swap : told g b f h (told g a e d c) ≡ told g a e d (told g b f h c)
  told_swap = λ i. record { node = fun_ext told_nodes i; queue = fun_ext (λ x. fun_ext (λ y. told_queues x y)) i }

-- Runs.

-- what comes in is what arrives
comes_is : (g : Network) (v : ℕ) (ss : Outgoing) (a b : ℕ) → comes g v ss a b ≡ arriving g v ss a b
comes_is g v ss a b = ap (λ (l : List Message). cond (far g a b == v) l []) (same ss (far_port g a b))
  where
    same : (rs : Outgoing) (p : ℕ) → on_port rs p ≡ sent_on rs p
    same [] p = refl
    same (s ∷ rs) p = ap (λ (l : List Message). cond (s.0 == p) (s.1 ∷ l) l) (same rs p)

clear_of : (g : Network) (w : Net) (e f : Event) (d h : Delta) → answer w e ≡ Some d → answer w f ≡ Some h →
    ((v p : ℕ) → PutsBackAt w e v p → SendsTo g w f v p → ⊥) → StaysClear g e d.fate f h.sends
clear_of g w e f d h ae af none a b is back =
    comes_is g (event_node f) h.sends a b
    ∙ empty (λ some. none a b (record { takes = is; delta = d; answer = ae; back = back }) (record { delta = h; answer = af; some = some }))
    (arriving g (event_node f) h.sends a b) refl
  where
    empty : (arriving g (event_node f) h.sends a b ≢ [] → ⊥) → (l : List Message) → arriving g (event_node f) h.sends a b ≡ l →
        arriving g (event_node f) h.sends a b ≡ []
    empty none_sent [] k = k
    empty none_sent (m ∷ l) k = absurd (none_sent (λ z. let y = sym k ∙ z in cc))

-- two events, and then others
run_two : (g : Network) (w x y : Net) (e f : Event) (rest : List Event) → happens g w e ≡ Some x → happens g x f ≡ Some y →
    run g (e ∷ f ∷ rest) w ≡ run g rest y
run_two g w x y e f rest he hf =
    ap (λ (o : Option Net). and_then o (λ z. run g (f ∷ rest) z)) he ∙ ap (λ (o : Option Net). and_then o (λ z. run g rest z)) hf

chains_two : (g : Network) (w x y : Net) (e f : Event) (rest : List Event) (c : Chains) → happens g w e ≡ Some x → happens g x f ≡ Some y →
    chains_after g (e ∷ f ∷ rest) w c ≡ chains_after g rest y (chains_then g x f (chains_then g w e c))
chains_two g w x y e f rest c he hf =
    ap (λ (o : Option Net). if_then o (λ z. chains_after g (f ∷ rest) z (chains_then g w e c)) c) he
    ∙ ap (λ (o : Option Net). if_then o (λ z. chains_after g rest z (chains_then g x f (chains_then g w e c))) (chains_then g w e c)) hf

-- chains go on from where a run has led
chains_join : (g : Network) (es l : List Event) (w x : Net) (c : Chains) → run g es w ≡ Some x →
    chains_after g (es ++ l) w c ≡ chains_after g l x (chains_after g es w c)
chains_join g [] l w x c h = ap (λ (z : Net). chains_after g l z c) (same_Some w x h)
chains_join g (e ∷ es) l w x c h = go (λ y k. chains_join g es l y x (chains_then g w e c) k) (happens g w e) h
  where
    go :
        ((y : Net) → run g es y ≡ Some x →
        chains_after g (es ++ l) y (chains_then g w e c) ≡ chains_after g l x (chains_after g es y (chains_then g w e c))) →
        (o : Option Net) → and_then o (λ y. run g es y) ≡ Some x →
        if_then o (λ y. chains_after g (es ++ l) y (chains_then g w e c)) c ≡
        chains_after g l x (if_then o (λ y. chains_after g es y (chains_then g w e c)) c)
    go rest None k = cc
    go rest (Some y) k = rest y k

-- an event's part in the chains, by what its node does
then_told : (g : Network) (w : Net) (e : Event) (d : Delta) (c : Chains) → answer w e ≡ Some d →
    chains_then g w e c ≡ told g (is_sleeping (w.node (event_node e)).head.phase) e d c
then_told g w e d c ae = ap (λ (o : Option Delta). answered g w e o c) ae

-- the same, once another node's event has happened
then_beside : (g : Network) (w x : Net) (e : Event) (d : Delta) (c : Chains) → answer x e ≡ Some d → x.node (event_node e) ≡ w.node (event_node e) →
    chains_then g x e c ≡ told g (is_sleeping (w.node (event_node e)).head.phase) e d c
then_beside g w x e d c ae node = then_told g x e d c ae ∙ ap (λ (n : NodeState). told g (is_sleeping n.head.phase) e d c) node

-- Both orders, where one node does d and the other h.
module _ (g : Network) (wired : IsWired g) (w : Net) (c : Chains) (same : SameLengths w c) (formed : IsWellFormed g w) (e f : Event) (d h : Delta)
    (a : AreApart g w e f) (ae : answer w e ≡ Some d) (af : answer w f ≡ Some h) where
  both_e : IsFit g w.queue e d.sends
  both_e = record { at = lawful_at g w e a.one; some = lawful_there g w e a.one; on = on_ports g wired w formed e d a.one ae }

  both_f : IsFit g w.queue f h.sends
  both_f = record { at = lawful_at g w f a.other; some = lawful_there g w f a.other; on = on_ports g wired w formed f h a.other af }

  clear_e : StaysClear g e d.fate f h.sends
  clear_e = clear_of g w e f d h ae af a.neither

  clear_f : StaysClear g f h.fate e d.sends
  clear_f = clear_of g w f e h d af ae a.nor

  numbers_e : (n : ℕ) → IsFit g c.queue e (stamped n d.sends)
  numbers_e n = record { at = both_e.at; some = numbers_there w c e same both_e.some; on = stamped_on g (event_node e) n d.sends both_e.on }

  numbers_f : (n : ℕ) → IsFit g c.queue f (stamped n h.sends)
  numbers_f n = record { at = both_f.at; some = numbers_there w c f same both_f.some; on = stamped_on g (event_node f) n h.sends both_f.on }

  other : event_node f ≢ event_node e
  other z = a.nodes (sym z)

  e_first : happens g w e ≡ Some (made g e d w)
  e_first = happens_made g w e d a.one ae

  f_then : happens g (made g e d w) f ≡ Some (made g f h (made g e d w))
  f_then = happens_made g (made g e d w) f h (beside_lawful g wired w e d both_e f other a.other)
      (beside_answer g wired w e d both_e f other a.other ∙ af)

  f_first : happens g w f ≡ Some (made g f h w)
  f_first = happens_made g w f h a.other af

  e_then : happens g (made g f h w) e ≡ Some (made g e d (made g f h w))
  e_then = happens_made g (made g f h w) e d (beside_lawful g wired w f h both_f e a.nodes a.one)
      (beside_answer g wired w f h both_f e a.nodes a.one ∙ ae)

  one_net : made g f h (made g e d w) ≡ made g e d (made g f h w)
  one_net = nets_swap g wired w e f d h a.nodes a.one a.other ae af both_e both_f clear_e clear_f

  one_chain : chains_then g (made g e d w) f (chains_then g w e c) ≡ chains_then g (made g f h w) e (chains_then g w f c)
  one_chain =
      let sleeps = λ (v : ℕ). is_sleeping (w.node v).head.phase in
      then_beside g w (made g e d w) f h _ (beside_answer g wired w e d both_e f other a.other ∙ af)
      (beside_node g wired w f e d other both_e a.other)
      ∙ ap (told g (sleeps (event_node f)) f h) (then_told g w e d c ae)
      ∙ told_swap g wired c e f (sleeps (event_node e)) (sleeps (event_node f)) d h a.nodes numbers_e numbers_f
      (λ n x y is back. stamped_none g (event_node f) n h.sends x y (clear_e x y is back))
      (λ n x y is back. stamped_none g (event_node e) n d.sends x y (clear_f x y is back))
      ∙ sym (then_beside g w (made g f h w) e d _ (beside_answer g wired w f h both_f e a.nodes a.one ∙ ae)
      (beside_node g wired w e f h a.nodes both_f a.one)
      ∙ ap (told g (sleeps (event_node e)) e d) (then_told g w f h c af))

  pub two_run : (w' : Net) × (run g (e ∷ f ∷ []) w ≡ Some w')
  two_run = (made g f h (made g e d w), run_two g w _ _ e f [] e_first f_then)

  pub two_nets : (rest : List Event) → run g (e ∷ f ∷ rest) w ≡ run g (f ∷ e ∷ rest) w
  two_nets rest = run_two g w _ _ e f rest e_first f_then ∙ ap (λ (z : Net). run g rest z) one_net ∙ sym (run_two g w _ _ f e rest f_first e_then)

  pub two_chains : (rest : List Event) → chains_after g (e ∷ f ∷ rest) w c ≡ chains_after g (f ∷ e ∷ rest) w c
  two_chains rest =
      chains_two g w _ _ e f rest c e_first f_then ∙ ap₂ (chains_after g rest) one_net one_chain ∙ sym (chains_two g w _ _ f e rest c f_first e_then)

alike_by : (g : Network) (es fs : List Event) → run g es (opening g) ≡ run g fs (opening g) → chains_of g es ≡ chains_of g fs → AreAlike g es fs
alike_by g es fs nets chains = record { net = nets; chains = chains; longest = ap (λ (c : Chains). most_below (suc g.count) c.node) chains }

pub swaps_are_alike : SwapsAreAlike
unfolding chains_of
swaps_are_alike g es w e f graph led apart =
    let net = network_of g in
    let wired = graph_wired g graph in
    let formed : IsWellFormed net w = after_formed net wired (graph_few g graph) es w led in
    let c : Chains = chains_after net es (opening net) no_chains in
    let same : SameLengths w c = same_lengths net es w led in
    let is : IsNetOf g w = record { graph = graph; events = es; run = led } in
    let rule = λ (x : Event) (l : is_lawful net w x ≡ true). ruled net w x l (events_have_rules g w is x l) in
    let d = rule e apart.one in
    let h = rule f apart.other in
    let two = two_run net wired w c same formed e f d.0 h.0 apart d.1 h.1 in (
      (two.0, run_joins net es (e ∷ f ∷ []) (opening net) w led ∙ two.1),
      λ rest. alike_by net (es ++ e ∷ f ∷ rest) (es ++ f ∷ e ∷ rest)
          (run_joins net es (e ∷ f ∷ rest) (opening net) w led ∙ two_nets net wired w c same formed e f d.0 h.0 apart d.1 h.1 rest
          ∙ sym (run_joins net es (f ∷ e ∷ rest) (opening net) w led))
          (chains_join net es (e ∷ f ∷ rest) (opening net) w no_chains led ∙ two_chains net wired w c same formed e f d.0 h.0 apart d.1 h.1 rest
          ∙ sym (chains_join net es (f ∷ e ∷ rest) (opening net) w no_chains led)),
    )

pub orders_are_alike : OrdersAreAlike
orders_are_alike g _ _ graph (No_swap es) = record { net = refl; chains = refl; longest = refl }
orders_are_alike g _ _ graph (Swap_more es w e f rest fs led apart more) =
    let one = (swaps_are_alike g es w e f graph led apart).1 rest in
    let others = orders_are_alike g (es ++ f ∷ e ∷ rest) fs graph more in
    record { net = one.net ∙ others.net; chains = one.chains ∙ others.chains; longest = one.longest ∙ others.longest }
