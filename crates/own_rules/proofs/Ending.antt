-- Where each node of a run pays for what it defers too, the run comes to an end.
use Rattle.std.proofs.Common.{◌≡◌, ℕ, zero, suc, ◌+◌, ◌*◌, ◌≤◌, true, cond, List, length, Some, refl, sym, ◌∙◌, ap, subst, ⊎_elim, arith}
use Rattle.std.proofs.lemmas.Bool.{cases_eq}
use Rattle.std.proofs.lemmas.Option.{same_Some}
use Rattle.own_book.specs.Asking.{open_text}
use Rattle.own_book.specs.Entry.{Entry, told_in}
use Rattle.peer_network.specs.declared.event.Event.{Event}
use Rattle.peer_network.specs.Network.{Network, network_of}
use Rattle.peer_network.specs.Sums.{sum_below}
use Rattle.peer_network.proofs.lemmas.Graphs.{graph_wired}
use Rattle.peer_network.proofs.lemmas.Sums.{sum_none, sum_one}
use Rattle.peer_network.proofs.lemmas.Updates.{put_same, put_other}
use Rattle.peer_machine.specs.declared.work.Work.{Work}
use Rattle.peer_machine.specs.declared.work.Work.TheVariants.{Wake, Deliver}
use Rattle.peer_machine.specs.Ledger.{in_all}
use Rattle.peer_machine.specs.Net.{Net, opening, put, reacted, take_first}
use Rattle.peer_machine.specs.Rules.{Outcome, Rules}
use Rattle.peer_machine.specs.Run.{IsAfter}
use Rattle.peer_machine.specs.Steps.{Happens, Woke, Took}
use Rattle.peer_machine.proofs.lemmas.Balance.{after_balanced, balanced_in_all}
use Rattle.peer_machine.proofs.lemmas.Counts.{after_counts, sent_in_all, take_defers}
use Rattle.peer_machine.proofs.lemmas.Ends.{wakes_few}
use Rattle.peer_machine.proofs.lemmas.Runs.{run_keeps}
use Rattle.peer_machine.proofs.lemmas.Sends.{deferred_now, node_here, node_there, nodes_put}
use Rattle.own_rules.specs.Laws.{RunsAreShort}
use Rattle.own_rules.specs.Proved.{budget, counts, next_counts, next_defers, opened_counts, told_awake, told_kinds, told_pays}
use Rattle.own_rules.specs.Rules.{rules_of}
use Rattle.own_rules.specs.declared.node.Allowance.{Allowance}
use Rattle.own_rules.specs.declared.node.Message.{Message}
use Rattle.own_rules.specs.declared.node.Node.{Node}

module _ (book : List Entry) (most : Allowance) (costs : most.deferrals ≡ true) where
  abbrev rules : Rules Node Message
  rules = rules_of book most

  module _ (g : Network) where
    -- what the nodes may still send together
    abbrev left_in : (ℕ → Node) → ℕ
    left_in node = sum_below g.count (λ i. budget (node (suc i)))

    -- the first n nodes open with no more than this
    opened : (n : ℕ) → sum_below n (λ i. budget (rules.opening (suc i) (g.ports (suc i)))) ≤ n * most.messages
    opened zero = omega arith
    opened (suc n) =
        let rest = opened n in let here = (told_pays book most).opens (suc n) (g.ports (suc n)) in omega (arith, rest, here)

    -- what every net of a run keeps
    record Kept (w : Net Node Message) : Type 0 where
      pub paid : in_all rules w.sent + w.deferred + left_in w.node ≤ g.count * most.messages
      pub count : (v : ℕ) → counts (w.node v).state ≡ true

    -- one node reacts, and pays so much
    left_then : (v : ℕ) (n : Node) (node : ℕ → Node) → 1 ≤ v → v ≤ g.count →
        left_in (put node v n) + budget (node v) ≡ left_in node + budget n
    left_then zero n node lo hi = absurd (omega (arith, lo))
    left_then (suc j) n node lo hi =
        let one =
        sum_one g.count j (λ i. budget (node (suc i))) (λ i. budget (put node (suc j) n (suc i))) (omega (arith, hi))
        (λ i ne. ap budget (sym (put_other node (suc j) (suc i) n (λ z. ne (omega (arith, z)))))) in
        let here = ap budget (put_same node (suc j) n) in
        omega (arith, one, here)

    -- a node reacts to some work in a net where it stands as in w, and which owes what it defers
    reacted_keeps : (v : ℕ) (k : Work Message) (o : Outcome Node Message) (w x : Net Node Message) → Kept w → x.node ≡ w.node → 1 ≤ v → v ≤ g.count →
        rules.reaction (w.node v) k ≡ Some o →
        in_all rules x.sent + x.deferred + left_in w.node ≤ g.count * most.messages + cond (rules.defers (w.node v) k) 1 0 →
        Kept (reacted rules g v o x)
    reacted_keeps v k o w x i same lo hi e owes =
        let n = w.node v in
        let is = same_Some _ _ e in
        let pays = subst (λ (y : Outcome Node Message). length y.sends + cond (rules.defers n k) 1 0 + budget y.state ≤ budget n) is
        (next_defers book most n.number n.ports k n.state (i.count v)) in
        let left = left_then v o.state w.node lo hi in
        let now = ap left_in (nodes_put rules g v o x) ∙ ap (λ (f : ℕ → Node). left_in (put f v o.state)) same in
        let all = sent_in_all rules g (told_kinds book most) v o x in
        let later = deferred_now rules g v o x in
        record {
          paid = omega (arith, left, now, all, later, pays, owes);
          count = λ u. ⊎_elim
              (λ here. ap (λ y. counts ((reacted rules g v o x).node y).state) here ∙ ap (λ (m : Node). counts m.state) (node_here rules g v o x)
              ∙ ap (λ (y : Outcome Node Message). counts y.state.state) (sym is) ∙ next_counts book most n.number n.ports k n.state (i.count v))
              (λ other. ap (λ (m : Node). counts m.state) (node_there rules g v o x u other)
              ∙ ap (λ (f : ℕ → Node). counts (f u).state) same ∙ i.count u)
              (cases_eq u v);
        }

    event_keeps : (w w' : Net Node Message) (e : Event) → Kept w → Happens rules g w e w' → Kept w'
    event_keeps w _ _ i (Woke v o lo hi s e t) = reacted_keeps v Wake o w w i refl lo hi e (let paid = i.paid in omega (arith, paid))
    event_keeps w _ _ i (Took v p m ms o at q e t) =
        let later = take_defers rules g v p m ms w in
        let paid = i.paid in
        reacted_keeps v (Deliver p m) o w (take_first rules g v p m ms w) i refl at.some at.node e (omega (arith, later, paid))

    kept : (es : List Event) (w : Net Node Message) → IsAfter rules g es w → Kept w
    kept es w h =
        run_keeps rules g Kept event_keeps es (opening rules g) w
        (let none = sum_none rules.kinds (λ k. 0) (λ k lt. refl) in
        let all = opened g.count in
        record { paid = omega (arith, none, all); count = λ v. opened_counts book most costs (told_in book (open_text v (g.ports v))) }) h

  pub runs_are_short : RunsAreShort book most
  runs_are_short g ok es is =
      let k = (kept (network_of g) es is.0 is.1).paid in
      let taken = after_counts rules (network_of g) (told_kinds book most) es is.0 is.1 in
      let balanced = balanced_in_all rules (told_kinds book most) (network_of g) is.0
      (after_balanced rules (network_of g) (graph_wired g ok) es is.0 is.1) in
      let wakes = wakes_few rules (told_awake book most) g ok es is.0 is.1 in
      omega (arith, k, taken, balanced, wakes)
