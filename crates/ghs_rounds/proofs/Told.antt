-- What is told of every run by rounds.
use Rattle.std.proofs.Common.{◌≡◌, ◌≢◌, ℕ, zero, suc, ◌<◌, ◌≤◌, Bool, true, Some, None, Option, List, [], ◌∷◌, ◌++◌, length, refl, ◌∙◌, ap, subst, ⊎_elim, inl, inr, ◌⊎◌, arith}
use Rattle.std.specs.Prelude.{IsSome}
use Rattle.std.specs.List.{Contains}
use Rattle.std.proofs.lemmas.Bool.{cases_eq}
use Rattle.std.proofs.lemmas.List.Elements.{All-nil}
use Rattle.ghs_graph.specs.Graph.{Shape, IsGraph}
use Rattle.ghs_graph.proofs.lemmas.Members.{filter_has, nothing_in}
use Rattle.ghs_node.specs.declared.delta.Delta.{Delta}
use Rattle.ghs_node.specs.declared.message.Message.{Message}
use Rattle.ghs_node.specs.NodeState.{NodeState}
use Rattle.ghs_node.specs.Reaction.{reaction}
use Rattle.ghs_node.specs.Words.{is_sleeping}
use Rattle.peer_network.specs.declared.event.Event.{Event}
use Rattle.peer_network.specs.declared.event.Event.TheVariants.{Wake, Take}
use Rattle.ghs_protocol.specs.Interleavings.{EventsHaveRules}
use Rattle.ghs_protocol.specs.Laws.{IsNetOf}
use Rattle.ghs_protocol.specs.Marks.{HasEnded}
use Rattle.ghs_protocol.specs.Net.{Net, effect, happens, is_lawful, opening}
use Rattle.peer_network.specs.Events.{event_node}
use Rattle.peer_network.specs.Network.{Network, network_of}
use Rattle.ghs_protocol.specs.Run.{IsAfter, IsRun, net_after}
use Rattle.ghs_protocol.specs.Schedules.{PatienceLasts}
use Rattle.peer_network.specs.Wakes.{AllMayWake}
use Rattle.ghs_protocol.specs.Steps.{Happens, Woke, Took}
use Rattle.ghs_protocol.proofs.lemmas.Events.{happening, lawful_happens}
use Rattle.peer_network.proofs.lemmas.Events.{is_port_of}
use Rattle.ghs_protocol.proofs.lemmas.Runs.{after_is_net, after_more, lawful_under, net_after_is}
use Rattle.ghs_core.specs.NetState.{delivery, work_at}
use Rattle.peer_index.specs.Places.{HasPlace, all_events}
use Rattle.peer_index.proofs.lemmas.Listed.{listed}
use Rattle.peer_chains.specs.Chains.{Chains, hears, most_below, no_chains}
use Rattle.ghs_following.specs.Chains.{answered, chains_after, chains_of, is_deferred, longest_chain, reacted}
use Rattle.peer_chains.proofs.lemmas.Bounding.{most_within}
use Rattle.ghs_following.proofs.lemmas.Following.{chains_more}
use Rattle.ghs_patient.specs.Patience.{or_else}
use Rattle.ghs_patient.proofs.lemmas.Picks.{some_patient}
use Rattle.ghs_rounds.specs.Rounds.{events_in, hides_due, moves_due}
use Rattle.ghs_following.proofs.lemmas.Lengths.{SameLengths, same_lengths}
use Rattle.ghs_rounds.proofs.AnyOrder.{Begun, ByNumbers, Over, Went}
use Rattle.ghs_rounds.proofs.Picked.{lawful_pick, of_round}
use Rattle.ghs_rounds.proofs.Settling.{some_now}
use Rattle.ghs_rounds.proofs.Steps.{IsTimed, Promised, Turns, back_turns, moves_give, timed_moves, timed_next}
use Rattle.ghs_rounds.proofs.Timing.{sent_node}

-- The greatest of some numbers.
least_most : (n : ℕ) (f : ℕ → ℕ) (v : ℕ) → v < n → f v ≤ most_below n f
least_most zero f v lt = absurd (omega (arith, lt))
least_most (suc n) f v lt = ⊎_elim
    (λ (e : v ≡ n). let a : f v ≡ f n = ap f e in omega (arith, a))
    (λ (ne : v ≢ n). let a = least_most n f v (omega (arith, lt, ne)) in omega (arith, a))
    (cases_eq v n)

most_grows : (n : ℕ) (f h : ℕ → ℕ) → ((v : ℕ) → f v ≤ h v) → most_below n f ≤ most_below n h
most_grows zero f h le = omega arith
most_grows (suc n) f h le = let a = most_grows n f h le in let b = le n in omega (arith, a, b)

-- An event that happens has a reaction.
pub answer_of : {g : Network} {w x : Net} {e : Event} → Happens g w e x → (d : Delta) × (reaction (w.node (event_node e)) (work_at w e) ≡ Some d)
answer_of (Woke v d lo hi s r) = (d, r)
answer_of {w = w} (Took v p m ms d at q r) = (d, ap (λ (l : List Message). reaction (w.node v) (delivery p l)) q ∙ r)

some_there : {A : Type 0} (o : Option A) → IsSome o → (x : A) × (o ≡ Some x)
some_there None h = cc
some_there (Some x) h = (x, refl)

chains_of_then : (g : Network) (es : List Event) (e : Event) (w x : Net) (d : Delta) → IsAfter g es w → happens g w e ≡ Some x →
    reaction (w.node (event_node e)) (work_at w e) ≡ Some d → chains_of g (es ++ e ∷ []) ≡ reacted g w e d (chains_of g es)
unfolding chains_of
chains_of_then g es e w x d r h a =
    chains_more g es e (opening g) w x no_chains r h ∙ ap (λ (o : Option Delta). answered g w e o (chains_after g es (opening g) no_chains)) a

pub chains_begin : (g : Network) → chains_of g [] ≡ no_chains
unfolding chains_of
chains_begin g = refl

pub some_of : (es fs : List Event) (e : Event) → Contains es e → 0 < length (or_else es fs)
some_of [] fs e h = absurd (nothing_in e h)
some_of (x ∷ es) fs e h = omega arith

pub record IsTold (may : ℕ → Bool) (g : Shape) (es : List Event) (r : ℕ) : Type 0 where
  pub is_run : IsRun (network_of g) es
  pub timed : IsTimed may (network_of g) (net_after g es) (chains_of (network_of g) es) r
  pub reached : HasEnded g (net_after g es) → r ≤ longest_chain (network_of g) es
  pub behind : AllMayWake may g →
      (r ≤ longest_chain (network_of g) es) ⊎ ((r ≤ suc (longest_chain (network_of g) es)) × (0 < length (events_in may g es r)))

module _ (law : Promised) (rules : EventsHaveRules) (lasts : PatienceLasts) (may : ℕ → Bool) (g : Shape) (ok : IsGraph g) where
  module _ (es : List Event) (r : ℕ) (told : IsTold may g es r) (going : HasEnded g (net_after g es) → ⊥) where
    abbrev pub w : Net
    w = net_after g es

    abbrev pub c : Chains
    c = chains_of (network_of g) es

    pub after : IsAfter (network_of g) es w
    after = after_is_net g es told.is_run

    pub is_net : IsNetOf g w
    is_net = record { graph = ok; events = es; run = after }

    pub same : SameLengths w c
    same = same_lengths (network_of g) es w after

    -- an event of the round
    module _ (e : Event) (there : HasPlace (network_of g) e) (lawful : is_lawful (network_of g) w e ≡ true) where
      pub effects : (x : Net) × (effect (network_of g) w e ≡ Some x)
      effects = some_there (effect (network_of g) w e) (rules g w is_net e lawful)

      abbrev pub x : Net
      x = effects.0

      happened : happens (network_of g) w e ≡ Some x
      happened = lawful_happens (network_of g) w e lawful ∙ effects.1

      pub so : Happens (network_of g) w e x
      so = happening (network_of g) w x e happened

      abbrev pub d : Delta
      d = (answer_of so).0

      pub answer : reaction (w.node (event_node e)) (work_at w e) ≡ Some d
      answer = (answer_of so).1

      abbrev pub more : List Event
      more = es ++ e ∷ []

      run_more : IsAfter (network_of g) more x
      run_more = after_more (network_of g) es e w x after so

      pub net_is : net_after g more ≡ x
      net_is = net_after_is g more x run_more

      pub chains_are : chains_of (network_of g) more ≡ reacted (network_of g) w e d c
      chains_are = chains_of_then (network_of g) es e w x d after happened answer

      same_after : SameLengths x (reacted (network_of g) w e d c)
      same_after = subst (λ (y : Chains). SameLengths x y) chains_are (same_lengths (network_of g) more x run_more)

      timed_more : IsTimed may (network_of g) x (reacted (network_of g) w e d c) r →
          IsTimed may (network_of g) (net_after g more) (chains_of (network_of g) more) r
      timed_more t = rw (net_is, chains_are) t

      own : event_node e < suc (network_of g).count
      own = node_below e there
        where
          node_below : (e : Event) → HasPlace (network_of g) e → event_node e < suc (network_of g).count
          node_below (Wake v) h = let hi = h.1 in omega (arith, hi)
          node_below (Take v p) h = let hi = h.node in omega (arith, hi)

      -- that moves the run on
      module _ (moves : moves_due may (network_of g) w c r e ≡ true) where
        number : (chains_of (network_of g) more).node (event_node e) ≡ r
        number =
            ap (λ (y : Chains). y.node (event_node e)) chains_are
            ∙ sent_node (network_of g) (event_node e) d.sends
            (hears e (is_sleeping (w.node (event_node e)).head.phase) (is_deferred d.fate) c) (event_node e)
            ∙ moves_give law may g w is_net c r told.timed e d answer moves

        longest : r ≤ longest_chain (network_of g) more
        longest =
            let a = least_most (suc (network_of g).count) (chains_of (network_of g) more).node (event_node e) own in
            let b = number in
            omega (arith, a, b)

        pub told_moves : IsTold may g more r
        told_moves = record {
          is_run = (x, run_more);
          timed = timed_more (timed_moves law may g w is_net c r told.timed e d x so same same_after answer moves);
          reached = λ ended. longest;
          behind = λ all. inl longest;
        }

    pub told_back : (e : Event) (there : HasPlace (network_of g) e) (lawful : is_lawful (network_of g) w e ≡ true) → hides_due w c r e ≡ true →
        IsTold may g (es ++ e ∷ []) r
    told_back (Wake v) there lawful hides = cc
    told_back (Take v p) there lawful hides =
        let e = Take v p in
        let t : Turns law may g w is_net c r told.timed v p (d e there lawful) (x e there lawful) =
        back_turns law may g w is_net c r told.timed v p there same (d e there lawful) (x e there lawful) (answer e there lawful)
        (so e there lawful) hides in
        record {
          is_run = (x e there lawful, run_more e there lawful);
          timed = timed_more e there lawful t.keeps;
          reached = λ ended. absurd (going (not_ended (x e there lawful) t.node (subst (λ (y : Net). HasEnded g y) (net_is e there lawful) ended)));
          behind = λ all. inr (
            longer e there lawful t.number (told.behind all),
            rw (net_is e there lawful, chains_are e there lawful)
                (some_of _ _ e (filter_has (moves_due may (network_of g) (x e there lawful) (reacted (network_of g) w e (d e there lawful) c) r)
                (all_events (network_of g)) e (listed (network_of g) e (is_port_of (network_of g) v p there)) t.next)),
          );
        }
      where
        not_ended : (y : Net) → ((a : ℕ) → y.node a ≡ w.node a) → HasEnded g y → HasEnded g w
        not_ended y still ended v lo hi =
            let z = ended v lo hi in
            (z.0, z.1, z.2, z.3, subst (λ (n : NodeState). n.head.halted ≡ true) (still z.0) z.4)

        longer : (e : Event) (there : HasPlace (network_of g) e) (lawful : is_lawful (network_of g) w e ≡ true) →
            ((a : ℕ) → (reacted (network_of g) w e (d e there lawful) c).node a ≡ c.node a) →
            (r ≤ longest_chain (network_of g) es) ⊎ ((r ≤ suc (longest_chain (network_of g) es)) × (0 < length (events_in may g es r))) →
            r ≤ suc (longest_chain (network_of g) (es ++ e ∷ []))
        longer e there lawful still before =
            let grows : longest_chain (network_of g) es ≤ longest_chain (network_of g) (es ++ e ∷ []) =
            most_grows (suc (network_of g).count) c.node (chains_of (network_of g) (es ++ e ∷ [])).node
            (λ a. let k = ap (λ (y : Chains). y.node a) (chains_are e there lawful) ∙ still a in omega (arith, k)) in
            ⊎_elim (λ le. omega (arith, le, grows)) (λ z. let le = z.0 in omega (arith, le, grows)) before

    -- who puts a message back sends nothing
    pub back_sends : (e : Event) (there : HasPlace (network_of g) e) (lawful : is_lawful (network_of g) w e ≡ true) → hides_due w c r e ≡ true →
        (d e there lawful).sends ≡ []
    back_sends (Wake v) there lawful hides = cc
    back_sends (Take v p) there lawful hides =
        let e = Take v p in
        let t : Turns law may g w is_net c r told.timed v p (d e there lawful) (x e there lawful) =
        back_turns law may g w is_net c r told.timed v p there same (d e there lawful) (x e there lawful) (answer e there lawful)
        (so e there lawful) hides in
        t.sends

    -- a round that is over
    pub told_over : events_in may g es r ≡ [] → IsTold may g es (suc r)
    told_over over = record {
      is_run = told.is_run;
      timed = timed_next law may g w is_net c r told.timed same over;
      reached = λ ended. absurd (going ended);
      behind = λ all. inr (
        ⊎_elim (λ le. omega (arith, le)) (λ z. absurd (let some = z.1 in let none = ap length over in omega (arith, some, none))) (told.behind all),
        some_now (network_of g) may w c (suc r) same told.timed.within.queue (some_patient g may w lasts is_net all going),
      );
    }

  told_begun : IsTold may g [] 0
  told_begun = record {
    is_run = (opening (network_of g), refl);
    timed = rw (chains_begin (network_of g)) (record {
      within = record { node = λ v. omega arith; queue = λ v p. All-nil (λ t. t ≤ 1) };
      woken = λ some. absurd (omega (arith, some));
      late = λ v p at. inl refl;
    });
    reached = λ ended. omega arith;
    behind = λ all. inl (omega arith);
  }

  pub told : (es : List Event) (r : ℕ) → ByNumbers may g es r → IsTold may g es r
  told _ _ Begun = told_begun
  told _ _ (Went es r e before going one) =
      let so_far = told es r before in
      let w = net_after g es in
      let c = chains_of (network_of g) es in
      let z = of_round may (network_of g) w c r e one in
      let lawful : is_lawful (network_of g) w e ≡ true = ((lawful_under may (network_of g) w e).0 (lawful_pick may (network_of g) w c r e z)).1 in
      ⊎_elim (λ moves. told_moves es r so_far going e z.0 lawful moves) (λ hides. told_back es r so_far going e z.0 lawful hides) z.1
  told _ _ (Over es r before going over) = told_over es r (told es r before) going over

  pub rounds_are_chains : (es : List Event) (r : ℕ) → ByNumbers may g es r → HasEnded g (net_after g es) → longest_chain (network_of g) es ≡ r
  rounds_are_chains es r by ended =
      let t = told es r by in
      let least = t.reached ended in
      let most = most_within (suc (network_of g).count) r (chains_of (network_of g) es).node t.timed.within.node in
      omega (arith, least, most)

  pub rounds_are_near : (es : List Event) (r : ℕ) → ByNumbers may g es r → AllMayWake may g → r ≤ suc (longest_chain (network_of g) es)
  rounds_are_near es r by all = ⊎_elim (λ le. omega (arith, le)) (λ z. z.0) ((told es r by).behind all)
