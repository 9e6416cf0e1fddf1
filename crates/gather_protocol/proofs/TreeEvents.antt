-- Every net of a run keeps the tree that is told.
use Rattle.std.proofs.Common.{◌≡◌, ◌≢◌, ℕ, zero, suc, ◌+◌, ◌<◌, ◌≤◌, ◌==◌, inl, inr, Bool, true, false, Option, Some, None, List, [], ◌∷◌, ◌++◌, length, get_or, set, cond, refl, sym, ◌∙◌, ap, subst, ⊎_elim, arith, append-nil, eq-eqb, length-append}
use Rattle.std.specs.Prelude.{filter, is_none, replicate}
use Rattle.std.specs.List.{All}
use Rattle.std.proofs.lemmas.Bool.{both_ways, true≢false}
use Rattle.std.proofs.lemmas.List.{nil_from_length}
use Rattle.std.proofs.lemmas.Option.{same_Some}
use Rattle.ghs_graph.specs.declared.key.Key.{Key}
use Rattle.peer_network.specs.declared.event.Event.{Event}
use Rattle.peer_network.specs.Network.{Network, InNetwork, At, far, far_port}
use Rattle.peer_network.proofs.lemmas.Sums.{sum_none}
use Rattle.peer_network.proofs.lemmas.Updates.{put_at_hit, put_at_miss, put_at_same, one_place}
use Rattle.peer_network.proofs.lemmas.Wired.{IsWired}
use Rattle.peer_machine.specs.Rules.{Outcome, Outgoing}
use Rattle.peer_network.specs.Events.{MayWake}
use Rattle.peer_machine.specs.Net.{Net, happens, opening, are_on_ports, reacted, take_first}
use Rattle.peer_machine.specs.Steps.{Happens, Woke, Took}
use Rattle.peer_machine.specs.Run.{IsAfter, run}
use Rattle.peer_machine.proofs.lemmas.Counts.{take_counts}
use Rattle.peer_machine.proofs.lemmas.Events.{happening}
use Rattle.peer_machine.proofs.lemmas.Runs.{both_some}
use Rattle.gather_node.specs.declared.message.Message.{Message}
use Rattle.gather_node.specs.declared.message.Message.TheVariants.{Explore, Back, Tree}
use Rattle.gather_node.specs.Forest.{forest}
use Rattle.gather_node.specs.Gather.{gather}
use Rattle.gather_node.specs.Reaction.{closed, due, explores, hears, in_wave, joins_wave, outcome, told}
use Rattle.gather_node.specs.State.{State, degree, is_that, known, links_to, marks}
use Rattle.gather_protocol.proofs.Accounts.{Account, on_port, taken, with_heard}
use Rattle.gather_protocol.proofs.Cases.{degree_is}
use Rattle.gather_protocol.proofs.Done.{Done, all_done, done_awaits, done_wave, next_joined}
use Rattle.gather_protocol.proofs.Events.{awaits_some, called, event_waves, opening_waves, that_is}
use Rattle.gather_protocol.proofs.Heard.{SentAs, WasAsked, WasBack, sent_as, sent_few, some_long}
use Rattle.gather_protocol.proofs.Sends.{SameStand, asked_no_tree, closed_stand, closed_trees, explored_on, is_of, is_tree, leads, sent_on, told_on, tree_of, tree_of_all}
use Rattle.gather_protocol.proofs.Trees.{HasLeader, Leads, Trees, told_once, told_over, tree_turned}
use Rattle.gather_protocol.proofs.Turns.{Turn, by_turn, told_as, woke_as}
use Rattle.gather_protocol.proofs.Waves.{AtNode, Waves, knows, list_in, sent_of}

-- Closings.

closed_halted : (n : State) (x a : ℕ) (parent : Option ℕ) (ss : Outgoing Message) →
    (closed n x a parent ss).state.head.halted ≡ cond (leads a parent) true n.head.halted
closed_halted n x (suc k) parent ss = refl
closed_halted n x zero (Some q) ss = refl
closed_halted n x zero None ss = refl

closed_marks : (n : State) (x a : ℕ) (parent : Option ℕ) (ss : Outgoing Message) →
    (closed n x a parent ss).state.branches ≡ cond (leads a parent) (marks (forest (known n)) n.keys) n.branches
closed_marks n x (suc k) parent ss = refl
closed_marks n x zero (Some q) ss = refl
closed_marks n x zero None ss = refl

cond_same : (b : Bool) → cond b true false ≡ b
cond_same true = refl
cond_same false = refl

leads_parts : (a : ℕ) (parent : Option ℕ) → leads a parent ≡ true → (a ≡ 0) × (parent ≡ None)
leads_parts zero None h = (refl, refl)
leads_parts zero (Some q) h = absurd (true≢false (sym h))
leads_parts (suc k) parent h = absurd (true≢false (sym h))

not_told : (b : Bool) (parent : Option ℕ) → (b ≡ true → parent ≡ None) → ◌≡◌ {A = ℕ} (cond b (cond (is_none parent) 0 1) 0) 0
not_told false parent h = refl
not_told true parent h = ap (λ (o : Option ℕ). cond (is_none o) 0 1) (h refl)

-- what was told is one message, to a child
told_few : (b : Bool) (tree : List Key) (x : Option (List Key)) → length (cond b (tree_of tree x) []) ≤ 1
told_few false tree x = omega arith
told_few true tree None = omega arith
told_few true tree (Some ks) = omega arith

told_as_one : (b : Bool) (tree : List Key) (x : Option (List Key)) → cond b (tree_of tree x) [] ≢ [] →
    (b ≡ true) × ((ks : List Key) × (x ≡ Some ks))
told_as_one false tree x h = absurd (h refl)
told_as_one true tree None h = absurd (h refl)
told_as_one true tree (Some ks) h = (refl, (ks, refl))

-- a list came: it was a Back
back_heard : (j : Bool) (x : ℕ) (parent : Option ℕ) (a : ℕ) (ks : List Key) (i : ℕ) (hs rest : List Message) (links : List Key) →
    sent_on j x parent a ks i ≡ hs ++ rest → list_in hs ≡ Some links → (j ≡ true) × (is_that parent i ≡ true)
back_heard j x parent a ks i [] rest links e h = let z : ◌≡◌ {A = Option (List Key)} None (Some links) = h in cc
back_heard j x parent a ks i (b ∷ bs) rest links e h =
    let f = sent_few j x parent a ks i in
    let l = ap length e in
    let m = length-append bs rest in
    let none : bs ≡ [] = nil_from_length bs (omega (arith, f, l, m)) in
    let rest_none : rest ≡ [] = nil_from_length rest (omega (arith, f, l, m)) in
    let one : sent_on j x parent a ks i ≡ b ∷ [] =
    e ∙ ap (λ (y : List Message). (b ∷ y) ++ rest) none ∙ ap (λ (y : List Message). b ∷ y) rest_none in
    go (sent_as j x parent a ks i b one) (sym (ap (λ (y : List Message). list_in (b ∷ y)) none) ∙ h)
  where
    go : SentAs j x parent a ks i b → list_in (b ∷ []) ≡ Some links → (j ≡ true) × (is_that parent i ≡ true)
    go (WasAsked y f q) z = let c : ◌≡◌ {A = Option (List Key)} None (Some links) = sym (ap (λ (m : Message). list_in (m ∷ [])) q) ∙ z in cc
    go (WasBack y t f q) z = (y, t)

module _ (g : Network) (may : ℕ → Bool) (wired : IsWired g) (w : Net State Message) (i : Waves g may w) (t : Trees g w) where
  -- a leader that awaits nothing is done
  pub leads_done : (x : ℕ) → Leads w x → Done g may wired w i x x
  leads_done x l = let s = (i.nodes x).now x l.wave in record { in_it = s.joined; over = s.awaits ∙ l.awaits }

  pub in_wave_of : (v x : ℕ) → (w.node v).head.wave ≡ Some x → (i.past v).joined x ≡ true
  in_wave_of v x e = ((i.nodes v).now x e).joined

  -- A Tree waits at a port: it comes from the node's parent, and nobody was told twice.
  module _ (v p : ℕ) (at : At g v p) (some : filter is_tree (w.queue v p) ≢ []) where
    few : length (t.taken v p) + length (filter is_tree (w.queue v p)) ≤ 1
    few =
        let u = far g v p in
        let f = told_few (w.node u).head.halted (t.tree u) (get_or (w.node u).brought (far_port g v p) None) in
        let e = ap length (t.over v p at) in
        let l = length-append (t.taken v p) (filter is_tree (w.queue v p)) in
        omega (arith, f, e, l)

    pub one_tree_waits : length (filter is_tree (w.queue v p)) ≤ 1
    one_tree_waits = let f = few in omega (arith, f)

    pub untaken : t.taken v p ≡ []
    untaken = let f = few in let b = some_long (filter is_tree (w.queue v p)) some in nil_from_length (t.taken v p) (omega (arith, f, b))

    sent : cond (w.node (far g v p)).head.halted (tree_of (t.tree (far g v p)) (get_or (w.node (far g v p)).brought (far_port g v p) None)) [] ≢ []
    sent z =
        let e = ap length (sym z ∙ t.over v p at) in
        let l = length-append (t.taken v p) (filter is_tree (w.queue v p)) in
        let b = some_long (filter is_tree (w.queue v p)) some in
        let c : ◌≡◌ {A = ℕ} (length {A = Message} []) 0 = refl in
        absurd (omega (arith, e, l, b, c))

    pub teller : ((w.node (far g v p)).head.halted ≡ true) ×
        ((ks : List Key) × (get_or (w.node (far g v p)).brought (far_port g v p) None ≡ Some ks))
    teller =
        told_as_one (w.node (far g v p)).head.halted (t.tree (far g v p)) (get_or (w.node (far g v p)).brought (far_port g v p) None) sent

    pub led : HasLeader w (far g v p)
    led = t.leader (far g v p) teller.0

    -- the teller has heard a Back from the node
    back : ((i.past v).joined led.0 ≡ true) × (is_that ((i.past v).parent led.0) p ≡ true)
    back =
        let x = led.0 in
        let u = far g v p in
        let here = wired.there v p at in
        let c = (i.nodes u).came x (far_port g v p) here led.1 in
        let s = i.past v in
        let e : sent_of g v (i.past v) x p ≡ (i.past u).heard x (far_port g v p) ++ filter (is_of x) (w.queue u (far_port g v p)) =
        subst (λ b. sent_of g v (i.past v) x b ≡ (i.past u).heard x (far_port g v p) ++ filter (is_of x) (w.queue u (far_port g v p)))
        (wired.back_port v p at)
        (subst
        (λ b. sent_of g b (i.past b) x (far_port g u (far_port g v p)) ≡
        (i.past u).heard x (far_port g v p) ++ filter (is_of x) (w.queue u (far_port g v p))) (wired.back v p at)
        (i.over x u (far_port g v p) here)) in
        back_heard (s.joined x) x (s.parent x) (s.awaits x) (knows g v (s.brought x)) p ((i.past u).heard x (far_port g v p))
        (filter (is_of x) (w.queue u (far_port g v p))) teller.1.0 e (sym c ∙ teller.1.1)

    pub own_wave : (w.node v).head.wave ≡ Some led.0
    own_wave = done_wave g may wired w i v led.0 (leads_done led.0 led.2) back.0

    pub own_parent : (w.node v).head.parent ≡ Some p
    own_parent = sym ((i.nodes v).now led.0 own_wave).parent ∙ that_is ((i.past v).parent led.0) p back.1

    unheard_of : (b : Bool) → (w.node v).head.halted ≡ b → b ≡ false
    unheard_of true e = absurd (let z : Tree (t.tree v) ∷ [] ≡ [] = sym (t.told v p e own_parent) ∙ untaken in cc)
    unheard_of false e = refl

    pub not_halted : (w.node v).head.halted ≡ false
    not_halted = let e = unheard_of (w.node v).head.halted refl in e

  module _ (v : ℕ) (net : InNetwork g v) where
    abbrev pub n : State
    n = w.node v

    a : AtNode g v (i.past v) (w.node v)
    a = i.nodes v

    -- nothing here is done yet
    abbrev pub Active : Type 0
    Active = (x : ℕ) → Done g may wired w i x x → (i.past v).joined x ≡ true → ⊥

    unhalted : Active → (b : Bool) → (w.node v).head.halted ≡ b → b ≡ false
    unhalted act true e = let l = t.leader v e in absurd (act l.0 (leads_done l.0 l.2) (in_wave_of v l.0 l.1))
    unhalted act false e = refl

    module _ (w1 : Net State Message) (nodes : (u : ℕ) → w1.node u ≡ w.node u)
        (account : Account g w1 is_tree (λ u j. told_over (t.tree u) (w.node u) j) t.taken) (same : w1.consumed 2 ≡ w.consumed 2) where
      -- it goes on as it was
      idles : are_on_ports gather g v (outcome n []).sends ≡ true → Trees g (reacted gather g v (outcome n []) w1)
      idles on =
          tree_turned g wired w w1 t v net (outcome n []) on (t.tree v) t.taken nodes account
          (λ j at. sym (append-nil (told_over (t.tree v) (w.node v) j))) (λ x y. (x, y))
          (λ h. let l = t.leader v h in (l.0, l.1, inr l.2)) (λ h. h) (λ p h e. t.up v p h e) (λ u q at ne. inl ne) (λ u q ne. refl)
          (λ p h e. t.told v p h e) (λ x e f h. t.leads v x e f h) (omega (arith, same)) (t.led v) (t.marked v) (t.unmarked v)

      -- it joins a wave or hears an answer
      module _ (n' : State) (y k : ℕ) (par : Option ℕ) (ss : Outgoing Message) (act : Active) (halted : n'.head.halted ≡ n.head.halted)
          (wave : n'.head.wave ≡ Some y) (parent : n'.head.parent ≡ par) (awaits : n'.head.awaits ≡ k)
          (ports : degree n' ≡ length (g.ports v)) (none : (j : ℕ) → At g v j → ◌≡◌ {A = List Message} (filter is_tree (on_port j ss)) [])
          (own : par ≡ None → y ≡ v) (branches : n'.branches ≡ n.branches) where
        abbrev pub o : Outcome State Message
        o = closed n' y k par ss

        abbrev pub tree : List Key
        tree = forest (known n')

        was : (w.node v).head.halted ≡ false
        was = let e = unhalted act (w.node v).head.halted refl in e

        now : o.state.head.halted ≡ leads k par
        now = closed_halted n' y k par ss ∙ ap (cond (leads k par) true) (halted ∙ was) ∙ cond_same (leads k par)

        stand : SameStand o.state n'
        stand = closed_stand n' y k par ss

        knows_same : known o.state ≡ known n'
        knows_same =
            ap (λ (ks : List Key). ks ++ links_to (length ks) o.state.brought) stand.keys
            ∙ ap (λ (bs : List (Option (List Key))). n'.keys ++ links_to (degree n') bs) stand.brought

        parts : o.state.head.halted ≡ true → (k ≡ 0) × (par ≡ None)
        parts h = leads_parts k par (sym now ∙ h)

        no_parent : o.state.head.halted ≡ true → (p : ℕ) → o.state.head.parent ≡ Some p → ⊥
        no_parent h p e =
            let z : ◌≡◌ {A = Option ℕ} None (Some p) = sym (stand.parent ∙ parent ∙ (parts h).1) ∙ e in cc

        sends : (j : ℕ) → At g v j → told_over tree o.state j ≡ told_over (t.tree v) (w.node v) j ++ filter is_tree (on_port j o.sends)
        sends j at =
            let lt : j < degree n' = (let l = at.port in omega (arith, l, ports)) in
            ap (λ b. cond b (tree_of tree (get_or o.state.brought j None)) []) now
            ∙ ap (λ (bs : List (Option (List Key))). cond (leads k par) (tree_of tree (get_or bs j None)) []) stand.brought
            ∙ ap (λ (l : List Message). l ++ cond (leads k par) (tree_of tree (get_or n'.brought j None)) []) (sym (none j at))
            ∙ sym (closed_trees n' y ss j lt k par)
            ∙ ap (λ b. cond b (tree_of (t.tree v) (get_or (w.node v).brought j None)) [] ++ filter is_tree (on_port j o.sends)) (sym was)

        acts : are_on_ports gather g v o.sends ≡ true → Trees g (reacted gather g v o w1)
        acts on =
            tree_turned g wired w w1 t v net o on tree t.taken nodes account sends
            (λ e f. absurd (act v (leads_done v (record { wave = e; awaits = f })) (in_wave_of v v e)))
            (λ h. (y, stand.wave ∙ wave, inl (own (parts h).1, stand.awaits ∙ awaits ∙ (parts h).0)))
            (λ h. absurd (both_ways (w.node v).head.halted was h)) (λ p h e. absurd (no_parent h p e)) (λ u q at ne. inl ne) (λ u q ne. refl)
            (λ p h e. absurd (no_parent h p e))
            (λ x e f h.
            now ∙ ap (λ b. leads b par) (sym awaits ∙ sym stand.awaits ∙ h) ∙ ap (leads 0) (sym parent ∙ sym stand.parent ∙ f))
            (
            let b = not_told o.state.head.halted o.state.head.parent (λ h. stand.parent ∙ parent ∙ (parts h).1) in
            let c = not_told (w.node v).head.halted (w.node v).head.parent (λ h. absurd (both_ways (w.node v).head.halted was h)) in
            omega (arith, b, c, same)
            )
            (λ h e. ap forest (sym knows_same))
            (λ h.
            closed_marks n' y k par ss ∙ ap (λ b. cond b (marks tree n'.keys) n'.branches) (sym now ∙ h)
            ∙ ap (marks tree) (sym stand.keys))
            (λ j h.
            ap (λ (b : List Bool). get_or b j false)
            (closed_marks n' y k par ss ∙ ap (λ b. cond b (marks tree n'.keys) n'.branches) (sym now ∙ h) ∙ branches)
            ∙ t.unmarked v j was)

    -- a node wakes
    pub wakes_trees : (o : Outcome State Message) → are_on_ports gather g v o.sends ≡ true → n.head.wave ≡ None → joins_wave n n.number None ≡ o →
        Trees g (reacted gather g v o w)
    wakes_trees o on asleep is =
        subst (λ (b : Outcome State Message). Trees g (reacted gather g v b w)) is
        (acts w (λ u. refl) t.over refl (in_wave n n.number None) n.number (due (degree n) None) None (explores n.number (degree n) None)
        (λ x d j. let l = a.least x j in let z : ◌≡◌ {A = Option ℕ} None (Some l.0) = sym asleep ∙ l.1 in cc) refl refl refl refl
        (degree_is g v n a.fits)
        (λ j at.
        let d = degree_is g v n a.fits in
        let l = at.port in
        ap (filter is_tree) (explored_on n.number (degree n) j None (omega (arith, d, l))) ∙ asked_no_tree n.number None j)
        (λ e. a.fits.number) refl
        (subst (λ (b : Outcome State Message). are_on_ports gather g v b.sends ≡ true) (sym is) on))

    module _ (p : ℕ) (m : Message) (ms : List Message) (at : At g v p) (queue : w.queue v p ≡ m ∷ ms) where
      abbrev pub w1 : Net State Message
      w1 = take_first gather g v p m ms w

      abbrev pub u : ℕ
      u = far g v p

      after : Account g w1 is_tree (λ u j. told_over (t.tree u) (w.node u) j) (with_heard is_tree t.taken v p m)
      after = taken g w is_tree (λ u j. told_over (t.tree u) (w.node u) j) t.taken v p m ms queue t.over

      -- where it is no Tree
      plain_after : is_tree m ≡ false → Account g w1 is_tree (λ u j. told_over (t.tree u) (w.node u) j) t.taken
      plain_after e b q here = after b q here ∙ ap (λ (l : List Message). l ++ filter is_tree (w1.queue b q)) same
        where
          nothing : ◌≡◌ {A = List Message} (filter is_tree (m ∷ [])) []
          nothing = rw e refl

          same : with_heard is_tree t.taken v p m b q ≡ t.taken b q
          same = ⊎_elim
              (λ z.
              put_at_hit t.taken v p b q (t.taken v p ++ filter is_tree (m ∷ [])) z.0 z.1
              ∙ ap (λ (l : List Message). t.taken v p ++ l) nothing ∙ append-nil (t.taken v p)
              ∙ ap (λ x. t.taken x p) (sym z.0) ∙ ap (t.taken b) (sym z.1))
              (λ ne. put_at_miss t.taken v p b q (t.taken v p ++ filter is_tree (m ∷ [])) ne) (one_place v p b q)

      counted : (e : is_tree m ≡ false) → w1.consumed 2 ≡ w.consumed 2
      counted e = let c = take_counts gather g v p m ms w 2 in let z = none m e in omega (arith, c, z)
        where
          none : (m : Message) → is_tree m ≡ false → ◌≡◌ {A = ℕ} (cond (gather.kind_of m == 2) 1 0) 0
          none (Explore x) h = refl
          none (Back x ks) h = refl
          none (Tree ks) h = absurd (true≢false h)

      wave_no_tree : (x : ℕ) → is_of x m ≡ true → is_tree m ≡ false
      wave_no_tree x e = go m e
        where
          go : (m : Message) → is_of x m ≡ true → is_tree m ≡ false
          go (Explore y) h = refl
          go (Back y ks) h = refl
          go (Tree ks) h = absurd (true≢false (sym h))

      -- it hears an answer
      hears_trees : (x c : ℕ) (bs : List (Option (List Key))) → n.head.awaits ≡ c → n.head.wave ≡ Some x → is_of x m ≡ true →
          are_on_ports gather g v (hears (record n { brought = bs }) x c).sends ≡ true →
          Trees g (reacted gather g v (hears (record n { brought = bs }) x c) w1)
      hears_trees x zero bs e wave is on = absurd (awaits_some g may wired w i v net p m ms at queue x wave is e)
      hears_trees x (suc k) bs e wave is on =
          let plain = wave_no_tree x is in
          acts w1 (λ u. refl) (plain_after plain) (counted plain) (record n { head = record n.head { awaits = k }; brought = bs }) x k
          n.head.parent []
          (λ y d j. let z = done_awaits g may wired w i v y d j in let q : ◌≡◌ {A = ℕ} 0 (suc k) = sym z ∙ e in cc) refl wave refl refl
          (degree_is g v n a.fits) (λ j here. refl)
          (λ q. sym (i.led.first v x (in_wave_of v x wave) ((a.now x wave).parent ∙ q))) refl on

      -- it joins the wave of an Explore
      enters_trees : (x : ℕ) → Explore x ≡ m → ((y : ℕ) → n.head.wave ≡ Some y → x < y) →
          are_on_ports gather g v (joins_wave n x (Some p)).sends ≡ true → Trees g (reacted gather g v (joins_wave n x (Some p)) w1)
      enters_trees x e below on =
          let plain = ap is_tree (sym e) in
          acts w1 (λ u. refl) (plain_after plain) (counted plain) (in_wave n x (Some p)) x (due (degree n) (Some p)) (Some p)
          (explores x (degree n) (Some p)) (λ y d j. not_below y d j (called g may wired w i v net p m ms at queue x e)) refl refl refl refl
          (degree_is g v n a.fits)
          (λ j here.
          let d = degree_is g v n a.fits in
          let l = here.port in
          ap (filter is_tree) (explored_on x (degree n) j (Some p) (omega (arith, d, l))) ∙ asked_no_tree x (Some p) j)
          (λ q. let z : ◌≡◌ {A = Option ℕ} None (Some p) = sym q in cc) refl on
        where
          not_below : (y : ℕ) → Done g may wired w i y y → (i.past v).joined y ≡ true → (i.past u).joined x ≡ true → ⊥
          not_below y d j up =
              let lt = below y (done_wave g may wired w i v y d j) in
              let l = (i.nodes u).least x up in
              let z = done_wave g may wired w i u y d (next_joined g may wired w i v y p at (all_done g may wired w i v y d j)) in
              let same = same_Some _ _ (sym z ∙ l.1) in
              let le = l.2 in
              omega (arith, lt, same, le)

      -- it is told the tree
      module _ (ks : List Key) (is : Tree ks ≡ m) where
        tree_yes : is_tree m ≡ true
        tree_yes = ap is_tree (sym is)

        some : filter is_tree (w.queue v p) ≢ []
        some z = let e : m ∷ filter is_tree ms ≡ [] = sym (ap (filter is_tree) queue ∙ first) ∙ z in cc
          where
            first : filter is_tree (m ∷ ms) ≡ m ∷ filter is_tree ms
            first = rw tree_yes refl

        told_now : with_heard is_tree t.taken v p m v p ≡ Tree ks ∷ []
        told_now =
            put_at_same t.taken v p (t.taken v p ++ filter is_tree (m ∷ []))
            ∙ ap (λ (l : List Message). l ++ filter is_tree (m ∷ [])) (untaken v p at some)
            ∙ ap (λ (b : Message). filter is_tree (b ∷ [])) (sym is)

        pub learns_trees : are_on_ports gather g v (told n ks []).sends ≡ true → Trees g (reacted gather g v (told n ks []) w1)
        learns_trees on =
            tree_turned g wired w w1 t v net (told n ks []) on ks (with_heard is_tree t.taken v p m) (λ u. refl) after
            (λ j here.
            let d = degree_is g v n a.fits in
            let l = here.port in
            sym (ap (filter is_tree) (told_on ks (degree n) j n.brought (omega (arith, d, l))) ∙ tree_of_all ks (get_or n.brought j None))
            ∙ ap (λ b. cond b (tree_of (t.tree v) (get_or n.brought j None)) [] ++ filter is_tree (on_port j (told n ks []).sends))
            (sym (not_halted v p at some)))
            (λ x y. (x, y)) (λ h. ((led v p at some).0, own_wave v p at some, inr (led v p at some).2)) (λ h. refl)
            (λ q h e. subst (λ b. (w.node (far g v b)).head.halted ≡ true) (same_Some _ _ (sym (own_parent v p at some) ∙ e)) (teller v p at some).0)
            (λ b q here ne. ⊎_elim (λ z. inr (z.0, refl))
            (λ away. inl (λ c. ne (put_at_miss t.taken v p b q (t.taken v p ++ filter is_tree (m ∷ [])) away ∙ c))) (one_place v p b q))
            (λ b q ne. put_at_miss t.taken v p b q (t.taken v p ++ filter is_tree (m ∷ [])) (λ z. ne z.0))
            (λ q h e.
            subst (λ b. with_heard is_tree t.taken v p m v b ≡ Tree ks ∷ []) (same_Some _ _ (sym (own_parent v p at some) ∙ e)) told_now)
            (λ x e f h. refl)
            (
            let c = take_counts gather g v p m ms w 2 in
            let one : ◌≡◌ {A = ℕ} (cond (gather.kind_of m == 2) 1 0) 1 = ap (λ (b : Message). cond (gather.kind_of b == 2) 1 0) (sym is) in
            let old : told_once n ≡ 0 = ap (λ b. cond b (cond (is_none n.head.parent) 0 1) 0) (not_halted v p at some) in
            let new : ◌≡◌ {A = ℕ} (cond (is_none n.head.parent) 0 1) 1 = ap (λ (o : Option ℕ). cond (is_none o) 0 1) (own_parent v p at some) in
            omega (arith, c, one, old, new)
            )
            (λ h e. let z : ◌≡◌ {A = Option ℕ} None (Some p) = sym e ∙ own_parent v p at some in cc) (λ h. refl)
            (λ j h. absurd (true≢false h))

      pub takes_trees : (o : Outcome State Message) → are_on_ports gather g v o.sends ≡ true → Turn n p m o → Trees g (reacted gather g v o w1)
      takes_trees o on k =
          by_turn (Trees g (reacted gather g v o w1)) n p m o
          (λ x e c is. so is (λ z. enters_trees x e c z))
          (λ x e wave is. so is (λ z. hears_trees x n.head.awaits n.brought refl wave (ap (is_of x) (sym e) ∙ eq-eqb x x refl) z))
          (λ x y e wave lt is. so is (λ z. let q = ap is_tree (sym e) in idles w1 (λ u. refl) (plain_after q) (counted q) z))
          (λ x ks e wave is.
          so is (λ z. hears_trees x n.head.awaits (set n.brought p (Some ks)) refl wave (ap (is_of x) (sym e) ∙ eq-eqb x x refl) z))
          (λ x ks e away is. so is (λ z. let q = ap is_tree (sym e) in idles w1 (λ u. refl) (plain_after q) (counted q) z))
          (λ ks e is. so is (λ z. learns_trees ks e z)) k
        where
          so : {b : Outcome State Message} → b ≡ o → (are_on_ports gather g v b.sends ≡ true → Trees g (reacted gather g v b w1)) →
              Trees g (reacted gather g v o w1)
          so {b} is f =
              subst (λ (c : Outcome State Message). Trees g (reacted gather g v c w1)) is
              (f (subst (λ (c : Outcome State Message). are_on_ports gather g v c.sends ≡ true) (sym is) on))

module _ (g : Network) (may : ℕ → Bool) (wired : IsWired g) where
  pub event_trees : (w w' : Net State Message) (e : Event) → Waves g may w → Trees g w → Happens gather g w e w' → Trees g w'
  event_trees w _ e i t (Woke v o lo hi s h on) =
      let k = woke_as (w.node v) o h in wakes_trees g may wired w i t v (record { some = lo; node = hi }) o on k.0 k.1
  event_trees w _ e i t (Took v p m ms o at q h on) =
      takes_trees g may wired w i t v (record { some = at.some; node = at.node }) p m ms at q o on (told_as (w.node v) p m o h)

  none : (n j : ℕ) → get_or (replicate n false) j false ≡ false
  none zero j = refl
  none (suc n) zero = refl
  none (suc n) (suc j) = none n j

  pub opening_trees : Trees g (opening gather g)
  opening_trees = record {
    tree = λ v. [];
    taken = λ v p. [];
    over = λ u q at. refl;
    leader = λ v h. absurd (true≢false (sym h));
    up = λ v p h e. absurd (true≢false (sym h));
    takes = λ v p at ne. absurd (ne refl);
    told = λ v p h e. absurd (true≢false (sym h));
    led = λ v h e. absurd (true≢false (sym h));
    marked = λ v h. absurd (true≢false (sym h));
    unmarked = λ v j h. none (length (g.ports v)) j;
    leads = λ v x e f h. cc;
    consumed = sym (sum_none g.count (λ k. 0) (λ k lt. refl));
  }

  both_runs : (es : List Event) (w w' : Net State Message) → All (MayWake may) es → Waves g may w → Trees g w → run gather g es w ≡ Some w' →
      Trees g w'
  both_runs [] w w' allow i t h = subst (Trees g) (same_Some _ _ h) t
  both_runs (e ∷ es) w w' allow i t h =
      both_some gather (happens gather g w e) (λ x. run gather g es x) w' h
      (λ x a b.
      let k = happening gather g w x e a in
      both_runs es x w' (λ k d lt. allow (suc k) d (omega (arith, lt))) (event_waves g may wired w x e i k (allow 0 e (omega arith)))
      (event_trees w x e i t k) b)

  pub after_trees : (es : List Event) (w : Net State Message) → All (MayWake may) es → IsAfter gather g es w → Trees g w
  after_trees es w allow h = both_runs es (opening gather g) w allow (opening_waves g may wired) opening_trees h
