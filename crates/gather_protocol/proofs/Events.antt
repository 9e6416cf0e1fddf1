-- Every net of a run keeps its waves.
use Rattle.std.proofs.Common.{◌≡◌, ◌≢◌, ℕ, zero, suc, ◌+◌, ◌-◌, ◌*◌, ◌<◌, ◌≤◌, inl, inr, Bool, true, false, Option, Some, None, List, [], ◌∷◌, ◌++◌, length, get_or, set, cond, refl, sym, ◌∙◌, ap, subst, ⊎_elim, arith, append-nil, eq-eqb, ne_eqb, length-set}
use Rattle.std.specs.Prelude.{filter}
use Rattle.std.specs.List.{All}
use Rattle.std.proofs.lemmas.Bool.{cases_eq, both_ways, true≢false, eqb-true}
use Rattle.std.proofs.lemmas.List.{get_or-set_same, get_or-set_other, length-replicate}
use Rattle.std.proofs.lemmas.Option.{same_Some}
use Rattle.ghs_graph.specs.declared.key.Key.{Key}
use Rattle.peer_network.specs.declared.event.Event.{Event}
use Rattle.peer_network.specs.Network.{Network, InNetwork, At, far, far_port}
use Rattle.peer_network.specs.Sums.{sum_below}
use Rattle.peer_network.proofs.lemmas.Sums.{sum_none, sum_one, node_before}
use Rattle.peer_network.proofs.lemmas.Updates.{put_same, put_other, put_alike}
use Rattle.peer_network.proofs.lemmas.Wired.{IsWired}
use Rattle.peer_machine.specs.Rules.{Outcome}
use Rattle.peer_network.specs.Events.{MayWake}
use Rattle.peer_machine.specs.Net.{Net, happens, opening, put, are_on_ports, reacted, take_first}
use Rattle.peer_machine.specs.Run.{IsAfter, run}
use Rattle.peer_machine.specs.Steps.{Happens, Woke, Took}
use Rattle.peer_machine.proofs.lemmas.Events.{happening}
use Rattle.peer_machine.proofs.lemmas.Runs.{both_some}
use Rattle.gather_node.specs.declared.message.Message.{Message}
use Rattle.gather_node.specs.declared.message.Message.TheVariants.{Explore, Back}
use Rattle.gather_node.specs.Forest.{forest}
use Rattle.gather_node.specs.Gather.{gather}
use Rattle.gather_node.specs.Reaction.{closed, due, explores, hears, in_wave, joins_wave, outcome, told}
use Rattle.gather_node.specs.State.{State, degree, is_that, known, links_to}
use Rattle.gather_protocol.proofs.Accounts.{Account, on_port}
use Rattle.gather_protocol.proofs.Cases.{degree_is, goes_on, hears_answer, joined_past, joins_it, joins_sends, sent_alike}
use Rattle.gather_protocol.proofs.Heard.{SentAs, WasAsked, WasBack, few_heard, first_heard, front, grows, heard_cases, more_there, nil_or, none_zero, one_more_heard, over_taken, sent_as, with_more}
use Rattle.gather_protocol.proofs.Led.{Entry, IsParent, led_joins}
use Rattle.gather_protocol.proofs.Pays.{back_owed, hears_pays, joins_pays, owed, owes, plain, plain_trees}
use Rattle.gather_protocol.proofs.Sends.{SameStand, asked, closed_of, closed_stand, is_of, not_replied, replied, replied_all, replied_none, same_stand, sent_on, told_on, tree_of_none}
use Rattle.gather_protocol.proofs.Turns.{Turn, by_turn, told_as, woke_as}
use Rattle.gather_protocol.proofs.Waves.{AreLed, AtNode, Past, Stands, Waves, Within, joins_of, knows, list_in, paid, same_led, sent_of, turned}

-- A field of the pasts, where that of one node changed at one wave.

module _ {A : Type 0} (k : Past → ℕ → A) (past : ℕ → Past) (v x : ℕ) (s : Past) where
  field_now : (y : A) → k s x ≡ y → k (put past v s v) x ≡ y
  field_now y e = ap (λ (p : Past). k p x) (put_same past v s) ∙ e

  field_was : ((y : ℕ) → y ≢ x → k s y ≡ k (past v) y) → (u y : ℕ) → ((u ≡ v) × (y ≡ x) → ⊥) → k (put past v s u) y ≡ k (past u) y
  field_was same u y ne = ⊎_elim
      (λ (e : u ≡ v).
      subst (λ b. k (put past v s b) y ≡ k (past b) y) (sym e)
      (ap (λ (p : Past). k p y) (put_same past v s) ∙ same y (λ z. ne (e, z))))
      (λ away. ap (λ (p : Past). k p y) (put_other past v u s away)) (cases_eq u v)

is_that_itself : (parent : Option ℕ) (i : ℕ) → parent ≡ Some i → is_that parent i ≡ true
is_that_itself parent i e = ap (λ o. is_that o i) e ∙ eq-eqb i i refl

pub that_is : (parent : Option ℕ) (i : ℕ) → is_that parent i ≡ true → parent ≡ Some i
that_is None i h = absurd (true≢false (sym h))
that_is (Some j) i h = ap Some (eqb-true j i h)

-- What is owed and paid.

pub owes_as : (m n : State) → SameStand m n → owes m ≡ owes n
owes_as m n e =
    ap (λ o. owed o m.head.parent m.head.awaits) e.wave ∙ ap (λ o. owed n.head.wave o m.head.awaits) e.parent
    ∙ ap (owed n.head.wave n.head.parent) e.awaits

owed_in : (n : State) (x : ℕ) → n.head.wave ≡ Some x → owes n ≡ back_owed n.head.parent n.head.awaits
owed_in n x e = ap (λ o. owed o n.head.parent n.head.awaits) e

pub owed_once : (par : Option ℕ) (k : ℕ) → back_owed par (suc k) ≡ back_owed par 1
owed_once None k = refl
owed_once (Some q) k = refl

-- a wave more
joins_more : (g : Network) (s st : Past) (x : ℕ) → InNetwork g x → (s.joined x ≡ true → ⊥) → st.joined ≡ put s.joined x true →
    joins_of g st ≡ suc (joins_of g s)
joins_more g s st x net fresh e = let j = node_before x net.some in go j.0 j.1
  where
    old : (b : Bool) → s.joined x ≡ b → ◌≡◌ {A = ℕ} (cond b 1 0) 0
    old true h = absurd (fresh h)
    old false h = refl

    go : (k : ℕ) → x ≡ suc k → joins_of g st ≡ suc (joins_of g s)
    go k q =
        let lt : k < g.count = (let h = net.node in omega (arith, q, h)) in
        let a =
        sum_one g.count k (λ y. cond (s.joined (suc y)) 1 0) (λ y. cond (st.joined (suc y)) 1 0) lt
        (λ y ne.
        ap (λ (b : Bool). cond b 1 0)
        (sym (ap (λ (f : ℕ → Bool). f (suc y)) e ∙ put_other s.joined x (suc y) true (λ z. ne (omega (arith, z, q)))))) in
        let b : ◌≡◌ {A = ℕ} (cond (st.joined (suc k)) 1 0) 1 =
        ap (λ (c : Bool). cond c 1 0)
        (ap (λ (f : ℕ → Bool). f (suc k)) e ∙ ap (put s.joined x true) (sym q) ∙ put_same s.joined x true) in
        let c : ◌≡◌ {A = ℕ} (cond (s.joined (suc k)) 1 0) 0 = ap (λ z. cond (s.joined z) 1 0) (sym q) ∙ old (s.joined x) refl in
        omega (arith, a, b, c)

one_paid : (j d : ℕ) → suc j * d ≡ d + j * d
one_paid j d = omega arith

module _ (g : Network) (may : ℕ → Bool) (wired : IsWired g) where
  module _ (w : Net State Message) (i : Waves g may w) (v : ℕ) (net : InNetwork g v) where
    abbrev pub n : State
    n = w.node v

    abbrev pub s : Past
    s = i.past v

    a : AtNode g v s n
    a = i.nodes v

    -- a node that enters a wave: who has joined then
    entered_led : (x : ℕ) (par : Option ℕ) (heard : ℕ → ℕ → List Message) (st : Past) → st.joined ≡ put s.joined x true →
        st.parent ≡ put s.parent x par →
        st.rank ≡ put s.rank x i.clock → Entry g (λ u. (i.past u).joined) (λ u. (i.past u).parent) par v x →
        AreLed g (put i.past v st) (suc i.clock)
    entered_led x par heard st j p r e =
        led_joins g wired (λ u. (i.past u).joined) (λ u. (i.past u).parent) (λ u. (i.past u).rank) i.clock i.led par v x e
        (λ u. (put i.past v st u).joined) (λ u. (put i.past v st u).parent) (λ u. (put i.past v st u).rank)
        (field_now (λ (q : Past). q.joined) i.past v x st true (ap (λ (f : ℕ → Bool). f x) j ∙ put_same s.joined x true))
        (field_now (λ (q : Past). q.parent) i.past v x st par (ap (λ (f : ℕ → Option ℕ). f x) p ∙ put_same s.parent x par))
        (field_now (λ (q : Past). q.rank) i.past v x st i.clock (ap (λ (f : ℕ → ℕ). f x) r ∙ put_same s.rank x i.clock))
        (field_was (λ (q : Past). q.joined) i.past v x st (λ y ne. ap (λ (f : ℕ → Bool). f y) j ∙ put_other s.joined x y true ne))
        (field_was (λ (q : Past). q.parent) i.past v x st (λ y ne. ap (λ (f : ℕ → Option ℕ). f y) p ∙ put_other s.parent x y par ne))
        (field_was (λ (q : Past). q.rank) i.past v x st (λ y ne. ap (λ (f : ℕ → ℕ). f y) r ∙ put_other s.rank x y i.clock ne))

    -- who joins a wave pays for it
    joining_pays : (x : ℕ) (par : Option ℕ) (heard : ℕ → ℕ → List Message) → InNetwork g x → (s.joined x ≡ true → ⊥) →
        ((q : ℕ) → par ≡ Some q → q < length (g.ports v)) →
        plain (joins_wave n x par).sends + owes (joins_wave n x par).state + paid g v s
        ≤ owes n + paid g v (joined_past s (degree n) x i.clock par heard)
    joining_pays x par heard inside fresh fits =
        let st = joined_past s (degree n) x i.clock par heard in
        let d = degree_is g v n a.fits in
        let pays = joins_pays n x par (λ q e. let l = fits q e in omega (arith, l, d)) in
        let owe = owes_as (joins_wave n x par).state (in_wave n x par)
        (closed_stand (in_wave n x par) x (due (degree n) par) par (explores x (degree n) par)) in
        let more = joins_more g s st x inside fresh refl in
        let total : paid g v st ≡ length (g.ports v) + paid g v s =
        ap (λ j. j * length (g.ports v)) more ∙ one_paid (joins_of g s) (length (g.ports v)) in
        omega (arith, pays, owe, total, d)

    -- A node wakes.

    module _ (o : Outcome State Message) (t : are_on_ports gather g v o.sends ≡ true) (asleep : n.head.wave ≡ None)
        (is : joins_wave n n.number None ≡ o) where
      nothing : {x : ℕ} → Within n x → ⊥
      nothing k = let z : ◌≡◌ {A = Option ℕ} None (Some k.0) = sym asleep ∙ k.1 in cc

      unjoined : (y : ℕ) (b : Bool) → s.joined y ≡ b → b ≡ false
      unjoined y true e = absurd (nothing (a.least y e))
      unjoined y false e = refl

      unheard : (y q : ℕ) → At g v q → s.heard y q ≡ []
      unheard y q at = ⊎_elim (λ e. e) (λ ne. absurd (nothing (a.late y q at ne))) (nil_or (s.heard y q))

      abbrev pub x : ℕ
      x = n.number

      abbrev pub woken : Past
      woken = joined_past s (degree n) x i.clock None s.heard

      summed : length (g.ports v) + sum_below (length (g.ports v)) (λ q. length (s.heard x q)) ≡ length (g.ports v)
      summed =
          let z =
          sum_none (length (g.ports v)) (λ q. length (s.heard x q))
          (λ q lt. ap length (unheard x q (record { some = net.some; node = net.node; port = lt }))) in
          omega (arith, z)

      pub wakes : may v ≡ true → Waves g may (reacted gather g v (joins_wave n n.number None) w)
      wakes allow =
          turned g may wired w i.past v net (joins_wave n n.number None)
          (subst (λ (b : Outcome State Message). are_on_ports gather g v b.sends ≡ true) (sym is) t)
          woken (suc i.clock)
          (entered_led x None s.heard woken refl refl refl (record {
            node = net;
            below = λ y j. absurd (nothing (a.least y j));
            how = inl (refl, sym a.fits.number, λ y. unjoined y (s.joined y) refl);
          }))
          (λ u ne. i.nodes u)
          (joins_it g v net s n a x i.clock None s.heard (joins_wave n n.number None).state (closed_stand _ x _ None _)
          (λ y j. absurd (nothing (a.least y j))) (λ q e. let z : ◌≡◌ {A = Option ℕ} None (Some q) = e in cc)
          (λ y q at ne. absurd (ne (unheard y q at))) summed (λ q at. ap list_in (unheard x q at))
          (λ q at. let z = ap length (unheard x q at) in omega (arith, z)) (λ y q at h. h))
          (λ y u q at.
          i.over y u q at
          ∙ ap (λ (h : ℕ → ℕ → List Message). h y q ++ filter (is_of y) (w.queue u q))
          (sym (put_alike (λ (p : Past). p.heard) i.past v woken refl u)))
          (joins_sends g v net s n a x i.clock None s.heard (joins_wave n n.number None).state (closed_stand _ x _ None _)
          (λ y j. absurd (nothing (a.least y j))) (λ q e. let z : ◌≡◌ {A = Option ℕ} None (Some q) = e in cc)
          (λ y q at ne. absurd (ne (unheard y q at))) summed (λ q at. ap list_in (unheard x q at))
          (λ q at. let z = ap length (unheard x q at) in omega (arith, z)) (λ y q at h. h))
          i.spends
          (joining_pays x None s.heard (subst (InNetwork g) (sym a.fits.number) net) (λ j. nothing (a.least x j))
          (λ q e. let z : ◌≡◌ {A = Option ℕ} None (Some q) = e in cc))
          (λ j. allow) i.allowed

    -- A message is taken.

    module _ (p : ℕ) (m : Message) (ms : List Message) (at : At g v p) (queue : w.queue v p ≡ m ∷ ms) where
      abbrev pub w1 : Net State Message
      w1 = take_first gather g v p m ms w

      after : (st : Past) → st.heard ≡ with_more s.heard p m → (y : ℕ) →
          Account g w1 (is_of y) (λ u j. sent_of g u (i.past u) y j) (λ u q. (put i.past v st u).heard y q)
      after st h = over_taken g w i.past v p m ms st queue h i.over

      few_before : (y q : ℕ) → At g v q → length (s.heard y q) ≤ 1
      few_before y q here = few_heard g w i.past (λ u q. (i.past u).heard y q) y v q (i.over y v q here)

      abbrev pub kept : Past
      kept = record s { heard = with_more s.heard p m }

      few_after : (y q : ℕ) → At g v q → length (with_more s.heard p m y q) ≤ 1
      few_after y q here =
          let f = few_heard g w1 i.past (λ u q. (put i.past v kept u).heard y q) y v q (after kept refl y v q here) in
          let e : (put i.past v kept v).heard y q ≡ with_more s.heard p m y q = ap (λ (b : Past). b.heard y q) (put_same i.past v kept) in
          let l = ap length e in
          omega (arith, f, l)

      abbrev pub u : ℕ
      u = far g v p

      abbrev pub fp : ℕ
      fp = far_port g v p

      -- what stands at the front was sent by the far end
      sent : (x : ℕ) → is_of x m ≡ true →
          SentAs ((i.past u).joined x) x ((i.past u).parent x) ((i.past u).awaits x) (knows g u ((i.past u).brought x)) fp m
      sent x t =
          sent_as ((i.past u).joined x) x ((i.past u).parent x) ((i.past u).awaits x) (knows g u ((i.past u).brought x)) fp m
          (front g w i.past (λ u q. (i.past u).heard x q) x v p (i.over x v p at) m ms queue t).1

      unheard_yet : (x : ℕ) → is_of x m ≡ true → s.heard x p ≡ []
      unheard_yet x t = (front g w i.past (λ u q. (i.past u).heard x q) x v p (i.over x v p at) m ms queue t).0

      -- it goes on as it was
      module _ (o : Outcome State Message) (t : are_on_ports gather g v o.sends ≡ true) (same : SameStand o.state n)
          (other : (x : ℕ) → n.head.wave ≡ Some x → is_of x m ≡ false) (late : (x : ℕ) → is_of x m ≡ true → Within n x)
          (none : (x j : ℕ) → At g v j → ◌≡◌ {A = List Message} (filter (is_of x) (on_port j o.sends)) []) (free : plain o.sends ≡ 0) where
        pub continues : Waves g may (reacted gather g v o w1)
        continues =
            turned g may wired w1 i.past v net o t kept i.clock (same_led g i.past i.clock v kept refl refl refl i.led) (λ b ne. i.nodes b)
            (goes_on g v net s n a p m o.state same other late) (after kept refl)
            (λ x j here. sym (append-nil (sent_of g v s x j)) ∙ ap (λ (l : List Message). sent_of g v s x j ++ l) (sym (none x j here)))
            i.spends (let e = owes_as o.state n same in omega (arith, e, free)) (i.allowed v) i.allowed

      -- it hears an answer
      module _ (x k : ℕ) (bs : List (Option (List Key))) (wave : n.head.wave ≡ Some x) (awaits : n.head.awaits ≡ suc k)
          (is : is_of x m ≡ true) (places : length bs ≡ length (g.ports v))
          (came : (q : ℕ) → At g v q → get_or bs q None ≡ list_in (with_more s.heard p m x q)) where
        abbrev pub n' : State
        n' = record n { head = record n.head { awaits = k }; brought = bs }

        abbrev pub o : Outcome State Message
        o = closed n' x k n.head.parent []

        abbrev pub st : Past
        st = record s { heard = with_more s.heard p m; awaits = put s.awaits x k; brought = put s.brought x bs }

        sends : (y j : ℕ) → At g v j → sent_of g v st y j ≡ sent_of g v s y j ++ filter (is_of y) (on_port j o.sends)
        sends y j here = ⊎_elim same_wave other_wave (cases_eq y x)
          where
            lt : j < degree n'
            lt = let d = degree_is g v n a.fits in let l = here.port in omega (arith, d, l)

            b : Stands s n x
            b = a.now x wave

            out : (z : ℕ) → filter (is_of z) (on_port j o.sends) ≡ filter (is_of z) (replied x n.head.parent k (known n') j)
            out z = closed_of n' x [] j lt z k n.head.parent

            ks' : List Key
            ks' = known n'

            as_x : sent_of g v st x j ≡ sent_on true x n.head.parent k ks' j
            as_x = sent_alike (s.joined x) true x (s.parent x) n.head.parent (put s.awaits x k x) k (knows g v (put s.brought x bs x)) ks' j
                b.joined b.parent (put_same s.awaits x k)
                (ap (knows g v) (put_same s.brought x bs) ∙ ap (λ (ks : List Key). ks ++ links_to (length ks) bs) (sym a.fits.keys))

            was_x : sent_of g v s x j ≡ asked x n.head.parent j
            was_x =
                sent_alike (s.joined x) true x (s.parent x) n.head.parent (s.awaits x) (suc k) (knows g v (s.brought x))
                (knows g v (s.brought x)) j b.joined b.parent (b.awaits ∙ awaits) refl
                ∙ ap (λ (l : List Message). asked x n.head.parent j ++ l) (not_replied x n.head.parent k (knows g v (s.brought x)) j)
                ∙ append-nil (asked x n.head.parent j)

            same_wave : y ≡ x → sent_of g v st y j ≡ sent_of g v s y j ++ filter (is_of y) (on_port j o.sends)
            same_wave e =
                subst (λ z. sent_of g v st z j ≡ sent_of g v s z j ++ filter (is_of z) (on_port j o.sends)) (sym e)
                (as_x ∙ ap (λ (l : List Message). asked x n.head.parent j ++ l) (sym (out x ∙ replied_all x n.head.parent k ks' j))
                ∙ ap (λ (l : List Message). l ++ filter (is_of x) (on_port j o.sends)) (sym was_x))

            other_wave : y ≢ x → sent_of g v st y j ≡ sent_of g v s y j ++ filter (is_of y) (on_port j o.sends)
            other_wave ne =
                sent_alike (s.joined y) (s.joined y) y (s.parent y) (s.parent y) (put s.awaits x k y) (s.awaits y)
                (knows g v (put s.brought x bs y)) (knows g v (s.brought y)) j refl refl (put_other s.awaits x y k ne)
                (ap (knows g v) (put_other s.brought x y bs ne))
                ∙ sym (append-nil (sent_of g v s y j))
                ∙ ap (λ (l : List Message). sent_of g v s y j ++ l)
                (sym (out y ∙ replied_none x y n.head.parent k ks' j (λ z. ne (sym z))))

        pub answers : are_on_ports gather g v o.sends ≡ true → Waves g may (reacted gather g v o w1)
        answers t =
            turned g may wired w1 i.past v net o t st i.clock (same_led g i.past i.clock v st refl refl refl i.led) (λ b ne. i.nodes b)
            (hears_answer g v net s n a x k p m bs o.state at wave awaits is (unheard_yet x is) (closed_stand n' x k n.head.parent []) places
            (λ q here. few_after x q here) came)
            (after st refl) sends i.spends
            (
            let b = hears_pays n' x k n.head.parent in
            let c = owes_as o.state n' (closed_stand n' x k n.head.parent []) in
            let d = owed_in n' x wave in
            let f : owes n ≡ back_owed n.head.parent (suc k) = owed_in n x wave ∙ ap (back_owed n.head.parent) awaits in
            let h = owed_once n.head.parent k in
            omega (arith, b, c, d, f, h)
            )
            (i.allowed v) i.allowed

      -- one that hears an answer awaits one
      pub awaits_some : (x : ℕ) → n.head.wave ≡ Some x → is_of x m ≡ true → n.head.awaits ≡ 0 → ⊥
      awaits_some x wave is z =
          let r = a.rest x net wave in
          let b =
          none_zero (length (g.ports v)) p (λ q. length (s.heard x q)) at.port
          (λ q lt. few_before x q (record { some = net.some; node = net.node; port = lt })) (omega (arith, r, z)) in
          let c = ap length (unheard_yet x is) in
          omega (arith, b, c)

      answered : (x : ℕ) (bs : List (Option (List Key))) (c : ℕ) → n.head.awaits ≡ c → n.head.wave ≡ Some x → is_of x m ≡ true →
          length bs ≡ length (g.ports v) → ((q : ℕ) → At g v q → get_or bs q None ≡ list_in (with_more s.heard p m x q)) →
          are_on_ports gather g v (hears (record n { brought = bs }) x c).sends ≡ true →
          Waves g may (reacted gather g v (hears (record n { brought = bs }) x c) w1)
      answered x bs zero e wave is places came t = absurd (awaits_some x wave is e)
      answered x bs (suc k) e wave is places came t = answers x k bs wave e is places came t

      -- it joins the wave of an Explore
      module _ (x : ℕ) (explore : Explore x ≡ m) (cond : (y : ℕ) → n.head.wave ≡ Some y → x < y) where
        is_x : is_of x m ≡ true
        is_x = ap (is_of x) (sym explore) ∙ eq-eqb x x refl

        above : (y : ℕ) → Within n y → x < y
        above y k = let z = cond k.0 k.1 in let l = k.2 in omega (arith, z, l)

        unheard_x : (q : ℕ) → At g v q → s.heard x q ≡ []
        unheard_x q here = ⊎_elim (λ e. e) (λ ne. absurd (let z = above x (a.late x q here ne) in omega (arith, z))) (nil_or (s.heard x q))

        caller : IsParent g (λ b. (i.past b).joined) (λ b. (i.past b).parent) v x p
        caller = go (sent x is_x)
          where
            go : SentAs ((i.past u).joined x) x ((i.past u).parent x) ((i.past u).awaits x) (knows g u ((i.past u).brought x)) fp m →
                IsParent g (λ b. (i.past b).joined) (λ b. (i.past b).parent) v x p
            go (WasAsked j f e) = record {
              at = at;
              up = j;
              other = λ z. both_ways (is_that ((i.past u).parent x) fp) f (is_that_itself ((i.past u).parent x) fp z);
            }
            go (WasBack j f z e) = absurd (let c : Explore x ≡ Back x (forest (knows g u ((i.past u).brought x))) = explore ∙ e in cc)

        abbrev pub entered : Past
        entered = joined_past s (degree n) x i.clock (Some p) (with_more s.heard p m)

        summed_x : (length (g.ports v) - 1) + sum_below (length (g.ports v)) (λ q. length (with_more s.heard p m x q)) ≡ length (g.ports v)
        summed_x =
            let z =
            sum_none (length (g.ports v)) (λ q. length (s.heard x q))
            (λ q lt. ap length (unheard_x q (record { some = net.some; node = net.node; port = lt }))) in
            let b = one_more_heard s.heard p m x (length (g.ports v)) at.port is_x (unheard_x p at) in
            let l = at.port in
            omega (arith, z, b, l)

        none : (q : ℕ) → At g v q → list_in (with_more s.heard p m x q) ≡ None
        none q here = ⊎_elim
            (λ (e : q ≡ p).
            subst (λ b. list_in (with_more s.heard p m x b) ≡ None) (sym e)
            (ap list_in (first_heard s.heard p m x is_x (unheard_x p at)) ∙ ap (λ b. list_in (b ∷ [])) (sym explore)))
            (λ ne. ap list_in (more_there s.heard p m x q ne ∙ unheard_x q here)) (cases_eq q p)

        late : (y q : ℕ) → At g v q → with_more s.heard p m y q ≢ [] → x ≤ y
        late y q here ne = ⊎_elim
            (λ o. let z = above y (a.late y q here o) in omega (arith, z))
            (λ z. let e = eqb-true x y (ap (is_of y) explore ∙ z.1) in omega (arith, e))
            (heard_cases s.heard p m y q ne)

        fits : (q : ℕ) → Some p ≡ Some q → q < length (g.ports v)
        fits q e = let z = same_Some p q e in let l = at.port in omega (arith, z, l)

        -- the node doesn't begin this wave
        still_allowed : entered.joined v ≡ true → may v ≡ true
        still_allowed j = ⊎_elim
            (λ (e : v ≡ x).
            absurd
            (let up = i.led.root u x caller.up in
            let z = above x (a.least x (subst (λ b. (i.past b).joined x ≡ true) (sym e) up)) in
            omega (arith, z)))
            (λ ne. i.allowed v (sym (put_other s.joined x v true ne) ∙ j)) (cases_eq v x)

        pub enters : are_on_ports gather g v (joins_wave n x (Some p)).sends ≡ true → Waves g may (reacted gather g v (joins_wave n x (Some p)) w1)
        enters t =
            turned g may wired w1 i.past v net (joins_wave n x (Some p)) t entered (suc i.clock)
            (entered_led x (Some p) (with_more s.heard p m) entered refl refl refl (record {
              node = net;
              below = λ y j. above y (a.least y j);
              how = inr (p, refl, caller);
            }))
            (λ b ne. i.nodes b)
            (joins_it g v net s n a x i.clock (Some p) (with_more s.heard p m) (joins_wave n x (Some p)).state (closed_stand _ x _ (Some p) _)
            (λ y j. above y (a.least y j)) fits late summed_x none (λ q here. few_after x q here) (λ y q here h. grows s.heard p m y q h))
            (after entered refl)
            (joins_sends g v net s n a x i.clock (Some p) (with_more s.heard p m) (joins_wave n x (Some p)).state (closed_stand _ x _ (Some p) _)
            (λ y j. above y (a.least y j)) fits late summed_x none (λ q here. few_after x q here) (λ y q here h. grows s.heard p m y q h))
            i.spends
            (joining_pays x (Some p) (with_more s.heard p m) (i.led.inside x x (i.led.root u x caller.up))
            (λ j. let z = above x (a.least x j) in omega (arith, z)) fits)
            still_allowed i.allowed

      -- whoever sends an Explore has joined its wave
      pub called : (x : ℕ) → Explore x ≡ m → (i.past (far g v p)).joined x ≡ true
      called x e = go (sent x (ap (is_of x) (sym e) ∙ eq-eqb x x refl))
        where
          go : SentAs ((i.past u).joined x) x ((i.past u).parent x) ((i.past u).awaits x) (knows g u ((i.past u).brought x)) fp m →
              (i.past u).joined x ≡ true
          go (WasAsked j f q) = j
          go (WasBack j f z q) = j

      -- whatever came
      came_same : (x : ℕ) → Explore x ≡ m → n.head.wave ≡ Some x → (q : ℕ) → At g v q →
          get_or n.brought q None ≡ list_in (with_more s.heard p m x q)
      came_same x e wave q here = ⊎_elim
          (λ (z : q ≡ p).
          let is = ap (is_of x) (sym e) ∙ eq-eqb x x refl in
          let old = a.came x p at wave ∙ ap list_in (unheard_yet x is) in
          let new : list_in (with_more s.heard p m x p) ≡ None =
          ap list_in (first_heard s.heard p m x is (unheard_yet x is)) ∙ ap (λ b. list_in (b ∷ [])) (sym e) in
          subst (λ b. get_or n.brought b None ≡ list_in (with_more s.heard p m x b)) (sym z) (old ∙ sym new))
          (λ ne. a.came x q here wave ∙ ap list_in (sym (more_there s.heard p m x q ne))) (cases_eq q p)

      came_with : (x : ℕ) (ks : List Key) → Back x ks ≡ m → n.head.wave ≡ Some x → (q : ℕ) → At g v q →
          get_or (set n.brought p (Some ks)) q None ≡ list_in (with_more s.heard p m x q)
      came_with x ks e wave q here = ⊎_elim
          (λ (z : q ≡ p).
          let is = ap (is_of x) (sym e) ∙ eq-eqb x x refl in
          let l = a.fits.places in
          let lt = at.port in
          let new : list_in (with_more s.heard p m x p) ≡ Some ks =
          ap list_in (first_heard s.heard p m x is (unheard_yet x is)) ∙ ap (λ b. list_in (b ∷ [])) (sym e) in
          subst (λ b. get_or (set n.brought p (Some ks)) b None ≡ list_in (with_more s.heard p m x b)) (sym z)
          (get_or-set_same n.brought p (Some ks) None (omega (arith, l, lt)) ∙ sym new))
          (λ ne.
          get_or-set_other n.brought p q (Some ks) None ne ∙ a.came x q here wave ∙ ap list_in (sym (more_there s.heard p m x q ne)))
          (cases_eq q p)

      went_back : (x : ℕ) (ks : List Key) → Back x ks ≡ m →
          SentAs ((i.past u).joined x) x ((i.past u).parent x) ((i.past u).awaits x) (knows g u ((i.past u).brought x)) fp m → s.joined x ≡ true
      went_back x ks q (WasAsked j f e) = absurd (let c : Back x ks ≡ Explore x = q ∙ e in cc)
      went_back x ks q (WasBack j f z e) =
          subst (λ b. (i.past b).joined x ≡ true) (wired.back v p at)
          (i.led.ups u x fp j (that_is ((i.past u).parent x) fp f)).up

      -- a Back comes to one that has joined its wave
      pub stale_joined : (x : ℕ) (ks : List Key) → Back x ks ≡ m → s.joined x ≡ true
      stale_joined x ks e = went_back x ks e (sent x (ap (is_of x) (sym e) ∙ eq-eqb x x refl))

      pub takes : (o : Outcome State Message) → are_on_ports gather g v o.sends ≡ true → Turn n p m o → Waves g may (reacted gather g v o w1)
      takes o t k =
          by_turn (Waves g may (reacted gather g v o w1)) n p m o
          (λ x e c is. so is (λ on. enters x e c on))
          (λ x e wave is.
          so is
          (λ on. answered x n.brought n.head.awaits refl wave (ap (is_of x) (sym e) ∙ eq-eqb x x refl) a.fits.places (came_same x e wave) on))
          (λ x y e wave lt is. so is (λ on.
          continues (outcome n []) on (same_stand n)
          (λ z h. ap (is_of z) (sym e) ∙ (let q = same_Some _ _ (sym wave ∙ h) in ne_eqb x z (λ b. omega (arith, b, q, lt))))
          (λ z h. let q = eqb-true x z (ap (is_of z) e ∙ h) in (y, wave, omega (arith, q, lt))) (λ z j here. refl) refl))
          (λ x ks e wave is. so is (λ on.
          answered x (set n.brought p (Some ks)) n.head.awaits refl wave (ap (is_of x) (sym e) ∙ eq-eqb x x refl)
          (length-set n.brought p (Some ks) ∙ a.fits.places) (came_with x ks e wave) on))
          (λ x ks e away is. so is (λ on.
          continues (outcome n []) on (same_stand n)
          (λ z h. ap (is_of z) (sym e) ∙ ne_eqb x z (λ b. away (h ∙ ap Some (sym b))))
          (λ z h.
          subst (Within n) (eqb-true x z (ap (is_of z) e ∙ h))
          (a.least x (went_back x ks e (sent x (ap (is_of x) (sym e) ∙ eq-eqb x x refl)))))
          (λ z j here. refl) refl))
          (λ ks e is. so is (λ on.
          continues (told n ks []) on (record { number = refl; keys = refl; wave = refl; parent = refl; awaits = refl; brought = refl })
          (λ z h. ap (is_of z) (sym e)) (λ z h. absurd (true≢false (sym h ∙ ap (is_of z) (sym e))))
          (λ z j here.
          let d = degree_is g v n a.fits in
          let l = here.port in
          ap (filter (is_of z)) (told_on ks (degree n) j n.brought (omega (arith, d, l))) ∙ tree_of_none z ks (get_or n.brought j None))
          (plain_trees ks (degree n) n.brought)))
          k
        where
          so : {b : Outcome State Message} → b ≡ o → (are_on_ports gather g v b.sends ≡ true → Waves g may (reacted gather g v b w1)) →
              Waves g may (reacted gather g v o w1)
          so {b} is f =
              subst (λ (c : Outcome State Message). Waves g may (reacted gather g v c w1)) is
              (f (subst (λ (c : Outcome State Message). are_on_ports gather g v c.sends ≡ true) (sym is) t))

  pub event_waves : (w w' : Net State Message) (e : Event) → Waves g may w → Happens gather g w e w' → MayWake may e → Waves g may w'
  event_waves w _ _ i (Woke v o lo hi s h t) allow =
      let k = woke_as (w.node v) o h in
      subst (λ (b : Outcome State Message). Waves g may (reacted gather g v b w)) k.1
      (wakes w i v (record { some = lo; node = hi }) o t k.0 k.1 allow)
  event_waves w _ _ i (Took v p m ms o at q h t) allow =
      takes w i v (record { some = at.some; node = at.node }) p m ms at q o t (told_as (w.node v) p m o h)

  abbrev pub nothing_past : Past
  nothing_past = record {
    joined = λ x. false;
    parent = λ x. None;
    rank = λ x. 0;
    awaits = λ x. 0;
    brought = λ x. [];
    heard = λ x q. [];
  }

  pub opening_waves : Waves g may (opening gather g)
  opening_waves = record {
    past = λ v. nothing_past;
    clock = 0;
    led = record {
      inside = λ v x h. absurd (true≢false (sym h));
      early = λ v x h. absurd (true≢false (sym h));
      root = λ v x h. absurd (true≢false (sym h));
      first = λ v x h e. absurd (true≢false (sym h));
      own = λ x h. absurd (true≢false (sym h));
      woke = λ v x h e. absurd (true≢false (sym h));
      ups = λ v x p h e. absurd (true≢false (sym h));
      later = λ v x p h e. absurd (true≢false (sym h));
    };
    nodes = λ v. record {
      fits = record {
        number = refl;
        keys = refl;
        places = length-replicate (length (g.ports v)) None;
        parent = λ q h. cc;
      };
      least = λ x h. absurd (true≢false (sym h));
      now = λ x h. cc;
      late = λ x q at ne. absurd (ne refl);
      rest = λ x net h. cc;
      full = λ x q at h. absurd (true≢false (sym h));
      came = λ x q at h. cc;
      idle = λ h. refl;
    };
    over = λ x u q at. refl;
    spends = let z = sum_none g.count (λ k. 0) (λ k lt. refl) in omega (arith, z);
    allowed = λ x j. absurd (true≢false (sym j));
  }

  -- what each event keeps, a run keeps in which only these nodes wake by themselves
  runs : (es : List Event) (w w' : Net State Message) → All (MayWake may) es → Waves g may w → run gather g es w ≡ Some w' → Waves g may w'
  runs [] w w' allow i h = subst (Waves g may) (same_Some _ _ h) i
  runs (e ∷ es) w w' allow i h =
      both_some gather (happens gather g w e) (λ x. run gather g es x) w' h
      (λ x a b.
      runs es x w' (λ k d lt. allow (suc k) d (omega (arith, lt))) (event_waves w x e i (happening gather g w x e a) (allow 0 e (omega arith))) b)

  pub after_waves : (es : List Event) (w : Net State Message) → All (MayWake may) es → IsAfter gather g es w → Waves g may w
  after_waves es w allow h = runs es (opening gather g) w allow opening_waves h
