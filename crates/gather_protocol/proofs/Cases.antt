-- What an event leaves at its own node: it joins a wave, hears an answer, or goes on as it was.
use Rattle.std.proofs.Common.{◌≡◌, ◌≢◌, ℕ, suc, ◌+◌, ◌<◌, ◌≤◌, Bool, true, false, Option, Some, None, List, [], ◌++◌, length, get_or, refl, sym, ◌∙◌, ap, subst, ⊎_elim, arith, append-nil}
use Rattle.std.specs.Prelude.{filter}
use Rattle.std.proofs.lemmas.Bool.{cases_eq}
use Rattle.std.proofs.lemmas.List.{get_or-replicate, length-map, length-replicate}
use Rattle.std.proofs.lemmas.Option.{same_Some}
use Rattle.ghs_graph.specs.declared.key.Key.{Key}
use Rattle.ghs_graph.specs.declared.port.Port.{Port}
use Rattle.peer_network.specs.Network.{Network, InNetwork, At}
use Rattle.peer_network.specs.Sums.{sum_below}
use Rattle.peer_network.proofs.lemmas.Sums.{sum_same}
use Rattle.peer_network.proofs.lemmas.Updates.{put_same, put_other}
use Rattle.peer_machine.specs.Net.{put}
use Rattle.gather_node.specs.declared.message.Message.{Message}
use Rattle.gather_node.specs.Reaction.{due, in_wave, joins_wave}
use Rattle.gather_node.specs.State.{State, degree, known, links_to, nothing_brought}
use Rattle.gather_protocol.proofs.Accounts.{on_port}
use Rattle.gather_protocol.proofs.Heard.{grows, heard_cases, none_zero, one_more_heard, one_wave, quiet, long_some, with_more}
use Rattle.gather_protocol.proofs.Sends.{SameStand, is_of, joins_others, joins_own, sent_on}
use Rattle.gather_protocol.proofs.Waves.{AtNode, Fits, Past, Stands, Within, knows, list_in, sent_of}

pub degree_is : (g : Network) (v : ℕ) (n : State) → Fits g v n → degree n ≡ length (g.ports v)
degree_is g v n f = ap length f.keys ∙ length-map (g.ports v) (λ (p : Port). p.key)

pub known_is : (g : Network) (v : ℕ) (n : State) → Fits g v n → known n ≡ knows g v n.brought
known_is g v n f = ap (λ (ks : List Key). ks ++ links_to (length ks) n.brought) f.keys

-- the past of a node that has heard an answer in wave x, and of one that has joined it
abbrev pub answered_past : Past → ℕ → ℕ → List (Option (List Key)) → (ℕ → ℕ → List Message) → Past
answered_past s x k bs heard = record s { heard = heard; awaits = put s.awaits x k; brought = put s.brought x bs }

abbrev pub joined_past : Past → ℕ → ℕ → ℕ → Option ℕ → (ℕ → ℕ → List Message) → Past
joined_past s ports x clock par heard = record {
  joined = put s.joined x true;
  parent = put s.parent x par;
  rank = put s.rank x clock;
  awaits = put s.awaits x (due ports par);
  brought = put s.brought x (nothing_brought ports);
  heard = heard;
}

pub within_as : (m n : State) (x : ℕ) → m.head.wave ≡ n.head.wave → Within n x → Within m x
within_as m n x e k = (k.0, e ∙ k.1, k.2)

pub sent_alike : (j j' : Bool) (x : ℕ) (p p' : Option ℕ) (a a' : ℕ) (ks ks' : List Key) (i : ℕ) → j ≡ j' → p ≡ p' → a ≡ a' → ks ≡ ks' →
    sent_on j x p a ks i ≡ sent_on j' x p' a' ks' i
sent_alike j j' x p p' a a' ks ks' i e f h k =
    ap (λ y. sent_on y x p a ks i) e ∙ ap (λ y. sent_on j' x y a ks i) f ∙ ap (λ y. sent_on j' x p' y ks i) h
    ∙ ap (λ y. sent_on j' x p' a' y i) k

module _ (g : Network) (v : ℕ) (net : InNetwork g v) (s : Past) (n : State) (a : AtNode g v s n) where
  -- it goes on as it was: what it heard, if anything, was of another wave, or of no wave
  module _ (p : ℕ) (m : Message) (st : State) (same : SameStand st n)
      (other : (x : ℕ) → n.head.wave ≡ Some x → is_of x m ≡ false) (late : (x : ℕ) → is_of x m ≡ true → Within n x) where
    pub goes_on : AtNode g v (record s { heard = with_more s.heard p m }) st
    goes_on = record {
      fits = record {
        number = same.number ∙ a.fits.number;
        keys = same.keys ∙ a.fits.keys;
        places = ap length same.brought ∙ a.fits.places;
        parent = λ q h. a.fits.parent q (sym same.parent ∙ h);
      };
      least = λ x j. within_as st n x same.wave (a.least x j);
      now = λ x h. let k = a.now x (sym same.wave ∙ h) in record {
        joined = k.joined;
        parent = k.parent ∙ sym same.parent;
        awaits = k.awaits ∙ sym same.awaits;
        brought = k.brought ∙ sym same.brought;
      };
      late = λ x q at ne. within_as st n x same.wave (⊎_elim (λ o. a.late x q at o) (λ z. late x z.1) (heard_cases s.heard p m x q ne));
      rest = λ x _ h.
          let e = sym same.wave ∙ h in
          let r = a.rest x net e in
          let f = same.awaits in
          let z =
          sum_same (length (g.ports v)) (λ q. length (with_more s.heard p m x q)) (λ q. length (s.heard x q))
          (λ q lt. ap length (quiet s.heard p m x q (other x e))) in
          omega (arith, r, f, z);
      full = λ x q at j z. grows s.heard p m x q (a.full x q at j z);
      came = λ x q at h.
          let e = sym same.wave ∙ h in
          ap (λ (bs : List (Option (List Key))). get_or bs q None) same.brought ∙ a.came x q at e
          ∙ ap list_in (sym (quiet s.heard p m x q (other x e)));
      idle = λ h. same.parent ∙ a.idle (sym same.wave ∙ h);
    }

  -- it hears an answer of its wave
  module _ (x k p : ℕ) (m : Message) (bs : List (Option (List Key))) (st : State) (at : At g v p)
      (wave : n.head.wave ≡ Some x) (awaits : n.head.awaits ≡ suc k) (t : is_of x m ≡ true) (none : s.heard x p ≡ [])
      (same : SameStand st (record n { head = record n.head { awaits = k }; brought = bs })) (places : length bs ≡ length (g.ports v))
      (few : (q : ℕ) → At g v q → length (with_more s.heard p m x q) ≤ 1)
      (came : (q : ℕ) → At g v q → get_or bs q None ≡ list_in (with_more s.heard p m x q)) where
    is_x : (y : ℕ) → st.head.wave ≡ Some y → x ≡ y
    is_x y h = same_Some _ _ (sym wave ∙ sym same.wave ∙ h)

    summed : k + sum_below (length (g.ports v)) (λ q. length (with_more s.heard p m x q)) ≡ length (g.ports v)
    summed =
        let r = a.rest x net wave in
        let z = one_more_heard s.heard p m x (length (g.ports v)) at.port t none in
        omega (arith, r, z, awaits)

    pub hears_answer : AtNode g v (answered_past s x k bs (with_more s.heard p m)) st
    hears_answer = record {
      fits = record {
        number = same.number ∙ a.fits.number;
        keys = same.keys ∙ a.fits.keys;
        places = ap length same.brought ∙ places;
        parent = λ q h. a.fits.parent q (sym same.parent ∙ h);
      };
      least = λ y j. within_as st n y same.wave (a.least y j);
      now = λ y h.
          let e = is_x y h in
          let b = a.now x wave in
          subst (λ z. Stands (answered_past s x k bs (with_more s.heard p m)) st z) e (record {
            joined = b.joined;
            parent = b.parent ∙ sym same.parent;
            awaits = put_same s.awaits x k ∙ sym same.awaits;
            brought = put_same s.brought x bs ∙ sym same.brought;
          });
      late = λ y q here ne. ⊎_elim
          (λ o. within_as st n y same.wave (a.late y q here o))
          (λ z. (x, same.wave ∙ wave, (let e = one_wave x y m t z.1 in omega (arith, e)))) (heard_cases s.heard p m y q ne);
      rest = λ y _ h.
          let e = is_x y h in
          let f = same.awaits in
          let z = summed in
          let q : sum_below (length (g.ports v)) (λ q. length (with_more s.heard p m y q)) ≡
          sum_below (length (g.ports v)) (λ q. length (with_more s.heard p m x q)) =
          ap (λ b. sum_below (length (g.ports v)) (λ q. length (with_more s.heard p m b q))) (sym e) in
          omega (arith, f, z, q);
      full = λ y q here j z. ⊎_elim
          (λ (e : y ≡ x).
          subst (λ b. with_more s.heard p m b q ≢ []) (sym e)
          (long_some (with_more s.heard p m x q)
          (none_zero (length (g.ports v)) q (λ i. length (with_more s.heard p m x i)) here.port
          (λ i lt. few i (record { some = here.some; node = here.node; port = lt }))
          (let r = summed in
          let zero : k ≡ 0 = sym (ap (λ b. put s.awaits x k b) e ∙ put_same s.awaits x k) ∙ z in
          omega (arith, r, zero)))))
          (λ ne. grows s.heard p m y q (a.full y q here j (sym (put_other s.awaits x y k ne) ∙ z))) (cases_eq y x);
      came = λ y q here h.
          let e = is_x y h in
          ap (λ (b : List (Option (List Key))). get_or b q None) same.brought ∙ came q here
          ∙ ap (λ b. list_in (with_more s.heard p m b q)) e;
      idle = λ h. let z : ◌≡◌ {A = Option ℕ} None (Some x) = sym h ∙ same.wave ∙ wave in cc;
    }

  -- it joins a wave
  module _ (x clock : ℕ) (par : Option ℕ) (heard : ℕ → ℕ → List Message) (st : State) (same : SameStand st (in_wave n x par))
      (below : (y : ℕ) → s.joined y ≡ true → x < y) (fits : (q : ℕ) → par ≡ Some q → q < length (g.ports v))
      (late : (y q : ℕ) → At g v q → heard y q ≢ [] → x ≤ y)
      (summed : due (length (g.ports v)) par + sum_below (length (g.ports v)) (λ q. length (heard x q)) ≡ length (g.ports v))
      (none : (q : ℕ) → At g v q → list_in (heard x q) ≡ None) (few : (q : ℕ) → At g v q → length (heard x q) ≤ 1)
      (more : (y q : ℕ) → At g v q → s.heard y q ≢ [] → heard y q ≢ []) where
    is_wave : (y : ℕ) → st.head.wave ≡ Some y → x ≡ y
    is_wave y h = same_Some _ _ (sym same.wave ∙ h)

    pub joins_it : AtNode g v (joined_past s (degree n) x clock par heard) st
    joins_it = record {
      fits = record {
        number = same.number ∙ a.fits.number;
        keys = same.keys ∙ a.fits.keys;
        places = ap length same.brought ∙ length-replicate (degree n) None ∙ degree_is g v n a.fits;
        parent = λ q h. fits q (sym same.parent ∙ h);
      };
      least = λ y j. ⊎_elim
          (λ (e : y ≡ x). (x, same.wave, omega (arith, e)))
          (λ ne. let z = below y (sym (put_other s.joined x y true ne) ∙ j) in (x, same.wave, omega (arith, z))) (cases_eq y x);
      now = λ y h.
          subst (λ z. Stands (joined_past s (degree n) x clock par heard) st z) (is_wave y h) (record {
            joined = put_same s.joined x true;
            parent = put_same s.parent x par ∙ sym same.parent;
            awaits = put_same s.awaits x (due (degree n) par) ∙ sym same.awaits;
            brought = put_same s.brought x (nothing_brought (degree n)) ∙ sym same.brought;
          });
      late = λ y q here ne. (x, same.wave, late y q here ne);
      rest = λ y _ h.
          let e = is_wave y h in
          let f = same.awaits in
          let z = summed in
          let d = ap (λ b. due b par) (degree_is g v n a.fits) in
          let q : sum_below (length (g.ports v)) (λ q. length (heard y q)) ≡ sum_below (length (g.ports v)) (λ q. length (heard x q)) =
          ap (λ b. sum_below (length (g.ports v)) (λ q. length (heard b q))) (sym e) in
          omega (arith, f, z, q, d);
      full = λ y q here j z. ⊎_elim
          (λ (e : y ≡ x).
          subst (λ b. heard b q ≢ []) (sym e)
          (long_some (heard x q)
          (none_zero (length (g.ports v)) q (λ i. length (heard x i)) here.port
          (λ i lt. few i (record { some = here.some; node = here.node; port = lt }))
          (let r = summed in
          let d = ap (λ b. due b par) (degree_is g v n a.fits) in
          let zero : due (degree n) par ≡ 0 =
          sym (ap (λ b. put s.awaits x (due (degree n) par) b) e ∙ put_same s.awaits x (due (degree n) par)) ∙ z in
          omega (arith, r, zero, d)))))
          (λ ne.
          more y q here
          (a.full y q here (sym (put_other s.joined x y true ne) ∙ j) (sym (put_other s.awaits x y (due (degree n) par) ne) ∙ z)))
          (cases_eq y x);
      came = λ y q here h.
          let e = is_wave y h in
          let d = degree_is g v n a.fits in
          let lt = here.port in
          ap (λ (b : List (Option (List Key))). get_or b q None) same.brought
          ∙ get_or-replicate (degree n) q None None (omega (arith, d, lt))
          ∙ sym (none q here) ∙ ap (λ b. list_in (heard b q)) e;
      idle = λ h. let z : ◌≡◌ {A = Option ℕ} None (Some x) = sym h ∙ same.wave in cc;
    }

    -- and what it sends is what it has sent in this wave
    pub joins_sends : (y i : ℕ) → At g v i →
        sent_of g v (joined_past s (degree n) x clock par heard) y i ≡ sent_of g v s y i ++ filter (is_of y) (on_port i (joins_wave n x par).sends)
    joins_sends y i at = ⊎_elim here there (cases_eq y x)
      where
        lt : i < degree n
        lt = let d = degree_is g v n a.fits in let l = at.port in omega (arith, d, l)

        bs : List (Option (List Key))
        bs = nothing_brought (degree n)

        not_joined : (b : Bool) → s.joined x ≡ b → b ≡ false
        not_joined true e = absurd (let z = below x e in omega (arith, z))
        not_joined false e = refl

        before : ◌≡◌ {A = List Message} (sent_of g v s x i) []
        before = ap (λ b. sent_on b x (s.parent x) (s.awaits x) (knows g v (s.brought x)) i) (not_joined (s.joined x) refl)

        at_x : sent_of g v (joined_past s (degree n) x clock par heard) x i ≡ sent_on true x par (due (degree n) par) (known (in_wave n x par)) i
        at_x = sent_alike (put s.joined x true x) true x (put s.parent x par x) par (put s.awaits x (due (degree n) par) x) (due (degree n) par)
            (knows g v (put s.brought x bs x)) (known (in_wave n x par)) i (put_same s.joined x true) (put_same s.parent x par)
            (put_same s.awaits x (due (degree n) par))
            (ap (knows g v) (put_same s.brought x bs) ∙ ap (λ (ks : List Key). ks ++ links_to (length ks) bs) (sym a.fits.keys))

        here : y ≡ x →
            sent_of g v (joined_past s (degree n) x clock par heard) y i ≡
            sent_of g v s y i ++ filter (is_of y) (on_port i (joins_wave n x par).sends)
        here e =
            subst
            (λ z.
            sent_of g v (joined_past s (degree n) x clock par heard) z i ≡
            sent_of g v s z i ++ filter (is_of z) (on_port i (joins_wave n x par).sends)) (sym e)
            (at_x ∙ sym (joins_own n x par i lt)
            ∙ ap (λ (l : List Message). l ++ filter (is_of x) (on_port i (joins_wave n x par).sends)) (sym before))

        there : y ≢ x →
            sent_of g v (joined_past s (degree n) x clock par heard) y i ≡
            sent_of g v s y i ++ filter (is_of y) (on_port i (joins_wave n x par).sends)
        there ne =
            sent_alike (put s.joined x true y) (s.joined y) y (put s.parent x par y) (s.parent y) (put s.awaits x (due (degree n) par) y)
            (s.awaits y) (knows g v (put s.brought x bs y)) (knows g v (s.brought y)) i (put_other s.joined x y true ne)
            (put_other s.parent x y par ne) (put_other s.awaits x y (due (degree n) par) ne) (ap (knows g v) (put_other s.brought x y bs ne))
            ∙ sym (append-nil (sent_of g v s y i))
            ∙ ap (λ (l : List Message). sent_of g v s y i ++ l) (sym (joins_others n x y par i lt (λ z. ne (sym z))))
