-- Messages counted by their kinds, one after another.
use Rattle.std.proofs.Common.{◌≡◌, ◌≢◌, ℕ, ◌+◌, ◌<◌, ◌≤◌, ◌==◌, List, [], ◌∷◌, ◌++◌, length, get_or, set, take, drop, refl, sym, ◌∙◌, ap, cond, ⊎_elim, eq-eqb, ne_eqb, arith, get_or-set_same, get_or-set_other}
use Rattle.std.proofs.lemmas.Bool.{cases_eq}
use Rattle.std.proofs.lemmas.List.{take_more, take-append-drop}
use Rattle.ghs_node.specs.declared.message.Message.{Message}
use Rattle.ghs_node.specs.Kind.{kind_of, place_of}
use Rattle.ghs_node.specs.Words.{Outgoing}
use Rattle.ghs_protocol.specs.Ledger.{of_kind}
use Rattle.ghs_core.specs.Dispatch.{CountsSends, messages_of}

kinds_append : (k : ℕ) (a b : Outgoing) → of_kind k (messages_of (a ++ b)) ≡ of_kind k (messages_of a) + of_kind k (messages_of b)
kinds_append k [] b = omega arith
kinds_append k (s ∷ a) b = let rest = kinds_append k a b in omega (arith, rest)

kinds_front : (k i : ℕ) (ss : Outgoing) → of_kind k (messages_of (take i ss)) ≤ of_kind k (messages_of ss)
kinds_front k i ss =
    let both = kinds_append k (take i ss) (drop i ss) in
    let all : of_kind k (messages_of (take i ss ++ drop i ss)) ≡ of_kind k (messages_of ss) =
    ap (λ (s : Outgoing). of_kind k (messages_of s)) (take-append-drop i ss) in
    omega (arith, both, all)

-- the next message counts once for its own kind, and not for another
own_kind : (k : ℕ) (ss : Outgoing) (x : ℕ × Message) → k ≡ place_of (kind_of x.1) →
    of_kind k (messages_of (ss ++ x ∷ [])) ≡ of_kind k (messages_of ss) + 1
own_kind k ss x e =
    let both = kinds_append k ss (x ∷ []) in
    let one : ◌≡◌ {A = ℕ} (cond (place_of (kind_of x.1) == k) 1 0) 1 = rw (eq-eqb (place_of (kind_of x.1)) k (sym e)) refl in
    omega (arith, both, one)

other_kind : (k : ℕ) (ss : Outgoing) (x : ℕ × Message) → k ≢ place_of (kind_of x.1) →
    of_kind k (messages_of (ss ++ x ∷ [])) ≡ of_kind k (messages_of ss)
other_kind k ss x ne =
    let both = kinds_append k ss (x ∷ []) in
    let none : ◌≡◌ {A = ℕ} (cond (place_of (kind_of x.1) == k) 1 0) 0 = rw (ne_eqb (place_of (kind_of x.1)) k (λ z. ne (sym z))) refl in
    omega (arith, both, none)

-- there is one more of its kind than before it
pub one_more : (i k : ℕ) (ss : Outgoing) (d x : ℕ × Message) → i < length ss → x ≡ get_or ss i d → k ≡ place_of (kind_of x.1) →
    of_kind k (messages_of (take i ss)) + 1 ≤ of_kind k (messages_of ss)
one_more i k ss d x lt is e =
    let own = own_kind k (take i ss) x e in
    let next : of_kind k (messages_of (take (i + 1) ss)) ≡ of_kind k (messages_of (take i ss ++ x ∷ [])) =
    ap (λ (s : Outgoing). of_kind k (messages_of s)) (take_more ss i d lt ∙ ap (λ (y : ℕ × Message). take i ss ++ y ∷ []) (sym is)) in
    let front = kinds_front k (i + 1) ss in
    omega (arith, own, next, front)

-- one message more is counted
pub counts_more : (i k : ℕ) (ss : Outgoing) (d x : ℕ × Message) (old now : List ℕ) → length now ≡ 7 → i < length ss → x ≡ get_or ss i d →
    k ≡ place_of (kind_of x.1) → k < 7 → CountsSends (take i ss) old now → CountsSends (take (i + 1) ss) old (set now k (get_or now k 0 + 1))
counts_more i k ss d x old now seven lt is e small counts j below = rw (take_more ss i d lt, sym is) (⊎_elim hit miss (cases_eq j k))
  where
    had : get_or now j 0 ≡ get_or old j 0 + of_kind j (messages_of (take i ss))
    had = counts j below

    hit : j ≡ k → get_or (set now k (get_or now k 0 + 1)) j 0 ≡ get_or old j 0 + of_kind j (messages_of (take i ss ++ x ∷ []))
    hit z =
        let put : get_or (set now k (get_or now k 0 + 1)) j 0 ≡ get_or now j 0 + 1 =
        rw z (get_or-set_same now k (get_or now k 0 + 1) 0 (omega (arith, seven, small))) in
        let own = own_kind j (take i ss) x (z ∙ e) in
        omega (arith, put, own, had)

    miss : j ≢ k → get_or (set now k (get_or now k 0 + 1)) j 0 ≡ get_or old j 0 + of_kind j (messages_of (take i ss ++ x ∷ []))
    miss ne =
        let kept : get_or (set now k (get_or now k 0 + 1)) j 0 ≡ get_or now j 0 = get_or-set_other now k j (get_or now k 0 + 1) 0 ne in
        let other = other_kind j (take i ss) x (λ z. ne (z ∙ sym e)) in
        omega (arith, kept, other, had)
