-- What verdicts mean.
use Rattle.std.proofs.Common.{◌≡◌, ℕ, zero, suc, ◌+◌, ◌-◌, ◌<◌, List, [], ◌∷◌, ◌++◌, length, get_or, replicate, refl, sym, ap, subst, arith}
use Rattle.std.specs.Prelude.{slice_set}
use Rattle.ghs_graph.specs.Graph.{Shape}
use Rattle.own_book.specs.Entry.{Entry}
use Rattle.own_judge.proofs.Cases.{silent_own}
use Rattle.own_judge.specs.Laws.{AgreesAt, Behind, IsFirstOther, MeansVerdict}
use Rattle.own_judge.specs.Look.{asking, greeting_of, look_at}
use Rattle.own_judge.specs.Verdict.{Agreed, Differed, Failed, behind_greeting, looks, looks_behind, own_after, own_at, verdict_from}
use Rattle.own_judge.specs.declared.look.Amiss.{Amiss}
use Rattle.own_judge.specs.declared.look.Difference.{Difference}
use Rattle.own_judge.specs.declared.look.Greeting.{Greeting}
use Rattle.own_judge.specs.declared.look.Greeting.TheVariants as greeting
use Rattle.own_judge.specs.declared.look.Look.{Look}
use Rattle.own_judge.specs.declared.look.Look.TheVariants as look
use Rattle.own_judge.specs.declared.look.Own.{Own}
use Rattle.own_judge.specs.declared.look.Own.TheVariants as own
use Rattle.peer_network.specs.declared.event.Event.{Event}
use Rattle.peer_network.specs.Events.{event_node}

-- of each node something is known
abbrev Alert : List Own → Type 0
Alert owns = (i : ℕ) → get_or owns i own.Unopened ≡ own.Unknown → ⊥

alert_set : (owns : List Own) (i : ℕ) (s : List ℕ) → Alert owns → Alert (slice_set owns i (own.Known s))
alert_set [] i s h j e = h j e
alert_set (x ∷ xs) zero s h zero e = cc
alert_set (x ∷ xs) zero s h (suc j) e = h (suc j) e
alert_set (x ∷ xs) (suc i) s h zero e = h zero e
alert_set (x ∷ xs) (suc i) s h (suc j) e = alert_set xs i s (λ k. h (suc k)) j e

alert_opening : (n : ℕ) → Alert (replicate n own.Unopened)
alert_opening zero i e = cc
alert_opening (suc n) zero e = cc
alert_opening (suc n) (suc i) e = alert_opening n i e

-- nothing is silent before an event that doesn't agree
abbrev Proper : List Look → Type 0
Proper [] = Unit {0}
Proper (look.Agrees s ∷ ls) = Proper ls
Proper (look.Open q ∷ ls) = Unit {0}
Proper (look.Silent ∷ ls) = ⊥
Proper (look.Fails a ∷ ls) = Unit {0}
Proper (look.Differs d ∷ ls) = Unit {0}

proper_first : (l : Look) (ls : List Look) → (l ≡ look.Silent → ⊥) → ((s : List ℕ) → l ≡ look.Agrees s → Proper ls) → Proper (l ∷ ls)
proper_first (look.Agrees s) ls h rest = rest s refl
proper_first (look.Open q) ls h rest = tt
proper_first look.Silent ls h rest = h refl
proper_first (look.Fails a) ls h rest = tt
proper_first (look.Differs d) ls h rest = tt

proper : (book : List Entry) (kinds : List ℕ) (g : Shape) (done : List Event) (owns : List Own) (es : List Event) → Alert owns →
    Proper (looks_behind book kinds g done owns es)
proper book kinds g done owns [] h = tt
proper book kinds g done owns (e ∷ es) h =
    let l = look_at book kinds g done e (own_at owns (event_node e)) in
    proper_first l (looks_behind book kinds g (done ++ e ∷ []) (slice_set owns (event_node e - 1) (own_after l)) es)
    (λ is. h (event_node e - 1) (silent_own book (asking kinds g done e) (own_at owns (event_node e)) is))
    (λ s is.
    subst (λ m. Proper (looks_behind book kinds g (done ++ e ∷ []) (slice_set owns (event_node e - 1) (own_after m)) es)) (sym is)
    (proper book kinds g (done ++ e ∷ []) (slice_set owns (event_node e - 1) (own.Known s)) es
    (alert_set owns (event_node e - 1) s h)))

looks_many : (book : List Entry) (kinds : List ℕ) (g : Shape) (done : List Event) (owns : List Own) (es : List Event) →
    length (looks_behind book kinds g done owns es) ≡ length es
looks_many book kinds g done owns [] = refl
looks_many book kinds g done owns (e ∷ es) =
    let l = look_at book kinds g done e (own_at owns (event_node e)) in
    ap suc (looks_many book kinds g (done ++ e ∷ []) (slice_set owns (event_node e - 1) (own_after l)) es)

agreed_all : (ls : List Look) (k : ℕ) → Proper ls → verdict_from k ls ≡ Agreed → (j : ℕ) → j < length ls → AgreesAt ls j
agreed_all [] k p h j lt = absurd (omega arith)
agreed_all (look.Agrees s ∷ ls) k p h zero lt = (s, refl)
agreed_all (look.Agrees s ∷ ls) k p h (suc j) lt = agreed_all ls (k + 1) p h j (omega arith)
agreed_all (look.Open q ∷ ls) k p h j lt = cc
agreed_all (look.Silent ∷ ls) k p h j lt = absurd p
agreed_all (look.Fails a ∷ ls) k p h j lt = cc
agreed_all (look.Differs d ∷ ls) k p h j lt = cc

before_more : (s : List ℕ) (ls : List Look) (i : ℕ) → ((j : ℕ) → j < i → AgreesAt ls j) → (j : ℕ) → j < suc i → AgreesAt (look.Agrees s ∷ ls) j
before_more s ls i h zero lt = (s, refl)
before_more s ls i h (suc j) lt = h j (omega arith)

-- where the list has its first event that doesn't agree
record Found (ls : List Look) (k j : ℕ) (l : Look) : Type 0 where
  place : ℕ
  counted : j ≡ k + place
  first : IsFirstOther ls place l

found_more : (s : List ℕ) (ls : List Look) (k j : ℕ) (l : Look) → Found ls (k + 1) j l → Found (look.Agrees s ∷ ls) k j l
found_more s ls k j l f = let counted = f.counted in record {
  place = suc f.place;
  counted = omega arith;
  first = record { before = before_more s ls f.place f.first.before; here = f.first.here };
}

found_here : (l : Look) (ls : List Look) (k j : ℕ) → j ≡ k → Found (l ∷ ls) k j l
found_here l ls k j e = record { place = 0; counted = omega arith; first = record { before = λ i lt. absurd (omega arith); here = refl } }

failed_at : (ls : List Look) (k j : ℕ) (a : Amiss) → Proper ls → verdict_from k ls ≡ Failed j a → Found ls k j (look.Fails a)
failed_at [] k j a p h = cc
failed_at (look.Agrees s ∷ ls) k j a p h = found_more s ls k j (look.Fails a) (failed_at ls (k + 1) j a p h)
failed_at (look.Open q ∷ ls) k j a p h = cc
failed_at (look.Silent ∷ ls) k j a p h = absurd p
failed_at (look.Fails b ∷ ls) k j a p h =
    let same : b ≡ a = cc in
    let here : j ≡ k = cc in
    subst (λ (x : Amiss). Found (look.Fails b ∷ ls) k j (look.Fails x)) same (found_here (look.Fails b) ls k j here)
failed_at (look.Differs d ∷ ls) k j a p h = cc

differed_at : (ls : List Look) (k j : ℕ) (d : Difference) → Proper ls → verdict_from k ls ≡ Differed j d → Found ls k j (look.Differs d)
differed_at [] k j d p h = cc
differed_at (look.Agrees s ∷ ls) k j d p h = found_more s ls k j (look.Differs d) (differed_at ls (k + 1) j d p h)
differed_at (look.Open q ∷ ls) k j d p h = cc
differed_at (look.Silent ∷ ls) k j d p h = absurd p
differed_at (look.Fails b ∷ ls) k j d p h = cc
differed_at (look.Differs b ∷ ls) k j d p h =
    let same : b ≡ d = cc in
    let here : j ≡ k = cc in
    subst (λ (x : Difference). Found (look.Differs b ∷ ls) k j (look.Differs x)) same (found_here (look.Differs b) ls k j here)

first_other : (ls : List Look) (j : ℕ) (l : Look) → Found ls 0 j l → IsFirstOther ls j l
first_other ls j l f =
    let counted = f.counted in
    let is : f.place ≡ j = omega arith in
    subst (λ i. IsFirstOther ls i l) is f.first

module _ (book : List Entry) (g : Shape) (es : List Event) where
  all_proper : (kinds : List ℕ) → Proper (looks book kinds g es)
  all_proper kinds = proper book kinds g [] (replicate g.nodes own.Unopened) es (alert_opening g.nodes)

  agreed_by : (gr : Greeting) → greeting_of book ≡ gr → behind_greeting book g es gr ≡ Agreed →
      Behind book g es (λ ls. (k : ℕ) → k < length es → AgreesAt ls k)
  agreed_by (greeting.Kinds kinds) is h =
      let many : length (looks book kinds g es) ≡ length es = looks_many book kinds g [] (replicate g.nodes own.Unopened) es in
      record { kinds = kinds; greets = is; holds = λ k lt. agreed_all (looks book kinds g es) 0 (all_proper kinds) h k (omega arith) }
  agreed_by (greeting.Open q) is h = cc
  agreed_by (greeting.Fails a) is h = cc

  failed_by : (k : ℕ) (a : Amiss) (gr : Greeting) → greeting_of book ≡ gr → behind_greeting book g es gr ≡ Failed k a →
      Behind book g es (λ ls. IsFirstOther ls k (look.Fails a))
  failed_by k a (greeting.Kinds kinds) is h = record {
    kinds = kinds;
    greets = is;
    holds = first_other (looks book kinds g es) k (look.Fails a) (failed_at (looks book kinds g es) 0 k a (all_proper kinds) h);
  }
  failed_by k a (greeting.Open q) is h = cc
  failed_by k a (greeting.Fails b) is h = cc

  differed_by : (k : ℕ) (d : Difference) (gr : Greeting) → greeting_of book ≡ gr → behind_greeting book g es gr ≡ Differed k d →
      Behind book g es (λ ls. IsFirstOther ls k (look.Differs d))
  differed_by k d (greeting.Kinds kinds) is h = record {
    kinds = kinds;
    greets = is;
    holds = first_other (looks book kinds g es) k (look.Differs d) (differed_at (looks book kinds g es) 0 k d (all_proper kinds) h);
  }
  differed_by k d (greeting.Open q) is h = cc
  differed_by k d (greeting.Fails b) is h = cc

  pub means_verdict : MeansVerdict book g es
  means_verdict = record {
    agreed = agreed_by (greeting_of book) refl;
    failed = λ k a. failed_by k a (greeting_of book) refl;
    differed = λ k d. differed_by k d (greeting_of book) refl;
  }
