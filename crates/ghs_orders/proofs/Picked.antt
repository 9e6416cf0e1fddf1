-- What is picked in turn is a run, and where its laps stand.
use Rattle.std.proofs.Common.{◌≡◌, ℕ, suc, ◌+◌, ◌<◌, ◌≤◌, Bool, true, false, cond, nat_lt, Option, Some, None, IsSome, List, [], ◌∷◌, ◌++◌, refl, sym, ◌∙◌, ap, subst, ⊎_elim, arith, true≢false}
use Rattle.std.proofs.lemmas.Bool.{cases_Bool, lt-ltb, ltb-true}
use Rattle.ghs_graph.specs.Graph.{Shape, IsGraph}
use Rattle.peer_network.specs.declared.event.Event.{Event}
use Rattle.peer_network.specs.Network.{Network, network_of}
use Rattle.peer_index.specs.Places.{place}
use Rattle.ghs_protocol.specs.Laws.{IsNetOf}
use Rattle.ghs_protocol.specs.Net.{Net, effect, happens, is_lawful, is_lawful_under, opening}
use Rattle.ghs_protocol.specs.Run.{IsAfter, net_after}
use Rattle.ghs_protocol.specs.Steps.{Happens}
use Rattle.ghs_protocol.proofs.lemmas.Events.{happening}
use Rattle.ghs_protocol.proofs.lemmas.Laws.{events_have_rules}
use Rattle.ghs_protocol.proofs.lemmas.Runs.{after_more, lawful_under, net_after_is, net_after_more}
use Rattle.ghs_orders.specs.Laps.{laps_from}
use Rattle.ghs_orders.specs.Picks.{Begun, IsPickedInTurn, Picked}
use Rattle.ghs_orders.specs.Turns.{IsFirstFrom, IsNextInTurn, behind_from, place_behind}

-- Where laps stand behind one event more.
module _ (g : Network) where
  pub behind_more : (from : ℕ) (es : List Event) (e : Event) → behind_from g from (es ++ e ∷ []) ≡ suc (place g e)
  behind_more from [] e = refl
  behind_more from (f ∷ es) e = behind_more (suc (place g f)) es e

  abbrev one_if : ℕ → Event → ℕ
  one_if from e = cond (nat_lt (place g e) from) 1 0

  laps_more : (from : ℕ) (es : List Event) (e : Event) → laps_from g from (es ++ e ∷ []) ≡ laps_from g from es + one_if (behind_from g from es) e
  laps_more from [] e = omega arith
  laps_more from (f ∷ es) e = let r = laps_more (suc (place g f)) es e in omega (arith, r)

  one_if_not : (from : ℕ) (e : Event) → from ≤ place g e → one_if from e ≡ 0
  one_if_not from e le = ⊎_elim
      (λ (t : nat_lt (place g e) from ≡ true). absurd (let lt = ltb-true (place g e) from t in omega (arith, lt, le)))
      (λ (f : nat_lt (place g e) from ≡ false). ap (λ b. cond b 1 0) f)
      (cases_Bool (nat_lt (place g e) from))

  one_if_so : (from : ℕ) (e : Event) → place g e < from → one_if from e ≡ 1
  one_if_so from e lt = ap (λ b. cond b 1 0) (lt-ltb (place g e) from lt)

  -- an event in the same lap, and one that begins the next
  pub laps_same : (es : List Event) (e : Event) → place_behind g es ≤ place g e → laps_from g 0 (es ++ e ∷ []) ≡ laps_from g 0 es
  laps_same es e le = let a = laps_more 0 es e in let b = one_if_not (place_behind g es) e le in omega (arith, a, b)

  pub laps_next : (es : List Event) (e : Event) → place g e < place_behind g es → laps_from g 0 (es ++ e ∷ []) ≡ suc (laps_from g 0 es)
  laps_next es e lt = let a = laps_more 0 es e in let b = one_if_so (place_behind g es) e lt in omega (arith, a, b)

  -- the laps counted on
  pub laps_counted : (es : List Event) (e : Event) (begins : Bool) (laps next : ℕ) → laps ≡ suc (laps_from g 0 es) →
      begins ≡ nat_lt (place g e) (place_behind g es) → next ≡ laps + cond begins 1 0 → next ≡ suc (laps_from g 0 (es ++ e ∷ []))
  laps_counted es e begins laps next is test more =
      let a = laps_more 0 es e in
      let b : cond begins 1 0 ≡ one_if (place_behind g es) e = ap {B = ℕ} (λ t. cond t 1 0) test in
      omega (arith, a, b, is, more)

-- the next in turn is lawful
pub next_lawful : (may : ℕ → Bool) (g : Network) (w : Net) (from : ℕ) (e : Event) → IsNextInTurn may g w from e →
    is_lawful_under may g w e ≡ true
next_lawful may g w from e next = ⊎_elim (λ (a : IsFirstFrom may g w from e). a.lawful) (λ a. a.1.lawful) next

-- a lawful event leads to a net
pub leads_on : (g : Shape) (w : Net) (e : Event) → IsNetOf g w → is_lawful (network_of g) w e ≡ true → (x : Net) × Happens (network_of g) w e x
leads_on g w e n lawful = go (effect (network_of g) w e) refl (events_have_rules g w n e lawful)
  where
    go : (o : Option Net) → effect (network_of g) w e ≡ o → IsSome o → (x : Net) × Happens (network_of g) w e x
    go None is some = absurd (true≢false (sym some))
    go (Some x) is some =
        let h : happens (network_of g) w e ≡ Some x = ap (λ b. cond b (effect (network_of g) w e) None) lawful ∙ is in
        (x, happening (network_of g) w x e h)

module _ (may : ℕ → Bool) (g : Shape) (graph : IsGraph g) (turns : ℕ) where
  -- what is picked leads to its net
  pub picked_after : {es : List Event} → IsPickedInTurn may g turns es → IsAfter (network_of g) es (net_after g es)
  picked_after Begun = ap (λ (x : Net). Some x) (sym (net_after_is g [] (opening (network_of g)) refl))
  picked_after (Picked es e before going turn next) =
      let after = picked_after before in
      let w = net_after g es in
      let lawful = next_lawful may (network_of g) w (place_behind (network_of g) es) e next in
      let z = leads_on g w e (record { graph = graph; events = es; run = after }) ((lawful_under may (network_of g) w e).0 lawful).1 in
      subst (IsAfter (network_of g) (es ++ e ∷ [])) (sym (net_after_more g es e w z.0 after z.1)) (after_more (network_of g) es e w z.0 after z.1)

  module _ {es : List Event} (before : IsPickedInTurn may g turns es) where
    pub picked_net : IsNetOf g (net_after g es)
    picked_net = record { graph = graph; events = es; run = picked_after before }

    pub picked_more : (e : Event) → is_lawful_under may (network_of g) (net_after g es) e ≡ true →
        Happens (network_of g) (net_after g es) e (net_after g (es ++ e ∷ []))
    picked_more e lawful =
        let w = net_after g es in
        let z = leads_on g w e picked_net ((lawful_under may (network_of g) w e).0 lawful).1 in
        subst (Happens (network_of g) w e) (sym (net_after_more g es e w z.0 (picked_after before) z.1)) z.1
