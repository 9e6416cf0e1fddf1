-- How a search ends, how a core begins: the rules' cases.
use Rattle.std.proofs.Common.{◌≡◌, ◌≢◌, ℕ, suc, ◌+◌, ◌<◌, ◌≤◌, ◌&&◌, Bool, true, false, None, refl, ◌∙◌, ne_eqb, arith, add-one}
use Rattle.std.proofs.lemmas.Bool.{eq-eqb, lt-ltb, le-ltb, lt-leb}
use Rattle.ghs_graph.specs.declared.key.Key.{Key}
use Rattle.ghs_graph.specs.Ports.{far_end}
use Rattle.boruvka_node.specs.declared.message.Phase.TheVariants.{Sleeping, Search, Rest}
use Rattle.boruvka_node.specs.declared.message.Phase.{Phase}
use Rattle.boruvka_node.specs.Words.{is_search}
use Rattle.boruvka_node.specs.State.{State, key_at, missing}
use Rattle.boruvka_node.specs.Reaction.{GoingOut, silent, reports, rested, closes_by, enters, core}

not_search : (p : Phase) → p ≢ Search → is_search p ≡ false
not_search Sleeping ne = refl
not_search Search ne = absurd (ne refl)
not_search Rest ne = refl

and_false : (b : Bool) → (b && false) ≡ false
and_false true = refl
and_false false = refl

module _ (n : State) (go : GoingOut) where
  pub closes_over : n.head.phase ≡ Search → missing n ≡ 0 → closes_by go n ≡ reports go (rested n) n.head.parent
  closes_over s m = rw (s, m) refl

  pub closes_at_rest : n.head.phase ≢ Search → closes_by go n ≡ silent n
  closes_at_rest ne = rw (not_search n.head.phase ne) refl

  pub closes_later : missing n ≢ 0 → closes_by go n ≡ silent n
  closes_later ne = rw (ne_eqb (missing n) 0 ne, and_false (is_search n.head.phase)) refl

pub far_is_b : (v far : ℕ) (k : Key) → k.a ≡ v → far ≡ k.b → far ≡ far_end v k
far_is_b v far k here end = rw (end, eq-eqb k.a v here) refl

pub far_is_a : (v far : ℕ) (k : Key) → k.a ≢ v → far ≡ k.a → far ≡ far_end v k
far_is_a v far k other end = rw (end, ne_eqb k.a v other) refl

module _ (n : State) (p : ℕ) where
  pub core_enters : n.number < far_end n.number (key_at n p) → core n p ≡ enters n (suc n.head.level) (key_at n p) None
  core_enters lt = rw (lt-ltb _ _ lt) refl

  -- the same by what the code has read
  pub core_begins : (k : Key) (v far l : ℕ) → k ≡ key_at n p → v ≡ n.number → far ≡ far_end v k → v < far → l ≡ n.head.level + 1
      → core n p ≡ enters n l k None
  core_begins k v far l key number end less level =
      let lesser : n.number < far_end n.number (key_at n p) = rw (← key, ← number, ← end) less in
      core_enters lesser ∙ rw (level ∙ add-one n.head.level, key) refl

  pub core_waits : far_end n.number (key_at n p) ≤ n.number → core n p ≡ silent n
  core_waits le = rw (le-ltb _ _ le) refl

  pub core_too_high : 20 ≤ n.head.level → n.number < far_end n.number (key_at n p) → core n p ≡ None
  core_too_high top lt = let above : 20 < suc n.head.level = omega arith in rw (lt-ltb _ _ lt, lt-leb (suc n.head.level) 20 above) refl
