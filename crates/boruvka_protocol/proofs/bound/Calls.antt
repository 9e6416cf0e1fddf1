-- What waits at a port, counted by kind: one Initiate at most and one ChangeRoot, never both, and with each its clauses.
use Rattle.std.proofs.Common.{◌≡◌, ℕ, ◌+◌, ◌≤◌, ◌==◌, Bool, true, false, List, [], ◌∷◌, length, cond, refl, arith}
use Rattle.ghs_graph.specs.declared.key.Key.{Key}
use Rattle.peer_machine.specs.Ledger.{of_kind}
use Rattle.peer_machine.specs.Rules.{Outgoing, messages}
use Rattle.boruvka_node.specs.declared.message.Message.{Message}
use Rattle.boruvka_node.specs.declared.message.Message.TheVariants.{Connect, Initiate, Name, Report, ChangeRoot}
use Rattle.boruvka_node.specs.Boruvka.{boruvka}
use Rattle.boruvka_protocol.proofs.invariant.Sides.{Side, names_in, calls_in}
use Rattle.boruvka_protocol.proofs.invariant.TreeMessages.{CallFits, PassFits, CallsFit, Nothing, Chosen, Called, Chosen_called, Reported, Passed}
use Rattle.boruvka_protocol.proofs.rows.Sends.{sent_on}

-- Initiates and ChangeRoots among messages
abbrev pub calls : List Message → ℕ
calls q = of_kind boruvka 1 q

abbrev pub passes : List Message → ℕ
passes q = of_kind boruvka 4 q

pub names_counted : (q : List Message) → length (names_in q) ≡ of_kind boruvka 2 q
names_counted [] = refl
names_counted (Connect l ∷ q) = omega (arith, names_counted q)
names_counted (Initiate l f ∷ q) = omega (arith, names_counted q)
names_counted (Name l f ∷ q) = omega (arith, names_counted q)
names_counted (Report k ∷ q) = omega (arith, names_counted q)
names_counted (ChangeRoot ∷ q) = omega (arith, names_counted q)

calls_counted : (q : List Message) → calls (calls_in q) ≡ calls q
calls_counted [] = refl
calls_counted (Connect l ∷ q) = omega (arith, calls_counted q)
calls_counted (Initiate l f ∷ q) = omega (arith, calls_counted q)
calls_counted (Name l f ∷ q) = omega (arith, calls_counted q)
calls_counted (Report k ∷ q) = omega (arith, calls_counted q)
calls_counted (ChangeRoot ∷ q) = omega (arith, calls_counted q)

passes_counted : (q : List Message) → passes (calls_in q) ≡ passes q
passes_counted [] = refl
passes_counted (Connect l ∷ q) = omega (arith, passes_counted q)
passes_counted (Initiate l f ∷ q) = omega (arith, passes_counted q)
passes_counted (Name l f ∷ q) = omega (arith, passes_counted q)
passes_counted (Report k ∷ q) = omega (arith, passes_counted q)
passes_counted (ChangeRoot ∷ q) = omega (arith, passes_counted q)

module _ (ks : List Key) (e f : Side) where
  -- an Initiate that waits, with its level and name
  pub record Call : Type 0 where
    pub level : ℕ
    pub name : Key
    pub fits : CallFits ks level name e f

  call_of : (q : List Message) → CallsFit ks e f q → 1 ≤ calls q → Call
  call_of _ Nothing lt = absurd (omega (arith, lt))
  call_of _ (Chosen m c) lt = absurd (omega (arith, lt))
  call_of _ (Called l name c) lt = record { level = l; name = name; fits = c }
  call_of _ (Chosen_called m l name c d) lt = record { level = l; name = name; fits = d }
  call_of _ (Reported least c) lt = absurd (omega (arith, lt))
  call_of _ (Passed c) lt = absurd (omega (arith, lt))

  pass_of : (q : List Message) → CallsFit ks e f q → 1 ≤ passes q → PassFits ks e f
  pass_of _ Nothing lt = absurd (omega (arith, lt))
  pass_of _ (Chosen m c) lt = absurd (omega (arith, lt))
  pass_of _ (Called l name c) lt = absurd (omega (arith, lt))
  pass_of _ (Chosen_called m l name c d) lt = absurd (omega (arith, lt))
  pass_of _ (Reported least c) lt = absurd (omega (arith, lt))
  pass_of _ (Passed c) lt = c

  one_of : (q : List Message) → CallsFit ks e f q → calls q + passes q ≤ 1
  one_of _ Nothing = omega arith
  one_of _ (Chosen m c) = omega arith
  one_of _ (Called l name c) = omega arith
  one_of _ (Chosen_called m l name c d) = omega arith
  one_of _ (Reported least c) = omega arith
  one_of _ (Passed c) = omega arith

  -- of a whole queue
  pub call_waits : (q : List Message) → CallsFit ks e f (calls_in q) → 1 ≤ calls q → Call
  call_waits q c lt = call_of (calls_in q) c (omega (arith, lt, calls_counted q))

  pub pass_waits : (q : List Message) → CallsFit ks e f (calls_in q) → 1 ≤ passes q → PassFits ks e f
  pass_waits q c lt = pass_of (calls_in q) c (omega (arith, lt, passes_counted q))

  pub one_waits : (q : List Message) → CallsFit ks e f (calls_in q) → calls q + passes q ≤ 1
  one_waits q c = omega (arith, one_of (calls_in q) c, calls_counted q, passes_counted q)

-- of what goes out on one port there is no more than of all
pub sent_on_few : (k : ℕ) (ss : Outgoing Message) (i : ℕ) → of_kind boruvka k (sent_on ss i) ≤ of_kind boruvka k (messages ss)
sent_on_few k [] i = omega arith
sent_on_few k (s ∷ ss) i = go (s.0 == i) (sent_on_few k ss i)
  where
    go : (b : Bool) → of_kind boruvka k (sent_on ss i) ≤ of_kind boruvka k (messages ss) →
        of_kind boruvka k (cond b (s.1 ∷ sent_on ss i) (sent_on ss i)) ≤ of_kind boruvka k (messages (s ∷ ss))
    go true rest = omega (arith, rest)
    go false rest = omega (arith, rest)

-- a ChangeRoot on another port isn't on this one
pub pass_elsewhere : (p i : ℕ) → 1 ≤ passes (sent_on ((p, ChangeRoot) ∷ []) i) → (p == i) ≡ true
pass_elsewhere p i = go (p == i)
  where
    go : (b : Bool) → 1 ≤ passes (cond b (ChangeRoot ∷ []) []) → b ≡ true
    go true lt = refl
    go false lt = absurd (omega (arith, lt))
