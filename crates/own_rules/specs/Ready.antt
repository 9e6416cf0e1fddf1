-- Reactions made ready: what an answer does, by numbers.
use Rattle.std.specs.Prelude.{◌≡◌, ℕ, ◌-◌, ◌≤◌, false, slice_get, true, List, Option, Some}
use Rattle.own_book.specs.Answer.{Saying, saying}
use Rattle.own_book.specs.Entry.{Entry}
use Rattle.own_rules.specs.Deed.{Deed, cost, deed_said}
use Rattle.own_rules.specs.Questions.{asked_for, asks}
use Rattle.own_rules.specs.Rules.{sends_by, state_by, waits_by}
use Rattle.own_rules.specs.Texts.{Text}
use Rattle.own_rules.specs.declared.node.Allowance.{Allowance}
use Rattle.own_rules.specs.declared.node.Lookup.{Lookup}
use Rattle.own_rules.specs.declared.node.State.TheVariants.{Runs}
use Rattle.own_rules.specs.declared.ready.Ready.{Ready}

-- what a node with this allowance pays for it
abbrev pub price : Allowance → Ready → ℕ
price left r = cost left r.waits r.sends.items

-- by this deed a node with this allowance can pay, and does just what is ready
pub record Does (texts : List Text) (r : Ready) (left : Allowance) (d : Deed) : Type 0 where
  pub pays : price left r ≤ left.messages
  pub state : (l : Lookup) → state_by texts l d ≡ Runs r.after false (record left { messages = left.messages - price left r })
  pub sends : sends_by texts d ≡ r.sends.items
  pub waits : waits_by d ≡ r.waits

-- so does each node that has ports enough, and can pay
abbrev pub IsReady : List Text → Text → Option Saying → Ready → Type 0
IsReady texts kinds said r =
    (ports : ℕ) (left : Allowance) → r.ports ≤ ports → price left r ≤ left.messages → Does texts r left (deed_said kinds ports left said)

-- whatever the entry answers
abbrev pub AnswersSo : List Text → Text → Entry → Ready → Type 0
AnswersSo texts kinds e r = (l : Lookup) → asks texts l e ≡ true → IsReady texts kinds (saying (asked_for l) e.answer) r

-- of each entry what is ready, if anything is
abbrev pub AreReady : List Text → Text → List Entry → List (Option Ready) → Type 0
AreReady texts kinds book all =
    (i : ℕ) (e : Entry) (r : Ready) → slice_get book i ≡ Some e → slice_get all i ≡ Some (Some r) → AnswersSo texts kinds e r
