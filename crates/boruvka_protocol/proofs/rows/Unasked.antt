-- No port of a node that enters is Asked any more, so that it meets no core where it goes out at once: its closing is one like any other.
use Rattle.std.proofs.Common.{◌≡◌, ℕ, zero, suc, ◌||◌, ◌&&◌, Bool, true, false, List, [], ◌∷◌, refl, cond}
use Rattle.std.specs.Prelude.{slice_index_or}
use Rattle.ghs_node.specs.Words.{is_at}
use Rattle.boruvka_node.specs.declared.change.Entry.{Entry}
use Rattle.boruvka_node.specs.declared.mark.Mark.{Mark}
use Rattle.boruvka_node.specs.declared.mark.Mark.TheVariants.{Basic, Asked, Branch, Inside}
use Rattle.boruvka_node.specs.declared.message.Message.TheVariants.{Connect}
use Rattle.boruvka_node.specs.declared.port_state.PortState.{PortState}
use Rattle.boruvka_node.specs.Words.{is_basic, is_asked}
use Rattle.boruvka_node.specs.State.{State, no_port, mark_at, was_heard}
use Rattle.boruvka_node.specs.Entering.{joined_mark, entered, entered_port, entered_from}
use Rattle.boruvka_node.specs.Reaction.{Outcome, rested}
use Rattle.boruvka_protocol.proofs.rows.Table.{gone, sends_one, Moving, Passes, Goes, Closing, Goes_on, Reports, Halts, Moves, Connecting, Connects}

joined_unasked : (b : Bool) (m : Mark) → is_asked (cond (b || is_asked m) Branch m) ≡ false
joined_unasked true m = refl
joined_unasked false Basic = refl
joined_unasked false Asked = refl
joined_unasked false Branch = refl
joined_unasked false Inside = refl

inside_unasked : (b : Bool) (m : Mark) → is_asked m ≡ false → is_asked (cond b Inside m) ≡ false
inside_unasked true m e = refl
inside_unasked false m e = e

port_unasked : (e : Entry) (p : ℕ) (x : PortState) → is_asked (entered_port e p x).mark ≡ false
port_unasked e p x =
    inside_unasked (is_basic (joined_mark e p x.mark) && was_heard e.level e.name x) (joined_mark e p x.mark) (joined_unasked (is_at e.out p) x.mark)

ports_unasked : (e : Entry) (q : ℕ) (xs : List PortState) (p : ℕ) → is_asked (slice_index_or (entered_from e q xs) p no_port).mark ≡ false
ports_unasked e q [] p = refl
ports_unasked e q (x ∷ xs) zero = port_unasked e q x
ports_unasked e q (x ∷ xs) (suc p) = ports_unasked e (suc q) xs p

pub entered_unasked : (n : State) (e : Entry) (p : ℕ) → is_asked (mark_at (entered n e) p) ≡ false
entered_unasked n e p = ports_unasked e 0 n.ports p

-- the Connect goes out where none has come
pub data Unmet (n : State) (p : ℕ) : Outcome → Type 0 where
  Unasked : is_asked (mark_at n p) ≡ false → Unmet n p (sends_one (gone n p) p (Connect n.head.level))

module _ (n : State) (unasked : (p : ℕ) → is_asked (mark_at n p) ≡ false) where
  moves_unasked : (p : ℕ) (o : Outcome) → Moving Connecting (rested n) p o → Moving Unmet (rested n) p o
  moves_unasked p _ (Passes b) = Passes b
  moves_unasked p _ (Goes plain Connects) = Goes plain (Unasked (unasked p))

  pub closes_unasked : (o : Outcome) → Closing Connecting n o → Closing Unmet n o
  closes_unasked _ (Goes_on over) = Goes_on over
  closes_unasked _ (Reports p over up) = Reports p over up
  closes_unasked _ (Halts over up none) = Halts over up none
  closes_unasked o (Moves b over up e h) = Moves b over up e (moves_unasked b.0 o h)
