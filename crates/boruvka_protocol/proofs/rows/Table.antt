-- The table as a relation: each row by what makes it apply, and what it leads to.
use Rattle.std.specs.Prelude.{◌≡◌, ℕ, suc, ◌≤◌, ◌==◌, nat_lt, true, false, Option, Some, None, [], ◌∷◌, ◌++◌}
use Rattle.ghs_graph.specs.declared.key.Key.{Key}
use Rattle.ghs_graph.specs.Ports.{far_end}
use Rattle.ghs_node.specs.declared.level.TheConstants.{TOP_LEVEL}
use Rattle.ghs_node.specs.Words.{is_at, best_key}
use Rattle.peer_machine.specs.Rules.{Outgoing}
use Rattle.boruvka_node.specs.declared.change.Entry.{Entry}
use Rattle.boruvka_node.specs.declared.mark.Mark.TheVariants.{Asked, Branch}
use Rattle.boruvka_node.specs.declared.message.Message.{Message}
use Rattle.boruvka_node.specs.declared.message.Message.TheVariants.{Connect, Initiate, Name, Report, ChangeRoot}
use Rattle.boruvka_node.specs.Words.{is_basic, is_asked, is_branch, is_search, is_rest}
use Rattle.boruvka_node.specs.State.{State, degree, key_at, port_at, mark_at, set_port, set_mark, name_of}
use Rattle.boruvka_node.specs.Entering.{entered, told_from}
use Rattle.boruvka_node.specs.Reaction.{Outcome, is_over, rested, halted, woken, is_next_name, heard, reported}

-- these go out before
abbrev pub said : Outgoing Message → Outcome → Outcome
said ss o = record o { sends = ss ++ o.sends }

-- the node stays as it is, and nothing goes out
abbrev pub still : State → Outcome
still n = record { state = n; sends = [] }

-- one message goes out
abbrev pub sends_one : State → ℕ → Message → Outcome
sends_one n p m = record { state = n; sends = (p, m) ∷ [] }

-- the node has gone out over a port
abbrev pub gone : State → ℕ → State
gone n p = record n { head = record n.head { out = Some p } }

-- as root of the next level, over the core at a port
abbrev pub core_entry : State → ℕ → Entry
core_entry n p = record { level = suc n.head.level; name = key_at n p; parent = None; out = n.head.out }

-- called over a port
abbrev pub call_entry : State → ℕ → ℕ → Key → Entry
call_entry n j l f = record { level = l; name = f; parent = Some j; out = n.head.out }

-- the sender of a late Connect has become a child, and is called
abbrev pub adopted : State → ℕ → State
adopted n j = set_port n j (record (port_at n j) { mark = Branch; owes = true })

-- moves, where G is what going out leads to
pub data Moving (G : State → ℕ → Outcome → Type 0) (n : State) (p : ℕ) : Outcome → Type 0 where
  Passes : is_branch (mark_at n p) ≡ true → Moving G n p (sends_one n p ChangeRoot)
  Goes : {o : Outcome} → is_branch (mark_at n p) ≡ false → G n p o → Moving G n p o

-- close
pub data Closing (G : State → ℕ → Outcome → Type 0) (n : State) : Outcome → Type 0 where
  Goes_on : is_over n ≡ false → Closing G n (still n)
  Reports : (p : ℕ) → is_over n ≡ true → n.head.parent ≡ Some p →
      Closing G n (sends_one (rested n) p (Report (best_key (rested n).head.best)))
  Halts : is_over n ≡ true → n.head.parent ≡ None → (rested n).head.best ≡ None → Closing G n (still (halted (rested n)))
  Moves : {o : Outcome} (b : ℕ × Key) → is_over n ≡ true → n.head.parent ≡ None → (rested n).head.best ≡ Some b →
      Moving G (rested n) b.0 o → Closing G n o

-- the Connect goes out, and no Connect has come there
pub data Connecting (n : State) (p : ℕ) : Outcome → Type 0 where
  Connects : Connecting n p (sends_one (gone n p) p (Connect n.head.level))

-- enters; no port is Asked any more, so that the node meets no core where it goes out at once
pub data Entering (n : State) (e : Entry) : Outcome → Type 0 where
  Enters : {o : Outcome} → e.level ≤ TOP_LEVEL → Closing Connecting (entered n e) o → Entering n e (said (told_from e 0 n.ports) o)

-- core: the greater end waits, and the lesser one enters
pub data Meeting (n : State) (p : ℕ) : Outcome → Type 0 where
  Waits : nat_lt n.number (far_end n.number (key_at n p)) ≡ false → Meeting n p (still n)
  Begins : {o : Outcome} → nat_lt n.number (far_end n.number (key_at n p)) ≡ true → Entering n (core_entry n p) o → Meeting n p o

-- goes out
pub data Going (n : State) (p : ℕ) : Outcome → Type 0 where
  Goes_out : is_asked (mark_at n p) ≡ false → Going n p (sends_one (gone n p) p (Connect n.head.level))
  Meets : {o : Outcome} → is_asked (mark_at n p) ≡ true → Meeting (gone n p) p o → Going n p (said ((p, Connect n.head.level) ∷ []) o)

-- to wake
pub data Waking (n : State) : Outcome → Type 0 where
  Alone : (degree n == 0) ≡ true → Waking n (still (halted (woken n)))
  Wakes : {o : Outcome} → (degree n == 0) ≡ false → Connecting (woken n) 0 o → Waking n o

-- a message at port j of a node that is awake
pub data Row (n : State) (j : ℕ) : Message → Outcome → Type 0 where
  Noted : {l : ℕ} → l ≡ n.head.level → is_at n.head.out j ≡ false → Row n j (Connect l) (still (set_mark n j Asked))
  Met : {l : ℕ} {o : Outcome} → l ≡ n.head.level → is_at n.head.out j ≡ true → Meeting (set_mark n j Asked) j o → Row n j (Connect l) o
  Late : {l : ℕ} → suc l ≡ n.head.level → is_basic (mark_at n j) ≡ true → is_search n.head.phase ≡ true →
      Row n j (Connect l) (sends_one (adopted n j) j (Initiate n.head.level (name_of n.head)))
  Called : {l : ℕ} {f : Key} {o : Outcome} → is_rest n.head.phase ≡ true → l ≡ suc n.head.level → Entering n (call_entry n j l f) o →
      Row n j (Initiate l f) o
  Named : {l : ℕ} {f : Key} {o : Outcome} → is_next_name n j l ≡ true → Closing Going (heard n j l f) o → Row n j (Name l f) o
  Told : {k : Option Key} {o : Outcome} → (port_at n j).owes ≡ true → Closing Going (reported n j k) o → Row n j (Report k) o
  Moved : {o : Outcome} (b : ℕ × Key) → n.head.best ≡ Some b → Moving Going n b.0 o → Row n j ChangeRoot o
