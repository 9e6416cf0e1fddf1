-- What the impl proves: a message has the name of its kind, and a port that a change doesn't touch keeps its mark.
use Rattle.std.proofs.Common.{◌≡◌, ℕ, true, false, List, slice_index_or, slice_set, Option, Some, None, refl, ap}
use Rattle.std.proofs.lemmas.Bool.{eqb-false, true≢false}
use Rattle.std.proofs.lemmas.List.{get_or-set_other}
use Rattle.boruvka_node.specs.declared.change.Change.{Change}
use Rattle.boruvka_node.specs.declared.change.Entry.{Entry}
use Rattle.boruvka_node.specs.declared.port_state.PortState.{PortState}
use Rattle.boruvka_node.specs.Entering.{after, with_entry, with_port}
use Rattle.boruvka_node.specs.State.{State, no_port}
use Rattle.boruvka_node.specs.declared.message.Message.{Message}
use Rattle.boruvka_node.specs.declared.message.Message.TheVariants.{Connect, Initiate, Name, Report, ChangeRoot}
use Rattle.boruvka_node.specs.Boruvka.{boruvka}
use Rattle.boruvka.specs.Words.{kind_word, mark_of, mark_word, says, touched_by, touched_of}
use Rattle.peer_words.specs.Touched.{is_touched}

kept : (ps : List PortState) (x : Option (ℕ × PortState)) (o : Option Entry) (p : ℕ) → is_touched (touched_of x o) p ≡ false →
    slice_index_or (with_entry (with_port ps x) o) p no_port ≡ slice_index_or ps p no_port
kept ps x (Some e) p h = absurd (true≢false h)
kept ps None None p h = refl
kept ps (Some x) None p h = get_or-set_other ps x.0 p x.1 no_port (eqb-false p x.0 h)

pub named : (m : Message) → (says m).kind ≡ kind_word (boruvka.kind_of m)
named (Connect l) = refl
named (Initiate l f) = refl
named (Name l f) = refl
named (Report w) = refl
named ChangeRoot = refl

pub keeps : (n : State) (c : Change) (p : ℕ) → is_touched (touched_by c) p ≡ false → mark_of (after n c).ports p ≡ mark_of n.ports p
keeps n c p h = ap (λ (x : PortState). mark_word x.mark) (kept n.ports c.port c.entry p h)
