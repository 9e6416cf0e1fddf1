-- The laws of Spoken, with their proofs. Nothing here has to be believed.
use Rattle.std.proofs.Common.{◌≡◌, ℕ, Bool, true, false, List, Option, Some, None, refl, ap}
use Rattle.std.proofs.lemmas.Bool.{eqb-false, true≢false}
use Rattle.std.proofs.lemmas.List.{get_or-set_other}
use Rattle.ghs_graph.specs.declared.key.Key.{Key}
use Rattle.peer_words.specs.Touched.{is_touched}
use Rattle.gather_node.specs.declared.change.Change.{Change}
use Rattle.gather_node.specs.declared.message.Message.{Message}
use Rattle.gather_node.specs.declared.message.Message.TheVariants.{Explore, Back, Tree}
use Rattle.gather_node.specs.Gather.{gather}
use Rattle.gather_node.specs.State.{State, after, with_brought, with_forgotten, with_tree}
use Rattle.gather.specs.Words.{kind_word, mark_by, mark_of, says, touched_by, touched_of}
use Rattle.std.specs.Prelude.{codes, if◌then◌else◌, is_none, not, slice_index_or}

pub named : (m : Message) → (says m).kind ≡ kind_word (gather.kind_of m)
named (Explore x) = refl
named (Back x ks) = refl
named (Tree ks) = refl

kept : (f : Bool) (x : Option (ℕ × List Key)) (t : Option (List Key)) (keys : List Key) (bs : List (Option (List Key))) (ms : List Bool) (p : ℕ) →
    is_touched (touched_of f x t) p ≡ false →
    mark_by (with_tree t keys ms) (with_brought x (with_forgotten f keys bs)) p ≡ mark_by ms bs p
kept true x t keys bs ms p h = absurd (true≢false h)
kept false x (Some ks) keys bs ms p h = absurd (true≢false h)
kept false None None keys bs ms p h = refl
kept false (Some x) None keys bs ms p h =
    ap (λ (b : Option (List Key)). if slice_index_or ms p false then codes "branch" else (if not (is_none b) then codes "child" else codes "basic"))
    (get_or-set_other bs x.0 p (Some x.1) None (eqb-false p x.0 h))

pub keeps : (n : State) (c : Change) (p : ℕ) → is_touched (touched_by c) p ≡ false → mark_of (after n c) p ≡ mark_of n p
keeps n c p h = kept c.forgets c.brought c.tree n.keys n.brought n.branches p h
