-- A draft of a node that enters a fragment.
use Rattle.std.proofs.Common.{◌≡◌, ℕ, ◌++◌, Option, Some, None, nat_le, refl, sym, ◌∙◌, ap}
use Rattle.ghs_graph.specs.declared.key.Key.{Key}
use Rattle.boruvka_node.specs.declared.change.Change.{Change}
use Rattle.boruvka_node.specs.declared.change.Entry.{Entry}
use Rattle.boruvka_node.specs.declared.draft.Draft.{Draft}
use Rattle.boruvka_node.specs.declared.message.Phase.TheVariants.{Search}
use Rattle.boruvka_node.specs.State.{State}
use Rattle.boruvka_node.specs.Entering.{entered, told_from}
use Rattle.boruvka_node.specs.Reaction.{connects, closes_by, enters, says}
use Rattle.boruvka_node.specs.Draft.{change_of, drafted, goes_on, is_done, Gives}
use Rattle.boruvka_node.proofs.Drafts.{gives, gives_if, gives_done, sent}

-- the entry of a draft
abbrev pub entry_of : Draft → ℕ → Key → Option ℕ → Entry
entry_of d l f p = record { level = l; name = f; parent = p; out = d.head.out }

module _ (n : State) (d t : Draft) (l : ℕ) (f : Key) (p : Option ℕ) where
  pub drafted_entered : d.entry ≡ None → t.port ≡ d.port → t.entry ≡ Some (entry_of d l f p)
      → t.head ≡ record d.head { level = l; name = Some f; phase = Search; parent = p; best = None; out = None }
      → drafted n t ≡ entered (drafted n d) (entry_of d l f p)
  drafted_entered none port entry head = rw (none, port, entry, head) refl

  pub enters_done : (r : Draft) → t.sends.items ≡ d.sends.items ++ told_from (entry_of d l f p) 0 (drafted n d).ports
      → drafted n t ≡ entered (drafted n d) (entry_of d l f p) → goes_on t (closes_by connects (drafted n t)) ≡ is_done n r
      → Gives n (goes_on d (enters (drafted n d) l f p)) r
  enters_done r told node closed =
      let e = entry_of d l f p in
      let ts = told_from e 0 (drafted n d).ports in
      let o = closes_by connects (entered (drafted n d) e) in
      gives_if n r d.sends.items (nat_le l 20) (says ts o)
      (gives n (goes_on d (says ts o)) (is_done n r) r
      (sent d t ts o told ∙ ap (λ x. goes_on t (closes_by connects x)) (sym node) ∙ closed) (gives_done n r))

-- the draft t of what is told, with the entry and the head behind it
abbrev pub entering : Draft → Draft → ℕ → Key → Option ℕ → Draft
entering d t l f p =
    record t {
      head = record t.head { level = l; name = Some f; phase = Search; parent = p; best = None; out = None };
      entry = Some (entry_of d l f p);
    }

pub entering_node : (n : State) (d t : Draft) (l : ℕ) (f : Key) (p : Option ℕ) → d.entry ≡ None → change_of t ≡ change_of d
    → drafted n (entering d t l f p) ≡ entered (drafted n d) (entry_of d l f p)
entering_node n d t l f p none same =
    drafted_entered n d (entering d t l f p) l f p none (ap (λ (c : Change). c.port) same) refl
    (ap (λ (c : Change). record c.head { level = l; name = Some f; phase = Search; parent = p; best = None; out = None }) same)
