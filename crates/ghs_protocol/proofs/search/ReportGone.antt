-- A Report leaves a joined link.
use Rattle.std.proofs.Common.{◌≡◌, ◌≢◌, ℕ, ◌≤◌, Bool, true, false, not, ◌&&◌, Some, List, [], ◌∷◌, refl, ◌∙◌, ap, cond}
use Rattle.ghs_graph.specs.declared.key.Key.{Key}
use Rattle.ghs_node.specs.Words.{is_find, is_at}
use Rattle.ghs_node.specs.declared.message.Message.{Message}
use Rattle.ghs_node.specs.declared.message.Message.TheVariants.{Report}
use Rattle.ghs_protocol.proofs.clauses.Scene.{End, TreeEnd}
use Rattle.ghs_protocol.proofs.clauses.TreeMessages.{TreeFits, Nothing_up, Downward, Initiates, Old_report}
use Rattle.ghs_protocol.proofs.clauses.Search.{SearchFits}
use Rattle.ghs_protocol.proofs.clauses.Links.{Child}
use Rattle.ghs_protocol.proofs.clauses.Rest.{debt, owes, has_call, has_report}
use Rattle.ghs_protocol.proofs.search.FirstReport.{chain_top}
use Rattle.ghs_node.proofs.lemmas.{is_at_is, is_at_not}

-- the search clauses don't read the queues
pub search_trees : (e f : TreeEnd) (t s : List Message) → SearchFits e f → SearchFits (record e { tree = t }) (record f { tree = s })
search_trees e f t s h = record {
  rejected_inside = h.rejected_inside;
  find_leads = λ k x l m. let z = h.find_leads k x l m in record { key = z.key; apart = z.apart; higher = z.higher };
  find_reported = λ k x l j.
      let z = h.find_reported k x l (record { here = j.here; there = j.there }) in
      record { phase = z.phase; in_branch = z.in_branch; level = z.level; key = z.key };
}

-- e is the parent's end: its queue is emptied
module _ (e f : TreeEnd) (c : Child f e) where
  down_popped : {N : Key → Type 0} → Downward N f e → Downward N f (record e { tree = [] })
  down_popped (Initiates x) = Initiates x
  down_popped (Old_report k ms q h x) = Old_report k ms q (record { in_branch = h.in_branch; phase = h.phase; worse = h.worse; there = h.there }) x

  pub tree_popped : {N : ℕ → Key → Type 0} → TreeFits N e f → TreeFits N (record e { tree = [] }) f
  tree_popped h = record {
    out_connect = λ o. absurd (o.there c.joins.here);
    silent = λ a b. refl;
    core_ends = λ j n. let z = h.core_ends (record { here = j.here; there = j.there }) n in record { at_top = z.at_top; below = z.below };
    upward = λ k. absurd (c.down k.up);
    downward = λ k. absurd (c.down k.up);
    core_queues = λ k. absurd (c.down k.both.up);
    moved_root = λ k. absurd (c.down k.both.up);
  }

  pub tree_popped' : {N : ℕ → Key → Type 0} → TreeFits N f e → TreeFits N f (record e { tree = [] })
  tree_popped' h = record {
    out_connect = λ o. absurd (o.there c.joins.there);
    silent = λ a b. absurd (a c.joins.here);
    core_ends = λ j n. let z = h.core_ends (record { here = j.here; there = j.there }) n in record { at_top = z.at_top; below = z.below };
    upward = λ k. Nothing_up refl;
    downward = λ k. down_popped (h.downward c);
    core_queues = λ k. absurd (c.down k.both.up_beyond);
    moved_root = λ k. absurd (c.down k.both.up_beyond);
  }

  -- at the top, the child has no call before it
  pub uncalled : {N : Key → Type 0} → e.level ≤ f.level → Downward N f e → has_call f.tree ≡ false
  uncalled {N} le (Initiates x) = ap has_call (chain_top N f.coming f.coming_name e.level f.level f.tree le x)
  uncalled {N} le (Old_report k ms q h x) = ap has_call (q ∙ ap (λ z. Report k ∷ z) (chain_top N f.coming f.coming_name e.level f.level ms le x))

pub debt_one : (e f : End) → e.is.up ≢ Some e.port → owes e f ≡ true → ◌≡◌ {A = ℕ} (debt e f) 1
debt_one e f h o = rw (is_at_not e.is.up e.port h, o) refl

pub debt_up : (e f : End) → e.is.up ≡ Some e.port → ◌≡◌ {A = ℕ} (debt e f) 0
debt_up e f h = rw (is_at_is e.is.up e.port h) refl

pub debt_unowed : (e f : End) → owes e f ≡ false → ◌≡◌ {A = ℕ} (debt e f) 0
debt_unowed e f o = go (is_at e.is.up e.port)
  where
    go : (x : Bool) → ◌≡◌ {A = ℕ} (cond (not x && owes e f) 1 0) 0
    go true = refl
    go false = rw o refl

pub debt_none : (e f : End) →
    has_report e.seen.tree ≡ false →
    has_call f.seen.tree ≡ false →
    is_find f.is.head.phase ≡ false →
    ◌≡◌ {A = ℕ} (debt e f) 0
debt_none e f a b c = debt_unowed e f (rw (a, b, c) refl)
