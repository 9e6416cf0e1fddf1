-- A node's way to the root turns away from its old root link: the links that it doesn't turn to.
use Rattle.std.proofs.Common.{◌≡◌, ◌≢◌, ℕ, ◌≤◌, false, Option, Some, List, [], ◌∷◌, ◌++◌, refl, sym, subst}
use Rattle.ghs_graph.specs.declared.key.Key.{Key}
use Rattle.ghs_node.specs.declared.message.Phase.TheVariants.{Sleeping, Find, Found}
use Rattle.ghs_node.specs.declared.message.Message.{Message}
use Rattle.ghs_node.specs.declared.message.Message.TheVariants.{Connect, Initiate, Test, Accept, Reject, Report, ChangeRoot}
use Rattle.ghs_protocol.proofs.clauses.Scene.{End, TreeEnd, tree_end}
use Rattle.ghs_protocol.proofs.clauses.Links.{Joins, Ups}
use Rattle.ghs_protocol.proofs.clauses.TreeMessages.{TreeFits, Chain, Upward, Nothing_up, Report_up, Downward, Initiates, Old_report}
use Rattle.ghs_protocol.proofs.clauses.Search.{SearchFits}
use Rattle.ghs_protocol.proofs.clauses.Whole.{LinkFits}
use Rattle.ghs_protocol.proofs.clauses.Rest.{has_call, has_report}
use Rattle.ghs_protocol.proofs.union.Risen.{tree_named}
use Rattle.ghs_protocol.proofs.root.AtRoot.{Left, Nothing_left, Report_left}

-- the search clauses don't read the ways nor the queues
pub search_turns : (e f : TreeEnd) (o : Option ℕ) (t s : List Message) →
    SearchFits e f →
    SearchFits (record e { up = o; tree = t }) (record f { tree = s })
search_turns e f o t s h = record {
  rejected_inside = h.rejected_inside;
  find_leads = λ k x l m. let z = h.find_leads k x l m in record { key = z.key; apart = z.apart; higher = z.higher };
  find_reported = λ k x l j.
      let z = h.find_reported k x l (record { here = j.here; there = j.there }) in
      record { phase = z.phase; in_branch = z.in_branch; level = z.level; key = z.key };
}

pub search_turns' : (e f : TreeEnd) (o : Option ℕ) (t s : List Message) →
    SearchFits f e →
    SearchFits (record f { tree = s }) (record e { up = o; tree = t })
search_turns' e f o t s h = record {
  rejected_inside = h.rejected_inside;
  find_leads = λ k x l m. let z = h.find_leads k x l m in record { key = z.key; apart = z.apart; higher = z.higher };
  find_reported = λ k x l j.
      let z = h.find_reported k x l (record { here = j.here; there = j.there }) in
      record { phase = z.phase; in_branch = z.in_branch; level = z.level; key = z.key };
}

-- a link that is e's way neither before nor after
module _ (e f : TreeEnd) (o : Option ℕ) (was : e.up ≢ Some e.port) (is : o ≢ Some e.port) where
  up_aside : Upward f e → Upward f (record e { up = o })
  up_aside (Nothing_up q) = Nothing_up q
  up_aside (Report_up k q r) = Report_up k q r

  down_aside : {N : Key → Type 0} → Downward N f e → Downward N f (record e { up = o })
  down_aside (Initiates c) = Initiates c
  down_aside (Old_report k ms q h c) = Old_report k ms q (record { in_branch = h.in_branch; phase = h.phase; worse = h.worse; there = h.there }) c

  pub tree_aside : {N : ℕ → Key → Type 0} → TreeFits N e f → TreeFits N (record e { up = o }) f
  tree_aside h = record {
    out_connect = λ t. absurd (was (h.out_connect (record { here = t.here; there = t.there })).up);
    silent = h.silent;
    core_ends = λ j n.
        let z = h.core_ends (record { here = j.here; there = j.there }) n in record { at_top = z.at_top; below = λ l. absurd (was (z.below l)) };
    upward = λ c. absurd (is c.up);
    downward = λ c. absurd (is c.up);
    core_queues = λ c. absurd (is c.both.up);
    moved_root = λ c. absurd (is c.both.up);
  }

  pub tree_aside' : {N : ℕ → Key → Type 0} → TreeFits N f e → TreeFits N f (record e { up = o })
  tree_aside' h = record {
    out_connect = λ t.
        let z = h.out_connect (record { here = t.here; there = t.there }) in
        record { mark = z.mark; up = z.up; apart = z.apart; level = z.level; higher = z.higher; one = z.one; none = z.none };
    silent = h.silent;
    core_ends = λ j n. h.core_ends (record { here = j.here; there = j.there }) n;
    upward = λ c. up_aside (h.upward (record { joins = record { here = c.joins.here; there = c.joins.there }; up = c.up; down = was }));
    downward = λ c. down_aside (h.downward (record { joins = record { here = c.joins.here; there = c.joins.there }; up = c.up; down = was }));
    core_queues = λ c. absurd (is c.both.up_beyond);
    moved_root = λ c. absurd (is c.both.up_beyond);
  }

-- the old root link: f's end is now a child's
module _ (e f : TreeEnd) (o : Option ℕ) (t : List Message) (rest : t ≡ []) (is : o ≢ Some e.port) (joins : Joins e f) (way : Ups f)
    (in_branch : e.in_branch ≡ Some e.port)
    (top : e.level ≡ e.coming) (lag : f.level ≤ e.level) (done : f.phase ≡ Found) (left : Left f) where
  pub tree_leaves : {N : ℕ → Key → Type 0} → TreeFits N e f → TreeFits N (record e { up = o; tree = t }) f
  tree_leaves h = record {
    out_connect = λ z. absurd (z.there joins.there);
    silent = λ a b. rest;
    core_ends = λ j n. record { at_top = λ l. in_branch; below = λ ne. absurd (ne top) };
    upward = λ c. absurd (is c.up);
    downward = λ c. absurd (is c.up);
    core_queues = λ c. absurd (is c.both.up);
    moved_root = λ c. absurd (is c.both.up);
  }

  down_leaves : {N : Key → Type 0} → Left f → Downward N f (record e { up = o; tree = t })
  down_leaves {N} (Nothing_left q) = Initiates (subst (Chain N f.coming f.coming_name e.level f.level) (sym q) lag)
  down_leaves (Report_left k q b worse) = Old_report k [] q (record { in_branch = b; phase = done; worse = worse; there = λ z. in_branch }) lag

  pub tree_leaves' : {N : ℕ → Key → Type 0} → TreeFits N f e → TreeFits N f (record e { up = o; tree = t })
  tree_leaves' h = record {
    out_connect = λ z. absurd (z.there joins.here);
    silent = λ a b. absurd (a joins.there);
    core_ends = λ j n. h.core_ends (record { here = j.here; there = j.there }) n;
    upward = λ c. Nothing_up rest;
    downward = λ c. down_leaves left;
    core_queues = λ c. absurd (is c.both.up_beyond);
    moved_root = λ c. absurd (is c.both.up_beyond);
  }

-- more names at a link
pub link_names : (N M : ℕ → Key → Type 0) → ((a : ℕ) → (k : Key) → N a k → M a k) → (e f : End) → LinkFits N e f → LinkFits M e f
link_names N M n e f h = record { tree = tree_named N M (tree_end e) (tree_end f) (n e.is.fragment) h.tree; search = h.search; tests = h.tests }

-- one more message, that isn't a call nor a Report
pub call_append : (m : Message) → has_call (m ∷ []) ≡ false → (xs : List Message) → has_call (xs ++ m ∷ []) ≡ has_call xs
call_append m n [] = n
call_append m n (Connect l ∷ xs) = call_append m n xs
call_append m n (Initiate l f Find ∷ xs) = refl
call_append m n (Initiate l f Found ∷ xs) = call_append m n xs
call_append m n (Initiate l f Sleeping ∷ xs) = call_append m n xs
call_append m n (Test l f ∷ xs) = call_append m n xs
call_append m n (Accept ∷ xs) = call_append m n xs
call_append m n (Reject ∷ xs) = call_append m n xs
call_append m n (Report r ∷ xs) = call_append m n xs
call_append m n (ChangeRoot ∷ xs) = call_append m n xs

pub report_append : (m : Message) → has_report (m ∷ []) ≡ false → (xs : List Message) → has_report (xs ++ m ∷ []) ≡ has_report xs
report_append m n [] = n
report_append m n (Connect l ∷ xs) = report_append m n xs
report_append m n (Initiate l f s ∷ xs) = report_append m n xs
report_append m n (Test l f ∷ xs) = report_append m n xs
report_append m n (Accept ∷ xs) = report_append m n xs
report_append m n (Reject ∷ xs) = report_append m n xs
report_append m n (Report r ∷ xs) = refl
report_append m n (ChangeRoot ∷ xs) = report_append m n xs
