-- A fragment comes to a higher level and another name: what the clauses of its links owe.
use Rattle.std.proofs.Common.{◌≡◌, ◌≢◌, ℕ, ◌<◌, ◌≤◌, false, Option, Some, None, List, [], ◌∷◌, refl, sym, ◌∙◌, ap, arith}
use Rattle.ghs_graph.specs.declared.key.Key.{Key}
use Rattle.ghs_node.specs.declared.mark.Mark.TheVariants.{Rejected}
use Rattle.ghs_node.specs.declared.message.Phase.TheVariants.{Sleeping, Find, Found}
use Rattle.ghs_node.specs.declared.message.Message.{Message}
use Rattle.ghs_node.specs.declared.message.Message.TheVariants.{Connect, Initiate, Test, Accept, Reject, Report, ChangeRoot}
use Rattle.ghs_protocol.proofs.clauses.Scene.{TreeEnd, TestEnd}
use Rattle.ghs_protocol.proofs.clauses.Links.{Joins, Out, Mutual}
use Rattle.ghs_protocol.proofs.clauses.TreeMessages.{Upward, Nothing_up, Report_up, Chain, Falls, Downward, Initiates, Old_report, TreeFits}
use Rattle.ghs_protocol.proofs.clauses.Search.{SearchFits}
use Rattle.ghs_protocol.proofs.clauses.Tests.{TestsFit}
use Rattle.ghs_protocol.proofs.clauses.Rest.{has_call, has_report}
use Rattle.ghs_protocol.proofs.search.FirstReport.{chain_rises}

-- more names
chain_named : (N N' : Key → Type 0) (top : ℕ) (name : Option Key) (t l : ℕ) (xs : List Message) →
    ((k : Key) → N k → N' k) →
    Chain N top name t l xs →
    Chain N' top name t l xs
chain_named N N' top name t l [] h c = c
chain_named N N' top name t l (Initiate k f s ∷ xs) h c = (c.0, h f c.1, c.2, c.3, c.4, chain_named N N' top name t k xs h c.5)
chain_named N N' top name t l (Connect _ ∷ xs) h c = absurd c
chain_named N N' top name t l (Test _ _ ∷ xs) h c = absurd c
chain_named N N' top name t l (Accept ∷ xs) h c = absurd c
chain_named N N' top name t l (Reject ∷ xs) h c = absurd c
chain_named N N' top name t l (Report _ ∷ xs) h c = absurd c
chain_named N N' top name t l (ChangeRoot ∷ xs) h c = absurd c

-- a higher coming level, where no call to search is under way
chain_lifted : (N N' : Key → Type 0) (top : ℕ) (name : Option Key) (high : ℕ) (other : Option Key) (t l : ℕ) (xs : List Message) →
    ((k : Key) → N k → N' k) →
    t < high →
    has_call xs ≡ false →
    Chain N top name t l xs →
    Chain N' high other t l xs
chain_lifted N N' top name high other t l [] h lt q c = c
chain_lifted N N' top name high other t l (Initiate k f Find ∷ xs) h lt q c = absurd (let z = q in cc)
chain_lifted N N' top name high other t l (Initiate k f Found ∷ xs) h lt q c =
    let rest = chain_lifted N N' top name high other t k xs h lt q c.5 in
    let le = chain_rises N' high other t k xs rest in
    (c.0, h f c.1, (λ e. absurd (omega (arith, e, le, lt))), c.3, (λ e. absurd (let z = e in cc)), rest)
chain_lifted N N' top name high other t l (Initiate k f Sleeping ∷ xs) h lt q c = absurd (c.3 refl)
chain_lifted N N' top name high other t l (Connect _ ∷ xs) h lt q c = absurd c
chain_lifted N N' top name high other t l (Test _ _ ∷ xs) h lt q c = absurd c
chain_lifted N N' top name high other t l (Accept ∷ xs) h lt q c = absurd c
chain_lifted N N' top name high other t l (Reject ∷ xs) h lt q c = absurd c
chain_lifted N N' top name high other t l (Report _ ∷ xs) h lt q c = absurd c
chain_lifted N N' top name high other t l (ChangeRoot ∷ xs) h lt q c = absurd c

down_named : (N N' : Key → Type 0) (e f : TreeEnd) → ((k : Key) → N k → N' k) → Downward N e f → Downward N' e f
down_named N N' e f h (Initiates c) = Initiates (chain_named N N' _ _ _ _ e.tree h c)
down_named N N' e f h (Old_report k ms q r c) = Old_report k ms q r (chain_named N N' _ _ _ _ ms h c)

-- neither end changes, but there are more names
pub tree_named : (N N' : ℕ → Key → Type 0) (e f : TreeEnd) → ((k : Key) → N e.fragment k → N' e.fragment k) → TreeFits N e f → TreeFits N' e f
tree_named N N' e f h t = record {
  out_connect = t.out_connect;
  silent = t.silent;
  core_ends = t.core_ends;
  upward = t.upward;
  downward = λ c. down_named (N e.fragment) (N' e.fragment) e f h (t.downward c);
  core_queues = t.core_queues;
  moved_root = t.moved_root;
}

module _ (a l : ℕ) (n : Option Key) where
  abbrev pub lifted : TreeEnd → TreeEnd
  lifted e = record e { fragment = a; coming = l; coming_name = n }

  abbrev pub moved_to : TestEnd → TestEnd
  moved_to e = record e { fragment = a }

  -- what an end is in a fragment that is lifted, at a link that isn't its root's
  pub record Lifts (e f : TreeEnd) : Type 0 where
    pub low : e.level < l
    pub found : e.phase ≡ Found
    pub uncalled : has_call e.tree ≡ false
    pub unreported : e.up ≢ Some e.port → has_report e.tree ≡ false
    pub in_not_out : Out e f → ⊥
    pub unrooted : Mutual e f → ⊥

  -- both ends
  module _ (N N' : ℕ → Key → Type 0) (e f : TreeEnd) (le : Lifts e f) (lf : Lifts f e) (other : Joins e f → n ≢ Some e.key)
      (names : (k : Key) → N e.fragment k → N' a k) where
    up_lifted : f.up ≢ Some f.port → Upward e f → Upward (lifted e) (lifted f)
    up_lifted ne (Nothing_up q) = Nothing_up q
    up_lifted ne (Report_up k q r) = absurd (let z = lf.unreported ne in let y : has_report (Report k ∷ []) ≡ false = sym (ap has_report q) ∙ z in cc)

    falls_lifted : (xs : List Message) → has_call xs ≡ false → Falls (N e.fragment) e f xs → Falls (N' a) (lifted e) (lifted f) xs
    falls_lifted xs q c = chain_lifted (N e.fragment) (N' a) e.coming e.coming_name l n f.level e.level xs names lf.low q c

    down_lifted : Downward (N e.fragment) e f → Downward (N' a) (lifted e) (lifted f)
    down_lifted (Initiates c) = Initiates (falls_lifted e.tree le.uncalled c)
    down_lifted (Old_report k ms q r c) =
        Old_report k ms q
        (record { in_branch = r.in_branch; phase = r.phase; worse = r.worse; there = r.there })
        (falls_lifted ms (sym (ap has_call q) ∙ le.uncalled) c)

    pub tree_lifted : TreeFits N e f → TreeFits N' (lifted e) (lifted f)
    tree_lifted t = record {
      out_connect = λ o. absurd (le.in_not_out (record { here = o.here; there = o.there }));
      silent = t.silent;
      core_ends = λ j h. absurd (other (record { here = j.here; there = j.there }) h);
      upward = λ c. up_lifted c.down (t.upward (record { joins = record { here = c.joins.here; there = c.joins.there }; up = c.up; down = c.down }));
      downward = λ c. down_lifted (t.downward (record { joins = record { here = c.joins.here; there = c.joins.there }; up = c.up; down = c.down }));
      core_queues = λ c.
          absurd (le.unrooted
          (record { joins = record { here = c.both.joins.here; there = c.both.joins.there }; up = c.both.up; up_beyond = c.both.up_beyond }));
      moved_root = λ c.
          absurd (le.unrooted
          (record { joins = record { here = c.both.joins.here; there = c.both.joins.there }; up = c.both.up; up_beyond = c.both.up_beyond }));
    }

  -- this end only: the link isn't joined
  pub tree_lifted_here : (N N' : ℕ → Key → Type 0) (e f : TreeEnd) → Lifts e f → (Joins e f → ⊥) → TreeFits N e f → TreeFits N' (lifted e) f
  tree_lifted_here N N' e f le apart t = record {
    out_connect = λ o. absurd (le.in_not_out (record { here = o.here; there = o.there }));
    silent = t.silent;
    core_ends = λ j h. absurd (apart (record { here = j.here; there = j.there }));
    upward = λ c. absurd (apart (record { here = c.joins.here; there = c.joins.there }));
    downward = λ c. absurd (apart (record { here = c.joins.here; there = c.joins.there }));
    core_queues = λ c. absurd (apart (record { here = c.both.joins.here; there = c.both.joins.there }));
    moved_root = λ c. absurd (apart (record { here = c.both.joins.here; there = c.both.joins.there }));
  }

  -- the far end only
  pub tree_lifted_there : (N N' : ℕ → Key → Type 0) (e f : TreeEnd) →
      f.level < l →
      (e.fragment ≡ a → e.coming ≡ l) →
      (Joins e f → ⊥) →
      TreeFits N e f →
      TreeFits N' e (lifted f)
  tree_lifted_there N N' e f low stays apart t = record {
    out_connect = λ o.
        let z = t.out_connect (record { here = o.here; there = o.there }) in
        record {
          mark = z.mark;
          up = z.up;
          apart = λ same. (let y = stays (sym same) in let x = z.level in let h = z.higher in omega (arith, y, x, h, low));
          level = z.level;
          higher = z.higher;
          one = z.one;
          none = z.none;
        };
    silent = t.silent;
    core_ends = λ j h. absurd (apart (record { here = j.here; there = j.there }));
    upward = λ c. absurd (apart (record { here = c.joins.here; there = c.joins.there }));
    downward = λ c. absurd (apart (record { here = c.joins.here; there = c.joins.there }));
    core_queues = λ c. absurd (apart (record { here = c.both.joins.here; there = c.both.joins.there }));
    moved_root = λ c. absurd (apart (record { here = c.both.joins.here; there = c.both.joins.there }));
  }

  -- the search: who is lifted isn't at the top
  pub search_lifted : (e f : TreeEnd) → e.level < l → (e.mark ≡ Rejected → f.fragment ≡ a) → SearchFits (lifted e) f
  search_lifted e f low same = record {
    rejected_inside = λ z. sym (same z);
    find_leads = λ k b z m. absurd (omega (arith, z, low));
    find_reported = λ k b z j. absurd (omega (arith, z, low));
  }

  pub search_lifted_there : (e f : TreeEnd) →
      f.level < l →
      (e.fragment ≡ a → e.coming ≡ l) →
      (Joins e f → ⊥) →
      (e.mark ≡ Rejected → ⊥) →
      SearchFits e f →
      SearchFits e (lifted f)
  search_lifted_there e f low stays apart out h = record {
    rejected_inside = λ z. absurd (out z);
    find_leads = λ k b z m.
        let y = h.find_leads k b z m in
        record { key = y.key; apart = λ same. (let x = stays (sym same) in let q = y.higher in omega (arith, x, z, q, low)); higher = y.higher };
    find_reported = λ k b z j. absurd (apart (record { here = j.here; there = j.there }));
  }

  -- Tests: who is lifted doesn't probe
  pub tests_lifted : (e f : TestEnd) → e.probe ≡ None → f.probe ≡ None → TestsFit e f → TestsFit (moved_to e) (moved_to f)
  tests_lifted e f idle idle' h = record {
    probing = λ z. absurd (let y = idle in cc (y, z));
    not_probing = λ z.
        let s = h.not_probing z in
        record {
          accepts = s.accepts;
          rejects = s.rejects;
          one = s.one;
          crossed = λ c. let k = s.crossed c in absurd (let y = k.probe in cc (y, idle'));
        };
  }

  pub tests_lifted_here : (e f : TestEnd) → e.probe ≡ None → (f.fragment ≢ e.fragment) → TestsFit e f → TestsFit (moved_to e) f
  tests_lifted_here e f idle apart h = record {
    probing = λ z. absurd (let y = idle in cc (y, z));
    not_probing = λ z.
        let s = h.not_probing z in
        record { accepts = s.accepts; rejects = s.rejects; one = s.one; crossed = λ c. absurd (apart (s.crossed c).same) };
  }

  pub tests_lifted_there : (e f : TestEnd) →
      f.probe ≡ None →
      (f.fragment ≢ e.fragment) →
      (e.probe ≡ Some e.port → e.level ≤ f.level → a ≢ e.fragment) →
      TestsFit e f →
      TestsFit e (moved_to f)
  tests_lifted_there e f idle apart still h = record {
    probing = λ z.
        let p = h.probing z in
        record {
          one = p.one;
          from = p.from;
          accepted = λ c. let q = p.accepted c in (still z q.1, q.1);
          rejected = λ c. absurd (apart (p.rejected c).0);
        };
    not_probing = λ z.
        let s = h.not_probing z in
        record { accepts = s.accepts; rejects = s.rejects; one = s.one; crossed = λ c. absurd (apart (s.crossed c).same) };
  }
