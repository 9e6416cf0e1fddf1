-- A Connect of a lower level: where it comes from, and the link once it is absorbed.
use Rattle.std.proofs.Common.{◌≡◌, ◌≢◌, ℕ, ◌+◌, ◌<◌, ◌≤◌, false, Option, Some, None, List, [], ◌∷◌, ◌++◌, refl, sym, ◌∙◌, ap, subst, ⊎_elim, ◌⊎◌, arith}
use Rattle.ghs_graph.specs.declared.key.Key.{Key}
use Rattle.ghs_node.specs.Words.{find_more}
use Rattle.ghs_node.specs.declared.mark.Mark.TheVariants.{Branch}
use Rattle.ghs_node.specs.declared.message.Phase.{Phase}
use Rattle.ghs_node.specs.declared.message.Phase.TheVariants.{Sleeping, Find, Found}
use Rattle.ghs_node.specs.declared.message.Message.{Message}
use Rattle.ghs_node.specs.declared.message.Message.TheVariants.{Connect, Initiate, Report, ChangeRoot}
use Rattle.ghs_protocol.proofs.clauses.Scene.{TreeEnd, TestEnd}
use Rattle.ghs_protocol.proofs.clauses.Links.{Joins, Ups}
use Rattle.ghs_protocol.proofs.clauses.TreeMessages.{ConnectUnderWay, TreeFits, Chain, Upward, Nothing_up, Report_up, Downward, Initiates, Old_report, CoreFits, CoreQueue, Plain, With_report, MovedFits, To_here, To_there, Stage, Asking, Called, Begun, AtStage, Served, asked, called}
use Rattle.ghs_protocol.proofs.clauses.Search.{SearchFits}
use Rattle.ghs_protocol.proofs.clauses.Tests.{TestsFit}
use Rattle.ghs_protocol.proofs.clauses.Rest.{has_call}
use Rattle.ghs_protocol.proofs.search.FirstReport.{Joint, joint, Down_here, Down_there, On_core, On_moved, mark_is}
use Rattle.ghs_protocol.proofs.union.CoreAnswered.{no_connect}

-- the Connect at e has come over a link that isn't joined
pub record Came (e f : TreeEnd) (l : ℕ) (ms : List Message) : Type 0 where
  pub mark : e.mark ≢ Branch
  pub mark' : f.mark ≡ Branch
  pub under : ConnectUnderWay f e
  pub level : f.level ≡ l
  pub rest : ms ≡ []

no_half : (v : ℕ) (n : Key) (a : Stage) (r : Option Key) (l : ℕ) (ms : List Message) → called v n a ++ Report r ∷ [] ≡ Connect l ∷ ms → ⊥
no_half v n Asking r l ms q = cc
no_half v n Called r l ms q = cc
no_half v n Begun r l ms q = cc

same_connect : (k l : ℕ) (xs ms : List Message) → Connect k ∷ xs ≡ Connect l ∷ ms → k ≡ l
same_connect k l xs ms e = cc

module _ {N : ℕ → Key → Type 0} (e f : TreeEnd) (he : TreeFits N e f) (hf : TreeFits N f e) (ups : Joins e f → Ups e ⊎ Ups f)
    (same : Joins e f → f.coming ≡ e.coming) (l : ℕ)
    (ms : List Message) (waits : e.tree ≡ Connect l ∷ ms) (lower : l < e.level) where
  -- in a core both ends would be of the Connect's level
  not_core : (a b : Stage) →
      AtStage e a →
      AtStage f b →
      Served a b →
      f.coming ≡ e.coming →
      asked f.level b ++ called e.coming e.key a ≡ Connect l ∷ ms →
      ⊥
  not_core Asking Asking x y s c q = let z = same_connect f.level l _ ms q in omega (arith, x, y, c, z, lower)
  not_core Called Asking x y s c q = let z = same_connect f.level l _ ms q in omega (arith, x, y, c, z, lower)
  not_core Begun Asking x y s c q = s
  not_core Asking Called x y s c q = cc
  not_core Called Called x y s c q = cc
  not_core Begun Called x y s c q = cc
  not_core Asking Begun x y s c q = cc
  not_core Called Begun x y s c q = cc
  not_core Begun Begun x y s c q = cc

  not_joined : Joins e f → ⊥
  not_joined joins = go (joint e f joins (ups joins))
    where
      down : Downward (N e.fragment) e f → ⊥
      down (Initiates x) = no_connect (N e.fragment) e.coming e.coming_name f.level e.level l ms e.tree waits x
      down (Old_report r xs q h x) = let z : Connect l ∷ ms ≡ Report r ∷ xs = sym waits ∙ q in cc

      up : Upward f e → ⊥
      up (Nothing_up q) = let z : Connect l ∷ ms ≡ [] = sym waits ∙ q in cc
      up (Report_up r q h) = let z : Connect l ∷ ms ≡ Report r ∷ [] = sym waits ∙ q in cc

      core : (z : CoreFits e f) → CoreQueue e f z.here z.there → ⊥
      core z (Plain q) = not_core z.here z.there z.at_here z.at_there z.served (same joins) (sym q ∙ waits)
      core z (With_report r q s p b) = no_half e.coming e.key z.here r l ms (sym q ∙ waits)

      moved : MovedFits e f → ⊥
      moved (To_here m) = let z : Connect l ∷ ms ≡ ChangeRoot ∷ [] = sym waits ∙ m.queue in cc
      moved (To_there m) = let z : Connect l ∷ ms ≡ [] = sym waits ∙ m.queue_beyond in cc

      go : Joint e f → ⊥
      go (Down_here c) = down (he.downward c)
      go (Down_there c) = up (hf.upward c)
      go (On_core c) = let z = he.core_queues c in core z z.queue
      go (On_moved c) = moved (he.moved_root c)

  pub came_in : Came e f l ms
  came_in =
      ⊎_elim
      (λ a. ⊎_elim (λ b. absurd (not_joined (record { here = a; there = b })))
      (λ b. absurd (let z : Connect l ∷ ms ≡ [] = sym waits ∙ (he.out_connect (record { here = a; there = b })).none in cc))
      (mark_is f.mark))
      (λ a. ⊎_elim (λ b. came a b) (λ b. absurd (let z : Connect l ∷ ms ≡ [] = sym waits ∙ he.silent a b in cc)) (mark_is f.mark)) (mark_is e.mark)
    where
      came : e.mark ≢ Branch → f.mark ≡ Branch → Came e f l ms
      came a b =
          let under = hf.out_connect (record { here = b; there = a }) in
          let q : Connect f.level ∷ [] ≡ Connect l ∷ ms = sym under.one ∙ waits in
          record { mark = a; mark' = b; under = under; level = same_connect f.level l [] ms q; rest = (let z = q in cc) }

-- the link afterwards: e is the parent's end, and f's fragment has come to that of e
abbrev pub takes_in : TreeEnd → List Message → TreeEnd
takes_in e t = record e { mark = Branch; tree = t }

abbrev pub taken_in : TreeEnd → TreeEnd → Message → TreeEnd
taken_in f e m = record f { fragment = e.fragment; coming = e.coming; coming_name = e.coming_name; tree = f.tree ++ m ∷ [] }

module _ (M : ℕ → Key → Type 0) (e f : TreeEnd) (k : Key) (t : List Message) (rest : t ≡ []) (mark : e.mark ≢ Branch)
    (mark' : f.mark ≡ Branch) (under : ConnectUnderWay f e)
    (lower : f.level < e.level) (lag : e.level ≤ e.coming) (away : e.up ≢ Some e.port) (awake : e.phase ≢ Sleeping)
    (search : e.phase ≡ Find → e.level ≡ e.coming) (names : M e.fragment k)
    (name : e.level ≡ e.coming → e.coming_name ≡ Some k) (unnamed : e.coming_name ≢ Some e.key) (same_key : f.key ≡ e.key) where
  pub tree_takes : TreeFits M (takes_in e t) (taken_in f e (Initiate e.level k e.phase))
  tree_takes = record {
    out_connect = λ o. absurd (o.there mark');
    silent = λ x y. rest;
    core_ends = λ j n. absurd (unnamed n);
    upward = λ c. absurd (away c.up);
    downward = λ c. absurd (away c.up);
    core_queues = λ c. absurd (away c.both.up);
    moved_root = λ c. absurd (away c.both.up);
  }

  falls : Chain (M e.fragment) e.coming e.coming_name e.level f.level (f.tree ++ Initiate e.level k e.phase ∷ [])
  falls =
      subst
      (λ y. Chain (M e.fragment) e.coming e.coming_name e.level f.level (y ++ Initiate e.level k e.phase ∷ []))
      (sym under.none) (lower, names, name, awake, search, omega arith)

  pub tree_takes' : TreeFits M (taken_in f e (Initiate e.level k e.phase)) (takes_in e t)
  tree_takes' = record {
    out_connect = λ o. absurd (o.there refl);
    silent = λ x y. absurd (x mark');
    core_ends = λ j n. absurd (unnamed (n ∙ ap Some same_key));
    upward = λ c. Nothing_up rest;
    downward = λ c. Initiates falls;
    core_queues = λ c. absurd (away c.both.up_beyond);
    moved_root = λ c. absurd (away c.both.up_beyond);
  }

  pub search_takes : SearchFits e f → SearchFits (takes_in e t) (taken_in f e (Initiate e.level k e.phase))
  search_takes h = record {
    rejected_inside = λ z. refl;
    find_leads = λ n b l m. absurd (m refl);
    find_reported = λ n b l j. absurd (let z = (h.find_leads n b l mark).higher in omega (arith, z, lower));
  }

  pub search_takes' : SearchFits (taken_in f e (Initiate e.level k e.phase)) (takes_in e t)
  search_takes' = record {
    rejected_inside = λ z. refl;
    find_leads = λ n b l m. absurd (m mark');
    find_reported = λ n b l j. absurd (omega (arith, l, lower, lag));
  }

module _ (e f : TestEnd) (apart : f.fragment ≢ e.fragment) (lower : f.level < e.level) (idle : f.probe ≡ None) where
  pub tests_take : TestsFit e f → TestsFit (record e { mark = Branch }) (record f { fragment = e.fragment })
  tests_take h = record {
    probing = λ p.
        let z = h.probing p in
        record {
          one = z.one;
          from = z.from;
          accepted = λ c. absurd (let y = (z.accepted c).1 in omega (arith, y, lower));
          rejected = λ c. absurd (apart (z.rejected c).0);
        };
    not_probing = λ p.
        let z = h.not_probing p in
        record { accepts = z.accepts; rejects = z.rejects; one = z.one; crossed = λ c. absurd (let y = (z.crossed c).probe in cc (y, idle)) };
  }

  pub tests_take' : TestsFit f e → TestsFit (record f { fragment = e.fragment }) (record e { mark = Branch })
  tests_take' h = record {
    probing = λ p. absurd (cc (p, idle));
    not_probing = λ p.
        let z = h.not_probing p in
        record { accepts = z.accepts; rejects = z.rejects; one = z.one; crossed = λ c. absurd (apart (sym (z.crossed c).same)) };
  }

-- find_count goes up with the debt
pub count_more : (s : Phase) (c d d' : ℕ) →
    s ≢ Sleeping →
    ◌≡◌ {A = ℕ} d 0 →
    (s ≡ Find → ◌≡◌ {A = ℕ} d' 1) →
    (s ≢ Find → ◌≡◌ {A = ℕ} d' 0) →
    find_more s c + d ≡ c + d'
count_more Find c d d' awake z one none = let y = one refl in omega (arith, z, y)
count_more Found c d d' awake z one none = let y = none (λ e. cc) in omega (arith, z, y)
count_more Sleeping c d d' awake z one none = absurd (awake refl)

pub more_none : (s : Phase) (c : ℕ) → s ≢ Find → find_more s c ≡ c
more_none Find c ne = absurd (ne refl)
more_none Found c ne = refl
more_none Sleeping c ne = refl

pub call_only : (l : ℕ) (k : Key) (s : Phase) → s ≢ Find → has_call (Initiate l k s ∷ []) ≡ false
call_only l k Find ne = absurd (ne refl)
call_only l k Found ne = refl
call_only l k Sleeping ne = refl
