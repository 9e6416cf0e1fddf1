-- An Initiate that stands first: where it comes from, and what its link and the others owe once it has been heard.
use Rattle.std.proofs.Common.{◌≡◌, ◌≢◌, ℕ, suc, ◌<◌, ◌≤◌, Option, Some, None, List, [], ◌∷◌, ◌++◌, refl, sym, ◌∙◌, ap, subst, ◌⊎◌, arith}
use Rattle.ghs_graph.specs.declared.key.Key.{Key}
use Rattle.ghs_node.specs.declared.mark.Mark.TheVariants.{Branch}
use Rattle.ghs_node.specs.declared.message.Phase.{Phase}
use Rattle.ghs_node.specs.declared.message.Phase.TheVariants.{Sleeping, Find}
use Rattle.ghs_node.specs.declared.message.Message.{Message}
use Rattle.ghs_node.specs.declared.message.Message.TheVariants.{Connect, Initiate, Test, Accept, Reject, Report, ChangeRoot}
use Rattle.ghs_protocol.proofs.clauses.Scene.{TreeEnd}
use Rattle.ghs_protocol.proofs.clauses.Links.{Joins, Ups, Child}
use Rattle.ghs_protocol.proofs.clauses.TreeMessages.{Upward, Nothing_up, Report_up, Chain, Falls, Downward, Initiates, Old_report, Stage, Asking, Called, Begun, AtStage, Served, called, CoreQueue, Plain, With_report, Core, CoreFits, MovedFits, To_here, To_there, TreeFits}
use Rattle.ghs_protocol.proofs.clauses.Search.{SearchFits}
use Rattle.ghs_protocol.proofs.search.FirstReport.{joined_by, Joint, joint, Down_here, Down_there, On_core, On_moved, chain_rises}
use Rattle.ghs_protocol.proofs.acts.Situations.{core_from_there}

-- a chain, and one Initiate more
pub chain_more : (N : Key → Type 0) (top : ℕ) (name : Option Key) (t l k : ℕ) (f : Key) (s : Phase) (xs : List Message) →
    Chain N top name t l xs →
    t < k →
    N f →
    (k ≡ top → name ≡ Some f) →
    s ≢ Sleeping →
    (s ≡ Find → k ≡ top) →
    Chain N top name k l (xs ++ Initiate k f s ∷ [])
chain_more N top name t l k f s [] c lt a b d e = (omega (arith, c, lt), a, b, d, e, omega arith)
chain_more N top name t l k f s (Initiate k' f' s' ∷ xs) c lt a b d e = (c.0, c.1, c.2, c.3, c.4, chain_more N top name t k' k f s xs c.5 lt a b d e)
chain_more N top name t l k f s (Connect _ ∷ xs) c lt a b d e = absurd c
chain_more N top name t l k f s (Test _ _ ∷ xs) c lt a b d e = absurd c
chain_more N top name t l k f s (Accept ∷ xs) c lt a b d e = absurd c
chain_more N top name t l k f s (Reject ∷ xs) c lt a b d e = absurd c
chain_more N top name t l k f s (Report _ ∷ xs) c lt a b d e = absurd c
chain_more N top name t l k f s (ChangeRoot ∷ xs) c lt a b d e = absurd c

-- the Initiate comes from the parent, or over the core, where b is the far end's stage
pub data Way (N : Key → Type 0) (e f : TreeEnd) (l : ℕ) (n : Key) (s : Phase) (ms : List Message) : Type 0 where
  From_parent : Child e f → Chain N e.coming e.coming_name f.level l ms → f.tree ≡ [] → Way N e f l n s ms
  Over_core :
      Core e f →
      (b : Stage) → AtStage f b →
      b ≢ Asking →
      f.tree ≡ called f.coming f.key b →
      CoreQueue (record e { tree = ms }) f Begun b →
      l ≡ e.coming →
      Way N e f l n s ms

pub record Calls (N : Key → Type 0) (e f : TreeEnd) (l : ℕ) (n : Key) (s : Phase) (ms : List Message) : Type 0 where
  pub joins : Joins e f
  pub up : Ups e
  pub rises : e.level < l
  pub most : l ≤ e.coming
  pub inside : N n
  pub name : l ≡ e.coming → e.coming_name ≡ Some n
  pub awake : s ≢ Sleeping
  pub find : s ≡ Find → l ≡ e.coming
  pub way : Way N e f l n s ms

module _ {N : ℕ → Key → Type 0} (e f : TreeEnd) (he : TreeFits N e f) (hf : TreeFits N f e) (ups : Joins e f → Ups e ⊎ Ups f)
    (own : Joins e f → N e.fragment e.key) (lags : Joins e f → f.level ≤ e.coming) (l : ℕ) (n : Key) (s : Phase) (ms : List Message)
    (waits : e.tree ≡ Initiate l n s ∷ ms) where
  joins_call : Joins e f
  joins_call = joined_by e f he hf (λ z. cc) (λ l' z. cc)

  down : (c : Child e f) → Downward (N e.fragment) e f → Calls (N e.fragment) e f l n s ms
  down c (Initiates x) = record {
    joins = c.joins;
    up = c.up;
    rises = y.0;
    most = high;
    inside = y.1;
    name = y.2;
    awake = y.3;
    find = y.4;
    way = From_parent c y.5 (above (he.upward c));
  }
    where
      y : Chain (N e.fragment) e.coming e.coming_name f.level e.level (Initiate l n s ∷ ms)
      y = subst (Chain (N e.fragment) e.coming e.coming_name f.level e.level) waits x

      high : l ≤ e.coming
      high = let z = chain_rises _ _ _ _ l ms y.5 in omega (arith, z, lags c.joins)

      above : Upward e f → f.tree ≡ []
      above (Nothing_up q) = q
      above (Report_up k q r) = absurd (let z = r.level in let y0 = y.0 in omega (arith, z, y0, high))
  down c (Old_report k xs q h x) = absurd (let z : Initiate l n s ∷ ms ≡ Report k ∷ xs = sym waits ∙ q in cc)

  up_there : Upward f e → Calls (N e.fragment) e f l n s ms
  up_there (Nothing_up q) = absurd (let z : Initiate l n s ∷ ms ≡ [] = sym waits ∙ q in cc)
  up_there (Report_up k q r) = absurd (let z : Initiate l n s ∷ ms ≡ Report k ∷ [] = sym waits ∙ q in cc)

  moved : MovedFits e f → Calls (N e.fragment) e f l n s ms
  moved (To_here m) = absurd (let z : Initiate l n s ∷ ms ≡ ChangeRoot ∷ [] = sym waits ∙ m.queue in cc)
  moved (To_there m) = absurd (let z : Initiate l n s ∷ ms ≡ [] = sym waits ∙ m.queue_beyond in cc)

  -- over the core
  on_core : (c : Core e f) →
      (b : Stage) → AtStage f b →
      b ≢ Asking →
      f.tree ≡ called f.coming f.key b →
      suc e.level ≡ e.coming →
      CoreQueue (record e { tree = ms }) f Begun b →
      (l ≡ e.coming) × (n ≡ e.key) × (s ≡ Find) →
      Calls (N e.fragment) e f l n s ms
  on_core c b at ne far low queue same = record {
    joins = c.both.joins;
    up = c.both.up;
    rises = let z = same.0 in omega (arith, z, low);
    most = let z = same.0 in omega (arith, z);
    inside = subst (N e.fragment) (sym same.1) (own c.both.joins);
    name = λ h. c.named ∙ ap Some (sym same.1);
    awake = λ h. let z = same.2 in cc;
    find = λ h. same.0;
    way = Over_core c b at ne far queue same.0;
  }

  parts : (k : ℕ) (q : Key) (xs : List Message) → Initiate l n s ∷ ms ≡ Initiate k q Find ∷ xs → (l ≡ k) × (n ≡ q) × (s ≡ Find)
  parts k q xs h = (cc, cc, cc)

  rest_is : (k : ℕ) (q : Key) (xs : List Message) → Initiate l n s ∷ ms ≡ Initiate k q Find ∷ xs → ms ≡ xs
  rest_is k q xs h = cc

  far_queue : (b : Stage) → CoreQueue f e b Called → f.tree ≡ called f.coming f.key b
  far_queue b (Plain q) = q
  far_queue b (With_report k q t p x) = absurd (let z = t in cc)

  core : (c : Core e f) →
      (a b : Stage) → AtStage e a →
      AtStage f b →
      Served a b →
      CoreQueue e f a b →
      CoreQueue f e b a →
      Calls (N e.fragment) e f l n s ms
  core c Called Called ae bf sv (Plain q) q' =
      let h : Initiate l n s ∷ ms ≡ Initiate e.coming e.key Find ∷ [] = sym waits ∙ q in
      on_core c Called bf (λ z. cc) (far_queue Called q') ae (Plain (rest_is _ _ _ h)) (parts _ _ _ h)
  core c Called Begun ae bf sv (Plain q) q' =
      let h : Initiate l n s ∷ ms ≡ Initiate e.coming e.key Find ∷ [] = sym waits ∙ q in
      on_core c Begun bf (λ z. cc) (far_queue Begun q') ae (Plain (rest_is _ _ _ h)) (parts _ _ _ h)
  core c Called b ae bf sv (With_report k q t p x) q' =
      let h : Initiate l n s ∷ ms ≡ Initiate e.coming e.key Find ∷ Report k ∷ [] = sym waits ∙ q in
      on_core c b bf (λ z. cc (z, t)) (far_queue b q') ae (With_report k (rest_is _ _ _ h) t p x) (parts _ _ _ h)
  core c Asking b ae bf sv (With_report k q t p x) q' = absurd (let z : Initiate l n s ∷ ms ≡ Report k ∷ [] = sym waits ∙ q in cc)
  core c Begun b ae bf sv (With_report k q t p x) q' = absurd (let z : Initiate l n s ∷ ms ≡ Report k ∷ [] = sym waits ∙ q in cc)
  core c Asking Asking ae bf sv (Plain q) q' = absurd (let z : Initiate l n s ∷ ms ≡ Connect f.level ∷ [] = sym waits ∙ q in cc)
  core c Called Asking ae bf sv (Plain q) q' =
      absurd (let z : Initiate l n s ∷ ms ≡ Connect f.level ∷ Initiate e.coming e.key Find ∷ [] = sym waits ∙ q in cc)
  core c Begun Asking ae bf sv (Plain q) q' = absurd sv
  core c Asking Called ae bf sv (Plain q) q' = absurd (let z : Initiate l n s ∷ ms ≡ [] = sym waits ∙ q in cc)
  core c Begun Called ae bf sv (Plain q) q' = absurd (let z : Initiate l n s ∷ ms ≡ [] = sym waits ∙ q in cc)
  core c Asking Begun ae bf sv (Plain q) q' = absurd (let z : Initiate l n s ∷ ms ≡ [] = sym waits ∙ q in cc)
  core c Begun Begun ae bf sv (Plain q) q' = absurd (let z : Initiate l n s ∷ ms ≡ [] = sym waits ∙ q in cc)

  pub calls : Calls (N e.fragment) e f l n s ms
  calls = go (joint e f joins_call (ups joins_call))
    where
      go : Joint e f → Calls (N e.fragment) e f l n s ms
      go (Down_here c) = down c (he.downward c)
      go (Down_there c) = up_there (hf.upward c)
      go (On_core c) = let z = he.core_queues c in core c z.here z.there z.at_here z.at_there z.served z.queue z.queue_beyond
      go (On_moved c) = moved (he.moved_root c)

unasked : (b : Stage) → b ≢ Asking → Served Begun b
unasked Asking ne = absurd (ne refl)
unasked Called ne = tt
unasked Begun ne = tt

begun_after : (b : Stage) → Served b Begun
begun_after Asking = tt
begun_after Called = tt
begun_after Begun = tt

-- the end that has heard it
abbrev pub told : TreeEnd → ℕ → Phase → Option ℕ → List Message → TreeEnd
told e l s o ms = record e { level = l; phase = s; in_branch = o; best = None; tree = ms }

-- at the port of the Initiate
module _ (N : ℕ → Key → Type 0) (e f : TreeEnd) (l : ℕ) (n : Key) (s : Phase) (ms : List Message) (c : Calls (N e.fragment) e f l n s ms) where
  here_queue : {a b : Stage} → CoreQueue (record e { tree = ms }) f a b → CoreQueue (told e l s (Some e.port) ms) f a b
  here_queue (Plain q) = Plain q
  here_queue (With_report k q t p x) = With_report k q t p x

  told_core : Way (N e.fragment) e f l n s ms → Core e f → CoreFits (told e l s (Some e.port) ms) f
  told_core (From_parent d x q) k = absurd (d.down k.both.up_beyond)
  told_core (Over_core d b at ne far queue top) k = record {
    here = Begun;
    there = b;
    at_here = top;
    at_there = at;
    served = unasked b ne;
    served_beyond = begun_after b;
    queue = here_queue queue;
    queue_beyond = Plain far;
  }

  told_core' : Way (N e.fragment) e f l n s ms → Core e f → CoreFits f (told e l s (Some e.port) ms)
  told_core' w k = core_from_there (told e l s (Some e.port) ms) f (told_core w k)

  unmoved : Way (N e.fragment) e f l n s ms → Ups f → e.coming_name ≢ Some e.key → ⊥
  unmoved (From_parent d x q) u ne = d.down u
  unmoved (Over_core d b at nb far queue top) u ne = ne d.named

  up_told : Way (N e.fragment) e f l n s ms → f.up ≢ Some f.port → Upward (told e l s (Some e.port) ms) f
  up_told (From_parent d x q) ne = Nothing_up q
  up_told (Over_core d b at nb far queue top) ne = absurd (ne d.both.up_beyond)

  down_told : Way (N e.fragment) e f l n s ms → f.up ≢ Some f.port → Downward (N e.fragment) (told e l s (Some e.port) ms) f
  down_told (From_parent d x q) ne = Initiates x
  down_told (Over_core d b at nb far queue top) ne = absurd (ne d.both.up_beyond)

  pub tree_told : TreeFits N (told e l s (Some e.port) ms) f
  tree_told = record {
    out_connect = λ o. absurd (o.there c.joins.there);
    silent = λ a b. absurd (a c.joins.here);
    core_ends = λ j h. record { at_top = λ z. refl; below = λ z. c.up };
    upward = λ k. up_told c.way k.down;
    downward = λ k. down_told c.way k.down;
    core_queues = λ k. told_core c.way (record { both = record { joins = c.joins; up = c.up; up_beyond = k.both.up_beyond }; named = k.named });
    moved_root = λ k. absurd (unmoved c.way k.both.up_beyond k.unnamed);
  }

  pub tree_told' : f.coming_name ≡ e.coming_name → f.key ≡ e.key → TreeFits N f e → TreeFits N f (told e l s (Some e.port) ms)
  tree_told' names keys t = record {
    out_connect = λ o. absurd (o.there c.joins.here);
    silent = λ a b. absurd (b c.joins.here);
    core_ends = λ j h. let z = t.core_ends (record { here = j.here; there = j.there }) h in record { at_top = z.at_top; below = z.below };
    upward = λ k. absurd (k.down c.up);
    downward = λ k. absurd (k.down c.up);
    core_queues = λ k.
        told_core' c.way
        (record { both = record { joins = c.joins; up = c.up; up_beyond = k.both.up }; named = sym names ∙ k.named ∙ ap Some keys });
    moved_root = λ k. absurd (unmoved c.way k.both.up (λ z. k.unnamed (names ∙ z ∙ ap Some (sym keys))));
  }

-- at another port
module _ (N : ℕ → Key → Type 0) (e f : TreeEnd) (l : ℕ) (n : Key) (s : Phase) (o : Option ℕ) (away : e.up ≢ Some e.port)
    (rises : e.level < l) (most : l ≤ e.coming) where
  -- which isn't Branch
  module _ (aside : e.mark ≢ Branch) where
    pub tree_past : TreeFits N e f → TreeFits N (told e l s o e.tree) f
    tree_past t = record {
      out_connect = λ z. absurd (aside z.here);
      silent = λ a b. t.silent a b;
      core_ends = λ j. absurd (aside j.here);
      upward = λ c. absurd (away c.up);
      downward = λ c. absurd (away c.up);
      core_queues = λ c. absurd (away c.both.up);
      moved_root = λ c. absurd (away c.both.up);
    }

    pub tree_past' : TreeFits N f e → TreeFits N f (told e l s o e.tree)
    tree_past' t = record {
      out_connect = λ z.
          let y = t.out_connect (record { here = z.here; there = z.there }) in
          record {
            mark = y.mark;
            up = y.up;
            apart = y.apart;
            level = y.level;
            higher = let h = y.higher in omega (arith, h, rises);
            one = y.one;
            none = y.none;
          };
      silent = λ a b. t.silent a b;
      core_ends = λ j. absurd (aside j.there);
      upward = λ c. absurd (aside c.joins.there);
      downward = λ c. absurd (aside c.joins.there);
      core_queues = λ c. absurd (aside c.both.joins.there);
      moved_root = λ c. absurd (aside c.both.joins.there);
    }

  -- which is: the Initiate is passed on
  module _ (joins : Joins e f) (ups : Ups f) (same : f.fragment ≡ e.fragment) (tops : f.coming ≡ e.coming)
      (names : f.coming_name ≡ e.coming_name) (inside : N e.fragment n) (name : l ≡ e.coming → e.coming_name ≡ Some n) (awake : s ≢ Sleeping)
      (find : s ≡ Find → l ≡ e.coming) where
    abbrev pub passed_to : TreeEnd
    passed_to = record f { tree = f.tree ++ Initiate l n s ∷ [] }

    pub tree_passed : TreeFits N e f → TreeFits N (told e l s o e.tree) passed_to
    tree_passed t = record {
      out_connect = λ z. absurd (z.there joins.there);
      silent = λ a b. absurd (a joins.here);
      core_ends = λ j h. absurd (away ((t.core_ends joins h).below (λ z. omega (arith, z, rises, most))));
      upward = λ c. absurd (away c.up);
      downward = λ c. absurd (away c.up);
      core_queues = λ c. absurd (away c.both.up);
      moved_root = λ c. absurd (away c.both.up);
    }

    up_passed : Upward f e → Upward passed_to (told e l s o e.tree)
    up_passed (Nothing_up q) = Nothing_up q
    up_passed (Report_up k q r) = Report_up k q (record { phase = r.phase; in_branch = r.in_branch; level = r.level; key = r.key })

    longer : (xs : List Message) → Falls (N f.fragment) f e xs → Falls (N f.fragment) passed_to (told e l s o e.tree) (xs ++ Initiate l n s ∷ [])
    longer xs x =
        chain_more (N f.fragment) f.coming f.coming_name e.level f.level l n s xs x rises (subst (λ y. N y n) (sym same) inside)
        (λ h. names ∙ name (h ∙ tops)) awake (λ h. find h ∙ sym tops)

    more : (xs : List Message) → xs ++ Initiate l n s ∷ [] ≢ []
    more [] = λ z. cc
    more (x ∷ xs) = λ z. cc

    down_passed : Downward (N f.fragment) f e → Downward (N f.fragment) passed_to (told e l s o e.tree)
    down_passed (Initiates x) = Initiates (longer f.tree x)
    down_passed (Old_report k xs q h x) =
        Old_report k (xs ++ Initiate l n s ∷ []) (ap (λ z. z ++ Initiate l n s ∷ []) q)
        (record { in_branch = h.in_branch; phase = h.phase; worse = h.worse; there = λ z. absurd (more xs z) }) (longer xs x)

    pub tree_passed' : TreeFits N f e → TreeFits N passed_to (told e l s o e.tree)
    tree_passed' t = record {
      out_connect = λ z. absurd (z.there joins.here);
      silent = λ a b. absurd (a joins.there);
      core_ends = λ j h. let z = t.core_ends (record { here = j.here; there = j.there }) h in record { at_top = z.at_top; below = z.below };
      upward = λ c. up_passed (t.upward (record { joins = record { here = joins.there; there = joins.here }; up = ups; down = away }));
      downward = λ c. down_passed (t.downward (record { joins = record { here = joins.there; there = joins.here }; up = ups; down = away }));
      core_queues = λ c. absurd (away c.both.up_beyond);
      moved_root = λ c. absurd (away c.both.up_beyond);
    }

-- the search clauses: there is no best any more, and no child has reported yet
module _ (e f : TreeEnd) (l : ℕ) (s : Phase) (o : Option ℕ) (rises : e.level < l) (most : l ≤ e.coming) (t t' : List Message) where
  pub search_told : SearchFits e f → SearchFits (told e l s o t) (record f { tree = t' })
  search_told h = record {
    rejected_inside = h.rejected_inside;
    find_leads = λ k z. absurd (let y = z in cc);
    find_reported = λ k z. absurd (let y = z in cc);
  }

  pub search_told' : SearchFits f e → SearchFits (record f { tree = t' }) (told e l s o t)
  search_told' h = record {
    rejected_inside = h.rejected_inside;
    find_leads =
        λ k x y m. let z = h.find_leads k x y m in record { key = z.key; apart = z.apart; higher = let q = z.higher in omega (arith, q, rises) };
    find_reported =
        λ k x y j. absurd (let z = (h.find_reported k x y (record { here = j.here; there = j.there })).level in omega (arith, z, rises, most));
  }
