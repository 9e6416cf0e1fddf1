-- A message that goes round is the only one of its sort in its queue, so that the invariant doesn't see it.
use Rattle.std.proofs.Common.{◌≡◌, ◌≢◌, ℕ, suc, ◌≤◌, Option, List, [], ◌∷◌, ◌++◌, length, refl, sym, ◌∙◌, ap, arith, ⊎_elim, ◌⊎◌}
use Rattle.ghs_graph.specs.declared.key.Key.{Key}
use Rattle.ghs_node.specs.declared.mark.Mark.TheVariants.{Basic, Branch}
use Rattle.ghs_node.specs.declared.message.Phase.TheVariants.{Find}
use Rattle.ghs_node.specs.declared.message.Message.{Message}
use Rattle.ghs_node.specs.declared.message.Message.TheVariants.{Connect, Initiate, Test, Report, ChangeRoot}
use Rattle.ghs_protocol.proofs.clauses.Scene.{TreeEnd, TestEnd, unseen, add, see}
use Rattle.ghs_protocol.proofs.clauses.Links.{Joins, Ups}
use Rattle.ghs_protocol.proofs.clauses.TreeMessages.{TreeFits, Downward, Initiates, Old_report, CoreFits, CoreQueue, Plain, With_report, MovedFits, To_here, To_there, Stage, Asking, Called, Begun, called}
use Rattle.ghs_protocol.proofs.clauses.Tests.{TestsFit}
use Rattle.ghs_protocol.proofs.tests.Links.{probe_is}
use Rattle.ghs_protocol.proofs.acts.AsRead.{both, same_seen, see_first, see_more}
use Rattle.ghs_protocol.proofs.search.FirstReport.{Joint, Down_here, Down_there, On_core, On_moved, joint, mark_is, no_report, no_plain, joined}

-- an only tree message, and an only Test, go round, and no clause sees it
pub connect_round : (l : ℕ) (ms : List Message) → (see ms).tree ≡ [] → see (ms ++ Connect l ∷ []) ≡ see (Connect l ∷ ms)
connect_round l ms e =
    see_more ms (Connect l) ∙
    same_seen (add (see ms) (Connect l)) (both (add unseen (Connect l)) (see ms))
    (ap (λ z. z ++ Connect l ∷ []) e ∙ sym (ap (λ z. Connect l ∷ z) e)) refl (omega arith) (omega arith) ∙
    sym (see_first (Connect l) ms)

pub report_round : (w : Option Key) (ms : List Message) → (see ms).tree ≡ [] → see (ms ++ Report w ∷ []) ≡ see (Report w ∷ ms)
report_round w ms e =
    see_more ms (Report w) ∙
    same_seen (add (see ms) (Report w)) (both (add unseen (Report w)) (see ms)) (ap (λ z. z ++ Report w ∷ []) e ∙ sym (ap (λ z. Report w ∷ z) e))
    refl (omega arith) (omega arith) ∙
    sym (see_first (Report w) ms)

pub test_round : (l : ℕ) (n : Key) (ms : List Message) → (see ms).tests ≡ [] → see (ms ++ Test l n ∷ []) ≡ see (Test l n ∷ ms)
test_round l n ms e =
    see_more ms (Test l n) ∙
    same_seen (add (see ms) (Test l n)) (both (add unseen (Test l n)) (see ms)) refl (ap (λ z. z ++ (l, n) ∷ []) e ∙ sym (ap (λ z. (l, n) ∷ z) e))
    (omega arith) (omega arith) ∙
    sym (see_first (Test l n) ms)

-- a Connect at a Basic port is the only tree message there
pub lone_connect : {N : ℕ → Key → Type 0} (e f : TreeEnd) →
    TreeFits N e f →
    TreeFits N f e →
    (l : ℕ) (ms : List Message) → e.tree ≡ Connect l ∷ ms →
    e.mark ≡ Basic →
    ms ≡ []
lone_connect e f he hf l ms waits basic =
    ⊎_elim (λ b. let z : Connect l ∷ ms ≡ Connect f.level ∷ [] = sym waits ∙ (hf.out_connect (record { here = b; there = unmarked })).one in cc)
    (λ b. absurd (let z : Connect l ∷ ms ≡ [] = sym waits ∙ he.silent unmarked b in cc)) (mark_is f.mark)
  where
    unmarked : e.mark ≢ Branch
    unmarked z = cc (z, basic)

-- so is a Report to a node that still searches, over its way to the core
module _ {N : ℕ → Key → Type 0} (e f : TreeEnd) (he : TreeFits N e f) (hf : TreeFits N f e) (ups : Joins e f → Ups e ⊎ Ups f)
    (k : Option Key) (ms : List Message) (waits : e.tree ≡ Report k ∷ ms) (finds : e.phase ≡ Find) (up : Ups e) where
  only_report : (a : Stage) (r : Option Key) (v : ℕ) (n : Key) → e.tree ≡ called v n a ++ Report r ∷ [] → ms ≡ []
  only_report Asking r v n q = let z : Report k ∷ ms ≡ Report r ∷ [] = sym waits ∙ q in cc
  only_report Called r v n q = absurd (let z : Report k ∷ ms ≡ Initiate v n Find ∷ Report r ∷ [] = sym waits ∙ q in cc)
  only_report Begun r v n q = let z : Report k ∷ ms ≡ Report r ∷ [] = sym waits ∙ q in cc

  pub lone_report : ms ≡ []
  lone_report = go (joint e f linked (ups linked))
    where
      linked : Joins e f
      linked = joined e f he hf ups k ms waits

      down : Downward (N e.fragment) e f → ms ≡ []
      down (Initiates c) = absurd (no_report _ _ _ _ _ k ms e.tree waits c)
      down (Old_report r xs q h c) = absurd (let z = h.phase in cc (z, finds))

      core : (z : CoreFits e f) → CoreQueue e f z.here z.there → ms ≡ []
      core z (Plain q) = absurd (no_plain _ _ _ z.here z.there k ms (sym q ∙ waits))
      core z (With_report r q s p b) = only_report z.here r _ _ q

      moved : MovedFits e f → ms ≡ []
      moved (To_here m) = absurd (let z : Report k ∷ ms ≡ ChangeRoot ∷ [] = sym waits ∙ m.queue in cc)
      moved (To_there m) = absurd (let z : Report k ∷ ms ≡ [] = sym waits ∙ m.queue_beyond in cc)

      go : Joint e f → ms ≡ []
      go (Down_here c) = down (he.downward c)
      go (Down_there c) = absurd (c.down up)
      go (On_core c) = let z = he.core_queues c in core z z.queue
      go (On_moved c) = moved (he.moved_root c)

none_of : {A : Type 0} (xs : List A) → length xs ≤ 0 → xs ≡ []
none_of [] le = refl
none_of (x ∷ xs) le = absurd (omega arith)

-- and a Test is the only one
pub lone_test : (e f : TestEnd) → TestsFit f e → (t : ℕ × Key) (ts : List (ℕ × Key)) → e.tests ≡ t ∷ ts → ts ≡ []
lone_test e f hf t ts waits =
    none_of ts
    (⊎_elim (λ a. let z = (hf.probing a).one in omega (arith, z, many)) (λ a. let z = (hf.not_probing a).one in omega (arith, z, many))
    (probe_is f.probe f.port))
  where
    many : length e.tests ≡ suc (length ts)
    many = ap length waits
