-- A new core link, with a Connect in each of its queues.
use Rattle.std.proofs.Common.{◌≡◌, ℕ, suc, ◌==◌, Bool, true, false, ◌||◌, Some, None, List, [], ◌∷◌, ◌++◌, refl, ◌⊎◌, inl, inr, arith, eqb-true}
use Rattle.ghs_graph.specs.declared.key.Key.{Key}
use Rattle.ghs_node.specs.declared.mark.Mark.{Mark}
use Rattle.ghs_node.specs.declared.mark.Mark.TheVariants.{Branch}
use Rattle.ghs_node.specs.declared.message.Phase.TheVariants.{Sleeping, Find, Found}
use Rattle.ghs_node.specs.declared.message.Message.{Message}
use Rattle.ghs_node.specs.declared.message.Message.TheVariants.{Connect, Initiate, Test, Accept, Reject, Report, ChangeRoot}
use Rattle.ghs_protocol.proofs.clauses.Scene.{TreeEnd, TestEnd}
use Rattle.ghs_protocol.proofs.clauses.Links.{Ups}
use Rattle.ghs_protocol.proofs.clauses.TreeMessages.{TreeFits, Asking, Plain}
use Rattle.ghs_protocol.proofs.clauses.Search.{SearchFits}
use Rattle.ghs_protocol.proofs.clauses.Tests.{TestsFit}
use Rattle.ghs_protocol.proofs.clauses.Rest.{has_call}

pub has_call_connect : (xs : List Message) (k : ℕ) → has_call (xs ++ Connect k ∷ []) ≡ has_call xs
has_call_connect [] k = refl
has_call_connect (Connect _ ∷ xs) k = has_call_connect xs k
has_call_connect (Initiate _ _ Find ∷ xs) k = refl
has_call_connect (Initiate _ _ Found ∷ xs) k = has_call_connect xs k
has_call_connect (Initiate _ _ Sleeping ∷ xs) k = has_call_connect xs k
has_call_connect (Test _ _ ∷ xs) k = has_call_connect xs k
has_call_connect (Accept ∷ xs) k = has_call_connect xs k
has_call_connect (Reject ∷ xs) k = has_call_connect xs k
has_call_connect (Report _ ∷ xs) k = has_call_connect xs k
has_call_connect (ChangeRoot ∷ xs) k = has_call_connect xs k

pub either_eq : (k c a : ℕ) → ((k == c) || (k == a)) ≡ true → (k ≡ c) ⊎ (k ≡ a)
either_eq k c a e = go (k == c) refl e
  where
    go : (x : Bool) → (k == c) ≡ x → (x || (k == a)) ≡ true → (k ≡ c) ⊎ (k ≡ a)
    go true h z = inl (eqb-true k c h)
    go false h z = inr (eqb-true k a z)

pub or_true : (x : Bool) → (x || true) ≡ true
or_true true = refl
or_true false = refl

-- a new core: a Connect in each queue
pub new_core : {N : ℕ → Key → Type 0} (e f : TreeEnd) →
    e.mark ≡ Branch →
    f.mark ≡ Branch →
    Ups e →
    Ups f →
    suc e.level ≡ e.coming →
    suc f.level ≡ f.coming →
    e.coming_name ≡ Some e.key →
    e.tree ≡ Connect f.level ∷ [] →
    f.tree ≡ Connect e.level ∷ [] →
    TreeFits N e f
new_core e f b b' u u' l l' n q q' = record {
  out_connect = λ o. absurd (o.there b');
  silent = λ x y. absurd (x b);
  core_ends = λ j h. record { at_top = λ z. absurd (omega (arith, l, z)); below = λ z. u };
  upward = λ c. absurd (c.down u');
  downward = λ c. absurd (c.down u');
  core_queues = λ c. record {
    here = Asking;
    there = Asking;
    at_here = l;
    at_there = l';
    served = tt;
    served_beyond = tt;
    queue = Plain q;
    queue_beyond = Plain q';
  };
  moved_root = λ c. absurd (c.unnamed n);
}

pub new_search : (e f : TreeEnd) → e.mark ≡ Branch → suc e.level ≡ e.coming → SearchFits e f
new_search e f b l = record {
  rejected_inside = λ z. absurd (cc (b, z));
  find_leads = λ k x z m. absurd (m b);
  find_reported = λ k x z j. absurd (omega (arith, l, z));
}

-- who doesn't probe, at a link that becomes a Branch
pub tests_branch : (e f : TestEnd) (m : Mark) → e.probe ≡ None → TestsFit e f → TestsFit (record e { mark = Branch; probe = None }) f
tests_branch e f m idle h = record {
  probing = λ z. absurd (let y = z in cc);
  not_probing = λ z.
      let s = h.not_probing (λ y. cc (y, idle)) in
      record {
        accepts = s.accepts;
        rejects = s.rejects;
        one = s.one;
        crossed = λ c.
            let k = s.crossed c in
            record { probe = k.probe; same = k.same; mark = λ y. cc; tests = k.tests; accepts = k.accepts; rejects = k.rejects; from = k.from };
      };
}

pub tests_branch' : (e f : TestEnd) → e.probe ≡ None → TestsFit f e → TestsFit f (record e { mark = Branch; probe = None })
tests_branch' e f idle h = record {
  probing = λ z.
      let p = h.probing z in
      record { one = p.one; from = p.from; accepted = p.accepted; rejected = λ c. let r = p.rejected c in (r.0, (λ y. cc), (λ y. cc)) };
  not_probing = λ z.
      let s = h.not_probing z in
      record { accepts = s.accepts; rejects = s.rejects; one = s.one; crossed = λ c. absurd (let k = (s.crossed c).probe in cc (k, idle)) };
}
