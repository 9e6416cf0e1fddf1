-- Tests and their answers, at the two ends of a link.
use Rattle.std.proofs.Common.{◌≡◌, ◌≢◌, ℕ, zero, suc, ◌≤◌, Option, Some, None, List, [], ◌∷◌, ◌++◌, refl, sym, ap, subst, ⊎_elim, ◌⊎◌, inl, inr, length, arith}
use Rattle.std.proofs.lemmas.Bool.{cases_eq}
use Rattle.std.proofs.lemmas.Option.{same_Some}
use Rattle.ghs_graph.specs.declared.key.Key.{Key}
use Rattle.ghs_node.specs.declared.mark.Mark.{Mark}
use Rattle.ghs_node.specs.declared.mark.Mark.TheVariants.{Basic, Branch, Rejected}
use Rattle.ghs_protocol.proofs.clauses.Scene.{TestEnd}
use Rattle.ghs_protocol.proofs.clauses.Changes.{rejected}
use Rattle.ghs_protocol.proofs.clauses.Tests.{Probes, Strays, TestsFit, AllFrom}

pub probe_is : (o : Option ℕ) (p : ℕ) → (o ≡ Some p) ⊎ (o ≢ Some p)
probe_is None p = inr (λ e. cc)
probe_is (Some q) p = ⊎_elim (λ e. inl (ap Some e)) (λ ne. inr (λ e. ne (same_Some q p e))) (cases_eq q p)

pub not_some : (o : Option ℕ) (p : ℕ) → o ≡ None → o ≢ Some p
not_some o p e = λ z. cc

pub not_basic : (m : Mark) → rejected m ≢ Basic
not_basic Basic = λ e. cc
not_basic Branch = λ e. cc
not_basic Rejected = λ e. cc

abbrev pub with_tests : TestEnd → List (ℕ × Key) → TestEnd
with_tests e ts = record e { tests = ts }

abbrev pub with_probe : TestEnd → Option ℕ → TestEnd
with_probe e o = record e { probe = o }

abbrev pub with_mark' : TestEnd → Mark → TestEnd
with_mark' e m = record e { mark = m }

-- the end's probe isn't this port, before and after
pub tests_aside : (e f : TestEnd) (o : Option ℕ) (l : ℕ) (nm : Option Key) →
    e.probe ≢ Some e.port →
    o ≢ Some e.port →
    e.level ≤ l →
    TestsFit e f →
    TestsFit f e →
    TestsFit (record e { probe = o; level = l; name = nm }) f
tests_aside e f o l nm was is le he hf = record {
  probing = λ h. absurd (is h);
  not_probing = λ h. let s = he.not_probing was in record {
    accepts = s.accepts;
    rejects = s.rejects;
    one = s.one;
    crossed = λ c.
        let k = s.crossed c in
        record { probe = k.probe; same = k.same; mark = k.mark; tests = k.tests; accepts = k.accepts; rejects = k.rejects; from = k.from };
  };
}

pub tests_aside' : (e f : TestEnd) (o : Option ℕ) (l : ℕ) (nm : Option Key) →
    e.probe ≢ Some e.port →
    o ≢ Some e.port →
    e.level ≤ l →
    TestsFit e f →
    TestsFit f e →
    TestsFit f (record e { probe = o; level = l; name = nm })
tests_aside' e f o l nm was is le he hf = record {
  probing = λ h.
      let p = hf.probing h in
      record {
        one = p.one;
        from = p.from;
        accepted = λ c. let a = p.accepted c in (a.0, omega (arith, a.1, le));
        rejected = λ c. let r = p.rejected c in (r.0, r.1, is);
      };
  not_probing = λ h.
      let s = hf.not_probing h in
      record { accepts = s.accepts; rejects = s.rejects; one = s.one; crossed = λ c. absurd (was (s.crossed c).probe) };
}

-- e answers the Test that waits first
module _ (e f : TestEnd) (l : ℕ) (n : Key) (ts : List (ℕ × Key)) (waits : e.tests ≡ (l, n) ∷ ts) (he : TestsFit e f) (hf : TestsFit f e) where
  len : length e.tests ≡ suc (length ts)
  len = rw waits refl

  from_first : (k : ℕ) (o : Option Key) → AllFrom k o e.tests → (l ≡ k) × (o ≡ Some n) × AllFrom k o ts
  from_first k o h = rw waits at h

  -- not with its own name: the Test is no stray
  module _ (other : e.name ≢ Some n) (apart : f.probe ≡ Some f.port → l ≡ f.level → f.name ≡ Some n → f.fragment ≢ e.fragment)
      (le : l ≤ e.level) where
    asks : f.probe ≡ Some f.port
    asks =
        ⊎_elim (λ h. h)
        (λ ne. let k = (hf.not_probing ne).crossed (omega (arith, len)) in absurd (other (from_first _ _ k.from).1))
        (probe_is f.probe f.port)

    pub accept_there : TestsFit (record f { accepts = suc f.accepts }) (with_tests e ts)
    accept_there = let p = hf.probing asks in let q = from_first _ _ p.from in record {
      probing = λ h. record {
        one = omega (arith, p.one, len);
        from = q.2;
        accepted = λ c. ((λ z. apart asks q.0 q.1 (sym z)), omega (arith, q.0, le));
        rejected = λ c. absurd (omega (arith, c, p.one, len));
      };
      not_probing = λ h. absurd (h asks);
    }

    pub accept_here : TestsFit (with_tests e ts) (record f { accepts = suc f.accepts })
    accept_here = record {
      probing = λ h. let p = he.probing h in record { one = p.one; from = p.from; accepted = p.accepted; rejected = p.rejected };
      not_probing = λ h.
          let s = he.not_probing h in
          record { accepts = s.accepts; rejects = s.rejects; one = s.one; crossed = λ c. absurd (omega (arith, (s.crossed c).tests, len)) };
    }

  -- with its own name, and e isn't probing here
  module _ (free : e.probe ≢ Some e.port) (same : f.probe ≡ Some f.port → f.name ≡ Some n → e.fragment ≡ f.fragment) where
    asks' : f.probe ≡ Some f.port
    asks' = ⊎_elim (λ h. h) (λ ne. let k = (hf.not_probing ne).crossed (omega (arith, len)) in absurd (free k.probe)) (probe_is f.probe f.port)

    pub reject_there : TestsFit (record f { rejects = suc f.rejects }) (with_mark' (with_tests e ts) (rejected e.mark))
    reject_there = let p = hf.probing asks' in let q = from_first _ _ p.from in record {
      probing = λ h. record {
        one = omega (arith, p.one, len);
        from = q.2;
        accepted = λ c. absurd (omega (arith, c, p.one, len));
        rejected = λ c. (same asks' q.1, not_basic e.mark, free);
      };
      not_probing = λ h. absurd (h asks');
    }

    pub reject_here : TestsFit (with_mark' (with_tests e ts) (rejected e.mark)) (record f { rejects = suc f.rejects })
    reject_here = record {
      probing = λ h. absurd (free h);
      not_probing = λ h.
          let s = he.not_probing h in
          record { accepts = s.accepts; rejects = s.rejects; one = s.one; crossed = λ c. absurd (omega (arith, (s.crossed c).tests, len)) };
    }

    pub reject_frag : e.fragment ≡ f.fragment
    reject_frag = same asks' (from_first _ _ (hf.probing asks').from).1

  -- and e is
  module _ (own : e.probe ≡ Some e.port) (same : f.probe ≡ Some f.port → f.name ≡ Some n → e.fragment ≡ f.fragment)
      (alike : f.probe ≡ Some f.port → e.fragment ≡ f.fragment → (e.level ≡ f.level) × (e.name ≡ f.name)) where
    pub cross_frag : e.fragment ≡ f.fragment
    cross_frag =
        ⊎_elim (λ h. same h (from_first _ _ (hf.probing h).from).1) (λ ne. ((hf.not_probing ne).crossed (omega (arith, len))).same)
        (probe_is f.probe f.port)

    pub cross_here : TestsFit (with_mark' (with_tests (with_probe e None) ts) (rejected e.mark)) f
    cross_here = record {
      probing = λ h. absurd (not_some None e.port refl h);
      not_probing = λ h. ⊎_elim normal stray (probe_is f.probe f.port);
    }
      where
        p : Probes e f
        p = he.probing own

        normal : f.probe ≡ Some f.port → Strays (with_mark' (with_tests (with_probe e None) ts) (rejected e.mark)) f
        normal h = let q = hf.probing h in let a = alike h cross_frag in record {
          accepts = none_of e.accepts (λ c. (p.accepted c).0 (sym cross_frag));
          rejects = none_of e.rejects (λ c. (p.rejected c).2 h);
          one = omega (arith, p.one);
          crossed = λ c. record {
            probe = h;
            same = sym cross_frag;
            mark = not_basic e.mark;
            tests = omega (arith, q.one, len);
            accepts = omega (arith, q.one, len);
            rejects = omega (arith, q.one, len);
            from = from_as f.tests a.0 a.1 p.from;
          };
        }
          where
            none_of : (k : ℕ) → (1 ≤ k → ⊥) → ◌≡◌ {A = ℕ} k 0
            none_of zero h = refl
            none_of (suc k) h = absurd (h (omega arith))

            from_as : {k l : ℕ} {n o : Option Key} (xs : List (ℕ × Key)) → k ≡ l → n ≡ o → AllFrom k n xs → AllFrom l o xs
            from_as {k} {l} {n} {o} xs e h a = subst (λ z. AllFrom l z xs) h (subst (λ z. AllFrom z n xs) e a)

        stray : f.probe ≢ Some f.port → Strays (with_mark' (with_tests (with_probe e None) ts) (rejected e.mark)) f
        stray ne =
            let k = (hf.not_probing ne).crossed (omega (arith, len)) in
            record { accepts = k.accepts; rejects = k.rejects; one = omega (arith, k.tests); crossed = λ c. absurd (omega (arith, c, k.tests)) }

    pub cross_there : TestsFit f (with_mark' (with_tests (with_probe e None) ts) (rejected e.mark))
    cross_there = record {
      probing = λ h.
          let p = hf.probing h in
          record {
            one = omega (arith, p.one, len);
            from = (from_first _ _ p.from).2;
            accepted = p.accepted;
            rejected = λ c. absurd (omega (arith, c, p.one, len));
          };
      not_probing = λ h.
          let s = hf.not_probing h in
          record {
            accepts = s.accepts;
            rejects = s.rejects;
            one = omega (arith, s.one, len);
            crossed = λ c. absurd (omega (arith, c, s.one, len));
          };
    }

-- e hears an answer
module _ (e f : TestEnd) (own : e.probe ≡ Some e.port) (he : TestsFit e f) (hf : TestsFit f e) where
  pub accepted_apart : (a : ℕ) → e.accepts ≡ suc a → (f.fragment ≢ e.fragment) × (e.level ≤ f.level)
  accepted_apart a k = (he.probing own).accepted (omega (arith, k))

  pub accepted_here : (a : ℕ) → e.accepts ≡ suc a → TestsFit (with_probe (record e { accepts = a }) None) f
  accepted_here a k = let p = he.probing own in record {
    probing = λ h. absurd (not_some None e.port refl h);
    not_probing = λ h. record {
      accepts = omega (arith, p.one, k);
      rejects = omega (arith, p.one, k);
      one = omega (arith, p.one);
      crossed = λ c. absurd (omega (arith, c, p.one, k));
    };
  }

  pub accepted_there : (a : ℕ) → e.accepts ≡ suc a → TestsFit f (with_probe (record e { accepts = a }) None)
  accepted_there a k = let ap = accepted_apart a k in record {
    probing = λ h.
        let p = hf.probing h in
        record { one = p.one; from = p.from; accepted = p.accepted; rejected = λ c. absurd (ap.0 (sym (p.rejected c).0)) };
    not_probing = λ h.
        let s = hf.not_probing h in
        record { accepts = s.accepts; rejects = s.rejects; one = s.one; crossed = λ c. absurd (omega (arith, (s.crossed c).accepts, k)) };
  }

  pub rejected_facts : (r : ℕ) → e.rejects ≡ suc r → (f.fragment ≡ e.fragment) × (f.mark ≢ Basic) × (f.probe ≢ Some f.port)
  rejected_facts r k = (he.probing own).rejected (omega (arith, k))

  pub rejected_here : (r : ℕ) → e.rejects ≡ suc r → TestsFit (with_mark' (with_probe (record e { rejects = r }) None) (rejected e.mark)) f
  rejected_here r k = let p = he.probing own in record {
    probing = λ h. absurd (not_some None e.port refl h);
    not_probing = λ h. record {
      accepts = omega (arith, p.one, k);
      rejects = omega (arith, p.one, k);
      one = omega (arith, p.one);
      crossed = λ c. absurd (omega (arith, c, p.one, k));
    };
  }

  pub rejected_there : (r : ℕ) → e.rejects ≡ suc r → TestsFit f (with_mark' (with_probe (record e { rejects = r }) None) (rejected e.mark))
  rejected_there r k = let q = rejected_facts r k in record {
    probing = λ h. absurd (q.2 h);
    not_probing = λ h.
        let s = hf.not_probing h in
        record { accepts = s.accepts; rejects = s.rejects; one = s.one; crossed = λ c. absurd (omega (arith, (s.crossed c).rejects, k)) };
  }

-- e sends a Test over a Basic port
module _ (e f : TestEnd) (n : Key) (named : e.name ≡ Some n) (free : e.probe ≡ None) (basic : e.mark ≡ Basic) (he : TestsFit e f)
    (hf : TestsFit f e) where
  s : Strays e f
  s = he.not_probing (not_some _ _ free)

  no_tests : f.tests ≡ []
  no_tests = go f.tests (λ c. (s.crossed c).mark basic)
    where
      go : (ts : List (ℕ × Key)) → (1 ≤ length ts → ⊥) → ts ≡ []
      go [] h = refl
      go (t ∷ ts) h = absurd (h (omega arith))

  pub scan_here : TestsFit (with_probe e (Some e.port)) (with_tests f (f.tests ++ (e.level, n) ∷ []))
  scan_here = let a = s.accepts in let r = s.rejects in record {
    probing = λ h. record {
      one = rw no_tests (omega (arith, a, r));
      from = rw no_tests (refl, named, tt);
      accepted = λ c. absurd (omega (arith, c, a));
      rejected = λ c. absurd (omega (arith, c, r));
    };
    not_probing = λ h. absurd (h refl);
  }

  pub scan_there : TestsFit (with_tests f (f.tests ++ (e.level, n) ∷ [])) (with_probe e (Some e.port))
  scan_there = record {
    probing = λ h.
        let p = hf.probing h in record { one = p.one; from = p.from; accepted = p.accepted; rejected = λ c. absurd ((p.rejected c).1 basic) };
    not_probing = λ h.
        let z = hf.not_probing h in
        record { accepts = z.accepts; rejects = z.rejects; one = z.one; crossed = λ c. absurd (not_some _ _ free (z.crossed c).probe) };
  }
