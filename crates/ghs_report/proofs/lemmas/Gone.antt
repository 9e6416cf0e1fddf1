-- What of a text has gone out, piece by piece.
use Rattle.std.proofs.Common.{◌≡◌, ℕ, ◌+◌, ◌<◌, List, [], ◌++◌, length, take, refl, sym, ◌∙◌, ap, append_assoc, append-nil, length-append, arith}
use Rattle.std.specs.Prelude.{Option, Some, None}
use Rattle.std.specs.Io.KnownBytes.{Appends}
use Rattle.std.proofs.lemmas.List.{take_all, take-append-le}
use Rattle.std.proofs.Math.Seq.{take-append-add}
use Rattle.ghs_report.specs.Writing.{HasWritten}
use Rattle.ghs_report.specs.declared.portions.WriteFault.{WriteFault}
use Rattle.ghs_report.specs.declared.portions.WriteFault.TheVariants.{Memory, Write}
use Rattle.ghs_report.specs.Written.{IsOut, IsFront}

appends_both : (a b c : Option (List ℕ)) (xs ys : List ℕ) → Appends a b xs → Appends b c ys → Appends a c (xs ++ ys)
appends_both None b c xs ys h k = tt
appends_both (Some us) None c xs ys h k = absurd h
appends_both (Some us) (Some vs) None xs ys h k = absurd k
appends_both (Some us) (Some vs) (Some ws) xs ys h k = k ∙ (ap (λ t. t ++ ys) h ∙ append_assoc us xs ys)

appends_none : (o : Option (List ℕ)) → Appends o o []
appends_none None = tt
appends_none (Some us) = sym (append-nil us)

pub out_start : (a : Option (List ℕ)) → IsOut a a [] 0 []
out_start a = record { front = []; cut = refl; count = refl; out = appends_none a }

-- more text waits
pub out_more : (old now : Option (List ℕ)) (all rest more : List ℕ) (gone : ℕ) → IsOut old now all gone rest →
    IsOut old now (all ++ more) gone (rest ++ more)
out_more old now all rest more gone o =
    record { front = o.front; cut = ap (λ t. t ++ more) o.cut ∙ append_assoc o.front rest more; count = o.count; out = o.out }

-- all that waits goes out
pub out_sent : (old mid new : Option (List ℕ)) (all rest : List ℕ) (gone : ℕ) → IsOut old mid all gone rest →
    Appends mid new (take (length rest) rest) →
    IsOut old new all (gone + length rest) []
out_sent old mid new all rest gone o sent =
    record {
      front = o.front ++ rest;
      cut = o.cut ∙ sym (append-nil (o.front ++ rest));
      count = length-append o.front rest ∙ ap (λ n. n + length rest) o.count;
      out = appends_both old mid new o.front rest o.out (rw (take_all (length rest) rest (omega arith)) at sent);
    }

written_past : (old mid new : Option (List ℕ)) (all rest : List ℕ) (gone k : ℕ) → IsOut old mid all gone rest → HasWritten mid new rest k →
    HasWritten old new all (gone + k)
written_past old mid new all rest gone k o sent =
    rw (o.cut, ← o.count, take-append-add o.front rest k) (appends_both old mid new o.front (take k rest) o.out sent)

-- a part of it goes out
pub out_failed : (old mid new : Option (List ℕ)) (all rest : List ℕ) (gone k : ℕ) → IsOut old mid all gone rest → k < length rest →
    HasWritten mid new rest k →
    IsFront old new all (Write (gone + k))
out_failed old mid new all rest gone k o lt sent =
    let many : length all ≡ gone + length rest = ap length o.cut ∙ (length-append o.front rest ∙ ap (λ n. n + length rest) o.count) in
    (omega arith, written_past old mid new all rest gone k o sent)

-- what has gone out is a front
pub out_front : (old now : Option (List ℕ)) (all rest : List ℕ) (gone : ℕ) → IsOut old now all gone rest → IsFront old now all Memory
out_front old now all rest gone o =
    let many : length all ≡ gone + length rest = ap length o.cut ∙ (length-append o.front rest ∙ ap (λ n. n + length rest) o.count) in
    let part : take gone all ≡ o.front = rw (o.cut, ← o.count)
    (take-append-le (length o.front) o.front rest (omega arith) ∙ take_all (length o.front) o.front (omega arith)) in
    (gone, omega arith, rw part o.out)

pub out_all : (old now : Option (List ℕ)) (all : List ℕ) (gone : ℕ) → IsOut old now all gone [] → Appends old now all
out_all old now all gone o = rw (o.cut, append-nil o.front) o.out

-- a front of a text is one of a longer text
pub front_longer : (old now : Option (List ℕ)) (all more : List ℕ) (f : WriteFault) → IsFront old now all f → IsFront old now (all ++ more) f
front_longer old now all more Memory (k, le, h) = (k, omega (arith, length-append all more), rw (take-append-le k all more le) h)
front_longer old now all more (Write k) (lt, h) = (omega (arith, length-append all more), rw (take-append-le k all more (omega arith)) h)
