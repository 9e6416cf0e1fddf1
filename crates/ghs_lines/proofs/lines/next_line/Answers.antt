use Rattle.std.proofs.Common.{◌≡◌, ◌<◌, ◌∙◌, ◌∷◌, [], List, ℕ, length, drop, take, ap, sym, arith, eq-eqb, eqb-true, add-one, take_all}
use Rattle.std.proofs.lemmas.List.{drop_all}
use Rattle.std.proofs.lemmas.Bool.{false≢true}
use Rattle.std.specs.Prelude.{◌==◌, false}
use Rattle.ghs_lines.specs.Lines.{lines_of}
use Rattle.ghs_lines.proofs.lemmas.Cuts.{lines_of-feed, lines_of-last}
use Rattle.ghs_lines.proofs.lines.next_line.Goals as goal

pub returns-in-Some-clause-some : goal.returns-in-Some-clause-some
returns-in-Some-clause-some c =
    let h = c.in-Some.ensures in
    lines_of-feed c.in-Some.end c.args.text.now h.0.high (λ k l e. h.0.before k (omega arith) l (eq-eqb _ _ e)) (eqb-true _ _ h.1)
    ∙ cc (c.split_at.ensures.front, c.split_at-in-Some.ensures.back, add-one c.in-Some.end)

-- a text that isn't empty has a length
positive : (xs : List ℕ) → (length xs == 0) ≡ false → 0 < length xs
positive [] none = absurd (false≢true (sym none))
positive (x ∷ xs) none = omega arith

-- a text cut at its end
last : (text line rest : List ℕ) →
    lines_of text ≡ text ∷ [] →
    line ≡ take (length text) text →
    rest ≡ drop (length text) text →
    lines_of text ≡ line ∷ lines_of rest
last text line rest e f b =
    let all : line ≡ text = f ∙ take_all (length text) text (omega arith) in
    let none : rest ≡ [] = b ∙ drop_all (length text) text (omega arith) in
    e ∙ sym (ap (λ l. l ∷ lines_of rest) all ∙ ap (λ r. text ∷ lines_of r) none)

pub returns-in-None-clause-some : goal.returns-in-None-clause-some
returns-in-None-clause-some c =
    let h = c.in-None.ensures in
    last c.args.text.now _ _
    (lines_of-last c.args.text.now
    (positive c.args.text.now (sym c.is_empty.ensures ∙ c.if-is_empty.false)) (λ k l e. h k (omega arith) l (eq-eqb _ _ e)))
    c.split_at-in-None.ensures.front c.split_at-in-None.ensures.back
