-- The links of lines without a fault.
use Rattle.std.proofs.Common.{◌≡◌, ◌≢◌, ◌<◌, ◌≤◌, ◌∙◌, ℕ, zero, suc, true, false, Bool, cond, List, [], ◌∷◌, length, take, drop, get_or, refl, sym, ap, subst, arith, Option, Some, None}
use Rattle.std.specs.Prelude.{All, Contains, nat_le, ◌==◌}
use Rattle.std.specs.List.{cons_option}
use Rattle.std.specs.Option.{option_or}
use Rattle.std.proofs.lemmas.Bool.{and_parts, eq-eqb, false≢true, leb-true}
use Rattle.std.proofs.lemmas.List.{take-append-drop}
use Rattle.std.proofs.lemmas.List.Elements.{Contains-get_or}
use Rattle.ghs_lines.specs.Judging.{AreSound}
use Rattle.ghs_gr.specs.Arc.{key_of, link_in, link_of, links_in}
use Rattle.ghs_gr.specs.Fault.{Sizes, ends_fault, is_node, judge, line_fault, problem_in}
use Rattle.ghs_gr.specs.Key.{AreSameKeys}
use Rattle.ghs_gr.specs.RawGraph.{IsLinkOf, Triple}
use Rattle.ghs_gr.specs.declared.arc.Arc.{Arc}
use Rattle.ghs_gr.specs.declared.fault.LineFault.{LineFault}
use Rattle.ghs_gr.specs.declared.fault.LineFault.TheVariants.{NodeRange}
use Rattle.ghs_gr.specs.declared.line.Line.{Line}
use Rattle.ghs_gr.specs.declared.line.Line.TheVariants as line
use Rattle.ghs_gr.proofs.Passes.{problem_in-append}

-- the place of the line that gives a link
record IsGivenAt (ls : List Line) (key : Triple) (k : ℕ) : Type 0 where
  below : k < length ls
  here : link_in (get_or ls k line.Passed) ≡ Some key

later : (l : Line) (ls : List Line) (key : Triple) → (k : ℕ) × IsGivenAt ls key k → (k : ℕ) × IsGivenAt (l ∷ ls) key k
later l ls key (k, h) = let below : k < length ls = h.below in (suc k, record { below = omega arith; here = h.here })

given_at : (l : Line) (o : Option Triple) (ls : List Line) (key : Triple) → link_in l ≡ o
    → (Contains (links_in ls) key → (k : ℕ) × IsGivenAt ls key k)
    → Contains (cons_option o (links_in ls)) key → (k : ℕ) × IsGivenAt (l ∷ ls) key k
given_at l None ls key e more c = later l ls key (more c)
given_at l (Some j) ls key e more (zero, low, same) = (zero, record { below = omega arith; here = e ∙ ap (λ x. Some x) same })
given_at l (Some j) ls key e more (suc k, low, same) = later l ls key (more (k, omega arith, same))

given : (ls : List Line) (key : Triple) → Contains (links_in ls) key → (k : ℕ) × IsGivenAt ls key k
given [] key c = absurd (omega (arith, c.1))
given (l ∷ ls) key c = given_at l (link_in l) ls key refl (given ls key) c

-- the ends of an arc without a fault
apart : (b : Bool) (j k : Triple) → cond b None (Some j) ≡ Some k → (b ≡ false) × (j ≡ k)
apart true j k e = cc
apart false j k e = (refl, cc)

passed : (b : Bool) (f : LineFault) → cond b None (Some f) ≡ None → b ≡ true
passed true f e = refl
passed false f e = cc

between : (n : ℕ) (a : Arc) (key : Triple) → link_of a ≡ Some key → ends_fault (Some n) (Some a) ≡ None → IsLinkOf n key
between n a key e sound =
    let link = apart (a.from == a.to) (key_of a) key e in
    let ends = and_parts (is_node (Some n) a.from) (is_node (Some n) a.to) (passed _ NodeRange sound) in
    let from = and_parts (nat_le 1 a.from) (nat_le a.from n) ends.0 in
    let to = and_parts (nat_le 1 a.to) (nat_le a.to n) ends.1 in
    let from_low : 1 ≤ a.from = leb-true 1 a.from from.0 in
    let from_high : a.from ≤ n = leb-true a.from n from.1 in
    let to_low : 1 ≤ a.to = leb-true 1 a.to to.0 in
    let to_high : a.to ≤ n = leb-true a.to n to.1 in
    let differ : a.from ≢ a.to = λ same. false≢true (sym link.0 ∙ eq-eqb a.from a.to same) in
    subst (IsLinkOf n) link.1 (omega arith, omega arith, omega arith)

of_line : (p q : Option Sizes) (l : Line) (key : Triple) (n : ℕ) (m : Option ℕ)
    → link_in l ≡ Some key → line_fault p l ≡ None → option_or p q ≡ Some (Some n, m) → IsLinkOf n key
of_line p q line.Passed key n m e sound is = cc
of_line p q line.Malformed key n m e sound is = cc
of_line p q (line.Problem nodes arcs) key n m e sound is = cc
of_line p q (line.Arc None) key n m e sound is = cc
of_line None q (line.Arc (Some a)) key n m e sound is = cc
of_line (Some s) q (line.Arc (Some a)) key n m e sound is =
    let same : s ≡ (Some n, m) = cc in
    between n a key e (subst (λ (t : Sizes). ends_fault t.0 (Some a) ≡ None) same sound)

-- links of lines without a fault are links of their graph
pub links_among : (ls : List Line) (n : ℕ) (m : Option ℕ) (keys : List Triple)
    → AreSound judge ls → problem_in ls ≡ Some (Some n, m) → AreSameKeys keys (links_in ls) → All (IsLinkOf n) keys
links_among ls n m keys sound problem are i d l =
    let key = get_or keys i d in
    let g = given ls key ((are key).0 (Contains-get_or keys i d l)) in
    let k = g.0 in
    let whole : option_or (problem_in (take k ls)) (problem_in (drop k ls)) ≡ Some (Some n, m) =
    sym (problem_in-append (take k ls) (drop k ls)) ∙ ap problem_in (take-append-drop k ls) ∙ problem in
    of_line (problem_in (take k ls)) (problem_in (drop k ls)) (get_or ls k line.Passed) key n m g.1.here (sound k g.1.below) whole
