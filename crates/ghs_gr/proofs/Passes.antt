-- How a pass goes on.
use Rattle.std.proofs.Common.{◌≡◌, ◌+◌, ◌≤◌, ◌∙◌, true, false, List, [], ◌∷◌, ◌++◌, length, append_assoc, refl, sym, ap, arith, subst, ⊎_elim, Option, Some, None}
use Rattle.std.specs.Prelude.{Contains, MatchOption, is_some}
use Rattle.std.specs.Option.{option_map, option_or}
use Rattle.std.proofs.lemmas.List.{length-append}
use Rattle.std.proofs.lemmas.List.Elements.{Contains-append_cases, Contains-append_left, Contains-append_right, filter-append, filter_map-append}
use Rattle.std.proofs.lemmas.List.Sums.{count_by-le-length, length-filter}
use Rattle.ghs_lines.specs.Judging.{IsFirstFault}
use Rattle.ghs_lines.proofs.lemmas.Judging.{IsFirstFault-append, Passes, sound_more}
use Rattle.ghs_gr.specs.Arc.{arc_count, is_arc_line, link_in, links_in}
use Rattle.ghs_gr.specs.Fault.{Sizes, judge, line_fault, problem_in}
use Rattle.ghs_gr.specs.Key.{AreSameKeys}
use Rattle.ghs_gr.specs.Pass.{IsPass, IsSoundPass, Notes}
use Rattle.ghs_gr.specs.Problem.{sizes_of}
use Rattle.ghs_gr.specs.RawGraph.{Triple}
use Rattle.ghs_gr.specs.declared.arc.Arc.{Arc}
use Rattle.ghs_gr.specs.declared.fault.LineFault.{LineFault}
use Rattle.ghs_gr.specs.declared.line.Line.{Line}
use Rattle.ghs_gr.specs.declared.line.Line.TheVariants as line
use Rattle.ghs_gr.specs.declared.pass.Pass.{Pass}

-- what lines say, and more lines behind them

pub problem_in-append : (xs ys : List Line) → problem_in (xs ++ ys) ≡ option_or (problem_in xs) (problem_in ys)
problem_in-append [] ys = refl
problem_in-append (line.Passed ∷ xs) ys = problem_in-append xs ys
problem_in-append (line.Malformed ∷ xs) ys = problem_in-append xs ys
problem_in-append (line.Problem n m ∷ xs) ys = refl
problem_in-append (line.Arc a ∷ xs) ys = problem_in-append xs ys

arc_count-append : (xs ys : List Line) → arc_count (xs ++ ys) ≡ arc_count xs + arc_count ys
arc_count-append xs ys = ap length (filter-append is_arc_line xs ys) ∙ length-append _ _

-- a line that says nothing has no fault
pub passes : Passes judge
passes said = refl

-- what a pass with this fault finds
abbrev pub PassWith : Option LineFault → List Line → Pass → Type 0
PassWith fault ls p = MatchOption fault (IsSoundPass ls p) (λ f. IsFirstFault judge ls (p.lines + 1) f)

stays_with : (o : Option LineFault) (ls more : List Line) (p : Pass) → is_some o ≡ true → PassWith o ls p → PassWith o (ls ++ more) p
stays_with None ls more p e h = cc
stays_with (Some f) ls more p e h = IsFirstFault-append judge passes ls more (p.lines + 1) f h

-- a pass that stopped for a fault has gone over the lines behind it too
pub stopped : (ls gone more all : List Line) (p : Pass) → is_some p.fault ≡ true → all ≡ gone ++ more → IsPass (ls ++ gone) p → IsPass (ls ++ all) p
stopped ls gone more all p some e h =
    let whole : (ls ++ gone) ++ more ≡ ls ++ all = append_assoc ls gone more ∙ ap (λ xs. ls ++ xs) (sym e) in
    subst (λ xs. IsPass xs p) whole (stays_with p.fault (ls ++ gone) more p some h)

-- one more line

keys_more : (ls : List Line) (l : Line) (old new : List Triple)
    → AreSameKeys old (links_in ls) → AreSameKeys new (old ++ links_in (l ∷ [])) → AreSameKeys new (links_in (ls ++ l ∷ []))
keys_more ls l old new are adds key =
    let all : links_in (ls ++ l ∷ []) ≡ links_in ls ++ links_in (l ∷ []) = filter_map-append link_in ls (l ∷ []) in (
      λ c. subst (λ ks. Contains ks key) (sym all) (⊎_elim
          (λ d. Contains-append_left (links_in ls) (links_in (l ∷ [])) key ((are key).0 d))
          (λ d. Contains-append_right (links_in ls) (links_in (l ∷ [])) key d)
          (Contains-append_cases old (links_in (l ∷ [])) key ((adds key).0 c))),
      λ c. (adds key).1 (⊎_elim
          (λ d. Contains-append_left old (links_in (l ∷ [])) key ((are key).1 d))
          (λ d. Contains-append_right old (links_in (l ∷ [])) key d)
          (Contains-append_cases (links_in ls) (links_in (l ∷ [])) key (subst (λ ks. Contains ks key) all c))),
    )

pass_more : (ls : List Line) (l : Line) (f : Option LineFault) (old new : Pass) → IsSoundPass ls old → line_fault (problem_in ls) l ≡ None
    → Notes l (record old { fault = f }) new → new.lines ≡ old.lines → IsSoundPass (ls ++ l ∷ []) (record new { lines = new.lines + 1 })
pass_more ls l f old new pass sound notes lines = record {
  sound = sound_more judge ls l pass.sound sound;
  counted = omega (arith, pass.counted, lines, length-append ls (l ∷ []));
  problem = notes.problem ∙ ap (λ p. option_or p (problem_in (l ∷ []))) pass.problem ∙ sym (problem_in-append ls (l ∷ []));
  found = notes.found ∙ ap (λ n. n + arc_count (l ∷ [])) pass.found ∙ sym (arc_count-append ls (l ∷ []));
  keys = keys_more ls l old.keys.items new.keys.items pass.keys notes.keys;
  few = omega (arith, notes.few, notes.found, pass.few);
}

-- with the answers of the test of the line

none_of : {A : Type 0} (o : Option A) → is_some o ≡ false → o ≡ None
none_of None e = refl
none_of (Some x) e = cc

pub sound_of : (ls : List Line) (p : Pass) → p.fault ≡ None → IsPass ls p → IsSoundPass ls p
sound_of ls p none h = subst (λ o. PassWith o ls p) none h

known : (ls : List Line) (l : Line) (p : Pass) → IsSoundPass ls p → line_fault (option_map sizes_of p.problem) l ≡ line_fault (problem_in ls) l
known ls l p pass = ap (λ q. line_fault q l) pass.problem

pub takes_sound : (ls : List Line) (l : Line) (old new : Pass) (o : Option LineFault) → old.fault ≡ None → IsPass ls old
    → o ≡ line_fault (option_map sizes_of old.problem) l → is_some o ≡ false
    → Notes l (record old { fault = o }) new → new.lines ≡ old.lines → new.fault ≡ o
    → IsPass (ls ++ l ∷ []) (record new { lines = new.lines + 1 })
takes_sound ls l old new o none h says sound notes lines fault =
    let pass = sound_of ls old none h in
    let free : o ≡ None = none_of o sound in
    let here : line_fault (problem_in ls) l ≡ None = sym (known ls l old pass) ∙ sym says ∙ free in
    subst (λ q. PassWith q (ls ++ l ∷ []) (record new { lines = new.lines + 1 })) (sym (fault ∙ free))
    (pass_more ls l o old new pass here notes lines)

-- how many arc lines there are

few_arcs : (ls : List Line) → arc_count ls ≤ length ls
few_arcs ls = omega (arith, length-filter is_arc_line ls, count_by-le-length is_arc_line ls)

pub few_found : (ls : List Line) (p : Pass) → p.fault ≡ None → IsPass ls p → p.found ≤ p.lines
few_found ls p none h = let pass = sound_of ls p none h in omega (arith, few_arcs ls, pass.found, pass.counted)

-- an arc line is no problem line

option_or-none : {A : Type 0} (a : Option A) → a ≡ option_or a None
option_or-none None = refl
option_or-none (Some x) = refl

pub no_problem : (p : Option Sizes) (l : Line) (a : Option Arc) → l ≡ line.Arc a → p ≡ option_or p (problem_in (l ∷ []))
no_problem p l a is = option_or-none p ∙ ap (λ x. option_or p (problem_in (x ∷ []))) (sym is)
