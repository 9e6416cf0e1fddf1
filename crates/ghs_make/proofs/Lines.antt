-- What the lines of a network's text say.
use Rattle.std.proofs.Common.{◌≡◌, ◌∙◌, ℕ, zero, suc, ◌+◌, ◌-◌, ◌*◌, ◌<◌, ◌≤◌, ◌^◌, Bool, true, false, not, ◌&&◌, ◌==◌, List, [], ◌∷◌, ◌++◌, length, map, append_assoc, append-nil, length-append, decimal, refl, sym, ap, arith, Option, Some, None}
use Rattle.std.specs.Prelude.{codes, cond}
use Rattle.std.specs.List.{flat_map}
use Rattle.std.proofs.lemmas.Bool.{and_from, and_parts}
use Rattle.std.proofs.lemmas.Fmt.{decimal_nonempty, length-decimal-le}
use Rattle.ghs_lines.specs.Fields.{fields_of}
use Rattle.ghs_lines.specs.Lines.{lines_of}
use Rattle.ghs_lines.proofs.lemmas.Words.{all_plain, decimal_plain, fields_of-last, fields_of-word, has_no_feed, has_no_feed-last, lines_of-line, number_of-decimal}
use Rattle.ghs_gr.specs.Arc.{arc_with}
use Rattle.ghs_gr.specs.Line.{meaning, meaning_of, meanings, number_in}
use Rattle.ghs_gr.specs.RawGraph.{Triple}
use Rattle.ghs_gr.specs.declared.line.Line.{Line}
use Rattle.ghs_gr.specs.declared.line.Line.TheVariants.{Passed, Problem, Arc}
use Rattle.ghs_make.specs.Kind.{kind_name, takes_links}
use Rattle.ghs_make.specs.Network.{links_of}
use Rattle.ghs_make.specs.Text.{arc_line, command_words, comment_line, head_of, kind_words, links_words, problem_line, text_of, weights_words}
use Rattle.ghs_make.specs.Weights.{weights_name}
use Rattle.ghs_make.specs.declared.kind.Kind.{Kind}
use Rattle.ghs_make.specs.declared.kind.Kind.TheVariants.{Path, Ring, Star, Grid, Complete, Tree, Random, Road, Forest, Slow, Busy, FarCore, ChainWake}
use Rattle.ghs_make.specs.declared.network.Network.{Network}
use Rattle.ghs_make.specs.declared.plan.Plan.{Plan}
use Rattle.ghs_make.specs.declared.weights.Weights.{Weights}
use Rattle.ghs_make.specs.declared.weights.Weights.TheVariants as weights
use Rattle.ghs_make.proofs.Each.{Each}

-- a text without a line feed

no_feed_both : (xs ys : List ℕ) → has_no_feed xs ≡ true → has_no_feed ys ≡ true → has_no_feed (xs ++ ys) ≡ true
no_feed_both [] ys p q = q
no_feed_both (b ∷ xs) ys p q = let parts = and_parts (not (b == 10)) (has_no_feed xs) p in and_from _ _ parts.0 (no_feed_both xs ys parts.1 q)

no_feed_number : (n : ℕ) → n < 2 ^ 64 → has_no_feed (decimal n) ≡ true
no_feed_number n small = has_no_feed-last (decimal n) (decimal_plain n small)

no_feed_kind : (k : Kind) → has_no_feed (kind_name k) ≡ true
no_feed_kind Path = refl
no_feed_kind Ring = refl
no_feed_kind Star = refl
no_feed_kind Grid = refl
no_feed_kind Complete = refl
no_feed_kind Tree = refl
no_feed_kind Random = refl
no_feed_kind Road = refl
no_feed_kind Forest = refl
no_feed_kind Slow = refl
no_feed_kind Busy = refl
no_feed_kind FarCore = refl
no_feed_kind ChainWake = refl

no_feed_weights : (o : Option Weights) → has_no_feed (weights_words o) ≡ true
no_feed_weights None = refl
no_feed_weights (Some weights.Random) = refl
no_feed_weights (Some weights.Rising) = refl
no_feed_weights (Some weights.Falling) = refl
no_feed_weights (Some weights.Equal) = refl

no_feed_links : (b : Bool) (m : ℕ) → m < 2 ^ 64 → has_no_feed (cond b (codes " --links " ++ decimal m) []) ≡ true
no_feed_links true m small = no_feed_both (codes " --links ") (decimal m) refl (no_feed_number m small)
no_feed_links false m small = refl

-- an arc line

arc_words : (u v w : ℕ) (rest : List ℕ) → arc_line (w, u, v) ++ rest ≡ (97 ∷ 32 ∷ (decimal u ++ 32 ∷ (decimal v ++ 32 ∷ decimal w))) ++ 10 ∷ rest
arc_words u v w rest = simp append_assoc

abbrev pub arc_of : Triple → Line
arc_of k = Arc (Some (record { from = k.1; to = k.2; weight = k.0 }))

-- numbers that a text's line can say
pub record AreNumbers (k : Triple) : Type 0 where
  pub low : k.1 < 2 ^ 32
  pub high : k.2 < 2 ^ 32
  pub weight : k.0 < 2 ^ 32

number_is : (n : ℕ) → n < 2 ^ 32 → number_in (decimal n) ≡ Some n
number_is n small = number_of-decimal n (omega arith) (2 ^ 32 - 1) (omega arith)

arc_meaning : (u v w : ℕ) → u < 2 ^ 32 → v < 2 ^ 32 → w < 2 ^ 32
    → meaning (97 ∷ 32 ∷ (decimal u ++ 32 ∷ (decimal v ++ 32 ∷ decimal w))) ≡ arc_of (w, u, v)
arc_meaning u v w a b c =
    let us = decimal_plain u (omega arith) in
    let vs = decimal_plain v (omega arith) in
    let ws = decimal_plain w (omega arith) in
    ap meaning_of (fields_of-word (97 ∷ []) (decimal u ++ 32 ∷ (decimal v ++ 32 ∷ decimal w)) (omega arith) refl
    ∙ ap (λ fs. (97 ∷ []) ∷ fs) (fields_of-word (decimal u) (decimal v ++ 32 ∷ decimal w) (decimal_nonempty u (omega arith)) us
    ∙ ap (λ fs. decimal u ∷ fs) (fields_of-word (decimal v) (decimal w) (decimal_nonempty v (omega arith)) vs
    ∙ ap (λ fs. decimal v ∷ fs) (fields_of-last (decimal w) (decimal_nonempty w (omega arith)) ws))))
    ∙ ap (λ n. Arc (arc_with n (number_in (decimal v)) (number_in (decimal w)))) (number_is u a)
    ∙ ap (λ n. Arc (arc_with (Some u) n (number_in (decimal w)))) (number_is v b)
    ∙ ap (λ n. Arc (arc_with (Some u) (Some v) n)) (number_is w c)

arc_no_feed : (u v w : ℕ) → u < 2 ^ 32 → v < 2 ^ 32 → w < 2 ^ 32 → has_no_feed (97 ∷ 32 ∷ (decimal u ++ 32 ∷ (decimal v ++ 32 ∷ decimal w))) ≡ true
arc_no_feed u v w a b c =
    no_feed_both (decimal u) (32 ∷ (decimal v ++ 32 ∷ decimal w)) (no_feed_number u (omega arith))
    (no_feed_both (decimal v) (32 ∷ decimal w) (no_feed_number v (omega arith)) (no_feed_number w (omega arith)))

arc_says : (k : Triple) (rest : List ℕ) → AreNumbers k → meanings (arc_line k ++ rest) ≡ arc_of k ∷ meanings rest
arc_says k rest h =
    let line : List ℕ = 97 ∷ 32 ∷ (decimal k.1 ++ 32 ∷ (decimal k.2 ++ 32 ∷ decimal k.0)) in
    ap meanings (arc_words k.1 k.2 k.0 rest)
    ∙ ap (map meaning) (lines_of-line line rest (arc_no_feed k.1 k.2 k.0 h.low h.high h.weight))
    ∙ ap (λ l. l ∷ meanings rest) (arc_meaning k.1 k.2 k.0 h.low h.high h.weight)

pub arcs_say : (ks : List Triple) → Each AreNumbers ks → meanings (flat_map arc_line ks) ≡ map arc_of ks
arcs_say [] h = refl
arcs_say (k ∷ ks) h = arc_says k (flat_map arc_line ks) h.0 ∙ ap (λ ls. arc_of k ∷ ls) (arcs_say ks h.1)

-- the problem line

problem_words : (n m : ℕ) (rest : List ℕ) → problem_line n m ++ rest ≡ (112 ∷ 32 ∷ 115 ∷ 112 ∷ 32 ∷ (decimal n ++ 32 ∷ decimal m)) ++ 10 ∷ rest
problem_words n m rest = simp append_assoc

problem_says : (n m : ℕ) (rest : List ℕ) → n < 2 ^ 32 → m < 2 ^ 32 → meanings (problem_line n m ++ rest) ≡ Problem (Some n) (Some m) ∷ meanings rest
problem_says n m rest a b =
    let line : List ℕ = 112 ∷ 32 ∷ 115 ∷ 112 ∷ 32 ∷ (decimal n ++ 32 ∷ decimal m) in
    let ns = decimal_plain n (omega arith) in
    let ms = decimal_plain m (omega arith) in
    let feed : has_no_feed line ≡ true =
    no_feed_both (decimal n) (32 ∷ decimal m) (no_feed_number n (omega arith)) (no_feed_number m (omega arith)) in
    ap meanings (problem_words n m rest)
    ∙ ap (map meaning) (lines_of-line line rest feed)
    ∙ ap (λ fs. meaning_of fs ∷ meanings rest) (fields_of-word (112 ∷ []) (115 ∷ 112 ∷ 32 ∷ (decimal n ++ 32 ∷ decimal m)) (omega arith) refl
    ∙ ap (λ fs. (112 ∷ []) ∷ fs) (fields_of-word (115 ∷ 112 ∷ []) (decimal n ++ 32 ∷ decimal m) (omega arith) refl
    ∙ ap (λ fs. (115 ∷ 112 ∷ []) ∷ fs) (fields_of-word (decimal n) (decimal m) (decimal_nonempty n (omega arith)) ns
    ∙ ap (λ fs. decimal n ∷ fs) (fields_of-last (decimal m) (decimal_nonempty m (omega arith)) ms))))
    ∙ ap (λ x. Problem x (number_in (decimal m)) ∷ meanings rest) (number_is n a)
    ∙ ap (λ x. Problem (Some n) x ∷ meanings rest) (number_is m b)

-- the comment

comment_says : (words rest : List ℕ) → has_no_feed words ≡ true →
    meanings ((codes "c ghs make " ++ words ++ 10 ∷ []) ++ rest) ≡ Passed ∷ meanings rest
comment_says words rest none =
    let line : List ℕ = codes "c ghs make " ++ words in
    let whole : (codes "c ghs make " ++ words ++ 10 ∷ []) ++ rest ≡ line ++ 10 ∷ rest = append_assoc line (10 ∷ []) rest in
    ap meanings whole
    ∙ ap (map meaning) (lines_of-line line rest (no_feed_both (codes "c ghs make ") words refl none))
    ∙ ap (λ fs. meaning_of fs ∷ meanings rest) (fields_of-word (99 ∷ []) (codes "ghs make " ++ words) (omega arith) refl)

-- numbers that a network's head says
pub record AreHeadNumbers (n : Network) : Type 0 where
  pub nodes : n.plan.nodes < 10000000
  pub links : n.links < 100000000
  pub asked : n.plan.links < 2 ^ 32
  pub seed : n.plan.seed < 2 ^ 64

command_no_feed : (n : Network) → AreHeadNumbers n → has_no_feed (command_words n) ≡ true
command_no_feed n h =
    let nodes = h.nodes in
    let asked = h.asked in
    no_feed_both (kind_words n.plan ++ links_words n.plan) (weights_words n.weights)
    (no_feed_both (kind_words n.plan) (links_words n.plan)
    (no_feed_both (kind_name n.plan.kind ++ codes " " ++ decimal n.plan.nodes ++ codes " --seed ") (decimal n.plan.seed)
    (no_feed_both (kind_name n.plan.kind ++ codes " " ++ decimal n.plan.nodes) (codes " --seed ")
    (no_feed_both (kind_name n.plan.kind ++ codes " ") (decimal n.plan.nodes)
    (no_feed_both (kind_name n.plan.kind) (codes " ") (no_feed_kind n.plan.kind) refl)
    (no_feed_number n.plan.nodes (omega arith))) refl)
    (no_feed_number n.plan.seed h.seed))
    (no_feed_links (takes_links n.plan.kind) n.plan.links (omega arith)))
    (no_feed_weights n.weights)

-- what the lines of a network's text say
abbrev pub said_by : Network → List Line
said_by n = Passed ∷ Problem (Some n.plan.nodes) (Some n.links) ∷ map arc_of (links_of n)

pub text_says : (n : Network) → AreHeadNumbers n → Each AreNumbers (links_of n) → meanings (text_of n) ≡ said_by n
unfolding text_of head_of
text_says n h fine =
    let nodes = h.nodes in
    let links = h.links in
    let lines = flat_map arc_line (links_of n) in
    let problem = problem_line n.plan.nodes n.links in
    ap meanings (append_assoc (comment_line n) problem lines)
    ∙ comment_says (command_words n) (problem ++ lines) (command_no_feed n h)
    ∙ ap (λ ls. Passed ∷ ls) (problem_says n.plan.nodes n.links lines (omega arith) (omega arith)
    ∙ ap (λ ls. Problem (Some n.plan.nodes) (Some n.links) ∷ ls) (arcs_say (links_of n) fine))

-- how long texts are

length_kind : (k : Kind) → length (kind_name k) ≤ 9
length_kind Path = omega arith
length_kind Ring = omega arith
length_kind Star = omega arith
length_kind Grid = omega arith
length_kind Complete = omega arith
length_kind Tree = omega arith
length_kind Random = omega arith
length_kind Road = omega arith
length_kind Forest = omega arith
length_kind Slow = omega arith
length_kind Busy = omega arith
length_kind FarCore = omega arith
length_kind ChainWake = omega arith

length_weights : (o : Option Weights) → length (weights_words o) ≤ 30
length_weights None = omega arith
length_weights (Some weights.Random) = omega arith
length_weights (Some weights.Rising) = omega arith
length_weights (Some weights.Falling) = omega arith
length_weights (Some weights.Equal) = omega arith

length_links : (b : Bool) (m : ℕ) → m < 2 ^ 32 → length (cond b (codes " --links " ++ decimal m) []) ≤ 30
length_links true m small =
    let few : length (decimal m) ≤ 10 = length-decimal-le 10 m (omega arith) (omega arith) (omega arith) in
    omega (arith, few, length-append (codes " --links ") (decimal m))
length_links false m small = omega arith

-- an arc line of small numbers
pub record AreShort (k : Triple) : Type 0 where
  pub low : k.1 < 10000000
  pub high : k.2 < 10000000
  pub weight : k.0 < 10000000

length_arc : (k : Triple) → AreShort k → length (arc_line k) ≤ 26
length_arc k h =
    let a : length (decimal k.1) ≤ 7 = length-decimal-le 7 k.1 (omega arith) h.low (let l = h.low in omega arith) in
    let b : length (decimal k.2) ≤ 7 = length-decimal-le 7 k.2 (omega arith) h.high (let l = h.high in omega arith) in
    let c : length (decimal k.0) ≤ 7 = length-decimal-le 7 k.0 (omega arith) h.weight (let l = h.weight in omega arith) in
    simp length-append (omega (arith, a, b, c))

length_arcs : (ks : List Triple) → Each AreShort ks → length (flat_map arc_line ks) ≤ 26 * length ks
length_arcs [] h = omega arith
length_arcs (k ∷ ks) h =
    let one : length (arc_line k) ≤ 26 = length_arc k h.0 in
    let more : length (flat_map arc_line ks) ≤ 26 * length ks = length_arcs ks h.1 in
    omega (arith, one, more, length-append (arc_line k) (flat_map arc_line ks))

pub length_text : (n : Network) → AreHeadNumbers n → Each AreShort (links_of n) → length (text_of n) ≤ 1000 + 26 * length (links_of n)
unfolding text_of head_of
length_text n h short =
    let arcs = length_arcs (links_of n) short in
    let kind = length_kind n.plan.kind in
    let weighing = length_weights n.weights in
    let asked = length_links (takes_links n.plan.kind) n.plan.links h.asked in
    let nodes : length (decimal n.plan.nodes) ≤ 7 = length-decimal-le 7 n.plan.nodes (omega arith) h.nodes (let l = h.nodes in omega arith) in
    let links : length (decimal n.links) ≤ 8 = length-decimal-le 8 n.links (omega arith) h.links (let l = h.links in omega arith) in
    let seed : length (decimal n.plan.seed) ≤ 20 = length-decimal-le 20 n.plan.seed (omega arith) (let l = h.seed in omega arith) h.seed in
    simp length-append (omega (arith, arcs, kind, weighing, asked, nodes, links, seed))
