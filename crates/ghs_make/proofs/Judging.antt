-- A network's lines are sound, and give its graph.
use Rattle.std.proofs.Common.{◌≡◌, ◌∙◌, ℕ, zero, suc, ◌-◌, ◌^◌, ◌<◌, ◌≤◌, ◌⊎◌, ⊎_elim, true, false, ◌&&◌, ◌==◌, List, [], ◌∷◌, length, map, filter, get_or, min, max, refl, sym, ap, subst, arith, Option, Some, None, Result, Ok, Err}
use Rattle.std.specs.Prelude.{nat_le}
use Rattle.std.specs.List.{filter_map}
use Rattle.std.proofs.lemmas.Bool.{and_from, cond-true, cond-false, le-leb, ne_eqb}
use Rattle.ghs_lines.specs.Judging.{IsFirstFault, fault_at}
use Rattle.ghs_gr.specs.Arc.{arc_count, is_arc_line, link_in, links_in}
use Rattle.ghs_gr.specs.Fault.{is_node, judge, line_fault, Sizes}
use Rattle.ghs_gr.specs.Judgement.{IsOneThing, LinesAre, TextIs}
use Rattle.ghs_gr.specs.Key.{AreSameKeys}
use Rattle.ghs_gr.specs.Line.{meanings}
use Rattle.ghs_gr.specs.RawGraph.{RawShape, Triple}
use Rattle.ghs_gr.specs.declared.fault.GrFault.{GrFault}
use Rattle.ghs_gr.specs.declared.fault.GrFault.TheVariants as gr
use Rattle.ghs_gr.specs.declared.fault.LineFault.{LineFault}
use Rattle.ghs_gr.specs.declared.line.Line.{Line}
use Rattle.ghs_gr.specs.declared.line.Line.TheVariants.{Passed, Problem}
use Rattle.ghs_gr.specs.declared.raw_graph.TheConstants.{ARC_LIMIT, NODE_LIMIT}
use Rattle.ghs_gr.specs.declared.text.TheConstants.{TEXT_LIMIT}
use Rattle.ghs_make.specs.Laws.{IsRead}
use Rattle.ghs_make.specs.Network.{IsNetwork, links_of}
use Rattle.ghs_make.specs.Text.{text_of}
use Rattle.ghs_make.specs.declared.network.Network.{Network}
use Rattle.ghs_make.proofs.Each.{Each, each_map}
use Rattle.ghs_make.proofs.Lines.{AreHeadNumbers, AreNumbers, AreShort, arc_of, length_text, text_says}
use Rattle.ghs_make.proofs.Linking.{IsFine, all_fine, are_simple}

-- the lines of a graph: a comment, its numbers, and its links
abbrev lines : ℕ → ℕ → List Triple → List Line
lines n m ks = Passed ∷ Problem (Some n) (Some m) ∷ map arc_of ks

node_is : (n v : ℕ) → 1 ≤ v → v ≤ n → is_node (Some n) v ≡ true
node_is n v low high = and_from _ _ (le-leb 1 v low) (le-leb v n high)

arc_sound : (n m : ℕ) (ks : List Triple) (i : ℕ) → Each (IsFine n) ks
    → line_fault (Some (Some n, Some m)) (get_or (map arc_of ks) i Passed) ≡ None
arc_sound n m [] i h = refl
arc_sound n m (k ∷ ks) zero h =
    let low = h.0.low in
    let order = h.0.order in
    let high = h.0.high in
    cond-true (is_node (Some n) k.1 && is_node (Some n) k.2) _ _ (and_from _ _ (node_is n k.1 low (omega arith)) (node_is n k.2 (omega arith) high))
arc_sound n m (k ∷ ks) (suc i) h = arc_sound n m ks i h.1

all_sound : (n m : ℕ) (ks : List Triple) (i : ℕ) → 1 ≤ n → n ≤ NODE_LIMIT → m ≤ ARC_LIMIT → Each (IsFine n) ks →
    fault_at judge (lines n m ks) i ≡ None
all_sound n m ks zero some few links h = refl
all_sound n m ks (suc zero) some few links h =
    cond-true (nat_le 1 n && nat_le n NODE_LIMIT && nat_le m ARC_LIMIT) _ _
    (and_from _ _ (and_from _ _ (le-leb 1 n some) (le-leb n NODE_LIMIT few)) (le-leb m ARC_LIMIT links))
all_sound n m ks (suc (suc i)) some few links h = arc_sound n m ks i h

count_arcs : (ks : List Triple) → length (filter is_arc_line (map arc_of ks)) ≡ length ks
count_arcs [] = refl
count_arcs (k ∷ ks) = ap suc (count_arcs ks)

same_key : (k : Triple) → k.1 < k.2 → link_in (arc_of k) ≡ Some k
same_key k lt =
    let ne : (k.1 == k.2) ≡ false = ne_eqb k.1 k.2 (λ e. absurd (omega (arith, lt, e))) in
    let low : min k.1 k.2 ≡ k.1 = omega arith in
    let high : max k.1 k.2 ≡ k.2 = omega arith in
    cond-false (k.1 == k.2) _ _ ne
    ∙ ap (λ a. Some (let t : Triple = (k.0, a, max k.1 k.2) in t)) low
    ∙ ap (λ b. Some (let t : Triple = (k.0, k.1, b) in t)) high

links_back : (n : ℕ) (ks : List Triple) → Each (IsFine n) ks → filter_map link_in (map arc_of ks) ≡ ks
links_back n [] h = refl
links_back n (k ∷ ks) h = rw (same_key k h.0.order) (ap (λ ls. k ∷ ls) (links_back n ks h.1))

-- what is read of such lines
abbrev IsTheirs : ℕ → List Triple → RawShape → Type 0
IsTheirs n ks g = (g.nodes ≡ n) × AreSameKeys g.keys ks

no_fault : (n m : ℕ) (ks : List Triple) (number : ℕ) (f : LineFault) → 1 ≤ n → n ≤ NODE_LIMIT → m ≤ ARC_LIMIT → Each (IsFine n) ks
    → IsFirstFault judge (lines n m ks) number f → ⊥
no_fault n m ks number f some few links h first =
    let e : Some f ≡ None = sym first.here ∙ all_sound n m ks (number - 1) some few links h in cc

nodes_same : (n m a b : ℕ) → (let p : Option Sizes = Some (Some n, Some m) in p) ≡ Some (Some a, Some b) → (n ≡ a) × (m ≡ b)
nodes_same n m a b e =
    let pairs : (let t : Sizes = (Some n, Some m) in t) ≡ (Some a, Some b) = cc in
    let first : Some n ≡ Some a = ap (λ t. t.0) pairs in
    let second : Some m ≡ Some b = ap (λ t. t.1) pairs in
    (cc, cc)

module _ (n m : ℕ) (ks : List Triple) (some : 1 ≤ n) (few : n ≤ NODE_LIMIT) (links : m ≤ ARC_LIMIT) (fine : Each (IsFine n) ks)
    (counted : length ks ≡ m) where
  lines_read : (r : Result RawShape GrFault) → LinesAre (lines n m ks) r → (g : RawShape) × (r ≡ Ok g) × IsTheirs n ks g
  lines_read (Ok g) h =
      let numbers = nodes_same n m g.nodes (arc_count (lines n m ks)) h.problem in
      let same : links_in (lines n m ks) ≡ ks = links_back n ks fine in
      (g, refl, (sym numbers.0, rw same at h.keys))
  lines_read (Err gr.Read) h = absurd h
  lines_read (Err gr.TooLong) h = absurd h
  lines_read (Err gr.Memory) h = absurd h
  lines_read (Err (gr.BadLine k)) h = absurd (no_fault n m ks k _ some few links fine h)
  lines_read (Err (gr.ArcBeforeProblem k)) h = absurd (no_fault n m ks k _ some few links fine h)
  lines_read (Err (gr.SecondProblem k)) h = absurd (no_fault n m ks k _ some few links fine h)
  lines_read (Err (gr.Number k)) h = absurd (no_fault n m ks k _ some few links fine h)
  lines_read (Err (gr.NodeRange k)) h = absurd (no_fault n m ks k _ some few links fine h)
  lines_read (Err gr.NoProblem) h = let none = h.none in absurd (let e : Some (let s : Sizes = (Some n, Some m) in s) ≡ None = none in cc)
  lines_read (Err (gr.ArcCount said found)) h =
      let numbers = nodes_same n m h.problem.0 said h.problem.1 in
      absurd (h.other (sym numbers.1 ∙ sym counted ∙ sym (count_arcs ks) ∙ sym h.counted))

pub is_read : (n : Network) → IsNetwork n → n.plan.seed < 2 ^ 64 → n.plan.links < 2 ^ 32 → ((text : List ℕ) → IsOneThing text) → IsRead n
is_read n h seed asked judged =
    let fine = all_fine n h in
    let simple = are_simple n h in
    let nodes_few = h.plan.few in
    let links_few = h.few in
    let head : AreHeadNumbers n = record { nodes = omega arith; links = omega arith; asked = asked; seed = seed } in
    let numbers : Each AreNumbers (links_of n) =
    each_map (IsFine n.plan.nodes) AreNumbers (links_of n)
    (λ k f. let order = f.order in let high = f.high in let weight = f.weight in
    record { low = omega arith; high = omega arith; weight = omega arith }) fine.each in
    let short : Each AreShort (links_of n) =
    each_map (IsFine n.plan.nodes) AreShort (links_of n)
    (λ k f. let order = f.order in let high = f.high in record { low = omega arith; high = omega arith; weight = f.weight }) fine.each in
    let says = text_says n head numbers in
    let long = length_text n head short in
    let counted = simple.counted in
    let within : length (text_of n) ≤ TEXT_LIMIT = omega (arith, long, counted, links_few) in
    let thing = (judged (text_of n)).some in
    let is : LinesAre (meanings (text_of n)) thing.0 =
    ⊎_elim (λ too. absurd (let over = too.0 in omega (arith, over, within))) (λ fit. fit.1) thing.1 in
    let read = lines_read n.plan.nodes n.links (links_of n) h.plan.some h.plan.few h.few fine.each counted thing.0 (rw says at is) in
    record {
      graph = read.0;
      text = subst (λ r. TextIs (text_of n) r) read.1 thing.1;
      nodes = read.2.0;
      links = read.2.1;
    }
