-- The nodes that a text lists, one after another.
use Rattle.std.proofs.Common.{◌≡◌, ◌∙◌, ◌++◌, ◌∷◌, ◌+◌, ◌<◌, ℕ, zero, suc, true, false, List, [], Option, Some, None, ap, sym, arith, cond, drop, eqb, length, refl, replicate, set, subst, take}
use Rattle.std.specs.Option.{option_map}
use Rattle.std.specs.List.{position_or_len}
use Rattle.std.proofs.lemmas.Bool.{cond-true, cond-false, le-ltb}
use Rattle.std.proofs.lemmas.List.{append_assoc, drop-set-lt, length-set, set_split, take_more_set}
use Rattle.std.proofs.Math.Seq.{drop-cons, take-length}
use Rattle.clap.specs.Words.{Text}
use Rattle.peer_network.specs.declared.wake_set.TheConstants.{MOST_WAKERS}
use Rattle.ghs_commands.specs.TwoSeeds.{before_comma, behind_comma}
use Rattle.ghs_commands.specs.Wakers.{has_comma, listed, node_in, node_then}

-- nodes before those that are still to come
abbrev pub behind : List ℕ → Option (List ℕ) → Option (List ℕ)
behind before later = option_map (λ ns. before ++ ns) later

-- the nodes before a place are read, rest is still to be read, and the others are 0
pub record HasListed (text rest : Text) (nodes : List ℕ) (place : ℕ) : Type 0 where
  pub size : length nodes ≡ MOST_WAKERS
  pub left : ℕ
  pub all : place + left ≡ MOST_WAKERS
  pub empty : drop place nodes ≡ replicate left 0
  pub same : listed MOST_WAKERS text ≡ behind (take place nodes) (listed left rest)

none_before : (later : Option (List ℕ)) → later ≡ behind [] later
none_before None = refl
none_before (Some ns) = refl

pub opened : (text : Text) → HasListed text text (replicate MOST_WAKERS 0) 0
opened text = record { size = refl; left = MOST_WAKERS; all = refl; empty = refl; same = none_before (listed MOST_WAKERS text) }

-- a node moves from those to come to those before
moved : (before : List ℕ) (v : ℕ) (later : Option (List ℕ)) → behind before (node_then (Some v) later) ≡ behind (before ++ v ∷ []) later
moved before v None = refl
moved before v (Some ns) = ap Some (sym (append_assoc before (v ∷ []) ns))

-- what is left behind a place, of which the first is 0
one_less : (nodes : List ℕ) (place n : ℕ) → place < length nodes → drop place nodes ≡ replicate (suc n) 0 → drop (suc place) nodes ≡ replicate n 0
one_less nodes place n lt is = ap (drop 1) (sym (drop-cons nodes place 0 lt) ∙ is)

module _ (text rest : Text) (nodes : List ℕ) (place : ℕ) (lt : place < MOST_WAKERS) where
  within : length nodes ≡ MOST_WAKERS → place < length nodes
  within size = subst (λ n. place < n) (sym size) lt

  -- nothing is listed where a part is no node
  refused_by : (left : ℕ) → place + left ≡ MOST_WAKERS → listed MOST_WAKERS text ≡ behind (take place nodes) (listed left rest) →
      node_in (before_comma rest) ≡ None → None ≡ listed MOST_WAKERS text
  unfolding listed
  refused_by zero all same bad = sym same
  refused_by (suc n) all same bad =
      sym (same ∙ ap (λ o. behind (take place nodes) (node_then o (cond (has_comma rest) (listed n (behind_comma rest)) (Some (replicate n 0))))) bad)

  pub refused : HasListed text rest nodes place → node_in (before_comma rest) ≡ None → None ≡ listed MOST_WAKERS text
  refused h bad = refused_by h.left h.all h.same bad

  -- a part before a comma is read
  read_by : (v left : ℕ) → length nodes ≡ MOST_WAKERS → place + left ≡ MOST_WAKERS → drop place nodes ≡ replicate left 0 →
      listed MOST_WAKERS text ≡ behind (take place nodes) (listed left rest) →
      has_comma rest ≡ true → node_in (before_comma rest) ≡ Some v → HasListed text (behind_comma rest) (set nodes place v) (place + 1)
  unfolding listed
  read_by v zero size all empty same comma is = absurd (omega (arith, all, lt))
  read_by v (suc n) size all empty same comma is = record {
    size = length-set nodes place v ∙ size;
    left = n;
    all = omega (arith, all);
    empty = drop-set-lt (place + 1) nodes place v (omega arith) ∙
        (let next : suc place ≡ place + 1 = omega arith in
        subst (λ k. drop k nodes ≡ replicate n 0) next (one_less nodes place n (within size) empty));
    same = same ∙
        ap (λ o. behind (take place nodes) (node_then o (cond (has_comma rest) (listed n (behind_comma rest)) (Some (replicate n 0))))) is ∙
        ap (λ o. behind (take place nodes) (node_then (Some v) o))
        (cond-true (has_comma rest) (listed n (behind_comma rest)) (Some (replicate n 0)) comma) ∙
        moved (take place nodes) v (listed n (behind_comma rest)) ∙
        ap (λ ns. behind ns (listed n (behind_comma rest))) (sym (take_more_set nodes place v (within size)));
  }

  pub read : (v : ℕ) → HasListed text rest nodes place → has_comma rest ≡ true → node_in (before_comma rest) ≡ Some v →
      HasListed text (behind_comma rest) (set nodes place v) (place + 1)
  read v h comma is = read_by v h.left h.size h.all h.empty h.same comma is

  -- the last part is read
  last_by : (v left : ℕ) → length nodes ≡ MOST_WAKERS → place + left ≡ MOST_WAKERS → drop place nodes ≡ replicate left 0 →
      listed MOST_WAKERS text ≡ behind (take place nodes) (listed left rest) →
      has_comma rest ≡ false → node_in (before_comma rest) ≡ Some v → Some (set nodes place v) ≡ listed MOST_WAKERS text
  unfolding listed
  last_by v zero size all empty same comma is = absurd (omega (arith, all, lt))
  last_by v (suc n) size all empty same comma is =
      sym (same ∙
      ap (λ o. behind (take place nodes) (node_then o (cond (has_comma rest) (listed n (behind_comma rest)) (Some (replicate n 0))))) is ∙
      ap (λ o. behind (take place nodes) (node_then (Some v) o))
      (cond-false (has_comma rest) (listed n (behind_comma rest)) (Some (replicate n 0)) comma) ∙
      ap Some (
      ap (λ ns. take place nodes ++ v ∷ ns) (sym (one_less nodes place n (within size) empty)) ∙
      sym (set_split nodes place v (within size))
      ))

  pub last : (v : ℕ) → HasListed text rest nodes place → has_comma rest ≡ false → node_in (before_comma rest) ≡ Some v →
      Some (set nodes place v) ≡ listed MOST_WAKERS text
  last v h comma is = last_by v h.left h.size h.all h.empty h.same comma is

-- more parts than there may be nodes
over_by : (text rest : Text) (nodes : List ℕ) (place left : ℕ) → place ≡ MOST_WAKERS → place + left ≡ MOST_WAKERS →
    listed MOST_WAKERS text ≡ behind (take place nodes) (listed left rest) → None ≡ listed MOST_WAKERS text
unfolding listed
over_by text rest nodes place zero full all same = sym same
over_by text rest nodes place (suc n) full all same = absurd (omega (arith, full, all))

pub over : (text rest : Text) (nodes : List ℕ) (place : ℕ) → place ≡ MOST_WAKERS → HasListed text rest nodes place → None ≡ listed MOST_WAKERS text
over text rest nodes place full h = over_by text rest nodes place h.left full h.all h.same

-- a text that is cut at no comma
pub uncut : (text : Text) → position_or_len (λ b. eqb b 44) text ≡ length text → (has_comma text ≡ false) × (before_comma text ≡ text)
uncut text none = (
  le-ltb (position_or_len (λ b. eqb b 44) text) (length text) (omega (arith, none)),
  ap (λ k. take k text) none ∙ take-length text,
)
