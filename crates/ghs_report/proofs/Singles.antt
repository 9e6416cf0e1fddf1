-- No links taken: each node is a fragment of its own.
use Rattle.std.proofs.Common.{◌≡◌, ℕ, ◌<◌, inl, Option, None, List, [], length, get_or, refl, arith}
use Rattle.ghs_graph.specs.declared.key.Key.{Key}
use Rattle.ghs_protocol.specs.Merging.{singles, Done}
use Rattle.ghs_report.specs.Fragments.{AreMerged}

pub merged_none : (ks : List Key) (ps ls : List ℕ) (cs : List (Option Key)) → length ls ≡ length ps → length cs ≡ length ps →
    ((v : ℕ) → v < length ps → get_or ps v 0 ≡ v) → ((v : ℕ) → v < length ps → get_or ls v 0 ≡ 0) →
    ((v : ℕ) → v < length ps → get_or cs v None ≡ None) → AreMerged ks 0 ps ls cs
merged_none ks ps ls cs levels cores alone low none = record {
  trees = record {
    places = levels;
    inside = λ v lt. let e = alone v lt in omega (arith, e, lt);
    higher = λ v lt. inl (alone v lt);
    top = λ v lt. let e = low v lt in omega (arith, e);
  };
  places = cores;
  to = singles;
  links = [];
  connects = 0;
  way = Done;
  even = λ u v e. (refl, refl);
  one = λ v lt. alone v lt;
  alone = λ u v ul vl eu ev e. e;
  level = λ v lt e. low v lt;
  core = λ v lt e. none v lt;
  within = λ i lt. absurd (omega (arith, lt));
}
