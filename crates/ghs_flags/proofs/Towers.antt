-- The heights above a list of counts.
use Rattle.std.proofs.Common.{◌≡◌, ℕ, ◌+◌, ◌/◌, ◌<◌, ◌≤◌, ◌^◌, List, length, get_or, set, ◌∙◌, arith, length-set}
use Rattle.std.specs.List.{sum}
use Rattle.std.proofs.lemmas.List.{get_or_default}
use Rattle.std.proofs.lemmas.List.Sums.{sum_by-set, get_or-le-sum_by}
use Rattle.ghs_flags.specs.Counts.{IsTower}
use Rattle.ghs_flags.proofs.Sums.{counts_all, counts_set, block_within, weight_le}

module _ {counts groups regions zones : List ℕ} {total : ℕ} (tower : IsTower counts groups regions zones total) where
  pub sum_groups : sum groups ≡ sum counts
  sum_groups = counts_all 16 (omega arith) (λ n. n) groups counts tower.first

  pub sum_regions : sum regions ≡ sum counts
  sum_regions = counts_all 16 (omega arith) (λ n. n) regions groups tower.second ∙ sum_groups

  pub sum_zones : sum zones ≡ sum counts
  sum_zones = counts_all 16 (omega arith) (λ n. n) zones regions tower.third ∙ sum_regions

  -- A place, and what was read of its count and of those above it.
  module _ (p : ℕ) (lt : p < length counts) where
    group_within : p / 16 < length groups
    group_within = block_within 16 (omega arith) (λ n. n) groups counts tower.first p lt

    region_within : p / 16 / 16 < length regions
    region_within = block_within 16 (omega arith) (λ n. n) regions groups tower.second (p / 16) group_within

    zone_within : p / 16 / 16 / 16 < length zones
    zone_within = block_within 16 (omega arith) (λ n. n) zones regions tower.third (p / 16 / 16) region_within

    -- none is less than the place's own
    pub group_ge : (g : ℕ) → g ≡ get_or groups (p / 16) g → get_or counts p 0 ≤ g
    group_ge g read =
        let same = read ∙ get_or_default groups (p / 16) g 0 group_within in
        let le = weight_le 16 (omega arith) (λ n. n) groups counts tower.first p lt 0 in
        omega arith

    pub region_ge : (r : ℕ) → r ≡ get_or regions (p / 16 / 16) r → get_or counts p 0 ≤ r
    region_ge r read =
        let same = read ∙ get_or_default regions (p / 16 / 16) r 0 region_within in
        let le = weight_le 16 (omega arith) (λ n. n) regions groups tower.second (p / 16) group_within 0 in
        let below = group_ge (get_or groups (p / 16) 0) (get_or_default groups (p / 16) 0 _ group_within) in
        omega arith

    pub zone_ge : (z : ℕ) → z ≡ get_or zones (p / 16 / 16 / 16) z → get_or counts p 0 ≤ z
    zone_ge z read =
        let same = read ∙ get_or_default zones (p / 16 / 16 / 16) z 0 zone_within in
        let le = weight_le 16 (omega arith) (λ n. n) zones regions tower.third (p / 16 / 16) region_within 0 in
        let below = region_ge (get_or regions (p / 16 / 16) 0) (get_or_default regions (p / 16 / 16) 0 _ region_within) in
        omega arith

    pub total_ge : get_or counts p 0 ≤ total
    total_ge = let all = tower.all in omega (arith, get_or-le-sum_by (λ (n : ℕ). n) counts p 0 lt)

    -- all of them change by the same
    pub tower_set : (c g r z c' g' r' z' t' : ℕ) → c ≡ get_or counts p c → g ≡ get_or groups (p / 16) g → r ≡ get_or regions (p / 16 / 16) r
        → z ≡ get_or zones (p / 16 / 16 / 16) z
        → g' + c ≡ g + c' → r' + c ≡ r + c' → z' + c ≡ z + c' → t' + c ≡ total + c' → t' < 2 ^ 32
        → IsTower (set counts p c') (set groups (p / 16) g') (set regions (p / 16 / 16) r') (set zones (p / 16 / 16 / 16) z') t'
    tower_set c g r z c' g' r' z' t' read-c read-g read-r read-z eg er ez et few =
        let here = read-c ∙ get_or_default counts p c 0 lt in
        let group = read-g ∙ get_or_default groups (p / 16) g 0 group_within in
        let region = read-r ∙ get_or_default regions (p / 16 / 16) r 0 region_within in
        let zone = read-z ∙ get_or_default zones (p / 16 / 16 / 16) z 0 zone_within in
        record {
          short = let short = tower.short in omega (arith, length-set counts p c');
          first = counts_set 16 (omega arith) (λ n. n) groups counts tower.first p lt c' 0 g' (omega arith);
          second = counts_set 16 (omega arith) (λ n. n) regions groups tower.second (p / 16) group_within g' 0 r' (omega arith);
          third = counts_set 16 (omega arith) (λ n. n) zones regions tower.third (p / 16 / 16) region_within r' 0 z' (omega arith);
          all = let all = tower.all in omega (arith, sum_by-set (λ (n : ℕ). n) counts p c' 0 lt);
          few = few;
        }
