-- From how many ports a search wants for something.
use Rattle.std.proofs.Common.{◌≡◌, ℕ, ◌+◌, ◌<◌, ◌≤◌, Bool, true, false, List, length, get_or, set, take, count_by, cond}
use Rattle.std.proofs.lemmas.List.Sums.{sum_by-set, get_or-le-sum_by, count_by_more_yes, count_by_more_no}
use Rattle.boruvka_node.specs.declared.port_state.PortState.{PortState}
use Rattle.boruvka_node.specs.State.{is_missing, no_port}

abbrev one_if : Bool → ℕ
one_if b = cond b 1 0

module _ (l : ℕ) (ps : List PortState) (i : ℕ) (lt : i < length ps) where
  -- one port changes
  pub count_set : (x : PortState) → count_by (is_missing l) (set ps i x) + one_if (is_missing l (get_or ps i no_port))
      ≡ count_by (is_missing l) ps + one_if (is_missing l x)
  count_set x = sum_by-set (λ (y : PortState). cond (is_missing l y) 1 0) ps i x no_port lt

  pub counted_in : one_if (is_missing l (get_or ps i no_port)) ≤ count_by (is_missing l) ps
  counted_in = get_or-le-sum_by (λ (y : PortState). cond (is_missing l y) 1 0) ps i no_port lt

  -- one port more
  pub more_missing : is_missing l (get_or ps i no_port) ≡ true → count_by (is_missing l) (take (i + 1) ps) ≡ count_by (is_missing l) (take i ps) + 1
  more_missing e = count_by_more_yes (is_missing l) ps i no_port lt e

  pub no_more_missing : is_missing l (get_or ps i no_port) ≡ false → count_by (is_missing l) (take (i + 1) ps) ≡ count_by (is_missing l) (take i ps)
  no_more_missing e = count_by_more_no (is_missing l) ps i no_port lt e
