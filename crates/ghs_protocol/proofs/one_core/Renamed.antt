-- What is remembered of fragments is a state of merging, but for the names of the fragments.
use Rattle.std.proofs.Common.{◌≡◌, ◌≢◌, ℕ, suc, Option, Some, List, [], ◌∷◌, ◌+◌, ◌*◌, length, inl, inr, refl, sym, ◌∙◌, ap, subst, subst₂, ⊎_elim, arith}
use Rattle.ghs_graph.specs.declared.key.Key.{Key}
use Rattle.ghs_graph.specs.Graph.{Shape, IsGraph}
use Rattle.peer_network.specs.Network.{network_of, port_at, At, far, far_port}
use Rattle.ghs_protocol.specs.Merging.{Fragments, singles, one_connect, united, IsLeastOut, Merge, Absorb, Merging, Done, Then}
use Rattle.ghs_protocol.proofs.clauses.Scene.{Ghost}
use Rattle.ghs_protocol.proofs.clauses.Whole.{opening_ghost}
use Rattle.ghs_protocol.proofs.clauses.Growing.{Grouped, Grows, As_it_was, Meets, Takes_in}
use Rattle.peer_network.proofs.lemmas.Graphs.{graph_wired}
use Rattle.ghs_protocol.proofs.merging.United.{Either, either_cases, inside, outside, still_one, was_one}
use Rattle.ghs_protocol.proofs.one_core.Links.{least_out}

-- the same fragments, levels and cores, but for names
pub record Renamed (m : Fragments) (gh : Ghost) : Type 0 where
  pub from : (u v : ℕ) → m.fragment u ≡ m.fragment v → gh.fragment u ≡ gh.fragment v
  pub to : (u v : ℕ) → gh.fragment u ≡ gh.fragment v → m.fragment u ≡ m.fragment v
  pub level : (v : ℕ) → m.level v ≡ gh.coming (gh.fragment v)
  pub core : (v : ℕ) → m.core v ≡ gh.coming_name (gh.fragment v)

pub opening_renamed : Renamed singles opening_ghost
opening_renamed = record { from = λ u v e. e; to = λ u v e. e; level = λ v. refl; core = λ v. refl }

-- two fragments become one in both
module _ (m : Fragments) (gh gh' : Ghost) (u v l : ℕ) (n : Option Key) (same : Renamed m gh)
    (grown : Grouped gh gh' (gh.fragment u) (gh.fragment v) l n) where
  abbrev one : Fragments
  one = united u v l n m

  ghost_either : (x : ℕ) → Either (m.fragment u) (m.fragment v) (m.fragment x) → Either (gh.fragment u) (gh.fragment v) (gh.fragment x)
  ghost_either x h = ⊎_elim (λ e. inl (same.from x u e)) (λ e. inr (same.from x v e)) h

  either : (x : ℕ) → Either (gh.fragment u) (gh.fragment v) (gh.fragment x) → Either (m.fragment u) (m.fragment v) (m.fragment x)
  either x h = ⊎_elim (λ e. inl (same.to x u e)) (λ e. inr (same.to x v e)) h

  -- fragments
  in_it : (x : ℕ) → Either (m.fragment u) (m.fragment v) (m.fragment x) → gh'.fragment x ≡ gh.fragment v
  in_it x h = grown.inside x (ghost_either x h)

  aside : (x : ℕ) → m.fragment x ≢ m.fragment u → m.fragment x ≢ m.fragment v → gh'.fragment x ≡ gh.fragment x
  aside x a b = grown.outside x (λ e. a (same.to x u e)) (λ e. b (same.to x v e))

  from_one : (x y : ℕ) → (united u v l n m).fragment x ≡ (united u v l n m).fragment y → gh'.fragment x ≡ gh'.fragment y
  from_one x y e =
      ⊎_elim
      (λ z.
      ⊎_elim (λ h. in_it x h ∙ sym (in_it y (⊎_elim (λ a. inl (sym z ∙ a)) (λ a. inr (sym z ∙ a)) h)))
      (λ h. aside x h.0 h.1 ∙ same.from x y z ∙ sym (aside y (λ a. h.0 (z ∙ a)) (λ a. h.1 (z ∙ a))))
      (either_cases (m.fragment u) (m.fragment v) (m.fragment x)))
      (λ h. in_it x h.0 ∙ sym (in_it y h.1)) (was_one m u v l n x y e)

  to_one : (x y : ℕ) → gh'.fragment x ≡ gh'.fragment y → (united u v l n m).fragment x ≡ (united u v l n m).fragment y
  to_one x y e =
      ⊎_elim
      (λ h.
      ⊎_elim (λ k. (inside m u v l n x h).fragment ∙ sym (inside m u v l n y k).fragment)
      (λ k. absurd (k.1 (same.to y v (sym (aside y k.0 k.1) ∙ sym e ∙ in_it x h))))
      (either_cases (m.fragment u) (m.fragment v) (m.fragment y)))
      (λ h.
      ⊎_elim (λ k. absurd (h.1 (same.to x v (sym (aside x h.0 h.1) ∙ e ∙ in_it y k))))
      (λ k. still_one m u v l n x y (same.to x y (sym (aside x h.0 h.1) ∙ e ∙ aside y k.0 k.1)))
      (either_cases (m.fragment u) (m.fragment v) (m.fragment y)))
      (either_cases (m.fragment u) (m.fragment v) (m.fragment x))

  level_one : (x : ℕ) → (united u v l n m).level x ≡ gh'.coming (gh'.fragment x)
  level_one x =
      ⊎_elim (λ h. (inside m u v l n x h).level ∙ sym grown.level ∙ ap gh'.coming (sym (in_it x h)))
      (λ h.
      (outside m u v l n x h.0 h.1).level ∙ same.level x ∙ sym (grown.levels (gh.fragment x) (λ e. h.1 (same.to x v e))) ∙
      ap gh'.coming (sym (aside x h.0 h.1)))
      (either_cases (m.fragment u) (m.fragment v) (m.fragment x))

  core_one : (x : ℕ) → (united u v l n m).core x ≡ gh'.coming_name (gh'.fragment x)
  core_one x =
      ⊎_elim (λ h. (inside m u v l n x h).core ∙ sym grown.name ∙ ap gh'.coming_name (sym (in_it x h)))
      (λ h.
      (outside m u v l n x h.0 h.1).core ∙ same.core x ∙ sym (grown.names (gh.fragment x) (λ e. h.1 (same.to x v e))) ∙
      ap gh'.coming_name (sym (aside x h.0 h.1)))
      (either_cases (m.fragment u) (m.fragment v) (m.fragment x))

  pub united_renamed : Renamed (united u v l n m) gh'
  united_renamed = record { from = from_one; to = to_one; level = level_one; core = core_one }

-- the state of merging after a step of the net: the same, or one step on; where a fragment was taken in the step takes one Connect less than two
pub record Went (ks : List Key) (m : Fragments) (took steps : ℕ) (gh' : Ghost) : Type 0 where
  pub links : List Key
  pub connects : ℕ
  pub to : Fragments
  pub way : Merging ks one_connect m links connects to
  pub many : length links ≡ steps
  pub costs : 2 * length links ≡ connects + took
  pub same : Renamed to gh'

module _ (s : Shape) (ok : IsGraph s) (m : Fragments) (gh gh' : Ghost) (same : Renamed m gh) where
  -- the far end's far end
  back_least : (v p : ℕ) → At (network_of s) v p →
      IsLeastOut s.keys m (far (network_of s) v p) (far (network_of s) (far (network_of s) v p) (far_port (network_of s) v p))
      (port_at (network_of s) (far (network_of s) v p) (far_port (network_of s) v p)).key →
      IsLeastOut s.keys m (far (network_of s) v p) v (port_at (network_of s) v p).key
  back_least v p at h =
      subst₂ (IsLeastOut s.keys m (far (network_of s) v p)) ((graph_wired s ok).back v p at) ((graph_wired s ok).same_key v p at) h

  pub grows_merges : (t n : ℕ) → Grows (network_of s) gh gh' t n → Went s.keys m t n gh'
  grows_merges _ _ (As_it_was f l n) = record {
    links = [];
    connects = 0;
    many = refl;
    costs = omega arith;
    to = m;
    way = Done;
    same = record {
      from = λ u v e. (λ i. f i u) ∙ same.from u v e ∙ sym (λ i. f i v);
      to = λ u v e. same.to u v (sym (λ i. f i u) ∙ e ∙ (λ i. f i v));
      level = λ v. same.level v ∙ sym (λ i. l i (f i v));
      core = λ v. same.core v ∙ sym (λ i. n i (f i v));
    };
  }
  grows_merges _ _ (Meets v p here there levels grown) =
      let b = back_least v p here.at (least_out s ok gh.fragment m same.from same.to _ _ there) in
      let a = least_out s ok gh.fragment m same.from same.to v p here in
      let e : m.level (far (network_of s) v p) ≡ m.level v = same.level _ ∙ sym levels ∙ sym (same.level v) in
      record {
        links = (port_at (network_of s) v p).key ∷ [];
        connects = 2;
        many = refl;
        costs = omega arith;
        to = united (far (network_of s) v p) v (suc (m.level (far (network_of s) v p))) (Some (port_at (network_of s) v p).key) m;
        way = Then (Merge (port_at (network_of s) v p).key (far (network_of s) v p) v b a e) Done;
        same =
            united_renamed m gh gh' (far (network_of s) v p) v _ _ same
            (subst
            (λ l. Grouped gh gh' (gh.fragment (far (network_of s) v p)) (gh.fragment v) (suc l) (Some (port_at (network_of s) v p).key))
            (levels ∙ sym (same.level (far (network_of s) v p))) grown);
      }
  grows_merges _ _ (Takes_in v p at there lt grown) =
      let b = back_least v p at (least_out s ok gh.fragment m same.from same.to _ _ there) in
      record {
        links = (port_at (network_of s) v p).key ∷ [];
        connects = 1;
        many = refl;
        costs = omega arith;
        to = united (far (network_of s) v p) v (m.level v) (m.core v) m;
        way =
            Then
            (Absorb (port_at (network_of s) v p).key (far (network_of s) v p) v b
            (let x = same.level v in let y = same.level (far (network_of s) v p) in omega (arith, x, y, lt)))
            Done;
        same =
            united_renamed m gh gh' (far (network_of s) v p) v _ _ same
            (subst₂ (Grouped gh gh' (gh.fragment (far (network_of s) v p)) (gh.fragment v)) (sym (same.level v)) (sym (same.core v)) grown);
      }
