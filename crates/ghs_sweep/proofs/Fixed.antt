-- Figures that are the graph's: two runs that have ended have the same.
use Rattle.std.proofs.Common.{◌≡◌, ◌∙◌, ℕ, ◌<◌, ◌≤◌, true, List, [], ◌∷◌, ap, arith, length, max, eqb-true, refl, subst, suc, sym, zero, Option, Some, None, ⊎_elim}
use Rattle.std.proofs.Math.Nat.{le-max_left, le-max_right, max-le}
use Rattle.std.proofs.lemmas.List.Elements.{All-contains}
use Rattle.std.specs.List.{AllPairs, Contains, fold}
use Rattle.ghs_graph.specs.Graph.{Shape, IsGraph}
use Rattle.ghs_graph.specs.declared.key.Key.{Key}
use Rattle.ghs_graph.specs.Links.{total_weight}
use Rattle.ghs_graph.proofs.lemmas.Joining.{joined_back, joined_then, joined_within}
use Rattle.ghs_graph.proofs.lemmas.Keys.{same_keys}
use Rattle.ghs_graph.proofs.lemmas.Logs.{bound_is_one}
use Rattle.ghs_graph.proofs.lemmas.Members.{first_in, in_cases, later_in, nothing_in}
use Rattle.ghs_protocol.specs.Laws.{IsNetOf}
use Rattle.ghs_protocol.specs.Marks.{HasEnded, Here, InOneFragment, Over}
use Rattle.ghs_protocol.specs.Net.{Net}
use Rattle.peer_network.specs.Network.{network_of}
use Rattle.peer_network.specs.declared.event.Event.{Event}
use Rattle.ghs_protocol.specs.Run.{IsRun, net_after}
use Rattle.ghs_protocol.proofs.lemmas.Runs.{after_is_net}
use Rattle.ghs_protocol.proofs.lemmas.Laws.{end_is_tree, fragments_are_joined}
use Rattle.ghs_protocol.proofs.lemmas.Merging.{connects_agree, halted_are_highest, one_core_of_all}
use Rattle.ghs_core.specs.Census.{IsCensus, IsRow}
use Rattle.ghs_core.specs.declared.census.FragmentRow.{FragmentRow}
use Rattle.ghs_core.specs.Marked.{AreBranches}
use Rattle.peer_sweep.specs.declared.figures.Figures.{Figures}
use Rattle.peer_sweep.specs.declared.measure.Measure.{Measure}
use Rattle.peer_sweep.specs.declared.measure.Measure.TheVariants as measure
use Rattle.ghs_sweep.specs.Figures.{AreFigures, greatest_level}
use Rattle.peer_sweep.specs.Measure.{value_of}
use Rattle.ghs_sweep.specs.Measure.{FixedMeasuresAgree, is_connect, is_fixed}

-- the greatest level is at least each row's, and no more than what none is above
has_level : (rows : List FragmentRow) (a : ℕ) → a ≤ fold (λ most (row : FragmentRow). max most row.level) a rows
has_level [] a = omega arith
has_level (r ∷ rows) a = let x = has_level rows (max a r.level) in let y = le-max_left a r.level in omega (arith, x, y)

each_level : (rows : List FragmentRow) (a : ℕ) (r : FragmentRow) → Contains rows r →
    r.level ≤ fold (λ most (row : FragmentRow). max most row.level) a rows
each_level [] a r h = absurd (nothing_in r h)
each_level (s ∷ rows) a r h =
    ⊎_elim (λ o. each_level rows (max a s.level) r o)
    (λ (e : s ≡ r).
    let x = has_level rows (max a s.level) in
    let y = le-max_right a s.level in
    let z = ap (λ (row : FragmentRow). row.level) e in omega (arith, x, y, z)) (in_cases s r rows h)

most_level : (rows : List FragmentRow) (a m : ℕ) → a ≤ m → ((r : FragmentRow) → Contains rows r → r.level ≤ m) →
    fold (λ most (row : FragmentRow). max most row.level) a rows ≤ m
most_level [] a m le all = le
most_level (s ∷ rows) a m le all = most_level rows (max a s.level) m (max-le le (all s (first_in s rows))) (λ r h. all r (later_in s r rows h))

-- rows that rise by their least nodes
abbrev pub Rise : List FragmentRow → Type 0
Rise rows = AllPairs (λ (r s : FragmentRow). r.least < s.least) rows

below_later : (r : FragmentRow) (rows : List FragmentRow) → Rise (r ∷ rows) → (s : FragmentRow) → Contains rows s → r.least < s.least
below_later r rows rise s h =
    subst (λ (z : FragmentRow). r.least < z.least) h.2 (rise 0 (suc h.0) s (omega arith) (let l = h.1 in omega arith))

later_rise : (r : FragmentRow) (rows : List FragmentRow) → Rise (r ∷ rows) → Rise rows
later_rise r rows rise i j d lt jl = rise (suc i) (suc j) d (omega arith) (omega arith)

abbrev pub HasLeast : List FragmentRow → ℕ → Type 0
HasLeast rows v = (s : FragmentRow) × Contains rows s × (s.least ≡ v)

-- where each least node is one of other rows, there are no more
no_more : (rows others : List FragmentRow) → Rise rows → Rise others → ((r : FragmentRow) → Contains rows r → HasLeast others r.least) →
    length rows ≤ length others
no_more [] others rise rise' all = omega arith
no_more (r ∷ rows) [] rise rise' all = absurd (let h = all r (first_in r rows) in nothing_in h.0 h.1)
no_more (r ∷ rows) (s ∷ others) rise rise' all =
    let rest = no_more rows others (later_rise r rows rise) (later_rise s others rise') later in omega (arith, rest)
  where
    -- the first of the others isn't above the first row
    low : s.least ≤ r.least
    low =
        let h = all r (first_in r rows) in
        ⊎_elim (λ o. let x = below_later s others rise' h.0 o in let y = h.2 in omega (arith, x, y))
        (λ (e : s ≡ h.0). let x = ap (λ (z : FragmentRow). z.least) e in let y = h.2 in omega (arith, x, y)) (in_cases s h.0 others h.1)

    later : (q : FragmentRow) → Contains rows q → HasLeast others q.least
    later q i =
        let h = all q (later_in r q rows i) in
        let above = below_later r rows rise q i in
        ⊎_elim (λ o. (h.0, o, h.2))
        (λ (e : s ≡ h.0). absurd (let x = ap (λ (z : FragmentRow). z.least) e in let y = h.2 in omega (arith, x, y, above, low)))
        (in_cases s h.0 others h.1)

module _ (g : Shape) (w w' : Net) (n : IsNetOf g w) (n' : IsNetOf g w') (h : HasEnded g w) (h' : HasEnded g w') where
  -- the fragments are the components, in both
  over : (v u : ℕ) → InOneFragment (network_of g) w v u → InOneFragment (network_of g) w' v u
  over v u i =
      (fragments_are_joined g n.graph w' v u).1
      (joined_within (λ k j. (end_is_tree g w' n' h' k).1 ((end_is_tree g w n h k).0.0 (j.0, j.1, j.2, j.3, j.4.0)))
      ((fragments_are_joined g n.graph w v u).0 i))

back : (g : Shape) (w : Net) → IsNetOf g w → (v u : ℕ) → InOneFragment (network_of g) w v u → InOneFragment (network_of g) w u v
back g w n v u i = (fragments_are_joined g n.graph w u v).1 (joined_back ((fragments_are_joined g n.graph w v u).0 i))

-- the least node of a row is a node
is_node : (g : Shape) (w : Net) (v u : ℕ) → InOneFragment (network_of g) w v u → (1 ≤ u) × (u ≤ g.nodes) → (1 ≤ v) × (v ≤ g.nodes)
is_node g w v u Here e = e
is_node g w v u (Over p at j l) e = (at.some, at.node)

module _ (g : Shape) (w : Net) (row : FragmentRow) (r : IsRow (network_of g) w row) where
  least_is : (1 ≤ row.least) × (row.least ≤ g.nodes)
  least_is = let z = (r.fragment.all r.level.has.0).0 r.level.has.1 in is_node g w row.least r.level.has.0 z.2 (z.0, z.1)

module _ (g : Shape) (w w' : Net) (n : IsNetOf g w) (n' : IsNetOf g w') (h : HasEnded g w) (h' : HasEnded g w') (rows rows' : List FragmentRow)
    (c : IsCensus (network_of g) w rows) (c' : IsCensus (network_of g) w' rows') where
  row_of : (r : FragmentRow) → Contains rows r → IsRow (network_of g) w r
  row_of r i = All-contains (IsRow (network_of g) w) rows r c.each i

  row_of' : (r : FragmentRow) → Contains rows' r → IsRow (network_of g) w' r
  row_of' r i = All-contains (IsRow (network_of g) w') rows' r c'.each i

  -- a component has the same least node in both
  same_least : (r : FragmentRow) → Contains rows r → HasLeast rows' r.least
  same_least r i =
      let is = row_of r i in
      let v = least_is g w r is in
      let there = c'.all r.least v.0 v.1 in
      let is' = row_of' there.0 there.1 in
      let u = least_is g w' there.0 is' in
      let a = is.least there.0.least ((is.fragment.all there.0.least).1
      (u.0, u.1, over g w' w n' n h' h r.least there.0.least (back g w' n' there.0.least r.least there.2))) in
      let b = is'.least r.least ((is'.fragment.all r.least).1 (v.0, v.1, there.2)) in
      (there.0, there.1, omega (arith, a, b))

  pub not_more : length rows ≤ length rows'
  not_more = no_more rows rows' c.rising c'.rising same_least

  -- each level is at most the other's greatest
  level_there : (r : FragmentRow) → Contains rows r → r.level ≤ greatest_level rows'
  level_there r i =
      let is = row_of r i in
      let u = is.level.has.0 in
      let z = (is.fragment.all u).0 is.level.has.1 in
      let a = h u z.0 z.1 in
      let b = h' u z.0 z.1 in
      let high = halted_are_highest g w n a.0 u a.1 a.2 a.4 (joined_back a.3) in
      let one = one_core_of_all g w w' n n' a.0 b.0 a.1 a.2 (joined_then (joined_back a.3) b.3) a.4 b.4 in
      let there = c'.all b.0 b.1 b.2 in
      let is' = row_of' there.0 there.1 in
      let most = is'.level.most b.0 ((is'.fragment.all b.0).1 (b.1, b.2, there.2)) in
      let greatest = each_level rows' 0 there.0 there.1 in
      let level = is.level.has.2 in
      let same = one.0 in
      omega (arith, high, same, most, greatest, level)

  pub not_higher : greatest_level rows ≤ greatest_level rows'
  not_higher = most_level rows 0 (greatest_level rows') (omega arith) level_there

-- the keys that are Branch are the forest's in both
branches_there : (g : Shape) (w w' : Net) → IsNetOf g w → IsNetOf g w' → HasEnded g w → HasEnded g w' → (ks ks' : List Key) →
    AreBranches (network_of g) w ks → AreBranches (network_of g) w' ks' → (k : Key) → Contains ks k → Contains ks' k
branches_there g w w' n n' h h' ks ks' b b' k i =
    (b'.all k).1 ((end_is_tree g w' n' h' k).0.1 ((end_is_tree g w n h k).0.0 ((b.all k).0 i)))

module _ (g : Shape) (es fs : List Event) (f f' : Figures) (ok : IsGraph g) (run : IsRun (network_of g) es) (run' : IsRun (network_of g) fs)
    (a : AreFigures g es f) (b : AreFigures g fs f') (e : f.ended ≡ true) (e' : f'.ended ≡ true) where
  n : IsNetOf g (net_after g es)
  n = record { graph = ok; events = es; run = after_is_net g es run }

  n' : IsNetOf g (net_after g fs)
  n' = record { graph = ok; events = fs; run = after_is_net g fs run' }

  connects : value_of (measure.Kind (Some 0)) f ≡ value_of (measure.Kind (Some 0)) f'
  connects =
      ap (λ (n : ℕ). Some n)
      (a.messages.kinds 0 (omega arith) ∙ connects_agree g (net_after g es) (net_after g fs) n n' (a.ended.0 e) (b.ended.0 e') ∙
      sym (b.messages.kinds 0 (omega arith)))

  bounds : f.bound ≡ f'.bound
  bounds =
      let one = bound_is_one g.nodes (length g.keys) (let z = ok.some in omega (arith, z)) in
      one.2 f.bound a.messages.bound ∙ sym (one.2 f'.bound b.messages.bound)

  levels : greatest_level a.marks.rows ≡ greatest_level b.marks.rows
  levels =
      let x =
      not_higher g (net_after g es) (net_after g fs) n n' (a.ended.0 e) (b.ended.0 e') a.marks.rows b.marks.rows a.marks.census b.marks.census in
      let y =
      not_higher g (net_after g fs) (net_after g es) n' n (b.ended.0 e') (a.ended.0 e) b.marks.rows a.marks.rows b.marks.census a.marks.census in
      omega (arith, x, y)

  fragments : length a.marks.rows ≡ length b.marks.rows
  fragments =
      let x =
      not_more g (net_after g es) (net_after g fs) n n' (a.ended.0 e) (b.ended.0 e') a.marks.rows b.marks.rows a.marks.census b.marks.census in
      let y =
      not_more g (net_after g fs) (net_after g es) n' n (b.ended.0 e') (a.ended.0 e) b.marks.rows a.marks.rows b.marks.census a.marks.census in
      omega (arith, x, y)

  weights : total_weight a.marks.branches ≡ total_weight b.marks.branches
  weights =
      ap total_weight
      (same_keys a.marks.branches b.marks.branches a.marks.all.rising b.marks.all.rising
      (branches_there g (net_after g es) (net_after g fs) n n' (a.ended.0 e) (b.ended.0 e') a.marks.branches b.marks.branches a.marks.all b.marks.all)
      (branches_there g (net_after g fs) (net_after g es) n' n (b.ended.0 e') (a.ended.0 e) b.marks.branches a.marks.branches b.marks.all
      a.marks.all))

  of_kind : (k : Option ℕ) → is_connect k ≡ true → value_of (measure.Kind k) f ≡ value_of (measure.Kind k) f'
  of_kind None i = refl
  of_kind (Some zero) i = connects
  of_kind (Some (suc k)) i = absurd (let z = eqb-true (suc k) 0 i in omega (arith, z))

  agree : (m : Measure) → is_fixed m ≡ true → value_of m f ≡ value_of m f'
  agree (measure.Kind k) i = of_kind k i
  agree measure.Bound i = ap (λ (n : ℕ). Some n) bounds
  agree measure.Level i = a.marks.level ∙ ap (λ (n : ℕ). Some n) levels ∙ sym b.marks.level
  agree measure.Fragments i = a.marks.fragments ∙ ap (λ (n : ℕ). Some n) fragments ∙ sym b.marks.fragments
  agree measure.Weight i = a.marks.weight ∙ ap (λ (n : ℕ). Some n) weights ∙ sym b.marks.weight
  agree measure.Events i = cc
  agree measure.Sent i = cc
  agree measure.Requeued i = cc
  agree measure.Queued i = cc
  agree measure.Halted i = cc
  agree measure.Chain i = cc
  agree measure.Bits i = cc
  agree measure.Longest i = cc

pub fixed_measures_agree : FixedMeasuresAgree
fixed_measures_agree g es fs f f' m ok run run' a b e e' i = agree g es fs f f' ok run run' a b e e' m i
