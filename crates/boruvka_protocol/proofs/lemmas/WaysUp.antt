-- Ways up in a forest: each node has one, they lead to the top, and what leaves from below a node leaves from it or from below a child.
use Rattle.std.proofs.Common.{◌≡◌, ◌≢◌, ℕ, zero, suc, ◌<◌, ◌≤◌, ◌⊎◌, inl, inr, ⊎_elim, true, false, List, [], ◌∷◌, refl, sym, ◌∙◌, ap, subst, arith}
use Rattle.std.specs.List.{Contains}
use Rattle.std.proofs.lemmas.Bool.{both_ways, cases_Bool, cases_eq, false_from_ne_true}
use Rattle.std.proofs.lemmas.List.Elements.{All-contains}
use Rattle.ghs_graph.specs.declared.key.Key.{Key}
use Rattle.ghs_graph.specs.Key.{key_lt, ends_at}
use Rattle.ghs_graph.specs.Links.{Joined, Same, Over, Back, IsTree}
use Rattle.ghs_graph.specs.Ports.{far_end}
use Rattle.ghs_graph.specs.Graph.{Shape, IsGraph}
use Rattle.ghs_graph.proofs.lemmas.Joining.{joined_then, joined_back, joined_within, joined_by_none, Decided, decided_alike}
use Rattle.ghs_graph.proofs.lemmas.Ports.{end_cases, ends_a, ends_b, far_end_a, far_end_b}
use Rattle.ghs_graph.proofs.lemmas.Computing.{tree, tree_is}
use Rattle.ghs_graph.proofs.lemmas.Forests.{none_is_spare}
use Rattle.boruvka_protocol.specs.Levels.{Leaves, Taken, InClass, IsOfLevel}
use Rattle.boruvka_protocol.specs.Cores.{IsCore}
use Rattle.boruvka_protocol.specs.WaysUp.{IsTop, Away, IsUp, IsBelow, Here, Up, LeavesBelow, IsSub, IsOffered, Own, From_child, IsLeastOffered}
use Rattle.boruvka_protocol.specs.LevelLaws.{ClassesHaveOneTop, OthersHaveOneWayUp, TopsHaveNoWayUp, LinksAreWaysUp, WaysUpLeadToTop, NodesHaveOneSub, SubsAreOfChildren, SubOfTopIsLeast}
use Rattle.boruvka_protocol.proofs.lemmas.KeyOrder.{key_cases, keys_decided, less_through}
use Rattle.boruvka_protocol.proofs.lemmas.Cuts.{leaves_at, taken_in_tree}
use Rattle.boruvka_protocol.proofs.lemmas.Computing.{in_class_decided, leaves_decided}
use Rattle.boruvka_protocol.proofs.lemmas.WaysOut.{LeastWith, NoneWith, least_more, least_with}
use Rattle.boruvka_protocol.proofs.lemmas.Cores.{classes_have_one_core}

-- Sets of links without a spare one.

-- the links of S but one
abbrev pub But : (Key → Type 0) → Key → Key → Type 0
But S k j = S j × (j ≢ k)

pub record IsForest (S : Key → Type 0) : Type 0 where
  pub ordered : (k : Key) → S k → k.a < k.b
  pub none_spare : (k : Key) → S k → Joined (But S k) k.a k.b → ⊥

-- over a link to its far end
over : {P : Key → Type 0} (v : ℕ) (k : Key) → k.a < k.b → P k → ends_at v k ≡ true → Joined P v (far_end v k)
over {P} v k lt p e = ⊎_elim
    (λ q. subst (λ x. Joined P x (far_end x k)) (sym q) (subst (λ x. Joined P k.a x) (sym (far_end_a k)) (Over k p Same)))
    (λ q. subst (λ x. Joined P x (far_end x k)) (sym q) (subst (λ x. Joined P k.b x) (sym (far_end_b k lt)) (Back k p Same)))
    (end_cases v k e)

-- where its far end is joined with it, both its ends are
ends_joined : {P : Key → Type 0} (v : ℕ) (k : Key) → k.a < k.b → ends_at v k ≡ true → Joined P v (far_end v k) → Joined P k.a k.b
ends_joined {P} v k lt e way = ⊎_elim
    (λ q. subst (λ x. Joined P k.a x) (far_end_a k) (subst (λ x. Joined P x (far_end x k)) q way))
    (λ q. joined_back (subst (λ x. Joined P k.b x) (far_end_b k lt) (subst (λ x. Joined P x (far_end x k)) q way)))
    (end_cases v k e)

-- Ways that stay away from v.

-- from v itself they lead nowhere
away_from : {S : Key → Type 0} (v : ℕ) {x y : ℕ} → Joined (Away S v) x y → x ≡ v → x ≡ y
away_from v Same e = refl
away_from v (Over k s way) e = absurd (both_ways (ends_at v k) s.1 (subst (λ x. ends_at x k ≡ true) e (ends_a k)))
away_from v (Back k s way) e = absurd (both_ways (ends_at v k) s.1 (subst (λ x. ends_at x k ≡ true) e (ends_b k)))

module _ (S : Key → Type 0) (r : ℕ) where
  -- a way to r stays away from v, or v has a way up, or is r
  abbrev Passes : ℕ → ℕ → Type 0
  Passes v x = Joined (Away S v) x r ⊎ (((k : Key) × IsUp S r v k) ⊎ (v ≡ r))

  -- one link more in front of it, from p to q
  passes_more : (v p q : ℕ) (k : Key) → S k → (ends_at v k ≡ false → Joined (Away S v) q r → Joined (Away S v) p r)
      → (v ≡ p → far_end v k ≡ q) → (ends_at v k ≡ true → (v ≡ p) ⊎ (v ≡ q)) → Passes v q → Passes v p
  passes_more v p q k s longer far ends (inr o) = inr o
  passes_more v p q k s longer far ends (inl way) = ⊎_elim
      (λ e. ⊎_elim
      (λ at_p. inr (inl (k, record { link = s; ends = e; on = subst (λ x. Joined (Away S v) x r) (sym (far at_p)) way })))
      (λ at_q. inr (inr (at_q ∙ away_from v way (sym at_q))))
      (ends e))
      (λ e. inl (longer e way))
      (cases_Bool (ends_at v k))

  passes : ((k : Key) → S k → k.a < k.b) → (v : ℕ) {x : ℕ} → Joined S x r → Passes v x
  passes ordered v Same = inl Same
  passes ordered v (Over k s way) =
      passes_more v k.a k.b k s (λ e w. Over k (s, e) w) (λ q. subst (λ x. far_end x k ≡ k.b) (sym q) (far_end_a k)) (end_cases v k)
      (passes ordered v way)
  passes ordered v (Back k s way) =
      passes_more v k.b k.a k s (λ e w. Back k (s, e) w) (λ q. subst (λ x. far_end x k ≡ k.a) (sym q) (far_end_b k (ordered k s)))
      (λ e. ⊎_elim inr inl (end_cases v k e)) (passes ordered v way)

  -- the top has no way up
  pub none_at_top : (forest : IsForest S) → (k : Key) → IsUp S r r k → ⊥
  none_at_top forest k up = forest.none_spare k up.link
      (ends_joined r k (forest.ordered k up.link) up.ends (subst (λ x. Joined (But S k) r x) (away_from r (joined_back up.on) refl) Same))

  module _ (forest : IsForest S) where
    -- each other node that is joined with the top has one
    pub some_up : (v : ℕ) → Joined S v r → v ≢ r → (k : Key) × IsUp S r v k
    some_up v way other =
        ⊎_elim (λ w. absurd (other (away_from v w refl))) (λ o. ⊎_elim (λ u. u) (λ e. absurd (other e)) o) (passes forest.ordered v way)

    -- a way up leads to the top over no other link of its node
    up_but : (v : ℕ) (j k : Key) → IsUp S r v j → j ≢ k → ends_at v k ≡ true → Joined (But S k) v r
    up_but v j k up ne e =
        joined_then (over v j (forest.ordered j up.link) (up.link, ne) up.ends)
        (joined_within (λ i s. (s.0, λ q. both_ways (ends_at v k) (subst (λ (x : Key). ends_at v x ≡ false) q s.1) e)) up.on)

    pub up_is_one : (v : ℕ) (j k : Key) → IsUp S r v j → IsUp S r v k → j ≡ k
    up_is_one v j k p q = ⊎_elim (λ e. e)
        (λ ne.
        absurd
        (forest.none_spare k q.link
        (ends_joined v k (forest.ordered k q.link) q.ends
        (joined_then (up_but v j k p ne q.ends)
        (joined_back (joined_within (λ i s. (s.0, λ e. both_ways (ends_at v k) (subst (λ (x : Key). ends_at v x ≡ false) e s.1) q.ends)) q.on))))))
        (keys_decided j k)

    -- each link is the way up from one of its ends
    up_either : (k : Key) → S k → Joined S k.a r → IsUp S r k.a k ⊎ IsUp S r k.b k
    up_either k s way = ⊎_elim from_a
        (λ o. ⊎_elim
        (λ i. ⊎_elim from_b
        (λ p. ⊎_elim
        (λ j. both i j)
        (λ e. from_a (subst (λ x. Joined (Away S k.a) k.b x) e Same))
        p)
        (passes forest.ordered k.b way))
        (λ e. from_b (subst (λ x. Joined (Away S k.b) k.a x) e Same))
        o)
        (passes forest.ordered k.a (Back k s way))
      where
        from_a : Joined (Away S k.a) k.b r → IsUp S r k.a k ⊎ IsUp S r k.b k
        from_a w = inl (record { link = s; ends = ends_a k; on = subst (λ x. Joined (Away S k.a) x r) (sym (far_end_a k)) w })

        from_b : Joined (Away S k.b) k.a r → IsUp S r k.a k ⊎ IsUp S r k.b k
        from_b w =
            inr (record { link = s; ends = ends_b k; on = subst (λ x. Joined (Away S k.b) x r) (sym (far_end_b k (forest.ordered k s))) w })

        -- two other ways up would join its ends
        both : (i : Key) × IsUp S r k.a i → (j : Key) × IsUp S r k.b j → IsUp S r k.a k ⊎ IsUp S r k.b k
        both i j = ⊎_elim (λ e. inl (subst (λ (x : Key). IsUp S r k.a x) e i.1)) (λ ni. ⊎_elim
            (λ e. inr (subst (λ (x : Key). IsUp S r k.b x) e j.1))
            (λ nj.
            absurd
            (forest.none_spare k s
            (joined_then (up_but k.a i.0 k i.1 ni (ends_a k)) (joined_back (up_but k.b j.0 k j.1 nj (ends_b k))))))
            (keys_decided j.0 k)) (keys_decided i.0 k)

    pub never_both : (k : Key) → IsUp S r k.a k → IsUp S r k.b k → ⊥
    never_both k p q = forest.none_spare k p.link (joined_then (joined_within (λ j s. aside k.b j (ends_b k) s) from_a)
        (joined_back (joined_within (λ j s. aside k.a j (ends_a k) s) from_b)))
      where
        from_a : Joined (Away S k.b) k.a r
        from_a = subst (λ x. Joined (Away S k.b) x r) (far_end_b k (forest.ordered k p.link)) q.on

        from_b : Joined (Away S k.a) k.b r
        from_b = subst (λ x. Joined (Away S k.a) x r) (far_end_a k) p.on

        aside : (v : ℕ) (j : Key) → ends_at v k ≡ true → Away S v j → But S k j
        aside v j e s = (s.0, λ q. both_ways (ends_at v k) (subst (λ (x : Key). ends_at v x ≡ false) q s.1) e)

    -- what is left above the first way up
    above : {v w : ℕ} (k : Key) → IsUp S r v k → v ≢ w → IsBelow S r v w → IsBelow S r (far_end v k) w
    above k up other Here = absurd (other refl)
    above {v} {w} k up other (Up j up' rest) = subst (λ (x : Key). IsBelow S r (far_end v x) w) (up_is_one v j k up' up) rest

    not_top : {v : ℕ} (k : Key) → IsUp S r v k → v ≢ r
    not_top k up e = none_at_top forest k (subst (λ x. IsUp S r x k) e up)

    -- ways up lead to the top from each node that is joined with it
    pub leads_up : {v : ℕ} → Joined S v r → IsBelow S r v r
    leads_up Same = Here
    leads_up (Over k s way) = ⊎_elim
        (λ up. Up k up (subst (λ x. IsBelow S r x r) (sym (far_end_a k)) (leads_up way)))
        (λ up. subst (λ x. IsBelow S r x r) (far_end_b k (forest.ordered k s)) (above k up (not_top k up) (leads_up way)))
        (up_either k s (Over k s way))
    leads_up (Back k s way) = ⊎_elim
        (λ up. subst (λ x. IsBelow S r x r) (far_end_a k) (above k up (not_top k up) (leads_up way)))
        (λ up. Up k up (subst (λ x. IsBelow S r x r) (sym (far_end_b k (forest.ordered k s))) (leads_up way)))
        (up_either k s way)

    pub below_joined : {u v : ℕ} → IsBelow S r u v → Joined S u v
    below_joined Here = Same
    below_joined {u} (Up k up rest) = joined_then (over u k (forest.ordered k up.link) up.link up.ends) (below_joined rest)

    -- the top lies below nothing else
    top_below : {u v : ℕ} → u ≡ r → u ≢ v → IsBelow S r u v → ⊥
    top_below at_top other Here = other refl
    top_below at_top other (Up k up rest) = not_top k up at_top

    -- whether a node lies below another is found on its way to the top
    below_decided : {u w : ℕ} (v : ℕ) → IsBelow S r u w → w ≡ r → Decided (IsBelow S r u v)
    below_decided {u} v Here e = ⊎_elim (λ q. inl (subst (λ x. IsBelow S r u x) q Here)) (λ ne. inr (top_below e ne)) (cases_eq u v)
    below_decided {u} v (Up k up rest) e =
        ⊎_elim (λ q. inl (subst (λ x. IsBelow S r u x) q Here))
        (λ ne. decided_alike (λ b. Up k up b) (λ b. above k up ne b) (below_decided v rest e)) (cases_eq u v)

  -- Below a node: itself, and what lies below its children.

  abbrev IsChild : ℕ → ℕ → Type 0
  IsChild u v = (j : Key) × IsUp S r u j × (far_end u j ≡ v)

  below_then : {u v w : ℕ} → IsBelow S r u v → IsBelow S r v w → IsBelow S r u w
  below_then Here rest = rest
  below_then (Up k up more) rest = Up k up (below_then more rest)

  below_child : {u v : ℕ} → IsBelow S r u v → (u ≡ v) ⊎ ((w : ℕ) × IsChild w v × IsBelow S r u w)
  below_child Here = inl refl
  below_child {u} (Up k up rest) = inr (⊎_elim (λ e. (u, (k, up, e), Here)) (λ c. (c.0, c.1, Up k up c.2)) (below_child rest))

  child_below : {u v : ℕ} → IsChild u v → IsBelow S r u v
  child_below {u} c = Up c.0 c.1 (subst (λ x. IsBelow S r (far_end u c.0) x) c.2 Here)

  module _ (ks : List Key) where
    leaves_higher : {u v : ℕ} {k : Key} → IsBelow S r u v → LeavesBelow ks S r u k → LeavesBelow ks S r v k
    leaves_higher b h = record { link = h.link; node = h.node; below = below_then h.below b; ends = h.ends; leaves = h.leaves }

    own_below : {v : ℕ} {k : Key} → Contains ks k → ends_at v k ≡ true → Leaves S v k → LeavesBelow ks S r v k
    own_below {v} is e out = record { link = is; node = v; below = Here; ends = e; leaves = out }

    offered_below : {v : ℕ} {k : Key} → IsOffered ks S r v k → LeavesBelow ks S r v k
    offered_below (Own is e out) = own_below is e out
    offered_below (From_child u j up far sub) = leaves_higher (child_below (j, up, far)) sub.is

    pub sub_offered : (v : ℕ) (k : Key) → IsSub ks S r v k → IsLeastOffered ks S r v k
    sub_offered v k h = record { is = ⊎_elim own child (below_child h.is.below); least = λ j o. h.least j (offered_below o) }
      where
        own : h.is.node ≡ v → IsOffered ks S r v k
        own e = Own h.is.link (subst (λ x. ends_at x k ≡ true) e h.is.ends) (subst (λ x. Leaves S x k) e h.is.leaves)

        child : (w : ℕ) × IsChild w v × IsBelow S r h.is.node w → IsOffered ks S r v k
        child c = From_child c.0 c.1.0 c.1.1 c.1.2 (record {
          is = record { link = h.is.link; node = h.is.node; below = c.2; ends = h.is.ends; leaves = h.is.leaves };
          least = λ j o. h.least j (leaves_higher (child_below c.1) o);
        })

    -- it can't be that no link of a list is the least with P, where one has it
    some_least : (P : Key → Type 0) (js : List Key) → (LeastWith P js ⊎ NoneWith P js → ⊥) → ⊥
    some_least P [] never = never (inr (λ j h p. absurd (omega (arith, h.1))))
    some_least P (k ∷ js) never =
        some_least P js (λ rest. let lacks : P k → ⊥ = λ p. never (least_more P k js (inl p) rest) in never (least_more P k js (inr lacks) rest))

    pub offered_sub : (v : ℕ) (k : Key) → IsLeastOffered ks S r v k → IsSub ks S r v k
    offered_sub v k h = record {
      is = offered_below h.is;
      least = λ j o. false_from_ne_true (key_lt j k) (λ less. no j o less (below_child o.below));
    }
      where
        no : (j : Key) → (o : LeavesBelow ks S r v j) → key_lt j k ≡ true → (o.node ≡ v) ⊎ ((w : ℕ) × IsChild w v × IsBelow S r o.node w) → ⊥
        no j o less (inl e) =
            both_ways (key_lt j k)
            (h.least j (Own o.link (subst (λ x. ends_at x j ≡ true) e o.ends) (subst (λ x. Leaves S x j) e o.leaves))) less
        no j o less (inr c) = some_least (LeavesBelow ks S r c.0) ks (λ some. ⊎_elim
            (λ m.
            both_ways (key_lt j m.key) (m.least j o.link here)
            (less_through j k m.key less
            (h.least m.key (From_child c.0 c.1.0 c.1.1 c.1.2 (record { is = m.has; least = λ i p. m.least i p.link p })))))
            (λ none. none j o.link here)
            some)
          where
            here : LeavesBelow ks S r c.0 j
            here = record { link = o.link; node = o.node; below = c.2; ends = o.ends; leaves = o.leaves }

-- What is taken is such a set.

taken_forest : (g : Shape) → IsGraph g → (l : ℕ) → IsForest (Taken g.keys l)
taken_forest g ok l = record {
  ordered = λ k s.
      let e = All-contains (λ (j : Key). (1 ≤ j.a) × (j.a < j.b) × (j.b ≤ g.nodes)) g.keys k ok.among (taken_in_tree g.keys l k s).0 in e.1;
  none_spare = λ k s way.
      none_is_spare g.keys (tree g.keys) t k (t.all k (taken_in_tree g.keys l k s))
      (joined_within (λ j p. (t.all j (taken_in_tree g.keys l j p.0), p.1)) way);
}
  where
    t : IsTree g.keys (tree g.keys)
    t = tree_is g.keys ok.rising

pub top_inside : (ks : List Key) (l v r : ℕ) → IsTop ks l v r → InClass ks l v r
top_inside ks zero v r e = subst (λ x. InClass ks zero v x) (sym e) Same
top_inside ks (suc l) v r c = subst (λ x. InClass ks (suc l) v x) (sym c.2) c.1.inside

pub level_at : (ks : List Key) (l v u : ℕ) → InClass ks l v u → IsOfLevel ks l v → IsOfLevel ks l u
level_at ks zero v u way h = tt
level_at ks (suc l) v u way h = λ w rest. h w (joined_then way rest)

pub core_at : (ks : List Key) (l v u : ℕ) (c : Key) → InClass ks (suc l) v u → IsCore ks l v c → IsCore ks l u c
core_at ks l v u c way h = record { inside = joined_then (joined_back way) h.inside; of_a = h.of_a; of_b = h.of_b }

pub top_at : (ks : List Key) (l v u r : ℕ) → InClass ks l v u → IsTop ks l v r → IsTop ks l u r
top_at ks zero v u r way e = e ∙ joined_by_none (λ k h. h) way
top_at ks (suc l) v u r way t = (t.0, core_at ks l v u t.0 way t.1, t.2)

pub classes_have_one_top : ClassesHaveOneTop
classes_have_one_top g ok zero v h = (v, refl, Same, λ s e. e)
classes_have_one_top g ok (suc l) v h =
    let o = classes_have_one_core g ok l v h in
    (o.0.a, (o.0, o.1, refl), o.1.inside, λ s c. c.2 ∙ ap (λ (x : Key). x.a) (o.2 c.0 c.1))

pub others_have_one_way_up : OthersHaveOneWayUp
others_have_one_way_up g ok l v r top other =
    let forest = taken_forest g ok l in
    let u = some_up (Taken g.keys l) r forest v (top_inside g.keys l v r top) other in
    (u.0, u.1, λ j up. up_is_one (Taken g.keys l) r forest v j u.0 up u.1)

pub tops_have_no_way_up : TopsHaveNoWayUp
tops_have_no_way_up g ok l v r top k up = none_at_top (Taken g.keys l) r (taken_forest g ok l) k up

pub ways_up_lead_to_top : WaysUpLeadToTop
ways_up_lead_to_top g ok l v r top = leads_up (Taken g.keys l) r (taken_forest g ok l) (top_inside g.keys l v r top)

pub links_are_ways_up : LinksAreWaysUp
links_are_ways_up g ok l v r top k s way = ⊎_elim
    (λ up. inl (up, λ other. never_both (Taken g.keys l) r forest k up other))
    (λ up. inr (up, λ other. never_both (Taken g.keys l) r forest k other up))
    (up_either (Taken g.keys l) r forest k s (joined_then (joined_back way) (top_inside g.keys l v r top)))
  where
    forest : IsForest (Taken g.keys l)
    forest = taken_forest g ok l

-- the link leaves from u, which lies below v
abbrev LeavesAt : (Key → Type 0) → ℕ → ℕ → Key → ℕ → Type 0
LeavesAt S r v k u = IsBelow S r u v × Leaves S u k

abbrev FromBelow : (Key → Type 0) → ℕ → ℕ → Key → Type 0
FromBelow S r v k = (u : ℕ) × (ends_at u k ≡ true) × LeavesAt S r v k u

sub_is_one : {ks : List Key} {S : Key → Type 0} {r v : ℕ} {j k : Key} → IsSub ks S r v j → IsSub ks S r v k → j ≡ k
sub_is_one {j = j} {k = k} h i = ⊎_elim
    (λ less. absurd (both_ways (key_lt j k) (i.least j h.is) less))
    (λ o. ⊎_elim (λ less. absurd (both_ways (key_lt k j) (h.least k i.is) less)) (λ e. e) o)
    (key_cases j k)

sub_of : {ks : List Key} {S : Key → Type 0} {r v : ℕ} → (m : LeastWith (FromBelow S r v) ks) → IsSub ks S r v m.key
sub_of m = record {
  is = record { link = m.is; node = m.has.0; below = m.has.2.0; ends = m.has.1; leaves = m.has.2.1 };
  least = λ j o. m.least j o.link (o.node, o.ends, (o.below, o.leaves));
}

module _ (g : Shape) (ok : IsGraph g) (l v r : ℕ) (top : IsTop g.keys l v r) where
  forest : IsForest (Taken g.keys l)
  forest = taken_forest g ok l

  node_decided : (u : ℕ) → Decided (IsBelow (Taken g.keys l) r u v)
  node_decided u =
      ⊎_elim (λ way. below_decided (Taken g.keys l) r forest v (leads_up (Taken g.keys l) r forest way) refl)
      (λ out. inr (λ b. out (joined_then (below_joined (Taken g.keys l) r forest b) (top_inside g.keys l v r top)))) (in_class_decided g.keys l u r)

  end_decided : (k : Key) (u : ℕ) → Decided (LeavesAt (Taken g.keys l) r v k u)
  end_decided k u =
      ⊎_elim (λ b. ⊎_elim (λ out. inl (b, out)) (λ stays. inr (λ p. stays p.1)) (leaves_decided g.keys l u k)) (λ aside. inr (λ p. aside p.0))
      (node_decided u)

  from_below_decided : (k : Key) → Decided (FromBelow (Taken g.keys l) r v k)
  from_below_decided k = ⊎_elim
      (λ p. inl (k.a, ends_a k, p))
      (λ at_a. ⊎_elim (λ p. inl (k.b, ends_b k, p)) (λ at_b. inr (none at_a at_b)) (end_decided k k.b))
      (end_decided k k.a)
    where
      none : (LeavesAt (Taken g.keys l) r v k k.a → ⊥) → (LeavesAt (Taken g.keys l) r v k k.b → ⊥) → FromBelow (Taken g.keys l) r v k → ⊥
      none at_a at_b h = ⊎_elim
          (λ e. at_a (subst (LeavesAt (Taken g.keys l) r v k) e h.2))
          (λ e. at_b (subst (LeavesAt (Taken g.keys l) r v k) e h.2))
          (end_cases h.0 k h.1)

pub nodes_have_one_sub : NodesHaveOneSub
nodes_have_one_sub g ok l v r top = ⊎_elim
    (λ m. inl (m.key, sub_of m, λ j h. sub_is_one h (sub_of m)))
    (λ none. inr (λ k h. none k h.link (h.node, h.ends, (h.below, h.leaves))))
    (least_with (FromBelow (Taken g.keys l) r v) (from_below_decided g ok l v r top) g.keys)

pub subs_are_of_children : SubsAreOfChildren
subs_are_of_children g ok l v r k = (sub_offered (Taken g.keys l) r g.keys v k, offered_sub (Taken g.keys l) r g.keys v k)

-- all nodes of the class are below the top
pub sub_of_top_is_least : SubOfTopIsLeast
sub_of_top_is_least g ok l v r top k = (
  λ h. record {
    link = h.is.link;
    leaves = leaves_at k (joined_then (below_joined (Taken g.keys l) r forest h.is.below) (joined_back inside)) h.is.leaves;
    least = λ j is out. h.least j (below j is out);
  },
  λ h. record {
    is = below k h.link h.leaves;
    least = λ j o. h.least j o.link (leaves_at j (joined_then (below_joined (Taken g.keys l) r forest o.below) (joined_back inside)) o.leaves);
  },
)
  where
    forest : IsForest (Taken g.keys l)
    forest = taken_forest g ok l

    inside : InClass g.keys l v r
    inside = top_inside g.keys l v r top

    below : (j : Key) → Contains g.keys j → Leaves (Taken g.keys l) v j → LeavesBelow g.keys (Taken g.keys l) r r j
    below j is out = ⊎_elim
        (λ p. record {
          link = is;
          node = j.a;
          below = leads_up (Taken g.keys l) r forest (joined_then (joined_back p.0) inside);
          ends = ends_a j;
          leaves = leaves_at j p.0 out;
        })
        (λ p. record {
          link = is;
          node = j.b;
          below = leads_up (Taken g.keys l) r forest (joined_then (joined_back p.0) inside);
          ends = ends_b j;
          leaves = leaves_at j p.0 out;
        })
        out
