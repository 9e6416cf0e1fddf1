-- The least way out of a part of a class, where it isn't the core, is the way up of its end.
use Rattle.std.proofs.Common.{◌≡◌, ℕ, suc, ◌<◌, inl, inr, ⊎_elim, true, false, List, sym, subst, refl, ◌∙◌, ap}
use Rattle.std.proofs.lemmas.Bool.{both_ways, false_from_ne_true}
use Rattle.ghs_graph.specs.declared.key.Key.{Key}
use Rattle.ghs_graph.specs.Key.{key_lt, ends_at}
use Rattle.ghs_graph.specs.Graph.{Shape, IsGraph}
use Rattle.ghs_graph.specs.Links.{Joined, Same, Over, Back}
use Rattle.ghs_graph.specs.Ports.{far_end}
use Rattle.ghs_graph.proofs.lemmas.Keys.{lt_asymmetric}
use Rattle.ghs_graph.proofs.lemmas.Joining.{joined_then, joined_back}
use Rattle.ghs_graph.proofs.lemmas.Ports.{end_cases, far_end_a, far_end_b}
use Rattle.peer_network.proofs.lemmas.Graphs.{link_among}
use Rattle.boruvka_protocol.specs.Levels.{Leaves, IsLeastOut, Taken, IsOfLevel}
use Rattle.boruvka_protocol.specs.Cores.{IsCore, LeadsTo, There, Falls}
use Rattle.boruvka_protocol.specs.WaysUp.{Away}
use Rattle.boruvka_protocol.proofs.lemmas.KeyOrder.{less_through, key_cases}
use Rattle.boruvka_protocol.proofs.lemmas.Cuts.{least_at}
use Rattle.boruvka_protocol.proofs.lemmas.WaysOut.{least_out}
use Rattle.boruvka_protocol.proofs.lemmas.Cores.{least_is_one, classes_have_one_core, parts_lead_to_core}
use Rattle.boruvka_protocol.proofs.invariant.Words.{IsLeast, IsWayUp}
use Rattle.boruvka_protocol.proofs.rows.Leaving.{AreEnds, joined_ends}

module _ (ks : List Key) (l u : ℕ) where
  abbrev S : Key → Type 0
  S k = Taken ks l k

  -- the links that are taken a level further, and don't end at u
  abbrev Far : Key → Type 0
  Far k = Away (Taken ks (suc l)) u k

  -- a link with both ends outside of the class of u doesn't end at u
  no_end : (k : Key) → (Joined S u k.a → ⊥) → (Joined S u k.b → ⊥) → ends_at u k ≡ false
  no_end k a b = false_from_ne_true (ends_at u k)
      (λ e. ⊎_elim (λ q. a (subst (λ x. Joined S u x) q Same)) (λ q. b (subst (λ x. Joined S u x) q Same)) (end_cases u k e))

  -- a way in another class stays away from u
  away_path : {x y : ℕ} → Joined S x y → (Joined S u x → ⊥) → Joined Far x y
  away_path Same out = Same
  away_path (Over k s way) out =
      let beyond : Joined S u k.b → ⊥ = λ j. out (joined_then j (Back k s Same)) in
      Over k (inl s, no_end k out beyond) (away_path way beyond)
  away_path (Back k s way) out =
      let beyond : Joined S u k.a → ⊥ = λ j. out (joined_then j (Over k s Same)) in
      Back k (inl s, no_end k beyond out) (away_path way beyond)

  module _ (k : Key) (chosen : IsLeastOut ks S u k) where
    -- a class with a lesser way out is another one
    outside : (v : ℕ) (j : Key) → IsLeastOut ks S v j → key_lt j k ≡ true → Joined S u v → ⊥
    outside v j m less way = both_ways (key_lt j k) ((least_at way chosen).least j m.link m.leaves) less

    -- lesser ways out lead to the core and stay away from u
    leads_away : {v : ℕ} {c : Key} → LeadsTo ks S v c → (j : Key) → IsLeastOut ks S v j → key_lt j k ≡ true → Joined Far v c.a
    leads_away {v} {c} (There h a b) j m less = ⊎_elim (λ p. away_path p.0 out) (λ p. joined_then (away_path p.0 out) over) h.leaves
      where
        out : Joined S u v → ⊥
        out = outside v j m less

        below : key_lt c k ≡ true
        below = subst (λ (x : Key). key_lt x k ≡ true) (least_is_one m h) less

        over : Joined Far c.b c.a
        over = Back c (inr (c.a, a), no_end c (outside c.a c a below) (outside c.b c b below)) Same
    leads_away {v} {c} (Falls i w i' h far n less' rest) j m less = joined_then (⊎_elim from_a from_b h.leaves) (leads_away rest i' n falls)
      where
        out : Joined S u v → ⊥
        out = outside v j m less

        -- keys fall from k on
        falls : key_lt i' k ≡ true
        falls = less_through i' i k less' (lt_asymmetric i k (subst (λ (x : Key). key_lt x k ≡ true) (least_is_one m h) less))

        beyond : Joined S u w → ⊥
        beyond = outside w i' n falls

        near : (x : ℕ) → Joined S v x → Joined S u x → ⊥
        near x way way' = out (joined_then way' (joined_back way))

        -- the far end is the one that v isn't joined with
        from_a : Joined S v i.a × (Joined S v i.b → ⊥) → Joined Far v w
        from_a p = ⊎_elim
            (λ q. absurd (far.1 (subst (λ x. Joined S v x) (sym q) p.0)))
            (λ q. joined_then (away_path p.0 out) (subst (λ x. Joined Far i.a x) (sym q)
            (Over i (inr (v, h), no_end i (near i.a p.0) (subst (λ x. Joined S u x → ⊥) q beyond)) Same)))
            (end_cases w i far.0)

        from_b : Joined S v i.b × (Joined S v i.a → ⊥) → Joined Far v w
        from_b p = ⊎_elim
            (λ q. joined_then (away_path p.0 out) (subst (λ x. Joined Far i.b x) (sym q)
            (Back i (inr (v, h), no_end i (subst (λ x. Joined S u x → ⊥) q beyond) (near i.b p.0)) Same)))
            (λ q. absurd (far.1 (subst (λ x. Joined S v x) (sym q) p.0)))
            (end_cases w i far.0)

ends_of : (u : ℕ) (k : Key) → k.a < k.b → ends_at u k ≡ true → AreEnds u (far_end u k) k
ends_of u k lt e = ⊎_elim
    (λ q. inl (q, ap (λ x. far_end x k) q ∙ far_end_a k))
    (λ q. inr (q, ap (λ x. far_end x k) q ∙ far_end_b k lt))
    (end_cases u k e)

-- it leaves the class at its far end too
leaves_there : {S : Key → Type 0} (u : ℕ) (k : Key) → k.a < k.b → ends_at u k ≡ true → Leaves S u k → Leaves S (far_end u k) k
leaves_there {S} u k lt e out = ⊎_elim
    (λ q. subst (λ x. Leaves S (far_end x k) k) (sym q) (subst (λ x. Leaves S x k) (sym (far_end_a k)) (at_b (subst (λ x. Leaves S x k) q out))))
    (λ q. subst (λ x. Leaves S (far_end x k) k) (sym q) (subst (λ x. Leaves S x k) (sym (far_end_b k lt)) (at_a (subst (λ x. Leaves S x k) q out))))
    (end_cases u k e)
  where
    at_b : Leaves S k.a k → Leaves S k.b k
    at_b h = inr (Same, λ way. ⊎_elim (λ p. p.1 (joined_back way)) (λ p. p.1 Same) h)

    at_a : Leaves S k.b k → Leaves S k.a k
    at_a h = inl (Same, λ way. ⊎_elim (λ p. p.1 Same) (λ p. p.1 (joined_back way)) h)

-- the class of u, of the next level, has k taken: where its far end has a lesser way out, k is the way up of u
pub chosen_up : (g : Shape) → IsGraph g → (l u : ℕ) (k : Key) → IsOfLevel g.keys (suc l) u → IsLeast g.keys l u k → ends_at u k ≡ true →
    (IsLeast g.keys l (far_end u k) k → ⊥) → IsWayUp g.keys (suc l) u k
chosen_up g ok l u k proper chosen e alone = record {
  root = core.0.a;
  top = (core.0, core.1, refl);
  up = record { link = inr (u, chosen); ends = e; on = leads_away g.keys l u k chosen leads least.0 least.1 less };
}
  where
    lt : k.a < k.b
    lt = (link_among g ok k chosen.link).1

    core : (c : Key) × IsCore g.keys l u c × ((j : Key) → IsCore g.keys l u j → j ≡ c)
    core = classes_have_one_core g ok l u proper

    leads : LeadsTo g.keys (Taken g.keys l) (far_end u k) core.0
    leads = parts_lead_to_core g ok l u proper core.0 core.1 (far_end u k) (joined_ends u (far_end u k) k (ends_of u k lt e) (inr (u, chosen)))

    least : (j : Key) × IsLeast g.keys l (far_end u k) j
    least = least_out g.keys l (far_end u k) (k, chosen.link, leaves_there u k lt e chosen.leaves)

    less : key_lt least.0 k ≡ true
    less = ⊎_elim (λ h. h)
        (λ o. ⊎_elim
        (λ h. absurd (both_ways (key_lt k least.0) (least.1.least k chosen.link (leaves_there u k lt e chosen.leaves)) h))
        (λ q. absurd (alone (subst (λ (x : Key). IsLeast g.keys l (far_end u k) x) q least.1)))
        o)
        (key_cases least.0 k)
