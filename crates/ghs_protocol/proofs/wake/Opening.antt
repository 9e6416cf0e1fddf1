-- The opening net satisfies the invariant.
use Rattle.std.proofs.Common.{◌≡◌, ◌≢◌, ℕ, zero, suc, ◌<◌, true, [], ◌∷◌, refl, subst, ⊎_elim, length, arith, replicate, get_or}
use Rattle.std.proofs.lemmas.Bool.{cases_lt}
use Rattle.std.proofs.lemmas.List.{get_or_past, length-replicate}
use Rattle.ghs_node.specs.declared.mark.Mark.{Mark}
use Rattle.ghs_node.specs.declared.mark.Mark.TheVariants.{Basic, Branch, Rejected}
use Rattle.ghs_node.specs.Words.{is_branch}
use Rattle.peer_network.specs.Network.{Network, InNetwork}
use Rattle.ghs_protocol.specs.Net.{opening}
use Rattle.ghs_protocol.specs.Marks.{Leads, Here}
use Rattle.std.specs.List.{All}
use Rattle.std.proofs.lemmas.List.Elements.{All-nil, All-cons}
use Rattle.ghs_protocol.proofs.acts.Many.{one_apart}
use Rattle.ghs_protocol.proofs.clauses.Fragments.{IsJoinedIn, Goes_out, Both_ways, Root}
use Rattle.peer_network.specs.Sums.{sum_below}
use Rattle.ghs_protocol.proofs.clauses.Scene.{Scene, scene, forest}
use Rattle.ghs_protocol.proofs.clauses.Nodes.{NodeFits}
use Rattle.ghs_protocol.proofs.clauses.Whole.{Invariant, opening_ghost, LinksFit}

pub unmarked : (n p : ℕ) → get_or (replicate n Basic) p Rejected ≢ Branch
unmarked zero p = λ e. cc
unmarked (suc n) zero = λ e. cc
unmarked (suc n) (suc p) = unmarked n p

basic_inside : (n p : ℕ) → p < n → get_or (replicate n Basic) p Rejected ≢ Rejected
basic_inside zero p lt = absurd (omega arith)
basic_inside (suc n) zero lt = λ e. cc
basic_inside (suc n) (suc p) lt = basic_inside n p (omega arith)

not_branch : (m : Mark) → m ≢ Branch → is_branch m ≢ true
not_branch Basic h = λ e. cc
not_branch Branch h = absurd (h refl)
not_branch Rejected h = λ e. cc

zeros : (n : ℕ) → ◌≡◌ {A = ℕ} 0 (sum_below n (λ i. 0))
zeros zero = refl
zeros (suc n) = let z = zeros n in omega (arith, z)

module _ (g : Network) where
  w : Scene
  w = scene (opening g) opening_ghost

  none : (v p : ℕ) → (w.at v).mark p ≢ Branch
  unfolding w
  none v p = unmarked (length (g.ports v)) p

  no_root : (v p : ℕ) → Root g (forest w) v p → ⊥
  no_root v p (Goes_out h k) = not_branch ((w.at v).mark p) (none v p) h
  no_root v p (Both_ways h k l) = not_branch ((w.at v).mark p) (none v p) h.here

  node : (v : ℕ) → NodeFits (length (g.ports v)) (w.at v)
  unfolding w
  node v = record {
    own_ports = record {
      probe = λ p e. cc;
      in_branch = λ p e. cc;
      mark = λ p ne. ⊎_elim (λ h. h)
          (λ h. absurd (ne (get_or_past (replicate (length (g.ports v)) Basic) p Rejected (rw (length-replicate (length (g.ports v)) Basic) h))))
          (cases_lt p (length (g.ports v)));
    };
    untouched = λ e. record {
      level = refl;
      name = refl;
      in_branch = refl;
      best = refl;
      probe = refl;
      find_count = refl;
      halted = refl;
      marks = λ p. none v p;
      up = refl;
      coming = refl;
    };
    points = λ e. absurd (e refl);
    idle = λ e. (refl, refl);
    searching = λ e. cc;
    naming = record { level = λ e. refl; in_branch = λ e. refl; name = λ e. refl };
    lag = record { level = omega arith; name = λ e. refl };
    best_port = λ p k e. cc;
  }

  link : LinksFit g w
  unfolding w
  link v p at = record {
    tree = record {
      out_connect = λ o. absurd (none v p o.here);
      silent = λ a b. refl;
      core_ends = λ j. absurd (none v p j.here);
      upward = λ c. absurd (none v p c.joins.here);
      downward = λ c. absurd (none v p c.joins.here);
      core_queues = λ c. absurd (none v p c.both.joins.here);
      moved_root = λ c. absurd (none v p c.both.joins.here);
    };
    search = record {
      rejected_inside = λ e. absurd (basic_inside (length (g.ports v)) p at.port e);
      find_leads = λ k e. cc;
      find_reported = λ k e. cc;
    };
    tests = record {
      probing = λ e. cc;
      not_probing = λ e. record { accepts = refl; rejects = refl; one = omega arith; crossed = λ c. absurd (omega (arith, c)) };
    };
  }

  pub opening_holds : Invariant g (scene (opening g) opening_ghost)
  unfolding w
  opening_holds = record {
    nodes = λ v is. node v;
    trees = record {
      by_fragment = λ u v e. (refl, refl);
      names_within = record { none = λ v is e. refl; at_zero = λ v is e. refl; inside = λ v k is e. cc };
      sizes = λ v is. record { list = v ∷ []; once = one_apart v; each = only v is; many = omega arith };
      joined_within = λ v p at j. absurd (not_branch _ (none v p) j.here);
      connected = λ u v iu iv e. subst (Joined' u) e Here;
      joined_lead = λ v p at j. absurd (not_branch _ (none v p) j.here);
      one_root = λ v p u q a b r. absurd (no_root v p r);
      reached = λ v p is e. cc;
    };
    links = link;
    alone = λ v u iv iu e same. same;
    named = λ v k is e. cc;
    resting = record { out = λ v p at o. absurd (none v p o.here); moved = λ v p at m. absurd (none v p m.both.joins.here) };
    counted = λ v is. zeros (length (g.ports v));
  }
    where
      Joined' : ℕ → ℕ → Type 0
      Joined' = Leads g (IsJoinedIn g (forest w))

      only : (v : ℕ) → InNetwork g v → All (λ x. InNetwork g x × (x ≡ v)) (v ∷ [])
      only v is = All-cons (λ x. InNetwork g x × (x ≡ v)) v [] (is, refl) (All-nil (λ x. InNetwork g x × (x ≡ v)))
