-- A node enters the next level: what that keeps at a link that it doesn't join, from both its ends.
use Rattle.std.proofs.Common.{◌≡◌, ◌⊎◌, ℕ, suc, ◌+◌, ◌≤◌, inr, ⊎_elim, false, Bool, Option, Some, None, List, [], ◌∷◌, ◌++◌, length, refl, sym, ap, subst, arith}
use Rattle.ghs_graph.specs.declared.key.Key.{Key}
use Rattle.ghs_graph.specs.Links.{InTree}
use Rattle.boruvka_protocol.specs.Levels.{InClass}
use Rattle.boruvka_protocol.specs.Cores.{IsCore}
use Rattle.peer_network.specs.Network.{Network, port_at, far}
use Rattle.boruvka_node.specs.declared.mark.Mark.{Mark}
use Rattle.boruvka_node.specs.declared.mark.Mark.TheVariants.{Inside}
use Rattle.boruvka_node.specs.declared.message.Message.{Message}
use Rattle.boruvka_node.specs.declared.message.Phase.TheVariants.{Search}
use Rattle.boruvka_protocol.proofs.invariant.Sides.{Side, AtPort, side_of, far_side_of, Told, calls_in, names_in}
use Rattle.boruvka_protocol.proofs.invariant.Names.{AreNamesFrom}
use Rattle.boruvka_protocol.proofs.invariant.Whole.{LinkFits}
use Rattle.boruvka_protocol.proofs.Unlike.{inside_is_branch, inside_is_asked, inside_is_plain, false_is_true, none_is_some}
use Rattle.boruvka_protocol.proofs.rows.Aside.{never_taken, never_least, calls_aside}
use Rattle.boruvka_protocol.proofs.rows.Late.{search_rest}

-- what a node that has entered the next level, with this name and parent, has at a port of this mark
abbrev pub entered_as : AtPort → Mark → Bool → Key → Option ℕ → AtPort
entered_as n mark owes c up = record {
  port = record n.port { mark = mark; owes = owes };
  head = record n.head { level = suc n.head.level; name = Some c; phase = Search; parent = up; best = None; out = None };
}

pub told_more : (ts : List Told) (t : Told) → length (ts ++ t ∷ []) ≡ suc (length ts)
told_more [] t = refl
told_more (s ∷ ts) t = ap suc (told_more ts t)

pub follows : (ks : List Key) (u h : ℕ) (ts : List Told) (t : Told) → AreNamesFrom ks u h ts → t.level ≡ suc (h + length ts) →
    IsCore ks (h + length ts) u t.name → AreNamesFrom ks u h (ts ++ t ∷ [])
follows ks u h [] t names lv core = (omega (arith, lv), subst (λ x. IsCore ks x u t.name) (let z : h + 0 ≡ h = omega arith in z) core, tt)
follows ks u h (s ∷ ts) t names lv core = (
  names.0,
  names.1,
  follows ks u (suc h) ts t names.2 (omega (arith, lv))
      (subst (λ x. IsCore ks x u t.name) (let z : h + suc (length ts) ≡ suc h + length ts = omega arith in z) core),
)

-- A link aside of the forest, whose ends lie in one class.

module _ (ks : List Key) (g : Network) (v p : ℕ) (c : Key) (up : Option ℕ) (n m : AtPort) (q r : List Message) (h : LinkFits ks g v p n m q r)
    (aside : InTree ks (port_at g v p).key → ⊥) where
  abbrev k : Key
  k = (port_at g v p).key

  abbrev e : Side
  e = side_of g v p n

  abbrev e' : Side
  e' = side_of g v p (entered_as n Inside false c up)

  abbrev f : Side
  f = far_side_of g v p m

  -- at the node that enters
  pub inside_near : (r' : List Message) → InClass ks (suc n.head.level) v (far g v p) → LinkFits ks g v p (entered_as n Inside false c up) m q r'
  inside_near r' one = record {
    marks = record {
      branch = λ x. inside_is_branch x;
      inside = λ x. (one, aside);
      late = λ i lv t ne. never_taken ks k aside (suc n.head.level) t;
      leads_out = λ b. inside_is_plain b;
    };
    names = record {
      said = h.names.said;
      next = h.names.next;
      all = record {
        at_most = h.names.all.at_most;
        basic = h.names.all.basic;
        aside = λ no. let a = h.names.all.aside no in record { apart = a.apart; far = a.far };
      };
      near = λ b. inside_is_plain b;
      rest = λ x. search_rest Search refl x;
    };
    connects = record { asked = λ x. inside_is_asked x; out = λ x. none_is_some _ x };
    calls = calls_aside ks e f e' f aside (calls_in q) h.calls;
    children = record {
      child = λ w. never_taken ks k aside (suc n.head.level) w.up.link;
      parent = λ w. never_taken ks k aside (suc n.head.level) w.up.link;
    };
    owes = record {
      child = λ o. false_is_true o;
      open_yet = λ o. false_is_true o;
      heard = λ s b. inside_is_branch b;
      rest = λ ne. refl;
    };
  }

-- The same from the other end: v's port p with m there, whose far end was Inside and enters.
module _ (ks : List Key) (g : Network) (v p : ℕ) (c : Key) (up : Option ℕ) (m n : AtPort) (r q : List Message) (h : LinkFits ks g v p m n r q)
    (aside : InTree ks (port_at g v p).key → ⊥) (within : InClass ks n.head.level v (far g v p)) (low : n.head.level ≤ m.head.level) where
  abbrev k' : Key
  k' = (port_at g v p).key

  abbrev d : Side
  d = side_of g v p m

  abbrev t : Side
  t = far_side_of g v p n

  abbrev t' : Side
  t' = far_side_of g v p (entered_as n Inside false c up)

  far_told : (told : ℕ) → (told ≡ n.head.level) ⊎ InClass ks told v (far g v p) → (told ≡ suc n.head.level) ⊎ InClass ks told v (far g v p)
  far_told told = ⊎_elim (λ e. inr (subst (λ x. InClass ks x v (far g v p)) (sym e) within)) (λ w. inr w)

  pub inside_away : LinkFits ks g v p m (entered_as n Inside false c up) r q
  inside_away = record {
    marks = record {
      branch = h.marks.branch;
      inside = h.marks.inside;
      late = λ i lv x ne. never_taken ks k' aside m.head.level x;
      leads_out = h.marks.leads_out;
    };
    names = record {
      said = h.names.said;
      next = h.names.next;
      all = record {
        at_most = let most = h.names.all.at_most in omega (arith, most);
        basic = λ b. inside_is_plain b;
        aside = λ no. let a = h.names.all.aside no in record { apart = a.apart; far = far_told (m.port.level + length (names_in r)) a.far };
      };
      near = λ b. let near = h.names.near b in let far = near.1 in (omega (arith, low), omega (arith, far));
      rest = h.names.rest;
    };
    connects = record {
      asked = λ x. never_least ks k' aside m.head.level t.node (h.connects.asked x).least;
      out = λ x. never_least ks k' aside m.head.level v (h.connects.out x).least;
    };
    calls = calls_aside ks d t d t' aside (calls_in r) h.calls;
    children = record { child = λ w. never_taken ks k' aside m.head.level w.up.link; parent = λ w. never_taken ks k' aside m.head.level w.up.link };
    owes = record {
      child = h.owes.child;
      open_yet = λ o. never_taken ks k' aside m.head.level (h.owes.child o).1.up.link;
      heard = λ s b w. never_taken ks k' aside m.head.level w.up.link;
      rest = h.owes.rest;
    };
  }
