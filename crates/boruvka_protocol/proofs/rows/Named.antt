-- A Name comes in: what that keeps at the link, from both its ends. The node n stands at port p of v, and its far end has m.
use Rattle.std.proofs.Common.{◌≡◌, ℕ, suc, ◌+◌, ◌<◌, ◌≤◌, ⊎_elim, true, Some, List, ◌∷◌, length, refl, sym, ◌∙◌, ap, subst, arith}
use Rattle.std.proofs.lemmas.Bool.{cases_lt}
use Rattle.std.proofs.lemmas.Option.{same_Some}
use Rattle.ghs_graph.specs.declared.key.Key.{Key}
use Rattle.ghs_graph.specs.Graph.{Shape, IsGraph}
use Rattle.ghs_graph.specs.Links.{InTree}
use Rattle.ghs_graph.proofs.lemmas.Joining.{joined_then, joined_back}
use Rattle.boruvka_protocol.specs.Levels.{Taken, InClass, IsOfLevel}
use Rattle.boruvka_protocol.specs.Cores.{IsCore}
use Rattle.boruvka_protocol.proofs.lemmas.WaysOut.{inside_is_tree}
use Rattle.boruvka_protocol.proofs.lemmas.Cores.{classes_have_one_core}
use Rattle.peer_network.specs.Network.{Network, network_of, port_at, far}
use Rattle.boruvka_node.specs.declared.mark.Mark.TheVariants.{Inside}
use Rattle.boruvka_node.specs.declared.message.Message.{Message}
use Rattle.boruvka_node.specs.declared.message.Message.TheVariants.{Name}
use Rattle.boruvka_node.specs.Words.{is_basic}
use Rattle.boruvka_protocol.proofs.invariant.Words.{IsName}
use Rattle.boruvka_protocol.proofs.invariant.Sides.{Side, AtPort, side_of, far_side_of, calls_in, names_in}
use Rattle.boruvka_protocol.proofs.invariant.Names.{AreNamesFrom, ToldFits}
use Rattle.boruvka_protocol.proofs.invariant.Whole.{LinkFits}
use Rattle.boruvka_protocol.proofs.Unlike.{inside_is_branch, inside_is_asked, inside_is_plain}
use Rattle.boruvka_protocol.proofs.rows.Leaving.{AreEnds}
use Rattle.boruvka_protocol.proofs.rows.Aside.{never_taken, never_least, calls_aside}
use Rattle.boruvka_protocol.proofs.rows.Noted.{basic_no_branch}

-- the port has heard; where it leads back into the node's own class, it becomes Inside too
abbrev pub told_at : AtPort → ℕ → Key → AtPort
told_at n l a = record n { port = record n.port { level = l; name = Some a } }

abbrev pub inside_at : AtPort → ℕ → Key → AtPort
inside_at n l a = record n { port = record n.port { level = l; name = Some a; mark = Inside } }

module _ (gr : Shape) (ok : IsGraph gr) (v p l : ℕ) (a : Key) (n m : AtPort) (q r : List Message)
    (h : LinkFits gr.keys (network_of gr) v p n m (Name l a ∷ q) r) (class : IsOfLevel gr.keys n.head.level v)
    (named : IsName gr.keys n.head.level v n.head.name) where
  abbrev g : Network
  g = network_of gr

  abbrev u : ℕ
  u = far g v p

  abbrev k : Key
  k = (port_at g v p).key

  abbrev e : Side
  e = side_of g v p n

  abbrev f : Side
  f = far_side_of g v p m

  -- it is of the next level, and the name of the far end's class there
  pub next : l ≡ suc n.port.level
  next = h.names.next.0

  core_there : IsCore gr.keys n.port.level u a
  core_there = h.names.next.1

  said : IsName gr.keys l u (Some a)
  said = subst (λ x. IsName gr.keys x u (Some a)) (sym next) (a, refl, core_there)

  behind : AreNamesFrom gr.keys u l (names_in q)
  behind = subst (λ x. AreNamesFrom gr.keys u x (names_in q)) (sym next) h.names.next.2

  as_many : n.port.level + length (names_in (Name l a ∷ q)) ≡ l + length (names_in q)
  as_many = omega (arith, next)

  -- Not the node's own name.

  module _ (other : is_basic n.port.mark ≡ true → l ≡ n.head.level → n.head.name ≡ Some a → ⊥) where
    leads : is_basic n.port.mark ≡ true → 1 ≤ n.head.level → n.head.level ≤ l → InClass gr.keys n.head.level v u → ⊥
    leads b lo le way = ⊎_elim now (λ before. h.marks.leads_out b lo before way) (cases_lt n.port.level n.head.level)
      where
        now : n.port.level < n.head.level → ⊥
        now lt = other b (omega (arith, lv, next)) (own.1 ∙ ap (λ (x : Key). Some x) same)
          where
            lv : n.head.level ≡ suc n.port.level
            lv = omega (arith, lt, le, next)

            own : (c : Key) × (n.head.name ≡ Some c) × IsCore gr.keys n.port.level v c
            own = subst (λ x. IsName gr.keys x v n.head.name) lv named

            one : (c : Key) × IsCore gr.keys n.port.level v c × ((j : Key) → IsCore gr.keys n.port.level v j → j ≡ c)
            one = classes_have_one_core gr ok n.port.level v (subst (λ x. IsOfLevel gr.keys x v) lv class)

            here : IsCore gr.keys n.port.level v a
            here = record {
              inside = joined_then (subst (λ x. InClass gr.keys x v u) lv way) core_there.inside;
              of_a = core_there.of_a;
              of_b = core_there.of_b;
            }

            same : own.0 ≡ a
            same = one.2 own.0 own.2 ∙ sym (one.2 a here)

    pub told_near : LinkFits gr.keys g v p (told_at n l a) m q r
    told_near = record {
      marks = record { branch = h.marks.branch; inside = h.marks.inside; late = h.marks.late; leads_out = leads };
      names = record {
        said = said;
        next = behind;
        all = subst (λ x. ToldFits gr.keys e f x) as_many h.names.all;
        near = h.names.near;
        rest = λ x lo b. let le = h.names.rest x lo b in omega (arith, le, next);
      };
      connects = h.connects;
      calls = h.calls;
      children = h.children;
      owes = h.owes;
    }

  -- The node's own name, at a port that is Basic or Asked: the link lies inside.

  module _ (own_level : l ≡ n.head.level) (own_name : n.head.name ≡ Some a) (basic : is_basic n.port.mark ≡ true) (ends : AreEnds v u k) where
    lv : n.head.level ≡ suc n.port.level
    lv = sym own_level ∙ next

    core_here : IsCore gr.keys n.port.level v a
    core_here = go (subst (λ x. IsName gr.keys x v n.head.name) lv named)
      where
        go : (c : Key) × (n.head.name ≡ Some c) × IsCore gr.keys n.port.level v c → IsCore gr.keys n.port.level v a
        go c = subst (λ x. IsCore gr.keys n.port.level v x) (same_Some _ _ (sym c.1 ∙ own_name)) c.2

    pub one_class : InClass gr.keys n.head.level v u
    one_class = subst (λ x. InClass gr.keys x v u) (sym lv) (joined_then core_here.inside (joined_back core_there.inside))

    untaken : Taken gr.keys n.head.level k → ⊥
    untaken t =
        let late = h.marks.late n.port.level lv t (λ b. basic_no_branch n.port.mark basic b) in
        let most = h.names.all.at_most in
        omega (arith, late.level, most)

    -- it isn't in the forest
    pub aside : InTree gr.keys k → ⊥
    aside is = untaken ((inside_is_tree gr ok n.head.level k ends_joined).1 is)
      where
        ends_joined : InClass gr.keys n.head.level k.a k.b
        ends_joined = ⊎_elim
            (λ x. subst (λ y. InClass gr.keys n.head.level y k.b) x.0 (subst (λ y. InClass gr.keys n.head.level v y) x.1 one_class))
            (λ x. joined_back (subst (λ y. InClass gr.keys n.head.level y k.a) x.0 (subst (λ y. InClass gr.keys n.head.level v y) x.1 one_class)))
            ends

    abbrev e' : Side
    e' = side_of g v p (inside_at n l a)

    pub inside_near : LinkFits gr.keys g v p (inside_at n l a) m q r
    inside_near = record {
      marks = record {
        branch = λ x. inside_is_branch x;
        inside = λ x. (one_class, aside);
        late = λ i s t ne. never_taken gr.keys k aside n.head.level t;
        leads_out = λ b. inside_is_plain b;
      };
      names = record {
        said = said;
        next = behind;
        all = subst (λ x. ToldFits gr.keys e' f x) as_many
            (record {
              at_most = h.names.all.at_most;
              basic = h.names.all.basic;
              aside = λ no. let b = h.names.all.aside no in record { apart = b.apart; far = b.far };
            });
        near = λ b. inside_is_plain b;
        rest = λ x lo b. inside_is_plain b;
      };
      connects = record { asked = λ x. inside_is_asked x; out = λ x. never_least gr.keys k aside n.head.level v (h.connects.out x).least };
      calls = calls_aside gr.keys e f e' f aside (calls_in q) h.calls;
      children = record {
        child = λ up. never_taken gr.keys k aside n.head.level up.up.link;
        parent = λ up. never_taken gr.keys k aside n.head.level up.up.link;
      };
      owes = record {
        child = λ o. basic_no_branch n.port.mark basic (h.owes.child o).0;
        open_yet = λ o. basic_no_branch n.port.mark basic (h.owes.child o).0;
        heard = λ s b. inside_is_branch b;
        rest = h.owes.rest;
      };
    }

-- The same from the other end, v's port p with m there, whose far end hears.
module _ (ks : List Key) (g : Network) (v p l : ℕ) (a : Key) (m n : AtPort) (r q : List Message) (h : LinkFits ks g v p m n r (Name l a ∷ q)) where
  pub told_away : LinkFits ks g v p m (told_at n l a) r q
  told_away = record { marks = h.marks; names = h.names; connects = h.connects; calls = h.calls; children = h.children; owes = h.owes }

  module _ (aside : InTree ks (port_at g v p).key → ⊥) where
    abbrev k' : Key
    k' = (port_at g v p).key

    abbrev c : Side
    c = side_of g v p m

    abbrev d : Side
    d = far_side_of g v p n

    abbrev d' : Side
    d' = far_side_of g v p (inside_at n l a)

    pub inside_away : LinkFits ks g v p m (inside_at n l a) r q
    inside_away = record {
      marks = record {
        branch = h.marks.branch;
        inside = h.marks.inside;
        late = λ i lv x ne. never_taken ks k' aside m.head.level x;
        leads_out = h.marks.leads_out;
      };
      names = record {
        said = h.names.said;
        next = h.names.next;
        all = record {
          at_most = h.names.all.at_most;
          basic = λ b. inside_is_plain b;
          aside = λ no. let b = h.names.all.aside no in record { apart = b.apart; far = b.far };
        };
        near = h.names.near;
        rest = h.names.rest;
      };
      connects = record {
        asked = λ x. never_least ks k' aside m.head.level d.node (h.connects.asked x).least;
        out = λ x. never_least ks k' aside m.head.level v (h.connects.out x).least;
      };
      calls = calls_aside ks c d c d' aside (calls_in r) h.calls;
      children = record {
        child = λ up. never_taken ks k' aside m.head.level up.up.link;
        parent = λ up. never_taken ks k' aside m.head.level up.up.link;
      };
      owes = record { child = h.owes.child; open_yet = h.owes.open_yet; heard = h.owes.heard; rest = h.owes.rest };
    }
