-- The order behind a node that has entered: at its own ports and at their far ends, over plain variables.
use Rattle.std.proofs.Common.{◌≡◌, ◌≢◌, inl, inr, ⊎_elim, ℕ, suc, ◌+◌, ◌<◌, ◌≤◌, ◌||◌, ◌&&◌, ◌==◌, Bool, true, false, List, [], ◌∷◌, ◌++◌, length, refl, sym, subst, cond, arith, eqb-true}
use Rattle.std.proofs.lemmas.Bool.{and_parts}
use Rattle.ghs_graph.specs.declared.key.Key.{Key}
use Rattle.ghs_graph.specs.Graph.{Shape, IsGraph}
use Rattle.ghs_graph.specs.Links.{InTree}
use Rattle.ghs_graph.proofs.lemmas.Joining.{joined_back}
use Rattle.boruvka_protocol.specs.Levels.{Taken, InClass}
use Rattle.boruvka_protocol.proofs.lemmas.WaysOut.{inside_is_tree}
use Rattle.ghs_node.specs.Words.{is_at, is_name}
use Rattle.boruvka_node.specs.declared.change.Entry.{Entry}
use Rattle.boruvka_node.specs.declared.mark.Mark.{Mark}
use Rattle.boruvka_node.specs.declared.mark.Mark.TheVariants.{Basic, Asked, Branch, Inside}
use Rattle.boruvka_node.specs.declared.message.Message.{Message}
use Rattle.boruvka_node.specs.declared.message.Message.TheVariants.{Connect, Initiate, Name, Report, ChangeRoot}
use Rattle.boruvka_node.specs.declared.port_state.PortState.{PortState}
use Rattle.boruvka_node.specs.Words.{is_basic, is_asked}
use Rattle.boruvka_node.specs.State.{was_heard}
use Rattle.boruvka_node.specs.Entering.{joined_mark, entered_port}
use Rattle.boruvka_protocol.proofs.invariant.Words.{IsLeast}
use Rattle.boruvka_protocol.proofs.invariant.Sides.{Side, Heard, names_in, calls_in}
use Rattle.boruvka_protocol.proofs.invariant.Marks.{IsLate}
use Rattle.boruvka_protocol.proofs.invariant.Names.{AreNamesFrom}
use Rattle.boruvka_protocol.proofs.Unlike.{branch_is_inside, inside_is_branch, inside_is_asked}
use Rattle.boruvka_protocol.proofs.rows.Leaving.{not_joined}
use Rattle.boruvka_protocol.proofs.rows.Ports.{told_by}
use Rattle.boruvka_protocol.proofs.follows.Cases.{asked_is}
use Rattle.boruvka_protocol.proofs.follows.Seen.{Seen}
use Rattle.boruvka_protocol.proofs.follows.Order.{OrderFits}
use Rattle.boruvka_protocol.proofs.follows.Ordered.{none_more, first_none, order_silent, order_more, order_told}

-- a Name that waits isn't above what was heard and as many as Names wait
pub name_within : (ks : List Key) (u h : ℕ) (ms : List Message) (l : ℕ) (c : Key) (rest : List Message) →
    AreNamesFrom ks u h (names_in (ms ++ (Name l c ∷ rest))) → l ≤ h + length (names_in (ms ++ (Name l c ∷ rest)))
name_within ks u h [] l c rest n = let e : l ≡ suc h = n.0 in omega (arith, e)
name_within ks u h (Connect k ∷ ms) l c rest n = name_within ks u h ms l c rest n
name_within ks u h (Initiate k f ∷ ms) l c rest n = name_within ks u h ms l c rest n
name_within ks u h (Name k f ∷ ms) l c rest n = omega (arith, name_within ks u (suc h) ms l c rest n.2)
name_within ks u h (Report k ∷ ms) l c rest n = name_within ks u h ms l c rest n
name_within ks u h (ChangeRoot ∷ ms) l c rest n = name_within ks u h ms l c rest n

-- Behind it: f has entered the level above l, the link isn't Branch there, and its name has been told to e.
module _ (g : Shape) (ok : IsGraph g) (l : ℕ) (e f : Side) (heard far_heard : Heard) (owes far_owes : Bool) (ms ns : List Message)
    (s : Seen g.keys e f heard owes ms ns) (t : Seen g.keys f e far_heard far_owes ns ms) (level : f.level ≡ suc l)
    (other : f.mark ≢ Branch) (told : l < heard.level + length (names_in ms)) where
  late : Taken g.keys (suc l) f.key → IsLate g.keys l f e (calls_in ns)
  late k = t.marks.late l level (subst (λ x. Taken g.keys x f.key) (sym level) k) other

  -- so f didn't choose the link at l
  pub chose_another : IsLeast g.keys l f.node f.key → ⊥
  chose_another least = (late (inr (f.node, least))).alone least

  -- and it led out of f's class
  pub led_out : InClass g.keys l f.node e.node → ⊥
  led_out way = (s.names.all.aside no_tree).apart l told (joined_back way)
    where
      ends_joined : InClass g.keys l f.key.a f.key.b
      ends_joined = ⊎_elim
          (λ x. subst (λ y. InClass g.keys l y f.key.b) x.0 (subst (λ y. InClass g.keys l f.node y) x.1 way))
          (λ x. joined_back (subst (λ y. InClass g.keys l y f.key.a) x.0 (subst (λ y. InClass g.keys l f.node y) x.1 way)))
          t.wire.ends

      no_tree : InTree g.keys e.key → ⊥
      no_tree tree =
          let taken = (inside_is_tree g ok l f.key ends_joined).1 (subst (λ (k : Key). InTree g.keys k) (sym s.wire.same) tree) in
          not_joined e.node f.key (late (inl taken)).chosen.leaves f.node t.wire.ends way

-- At a port of the node.
module _ (ks : List Key) (v u : ℕ) (e : Entry) (i : ℕ) (x : PortState) (q : List Message) (o : OrderFits ks v u x.mark x.level q) where
  abbrev Now : Bool → Type 0
  Now b = (cond (is_basic (cond b Branch x.mark) && was_heard e.level e.name x) Inside (cond b Branch x.mark) ≡ Inside → InClass ks e.level v u) →
      OrderFits ks v u (cond (is_basic (cond b Branch x.mark) && was_heard e.level e.name x) Inside (cond b Branch x.mark)) x.level q

  turned : (c : Bool) → (is_basic x.mark && was_heard e.level e.name x) ≡ c → (cond c Inside x.mark ≡ Inside → InClass ks e.level v u) →
      OrderFits ks v u (cond c Inside x.mark) x.level q
  turned false same inside = o
  turned true same inside = record {
    first = o.first;
    asked = λ z. inside_is_asked z;
    branch = λ z. inside_is_branch z;
    inside = λ z. subst (λ n. InClass ks n v u) (sym level) (inside refl);
  }
    where
      level : x.level ≡ e.level
      level =
          eqb-true x.level e.level
          (and_parts (x.level == e.level) (is_name x.name e.name) (and_parts (is_basic x.mark) (was_heard e.level e.name x) same).1).0

  either : (b : Bool) → (b ≡ true → names_in q ≡ []) → Now b
  either true none inside = order_silent ks v u Branch x.level q (none refl) (λ z. branch_is_inside z)
  either false none inside = turned (is_basic x.mark && was_heard e.level e.name x) refl inside

  pub order_entered : (is_at e.out i ≡ true → names_in q ≡ []) → ((entered_port e i x).mark ≡ Inside → InClass ks e.level v u) →
      OrderFits ks v u (entered_port e i x).mark (entered_port e i x).level q
  order_entered out inside = either (is_at e.out i || is_asked x.mark) none inside
    where
      split : (a b : Bool) → is_at e.out i ≡ a → is_asked x.mark ≡ b → (a || b) ≡ true → names_in q ≡ []
      split true b p q' r = out p
      split false true p q' r = o.asked (asked_is x.mark q')
      split false false p q' r = cc

      none : (is_at e.out i || is_asked x.mark) ≡ true → names_in q ≡ []
      none = split (is_at e.out i) (is_asked x.mark) refl refl

told_branch : (e : Entry) (up : Bool) → names_in (told_by e Branch up) ≡ []
told_branch e true = refl
told_branch e false = refl

-- At the far end of a port, whose mark with the node was m: what went out before, what is told there, and what goes out behind it.
module _ (ks : List Key) (v u : ℕ) (mark : Mark) (heard : ℕ) (ms : List Message) (o : OrderFits ks v u mark heard ms) (e : Entry) (i : ℕ) (up : Bool)
    (before behind : List Message) (none_before : names_in before ≡ []) (none_behind : names_in behind ≡ []) where
  abbrev AddsTo : Mark → Type 0
  AddsTo joined = OrderFits ks v u mark heard (ms ++ (before ++ (told_by e joined up ++ behind)))

  silent : (joined : Mark) → names_in (told_by e joined up) ≡ [] → AddsTo joined
  silent joined none =
      order_more ks v u mark heard ms (before ++ (told_by e joined up ++ behind)) o
      (none_more before (told_by e joined up ++ behind) none_before (none_more (told_by e joined up) behind none none_behind))

  either_told : (m : Mark) (b : Bool) → is_at e.out i ≡ b →
      (m ≡ Basic → is_at e.out i ≡ false → (mark ≡ Basic) × (calls_in ms ≡ []) × (before ≡ [])) → AddsTo (cond (b || is_asked m) Branch m)
  either_told m true at tells = silent Branch (told_branch e up)
  either_told Basic false at tells =
      let x = tells refl at in
      subst (λ y. OrderFits ks v u mark heard (ms ++ (y ++ (Name e.level e.name ∷ behind)))) (sym x.2)
      (order_told ks v u mark heard ms (Name e.level e.name ∷ behind) x.1 x.0 (first_none behind none_behind))
  either_told Asked false at tells = silent Branch (told_branch e up)
  either_told Branch false at tells = silent Branch (told_branch e up)
  either_told Inside false at tells = silent Inside refl

  pub order_joined : (m : Mark) → (m ≡ Basic → is_at e.out i ≡ false → (mark ≡ Basic) × (calls_in ms ≡ []) × (before ≡ [])) →
      AddsTo (joined_mark e i m)
  order_joined m tells = either_told m (is_at e.out i) refl tells
