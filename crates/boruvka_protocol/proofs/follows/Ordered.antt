-- What becomes of the order in a queue when messages come and go, over plain variables.
use Rattle.std.proofs.Common.{◌≡◌, ◌≢◌, ℕ, suc, ◌+◌, ◌<◌, ◌≤◌, ◌⊎◌, inl, inr, ⊎_elim, Bool, true, Some, List, [], ◌∷◌, ◌++◌, length, refl, sym, ap, subst, arith}
use Rattle.std.proofs.lemmas.Bool.{cases_lt}
use Rattle.ghs_graph.specs.declared.key.Key.{Key}
use Rattle.ghs_graph.specs.Graph.{Shape, IsGraph}
use Rattle.ghs_graph.proofs.lemmas.Joining.{joined_back}
use Rattle.boruvka_protocol.specs.Levels.{Taken, InClass, IsOfLevel}
use Rattle.boruvka_node.specs.declared.mark.Mark.{Mark}
use Rattle.boruvka_node.specs.declared.mark.Mark.TheVariants.{Basic, Asked, Branch, Inside}
use Rattle.boruvka_node.specs.declared.message.Message.{Message}
use Rattle.boruvka_node.specs.declared.message.Message.TheVariants.{Connect, Initiate, Name, Report, ChangeRoot}
use Rattle.boruvka_node.specs.Words.{is_basic}
use Rattle.boruvka_protocol.proofs.invariant.Words.{IsWayUp}
use Rattle.boruvka_protocol.proofs.invariant.Sides.{Side, Heard, names_in, calls_in, initiates_in}
use Rattle.boruvka_protocol.proofs.invariant.Names.{IsToldAside}
use Rattle.boruvka_protocol.proofs.invariant.Connects.{HasAsked, Waits, Has_begun}
use Rattle.boruvka_protocol.proofs.invariant.TreeMessages.{CallsFit, Nothing, Chosen, Called, Chosen_called, Reported, Passed}
use Rattle.boruvka_protocol.proofs.rows.Parts.{none_by}
use Rattle.boruvka_protocol.proofs.follows.Cases.{plain_no_branch, plain_no_asked}
use Rattle.boruvka_protocol.proofs.follows.Ways.{over, taken_still}
use Rattle.boruvka_protocol.proofs.follows.Seen.{Seen}
use Rattle.boruvka_protocol.proofs.follows.Quiet.{link_up}
use Rattle.boruvka_protocol.proofs.follows.Order.{NamesFirst, OrderFits, none_inside}

-- Queues.

pub first_none : (ms : List Message) → names_in ms ≡ [] → NamesFirst ms
first_none [] n = tt
first_none (Connect l ∷ ms) n = n
first_none (Initiate l f ∷ ms) n = n
first_none (Name l f ∷ ms) n = cc
first_none (Report k ∷ ms) n = n
first_none (ChangeRoot ∷ ms) n = n

pub none_more : (a b : List Message) → names_in a ≡ [] → names_in b ≡ [] → names_in (a ++ b) ≡ []
none_more [] b p q = q
none_more (Connect l ∷ a) b p q = none_more a b p q
none_more (Initiate l f ∷ a) b p q = none_more a b p q
none_more (Name l f ∷ a) b p q = cc
none_more (Report k ∷ a) b p q = none_more a b p q
none_more (ChangeRoot ∷ a) b p q = none_more a b p q

first_more : (a b : List Message) → NamesFirst a → names_in b ≡ [] → NamesFirst (a ++ b)
first_more [] b p q = first_none b q
first_more (Connect l ∷ a) b p q = none_more a b p q
first_more (Initiate l f ∷ a) b p q = none_more a b p q
first_more (Name l f ∷ a) b p q = first_more a b p q
first_more (Report k ∷ a) b p q = none_more a b p q
first_more (ChangeRoot ∷ a) b p q = none_more a b p q

first_told : (a b : List Message) → calls_in a ≡ [] → NamesFirst b → NamesFirst (a ++ b)
first_told [] b p q = q
first_told (Connect l ∷ a) b p q = cc
first_told (Initiate l f ∷ a) b p q = cc
first_told (Name l f ∷ a) b p q = first_told a b p q
first_told (Report k ∷ a) b p q = cc
first_told (ChangeRoot ∷ a) b p q = cc

-- behind another message no Name waits
pub none_behind : (m : Message) (ms : List Message) → NamesFirst (m ∷ ms) → calls_in (m ∷ []) ≢ [] → names_in ms ≡ []
none_behind (Connect l) ms p call = p
none_behind (Initiate l f) ms p call = p
none_behind (Name l f) ms p call = absurd (call refl)
none_behind (Report k) ms p call = p
none_behind ChangeRoot ms p call = p

pub plain_no_inside : (m : Mark) → m ≡ Basic → m ≡ Inside → ⊥
plain_no_inside m b a = cc

basic_is : (m : Mark) → (m ≡ Asked → ⊥) → (m ≡ Branch → ⊥) → (m ≡ Inside → ⊥) → m ≡ Basic
basic_is Basic a b i = refl
basic_is Asked a b i = absurd (a refl)
basic_is Branch a b i = absurd (b refl)
basic_is Inside a b i = absurd (i refl)

module _ (ks : List Key) (v u : ℕ) (mark : Mark) (heard : ℕ) where
  -- where no Name waits, any mark will do that is Inside only where it may be
  pub order_silent : (ms : List Message) → names_in ms ≡ [] → (mark ≡ Inside → InClass ks heard v u) → OrderFits ks v u mark heard ms
  order_silent ms none inside = record { first = first_none ms none; asked = λ a. none; branch = λ b. none; inside = inside }

  -- other messages than Names go to the end
  pub order_more : (ms ns : List Message) → OrderFits ks v u mark heard ms → names_in ns ≡ [] → OrderFits ks v u mark heard (ms ++ ns)
  order_more ms ns o none = record {
    first = first_more ms ns o.first none;
    asked = λ a. none_more ms ns (o.asked a) none;
    branch = λ b. none_more ms ns (o.branch b) none;
    inside = o.inside;
  }

  -- a Name goes to the end of Names, at a Basic port
  pub order_told : (ms ns : List Message) → calls_in ms ≡ [] → mark ≡ Basic → NamesFirst ns → OrderFits ks v u mark heard (ms ++ ns)
  order_told ms ns none basic first = record {
    first = first_told ms ns none first;
    asked = λ a. absurd (plain_no_asked mark basic a);
    branch = λ b. absurd (plain_no_branch mark basic b);
    inside = λ i. absurd (plain_no_inside mark basic i);
  }

-- A Name that comes finds a Basic port.
pub name_finds_basic : (ks : List Key) (e f : Side) (heard : Heard) (owes : Bool) (l : ℕ) (c : Key) (ms ns : List Message) →
    Seen ks e f heard owes (Name l c ∷ ms) ns → OrderFits ks e.node f.node e.mark heard.level (Name l c ∷ ms) → e.mark ≡ Basic
name_finds_basic ks e f heard owes l c ms ns s o = basic_is e.mark
    (λ a. some (o.asked a))
    (λ b. some (o.branch b))
    (λ i. some (none_inside ks e f heard (Name l c ∷ ms) s.marks s.names o i))
  where
    some : names_in (Name l c ∷ ms) ≡ [] → ⊥
    some e = cc

-- Who enters tells its name over a Basic port that it isn't out over and that leads out of its class:
-- the far end is Basic too, and only Names wait there.
module _ (g : Shape) (ok : IsGraph g) (e f : Side) (heard far_heard : Heard) (owes far_owes : Bool) (ms ns : List Message)
    (s : Seen g.keys e f heard owes ms ns) (t : Seen g.keys f e far_heard far_owes ns ms)
    (o : OrderFits g.keys e.node f.node e.mark heard.level ms) (basic : f.mark ≡ Basic) (stays : f.out ≡ Some f.port → ⊥)
    (leads : InClass g.keys f.level f.node e.node → ⊥) where
  no_branch : f.mark ≡ Branch → ⊥
  no_branch b = plain_no_branch f.mark basic b

  no_sender : (m : ℕ) → HasAsked g.keys m e f → ⊥
  no_sender m (Waits l out) = stays out
  no_sender m (Has_begun l least lt b) = no_branch b

  pub only_names : calls_in ms ≡ []
  only_names = none_by g.keys e f
      (λ m c. no_sender m c.chosen.sender)
      (λ l name d. no_branch d.sender_mark)
      (λ k d.
      let up : IsWayUp g.keys f.level f.node f.key =
      subst (λ n. IsWayUp g.keys n f.node f.key) (sym d.sender_level)
      (subst (λ (k : Key). IsWayUp g.keys e.level f.node k) (sym s.wire.same) d.up) in
      no_branch (t.children.parent up).mark)
      (λ d. no_branch (s.children.parent d.up).far_mark)
      (calls_in ms) s.calls

  basic_yes : is_basic f.mark ≡ true
  basic_yes = ap is_basic basic

  -- f isn't called over the link
  not_called : ◌≡◌ {A = ℕ} (initiates_in (calls_in ns)) 1 → (Taken g.keys f.level f.key → ⊥) → ⊥
  not_called one untaken = go (calls_in ns) t.calls one
    where
      way : Taken g.keys f.level f.key ⊎ (f.out ≡ Some f.port) → ⊥
      way (inl taken) = untaken taken
      way (inr out) = stays out

      go : (q : List Message) → CallsFit g.keys f e q → ◌≡◌ {A = ℕ} (initiates_in q) 1 → ⊥
      go _ Nothing i = omega (arith, i)
      go _ (Chosen m c) i = omega (arith, i)
      go _ (Called l name d) i = way d.over
      go _ (Chosen_called m l name c d) i = way d.over
      go _ (Reported k d) i = omega (arith, i)
      go _ (Passed d) i = omega (arith, i)

  untaken : Taken g.keys f.level f.key → ⊥
  untaken taken = leads (over f.key taken t.wire.ends)

  pub tells_basic : IsOfLevel g.keys e.level e.node → e.mark ≡ Basic
  tells_basic of_level = basic_is e.mark (λ a. no_sender e.level (s.connects.asked a).sender) branch inside
    where
      branch : e.mark ≡ Branch → ⊥
      branch b = ⊎_elim above level (cases_lt f.level e.level)
        where
          taken : Taken g.keys e.level e.key
          taken = s.marks.branch b

          level : e.level ≤ f.level → ⊥
          level le =
              untaken (subst (λ (k : Key). Taken g.keys f.level k) (sym s.wire.same) (taken_still g.keys e.level f.level e.key le taken))

          above : f.level < e.level → ⊥
          above less = ⊎_elim
              (λ up. ⊎_elim (λ q. omega (arith, q, less)) (λ q. omega (arith, q, less)) (s.children.parent up).level)
              (λ up.
              let c = s.children.child up in
              let low = c.level in
              let one : suc f.level ≡ e.level = omega (arith, less, low) in
              not_called ((c.behind one).called b) untaken)
              (link_up g ok e f s.wire e.level taken of_level)

      inside : e.mark ≡ Inside → ⊥
      inside i = ⊎_elim
          (λ less. aside.apart heard.level less (o.inside i))
          (λ le.
          let same : heard.level ≡ f.level = omega (arith, le, all) in
          leads (joined_back (subst (λ n. InClass g.keys n e.node f.node) same (o.inside i))))
          (cases_lt heard.level (heard.level + length (names_in ms)))
        where
          aside : IsToldAside g.keys e f (heard.level + length (names_in ms))
          aside = s.names.all.aside (s.marks.inside i).1

          all : heard.level + length (names_in ms) ≡ f.level
          all = s.names.all.basic basic_yes
