-- A node enters the next level: each link but that to its parent, from both its ends.
use Rattle.std.proofs.Common.{◌≡◌, ◌≢◌, ◌⊎◌, ℕ, suc, ◌<◌, ◌≤◌, ◌==◌, ◌||◌, Bool, true, false, not, Option, Some, None, List, [], ◌∷◌, ◌++◌, inl, inr, refl, sym, ◌∙◌, ap, subst, cond, ⊎_elim, arith, append-nil, eqb-true, eq-eqb, ne_eqb}
use Rattle.std.proofs.lemmas.Bool.{cases_Bool, and_parts, and_from, both_ways}
use Rattle.ghs_graph.specs.declared.key.Key.{Key}
use Rattle.ghs_graph.specs.Graph.{Shape, IsGraph}
use Rattle.ghs_graph.specs.Links.{InTree, Same}
use Rattle.ghs_graph.proofs.lemmas.Joining.{joined_back}
use Rattle.ghs_node.specs.Words.{is_at, is_name}
use Rattle.boruvka_protocol.specs.Levels.{Taken, InClass, IsOfLevel}
use Rattle.boruvka_protocol.specs.Cores.{IsCore}
use Rattle.boruvka_protocol.proofs.lemmas.WaysOut.{still_in_class}
use Rattle.boruvka_protocol.proofs.lemmas.WaysUp.{core_at}
use Rattle.peer_network.specs.Network.{Network, network_of, port_at, At, InNetwork, far, far_port}
use Rattle.peer_network.proofs.lemmas.Wired.{IsWired}
use Rattle.peer_network.proofs.lemmas.Graphs.{graph_wired, port_ends}
use Rattle.peer_network.proofs.lemmas.Wires.{at_in}
use Rattle.peer_machine.specs.Net.{Net}
use Rattle.boruvka_node.specs.declared.change.Entry.{Entry}
use Rattle.boruvka_node.specs.declared.mark.Mark.{Mark}
use Rattle.boruvka_node.specs.declared.mark.Mark.TheVariants.{Basic, Asked, Branch, Inside}
use Rattle.boruvka_node.specs.declared.message.Message.{Message}
use Rattle.boruvka_node.specs.declared.message.Message.TheVariants.{Initiate, Name}
use Rattle.boruvka_node.specs.declared.message.Phase.TheVariants.{Rest}
use Rattle.boruvka_node.specs.declared.port_state.PortState.{PortState}
use Rattle.boruvka_node.specs.Words.{is_asked}
use Rattle.boruvka_node.specs.State.{State, degree, was_heard}
use Rattle.boruvka_node.specs.Entering.{joined_mark, entered, entered_port_as, told_from}
use Rattle.boruvka_protocol.proofs.invariant.Words.{IsLeast, IsWayUp}
use Rattle.boruvka_protocol.proofs.invariant.Sides.{AtPort, at_port, side_of, far_side_of, calls_in, passes_in}
use Rattle.boruvka_protocol.proofs.invariant.Connects.{HasChosen, HasAsked, Waits, Has_begun}
use Rattle.boruvka_protocol.proofs.invariant.TreeMessages as tree
use Rattle.boruvka_protocol.proofs.invariant.TreeMessages.{CallsFit}
use Rattle.boruvka_protocol.proofs.invariant.Children.{ChildFits}
use Rattle.boruvka_protocol.proofs.invariant.Token.{RootIsPast}
use Rattle.boruvka_protocol.proofs.invariant.Whole.{LinkFits}
use Rattle.boruvka_protocol.proofs.Unlike.{basic_is_branch, basic_is_asked, inside_is_branch, inside_is_asked}
use Rattle.boruvka_protocol.proofs.levels.UpOnce.{up_of_either, IsMet, own_choice}
use Rattle.boruvka_protocol.proofs.rows.Ports.{port_entered, told_by, told_on}
use Rattle.boruvka_protocol.proofs.rows.Sends.{sent_on}
use Rattle.boruvka_protocol.proofs.rows.Acts.{fits_like}
use Rattle.boruvka_protocol.proofs.rows.Leaving.{AreEnds, joined_ends, not_taken}
use Rattle.boruvka_protocol.proofs.rows.Hears.{name_tells}
use Rattle.boruvka_protocol.proofs.rows.Above.{AllTied, AreOfLevels, all_past}
use Rattle.boruvka_protocol.proofs.rows.EntersInside.{entered_as, inside_near, inside_away}
use Rattle.boruvka_protocol.proofs.rows.EntersBasic.{one_class, aside_now, basic_near, basic_away}
use Rattle.boruvka_protocol.proofs.rows.EntersDown.{EndFits, down_near, down_away}
use Rattle.boruvka_protocol.proofs.follows.Ways.{taken_still}

-- what a node does to enter the next level, of this name and with this parent
abbrev pub entry : State → Key → Option ℕ → Entry
entry n c up = record { level = suc n.head.level; name = c; parent = up; out = n.head.out }

-- a port that is joined to the tree, and one that isn't
pub joins : (e : Entry) (i : ℕ) (m : Mark) → (m ≡ Branch) ⊎ (m ≡ Asked) → joined_mark e i m ≡ Branch
joins e i m h = ⊎_elim
    (λ x. subst (λ y. joined_mark e i y ≡ Branch) (sym x) (branch (is_at e.out i)))
    (λ x. subst (λ y. joined_mark e i y ≡ Branch) (sym x) (asked (is_at e.out i)))
    h
  where
    branch : (b : Bool) → cond (b || false) Branch Branch ≡ Branch
    branch true = refl
    branch false = refl

    asked : (b : Bool) → cond (b || true) Branch Asked ≡ Branch
    asked true = refl
    asked false = refl

pub joins_not : (e : Entry) (i : ℕ) (m : Mark) → is_at e.out i ≡ false → is_asked m ≡ false → joined_mark e i m ≡ m
joins_not e i m a b =
    ap (λ (x : Bool). let y : Mark = cond (x || is_asked m) Branch m in y) a
    ∙ ap (λ (x : Bool). let y : Mark = cond x Branch m in y) b

module _ (gr : Shape) (ok : IsGraph gr) (w : Net State Message) (v : ℕ) (c : Key) (up : Option ℕ) (rest : (w.node v).head.phase ≡ Rest)
    (class : IsOfLevel gr.keys (suc (w.node v).head.level) v) (core : IsCore gr.keys (w.node v).head.level v c)
    (tied : AllTied gr w) (classes : AreOfLevels gr w) (past : RootIsPast gr.keys (network_of gr) w (w.node v).head.level v)
    (unpassed : (x p : ℕ) → At (network_of gr) x p → InClass gr.keys (w.node v).head.level v x → (w.node x).head.level ≡ (w.node v).head.level →
    ◌≡◌ {A = ℕ} (passes_in (calls_in (w.queue x p))) 0) where
  abbrev g : Network
  g = network_of gr

  wired : IsWired g
  wired = graph_wired gr ok

  abbrev l : ℕ
  l = (w.node v).head.level

  abbrev pub now : State
  now = entered (w.node v) (entry (w.node v) c up)

  -- Port i, which isn't the parent.
  module _ (i : ℕ) (at : At g v i) (port : i < degree (w.node v)) (no_parent : is_at up i ≡ false)
      (own : EndFits gr.keys g v i (at_port (w.node v) i) (at_port (w.node (far g v i)) (far_port g v i)) (w.queue v i))
      (full : (at_port (w.node v) i).port.mark ≢ Asked → LinkFits gr.keys g v i (at_port (w.node v) i)
      (at_port (w.node (far g v i)) (far_port g v i)) (w.queue v i) (w.queue (far g v i) (far_port g v i)))
      (away : LinkFits gr.keys g (far g v i) (far_port g v i) (at_port (w.node (far g v i)) (far_port g v i)) (at_port (w.node v) i)
      (w.queue (far g v i) (far_port g v i)) (w.queue v i))
      (out_asked : (w.node v).head.out ≡ Some i → (at_port (w.node v) i).port.mark ≡ Asked)
      (chose : IsLeast gr.keys (w.node v).head.level v (port_at g v i).key → (w.node v).head.out ≡ Some i)
      (not_up : IsWayUp gr.keys (suc (w.node v).head.level) v (port_at g v i).key → ⊥) where
    abbrev u : ℕ
    u = far g v i

    abbrev b : ℕ
    b = far_port g v i

    abbrev k : Key
    k = (port_at g v i).key

    abbrev n : AtPort
    n = at_port (w.node v) i

    abbrev m : AtPort
    m = at_port (w.node u) b

    abbrev q : List Message
    q = w.queue v i

    abbrev r : List Message
    r = w.queue u b

    abbrev e : Entry
    e = entry (w.node v) c up

    -- what the port becomes, and what waits at the far end then
    abbrev pub new : AtPort
    new = at_port now i

    abbrev pub sent : List Message
    sent = r ++ sent_on (told_from e 0 (w.node v).ports) i

    abbrev pub Ends : Type 0
    Ends = LinkFits gr.keys g v i new m q sent × LinkFits gr.keys g u b m new sent q

    ends : AreEnds v u k
    ends = port_ends gr ok v i at

    at_far : At g u b
    at_far = wired.there v i at

    far_net : InNetwork g u
    far_net = at_in at_far

    -- the port by its mark of now
    new_as : (x : Mark) → joined_mark e i n.port.mark ≡ x →
        new ≡ record { port = entered_port_as e i x n.port; head = now.head }
    new_as x j =
        ap (λ (y : PortState). let z : AtPort = record { port = y; head = now.head } in z) (port_entered (w.node v) e i port)
        ∙ ap (λ (y : Mark). let z : AtPort = record { port = entered_port_as e i y n.port; head = now.head } in z) j

    sent_as : (x : Mark) → joined_mark e i n.port.mark ≡ x → sent ≡ r ++ told_by e x false
    sent_as x j = ap (λ (y : List Message). r ++ y)
        (told_on (w.node v) e i port ∙ ap (λ y. told_by e y (is_at up i)) j ∙ ap (λ y. told_by e x y) no_parent)

    -- The link is the far end's way up, and the far end is at rest a level below.

    is_up : Taken gr.keys (suc l) k → IsWayUp gr.keys (suc l) u k
    is_up t = ⊎_elim (λ x. absurd (not_up x)) (λ x. x) (up_of_either gr ok (suc l) v u k class ends t)

    meets : IsLeast gr.keys l v k → IsLeast gr.keys l u k × (v < u)
    meets least = ⊎_elim (λ x. absurd (not_up x)) (λ (x : IsMet gr.keys l v u k). (x.far, x.less)) (own_choice gr ok l v u k class ends least)

    -- an end that isn't above, of a link of the class
    not_above : Taken gr.keys l k → l < m.head.level → ⊥
    not_above t lt = ⊎_elim as_parent as_child
        (up_of_either gr ok m.head.level u v k (classes u far_net (omega (arith, lt))) (⊎_elim (λ x. inr (x.1, x.0)) (λ x. inl (x.1, x.0)) ends)
        (taken_still gr.keys l m.head.level k (omega (arith, lt)) t))
      where
        at_key : (x : ℕ) → IsWayUp gr.keys m.head.level x k → IsWayUp gr.keys m.head.level x (port_at g u b).key
        at_key x a = subst (λ (y : Key). IsWayUp gr.keys m.head.level x y) (sym (wired.same_key v i at)) a

        as_parent : IsWayUp gr.keys m.head.level u k → ⊥
        as_parent a = ⊎_elim (λ x. omega (arith, x, lt)) (λ x. omega (arith, x, lt)) (away.children.parent (at_key u a)).level

        as_child : IsWayUp gr.keys m.head.level v k → ⊥
        as_child a = not_up (subst (λ x. IsWayUp gr.keys x v k) above a)
          where
            child : ChildFits gr.keys (side_of g u b m) (far_side_of g u b n) (calls_in r) (calls_in q)
            child = away.children.child (subst (λ x. IsWayUp gr.keys m.head.level x (port_at g u b).key) (sym (wired.back v i at)) (at_key v a))

            above : m.head.level ≡ suc l
            above = let le = child.level in omega (arith, le, lt)

    abbrev Waiting : Type 0
    Waiting = (m.head.level ≡ l) × (m.head.phase ≡ Rest) × Taken gr.keys (suc l) k

    waiting : (n.port.mark ≡ Branch) ⊎ (n.port.mark ≡ Asked) → Waiting
    waiting = ⊎_elim branch (λ x. asked (own.asked x))
      where
        branch : n.port.mark ≡ Branch → Waiting
        branch x = ⊎_elim (λ lt. absurd (not_above t lt)) (λ y. (y.0, y.1, inl t))
            (all_past gr w ok tied classes l v u past (joined_ends v u k ends t))
          where
            t : Taken gr.keys l k
            t = own.marks.branch x

        asked : HasChosen gr.keys l (side_of g v i n) (far_side_of g v i m) → Waiting
        asked x = go x.sender
          where
            go : HasAsked gr.keys l (side_of g v i n) (far_side_of g v i m) → Waiting
            go (Waits lv out) = (lv, ⊎_elim (λ lt. absurd (omega (arith, lt, lv))) (λ y. y.1) x.past, inr (u, x.least))
            go (Has_begun lv least less mark) = absurd (let other = (meets least).1 in omega (arith, other, less))

    no_pass_here : ◌≡◌ {A = ℕ} (passes_in (calls_in q)) 0
    no_pass_here = unpassed v i at Same refl

    joined_ends_fit : (n.port.mark ≡ Branch) ⊎ (n.port.mark ≡ Asked) → (◌≡◌ {A = ℕ} (passes_in (calls_in r)) 0) → Ends
    joined_ends_fit mark none = (
      fits_like g wired gr.keys (sym new_is) refl refl (sym sent_is)
          (down_near gr.keys g v i c up n m q r own away (wired.back v i at) (wired.back_port v i at) (wired.same_key v i at) rest mark s.0 s.1
          core_there (is_up s.2) not_up meets no_pass_here none),
      fits_like g wired gr.keys refl (sym new_is) (sym sent_is) refl
          (down_away gr.keys g v i c up n m q r own away (wired.back v i at) (wired.back_port v i at) (wired.same_key v i at) rest mark s.0 s.1
          core_there (is_up s.2) not_up meets no_pass_here none),
    )
      where
        s : Waiting
        s = waiting mark

        core_there : IsCore gr.keys l u c
        core_there = core_at gr.keys l v u c (joined_ends v u k ends s.2) core

        new_is : new ≡ entered_as n Branch true c up
        new_is = new_as Branch (joins e i n.port.mark mark)
            ∙ ap (λ (y : Bool). let z : AtPort = entered_as n Branch (not y) c up in z) no_parent

        sent_is : sent ≡ r ++ Initiate (suc l) c ∷ []
        sent_is = sent_as Branch (joins e i n.port.mark mark)

    no_pass : (x : List Message) → CallsFit gr.keys (side_of g u b m) (far_side_of g u b n) x →
        (Taken gr.keys m.head.level (port_at g u b).key → ⊥) → ◌≡◌ {A = ℕ} (passes_in x) 0
    no_pass _ tree.Nothing none = refl
    no_pass _ (tree.Chosen y z) none = refl
    no_pass _ (tree.Called y name z) none = refl
    no_pass _ (tree.Chosen_called y j name z a) none = refl
    no_pass _ (tree.Reported y z) none = refl
    no_pass _ (tree.Passed z) none = absurd (none z.up.up.link)

    -- a ChangeRoot doesn't wait at the far end, over a link of the class or one that was asked over
    far_unpassed : (n.port.mark ≡ Branch) ⊎ (n.port.mark ≡ Asked) → (◌≡◌ {A = ℕ} (passes_in (calls_in r)) 0)
    far_unpassed = ⊎_elim branch asked
      where
        branch : n.port.mark ≡ Branch → ◌≡◌ {A = ℕ} (passes_in (calls_in r)) 0
        branch x = unpassed u b at_far (joined_ends v u k ends (own.marks.branch x)) (waiting (inl x)).0

        asked : n.port.mark ≡ Asked → ◌≡◌ {A = ℕ} (passes_in (calls_in r)) 0
        asked x = no_pass (calls_in r) away.calls (λ t. not_taken u k (own.asked x).least.leaves
            (subst (λ y. Taken gr.keys y k) (waiting (inr x)).0 (subst (λ (y : Key). Taken gr.keys m.head.level y) (wired.same_key v i at) t)))

    not_out : n.port.mark ≢ Asked → is_at (w.node v).head.out i ≡ false
    not_out ne = go (w.node v).head.out refl
      where
        go : (x : Option ℕ) → (w.node v).head.out ≡ x → is_at x i ≡ false
        go None o = refl
        go (Some p) o = ne_eqb p i (λ z. ne (out_asked (o ∙ ap (λ y. Some y) z)))

    inside_fit : n.port.mark ≡ Inside → Ends
    inside_fit x = (
      fits_like g wired gr.keys (sym new_is) refl refl (sym sent_is)
          (inside_near gr.keys g v i c up n m q r h aside r (still_in_class gr.keys l within)),
      fits_like g wired gr.keys refl (sym new_is) (sym sent_is) refl
          (inside_away gr.keys g u b c up m n r q away (λ t. aside (subst (λ (y : Key). InTree gr.keys y) (wired.same_key v i at) t))
          (subst (λ y. InClass gr.keys l u y) (sym (wired.back v i at)) (joined_back within)) low),
    )
      where
        plain : n.port.mark ≢ Asked
        plain y = inside_is_asked (sym x ∙ y)

        h : LinkFits gr.keys g v i n m q r
        h = full plain

        within : InClass gr.keys l v u
        within = (h.marks.inside x).0

        aside : InTree gr.keys k → ⊥
        aside = (h.marks.inside x).1

        low : l ≤ m.head.level
        low = ⊎_elim (λ lt. omega (arith, lt)) (λ y. let same = y.0 in omega (arith, same)) (all_past gr w ok tied classes l v u past within)

        joined : joined_mark e i n.port.mark ≡ Inside
        joined = joins_not e i n.port.mark (not_out plain) (ap is_asked x) ∙ x

        new_is : new ≡ entered_as n Inside false c up
        new_is = new_as Inside joined

        sent_is : sent ≡ r
        sent_is = sent_as Inside joined ∙ append-nil r

    basic_fit : n.port.mark ≡ Basic → Ends
    basic_fit x = ⊎_elim heard unheard (cases_Bool (was_heard (suc l) c n.port))
      where
        plain : n.port.mark ≢ Asked
        plain y = basic_is_asked (sym x ∙ y)

        h : LinkFits gr.keys g v i n m q r
        h = full plain

        stays : n.head.out ≡ Some i → ⊥
        stays o = plain (out_asked o)

        not_least : IsLeast gr.keys l v k → ⊥
        not_least least = stays (chose least)

        joined : joined_mark e i n.port.mark ≡ Basic
        joined = joins_not e i n.port.mark (not_out plain) (ap is_asked x) ∙ x

        sent_is : sent ≡ r ++ Name (suc l) c ∷ []
        sent_is = sent_as Basic joined

        new_is : (y : Bool) → was_heard (suc l) c n.port ≡ y → new ≡ entered_as n (cond y Inside Basic) false c up
        new_is y e' = new_as Basic joined ∙ ap (λ (y : Bool). let z : AtPort = entered_as n (cond y Inside Basic) false c up in z) e'

        there : LinkFits gr.keys g u b m n r q
        there = away

        away_now : (mark : Mark) → mark ≢ Branch → mark ≢ Asked → LinkFits gr.keys g u b m (entered_as n mark false c up) (r ++ Name (suc l) c ∷ []) q
        away_now mark no_call not_asked =
            basic_away gr ok v i c up n m q r h there (wired.back v i at) (wired.back_port v i at) (wired.same_key v i at)
            ends (wired.apart v i at) rest x stays class core is_up not_up not_least mark no_call not_asked

        heard : was_heard (suc l) c n.port ≡ true → Ends
        heard t = (
          fits_like g wired gr.keys (sym (new_is true t)) refl refl (sym sent_is)
              (inside_near gr.keys g v i c up n m q r h
              (aside_now gr ok v i c up n m q r h there (wired.back v i at) (wired.back_port v i at) (wired.same_key v i at)
              ends (wired.apart v i at) rest x stays class core is_up not_up not_least lv nm)
              (r ++ Name (suc l) c ∷ [])
              (one_class gr ok v i c up n m q r h there (wired.back v i at) (wired.back_port v i at) (wired.same_key v i at)
              ends (wired.apart v i at) rest x stays class core is_up not_up not_least lv nm)),
          fits_like g wired gr.keys refl (sym (new_is true t)) (sym sent_is) refl
              (away_now Inside (λ z. inside_is_branch z) (λ z. inside_is_asked z)),
        )
          where
            parts : ((n.port.level == suc l) ≡ true) × (is_name n.port.name c ≡ true)
            parts = and_parts _ _ t

            lv : n.port.level ≡ suc l
            lv = eqb-true _ _ parts.0

            nm : n.port.name ≡ Some c
            nm = (name_tells n.port.name c).0 parts.1

        unheard : was_heard (suc l) c n.port ≡ false → Ends
        unheard t = (
          fits_like g wired gr.keys (sym (new_is false t)) refl refl (sym sent_is)
              (basic_near gr ok v i c up n m q r h there (wired.back v i at) (wired.back_port v i at) (wired.same_key v i at)
              ends (wired.apart v i at) rest x stays class core is_up not_up not_least
              (λ lv nm. both_ways _ t (and_from _ _ (eq-eqb _ _ lv) ((name_tells n.port.name c).1 nm)))
              (r ++ Name (suc l) c ∷ [])),
          fits_like g wired gr.keys refl (sym (new_is false t)) (sym sent_is) refl (away_now Basic (λ z. basic_is_branch z) (λ z. basic_is_asked z)),
        )

    -- the link, from both its ends
    pub port_fits : Ends
    port_fits = go n.port.mark refl
      where
        go : (x : Mark) → n.port.mark ≡ x → Ends
        go Basic x = basic_fit x
        go Asked x = joined_ends_fit (inr x) (far_unpassed (inr x))
        go Branch x = joined_ends_fit (inl x) (far_unpassed (inl x))
        go Inside x = inside_fit x
