-- A node enters the next level: all clauses hold behind it, but that it may wait for nothing.
use Rattle.std.proofs.Common.{◌≡◌, ◌≢◌, ℕ, zero, suc, ◌&&◌, Bool, true, false, not, Option, Some, List, ◌++◌, inl, inr, refl, sym, ◌∙◌, ap, subst, cond, ⊎_elim, arith, append-nil}
use Rattle.std.proofs.lemmas.Bool.{cases_eq, cases_Bool, false_from_ne_true}
use Rattle.ghs_graph.specs.declared.key.Key.{Key}
use Rattle.ghs_graph.specs.Key.{ends_at}
use Rattle.ghs_graph.specs.Graph.{Shape, IsGraph}
use Rattle.ghs_graph.specs.Links.{Same}
use Rattle.ghs_node.specs.Words.{is_at}
use Rattle.boruvka_protocol.specs.Levels.{Taken, InClass, HasWayOut, IsOfLevel}
use Rattle.boruvka_protocol.specs.Cores.{IsCore}
use Rattle.peer_network.specs.Network.{Network, network_of, port_at, At, InNetwork, far, far_port}
use Rattle.peer_network.proofs.lemmas.Wired.{IsWired}
use Rattle.peer_network.proofs.lemmas.Wires.{at_in, neighbour}
use Rattle.peer_network.proofs.lemmas.Graphs.{graph_wired, port_ends}
use Rattle.peer_machine.specs.Net.{Net}
use Rattle.boruvka_node.specs.declared.change.Entry.{Entry}
use Rattle.boruvka_node.specs.declared.mark.Mark.{Mark}
use Rattle.boruvka_node.specs.declared.mark.Mark.TheVariants.{Basic, Asked, Branch, Inside}
use Rattle.boruvka_node.specs.declared.message.Message.{Message}
use Rattle.boruvka_node.specs.declared.message.Phase.TheVariants.{Search, Rest}
use Rattle.boruvka_node.specs.declared.port_state.PortState.{PortState}
use Rattle.boruvka_node.specs.State as state
use Rattle.boruvka_node.specs.State.{State, mark_at, was_heard}
use Rattle.boruvka_node.proofs.lemmas.Entered.{length_entered}
use Rattle.boruvka_node.specs.Entering.{joined_mark, entered, entered_port_as, told_from}
use Rattle.boruvka_protocol.specs.Laws.{IsNodeOf}
use Rattle.boruvka_protocol.proofs.invariant.Words.{IsLeast, IsWayUp}
use Rattle.boruvka_protocol.proofs.invariant.Sides.{AtPort, at_port, side_of, far_side_of, calls_in, reports_in, passes_in}
use Rattle.boruvka_protocol.proofs.invariant.Nodes.{ParentIs, AwakeFits}
use Rattle.boruvka_protocol.proofs.invariant.TreeMessages as tree
use Rattle.boruvka_protocol.proofs.invariant.TreeMessages.{CallsFit}
use Rattle.boruvka_protocol.proofs.invariant.Children.{HasReported}
use Rattle.boruvka_protocol.proofs.invariant.Search.{LacksSome, HasChild, SearchFits}
use Rattle.boruvka_protocol.proofs.invariant.Token.{Waits, In_message, Token, RootIsPast, TokensFit}
use Rattle.boruvka_protocol.proofs.invariant.Whole.{Ground, LinkFits, LinkIn, LinksFit, SearchesFit, AllButLinks, NearlyFits}
use Rattle.boruvka_protocol.proofs.Unlike.{none_is_some}
use Rattle.boruvka_protocol.proofs.rows.Ports.{port_entered, told_by, told_on}
use Rattle.boruvka_protocol.proofs.rows.Sends.{sent_on}
use Rattle.boruvka_protocol.proofs.rows.Acts.{Acts, fits_like, links_around}
use Rattle.boruvka_protocol.proofs.rows.Others.{nodes_act, waits_like, parent_like}
use Rattle.boruvka_protocol.proofs.rows.Alike.{AsManyPasses}
use Rattle.boruvka_protocol.proofs.rows.OwnPorts.{port_below}
use Rattle.boruvka_protocol.proofs.rows.Searches.{search_by}
use Rattle.boruvka_protocol.proofs.rows.Leaving.{joined_ends}
use Rattle.boruvka_protocol.proofs.rows.Late.{search_rest}
use Rattle.boruvka_protocol.proofs.rows.Above.{AllTied, AreOfLevels, are_of_levels, all_past}
use Rattle.boruvka_protocol.proofs.rows.EntersInside.{entered_as}
use Rattle.boruvka_protocol.proofs.rows.EntersDown.{EndFits}
use Rattle.boruvka_protocol.proofs.rows.EntersToken.{tokens_enter}
use Rattle.boruvka_protocol.proofs.rows.Enters.{entry, port_fits}
use Rattle.boruvka_protocol.proofs.rows.Queues.{passes_called, passes_before}

-- Port i of the node v, which enters; it isn't the parent's. own is what is left at v's ports.
pub record IsOpen (gr : Shape) (w : Net State Message) (v : ℕ) (own : ℕ → List Message) (i : ℕ) : Type 0 where
  pub kept : w.queue v i ≡ own i
  pub end : EndFits gr.keys (network_of gr) v i (at_port (w.node v) i)
      (at_port (w.node (far (network_of gr) v i)) (far_port (network_of gr) v i)) (w.queue v i)
  pub full : mark_at (w.node v) i ≢ Asked → LinkIn gr.keys (network_of gr) w v i
  pub out_asked : (w.node v).head.out ≡ Some i → mark_at (w.node v) i ≡ Asked
  pub chose : IsLeast gr.keys (w.node v).head.level v (port_at (network_of gr) v i).key → (w.node v).head.out ≡ Some i
  pub not_up : IsWayUp gr.keys (suc (w.node v).head.level) v (port_at (network_of gr) v i).key → ⊥

-- Port i is the parent's: what holds of the link behind the entry.
pub record IsParent (gr : Shape) (w : Net State Message) (v : ℕ) (c : Key) (up : Option ℕ) (own : ℕ → List Message) (i : ℕ) : Type 0 where
  pub joined : joined_mark (entry (w.node v) c up) i (mark_at (w.node v) i) ≡ Branch
  pub near : LinkFits gr.keys (network_of gr) v i (entered_as (at_port (w.node v) i) Branch false c up)
      (at_port (w.node (far (network_of gr) v i)) (far_port (network_of gr) v i)) (own i)
      (w.queue (far (network_of gr) v i) (far_port (network_of gr) v i))
  pub away : LinkFits gr.keys (network_of gr) (far (network_of gr) v i) (far_port (network_of gr) v i)
      (at_port (w.node (far (network_of gr) v i)) (far_port (network_of gr) v i)) (entered_as (at_port (w.node v) i) Branch false c up)
      (w.queue (far (network_of gr) v i) (far_port (network_of gr) v i)) (own i)
  pub one_way : IsWayUp gr.keys (suc (w.node v).head.level) (far (network_of gr) v i) (port_at (network_of gr) v i).key → ⊥

-- The node v is about to enter the next level, of the name c, with this parent: what both ways in give.
pub record Entrance (gr : Shape) (w : Net State Message) (v : ℕ) (c : Key) (up : Option ℕ) (own : ℕ → List Message) : Type 0 where
  pub here : InNetwork (network_of gr) v
  pub rest : (w.node v).head.phase ≡ Rest
  pub class : IsOfLevel gr.keys (suc (w.node v).head.level) v
  pub core : IsCore gr.keys (w.node v).head.level v c
  pub parent : ParentIs gr.keys (suc (w.node v).head.level) v (w.node v) up
  pub all : AllButLinks gr w
  pub tied : AllTied gr w
  pub links : (u i : ℕ) → At (network_of gr) u i → u ≢ v → LinkIn gr.keys (network_of gr) w u i
  pub ports : (i : ℕ) → At (network_of gr) v i → is_at up i ≡ false → IsOpen gr w v own i
  pub called : (i : ℕ) → At (network_of gr) v i → is_at up i ≡ true → IsParent gr w v c up own i
  -- the token of its class has gone out, or on, and is in no message
  pub token : Token gr.keys (network_of gr) w (w.node v).head.level v
  pub held : token.place ≢ Waits
  pub out_end : (p : ℕ) → At (network_of gr) v p → (w.node v).head.out ≡ Some p →
      IsLeast gr.keys (w.node v).head.level v (port_at (network_of gr) v p).key × (ends_at v (port_at (network_of gr) v p).key ≡ true)
  pub end_out : (k : Key) → IsLeast gr.keys (w.node v).head.level v k → ends_at v k ≡ true →
      (p : ℕ) × At (network_of gr) v p × ((w.node v).head.out ≡ Some p)
  pub passes : (i : ℕ) → At (network_of gr) v i → passes_in (w.queue v i) ≡ passes_in (own i)

-- what it tells at a port has no ChangeRoot
told_passes : (e : Entry) (m : Mark) (up : Bool) → ◌≡◌ {A = ℕ} (passes_in (told_by e m up)) 0
told_passes e Basic up = refl
told_passes e Asked up = refl
told_passes e Branch true = refl
told_passes e Branch false = refl
told_passes e Inside up = refl

-- where a port is Branch now, and isn't the parent's, a Report is owed
owes_branch : (e : Entry) (i : ℕ) (m : Mark) (x : PortState) → (entered_port_as e i m x).mark ≡ Branch → is_at e.parent i ≡ false →
    (entered_port_as e i m x).owes ≡ true
owes_branch e i Basic x b p = basic (was_heard e.level e.name x) b
  where
    basic : {P : Type 0} (h : Bool) → cond (true && h) Inside Basic ≡ Branch → P
    basic true y = cc
    basic false y = cc
owes_branch e i Asked x b p = asked (was_heard e.level e.name x) b
  where
    asked : {P : Type 0} (h : Bool) → cond (true && h) Inside Asked ≡ Branch → P
    asked true y = cc
    asked false y = cc
owes_branch e i Branch x b p = ap not p
owes_branch e i Inside x b p = inside b
  where
    inside : {P : Type 0} → Inside ≡ Branch → P
    inside y = cc

module _ (gr : Shape) (ok : IsGraph gr) (w w' : Net State Message) (v : ℕ) (c : Key) (up : Option ℕ) (own : ℕ → List Message)
    (h : Entrance gr w v c up own)
    (a : Acts (network_of gr) w w' v (entered (w.node v) (entry (w.node v) c up)) own (told_from (entry (w.node v) c up) 0 (w.node v).ports)) where
  abbrev g : Network
  g = network_of gr

  wired : IsWired g
  wired = graph_wired gr ok

  abbrev l : ℕ
  l = (w.node v).head.level

  abbrev e : Entry
  e = entry (w.node v) c up

  abbrev now : State
  now = entered (w.node v) e

  abbrev across : ℕ → AtPort
  across i = at_port (w.node (far g v i)) (far_port g v i)

  abbrev back : ℕ → List Message
  back i = w.queue (far g v i) (far_port g v i)

  abbrev sent : ℕ → List Message
  sent i = back i ++ sent_on (told_from e 0 (w.node v).ports) i

  node_is : IsNodeOf g v (w.node v)
  node_is = h.all.ground.nodes v

  classes : AreOfLevels gr w
  classes = are_of_levels gr w h.all.ground h.all.nodes

  of_level : IsOfLevel gr.keys l v
  of_level = (h.class v Same).0

  way_out : HasWayOut gr.keys l v
  way_out = (h.class v Same).1

  past : RootIsPast gr.keys g w l v
  past = (h.all.tokens.one l v h.here of_level).none h.token

  unpassed : (x p : ℕ) → At g x p → InClass gr.keys l v x → (w.node x).head.level ≡ l → ◌≡◌ {A = ℕ} (passes_in (calls_in (w.queue x p))) 0
  unpassed x p at inside lv = passes_called (w.queue x p) ∙ go (passes_in (w.queue x p)) refl
    where
      go : (y : ℕ) → passes_in (w.queue x p) ≡ y → y ≡ 0
      go zero z = refl
      go (suc y) z = absurd (h.held ((h.all.tokens.one l v h.here of_level).one h.token other).1)
        where
          other : Token gr.keys g w l v
          other = record {
            node = x;
            place = Waits;
            inside = inside;
            in_network = at_in at;
            at = In_message p at lv (omega (arith, z));
          }

  -- a link of v from its far end, before
  far_before : (i : ℕ) → At g v i → LinkFits gr.keys g (far g v i) (far_port g v i) (across i) (at_port (w.node v) i) (back i) (w.queue v i)
  far_before i at =
      let u = far g v i in
      let b = far_port g v i in
      fits_like g wired gr.keys refl
      (ap (λ y. at_port (w.node y) (far_port g u b)) (wired.back v i at) ∙ ap (λ y. at_port (w.node v) y) (wired.back_port v i at))
      refl
      (ap (λ y. w.queue y (far_port g u b)) (wired.back v i at) ∙ ap (λ y. w.queue v y) (wired.back_port v i at))
      (h.links u b (wired.there v i at) (wired.apart v i at))

  -- The links.

  abbrev Ends : ℕ → Type 0
  Ends i = LinkFits gr.keys g v i (at_port now i) (across i) (own i) (sent i) ×
      LinkFits gr.keys g (far g v i) (far_port g v i) (across i) (at_port now i) (sent i) (own i)

  open_ends : (i : ℕ) → At g v i → is_at up i ≡ false → Ends i
  open_ends i at plain = let o = h.ports i at plain in
      let both = port_fits gr ok w v c up h.rest h.class h.core h.tied classes past unpassed i at (port_below node_is i at) plain o.end o.full
      (far_before i at) o.out_asked o.chose o.not_up in (
        fits_like g wired gr.keys refl refl o.kept refl both.0,
        fits_like g wired gr.keys refl refl refl o.kept both.1,
      )

  parent_ends : (i : ℕ) → At g v i → is_at up i ≡ true → Ends i
  parent_ends i at led = let o = h.called i at led in (
    fits_like g wired gr.keys (sym new_is) refl refl (sym sent_is) o.near,
    fits_like g wired gr.keys refl (sym new_is) (sym sent_is) refl o.away,
  )
    where
      joined : joined_mark e i (mark_at (w.node v) i) ≡ Branch
      joined = (h.called i at led).joined

      new_is : at_port now i ≡ entered_as (at_port (w.node v) i) Branch false c up
      new_is =
          ap (λ (y : PortState). let z : AtPort = record { port = y; head = now.head } in z) (port_entered (w.node v) e i (port_below node_is i at))
          ∙ ap (λ (y : Mark). let z : AtPort = record { port = entered_port_as e i y (state.port_at (w.node v) i); head = now.head } in z) joined
          ∙ ap (λ (y : Bool). let z : AtPort = entered_as (at_port (w.node v) i) Branch (not y) c up in z) led

      sent_is : sent i ≡ back i
      sent_is = ap (λ (y : List Message). back i ++ y)
          (told_on (w.node v) e i (port_below node_is i at) ∙ ap (λ y. told_by e y (is_at up i)) joined ∙ ap (λ y. told_by e Branch y) led)
          ∙ append-nil (back i)

  ends : (i : ℕ) → At g v i → Ends i
  ends i at = ⊎_elim (λ led. parent_ends i at led) (λ plain. open_ends i at plain) (cases_Bool (is_at up i))

  links_now : LinksFit gr.keys g w'
  links_now = links_around g wired gr.keys w w' v now own (told_from e 0 (w.node v).ports) a h.here
      (λ u q at ne fne. h.links u q at ne) (λ i at. (ends i at).1) (λ i at. (ends i at).0)

  -- The node.

  node_now : AwakeFits gr.keys v now
  node_now awake = record {
    class = h.class;
    name = (c, refl, h.core);
    parent = parent_like gr.keys (suc l) v (w.node v) now (sym (length_entered e 0 (w.node v).ports)) refl up h.parent;
    ground = λ z. absurd (omega (arith, z));
    out_port = λ p x. none_is_some p x;
  }

  -- The searches.

  not_halted : (w.node v).head.halted ≡ false
  not_halted = false_from_ne_true (w.node v).head.halted (λ x. (h.all.tokens.halted v h.here x).whole way_out)

  -- no child has reported at the new level
  none_reported : (i : ℕ) → HasChild gr.keys g v now (λ p. (w'.node (far g v p)).head) (λ p. w'.queue v p) i →
      HasReported (suc l) (w'.node (far g v i)).head.level (w'.node (far g v i)).head.phase (calls_in (w'.queue v i)) → ⊥
  none_reported i x rep = ⊎_elim parent other (cases_Bool (is_at up i))
    where
      at : At g v i
      at = x.at

      parent : is_at up i ≡ true → ⊥
      parent led = (h.called i at led).one_way x.child

      -- the same before the far end's queue and state are looked up
      rep_before : HasReported (suc l) (across i).head.level (across i).head.phase (calls_in (own i))
      rep_before = subst (λ (y : List Message). HasReported (suc l) (across i).head.level (across i).head.phase (calls_in y)) (a.queue i at)
          (subst (λ (y : State). HasReported (suc l) y.head.level y.head.phase (calls_in (w'.queue v i)))
          (sym (a.others (far g v i) (wired.apart v i at))) rep)

      other : is_at up i ≡ false → ⊥
      other plain = (ends i at).0.owes.open_yet owed rep_before
        where
          same : state.port_at now i ≡ entered_port_as e i (joined_mark e i (mark_at (w.node v) i)) (state.port_at (w.node v) i)
          same = port_entered (w.node v) e i (port_below node_is i at)

          owed : (state.port_at now i).owes ≡ true
          owed = ap (λ (y : PortState). y.owes) same
              ∙ owes_branch e i (joined_mark e i (mark_at (w.node v) i)) (state.port_at (w.node v) i)
              (sym (ap (λ (y : PortState). y.mark) same) ∙ x.mark) plain

  search_here : SearchFits gr.keys g v now (λ p. (w'.node (far g v p)).head) (λ p. w'.queue v p)
  search_here = record {
    search = λ s. record { best = λ p k x. none_reported p x.child x.reported; stays = refl; goes_on = not_halted };
    rest = λ x. search_rest Search refl x;
  }

  -- no Report of v waits
  no_report : (i : ℕ) → At g v i → (w.node (far g v i)).head.level ≡ l → ◌≡◌ {A = ℕ} (reports_in (calls_in (back i))) 0
  no_report i at lv = go (calls_in (back i)) (far_before i at).calls
    where
      go : (x : List Message) → CallsFit gr.keys (side_of g (far g v i) (far_port g v i) (across i))
          (far_side_of g (far g v i) (far_port g v i) (at_port (w.node v) i)) x → ◌≡◌ {A = ℕ} (reports_in x) 0
      go _ tree.Nothing = refl
      go _ (tree.Chosen y z) = refl
      go _ (tree.Called y name z) = refl
      go _ (tree.Chosen_called y j name z b) = refl
      go _ (tree.Reported y z) = absurd (⊎_elim (λ lt. omega (arith, lt, lv)) (λ b. search_rest (w.node (far g v i)).head.phase z.search b.1)
          (all_past gr w ok h.tied classes l v (far g v i) past
          (joined_ends v (far g v i) (port_at g v i).key (port_ends gr ok v i at)
          (subst (λ y. Taken gr.keys y (port_at g v i).key) lv
          (subst (λ (y : Key). Taken gr.keys (w.node (far g v i)).head.level y) (wired.same_key v i at) z.up.up.link)))))
      go _ (tree.Passed z) = refl

  level_now : (w'.node v).head.level ≡ suc l
  level_now = ap (λ (x : State). x.head.level) a.node

  phase_now : (w'.node v).head.phase ≡ Search
  phase_now = ap (λ (x : State). x.head.phase) a.node

  -- Another node, of level m, hears of v as before.
  module _ (m : ℕ) (q q' : List Message) (none : m ≡ l → ◌≡◌ {A = ℕ} (reports_in (calls_in q)) 0) where
    reported_to : HasReported m (w.node v).head.level (w.node v).head.phase (calls_in q) →
        HasReported m (w'.node v).head.level (w'.node v).head.phase (calls_in q')
    reported_to r = record {
      past = inl (⊎_elim (λ lt. omega (arith, lt, level_now)) (λ x. let same = x.0 in omega (arith, same, level_now)) r.past);
      heard = λ x. absurd (⊎_elim (λ lt. omega (arith, lt, x, level_now)) (λ y. let same = y.0 in omega (arith, same, x, level_now)) r.past);
    }

    reported_from : HasReported m (w'.node v).head.level (w'.node v).head.phase (calls_in q') →
        HasReported m (w.node v).head.level (w.node v).head.phase (calls_in q)
    reported_from r = record {
      past = ⊎_elim
          (λ lt. ⊎_elim (λ (x : l ≡ m). inr (x, h.rest)) (λ ne. inl (omega (arith, lt, ne, level_now))) (cases_eq l m))
          (λ x. search_rest (w'.node v).head.phase phase_now x.1)
          r.past;
      heard = λ x. none (sym x);
    }

  -- what the node u hears of over its port p is as before
  abbrev Alike : ℕ → ℕ → Type 0
  Alike u p =
      (HasReported (w.node u).head.level (w.node (far g u p)).head.level (w.node (far g u p)).head.phase (calls_in (w.queue u p)) →
      HasReported (w.node u).head.level (w'.node (far g u p)).head.level (w'.node (far g u p)).head.phase (calls_in (w'.queue u p))) ×
      (HasReported (w.node u).head.level (w'.node (far g u p)).head.level (w'.node (far g u p)).head.phase (calls_in (w'.queue u p)) →
      HasReported (w.node u).head.level (w.node (far g u p)).head.level (w.node (far g u p)).head.phase (calls_in (w.queue u p)))

  search_there : (u : ℕ) → InNetwork g u → u ≢ v → SearchFits gr.keys g u (w.node u) (λ p. (w'.node (far g u p)).head) (λ p. w'.queue u p)
  search_there u net ne = search_by gr.keys g u (w.node u) (λ p. (w.node (far g u p)).head) (λ p. (w'.node (far g u p)).head)
      (λ p. w.queue u p) (λ p. w'.queue u p) (λ p x. (both p x.at).0) (λ p x. (both p x.at).1) (h.all.search u net)
    where
      both : (p : ℕ) → At g u p → Alike u p
      both p at = ⊎_elim to_v other (cases_eq (far g u p) v)
        where
          other : far g u p ≢ v → Alike u p
          other fne = (
            λ r. subst (λ (y : List Message). HasReported (w.node u).head.level (w'.node (far g u p)).head.level
                (w'.node (far g u p)).head.phase (calls_in y)) (sym queue_same)
                (subst (λ (y : State). HasReported (w.node u).head.level y.head.level y.head.phase (calls_in (w.queue u p)))
                (a.others (far g u p) fne) r),
            λ r. subst (λ (y : List Message). HasReported (w.node u).head.level (w.node (far g u p)).head.level
                (w.node (far g u p)).head.phase (calls_in y)) queue_same
                (subst (λ (y : State). HasReported (w.node u).head.level y.head.level y.head.phase (calls_in (w'.queue u p)))
                (sym (a.others (far g u p) fne)) r),
          )
            where
              queue_same : w'.queue u p ≡ w.queue u p
              queue_same = a.queues u p ne (λ j y z. fne (neighbour g wired v j u p h.here.some h.here.node at y z))

          to_v : far g u p ≡ v → Alike u p
          to_v y = subst (λ z.
              (HasReported (w.node u).head.level (w.node z).head.level (w.node z).head.phase (calls_in (w.queue u p)) →
              HasReported (w.node u).head.level (w'.node z).head.level (w'.node z).head.phase (calls_in (w'.queue u p))) ×
              (HasReported (w.node u).head.level (w'.node z).head.level (w'.node z).head.phase (calls_in (w'.queue u p)) →
              HasReported (w.node u).head.level (w.node z).head.level (w.node z).head.phase (calls_in (w.queue u p)))) (sym y) (
                reported_to (w.node u).head.level (w.queue u p) (w'.queue u p) none,
                reported_from (w.node u).head.level (w.queue u p) (w'.queue u p) none,
              )
            where
              none : (w.node u).head.level ≡ l → ◌≡◌ {A = ℕ} (reports_in (calls_in (w.queue u p))) 0
              none lv = subst (λ z. ◌≡◌ {A = ℕ} (reports_in (calls_in (w.queue z p))) 0) eu
                  (subst (λ z. ◌≡◌ {A = ℕ} (reports_in (calls_in (w.queue (far g v (far_port g u p)) z))) 0) ep
                  (no_report (far_port g u p) at_i (subst (λ z. (w.node z).head.level ≡ l) (sym eu) lv)))
                where
                  at_i : At g v (far_port g u p)
                  at_i = subst (λ z. At g z (far_port g u p)) y (wired.there u p at)

                  eu : far g v (far_port g u p) ≡ u
                  eu = subst (λ z. far g z (far_port g u p) ≡ u) y (wired.back u p at)

                  ep : far_port g v (far_port g u p) ≡ p
                  ep = subst (λ z. far_port g z (far_port g u p) ≡ p) y (wired.back_port u p at)

  searches_now : SearchesFit gr.keys g w'
  searches_now u net = ⊎_elim
      (λ (z : u ≡ v). subst (λ y. SearchFits gr.keys g y (w'.node y) (λ p. (w'.node (far g y p)).head) (λ p. w'.queue y p)) (sym z)
      (subst (λ (x : State). SearchFits gr.keys g v x (λ p. (w'.node (far g v p)).head) (λ p. w'.queue v p)) (sym a.node) search_here))
      (λ ne. subst (λ (x : State). SearchFits gr.keys g u x (λ p. (w'.node (far g u p)).head) (λ p. w'.queue u p)) (a.others u ne)
      (search_there u net ne))
      (cases_eq u v)

  -- The tokens.

  passes_now : AsManyPasses g w w'
  passes_now = waits_like gr.keys g w w' v now own (told_from e 0 (w.node v).ports) a wired h.here (λ q. passes_in q) h.passes
      (λ i at.
      let told : List Message = told_by e (joined_mark e i (mark_at (w.node v) i)) (is_at up i) in
      passes_before (back i) told (told_passes e (joined_mark e i (mark_at (w.node v) i)) (is_at up i))
      ∙ ap (λ (y : List Message). passes_in (back i ++ y)) (sym (told_on (w.node v) e i (port_below node_is i at))))

  tokens_now : TokensFit gr.keys g w'
  tokens_now = tokens_enter gr.keys g w w' v a.others passes_now level_now phase_now
      (ap (λ (x : State). x.head.out) a.node) (ap (λ (x : State). x.head.halted) a.node) h.rest way_out h.here
      (λ p at. sym (passes_called (w.queue v p)) ∙ unpassed v p at Same refl) h.out_end h.end_out h.all.tokens

  -- with the ground, which every event keeps
  pub entered_nearly : Ground g w' → NearlyFits gr.keys g w' v
  entered_nearly ground = record {
    ground = ground;
    nodes = nodes_act gr.keys g w w' v now own (told_from e 0 (w.node v).ports) a (λ u x. AwakeFits gr.keys u x) h.all.nodes node_now;
    links = links_now;
    search = searches_now;
    others = λ u net ne. subst (λ (x : State). LacksSome x) (a.others u ne) (h.all.lacks u net);
    tokens = tokens_now;
  }
