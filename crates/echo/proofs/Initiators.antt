-- With which initiators the branches join the nodes at the end, and that these are the nodes that have woken.
use Rattle.std.proofs.Common.{◌≡◌, ◌≢◌, ℕ, zero, suc, ◌+◌, ◌<◌, ◌≤◌, ◌⊎◌, inl, inr, Bool, true, false, Option, Some, None, List, [], ◌∷◌, ◌++◌, refl, sym, ◌∙◌, ap, subst, ⊎_elim, arith, append-nil, append_assoc}
use Rattle.std.specs.Prelude.{◌↔◌, ◌&&◌, is_none}
use Rattle.std.specs.List.{Contains}
use Rattle.std.proofs.lemmas.Bool.{and_parts, and_from, cases_eq, true≢false}
use Rattle.std.proofs.lemmas.List.Elements.{Contains-push, Contains-push_cases, Contains-append_left}
use Rattle.std.proofs.lemmas.Option.{same_Some}
use Rattle.ghs_graph.specs.declared.key.Key.{Key}
use Rattle.ghs_graph.specs.Graph.{Shape}
use Rattle.ghs_graph.specs.Links.{Joined, Same, Over, Back, links}
use Rattle.ghs_graph.proofs.lemmas.Joining.{joined_then, joined_back, joined_within, joined_nodes}
use Rattle.ghs_graph.proofs.lemmas.Members.{nothing_in}
use Rattle.peer_network.specs.declared.event.Event.{Event}
use Rattle.peer_network.specs.declared.event.Event.TheVariants as events
use Rattle.peer_network.specs.Network.{Network, network_of, InNetwork, At, far, port_at}
use Rattle.peer_network.proofs.lemmas.Graphs.{graph_wired, link_among}
use Rattle.peer_machine.specs.Rules.{Outcome}
use Rattle.peer_machine.specs.Net.{Net, opening, happens, reacted, take_first}
use Rattle.peer_machine.specs.Run.{run, IsNetOf}
use Rattle.peer_machine.specs.Branches.{AreBranches}
use Rattle.peer_machine.specs.Steps.{Happens, Woke, Took}
use Rattle.peer_machine.proofs.lemmas.Events.{happening}
use Rattle.peer_machine.proofs.lemmas.Runs.{both_some}
use Rattle.peer_machine.proofs.lemmas.Sends.{node_here, node_there}
use Rattle.echo.specs.declared.node.Message.{Message}
use Rattle.echo.specs.declared.node.Node.{Node}
use Rattle.echo.specs.Echo.{echo, joined, answered}
use Rattle.echo.specs.Ended.{HasEnded, marks_parent, IsInitiator, is_initiator, InitiatorsWoke, HasOneInitiator, EachHasOneInitiator, OneSpans}
use Rattle.echo.specs.Waves.{Heard, Asked, woke_as, told_as}
use Rattle.echo.specs.Ending.{wave_of}
use Rattle.echo.specs.Forests.{Under, Here, under_root, carried, beside, of_graph, to_parent}

some_none : (q : ℕ) → ◌≡◌ {A = Option ℕ} (Some q) None → ⊥
some_none q e = cc

none_of : (x : Option ℕ) → is_none x ≡ true → x ≡ None
none_of None e = refl
none_of (Some p) e = absurd (true≢false (sym e))

module _ (g : Shape) (w : Net Node Message) (ks : List Key) (is : IsNetOf echo g w) (are : AreBranches marks_parent (network_of g) w ks)
    (ended : HasEnded g w) where
  abbrev Reaches : ℕ → Type 0
  Reaches v = (u : ℕ) × IsInitiator g w u × Joined (links ks) v u

  -- parents lead to an initiator
  climbs : (d v : ℕ) → InNetwork (network_of g) v → (wave_of g w is).parents.rank v < d → Reaches v
  climbs zero v net lt = absurd (omega arith)
  climbs (suc d) v net lt = at_parent (λ u here l. climbs d u here l) (w.node v).head.parent refl
    where
      at_parent : ((u : ℕ) → InNetwork (network_of g) u → (wave_of g w is).parents.rank u < d → Reaches u) → (x : Option ℕ) →
          (w.node v).head.parent ≡ x → Reaches v
      at_parent ih None h = (v, (net, and_from _ _ (ended v net).0 (ap is_none h)), Same)
      at_parent ih (Some p) h =
          let i = wave_of g w is in
          let at : At (network_of g) v p =
          record { some = net.some; node = net.node; port = subst (λ x. p < x) (i.whole.ports v) (i.whole.parents v p h) } in
          let there = (graph_wired g is.graph).there v p at in
          let up = (i.parents.up v p h).1 in
          let r = ih (far (network_of g) v p) (record { some = there.some; node = there.node }) (omega (arith, up, lt)) in
          (r.0, r.1, joined_then (to_parent g w ks is are v p at h) r.2)

  -- an initiator is joined with no other
  alone : (r u : ℕ) → IsInitiator g w r → IsInitiator g w u → Joined (links ks) r u → u ≡ r
  alone r u first second way =
      let none = none_of (w.node r).head.parent (and_parts _ _ first.1).1 in
      let each = λ (j : Key) (s : links ks j).
      beside g w ks is are r j s
      (λ x q at e h same.
      some_none q (sym h ∙ ap (λ y. (w.node y).head.parent) same ∙ none)) in
      under_root (network_of g) w r (carried (Under (network_of g) w r) each way Here)
      (none_of (w.node u).head.parent (and_parts _ _ second.1).1)

  one_initiator : (v : ℕ) → InNetwork (network_of g) v → HasOneInitiator g w ks v
  one_initiator v net =
      let r = climbs (suc ((wave_of g w is).parents.rank v)) v net (omega arith) in
      record {
        initiator = r.0;
        is = r.1;
        joined = r.2;
        only = λ u first way. alone r.0 u r.1 first (joined_then (joined_back r.2) way);
      }

  module _ (one : (u v : ℕ) → IsInitiator g w u → IsInitiator g w v → Joined (links g.keys) u v → u ≡ v) where
    inside : (u v : ℕ) → InNetwork (network_of g) u → Joined (links g.keys) u v → Joined (links ks) u v
    inside u v net way =
        let n = joined_nodes g.nodes g.keys is.graph.among net.some net.node way in
        let a = one_initiator u net in
        let b = one_initiator v (record { some = n.0; node = n.1 }) in
        let back = joined_within (of_graph g w ks is are) (joined_back a.joined) in
        let same =
        one a.initiator b.initiator a.is b.is (joined_then back (joined_then way (joined_within (of_graph g w ks is are) b.joined))) in
        joined_then a.joined (subst (λ x. Joined (links ks) x v) (sym same) (joined_back b.joined))

    spans : {u v : ℕ} → Joined (links g.keys) u v → Joined (links ks) u v
    spans Same = Same
    spans (Over k s way) =
        let z = link_among g is.graph k s in
        inside _ _ (record { some = z.0; node = (let x = z.1 in let y = z.2 in omega (arith, x, y)) }) (Over k s way)
    spans (Back k s way) =
        let z = link_among g is.graph k s in
        inside _ _ (record { some = (let x = z.0 in let y = z.1 in omega (arith, x, y)); node = z.2 }) (Back k s way)

pub each_has_one : EachHasOneInitiator
each_has_one g w ks is ended are = one_initiator g w ks is are ended

pub one_spans : OneSpans
one_spans g w ks is ended are one u v way = spans g w ks is are ended one way

-- Who has woken.

-- the node is an initiator just where its wake is among the events
abbrev Told : List Event → Net Node Message → Type 0
Told es w = (v : ℕ) → (is_initiator (w.node v) ≡ true) ↔ Contains es (events.Wake v)

-- an event that makes an initiator of nobody, and wakes nobody
told_still : (es : List Event) (e : Event) (w w' : Net Node Message) → ((v : ℕ) → events.Wake v ≡ e → ⊥) →
    ((v : ℕ) → is_initiator (w'.node v) ≡ is_initiator (w.node v)) → Told es w → Told (es ++ e ∷ []) w'
told_still es e w w' other same told v = (
  λ h. Contains-append_left es (e ∷ []) (events.Wake v) ((told v).0 (sym (same v) ∙ h)),
  λ h. ⊎_elim (λ z. same v ∙ (told v).1 z) (λ z. absurd (other v (sym z))) (Contains-push_cases es e (events.Wake v) h),
)

module _ (g : Network) where
  event_told : (es : List Event) (w w' : Net Node Message) (e : Event) → Told es w → Happens echo g w e w' → Told (es ++ e ∷ []) w'
  event_told es w _ _ told (Woke v o lo hi s h t) = λ u. ⊎_elim (here u) (there u) (cases_eq u v)
    where
      row : ((w.node v).head.awake ≡ false) × (joined (w.node v) None (w.node v).ports ≡ o)
      row = woke_as (w.node v) o h

      here : (u : ℕ) → u ≡ v → (is_initiator ((reacted echo g v o w).node u) ≡ true) ↔ Contains (es ++ events.Wake v ∷ []) (events.Wake u)
      here u e = (
        λ y. subst (λ x. Contains (es ++ events.Wake v ∷ []) (events.Wake x)) (sym e) (Contains-push es (events.Wake v)),
        λ y.
            ap (λ (n : Node). is_initiator n) (ap (λ x. (reacted echo g v o w).node x) e ∙ node_here echo g v o w)
            ∙ ap (λ (x : Outcome Node Message). is_initiator x.state) (sym row.1),
      )

      there : (u : ℕ) → u ≢ v → (is_initiator ((reacted echo g v o w).node u) ≡ true) ↔ Contains (es ++ events.Wake v ∷ []) (events.Wake u)
      there u ne =
          let same = ap (λ (n : Node). is_initiator n) (node_there echo g v o w u ne) in (
            λ y. Contains-append_left es (events.Wake v ∷ []) (events.Wake u) ((told u).0 (sym same ∙ y)),
            λ y. ⊎_elim (λ z. same ∙ (told u).1 z) (λ (z : events.Wake v ≡ events.Wake u). absurd (ne cc))
                (Contains-push_cases es (events.Wake v) (events.Wake u) y),
          )
  event_told es w _ _ told (Took v p m ms o at q h t) =
      told_still es (events.Take v p) w (reacted echo g v o (take_first echo g v p m ms w)) (λ u z. cc)
      (λ u. ⊎_elim
      (λ (e : u ≡ v).
      ap (λ (n : Node). is_initiator n)
      (ap (λ x. (reacted echo g v o (take_first echo g v p m ms w)).node x) e ∙ node_here echo g v o (take_first echo g v p m ms w))
      ∙ same (told_as (w.node v) p m o h) ∙ ap (λ x. is_initiator (w.node x)) (sym e))
      (λ ne. ap (λ (n : Node). is_initiator n) (node_there echo g v o (take_first echo g v p m ms w) u ne)) (cases_eq u v))
      told
    where
      kept : (k : ℕ) → is_initiator (answered (w.node v) k).state ≡ is_initiator (w.node v)
      kept zero = refl
      kept (suc k) = refl

      same : Heard (w.node v) o ⊎ Asked (w.node v) p o → is_initiator o.state ≡ is_initiator (w.node v)
      same (inl r) = ap (λ (x : Outcome Node Message). is_initiator x.state) (sym r.1) ∙ kept (w.node v).head.awaits
      same (inr r) =
          ap (λ (x : Outcome Node Message). is_initiator x.state) (sym r.1) ∙ sym (ap (λ b. b && is_none (w.node v).head.parent) r.0)

  run_told : (ds es : List Event) (w w' : Net Node Message) → Told ds w → run echo g es w ≡ Some w' → Told (ds ++ es) w'
  run_told ds [] w w' told h =
      subst (λ l. Told l w') (sym (append-nil ds)) (subst (λ (x : Net Node Message). Told ds x) (same_Some _ _ h) told)
  run_told ds (e ∷ es) w w' told h =
      both_some echo (happens echo g w e) (λ x. run echo g es x) w' h
      (λ x a b.
      subst (λ l. Told l w') (append_assoc ds (e ∷ []) es)
      (run_told (ds ++ e ∷ []) es x w' (event_told ds w x e told (happening echo g w x e a)) b))

  opening_told : Told [] (opening echo g)
  opening_told v = (λ y. absurd (true≢false (sym y)), λ h. absurd (nothing_in (events.Wake v) h))

pub initiators_woke : InitiatorsWoke
initiators_woke g es w ok h v net = run_told (network_of g) [] es (opening echo (network_of g)) w (opening_told (network_of g)) h v
