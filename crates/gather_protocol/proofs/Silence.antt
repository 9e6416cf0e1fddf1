-- Silence is the end: where no message waits, all in the component of a node that is awake are in its wave, await nothing, and have halted.
use Rattle.std.proofs.Common.{◌≡◌, ◌≢◌, ℕ, zero, suc, ◌+◌, ◌<◌, ◌≤◌, Bool, true, false, Option, Some, None, List, [], ◌∷◌, ◌++◌, length, get_or, cond, refl, sym, ◌∙◌, ap, subst, ⊎_elim, arith, append-nil, eq-eqb}
use Rattle.std.specs.Prelude.{filter, is_none}
use Rattle.std.specs.List.{Contains}
use Rattle.std.proofs.lemmas.Bool.{cases_eq, true≢false}
use Rattle.std.proofs.lemmas.List.{nil_from_length}
use Rattle.std.proofs.lemmas.Option.{same_Some, slice_get_within, get_or_from_slice_get}
use Rattle.ghs_graph.specs.declared.key.Key.{Key}
use Rattle.ghs_graph.specs.declared.port.Port.{Port}
use Rattle.ghs_graph.specs.Graph.{Shape, IsGraph}
use Rattle.ghs_graph.specs.Links.{Joined, Same, Over, Back, links}
use Rattle.ghs_graph.specs.Ports.{port_number, ports_of, no_port}
use Rattle.ghs_graph.proofs.lemmas.Joining.{joined_back}
use Rattle.ghs_graph.proofs.lemmas.Ports.{links_have_two_ports, far_end_a, far_end_b}
use Rattle.peer_network.specs.Network.{Network, network_of, InNetwork, At, far, far_port}
use Rattle.peer_network.specs.Sums.{sum_below}
use Rattle.peer_network.proofs.lemmas.Graphs.{graph_wired, link_among}
use Rattle.peer_network.proofs.lemmas.Wired.{IsWired}
use Rattle.peer_machine.specs.Net.{Net}
use Rattle.peer_machine.specs.Run.{IsNetOf}
use Rattle.peer_machine.specs.Ends.{IsSilent, SilenceWakesAll}
use Rattle.gather_node.specs.declared.message.Message.{Message}
use Rattle.gather_node.specs.declared.message.Message.TheVariants as messages
use Rattle.gather_node.specs.Forest.{forest}
use Rattle.gather_node.specs.Gather.{gather}
use Rattle.gather_node.specs.State.{State, is_that}
use Rattle.gather_protocol.specs.Laws.{SilenceHalts}
use Rattle.gather_protocol.proofs.Bound.{trees_of}
use Rattle.gather_protocol.proofs.Events.{that_is}
use Rattle.gather_protocol.proofs.Heard.{nil_or}
use Rattle.gather_protocol.proofs.Rules.{anyone, waves_of}
use Rattle.gather_protocol.proofs.Sends.{back_of, is_of, is_tree, sent_on, tree_of}
use Rattle.gather_protocol.proofs.Trees.{Trees}
use Rattle.gather_protocol.proofs.Waves.{Waves, Within, knows, list_in, sent_of}

-- what a link leads from node to node, a way of links does
pub along : (g : Shape) → IsGraph g → (P : ℕ → Type 0) → ((u q : ℕ) → At (network_of g) u q → P u → P (far (network_of g) u q)) → {u v : ℕ} →
    Joined (links g.keys) u v → P u → P v
along g ok P step Same p = p
along g ok P step (Over k s way) p = along g ok P step way (over k s p)
  where
    over : (k : Key) → Contains g.keys k → P k.a → P k.b
    over k h a =
        let two = links_have_two_ports g ok k h in
        let z = link_among g ok k h in
        let i = port_number g.keys k.a k in
        let at : At (network_of g) k.a i =
        record {
          some = z.0;
          node = (let x = z.1 in let y = z.2 in omega (arith, x, y));
          port = slice_get_within
              (ports_of g.keys k.a) i _ two.at_a;
        } in
        let to : far (network_of g) k.a i ≡ k.b =
        ap (λ (p : Port). p.far) (get_or_from_slice_get (ports_of g.keys k.a) i _ no_port two.at_a) ∙ far_end_a k in
        subst P to (step k.a i at a)
along g ok P step (Back k s way) p = along g ok P step way (back k s p)
  where
    back : (k : Key) → Contains g.keys k → P k.b → P k.a
    back k h a =
        let two = links_have_two_ports g ok k h in
        let z = link_among g ok k h in
        let i = port_number g.keys k.b k in
        let at : At (network_of g) k.b i =
        record {
          some = (let x = z.0 in let y = z.1 in omega (arith, x, y));
          node = z.2;
          port = slice_get_within
              (ports_of g.keys k.b) i _ two.at_b;
        } in
        let to : far (network_of g) k.b i ≡ k.a =
        ap (λ (p : Port). p.far) (get_or_from_slice_get (ports_of g.keys k.b) i _ no_port two.at_b) ∙ far_end_b k z.1 in
        subst P to (step k.b i at a)

-- who has joined and sent nothing over a port has its parent there, and awaits an answer
not_sent : (j : Bool) (x : ℕ) (parent : Option ℕ) (a : ℕ) (ks : List Key) (i : ℕ) → j ≡ true → ◌≡◌ {A = List Message} (sent_on j x parent a ks i) [] →
    (is_that parent i ≡ true) × (1 ≤ a)
not_sent false x parent a ks i t h = absurd (true≢false (sym t))
not_sent true x parent a ks i t h = go (is_that parent i) refl a h
  where
    go : (b : Bool) → is_that parent i ≡ b → (c : ℕ) → ◌≡◌ {A = List Message} (cond b [] (messages.Explore x ∷ []) ++ cond b (back_of x c ks) []) [] →
        (is_that parent i ≡ true) × (1 ≤ c)
    go true e zero z = absurd (let y : messages.Back x (forest ks) ∷ [] ≡ [] = z in cc)
    go true e (suc k) z = (e, omega arith)
    go false e c z = absurd (let y : messages.Explore x ∷ [] ≡ [] = z in cc)

-- numbers that are less than n together have a 0 among them
some_zero : (n : ℕ) (f : ℕ → ℕ) → suc (sum_below n f) ≤ n → (i : ℕ) × (i < n) × (f i ≡ 0)
some_zero zero f le = absurd (omega arith)
some_zero (suc n) f le = ⊎_elim (λ (e : f n ≡ 0). (n, omega arith, e)) (λ ne. before (some_zero n f (omega arith))) (cases_eq (f n) 0)
  where
    before : (i : ℕ) × (i < n) × (f i ≡ 0) → (i : ℕ) × (i < suc n) × (f i ≡ 0)
    before z = (z.0, (let l = z.1 in omega (arith, l)), z.2)

module _ (g : Shape) (w : Net State Message) (is : IsNetOf gather g w) (silent : IsSilent (network_of g) w) where
  abbrev pub n : Network
  n = network_of g

  abbrev pub i : Waves n anyone w
  i = waves_of g w is

  t : Trees n w
  t = trees_of g w is

  wired : IsWired n
  wired = graph_wired g is.graph

  -- all that was sent was heard
  heard_all : (u q x : ℕ) → At n u q → (i.past (far n u q)).heard x (far_port n u q) ≡ sent_of n u (i.past u) x q
  heard_all u q x at =
      let v = far n u q in
      let p = far_port n u q in
      let there = wired.there u q at in
      let a : sent_of n (far n v p) (i.past (far n v p)) x (far_port n v p) ≡ (i.past v).heard x p =
      i.over x v p there ∙ ap (λ (l : List Message). (i.past v).heard x p ++ filter (is_of x) l) (silent v p there)
      ∙ append-nil ((i.past v).heard x p) in
      sym a ∙ ap (λ b. sent_of n (far n v p) (i.past (far n v p)) x b) (wired.back_port u q at)
      ∙ ap (λ b. sent_of n b (i.past b) x q) (wired.back u q at)

  -- a neighbour is in no greater wave
  next_within : (u q x : ℕ) → At n u q → (w.node u).head.wave ≡ Some x → Within (w.node (far n u q)) x
  next_within u q x at e =
      let s = i.past u in
      let j = ((i.nodes u).now x e).joined in
      ⊎_elim
      (λ (z : sent_of n u (i.past u) x q ≡ []).
      let c = not_sent (s.joined x) x (s.parent x) (s.awaits x) (knows n u (s.brought x)) q j z in
      (i.nodes (far n u q)).least x (i.led.ups u x q j (that_is (s.parent x) q c.0)).up)
      (λ ne. (i.nodes (far n u q)).late x (far_port n u q) (wired.there u q at) (λ z. ne (sym (heard_all u q x at) ∙ z)))
      (nil_or (sent_of n u (i.past u) x q))

  all_within : (x : ℕ) {u v : ℕ} → Joined (links g.keys) u v → Within (w.node u) x → Within (w.node v) x
  all_within x way k =
      along g is.graph (λ b. Within (w.node b) x)
      (λ u q at l. let z = next_within u q l.0 at l.1 in (z.0, z.1, (let a = z.2 in let b = l.2 in omega (arith, a, b)))) way k

  -- all in a component are in one wave
  pub one_wave_here : (x : ℕ) {u v : ℕ} → Joined (links g.keys) u v → (w.node u).head.wave ≡ Some x → (w.node v).head.wave ≡ Some x
  one_wave_here x way e =
      let a = all_within x way (x, e, omega arith) in
      let b = all_within a.0 (joined_back way) (a.0, a.1, omega arith) in
      let same = same_Some _ _ (sym e ∙ b.1) in
      a.1 ∙ ap Some (let c = a.2 in let d = b.2 in let z : a.0 ≡ x = omega (arith, same, c, d) in z)

  next_wave : (u q x : ℕ) → At n u q → (w.node u).head.wave ≡ Some x → (w.node (far n u q)).head.wave ≡ Some x
  next_wave u q x at e =
      let a = next_within u q x at e in
      let b = next_within (far n u q) (far_port n u q) a.0 (wired.there u q at) a.1 in
      let c : Within (w.node u) a.0 = subst (λ z. Within (w.node z) a.0) (wired.back u q at) b in
      let same = same_Some _ _ (sym e ∙ c.1) in
      a.1 ∙ ap Some (let d = a.2 in let f = c.2 in let z : a.0 ≡ x = omega (arith, same, d, f) in z)

  -- nobody awaits an answer: one that did would have a child that does, and so on
  drained : (x d v : ℕ) → InNetwork n v → (w.node v).head.wave ≡ Some x → i.clock ≤ (i.past v).rank x + d → (w.node v).head.awaits ≡ 0
  drained x zero v net e le = absurd (let b = i.led.early v x ((i.nodes v).now x e).joined in omega (arith, b, le))
  drained x (suc d) v net e le =
      ⊎_elim (λ z. z) (λ ne. absurd (some (λ u here f l. drained x d u here f l) ne)) (cases_eq (w.node v).head.awaits 0)
    where
      some : ((u : ℕ) → InNetwork n u → (w.node u).head.wave ≡ Some x → i.clock ≤ (i.past u).rank x + d → (w.node u).head.awaits ≡ 0) →
          (w.node v).head.awaits ≢ 0 → ⊥
      some ih ne =
          let rest = (i.nodes v).rest x net e in
          let z = some_zero (length (n.ports v)) (λ q. length ((i.past v).heard x q)) (omega (arith, rest, ne)) in
          let p = z.0 in
          let at : At n v p = record { some = net.some; node = net.node; port = z.1 } in
          let u = far n v p in
          let fp = far_port n v p in
          let there = wired.there v p at in
          let f = next_wave v p x at e in
          let now = (i.nodes u).now x f in
          let s = i.past u in
          let none : (i.past v).heard x p ≡ [] = nil_from_length ((i.past v).heard x p) z.2 in
          let sent : ◌≡◌ {A = List Message} (sent_of n u (i.past u) x fp) [] =
          sym (heard_all u fp x there) ∙ ap (λ b. (i.past (far n u fp)).heard x b) (wired.back_port v p at)
          ∙ ap (λ b. (i.past b).heard x p) (wired.back v p at) ∙ none in
          let c = not_sent (s.joined x) x (s.parent x) (s.awaits x) (knows n u (s.brought x)) fp now.joined sent in
          let up = i.led.later u x fp now.joined (that_is (s.parent x) fp c.0) in
          let back : (i.past (far n u fp)).rank x ≡ (i.past v).rank x = ap (λ b. (i.past b).rank x) (wired.back v p at) in
          let none_due = ih u (record { some = there.some; node = there.node }) f (omega (arith, le, up, back)) in
          let due = now.awaits in
          let more = c.1 in
          omega (arith, none_due, due, more)

  awaits_none : (x v : ℕ) → InNetwork n v → (w.node v).head.wave ≡ Some x → (w.node v).head.awaits ≡ 0
  awaits_none x v net e = drained x i.clock v net e (omega arith)

  -- and all have halted, from the leader on
  child_halts : (x v p : ℕ) → InNetwork n v → (w.node v).head.wave ≡ Some x → (w.node v).head.parent ≡ Some p →
      (w.node (far n v p)).head.halted ≡ true → At n v p → (w.node v).head.halted ≡ true
  child_halts x v p net e par h at =
      let u = far n v p in
      let fp = far_port n v p in
      let there = wired.there v p at in
      let s = i.past v in
      let now = (i.nodes v).now x e in
      let sent : sent_of n v (i.past v) x p ≡ messages.Back x (forest (knows n v (s.brought x))) ∷ [] =
      ap (λ b. sent_on b x (s.parent x) (s.awaits x) (knows n v (s.brought x)) p) now.joined
      ∙ ap (λ b. sent_on true x b (s.awaits x) (knows n v (s.brought x)) p) (now.parent ∙ par)
      ∙ ap (λ b. sent_on true x (Some p) b (knows n v (s.brought x)) p) (now.awaits ∙ awaits_none x v net e)
      ∙ ap (λ b. cond b [] (messages.Explore x ∷ []) ++ cond b (messages.Back x (forest (knows n v (s.brought x))) ∷ []) []) (eq-eqb p p refl) in
      let came : get_or (w.node u).brought fp None ≡ Some (forest (knows n v (s.brought x))) =
      (i.nodes u).came x fp there (next_wave v p x at e) ∙ ap list_in (heard_all v p x at ∙ sent) in
      let over : cond true (tree_of (t.tree u) (Some (forest (knows n v (s.brought x))))) [] ≡ t.taken v p =
      ap (λ b. cond true (tree_of (t.tree u) b) []) (sym came)
      ∙ ap (λ b. cond b (tree_of (t.tree u) (get_or (w.node u).brought fp None)) []) (sym h)
      ∙ t.over v p at ∙ ap (λ (l : List Message). t.taken v p ++ filter is_tree l) (silent v p at) ∙ append-nil (t.taken v p) in
      t.takes v p at (λ z. let y = over ∙ z in cc)

  halts : (x r v : ℕ) → InNetwork n v → (w.node v).head.wave ≡ Some x → (i.past v).rank x ≤ r → (w.node v).head.halted ≡ true
  halts x zero v net e le = go (w.node v).head.parent refl
    where
      go : (o : Option ℕ) → (w.node v).head.parent ≡ o → (w.node v).head.halted ≡ true
      go None q = t.leads v x e q (awaits_none x v net e)
      go (Some p) q =
          let now = (i.nodes v).now x e in
          let l = i.led.later v x p now.joined (now.parent ∙ q) in
          absurd (omega (arith, l, le))
  halts x (suc r) v net e le = go (λ u here f l. halts x r u here f l) (w.node v).head.parent refl
    where
      go : ((u : ℕ) → InNetwork n u → (w.node u).head.wave ≡ Some x → (i.past u).rank x ≤ r → (w.node u).head.halted ≡ true) → (o : Option ℕ) →
          (w.node v).head.parent ≡ o → (w.node v).head.halted ≡ true
      go ih None q = t.leads v x e q (awaits_none x v net e)
      go ih (Some p) q =
          let now = (i.nodes v).now x e in
          let l = i.led.later v x p now.joined (now.parent ∙ q) in
          let up = i.led.ups v x p now.joined (now.parent ∙ q) in
          let there = wired.there v p up.at in
          child_halts x v p net e q
          (ih (far n v p) (record { some = there.some; node = there.node }) (next_wave v p x up.at e) (omega (arith, l, le))) up.at

  awake_halts : (v : ℕ) → InNetwork n v → (o : Option ℕ) → (w.node v).head.wave ≡ o → is_none o ≡ false → (w.node v).head.halted ≡ true
  awake_halts v net None e h = absurd (true≢false h)
  awake_halts v net (Some x) e h = halts x ((i.past v).rank x) v net e (omega arith)

  wakes_all : {u v : ℕ} → Joined (links g.keys) u v → (o : Option ℕ) → (w.node u).head.wave ≡ o → is_none o ≡ false →
      gather.is_asleep (w.node v) ≡ false
  wakes_all way None e h = absurd (true≢false h)
  wakes_all way (Some x) e h = ap is_none (one_wave_here x way e)

pub silence_wakes : SilenceWakesAll gather
silence_wakes g w is silent u v here there way awake = wakes_all g w is silent way (w.node u).head.wave refl awake

pub silence_halts : SilenceHalts
silence_halts g w is silent v net awake = awake_halts g w is silent v net (w.node v).head.wave refl awake
