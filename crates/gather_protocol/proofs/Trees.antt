-- What every net of a run keeps of the tree that is told, and that an event keeps it, if it keeps it at its own node.
use Rattle.std.proofs.Common.{◌≡◌, ◌≢◌, ℕ, suc, ◌+◌, ◌⊎◌, inl, inr, true, false, Some, None, List, [], ◌∷◌, ◌++◌, get_or, cond, refl, sym, ◌∙◌, ap, subst, ⊎_elim, arith}
use Rattle.std.specs.Prelude.{filter, is_none}
use Rattle.std.proofs.lemmas.Bool.{cases_eq}
use Rattle.ghs_graph.specs.declared.key.Key.{Key}
use Rattle.peer_network.specs.Network.{Network, InNetwork, At, far}
use Rattle.peer_network.specs.Sums.{sum_over_nodes}
use Rattle.peer_network.proofs.lemmas.Sums.{sum_one, node_before}
use Rattle.peer_network.proofs.lemmas.Updates.{put_same, put_other}
use Rattle.peer_network.proofs.lemmas.Wired.{IsWired}
use Rattle.peer_machine.specs.Rules.{Outcome}
use Rattle.peer_machine.specs.Net.{Net, put, are_on_ports, reacted}
use Rattle.peer_machine.proofs.lemmas.Sends.{node_here, node_there, consumed_now}
use Rattle.gather_node.specs.declared.message.Message.{Message}
use Rattle.gather_node.specs.declared.message.Message.TheVariants.{Tree}
use Rattle.gather_node.specs.Forest.{forest}
use Rattle.gather_node.specs.Gather.{gather}
use Rattle.gather_node.specs.State.{State, known, marks}
use Rattle.gather_protocol.proofs.Accounts.{Account, on_port, still}
use Rattle.gather_protocol.proofs.Sends.{is_tree, tree_of}

-- what a node has told over port j
abbrev pub told_over : List Key → State → ℕ → List Message
told_over tree n j = cond n.head.halted (tree_of tree (get_or n.brought j None)) []

-- whether it was told: it has halted, and isn't the leader
abbrev pub told_once : State → ℕ
told_once n = cond n.head.halted (cond (is_none n.head.parent) 0 1) 0

-- the node leads its wave, and awaits nothing
pub record Leads (w : Net State Message) (x : ℕ) : Type 0 where
  pub wave : (w.node x).head.wave ≡ Some x
  pub awaits : (w.node x).head.awaits ≡ 0

abbrev pub HasLeader : Net State Message → ℕ → Type 0
HasLeader w v = (x : ℕ) × ((w.node v).head.wave ≡ Some x) × Leads w x

pub record Trees (g : Network) (w : Net State Message) : Type 0 where
  pub tree : ℕ → List Key
  pub taken : ℕ → ℕ → List Message
  pub over : Account g w is_tree (λ u j. told_over (tree u) (w.node u) j) taken
  pub leader : (v : ℕ) → (w.node v).head.halted ≡ true → HasLeader w v
  pub up : (v p : ℕ) → (w.node v).head.halted ≡ true → (w.node v).head.parent ≡ Some p → (w.node (far g v p)).head.halted ≡ true
  pub takes : (v p : ℕ) → At g v p → taken v p ≢ [] → (w.node v).head.halted ≡ true
  pub told : (v p : ℕ) → (w.node v).head.halted ≡ true → (w.node v).head.parent ≡ Some p → taken v p ≡ Tree (tree v) ∷ []
  pub led : (v : ℕ) → (w.node v).head.halted ≡ true → (w.node v).head.parent ≡ None → tree v ≡ forest (known (w.node v))
  pub marked : (v : ℕ) → (w.node v).head.halted ≡ true → (w.node v).branches ≡ marks (tree v) (w.node v).keys
  pub unmarked : (v j : ℕ) → (w.node v).head.halted ≡ false → get_or (w.node v).branches j false ≡ false
  pub leads : (v x : ℕ) → (w.node v).head.wave ≡ Some x → (w.node v).head.parent ≡ None → (w.node v).head.awaits ≡ 0 →
      (w.node v).head.halted ≡ true
  pub consumed : w.consumed 2 ≡ sum_over_nodes g (λ v. told_once (w.node v))

-- an event of node v turns the net w, once its message is taken w1, into the next; it knows tree then, and taken are the trees that were taken
module _ (g : Network) (wired : IsWired g) (w w1 : Net State Message) (t : Trees g w) (v : ℕ) (net : InNetwork g v)
    (o : Outcome State Message) (on : are_on_ports gather g v o.sends ≡ true) (tree : List Key) (taken : ℕ → ℕ → List Message)
    (nodes : (u : ℕ) → w1.node u ≡ w.node u) where
  abbrev pub next : Net State Message
  next = reacted gather g v o w1

  here : (u : ℕ) → u ≡ v → next.node u ≡ o.state
  here u e = ap (λ x. next.node x) e ∙ node_here gather g v o w1

  there : (u : ℕ) → u ≢ v → next.node u ≡ w.node u
  there u ne = node_there gather g v o w1 u ne ∙ nodes u

  -- what holds of v's new state and of all other nodes holds of all
  each : (P : ℕ → State → Type 0) → P v o.state → ((u : ℕ) → u ≢ v → P u (w.node u)) → (u : ℕ) → P u (next.node u)
  each P a b u = ⊎_elim
      (λ (e : u ≡ v). subst (λ n. P u n) (sym (here u e)) (subst (λ x. P x o.state) (sym e) a))
      (λ ne. subst (λ n. P u n) (sym (there u ne)) (b u ne)) (cases_eq u v)

  counted : w1.consumed 2 + told_once (w.node v) ≡ w.consumed 2 + told_once o.state →
      next.consumed 2 ≡ sum_over_nodes g (λ u. told_once (next.node u))
  counted c = let j = node_before v net.some in go j.0 j.1
    where
      go : (k : ℕ) → v ≡ suc k → next.consumed 2 ≡ sum_over_nodes g (λ u. told_once (next.node u))
      go k e =
          let a =
          sum_one g.count k (λ x. told_once (w.node (suc x))) (λ x. told_once (next.node (suc x))) (let h = net.node in omega (arith, e, h))
          (λ x ne. ap told_once (sym (there (suc x) (λ z. ne (omega (arith, z, e)))))) in
          let b : told_once (w.node v) ≡ told_once (w.node (suc k)) = ap (λ z. told_once (w.node z)) e in
          let d : told_once (next.node (suc k)) ≡ told_once o.state = ap told_once (here (suc k) (sym e)) in
          let f : next.consumed 2 ≡ w1.consumed 2 = ap (λ (h : ℕ → ℕ). h 2) (consumed_now gather g v o w1) in
          let old = t.consumed in
          omega (arith, a, b, d, f, c, old)

  pub tree_turned : Account g w1 is_tree (λ u j. told_over (t.tree u) (w.node u) j) taken →
      ((j : ℕ) → At g v j → told_over tree o.state j ≡ told_over (t.tree v) (w.node v) j ++ filter is_tree (on_port j o.sends)) →
      ((w.node v).head.wave ≡ Some v → (w.node v).head.awaits ≡ 0 → (o.state.head.wave ≡ Some v) × (o.state.head.awaits ≡ 0)) →
      (o.state.head.halted ≡ true → (x : ℕ) × (o.state.head.wave ≡ Some x) × (((x ≡ v) × (o.state.head.awaits ≡ 0)) ⊎ Leads w x)) →
      ((w.node v).head.halted ≡ true → o.state.head.halted ≡ true) →
      ((p : ℕ) → o.state.head.halted ≡ true → o.state.head.parent ≡ Some p → (w.node (far g v p)).head.halted ≡ true) →
      ((u q : ℕ) → At g u q → taken u q ≢ [] → (t.taken u q ≢ []) ⊎ ((u ≡ v) × (o.state.head.halted ≡ true))) →
      ((u q : ℕ) → u ≢ v → taken u q ≡ t.taken u q) →
      ((p : ℕ) → o.state.head.halted ≡ true → o.state.head.parent ≡ Some p → taken v p ≡ Tree tree ∷ []) →
      ((x : ℕ) → o.state.head.wave ≡ Some x → o.state.head.parent ≡ None → o.state.head.awaits ≡ 0 → o.state.head.halted ≡ true) →
      w1.consumed 2 + told_once (w.node v) ≡ w.consumed 2 + told_once o.state →
      (o.state.head.halted ≡ true → o.state.head.parent ≡ None → tree ≡ forest (known o.state)) →
      (o.state.head.halted ≡ true → o.state.branches ≡ marks tree o.state.keys) →
      ((j : ℕ) → o.state.head.halted ≡ false → get_or o.state.branches j false ≡ false) → Trees g next
  tree_turned account sends keeps leader_v mono up_v takes_v elsewhere told_v leads_v count led_v marked_v unmarked_v = record {
    tree = put t.tree v tree;
    taken = taken;
    over =
        still g wired v net.some net.node o w1 on is_tree (λ u j. told_over (t.tree u) (w.node u) j)
        (λ u j. told_over (put t.tree v tree u) (next.node u) j) taken
        (λ u j ne.
        ap (λ (k : List Key). told_over k (next.node u) j) (put_other t.tree v u tree ne)
        ∙ ap (λ (n : State). told_over (t.tree u) n j) (there u ne))
        (λ j at.
        ap (λ (k : List Key). told_over k (next.node v) j) (put_same t.tree v tree)
        ∙ ap (λ (n : State). told_over tree n j) (here v refl) ∙ sends j at)
        account;
    leader =
        each (λ u n. n.head.halted ≡ true → (x : ℕ) × (n.head.wave ≡ Some x) × Leads next x)
        (λ h. let k = leader_v h in (k.0, k.1, new_leader k.0 k.1 k.2)) (λ u ne h. let k = t.leader u h in (k.0, k.1, old_leader k.0 k.2));
    up =
        each (λ u n. (p : ℕ) → n.head.halted ≡ true → n.head.parent ≡ Some p → (next.node (far g u p)).head.halted ≡ true)
        (λ p h e. still_halted (far g v p) (up_v p h e)) (λ u ne p h e. still_halted (far g u p) (t.up u p h e));
    takes = λ u q at ne. ⊎_elim
        (λ a. still_halted u (t.takes u q at a))
        (λ b. ap (λ (n : State). n.head.halted) (here u b.0) ∙ b.1) (takes_v u q at ne);
    told =
        each (λ u n. (p : ℕ) → n.head.halted ≡ true → n.head.parent ≡ Some p → taken u p ≡ Tree (put t.tree v tree u) ∷ [])
        (λ p h e. told_v p h e ∙ ap (λ (k : List Key). Tree k ∷ []) (sym (put_same t.tree v tree)))
        (λ u ne p h e. elsewhere u p ne ∙ t.told u p h e ∙ ap (λ (k : List Key). Tree k ∷ []) (sym (put_other t.tree v u tree ne)));
    led =
        each (λ u n. n.head.halted ≡ true → n.head.parent ≡ None → put t.tree v tree u ≡ forest (known n))
        (λ h e. put_same t.tree v tree ∙ led_v h e) (λ u ne h e. put_other t.tree v u tree ne ∙ t.led u h e);
    marked =
        each (λ u n. n.head.halted ≡ true → n.branches ≡ marks (put t.tree v tree u) n.keys)
        (λ h. marked_v h ∙ ap (λ (k : List Key). marks k o.state.keys) (sym (put_same t.tree v tree)))
        (λ u ne h. t.marked u h ∙ ap (λ (k : List Key). marks k (w.node u).keys) (sym (put_other t.tree v u tree ne)));
    unmarked = each (λ u n. (j : ℕ) → n.head.halted ≡ false → get_or n.branches j false ≡ false) unmarked_v (λ u ne. t.unmarked u);
    leads =
        each (λ u n. (x : ℕ) → n.head.wave ≡ Some x → n.head.parent ≡ None → n.head.awaits ≡ 0 → n.head.halted ≡ true) leads_v
        (λ u ne. t.leads u);
    consumed = counted count;
  }
    where
      still_halted : (u : ℕ) → (w.node u).head.halted ≡ true → (next.node u).head.halted ≡ true
      still_halted u h = ⊎_elim
          (λ (e : u ≡ v). ap (λ (n : State). n.head.halted) (here u e) ∙ mono (subst (λ x. (w.node x).head.halted ≡ true) e h))
          (λ ne. ap (λ (n : State). n.head.halted) (there u ne) ∙ h) (cases_eq u v)

      old_leader : (x : ℕ) → Leads w x → Leads next x
      old_leader x l = ⊎_elim
          (λ (e : x ≡ v).
          let m : Leads w v = subst (λ y. Leads w y) e l in
          let k = keeps m.wave m.awaits in
          let made : Leads next v =
          record {
            wave = ap (λ (n : State). n.head.wave) (here v refl) ∙ k.0;
            awaits = ap (λ (n : State). n.head.awaits) (here v refl) ∙ k.1;
          } in
          subst (λ y. Leads next y) (sym e) made)
          (λ ne. record {
            wave = ap (λ (n : State). n.head.wave) (there x ne) ∙ l.wave;
            awaits = ap (λ (n : State). n.head.awaits) (there x ne) ∙ l.awaits;
          }) (cases_eq x v)

      new_leader : (x : ℕ) → o.state.head.wave ≡ Some x → ((x ≡ v) × (o.state.head.awaits ≡ 0)) ⊎ Leads w x → Leads next x
      new_leader x e (inl k) = record {
        wave = ap (λ (n : State). n.head.wave) (here x k.0) ∙ e;
        awaits = ap (λ (n : State). n.head.awaits) (here x k.0) ∙ k.1;
      }
      new_leader x e (inr l) = old_leader x l
