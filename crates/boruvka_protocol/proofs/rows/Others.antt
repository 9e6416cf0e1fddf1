-- What an act leaves of the clauses of nodes, of what waits elsewhere, and of tokens.
use Rattle.std.proofs.Common.{◌≡◌, ℕ, ◌<◌, Option, Some, None, List, [], ◌∷◌, ◌++◌, refl, sym, ◌∙◌, ap, subst, ⊎_elim, append-nil}
use Rattle.std.proofs.lemmas.Bool.{cases_eq}
use Rattle.ghs_graph.specs.declared.key.Key.{Key}
use Rattle.peer_network.specs.Network.{Network, At, InNetwork, far, far_port}
use Rattle.peer_network.proofs.lemmas.Wired.{IsWired}
use Rattle.peer_network.proofs.lemmas.Wires.{neighbour}
use Rattle.peer_machine.specs.Rules.{Outgoing}
use Rattle.peer_network.proofs.lemmas.Updates.{put_same, put_other}
use Rattle.peer_machine.specs.Net.{Net, put}
use Rattle.boruvka_node.specs.declared.head.Head.{Head}
use Rattle.boruvka_node.specs.declared.message.Message.{Message}
use Rattle.boruvka_node.specs.State.{State, degree, key_at}
use Rattle.boruvka_protocol.proofs.invariant.Words.{IsWayUp}
use Rattle.boruvka_protocol.proofs.invariant.Nodes.{ParentIs, NodeFits, AwakeFits}
use Rattle.boruvka_protocol.proofs.invariant.Token.{RootIsPast, TokensFit}
use Rattle.boruvka_protocol.proofs.rows.Sends.{sent_on}
use Rattle.boruvka_protocol.proofs.rows.Acts.{Acts}
use Rattle.boruvka_protocol.proofs.rows.Alike.{SameHeads, AsMany, AsManyPasses, levels_alike, phases_alike, past_alike}
use Rattle.boruvka_protocol.proofs.rows.Tokens.{TokensStay, token_stays, tokens_stay, root_stays, halts_stay}

-- A number that is read of a queue, of which a message that doesn't count is taken.
pub taken_like : (P : List Message → ℕ) (q : ℕ → List Message) (j : ℕ) (m : Message) (ms : List Message) → q j ≡ m ∷ ms → P (m ∷ ms) ≡ P ms →
    (i : ℕ) → P (q i) ≡ P (put q j ms i)
taken_like P q j m ms waits none i = ⊎_elim
    (λ (e : i ≡ j). subst (λ y. P (q y) ≡ P (put q j ms y)) (sym e) (ap P waits ∙ none ∙ sym (ap P (put_same q j ms))))
    (λ ne. sym (ap P (put_other q j i ms ne)))
    (cases_eq i j)

-- Nodes.

module _ (ks : List Key) where
  pub parent_like : (l v : ℕ) (n n' : State) → degree n ≡ degree n' → n.keys ≡ n'.keys → (q : Option ℕ) → ParentIs ks l v n q → ParentIs ks l v n' q
  parent_like l v n n' d k None h = h
  parent_like l v n n' d k (Some p) h =
      (subst (λ x. p < x) d h.0, subst (λ (x : State). IsWayUp ks l v (key_at x p)) (ap (λ (y : List Key). record n { keys = y }) k) h.1)

  -- a node with the same variables, as many ports and the same keys
  pub node_like : (v : ℕ) (n n' : State) → n'.head ≡ n.head → degree n ≡ degree n' → n.keys ≡ n'.keys → AwakeFits ks v n → AwakeFits ks v n'
  node_like v n n' e d k h up =
      subst (λ (x : Head). NodeFits ks v (record n' { head = x })) (sym e) (go (h (λ s. up (ap (λ (x : Head). x.phase) e ∙ s))))
    where
      go : NodeFits ks v n → NodeFits ks v (record n' { head = n.head })
      go f = record {
        class = f.class;
        name = f.name;
        parent = parent_like n.head.level v n (record n' { head = n.head }) d k n.head.parent f.parent;
        ground = λ z.
            let o = f.ground z in
            record { rest = o.rest; best = o.best; alone = λ x. o.alone (d ∙ x); out = λ x. o.out (subst (λ y. 0 < y) (sym d) x) };
        out_port = λ p x. subst (λ y. p < y) d (f.out_port p x);
      }

  module _ (g : Network) (w w' : Net State Message) (v : ℕ) (n : State) (own : ℕ → List Message) (ss : Outgoing Message)
      (a : Acts g w w' v n own ss) where
    -- what held of each node, and holds of the new state of the node that acts, holds of each node behind the act
    pub nodes_act : (P : ℕ → State → Type 0) → ((u : ℕ) → InNetwork g u → P u (w.node u)) → P v n → (u : ℕ) → InNetwork g u → P u (w'.node u)
    nodes_act P before now u at = ⊎_elim
        (λ (e : u ≡ v). subst (λ y. P y (w'.node y)) (sym e) (subst (P v) (sym a.node) now))
        (λ ne. subst (P u) (a.others u ne) (before u at))
        (cases_eq u v)

    -- a number that is read of each queue, where what v takes and sends leaves it
    module _ (wired : IsWired g) (here : InNetwork g v) (P : List Message → ℕ)
        (own_same : (i : ℕ) → At g v i → P (w.queue v i) ≡ P (own i))
        (far_same : (i : ℕ) → At g v i →
        P (w.queue (far g v i) (far_port g v i)) ≡ P (w.queue (far g v i) (far_port g v i) ++ sent_on ss i)) where
      pub waits_like : AsMany g P w w'
      waits_like u p at = ⊎_elim
          (λ (e : u ≡ v). subst (λ y. P (w.queue y p) ≡ P (w'.queue y p)) (sym e)
          (let at_v : At g v p = subst (λ y. At g y p) e at in own_same p at_v ∙ sym (ap P (a.queue p at_v))))
          (λ ne. ⊎_elim (λ (e : far g u p ≡ v). neighbour_same u p at e)
          (λ fne. sym (ap P (a.queues u p ne (λ i e h. fne (neighbour g wired v i u p here.some here.node at e h)))))
          (cases_eq (far g u p) v))
          (cases_eq u v)
        where
          neighbour_same : (u p : ℕ) → At g u p → far g u p ≡ v → P (w.queue u p) ≡ P (w'.queue u p)
          neighbour_same u p at e =
              let i = far_port g u p in
              let at_i : At g v i = subst (λ y. At g y i) e (wired.there u p at) in
              let eu : far g v i ≡ u = subst (λ y. far g y i ≡ u) e (wired.back u p at) in
              let ep : far_port g v i ≡ p = subst (λ y. far_port g y i ≡ p) e (wired.back_port u p at) in
              subst (λ y. P (w.queue y p) ≡ P (w'.queue y p)) eu
              (subst (λ y. P (w.queue (far g v i) y) ≡ P (w'.queue (far g v i) y)) ep (far_same i at_i ∙ sym (ap P (a.far_queue i at_i))))

  -- so where nothing is taken, and nothing sent
  pub waits_same : (g : Network) (w w' : Net State Message) (v : ℕ) (n : State) → Acts g w w' v n (w.queue v) [] → IsWired g → InNetwork g v →
      (P : List Message → ℕ) → AsMany g P w w'
  waits_same g w w' v n a wired here P =
      waits_like g w w' v n (w.queue v) [] a wired here P (λ i at. refl) (λ i at. ap P (sym (append-nil _)))

  -- Tokens, where all nodes have the same variables and as many ChangeRoots wait.

  tokens_alike : (g : Network) (w w' : Net State Message) → SameHeads w w' → AsManyPasses g w w' → TokensStay ks g w w'
  tokens_alike g w w' heads passes m x place = token_stays ks g w w' m x place (levels_alike w w' heads x)
      (λ p at lt. subst (λ y. 0 < y) (passes x p at) lt)
      (λ lv p out. sym (ap (λ (y : Head). y.out) (heads x)) ∙ out)
      (λ lv h. sym (ap (λ (y : Head). y.halted) (heads x)) ∙ h)

  roots_alike : (g : Network) (w w' : Net State Message) → SameHeads w w' → (l v : ℕ) → RootIsPast ks g w l v → RootIsPast ks g w' l v
  roots_alike g w w' heads = root_stays ks g w w' (past_alike w w' (levels_alike w w' heads) (phases_alike w w' heads))

  pub tokens_like : (g : Network) (w w' : Net State Message) → SameHeads w w' → AsManyPasses g w w' → TokensFit ks g w → TokensFit ks g w'
  unfolding tokens_stay
  tokens_like g w w' heads passes h = record {
    halted = halts_stay ks g w w' (levels_alike w w' heads) (phases_alike w w' heads) (λ u x. ap (λ (y : Head). y.halted) (heads u) ∙ x) h.halted;
    one = λ l v at proper.
        let f = h.one l v at proper in
        record {
          some = λ r. tokens_stay ks g w w' (tokens_alike g w w' heads passes) l v (f.some (roots_alike g w' w back l v r));
          one = λ s t. f.one (tokens_stay ks g w' w before l v s) (tokens_stay ks g w' w before l v t);
          none = λ t. roots_alike g w w' heads l v (f.none (tokens_stay ks g w' w before l v t));
        };
  }
    where
      back : SameHeads w' w
      back u = sym (heads u)

      before : TokensStay ks g w' w
      before = tokens_alike g w' w back (λ u p at. sym (passes u p at))
