-- The lesser end of a core enters the next level, as its root: all clauses hold behind it, but that it may wait for nothing.
use Rattle.std.proofs.Common.{◌≡◌, ◌≢◌, ◌⊎◌, ℕ, suc, ◌<◌, Some, None, List, ◌++◌, inl, inr, refl, sym, ◌∙◌, ap, subst, ⊎_elim, arith}
use Rattle.std.proofs.lemmas.Bool.{cases_eq}
use Rattle.std.proofs.lemmas.Option.{same_Some}
use Rattle.ghs_graph.specs.declared.key.Key.{Key}
use Rattle.ghs_graph.specs.Graph.{Shape, IsGraph}
use Rattle.ghs_graph.specs.Links.{Same}
use Rattle.boruvka_protocol.specs.Levels.{InClass, IsOfLevel}
use Rattle.boruvka_protocol.specs.Cores.{IsCore}
use Rattle.boruvka_protocol.proofs.lemmas.Cores.{least_is_one}
use Rattle.boruvka_protocol.proofs.lemmas.WaysOut.{next_of_level}
use Rattle.peer_network.specs.Network.{Network, network_of, port_at, At, InNetwork, far, far_port}
use Rattle.peer_network.proofs.lemmas.Graphs.{port_ends, link_among}
use Rattle.peer_network.proofs.lemmas.Wires.{at_in}
use Rattle.peer_machine.specs.Rules.{Outgoing}
use Rattle.peer_machine.specs.Net.{Net}
use Rattle.boruvka_node.specs.declared.mark.Mark.TheVariants.{Asked}
use Rattle.boruvka_node.specs.declared.message.Message.{Message}
use Rattle.boruvka_node.specs.declared.message.Phase.TheVariants.{Rest}
use Rattle.boruvka_node.specs.State.{State, key_at, mark_at}
use Rattle.boruvka_node.specs.Entering.{entered, told_from}
use Rattle.boruvka_protocol.proofs.invariant.Words.{IsLeast, IsRoot, IsWayUp}
use Rattle.boruvka_protocol.proofs.invariant.Sides.{at_port, side_of, far_side_of, calls_in}
use Rattle.boruvka_protocol.proofs.invariant.Children.{ChildrenFit}
use Rattle.boruvka_protocol.proofs.invariant.Token.{Out, Waits, Gone_out, Token}
use Rattle.boruvka_protocol.proofs.invariant.Whole.{Ground, LinkIn, AllButLinks, NearlyFits}
use Rattle.boruvka_protocol.proofs.Unlike.{false_is_true}
use Rattle.boruvka_protocol.proofs.levels.OneWay.{root_has_none, one_port}
use Rattle.boruvka_protocol.proofs.rows.Acts.{Acts}
use Rattle.boruvka_protocol.proofs.rows.Between.{acts_on}
use Rattle.boruvka_protocol.proofs.rows.OwnPorts.{own_key, own_end}
use Rattle.boruvka_protocol.proofs.rows.Above.{IsTied, AllTied}
use Rattle.boruvka_protocol.proofs.rows.EntersDown.{EndFits, end_fits}
use Rattle.boruvka_protocol.proofs.rows.Enters.{entry}
use Rattle.boruvka_protocol.proofs.rows.Entered.{IsOpen, Entrance, entered_nearly}

-- v has gone out over its port p, where a Connect was noted, and is the lesser end of that core: all holds but that it hasn't entered the next level
pub record AboutToMeet (gr : Shape) (w : Net State Message) (v p : ℕ) : Type 0 where
  pub at : At (network_of gr) v p
  pub out : (w.node v).head.out ≡ Some p
  pub asked : mark_at (w.node v) p ≡ Asked
  pub rest : (w.node v).head.phase ≡ Rest
  pub less : v < far (network_of gr) v p
  pub least : IsLeast gr.keys (w.node v).head.level v (port_at (network_of gr) v p).key
  pub all : AllButLinks gr w
  pub links : (u i : ℕ) → At (network_of gr) u i → (u ≢ v) ⊎ (i ≢ p) → LinkIn gr.keys (network_of gr) w u i
  pub end : EndFits gr.keys (network_of gr) v p (at_port (w.node v) p)
      (at_port (w.node (far (network_of gr) v p)) (far_port (network_of gr) v p)) (w.queue v p)
  pub children : ChildrenFit gr.keys (side_of (network_of gr) v p (at_port (w.node v) p))
      (far_side_of (network_of gr) v p (at_port (w.node (far (network_of gr) v p)) (far_port (network_of gr) v p))) (calls_in (w.queue v p))
      (calls_in (w.queue (far (network_of gr) v p) (far_port (network_of gr) v p)))

module _ (gr : Shape) (ok : IsGraph gr) (w : Net State Message) (v p : ℕ) (h : AboutToMeet gr w v p) where
  abbrev g : Network
  g = network_of gr

  abbrev l : ℕ
  l = (w.node v).head.level

  abbrev u : ℕ
  u = far g v p

  abbrev k : Key
  k = (port_at g v p).key

  here : InNetwork g v
  here = at_in h.at

  abbrev name : Key
  name = key_at (w.node v) p

  named : name ≡ k
  named = own_key (h.all.ground.nodes v) p h.at

  there : IsLeast gr.keys l u k
  there = (h.end.asked h.asked).least

  -- the node is the lesser end
  both : (v ≡ k.a) × (u ≡ k.b)
  both = ⊎_elim (λ x. x) (λ x. absurd (wrong x)) (port_ends gr ok v p h.at)
    where
      wrong : (v ≡ k.b) × (u ≡ k.a) → ⊥
      wrong x =
          let ordered = (link_among gr ok k h.least.link).1 in
          let less = h.less in
          let is_v = x.0 in
          let is_u = x.1 in
          omega (arith, ordered, less, is_v, is_u)

  core : IsCore gr.keys l v k
  core = record {
    inside = subst (λ x. InClass gr.keys (suc l) v x) both.0 Same;
    of_a = subst (λ x. IsLeast gr.keys l x k) both.0 h.least;
    of_b = subst (λ x. IsLeast gr.keys l x k) both.1 there;
  }

  class : IsOfLevel gr.keys (suc l) v
  class = next_of_level gr.keys l v (k, h.least.link, h.least.leaves)

  root : IsRoot gr.keys (suc l) v
  root = (k, core, both.0)

  not_up : (x : Key) → IsWayUp gr.keys (suc l) v x → ⊥
  not_up x up = root_has_none gr ok (suc l) v x class root up

  tied : AllTied gr w
  tied x i is = ⊎_elim at_v (λ ne. whole (inl ne)) (cases_eq x v)
    where
      whole : (x ≢ v) ⊎ (i ≢ p) → IsTied gr w x i (far g x i) (far_port g x i)
      whole o = let f = h.links x i is o in record { marks = f.marks; children = f.children }

      own_tie : IsTied gr w v p (far g v p) (far_port g v p)
      own_tie = record { marks = h.end.marks; children = h.children }

      at_v : x ≡ v → IsTied gr w x i (far g x i) (far_port g x i)
      at_v e = ⊎_elim
          (λ (z : i ≡ p). subst (λ y. IsTied gr w y i (far g y i) (far_port g y i)) (sym e)
          (subst (λ y. IsTied gr w v y (far g v y) (far_port g v y)) (sym z) own_tie))
          (λ ne. whole (inr ne))
          (cases_eq i p)

  ports : (i : ℕ) → At g v i → IsOpen gr w v (w.queue v) i
  ports i is = record {
    kept = refl;
    end = ⊎_elim
        (λ (z : i ≡ p).
        subst (λ y. EndFits gr.keys g v y (at_port (w.node v) y) (at_port (w.node (far g v y)) (far_port g v y)) (w.queue v y)) (sym z) h.end)
        (λ ne. end_fits (h.links v i is (inr ne)))
        (cases_eq i p);
    full = λ plain. h.links v i is (inr (λ z. plain (subst (λ y. mark_at (w.node v) y ≡ Asked) (sym z) h.asked)));
    out_asked = λ o. subst (λ y. mark_at (w.node v) y ≡ Asked) (same_Some p i (sym h.out ∙ o)) h.asked;
    chose = λ least. h.out ∙ ap (λ y. Some y) (sym (one_port gr ok v i p is h.at (least_is_one least h.least)));
    not_up = λ x. not_up (port_at g v i).key x;
  }

  token : Token gr.keys g w l v
  token = record { node = v; place = Out; inside = Same; in_network = here; at = Gone_out p h.at refl h.out }

  entrance : Entrance gr w v name None (w.queue v)
  unfolding token
  entrance = record {
    here = here;
    rest = h.rest;
    class = class;
    core = subst (λ (x : Key). IsCore gr.keys l v x) (sym named) core;
    parent = root;
    all = h.all;
    tied = tied;
    links = λ x i is ne. h.links x i is (inl ne);
    ports = λ i is plain. ports i is;
    called = λ i is led. false_is_true led;
    token = token;
    held = λ e. out_waits e;
    out_end = λ q is o.
        let same : p ≡ q = same_Some p q (sym h.out ∙ o) in
        (subst (λ y. IsLeast gr.keys l v (port_at g v y).key) same h.least, own_end gr ok v q is);
    end_out = λ x least e. (p, h.at, h.out);
    passes = λ i is. refl;
  }
    where
      out_waits : Out ≡ Waits → ⊥
      out_waits x = cc

  -- with the ground, which every event keeps
  pub core_nearly : (w' : Net State Message) →
      Acts g w w' v (entered (w.node v) (entry (w.node v) (key_at (w.node v) p) None)) (w.queue v)
      (told_from (entry (w.node v) (key_at (w.node v) p) None) 0 (w.node v).ports) → Ground g w' → NearlyFits gr.keys g w' v
  core_nearly w' a ground = entered_nearly gr ok w w' v (key_at (w.node v) p) None (w.queue v) entrance a ground

-- a node that has come to a core by an act, and enters over it by the same
pub core_after : (gr : Shape) → IsGraph gr → (w mid w' : Net State Message) (v p : ℕ) (n : State) (own : ℕ → List Message) (s : Outgoing Message) →
    AboutToMeet gr mid v p → Acts (network_of gr) w mid v n own s →
    Acts (network_of gr) w w' v (entered n (entry n (key_at n p) None)) own (s ++ told_from (entry n (key_at n p) None) 0 n.ports) →
    Ground (network_of gr) w' → NearlyFits gr.keys (network_of gr) w' v
core_after gr ok w mid w' v p n own s h a b ground = core_nearly gr ok mid v p h w'
    (subst
    (λ (x : State).
    Acts (network_of gr) mid w' v (entered x (entry x (key_at x p) None)) (mid.queue v) (told_from (entry x (key_at x p) None) 0 x.ports))
    (sym a.node)
    (acts_on (network_of gr) w mid w' v n (entered n (entry n (key_at n p) None)) own s (told_from (entry n (key_at n p) None) 0 n.ports) a b))
    ground
