-- A node is called: it enters the next level, and all clauses hold behind it, but that it may wait for nothing.
use Rattle.std.proofs.Common.{◌≡◌, ◌≢◌, ℕ, zero, suc, ◌==◌, ◌||◌, Bool, true, false, Option, Some, List, ◌∷◌, inl, refl, sym, ◌∙◌, ap, subst, cond, ⊎_elim, arith, eqb-true, eq-eqb}
use Rattle.std.proofs.lemmas.Bool.{both_ways}
use Rattle.ghs_graph.specs.declared.key.Key.{Key}
use Rattle.ghs_graph.specs.Key.{ends_at}
use Rattle.ghs_graph.specs.Graph.{Shape, IsGraph}
use Rattle.ghs_graph.specs.Links.{Same}
use Rattle.ghs_graph.proofs.lemmas.Joining.{joined_back}
use Rattle.ghs_node.specs.Words.{is_at}
use Rattle.boruvka_protocol.specs.Levels.{Taken, IsOfLevel}
use Rattle.boruvka_protocol.proofs.lemmas.WaysUp.{level_at, top_at}
use Rattle.peer_network.specs.Network.{Network, network_of, port_at, At, InNetwork, far, far_port}
use Rattle.peer_network.proofs.lemmas.Wired.{IsWired}
use Rattle.peer_network.proofs.lemmas.Graphs.{graph_wired, port_ends}
use Rattle.peer_network.proofs.lemmas.Updates.{put_same, put_other}
use Rattle.peer_network.proofs.lemmas.Wires.{at_in}
use Rattle.peer_machine.specs.Net.{Net, put, reacted, take_first}
use Rattle.boruvka_node.specs.declared.mark.Mark.{Mark}
use Rattle.boruvka_node.specs.declared.mark.Mark.TheVariants.{Branch}
use Rattle.boruvka_node.specs.declared.message.Message.{Message}
use Rattle.boruvka_node.specs.declared.message.Message.TheVariants.{Initiate}
use Rattle.boruvka_node.specs.Words.{is_asked}
use Rattle.boruvka_node.specs.State.{State, mark_at}
use Rattle.boruvka_node.specs.Entering.{joined_mark, entered, told_from}
use Rattle.boruvka_node.specs.Reaction.{Outcome}
use Rattle.boruvka_node.specs.Boruvka.{boruvka}
use Rattle.boruvka_protocol.proofs.invariant.Words.{IsLeast, IsWayUp}
use Rattle.boruvka_protocol.proofs.invariant.Sides.{AtPort, at_port, side_of, far_side_of, calls_in, passes_in}
use Rattle.boruvka_protocol.proofs.invariant.TreeMessages.{CallFits}
use Rattle.boruvka_protocol.proofs.invariant.Token.{Out, On, Waits, Gone_out, Token}
use Rattle.boruvka_protocol.proofs.invariant.Whole.{Ground, LinkFits, Fits, NearlyFits}
use Rattle.boruvka_protocol.proofs.Unlike.{search_is_sleeping}
use Rattle.boruvka_protocol.proofs.every_run.Ground.{ground_taken}
use Rattle.boruvka_protocol.proofs.rows.Grows.{grows_entered}
use Rattle.boruvka_protocol.proofs.rows.Acts.{Acts, acts_taken, fits_like, far_link}
use Rattle.boruvka_protocol.proofs.rows.Others.{taken_like}
use Rattle.boruvka_protocol.proofs.rows.Leaving.{joined_ends, not_taken}
use Rattle.boruvka_protocol.proofs.rows.Late.{search_rest}
use Rattle.boruvka_protocol.proofs.rows.OwnPorts.{port_below, own_key, own_end}
use Rattle.boruvka_protocol.proofs.rows.Above.{AllTied, AreOfLevels, are_of_levels, token_gone_on}
use Rattle.boruvka_protocol.proofs.rows.EntersDown.{end_fits}
use Rattle.boruvka_protocol.proofs.rows.EntersUp.{first_call, up_near, up_away}
use Rattle.boruvka_protocol.proofs.rows.Enters.{entry, joins}
use Rattle.boruvka_protocol.proofs.rows.Entered.{IsOpen, IsParent, Entrance, entered_nearly}
use Rattle.boruvka_protocol.proofs.levels.OneWay.{one_way_up, one_port}
use Rattle.boruvka_protocol.proofs.levels.UpOnce.{up_of_one}
use Rattle.boruvka_protocol.proofs.follows.Cases.{by_branch}
use Rattle.boruvka_protocol.proofs.follows.Called.{called_over_out}

-- a node that enters, and tells its neighbours, before it looks whether its search is over
abbrev pub enters_only : State → Key → Option ℕ → Outcome
enters_only n c up = record { state = entered n (entry n c up); sends = told_from (entry n c up) 0 n.ports }

-- the port that the node went out on is joined
joins_out : (n : State) (c : Key) (up : Option ℕ) (i : ℕ) (m : Mark) → n.head.out ≡ Some i → joined_mark (entry n c up) i m ≡ Branch
joins_out n c up i m o = ap (λ (x : Option ℕ). let y : Mark = cond (is_at x i || is_asked m) Branch m in y) o
    ∙ ap (λ (x : Bool). let y : Mark = cond (x || is_asked m) Branch m in y) (eq-eqb i i refl)

module _ (gr : Shape) (ok : IsGraph gr) (w : Net State Message) (v j a : ℕ) (c : Key) (ms : List Message) (at : At (network_of gr) v j)
    (fits : Fits gr.keys (network_of gr) w) (waits : w.queue v j ≡ Initiate a c ∷ ms) where
  abbrev g : Network
  g = network_of gr

  wired : IsWired g
  wired = graph_wired gr ok

  here : InNetwork g v
  here = at_in at

  abbrev l : ℕ
  l = (w.node v).head.level

  abbrev u : ℕ
  u = far g v j

  abbrev k : Key
  k = (port_at g v j).key

  abbrev n : AtPort
  n = at_port (w.node v) j

  abbrev m : AtPort
  m = at_port (w.node u) (far_port g v j)

  abbrev r : List Message
  r = w.queue u (far_port g v j)

  link : LinkFits gr.keys g v j n m (Initiate a c ∷ ms) r
  link = fits_like g wired gr.keys refl refl waits refl (fits.links v j at)

  link_there : LinkFits gr.keys g u (far_port g v j) m n r (Initiate a c ∷ ms)
  link_there = fits_like g wired gr.keys refl refl refl waits (far_link g wired gr.keys w fits.links v j at)

  pub call : CallFits gr.keys a c (side_of g v j n) (far_side_of g v j m)
  call = (first_call gr.keys (side_of g v j n) (far_side_of g v j m) a c (calls_in ms) link.calls).0

  taken : Taken gr.keys (suc l) k
  taken = call.up.up.link

  far_net : InNetwork g u
  far_net = at_in (wired.there v j at)

  classes : AreOfLevels gr w
  classes = are_of_levels gr w fits.ground fits.nodes

  class_there : IsOfLevel gr.keys (suc l) u
  class_there = subst (λ x. IsOfLevel gr.keys x u) call.sender_level (classes u far_net (let lv = call.sender_level in omega (arith, lv)))

  class : IsOfLevel gr.keys (suc l) v
  class = level_at gr.keys (suc l) u v (joined_back (joined_ends v u k (port_ends gr ok v j at) taken)) class_there

  one_way : IsWayUp gr.keys (suc l) u k → ⊥
  one_way w = up_of_one gr ok (suc l) v u k class (port_ends gr ok v j at) call.up w

  tied : AllTied gr w
  tied x i is = let h = fits.links x i is in record { marks = h.marks; children = h.children }

  abbrev own : ℕ → List Message
  own = put (w.queue v) j ms

  -- another port has another key
  other_key : (i : ℕ) → At g v i → i ≢ j → (port_at g v i).key ≡ k → ⊥
  other_key i is ne e = ne (one_port gr ok v i j is at e)

  -- what the node chose itself is its way up
  own_is_up : (x : Key) → IsLeast gr.keys l v x → ends_at v x ≡ true → x ≡ k
  own_is_up x least e = called_over_out gr ok l v x k class least e call.up

  ports : (i : ℕ) → At g v i → is_at (Some j) i ≡ false → IsOpen gr w v own i
  ports i is plain = record {
    kept = sym (put_other (w.queue v) j i ms other);
    end = end_fits (fits.links v i is);
    full = λ ne. fits.links v i is;
    out_asked = λ o. absurd (none ((fits.links v i is).connects.out o).least);
    chose = λ least. absurd (none least);
    not_up = λ x. other_key i is other (one_way_up gr ok (suc l) v (port_at g v i).key k class x call.up);
  }
    where
      other : i ≢ j
      other e = both_ways (j == i) plain (eq-eqb j i (sym e))

      none : IsLeast gr.keys l v (port_at g v i).key → ⊥
      none least = other_key i is other (own_is_up (port_at g v i).key least (own_end gr ok v i is))

  joined : joined_mark (entry (w.node v) c (Some j)) j (mark_at (w.node v) j) ≡ Branch
  joined = ⊎_elim in_class (λ o. joins_out (w.node v) c (Some j) j (mark_at (w.node v) j) o) call.over
    where
      in_class : Taken gr.keys l k → joined_mark (entry (w.node v) c (Some j)) j (mark_at (w.node v) j) ≡ Branch
      in_class t =
          joins (entry (w.node v) c (Some j)) j (mark_at (w.node v) j) (inl (by_branch (mark_at (w.node v) j) (λ b. b) (λ ne. late l refl t ne)))
        where
          late : {P : Type 0} (x : ℕ) → l ≡ x → Taken gr.keys x k → mark_at (w.node v) j ≢ Branch → P
          late zero e t ne = absurd t
          late (suc i) e t ne = search_rest (w.node v).head.phase
              (link.marks.late i e (subst (λ y. Taken gr.keys y k) (sym e) t) ne).search call.rest

  parent_at : IsParent gr w v c (Some j) own j
  parent_at = record {
    joined = joined;
    near = fits_like g wired gr.keys refl refl (sym (put_same (w.queue v) j ms)) refl
        (up_near gr.keys g v j a c (Some j) n m ms r link link_there (wired.same_key v j at) one_way);
    away = fits_like g wired gr.keys refl refl refl (sym (put_same (w.queue v) j ms))
        (up_away gr.keys g v j a c (Some j) n m ms r link link_there (wired.same_key v j at) one_way);
    one_way = one_way;
  }

  -- the token of its class has gone out here, or on from below
  record Held : Type 0 where
    token : Token gr.keys g w l v
    held : token.place ≢ Waits
    end_out : (x : Key) → IsLeast gr.keys l v x → ends_at v x ≡ true → (p : ℕ) × At g v p × ((w.node v).head.out ≡ Some p)

  held : Held
  held = ⊎_elim below out call.over
    where
      below : Taken gr.keys l k → Held
      below t = record {
        token = gone.0;
        held = λ e. on_waits (sym gone.1 ∙ e);
        end_out = λ x least e. absurd (not_taken v k (subst (λ (y : Key). IsLeast gr.keys l v y) (own_is_up x least e) least).leaves t);
      }
        where
          gone : (t : Token gr.keys g w l v) × (t.place ≡ On)
          gone = token_gone_on gr w ok tied classes l v u call.up.root
              (top_at gr.keys (suc l) v u call.up.root (joined_ends v u k (port_ends gr ok v j at) taken) call.up.top) class_there
              (joined_ends v u k (port_ends gr ok v j at) t) far_net call.sender_level call.sender_search

          on_waits : On ≡ Waits → ⊥
          on_waits x = cc

      out : (w.node v).head.out ≡ Some j → Held
      out o = record {
        token = record { node = v; place = Out; inside = Same; in_network = here; at = Gone_out j at refl o };
        held = λ e. out_waits e;
        end_out = λ x least e. (j, at, o);
      }
        where
          out_waits : Out ≡ Waits → ⊥
          out_waits x = cc

  entrance : Entrance gr w v c (Some j) own
  entrance = record {
    here = here;
    rest = call.rest;
    class = class;
    core = call.core;
    parent = (
      port_below (fits.ground.nodes v) j at,
      subst (λ x. IsWayUp gr.keys (suc l) v x) (sym (own_key (fits.ground.nodes v) j at)) call.up,
    );
    all = record { ground = fits.ground; nodes = fits.nodes; search = fits.search; lacks = fits.lacks; tokens = fits.tokens };
    tied = tied;
    links = λ x i is ne. fits.links x i is;
    ports = ports;
    called = λ i is led. subst (λ x. IsParent gr w v c (Some j) own x) (eqb-true j i led) parent_at;
    token = held.token;
    held = held.held;
    out_end = λ p is o. (((fits.links v p is).connects.out o).least, own_end gr ok v p is);
    end_out = held.end_out;
    passes = λ i is. taken_like (λ q. passes_in q) (w.queue v) j (Initiate a c) ms waits refl i;
  }

  abbrev pub after_call : Net State Message
  after_call = reacted boruvka g v (enters_only (w.node v) c (Some j)) (take_first boruvka g v j (Initiate a c) ms w)

  acts : Acts g w after_call v (entered (w.node v) (entry (w.node v) c (Some j))) own (told_from (entry (w.node v) c (Some j)) 0 (w.node v).ports)
  acts = acts_taken g wired w v j (Initiate a c) ms (enters_only (w.node v) c (Some j))

  call_ground : Ground g after_call
  call_ground = ground_taken g wired w v j (Initiate a c) ms (enters_only (w.node v) c (Some j)) fits.ground at waits
      (grows_entered (w.node v) (entry (w.node v) c (Some j)) (omega arith), λ s. search_is_sleeping s)

  -- row Called: all holds where it has entered, and hasn't looked yet whether its search is over
  pub called_nearly : NearlyFits gr.keys g after_call v
  called_nearly = entered_nearly gr ok w after_call v c (Some j) own entrance acts call_ground
