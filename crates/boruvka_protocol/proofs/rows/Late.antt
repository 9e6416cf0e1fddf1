-- A Connect of the level below comes late: its sender is called. What that keeps at the link, from both its ends.
use Rattle.std.proofs.Common.{◌≡◌, ℕ, suc, ◌+◌, inr, ⊎_elim, true, Some, None, List, [], ◌∷◌, ◌++◌, length, refl, sym, ◌∙◌, ap, subst, arith}
use Rattle.ghs_graph.specs.declared.key.Key.{Key}
use Rattle.ghs_graph.specs.Graph.{Shape, IsGraph}
use Rattle.ghs_graph.specs.Key.{ends_at}
use Rattle.ghs_graph.specs.Ports.{far_end}
use Rattle.ghs_graph.proofs.lemmas.Joining.{joined_then, joined_back}
use Rattle.boruvka_protocol.specs.Levels.{Taken, InClass, IsOfLevel}
use Rattle.boruvka_protocol.specs.Cores.{IsCore}
use Rattle.boruvka_protocol.proofs.lemmas.WaysOut.{next_of_level}
use Rattle.peer_network.specs.Network.{Network, network_of, port_at, far, far_port}
use Rattle.boruvka_node.specs.declared.mark.Mark.TheVariants.{Branch}
use Rattle.boruvka_node.specs.declared.message.Message.{Message}
use Rattle.boruvka_node.specs.declared.message.Message.TheVariants.{Connect, Initiate}
use Rattle.boruvka_node.specs.declared.message.Phase.{Phase}
use Rattle.boruvka_node.specs.declared.message.Phase.TheVariants.{Search, Rest}
use Rattle.boruvka_node.specs.Words.{is_basic}
use Rattle.boruvka_protocol.proofs.invariant.Words.{IsLeast, IsWayUp}
use Rattle.boruvka_protocol.proofs.invariant.Sides.{Side, AtPort, side_of, far_side_of, calls_in, initiates_in}
use Rattle.boruvka_protocol.proofs.invariant.Marks.{IsLate}
use Rattle.boruvka_protocol.proofs.invariant.Names.{AreNamesFrom, ToldFits}
use Rattle.boruvka_protocol.proofs.invariant.Connects.{HasAsked, Waits, Has_begun, HasChosen, Called}
use Rattle.boruvka_protocol.proofs.invariant.TreeMessages as tree
use Rattle.boruvka_protocol.proofs.invariant.TreeMessages.{CallFits, CallsFit}
use Rattle.boruvka_protocol.proofs.invariant.Whole.{LinkFits}
use Rattle.boruvka_protocol.proofs.Unlike.{branch_is_inside, branch_is_asked, branch_is_plain, true_is_false}
use Rattle.boruvka_protocol.proofs.levels.Chosen.{chosen_up}
use Rattle.boruvka_protocol.proofs.rows.Queues.{calls_append, names_before}
use Rattle.boruvka_protocol.proofs.rows.Parts.{none_by, chosen_far}
use Rattle.boruvka_protocol.proofs.rows.Leaving.{not_taken}
use Rattle.boruvka_protocol.proofs.rows.Noted.{basic_no_branch, first_connect}

-- the sender has become a child, and its Report is owed
abbrev pub adopted_at : AtPort → AtPort
adopted_at n = record n { port = record n.port { mark = Branch; owes = true } }

pub search_rest : {P : Type 0} (x : Phase) → x ≡ Search → x ≡ Rest → P
search_rest x s r = cc (s, r)

-- What waits for the sender, which is at rest and has gone out over the link: nothing.
module _ (ks : List Key) (s t : Side) (rest : s.phase ≡ Rest) (out : s.out ≡ Some s.port) (search : t.phase ≡ Search)
    (basic : is_basic t.mark ≡ true) (stays : t.out ≡ None) where
  not_asked : (m : ℕ) → HasAsked ks m s t → ⊥
  not_asked m (Waits lv o) = cc (stays, o)
  not_asked m (Has_begun lv least less mark) = basic_no_branch t.mark basic mark

  pub nothing_waits : (x : List Message) → CallsFit ks s t x → x ≡ []
  nothing_waits = none_by ks s t
      (λ m c. not_asked m c.chosen.sender)
      (λ l name d. basic_no_branch t.mark basic d.sender_mark)
      (λ k d. search_rest s.phase d.search rest)
      (λ d. cc (out, d.stays))

-- The link at port p of node v, which is in search with n there; its far end has m, and the Connect of the level below stands at the head.
module _ (gr : Shape) (ok : IsGraph gr) (v p c : ℕ) (n m : AtPort) (name : Key) (q r : List Message)
    (h : LinkFits gr.keys (network_of gr) v p n m (Connect c ∷ q) r) (level : suc c ≡ n.head.level) (basic : is_basic n.port.mark ≡ true)
    (search : n.head.phase ≡ Search) (stays : n.head.out ≡ None) (core : IsCore gr.keys c v name)
    (back : far_end (far (network_of gr) v p) (port_at (network_of gr) v p).key ≡ v)
    (ends : ends_at (far (network_of gr) v p) (port_at (network_of gr) v p).key ≡ true) where
  abbrev g : Network
  g = network_of gr

  abbrev u : ℕ
  u = far g v p

  abbrev k : Key
  k = (port_at g v p).key

  abbrev e : Side
  e = side_of g v p n

  abbrev f : Side
  f = far_side_of g v p m

  chosen : HasChosen gr.keys c e f
  chosen = (first_connect gr.keys e f c (calls_in q) h.calls).0.chosen

  pub taken : Taken gr.keys (suc c) k
  taken = inr (u, chosen.least)

  -- the far end chose it alone
  late : IsLate gr.keys c e f (calls_in (Connect c ∷ q))
  late = h.marks.late c (sym level) (subst (λ x. Taken gr.keys x k) level taken) (λ b. basic_no_branch n.port.mark basic b)

  alone : IsLeast gr.keys c v k → ⊥
  alone = late.alone

  -- so it waits, at rest
  pub sender_out : (m.head.level ≡ c) × (m.head.out ≡ Some (far_port g v p))
  sender_out = go chosen.sender
    where
      go : HasAsked gr.keys c e f → (m.head.level ≡ c) × (m.head.out ≡ Some (far_port g v p))
      go (Waits lv out) = (lv, out)
      go (Has_begun lv least less mark) = absurd (alone least)

  pub sender_rest : m.head.phase ≡ Rest
  sender_rest = ⊎_elim (λ lt. absurd (omega (arith, lt, sender_out.0))) (λ b. b.1) chosen.past

  -- the link is its way up
  pub up_there : IsWayUp gr.keys (suc c) u k
  up_there = chosen_up gr ok c u k proper chosen.least ends (subst (λ x. IsLeast gr.keys c x k → ⊥) (sym back) alone)
    where
      proper : IsOfLevel gr.keys (suc c) u
      proper = next_of_level gr.keys c u (k, chosen.least.link, chosen.least.leaves)

  pub untaken : Taken gr.keys c k → ⊥
  untaken = not_taken u k chosen.least.leaves

  -- behind it nothing more waits here
  pub none_behind : calls_in q ≡ []
  none_behind = go (calls_in q) h.calls
    where
      go : (x : List Message) → CallsFit gr.keys e f (Connect c ∷ x) → x ≡ []
      go _ (tree.Chosen _ a) = refl
      go _ (tree.Chosen_called _ l b a d) = search_rest n.head.phase search d.rest

  above : n.head.level ≡ c → ⊥
  above x = omega (arith, level, x)

  -- at the node that calls; r' is what waits at the far end, with the call
  pub late_near : (r' : List Message) → ◌≡◌ {A = ℕ} (initiates_in (calls_in r')) 1 → LinkFits gr.keys g v p (adopted_at n) m q r'
  late_near r' one = record {
    marks = record {
      branch = λ x. subst (λ y. Taken gr.keys y k) level taken;
      inside = λ x. branch_is_inside x;
      late = λ i lv t ne. absurd (ne refl);
      leads_out = λ b. branch_is_plain b;
    };
    names = record {
      said = h.names.said;
      next = h.names.next;
      all = record {
        at_most = h.names.all.at_most;
        basic = h.names.all.basic;
        aside = λ no. let a = h.names.all.aside no in record { apart = a.apart; far = a.far };
      };
      near = λ b. branch_is_plain b;
      rest = λ x. search_rest n.head.phase search x;
    };
    connects = record { asked = λ x. branch_is_asked x; out = λ x. cc (stays, x) };
    calls = subst (λ x. CallsFit gr.keys (side_of g v p (adopted_at n)) f x) (sym none_behind) tree.Nothing;
    children = record {
      child = λ up. record {
        level = omega (arith, level, sender_out.0);
        behind = λ x. record { search = search; rest = λ b. sender_rest; called = λ b. one };
        search = λ x. absurd (above (sym x ∙ sender_out.0));
        rest = λ x. search_rest n.head.phase search x;
      };
      parent = λ up. basic_no_branch n.port.mark basic (h.children.parent up).mark;
    };
    owes = record {
      child = λ o. (refl, subst (λ x. IsWayUp gr.keys x u k) level up_there);
      open_yet = λ o rep. ⊎_elim (λ lt. absurd (omega (arith, lt, level, sender_out.0))) (λ b. above (sym b.0 ∙ sender_out.0)) rep.past;
      heard = λ s b up no. true_is_false no;
      rest = λ ne. absurd (ne search);
    };
  }

  -- The same from the sender's end.
  module _ (hf : LinkFits gr.keys g u (far_port g v p) m n r (Connect c ∷ q)) (there : far g u (far_port g v p) ≡ v)
      (same_key : (port_at g u (far_port g v p)).key ≡ k) (same_class : InClass gr.keys (suc c) v u) where
    abbrev j : ℕ
    j = far_port g v p

    abbrev s : Side
    s = side_of g u j m

    abbrev t : Side
    t = far_side_of g u j n

    abbrev t' : Side
    t' = far_side_of g u j (adopted_at n)

    empty : calls_in r ≡ []
    empty = nothing_waits gr.keys s t sender_rest sender_out.1 search basic stays (calls_in r) hf.calls

    -- what waits for the sender now: the call
    pub called_alone : calls_in (r ++ Initiate n.head.level name ∷ []) ≡ Initiate n.head.level name ∷ []
    called_alone = calls_append r (Initiate n.head.level name ∷ []) ∙ ap (λ (x : List Message). x ++ Initiate n.head.level name ∷ []) empty

    up_at : IsWayUp gr.keys (suc m.head.level) u (port_at g u j).key
    up_at = subst (λ x. IsWayUp gr.keys (suc m.head.level) u x) (sym same_key)
        (subst (λ x. IsWayUp gr.keys (suc x) u k) (sym sender_out.0) up_there)

    -- nothing is taken there at the sender's level
    free : {P : Type 0} → Taken gr.keys m.head.level (port_at g u j).key → P
    free x = absurd (untaken (subst (λ y. Taken gr.keys c y) same_key (subst (λ y. Taken gr.keys y (port_at g u j).key) sender_out.0 x)))

    call : CallFits gr.keys n.head.level name s t'
    call = record {
      level = omega (arith, level, sender_out.0);
      core = subst (λ x. IsCore gr.keys x u name) (sym sender_out.0)
          (record { inside = joined_then (joined_back same_class) core.inside; of_a = core.of_a; of_b = core.of_b });
      up = up_at;
      rest = sender_rest;
      sender_level = omega (arith, level, sender_out.0);
      sender_search = search;
      sender_mark = refl;
      over = inr sender_out.1;
    }

    pub late_away : LinkFits gr.keys g u j m (adopted_at n) (r ++ Initiate n.head.level name ∷ []) q
    late_away = record {
      marks = record {
        branch = hf.marks.branch;
        inside = hf.marks.inside;
        late = λ i lv x ne. free x;
        leads_out = hf.marks.leads_out;
      };
      names = record {
        said = hf.names.said;
        next = subst (λ x. AreNamesFrom gr.keys t'.node m.port.level x) (sym (names_before r (Initiate n.head.level name ∷ []) refl)) hf.names.next;
        all = subst (λ x. ToldFits gr.keys s t' (m.port.level + length x)) (sym (names_before r (Initiate n.head.level name ∷ []) refl))
            (record {
              at_most = hf.names.all.at_most;
              basic = λ b. branch_is_plain b;
              aside = λ no. let a = hf.names.all.aside no in record { apart = a.apart; far = a.far };
            });
        near = hf.names.near;
        rest = hf.names.rest;
      };
      connects = record {
        asked = λ x.
            chosen_far gr.keys g u j n (record n.port { mark = Branch; owes = true }) n.head.out s (λ o. o) (λ b. refl) m.head.level
            (hf.connects.asked x);
        out = λ x.
            let o = hf.connects.out x in
            record {
              least = o.least;
              rest = o.rest;
              basic = o.basic;
              answer =
                  Called (first_connect gr.keys e f c (calls_in q) h.calls).1 refl (omega (arith, level, sender_out.0)) up_at
                  (ap (λ y. initiates_in y) called_alone);
              greater = o.greater;
            };
      };
      calls = subst (λ x. CallsFit gr.keys s t' x) (sym called_alone) (tree.Called n.head.level name call);
      children = record { child = λ up. free up.up.link; parent = λ up. free up.up.link };
      owes = record {
        child = hf.owes.child;
        open_yet = λ o. free (hf.owes.child o).1.up.link;
        heard = λ x b up. free up.up.link;
        rest = hf.owes.rest;
      };
    }
