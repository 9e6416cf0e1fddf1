-- A node goes out over a port: what that keeps at each of its links, from both ends. The node stands at port i with n there, and goes out over p.
use Rattle.std.proofs.Common.{◌≡◌, ◌↔◌, ℕ, ◌+◌, Option, Some, None, List, length, sym, ◌∙◌, subst, arith}
use Rattle.ghs_graph.specs.declared.key.Key.{Key}
use Rattle.peer_network.specs.Network.{Network, far_port}
use Rattle.boruvka_node.specs.declared.message.Message.{Message}
use Rattle.boruvka_protocol.proofs.invariant.Sides.{Side, AtPort, side_of, far_side_of, Told, calls_in, names_in, connects_in, initiates_in, reports_in, passes_in}
use Rattle.boruvka_protocol.proofs.invariant.Names.{AreNamesFrom, ToldFits}
use Rattle.boruvka_protocol.proofs.invariant.Connects.{HasChosen, Answered, Comes, Noted, Called, OutFits}
use Rattle.boruvka_protocol.proofs.invariant.TreeMessages as tree
use Rattle.boruvka_protocol.proofs.invariant.TreeMessages.{CallFits, CallsFit}
use Rattle.boruvka_protocol.proofs.invariant.Children.{ChildrenFit}
use Rattle.boruvka_protocol.proofs.invariant.Search.{OwesFit}
use Rattle.boruvka_protocol.proofs.invariant.Whole.{LinkFits}
use Rattle.boruvka_protocol.proofs.rows.Parts.{chosen_near, call_near, chosen_far}
use Rattle.boruvka_protocol.proofs.rows.EntersDown.{EndFits}

-- a node that has gone out over p, at any of its ports
abbrev pub gone_at : ℕ → AtPort → AtPort
gone_at p n = record n { head = record n.head { out = Some p } }

pub none_some : {P : Type 0} {A : Type 0} {x : Option A} (y : A) → x ≡ None → x ≡ Some y → P
none_some y a b = cc (a, b)

module _ (ks : List Key) (g : Network) (p v i : ℕ) (n m : AtPort) (stays : n.head.out ≡ None) where
  -- from the node itself: r' waits at the far end now
  module _ (q r r' : List Message) (h : LinkFits ks g v i n m q r) where
    abbrev e : Side
    e = side_of g v i n

    abbrev e' : Side
    e' = side_of g v i (gone_at p n)

    abbrev f : Side
    f = far_side_of g v i m

    module _ (no_pass : ◌≡◌ {A = ℕ} (passes_in (calls_in q)) 0)
        (calls_there : ◌≡◌ {A = ℕ} (initiates_in (calls_in r)) (initiates_in (calls_in r'))) where
      chosen : {k : ℕ} → HasChosen ks k e f → HasChosen ks k e' f
      chosen {k} c = chosen_near ks g v i n (gone_at p n) f k c

      called : {k : ℕ} {name : Key} → CallFits ks k name e f → CallFits ks k name e' f
      called {k} {name} d = call_near ks g v i n n.port (Some p) f (λ o. none_some i stays o) k name d

      calls_near : (x : List Message) → ◌≡◌ {A = ℕ} (passes_in x) 0 → CallsFit ks e f x → CallsFit ks e' f x
      calls_near _ z tree.Nothing = tree.Nothing
      calls_near _ z (tree.Chosen k c) = tree.Chosen k (record { chosen = chosen c.chosen; finds = c.finds })
      calls_near _ z (tree.Called k name d) = tree.Called k name (called d)
      calls_near _ z (tree.Chosen_called j k name c d) =
          tree.Chosen_called j k name (record { chosen = chosen c.chosen; finds = c.finds }) (called d)
      calls_near _ z (tree.Reported k d) = tree.Reported k
          (record { up = d.up; sender_level = d.sender_level; sender_rest = d.sender_rest; search = d.search; mark = d.mark; sub = d.sub })
      calls_near _ z (tree.Passed d) = absurd (omega (arith, z))

      -- all but what became of the Connect
      pub gone_end : EndFits ks g v i (gone_at p n) m q
      gone_end = record {
        marks = record {
          branch = h.marks.branch;
          inside = h.marks.inside;
          late = λ k lv t ne.
              let a = h.marks.late k lv t ne in
              record { basic = a.basic; search = a.search; chosen = a.chosen; alone = a.alone; level = a.level; connect = a.connect };
          leads_out = h.marks.leads_out;
        };
        names = record {
          said = h.names.said;
          next = h.names.next;
          all = record {
            at_most = h.names.all.at_most;
            basic = h.names.all.basic;
            aside = λ no. let a = h.names.all.aside no in record { apart = a.apart; far = a.far };
          };
          near = h.names.near;
          rest = h.names.rest;
        };
        asked = λ x. chosen (h.connects.asked x);
        calls = calls_near (calls_in q) no_pass h.calls;
      }

      pub gone_children : ChildrenFit ks e' f (calls_in q) (calls_in r')
      gone_children = record {
        child = λ up.
            let c = h.children.child up in
            record {
              level = c.level;
              behind = λ z.
                  let b = c.behind z in
                  record { search = b.search; rest = b.rest; called = λ x. subst (λ y. ◌≡◌ {A = ℕ} y 1) calls_there (b.called x) };
              search = c.search;
              rest = c.rest;
            };
        parent = λ up. let c = h.children.parent up in record { level = c.level; mark = c.mark; far_mark = c.far_mark };
      }

      gone_owes : OwesFit ks e' f n.port.owes (calls_in q)
      gone_owes = record { child = h.owes.child; open_yet = h.owes.open_yet; heard = h.owes.heard; rest = h.owes.rest }

      pub gone_near : (e'.out ≡ Some e'.port → OutFits ks e' f (calls_in q) (calls_in r')) → LinkFits ks g v i (gone_at p n) m q r'
      gone_near out = record {
        marks = gone_end.marks;
        names = gone_end.names;
        connects = record { asked = gone_end.asked; out = out };
        calls = gone_end.calls;
        children = gone_children;
        owes = gone_owes;
      }

-- From the far end: its port is v's i, with m there, and the node that goes out has n. In its queue q' waits now.
module _ (ks : List Key) (g : Network) (p v i : ℕ) (m n : AtPort) (stays : n.head.out ≡ None) (q q' r : List Message)
    (h : LinkFits ks g v i m n q r) where
  abbrev s : Side
  s = side_of g v i m

  abbrev t : Side
  t = far_side_of g v i n

  abbrev t' : Side
  t' = far_side_of g v i (gone_at p n)

  module _ (same_names : names_in q ≡ names_in q') (same_calls : ◌≡◌ {A = ℕ} (initiates_in (calls_in q)) (initiates_in (calls_in q')))
      (same_reports : ◌≡◌ {A = ℕ} (reports_in (calls_in q)) (reports_in (calls_in q')))
      (connect : (t.out ≡ Some t.port) ↔ (◌≡◌ {A = ℕ} (connects_in (calls_in q)) 1) →
      (t'.out ≡ Some t'.port) ↔ (◌≡◌ {A = ℕ} (connects_in (calls_in q')) 1))
      (calls : CallsFit ks s t' (calls_in q')) where
    answer_away : Answered ks s t (calls_in q) (calls_in r) → Answered ks s t' (calls_in q') (calls_in r)
    answer_away (Comes one ne) = Comes one ne
    answer_away (Noted none mark lv) = Noted none mark lv
    answer_away (Called none mark lv up one) = Called none mark lv up (sym same_calls ∙ one)

    told_away : ToldFits ks s t' (m.port.level + length (names_in q))
    told_away = record {
      at_most = h.names.all.at_most;
      basic = h.names.all.basic;
      aside = λ no. let a = h.names.all.aside no in record { apart = a.apart; far = a.far };
    }

    pub gone_away : LinkFits ks g v i m (gone_at p n) q' r
    gone_away = record {
      marks = record {
        branch = h.marks.branch;
        inside = h.marks.inside;
        late = λ k lv x ne.
            let a = h.marks.late k lv x ne in
            record { basic = a.basic; search = a.search; chosen = a.chosen; alone = a.alone; level = a.level; connect = connect a.connect };
        leads_out = h.marks.leads_out;
      };
      names = record {
        said = h.names.said;
        next = subst (λ (x : List Told). AreNamesFrom ks t.node m.port.level x) same_names h.names.next;
        all = subst (λ (x : List Told). ToldFits ks s t' (m.port.level + length x)) same_names told_away;
        near = h.names.near;
        rest = h.names.rest;
      };
      connects = record {
        asked = λ x.
            chosen_far ks g v i n n.port (Some p) s (λ o. none_some (far_port g v i) stays o) (λ b. b) m.head.level (h.connects.asked x);
        out = λ x.
            let o = h.connects.out x in
            record { least = o.least; rest = o.rest; basic = o.basic; answer = answer_away o.answer; greater = o.greater };
      };
      calls = calls;
      children = record {
        child = λ up.
            let c = h.children.child up in
            record {
              level = c.level;
              behind = λ z. let b = c.behind z in record { search = b.search; rest = b.rest; called = b.called };
              search = c.search;
              rest = λ z. let b = c.rest z in record { past = b.past; heard = λ y. sym same_reports ∙ b.heard y };
            };
        parent = λ up. let c = h.children.parent up in record { level = c.level; mark = c.mark; far_mark = c.far_mark };
      };
      owes = record {
        child = h.owes.child;
        open_yet = λ o b. h.owes.open_yet o (record { past = b.past; heard = λ y. same_reports ∙ b.heard y });
        heard = λ x b up o. let c = h.owes.heard x b up o in record { past = c.past; heard = λ y. sym same_reports ∙ c.heard y };
        rest = h.owes.rest;
      };
    }
