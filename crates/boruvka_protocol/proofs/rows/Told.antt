-- A Report comes in: what that keeps at the link, from both its ends. The node n stands at port p of v, and its far end has m.
use Rattle.std.proofs.Common.{◌≡◌, ℕ, inr, false, Option, List, [], ◌∷◌, refl, sym, ap, subst}
use Rattle.ghs_graph.specs.declared.key.Key.{Key}
use Rattle.ghs_node.specs.Words.{Best}
use Rattle.peer_network.specs.Network.{Network}
use Rattle.boruvka_node.specs.declared.message.Message.{Message}
use Rattle.boruvka_node.specs.declared.message.Message.TheVariants.{Report}
use Rattle.boruvka_protocol.proofs.invariant.Sides.{Side, AtPort, side_of, far_side_of, calls_in, reports_in}
use Rattle.boruvka_protocol.proofs.invariant.Connects.{Answered, Comes, Noted, Called}
use Rattle.boruvka_protocol.proofs.invariant.TreeMessages as tree
use Rattle.boruvka_protocol.proofs.invariant.TreeMessages.{ReportFits, CallsFit}
use Rattle.boruvka_protocol.proofs.invariant.Whole.{LinkFits}
use Rattle.boruvka_protocol.proofs.Unlike.{false_is_true}
use Rattle.boruvka_protocol.proofs.rows.Late.{search_rest}

-- the Report isn't owed any more, and best may be another
abbrev pub reported_at : AtPort → Best → AtPort
reported_at n b = record { port = record n.port { owes = false }; head = record n.head { best = b } }

module _ (ks : List Key) where
  -- what a Report at the head of a queue says; nothing more waits behind it but Names
  pub first_report : (e f : Side) (w : Option Key) (rest : List Message) → CallsFit ks e f (Report w ∷ rest) → ReportFits ks w e f × (rest ≡ [])
  first_report e f w _ (tree.Reported _ d) = (d, refl)

  module _ (g : Network) (v p : ℕ) (b : Best) (w : Option Key) (n m : AtPort) (q r : List Message) (h : LinkFits ks g v p n m (Report w ∷ q) r) where
    abbrev e : Side
    e = side_of g v p n

    abbrev f : Side
    f = far_side_of g v p m

    pub report : ReportFits ks w e f
    report = (first_report e f w (calls_in q) h.calls).0

    empty : [] ≡ calls_in q
    empty = sym (first_report e f w (calls_in q) h.calls).1

    pub report_near : LinkFits ks g v p (reported_at n b) m q r
    report_near = record {
      marks = record {
        branch = h.marks.branch;
        inside = h.marks.inside;
        late = λ i lv t ne.
            let a = h.marks.late i lv t ne in
            record { basic = a.basic; search = a.search; chosen = a.chosen; alone = a.alone; level = a.level; connect = a.connect };
        leads_out = h.marks.leads_out;
      };
      names = h.names;
      connects = record { asked = h.connects.asked; out = λ x. search_rest n.head.phase report.search (h.connects.out x).rest };
      calls = subst (λ x. CallsFit ks e f x) empty tree.Nothing;
      children = record {
        child = λ up.
            let c = h.children.child up in
            record { level = c.level; behind = c.behind; search = c.search; rest = λ x. search_rest n.head.phase report.search x };
        parent = h.children.parent;
      };
      owes = record {
        child = λ o. false_is_true o;
        open_yet = λ o. false_is_true o;
        heard = λ s x up o. record {
          past = inr (report.sender_level, report.sender_rest);
          heard = λ y. sym (ap (λ (z : List Message). reports_in z) empty);
        };
        rest = λ ne. refl;
      };
    }

  -- The same from the child's end.
  module _ (g : Network) (v p : ℕ) (b : Best) (w : Option Key) (m n : AtPort) (r q : List Message) (h : LinkFits ks g v p m n r (Report w ∷ q)) where
    answer_like : Answered ks (side_of g v p m) (far_side_of g v p n) (calls_in r) (calls_in (Report w ∷ q)) →
        Answered ks (side_of g v p m) (far_side_of g v p n) (calls_in r) (calls_in q)
    answer_like (Comes one ne) = Comes one ne
    answer_like (Noted none mark lv) = Noted none mark lv
    answer_like (Called none mark lv up one) = Called none mark lv up one

    pub report_away : LinkFits ks g v p m (reported_at n b) r q
    report_away = record {
      marks = h.marks;
      names = h.names;
      connects = record {
        asked = h.connects.asked;
        out = λ x.
            let o = h.connects.out x in
            record { least = o.least; rest = o.rest; basic = o.basic; answer = answer_like o.answer; greater = o.greater };
      };
      calls = h.calls;
      children = record {
        child = λ up.
            let c = h.children.child up in
            record {
              level = c.level;
              behind = λ z. let d = c.behind z in record { search = d.search; rest = d.rest; called = d.called };
              search = c.search;
              rest = c.rest;
            };
        parent = h.children.parent;
      };
      owes = h.owes;
    }
