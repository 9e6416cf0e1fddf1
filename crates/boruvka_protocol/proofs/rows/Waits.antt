-- A link with the same at its ends, where other messages wait that read alike.
use Rattle.std.proofs.Common.{◌≡◌, ℕ, List, sym, ◌∙◌, subst}
use Rattle.ghs_graph.specs.declared.key.Key.{Key}
use Rattle.peer_network.specs.Network.{Network}
use Rattle.boruvka_node.specs.declared.message.Message.{Message}
use Rattle.boruvka_protocol.proofs.invariant.Sides.{Side, AtPort, side_of, far_side_of, heard_at, Told, calls_in, names_in, connects_in, initiates_in, reports_in}
use Rattle.boruvka_protocol.proofs.invariant.Names.{NamesFit}
use Rattle.boruvka_protocol.proofs.invariant.Connects.{Answered, Comes, Noted, Called}
use Rattle.boruvka_protocol.proofs.invariant.TreeMessages.{CallsFit}
use Rattle.boruvka_protocol.proofs.invariant.Whole.{LinkFits}

-- as many Connects, Initiates and Reports
pub record ReadsAs (q q' : List Message) : Type 0 where
  pub names : names_in q ≡ names_in q'
  pub connects : ◌≡◌ {A = ℕ} (connects_in (calls_in q)) (connects_in (calls_in q'))
  pub initiates : ◌≡◌ {A = ℕ} (initiates_in (calls_in q)) (initiates_in (calls_in q'))
  pub reports : ◌≡◌ {A = ℕ} (reports_in (calls_in q)) (reports_in (calls_in q'))

module _ (ks : List Key) (g : Network) (v p : ℕ) (n m : AtPort) (q q' r r' : List Message) (h : LinkFits ks g v p n m q r)
    (own : ReadsAs q q') (away : ReadsAs r r') where
  abbrev e : Side
  e = side_of g v p n

  abbrev f : Side
  f = far_side_of g v p m

  answer_as : Answered ks e f (calls_in q) (calls_in r) → Answered ks e f (calls_in q') (calls_in r')
  answer_as (Comes one ne) = Comes (sym away.connects ∙ one) ne
  answer_as (Noted none mark lv) = Noted (sym away.connects ∙ none) mark lv
  answer_as (Called none mark lv up one) = Called (sym away.connects ∙ none) mark lv up (sym own.initiates ∙ one)

  -- where what waits fits by itself
  pub waits_as : CallsFit ks e f (calls_in q') → LinkFits ks g v p n m q' r'
  waits_as calls = record {
    marks = record {
      branch = h.marks.branch;
      inside = h.marks.inside;
      late = λ k lv x ne.
          let a = h.marks.late k lv x ne in
          record {
            basic = a.basic;
            search = a.search;
            chosen = a.chosen;
            alone = a.alone;
            level = a.level;
            connect = (λ o. sym own.connects ∙ a.connect.0 o, λ one. a.connect.1 (own.connects ∙ one));
          };
      leads_out = h.marks.leads_out;
    };
    names = subst (λ (x : List Told). NamesFit ks e f (heard_at n) x) own.names h.names;
    connects = record {
      asked = h.connects.asked;
      out = λ x.
          let o = h.connects.out x in
          record { least = o.least; rest = o.rest; basic = o.basic; answer = answer_as o.answer; greater = o.greater };
    };
    calls = calls;
    children = record {
      child = λ up.
          let c = h.children.child up in
          record {
            level = c.level;
            behind = λ z. let b = c.behind z in record { search = b.search; rest = b.rest; called = λ x. sym away.initiates ∙ b.called x };
            search = c.search;
            rest = λ z. let b = c.rest z in record { past = b.past; heard = λ y. sym own.reports ∙ b.heard y };
          };
      parent = h.children.parent;
    };
    owes = record {
      child = h.owes.child;
      open_yet = λ o b. h.owes.open_yet o (record { past = b.past; heard = λ y. own.reports ∙ b.heard y });
      heard = λ x b up o. let c = h.owes.heard x b up o in record { past = c.past; heard = λ y. sym own.reports ∙ c.heard y };
      rest = h.owes.rest;
    };
  }
