-- A sleeper wakes, before it goes out: what that keeps at each of its links, from both ends.
use Rattle.std.proofs.Common.{ℕ, inl, ⊎_elim, List, refl, sym, subst, arith}
use Rattle.ghs_graph.specs.declared.key.Key.{Key}
use Rattle.boruvka_protocol.specs.Levels.{Taken}
use Rattle.peer_network.specs.Network.{Network}
use Rattle.boruvka_node.specs.declared.message.Message.{Message}
use Rattle.boruvka_node.specs.declared.message.Phase.TheVariants.{Sleeping, Rest}
use Rattle.boruvka_node.specs.State.{fresh_port, untouched}
use Rattle.boruvka_protocol.proofs.invariant.Words.{IsPast}
use Rattle.boruvka_protocol.proofs.invariant.Sides.{Side, AtPort, side_of, far_side_of, calls_in}
use Rattle.boruvka_protocol.proofs.invariant.Connects.{Answered, Comes, Noted, Called}
use Rattle.boruvka_protocol.proofs.invariant.Whole.{LinkFits}
use Rattle.boruvka_protocol.proofs.Unlike.{rest_is_search, sleeping_is_search, sleeping_is_rest, basic_is_branch, basic_is_inside, basic_is_asked, false_is_true, none_is_some}
use Rattle.boruvka_protocol.proofs.rows.Parts.{calls_by, chosen_near}

-- a sleeper at each of its ports, and the same awake
abbrev pub asleep_at : AtPort
asleep_at = record { port = fresh_port; head = untouched }

abbrev pub woken_at : AtPort
woken_at = record { port = fresh_port; head = record untouched { phase = Rest } }

-- no sleeper is past a level
pub asleep_past : {P : Type 0} (m : ℕ) → IsPast m 0 Sleeping → P
asleep_past m h = ⊎_elim (λ lt. absurd (omega (arith, lt))) (λ b. sleeping_is_rest b.1) h

module _ (ks : List Key) (g : Network) (v i : ℕ) (m : AtPort) (q r : List Message) where
  module _ (h : LinkFits ks g v i asleep_at m q r) where
    abbrev e : Side
    e = side_of g v i asleep_at

    abbrev e' : Side
    e' = side_of g v i woken_at

    abbrev f : Side
    f = far_side_of g v i m

    pub woken_near : LinkFits ks g v i woken_at m q r
    woken_near = record {
      marks = record {
        branch = λ x. basic_is_branch x;
        inside = λ x. basic_is_inside x;
        late = λ k lv. absurd (omega (arith, lv));
        leads_out = λ b lo. absurd (omega (arith, lo));
      };
      names = record {
        said = h.names.said;
        next = h.names.next;
        all = record {
          at_most = h.names.all.at_most;
          basic = h.names.all.basic;
          aside = λ no. let a = h.names.all.aside no in record { apart = a.apart; far = a.far };
        };
        near = h.names.near;
        rest = λ x lo. absurd (omega (arith, lo));
      };
      connects = record { asked = λ x. basic_is_asked x; out = λ x. none_is_some i x };
      calls = calls_by ks e f e' f
          (λ k c. record {
            chosen = chosen_near ks g v i asleep_at woken_at f k c.chosen;
            finds = ⊎_elim (λ z. inl z) (λ z. sleeping_is_search z.1) c.finds;
          })
          (λ k name d. sleeping_is_rest d.rest)
          (λ k d. sleeping_is_search d.search)
          (λ d. sleeping_is_rest d.rest)
          (calls_in q) h.calls;
      children = record { child = λ up. absurd up.up.link; parent = λ up. absurd up.up.link };
      owes = record {
        child = λ o. false_is_true o;
        open_yet = λ o. false_is_true o;
        heard = λ s. rest_is_search s;
        rest = λ ne. refl;
      };
    }

  -- from the far end, at port i of v, with m there
  module _ (h : LinkFits ks g v i m asleep_at q r) where
    abbrev s : Side
    s = side_of g v i m

    abbrev t : Side
    t = far_side_of g v i asleep_at

    abbrev t' : Side
    t' = far_side_of g v i woken_at

    answer_away : Answered ks s t (calls_in q) (calls_in r) → Answered ks s t' (calls_in q) (calls_in r)
    answer_away (Comes one ne) = Comes one ne
    answer_away (Noted none mark lv) = Noted none mark lv
    answer_away (Called none mark lv up one) = Called none mark lv up one

    pub woken_away : LinkFits ks g v i m woken_at q r
    woken_away = record {
      marks = record {
        branch = h.marks.branch;
        inside = h.marks.inside;
        late = λ k lv x ne.
            let a = h.marks.late k lv x ne in
            record { basic = a.basic; search = a.search; chosen = a.chosen; alone = a.alone; level = a.level; connect = a.connect };
        leads_out = h.marks.leads_out;
      };
      names = record {
        said = h.names.said;
        next = h.names.next;
        all = record {
          at_most = h.names.all.at_most;
          basic = h.names.all.basic;
          aside = λ no. let a = h.names.all.aside no in record { apart = a.apart; far = a.far };
        };
        near = h.names.near;
        rest = h.names.rest;
      };
      connects = record {
        asked = λ x. asleep_past m.head.level (h.connects.asked x).past;
        out = λ x.
            let o = h.connects.out x in
            record { least = o.least; rest = o.rest; basic = o.basic; answer = answer_away o.answer; greater = o.greater };
      };
      calls = calls_by ks s t s t'
          (λ k c. asleep_past k c.chosen.past)
          (λ k name d. sleeping_is_search d.sender_search)
          (λ k d. sleeping_is_rest d.sender_rest)
          (λ d. record { up = d.up; rest = d.rest; stays = d.stays; least = d.least })
          (calls_in q) h.calls;
      children = record {
        child = λ up.
            let c = h.children.child up in
            record {
              level = c.level;
              behind = λ z. let b = c.behind z in record { search = b.search; rest = λ x. refl; called = b.called };
              search = λ lv x. rest_is_search x;
              rest = λ x. asleep_past m.head.level (c.rest x).past;
            };
        parent = λ up. let c = h.children.parent up in record { level = c.level; mark = c.mark; far_mark = c.far_mark };
      };
      owes = record {
        child = h.owes.child;
        open_yet = λ o b. ⊎_elim
            (λ lt. omega (arith, lt))
            (λ z. subst (λ x. Taken ks x s.key) (sym z.0) (h.owes.child o).1.up.link)
            b.past;
        heard = λ x b up o. asleep_past m.head.level (h.owes.heard x b up o).past;
        rest = h.owes.rest;
      };
    }
