-- The parts that are kept, with one event more.
use Rattle.std.proofs.Common.{◌≡◌, ◌≢◌, ℕ, ◌+◌, ◌-◌, ◌<◌, ◌≤◌, ◌^◌, Some, List, [], ◌∷◌, ◌++◌, length, get_or, max, slice_index, take, refl, sym, ◌∙◌, ap, ap₂, subst, ⊎_elim, arith}
use Rattle.std.specs.List.{sum_by}
use Rattle.std.proofs.lemmas.List.Sums.{sum_by_push}
use Rattle.std.proofs.lemmas.Bool.{cases_eq}
use Rattle.std.proofs.lemmas.List.{ext_get_or, get_or-take, length-take-le}
use Rattle.std.proofs.lemmas.List.FromFn.{get_or-map-range_with_len, length-map-range_with_len}
use Rattle.ghs_graph.specs.Graph.{Shape}
use Rattle.ghs_node.specs.declared.delta.Delta.{Delta}
use Rattle.ghs_node.specs.declared.head.Head.{Head}
use Rattle.ghs_node.specs.declared.row_name.RowName.{RowName}
use Rattle.ghs_node.specs.declared.work.Work.{Work}
use Rattle.ghs_node.specs.NodeState.{NodeState}
use Rattle.ghs_node.specs.Reaction.{reaction}
use Rattle.ghs_node.specs.RowName.{row_name}
use Rattle.ghs_node.specs.Words.{Outgoing}
use Rattle.ghs_core.specs.Dispatch.{CountsSends, messages_of}
use Rattle.ghs_core.specs.NetState.{NetState, net_of, work_at}
use Rattle.peer_network.specs.declared.event.Event.{Event}
use Rattle.ghs_protocol.specs.Ledger.{of_kind}
use Rattle.peer_network.specs.Events.{event_node}
use Rattle.peer_network.specs.Network.{network_of}
use Rattle.ghs_protocol.specs.Run.{IsRun, net_after}
use Rattle.ghs_choices.specs.declared.by.By.{By}
use Rattle.ghs_choices.specs.declared.by.By.TheVariants.{Node, Level, Rule}
use Rattle.ghs_parts.specs.declared.part.Part.{Part}
use Rattle.ghs_parts.specs.Deeds.{Deed, deed, deeds, sent_of}
use Rattle.ghs_parts.specs.Parts.{count_of, first_of, greatest_level, part_of, parts_of, place_of_part, sum_in, sums_of}
use Rattle.ghs_parts.specs.Tally.{AreParts, HasAdded, IsPart, IsTally, no_part, part_at, parts_kept}
use Rattle.ghs_parts.proofs.Counting.{all_sent, deeds_length, deeds_more, greatest_more, rule_few, sent_here}
use Rattle.peer_parts.proofs.lemmas.Summing.{part_le, sum_other, sum_own}

-- the part of the next deed
own_more : (by : By) (ds : List Deed) (x : Deed) (ss : Outgoing) (p : ℕ) (old new : Part) → part_of by x ≡ p →
    ((k : ℕ) → sent_of k x ≡ of_kind k (messages_of ss)) → new.events ≡ old.events + 1 → CountsSends ss old.kinds new.kinds →
    length new.kinds ≡ length old.kinds → IsPart by ds p old → IsPart by (ds ++ x ∷ []) p new
own_more by ds x ss p old new is sends events kinds width part = record {
  events = let before = part.events in let more = sum_own (part_of by) p (λ (d : Deed). 1) ds x is in omega (arith, before, more, events);
  kinds = λ k lt.
      let before = part.kinds k lt in
      let more = sum_own (part_of by) p (sent_of k) ds x is in
      let one = sends k in
      let now = kinds k lt in
      omega (arith, before, more, one, now);
  width = width ∙ part.width;
}

-- another part
other_more : (by : By) (ds : List Deed) (x : Deed) (p : ℕ) (part : Part) → part_of by x ≢ p → IsPart by ds p part → IsPart by (ds ++ x ∷ []) p part
other_more by ds x p part ne is = record {
  events = is.events ∙ sym (sum_other (part_of by) p (λ (d : Deed). 1) ds x ne);
  kinds = λ k lt. is.kinds k lt ∙ sym (sum_other (part_of by) p (sent_of k) ds x ne);
  width = is.width;
}

-- all parts
parts_more : (by : By) (ds : List Deed) (x : Deed) (ss : Outgoing) (place : ℕ) (old new : List Part) → first_of by + place ≡ part_of by x →
    ((k : ℕ) → sent_of k x ≡ of_kind k (messages_of ss)) → HasAdded place ss old new → AreParts by ds old → AreParts by (ds ++ x ∷ []) new
parts_more by ds x ss place old new is sends added are i lt = ⊎_elim here there (cases_eq i place)
  where
    within : i < length old
    within = let count = added.count in omega (arith, count, lt)

    here : i ≡ place → IsPart by (ds ++ x ∷ []) (first_of by + i) (part_at new i)
    here e =
        let part = are i within in
        rw e
        (own_more by ds x ss (first_of by + place) (part_at old place) (part_at new place) (sym is) sends added.events added.kinds
        added.width (rw e at part))

    there : i ≢ place → IsPart by (ds ++ x ∷ []) (first_of by + i) (part_at new i)
    there ne =
        let other : part_of by x ≢ first_of by + i = λ z. ne (omega (arith, z, is)) in
        rw (added.others i ne) (other_more by ds x (first_of by + i) (part_at old i) other (are i within))

-- the tally follows an event
pub tally_more : (by : By) (g : Shape) (es : List Event) (e : Event) (d : Delta) (place level before after : ℕ) (old new : List Part) →
    IsTally by g es old before →
    reaction ((net_after g es).node (event_node e)) (work_at (net_after g es) e) ≡ Some d →
    first_of by + place ≡ part_of by (deed g es e) →
    level ≡ (deed g es e).level →
    level ≤ 20 →
    HasAdded place d.sends old new →
    after ≡ max before level →
    IsTally by g (es ++ e ∷ []) new after
tally_more by g es e d place level before after old new tally answer is is_level few added more =
    let x = deed g es e in
    let all : AreParts by (deeds g es ++ x ∷ []) new =
    parts_more by (deeds g es) x d.sends place old new is (λ k. sent_here g es e d k answer) added tally.are in
    let grows = greatest_more (deeds g es) x in
    let greatest : after ≡ greatest_level (deeds g es ++ x ∷ []) =
    more ∙ ap (λ n. max n level) tally.greatest ∙ ap (λ n. max (greatest_level (deeds g es)) n) is_level ∙ sym grows in
    record {
      room = added.count ∙ tally.room;
      are = subst (λ (ds : List Deed). AreParts by ds new) (sym (deeds_more g es e)) all;
      greatest = greatest ∙ ap greatest_level (sym (deeds_more g es e));
      most = (let most = tally.most in omega (arith, most, few, more));
    }

-- the part of an event, from what is at hand
pub part_is : (by : By) (g : Shape) (es : List Event) (e : Event) (s : NetState) (v level place : ℕ) (row : RowName)
    (n m : NodeState) (h : Head) (k : Work) → v ≡ event_node e →
    n ≡ (net_after g es).node v → k ≡ work_at (net_after g es) e → row ≡ row_name n k →
    s.graph ≡ g → s.trace ≡ es ++ e ∷ [] → m ≡ (net_of s).node v → h ≡ m.head → level ≡ h.level →
    first_of by + place ≡ place_of_part by v level row →
    (first_of by + place ≡ part_of by (deed g es e)) × (level ≡ (deed g es e).level)
part_is by g es e s v level place row n m h k is_v is_n is_k is_row graph trace is_m is_h is_level is = (part, levels)
  where
    node : (net_of s).node v ≡ (net_after g (es ++ e ∷ [])).node (event_node e)
    node = rw (trace, graph, is_v) refl

    levels : level ≡ ((net_after g (es ++ e ∷ [])).node (event_node e)).head.level
    levels = is_level ∙ ap (λ (x : Head). x.level) (is_h ∙ ap (λ (x : NodeState). x.head) (is_m ∙ node))

    rows : row ≡ row_name ((net_after g es).node (event_node e)) (work_at (net_after g es) e)
    rows = is_row ∙ ap₂ row_name (is_n ∙ ap (net_after g es).node is_v) is_k

    part :
        first_of by + place ≡
        place_of_part by (event_node e) ((net_after g (es ++ e ∷ [])).node (event_node e)).head.level
        (row_name ((net_after g es).node (event_node e)) (work_at (net_after g es) e))
    part =
        is ∙ ap (λ x. place_of_part by x level row) is_v ∙ ap (λ x. place_of_part by (event_node e) x row) levels
        ∙ ap (λ (r : RowName). place_of_part by (event_node e) ((net_after g (es ++ e ∷ [])).node (event_node e)).head.level r) rows

-- it is kept
pub place_there : (by : By) (g : Shape) (es : List Event) (parts : List Part) (level v now place : ℕ) (row : RowName) → IsTally by g es parts level →
    1 ≤ v → v ≤ g.nodes → now ≤ 20 → first_of by + place ≡ place_of_part by v now row → place < length parts
place_there Node g es parts level v now place row tally lo hi few is = let room = tally.room in omega (arith, room, is, hi)
place_there Level g es parts level v now place row tally lo hi few is = let room = tally.room in omega (arith, room, is, few)
place_there Rule g es parts level v now place row tally lo hi few is =
    let room = tally.room in
    let below = rule_few row in
    omega (arith, room, is, below)

-- at the end of the run the parts are those that it has
pub kept_count : (by : By) (g : Shape) (es : List Event) (parts : List Part) (level : ℕ) → IsTally by g es parts level →
    length (parts_kept by parts level) ≡ count_of by g es
kept_count Node g es parts level tally = tally.room
kept_count Level g es parts level tally =
    let room = tally.room in
    let most = tally.most in
    length-take-le (level + 1) parts (omega (arith, room, most)) ∙ ap (λ n. n + 1) tally.greatest
kept_count Rule g es parts level tally = tally.room

pub kept_parts : (by : By) (g : Shape) (es : List Event) (parts : List Part) (level : ℕ) → IsTally by g es parts level →
    AreParts by (deeds g es) (parts_kept by parts level)
kept_parts Node g es parts level tally = tally.are
kept_parts Level g es parts level tally = λ i lt.
    let room = tally.room in
    let most = tally.most in
    let count : length (take (level + 1) parts) ≡ level + 1 = length-take-le (level + 1) parts (omega (arith, room, most)) in
    let same : part_at (take (level + 1) parts) i ≡ part_at parts i = get_or-take (level + 1) parts i no_part (omega (arith, lt, count)) in
    rw same (tally.are i (omega (arith, lt, count, room, most)))
kept_parts Rule g es parts level tally = tally.are

-- they are those of the definition
part_listed : (by : By) (ds : List Deed) (p : ℕ) (x : Part) → IsPart by ds p x → x ≡ sums_of by ds p
part_listed by ds p x is =
    ap₂ (λ (n : ℕ) (ks : List ℕ). record { events = n; kinds = ks }) is.events (ext_get_or 0 x.kinds (sums_of by ds p).kinds is.width all)
  where
    all : (k : ℕ) → k < length x.kinds → get_or x.kinds k 0 ≡ get_or (sums_of by ds p).kinds k 0
    all k lt =
        let width = is.width in
        let small : k < 7 = omega (arith, lt, width) in
        let at : 0 + k ≡ k = omega arith in
        is.kinds k small ∙ sym (get_or-map-range_with_len (λ (j : ℕ). sum_in by p (sent_of j) ds) 0 7 k k 0 small at)

pub parts_listed : (by : By) (g : Shape) (es : List Event) (ps : List Part) → length ps ≡ count_of by g es →
    AreParts by (deeds g es) ps → ps ≡ parts_of by g es
parts_listed by g es ps count are = ext_get_or no_part ps (parts_of by g es) same all
  where
    same : length ps ≡ length (parts_of by g es)
    same = count ∙ sym (length-map-range_with_len (sums_of by (deeds g es)) (first_of by) (count_of by g es))

    all : (i : ℕ) → i < length ps → get_or ps i no_part ≡ get_or (parts_of by g es) i no_part
    all i lt =
        part_listed by (deeds g es) (first_of by + i) (get_or ps i no_part) (are i lt)
        ∙ sym
        (get_or-map-range_with_len (sums_of by (deeds g es)) (first_of by) (count_of by g es) i (first_of by + i) no_part
        (omega (arith, lt, count)) refl)

-- A part has room for an event more: it has no more events than the run,
pub events_fit : (by : By) (g : Shape) (es : List Event) (parts : List Part) (level i : ℕ) → IsTally by g es parts level → i < length parts →
    length es < 2 ^ 40 → (part_at parts i).events < 2 ^ 64 - 1
events_fit by g es parts level i tally lt few =
    let is = (tally.are i lt).events in
    let most = part_le (part_of by) (first_of by + i) (λ (d : Deed). 1) (deeds g es) in
    let all = deeds_length g [] es in
    omega (arith, is, most, all, few)

-- and for its messages: of each kind it has no more than were sent, with those of the event
pub kinds_fit : (by : By) (g : Shape) (es : List Event) (e : Event) (d : Delta) (parts : List Part) (level i k : ℕ) → IsTally by g es parts level →
    i < length parts → k < 7 →
    reaction ((net_after g es).node (event_node e)) (work_at (net_after g es) e) ≡ Some d →
    IsRun (network_of g) (es ++ e ∷ []) → (net_after g (es ++ e ∷ [])).sent k < 2 ^ 64 →
    slice_index (part_at parts i).kinds k + of_kind k (messages_of d.sends) < 2 ^ 64
kinds_fit by g es e d parts level i k tally lt small answer run fits =
    let is = (tally.are i lt).kinds k small in
    let most = part_le (part_of by) (first_of by + i) (sent_of k) (deeds g es) in
    let one = sent_here g es e d k answer in
    let last = sum_by_push (sent_of k) (deeds g es) (deed g es e) in
    let all : sum_by (sent_of k) (deeds g es ++ deed g es e ∷ []) ≡ (net_after g (es ++ e ∷ [])).sent k =
    ap (sum_by (sent_of k)) (sym (deeds_more g es e)) ∙ all_sent g k (es ++ e ∷ []) run in
    omega (arith, is, most, one, last, all, fits)
