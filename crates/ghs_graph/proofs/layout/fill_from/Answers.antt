use Rattle.std.proofs.Common.{◌+◌, Vec, Global, get_or, arith, inl, inr, ap}
use Rattle.std.proofs.lemmas.Bool.{both_ways}
use Rattle.ghs_graph.specs.declared.key.Key.{Key}
use Rattle.ghs_graph.specs.declared.port.Port.{Port}
use Rattle.ghs_graph.specs.declared.layout.Places.{Places}
use Rattle.ghs_graph.specs.Key.{no_key}
use Rattle.ghs_graph.proofs.Filling.{no_places, none_filled, one_filled, all_filled, end_a, end_b, port_at_a, port_at_b, place_fits, written_blocks, IsWrittenWithin}
use Rattle.ghs_graph.proofs.layout.fill_from.Goals as goal
use Rattle.ghs_graph.proofs.layout.fill_from.Goals.{then-is_within, else-is_within, then-is_within-2, else-is_within-2}

pub loop-i-init : goal.loop-i-init
loop-i-init c = none_filled _ _ _ _ _ _ (record { blocks = c.requires.blocks; room = c.requires.room }) c.requires.right

pub overflow_add-starts : goal.overflow_add-starts
overflow_add-starts c =
    omega (
      arith,
      (place_fits c.args.nodes c.args.keys.now c.args.starts.now c.loop-i.i _ _ _ c.loop-i.ports.items c.loop-i.invariant.blocks
          (end_a c.args.nodes c.args.keys.now c.loop-i.i c.args.places.now c.requires.among c.requires.rising c.requires.places
          c.loop-i-test.true)
          c.requires.links).1,
    )

pub index_mut-requires : goal.index_mut-requires
index_mut-requires c =
    let fits = place_fits c.args.nodes c.args.keys.now c.args.starts.now c.loop-i.i _ _ _ c.loop-i.ports.items c.loop-i.invariant.blocks
    (end_a c.args.nodes c.args.keys.now c.loop-i.i c.args.places.now c.requires.among c.requires.rising c.requires.places c.loop-i-test.true)
    c.requires.links in
    let ok = c.loop-i.ports.ok in
    omega (arith, fits.0)

pub overflow_add-starts-then-is_within-2 : goal.overflow_add-starts-then-is_within-2
overflow_add-starts-then-is_within-2 c =
    omega (
      arith,
      (place_fits c.args.nodes c.args.keys.now c.args.starts.now c.loop-i.i _ _ _ c.loop-i.ports.items c.loop-i.invariant.blocks
          (end_b c.args.nodes c.args.keys.now c.loop-i.i c.args.places.now c.requires.among c.requires.rising c.requires.places
          c.loop-i-test.true)
          c.requires.links).1,
    )

pub index_mut-requires-then-is_within-2 : goal.index_mut-requires-then-is_within-2
index_mut-requires-then-is_within-2 c =
    let k : Key = get_or c.args.keys.now c.loop-i.i no_key in
    let q : Places = get_or c.args.places.now c.loop-i.i no_places in
    let first : IsWrittenWithin c.args.starts.now c.args.from (c.args.from + 131072) k.a q.a (port_at_a k q) c.loop-i.ports.items
    c.if-is_within.ports.items = elim c.if-is_within.branch [
      | then-is_within w ↦ inl (c.is_within.ensures.0 w.if-is_within.true, ap (λ (v : Vec Port Global). v.items) w.ports-is)
      | else-is_within w ↦ inr
          (λ h. both_ways c.is_within.result w.if-is_within.false (c.is_within.ensures.1 h), ap (λ (v : Vec Port Global). v.items) w.ports-is)
    ] in
    let blocks = written_blocks c.args.nodes c.args.keys.now c.args.starts.now c.args.from (c.args.from + 131072) k.a q.a (port_at_a k q)
    c.loop-i.ports.items c.if-is_within.ports.items c.loop-i.invariant.blocks first in
    let fits = place_fits c.args.nodes c.args.keys.now c.args.starts.now c.loop-i.i _ _ _ c.if-is_within.ports.items blocks
    (end_b c.args.nodes c.args.keys.now c.loop-i.i c.args.places.now c.requires.among c.requires.rising c.requires.places c.loop-i-test.true)
    c.requires.links in
    let ok = c.if-is_within.ports.ok in
    omega (arith, fits.0)

pub loop-i-preserved : goal.loop-i-preserved
loop-i-preserved c =
    let k : Key = get_or c.args.keys.now c.loop-i.i no_key in
    let q : Places = get_or c.args.places.now c.loop-i.i no_places in
    let first : IsWrittenWithin c.args.starts.now c.args.from (c.args.from + 131072) k.a q.a (port_at_a k q) c.loop-i.ports.items
    c.if-is_within.ports.items = elim c.if-is_within.branch [
      | then-is_within w ↦ inl (c.is_within.ensures.0 w.if-is_within.true, ap (λ (v : Vec Port Global). v.items) w.ports-is)
      | else-is_within w ↦ inr
          (λ h. both_ways c.is_within.result w.if-is_within.false (c.is_within.ensures.1 h), ap (λ (v : Vec Port Global). v.items) w.ports-is)
    ] in
    let second : IsWrittenWithin c.args.starts.now c.args.from (c.args.from + 131072) k.b q.b (port_at_b k q) c.if-is_within.ports.items
    c.if-is_within-2.ports.items = elim c.if-is_within-2.branch [
      | then-is_within-2 w ↦ inl (c.is_within-in-loop-i.ensures.0 w.if-is_within-2.true, ap (λ (v : Vec Port Global). v.items) w.ports-is)
      | else-is_within-2 w ↦ inr (
        λ h. both_ways c.is_within-in-loop-i.result w.if-is_within-2.false (c.is_within-in-loop-i.ensures.1 h),
        ap (λ (v : Vec Port Global). v.items) w.ports-is,
      )
    ] in
    one_filled c.args.nodes c.args.keys.now c.args.starts.now c.args.from (c.args.from + 131072) c.loop-i.i c.args.places.now c.loop-i.ports.items
    c.if-is_within.ports.items c.if-is_within-2.ports.items c.requires.among c.requires.rising c.requires.places c.loop-i-test.true
    c.loop-i.invariant first second

pub returns-clause-right : goal.returns-clause-right
returns-clause-right c =
    all_filled c.args.nodes c.args.keys.now c.args.starts.now c.args.from _ c.loop-i.i c.loop-i.ports.items c.requires.among c.loop-i-test.false
    c.loop-i.invariant
