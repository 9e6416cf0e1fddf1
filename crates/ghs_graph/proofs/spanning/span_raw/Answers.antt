use Rattle.std.proofs.Common.{◌≡◌, ◌∙◌, ◌<◌, List, length, map, get_or, sym, ap, subst, arith}
use Rattle.std.proofs.lemmas.List.{get_or-map, length-map, take_all}
use Rattle.ghs_gr.specs.RawGraph.{Triple}
use Rattle.ghs_graph.specs.declared.key.Key.{Key}
use Rattle.ghs_graph.specs.Key.{key_of, no_key}
use Rattle.ghs_graph.specs.Spanning.{IsSpanned}
use Rattle.ghs_graph.proofs.Growing.{spanned_more}
use Rattle.ghs_graph.proofs.Reading.{graph_of, no_triple}
use Rattle.ghs_graph.proofs.spanning.span_raw.Goals as goal

pub loop-triple-preserved : goal.loop-triple-preserved
loop-triple-preserved c =
    let ts : List Triple = c.keys-keys.result.now in
    let i = c.loop-triple.triple-index in
    let long : i < length (map key_of ts) = omega (arith, length-map ts key_of, c.loop-triple-test.true) in
    let key : c.key_of.result ≡ get_or (map key_of ts) i no_key = c.key_of.ensures ∙ sym
    (get_or-map key_of ts i no_triple no_key c.loop-triple-test.true) in
    spanned_more c.args.raw.now.nodes (map key_of ts) i c.key_of.result c.loop-triple.spanning.roots c.take.new.self.roots
    c.loop-triple.spanning.tree.items c.take.new.self.tree.items
    (rw c.keys-keys.ensures.keys (graph_of c.args.raw.now.nodes c.args.raw.now.keys c.keys-keys.ensures.graph).rising) long key
    (λ js. c.in_ok-take.ensures c.args.raw.now.nodes js) c.loop-triple.invariant

pub returns : goal.returns
returns c =
    let ts : List Triple = c.keys-keys.result.now in
    subst (λ (ks : List Key). IsSpanned c.args.raw.now.nodes ks c.loop-triple.spanning.roots c.loop-triple.spanning.tree.items)
    (take_all c.loop-triple.triple-index (map key_of ts) (omega (arith, length-map ts key_of, c.loop-triple-test.false))
    ∙ ap (map key_of) c.keys-keys.ensures.keys)
    c.loop-triple.invariant
