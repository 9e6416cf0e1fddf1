use Rattle.std.proofs.Common.{◌∙◌, ◌≡◌, ◌<◌, length, arith}
use Rattle.ghs_graph.specs.Classes.{roots_of}
use Rattle.ghs_graph.proofs.Climbing.{AreTops, max_inside, join_unites}
use Rattle.ghs_graph.proofs.union_find.Roots.join.Goals as goal

pub index_mut-requires : goal.index_mut-requires
index_mut-requires c =
    let view : roots_of c.self.inside.up.items ≡ c.args.self.now = c.self.view_is ∙ c.root-of_v.ensures.same ∙ c.root-of_u.ensures.same in
    let w : AreTops c.self.inside.up.items c.args.self.now c.args.u c.args.v c.root-of_u.result c.root-of_v.result =
    record {
      view = view;
      down = c.self.invariant;
      u_in = c.requires.u;
      v_in = c.requires.v;
      u_is = c.root-of_u.ensures.root;
      v_is = rw c.root-of_u.ensures.same at c.root-of_v.ensures.root;
    }
    in
    let inside : c.max.result < length c.self.inside.up.items =
    max_inside c.self.inside.up.items c.args.self.now c.args.u c.args.v c.root-of_u.result c.root-of_v.result w c.max.result c.max.ensures in
    let ok = c.self.inside.up.ok in
    omega (arith, inside, ok)

pub returns-clause-unites : goal.returns-clause-unites
returns-clause-unites c =
    let view : roots_of c.self.inside.up.items ≡ c.args.self.now = c.self.view_is ∙ c.root-of_v.ensures.same ∙ c.root-of_u.ensures.same in
    let w : AreTops c.self.inside.up.items c.args.self.now c.args.u c.args.v c.root-of_u.result c.root-of_v.result =
    record {
      view = view;
      down = c.self.invariant;
      u_in = c.requires.u;
      v_in = c.requires.v;
      u_is = c.root-of_u.ensures.root;
      v_is = rw c.root-of_u.ensures.same at c.root-of_v.ensures.root;
    }
    in
    join_unites c.self.inside.up.items c.args.self.now c.args.u c.args.v c.root-of_u.result c.root-of_v.result w c.max.result c.min.result
    c.max.ensures c.min.ensures c.if-of_u-of_v.false
