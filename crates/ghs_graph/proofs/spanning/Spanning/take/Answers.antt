use Rattle.std.proofs.Common.{◌≡◌, get_or, ⊎_elim}
use Rattle.std.proofs.lemmas.Bool.{cases_eq}
use Rattle.ghs_graph.proofs.Growing.{spanned_united, spanned_still}
use Rattle.ghs_graph.proofs.spanning.Spanning.take.Goals as goal

pub returns-in_ok-push : goal.returns-in_ok-push
returns-in_ok-push c n ks below s =
    spanned_united n ks c.args.key c.args.self.now.roots c.join.new.self c.args.self.now.tree.items c.push.new.self.items c.requires.a c.requires.b
    below s (c.join.ensures.apart.0 c.if-join.true) c.join.ensures.unites c.in_ok-push.ensures.items

pub returns-else-join : goal.returns-else-join
returns-else-join c n ks below s =
    let together : get_or c.args.self.now.roots c.args.key.a 0 ≡ get_or c.args.self.now.roots c.args.key.b 0 = ⊎_elim
    (λ e. e)
    (λ ne. let said = c.join.ensures.apart.1 ne in let denied = c.if-join.false in absurd (cc (said, denied)))
    (cases_eq (get_or c.args.self.now.roots c.args.key.a 0) (get_or c.args.self.now.roots c.args.key.b 0))
    in
    spanned_still n ks c.args.key c.args.self.now.roots c.join.new.self c.args.self.now.tree.items c.requires.a c.requires.b below s together
    c.join.ensures.unites
