use Rattle.std.proofs.Common.{◌∙◌, ◌++◌, ap}
use Rattle.peer_page.specs.declared.pair.TheConstants.{PAIR_BEFORE, PAIR_BETWEEN, PAIR_TAIL}
use Rattle.peer_page.proofs.page.pair_page.Goals as goal

pub returns : goal.returns
returns c =
    c.in_ok-put_both.ensures
    ∙ ap (λ text. text ++ PAIR_BEFORE.now ++ c.args.first.now ++ PAIR_BETWEEN.now ++ c.args.second.now ++ PAIR_TAIL.now) c.in_ok-text.ensures
