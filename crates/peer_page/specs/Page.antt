-- The page of a run, and that of two.
use Rattle.std.specs.Prelude.{ℕ, List, ◌++◌}
use Rattle.peer_page.specs.declared.pair.TheConstants.{PAIR_BEFORE, PAIR_BETWEEN, PAIR_HEAD, PAIR_TAIL}
use Rattle.peer_page.specs.declared.template.TheConstants.{HEAD, TAIL}

-- the constant text round the steps
abbrev pub page_text : List ℕ → List ℕ
page_text steps = HEAD.now ++ steps ++ TAIL.now

-- the constant text of two runs, with that of one in it, round the steps of the first and of the second
abbrev pub pair_text : List ℕ → List ℕ → List ℕ
pair_text first second = (PAIR_HEAD.now ++ HEAD.now ++ TAIL.now) ++ PAIR_BEFORE.now ++ first ++ PAIR_BETWEEN.now ++ second ++ PAIR_TAIL.now
