use Rattle.boruvka_protocol.proofs.lemmas.WaysUp.{others_have_one_way_up, tops_have_no_way_up, links_are_ways_up}
use Rattle.boruvka_protocol.proofs.level_laws.law_one_way_up.Goals as goal

pub returns-clause-others : goal.returns-clause-others
returns-clause-others c = others_have_one_way_up

pub returns-clause-top : goal.returns-clause-top
returns-clause-top c = tops_have_no_way_up

pub returns-clause-links : goal.returns-clause-links
returns-clause-links c = links_are_ways_up
