use Rattle.boruvka_protocol.proofs.lemmas.WaysUp.{nodes_have_one_sub, subs_are_of_children, sub_of_top_is_least}
use Rattle.boruvka_protocol.proofs.level_laws.law_subs.Goals as goal

pub returns-clause-one : goal.returns-clause-one
returns-clause-one c = nodes_have_one_sub

pub returns-clause-children : goal.returns-clause-children
returns-clause-children c = subs_are_of_children

pub returns-clause-top : goal.returns-clause-top
returns-clause-top c = sub_of_top_is_least
