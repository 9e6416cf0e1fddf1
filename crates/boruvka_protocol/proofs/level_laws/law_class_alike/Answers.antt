use Rattle.boruvka_protocol.proofs.lemmas.WaysUp.{level_at, core_at, top_at}
use Rattle.boruvka_protocol.proofs.level_laws.law_class_alike.Goals as goal

pub returns-clause-level : goal.returns-clause-level
returns-clause-level c g ok l v u way h = level_at g.keys l v u way h

pub returns-clause-core : goal.returns-clause-core
returns-clause-core c g ok l v u way k h = core_at g.keys l v u k way h

pub returns-clause-top : goal.returns-clause-top
returns-clause-top c g ok l v u way r h = top_at g.keys l v u r way h
