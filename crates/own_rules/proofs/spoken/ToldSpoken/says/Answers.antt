use Rattle.own_rules.proofs.spoken.ToldSpoken.says.Goals as goal

pub returns : goal.returns
returns g c = rw (c.text.ensures, c.requires.0) at c.says.ensures
