use Rattle.ghs_cli.proofs.parting.put_parted.Goals as goal

pub returns : goal.returns
returns g c = (c.in_ok-lines.lines.items, c.in_ok-lines.ensures, rw (c.deref.ensures.value) at c.in_ok-extend_from_slice.ensures.items)
