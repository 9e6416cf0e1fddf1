use Rattle.own_view.specs.Page.{shielded}
use Rattle.own_view.proofs.Shielding.{all_shielded}
use Rattle.own_view.proofs.laws.law_shielded.Goals as goal

pub returns : goal.returns
unfolding shielded
returns c = all_shielded
