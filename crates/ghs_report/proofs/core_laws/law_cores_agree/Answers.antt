use Rattle.ghs_report.proofs.Agreeing.{cores_agree}
use Rattle.ghs_report.proofs.core_laws.law_cores_agree.Goals as goal

pub returns : goal.returns
returns c = cores_agree
