-- What goes out of a text that is made whole.
use Rattle.std.specs.Global.{Vec}
use Rattle.std.specs.Prelude.{◌≡◌, ℕ, ◌<◌, List, length, Option, Result, Err, OnOk, IfErr, IfOk}
use Rattle.ghs_report.specs.Writing.{HasWritten}
use Rattle.ghs_answers.specs.declared.fault.ServeFault.{ServeFault}
use Rattle.ghs_answers.specs.declared.fault.ServeFault.TheVariants as serve

-- only the first bytes of an output have gone out, as many as the fault says
pub record IsCutShort (output : List ℕ) (old new : Option (List ℕ)) (fault : ServeFault) : Type 0 where
  pub written : ℕ
  pub is : fault ≡ serve.Write written
  pub less : written < length output
  pub has : HasWritten old new output written

-- all of an output has gone out, or only its first bytes, where a write failed
pub record HasGoneOut (output : List ℕ) (old new : Option (List ℕ)) (result : Result (Unit {0}) ServeFault) : Type 0 where
  pub whole : OnOk result (HasWritten old new output (length output))
  pub part : IfErr result (IsCutShort output old new)

-- the text that was made has gone out; where there is none, that is the answer
pub record HasPrinted (made : Result (Vec ℕ) ServeFault) (old new : Option (List ℕ)) (result : Result (Unit {0}) ServeFault) : Type 0 where
  pub out : IfOk made (λ text. HasGoneOut text.items old new result)
  pub none : IfErr made (λ fault. result ≡ Err fault)
