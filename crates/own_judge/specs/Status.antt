-- The exit status of each end.
use Rattle.std.specs.Prelude.{ℕ}
use Rattle.own_judge.specs.declared.end.End.{End}
use Rattle.own_judge.specs.declared.end.End.TheVariants.{Agrees, Asks, Fails, Differs}

abbrev pub end_status : End → ℕ
end_status Agrees = 0
end_status Asks = 7
end_status Fails = 8
end_status Differs = 9
