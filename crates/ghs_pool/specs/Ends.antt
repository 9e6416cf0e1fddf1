-- How a run of workers ends.
use Rattle.std.specs.Prelude.{◌≡◌, false, Result, Ok, Err}
use Rattle.ghs_protocol.specs.Marks.{HasEnded}
use Rattle.ghs_world.specs.WorldState.{WorldState, home, has_turn}
use Rattle.ghs_sched.specs.declared.run.RunEnd.{RunEnd}
use Rattle.ghs_sched.specs.Runs.{IsEnd}
use Rattle.ghs_pool.specs.declared.end.PoolFault.{PoolFault}
use Rattle.ghs_pool.specs.declared.end.PoolFault.TheVariants.{TurnLimit, Stalled, Unforeseen, Memory, Strange, NoThread}

-- the run of the world has ended
abbrev pub IsAtEnd : WorldState → Type 0
IsAtEnd s = HasEnded s.net.graph (home s)

-- it goes on
abbrev pub IsNotAtEnd : WorldState → Type 0
IsNotAtEnd s = IsAtEnd s → ⊥

-- where each fault may come, of a world with nothing out; while a run goes on an event is always ready, and has a rule
abbrev pub FaultFits : WorldState → PoolFault → Type 0
FaultFits s TurnLimit = IsNotAtEnd s × (has_turn s ≡ false)
FaultFits s Stalled = ⊥
FaultFits s Unforeseen = ⊥
FaultFits s Memory = IsNotAtEnd s
FaultFits s Strange = IsNotAtEnd s
FaultFits s NoThread = Unit {0}

-- where each end may come: halted at the least node that has, once the run has ended
abbrev pub EndFits : WorldState → Result RunEnd PoolFault → Type 0
EndFits s (Ok e) = IsEnd s e
EndFits s (Err f) = FaultFits s f
