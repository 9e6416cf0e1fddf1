-- Exit statuses of command lines.
use Rattle.std.specs.Prelude.{◌≡◌, ◌≢◌, ◌⊎◌, ℕ, []}
use Rattle.clap.specs.Kinds.{Kinds, IsAmong}
use Rattle.clap.specs.declared.error.kind.ErrorKind.{ErrorKind}
use Rattle.ghs_commands.specs.Job.{IsRequest}
use Rattle.std.specs.declared.io.ErrorKind.{ErrorKind as ReadKind}
use Rattle.std.specs.declared.io.ErrorKind.TheVariants as read

-- words end with status 2 only where they are refused, and with 0 only where they are taken or ask for help or the version
pub record IsStatusOf (kinds : Kinds) (status : ℕ) : Type 0 where
  pub refused : status ≡ 2 → (k : ErrorKind) × IsAmong k kinds × (IsRequest k → ⊥)
  pub done : status ≡ 0 → (kinds ≡ []) ⊎ ((k : ErrorKind) × IsAmong k kinds × IsRequest k)

-- words that are taken never end with the status of those that are refused
abbrev pub IsStatusOfJob : ℕ → Type 0
IsStatusOfJob status = status ≢ 2

-- words that can't be read end as being out of memory, where that is why, and else as words that are refused
abbrev pub status_unread : ReadKind → ℕ
status_unread read.OutOfMemory = 4
status_unread _ = 2
