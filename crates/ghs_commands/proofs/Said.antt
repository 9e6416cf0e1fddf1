-- What is said of words that are no command line.
use Rattle.std.proofs.Common.{◌≡◌, [], ◌∷◌, false, inl, refl, ⊎_elim}
use Rattle.clap.specs.Kinds.{Kinds, HasKind, or_else}
use Rattle.clap.specs.Values.{kind_of}
use Rattle.clap.specs.declared.error.Error.{Error}
use Rattle.clap.specs.declared.error.kind.ErrorKind.TheVariants as kind
use Rattle.ghs_commands.specs.declared.job.JobFault.{JobFault}
use Rattle.ghs_commands.specs.declared.job.JobFault.TheVariants as fault
use Rattle.ghs_commands.specs.Job.{IsRefused, IsSaid, IsSaidOf, Used, option_kinds, has_values}

-- an error has a kind that the words have, so what is said of it is said of them
pub said_of : (kinds : Kinds) (e : Error) (f : JobFault) → HasKind kinds e → IsSaid (kind_of e) f →
    (kind_of e ≡ kind.OutOfMemory → f ≡ fault.Memory) → IsSaidOf kinds f
said_of kinds e (fault.Help text) has said memory =
    ⊎_elim (λ m. absurd (let both : fault.Help text ≡ fault.Memory = memory m in cc)) (λ among. (kind_of e, among, said)) has
said_of kinds e (fault.Refused text) has said memory =
    ⊎_elim (λ m. absurd (said.1 m)) (λ among. (kind_of e, among, said.0)) has
said_of kinds e fault.Memory has said memory = tt

-- what is said of the first kinds, or where there are none of the next, is said of both
pub said_first : (kinds next : Kinds) (f : JobFault) → IsSaidOf kinds f → IsSaidOf (or_else kinds next) f
said_first [] next (fault.Help text) said = absurd said.1
said_first [] next (fault.Refused text) said = absurd said.1
said_first [] next fault.Memory said = tt
said_first (k ∷ ks) next f said = said

pub said_next : (kinds next : Kinds) (f : JobFault) → kinds ≡ [] → IsSaidOf next f → IsSaidOf (or_else kinds next) f
said_next kinds next f none said = rw none said

-- a refusal is said of a value that an option may not have
pub said_of_values : (command : Used) (f : JobFault) → has_values command ≡ false → IsRefused f → IsSaidOf (option_kinds command) f
said_of_values command (fault.Help text) lacks is = absurd is
said_of_values command (fault.Refused text) lacks is = rw lacks (kind.InvalidValue, inl refl, ⊎_elim (λ e. cc) (λ e. cc))
said_of_values command fault.Memory lacks is = tt
