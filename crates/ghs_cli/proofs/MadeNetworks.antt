-- What making a network comes to.
use Rattle.std.proofs.Common.{◌≡◌, ℕ, List, Option, inl, inr, length, refl, subst, sym, arith}
use Rattle.std.specs.Prelude.{Result, Ok, Err}
use Rattle.std.specs.Io.KnownBytes.{Appends}
use Rattle.std.proofs.lemmas.List.{take_all}
use Rattle.ghs_make.specs.Network.{IsNetwork, IsNetworkOf, IsRefusal}
use Rattle.ghs_make.specs.Text.{text_of}
use Rattle.ghs_report.specs.Written.{IsFront}
use Rattle.ghs_make.specs.declared.fault.MakeFault.{MakeFault}
use Rattle.ghs_make.specs.declared.fault.MakeFault.TheVariants as make
use Rattle.ghs_make.specs.declared.network.Network.{Network}
use Rattle.ghs_make.specs.declared.plan.Asked.{Asked}
use Rattle.ghs_report.specs.declared.portions.WriteFault.{WriteFault}
use Rattle.ghs_report.specs.declared.portions.WriteFault.TheVariants as write
use Rattle.ghs_commands.specs.declared.job.Task.TheVariants as task
use Rattle.ghs_answers.specs.Fault.{of_make, of_unwritten}
use Rattle.ghs_cli.specs.Serving.{IsMade, Serves}
use Rattle.ghs_answers.specs.declared.fault.ServeFault.{ServeFault}

-- the text of the network is what is asked for
made_of : (asked : Asked) (n : Network) → IsNetwork n → IsNetworkOf asked n → IsMade asked (text_of n)
made_of asked n sound of = record { network = n; sound = sound; fits = of; printed = refl }

-- all of it has gone out
pub serves_made : (asked : Asked) (n : Network) (old new : Option (List ℕ)) → IsNetwork n → IsNetworkOf asked n → Appends old new (text_of n)
    → (stored input : List ℕ) → Serves (task.Make asked) stored input old new (Ok tt)
serves_made asked n old new sound of out stored input = (
  text_of n,
  made_of asked n sound of,
  subst (λ (bytes : List ℕ). Appends old new bytes) (sym (take_all (length (text_of n)) (text_of n) (omega arith))) out,
)

-- only a front of it has
serves_part : (asked : Asked) (n : Network) (old new : Option (List ℕ)) (fault : WriteFault) → IsNetwork n → IsNetworkOf asked n
    → IsRefusal asked make.Memory → IsFront old new (text_of n) fault → (stored input : List ℕ)
    → Serves (task.Make asked) stored input old new (Err (of_unwritten fault))
serves_part asked n old new write.Memory sound of none front stored input = (none, λ portions. inr (text_of n, made_of asked n sound of, front))
serves_part asked n old new (write.Write k) sound of none front stored input =
    (text_of n, inl (made_of asked n sound of), front.0, front.1)

pub serves_unmade : (asked : Asked) (n : Network) (old new : Option (List ℕ)) (r : Result (Unit {0}) ServeFault) (fault : WriteFault)
    → r ≡ Err (of_unwritten fault) → IsNetwork n → IsNetworkOf asked n → IsRefusal asked make.Memory
    → IsFront old new (text_of n) fault → (stored input : List ℕ) → Serves (task.Make asked) stored input old new r
serves_unmade asked n old new r fault is sound of none front stored input =
    rw is (serves_part asked n old new fault sound of none front stored input)

-- none is made
refused : (asked : Asked) (o : Option (List ℕ)) (fault : MakeFault) → IsRefusal asked fault → (stored input : List ℕ)
    → Serves (task.Make asked) stored input o o (Err (of_make fault))
refused asked o make.Nodes is stored input = is
refused asked o make.LinksGiven is stored input = is
refused asked o make.WeightsGiven is stored input = is
refused asked o (make.Links least most) is stored input = is
refused asked o make.TooManyLinks is stored input = is
refused asked o make.Memory is stored input = (is, λ portions. inl refl)

pub serves_refused : (asked : Asked) (o : Option (List ℕ)) (r : Result (Unit {0}) ServeFault) (fault : MakeFault)
    → r ≡ Err (of_make fault) → IsRefusal asked fault → (stored input : List ℕ) → Serves (task.Make asked) stored input o o r
serves_refused asked o r fault is refusal stored input = rw is (refused asked o fault refusal stored input)
