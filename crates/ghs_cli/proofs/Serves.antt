-- What serving comes to, put together from its parts.
use Rattle.std.proofs.Common.{◌≡◌, ◌∙◌, ℕ, ◌<◌, ◌&&◌, ◌||◌, Bool, true, false, List, Option, Some, None, Vec, Global, inl, inr, length, map, refl, subst, sym}
use Rattle.std.specs.Prelude.{◌⊎◌, IfErr, IfOk, IfSome, OnOk, Result, Ok, Err}
use Rattle.ghs_gr.specs.RawGraph.{RawShape}
use Rattle.ghs_graph.specs.declared.key.Key.{Key}
use Rattle.ghs_graph.specs.Graph.{Shape}
use Rattle.ghs_graph.specs.Key.{key_of}
use Rattle.ghs_report.specs.Writing.{HasWritten}
use Rattle.peer_network.specs.declared.event.Event.{Event}
use Rattle.peer_network.specs.declared.wake_set.WakeSet.{WakeSet}
use Rattle.peer_trace.specs.declared.protocol.Protocol.{Protocol}
use Rattle.ghs_answers.specs.declared.fault.ServeFault.{ServeFault}
use Rattle.ghs_answers.specs.declared.fault.ServeFault.TheVariants as serve
use Rattle.ghs_commands.specs.declared.job.Task.{Task}
use Rattle.ghs_cli.specs.Printing.{HasGoneOut, HasPrinted}
use Rattle.ghs_cli.specs.Serving.{IfStored, IsBothCause, IsOfBoth, IsTextOf, IsTraceText, IsUnread, IsUnwritten, Serves, is_late, is_limit, meaning_of, shape_of}
use Rattle.ghs_answers.specs.Causes.{is_memory, is_write}

-- lack of memory is late where the task prints by portions
memory_late : (portions : Bool) → portions ≡ true → (portions || false) ≡ true
memory_late portions is = rw is refl

-- a fault behind which no write was tried is served by its cause
pub serves_cause : (job : Task) (stored input : List ℕ) (old new : Option (List ℕ)) (fault : ServeFault) →
    is_late job fault ≡ false →
    (meaning_of job).cause stored input fault →
    Serves job stored input old new (Err fault)
serves_cause job stored input old new serve.TurnLimit early cause = (cause, λ shows. absurd (let bad : true ≡ false = sym shows ∙ early in cc))
serves_cause job stored input old new serve.Memory early cause =
    (cause, λ portions. absurd (let bad : true ≡ false = sym (memory_late (meaning_of job).by_portions portions) ∙ early in cc))
serves_cause job stored input old new (serve.Write written) early cause = cc
serves_cause job stored input old new fault early cause = cause

-- what is told of a graph and of events is told of their texts,
pub told_of : (p : Protocol) {wake : WakeSet} (Tells : Shape → List Event → List ℕ → Type 0)
    (stored input output : List ℕ) (g : Shape) (events : List Event) →
    IsTraceText p stored events →
    IsTextOf wake input g →
    Tells g events output →
    IsOfBoth p wake Tells stored input output
told_of p Tells stored input output g events trace (raw, text, same) told = record {
  graph = raw;
  text = text;
  events = events;
  trace = trace;
  told = subst (λ (s : Shape). Tells s events output) same told;
}

-- and a fault of both is one of their texts
pub fault_of : (p : Protocol) {wake : WakeSet} (Fails : Shape → List Event → ServeFault → Type 0)
    (stored input : List ℕ) (g : Shape) (events : List Event)
    (fault : ServeFault) →
    IsTraceText p stored events →
    IsTextOf wake input g →
    Fails g events fault →
    IsBothCause p wake Fails stored input fault
fault_of p Fails stored input g events fault trace (raw, text, same) cause = inr (inr (record {
  events = events;
  trace = trace;
  graph = raw;
  text = text;
  cause = subst (λ (s : Shape). Fails s events fault) same cause;
}))

-- what follows for each trace and graph follows where both are known
pub if_both : (p : Protocol) {wake : WakeSet} (stored input : Option (List ℕ)) (g : Shape) (events : List Event) (P : List ℕ → List ℕ → Type 0) →
    ((s i : List ℕ) → IsTraceText p s events → IsTextOf wake i g → P s i) →
    IfSome stored (λ s. IsTraceText p s events) →
    IfSome input (λ i. IsTextOf wake i g) →
    IfSome stored (λ s. IfSome input (λ i. P s i))
if_both p None input g events P all trace text = tt
if_both p (Some s) None g events P all trace text = tt
if_both p (Some s) (Some i) g events P all trace text = all s i trace text

-- so what a result tells of both it tells of their texts,
pub output_of_both : {A : Type 0} (wake : WakeSet) (r : Result A ServeFault) (out : A → List ℕ) (p : Protocol)
    (Tells : Shape → List Event → List ℕ → Type 0)
    (g : Shape) (events : List Event) (stored input : Option (List ℕ)) →
    IfOk r (λ x. Tells g events (out x)) →
    IfSome stored (λ s. IsTraceText p s events) →
    IfSome input (λ i. IsTextOf wake i g) →
    IfOk r (λ x. IfSome stored (λ s. IfSome input (λ i. IsOfBoth p wake Tells s i (out x))))
output_of_both wake (Err fault) out p Tells g events stored input told trace text = tt
output_of_both wake (Ok x) out p Tells g events stored input told trace text =
    if_both p stored input g events (λ s i. IsOfBoth p wake Tells s i (out x))
    (λ s i trace_s text_i. told_of p Tells s i (out x) g events trace_s text_i told)
    trace text

-- and so does its fault
pub cause_of_both : {A : Type 0} (wake : WakeSet) (r : Result A ServeFault) (p : Protocol)
    (Fails : Shape → List Event → ServeFault → Type 0) (g : Shape)
    (events : List Event) (stored input : Option (List ℕ)) →
    IfErr r (Fails g events) →
    IfSome stored (λ s. IsTraceText p s events) →
    IfSome input (λ i. IsTextOf wake i g) →
    IfErr r (λ fault. IfSome stored (λ s. IfSome input (λ i. IsBothCause p wake Fails s i fault)))
cause_of_both wake (Ok x) p Fails g events stored input cause trace text = tt
cause_of_both wake (Err fault) p Fails g events stored input cause trace text =
    if_both p stored input g events (λ s i. IsBothCause p wake Fails s i fault)
    (λ s i trace_s text_i. fault_of p Fails s i g events fault trace_s text_i cause)
    trace text

-- what follows for each value, or each fault, follows for a result
pub if_ok : {A E : Type 0} (r : Result A E) (H : Type 0) (P Q : A → Type 0) → ((x : A) → H → P x → Q x) → OnOk r H → IfOk r P → IfOk r Q
if_ok (Ok x) H P Q f h all = f x h all
if_ok (Err e) H P Q f h all = tt

pub if_err : {A E : Type 0} (r : Result A E) (P Q : E → Type 0) → ((e : E) → P e → Q e) → IfErr r P → IfErr r Q
if_err (Ok x) P Q f all = tt
if_err (Err e) P Q f all = f e all

-- a graph with the nodes and keys of a raw one is the one that is built of it
pub same_shape : (g : Shape) (raw : RawShape) → g.nodes ≡ raw.nodes → g.keys ≡ map key_of raw.keys → g ≡ shape_of raw
same_shape g raw nodes keys =
    subst (λ (ks : List Key). g ≡ record { nodes = raw.nodes; keys = ks }) keys
    (subst (λ (n : ℕ). g ≡ record { nodes = n; keys = g.keys }) nodes refl)

-- a result that is a fault is served by its cause
pub serves_fault : (job : Task) (stored input : List ℕ) (old new : Option (List ℕ)) (r : Result (Unit {0}) ServeFault) (fault : ServeFault) →
    r ≡ Err fault →
    is_late job fault ≡ false →
    (meaning_of job).cause stored input fault →
    Serves job stored input old new r
serves_fault job stored input old new r fault is early cause = rw is (serves_cause job stored input old new fault early cause)

-- an output that has gone out serves the task that prints it
serves_output : (job : Task) (stored input output : List ℕ) (old new : Option (List ℕ)) (r : Result (Unit {0}) ServeFault) →
    (meaning_of job).prints stored input output →
    HasGoneOut output old new r →
    Serves job stored input old new r
serves_output job stored input output old new (Ok u) printed out = (output, printed, out.whole)
serves_output job stored input output old new (Err fault) printed out =
    let part = out.part in rw part.is (output, inl printed, part.less, part.has)

-- an output that a task prints serves it where all of it has gone out,
pub serves_all : (job : Task) (stored input bytes output : List ℕ) (old new : Option (List ℕ)) →
    bytes ≡ output →
    HasWritten old new bytes (length bytes) →
    (meaning_of job).prints stored input output →
    Serves job stored input old new (Ok tt)
serves_all job stored input bytes output old new same has out = (output, out, subst (λ (b : List ℕ). HasWritten old new b (length b)) same has)

-- where all of it has, and the turns are used,
pub serves_limit : (job : Task) (stored input bytes output : List ℕ) (old new : Option (List ℕ)) →
    bytes ≡ output →
    HasWritten old new bytes (length bytes) →
    (meaning_of job).cause stored input serve.TurnLimit →
    (meaning_of job).prints_at_limit stored input output →
    Serves job stored input old new (Err serve.TurnLimit)
serves_limit job stored input bytes output old new same has cause out = (
  cause,
  λ shows. (output, out, subst (λ (b : List ℕ). HasWritten old new b (length b)) same has),
)

-- or its first bytes, where a write failed
pub serves_part : (job : Task) (stored input bytes output : List ℕ) (old new : Option (List ℕ))
    (r : Result (Unit {0}) ServeFault) (written : ℕ) →
    bytes ≡ output →
    r ≡ Err (serve.Write written) →
    written < length bytes →
    HasWritten old new bytes written →
    (meaning_of job).prints stored input output ⊎ (meaning_of job).prints_at_limit stored input output →
    Serves job stored input old new r
serves_part job stored input bytes output old new r written same is less has out =
    rw is (
      output,
      out,
      subst (λ (b : List ℕ). written < length b) same less,
      subst (λ (b : List ℕ). HasWritten old new b written) same has,
    )

-- a fault is a late one where one of these is true
none_late : (write memory limit portions events : Bool) → write ≡ false → portions ≡ false → events ≡ false →
    (write || (memory && portions) || (limit && events)) ≡ false
none_late write true true portions events early whole quiet = rw (early, whole, quiet) refl
none_late write true false portions events early whole quiet = rw (early, whole) refl
none_late write false true portions events early whole quiet = rw (early, quiet) refl
none_late write false false portions events early whole quiet = rw early refl

no_write : (write memory limit portions events : Bool) → (write || (memory && portions) || (limit && events)) ≡ false → write ≡ false
no_write true memory limit portions events none = absurd (let bad : true ≡ false = none in cc)
no_write false memory limit portions events none = refl

-- what a task prints whole has gone out, or it is said why there is nothing
serves_made : (job : Task) (stored input : List ℕ) (made : Result (Vec ℕ Global) ServeFault) (old new : Option (List ℕ))
    (r : Result (Unit {0}) ServeFault) →
    (meaning_of job).by_portions ≡ false →
    (meaning_of job).shows_events ≡ false →
    IfErr made (λ fault. is_write fault ≡ false) →
    HasPrinted made old new r →
    IfOk made (λ text. (meaning_of job).prints stored input text.items) →
    IfErr made (λ fault. (meaning_of job).cause stored input fault) →
    Serves job stored input old new r
serves_made job stored input (Ok text) old new r whole quiet early has printed cause =
    serves_output job stored input text.items old new r printed has.out
serves_made job stored input (Err fault) old new r whole quiet early has printed cause =
    serves_fault job stored input old new r fault has.none
    (none_late (is_write fault) (is_memory fault) (is_limit fault) ((meaning_of job).by_portions)
    ((meaning_of job).shows_events) early whole quiet) cause

-- whatever is stored,
pub serves_unread : (job : Task) (input : Option (List ℕ)) (made : Result (Vec ℕ Global) ServeFault) (old new : Option (List ℕ))
    (r : Result (Unit {0}) ServeFault) →
    (meaning_of job).by_portions ≡ false →
    (meaning_of job).shows_events ≡ false →
    IfErr made (λ fault. is_write fault ≡ false) →
    HasPrinted made old new r →
    ((s : List ℕ) → IfOk made (λ text. IfSome input (λ i. (meaning_of job).prints s i text.items))) →
    ((s : List ℕ) → IfErr made (λ fault. IfSome input (λ i. (meaning_of job).cause s i fault))) →
    (s : List ℕ) → IfSome input (λ i. Serves job s i old new r)
serves_unread job None made old new r whole quiet early has printed cause s = tt
serves_unread job (Some i) made old new r whole quiet early has printed cause s =
    serves_made job s i made old new r whole quiet early has (printed s) (cause s)

-- or of what is stored
pub serves_stored : (job : Task) (stored input : Option (List ℕ)) (made : Result (Vec ℕ Global) ServeFault) (old new : Option (List ℕ))
    (r : Result (Unit {0}) ServeFault) →
    (meaning_of job).by_portions ≡ false →
    (meaning_of job).shows_events ≡ false →
    IfErr made (λ fault. is_write fault ≡ false) →
    HasPrinted made old new r →
    IfOk made (λ text. IfSome stored (λ s. IfSome input (λ i. (meaning_of job).prints s i text.items))) →
    IfErr made (λ fault. IfSome stored (λ s. IfSome input (λ i. (meaning_of job).cause s i fault))) →
    IfSome stored (λ s. IfSome input (λ i. Serves job s i old new r))
serves_stored job None input made old new r whole quiet early has printed cause = tt
serves_stored job (Some s) None made old new r whole quiet early has printed cause = tt
serves_stored job (Some s) (Some i) made old new r whole quiet early has printed cause =
    serves_made job s i made old new r whole quiet early has printed cause

-- where only the write may be late, the writer is as it was before it
pub unwritten_but_for_write : {W : Type 0} (job : Task) (old new : W) (r : Result (Unit {0}) ServeFault) →
    IfErr r (λ fault. is_write fault ≡ false → new ≡ old) →
    IsUnwritten job old new r
unwritten_but_for_write job old new (Ok u) early = tt
unwritten_but_for_write job old new (Err fault) early = λ none.
    early (no_write (is_write fault) (is_memory fault) (is_limit fault) ((meaning_of job).by_portions) ((meaning_of job).shows_events) none)

-- a job is served as its task is
pub serves_as : (job other : Task) (stored input old new : Option (List ℕ)) (r : Result (Unit {0}) ServeFault) →
    job ≡ other →
    IfStored other stored (λ s. IfSome input (λ i. Serves other s i old new r)) →
    IfStored job stored (λ s. IfSome input (λ i. Serves job s i old new r))
serves_as job other stored input old new r is all = rw is all

pub unwritten_as : {W : Type 0} (job other : Task) (old new : W) (r : Result (Unit {0}) ServeFault) →
    job ≡ other →
    IfErr r (λ fault. is_late other fault ≡ false → new ≡ old) →
    IsUnwritten job old new r
unwritten_as job other old new (Ok u) is early = tt
unwritten_as job other old new (Err fault) is early = rw is early

pub unread_as : {T : Type 0} (job other : Task) (old new : T) → job ≡ other → IsUnread other old new → IsUnread job old new
unread_as job other old new is unread = rw is unread

-- nothing is said of the trace where the task reads it
pub unread_by : {T : Type 0} (job : Task) (old new : T) → (meaning_of job).reads_trace ≡ true → IsUnread job old new
unread_by job old new reads = λ none. absurd (let bad : true ≡ false = sym reads ∙ none in cc)

-- a text that was made goes out,
pub all_printed : (made : Result (Vec ℕ Global) ServeFault) (text : Vec ℕ Global) (bytes : List ℕ) (old new : Option (List ℕ)) →
    made ≡ Ok text →
    bytes ≡ text.items →
    HasWritten old new bytes (length bytes) →
    HasPrinted made old new (Ok tt)
all_printed made text bytes old new is same has =
    rw is (record {
      out = record { whole = subst (λ (b : List ℕ). HasWritten old new b (length b)) same has; part = tt };
      none = tt;
    })

-- or a part of it,
pub part_printed : (made : Result (Vec ℕ Global) ServeFault) (text : Vec ℕ Global) (bytes : List ℕ) (old new : Option (List ℕ))
    (r : Result (Unit {0}) ServeFault) (written : ℕ) →
    made ≡ Ok text →
    bytes ≡ text.items →
    r ≡ Err (serve.Write written) →
    written < length bytes →
    HasWritten old new bytes written →
    HasPrinted made old new r
part_printed made text bytes old new r written is same failed less has =
    rw (is, failed) (record {
      out = record {
        whole = tt;
        part = record {
          written = written;
          is = refl;
          less = subst (λ (b : List ℕ). written < length b) same less;
          has = subst (λ (b : List ℕ). HasWritten old new b written) same has;
        };
      };
      none = tt;
    })

-- or nothing, where there is none
pub none_printed : (made : Result (Vec ℕ Global) ServeFault) (fault : ServeFault) (old new : Option (List ℕ)) (r : Result (Unit {0}) ServeFault) →
    made ≡ Err fault →
    r ≡ Err fault →
    HasPrinted made old new r
none_printed made fault old new r is failed = rw is (record { out = tt; none = failed })
