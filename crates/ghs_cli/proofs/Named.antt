-- Lines of networks, one's behind another's.
use Rattle.std.proofs.Common.{◌≡◌, ◌++◌, ◌+◌, ◌<◌, ◌∙◌, List, ℕ, Option, Ok, Err, [], ◌∷◌, ap, append_assoc, length, refl, string_bytes, subst, sym, take}
use Rattle.std.specs.Prelude.{Result}
use Rattle.std.specs.List.{slice_index_or}
use Rattle.std.proofs.lemmas.List.{take_more}
use Rattle.ghs_commands.specs.declared.job.SweepOptions.{SweepOptions}
use Rattle.peer_trace.specs.declared.protocol.Protocol.{Protocol}
use Rattle.peer_sweep.specs.Front.{front_of}
use Rattle.ghs_report.specs.Writing.{HasWritten}
use Rattle.ghs_answers.specs.declared.fault.ServeFault.{ServeFault}
use Rattle.ghs_answers.specs.declared.fault.ServeFault.TheVariants as serve
use Rattle.ghs_cli.specs.declared.networks.Network.{Network}
use Rattle.ghs_cli.specs.Networks.{AreLinesOf, AreLinesOfAll, HasSwept, IsNetworksText, IsSweepOf, NextNetwork, front_head}
use Rattle.ghs_cli.specs.Sweeping.{AreLinesBy, heads_of}

-- where the lines of the first networks stand behind a text, and then those of the next, those of one more do
pub one_network_more : (ps : List Protocol) (o : SweepOptions) (ns : List Network) (i : ℕ) (n : Network) (old text new : List ℕ) →
    n ≡ slice_index_or ns i n →
    i < length ns →
    (lines : List ℕ) × AreLinesOfAll ps o (take i ns) lines × (text ≡ old ++ lines) →
    (lines : List ℕ) × AreLinesOf ps o n lines × (new ≡ text ++ lines) →
    (lines : List ℕ) × AreLinesOfAll ps o (take (i + 1) ns) lines × (new ≡ old ++ lines)
one_network_more ps o ns i n old text new is within (lines, before, first) (more, next, last) = (
  lines ++ more,
  subst (λ (l : List Network). AreLinesOfAll ps o l (lines ++ more)) (ap (λ (m : Network). take i ns ++ m ∷ []) is ∙ sym (take_more ns i n within))
      (NextNetwork (take i ns) n lines more before next),
  last ∙ (ap (λ (t : List ℕ). t ++ more) first ∙ append_assoc old lines more),
)

-- the lines of a network, each behind a front that is its name's
pub lines_behind : (ps : List Protocol) (o : SweepOptions) (n : Network) (front old new : List ℕ) →
    front ≡ front_of o.form (string_bytes n.name) →
    (lines : List ℕ) × AreLinesBy ps o front n.graph lines × (new ≡ old ++ lines) →
    (lines : List ℕ) × AreLinesOf ps o n lines × (new ≡ old ++ lines)
lines_behind ps o n front old new is (lines, are, printed) =
    (lines, record { swept = subst (λ (f : List ℕ). AreLinesBy ps o f n.graph lines) is are }, printed)

-- behind the head line the lines of networks are their text
pub networks_behind : (ps : List Protocol) (o : SweepOptions) (ns : List Network) (first old new : List ℕ) →
    first ≡ front_head o.form →
    old ≡ first ++ heads_of ps o →
    (lines : List ℕ) × AreLinesOfAll ps o ns lines × (new ≡ old ++ lines) →
    IsNetworksText ps o ns new
networks_behind ps o ns first old new is put (lines, each, printed) = record {
  lines = lines;
  each = each;
  printed = printed ∙ ap (λ (t : List ℕ). t ++ lines) (put ∙ ap (λ (f : List ℕ). f ++ heads_of ps o) is);
}

-- a write that succeeded wrote all
pub swept_all : (ps : List Protocol) (o : SweepOptions) (ns : List Network) (bytes output : List ℕ) (old new : Option (List ℕ)) →
    bytes ≡ output →
    HasWritten old new bytes (length bytes) →
    IsSweepOf ps o.sheet o ns output →
    HasSwept ps o ns old new (Ok tt)
swept_all ps o ns bytes output old new same has text = (output, text, subst (λ (b : List ℕ). HasWritten old new b (length b)) same has)

-- and one that failed the first bytes
pub swept_part : (ps : List Protocol) (o : SweepOptions) (ns : List Network) (bytes output : List ℕ) (old new : Option (List ℕ))
    (r : Result (Unit {0}) ServeFault) (written : ℕ) → bytes ≡ output →
    r ≡ Err (serve.Write written) →
    written < length bytes →
    HasWritten old new bytes written →
    IsSweepOf ps o.sheet o ns output →
    HasSwept ps o ns old new r
swept_part ps o ns bytes output old new r written same is less has text =
    rw is (output, text, subst (λ (b : List ℕ). written < length b) same less, subst (λ (b : List ℕ). HasWritten old new b written) same has)

-- where memory ran out nothing was written
pub swept_none : (ps : List Protocol) (o : SweepOptions) (ns : List Network) (old : Option (List ℕ)) (r : Result (Unit {0}) ServeFault) →
    r ≡ Err serve.Memory →
    HasSwept ps o ns old old r
swept_none ps o ns old r is = rw is refl
