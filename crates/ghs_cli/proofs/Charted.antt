-- Panels of networks, one's below another's.
use Rattle.std.proofs.Common.{◌≡◌, ◌++◌, ◌+◌, ◌*◌, ◌<◌, ◌≤◌, ◌^◌, ◌∙◌, Bool, List, ℕ, suc, Option, Some, [], ◌∷◌, ap, append_assoc, arith, length, refl, string_bytes, subst, sym, take}
use Rattle.std.specs.List.{slice_index_or}
use Rattle.std.proofs.lemmas.List.{length-take-le, take_all, take_more}
use Rattle.std.proofs.lemmas.List.Sorted.{length_permutation}
use Rattle.ghs_graph.specs.Graph.{Shape}
use Rattle.peer_sweep.specs.declared.figures.Figures.{Figures}
use Rattle.peer_sweep.specs.declared.measure.Measure.{Measure}
use Rattle.peer_sweep.specs.Measure.{value_of}
use Rattle.peer_sweep.specs.Summary.{IsRising, listed, values_of}
use Rattle.peer_trace.specs.declared.protocol.Protocol.{Protocol}
use Rattle.peer_trace.specs.declared.protocol.Protocol.TheVariants.{Ghs}
use Rattle.ghs_commands.specs.declared.job.SweepOptions.{SweepOptions}
use Rattle.ghs_cli.specs.declared.networks.Network.{Network}
use Rattle.ghs_cli.specs.Charts.{ArePanelsBy, ArePanelsByEach, IsPanel, IsPanelOf, NextPanel}
use Rattle.ghs_cli.specs.Fronts.{are_several, panel_name}
use Rattle.ghs_cli.specs.Networks.{ArePanels, NextPanels}
use Rattle.ghs_answers.specs.Sheets.{setup_of}
use Rattle.ghs_cli.specs.Swept.{AreRunsBy}
use Rattle.ghs_answers.specs.Sheets.{count_of}

-- where the panels of a network by the first protocols stand behind a text, and then that of the next, those of one more do
pub one_panel_more : (ps : List Protocol) (several : Bool) (o : SweepOptions) (first : ℕ) (name own : List ℕ) (g : Shape) (i place : ℕ) (p : Protocol)
    (old text new : List ℕ) →
    p ≡ slice_index_or ps i Ghs →
    i < length ps →
    place ≡ first + i →
    own ≡ panel_name several name p →
    (panels : List ℕ) × ArePanelsByEach several o first name g (take i ps) panels × (text ≡ old ++ panels) →
    (panel : List ℕ) × IsPanel p o place own g panel × (new ≡ text ++ panel) →
    (panels : List ℕ) × ArePanelsByEach several o first name g (take (i + 1) ps) panels × (new ≡ old ++ panels)
one_panel_more ps several o first name own g i place p old text new is within at named (panels, before, put) (panel, next, last) =
    let count : place ≡ first + length (take i ps) = at ∙ ap (λ (k : ℕ). first + k) (sym (length-take-le i ps (omega (arith, within)))) in
    let here : IsPanel p o (first + length (take i ps)) (panel_name several name p) g panel =
    subst (λ (k : ℕ). IsPanel p o k (panel_name several name p) g panel) count (subst (λ (t : List ℕ). IsPanel p o place t g panel) named next) in (
      panels ++ panel,
      subst (λ (l : List Protocol). ArePanelsByEach several o first name g l (panels ++ panel))
          (ap (λ (q : Protocol). take i ps ++ q ∷ []) is ∙ sym (take_more ps i Ghs within))
          (NextPanel (take i ps) p panels panel before here),
      last ∙ (ap (λ (t : List ℕ). t ++ panel) put ∙ append_assoc old panels panel),
    )

-- with those of the last protocol they are all
pub all_panels : (ps : List Protocol) (several : Bool) (o : SweepOptions) (first : ℕ) (name : List ℕ) (g : Shape) (i : ℕ) (old new : List ℕ) →
    several ≡ are_several ps →
    length ps ≤ i →
    (panels : List ℕ) × ArePanelsByEach several o first name g (take i ps) panels × (new ≡ old ++ panels) →
    (panels : List ℕ) × ArePanelsBy ps o first name g panels × (new ≡ old ++ panels)
all_panels ps several o first name g i old new same past (panels, each, printed) = (
  panels,
  subst (λ (s : Bool). ArePanelsByEach s o first name g ps panels) same
      (subst (λ (l : List Protocol). ArePanelsByEach several o first name g l panels) (take_all i ps past) each),
  printed,
)

-- where the panels of the first networks stand behind a text, and then those of the next, those of one more do
pub one_network_charted : (ps : List Protocol) (o : SweepOptions) (ns : List Network) (i first : ℕ) (n : Network) (name old text new : List ℕ) →
    n ≡ slice_index_or ns i n →
    i < length ns →
    first ≡ i * length ps →
    name ≡ string_bytes n.name →
    (panels : List ℕ) × ArePanels ps o (take i ns) panels × (text ≡ old ++ panels) →
    (panels : List ℕ) × ArePanelsBy ps o first name n.graph panels × (new ≡ text ++ panels) →
    (panels : List ℕ) × ArePanels ps o (take (i + 1) ns) panels × (new ≡ old ++ panels)
one_network_charted ps o ns i first n name old text new is within at named (panels, before, put) (more, next, last) =
    let count : first ≡ length (take i ns) * length ps = at ∙ ap (λ (k : ℕ). k * length ps) (sym (length-take-le i ns (omega (arith, within)))) in
    let here : ArePanelsBy ps o (length (take i ns) * length ps) (string_bytes n.name) n.graph more =
    subst (λ (k : ℕ). ArePanelsBy ps o k (string_bytes n.name) n.graph more) count
    (subst (λ (t : List ℕ). ArePanelsBy ps o first t n.graph more) named next) in (
      panels ++ more,
      subst (λ (l : List Network). ArePanels ps o l (panels ++ more)) (ap (λ (m : Network). take i ns ++ m ∷ []) is ∙ sym (take_more ns i n within))
          (NextPanels (take i ns) n panels more before here),
      last ∙ (ap (λ (t : List ℕ). t ++ more) put ∙ append_assoc old panels more),
    )

-- the panel of just the sweep's runs is the network's
pub panel_is_swept : (p : Protocol) (o : SweepOptions) (place : ℕ) (name : List ℕ) (g : Shape) (all runs : List Figures) (old new : List ℕ) →
    runs ≡ all →
    AreRunsBy p g (setup_of o) o.seeds.first all →
    length all ≡ count_of o →
    (panel : List ℕ) × IsPanelOf p place name g runs panel × (new ≡ old ++ panel) →
    (panel : List ℕ) × IsPanel p o place name g panel × (new ≡ old ++ panel)
panel_is_swept p o place name g all runs old new same are count (panel, drawn, printed) = (
  panel,
  record { runs = all; are = are; all = count; drawn = subst (λ (l : List Figures). IsPanelOf p place name g l panel) same drawn },
  printed,
)

-- each run has a value of what all runs have
many_values : (m : Measure) (value : Figures → ℕ) → ((f : Figures) → value_of m f ≡ Some (value f)) → (runs : List Figures) →
    length (values_of m runs) ≡ length runs
many_values m value has [] = refl
many_values m value has (f ∷ fs) =
    let rest = many_values m value has fs in
    let one : length (values_of m (f ∷ fs)) ≡ suc (length (values_of m fs)) =
    ap (λ (v : Option ℕ). length (listed v ++ values_of m fs)) (has f) in
    one ∙ ap suc rest

-- as many values in rising order as there are runs
pub many_rising : (m : Measure) (value : Figures → ℕ) → ((f : Figures) → value_of m f ≡ Some (value f)) → (runs : List Figures)
    (rising read : List ℕ) → read ≡ rising → IsRising (values_of m runs) rising →
    1 ≤ length runs → length runs ≤ 2 ^ 32 → (1 ≤ length read) × (length read ≤ 2 ^ 32)
many_rising m value has runs rising read same rises some few =
    let one : length rising ≡ length (values_of m runs) = length_permutation (values_of m runs) rising rises.same in
    let two = many_values m value has runs in
    let all : length read ≡ length rising = ap length same in
    (omega (arith, one, two, all, some), omega (arith, one, two, all, few))
