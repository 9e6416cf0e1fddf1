-- All parts of a run have what was sent.
use Rattle.std.proofs.Common.{◌≡◌, ℕ, suc, ◌+◌, ◌<◌, ◌≤◌, Some, List, [], ◌∷◌, ◌++◌, refl, ◌∙◌, ap, arith}
use Rattle.ghs_graph.specs.Graph.{Shape}
use Rattle.ghs_node.specs.declared.row_name.RowName.TheVariants as names
use Rattle.peer_network.specs.declared.event.Event.{Event}
use Rattle.ghs_protocol.specs.Net.{Net, happens, opening}
use Rattle.peer_network.specs.Events.{event_node}
use Rattle.peer_network.specs.Network.{Network, network_of}
use Rattle.ghs_protocol.specs.Run.{run}
use Rattle.ghs_protocol.specs.Steps.{Happens, Woke, Took}
use Rattle.ghs_protocol.proofs.lemmas.Events.{happening}
use Rattle.ghs_protocol.proofs.lemmas.Runs.{both_some}
use Rattle.peer_network.proofs.lemmas.Sums.{sum_same}
use Rattle.ghs_choices.specs.declared.by.By.TheVariants.{Node, Level, Rule}
use Rattle.ghs_parts.specs.Deeds.{Deed, deeds, deeds_behind, sent_of}
use Rattle.ghs_parts.specs.Laws.{LevelsAddUp, NodesAddUp, PlacesAreRules, RulesAddUp}
use Rattle.ghs_parts.specs.Parts.{greatest_level, part_of, sum_in}
use Rattle.ghs_parts.proofs.Counting.{all_sent, deeds_length, rule_few}
use Rattle.peer_parts.proofs.lemmas.Summing.{AllWithin, all_parts}

-- the node of an event that happens is one of the network
pub node_in : (g : Network) (w x : Net) (e : Event) → Happens g w e x → (1 ≤ event_node e) × (event_node e < 1 + g.count)
node_in g w _ _ (Woke v d lo hi s r) = (lo, omega (arith, hi))
node_in g w _ _ (Took v p m ms d at q r) = let lo = at.some in let hi = at.node in (lo, omega (arith, hi))

nodes_within : (g : Shape) (done es : List Event) (w x : Net) → run (network_of g) es w ≡ Some x →
    AllWithin (part_of Node) 1 g.nodes (deeds_behind g done es)
nodes_within g done [] w x r = tt
nodes_within g done (e ∷ es) w x r =
    both_some (happens (network_of g) w e) (λ y. run (network_of g) es y) x r (λ y here rest.
    let node = node_in (network_of g) w y e (happening (network_of g) w y e here) in
    (node.0, node.1, nodes_within g (done ++ e ∷ []) es y x rest))

pub nodes_add_up : NodesAddUp
nodes_add_up g es k r =
    let n = network_of g in
    let within = nodes_within g [] es (opening n) r.0 r.1 in
    let same = sum_same g.nodes (λ i. sum_in Node (suc i) (sent_of k) (deeds g es)) (λ i. sum_in Node (1 + i) (sent_of k) (deeds g es))
    (λ i lt. ap (λ p. sum_in Node p (sent_of k) (deeds g es)) (next i)) in
    same ∙ all_parts (part_of Node) 1 g.nodes (sent_of k) (deeds g es) within ∙ all_sent g k es r
  where
    next : (i : ℕ) → suc i ≡ 1 + i
    next i = omega arith

levels_within : (n : ℕ) (ds : List Deed) → greatest_level ds ≤ n → AllWithin (part_of Level) 0 (n + 1) ds
levels_within n [] le = tt
levels_within n (d ∷ ds) le = (omega arith, omega (arith, le), levels_within n ds (omega (arith, le)))

pub levels_add_up : LevelsAddUp
levels_add_up g es k r =
    let top = greatest_level (deeds g es) in
    let same = sum_same (top + 1) (λ i. sum_in Level i (sent_of k) (deeds g es)) (λ i. sum_in Level (0 + i) (sent_of k) (deeds g es))
    (λ i lt. ap (λ p. sum_in Level p (sent_of k) (deeds g es)) (none i)) in
    same ∙ all_parts (part_of Level) 0 (top + 1) (sent_of k) (deeds g es) (levels_within top (deeds g es) (omega arith)) ∙ all_sent g k es r
  where
    none : (i : ℕ) → i ≡ 0 + i
    none i = omega arith

rules_within : (ds : List Deed) → AllWithin (part_of Rule) 0 23 ds
rules_within [] = tt
rules_within (d ∷ ds) = let few = rule_few d.step.moment.row in (omega arith, omega (arith, few), rules_within ds)

pub rules_add_up : RulesAddUp
rules_add_up g es =
    let same = sum_same 23 (λ i. sum_in Rule i (λ (d : Deed). 1) (deeds g es)) (λ i. sum_in Rule (0 + i) (λ (d : Deed). 1) (deeds g es))
    (λ i lt. ap (λ p. sum_in Rule p (λ (d : Deed). 1) (deeds g es)) (none i)) in
    same ∙ all_parts (part_of Rule) 0 23 (λ (d : Deed). 1) (deeds g es) (rules_within (deeds g es)) ∙ deeds_length g [] es
  where
    none : (i : ℕ) → i ≡ 0 + i
    none i = omega arith

pub places_are_rules : PlacesAreRules
places_are_rules names.Wakes = refl
places_are_rules names.WakesAlone = refl
places_are_rules names.WokenMerges = refl
places_are_rules names.WokenConnectWaits = refl
places_are_rules names.WokenTestWaits = refl
places_are_rules names.WokenAccepts = refl
places_are_rules names.ConnectAbsorbed = refl
places_are_rules names.ConnectWaits = refl
places_are_rules names.ConnectMerges = refl
places_are_rules names.InitiateRests = refl
places_are_rules names.InitiateSearches = refl
places_are_rules names.TestWaits = refl
places_are_rules names.TestAccepted = refl
places_are_rules names.TestRejected = refl
places_are_rules names.TestsCross = refl
places_are_rules names.AcceptHeard = refl
places_are_rules names.RejectHeard = refl
places_are_rules names.ReportHeard = refl
places_are_rules names.ReportWaits = refl
places_are_rules names.ReportMovesRoot = refl
places_are_rules names.RootMoves = refl
places_are_rules names.ReportHalts = refl
places_are_rules names.ReportPasses = refl
