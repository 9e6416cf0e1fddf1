-- What is counted while the events of a run are gone over.
use Rattle.std.proofs.Common.{◌≡◌, ℕ, ◌+◌, ◌<◌, Option, Some, List, [], ◌∷◌, ◌++◌, length, map, max, refl, sym, ◌∙◌, ap, append_assoc, append-nil, arith}
use Rattle.std.specs.List.{sum_by}
use Rattle.std.proofs.lemmas.List.Sums.{sum_by-cons}
use Rattle.std.specs.Prelude.{unwrap_or}
use Rattle.ghs_graph.specs.Graph.{Shape}
use Rattle.ghs_node.specs.declared.delta.Delta.{Delta}
use Rattle.ghs_node.specs.declared.row_name.RowName.{RowName}
use Rattle.ghs_node.specs.declared.row_name.RowName.TheVariants as names
use Rattle.ghs_node.specs.declared.work.Work.{Work}
use Rattle.ghs_node.specs.Reaction.{reaction, requeues}
use Rattle.ghs_node.specs.Words.{Outgoing}
use Rattle.peer_network.specs.declared.event.Event.{Event}
use Rattle.peer_network.specs.declared.event.Event.TheVariants.{Wake, Take}
use Rattle.ghs_protocol.specs.Ledger.{of_kind}
use Rattle.ghs_protocol.specs.Net.{Net, happens, opening}
use Rattle.peer_network.specs.Events.{event_node}
use Rattle.peer_network.specs.Network.{network_of}
use Rattle.ghs_protocol.specs.Run.{IsAfter, IsRun, net_after, run}
use Rattle.ghs_protocol.specs.Steps.{Happens, Woke, Took}
use Rattle.ghs_protocol.proofs.lemmas.Effects.{taken_sent}
use Rattle.ghs_protocol.proofs.lemmas.Events.{happening}
use Rattle.ghs_protocol.proofs.lemmas.Runs.{both_some, net_after_is, run_joins}
use Rattle.ghs_protocol.proofs.lemmas.Sends.{messages, sent_now}
use Rattle.ghs_core.specs.NetState.{delivery, work_at}
use Rattle.ghs_steps.specs.declared.sent.Sent.{Sent}
use Rattle.ghs_steps.specs.Told.{sent_by}
use Rattle.ghs_parts.specs.Deeds.{Deed, deed, deeds, deeds_behind, sent_of}
use Rattle.ghs_parts.specs.Parts.{greatest_level}
use Rattle.ghs_parts.specs.Rule.{rule_place}

deeds_append : (g : Shape) (done es fs : List Event) → deeds_behind g done (es ++ fs) ≡ deeds_behind g done es ++ deeds_behind g (done ++ es) fs
deeds_append g done [] fs = ap (λ (d : List Event). deeds_behind g d fs) (sym (append-nil done))
deeds_append g done (e ∷ es) fs =
    ap (λ ds. deed g done e ∷ ds)
    (deeds_append g (done ++ e ∷ []) es fs
    ∙ ap (λ (d : List Event). deeds_behind g (done ++ e ∷ []) es ++ deeds_behind g d fs) (append_assoc done (e ∷ []) es))

-- one event more
pub deeds_more : (g : Shape) (es : List Event) (e : Event) → deeds g (es ++ e ∷ []) ≡ deeds g es ++ deed g es e ∷ []
deeds_more g es e = deeds_append g [] es (e ∷ [])

-- each event has a deed
pub deeds_length : (g : Shape) (done es : List Event) → sum_by (λ (d : Deed). 1) (deeds_behind g done es) ≡ length es
deeds_length g done [] = refl
deeds_length g done (e ∷ es) =
    let rest = deeds_length g (done ++ e ∷ []) es in
    let first = sum_by-cons (λ (d : Deed). 1) (deed g done e) (deeds_behind g (done ++ e ∷ []) es) in
    omega (arith, rest, first)

-- the messages of what is told are those of the reaction
told_messages : (g : Shape) (v : ℕ) (ss : Outgoing) → map (λ (s : Sent). s.message) (map (sent_by g v) ss) ≡ messages ss
told_messages g v [] = refl
told_messages g v (s ∷ ss) = ap (λ ms. s.1 ∷ ms) (told_messages g v ss)

pub sent_here : (g : Shape) (es : List Event) (e : Event) (d : Delta) (k : ℕ) →
    reaction ((net_after g es).node (event_node e)) (work_at (net_after g es) e) ≡ Some d →
    sent_of k (deed g es e) ≡ of_kind k (messages d.sends)
sent_here g es e d k r =
    let n = (net_after g es).node (event_node e) in
    ap (λ (o : Option Delta). of_kind k (map (λ (s : Sent). s.message) (map (sent_by g (event_node e)) (unwrap_or o (requeues n.head)).sends))) r
    ∙ ap (of_kind k) (told_messages g (event_node e) d.sends)

-- what an event that happens adds to what was sent
happens_sent : (g : Shape) (es : List Event) (e : Event) (w x : Net) (k : ℕ) → net_after g es ≡ w → Happens (network_of g) w e x →
    x.sent k ≡ w.sent k + sent_of k (deed g es e)
happens_sent g es _ w _ k is (Woke v d lo hi s r) =
    let here = sent_here g es (Wake v) d k (rw is r) in
    sent_now (network_of g) v d w k ∙ ap (λ n. w.sent k + n) (sym here)
happens_sent g es _ w _ k is (Took v p m ms d at q r) =
    let work : work_at (net_after g es) (Take v p) ≡ work_at w (Take v p) = ap (λ (x : Net). work_at x (Take v p)) is in
    let brings : work_at w (Take v p) ≡ delivery p (m ∷ ms) = ap (delivery p) q in
    let answer : reaction ((net_after g es).node v) (work_at (net_after g es) (Take v p)) ≡ Some d =
    ap (λ (job : Work). reaction ((net_after g es).node v) job) (work ∙ brings) ∙ rw is r in
    taken_sent (network_of g) v p m ms d w k ∙ ap (λ n. w.sent k + n) (sym (sent_here g es (Take v p) d k answer))

-- what the deeds of a run have sent is what was sent
pub sent_behind : (g : Shape) (k : ℕ) (done es : List Event) (w x : Net) → IsAfter (network_of g) done w → run (network_of g) es w ≡ Some x →
    w.sent k + sum_by (sent_of k) (deeds_behind g done es) ≡ x.sent k
sent_behind g k done [] w x h r = let same : w.sent k ≡ x.sent k = ap (λ (o : Option Net). (unwrap_or o w).sent k) r in omega (arith, same)
sent_behind g k done (e ∷ es) w x h r =
    both_some (happens (network_of g) w e) (λ y. run (network_of g) es y) x r (λ y here rest.
    let n = network_of g in
    let after : IsAfter n (done ++ e ∷ []) y = run_joins n done (e ∷ []) (opening n) w h ∙ one y here in
    let ih = sent_behind g k (done ++ e ∷ []) es y x after rest in
    let step = happens_sent g done e w y k (net_after_is g done w h) (happening n w y e here) in
    let first = sum_by-cons (sent_of k) (deed g done e) (deeds_behind g (done ++ e ∷ []) es) in
    omega (arith, ih, step, first))
  where
    one : (y : Net) → happens (network_of g) w e ≡ Some y → run (network_of g) (e ∷ []) w ≡ Some y
    one y here = rw here refl

pub all_sent : (g : Shape) (k : ℕ) (es : List Event) → IsRun (network_of g) es → sum_by (sent_of k) (deeds g es) ≡ (net_after g es).sent k
all_sent g k es r =
    let n = network_of g in
    let sum = sent_behind g k [] es (opening n) r.0 refl r.1 in
    let same : r.0.sent k ≡ (net_after g es).sent k = ap (λ (w : Net). w.sent k) (sym (net_after_is g es r.0 r.1)) in
    omega (arith, sum, same)

-- the greatest level of some, and of the next
pub greatest_more : (ds : List Deed) (d : Deed) → greatest_level (ds ++ d ∷ []) ≡ max (greatest_level ds) d.level
greatest_more [] d = omega arith
greatest_more (x ∷ ds) d = let rest = greatest_more ds d in omega (arith, rest)

-- a row's place is in the table
pub rule_few : (r : RowName) → rule_place r < 23
rule_few names.Wakes = omega arith
rule_few names.WakesAlone = omega arith
rule_few names.WokenMerges = omega arith
rule_few names.WokenConnectWaits = omega arith
rule_few names.WokenTestWaits = omega arith
rule_few names.WokenAccepts = omega arith
rule_few names.ConnectAbsorbed = omega arith
rule_few names.ConnectWaits = omega arith
rule_few names.ConnectMerges = omega arith
rule_few names.InitiateRests = omega arith
rule_few names.InitiateSearches = omega arith
rule_few names.TestWaits = omega arith
rule_few names.TestAccepted = omega arith
rule_few names.TestRejected = omega arith
rule_few names.TestsCross = omega arith
rule_few names.AcceptHeard = omega arith
rule_few names.RejectHeard = omega arith
rule_few names.ReportHeard = omega arith
rule_few names.ReportWaits = omega arith
rule_few names.ReportMovesRoot = omega arith
rule_few names.RootMoves = omega arith
rule_few names.ReportHalts = omega arith
rule_few names.ReportPasses = omega arith
