-- The middle node of the path 1-2-3, whose links have the keys (5,1,2) and (7,2,3): reactions computed from the table.
use Rattle.std.specs.Prelude.{◌≡◌, ◌++◌, true, Option, Some, None, List, [], ◌∷◌, refl}
use Rattle.ghs_graph.specs.declared.key.Key.{Key}
use Rattle.ghs_node.specs.declared.mark.Mark.TheVariants.{Basic, Branch}
use Rattle.ghs_node.specs.declared.message.Phase.TheVariants.{Sleeping, Find, Found}
use Rattle.ghs_node.specs.declared.message.Message.TheVariants.{Connect, Initiate, Test, Accept, Reject, Report, ChangeRoot}
use Rattle.ghs_node.specs.declared.delta.Fate.{Fate}
use Rattle.ghs_node.specs.declared.delta.Fate.TheVariants.{Consumed, Requeued}
use Rattle.ghs_node.specs.declared.delta.Delta.{Delta}
use Rattle.ghs_node.specs.declared.work.Work.{Work}
use Rattle.ghs_node.specs.declared.work.Work.TheVariants.{Wake, Deliver}
use Rattle.ghs_node.specs.Words.{Outgoing}
use Rattle.ghs_node.specs.NodeState.{NodeState, sleeper}
use Rattle.ghs_node.specs.Reaction.{reaction, after}

abbrev left : Key
left = record { weight = 5; a = 1; b = 2 }

abbrev right : Key
right = record { weight = 7; a = 2; b = 3 }

abbrev middle : NodeState
middle = sleeper 2 (record { key = left; far = 1; far_port = 0 } ∷ record { key = right; far = 3; far_port = 0 } ∷ [])

abbrev after_one : NodeState → Option Delta → NodeState
after_one n None = n
after_one n (Some d) = after n d

-- the state after some work
abbrev after_all : NodeState → List Work → NodeState
after_all n [] = n
after_all n (w ∷ ws) = after_all (after_one n (reaction n w)) ws

abbrev sends_of : Option Delta → Option (Fate × Outgoing)
sends_of None = None
sends_of (Some d) = Some (d.fate, d.sends)

-- what the middle node does with a piece of work, after others
abbrev then : List Work → Work → Option (Fate × Outgoing)
then ws w = sends_of (reaction (after_all middle ws) w)

-- the works of the example, in their order
abbrev begun : List Work
begun = Wake ∷ Deliver 1 (Connect 0) ∷ Deliver 0 (Connect 0) ∷ []

abbrev initiate : Work
initiate = Deliver 0 (Initiate 1 left Find)

abbrev joined : List Work
joined = begun ++ initiate ∷ Deliver 1 (Connect 0) ∷ []

wakes : then [] Wake ≡ Some (Consumed, (0, Connect 0) ∷ [])
wakes = refl

marks : (after_all middle (Wake ∷ [])).marks ≡ Branch ∷ Basic ∷ []
marks = refl

waits : then (Wake ∷ []) (Deliver 1 (Connect 0)) ≡ Some (Requeued, [])
waits = refl

untested : then begun (Deliver 0 Accept) ≡ None
untested = refl

already : then begun Wake ≡ None
already = refl

merges : then (Wake ∷ []) (Deliver 0 (Connect 0)) ≡ Some (Consumed, (0, Initiate 1 left Find) ∷ [])
merges = refl

searches : then begun initiate ≡ Some (Consumed, (1, Test 1 left) ∷ [])
searches = refl

absorbs : then (begun ++ initiate ∷ []) (Deliver 1 (Connect 0)) ≡ Some (Consumed, (1, Initiate 1 left Find) ∷ [])
absorbs = refl

counts : (after_all middle joined).head.find_count ≡ 1
counts = refl

hears : then joined (Deliver 1 (Report None)) ≡ Some (Consumed, [])
hears = refl

reports : then (joined ++ Deliver 1 (Report None) ∷ []) (Deliver 1 Reject) ≡ Some (Consumed, (0, Report None) ∷ [])
reports = refl

halts : (after_all middle (joined ++ Deliver 1 (Report None) ∷ Deliver 1 Reject ∷ Deliver 0 (Report None) ∷ [])).head.halted ≡ true
halts = refl

too_low : then (Wake ∷ []) (Deliver 0 (Initiate 0 left Find)) ≡ None
too_low = refl

to_sleep : then (Wake ∷ []) (Deliver 0 (Initiate 1 left Sleeping)) ≡ None
to_sleep = refl

unowed : then (Wake ∷ []) (Deliver 0 (Report None)) ≡ None
unowed = refl

no_best : then (Wake ∷ []) (Deliver 0 ChangeRoot) ≡ None
no_best = refl

above : then (Wake ∷ Deliver 0 (Initiate 20 left Found) ∷ []) (Deliver 0 (Connect 20)) ≡ None
above = refl

at_top : then (Wake ∷ Deliver 0 (Initiate 20 left Found) ∷ []) (Deliver 0 (Connect 19)) ≡ Some (Consumed, (0, Initiate 20 left Found) ∷ [])
at_top = refl

too_many : then (Wake ∷ initiate ∷ Deliver 1 (Connect 0) ∷ Deliver 1 (Connect 0) ∷ []) (Deliver 1 (Connect 0)) ≡ None
too_many = refl

woken_accepts : then [] (Deliver 1 (Test 0 right)) ≡ Some (Consumed, (0, Connect 0) ∷ (1, Accept) ∷ [])
woken_accepts = refl

woken_waits : then [] (Deliver 1 (Test 1 right)) ≡ Some (Requeued, (0, Connect 0) ∷ [])
woken_waits = refl
