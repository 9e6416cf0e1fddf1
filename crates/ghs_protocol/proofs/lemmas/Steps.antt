-- What each step keeps, each run keeps.
use Rattle.std.proofs.Common.{◌≡◌, List, arith, Some}
use Rattle.ghs_node.specs.declared.work.Work.TheVariants.{Deliver}
use Rattle.ghs_node.specs.Rows.{Awake}
use Rattle.ghs_node.proofs.lemmas.{row_computes}
use Rattle.peer_network.specs.declared.event.Event.{Event}
use Rattle.peer_network.specs.declared.event.Event.TheVariants as events
use Rattle.peer_network.specs.Network.{Network}
use Rattle.peer_network.proofs.lemmas.Wired.{IsWired, HasFewPorts}
use Rattle.ghs_protocol.specs.Net.{Net, opening}
use Rattle.ghs_protocol.specs.Run.{run, IsAfter}
use Rattle.ghs_protocol.specs.Steps.{waking, Happens, Woke, Took, Step, Wakes_up, Takes_one, Steps, One, Two}
use Rattle.ghs_protocol.proofs.lemmas.Nodes.{ports_many}
use Rattle.ghs_protocol.proofs.lemmas.Runs.{run_keeps, run_relates}
use Rattle.ghs_protocol.proofs.lemmas.Woken.{event_steps}
use Rattle.ghs_protocol.proofs.lemmas.WellFormed.{IsWellFormed, event_formed, opening_formed}

module _ (g : Network) where
  -- a step is an event that happens
  pub step_happens : {P : Type 0} {w w' : Net} → IsWellFormed g w → Step g w w' → ((e : Event) → Happens g w e w' → P) → P
  step_happens {w = w} f (Wakes_up v lo hi s) k = k (events.Wake v) (Woke v (waking (w.node v)) lo hi s (rw s))
  step_happens {w = w} f (Takes_one v p m ms d at q up row) k =
      k (events.Take v p)
      (Took v p m ms d at q (row_computes (w.node v) (Deliver p m) d (Awake up (omega (arith, at.port, ports_many (f.nodes v))) row)))

  module _ (wired : IsWired g) where
    pub step_formed : {w w' : Net} → IsWellFormed g w → Step g w w' → IsWellFormed g w'
    step_formed {w} {w'} f t = step_happens f t (λ e h. event_formed g wired w w' e f h)

    -- one event, by what each step keeps
    pub event_by_steps : (I : Net → Type 0) → ((w w' : Net) → IsWellFormed g w → I w → Step g w w' → I w') → (w w' : Net) (e : Event) →
        IsWellFormed g w → I w → Happens g w e w' → I w'
    event_by_steps I each w w' e f i h = go (event_steps g wired w w' e f.nodes h)
      where
        go : Steps g w w' → I w'
        go (One t) = each w w' f i t
        go (Two {u = u} t t') = each u w' (step_formed f t) (each w u f i t) t'

    -- what each step keeps, holds from the opening on
    pub run_by_steps : HasFewPorts g → (I : Net → Type 0) → ((w w' : Net) → IsWellFormed g w → I w → Step g w w' → I w') → I (opening g) →
        (es : List Event) (w : Net) → IsAfter g es w → I w
    run_by_steps few I each start es w h =
        (run_keeps g (λ x. IsWellFormed g x × I x)
        (λ x y e i t. (event_formed g wired x y e i.0 t, event_by_steps I each x y e i.0 i.1 t))
        es (opening g) w (opening_formed g few, start) h).1

    -- what lies between the nets before and after each step, lies between any two moments
    pub relates_by_steps : (I : Net → Type 0) (R : Net → Net → Type 0) → ((w : Net) → R w w) → ((w x w' : Net) → R w x → R x w' → R w w') →
        ((w w' : Net) → IsWellFormed g w → I w → Step g w w' → I w' × R w w') → (es : List Event) (w w' : Net) → IsWellFormed g w → I w →
        run g es w ≡ Some w' → R w w'
    relates_by_steps I R same on each es w w' f i h = run_relates g (λ x. IsWellFormed g x × I x) R same on event es w w' (f, i) h
      where
        event : (x y : Net) (e : Event) → IsWellFormed g x × I x → Happens g x e y → (IsWellFormed g y × I y) × R x y
        event x y e i t = go (event_steps g wired x y e i.0.nodes t)
          where
            go : Steps g x y → (IsWellFormed g y × I y) × R x y
            go (One s) = let a = each x y i.0 i.1 s in ((step_formed i.0 s, a.0), a.1)
            go (Two {u = u} s s') =
                let a = each x u i.0 i.1 s in
                let b = each u y (step_formed i.0 s) a.0 s' in
                ((step_formed (step_formed i.0 s) s', b.0), on x u y a.1 b.1)
