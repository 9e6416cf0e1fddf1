-- Something done for one event after another.
use Rattle.std.specs.Prelude.{ℕ, List, [], ◌∷◌, zero, suc}
use Rattle.peer_network.specs.declared.event.Event.{Event}
use Rattle.peer_network.specs.declared.event.Event.TheVariants.{Take}

-- for the Takes at the first n ports of a node
abbrev pub on_takes : {C : Type 0} → (Event → C → C) → ℕ → ℕ → C → C
on_takes act v zero c = c
on_takes act v (suc n) c = act (Take v n) (on_takes act v n c)

-- for several events
abbrev pub on_each : {C : Type 0} → (Event → C → C) → List Event → C → C
on_each act [] c = c
on_each act (e ∷ es) c = on_each act es (act e c)
