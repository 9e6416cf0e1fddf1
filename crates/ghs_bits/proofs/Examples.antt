-- Small runs, computed from the definitions; their values by hand.
use Rattle.std.proofs.Common.{◌≡◌, List, [], ◌∷◌, refl}
use Rattle.ghs_graph.specs.Graph.{Shape}
use Rattle.ghs_graph.specs.Ports.{ports_of}
use Rattle.peer_network.specs.declared.event.Event.{Event}
use Rattle.peer_network.specs.declared.event.Event.TheVariants.{Wake, Take}
use Rattle.ghs_bits.specs.Bits.{all_sent, bits_sent, longest_sent}
use Rattle.ghs_bits.specs.Length.{width_from, width_of, widths_of}

-- 0 and 1 have one bit, 7 has three, 8 four
none : width_of 0 ≡ 1
unfolding width_of width_from
none = refl

one : width_of 1 ≡ 1
unfolding width_of width_from
one = refl

seven : width_of 7 ≡ 3
unfolding width_of width_from
seven = refl

eight : width_of 8 ≡ 4
unfolding width_of width_from
eight = refl

-- The triangle of the links 1-2 of weight 1, 2-3 of weight 2 and 1-3 of weight 3: a node's number and a weight have two bits, a level
-- one and a key six.
triangle : Shape
triangle = record {
  nodes = 3;
  keys = record { weight = 1; a = 1; b = 2 } ∷ record { weight = 2; a = 2; b = 3 } ∷ record { weight = 3; a = 1; b = 3 } ∷ [];
}

widths : widths_of triangle ≡ record { number = 2; weight = 2; level = 1 }
unfolding triangle widths_of width_of width_from
widths = refl

-- A run to its end. Three Connects of 4 bits, three Initiates of 11, three Tests of 10, a Reject of 3 and three Reports without a key of 4
-- are 12 + 33 + 30 + 3 + 12.
lesson : List Event
lesson =
    Wake 2 ∷ Take 1 0 ∷ Take 2 0 ∷ Take 1 0 ∷ Take 2 0 ∷ Take 3 1 ∷ Take 2 1 ∷ Take 3 0 ∷ Take 3 0 ∷ Take 3 1 ∷ Take 3 0 ∷ Take 1 1 ∷ Take 2 1
    ∷ Take 2 1 ∷ Take 1 0 ∷ []

bits : bits_sent triangle lesson ≡ 90
unfolding triangle lesson all_sent widths_of width_of width_from ports_of
bits = refl

longest : longest_sent triangle lesson ≡ 11
unfolding triangle lesson all_sent widths_of width_of width_from ports_of
longest = refl

-- nothing is sent before the first event
nothing : longest_sent triangle [] ≡ 0
unfolding all_sent
nothing = refl

-- its first event sends a Connect, the next a Connect and an Initiate
two : bits_sent triangle (Wake 2 ∷ Take 1 0 ∷ []) ≡ 19
unfolding triangle all_sent widths_of width_of width_from ports_of
two = refl
