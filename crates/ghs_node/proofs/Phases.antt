-- The test for one phase tells it.
use Rattle.std.proofs.Common.{◌≡◌, true, refl}
use Rattle.ghs_node.specs.declared.message.Phase.{Phase}
use Rattle.ghs_node.specs.declared.message.Phase.TheVariants.{Sleeping, Find, Found}
use Rattle.ghs_node.specs.Phases.{same_phase}

pub same_phase_is : (p q : Phase) → same_phase p q ≡ true → p ≡ q
same_phase_is Sleeping Sleeping e = refl
same_phase_is Sleeping Find e = cc
same_phase_is Sleeping Found e = cc
same_phase_is Find Sleeping e = cc
same_phase_is Find Find e = refl
same_phase_is Find Found e = cc
same_phase_is Found Sleeping e = cc
same_phase_is Found Find e = cc
same_phase_is Found Found e = refl
