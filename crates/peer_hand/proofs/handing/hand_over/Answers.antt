use Rattle.std.proofs.Common.{inr}
use Rattle.peer_hand.specs.Words.{fault_json, fault_members}
use Rattle.peer_hand.proofs.handing.hand_over.Goals as goal

-- the constant line is that of lack of memory
pub returns-in-Err-fault_line : goal.returns-in-Err-fault_line
unfolding fault_json fault_members
returns-in-Err-fault_line c =
    let given = c.give-in-Err-fault_line.ensures in
    record { text = given.text; is = inr given.is; count = given.count; fits = given.fits; large = given.large }
