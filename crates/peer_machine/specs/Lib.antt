-- To be believed: contracts cite what stands here, and what it is made of.
pub mod Rules
pub mod Net
pub mod Run
pub mod Ledger
pub mod Steps
pub mod Laws
pub mod Protocol
pub mod Explorable
pub mod Ends
pub mod Branches
pub mod Budget
