-- Two fragments become one: Connects meet, or one is absorbed.
pub mod NewBranch
pub mod NewCore
pub mod Lower
pub mod OneFragment
pub mod Risen
pub mod Floors
pub mod UnderWay
pub mod Met
pub mod MetByRoot
pub mod CoreAnswered
pub mod ConnectIn
pub mod Absorb
pub mod AbsorbFloors
pub mod AbsorbUnderWay
pub mod LeastLinks
