-- The net merges its fragments as the graph alone does; so all runs end with one core in each component.
pub mod Links
pub mod Renamed
pub mod Halted
pub mod Connects
pub mod Joins
pub mod Runs
pub mod Components
pub mod Silent
pub mod SilentEnds
pub mod Quiet
pub mod SameWays
pub mod OneNet
pub mod Ended
