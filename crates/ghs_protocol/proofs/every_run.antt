-- What every net of a run keeps, said of nets.
pub mod Holds
pub mod Sound
pub mod Trees
pub mod SparesRejected
pub mod RejectedStays
pub mod Foreseen
pub mod Interleavings
pub mod Firsts
pub mod Connects
pub mod Halts
pub mod Counts
