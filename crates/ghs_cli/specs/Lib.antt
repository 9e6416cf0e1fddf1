-- To be believed: contracts cite what stands here, and what it is made of.
pub mod AnyExplore
pub mod AnyRun
pub mod AnyView
pub mod Charts
pub mod Exploring
pub mod Fronts
pub mod Networks
pub mod Parted
pub mod Printing
pub mod Running
pub mod Serving
pub mod Sweeping
pub mod Swept
pub mod Verbs
pub mod Viewing
