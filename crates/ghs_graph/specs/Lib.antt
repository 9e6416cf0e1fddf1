-- To be believed: contracts cite what stands here, and what it is made of.
pub mod Key
pub mod Links
pub mod Ports
pub mod Graph
pub mod Components
pub mod Built
pub mod Laws
pub mod Layout
pub mod Classes
pub mod Spanning
pub mod Bound
pub mod Computing
