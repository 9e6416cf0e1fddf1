-- What proofs about steps above this crate may use.
-- Each event of a run is lawful where it stands.
pub use Rattle.ghs_steps.proofs.Going.{lawful_net}
