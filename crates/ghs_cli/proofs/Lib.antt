-- Serves the proofs: nothing here has to be believed.
mod AnyExplorations
mod AnyRun
mod Charted
mod Ending
mod Explorations
mod MadeNetworks
mod Named
mod Parted
mod Replays
mod Roomy
mod Runs
mod Serves
mod Sheets
mod Stepped
mod Texts
mod Traces
mod Views
