-- What each command does, one module a command.
pub mod Blockers
pub mod Check
pub mod Cmp
pub mod Dead
pub mod Diff
pub mod Inspect
pub mod Lint
pub mod Listing
pub mod Min
pub mod Same
pub mod Style
pub mod Trial
pub mod Why
