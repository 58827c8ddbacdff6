-- What the proofs of other crates may cite: that the kept items of a sheet that follows another one are the same.
pub use Rattle.media_groups.proofs.Staying.{follow_kept}
