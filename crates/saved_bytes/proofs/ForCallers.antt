-- What the proofs of other crates may cite: the source of a sheet that can be planned is short.
pub use Rattle.saved_bytes.proofs.Gains.{short_source}
