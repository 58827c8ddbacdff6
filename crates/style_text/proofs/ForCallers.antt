-- What the proofs of other crates may cite: that the selectors of a sheet that is read are small.
pub use Rattle.style_text.proofs.Small.{read_is_small}
