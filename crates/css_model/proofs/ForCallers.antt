-- What the proofs of other crates may cite.
pub use Rattle.css_model.proofs.Same.{decl_decides, selector_decides}
