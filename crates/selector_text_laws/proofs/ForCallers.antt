-- What the crates above cite of the proofs here: how the text of a selector is read, and what is printed of single terms.
pub use Rattle.selector_text_laws.proofs.Arguments.{close_same}
pub use Rattle.selector_text_laws.proofs.Back.{bare_text, drop_tokens, plain_term, position_term, term_of, tokens}
pub use Rattle.selector_text_laws.proofs.Beside.{IsReadToken}
pub use Rattle.selector_text_laws.proofs.Clean.{closed_text, gap_shut}
pub use Rattle.selector_text_laws.proofs.ReadBack.{selector_texts_are_lexed, selector_texts_are_short, selectors_close, selectors_read_back, solids_read}
pub use Rattle.selector_text_laws.proofs.Utf8.{AreUtf8, back_is_utf8}
pub use Rattle.selector_text_laws.proofs.Notation.Shapes.{text_is_notation, text_is_read}
pub use Rattle.selector_text_laws.proofs.Notation.Shortest.{text_is_shortest}
pub use Rattle.selector_text_laws.proofs.Notation.Tokens.{pick, text_stands}
