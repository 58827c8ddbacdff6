-- What the crates above cite of the proofs here: how notations are read, and cases of Booleans and options.
pub use Rattle.nth_positions.proofs.Bytes.{digit_range}
pub use Rattle.nth_positions.proofs.Caps.{pair, same_if_in_range, same_if_read_in_range}
pub use Rattle.nth_positions.proofs.Cases.{both_are, chosen, none_is_no_some, one_is}
pub use Rattle.nth_positions.proofs.Texts.{IsReadText, text_reads, text_splits}
