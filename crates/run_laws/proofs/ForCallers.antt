-- What the proofs of other crates may cite: how many parts go, and that none is again if all may go.
pub use Rattle.run_laws.proofs.Listed.{Compared, NoneAgain, above_below, all_go, all_of_one_go, compared, few_go, few_of_one, is_less, is_more, is_same, marks_length, none_as_heavy}
