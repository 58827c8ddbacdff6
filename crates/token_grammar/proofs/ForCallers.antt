-- What the crates above cite of the proofs here.
pub use Rattle.token_grammar.proofs.AllTexts.{tokens_are_those_of_the_grammar}
