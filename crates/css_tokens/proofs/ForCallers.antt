-- What the crates above cite of the proofs here: facts on the parts and tokens of a text, which say nothing of the
-- code that reads them.
pub use Rattle.css_tokens.proofs.LawLemmas.{parts_join, tokens_cover}
pub use Rattle.css_tokens.proofs.LexedLemmas.{lexed_are_parts, parts_are_lexed}
pub use Rattle.css_tokens.proofs.Marks.{mark_len}
pub use Rattle.css_tokens.proofs.PartLemmas.{Holds, part_len, part_rule, white_some}
pub use Rattle.css_tokens.proofs.RestartLemmas.{tokens_restart}
pub use Rattle.css_tokens.proofs.RuleLemmas.{symbol_number}
pub use Rattle.css_tokens.proofs.RunLemmas.{run_from-drop, run_none, run_unit}
pub use Rattle.css_tokens.proofs.SaidLemmas.{wide_unlike}
pub use Rattle.css_tokens.proofs.Utf8Length.{not_utf8_longer, whole_is_utf8}
pub use Rattle.css_tokens.proofs.WholeCharacters.{branch, lexed_whole, part_whole}
