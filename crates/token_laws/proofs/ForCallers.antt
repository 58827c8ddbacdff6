-- What the crates above cite of the proofs here: how single tokens and rows of them are read before other rests, and
-- the tokens of a source.
pub use Rattle.token_laws.proofs.Ends.Alike.{alike_byte, alike_space, goes_on}
pub use Rattle.token_laws.proofs.Ends.Anywhere.{ends_anywhere, ends_sign, lets_through, looks_behind, looks_none, sign_read, through_none}
pub use Rattle.token_laws.proofs.Ends.Looks.{white_rule}
pub use Rattle.token_laws.proofs.Ends.Rests.{ends_nil, is_plain, looks_byte, space_read}
pub use Rattle.token_laws.proofs.Ends.Rows.{ends_front, rows_again}
pub use Rattle.token_laws.proofs.Ends.RuleBounds.{quote_is, sign_is, white_is}
pub use Rattle.token_laws.proofs.Ends.Rules.{part_again, rule_part}
pub use Rattle.token_laws.proofs.Ends.Runs.{unit_le_run}
pub use Rattle.token_laws.proofs.Ends.Shapes.{shape_parts}
pub use Rattle.token_laws.proofs.Kept.Back.{AreGood, are_good, kept_row, last_kind, last_may, rest_of, take_good}
pub use Rattle.token_laws.proofs.Kept.Parts.{feed, gap_part, gap_parts, kept_parts, last_of, last_parts, part_of, text_append}
pub use Rattle.token_laws.proofs.Kept.Rows.{IsToken, KeptRow, LastMay, last_row, middle_row, token}
pub use Rattle.token_laws.proofs.Parts.Facts.{PartIs, first_of, is_gap, part_is}
pub use Rattle.token_laws.proofs.Parts.FirstBytes.{delim-text, hash-text, ident-no_digit, sign-text}
pub use Rattle.token_laws.proofs.Parts.Lexemes.{solids_are_lexemes}
pub use Rattle.token_laws.proofs.Parts.Solids.{lone_gap, lone_is, nothing_first, take_none}
pub use Rattle.token_laws.proofs.Spaces.Behind.{space_closes, space_ends}
