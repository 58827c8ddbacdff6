-- What the crates above cite of the proofs here: where the block of an item is, what stands in a text up to a `}` by itself, the
-- tokens of the printed text of a sheet, and that they are none that a source has not; and the opened blocks of items, item by item.
pub use Rattle.opened_laws.proofs.Back.Blocks.{media_no_import, rule_opened}
pub use Rattle.opened_laws.proofs.Back.Starts.{BlocksAscend, sheet_ascends}
pub use Rattle.opened_laws.proofs.Back.Steps.{IsOpenedStep, IsPlainStep, NoneBegins, begins_here, opened_count, plain_count, step_at}
pub use Rattle.opened_laws.proofs.Block.AtRules.{body_is, first_of, sign_is}
pub use Rattle.opened_laws.proofs.Block.Between.{IsBetween, IsInside, closed_inside, inside_behind, inside_from}
pub use Rattle.opened_laws.proofs.Block.Body.{printed_body}
pub use Rattle.opened_laws.proofs.Block.Moved.{IsMoved, IsMovedInner, IsMovedLast, StayInside, end_gap, stay_inside, token_at}
pub use Rattle.opened_laws.proofs.Block.Spared.{IsSpared, none_sheet}
