-- What the crates above cite of the proofs here: what a source that is read gives its items, and how what is printed for
-- items is read.
pub use Rattle.sheet_laws.proofs.OneSource.{content_of_source, each_of_source, items_of_source, text_of_source, twins_of_source}
pub use Rattle.sheet_laws.proofs.Printed.Blocks.{IsOfDeclaration}
pub use Rattle.sheet_laws.proofs.Printed.Contents.{AreShownAgain, InOrder, IsShownAgain, IsShownAs, sourced_content}
pub use Rattle.sheet_laws.proofs.Printed.Entries.{IsPrinted, at_rule_like, like_of, printed_like, sign_like}
pub use Rattle.sheet_laws.proofs.Printed.Faults.{DoFit, IsPrintOf, IsSameSheet, IsShallow, find_none, is_deep, sheet_reads_back, by_tests, pairs_fit}
pub use Rattle.sheet_laws.proofs.Printed.Items.{IsClosedRule, closed_rule, ends_in, ends_with_block, is_ended, is_nil, item_len_like, StandAsItems, all_of_them, begins_item, ended_item_len, items_again}
pub use Rattle.sheet_laws.proofs.Printed.Joins.{StandsIn, stands_behind, stands_inside, stands_whole}
pub use Rattle.sheet_laws.proofs.Printed.Kept.{SameAt, inner_item_same}
pub use Rattle.sheet_laws.proofs.Printed.Preludes.{IsOfSelector, selector_in}
pub use Rattle.sheet_laws.proofs.Printed.Sheet.{AreFromSources, AreInOrder, AreSourcedInOrder, EndsBefore, IsBefore, IsFrom, IsOfItem, ends_itself, imports, is_sourced_import, at_rule_named_like, whole_like}
pub use Rattle.sheet_laws.proofs.Shown.Alike.{AreClosable, IsClosable, or_true, IsLike, item_like}
pub use Rattle.sheet_laws.proofs.Shown.Names.{IsNamed, TakesSpace, ends_with_sign, has_name, is_closable}
pub use Rattle.sheet_laws.proofs.Shown.Tokens.{Shown, all_shown, closed, colon_gap, declaration_shown, importance_shown, inner, is_before_white, item_shown, joined, kept_shown, last_gap, last_of_item, last_of_value, printed_bytes, rule_shown, selector_shown, sheet_shown, shown, sign_shown, sourced_shown, value_shown, with_levels, last_from_shown}
pub use Rattle.sheet_laws.proofs.Shown.Values.{IsShut, IsInner}
pub use Rattle.sheet_laws.proofs.Soundness.{sheet-sound}
pub use Rattle.sheet_laws.proofs.Source.Closed.{all_closed}
pub use Rattle.sheet_laws.proofs.Source.Origins.{HasGoodTokens, declaration_from, kept_from, selector_from, stand_alone_in, value_alone}
pub use Rattle.sheet_laws.proofs.Source.Parts.{IsPart, each_inside, none_before, split_stands, stands_dropped, stands_taken}
pub use Rattle.sheet_laws.proofs.Source.Pieces.{AreAscending, stand_alone}
pub use Rattle.sheet_laws.proofs.Source.Places.{HaveBytes, parts_of_sheet, places_in_order}
pub use Rattle.sheet_laws.proofs.Source.Raw.{AreRawItems, IsRawItem, raw_stand}
pub use Rattle.sheet_laws.proofs.Source.Whole.{HasNoFault, in_order, no_map, read_from, tested}
