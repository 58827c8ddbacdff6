-- What the proofs of other crates may cite: the pairs of rules and of lists of items, and fair slots.
pub use Rattle.order_laws.proofs.Appended.{has_append, BeforeInTwo, before_in_two, LastBehind, BehindInTwo, behind_in_two}
pub use Rattle.order_laws.proofs.EditedItems.{instead_here, instead_there, unchanged, all_fair, has_new, has_at}
pub use Rattle.order_laws.proofs.FairSlots.{same_fair, LikeRule, one_fair, AllMoved, none_fair, front_fair, back_fair}
pub use Rattle.order_laws.proofs.LastPlaces.{same_decl_or_not, same_selector_or_not, last_or_none, last_of}
pub use Rattle.order_laws.proofs.Lists.{any_from, any_of, map_has, map_from, flat_map_has, flat_map_from}
pub use Rattle.order_laws.proofs.RulePairs.{decls, sels, InRule, decl_in, in_decl, has_rule, DeclBefore, before_rule, before_front, before_back, before_filter, has_decl_is, has_selector_is, moved_is}
