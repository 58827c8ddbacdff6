-- What the proofs of other crates may cite: what holds of the pairs of a sheet that can be planned, and answers that are held.
pub use Rattle.sheet_order.proofs.Askable.{pair_in_profile, all_askable, moved_is}
pub use Rattle.sheet_order.proofs.Held.{not_unknown, stays_itself, stays_on, asked_stays}
pub use Rattle.sheet_order.proofs.KeptNumbers.{kept_from_cons}
pub use Rattle.sheet_order.proofs.Limited.{all_members, planned_limited, last_limited, moved_limited}
pub use Rattle.sheet_order.proofs.Lists.{same_test, map_append, filter_append, flat_map_append}
pub use Rattle.sheet_order.proofs.NarrowEntries.{narrow_place, all_narrow}
pub use Rattle.sheet_order.proofs.Somewhere.{stands_somewhere, has_pair_from, pair_is, KeptPlace, place_of_kept}
