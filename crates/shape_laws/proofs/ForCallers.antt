-- What the proofs of other crates may cite.
pub use Rattle.shape_laws.proofs.Elements.Features.{alone_same}
pub use Rattle.shape_laws.proofs.Elements.Positions.{child_position, root_position}
pub use Rattle.shape_laws.proofs.Gaps.FewSlots.{slots_few, slots_length}
pub use Rattle.shape_laws.proofs.Lists.{Snoc, append_some, empty, from_given, given, last, push_some, snoc}
pub use Rattle.shape_laws.proofs.Slots.Links.{slice_range_between}
pub use Rattle.shape_laws.proofs.Document.Showing.{short, shows}
pub use Rattle.shape_laws.proofs.Document.Tests.{any_in}
