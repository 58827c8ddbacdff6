-- What the proofs of other crates may cite: the parts of what is compared can be printed and asked for.
pub use Rattle.sheet_members.proofs.Ready.{all_ready, commons_ready, lacking_ready, marked_ready, members_ready}
