-- What the proofs of other crates may cite: how long the printed text of a sheet is, and of one to which steps lead.
pub use Rattle.merge_laws.proofs.Planning.{leads_shorter, printed_size}
