-- What the proofs of other crates may cite: what is known of two sheets in which nothing is found, and that what is found is never
-- that the sheets are the same.
pub use Rattle.same_laws.proofs.Couples.{EitherWay, couple_apart, turned_has}
pub use Rattle.same_laws.proofs.Keeping.{IsNothing, PairMember, listed_is_member, nothing_found, pair_member, says_apart}
pub use Rattle.same_laws.proofs.KeptAlike.{ArePlacesAlike, SayTheSame, kept_rule_text, say_the_same, text_is}
pub use Rattle.same_laws.proofs.NeverSame.{never_found}
pub use Rattle.same_laws.proofs.OpenedAlone.{places_opened}
