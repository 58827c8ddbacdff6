-- What the proofs of other crates may cite.
pub use Rattle.cascade_laws.proofs.Applying.{some-same, rule-same, applied-words, words-applied}
pub use Rattle.cascade_laws.proofs.AttributeWords.{passes-decides}
pub use Rattle.cascade_laws.proofs.CascadeWords.{words-outranks, understood-listed}
pub use Rattle.cascade_laws.proofs.Greatest.{winner-greatest, winner-none, none-winner}
pub use Rattle.cascade_laws.proofs.Keeping.{keeps_itself, keeps_back, keeps_on, weigh_back, meet_back, there, earlier_one, later_one, nowhere, one, pair, member_of_one, other_order, free_order, over_kept, free_of_kept}
pub use Rattle.cascade_laws.proofs.MatchingWords.{matches-words}
pub use Rattle.cascade_laws.proofs.Ranking.{exceeds-irreflexive, exceeds-transitive, exceeds-not_transitive}
pub use Rattle.cascade_laws.proofs.Eval.Repeating.{passed_parts}
pub use Rattle.cascade_laws.proofs.Line.Elements.{all_append, all_elements, own, values, values_first, values_repeated}
pub use Rattle.cascade_laws.proofs.Line.Expanding.{ends, expands, expands_document}
pub use Rattle.cascade_laws.proofs.Line.Paths.{path_inside, path_past}
pub use Rattle.cascade_laws.proofs.Line.Rules.{all_lines, keeps_rules}
