-- What the proofs of other crates may cite: what the occurrences of a sheet give in a scene, and the best of it.
pub use Rattle.diff_laws.proofs.Applied.{by_one, normal_all, one_decl, plain, unrepeated}
pub use Rattle.diff_laws.proofs.Best.{best, best_append, over, over_none_last, over_three, weight}
pub use Rattle.diff_laws.proofs.Choice.{known, wins_best, won}
pub use Rattle.diff_laws.proofs.Comparing.{unmarked}
pub use Rattle.diff_laws.proofs.Distinct.{Distinct, base_same, count_last, more_if, number_of_part, numbered_again, numbered_distinct}
pub use Rattle.diff_laws.proofs.Flat.{chosen, chosen_append, flat_of, given, of_first, standing, stands, thinned, with_part}
pub use Rattle.diff_laws.proofs.Listed.{items_ascend}
pub use Rattle.diff_laws.proofs.Scene.{IsSceneFor, Tally, outer_flat}
pub use Rattle.diff_laws.proofs.Tallying.{all_tally}
pub use Rattle.diff_laws.proofs.Winning.{AllTally, normal_ascends, plain_normal}
