use Rattle.std.proofs.Common.{◌≢◌, ◌<◌, ℕ, arith}
use Rattle.cnf.proofs.DivisionLemmas.{division-facts, quotient_of, remainder_of}
use Rattle.cnf.proofs.RangeLemmas.{division-below}
use Rattle.cnf.proofs.SizeLemmas.{division-size, length-quotient, length-remainder}
use Rattle.cnf.proofs.laws.divide_by_gives_quotient_and_remainder.Goals as goal

positive : (by : ℕ) → by ≢ 0 → 0 < by
positive by h = omega arith

pub returns : goal.returns
returns c = record {
  extends = λ f x by r h no small. (division-facts f x by r h (positive by no) small).extends;
  in_range = λ f x by h. let below = division-below f x by h in (below.quotient_below, below.remainder_below);
  quotient_digits = length-quotient;
  remainder_digits = length-remainder;
  quotient =
      λ f x by r h no small vs s.
      let means = (division-facts f x by r h (positive by no) small).means vs s in
      quotient_of _ _ _ by means.0 means.1;
  remainder =
      λ f x by r h no small vs s.
      let means = (division-facts f x by r h (positive by no) small).means vs s in
      remainder_of _ _ _ by means.0 means.1;
  size = division-size;
}
