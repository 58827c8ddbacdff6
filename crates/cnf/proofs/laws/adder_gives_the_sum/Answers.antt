use Rattle.cnf.proofs.RangeLemmas.{adder-below}
use Rattle.cnf.proofs.SizeLemmas.{adder-size}
use Rattle.cnf.proofs.SumLemmas.{adder-facts, length-adder}
use Rattle.cnf.proofs.laws.adder_gives_the_sum.Goals as goal

pub returns : goal.returns
returns c = record {
  extends = λ f x y r hx hy. (adder-facts f x y r hx hy).extends;
  in_range = adder-below;
  digits = length-adder;
  means = λ f x y r hx hy vs s. (adder-facts f x y r hx hy).means vs s;
  size = adder-size;
}
