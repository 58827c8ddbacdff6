-- What the errors say.
use Rattle.std.specs.Prelude.{ℕ, List, codes}
use Rattle.attr_values.specs.declared.solve.ValueError.{ValueError}
use Rattle.attr_values.specs.declared.solve.ValueError.TheVariants.{SpacesTaken, NoMemory}

abbrev pub value_error : ValueError → List ℕ
value_error SpacesTaken = codes "no white space is left to stand beside a word"
value_error NoMemory = codes "out of memory"
