-- What the errors say.
use Rattle.std.specs.Prelude.{ℕ, List, codes}
use Rattle.compound_fit.specs.declared.compound.FitError.{FitError}
use Rattle.compound_fit.specs.declared.compound.FitError.TheVariants.{SpacesTaken, NoMemory}

abbrev pub fit_error : FitError → List ℕ
fit_error SpacesTaken = codes "no white space is left to stand beside a word of an attribute"
fit_error NoMemory = codes "out of memory"
