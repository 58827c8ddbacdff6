-- What the errors say.
use Rattle.std.specs.Prelude.{ℕ, List, ◌++◌, codes}
use Rattle.std.specs.Fmt.{decimal}
use Rattle.sel_parse.specs.declared.error.SelError.{SelError}
use Rattle.sel_parse.specs.declared.error.SelError.TheVariants.{Outside, NoMemory}

-- why a text is no selector of the profile
abbrev pub message : SelError → List ℕ
message (Outside reason) = codes "outside the profile for reason " ++ decimal reason
message NoMemory = codes "out of memory"
