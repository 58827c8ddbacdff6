-- The messages of errors (own).
use Rattle.std.specs.Prelude.{ℕ, List, ◌++◌, codes, decimal}
use Rattle.log_text.specs.declared.error.CheckError.{CheckError}
use Rattle.log_text.specs.declared.error.CheckError.TheVariants.{TooLong, BadLine, NoMemory}

-- what is told of an error
abbrev pub message : CheckError → List ℕ
message TooLong = codes "there are more bytes than a log may have"
message (BadLine number) = codes "line " ++ decimal number ++ codes " is not of a log"
message NoMemory = codes "out of memory"
