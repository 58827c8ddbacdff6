-- What the errors of this crate are displayed as.
use Rattle.std.specs.Prelude.{ℕ, List, codes}
use Rattle.css_io.specs.declared.moves.ReadError.{ReadError}
use Rattle.css_io.specs.declared.moves.ReadError.TheVariants.{ReadFault, TooLong, NoMemory}

-- one read or one write failed
abbrev pub failed : List ℕ
failed = codes "the read or write failed"

-- why the bytes of a source could not all be read
abbrev pub read_error : ReadError → List ℕ
read_error ReadFault = codes "the input could not be read to its end"
read_error TooLong = codes "the input has more bytes than are allowed"
read_error NoMemory = codes "not enough memory to hold the input"

-- not all bytes were written
abbrev pub write_fault : List ℕ
write_fault = codes "the output could not be written to its end"
