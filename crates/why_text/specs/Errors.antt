-- What becomes of an error of the reader.
use Rattle.sheet_read.specs.declared.fault.SheetError.{SheetError}
use Rattle.sheet_read.specs.declared.fault.SheetError.TheVariants as reading
use Rattle.why_text.specs.declared.error.WhyError.{WhyError}
use Rattle.why_text.specs.declared.error.WhyError.TheVariants.{Sheet, NoMemory}

-- the same error
abbrev pub read_error : SheetError → WhyError
read_error (reading.Fault fault) = Sheet fault
read_error reading.NoMemory = NoMemory
