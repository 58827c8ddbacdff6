-- What the errors say.
use Rattle.std.specs.Prelude.{ℕ, List, ◌++◌, codes, decimal}
use Rattle.doc_text.specs.declared.read.DocError.{DocError}
use Rattle.doc_text.specs.declared.read.DocError.TheVariants.{BadLine, TooManyLines, NoMemory}

abbrev pub doc_error : DocError → List ℕ
doc_error (BadLine n) = codes "line " ++ decimal n ++ codes " is not of a document's text"
doc_error TooManyLines = codes "there are more lines than a document's text may have"
doc_error NoMemory = codes "out of memory"
