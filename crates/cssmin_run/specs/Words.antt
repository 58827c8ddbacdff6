-- The words of the command line.
use Rattle.std.specs.Prelude.{◌≡◌, ◌≢◌, [], Result, Ok, Err, Vec, drop}
use Rattle.std.specs.Global.{Global}
use Rattle.std.specs.IoError.{error_kind}
use Rattle.std.specs.Vec.Iter.{into_iter_items}
use Rattle.std.specs.declared.io.Error.{Error}
use Rattle.std.specs.declared.io.ErrorKind.TheVariants.{InvalidData}
use Rattle.std.specs.declared.vec.IntoIter.{IntoIter}

-- Which words are handed in of all the program's words, of which the first is its name: those after it,
-- and none where they are no UTF-8. An error says that there is no room for them.
abbrev pub HandsIn : {W Z E : Type 0} → Result (IntoIter W Z) Error → Result (Vec W Global) E → Type 0
HandsIn (Ok all) (Ok words) = words.items ≡ drop 1 (into_iter_items all)
HandsIn (Ok all) (Err e) = Unit {0}
HandsIn (Err error) (Ok words) = (error_kind error ≡ InvalidData) × (words.items ≡ [])
HandsIn (Err error) (Err e) = error_kind error ≢ InvalidData
