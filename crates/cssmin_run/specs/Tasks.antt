-- What a command did that reads all of its input, makes a text of it and perhaps a report, and writes these.
use Rattle.std.specs.Prelude.{◌≡◌, ◌≢◌, ◌==◌, ℕ, Bool, true, false, not, ◌+◌, List, [], Option, Some, None, Result, Ok, Err, IfSome, drop}
use Rattle.std.specs.Cmp.Lexicographic.{pointwise}
use Rattle.overlap.specs.PairsParts.{PairsParts}
use Rattle.line_places.specs.declared.place.Place.{Place}
use Rattle.cssmin_run.specs.Change.{Change, HasFailed, IsAllRead, Adds}
use Rattle.cssmin_run.specs.Placed.{IsPlaceOf, TellsRefusal}
use Rattle.cssmin_run.specs.Status.{IsRefusal}
use Rattle.cssmin_run.specs.Telling.{Tells}
use Rattle.cssmin_run.specs.Writing.{Stops}
use Rattle.cssmin_run.specs.declared.status.Status.{Status}
use Rattle.cssmin_run.specs.declared.status.Status.TheVariants.{Done, Found, ReadFault, WriteFault, NoMemory}
use Rattle.cssmin_run.specs.declared.tasks.Answer.{Answer}
use Rattle.cssmin_run.specs.declared.tasks.Refusal.{Refusal}

-- ---- What a command did
-- `Makes` is what the command makes of the bytes that were read: a text, a report, and the answers that are held then.
-- `Refuses` tells which bytes it refuses, by the status. `most` is how many bytes it takes. `Where` is the place in these bytes that
-- a refusal tells, if it tells one.

-- a command without a report makes so
abbrev pub Silent : (Makes : (read text : List ℕ) (held : Option PairsParts) → Type 0) → (read text report : List ℕ) (held : Option PairsParts) → Type 0
Silent Makes read text report held = Makes read text held × (report ≡ [])

-- All that was left was read; the text that was made of it was written, and the report told, as far as the source and the
-- sinks tell it.
pub record Did (Makes : (read text report : List ℕ) (held : Option PairsParts) → Type 0) (input output err : Change) (held : Option PairsParts) : Type 0 where
  pub read : List ℕ
  pub text : List ℕ
  pub report : List ℕ
  pub all_read : IsAllRead read input
  pub made : Makes read text report held
  pub added : Adds text output
  pub told : Adds report err

-- All that was left was read, a write failed, and a front of the text that was made of it was written, or a front of the
-- report behind the whole text.
pub record Began (Makes : (read text report : List ℕ) (held : Option PairsParts) → Type 0) (input output err : Change) (held : Option PairsParts) : Type 0 where
  pub read : List ℕ
  pub text : List ℕ
  pub report : List ℕ
  pub all_read : IsAllRead read input
  pub made : Makes read text report held
  pub stopped : Stops text report output err

-- All that was left is refused, where the source tells its bytes, and no more than one byte past the limit was read.
abbrev pub IsRefused : (most : ℕ) (Refused : List ℕ → Type 0) → Change → Type 0
IsRefused most Refused input = IfSome input.old (λ read. Refused read × (input.new ≡ Some (drop (most + 1) read)))

-- What the command did, by its status. Want of memory is told at any point before the first byte is written.
abbrev pub Does : (most : ℕ) (Where : Status → List ℕ → Option Place) (Makes : (read text report : List ℕ) (held : Option PairsParts) → Type 0) (Refuses : Status → List ℕ → Type 0)
    → Status → (input output err : Change) → (held : Option PairsParts) → Type 0
Does most Where Makes Refuses Done input output err held = Did Makes input output err held
Does most Where Makes Refuses ReadFault input output err held = HasFailed input × (held ≡ None) × Tells ReadFault err
Does most Where Makes Refuses WriteFault input output err held = Began Makes input output err held
Does most Where Makes Refuses NoMemory input output err held = (held ≡ None) × Tells NoMemory err
Does most Where Makes Refuses status input output err held = IsRefusal status × IsRefused most (Refuses status) input × (held ≡ None) × TellsRefusal (Where status) status input err

-- ---- What a command did whose status says whether it found something

-- `nothing` is the text that says that nothing was found.

-- a command that makes so, with the text that says that nothing was found, or with another one
abbrev pub Clears : (nothing : List ℕ) (Makes : (read text report : List ℕ) (held : Option PairsParts) → Type 0) → (read text report : List ℕ) (held : Option PairsParts) → Type 0
Clears nothing Makes read text report held = Makes read text report held × (text ≡ nothing)

abbrev pub Shows : (nothing : List ℕ) (Makes : (read text report : List ℕ) (held : Option PairsParts) → Type 0) → (read text report : List ℕ) (held : Option PairsParts) → Type 0
Shows nothing Makes read text report held = Makes read text report held × (text ≢ nothing)

-- What it did, by its status: it is done where its text says that nothing was found, and has found something where it does not.
abbrev pub Finds : (nothing : List ℕ) (most : ℕ) (Where : Status → List ℕ → Option Place) (Makes : (read text report : List ℕ) (held : Option PairsParts) → Type 0) (Refuses : Status → List ℕ → Type 0)
    → Status → (input output err : Change) → (held : Option PairsParts) → Type 0
Finds nothing most Where Makes Refuses Done input output err held = Did (Clears nothing Makes) input output err held
Finds nothing most Where Makes Refuses Found input output err held = Did (Shows nothing Makes) input output err held
Finds nothing most Where Makes Refuses status input output err held = Does most Where Makes Refuses status input output err held

-- whether a text says more than that nothing was found
abbrev pub says_more : (nothing text : List ℕ) → Bool
says_more nothing text = not (pointwise ◌==◌ text nothing)

-- the status of a command that is done, by whether it found something
abbrev pub with_found : (found : Bool) → Status → Status
with_found true Done = Found
with_found found status = status

-- ---- On the way there

-- what is answered of the bytes that were read
abbrev pub IsAnswered : (Makes : (read text report : List ℕ) (held : Option PairsParts) → Type 0) (Refuses : Status → List ℕ → Type 0)
    → (read : List ℕ) → Result Answer Status → Type 0
IsAnswered Makes Refuses read (Ok answer) = Makes read answer.text.items answer.report.items answer.held
IsAnswered Makes Refuses read (Err NoMemory) = Unit {0}
IsAnswered Makes Refuses read (Err status) = IsRefusal status × Refuses status read

-- why an input was not answered, and the place that is told of that
abbrev pub IsUnanswered : (most : ℕ) (Where : Status → List ℕ → Option Place) (Refuses : Status → List ℕ → Type 0) → Status → Option Place → (input : Change) → Type 0
IsUnanswered most Where Refuses ReadFault place input = HasFailed input
IsUnanswered most Where Refuses NoMemory place input = Unit {0}
IsUnanswered most Where Refuses status place input = IsRefusal status × IsRefused most (Refuses status) input × IsPlaceOf (Where status) place input

-- what reading the input and answering it gave
abbrev pub Reads : (most : ℕ) (Where : Status → List ℕ → Option Place) (Makes : (read text report : List ℕ) (held : Option PairsParts) → Type 0) (Refuses : Status → List ℕ → Type 0)
    → Result Answer Refusal → (input : Change) → Type 0
Reads most Where Makes Refuses (Ok answer) input = (read : List ℕ) × IsAllRead read input × Makes read answer.text.items answer.report.items answer.held
Reads most Where Makes Refuses (Err refusal) input = IsUnanswered most Where Refuses refusal.status refusal.place input
