-- What reading an input to its end took, and what it is answered or refused for.
use Rattle.std.proofs.Common.{◌≡◌, ℕ, ◌+◌, ◌<◌, ◌≤◌, List, [], Option, Some, None, Ok, Err, length, refl, sym, ◌∙◌, ap, subst, arith}
use Rattle.std.specs.Prelude.{IfSome, drop}
use Rattle.std.proofs.lemmas.List.{drop_all}
use Rattle.css_io.specs.Io.{HasTaken}
use Rattle.line_places.specs.declared.place.Place.{Place}
use Rattle.overlap.specs.PairsParts.{PairsParts}
use Rattle.cssmin_run.specs.Placed.{IsPlaceOf}
use Rattle.cssmin_run.specs.Status.{IsRefusal}
use Rattle.cssmin_run.specs.Tasks.{IsAnswered, IsUnanswered, Reads}
use Rattle.cssmin_run.specs.declared.status.Status.{Status}
use Rattle.cssmin_run.specs.declared.status.Status.TheVariants.{Done, Found, Usage, SheetRefused, NoItem, DocRefused, LogRefused, NoSplit, SecondRefused, ReadFault, WriteFault, NoMemory}
use Rattle.cssmin_run.specs.declared.tasks.Answer.{Answer}

-- all that was left was taken, where it is within the limit
pub all_taken : (left left' : Option (List ℕ)) (read : List ℕ) (limit : ℕ) → IfSome left (λ bytes. (read ≡ bytes) × (left' ≡ Some [])) → length read ≤ limit → (n : ℕ) × (n ≤ limit + 1) × HasTaken n left left'
all_taken None left' read limit all short = (0, omega arith, tt)
all_taken (Some bytes) left' read limit all short =
    let size : length read ≡ length bytes = ap length all.0 in
    (length bytes, omega arith, (omega arith, all.1 ∙ ap Some (sym (drop_all (length bytes) bytes (omega arith)))))

-- one byte past the limit was read
long_read : (most : ℕ) (Refused : List ℕ → Type 0) (left left' : Option (List ℕ)) → ((read : List ℕ) → most < length read → Refused read) → HasTaken (most + 1) left left'
    → IfSome left (λ read. Refused read × (left' ≡ Some (drop (most + 1) read)))
long_read most Refused None left' cause taken = tt
long_read most Refused (Some bytes) left' cause taken = (cause bytes (above most (length bytes) taken.0), taken.1)
  where
    above : (limit n : ℕ) → limit + 1 ≤ n → limit < n
    above limit n more = omega (arith, more)

-- where no place is told
left_is : (left left' : Option (List ℕ)) (n n' : ℕ) (place_in : List ℕ → Option Place) (place : Option Place) → ((read : List ℕ) → place ≡ place_in read)
    → IsPlaceOf place_in place (record { old = left; new = left'; old_faults = n; new_faults = n' })
left_is None left' n n' place_in place is = ([], tt, is [])
left_is (Some bytes) left' n n' place_in place is = (bytes, refl, is bytes)

pub reads_too_long : (most : ℕ) (Where : Status → List ℕ → Option Place) (Refuses : Status → List ℕ → Type 0) (status : Status) (left left' : Option (List ℕ)) (n n' : ℕ)
    → IsRefusal status → ((read : List ℕ) → most < length read → Refuses status read) → ((read : List ℕ) → Where status read ≡ None) → HasTaken (most + 1) left left'
    → IsUnanswered most Where Refuses status None (record { old = left; new = left'; old_faults = n; new_faults = n' })
reads_too_long most Where Refuses Done left left' n n' is cause nowhere taken = absurd is
reads_too_long most Where Refuses Found left left' n n' is cause nowhere taken = absurd is
reads_too_long most Where Refuses Usage left left' n n' is cause nowhere taken = absurd is
reads_too_long most Where Refuses (SheetRefused fault) left left' n n' is cause nowhere taken = (tt, long_read most (Refuses (SheetRefused fault)) left left' cause taken, left_is left left' n n' (Where (SheetRefused fault)) None (λ read. sym (nowhere read)))
reads_too_long most Where Refuses (NoItem fault) left left' n n' is cause nowhere taken = (tt, long_read most (Refuses (NoItem fault)) left left' cause taken, left_is left left' n n' (Where (NoItem fault)) None (λ read. sym (nowhere read)))
reads_too_long most Where Refuses (DocRefused fault) left left' n n' is cause nowhere taken = (tt, long_read most (Refuses (DocRefused fault)) left left' cause taken, left_is left left' n n' (Where (DocRefused fault)) None (λ read. sym (nowhere read)))
reads_too_long most Where Refuses (LogRefused fault) left left' n n' is cause nowhere taken = (tt, long_read most (Refuses (LogRefused fault)) left left' cause taken, left_is left left' n n' (Where (LogRefused fault)) None (λ read. sym (nowhere read)))
reads_too_long most Where Refuses (NoSplit fault) left left' n n' is cause nowhere taken = (tt, long_read most (Refuses (NoSplit fault)) left left' cause taken, left_is left left' n n' (Where (NoSplit fault)) None (λ read. sym (nowhere read)))
reads_too_long most Where Refuses (SecondRefused fault) left left' n n' is cause nowhere taken = (tt, long_read most (Refuses (SecondRefused fault)) left left' cause taken, left_is left left' n n' (Where (SecondRefused fault)) None (λ read. sym (nowhere read)))
reads_too_long most Where Refuses ReadFault left left' n n' is cause nowhere taken = absurd is
reads_too_long most Where Refuses WriteFault left left' n n' is cause nowhere taken = absurd is
reads_too_long most Where Refuses NoMemory left left' n n' is cause nowhere taken = absurd is

-- what was read to its end is refused
refused_read : (most : ℕ) (Refused : List ℕ → Type 0) (left left' : Option (List ℕ)) (read : List ℕ) → IfSome left (λ bytes. (read ≡ bytes) × (left' ≡ Some [])) → length read ≤ most → Refused read
    → IfSome left (λ read. Refused read × (left' ≡ Some (drop (most + 1) read)))
refused_read most Refused None left' read all short is = tt
refused_read most Refused (Some bytes) left' read all short is =
    (subst Refused all.0 is, all.1 ∙ ap Some (sym (drop_all (most + 1) bytes (past most (length read) (length bytes) (ap length all.0) short))))
  where
    past : (limit m n : ℕ) → m ≡ n → m ≤ limit → n ≤ limit + 1
    past limit m n same short = omega (arith, same, short)

swap : (left left' : Option (List ℕ)) (read : List ℕ) → IfSome left (λ bytes. (read ≡ bytes) × (left' ≡ Some [])) → IfSome left (λ bytes. (bytes ≡ read) × (left' ≡ Some []))
swap None left' read all = tt
swap (Some bytes) left' read all = (sym all.0, all.1)

-- the place is that of the bytes that were read
placed_read : (left left' : Option (List ℕ)) (n n' : ℕ) (read : List ℕ) (place_in : List ℕ → Option Place) (place : Option Place) → IfSome left (λ bytes. (read ≡ bytes) × (left' ≡ Some [])) → place ≡ place_in read
    → IsPlaceOf place_in place (record { old = left; new = left'; old_faults = n; new_faults = n' })
placed_read None left' n n' read place_in place all is = (read, tt, is)
placed_read (Some bytes) left' n n' read place_in place all is = (read, sym all.0, is)

pub reads_answered : (most : ℕ) (Where : Status → List ℕ → Option Place) (Makes : (read text report : List ℕ) (held : Option PairsParts) → Type 0) (Refuses : Status → List ℕ → Type 0) (answer : Answer) (read : List ℕ)
    (left left' : Option (List ℕ)) (n n' : ℕ) → IfSome left (λ bytes. (read ≡ bytes) × (left' ≡ Some [])) → Makes read answer.text.items answer.report.items answer.held
    → Reads most Where Makes Refuses (Ok answer) (record { old = left; new = left'; old_faults = n; new_faults = n' })
reads_answered most Where Makes Refuses answer read left left' n n' all is = (read, swap left left' read all, is)

pub reads_refused : (most : ℕ) (Where : Status → List ℕ → Option Place) (Makes : (read text report : List ℕ) (held : Option PairsParts) → Type 0) (Refuses : Status → List ℕ → Type 0) (status : Status) (place : Option Place)
    (read : List ℕ) (left left' : Option (List ℕ)) (n n' : ℕ) → IfSome left (λ bytes. (read ≡ bytes) × (left' ≡ Some [])) → length read ≤ most → IsAnswered Makes Refuses read (Err status) → place ≡ Where status read
    → IsUnanswered most Where Refuses status place (record { old = left; new = left'; old_faults = n; new_faults = n' })
reads_refused most Where Makes Refuses Done place read left left' n n' all short is at = absurd is.0
reads_refused most Where Makes Refuses Found place read left left' n n' all short is at = absurd is.0
reads_refused most Where Makes Refuses Usage place read left left' n n' all short is at = absurd is.0
reads_refused most Where Makes Refuses (SheetRefused fault) place read left left' n n' all short is at = (tt, refused_read most (Refuses (SheetRefused fault)) left left' read all short is.1, placed_read left left' n n' read (Where (SheetRefused fault)) place all at)
reads_refused most Where Makes Refuses (NoItem fault) place read left left' n n' all short is at = (tt, refused_read most (Refuses (NoItem fault)) left left' read all short is.1, placed_read left left' n n' read (Where (NoItem fault)) place all at)
reads_refused most Where Makes Refuses (DocRefused fault) place read left left' n n' all short is at = (tt, refused_read most (Refuses (DocRefused fault)) left left' read all short is.1, placed_read left left' n n' read (Where (DocRefused fault)) place all at)
reads_refused most Where Makes Refuses (LogRefused fault) place read left left' n n' all short is at = (tt, refused_read most (Refuses (LogRefused fault)) left left' read all short is.1, placed_read left left' n n' read (Where (LogRefused fault)) place all at)
reads_refused most Where Makes Refuses (NoSplit fault) place read left left' n n' all short is at = (tt, refused_read most (Refuses (NoSplit fault)) left left' read all short is.1, placed_read left left' n n' read (Where (NoSplit fault)) place all at)
reads_refused most Where Makes Refuses (SecondRefused fault) place read left left' n n' all short is at = (tt, refused_read most (Refuses (SecondRefused fault)) left left' read all short is.1, placed_read left left' n n' read (Where (SecondRefused fault)) place all at)
reads_refused most Where Makes Refuses ReadFault place read left left' n n' all short is at = absurd is.0
reads_refused most Where Makes Refuses WriteFault place read left left' n n' all short is at = absurd is.0
reads_refused most Where Makes Refuses NoMemory place read left left' n n' all short is at = tt
