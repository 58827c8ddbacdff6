-- What a command that reads all of its input did, by its status.
use Rattle.std.proofs.Common.{◌≡◌, ◌⊎◌, inl, inr, ℕ, List, [], Option, Some, None, Ok, IsSomeAnd, refl, sym, subst, arith}
use Rattle.line_places.specs.declared.place.Place.{Place}
use Rattle.overlap.specs.PairsParts.{PairsParts}
use Rattle.cssmin_run.specs.Change.{Change, HasFailed}
use Rattle.cssmin_run.specs.Placed.{nowhere, IsPlaceOf, TellsAt, TellsRefusal}
use Rattle.cssmin_run.specs.Status.{IsRefusal}
use Rattle.cssmin_run.specs.Tasks.{Began, Does, IsUnanswered, Reads, Silent}
use Rattle.cssmin_run.specs.Telling.{Tells}
use Rattle.cssmin_run.specs.Writing.{Stops, Writes}
use Rattle.cssmin_run.specs.declared.status.Status.{Status}
use Rattle.cssmin_run.specs.declared.status.Status.TheVariants.{Done, Found, Usage, SheetRefused, NoItem, DocRefused, LogRefused, NoSplit, SecondRefused, ReadFault, WriteFault, NoMemory}
use Rattle.cssmin_run.specs.declared.tasks.Answer.{Answer}

-- ---- Failed writes

pub stops_failed : (text report : List ℕ) (output err : Change) → Stops text report output err → HasFailed output ⊎ HasFailed err
stops_failed text report output err (inl h) = inl h.0.0
stops_failed text report output err (inr h) = inr h.1.0

-- nothing stops an empty report
pub stops_out : (text : List ℕ) (output err : Change) → Stops text [] output err → HasFailed output
stops_out text output err (inl h) = h.0.0
stops_out text output err (inr h) = absurd (let short = h.1.1.1 in omega (arith, short))

pub silent_out : (Makes : (read text : List ℕ) (held : Option PairsParts) → Type 0) (input output err : Change) (held : Option PairsParts) → Began (Silent Makes) input output err held → HasFailed output
silent_out Makes input output err held began = stops_out began.text output err (subst (λ (report : List ℕ). Stops began.text report output err) began.made.1 began.stopped)

-- ---- What a command did

-- no place is told of a failed read and of want of memory
read_told : (place : Option Place) (err : Change) → TellsAt place ReadFault err → Tells ReadFault err
read_told None err told = told
read_told (Some place) err told = told

memory_told : (place : Option Place) (err : Change) → TellsAt place NoMemory err → Tells NoMemory err
memory_told None err told = told
memory_told (Some place) err told = told

-- a refusal is told with the place of the command
refusal_told : (place_in : List ℕ → Option Place) (place : Option Place) (status : Status) (input err : Change) → IsPlaceOf place_in place input → TellsAt place status err → TellsRefusal place_in status input err
refusal_told place_in place status input err is told = (is.0, is.1, subst (λ (p : Option Place). TellsAt p status err) is.2 told)

-- it stopped before anything was written
stopped_as : (most : ℕ) (Where : Status → List ℕ → Option Place) (Makes : (read text report : List ℕ) (held : Option PairsParts) → Type 0) (Refuses : Status → List ℕ → Type 0) (status : Status) (place : Option Place)
    (input output err : Change) (held : Option PairsParts) → IsUnanswered most Where Refuses status place input → held ≡ None → TellsAt place status err → Does most Where Makes Refuses status input output err held
stopped_as most Where Makes Refuses Done place input output err held why none told = absurd why.0
stopped_as most Where Makes Refuses Found place input output err held why none told = absurd why.0
stopped_as most Where Makes Refuses Usage place input output err held why none told = absurd why.0
stopped_as most Where Makes Refuses (SheetRefused fault) place input output err held why none told = (tt, why.1, none, refusal_told (Where (SheetRefused fault)) place (SheetRefused fault) input err why.2 told)
stopped_as most Where Makes Refuses (NoItem fault) place input output err held why none told = (tt, why.1, none, refusal_told (Where (NoItem fault)) place (NoItem fault) input err why.2 told)
stopped_as most Where Makes Refuses (DocRefused fault) place input output err held why none told = (tt, why.1, none, refusal_told (Where (DocRefused fault)) place (DocRefused fault) input err why.2 told)
stopped_as most Where Makes Refuses (LogRefused fault) place input output err held why none told = (tt, why.1, none, refusal_told (Where (LogRefused fault)) place (LogRefused fault) input err why.2 told)
stopped_as most Where Makes Refuses (NoSplit fault) place input output err held why none told = (tt, why.1, none, refusal_told (Where (NoSplit fault)) place (NoSplit fault) input err why.2 told)
stopped_as most Where Makes Refuses (SecondRefused fault) place input output err held why none told = (tt, why.1, none, refusal_told (Where (SecondRefused fault)) place (SecondRefused fault) input err why.2 told)
stopped_as most Where Makes Refuses ReadFault place input output err held why none told = (why, none, read_told place err told)
stopped_as most Where Makes Refuses WriteFault place input output err held why none told = absurd why.0
stopped_as most Where Makes Refuses NoMemory place input output err held why none told = (none, memory_told place err told)

pub stopped : (most : ℕ) (Where : Status → List ℕ → Option Place) (Makes : (read text report : List ℕ) (held : Option PairsParts) → Type 0) (Refuses : Status → List ℕ → Type 0) (first status : Status) (place : Option Place)
    (input output err : Change) (held : Option PairsParts)
    → IsUnanswered most Where Refuses first place input → held ≡ None → (status ≡ first) ⊎ (IsRefusal first × (status ≡ NoMemory)) → TellsAt place status err → Does most Where Makes Refuses status input output err held
stopped most Where Makes Refuses first status place input output err held why none (inl same) told =
    subst (λ (s : Status). Does most Where Makes Refuses s input output err held) (sym same)
    (stopped_as most Where Makes Refuses first place input output err held why none (subst (λ (s : Status). TellsAt place s err) same told))
stopped most Where Makes Refuses first status place input output err held why none (inr (refused, short)) told =
    subst (λ (s : Status). Does most Where Makes Refuses s input output err held) (sym short) (none, memory_told place err (subst (λ (s : Status). TellsAt place s err) short told))

-- its text and its report were written, or a front of them
pub wrote : (most : ℕ) (Where : Status → List ℕ → Option Place) (Makes : (read text report : List ℕ) (held : Option PairsParts) → Type 0) (Refuses : Status → List ℕ → Type 0) (answer : Answer) (status : Status) (input output err : Change)
    → Reads most Where Makes Refuses (Ok answer) input → Writes answer.text.items answer.report.items status output err → Does most Where Makes Refuses status input output err answer.held
wrote most Where Makes Refuses answer Done input output err made written = record { read = made.0; text = answer.text.items; report = answer.report.items; all_read = made.1; made = made.2; added = written.0; told = written.1 }
wrote most Where Makes Refuses answer Found input output err made written = absurd written
wrote most Where Makes Refuses answer Usage input output err made written = absurd written
wrote most Where Makes Refuses answer (SheetRefused fault) input output err made written = absurd written
wrote most Where Makes Refuses answer (NoItem fault) input output err made written = absurd written
wrote most Where Makes Refuses answer (DocRefused fault) input output err made written = absurd written
wrote most Where Makes Refuses answer (LogRefused fault) input output err made written = absurd written
wrote most Where Makes Refuses answer (NoSplit fault) input output err made written = absurd written
wrote most Where Makes Refuses answer (SecondRefused fault) input output err made written = absurd written
wrote most Where Makes Refuses answer ReadFault input output err made written = absurd written
wrote most Where Makes Refuses answer WriteFault input output err made written = record { read = made.0; text = answer.text.items; report = answer.report.items; all_read = made.1; made = made.2; stopped = written }
wrote most Where Makes Refuses answer NoMemory input output err made written = absurd written

-- ---- Which status comes

-- What has this cause is refused for it, but for want of memory, where no read failed: no text is made of it, and it has
-- no other cause.
refuses_of : (most : ℕ) (Where : Status → List ℕ → Option Place) (Makes : (read text report : List ℕ) (held : Option PairsParts) → Type 0) (Refuses : Status → List ℕ → Type 0) (wanted status : Status)
    (left left' : Option (List ℕ)) (n n' : ℕ) (output err : Change) (held : Option PairsParts)
    → Does most Where Makes Refuses status (record { old = left; new = left'; old_faults = n; new_faults = n' }) output err held
    → ((read text report : List ℕ) (held : Option PairsParts) → Makes read text report held → Refuses wanted read → ⊥)
    → ((read : List ℕ) (other : Status) → Refuses other read → Refuses wanted read → other ≡ wanted)
    → IsSomeAnd left (Refuses wanted) → (HasFailed (record { old = left; new = left'; old_faults = n; new_faults = n' }) → ⊥) → (status ≡ wanted) ⊎ (status ≡ NoMemory)
refuses_of most Where Makes Refuses wanted status None left' n n' output err held does unmade one has sure = absurd has
refuses_of most Where Makes Refuses wanted Done (Some bytes) left' n n' output err held does unmade one has sure =
    absurd (unmade does.read does.text does.report held does.made (subst (Refuses wanted) does.all_read.0 has))
refuses_of most Where Makes Refuses wanted Found (Some bytes) left' n n' output err held does unmade one has sure = absurd does.0
refuses_of most Where Makes Refuses wanted Usage (Some bytes) left' n n' output err held does unmade one has sure = absurd does.0
refuses_of most Where Makes Refuses wanted (SheetRefused fault) (Some bytes) left' n n' output err held does unmade one has sure = inl (one bytes (SheetRefused fault) does.1.0 has)
refuses_of most Where Makes Refuses wanted (NoItem fault) (Some bytes) left' n n' output err held does unmade one has sure = inl (one bytes (NoItem fault) does.1.0 has)
refuses_of most Where Makes Refuses wanted (DocRefused fault) (Some bytes) left' n n' output err held does unmade one has sure = inl (one bytes (DocRefused fault) does.1.0 has)
refuses_of most Where Makes Refuses wanted (LogRefused fault) (Some bytes) left' n n' output err held does unmade one has sure = inl (one bytes (LogRefused fault) does.1.0 has)
refuses_of most Where Makes Refuses wanted (NoSplit fault) (Some bytes) left' n n' output err held does unmade one has sure = inl (one bytes (NoSplit fault) does.1.0 has)
refuses_of most Where Makes Refuses wanted (SecondRefused fault) (Some bytes) left' n n' output err held does unmade one has sure = inl (one bytes (SecondRefused fault) does.1.0 has)
refuses_of most Where Makes Refuses wanted ReadFault (Some bytes) left' n n' output err held does unmade one has sure = absurd (sure does.0)
refuses_of most Where Makes Refuses wanted WriteFault (Some bytes) left' n n' output err held does unmade one has sure =
    absurd (unmade does.read does.text does.report held does.made (subst (Refuses wanted) does.all_read.0 has))
refuses_of most Where Makes Refuses wanted NoMemory (Some bytes) left' n n' output err held does unmade one has sure = inr refl

pub refuses : (most : ℕ) (Where : Status → List ℕ → Option Place) (Makes : (read text report : List ℕ) (held : Option PairsParts) → Type 0) (Refuses : Status → List ℕ → Type 0) (wanted status : Status) (input output err : Change) (held : Option PairsParts)
    → Does most Where Makes Refuses status input output err held
    → ((read text report : List ℕ) (held : Option PairsParts) → Makes read text report held → Refuses wanted read → ⊥)
    → ((read : List ℕ) (other : Status) → Refuses other read → Refuses wanted read → other ≡ wanted)
    → IsSomeAnd input.old (Refuses wanted) → (HasFailed input → ⊥) → (status ≡ wanted) ⊎ (status ≡ NoMemory)
refuses most Where Makes Refuses wanted status input output err held does unmade one has sure =
    refuses_of most Where Makes Refuses wanted status input.old input.new input.old_faults input.new_faults output err held does unmade one has sure

-- What is not refused is done, but for want of memory, where no read or write failed.
completes_of : (most : ℕ) (Where : Status → List ℕ → Option Place) (Makes : (read text report : List ℕ) (held : Option PairsParts) → Type 0) (Refuses : Status → List ℕ → Type 0) (status : Status)
    (left left' : Option (List ℕ)) (n n' : ℕ) (output err : Change) (held : Option PairsParts)
    → Does most Where Makes Refuses status (record { old = left; new = left'; old_faults = n; new_faults = n' }) output err held
    → IsSomeAnd left (λ read. (other : Status) → Refuses other read → ⊥)
    → (HasFailed (record { old = left; new = left'; old_faults = n; new_faults = n' }) → ⊥) → (Began Makes (record { old = left; new = left'; old_faults = n; new_faults = n' }) output err held → ⊥) → (status ≡ Done) ⊎ (status ≡ NoMemory)
completes_of most Where Makes Refuses status None left' n n' output err held does none sure safe = absurd none
completes_of most Where Makes Refuses Done (Some bytes) left' n n' output err held does none sure safe = inl refl
completes_of most Where Makes Refuses Found (Some bytes) left' n n' output err held does none sure safe = absurd does.0
completes_of most Where Makes Refuses Usage (Some bytes) left' n n' output err held does none sure safe = absurd does.0
completes_of most Where Makes Refuses (SheetRefused fault) (Some bytes) left' n n' output err held does none sure safe = absurd (none (SheetRefused fault) does.1.0)
completes_of most Where Makes Refuses (NoItem fault) (Some bytes) left' n n' output err held does none sure safe = absurd (none (NoItem fault) does.1.0)
completes_of most Where Makes Refuses (DocRefused fault) (Some bytes) left' n n' output err held does none sure safe = absurd (none (DocRefused fault) does.1.0)
completes_of most Where Makes Refuses (LogRefused fault) (Some bytes) left' n n' output err held does none sure safe = absurd (none (LogRefused fault) does.1.0)
completes_of most Where Makes Refuses (NoSplit fault) (Some bytes) left' n n' output err held does none sure safe = absurd (none (NoSplit fault) does.1.0)
completes_of most Where Makes Refuses (SecondRefused fault) (Some bytes) left' n n' output err held does none sure safe = absurd (none (SecondRefused fault) does.1.0)
completes_of most Where Makes Refuses ReadFault (Some bytes) left' n n' output err held does none sure safe = absurd (sure does.0)
completes_of most Where Makes Refuses WriteFault (Some bytes) left' n n' output err held does none sure safe = absurd (safe does)
completes_of most Where Makes Refuses NoMemory (Some bytes) left' n n' output err held does none sure safe = inr refl

pub completes : (most : ℕ) (Where : Status → List ℕ → Option Place) (Makes : (read text report : List ℕ) (held : Option PairsParts) → Type 0) (Refuses : Status → List ℕ → Type 0) (status : Status) (input output err : Change) (held : Option PairsParts)
    → Does most Where Makes Refuses status input output err held
    → IsSomeAnd input.old (λ read. (other : Status) → Refuses other read → ⊥) → (HasFailed input → ⊥) → (Began Makes input output err held → ⊥) → (status ≡ Done) ⊎ (status ≡ NoMemory)
completes most Where Makes Refuses status input output err held does none sure safe =
    completes_of most Where Makes Refuses status input.old input.new input.old_faults input.new_faults output err held does none sure safe

-- of a command without a report
pub completes_silent : (most : ℕ) (Where : Status → List ℕ → Option Place) (Makes : (read text : List ℕ) (held : Option PairsParts) → Type 0) (Refuses : Status → List ℕ → Type 0) (status : Status) (input output err : Change) (held : Option PairsParts)
    → Does most Where (Silent Makes) Refuses status input output err held
    → IsSomeAnd input.old (λ read. (other : Status) → Refuses other read → ⊥) → (HasFailed input → ⊥) → (HasFailed output → ⊥) → (status ≡ Done) ⊎ (status ≡ NoMemory)
completes_silent most Where Makes Refuses status input output err held does none sure safe =
    completes most Where (Silent Makes) Refuses status input output err held does none sure (λ began. safe (silent_out Makes input output err held began))

-- ---- What is told

pub told_of_does : (most : ℕ) (Makes : (read text report : List ℕ) (held : Option PairsParts) → Type 0) (Refuses : Status → List ℕ → Type 0) (status : Status) (input output err : Change) (held : Option PairsParts)
    → Does most nowhere Makes Refuses status input output err held → (status ≡ Done → ⊥) → (status ≡ WriteFault → ⊥) → Tells status err
told_of_does most Makes Refuses Done input output err held does undone unfailed = absurd (undone refl)
told_of_does most Makes Refuses Found input output err held does undone unfailed = absurd does.0
told_of_does most Makes Refuses Usage input output err held does undone unfailed = absurd does.0
told_of_does most Makes Refuses (SheetRefused fault) input output err held does undone unfailed = does.3.2
told_of_does most Makes Refuses (NoItem fault) input output err held does undone unfailed = does.3.2
told_of_does most Makes Refuses (DocRefused fault) input output err held does undone unfailed = does.3.2
told_of_does most Makes Refuses (LogRefused fault) input output err held does undone unfailed = does.3.2
told_of_does most Makes Refuses (NoSplit fault) input output err held does undone unfailed = does.3.2
told_of_does most Makes Refuses (SecondRefused fault) input output err held does undone unfailed = does.3.2
told_of_does most Makes Refuses ReadFault input output err held does undone unfailed = does.2
told_of_does most Makes Refuses WriteFault input output err held does undone unfailed = absurd (unfailed refl)
told_of_does most Makes Refuses NoMemory input output err held does undone unfailed = does.1
