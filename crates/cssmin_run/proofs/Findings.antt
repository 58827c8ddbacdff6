-- What a command did whose status says whether it found something.
use Rattle.std.proofs.Common.{◌≡◌, ◌≢◌, ◌⊎◌, ◌==◌, inl, inr, ℕ, Bool, true, false, not, List, Option, None, Ok, IsSomeAnd, refl, sym, subst, ◌∙◌}
use Rattle.std.specs.Cmp.Lexicographic.{bytes_decides, pointwise}
use Rattle.line_places.specs.declared.place.Place.{Place}
use Rattle.overlap.specs.PairsParts.{PairsParts}
use Rattle.cssmin_run.specs.Change.{Change, HasFailed}
use Rattle.cssmin_run.specs.Placed.{TellsAt}
use Rattle.cssmin_run.specs.Status.{IsRefusal}
use Rattle.cssmin_run.specs.Tasks.{Does, Finds, IsUnanswered, Reads, Silent, says_more, with_found}
use Rattle.cssmin_run.specs.Writing.{Writes}
use Rattle.cssmin_run.specs.declared.status.Status.{Status}
use Rattle.cssmin_run.specs.declared.status.Status.TheVariants.{Done, Found, Usage, SheetRefused, NoItem, DocRefused, LogRefused, NoSplit, SecondRefused, ReadFault, WriteFault, NoMemory}
use Rattle.cssmin_run.specs.declared.tasks.Answer.{Answer}
use Rattle.cssmin_run.proofs.Outcomes.{completes_silent, stopped}

nothing_said : (nothing text : List ℕ) → says_more nothing text ≡ false → text ≡ nothing
nothing_said nothing text h = (bytes_decides text nothing).0 (by (pointwise ◌==◌ text nothing) h)
  where
    by : (b : Bool) → not b ≡ false → b ≡ true
    by true h = refl
    by false h = absurd (let bad : ⊥ = cc in bad)

more_said : (nothing text : List ℕ) → says_more nothing text ≡ true → text ≢ nothing
more_said nothing text h same = by (pointwise ◌==◌ text nothing) h ((bytes_decides text nothing).1 same)
  where
    by : (b : Bool) → not b ≡ true → b ≡ true → ⊥
    by true h is = absurd (let bad : ⊥ = cc in bad)
    by false h is = absurd (let bad : ⊥ = cc in bad)

-- ---- On the way there

-- what stopped before anything was written stopped so
finds_of_does : (nothing : List ℕ) (most : ℕ) (Where : Status → List ℕ → Option Place) (Makes : (read text report : List ℕ) (held : Option PairsParts) → Type 0) (Refuses : Status → List ℕ → Type 0) (status : Status) (input output err : Change)
    (held : Option PairsParts) → (status ≡ Done → ⊥) → Does most Where Makes Refuses status input output err held → Finds nothing most Where Makes Refuses status input output err held
finds_of_does nothing most Where Makes Refuses Done input output err held undone does = absurd (undone refl)
finds_of_does nothing most Where Makes Refuses Found input output err held undone does = absurd does.0
finds_of_does nothing most Where Makes Refuses Usage input output err held undone does = does
finds_of_does nothing most Where Makes Refuses (SheetRefused fault) input output err held undone does = does
finds_of_does nothing most Where Makes Refuses (NoItem fault) input output err held undone does = does
finds_of_does nothing most Where Makes Refuses (DocRefused fault) input output err held undone does = does
finds_of_does nothing most Where Makes Refuses (LogRefused fault) input output err held undone does = does
finds_of_does nothing most Where Makes Refuses (NoSplit fault) input output err held undone does = does
finds_of_does nothing most Where Makes Refuses (SecondRefused fault) input output err held undone does = does
finds_of_does nothing most Where Makes Refuses ReadFault input output err held undone does = does
finds_of_does nothing most Where Makes Refuses WriteFault input output err held undone does = does
finds_of_does nothing most Where Makes Refuses NoMemory input output err held undone does = does

unanswered_undone : (most : ℕ) (Where : Status → List ℕ → Option Place) (Refuses : Status → List ℕ → Type 0) (place : Option Place) (input : Change) → IsUnanswered most Where Refuses Done place input → ⊥
unanswered_undone most Where Refuses place input why = why.0

pub stopped_finding : (nothing : List ℕ) (most : ℕ) (Where : Status → List ℕ → Option Place) (Makes : (read text report : List ℕ) (held : Option PairsParts) → Type 0) (Refuses : Status → List ℕ → Type 0) (found status : Status) (place : Option Place)
    (input output err : Change) (held : Option PairsParts)
    → IsUnanswered most Where Refuses found place input → held ≡ None → (status ≡ found) ⊎ (IsRefusal found × (status ≡ NoMemory)) → TellsAt place status err → Finds nothing most Where Makes Refuses status input output err held
stopped_finding nothing most Where Makes Refuses found status place input output err held why none same told =
    finds_of_does nothing most Where Makes Refuses status input output err held (undone same) (stopped most Where Makes Refuses found status place input output err held why none same told)
  where
    undone : (status ≡ found) ⊎ (IsRefusal found × (status ≡ NoMemory)) → status ≡ Done → ⊥
    undone (inl e) done = unanswered_undone most Where Refuses place input (subst (λ (s : Status). IsUnanswered most Where Refuses s place input) (sym e ∙ done) why)
    undone (inr e) done = let bad : NoMemory ≡ Done = sym e.1 ∙ done in cc

-- its text and its report were written, or a front of them
wrote_so : (nothing : List ℕ) (most : ℕ) (Where : Status → List ℕ → Option Place) (Makes : (read text report : List ℕ) (held : Option PairsParts) → Type 0) (Refuses : Status → List ℕ → Type 0) (answer : Answer) (found : Bool) (status : Status)
    (input output err : Change) → found ≡ says_more nothing answer.text.items → Reads most Where Makes Refuses (Ok answer) input → Writes answer.text.items answer.report.items status output err →
    Finds nothing most Where Makes Refuses (with_found found status) input output err answer.held
wrote_so nothing most Where Makes Refuses answer true Done input output err more made written =
    record { read = made.0; text = answer.text.items; report = answer.report.items; all_read = made.1; made = (made.2, more_said nothing answer.text.items (sym more)); added = written.0; told = written.1 }
wrote_so nothing most Where Makes Refuses answer false Done input output err more made written =
    record { read = made.0; text = answer.text.items; report = answer.report.items; all_read = made.1; made = (made.2, nothing_said nothing answer.text.items (sym more)); added = written.0; told = written.1 }
wrote_so nothing most Where Makes Refuses answer true WriteFault input output err more made written = record { read = made.0; text = answer.text.items; report = answer.report.items; all_read = made.1; made = made.2; stopped = written }
wrote_so nothing most Where Makes Refuses answer false WriteFault input output err more made written = record { read = made.0; text = answer.text.items; report = answer.report.items; all_read = made.1; made = made.2; stopped = written }
wrote_so nothing most Where Makes Refuses answer found Found input output err more made written = absurd written
wrote_so nothing most Where Makes Refuses answer found Usage input output err more made written = absurd written
wrote_so nothing most Where Makes Refuses answer found (SheetRefused fault) input output err more made written = absurd written
wrote_so nothing most Where Makes Refuses answer found (NoItem fault) input output err more made written = absurd written
wrote_so nothing most Where Makes Refuses answer found (DocRefused fault) input output err more made written = absurd written
wrote_so nothing most Where Makes Refuses answer found (LogRefused fault) input output err more made written = absurd written
wrote_so nothing most Where Makes Refuses answer found (NoSplit fault) input output err more made written = absurd written
wrote_so nothing most Where Makes Refuses answer found (SecondRefused fault) input output err more made written = absurd written
wrote_so nothing most Where Makes Refuses answer found ReadFault input output err more made written = absurd written
wrote_so nothing most Where Makes Refuses answer found NoMemory input output err more made written = absurd written

pub found_wrote : (nothing : List ℕ) (most : ℕ) (Where : Status → List ℕ → Option Place) (Makes : (read text report : List ℕ) (held : Option PairsParts) → Type 0) (Refuses : Status → List ℕ → Type 0) (answer : Answer) (found : Bool) (status ends : Status)
    (input output err : Change) → ends ≡ with_found found status → found ≡ says_more nothing answer.text.items → Reads most Where Makes Refuses (Ok answer) input → Writes answer.text.items answer.report.items status output err →
    Finds nothing most Where Makes Refuses ends input output err answer.held
found_wrote nothing most Where Makes Refuses answer found status ends input output err is more made written =
    subst (λ (s : Status). Finds nothing most Where Makes Refuses s input output err answer.held) (sym is) (wrote_so nothing most Where Makes Refuses answer found status input output err more made written)

-- a status that is none of the three comes of one that is not `Done` or `WriteFault`
undone_before : (found : Bool) (status : Status) → with_found found status ≢ Done → with_found found status ≢ Found → status ≢ Done
undone_before true Done undone unfound e = unfound refl
undone_before false Done undone unfound e = undone refl
undone_before found Found undone unfound e = let bad : Found ≡ Done = e in cc
undone_before found Usage undone unfound e = let bad : Usage ≡ Done = e in cc
undone_before found (SheetRefused fault) undone unfound e = let bad : SheetRefused fault ≡ Done = e in cc
undone_before found (NoItem fault) undone unfound e = let bad : NoItem fault ≡ Done = e in cc
undone_before found (DocRefused fault) undone unfound e = let bad : DocRefused fault ≡ Done = e in cc
undone_before found (LogRefused fault) undone unfound e = let bad : LogRefused fault ≡ Done = e in cc
undone_before found (NoSplit fault) undone unfound e = let bad : NoSplit fault ≡ Done = e in cc
undone_before found (SecondRefused fault) undone unfound e = let bad : SecondRefused fault ≡ Done = e in cc
undone_before found ReadFault undone unfound e = let bad : ReadFault ≡ Done = e in cc
undone_before found WriteFault undone unfound e = let bad : WriteFault ≡ Done = e in cc
undone_before found NoMemory undone unfound e = let bad : NoMemory ≡ Done = e in cc

unfailed_before : (found : Bool) (status : Status) → with_found found status ≢ WriteFault → status ≢ WriteFault
unfailed_before true WriteFault unfailed e = unfailed refl
unfailed_before false WriteFault unfailed e = unfailed refl
unfailed_before found Done unfailed e = let bad : Done ≡ WriteFault = e in cc
unfailed_before found Found unfailed e = let bad : Found ≡ WriteFault = e in cc
unfailed_before found Usage unfailed e = let bad : Usage ≡ WriteFault = e in cc
unfailed_before found (SheetRefused fault) unfailed e = let bad : SheetRefused fault ≡ WriteFault = e in cc
unfailed_before found (NoItem fault) unfailed e = let bad : NoItem fault ≡ WriteFault = e in cc
unfailed_before found (DocRefused fault) unfailed e = let bad : DocRefused fault ≡ WriteFault = e in cc
unfailed_before found (LogRefused fault) unfailed e = let bad : LogRefused fault ≡ WriteFault = e in cc
unfailed_before found (NoSplit fault) unfailed e = let bad : NoSplit fault ≡ WriteFault = e in cc
unfailed_before found (SecondRefused fault) unfailed e = let bad : SecondRefused fault ≡ WriteFault = e in cc
unfailed_before found ReadFault unfailed e = let bad : ReadFault ≡ WriteFault = e in cc
unfailed_before found NoMemory unfailed e = let bad : NoMemory ≡ WriteFault = e in cc

pub found_untouched : {X : Type 0} (found : Bool) (status ends : Status) (old new : X) → ends ≡ with_found found status → (status ≢ Done → status ≢ WriteFault → new ≡ old) → ends ≢ Done → ends ≢ Found → ends ≢ WriteFault → new ≡ old
found_untouched found status ends old new is untouched undone unfound unfailed =
    untouched (undone_before found status (λ e. undone (is ∙ e)) (λ e. unfound (is ∙ e))) (unfailed_before found status (λ e. unfailed (is ∙ e)))

-- ---- Which status comes

wider : (status : Status) → (status ≡ Done) ⊎ (status ≡ NoMemory) → (status ≡ Done) ⊎ (status ≡ Found) ⊎ (status ≡ NoMemory)
wider status (inl e) = inl e
wider status (inr e) = inr (inr e)

-- what is not refused is done or has found something, but for want of memory, where no read or write failed
pub finds_silent : (nothing : List ℕ) (most : ℕ) (Where : Status → List ℕ → Option Place) (Makes : (read text : List ℕ) (held : Option PairsParts) → Type 0) (Refuses : Status → List ℕ → Type 0) (status : Status) (input output err : Change) (held : Option PairsParts)
    → Finds nothing most Where (Silent Makes) Refuses status input output err held
    → IsSomeAnd input.old (λ read. (other : Status) → Refuses other read → ⊥) → (HasFailed input → ⊥) → (HasFailed output → ⊥) → (status ≡ Done) ⊎ (status ≡ Found) ⊎ (status ≡ NoMemory)
finds_silent nothing most Where Makes Refuses Done input output err held h none sure safe = inl refl
finds_silent nothing most Where Makes Refuses Found input output err held h none sure safe = inr (inl refl)
finds_silent nothing most Where Makes Refuses NoMemory input output err held h none sure safe = inr (inr refl)
finds_silent nothing most Where Makes Refuses Usage input output err held h none sure safe = wider Usage (completes_silent most Where Makes Refuses Usage input output err held h none sure safe)
finds_silent nothing most Where Makes Refuses (SheetRefused fault) input output err held h none sure safe = wider (SheetRefused fault) (completes_silent most Where Makes Refuses (SheetRefused fault) input output err held h none sure safe)
finds_silent nothing most Where Makes Refuses (NoItem fault) input output err held h none sure safe = wider (NoItem fault) (completes_silent most Where Makes Refuses (NoItem fault) input output err held h none sure safe)
finds_silent nothing most Where Makes Refuses (DocRefused fault) input output err held h none sure safe = wider (DocRefused fault) (completes_silent most Where Makes Refuses (DocRefused fault) input output err held h none sure safe)
finds_silent nothing most Where Makes Refuses (LogRefused fault) input output err held h none sure safe = wider (LogRefused fault) (completes_silent most Where Makes Refuses (LogRefused fault) input output err held h none sure safe)
finds_silent nothing most Where Makes Refuses (NoSplit fault) input output err held h none sure safe = wider (NoSplit fault) (completes_silent most Where Makes Refuses (NoSplit fault) input output err held h none sure safe)
finds_silent nothing most Where Makes Refuses (SecondRefused fault) input output err held h none sure safe = wider (SecondRefused fault) (completes_silent most Where Makes Refuses (SecondRefused fault) input output err held h none sure safe)
finds_silent nothing most Where Makes Refuses ReadFault input output err held h none sure safe = wider ReadFault (completes_silent most Where Makes Refuses ReadFault input output err held h none sure safe)
finds_silent nothing most Where Makes Refuses WriteFault input output err held h none sure safe = wider WriteFault (completes_silent most Where Makes Refuses WriteFault input output err held h none sure safe)
