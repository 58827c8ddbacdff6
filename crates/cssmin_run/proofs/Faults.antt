-- A sheet has one fault at most, and none where it is merged.
use Rattle.std.proofs.Common.{◌≡◌, ◌<◌, Bool, true, false, cond, List, ℕ, Option, Result, Ok, Err, IsOk, length, nat_lt, refl, sym, ◌∙◌, subst, arith}
use Rattle.std.proofs.lemmas.Bool.{false≢true}
use Rattle.css_model.specs.declared.fault.FaultKind.TheVariants.{TooLong}
use Rattle.css_model.specs.declared.fault.SheetFault.{SheetFault}
use Rattle.css_model.specs.Sheets.Limits.{max_bytes}
use Rattle.css_model.specs.declared.sheet.Item.{Item}
use Rattle.css_model.specs.Sheets.Sheet.{sheet_of}
use Rattle.opened_merge_laws.specs.Merged.{IsMergedWithin}
use Rattle.step_laws.specs.Free.{Answered}
use Rattle.cssmin_run.specs.SheetFaults.{HasFault, HasNoFault}

by_test : {X : Type 0} → (b : Bool) (x y : X) → b ≡ true → cond b x y ≡ x
by_test true x y test = refl
by_test false x y test = absurd (false≢true test)

-- a sheet of more bytes than the limit is too long
pub too_long : (read : List ℕ) → max_bytes < length read → HasFault read (record { kind = TooLong; at = max_bytes })
unfolding HasFault
too_long read long = by_test (nat_lt max_bytes (length read)) _ _ (above max_bytes (length read) long)
  where
    above : (limit n : ℕ) → limit < n → nat_lt limit n ≡ true
    above limit n more = grind (arith, more)

-- the same of what it is read as
pub too_long_is_read : (read : List ℕ) → max_bytes < length read → sheet_of read ≡ Err (record { kind = TooLong; at = max_bytes })
unfolding HasFault
too_long_is_read read long = too_long read long

pub one_fault : (read : List ℕ) (f g : SheetFault) → HasFault read f → HasFault read g → f ≡ g
unfolding HasFault
one_fault read f g first second = let same : ◌≡◌ {A = Result (List Item) SheetFault} (Err f) (Err g) = sym first ∙ second in cc

pub fault_or_none : (read : List ℕ) (f : SheetFault) → HasFault read f → HasNoFault read → ⊥
unfolding HasFault HasNoFault
fault_or_none read f fault none = absurd (false≢true (subst (λ (r : Result (List Item) SheetFault). IsOk r) fault none))

pub merged_no_fault : (spent : Option ℕ) (answers : List Answered) (read text : List ℕ) (f : SheetFault) → IsMergedWithin spent answers read text → HasFault read f → ⊥
unfolding HasFault
merged_no_fault spent answers read text f is fault = let same : ◌≡◌ {A = Result (List Item) SheetFault} (Ok is.old) (Err f) = sym is.old_read ∙ fault in cc
