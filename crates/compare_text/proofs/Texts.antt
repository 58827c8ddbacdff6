-- Texts that are read.
use Rattle.std.proofs.Common.{◌≡◌, ◌<◌, ◌≤◌, ℕ, Bool, true, false, cond, List, Result, Ok, Err, length, nat_lt, refl, sym, arith, ◌∙◌, ap}
use Rattle.std.proofs.lemmas.Bool.{false≢true}
use Rattle.css_model.specs.Documents.SelectorParts.{SelectorParts}
use Rattle.css_model.specs.declared.reason.Reason.{Reason}
use Rattle.css_model.specs.Selectors.Profile.{IsInProfile}
use Rattle.css_model.specs.Selectors.Reading.{selector_of}
use Rattle.css_model.specs.Selectors.Reasons.{number_of}
use Rattle.css_model.specs.Sheets.Limits.{max_bytes}
use Rattle.sel_parse.specs.Answers.{Answers}
use Rattle.sel_parse.specs.declared.error.SelError.{SelError}
use Rattle.sel_parse.specs.declared.error.SelError.TheVariants.{Outside, NoMemory}
use Rattle.compare_text.specs.ComparedTexts.{numbered, selector_or_reason}
use Rattle.compare_text.specs.Reading.{Reads}

by_false : {X : Type 0} → (b : Bool) (x y : X) → b ≡ false → cond b x y ≡ y
by_false true x y test = absurd (false≢true (sym test))
by_false false x y test = refl

by_true : {X : Type 0} → (b : Bool) (x y : X) → b ≡ true → cond b x y ≡ x
by_true true x y test = refl
by_true false x y test = absurd (false≢true test)

-- a short text is read as it stands
is_read : (text : List ℕ) → length text ≤ max_bytes → selector_or_reason text ≡ numbered (selector_of text)
unfolding selector_or_reason
is_read text short = by_false (nat_lt max_bytes (length text)) _ _ (below max_bytes (length text) short)
  where
    below : (limit n : ℕ) → n ≤ limit → nat_lt limit n ≡ false
    below limit n h = grind (arith, h)

pub long_read : (text : List ℕ) → max_bytes < length text → selector_or_reason text ≡ Err 10
unfolding selector_or_reason
long_read text long = by_true (nat_lt max_bytes (length text)) _ _ (above max_bytes (length text) long)
  where
    above : (limit n : ℕ) → limit < n → nat_lt limit n ≡ true
    above limit n h = grind (arith, h)

pub short_read : (result : Result SelectorParts SelError) (text : List ℕ) → length text ≤ max_bytes → Answers result (selector_of text) → Reads result (selector_or_reason text)
short_read (Ok selector) text short is = is_read text short ∙ ap numbered is
short_read (Err (Outside reason)) text short is = is_read text short ∙ ap numbered is.1 ∙ ap Err (sym is.2)
short_read (Err NoMemory) text short is = tt

pub in_profile : (text : List ℕ) (selector : SelectorParts) → length text ≤ max_bytes → selector_of text ≡ Ok selector → IsInProfile selector
in_profile text selector short is = record { text = text; short = short; reads = is }
