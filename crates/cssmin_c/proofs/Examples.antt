-- What callers are told.
use Rattle.std.proofs.Common.{◌≡◌, ℕ, List, length, refl}
use Rattle.cssmin_c.specs.Calls.{with_lengths}
use Rattle.cssmin_c.specs.declared.told.Told.{Told}
use Rattle.cssmin_c.specs.Statuses.{kind_number}
use Rattle.css_model.specs.declared.fault.FaultKind.TheVariants.{BadString, BadUrl, TooManyPairs}

-- each kind of fault has a number of its own
bad_string_is_3 : kind_number BadString ≡ 3
bad_string_is_3 = refl

bad_url_is_4 : kind_number BadUrl ≡ 4
bad_url_is_4 = refl

last_kind_is_9 : kind_number TooManyPairs ≡ 9
last_kind_is_9 = refl

-- a text and its report have each their own length
text_has_its_length : (old : Told) (text report : List ℕ) → (with_lengths old text report).length ≡ length text
text_has_its_length old text report = refl

report_has_its_length : (old : Told) (text report : List ℕ) → (with_lengths old text report).report_length ≡ length report
report_has_its_length old text report = refl
