-- The numbers that callers see (own).
use Rattle.std.specs.Prelude.{ℕ, nat_eq, Bool, true, if◌then◌else◌}
use Rattle.css_model.specs.declared.fault.FaultKind.{FaultKind}
use Rattle.css_model.specs.declared.fault.FaultKind.TheVariants.{TooLong, NotUtf8, BadString, BadUrl, EndInside, TooDeep, Namespace, TooManyItems, TooManyPairs}
use Rattle.cssmin_c.specs.declared.statuses.TheConstants.{DONE, REFUSED, NO_MEMORY, NO_ROOM}

-- the numbers that a call may end with
abbrev pub is_status : ℕ → Bool
is_status n = if nat_eq n DONE then true else if nat_eq n REFUSED then true else if nat_eq n NO_MEMORY then true else nat_eq n NO_ROOM

-- the number of a kind of fault
abbrev pub kind_number : FaultKind → ℕ
kind_number TooLong = 1
kind_number NotUtf8 = 2
kind_number BadString = 3
kind_number BadUrl = 4
kind_number EndInside = 5
kind_number TooDeep = 6
kind_number Namespace = 7
kind_number TooManyItems = 8
kind_number TooManyPairs = 9
