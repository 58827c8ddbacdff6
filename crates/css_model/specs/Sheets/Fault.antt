-- How the fault of a sheet is named.
use Rattle.std.specs.Prelude.{ℕ, List, ◌++◌, codes, Option, Some, None, Result, Ok, Err, [], ◌∷◌}
use Rattle.std.specs.Fmt.{decimal}
use Rattle.css_model.specs.declared.fault.FaultKind.{FaultKind}
use Rattle.css_model.specs.declared.fault.FaultKind.TheVariants.{TooLong, NotUtf8, BadString, BadUrl, EndInside, TooDeep, Namespace, TooManyItems, TooManyPairs}
use Rattle.css_model.specs.declared.fault.SheetFault.{SheetFault}
use Rattle.std.specs.Option.{option_map}

abbrev pub fault_name : FaultKind → List ℕ
fault_name TooLong = codes "TooLong"
fault_name NotUtf8 = codes "NotUtf8"
fault_name BadString = codes "BadString"
fault_name BadUrl = codes "BadUrl"
fault_name EndInside = codes "EndInside"
fault_name TooDeep = codes "TooDeep"
fault_name Namespace = codes "Namespace"
fault_name TooManyItems = codes "TooManyItems"
fault_name TooManyPairs = codes "TooManyPairs"

-- the kind, and the place in decimal
abbrev pub fault_text : SheetFault → List ℕ
fault_text fault = fault_name fault.kind ++ codes " at " ++ decimal fault.at

-- a fault of this kind, where there is a place for it
abbrev pub fault_of : FaultKind → Option ℕ → Option SheetFault
fault_of kind at = option_map (λ place. record { kind = kind; at = place }) at

-- the first fault of a list, or what is read without one
abbrev pub unless : {A : Type 0} → List (Option SheetFault) → A → Result A SheetFault
unless [] x = Ok x
unless (None ∷ faults) x = unless faults x
unless (Some f ∷ faults) x = Err f
