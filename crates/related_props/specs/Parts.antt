-- Steps on the way to the part of a name.
use Rattle.std.specs.Prelude.{ℕ, Bool, ◌&&◌, ◌==◌, if◌then◌else◌, List, Option, Some, None}
use Rattle.std.specs.List.{after_first, before_first, list_any}
use Rattle.css_model.specs.Cascade.Family.{is_hyphen, is_vendor}

abbrev pub is_underscore : ℕ → Bool
is_underscore c = c == 0x5F

-- what stands behind a vendor's word and a hyphen, if the text begins with these
abbrev pub behind_vendor : List ℕ → Option (List ℕ)
behind_vendor rest =
    if list_any is_hyphen rest && is_vendor (before_first is_hyphen rest) then Some (after_first is_hyphen rest) else None
