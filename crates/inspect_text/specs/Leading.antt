-- The families that have a group, on the way through the entries.
use Rattle.std.specs.Prelude.{◌↔◌, ℕ, Bool, not, ◌||◌, List, map}
use Rattle.std.specs.List.{Contains, filter}
use Rattle.inspect_laws.specs.Entries.{Entry}
use Rattle.inspect_laws.specs.Groups.{family_name, is_all}

-- two lists of names have the same members
abbrev pub SameNames : List (List ℕ) → List (List ℕ) → Type 0
SameNames xs ys = (name : List ℕ) → Contains xs name ↔ Contains ys name

-- whether the family of an entry has a group, where all entries are of `all` or not
abbrev pub leads : (only_all : Bool) → Entry → Bool
leads only_all e = only_all || not (is_all e)

-- the names of the families of those of these entries that have a group
abbrev pub leading_names : (only_all : Bool) → List Entry → List (List ℕ)
leading_names only_all es = map family_name (filter (leads only_all) es)
