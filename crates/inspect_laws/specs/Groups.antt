-- Groups of entries: those that may set one thing (own).
use Rattle.std.specs.Prelude.{◌↔◌, ℕ, Bool, not, ◌||◌, if◌then◌else◌, List, map, codes}
use Rattle.std.specs.Cmp.Lexicographic.{slice_cmp}
use Rattle.std.specs.Ordering.{nat_cmp}
use Rattle.std.specs.List.{Contains, filter, list_all}
use Rattle.std.specs.List.Sorted.{IsStrictlySortedBy}
use Rattle.css_model.specs.declared.family.Family.{Family}
use Rattle.css_model.specs.declared.family.Family.TheVariants.{All, Custom, Named}
use Rattle.css_model.specs.Cascade.Family.{family_of}
use Rattle.css_model.specs.Lists.{same_text}
use Rattle.inspect_laws.specs.Entries.{Entry}

-- the name of a family
abbrev pub name_of : Family → List ℕ
name_of All = codes "all"
name_of (Custom name) = name
name_of (Named name) = name

-- the name of the family of an entry's property
abbrev pub family_name : Entry → List ℕ
family_name e = name_of (family_of e.decl.name)

-- whether an entry is of the property `all`
abbrev pub is_all : Entry → Bool
is_all e = same_text e.decl.name (codes "all")

-- The group of a family has the entries of its properties, and those of `all`.
abbrev pub is_in_group : (family : List ℕ) → Entry → Bool
is_in_group family e = is_all e || same_text (family_name e) family

-- the entries whose families have a group: those of other properties than `all`, or all if there is no such entry
abbrev pub leading : List Entry → List Entry
leading all = if list_all is_all all then all else filter (λ e. not (is_all e)) all

-- these are the names of the families that have a group, each once, ascending by code points
pub record AreFamilies (all : List Entry) (families : List (List ℕ)) : Type 0 where
  pub ascending : IsStrictlySortedBy (slice_cmp nat_cmp) families
  pub exactly : (family : List ℕ) → Contains families family ↔ Contains (map family_name (leading all)) family
