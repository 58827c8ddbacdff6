-- The members of a sheet: each pair where it occurs last, and each kept item (own).
use Rattle.std.specs.Prelude.{ℕ, ◌==◌, Bool, true, false, ◌&&◌, ◌||◌, if◌then◌else◌, List, [], ◌∷◌, ◌++◌, map}
use Rattle.std.specs.List.{count_by, list_any}
use Rattle.css_model.specs.declared.sheet.Item.{Item}
use Rattle.sheet_members.specs.Labels.{Label, label_of, same_label}
use Rattle.sheet_members.specs.Occurrences.{Occurrence, Part, Paired, Kept, occurrences}

abbrev pub is_pair : Part → Bool
is_pair (Paired s d) = true
is_pair (Kept item) = false

-- whether a pair is among these
abbrev pub is_listed : List Occurrence → Occurrence → Bool
is_listed others o = is_pair o.part && list_any (λ p. same_label (label_of p) (label_of o)) others

-- one before others that count, if it counts: a pair does not that is repeated, or among the others
abbrev pub with_last : Occurrence → (others : List Occurrence) → List Occurrence
with_last o others = if o.repeated || is_listed others o then others else o ∷ others

-- Those of some occurrences that count: each pair at its last place, of one declaration the first of equal selectors; and each kept
-- item.
abbrev pub lasts : List Occurrence → List Occurrence
lasts [] = []
lasts (o ∷ os) = with_last o (lasts os)

-- an occurrence, and what it is compared by
pub record Member : Type 0 where
  pub occurrence : Occurrence
  pub label : Label

abbrev pub member_of : Occurrence → Member
member_of o = record { occurrence = o; label = label_of o }

-- ---- Numbers

-- a label with this number, if it is not 0
abbrev pub with_number : ℕ → Label → Label
with_number n l = record {
  head = l.head;
  rule = l.rule;
  changed = l.changed;
  selector = l.selector;
  name = l.name;
  important = l.important;
  text = l.text;
  number = if n == 0 then l.number else n;
}

-- a member behind these labels
abbrev pub numbered_one : (before : List Label) → Member → Member
numbered_one before m = record { occurrence = m.occurrence; label = with_number (count_by (same_label m.label) before) m.label }

-- Members behind these labels: each one that equal ones come before has their number.
abbrev pub numbered : (before : List Label) → List Member → List Member
numbered before [] = []
numbered before (m ∷ ms) = numbered_one before m ∷ numbered (before ++ m.label ∷ []) ms

-- the members among these occurrences
abbrev pub members_of : List Occurrence → List Member
members_of os = numbered [] (map member_of (lasts os))

-- The members of a sheet, in the order in which they occur.
abbrev pub members : (source : List ℕ) (items : List Item) → List Member
members source items = members_of (occurrences source items)
