-- What tables of labels have.
use Rattle.std.specs.Prelude.{◌≡◌, ℕ, List, map, reverse, Option}
use Rattle.std.specs.List.{count_by, enumerate_from, list_any, find}
use Rattle.std.specs.Map.{count_at}
use Rattle.std.specs.Option.{option_map}
use Rattle.sheet_members.specs.Labels.{Label, label_of, same_label}
use Rattle.sheet_members.specs.Members.{Member, member_of}
use Rattle.sheet_members.specs.Occurrences.{Occurrence}

-- these keys are the labels of these occurrences
abbrev pub AreListed : List Occurrence → (keys : List Label) → Type 0
AreListed others keys = (l : Label) → list_any (same_label l) keys ≡ list_any (λ p. same_label (label_of p) l) others

-- these members are those occurrences from the last one to the first, and these keys their labels
pub record IsBack (others : List Occurrence) (keys : List Label) (found : List Member) : Type 0 where
  pub listed : AreListed others keys
  pub members : found ≡ map member_of (reverse others)

-- a table has the numbers of these labels
abbrev pub AreCounts : (before : List Label) → (Label → Option ℕ) → Type 0
AreCounts before counts = (l : Label) → count_at counts l ≡ count_by (same_label l) before

-- a table has the first places of the labels of these members
abbrev pub ArePlaces : List Member → (Label → Option ℕ) → Type 0
ArePlaces ms places = (l : Label) → places l ≡ option_map (λ (x : ℕ × Member). x.0) (find (λ x. same_label x.1.label l) (enumerate_from 0 ms))
