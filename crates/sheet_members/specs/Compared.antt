-- The members of two sheets compared: which ones both have, which one of them lacks, and which are changed (own).
use Rattle.std.specs.Prelude.{ℕ, Bool, not, if◌then◌else◌, List, [], map, find, Option}
use Rattle.std.specs.List.{enumerate_from, filter, filter_map, list_any}
use Rattle.std.specs.Option.{option_map}
use Rattle.css_model.specs.declared.sheet.Item.{Item}
use Rattle.sheet_members.specs.Labels.{Label, key_of, same_label}
use Rattle.sheet_members.specs.Members.{Member, members, numbered}

-- whether one of these members has a label
abbrev pub has_member : List Member → Label → Bool
has_member others label = list_any (λ m. same_label m.label label) others

-- a member beside those of another sheet: one that this sheet lacks is compared as a changed one
abbrev pub marked : (others : List Member) → Member → Member
marked others m = if has_member others m.label then m else record { occurrence = m.occurrence; label = key_of m.occurrence }

-- All members beside those of another sheet. Of those that this sheet lacks the ones with equal keys are numbered, so that the k-th
-- of a key is compared with the k-th.
abbrev pub all_marked : (others ms : List Member) → List Member
all_marked others ms = numbered [] (map (marked others) ms)

-- a member that two sheets have in common, as it is in both, and its place among the members of the second one
pub record Common : Type 0 where
  pub mine : Member
  pub yours : Member
  pub there : ℕ

-- the first of these members that has a label, with its place
abbrev pub twin_in : List Member → Label → Option (ℕ × Member)
twin_in others label = find (λ x. same_label x.1.label label) (enumerate_from 0 others)

-- a member of the first sheet as a common one, if the second one has it
abbrev pub common_of : (others : List Member) → Member → Option Common
common_of others m = option_map (λ (x : ℕ × Member). record { mine = m; yours = x.1; there = x.0 }) (twin_in others m.label)

-- the members of two sheets: the common ones, those that the second one lacks, and those that it has besides
pub record Compared : Type 0 where
  pub commons : List Common
  pub missing : List Member
  pub extra : List Member

abbrev pub compared_of : (ms ns : List Member) → Compared
compared_of ms ns = record {
  commons = filter_map (common_of ns) ms;
  missing = filter (λ m. not (has_member ns m.label)) ms;
  extra = filter (λ n. not (has_member ms n.label)) ns;
}

-- Those of two sheets, in the order of the first one; what the second one has besides in its own order.
abbrev pub compared : (source : List ℕ) (s : List Item) (other : List ℕ) (t : List Item) → Compared
compared source s other t =
    compared_of (all_marked (members other t) (members source s)) (all_marked (members source s) (members other t))

-- the changed ones among the common members
abbrev pub changed : Compared → List Common
changed c = filter (λ x. x.mine.label.changed) c.commons
