-- Members with their numbers: what they give is what their occurrences do.
use Rattle.std.proofs.Common.{◌≡◌, ℕ, Bool, false, not, List, [], ◌∷◌, ◌++◌, map, Option, Some, None, refl, sym, ap, ◌∙◌}
use Rattle.std.specs.Prelude.{if◌then◌else◌}
use Rattle.std.specs.List.{count_by, filter, flat_map}
use Rattle.css_model.specs.Cascade.Winner.{Declared}
use Rattle.css_model.specs.Documents.SelectorParts.{SelectorParts}
use Rattle.sheet_members.specs.Labels.{Label, label_of, label_with, same_label}
use Rattle.sheet_members.specs.Members.{Member, is_pair, member_of, numbered, numbered_one, with_number}
use Rattle.sheet_members.specs.Occurrences.{Kept, Occurrence, Paired, Part}
use Rattle.diff_laws.specs.Scenes.{kept_labels}
use Rattle.diff_laws.proofs.Flat.{by_selector, flat_of, standing, with_part}

module _ (matched : SelectorParts → Bool) (holds : List ℕ → Bool) (means : Label → List Declared) where
  abbrev pub by_subject : Label → Option SelectorParts → List Declared
  by_subject l None = means l
  by_subject l (Some s) = by_selector matched holds l (Some s)

  -- what a member with this label gives
  abbrev pub member_gives : Label → List Declared
  member_gives l = standing matched holds l.head (by_subject l l.selector)

  -- the labels of the kept ones of members, the first of which is this part
  abbrev kept_with : Part → Member → List Member → List Label
  kept_with q m rest = map (λ (x : Member). x.label) (if not (is_pair q) then m ∷ filter (λ (x : Member). not (is_pair x.occurrence.part)) rest else filter (λ (x : Member). not (is_pair x.occurrence.part)) rest)

  pub members_flat : (before : List Label) (os : List Occurrence) → flat_of matched holds os (map means (kept_labels (numbered before (map member_of os)))) ≡ flat_map (λ (m : Member). member_gives m.label) (numbered before (map member_of os))
  members_flat before [] = refl
  members_flat before (o ∷ os) = which o.part refl (members_flat (before ++ label_of o ∷ []) os)
    where
      which : (q : Part) → o.part ≡ q →
          flat_of matched holds os (map means (kept_labels (numbered (before ++ label_of o ∷ []) (map member_of os)))) ≡ flat_map (λ (m : Member). member_gives m.label) (numbered (before ++ label_of o ∷ []) (map member_of os)) →
          with_part matched holds o o.part (λ qs. flat_of matched holds os qs) (map means (kept_with o.part (numbered_one before (member_of o)) (numbered (before ++ label_of o ∷ []) (map member_of os))))
          ≡ member_gives (with_number (count_by (same_label (label_of o)) before) (label_of o)) ++ flat_map (λ (m : Member). member_gives m.label) (numbered (before ++ label_of o ∷ []) (map member_of os))
      which q e rest =
          ap (λ (r : Part). with_part matched holds o r (λ qs. flat_of matched holds os qs) (map means (kept_with r (numbered_one before (member_of o)) (numbered (before ++ label_of o ∷ []) (map member_of os))))) e
          ∙ sided q e
          ∙ ap (λ (r : Part). member_gives (with_number (count_by (same_label (label_of o)) before) (label_with o.layer.head r false o.text)) ++ flat_map (λ (m : Member). member_gives m.label) (numbered (before ++ label_of o ∷ []) (map member_of os))) (sym e)
        where
          sided : (q : Part) → o.part ≡ q → with_part matched holds o q (λ qs. flat_of matched holds os qs) (map means (kept_with q (numbered_one before (member_of o)) (numbered (before ++ label_of o ∷ []) (map member_of os))))
              ≡ member_gives (with_number (count_by (same_label (label_of o)) before) (label_with o.layer.head q false o.text)) ++ flat_map (λ (m : Member). member_gives m.label) (numbered (before ++ label_of o ∷ []) (map member_of os))
          sided (Paired s d) e = ap (λ (ds : List Declared). member_gives (with_number (count_by (same_label (label_of o)) before) (label_with o.layer.head (Paired s d) false o.text)) ++ ds) rest
          sided (Kept item) e =
              ap (λ (l : Label). standing matched holds o.layer.head (means l) ++ flat_of matched holds os (map means (kept_labels (numbered (before ++ label_of o ∷ []) (map member_of os)))))
              (ap (λ (r : Part). with_number (count_by (same_label (label_of o)) before) (label_with o.layer.head r false o.text)) e)
              ∙ ap (λ (ds : List Declared). standing matched holds o.layer.head (means (with_number (count_by (same_label (label_of o)) before) (label_with o.layer.head (Kept item) false o.text))) ++ ds) rest
