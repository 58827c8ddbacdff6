-- What members of pairs and of kept items give, by their parts.
use Rattle.std.proofs.Common.{◌≡◌, ◌⊎◌, inl, inr, ℕ, Bool, true, false, List, [], ◌∷◌, ◌++◌, map, Some, None, refl, sym, ap, ap₂, ◌∙◌, subst}
use Rattle.std.specs.Prelude.{if◌then◌else◌}
use Rattle.std.specs.List.{Contains, count_by}
use Rattle.cascade_laws.proofs.ForCallers.{some-same}
use Rattle.css_model.specs.declared.sheet.DeclItem.{DeclItem}
use Rattle.css_model.specs.declared.sheet.Item.{Item}
use Rattle.css_model.specs.declared.sheet.SelItem.{SelItem}
use Rattle.css_model.specs.Cascade.Order.{Pair}
use Rattle.css_model.specs.Cascade.Winner.{Declared}
use Rattle.css_model.specs.Documents.SelectorParts.{SelectorParts}
use Rattle.css_model.specs.Documents.Specificity.{specificity_of}
use Rattle.list_facts.proofs.Members.{Contains-nil, Contains-cons_cases}
use Rattle.sheet_members.specs.Labels.{Label, label_of, label_with, same_label}
use Rattle.sheet_members.specs.Members.{Member, member_of, numbered, numbered_one, with_number}
use Rattle.sheet_members.specs.Occurrences.{Kept, Occurrence, Paired, Part}
use Rattle.turned_members.specs.Weighing.{normal_pair}
use Rattle.diff_laws.proofs.Flat.{stands}
use Rattle.diff_laws.proofs.Numbers.{member_gives}

-- the label of a member is that of its part, with a number
pub record IsLabelled (m : Member) : Type 0 where
  pub number : ℕ
  pub is : m.label ≡ with_number number (label_of m.occurrence)

pub labelled : (before : List Label) (os : List Occurrence) (m : Member) → Contains (numbered before (map member_of os)) m → IsLabelled m
labelled before [] m among = absurd (Contains-nil m among)
labelled before (o ∷ os) m among = which (Contains-cons_cases (numbered_one before (member_of o)) (numbered (before ++ label_of o ∷ []) (map member_of os)) m among) (λ g. labelled (before ++ label_of o ∷ []) os m g)
  where
    which : (numbered_one before (member_of o) ≡ m) ⊎ Contains (numbered (before ++ label_of o ∷ []) (map member_of os)) m → (Contains (numbered (before ++ label_of o ∷ []) (map member_of os)) m → IsLabelled m) → IsLabelled m
    which (inl same) rest = subst IsLabelled same (record { number = count_by (same_label (label_of o)) before; is = refl })
    which (inr g) rest = rest g

-- a member of a part
pub record HasPart (m : Member) (q : Part) : Type 0 where
  pub part : m.occurrence.part ≡ q
  pub number : ℕ
  pub is : m.label ≡ with_number number (label_with m.occurrence.layer.head q false m.occurrence.text)

pub has_part : (m : Member) → IsLabelled m → (q : Part) → m.occurrence.part ≡ q → HasPart m q
has_part m l q e = record { part = e; number = l.number; is = l.is ∙ ap (λ (r : Part). with_number l.number (label_with m.occurrence.layer.head r false m.occurrence.text)) e }

abbrev pub pair_in : Member → SelItem → DeclItem → Pair
pair_in m s d = normal_pair s d m.occurrence.text

-- members of one label, of pairs: these are the same
pub pair_same : (m n : Member) (s s' : SelItem) (d d' : DeclItem) → HasPart m (Paired s d) → HasPart n (Paired s' d') → m.label ≡ n.label → pair_in m s d ≡ pair_in n s' d'
pair_same m n s s' d d' h g same =
    let e : with_number h.number (label_with m.occurrence.layer.head (Paired s d) false m.occurrence.text) ≡ with_number g.number (label_with n.occurrence.layer.head (Paired s' d') false n.occurrence.text) = sym h.is ∙ same ∙ g.is in
    let selector : s.selector ≡ s'.selector = some-same (ap (λ (l : Label). l.selector) e) in
    ap₂ (λ (x : SelectorParts) (l : Label). record { selector = x; decl = record { name = l.name; value = l.text; important = l.important } }) selector e

-- a member of one label with a pair is no kept item, and the other way round
pub not_kept : (m n : Member) (s : SelItem) (d : DeclItem) (item : Item) → HasPart m (Paired s d) → HasPart n (Kept item) → m.label ≡ n.label → ⊥
not_kept m n s d item h g same = let e : Some s.selector ≡ None = ap (λ (l : Label). l.selector) (sym h.is ∙ same ∙ g.is) in cc

module _ (matched : SelectorParts → Bool) (holds : List ℕ → Bool) (means : Label → List Declared) where
  -- what a pair gives: its own
  pub pair_gives : (m : Member) (s : SelItem) (d : DeclItem) (x : Declared) → HasPart m (Paired s d) → Contains (member_gives matched holds means m.label) x →
      (matched s.selector ≡ true) × (x ≡ record { decl = (pair_in m s d).decl; specificity = specificity_of s.selector })
  pair_gives m s d x h among =
      which (stands holds m.occurrence.layer.head) (matched s.selector) refl (subst (λ (l : Label). Contains (member_gives matched holds means l) x) h.is among)
    where
      which : (b c : Bool) → matched s.selector ≡ c →
          Contains (if b then (if c then record { decl = (pair_in m s d).decl; specificity = specificity_of s.selector } ∷ [] else []) else []) x →
          (matched s.selector ≡ true) × (x ≡ record { decl = (pair_in m s d).decl; specificity = specificity_of s.selector })
      which true true e g = (e, first (Contains-cons_cases (record { decl = (pair_in m s d).decl; specificity = specificity_of s.selector }) [] x g))
        where
          first : (record { decl = (pair_in m s d).decl; specificity = specificity_of s.selector } ≡ x) ⊎ Contains [] x → x ≡ record { decl = (pair_in m s d).decl; specificity = specificity_of s.selector }
          first (inl same) = sym same
          first (inr none) = absurd (Contains-nil x none)
      which true false e g = absurd (Contains-nil x g)
      which false c e g = absurd (Contains-nil x g)

  -- a kept item gives what is said of its label
  pub kept_gives : (m : Member) (item : Item) (x : Declared) → HasPart m (Kept item) → Contains (member_gives matched holds means m.label) x → Contains (means m.label) x
  kept_gives m item x h among =
      subst (λ (l : Label). Contains (means l) x) (sym h.is) (which (stands holds m.occurrence.layer.head) (subst (λ (l : Label). Contains (member_gives matched holds means l) x) h.is among))
    where
      which : (b : Bool) → Contains (if b then means (with_number h.number (label_with m.occurrence.layer.head (Kept item) false m.occurrence.text)) else []) x →
          Contains (means (with_number h.number (label_with m.occurrence.layer.head (Kept item) false m.occurrence.text))) x
      which true g = g
      which false g = absurd (Contains-nil x g)
