-- That two labels are the same exactly where they are equal.
use Rattle.std.proofs.Common.{◌≡◌, ◌&&◌, ◌==◌, ℕ, List, Bool, true, false, Option, Some, None, refl, ap, ◌∙◌}
use Rattle.std.specs.Bool.{Decides, beq}
use Rattle.std.specs.Cmp.{booleans_Decides}
use Rattle.std.specs.Cmp.Lexicographic.{bytes_decides}
use Rattle.std.proofs.lemmas.Bool.{and_from, and_parts, false≢true}
use Rattle.std.proofs.lemmas.Bool.Decides.{Decides-eqb}
use Rattle.css_model.proofs.ForCallers.{selector_decides}
use Rattle.css_model.specs.Documents.SelectorParts.{SelectorParts}
use Rattle.css_model.specs.Lists.{same_text}
use Rattle.sheet_members.specs.Labels.{Label, same_head, same_label, same_lists, same_marks, same_subject}

pub head_decides : (a b : Option (List ℕ)) → Decides (same_head a b) (a ≡ b)
head_decides None None = (λ h. refl, λ e. refl)
head_decides None (Some b) = (λ h. absurd (false≢true h), λ e. absurd (let none : ⊥ = cc in none))
head_decides (Some a) None = (λ h. absurd (false≢true h), λ e. absurd (let none : ⊥ = cc in none))
head_decides (Some a) (Some b) = (λ h. ap Some ((bytes_decides a b).0 h), λ e. (bytes_decides a b).1 (let same : a ≡ b = cc in same))

pub subject_decides : (a b : Option SelectorParts) → Decides (same_subject a b) (a ≡ b)
subject_decides None None = (λ h. refl, λ e. refl)
subject_decides None (Some b) = (λ h. absurd (false≢true h), λ e. absurd (let none : ⊥ = cc in none))
subject_decides (Some a) None = (λ h. absurd (false≢true h), λ e. absurd (let none : ⊥ = cc in none))
subject_decides (Some a) (Some b) = (λ h. ap Some ((selector_decides a b).0 h), λ e. (selector_decides a b).1 (let same : a ≡ b = cc in same))

-- what labels agree in that is not a list
pub marks_decide : (a b : Label) → Decides (same_marks a b) ((a.rule ≡ b.rule) × (a.changed ≡ b.changed) × (a.important ≡ b.important) × (a.number ≡ b.number))
marks_decide a b = (
  λ same. let w = and_parts (beq a.rule b.rule && beq a.changed b.changed) (beq a.important b.important && a.number == b.number) same in
      let u = and_parts (beq a.rule b.rule) (beq a.changed b.changed) w.0 in
      let v = and_parts (beq a.important b.important) (a.number == b.number) w.1 in
      ((booleans_Decides a.rule b.rule).0 u.0, (booleans_Decides a.changed b.changed).0 u.1, (booleans_Decides a.important b.important).0 v.0, (Decides-eqb a.number b.number).0 v.1),
  λ e. and_from (beq a.rule b.rule && beq a.changed b.changed) (beq a.important b.important && a.number == b.number)
      (and_from (beq a.rule b.rule) (beq a.changed b.changed) ((booleans_Decides a.rule b.rule).1 e.0) ((booleans_Decides a.changed b.changed).1 e.1))
      (and_from (beq a.important b.important) (a.number == b.number) ((booleans_Decides a.important b.important).1 e.2) ((Decides-eqb a.number b.number).1 e.3)),
)

-- and in the others
pub lists_decide : (a b : Label) → Decides (same_lists a b) ((a.text ≡ b.text) × (a.name ≡ b.name) × (a.head ≡ b.head) × (a.selector ≡ b.selector))
lists_decide a b = (
  λ same. let w = and_parts (same_text a.text b.text && same_text a.name b.name) (same_head a.head b.head && same_subject a.selector b.selector) same in
      let u = and_parts (same_text a.text b.text) (same_text a.name b.name) w.0 in
      let v = and_parts (same_head a.head b.head) (same_subject a.selector b.selector) w.1 in
      ((bytes_decides a.text b.text).0 u.0, (bytes_decides a.name b.name).0 u.1, (head_decides a.head b.head).0 v.0, (subject_decides a.selector b.selector).0 v.1),
  λ e. and_from (same_text a.text b.text && same_text a.name b.name) (same_head a.head b.head && same_subject a.selector b.selector)
      (and_from (same_text a.text b.text) (same_text a.name b.name) ((bytes_decides a.text b.text).1 e.0) ((bytes_decides a.name b.name).1 e.1))
      (and_from (same_head a.head b.head) (same_subject a.selector b.selector) ((head_decides a.head b.head).1 e.2) ((subject_decides a.selector b.selector).1 e.3)),
)

abbrev label : Option (List ℕ) → Bool → Bool → Option SelectorParts → List ℕ → Bool → List ℕ → ℕ → Label
label head rule changed selector name important text number =
    record { head = head; rule = rule; changed = changed; selector = selector; name = name; important = important; text = text; number = number }

pub label_decides : (a b : Label) → Decides (same_label a b) (a ≡ b)
label_decides a b = (
  λ same. let w = and_parts (same_marks a b) (same_lists a b) same in
      let m = (marks_decide a b).0 w.0 in
      let l = (lists_decide a b).0 w.1 in
      ap (λ (x : Option (List ℕ)). label x a.rule a.changed a.selector a.name a.important a.text a.number) l.2
      ∙ ap (λ (x : Bool). label b.head x a.changed a.selector a.name a.important a.text a.number) m.0
      ∙ ap (λ (x : Bool). label b.head b.rule x a.selector a.name a.important a.text a.number) m.1
      ∙ ap (λ (x : Option SelectorParts). label b.head b.rule b.changed x a.name a.important a.text a.number) l.3
      ∙ ap (λ (x : List ℕ). label b.head b.rule b.changed b.selector x a.important a.text a.number) l.1
      ∙ ap (λ (x : Bool). label b.head b.rule b.changed b.selector b.name x a.text a.number) m.2
      ∙ ap (λ (x : List ℕ). label b.head b.rule b.changed b.selector b.name b.important x a.number) l.0
      ∙ ap (λ (x : ℕ). label b.head b.rule b.changed b.selector b.name b.important b.text x) m.3,
  λ e. and_from (same_marks a b) (same_lists a b)
      ((marks_decide a b).1 (ap (λ (x : Label). x.rule) e, ap (λ (x : Label). x.changed) e, ap (λ (x : Label). x.important) e, ap (λ (x : Label). x.number) e))
      ((lists_decide a b).1 (ap (λ (x : Label). x.text) e, ap (λ (x : Label). x.name) e, ap (λ (x : Label). x.head) e, ap (λ (x : Label). x.selector) e)),
)
