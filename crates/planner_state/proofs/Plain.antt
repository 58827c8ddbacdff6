-- Declarations that are printed as long as their parts tell.
use Rattle.std.proofs.Common.{◌≡◌, ℕ, List, [], ◌∷◌, ◌++◌, length, inl, inr, subst}
use Rattle.std.specs.List.{Contains}
use Rattle.std.proofs.lemmas.List.Elements.{Contains-append_cases}
use Rattle.css_model.specs.declared.sheet.DeclItem.{DeclItem}
use Rattle.css_model.specs.Sheets.Printed.{printed_declaration}
use Rattle.list_facts.proofs.Members.{Contains-cons_cases, Contains-nil}
use Rattle.step_queue.specs.RuleWeights.{ArePlain, told_length}

pub both_plain : (source : List ℕ) (ds es : List DeclItem) → ArePlain source ds → ArePlain source es → ArePlain source (ds ++ es)
both_plain source ds es first second d h = elim (Contains-append_cases ds es d h) [ inl g ↦ first d g | inr g ↦ second d g ]

pub none_plain : (source : List ℕ) (rest : List DeclItem) → rest ≡ [] → ArePlain source rest
none_plain source rest is d h = absurd (Contains-nil d (subst (λ (ds : List DeclItem). Contains ds d) is h))

pub one_plain : (source : List ℕ) (rest behind : List DeclItem) (first : DeclItem) → rest ≡ first ∷ behind → length (printed_declaration source first) ≡ told_length first.decl → ArePlain source behind → ArePlain source rest
one_plain source rest behind first is plain others d h = elim (Contains-cons_cases first behind d (subst (λ (ds : List DeclItem). Contains ds d) is h)) [
  | inl e ↦ subst (λ (x : DeclItem). length (printed_declaration source x) ≡ told_length x.decl) e plain
  | inr g ↦ others d g
]
