-- What applies, what outranks and what wins, in the words of CSS Cascading 3, sections 5 and 6.
use Rattle.std.specs.Prelude.{◌≡◌, ◌⊎◌, ◌↔◌, ◌<◌, true, false, IsTrue, List, None, Some, IfSome, slice_get}
use Rattle.std.specs.List.{All, Contains}
use Rattle.css_model.specs.declared.sheet.DeclItem.{DeclItem}
use Rattle.css_model.specs.declared.sheet.Item.{Item}
use Rattle.css_model.specs.declared.sheet.Item.TheVariants.{Rule}
use Rattle.css_model.specs.declared.sheet.SelItem.{SelItem}
use Rattle.css_model.specs.Cascade.Winner.{Declared, AppliedDeclaration, applied, Understood, is_understood, outranks, outcome, winner, IsLater}
use Rattle.css_model.specs.Documents.Document.{Document, Target}
use Rattle.css_model.specs.Documents.Matching.{Matches}
use Rattle.css_model.specs.Sheets.RuleParts.{RuleParts}
use Rattle.css_model.specs.Documents.Specificity.{specificity_of}
use Rattle.css_model.specs.Sheets.KeptItems.{is_kept, kept_before}

-- An entry that a rule applies, in words: at its item's number stands a rule, at its position one of
-- the rule's declarations, and one of the rule's selectors matches (CSS Cascading 3, section 5).
pub record AppliesByRule (doc : Document) (target : Target) (items : List Item) (e : AppliedDeclaration) : Type 0 where
  pub rule : RuleParts
  pub decl : DeclItem
  pub selector : SelItem
  pub rule_at : slice_get items e.place.item ≡ Some (Rule rule)
  pub decl_at : slice_get rule.decls e.place.position ≡ Some decl
  pub selector_in : Contains rule.selectors selector
  pub matching : Matches doc target selector.selector
  pub decl_is : e.decl ≡ decl.decl
  pub specificity_is : e.specificity ≡ specificity_of selector.selector

-- An entry that a kept item applies: at its item's number stands a kept item, and at its position
-- one of the entries that this item is said to mean (own).
pub record AppliesByKept (meanings : List (List Declared)) (items : List Item) (e : AppliedDeclaration) : Type 0 where
  pub item : Item
  pub meaning : List Declared
  pub declared : Declared
  pub item_at : slice_get items e.place.item ≡ Some item
  pub kept : is_kept item ≡ true
  pub meaning_at : slice_get meanings (kept_before e.place.item items) ≡ Some meaning
  pub declared_at : slice_get meaning e.place.position ≡ Some declared
  pub decl_is : e.decl ≡ declared.decl
  pub specificity_is : e.specificity ≡ declared.specificity

-- the list of what applies has exactly these
abbrev pub AppliedIsWhatApplies : Type 0
AppliedIsWhatApplies = (doc : Document) (target : Target) (meanings : List (List Declared)) (items : List Item) (e : AppliedDeclaration) →
    Contains (applied doc target meanings items) e ↔ (AppliesByRule doc target items e ⊎ AppliesByKept meanings items e)

-- The order of the cascade in words (CSS Cascading 3, section 6): importance, then specificity, then
-- order of appearance.
abbrev pub IsMoreImportant : AppliedDeclaration → AppliedDeclaration → Type 0
IsMoreImportant e f = (e.decl.important ≡ true) × (f.decl.important ≡ false)

abbrev pub IsMoreSpecific : AppliedDeclaration → AppliedDeclaration → Type 0
IsMoreSpecific e f = let s = e.specificity in let t = f.specificity in
    (t.a < s.a) ⊎ ((s.a ≡ t.a) × (t.b < s.b)) ⊎ ((s.a ≡ t.a) × (s.b ≡ t.b) × (t.c < s.c))

abbrev pub Outranks : AppliedDeclaration → AppliedDeclaration → Type 0
Outranks e f = IsMoreImportant e f
    ⊎ ((e.decl.important ≡ f.decl.important) × IsMoreSpecific e f)
    ⊎ ((e.decl.important ≡ f.decl.important) × (e.specificity ≡ f.specificity) × IsLater e.place f.place)

-- the test by ranks is that order
abbrev pub OutrankingIsDecided : Type 0
OutrankingIsDecided = (e f : AppliedDeclaration) → IsTrue (outranks e f) ↔ Outranks e f

-- an entry is understood where its name and value are listed
abbrev pub UnderstandingIsDecided : Type 0
UnderstandingIsDecided = (us : List Understood) (e : AppliedDeclaration) → IsTrue (is_understood us e) ↔ Contains us (record { name = e.decl.name; value = e.decl.value })

-- an applied entry that is understood, above which no other one stands
pub record IsGreatest (us : List Understood) (entries : List AppliedDeclaration) (e : AppliedDeclaration) : Type 0 where
  pub applied : Contains entries e
  pub understood : IsTrue (is_understood us e)
  pub greatest : All (λ f. IsTrue (is_understood us f) → outranks f e ≡ false) entries

-- The winner is a greatest applied entry that is understood, without its place.
abbrev pub WinnerIsGreatest : Type 0
WinnerIsGreatest = (doc : Document) (target : Target) (meanings : List (List Declared)) (items : List Item) (us : List Understood) →
    IfSome (winner doc target meanings items us) (λ w. (e : AppliedDeclaration) × IsGreatest us (applied doc target meanings items) e × (w ≡ outcome e))

-- Each greatest one is the winner.
abbrev pub GreatestIsWinner : Type 0
GreatestIsWinner = (doc : Document) (target : Target) (meanings : List (List Declared)) (items : List Item) (us : List Understood) (e : AppliedDeclaration) →
    IsGreatest us (applied doc target meanings items) e → winner doc target meanings items us ≡ Some (outcome e)

-- There is no winner exactly where nothing that applies is understood.
abbrev pub NoWinnerIsNoneUnderstood : Type 0
NoWinnerIsNoneUnderstood = (doc : Document) (target : Target) (meanings : List (List Declared)) (items : List Item) (us : List Understood) →
    (winner doc target meanings items us ≡ None) ↔ All (λ e. is_understood us e ≡ false) (applied doc target meanings items)
