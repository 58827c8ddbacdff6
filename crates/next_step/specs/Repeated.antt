-- Parts of a rule that may be in it more than once, by their digests (own).
use Rattle.std.specs.Prelude.{◌≡◌, ℕ, IfSome, IsTrue, List, Some, false}
use Rattle.std.specs.BTreeSet.{BTreeSet, contains}
use Rattle.std.specs.List.{AllPairs}
use Rattle.std.specs.Ordering.{nat_cmp}
use Rattle.css_model.specs.declared.sheet.DeclItem.{DeclItem}
use Rattle.css_model.specs.declared.sheet.SelItem.{SelItem}
use Rattle.css_model.specs.Sheets.RuleParts.{RuleParts}
use Rattle.next_step.specs.declared.cuts.doubles.Repeated.{Repeated}
use Rattle.rule_tables.specs.Digests.{decl_digest, selector_digest}

-- the set has each number that is in the list more than once
abbrev pub HasTwice : List ℕ → BTreeSet ℕ → Type 0
HasTwice numbers set = AllPairs (λ m n. m ≡ n → IsTrue (contains nat_cmp set m)) numbers

-- the set has the digest of each part that two elements of the list have
abbrev pub HasPartsTwice : {X Y : Type 0} → (X → Y) → (Y → ℕ) → List X → BTreeSet ℕ → Type 0
HasPartsTwice part digest xs set = AllPairs (λ x y. part x ≡ part y → IsTrue (contains nat_cmp set (digest (part x)))) xs

-- if digests are told, they are at least those of the selectors that are in the rule more than once; and so of declarations
abbrev pub RepeatsSelectors : Repeated → RuleParts → Type 0
RepeatsSelectors repeated r = IfSome repeated.digests (HasPartsTwice (λ (x : SelItem). x.selector) selector_digest r.selectors)

abbrev pub RepeatsDecls : Repeated → RuleParts → Type 0
RepeatsDecls repeated r = IfSome repeated.digests (HasPartsTwice (λ (x : DeclItem). x.decl) decl_digest r.decls)

-- digests are told, and this one is not among them
abbrev pub Lacks : Repeated → ℕ → Type 0
Lacks repeated digest = (set : BTreeSet ℕ) × (repeated.digests ≡ Some set) × (contains nat_cmp set digest ≡ false)
