-- That selectors, declarations and pairs are the same exactly where they are equal.
use Rattle.std.proofs.Common.{◌≡◌, Bool, sym, ap, ap₂}
use Rattle.std.specs.Bool.{Decides}
use Rattle.std.specs.Cmp.{IsEquivalence, decided}
use Rattle.std.proofs.lemmas.Bool.{and_parts, and_from}
use Rattle.css_model.proofs.ForCallers.{decl_decides, selector_decides}
use Rattle.css_model.specs.declared.sheet.Decl.{Decl}
use Rattle.css_model.specs.Cascade.Order.{Pair}
use Rattle.css_model.specs.Documents.SelectorParts.{SelectorParts}
use Rattle.order_laws.specs.Members.{same_selector, same_decl, same_pair}

pub pair_decides : (p q : Pair) → Decides (same_pair p q) (p ≡ q)
pair_decides p q = (
  λ same. let w = and_parts (same_selector p.selector q.selector) (same_decl p.decl q.decl) same in
      ap₂ (λ (s : SelectorParts) (d : Decl). record { selector = s; decl = d }) ((selector_decides p.selector q.selector).0 w.0) ((decl_decides p.decl q.decl).0 w.1),
  λ e. and_from (same_selector p.selector q.selector) (same_decl p.decl q.decl)
      ((selector_decides p.selector q.selector).1 (ap (λ (x : Pair). x.selector) e)) ((decl_decides p.decl q.decl).1 (ap (λ (x : Pair). x.decl) e)),
)

module _ {X : Type 0} (same : X → X → Bool) (decides : (x y : X) → Decides (same x y) (x ≡ y)) where
  -- the other way round
  pub turned_decides : (x y : X) → Decides (same y x) (x ≡ y)
  turned_decides x y = (λ h. sym ((decides y x).0 h), λ e. (decides y x).1 (sym e))

  pub turned_laws : IsEquivalence (λ x y. same y x)
  turned_laws = decided (λ x y. same y x) turned_decides
