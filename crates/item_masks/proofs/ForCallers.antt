-- What masks tell, for callers.
use Rattle.std.proofs.Common.{◌≡◌, ℕ, zero, suc, true, not, List, [], ◌∷◌, Some, None, sym, ap, ◌∙◌, subst, inr}
use Rattle.std.specs.Prelude.{◌==◌, bit_and, slice_get}
use Rattle.std.proofs.lemmas.Bool.{and_from, ne_eqb}
use Rattle.std.proofs.lemmas.Nat.{and_comm}
use Rattle.cascade_laws.proofs.ForCallers.{some-same}
use Rattle.css_model.specs.Cascade.Family.{family_of}
use Rattle.css_model.specs.Cascade.Order.{HasPair, Pair}
use Rattle.css_model.specs.declared.sheet.Decl.{Decl}
use Rattle.css_model.specs.declared.sheet.DeclItem.{DeclItem}
use Rattle.css_model.specs.declared.sheet.Item.{Item}
use Rattle.css_model.specs.declared.sheet.Item.TheVariants.{Rule}
use Rattle.css_model.specs.declared.sheet.SelItem.{SelItem}
use Rattle.css_model.specs.Sheets.RuleParts.{RuleParts}
use Rattle.item_masks.proofs.SelectorBits.{selector_shows}
use Rattle.item_masks.specs.Masks.{item_mask, meets, pair_mask, selector_mask, with_selectors}
use Rattle.order_laws.proofs.ForCallers.{InRule, has_rule, map_from}
use Rattle.related_props.proofs.ForCallers.{related_shows}
use Rattle.related_props.specs.Masks as families

some_bits : (n : ℕ) → (n ≡ 0 → ⊥) → not (n == 0) ≡ true
some_bits n some = ap not (ne_eqb n 0 some)

rule_meets : (r : RuleParts) (p : Pair) → InRule r p → meets (item_mask (Rule r)) (pair_mask p) ≡ true
rule_meets r p (selector_in, decl_in) =
    let x = map_from (λ (z : DeclItem). z.decl) r.decls p.decl decl_in in
    let y = map_from (λ (z : SelItem). z.selector) r.selectors p.selector selector_in in
    let own = families.decl_mask p.decl in
    let all = families.item_mask (Rule r) in
    and_from (not (bit_and all own == 0)) (not (bit_and (with_selectors 0 r.selectors) (selector_mask p.selector) == 0))
    (some_bits (bit_and all own) (λ none. related_shows p.decl own r x.0 (λ i h. h) x.1 (inr (inr (ap (λ (d : Decl). family_of d.name) (sym x.2)))) (and_comm own all ∙ none)))
    (some_bits (bit_and (with_selectors 0 r.selectors) (selector_mask p.selector)) (selector_shows r.selectors y.0 p.selector y.1 y.2))

-- an item in which a pair stands is a rule
its_rule : (p : Pair) (item : Item) (h : HasPair (item ∷ []) p) → item ≡ Rule h.1.rule
its_rule p item h = which h.0.item h.1.rule_at
  where
    which : (n : ℕ) → slice_get (item ∷ []) n ≡ Some (Rule h.1.rule) → item ≡ Rule h.1.rule
    which zero at = some-same at
    which (suc n) at = let none : None ≡ Some (Rule h.1.rule) = at in cc

-- its mask meets that of the pair
pub stands_meets : (p : Pair) (item : Item) → HasPair (item ∷ []) p → meets (item_mask item) (pair_mask p) ≡ true
stands_meets p item h =
    let is = its_rule p item h in
    subst (λ (other : Item). meets (item_mask other) (pair_mask p) ≡ true) (sym is)
    (rule_meets h.1.rule p ((has_rule h.1.rule p).0 (subst (λ (other : Item). HasPair (other ∷ []) p) is h)))
