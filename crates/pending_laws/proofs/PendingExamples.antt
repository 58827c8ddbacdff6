-- A cut that is one of a sheet, and none behind another cut.
use Rattle.std.proofs.Common.{◌≡◌, ◌⊎◌, List, [], ◌∷◌, Some, None, refl, sym, subst, inl, inr, arith}
use Rattle.cascade_laws.proofs.ForCallers.{some-same, rule-same}
use Rattle.css_model.specs.declared.sheet.DeclItem.{DeclItem}
use Rattle.css_model.specs.declared.sheet.Item.{Item}
use Rattle.css_model.specs.declared.sheet.Item.TheVariants.{Rule}
use Rattle.css_model.specs.declared.sheet.SelItem.{SelItem}
use Rattle.css_model.specs.Cascade.Order.{Pair, HasPair}
use Rattle.css_model.specs.Sheets.RuleParts.{RuleParts}
use Rattle.list_facts.proofs.Members.{Contains-here}
use Rattle.order_laws.proofs.ForCallers.{has_append, has_rule}
use Rattle.order_laws.specs.Edits.{edited}
use Rattle.step_laws.specs.declared.step.Step.TheVariants.{CutDecl}
use Rattle.step_laws.specs.StepEdits.{cut_decl}
use Rattle.step_laws.specs.Steps.{IsStep}
use Rattle.pending_laws.specs.Behind.{GoesOn}

-- two rules that are alike, with a selector and a declaration each
module _ (s : SelItem) (d : DeclItem) where
  abbrev rule : RuleParts
  rule = record { selectors = s ∷ []; decls = d ∷ [] }

  abbrev sheet : List Item
  sheet = Rule rule ∷ Rule rule ∷ []

  -- what stands in both rules stands in each
  in_each : (p : Pair) → HasPair sheet p → HasPair (Rule rule ∷ []) p
  in_each p h = which ((has_append (Rule rule ∷ []) (Rule rule ∷ []) p).0 h)
    where
      which : HasPair (Rule rule ∷ []) p ⊎ HasPair (Rule rule ∷ []) p → HasPair (Rule rule ∷ []) p
      which (inl g) = g
      which (inr g) = g

  -- the declaration of either rule may be cut
  first_cut : IsStep sheet (CutDecl 0 0) (cut_decl 0 0 rule)
  first_cut = record { rule = rule; rule_at = refl; part = omega arith; no_pair_goes = in_each; is = refl }

  second_cut : IsStep sheet (CutDecl 1 0) (cut_decl 1 0 rule)
  second_cut = record { rule = rule; rule_at = refl; part = omega arith; no_pair_goes = in_each; is = refl }

  abbrev pair : Pair
  pair = record { selector = s.selector; decl = d.decl }

  in_rule : HasPair (Rule rule ∷ []) pair
  in_rule = (has_rule rule pair).1 (Contains-here s.selector [], Contains-here d.decl [])

  nowhere : HasPair [] pair → ⊥
  nowhere h = let e : None ≡ Some (Rule h.1.rule) = h.1.rule_at in cc

  -- but behind the one cut the other is none
  only_one : GoesOn sheet (cut_decl 0 0 rule) (CutDecl 1 0) (cut_decl 1 0 rule) → ⊥
  only_one on =
      let c = on.behind in
      let same : rule ≡ c.rule = rule-same (some-same c.rule_at) in
      nowhere (subst (λ (r : RuleParts). HasPair (edited (cut_decl 0 0 r) (Rule rule ∷ [])) pair) (sym same) (c.no_pair_goes pair in_rule))
