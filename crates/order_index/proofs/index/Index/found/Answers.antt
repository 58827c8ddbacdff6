use Rattle.std.proofs.Common.{◌≡◌, List, ◌∙◌, sym, subst}
use Rattle.std.specs.List.{AllByRecursion}
use Rattle.css_model.specs.declared.sheet.Item.{Item}
use Rattle.order_index.proofs.Listing.{all_kept}
use Rattle.order_index.proofs.index.Index.found.Goals as goal
use Rattle.order_index.specs.Listed.{IsKeptAt}
use Rattle.order_laws.specs.Reversed.{kept_from}

pub entries-requires-clause-kept : goal.entries-requires-clause-kept
entries-requires-clause-kept c =
    let items_are : c.find_window-change.result.window.items.now ≡ c.self.inside.sheet.now.items = c.find_window-change.ensures.items in
    let kept_are : c.deref-2.result.now ≡ kept_from 0 c.self.inside.sheet.now.items = c.deref-2.ensures.value ∙ c.self.inside.kept_listed in
    subst (λ (xs : List Item). AllByRecursion (IsKeptAt xs) c.deref-2.result.now) (sym items_are) (subst (AllByRecursion (IsKeptAt c.self.inside.sheet.now.items)) (sym kept_are) (all_kept c.self.inside.sheet.now.items))
