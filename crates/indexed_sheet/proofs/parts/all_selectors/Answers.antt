use Rattle.std.proofs.Common.{List, ◌++◌, ap, sym, ◌∙◌}
use Rattle.css_model.specs.declared.sheet.SelItem.{SelItem}
use Rattle.indexed_sheet.proofs.Apart.{all_new}
use Rattle.indexed_sheet.proofs.parts.all_selectors.Goals as goal

pub returns-then-apart : goal.returns-then-apart
returns-then-apart c =
    c.in_ok-append.ensures.items ∙ sym (ap (λ (more : List SelItem). c.args.upper.items ++ more) (all_new c.args.upper.items c.args.lower.items (c.requires c.if-apart.true)))
