use Rattle.std.proofs.Common.{List, subst, sym}
use Rattle.css_model.specs.declared.sheet.SelItem.{SelItem}
use Rattle.indexed_sheet.proofs.parts.with_copies.Goals as goal
use Rattle.indexed_sheet.specs.Putting.{HaveNoneInCommon}

pub all_selectors-requires : goal.all_selectors-requires
all_selectors-requires c = λ known. subst (λ (items : List SelItem). HaveNoneInCommon c.args.selectors.items items) (sym c.in_ok-copies.ensures) (c.requires known)
