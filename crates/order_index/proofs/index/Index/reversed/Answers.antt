use Rattle.std.proofs.Common.{◌∙◌, sym, subst}
use Rattle.std.specs.List.{AllByRecursion}
use Rattle.order_index.proofs.Listing.{listed_for}
use Rattle.order_index.proofs.index.Index.reversed.Goals as goal
use Rattle.order_index.specs.Afterwards.{after, edit_at}
use Rattle.sheet_order.proofs.ForCallers.{all_narrow}
use Rattle.sheet_order.specs.Narrow.{IsNarrow}

pub narrow_all-requires : goal.narrow_all-requires
narrow_all-requires c =
    subst (AllByRecursion IsNarrow) (sym (c.deref.ensures.value ∙ c.in_ok-found.ensures))
    (all_narrow c.parts_are_few.ensures c.listed_is_reversed.ensures c.args.self.now (after c.args.self.now c.args.step.now) (edit_at c.args.self.now c.args.step.now).moved c.requires.planned)

pub returns : goal.returns
returns c = listed_for c.narrow_all.result (λ list. list.items) c.args.self.now c.args.step.now c.deref.result.now (c.deref.ensures.value ∙ c.in_ok-found.ensures) c.narrow_all.ensures
