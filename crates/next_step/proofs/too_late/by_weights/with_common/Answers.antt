use Rattle.std.proofs.Common.{◌+◌, ap₂}
use Rattle.next_step.proofs.LightRules.{none_common, some_common}
use Rattle.next_step.proofs.too_late.by_weights.with_common.Goals as goal
use Rattle.next_step.proofs.too_late.by_weights.with_common.Goals.{then-partners-via-then-partners, then-partners-via-else-partners+then-share_no_selector}

pub returns-then-partners : goal.returns-then-partners
returns-then-partners c = elim c.then-partners.branch [
  | then-partners-via-then-partners w ↦ none_common c.args.view.now.source.now c.args.view.now.indexed.now.items c.args.partners.now.upper c.args.partners.now.lower c.args.more c.from.result (c.requires.partners.apart w.if-partners.true) c.from.ensures
  | then-partners-via-else-partners+then-share_no_selector w ↦ none_common c.args.view.now.source.now c.args.view.now.indexed.now.items c.args.partners.now.upper c.args.partners.now.lower c.args.more c.from.result (w.share_no_selector.ensures w.if-share_no_selector.true) c.from.ensures
]

pub returns : goal.returns
returns c = some_common c.args.view.now.source.now c.args.view.now.indexed.now.items c.args.partners.now.upper c.args.partners.now.lower c.args.more c.args.below (c.from-2.result + c.from-3.result) c.requires.weighed (ap₂ (λ m n. m + n) c.from-2.ensures c.from-3.ensures)
