use Rattle.std.proofs.Common.{ℕ, Option, Some, None}
use Rattle.std.specs.Prelude.{IfSome}
use Rattle.next_step.specs.Late.{CommonWeighsAtMost, LeavesOfSelectors}
use Rattle.next_step.proofs.Weights.{all_weigh, apart_weigh}
use Rattle.next_step.proofs.too_late.by_parts.without_common.Goals as goal

pub returns-then-partners : goal.returns-then-partners
returns-then-partners c = apart_weigh c.args.view.now.source.now c.args.view.now.indexed.now.items c.args.partners.now.upper c.args.partners.now.lower c.args.most (c.requires.partners.apart c.if-partners.true)

pub returns : goal.returns
returns c = which c.left_of_selectors.result c.left_of_selectors.ensures
  where
    which : (left : Option ℕ) → IfSome left (λ n. LeavesOfSelectors c.args.view.now.source.now c.args.view.now.indexed.now.items c.args.partners.now.lower c.args.most n) →
        IfSome left (λ n. CommonWeighsAtMost c.args.view.now.source.now c.args.view.now.indexed.now.items c.args.partners.now.upper c.args.partners.now.lower n c.args.most)
    which (Some n) leaves = all_weigh c.args.view.now.source.now c.args.view.now.indexed.now.items c.args.partners.now.upper c.args.partners.now.lower n c.args.most leaves
    which None leaves = tt
