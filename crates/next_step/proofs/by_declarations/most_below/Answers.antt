use Rattle.std.proofs.Common.{◌+◌, ◌<◌, ◌^◌, ℕ, Option, Some, None, sym, subst}
use Rattle.std.specs.Prelude.{IfSome, SomeIff}
use Rattle.step_queue.specs.Heaviest.{AreNotHeavier}
use Rattle.next_step.specs.Late.{ByDeclsSaveAtMost}
use Rattle.next_step.proofs.DeclWeights.{all_below, own_below}
use Rattle.next_step.proofs.by_declarations.most_below.Goals as goal

pub returns-then-focus : goal.returns-then-focus
returns-then-focus c =
    own_below c.args.view.now.source.now c.args.view.now.indexed.now.items c.requires.view.plannable.sound c.heaviest-heaviest.result (subst (AreNotHeavier c.args.view.now.source.now c.args.view.now.indexed.now.items) (sym c.heaviest-heaviest.ensures) c.requires.view.weighed.all) c.args.focus.now.number (c.requires.focus.own_selectors c.if-focus.true)

pub returns : goal.returns
returns c = which c.checked_add.result c.checked_add.ensures
  where
    which : (sum : Option ℕ) → SomeIff sum (c.heaviest-heaviest.result.decls + c.heaviest-heaviest.result.selectors < 2 ^ 64) (c.heaviest-heaviest.result.decls + c.heaviest-heaviest.result.selectors) →
        IfSome sum (λ most. (lower : ℕ) → ByDeclsSaveAtMost c.args.view.now.source.now c.args.view.now.indexed.now.items c.args.focus.now.number lower most)
    which (Some most) (fits, is) = all_below c.args.view.now.source.now c.args.view.now.indexed.now.items c.requires.view.plannable.sound c.heaviest-heaviest.result (subst (AreNotHeavier c.args.view.now.source.now c.args.view.now.indexed.now.items) (sym c.heaviest-heaviest.ensures) c.requires.view.weighed.all) c.args.focus.now.number most is
    which None none = tt
