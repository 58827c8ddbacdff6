use Rattle.std.proofs.Common.{sym}
use Rattle.next_step.proofs.RulesApart.{apart_turned}
use Rattle.next_step.proofs.DeclWeights.{own_apart}
use Rattle.next_step.proofs.by_declarations.are_noted_apart.Goals as goal

pub returns-then-focus-clause-forth : goal.returns-then-focus-clause-forth
returns-then-focus-clause-forth c = λ known. own_apart c.args.view.now.indexed.now.items c.args.focus.now.number c.args.other c.requires.differ (c.requires.focus.own_selectors c.if-focus.true)

pub returns-then-focus-clause-back : goal.returns-then-focus-clause-back
returns-then-focus-clause-back c = λ known. apart_turned c.args.view.now.indexed.now.items c.args.focus.now.number c.args.other (own_apart c.args.view.now.indexed.now.items c.args.focus.now.number c.args.other c.requires.differ (c.requires.focus.own_selectors c.if-focus.true))

pub returns-clause-forth : goal.returns-clause-forth
returns-clause-forth c = λ known. apart_turned c.args.view.now.indexed.now.items c.args.other c.args.focus.now.number (own_apart c.args.view.now.indexed.now.items c.args.other c.args.focus.now.number (λ same. c.requires.differ (sym same)) (c.facts-theirs.ensures.own_selectors known))

pub returns-clause-back : goal.returns-clause-back
returns-clause-back c = λ known. own_apart c.args.view.now.indexed.now.items c.args.other c.args.focus.now.number (λ same. c.requires.differ (sym same)) (c.facts-theirs.ensures.own_selectors known)
