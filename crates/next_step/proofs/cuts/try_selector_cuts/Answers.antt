use Rattle.std.proofs.Common.{◌<◌, ◌≤◌, length, arith, subst}
use Rattle.std.proofs.lemmas.Bool.{false≢true}
use Rattle.css_model.specs.Sheets.Limits.{max_bytes}
use Rattle.css_model.specs.Sheets.RuleParts.{RuleParts}
use Rattle.rule_tables.specs.Losing.{HasSelectorOnce}
use Rattle.step_laws.specs.declared.step.Step.TheVariants.{CutSel}
use Rattle.next_step.proofs.Looking.{cut_more, grows_both, grows_itself, none_more}
use Rattle.next_step.proofs.NamedSteps.{rule_is_small}
use Rattle.next_step.proofs.Rules.{one_rule}
use Rattle.next_step.proofs.cuts.try_selector_cuts.Goals as goal

pub overflow_cast-count : goal.overflow_cast-count
overflow_cast-count c =
    let m : length c.args.focus.now.rule.now.selectors ≤ max_bytes = (rule_is_small c.parts_are_few.ensures c.args.view.now.source.now c.args.view.now.indexed.now.items c.requires.view.plannable c.args.focus.now.number c.args.focus.now.rule.now c.requires.focus.rule).1 in omega (arith, m)

pub loop-sel-init : goal.loop-sel-init
loop-sel-init c = record {
  grows = grows_itself c.args.view.now c.args.found.now;
  covers = λ i less. absurd (omega (arith, less));
  none = λ known i less. absurd (omega (arith, less));
}

pub try_cut-requires-clause-attempt : goal.try_cut-requires-clause-attempt
try_cut-requires-clause-attempt c = record {
  once = λ known r at. subst (λ (q : RuleParts). HasSelectorOnce q c.loop-sel.sel) (one_rule c.args.view.now.indexed.now.items c.args.focus.now.number c.args.focus.now.rule.now r c.requires.focus.rule at) (c.is_selector_once.ensures known);
  apart = λ known. absurd (false≢true known);
  past = λ known. absurd (false≢true known);
}

pub loop-sel-preserved : goal.loop-sel-preserved
loop-sel-preserved c = record {
  grows = grows_both c.args.view.now c.args.found.now c.loop-sel.found c.try_cut.new.found c.loop-sel.invariant.grows c.in_ok-has.ensures.grows;
  covers = cut_more c.args.view.now (CutSel c.args.focus.now.number) c.loop-sel.found c.try_cut.new.found c.loop-sel.sel c.in_ok-has.ensures.grows c.loop-sel.invariant.covers c.in_ok-has.ensures.covers;
  none = λ known. none_more c.args.view.now.indexed.now.items (CutSel c.args.focus.now.number) c.loop-sel.sel (c.loop-sel.invariant.none (c.either-some.ensures.one known)) (c.in_ok-has.ensures.none (c.either-some.ensures.other known));
}

pub returns-clause-covers : goal.returns-clause-covers
returns-clause-covers c = λ i less. c.loop-sel.invariant.covers i (let l : i < length c.args.focus.now.rule.now.selectors = less in omega (arith, l, c.selector_count-count.ensures))

pub returns-clause-none : goal.returns-clause-none
returns-clause-none c = λ known i less. c.loop-sel.invariant.none known i (let l : i < length c.args.focus.now.rule.now.selectors = less in omega (arith, l, c.selector_count-count.ensures))
