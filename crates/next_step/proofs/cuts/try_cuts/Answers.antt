use Rattle.std.proofs.Common.{length, refl}
use Rattle.step_laws.specs.declared.step.Step.TheVariants.{CutDecl}
use Rattle.next_step.proofs.Looking.{all_cuts, grows_both, kept_covers, none_cut}
use Rattle.next_step.proofs.Owned.{decl_inside, selector_inside}
use Rattle.next_step.proofs.cuts.try_cuts.Goals as goal

pub returns-clause-grows : goal.returns-clause-grows
returns-clause-grows c = grows_both c.args.view.now c.args.found.now c.try_decl_cuts.new.found c.try_selector_cuts.new.found c.in_ok-some_decl.ensures.grows c.in_ok-some_selector.ensures.grows

pub returns-clause-covers : goal.returns-clause-covers
returns-clause-covers c = all_cuts c.args.view.now c.try_selector_cuts.new.found c.args.focus.now.number (length c.args.focus.now.rule.now.decls) (length c.args.focus.now.rule.now.selectors)
    (λ i less. kept_covers c.args.view.now c.try_decl_cuts.new.found c.try_selector_cuts.new.found c.in_ok-some_selector.ensures.grows (CutDecl c.args.focus.now.number i) (c.in_ok-some_decl.ensures.covers i less))
    c.in_ok-some_selector.ensures.covers
    (decl_inside c.args.view.now.indexed.now.items c.args.focus.now.number (length c.args.focus.now.rule.now.decls) c.args.focus.now.rule.now c.requires.focus.rule refl)
    (selector_inside c.args.view.now.indexed.now.items c.args.focus.now.number (length c.args.focus.now.rule.now.selectors) c.args.focus.now.rule.now c.requires.focus.rule refl)

pub returns-clause-none : goal.returns-clause-none
returns-clause-none c = λ known. none_cut c.args.view.now.indexed.now.items c.args.focus.now.number (length c.args.focus.now.rule.now.decls) (length c.args.focus.now.rule.now.selectors)
    (c.in_ok-some_decl.ensures.none (c.either.ensures.one known)) (c.in_ok-some_selector.ensures.none (c.either.ensures.other known))
    (decl_inside c.args.view.now.indexed.now.items c.args.focus.now.number (length c.args.focus.now.rule.now.decls) c.args.focus.now.rule.now c.requires.focus.rule refl)
    (selector_inside c.args.view.now.indexed.now.items c.args.focus.now.number (length c.args.focus.now.rule.now.selectors) c.args.focus.now.rule.now c.requires.focus.rule refl)
