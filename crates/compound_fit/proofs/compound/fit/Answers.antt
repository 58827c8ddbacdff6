use Rattle.std.proofs.Common.{◌≡◌, ◌++◌, List, [], ap₂, subst, sym, rules}
use Rattle.std.specs.Prelude.{option_copied}
use Rattle.css_model.specs.declared.selector.Simple.{Simple}
use Rattle.attr_values.specs.Separators.{HasUnused}
use Rattle.compound_fit.specs.Attributes.{attribute_tests, tests_of}
use Rattle.compound_fit.specs.Fitting.{simples_of}
use Rattle.compound_fit.proofs.compound.fit.Goals as goal

pub fit_both-requires-clause-unused : goal.fit_both-requires-clause-unused
fit_both-requires-clause-unused c = λ name.
    let first : c.as_slice.result.now ≡ c.args.x.now = search rules in
    let second : c.as_slice-in-Some.result.now ≡ simples_of (option_copied c.args.y) = search rules in
    subst (λ (simples : List Simple). HasUnused (tests_of name (attribute_tests simples))) (sym (ap₂ (λ (s t : List Simple). s ++ t) first second)) (c.requires.unused name)

pub fit_both-requires-in-None-clause-unused : goal.fit_both-requires-in-None-clause-unused
fit_both-requires-in-None-clause-unused c = λ name.
    let first : c.as_slice-in-None.result.now ≡ c.args.x.now = search rules in
    let second : [] ≡ simples_of (option_copied c.args.y) = search rules in
    subst (λ (simples : List Simple). HasUnused (tests_of name (attribute_tests simples))) (sym (ap₂ (λ (s t : List Simple). s ++ t) first second)) (c.requires.unused name)
