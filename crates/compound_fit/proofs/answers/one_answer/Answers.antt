use Rattle.std.proofs.Common.{◌∙◌, ℕ, List, [], ◌∷◌, ◌++◌, ap, subst, sym}
use Rattle.attr_values.specs.declared.solve.Fits.{Fits}
use Rattle.attr_values.specs.Separators.{HasUnused}
use Rattle.compound_fit.proofs.AnswerParts.{one_answers, one_refuses, plain_here}
use Rattle.compound_fit.proofs.NameParts.{tests_are_of}
use Rattle.compound_fit.proofs.answers.one_answer.Goals as goal

pub answer-requires-clause-ids : goal.answer-requires-clause-ids
answer-requires-clause-ids c = plain_here c.args.name.now c.is_id.result c.args.tests.now c.args.tests.now c.is_id.ensures (tests_are_of c.args.name.now c.args.tests.now c.requires.named) c.requires.ids

pub answer-requires-clause-unused : goal.answer-requires-clause-unused
answer-requires-clause-unused c = subst HasUnused (sym (tests_are_of c.args.name.now c.args.tests.now c.requires.named)) (c.requires.unused c.args.name.now)

pub returns-clause-ok : goal.returns-clause-ok
returns-clause-ok c =
    let name = c.args.name.now in
    let fits = c.in-Ok.fits in
    one_answers name fits c.is_id.result c.args.tests.now c.push_answer.new.answers.items c.is_id.ensures c.requires.named
    (c.in_ok-push_answer.ensures ∙ ap (λ (found : List (List ℕ × Fits)). found ++ (name, fits) ∷ []) c.in_ok-answers.ensures.items) c.in-Ok.ensures

pub returns-in-Err-clause-err : goal.returns-in-Err-clause-err
returns-in-Err-clause-err c = one_refuses c.args.name.now c.in-Err.e c.is_id.result c.args.tests.now c.is_id.ensures c.requires.named c.in-Err.ensures
