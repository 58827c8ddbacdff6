use Rattle.std.proofs.Common.{◌∙◌, refl, subst, sym, arith}
use Rattle.std.specs.Prelude.{codes}
use Rattle.attr_values.specs.Separators.{HasUnused}
use Rattle.compound_fit.specs.Attributes.{tests_of}
use Rattle.compound_fit.proofs.AnswerParts.{names_more, plain_here, solved_here, solved_more}
use Rattle.compound_fit.proofs.answers.all_answers.Goals as goal

pub answer-requires-clause-unused : goal.answer-requires-clause-unused
answer-requires-clause-unused c = subst HasUnused (sym (c.as_slice.ensures.value ∙ c.in_ok-group.ensures)) (c.requires.unused c.name-item.result)

pub answer-requires-clause-ids : goal.answer-requires-clause-ids
answer-requires-clause-ids c = plain_here c.name-item.result c.is_id.result c.as_slice.result.now c.args.tests.now c.is_id.ensures (c.as_slice.ensures.value ∙ c.in_ok-group.ensures) c.requires.ids

pub loop-name-preserved : goal.loop-name-preserved
loop-name-preserved c =
    let name = c.name-item.result in
    record {
      names =
          names_more c.as_slice-name-items.result.now c.loop-name.name-index name c.in-Ok.fits c.loop-name.answers.items c.push_answer.new.answers.items (omega arith) c.name-item.is c.in_ok-push_answer.ensures
          c.loop-name.invariant.names;
      solved =
          solved_more c.args.tests.now name c.in-Ok.fits c.loop-name.answers.items c.push_answer.new.answers.items c.in_ok-push_answer.ensures c.loop-name.invariant.solved
          (solved_here name (codes "id") c.in-Ok.fits c.is_id.result c.as_slice.result.now (tests_of name c.args.tests.now) refl c.is_id.ensures (c.as_slice.ensures.value ∙ c.in_ok-group.ensures) c.in-Ok.ensures);
    }
