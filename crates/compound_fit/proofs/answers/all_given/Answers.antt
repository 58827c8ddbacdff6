use Rattle.std.proofs.Common.{[]}
use Rattle.compound_fit.specs.Attributes.{given_one}
use Rattle.compound_fit.proofs.AnswerParts.{pairs_more, texts_more}
use Rattle.compound_fit.proofs.answers.all_given.Goals as goal

pub loop-name-preserved : goal.loop-name-preserved
loop-name-preserved c =
    let old = c.loop-name.pairs.items in
    let new = c.push_given.new.pairs.items in
    record {
      pairs = pairs_more c.loop-name.yielded (c.in-Some.name, c.in-Some.fits) old new c.in_ok-push_given.ensures.pair c.loop-name.invariant.pairs;
      texts = texts_more old (given_one c.in-Some.name c.in-Some.fits []) new c.in_ok-push_given.ensures.pair c.loop-name.invariant.texts c.in_ok-push_given.ensures.texts;
    }
