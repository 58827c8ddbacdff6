use Rattle.std.proofs.Common.{arith}
use Rattle.doc_text.proofs.Features.{see_more}
use Rattle.doc_text.proofs.line.see_texts.Goals as goal

pub loop-rest-preserved : goal.loop-rest-preserved
loop-rest-preserved c = λ rest. c.loop-rest.invariant (see_more c.loop-rest.rest.now _ _ (omega (arith, c.in-len1-up.len_at_least)) c.see.ensures c.see-in-len1-up.ensures rest)

pub returns : goal.returns
returns c = c.loop-rest.invariant (λ k d less. absurd (omega (arith, less, c.in_default.len_below)))
