use Rattle.std.proofs.Common.{◌++◌, [], ◌∙◌, ℕ, ap, arith}
use Rattle.attr_values.specs.Value.{words_then}
use Rattle.attr_values.proofs.Ends.{push_words_end}
use Rattle.attr_values.proofs.value.push_words.Goals as goal

pub returns : goal.returns
returns c =
    c.in_ok-push-2.ensures.items ∙
    push_words_end c.args.out.now.items c.loop-word.out.items c.args.words.now c.loop-word.word-index c.args.f c.free_space-w.result c.if-is_empty.ensures (omega arith) (search (c.loop-word.invariant, c.in_ok-push.ensures.items)) ∙
    ap (λ (w : ℕ). c.args.out.now.items ++ words_then c.args.f w c.args.words.now []) c.free_space-w.ensures
