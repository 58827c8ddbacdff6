use Rattle.std.proofs.Common.{ℕ, List, ◌++◌, ◌∙◌, ◌-◌, ap, length, take, drop}
use Rattle.attr_values.specs.Value.{more_words}
use Rattle.attr_values.proofs.Ends.{spaced_end}
use Rattle.attr_values.proofs.value.spaced.Goals as goal

pub returns-in_ok-push_more-in-len1-up : goal.returns-in_ok-push_more-in-len1-up
returns-in_ok-push_more-in-len1-up c =
    spaced_end c.args.words.now c.first-item.result c.push_more.new.out.items c.in-len1-up.len_at_least c.first-item.is
    (c.in_ok-push_more-in-len1-up.ensures ∙ ap (λ (t : List ℕ). t ++ more_words (take (length c.args.words.now - 1) (drop 1 c.args.words.now)))
    (c.in_ok-extend_from_slice-in-len1-up.ensures.items ∙ ap (λ (t : List ℕ). t ++ c.codes.result.now) c.new-out.ensures.items ∙ c.codes.ensures.value))
