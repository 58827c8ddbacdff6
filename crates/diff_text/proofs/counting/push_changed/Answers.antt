use Rattle.std.proofs.Common.{ℕ, ◌++◌, sym, ap, ◌∙◌}
use Rattle.std.specs.Prelude.{decimal}
use Rattle.std.proofs.lemmas.List.Sums.{length-filter}
use Rattle.std.proofs.lemmas.Result.{on_ok_weaker}
use Rattle.diff_text.proofs.counting.push_changed.Goals as goal

pub returns : goal.returns
returns c =
    on_ok_weaker c.push_count.result
    (λ pushed. pushed ∙ ap (λ (n : ℕ). c.args.out.now.items ++ (c.args.text.now ++ decimal n)) (c.changed_count.ensures.exact ∙ sym (length-filter (λ x. x.mine.label.changed) c.args.commons.now)))
    c.push_count.ensures
