use Rattle.std.proofs.Common.{ℕ, List, ◌++◌, ◌∙◌, ap}
use Rattle.attr_values.specs.Value.{start_text}
use Rattle.attr_values.proofs.Ends.{built_end}
use Rattle.attr_values.proofs.value.built_with.Goals as goal

pub returns : goal.returns
returns c =
    built_end c.args.tests.now c.args.words.now c.args.f (start_text c.longest_start.result.value.now c.longest_start.result.dash) c.longest_asked.result.now
    c.push_start.new.out.items c.push.new.self.items c.push_parts.new.out.items c.push_words.new.out.items c.extend_from_slice.new.self.items
    c.requires c.longest_start.ensures c.longest_asked.ensures
    (c.in_ok-push_start.ensures ∙ ap (λ (t : List ℕ). t ++ start_text c.longest_start.result.value.now c.longest_start.result.dash) c.new-out.ensures.items)
    c.in_ok-push.ensures.items c.in_ok-push_parts.ensures c.in_ok-push_words.ensures c.in_ok-extend_from_slice.ensures.items
