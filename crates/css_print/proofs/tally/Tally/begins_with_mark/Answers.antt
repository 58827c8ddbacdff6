use Rattle.std.proofs.Common.{ap, ◌∙◌}
use Rattle.css_print.specs.declared.tally.Tally.{Tally}
use Rattle.css_print.specs.Fronts.{is_mark}
use Rattle.css_print.proofs.Marks.{mark_starts}
use Rattle.css_print.proofs.tally.Tally.begins_with_mark.Goals as goal

pub returns : goal.returns
returns c = λ text is. c.is_mark.ensures ∙ ap (λ (t : Tally). is_mark t.front) is ∙ mark_starts text
