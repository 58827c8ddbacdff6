use Rattle.std.proofs.Common.{sym, ◌∙◌}
use Rattle.std.proofs.lemmas.List.{length-map}
use Rattle.sheet_order.specs.Laws.{answer_seen}
use Rattle.step_obstacles.proofs.held.count_answers.Goals as goal

pub returns : goal.returns
returns c = c.held.ensures ∙ sym (length-map c.args.pairs.now.answers answer_seen)
