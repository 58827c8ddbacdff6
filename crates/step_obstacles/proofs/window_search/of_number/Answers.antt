use Rattle.std.proofs.Common.{arith}
use Rattle.std.proofs.lemmas.Option.{slice_get-get_or}
use Rattle.step_obstacles.proofs.Sources.{told_number}
use Rattle.step_obstacles.proofs.window_search.of_number.Goals as goal

pub returns-clause-told : goal.returns-clause-told
returns-clause-told c =
    told_number c.of_sources.new.pairs.answers c.args.window.now c.args.sources.now c.args.number _
    (slice_get-get_or c.args.window.now.items.now c.args.number c.index-window-number.result (omega arith)) c.of_sources.result c.of_sources.ensures.told
