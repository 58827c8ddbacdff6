use Rattle.std.proofs.lemmas.List.Elements.{All-set}
use Rattle.step_obstacles.proofs.known.put.Goals as goal
use Rattle.step_obstacles.specs.Known.{IsEntry}

pub returns-then-slot-len : goal.returns-then-slot-len
returns-then-slot-len c = λ w all is. All-set (IsEntry w) c.args.known.now.entries.items c.args.slot c.args.entry is all
