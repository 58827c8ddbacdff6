use Rattle.next_step.proofs.Later.{late_covers}
use Rattle.next_step.proofs.by_declarations.is_passed.Goals as goal

pub returns-then-is_without_room : goal.returns-then-is_without_room
returns-then-is_without_room c = λ _. c.is_without_room.ensures c.if-is_without_room.true

pub returns-then-is_poor : goal.returns-then-is_poor
returns-then-is_poor c = λ _. c.is_poor.ensures c.if-is_poor.true

pub returns : goal.returns
returns c = λ known k by first last. late_covers c.args.view.now c.args.found.now k (c.is_light.ensures known k by first last)
