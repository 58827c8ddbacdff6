use Rattle.step_obstacles.proofs.PairAnswers.{kept_faced, pair_faced}
use Rattle.step_obstacles.proofs.answering.blocks.Goals as goal

pub returns-in-Pair-clause-told : goal.returns-in-Pair-clause-told
returns-in-Pair-clause-told c =
    pair_faced c.pairs_block.new.pairs.answers c.args.window.now c.args.p.now c.args.facing.now c.in-Pair.q c.in-Pair.field-1 c.in-Pair.field-2 c.in-Pair.is c.pairs_block.result c.pairs_block.ensures.told

pub returns-in-Kept-clause-told : goal.returns-in-Kept-clause-told
returns-in-Kept-clause-told c =
    kept_faced c.args.pairs.now.answers c.args.window.now c.args.p.now c.args.facing.now c.in-Kept.number c.in-Kept.is c.requires.faces c.is_known_kept_reversed.result c.is_known_kept_reversed.ensures.told
