use Rattle.style_text.proofs.Small.{read_is_small}
use Rattle.style_text.proofs.style.winners_of.Goals as goal

pub winners-requires-clause-small : goal.winners-requires-clause-small
winners-requires-clause-small c =
    read_is_small c.read_is_sound.ensures c.read_selectors_keep_the_limits.ensures c.args.source.now c.args.sheet.now.items c.requires.read
