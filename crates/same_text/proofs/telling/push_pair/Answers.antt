use Rattle.same_text.proofs.telling.push_pair.Goals as goal

pub print_pair-requires-clause-sound : goal.print_pair-requires-clause-sound
print_pair-requires-clause-sound c = c.read_is_sound.ensures c.args.of.now.source.now c.args.of.now.sheet.now.items c.args.of.now.read
