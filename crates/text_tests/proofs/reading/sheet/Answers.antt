use Rattle.text_tests.proofs.reading.sheet.Goals as goal

pub returns-clause-sound : goal.returns-clause-sound
returns-clause-sound g c = c.read_is_sound.ensures c.args.source.now c.read.result.items c.read.ensures
