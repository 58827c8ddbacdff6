use Rattle.std.proofs.Common.{◌∙◌, ap}
use Rattle.mixing.specs.Mixer.{mixed, write}
use Rattle.mixing.proofs.mixer.MixerHasher.write_u8.Goals as goal

pub returns : goal.returns
unfolding write
returns c = c.mix.ensures ∙ ap (mixed c.args.self.now) c.from.ensures
