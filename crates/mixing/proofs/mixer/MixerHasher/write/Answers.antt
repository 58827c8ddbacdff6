use Rattle.std.proofs.Common.{◌∙◌, ap, rules, sym}
use Rattle.mixing.specs.Mixer.{mixed}
use Rattle.mixing.proofs.Writes.{eight, four, others}
use Rattle.mixing.proofs.mixer.MixerHasher.write.Goals as goal

pub returns-in-4 : goal.returns-in-4
returns-in-4 c = c.mix.ensures ∙ ap (mixed c.args.self.now) c.number_of_four.ensures ∙ sym (four c.args.self.now c.args.bytes.now (search rules))

pub returns-in-8 : goal.returns-in-8
returns-in-8 c = c.mix-in-8.ensures ∙ ap (mixed c.args.self.now) c.number_of_eight.ensures ∙ sym (eight c.args.self.now c.args.bytes.now (search rules))

pub returns-in_default : goal.returns-in_default
returns-in_default c = c.mix_each.ensures ∙ sym (others c.args.self.now c.args.bytes.now (search rules) (search rules))
