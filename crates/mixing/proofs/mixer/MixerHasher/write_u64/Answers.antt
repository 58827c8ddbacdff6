use Rattle.std.proofs.Common.{◌∙◌, ap, rules, sym}
use Rattle.std.proofs.lemmas.Nat.{from_le_bytes-to_le_bytes_8}
use Rattle.std.specs.Hash.{le_bytes}
use Rattle.mixing.specs.Mixer.{mixed, write}
use Rattle.mixing.proofs.mixer.MixerHasher.write_u64.Goals as goal

pub returns : goal.returns
unfolding write le_bytes
returns c = c.mix.ensures ∙ ap (mixed c.args.self.now) (sym (from_le_bytes-to_le_bytes_8 c.args.i (search rules)))
