use Rattle.next_step.proofs.too_late.by_weights.is_known_once.Goals as goal

pub returns : goal.returns
returns c = λ known r at. (c.weight_at.ensures r at).once known
