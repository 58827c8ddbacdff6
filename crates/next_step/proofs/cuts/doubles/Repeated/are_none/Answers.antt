use Rattle.std.proofs.lemmas.List.{nil_from_length}
use Rattle.next_step.proofs.Repeats.{none_inside}
use Rattle.next_step.proofs.cuts.doubles.Repeated.are_none.Goals as goal

pub returns-in-Some : goal.returns-in-Some
returns-in-Some c = λ known digest. (c.in-Some.digests, c.in-Some.is, none_inside c.in-Some.digests (nil_from_length c.in-Some.digests.keys (c.is_empty.ensures.0 known)) digest)
