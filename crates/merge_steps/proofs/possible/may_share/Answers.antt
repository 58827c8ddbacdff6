use Rattle.std.proofs.lemmas.Bool.{false≢true}
use Rattle.merge_steps.proofs.possible.may_share.Goals as goal

pub returns-then-same : goal.returns-then-same
returns-then-same c =
    (λ h. absurd (false≢true h), λ may. absurd (may.other_selectors (c.in_ok-same.ensures.0 c.if-same.true)))
