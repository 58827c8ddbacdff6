use Rattle.std.proofs.Common.{sym, subst}
use Rattle.css_model.specs.Text.Source.{IsWithin}
use Rattle.media_groups.proofs.Places.{body_within}
use Rattle.media_groups.proofs.opening.opened_rule.Goals as goal

pub text-requires : goal.text-requires
text-requires c =
    subst (IsWithin c.args.reading.now.source.now) (sym c.body_of-body.ensures)
    (body_within c.args.reading.now.source.now 0 c.tokens_in-item.result.now c.tokens_in-item.ensures.ascending c.tokens_in-item.ensures.placed)
