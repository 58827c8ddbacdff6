use Rattle.std.proofs.Common.{◌∙◌, sym}
use Rattle.selector_laws.proofs.Reason.ToldTerms.{refusals_stand}
use Rattle.selector_laws.proofs.refusals.refusals_stand_at_their_tokens.Goals as goal

pub returns : goal.returns
returns c = record {
  stand = refusals_stand;
  none = λ source part reason selector refused derived keeps.
      absurd (let apart = sym refused ∙ (c.selectors_are_read_exactly.ensures source part selector).1 (derived, keeps) in cc);
}
