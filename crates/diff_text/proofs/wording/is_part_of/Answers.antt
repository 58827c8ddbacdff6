use Rattle.std.proofs.Common.{◌∙◌, ℕ, List, [], ◌∷◌, ◌++◌, Some, None, ap, sym}
use Rattle.std.proofs.lemmas.Bool.Decides.{Decides-eqb}
use Rattle.std.proofs.lemmas.Slice.Eq.{strip_prefix_is}
use Rattle.css_model.specs.Lists.{begins_with}
use Rattle.diff_text.proofs.Fronts.{no_front, past_front}
use Rattle.diff_text.proofs.wording.is_part_of.Goals as goal

pub returns-in-Some : goal.returns-in-Some
returns-in-Some c =
    c.begins_with_dash.ensures
    ∙ sym (ap (λ (t : List ℕ). begins_with t (c.args.whole.now ++ 0x2D ∷ [])) (strip_prefix_is Decides-eqb c.args.name.now c.args.whole.now (Some c.in-Some.rest) c.in-Some.ensures.cases)
    ∙ past_front c.args.whole.now c.in-Some.rest.now (0x2D ∷ []))

pub returns-in-None : goal.returns-in-None
returns-in-None c = sym (no_front c.args.name.now c.args.whole.now (0x2D ∷ []) (strip_prefix_is Decides-eqb c.args.name.now c.args.whole.now None c.in-None.ensures.cases))
