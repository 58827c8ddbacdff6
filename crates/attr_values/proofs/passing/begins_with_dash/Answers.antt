use Rattle.std.proofs.Common.{◌∙◌, ℕ, List, [], ◌∷◌, ◌++◌, Some, None, ap, sym}
use Rattle.std.proofs.lemmas.Bool.Decides.{Decides-eqb}
use Rattle.std.proofs.lemmas.Slice.Eq.{strip_prefix_is}
use Rattle.css_model.specs.Lists.{begins_with}
use Rattle.attr_values.proofs.Decisions.{dash_behind, no_dash}
use Rattle.attr_values.proofs.passing.begins_with_dash.Goals as goal

pub returns-in-Some : goal.returns-in-Some
returns-in-Some c =
    c.starts_with_dash.ensures ∙
    sym (ap (λ (t : List ℕ). begins_with t (c.args.v.now ++ 0x2D ∷ [])) (strip_prefix_is Decides-eqb c.args.text.now c.args.v.now (Some c.in-Some.rest) c.in-Some.ensures.cases) ∙
    dash_behind c.args.v.now c.in-Some.rest.now (0x2D ∷ []))

pub returns-in-None : goal.returns-in-None
returns-in-None c = sym (no_dash c.args.text.now c.args.v.now (0x2D ∷ []) (strip_prefix_is Decides-eqb c.args.text.now c.args.v.now None c.in-None.ensures.cases))
