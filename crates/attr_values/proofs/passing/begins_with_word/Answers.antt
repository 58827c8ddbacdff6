use Rattle.std.proofs.Common.{◌∙◌, ℕ, List, Some, None, ap, sym}
use Rattle.std.proofs.lemmas.Bool.Decides.{Decides-eqb}
use Rattle.std.proofs.lemmas.Slice.Eq.{strip_prefix_is}
use Rattle.css_model.specs.Documents.Attribute.{begins_with_word}
use Rattle.attr_values.proofs.Decisions.{word_behind, no_word}
use Rattle.attr_values.proofs.passing.begins_with_word.Goals as goal

pub returns-in-Some : goal.returns-in-Some
returns-in-Some c =
    c.starts_white.ensures ∙
    sym (ap (λ (t : List ℕ). begins_with_word t c.args.word.now) (strip_prefix_is Decides-eqb c.args.text.now c.args.word.now (Some c.in-Some.rest) c.in-Some.ensures.cases) ∙
    word_behind c.args.word.now c.in-Some.rest.now)

pub returns-in-None : goal.returns-in-None
returns-in-None c = sym (no_word c.args.text.now c.args.word.now (strip_prefix_is Decides-eqb c.args.text.now c.args.word.now None c.in-None.ensures.cases))
