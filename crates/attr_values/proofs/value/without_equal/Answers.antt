use Rattle.std.proofs.Common.{◌≡◌, ◌∙◌, ℕ, List, Option, Bor, ap, subst}
use Rattle.std.specs.Prelude.{MatchOption}
use Rattle.attr_values.specs.Asked.{asked, is_dash}
use Rattle.attr_values.specs.Value.{first_passing, spaced}
use Rattle.attr_values.proofs.Ends.{words_tried, dash_tried}
use Rattle.attr_values.proofs.value.without_equal.Goals as goal

pub returns-then-is_of_words : goal.returns-then-is_of_words
returns-then-is_of_words c =
    words_tried c.args.tests.now c.new.result c.requires c.if-is_of_words.ensures
    (c.new.ensures ∙ c.in_ok-codes.ensures ∙ ap spaced (c.as_slice.ensures.value ∙ c.in_ok-words.ensures))

pub returns-in-Some : goal.returns-in-Some
returns-in-Some c =
    dash_tried c.args.tests.now c.in-Some.v.now c.new-in-Some.result c.requires c.if-is_of_words.ensures
    (subst
    (λ (o : Option (Bor (List ℕ))). MatchOption o
    ((other : List ℕ) → first_passing c.args.tests.now (asked is_dash c.args.tests.now) other ≡ other)
    (λ v. (other : List ℕ) → first_passing c.args.tests.now (asked is_dash c.args.tests.now) other ≡ v.now))
    c.in-Some.is c.in_ok-v.ensures)
    (c.new-in-Some.ensures ∙ c.in_ok-codes-in-Some.ensures.items)
