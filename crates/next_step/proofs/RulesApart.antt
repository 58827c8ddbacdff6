-- Rules without a common selector.
use Rattle.std.proofs.Common.{◌≡◌, ℕ, List, Some, subst}
use Rattle.std.specs.Prelude.{slice_get}
use Rattle.css_model.specs.declared.sheet.Item.{Item}
use Rattle.css_model.specs.declared.sheet.Item.TheVariants.{Rule}
use Rattle.css_model.specs.Sheets.RuleParts.{RuleParts}
use Rattle.step_savings.specs.Apart.{AreApart, RulesApart}
use Rattle.next_step.proofs.Rules.{one_rule}

pub apart_turned : (items : List Item) (n m : ℕ) → RulesApart items n m → RulesApart items m n
apart_turned items n m apart = λ q r at at' s a b. apart r q at' at s b a

pub turned : (r q : RuleParts) → AreApart r q → AreApart q r
turned r q apart = λ s a b. apart s b a

-- two rules that are apart are those of their numbers
pub apart_there : (items : List Item) (n m : ℕ) (r q : RuleParts) → slice_get items n ≡ Some (Rule r) → slice_get items m ≡ Some (Rule q) → AreApart r q → RulesApart items n m
apart_there items n m r q at at' apart r' q' there there' =
    subst (λ (p : RuleParts). AreApart p q') (one_rule items n r r' at there) (subst (λ (p : RuleParts). AreApart r p) (one_rule items m q q' at' there') apart)
