-- Laws on the forms of a command line.
use Rattle.std.specs.Prelude.{◌≡◌, ◌<◌, ◌↔◌, ℕ, true, false, List, [], ◌∷◌, Option, Some, None, codes}
use Rattle.command_words.specs.Forms.{Min, Cmp, Diff, form_of, is_operand, most_budget, most_limit, most_rules, usual_limit}
use Rattle.command_words.specs.declared.command.TheConstants.{MOST_BUDGET, MOST_LIMIT, MOST_RULES, USUAL_LIMIT}

-- exactly the one word `min` minifies with no budget and no work named, and no report asked for
abbrev pub MinIsOneWord : Type 0
MinIsOneWord = (words : List (List ℕ)) → (form_of words ≡ Some (Min None None false)) ↔ (words ≡ codes "min" ∷ [])

-- `cmp` and two words that do not begin with `-` compare them
abbrev pub CmpComparesTwoWords : Type 0
CmpComparesTwoWords = (left right : List ℕ) → is_operand left ≡ true → is_operand right ≡ true → form_of (codes "cmp" ∷ left ∷ right ∷ []) ≡ Some (Cmp left right None false)

-- the words of `diff` let it tell at least one couple
abbrev pub SomeMayBeTold : Type 0
SomeMayBeTold = (words : List (List ℕ)) (split : ℕ) (budget : Option ℕ) (limit : ℕ) → form_of words ≡ Some (Diff split budget limit) → 0 < limit

-- the greatest budget
abbrev pub MostBudgetIsDefined : Type 0
MostBudgetIsDefined = MOST_BUDGET ≡ most_budget

-- the greatest number of rules
abbrev pub MostRulesIsDefined : Type 0
MostRulesIsDefined = MOST_RULES ≡ most_rules

-- the most couples that a comparison may be asked to tell, and how many it tells where nothing is said
abbrev pub MostLimitIsDefined : Type 0
MostLimitIsDefined = MOST_LIMIT ≡ most_limit

abbrev pub UsualLimitIsDefined : Type 0
UsualLimitIsDefined = USUAL_LIMIT ≡ usual_limit
