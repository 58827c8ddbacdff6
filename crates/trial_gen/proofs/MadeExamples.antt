-- The first draws and sheets. The draws are those that the C standard's example gives from 1 on.
use Rattle.std.proofs.Common.{◌≡◌, [], ◌∷◌, map, refl}
use Rattle.std.specs.Prelude.{codes}
use Rattle.std.specs.Fmt.{digits}
use Rattle.trial_gen.specs.Draws.{draw}
use Rattle.trial_gen.specs.Made.{made_sheet, rule_text}

first_draws : map draw (1 ∷ 2 ∷ 3 ∷ 4 ∷ 5 ∷ 6 ∷ []) ≡ 16838 ∷ 5758 ∷ 10113 ∷ 17515 ∷ 31051 ∷ 5627 ∷ []
first_draws = refl

no_rule : made_sheet 0 ≡ []
no_rule = refl

one_rule : made_sheet 1 ≡ codes ".c38{margin:4px}"
unfolding digits
one_rule = refl

three_rules : made_sheet 3 ≡ codes ".c38{margin:4px}.c33>.d{margin-left:3px}.c11{margin-left:1px}"
unfolding digits
three_rules = refl

-- the shortest selector and the longest
no_class : rule_text 40 0 ≡ codes ".c0{top:0px}"
unfolding digits
no_class = refl

long_rule : rule_text 39 19 ≡ codes ".c39>.d{margin-left:4px}"
unfolding digits
long_rule = refl
