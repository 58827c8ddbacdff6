-- Items that are made of those that a source was read as.
use Rattle.std.specs.Prelude.{ℕ, ◌+◌, ◌≡◌, ◌≤◌, ◌⊎◌, ⊤, List, [], ◌∷◌, Ok, length}
use Rattle.css_model.specs.Sheets.Limits.{max_bytes, max_items, max_pairs}
use Rattle.css_model.specs.declared.sheet.Item.{Item}
use Rattle.css_model.specs.declared.sheet.Item.TheVariants.{Rule, KeptRule, KeptBlock}
use Rattle.css_model.specs.Sheets.Printed.{printed}
use Rattle.css_model.specs.Sheets.Sheet.{pairs_of, sheet_of}
use Rattle.css_model.specs.Sheets.Sound.{IsSound}
use Rattle.css_model.specs.Sheets.Spelling.{AreSame}

-- how many pairs of a selector and a declaration the style rules have together
abbrev pub pair_count : List Item → ℕ
pair_count [] = 0
pair_count (item ∷ items) = pairs_of item + pair_count items

-- Items of which the kept ones are those of others, in their order, with rules only where a rule stood.
abbrev pub Follows : List Item → List Item → Type 0
Follows [] [] = ⊤
Follows (item ∷ new) [] = ⊥
Follows [] ((Rule r) ∷ old) = Follows [] old
Follows [] ((KeptRule k) ∷ old) = ⊥
Follows [] ((KeptBlock p) ∷ old) = ⊥
Follows ((Rule q) ∷ new) ((Rule r) ∷ old) = Follows new ((Rule r) ∷ old) ⊎ Follows ((Rule q) ∷ new) old
Follows ((KeptRule j) ∷ new) ((Rule r) ∷ old) = Follows ((KeptRule j) ∷ new) old
Follows ((KeptBlock o) ∷ new) ((Rule r) ∷ old) = Follows ((KeptBlock o) ∷ new) old
Follows ((Rule q) ∷ new) ((KeptRule k) ∷ old) = ⊥
Follows ((KeptRule j) ∷ new) ((KeptRule k) ∷ old) = (j ≡ k) × Follows new old
Follows ((KeptBlock o) ∷ new) ((KeptRule k) ∷ old) = ⊥
Follows ((Rule q) ∷ new) ((KeptBlock p) ∷ old) = ⊥
Follows ((KeptRule j) ∷ new) ((KeptBlock p) ∷ old) = ⊥
Follows ((KeptBlock o) ∷ new) ((KeptBlock p) ∷ old) = (o ≡ p) × Follows new old

-- The items `new` are made of those that a source was read as: each of their parts is one of the
-- source, the kept items are the same and in their places between the rules, and they are no more than
-- a sheet may have.
pub record ComesFrom (source : List ℕ) (old new : List Item) : Type 0 where
  pub sound : IsSound source new
  pub follows : Follows new old
  pub few_items : length new ≤ max_items
  pub few_pairs : pair_count new ≤ max_pairs
