-- How large the parts of a pair's formula are.
use Rattle.std.specs.Prelude.{ℕ, ◌≡◌, ◌<◌, ◌≤◌, suc, length}
use Rattle.css_model.specs.Documents.SelectorParts.{SelectorParts}
use Rattle.css_model.specs.Sheets.Limits.{max_compounds}
use Rattle.sibling_clauses.specs.declared.numbering.Numbering.{Numbering}

-- how many digits a number of siblings has at most
abbrev pub max_digits : ℕ
max_digits = 25

-- the numbers of the last compounds, and how many digits the numbers of siblings have
pub record IsSmall (g : Numbering) : Type 0 where
  pub left : g.left < max_compounds
  pub right : g.right < max_compounds
  pub digits : g.digits ≤ max_digits

-- a selector whose last compound has this number has a combinator between each two compounds
pub record IsWhole (x : SelectorParts) (last : ℕ) : Type 0 where
  pub chain : length x.chain ≡ suc last
  pub links : length x.links ≡ last
