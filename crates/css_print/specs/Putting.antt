-- How a selector is written term by term.
use Rattle.std.specs.Prelude.{ℕ, ◌+◌, ◌≡◌, ◌<◌, ◌≤◌, List, ◌++◌, length, map, Ok}
use Rattle.css_model.specs.declared.position.AnB.{AnB}
use Rattle.css_model.specs.Selectors.Terms.{terms_from}
use Rattle.css_model.specs.Selectors.Tokens.{selector_token}
use Rattle.css_model.specs.Sheets.Limits.{max_bytes}
use Rattle.css_model.specs.Sheets.PrintedSelector.{printed_from}
use Rattle.css_model.specs.Text.Kept.{Solid}
use Rattle.css_print.specs.declared.selector.Place.{Place}
use Rattle.selector_laws.specs.Positions.{positions_written}

-- the positions that are left are those written in the tokens that are left, of which there are not too many
pub record IsAt (place : Place) (ss : List Solid) (positions : List AnB) : Type 0 where
  pub written : positions_written place.behind_colon (terms_from place.depth 0 (map selector_token ss)) ≡ map Ok positions
  pub few : place.depth + length ss ≤ max_bytes

-- A text was written, and with what is to be written of the tokens that are left it is what was to be written before.
pub record TermPut (more : List ℕ → Type 0) (old : Place) (before : List Solid) (new : Place) (left : List Solid) (positions : List AnB) : Type 0 where
  pub text : List ℕ
  pub put : more text
  pub spells : text ++ printed_from new.depth 0 left ≡ printed_from old.depth 0 before
  pub at : IsAt new left positions
  pub shorter : length left < length before
