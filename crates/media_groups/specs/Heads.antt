-- What comes before the block of an item (own).
use Rattle.std.specs.Prelude.{ℕ, List, map}
use Rattle.std.specs.List.{before_first, join_with_byte}
use Rattle.css_model.specs.declared.sheet.Item.{Item}
use Rattle.css_model.specs.declared.sheet.Item.TheVariants.{Rule, KeptRule, KeptBlock}
use Rattle.css_model.specs.declared.sheet.Piece.{Piece}
use Rattle.css_model.specs.Sheets.Items.{opens_block}
use Rattle.css_model.specs.Sheets.Printed.{printed_selector}
use Rattle.css_model.specs.Sheets.Spelling.{tokens_in}
use Rattle.css_model.specs.Text.Characters.{comma}
use Rattle.css_model.specs.Text.Kept.{kept, solid}

-- the kept text of the tokens of a piece before its block, or of all of them if it has none
abbrev pub kept_head : List ℕ → Piece → List ℕ
kept_head source piece = kept (map (solid source) (before_first opens_block (tokens_in source piece)))

-- the printed selectors of a style rule with `,` between them; of what is kept the kept text before its block
abbrev pub head_text : List ℕ → Item → List ℕ
head_text source (Rule r) = join_with_byte comma (map (printed_selector source) r.selectors)
head_text source (KeptRule k) = kept_head source k.piece
head_text source (KeptBlock piece) = kept_head source piece
