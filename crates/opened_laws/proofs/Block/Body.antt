-- The printed text of a sheet that is made of parts of a body, before the `}` of a block.
use Rattle.std.proofs.Common.{◌≡◌, ℕ, suc, false, List, [], ◌∷◌, ◌++◌, map, length, Ok, sym, ◌∙◌, ap, subst, arith}
use Rattle.std.specs.List.{AllByRecursion, find, flat_map}
use Rattle.std.specs.Str.{IsUtf8}
use Rattle.std.proofs.lemmas.List.{append-nil, append_assoc}
use Rattle.css_model.specs.declared.sheet.Item.{Item}
use Rattle.css_model.specs.declared.sheet.Item.TheVariants.{Rule, KeptRule, KeptBlock}
use Rattle.css_model.specs.declared.token.Lexeme.{Lexeme}
use Rattle.css_model.specs.Sheets.ComesFrom.{ComesFrom}
use Rattle.css_model.specs.Sheets.Printed.{printed_item}
use Rattle.css_model.specs.Sheets.Sheet.{is_namespace, sheet_of}
use Rattle.css_model.specs.Sheets.Sound.{IsSoundItem, raw_items}
use Rattle.css_model.specs.Sheets.Spelling.{tokens_in}
use Rattle.css_model.specs.Text.Kept.{solid}
use Rattle.css_model.specs.Text.Lexemes.{piece_of}
use Rattle.css_model.specs.Text.Tokens.{Part, text_of}
use Rattle.css_tokens.specs.Lexed.{IsLexed}
use Rattle.token_laws.specs.Solids.{IsBehind, ends_called}
use Rattle.token_laws.proofs.ForCallers.{kept_parts}
use Rattle.list_facts.proofs.Cuts.{None_of}
use Rattle.list_facts.proofs.Elements.{all_with}
use Rattle.sheet_laws.proofs.ForCallers.{AreInOrder, IsFrom, find_none, in_order, item_shown, kept_shown, no_map, read_from, sheet_shown}
use Rattle.print_laws.proofs.ForCallers.{AreReadItems, Chain, IsFlatItem, IsReadItem, IsReadPiece, IsSpelledBy, IsTextOfItem, SoundItem, clean-of, each-append, ended-of, ground-of, item-lexed, kept-is-lexed, kept-parts, not-called, part-solids, parts-append, parts_of, sheet-chain, sheet-text, shown_text, sound-item, tested-of}

-- ---- what may stand last

-- Kept tokens that close what they open are read before what may stand behind them.
pub kept_before : (source : List ℕ) (ps : List Part) → IsSpelledBy source ps → (xs : List Lexeme) → IsReadPiece source xs → (rest : List Part) → IsLexed rest → IsBehind (text_of rest)
    → IsLexed (parts_of (kept_shown source xs) ++ rest)
kept_before source ps s xs read rest lexed behind =
    let are = part-solids source ps xs s read.part in
    let other : ends_called (map (solid source) xs) ≡ false = not-called source [] xs (λ ds e. absurd (let n : 0 ≡ suc (length ds) = ap length (sym read.ends ∙ e) in omega (arith, n))) in
    let here = kept-is-lexed false ps (length read.part.before) (length xs) s.lexed (ap ends_called (sym are) ∙ other) rest lexed behind in
    subst (λ parts. IsLexed (parts ++ rest)) (ap (kept_parts false) (sym are) ∙ kept-parts source xs read.lone) here

item_before : (source : List ℕ) (ps : List Part) → IsSpelledBy source ps → (item : Item) → IsReadItem source item → (rest : List Part) → IsLexed rest → IsBehind (text_of rest)
    → IsLexed (parts_of (item_shown source item) ++ rest)
item_before source ps s (Rule r) read rest lexed behind = item-lexed kept-is-lexed source ps s (Rule r) read tt rest lexed
item_before source ps s (KeptRule k) read rest lexed behind = kept_before source ps s (tokens_in source k.piece) read rest lexed behind
item_before source ps s (KeptBlock piece) read rest lexed behind = kept_before source ps s (tokens_in source piece) read rest lexed behind

sheet_before : (source : List ℕ) (ps : List Part) → IsSpelledBy source ps → (items : List Item) → AreReadItems source items → (rest : List Part) → IsLexed rest → IsBehind (text_of rest)
    → IsLexed (parts_of (sheet_shown source items) ++ rest)
sheet_before source ps s [] read rest lexed behind = lexed
sheet_before source ps s (item ∷ []) read rest lexed behind =
    subst (λ parts. IsLexed (parts ++ rest)) (ap parts_of (sym (append-nil (item_shown source item)))) (item_before source ps s item read rest lexed behind)
sheet_before source ps s (item ∷ next ∷ items) (read, ended, later) rest lexed behind =
    let more = sheet_shown source (next ∷ items) in
    subst IsLexed (sym (ap (λ parts. parts ++ rest) (parts-append (item_shown source item) more) ∙ append_assoc (parts_of (item_shown source item)) (parts_of more) rest))
    (item-lexed kept-is-lexed source ps s item read ended (parts_of more ++ rest) (sheet_before source ps s (next ∷ items) later rest lexed behind))

-- ---- a sheet of parts of a body

all_read : (source : List ℕ) (items : List Item) → AreInOrder source items → AllByRecursion (SoundItem source) items → AreReadItems source items
all_read source [] order each = tt
all_read source (item ∷ []) order (one, rest) = one.read
all_read source (item ∷ next ∷ items) (before, ended, order) (one, rest) = (one.read, ended-of source item ended, all_read source (next ∷ items) order rest)

all_utf8 : (source : List ℕ) (items : List Item) → AllByRecursion (SoundItem source) items → AllByRecursion (λ s. IsUtf8 s.bytes) (sheet_shown source items)
all_utf8 source [] each = tt
all_utf8 source (item ∷ items) (one, rest) = each-append (λ s. IsUtf8 s.bytes) (item_shown source item) (sheet_shown source items) one.utf8 (all_utf8 source items rest)

-- a sheet that is printed inside a block
pub record PrintedBody (body : List ℕ) (items : List Item) : Type 0 where
  pub from : AllByRecursion (IsFrom body) items
  pub chain : Chain [] (sheet_shown body items) []
  pub text : shown_text (sheet_shown body items) ≡ flat_map (printed_item body) items
  pub utf8 : AllByRecursion (λ s. IsUtf8 s.bytes) (sheet_shown body items)
  pub lexed : (rest : List Part) → IsLexed rest → IsBehind (text_of rest) → IsLexed (parts_of (sheet_shown body items) ++ rest)

pub printed_body : (body : List ℕ) (old new : List Item) → sheet_of body ≡ Ok old → ComesFrom body old new → PrintedBody body new
printed_body body old new e from =
    let tests = tested-of body old (clean-of body old e) in
    let g = ground-of body old e in
    let names : None_of (is_namespace body) (raw_items body) =
    find_none (is_namespace body) (raw_items body) (no_map (λ item. (piece_of item).start) (find (is_namespace body) (raw_items body)) tests.no_namespace) in
    let sheet = read_from body old g.good e in
    let order = in_order body new old from.follows sheet.order in
    let each = all_with (IsSoundItem body) (SoundItem body) (sound-item body g names) new from.sound in
    let spelled : IsSpelledBy body g.parts.ps = record { lexed = g.parts.lexed; solids = g.parts.spelled } in
    record {
      from = all_with (SoundItem body) (IsFrom body) (λ x h. h.from) new each;
      chain = sheet-chain body new (all_with (SoundItem body) (IsFlatItem body) (λ x h. h.flat) new each);
      text = sheet-text body new (all_with (SoundItem body) (IsTextOfItem body) (λ x h. h.text) new each);
      utf8 = all_utf8 body new each;
      lexed = sheet_before body g.parts.ps spelled new (all_read body new order each);
    }
