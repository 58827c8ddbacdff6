-- A sound sheet that follows the one that was read is read back from its printed text.
use Rattle.std.proofs.Common.{◌≡◌, ℕ, Bool, true, false, cond, List, [], ◌∷◌, Option, Some, None, Result, Ok, Err, sym, ◌∙◌, ap, subst}
use Rattle.std.specs.List.{AllByRecursion, Contains}
use Rattle.std.specs.Str.{IsUtf8}
use Rattle.css_model.specs.declared.reason.Reason.{Reason}
use Rattle.css_model.specs.declared.sheet.DeclItem.{DeclItem}
use Rattle.css_model.specs.declared.sheet.Item.{Item}
use Rattle.css_model.specs.declared.sheet.Item.TheVariants.{Rule, KeptRule, KeptBlock}
use Rattle.css_model.specs.declared.sheet.Piece.{Piece}
use Rattle.css_model.specs.declared.sheet.SelItem.{SelItem}
use Rattle.css_model.specs.declared.token.Lexeme.{Lexeme}
use Rattle.css_model.specs.Sheets.KeptRuleParts.{KeptRuleParts}
use Rattle.css_model.specs.Sheets.Declarations.{declarations}
use Rattle.css_model.specs.Sheets.Selectors.{selectors}
use Rattle.css_model.specs.Sheets.Items.{is_at_rule}
use Rattle.css_model.specs.Text.Lexemes.{piece_of}
use Rattle.css_model.specs.Sheets.RuleParts.{RuleParts}
use Rattle.css_model.specs.Sheets.Sheet.{is_namespace, item_of, rule_or_block}
use Rattle.css_model.specs.Sheets.Sound.{IsSoundDeclaration, IsSoundItem, IsSoundRule, IsSoundSelector, raw_items}
use Rattle.css_model.specs.Sheets.Spelling.{lexemes_of, tokens_in}
use Rattle.list_facts.proofs.Cuts.{None_of}
use Rattle.sheet_laws.proofs.ForCallers.{StandsIn, kept_from, stand_alone_in, IsRawItem, IsFrom, IsOfItem, item_shown}
use Rattle.print_laws.proofs.Source.Items.{Ground, member}
use Rattle.print_laws.proofs.Levels.Items.{IsItemOf, IsPartOf}
use Rattle.print_laws.proofs.Tokens.Lexed.{IsReadItem, IsReadPiece}
use Rattle.print_laws.proofs.Levels.Brackets.{AreLeveled, open_behind}
use Rattle.print_laws.proofs.Levels.Sheet.{IsFlatItem}
use Rattle.print_laws.proofs.Back.Parts.{SoundDeclaration, SoundSelector, good-in, lone-in, sound-declaration, sound-selector}
use Rattle.print_laws.proofs.Tokens.Texts.{IsTextOfItem}
use Rattle.print_laws.proofs.Tokens.Utf8.{IsUtf8Declaration, kept-utf8, rule-utf8}

-- an item of a sound sheet
pub record SoundItem (source : List ℕ) (item : Item) : Type 0 where
  pub from : IsFrom source item
  pub flat : IsFlatItem source item
  pub text : IsTextOfItem source item
  pub read : IsReadItem source item
  pub utf8 : AllByRecursion (λ s. IsUtf8 s.bytes) (item_shown source item)

each-of : {A : Type 0} (P Q : A → Type 0) (xs : List A) → ((x : A) → P x → Q x) → AllByRecursion P xs → AllByRecursion Q xs
each-of P Q [] f each = tt
each-of P Q (x ∷ xs) f (one, rest) = (f x one, each-of P Q xs f rest)

sound-rule : (source : List ℕ) → Ground source → (r : RuleParts) → IsSoundRule source r → SoundItem source (Rule r)
sound-rule source g r sound =
    let selectors = each-of (IsSoundSelector source) (SoundSelector source) r.selectors (sound-selector source g) sound.selectors in
    let decls = each-of (IsSoundDeclaration source) (SoundDeclaration source) r.decls (sound-declaration source g) sound.decls in
    record {
      from = record {
        has_selectors = sound.has_selectors;
        has_declarations = sound.has_declarations;
        selectors = each-of (SoundSelector source) _ r.selectors (λ s h. h.of) selectors;
        decls = each-of (SoundDeclaration source) _ r.decls (λ d h. h.of) decls;
      };
      flat = record { selectors = each-of (SoundSelector source) _ r.selectors (λ s h. h.shown.chain) selectors; decls = each-of (SoundDeclaration source) _ r.decls (λ d h. h.flat) decls };
      text = (each-of (SoundSelector source) _ r.selectors (λ s h. h.shown.text) selectors, each-of (SoundDeclaration source) _ r.decls (λ d h. h.text) decls);
      read = record { selectors = each-of (SoundSelector source) _ r.selectors (λ s h. h.shown.read) selectors; decls = each-of (SoundDeclaration source) _ r.decls (λ d h. h.read) decls };
      utf8 = rule-utf8 source r (each-of (SoundSelector source) _ r.selectors (λ s h. h.shown.utf8) selectors)
          (each-of (SoundDeclaration source) (IsUtf8Declaration source) r.decls (λ d h. record { named = h.named; value = good-in source g d.value }) decls);
    }

-- a kept item by its tokens
record SoundPiece (source : List ℕ) (piece : Piece) : Type 0 where
  of : IsOfItem source piece
  leveled : AreLeveled [] (tokens_in source piece)
  ends : open_behind [] (tokens_in source piece) ≡ []
  part : IsPartOf (lexemes_of source) (tokens_in source piece)

sound-piece : (source : List ℕ) → Ground source → None_of (is_namespace source) (raw_items source) → (xs : List Lexeme) (piece : Piece) → Contains (raw_items source) xs → piece_of xs ≡ piece → SoundPiece source piece
sound-piece source g names xs piece inside is =
    let item = member (IsItemOf (lexemes_of source)) (raw_items source) xs g.items inside in
    let raw = member (IsRawItem (lexemes_of source)) (raw_items source) xs g.raw.each inside in
    let name = member (λ item. is_namespace source item ≡ false) (raw_items source) xs names inside in
    let stands : StandsIn (lexemes_of source) xs = raw.is_item.stands in
    let alone : tokens_in source piece ≡ xs = ap (tokens_in source) (sym is) ∙ stand_alone_in source g.good xs stands in
    record {
      of = subst (IsOfItem source) is (kept_from source g.good xs raw name);
      leveled = subst (AreLeveled []) (sym alone) item.leveled;
      ends = ap (open_behind []) alone ∙ item.ends;
      part = subst (IsPartOf (lexemes_of source)) (sym alone) (record { before = item.before; behind = item.behind; are = item.are });
    }

kept-sound : (source : List ℕ) → Ground source → (item : Item) (piece : Piece) → SoundPiece source piece → IsOfItem source piece × (IsReadPiece source (tokens_in source piece))
kept-sound source g item piece p = (p.of, record { part = p.part; ends = p.ends; lone = lone-in source g piece })

-- the piece of a kept rule is that of its item
kept-piece : (source : List ℕ) (xs : List Lexeme) (k : KeptRuleParts) → item_of source xs ≡ Some (KeptRule k) → piece_of xs ≡ k.piece
kept-piece source xs k e = which (is_at_rule xs) (selectors source xs) (declarations source xs) e
  where
    piece_or : Piece → Option Item → Piece
    piece_or p (Some (KeptRule k)) = k.piece
    piece_or p _ = p

    which : (b : Bool) (read : Result (List SelItem) Reason) (ds : Option (List DeclItem)) → cond b (Some (KeptBlock (piece_of xs))) (rule_or_block (piece_of xs) read ds) ≡ Some (KeptRule k) → piece_of xs ≡ k.piece
    which true read ds e = absurd cc
    which false read None e = absurd cc
    which false (Err reason) (Some ds) e = ap (piece_or (piece_of xs)) e
    which false (Ok read) (Some []) e = absurd cc
    which false (Ok read) (Some (d ∷ ds)) e = absurd cc

pub sound-item : (source : List ℕ) → Ground source → None_of (is_namespace source) (raw_items source) → (item : Item) → IsSoundItem source item → SoundItem source item
sound-item source g names (Rule r) sound = sound-rule source g r sound
sound-item source g names (KeptRule k) sound =
    let p = sound-piece source g names sound.item k.piece sound.item_in (kept-piece source sound.item k sound.reads) in
    let both = kept-sound source g (KeptRule k) k.piece p in
    record { from = both.0; flat = record { leveled = p.leveled; ends = p.ends }; text = lone-in source g k.piece; read = both.1; utf8 = kept-utf8 source (tokens_in source k.piece) (good-in source g k.piece) }
sound-item source g names (KeptBlock piece) sound =
    let p = sound-piece source g names sound.item piece sound.item_in sound.stands in
    let both = kept-sound source g (KeptBlock piece) piece p in
    record { from = both.0; flat = record { leveled = p.leveled; ends = p.ends }; text = lone-in source g piece; read = both.1; utf8 = kept-utf8 source (tokens_in source piece) (good-in source g piece) }
