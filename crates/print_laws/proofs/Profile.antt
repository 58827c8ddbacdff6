-- The printed text of a selector of a source is read as this selector.
use Rattle.std.proofs.Common.{ℕ, ◌≤◌, ◌≡◌, nat_lt, Bool, true, false, cond, List, [], ◌∷◌, map, length, None, Result, Ok, Err, refl, sym, ◌∙◌, ap, arith}
use Rattle.std.specs.List.{AllByRecursion}
use Rattle.std.proofs.lemmas.Bool.{ltb-false}
use Rattle.std.proofs.lemmas.List.{append-nil}
use Rattle.css_model.specs.declared.fault.SheetFault.{SheetFault}
use Rattle.css_model.specs.declared.limits.TheConstants.{MAX_BYTES}
use Rattle.css_model.specs.declared.sheet.Item.{Item}
use Rattle.css_model.specs.declared.sheet.Item.TheVariants.{Rule, KeptRule, KeptBlock}
use Rattle.css_model.specs.declared.sheet.SelItem.{SelItem}
use Rattle.css_model.specs.declared.token.Lexeme.{Lexeme}
use Rattle.css_model.specs.Selectors.Profile.{IsInProfile}
use Rattle.css_model.specs.Selectors.Reading.{selector_of, selector_of_lexemes, selector_of_terms, unless_fault}
use Rattle.css_model.specs.Selectors.Terms.{terms}
use Rattle.css_model.specs.Sheets.Limits.{max_bytes}
use Rattle.css_model.specs.Sheets.Printed.{printed_selector}
use Rattle.css_model.specs.Sheets.PrintedSelector.{selector_text}
use Rattle.css_model.specs.Sheets.Sheet.{sheet_of}
use Rattle.css_model.specs.Sheets.Sound.{IsSoundItem, IsSoundSelector}
use Rattle.css_model.specs.Sheets.Spelling.{lexemes_of, stands_in, tokens_in}
use Rattle.css_model.specs.Text.Kept.{Solid, solid}
use Rattle.css_model.specs.Text.Lexemes.{lexemes}
use Rattle.css_model.specs.Text.Tokens.{Parts, parts, stream_of, tokens}
use Rattle.css_tokens.proofs.ForCallers.{lexed_are_parts}
use Rattle.token_laws.specs.Solids.{solids}
use Rattle.token_laws.proofs.ForCallers.{solids_are_lexemes}
use Rattle.selector_text_laws.specs.Back.{back}
use Rattle.selector_text_laws.specs.Text.{IsSelectorIn, IsSelectorText}
use Rattle.selector_text_laws.proofs.ForCallers.{selector_texts_are_lexed, selector_texts_are_short}
use Rattle.print_laws.specs.Profile.{HasSelectorsInProfile, PrintedSelectorsAreRead, SelectorsAreInProfile}
use Rattle.print_laws.proofs.Back.Parts.{SoundSelector, sound-selector}
use Rattle.print_laws.proofs.Back.Sheet.{clean-of, ground-of}
use Rattle.print_laws.proofs.Length.Items.{total_filter}
use Rattle.print_laws.proofs.Length.Parts.{kept_size}
use Rattle.print_laws.proofs.Length.Room.{fits_weights, weight}
use Rattle.print_laws.proofs.Length.Sheet.{HasRoom, has_room}
use Rattle.print_laws.proofs.Source.Items.{Ground}
use Rattle.print_laws.proofs.Tokens.Selectors.{selector-in}

-- a source that is read is not too long
sheet-size : (source : List ℕ) (its : List Item) → sheet_of source ≡ Ok its → length source ≤ MAX_BYTES
sheet-size source its e = which (nat_lt MAX_BYTES (length source)) refl _ _ e
  where
    which : (long : Bool) → nat_lt MAX_BYTES (length source) ≡ long → (f : SheetFault) (r : Result (List Item) SheetFault) → cond long (Err f) r ≡ Ok its → length source ≤ MAX_BYTES
    which true is f r e = absurd cc
    which false is f r e = ltb-false MAX_BYTES (length source) is

-- a selector of a source that is read
module _ (source : List ℕ) (old : List Item) (e : sheet_of source ≡ Ok old) (s : SelItem) (sound : IsSoundSelector source s) where
  g : Ground source
  g = ground-of source old e

  found : SoundSelector source s
  found = sound-selector source g s sound

  abbrev xs : List Lexeme
  xs = tokens_in source s.piece

  abbrev ss : List Solid
  ss = map (solid source) xs

  abbrev text : List ℕ
  text = selector_text ss

  inside : IsSelectorIn g.parts.ps (length found.part.before) (length xs) ss s.selector
  inside = selector-in source g.parts.ps (record { lexed = g.parts.lexed; solids = g.parts.spelled }) s found.of found.part

  -- the parts that spell its text with nothing behind them
  alone : IsSelectorText text (back ss) []
  alone = selector_texts_are_lexed g.parts.ps (length found.part.before) (length xs) ss s.selector inside [] tt tt refl

  parts-are : parts text ≡ record { parts = alone.parts; flaw = None }
  parts-are = ap parts (sym (alone.spells ∙ append-nil text)) ∙ lexed_are_parts alone.parts alone.lexed

  clean : (tokens text false).fault ≡ None
  clean = ap (λ (p : Parts). (stream_of 0 false p).fault) parts-are

  solids-are : map (solid text) (lexemes (tokens text false).tokens) ≡ back ss
  solids-are = solids_are_lexemes text 0 ∙ ap (λ (p : Parts). solids p.parts) parts-are ∙ alone.reads ∙ append-nil (back ss)

  text-reads : selector_of text ≡ Ok s.selector
  text-reads =
      ap (λ f. unless_fault f (selector_of_lexemes text (lexemes (tokens text false).tokens))) clean
      ∙ ap (λ (ts : List Solid). selector_of_terms (terms ts)) solids-are ∙ found.of.again.reads

  text-size : length text ≤ max_bytes
  text-size =
      let room : HasRoom source (tokens source true) = has_room source (clean-of source old e).clean in
      let limit : MAX_BYTES ≡ max_bytes = refl in
      omega (
        arith,
        limit,
        sheet-size source old e,
        selector_texts_are_short g.parts.ps (length found.part.before) (length xs) ss s.selector inside,
        kept_size source xs,
        total_filter (weight source) (stands_in s.piece) (lexemes_of source),
        fits_weights source room.from (lexemes_of source) (length source) room.fits,
      )

pub printed-selectors : PrintedSelectorsAreRead
printed-selectors source old s e sound = (text-reads source old e s sound, text-size source old e s sound)

in-profile : (source : List ℕ) (old : List Item) → sheet_of source ≡ Ok old → (ss : List SelItem) → AllByRecursion (IsSoundSelector source) ss
    → AllByRecursion (λ s. IsInProfile s.selector) ss
in-profile source old e [] each = tt
in-profile source old e (s ∷ ss) (one, each) =
    let read = printed-selectors source old s e one in
    (record { text = printed_selector source s; short = read.1; reads = read.0 }, in-profile source old e ss each)

item-selectors : (source : List ℕ) (old : List Item) → sheet_of source ≡ Ok old → (item : Item) → IsSoundItem source item → HasSelectorsInProfile item
item-selectors source old e (Rule r) sound = in-profile source old e r.selectors sound.selectors
item-selectors source old e (KeptRule k) sound = tt
item-selectors source old e (KeptBlock piece) sound = tt

pub selectors-in-profile : SelectorsAreInProfile
selectors-in-profile source old [] e each = tt
selectors-in-profile source old (item ∷ new) e (one, each) = (item-selectors source old e item one, selectors-in-profile source old new e each)
