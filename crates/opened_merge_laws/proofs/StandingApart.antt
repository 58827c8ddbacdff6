-- The bodies of opened blocks stand apart in their source.
use Rattle.std.proofs.Common.{◌≡◌, ℕ, suc, ◌+◌, ◌-◌, ◌≤◌, Bool, true, false, List, [], ◌∷◌, ◌++◌, length, drop, Option, Some, None, Result, Ok, Err, inl, inr, refl, sym, ap, ◌∙◌, subst, arith, length-append}
use Rattle.std.specs.Prelude.{if◌then◌else◌}
use Rattle.std.specs.List.{cons_option, list_any}
use Rattle.std.specs.Option.{IfSome, option_map}
use Rattle.std.proofs.lemmas.List.{length-take}
use Rattle.css_model.specs.declared.reason.Reason.{Reason}
use Rattle.css_model.specs.declared.sheet.DeclItem.{DeclItem}
use Rattle.css_model.specs.declared.sheet.Item.{Item}
use Rattle.css_model.specs.declared.sheet.Item.TheVariants.{Rule, KeptRule, KeptBlock}
use Rattle.css_model.specs.declared.sheet.Piece.{Piece}
use Rattle.css_model.specs.declared.sheet.SelItem.{SelItem}
use Rattle.css_model.specs.declared.token.Lexeme.{Lexeme}
use Rattle.css_model.specs.Sheets.Declarations.{declarations}
use Rattle.css_model.specs.Sheets.Items.{closes_block, is_at_rule, opens_block}
use Rattle.css_model.specs.Sheets.Printed.{behind_mark}
use Rattle.css_model.specs.Sheets.Selectors.{selectors}
use Rattle.css_model.specs.Sheets.Sheet.{is_import, item_of, read_items, rule_of, rule_or_block}
use Rattle.css_model.specs.Sheets.Sound.{raw_items}
use Rattle.css_model.specs.Sheets.Spelling.{lexemes_of, tokens_in}
use Rattle.css_model.specs.Text.Lexemes.{piece_of}
use Rattle.css_model.specs.Text.Source.{text_at}
use Rattle.media_groups.specs.declared.media.Media.{Media}
use Rattle.media_groups.specs.Opened.{body_end, body_of, is_import_item, is_media, media_of, opened_from, opened_item, opened_of, opened_rule, sheet_of_body}
use Rattle.opened_merge_laws.specs.Bodies.{OpenedBodiesStandApart, bytes_in}
use Rattle.opened_merge_laws.proofs.Lengths.{unmarked}
use Rattle.print_laws.proofs.ForCallers.{AreFilled, AreRaw, Fills, Fits, HasFilling, cost, fits_weights, has-filling}
use Rattle.sheet_laws.proofs.ForCallers.{IsRawItem}

passes : (source : List ℕ) (from : ℕ) (xs : List Lexeme) (to : ℕ) → Fits source from xs to → from ≤ to
passes source from xs to fits = omega (arith, fits_weights source from xs to fits)

-- ---- The body of a rule among its tokens

short_text : (source : List ℕ) (piece : Piece) → length (text_at source piece) ≤ piece.«end» - piece.start
short_text source piece = omega (arith, length-take (piece.«end» - piece.start) (drop piece.start source))

end_fits : (source : List ℕ) (at from to : ℕ) (xs : List Lexeme) → at ≤ from → Fits source from xs to → (at ≤ body_end at xs) × (body_end at xs ≤ to)
end_fits source at from to [] low fits = (omega arith, omega (arith, low, fits))
end_fits source at from to (x ∷ xs) low (stands, some, fits) =
    which (closes_block x) (end_fits source x.span.«end» (x.span.«end» + cost source x) to xs (omega arith) fits)
  where
    most : x.span.«end» + cost source x ≤ to
    most = passes source (x.span.«end» + cost source x) xs to fits

    which : (b : Bool) → (x.span.«end» ≤ body_end x.span.«end» xs) × (body_end x.span.«end» xs ≤ to) →
        (at ≤ (if b then x.span.start else body_end x.span.«end» xs)) × ((if b then x.span.start else body_end x.span.«end» xs) ≤ to)
    which true later = (omega (arith, low, stands), omega (arith, some, most))
    which false later = (omega (arith, low, stands, some, later.0), later.1)

body_fits : (source : List ℕ) (from to : ℕ) (xs : List Lexeme) → Fits source from xs to → from + length (text_at source (body_of xs)) ≤ to
body_fits source from to [] fits = omega (arith, fits, short_text source (record { start = 0; «end» = 0 }))
body_fits source from to (x ∷ xs) (stands, some, fits) =
    which (opens_block x) (body_fits source (x.span.«end» + cost source x) to xs fits)
  where
    behind : Piece
    behind = record { start = x.span.«end»; «end» = body_end x.span.«end» xs }

    which : (b : Bool) → (x.span.«end» + cost source x) + length (text_at source (body_of xs)) ≤ to → from + length (text_at source (if b then behind else body_of xs)) ≤ to
    which true later =
        let place = end_fits source x.span.«end» (x.span.«end» + cost source x) to xs (omega arith) fits in
        omega (arith, stands, some, place.0, place.1, short_text source behind)
    which false later = omega (arith, stands, some, later)

-- a text that begins with the first token, and goes on with the body
abbrev with_body : List ℕ → List Lexeme → List ℕ
with_body source [] = []
with_body source (x ∷ xs) = text_at source x.span ++ text_at source (body_of (x ∷ xs))

behind_first : (source : List ℕ) (to : ℕ) (x : Lexeme) (xs : List Lexeme) → Fits source (x.span.«end» + cost source x) xs to → x.span.«end» + length (text_at source (body_of (x ∷ xs))) ≤ to
behind_first source to x xs fits = which (opens_block x) (body_fits source (x.span.«end» + cost source x) to xs fits)
  where
    behind : Piece
    behind = record { start = x.span.«end»; «end» = body_end x.span.«end» xs }

    which : (b : Bool) → (x.span.«end» + cost source x) + length (text_at source (body_of xs)) ≤ to → x.span.«end» + length (text_at source (if b then behind else body_of xs)) ≤ to
    which true later =
        let place = end_fits source x.span.«end» (x.span.«end» + cost source x) to xs (omega arith) fits in
        omega (arith, place.0, place.1, short_text source behind)
    which false later = omega (arith, later)

with_body_fills : (source : List ℕ) (item : List Lexeme) → Fills source item (with_body source item)
with_body_fills source [] = record { size = λ from to fits. omega (arith, fits); begins = tt }
with_body_fills source (x ∷ xs) = record {
  size = λ from to fits.
      omega (arith, length-append (text_at source x.span) (text_at source (body_of (x ∷ xs))), short_text source x.span, fits.0, fits.1, behind_first source to x xs fits.2);
  begins = record { more = text_at source (body_of (x ∷ xs)); is = refl };
}

-- ---- Which item an opened block is

-- an item is read so, or kept as it stands
abbrev read_or_kept : List ℕ → Bool → List Lexeme → Option Item
read_or_kept source kept item = if kept then Some (KeptBlock (piece_of item)) else item_of source item

no_block : (piece p : Piece) (read : Result (List SelItem) Reason) (ds : List DeclItem) → rule_of piece read ds ≡ Some (KeptBlock p) → ⊥
no_block piece p (Err reason) ds is = cc
no_block piece p (Ok read) [] is = cc
no_block piece p (Ok read) (d ∷ ds) is = cc

same_piece : (piece p : Piece) → ◌≡◌ {A = Option Item} (Some (KeptBlock piece)) (Some (KeptBlock p)) → piece ≡ p
same_piece piece p is = cc

rule_piece : (piece p : Piece) (at : Bool) (read : Result (List SelItem) Reason) (ds : Option (List DeclItem)) → (if at then Some (KeptBlock piece) else rule_or_block piece read ds) ≡ Some (KeptBlock p) → piece ≡ p
rule_piece piece p true read ds is = same_piece piece p is
rule_piece piece p false read None is = same_piece piece p is
rule_piece piece p false read (Some ds) is = absurd (no_block piece p read ds is)

kept_piece : (source : List ℕ) (item : List Lexeme) (p : Piece) (kept : Bool) → read_or_kept source kept item ≡ Some (KeptBlock p) → piece_of item ≡ p
kept_piece source item p true is = same_piece (piece_of item) p is
kept_piece source item p false is = rule_piece (piece_of item) p (is_at_rule item) (selectors source item) (declarations source item) is

rule_body : (source : List ℕ) (number : ℕ) (item : List Lexeme) → IfSome (opened_rule source number item) (λ m. m.body ≡ body_of item)
rule_body source number item = which (is_media source item) (sheet_of_body (text_at source (body_of item)))
  where
    which : (b : Bool) (o : Option (List Item)) → IfSome (if b then option_map (media_of number item) o else None) (λ m. m.body ≡ body_of item)
    which true None = tt
    which true (Some items) = refl
    which false o = tt

by_tokens : (source : List ℕ) (number : ℕ) (item xs : List Lexeme) → xs ≡ item → IfSome (opened_rule source number xs) (λ m. m.body ≡ body_of item)
by_tokens source number item xs same = subst (λ (ys : List Lexeme). IfSome (opened_rule source number xs) (λ m. m.body ≡ body_of ys)) same (rule_body source number xs)

item_body : (source : List ℕ) (item : List Lexeme) → tokens_in source (piece_of item) ≡ item → (kept : Bool) (x : Item) → read_or_kept source kept item ≡ Some x → (number : ℕ) →
    IfSome (opened_item source number x) (λ m. m.body ≡ body_of item)
item_body source item alone kept (Rule r) is number = tt
item_body source item alone kept (KeptRule k) is number = tt
item_body source item alone kept (KeptBlock p) is number = by_tokens source number item (tokens_in source p) (ap (tokens_in source) (sym (kept_piece source item p kept is)) ∙ alone)

-- ---- A text that holds all bodies

body_held : (source : List ℕ) (item : List Lexeme) (o : Option Media) (media : List Media) → IfSome o (λ m. m.body ≡ body_of item) →
    bytes_in source (cons_option o media) ≤ length (with_body source item) + bytes_in source media
body_held source item None media is = omega arith
body_held source [] (Some m) media is =
    let nothing : Piece = record { start = 0; «end» = 0 } in
    omega (arith, ap (λ (p : Piece). length (text_at source p)) is, short_text source nothing)
body_held source (x ∷ xs) (Some m) media is =
    omega (arith, ap (λ (p : Piece). length (text_at source p)) is, length-append (text_at source x.span) (text_at source (body_of (x ∷ xs))))

record HoldsBodies (source : List ℕ) (raw : List (List Lexeme)) (items : List Item) (number : ℕ) : Type 0 where
  text : List ℕ
  filled : AreFilled source raw text
  holds : bytes_in source (opened_from source number items) ≤ length text

item_held : (source : List ℕ) (item : List Lexeme) (raw : List (List Lexeme)) (items : List Item) (o : Option Item) →
    ((x : Item) → o ≡ Some x → (number : ℕ) → IfSome (opened_item source number x) (λ m. m.body ≡ body_of item)) → ((number : ℕ) → HoldsBodies source raw items number) →
    (number : ℕ) → HoldsBodies source (item ∷ raw) (cons_option o items) number
item_held source item raw items None body later number =
    let l = later number in
    record { text = l.text; filled = inl l.filled; holds = l.holds }
item_held source item raw items (Some x) body later number =
    let l = later (suc number) in
    let own = with_body source item in
    record {
      text = own ++ l.text;
      filled = inr (own, l.text, refl, with_body_fills source item, l.filled);
      holds = omega (
        arith,
        length-append own l.text,
        l.holds,
        body_held source item (if list_any (is_import_item source) items then None else opened_item source number x) (opened_from source (suc number) items)
            (which (list_any (is_import_item source) items)),
      );
    }
  where
    which : (b : Bool) → IfSome (if b then None else opened_item source number x) (λ m. m.body ≡ body_of item)
    which true = tt
    which false = body x refl number

all_held : (source : List ℕ) → ((item : List Lexeme) → IsRawItem (lexemes_of source) item → tokens_in source (piece_of item) ≡ item) → (raw : List (List Lexeme)) → AreRaw source raw →
    (number : ℕ) → HoldsBodies source raw (read_items source raw) number
all_held source alone [] each number = record { text = []; filled = refl; holds = omega arith }
all_held source alone (item ∷ raw) (one, each) number =
    item_held source item raw (read_items source raw) (read_or_kept source (list_any (is_import source) raw) item)
    (item_body source item (alone item one) (list_any (is_import source) raw)) (all_held source alone raw each) number

within : (bytes text marked source : ℕ) → bytes ≤ text → text ≤ marked → marked ≤ source → bytes ≤ source
within bytes text marked source a b c = omega (arith, a, b, c)

pub stand_apart : OpenedBodiesStandApart
stand_apart source items read = by_filling (has-filling source items read)
  where
    by_filling : HasFilling source items → bytes_in source (opened_of items source) ≤ length source
    by_filling f = by_text (all_held source (λ item raw. f.alone item raw.is_item.stands) (raw_items source) f.each 0)
      where
        by_text : HoldsBodies source (raw_items source) (read_items source (raw_items source)) 0 → bytes_in source (opened_of items source) ≤ length source
        by_text held =
            subst (λ (its : List Item). bytes_in source (opened_of its source) ≤ length source) f.same
            (within (bytes_in source (opened_of (read_items source (raw_items source)) source)) (length held.text) (length (behind_mark held.text)) (length source) held.holds (unmarked held.text) (f.no_longer held.text held.filled))
