-- Items in which whole blocks stand in the places of kept ones are read back, and so are those that stay as they are.
use Rattle.std.proofs.Common.{◌≡◌, inl, inr, ℕ, suc, ◌+◌, ◌≤◌, Bool, List, [], ◌∷◌, ◌++◌, map, length, Some, Ok, true, refl, sym, ◌∙◌, ap, ap₂, subst, arith}
use Rattle.std.specs.Prelude.{⊤, ◌||◌, Result}
use Rattle.std.specs.List.{AllByRecursion, AllZip, find, list_any}
use Rattle.css_model.specs.declared.fault.SheetFault.{SheetFault}
use Rattle.css_model.specs.declared.sheet.Item.{Item}
use Rattle.css_model.specs.declared.sheet.Item.TheVariants.{Rule, KeptRule, KeptBlock}
use Rattle.css_model.specs.declared.sheet.Piece.{Piece}
use Rattle.css_model.specs.Sheets.ComesFrom.{ComesFrom, pair_count}
use Rattle.css_model.specs.Sheets.Limits.{max_bytes}
use Rattle.css_model.specs.Sheets.Printed.{behind_mark, printed}
use Rattle.css_model.specs.Sheets.Sheet.{is_namespace, item_of, pairs_of, sheet_of}
use Rattle.css_model.specs.Sheets.Sound.{IsSoundItem, raw_items}
use Rattle.css_model.specs.Sheets.Spelling.{kept_text, tokens_in}
use Rattle.css_model.specs.Text.Lexemes.{piece_of}
use Rattle.css_model.specs.Text.Source.{text_at}
use Rattle.css_model.specs.Text.Tokens.{text_of}
use Rattle.list_facts.proofs.Cuts.{None_of}
use Rattle.sheet_laws.specs.Sourced.{AreTwinsOfSourced, SourcedItem, all_of_source, items_of, of_source, printed_sourced}
use Rattle.sheet_laws.specs.Twins.{AreTwins}
use Rattle.sheet_laws.proofs.ForCallers.{AreInOrder, AreSourcedInOrder, DoFit, EndsBefore, IsBefore, IsSameSheet, IsShownAgain, IsShownAs, Shown, content_of_source, ends_itself, find_none, imports, in_order, inner, is_ended, is_sourced_import, kept_shown, last_of_item, no_map, read_from, sheet-sound, shown, sourced_shown, text_of_source, twins_of_source}
use Rattle.print_laws.specs.Printing.{PrintedReadsBack, PrintedReadsBackAsTwin}
use Rattle.print_laws.specs.Replaced.{IsReplacedBy, IsWholeBlock, ReplacedReadsBack, whole_piece}
use Rattle.print_laws.proofs.Back.Items.{sound-item}
use Rattle.print_laws.proofs.Back.Sheet.{IsBack, IsReady, clean-of, ground-of, pairs-fit, sourced-back, tested-of, whole-ended}
use Rattle.print_laws.proofs.Tokens.Lexed.{IsEndedBySign, shown-last, sign-gap}
use Rattle.print_laws.proofs.Tokens.Places.{ArePlaced, gap_size, placed-text}
use Rattle.print_laws.proofs.Tokens.Texts.{IsLoneBeforeWhite, kept-text, shown_text}

-- ---- The items that are printed

-- a source that is read has no `@namespace`
pub names-of : (source : List ℕ) (its : List Item) → sheet_of source ≡ Ok its → None_of (is_namespace source) (raw_items source)
names-of source its e =
    find_none (is_namespace source) (raw_items source)
    (no_map (λ item. (piece_of item).start) (find (is_namespace source) (raw_items source)) (tested-of source its (clean-of source its e)).no_namespace)

-- an item that is made of parts of a source that is read
pub ready-of : (source : List ℕ) (its : List Item) → sheet_of source ≡ Ok its → (item : Item) → IsSoundItem source item → IsReady (of_source source item)
ready-of source its e item sound =
    let g = ground-of source its e in
    record { ground = g; sound = sound-item source g (names-of source its e) item sound; shallow = (read_from source its g.good e).shallow }

-- a whole block as an item of its own text
pub record IsBlockAlone (text : List ℕ) : Type 0 where
  pub ready : IsReady (of_source text (KeptBlock (whole_piece text)))
  pub before : item_of text (tokens_in text (whole_piece text)) ≡ Some (KeptBlock (whole_piece text))
  pub ended : is_ended (tokens_in text (whole_piece text)) ≡ true

pub block-alone : (text : List ℕ) → IsWholeBlock text → IsBlockAlone text
block-alone text w =
    let its = KeptBlock (whole_piece text) ∷ [] in
    let sheet = read_from text its (ground-of text its w.reads).good w.reads in
    record {
      ready = ready-of text its w.reads (KeptBlock (whole_piece text)) (sheet-sound text its w.reads).0;
      before = sheet.order.0 refl;
      ended = sheet.from.0.with_block w.has_block;
    }

replaced-ready : (source : List ℕ) (its : List Item) → sheet_of source ≡ Ok its → (item : Item) (x : SourcedItem) → IsReplacedBy source item x → IsSoundItem source item → IsReady x
replaced-ready source its e item x (inl same) sound = subst IsReady (sym same) (ready-of source its e item sound)
replaced-ready source its e item x (inr r) sound = subst (λ i. IsReady (of_source x.source i)) (sym r.is_whole) (block-alone x.source r.block).ready

all-ready : (source : List ℕ) (its : List Item) → sheet_of source ≡ Ok its → (new : List Item) (xs : List SourcedItem) → AllZip (IsReplacedBy source) new xs → AllByRecursion (IsSoundItem source) new → AllByRecursion IsReady xs
all-ready source its e [] [] z sound = tt
all-ready source its e [] (x ∷ xs) z sound = absurd z
all-ready source its e (item ∷ new) [] z sound = absurd z
all-ready source its e (item ∷ new) (x ∷ xs) (r, z) (one, sound) = (replaced-ready source its e item x r one, all-ready source its e new xs z sound)

-- ---- Their order

import-same : (source : List ℕ) (item : Item) (x : SourcedItem) → IsReplacedBy source item x → is_sourced_import x ≡ imports source item
import-same source item x (inl same) = ap is_sourced_import same
import-same source item x (inr r) = ap (imports x.source) r.is_whole ∙ r.block.no_import ∙ sym (ap (imports source) r.is_block ∙ r.no_import)

imports-same : (source : List ℕ) (new : List Item) (xs : List SourcedItem) → AllZip (IsReplacedBy source) new xs → list_any is_sourced_import xs ≡ list_any is_sourced_import (all_of_source source new)
imports-same source [] [] z = refl
imports-same source [] (x ∷ xs) z = absurd z
imports-same source (item ∷ new) [] z = absurd z
imports-same source (item ∷ new) (x ∷ xs) (r, z) =
    ap₂ (λ (b c : Bool). b || c) (import-same source item x r) (imports-same source new xs z)

before-same : (source : List ℕ) (b : Bool) (item : Item) (x : SourcedItem) → IsReplacedBy source item x → IsBefore source b item → IsBefore x.source b x.item
before-same source b item x (inl same) before = subst (λ y. IsBefore y.source b y.item) (sym same) before
before-same source b item x (inr r) before = subst (IsBefore x.source b) (sym r.is_whole) (λ none. (block-alone x.source r.block).before)

ends-same : (source : List ℕ) (item : Item) (x : SourcedItem) → IsReplacedBy source item x → ends_itself source item ≡ true → ends_itself x.source x.item ≡ true
ends-same source item x (inl same) ended = subst (λ y. ends_itself y.source y.item ≡ true) (sym same) ended
ends-same source item x (inr r) ended = ap (ends_itself x.source) r.is_whole ∙ (block-alone x.source r.block).ended

replaced-order : (source : List ℕ) (new : List Item) (xs : List SourcedItem) → AllZip (IsReplacedBy source) new xs → AreInOrder source new → AreSourcedInOrder xs
replaced-order source [] [] z order = tt
replaced-order source [] (x ∷ xs) z order = absurd z
replaced-order source (item ∷ new) [] z order = absurd z
replaced-order source (item ∷ new) (x ∷ xs) (r, z) (before, ended, order) = (
  before-same source (list_any is_sourced_import xs) item x r (subst (λ b. IsBefore source b item) (sym (imports-same source new xs z)) before),
  ends new xs z ended,
  replaced-order source new xs z order,
)
  where
    ends : (new : List Item) (xs : List SourcedItem) → AllZip (IsReplacedBy source) new xs → EndsBefore (all_of_source source new) (of_source source item) → EndsBefore xs x
    ends new [] z ended = tt
    ends [] (y ∷ ys) z ended = absurd z
    ends (next ∷ new) (y ∷ ys) z ended = ends-same source item x r ended

-- ---- How many they are

pairs-same : (source : List ℕ) (item : Item) (x : SourcedItem) → IsReplacedBy source item x → pairs_of x.item ≡ pairs_of item
pairs-same source item x (inl same) = ap (λ (y : SourcedItem). pairs_of y.item) same
pairs-same source item x (inr r) = ap pairs_of r.is_whole ∙ sym (ap pairs_of r.is_block)

counts-same : (source : List ℕ) (new : List Item) (xs : List SourcedItem) → AllZip (IsReplacedBy source) new xs → (length (items_of xs) ≡ length new) × (pair_count (items_of xs) ≡ pair_count new)
counts-same source [] [] z = (refl, refl)
counts-same source [] (x ∷ xs) z = absurd z
counts-same source (item ∷ new) [] z = absurd z
counts-same source (item ∷ new) (x ∷ xs) (r, z) =
    let rest = counts-same source new xs z in
    (ap suc rest.0, ap₂ (λ (m n : ℕ). m + n) (pairs-same source item x r) rest.1)

replaced-fit : (source : List ℕ) (old new : List Item) (xs : List SourcedItem) → ComesFrom source old new → AllZip (IsReplacedBy source) new xs → DoFit (items_of xs)
replaced-fit source old new xs from z =
    let same = counts-same source new xs z in
    record { items = omega (arith, same.0, from.few_items); pairs = pairs-fit 0 (items_of xs) (omega (arith, same.1, from.few_pairs)) }

-- ---- The text is read back

pub replaced-back : (source : List ℕ) (old new : List Item) (xs : List SourcedItem) → sheet_of source ≡ Ok old → ComesFrom source old new → AllZip (IsReplacedBy source) new xs → length (printed_sourced xs) ≤ max_bytes → IsBack xs
replaced-back source old new xs e from z short =
    let sheet = read_from source old (ground-of source old e).good e in
    let order = in_order source new old from.follows sheet.order in
    sourced-back xs (all-ready source old e new xs z from.sound) (replaced-order source new xs z order) (replaced-fit source old new xs from z) short

pub replaced-reads-back : ReplacedReadsBack
replaced-reads-back source old new xs e from z short =
    let same = (replaced-back source old new xs e from z short).sheet in
    (same.read, same.reads, same.twins, same.prints)

-- ---- Items of one source

stay : (source : List ℕ) (new : List Item) → AllZip (IsReplacedBy source) new (all_of_source source new)
stay source [] = tt
stay source (item ∷ new) = (inl refl, stay source new)

printed-same : (source : List ℕ) (new : List Item) → printed_sourced (all_of_source source new) ≡ printed source new
printed-same source new = ap behind_mark (text_of_source source new)

read-back : (source : List ℕ) (old new : List Item) → sheet_of source ≡ Ok old → ComesFrom source old new → length (printed source new) ≤ max_bytes → IsSameSheet (printed source new) (all_of_source source new)
read-back source old new e from short =
    subst (λ text. IsSameSheet text (all_of_source source new)) (printed-same source new)
    (replaced-back source old new (all_of_source source new) e from (stay source new) (subst (λ (text : List ℕ). length text ≤ max_bytes) (sym (printed-same source new)) short)).sheet

pub reads-back : PrintedReadsBack
reads-back source old new e from short =
    let same = read-back source old new e from short in
    (same.read, same.reads, sym (same.says ∙ content_of_source source new), same.prints ∙ printed-same source new)

pub reads-back-as-twin : PrintedReadsBackAsTwin
reads-back-as-twin source old new again e from short read =
    let same = read-back source old new e from short in
    subst (AreTwins source (printed source new) new) (ok-same same.read again (sym same.reads ∙ read)) (twins_of_source source (printed source new) new same.read same.twins)
  where
    ok-same : (xs ys : List Item) → ◌≡◌ {A = Result (List Item) SheetFault} (Ok xs) (Ok ys) → xs ≡ ys
    ok-same xs ys e = cc

-- ---- The kept items of the text

-- A kept item that is read back: its tokens are those that are shown for it and, where it ends by itself, it stands there with its kept text.
pub record IsKeptBack (source : List ℕ) (piece : Piece) (text : List ℕ) (piece' : Piece) : Type 0 where
  pub shown_as : map (shown text) (tokens_in text piece') ≡ kept_shown source (tokens_in source piece)
  pub stands : is_ended (tokens_in source piece) ≡ true → text_at text piece' ≡ kept_text source piece

kept-back : (text : List ℕ) (ss : List Shown) → ArePlaced text ss → (source : List ℕ) (piece piece' : Piece) → AllByRecursion IsLoneBeforeWhite (tokens_in source piece) → IsShownAs text source piece' piece
    → IsKeptBack source piece text piece'
kept-back text ss placed source piece piece' lone again = record { shown_as = again.shown_as; stands = λ ended. stands (whole-ended (tokens_in source piece) ended) }
  where
    stands : IsEndedBySign (tokens_in source piece) → text_at text piece' ≡ kept_text source piece
    stands e =
        let front = map (inner source) e.front in
        let last = last_of_item source e.last in
        let are : kept_shown source (tokens_in source piece) ≡ front ++ last ∷ [] = ap (kept_shown source) e.are ∙ shown-last (inner source) (last_of_item source) e.front e.last in
        let none : gap_size last ≡ 0 = ap (λ ps. length (text_of ps)) (sign-gap e.last.kind e.sign e.is_sign) in
        ap (text_at text) (sym again.is_piece)
        ∙ placed-text text ss placed (tokens_in text piece') again.stands front last none (again.shown_as ∙ are)
        ∙ ap shown_text (sym are)
        ∙ kept-text source (tokens_in source piece) lone

-- so are the kept items of items that are read back
abbrev pub AreKeptBack : List ℕ → List ℕ → Item → Item → Type 0
AreKeptBack source text (KeptRule k) (KeptRule k') = IsKeptBack source k.piece text k'.piece
AreKeptBack source text (KeptBlock p) (KeptBlock p') = IsKeptBack source p text p'
AreKeptBack source text _ _ = ⊤

abbrev pub IsSourcedKeptBack : List ℕ → SourcedItem → Item → Type 0
IsSourcedKeptBack text x item = AreKeptBack x.source text x.item item

item-kept : (text : List ℕ) (ss : List Shown) → ArePlaced text ss → (source : List ℕ) (item item' : Item) → IsReady (of_source source item) → IsShownAgain text (of_source source item) item' → AreKeptBack source text item item'
item-kept text ss placed source (KeptRule k) (KeptRule k') ready again = kept-back text ss placed source k.piece k'.piece ready.sound.text again
item-kept text ss placed source (KeptBlock p) (KeptBlock p') ready again = kept-back text ss placed source p p' ready.sound.text again
item-kept text ss placed source (Rule r) item' ready again = tt
item-kept text ss placed source (KeptRule k) (Rule r) ready again = tt
item-kept text ss placed source (KeptRule k) (KeptBlock p) ready again = tt
item-kept text ss placed source (KeptBlock p) (Rule r) ready again = tt
item-kept text ss placed source (KeptBlock p) (KeptRule k) ready again = tt

items-kept : (text : List ℕ) (ss : List Shown) → ArePlaced text ss → (xs : List SourcedItem) (read : List Item) → AllByRecursion IsReady xs → AllZip (IsShownAgain text) xs read → AllZip (IsSourcedKeptBack text) xs read
items-kept text ss placed [] [] ready z = tt
items-kept text ss placed [] (item ∷ read) ready z = absurd z
items-kept text ss placed (x ∷ xs) [] ready z = absurd z
items-kept text ss placed (x ∷ xs) (item ∷ read) (one, ready) (again, z) =
    (item-kept text ss placed x.source x.item item one again, items-kept text ss placed xs read ready z)

-- a whole block stands in the text as it is
pub whole-stands : (block text : List ℕ) (piece : Piece) → IsWholeBlock block → IsKeptBack block (whole_piece block) text piece → text_at text piece ≡ block
whole-stands block text piece w back = back.stands (block-alone block w).ended ∙ w.kept

-- What the printed text of replaced items is read back as, with the tokens and the texts of the kept items.
pub record IsReplacedBack (xs : List SourcedItem) : Type 0 where
  pub again : List Item
  pub reads : sheet_of (printed_sourced xs) ≡ Ok again
  pub twins : AreTwinsOfSourced (printed_sourced xs) xs again
  pub prints : printed (printed_sourced xs) again ≡ printed_sourced xs
  pub kept : AllZip (IsSourcedKeptBack (printed_sourced xs)) xs again

pub replaced-kept-back : (source : List ℕ) (old new : List Item) (xs : List SourcedItem) → sheet_of source ≡ Ok old → ComesFrom source old new → AllZip (IsReplacedBy source) new xs → length (printed_sourced xs) ≤ max_bytes
    → IsReplacedBack xs
replaced-kept-back source old new xs e from z short =
    let back = replaced-back source old new xs e from z short in
    record {
      again = back.sheet.read;
      reads = back.sheet.reads;
      twins = back.sheet.twins;
      prints = back.sheet.prints;
      kept = items-kept (printed_sourced xs) (sourced_shown xs) back.placed xs back.sheet.read (all-ready source old e new xs z from.sound) back.sheet.shown_as;
    }
