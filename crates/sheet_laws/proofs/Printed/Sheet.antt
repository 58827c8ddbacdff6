-- The items of a printed sheet are read as the items of the sheet.
use Rattle.std.proofs.Common.{◌≡◌, subst, ℕ, Bool, true, false, List, [], ◌∷◌, ◌++◌, length, drop, map, Option, Some, None, refl, sym, ◌∙◌, ap, arith, append-nil}
use Rattle.std.specs.Prelude.{⊤, ◌&&◌, ◌||◌, if◌then◌else◌, codes}
use Rattle.std.specs.List.{cons_option, AllZip, AllByRecursion, filter, find, list_any}
use Rattle.std.specs.Str.{str_eq_ignore_ascii_case}
use Rattle.css_model.specs.declared.sheet.Item.{Item}
use Rattle.css_model.specs.declared.sheet.Item.TheVariants.{Rule, KeptRule, KeptBlock}
use Rattle.css_model.specs.declared.sheet.Piece.{Piece}
use Rattle.css_model.specs.declared.sheet.SelItem.{SelItem}
use Rattle.css_model.specs.declared.token.Lexeme.{Lexeme}
use Rattle.css_model.specs.declared.token.TokenKind.{TokenKind}
use Rattle.css_model.specs.declared.token.TokenKind.TheVariants as kind
use Rattle.css_model.specs.Text.Characters.{open_curly}
use Rattle.css_model.specs.Text.Names.{is_named}
use Rattle.css_model.specs.Sheets.Items.{is_at_keyword, item_len, items, is_at_rule, is_whole, opens_block}
use Rattle.css_model.specs.Text.Kept.{solid, kept}
use Rattle.css_model.specs.Sheets.KeptRuleParts.{KeptRuleParts}
use Rattle.css_model.specs.Text.Lexemes.{piece_of}
use Rattle.css_model.specs.Sheets.Sheet.{is_at_rule_named, is_import, is_namespace, item_of, read_items}
use Rattle.css_model.specs.Text.Source.{text_at}
use Rattle.css_model.specs.Sheets.Spelling.{tokens_in, kept_text}
use Rattle.css_model.specs.Text.Names.{unescaped}
use Rattle.sheet_laws.specs.Sourced.{SourcedItem, all_of_source}
use Rattle.sheet_laws.proofs.Shown.Alike.{IsLike, AreClosable, name_in, all_shut, item_like}
use Rattle.sheet_laws.proofs.Printed.Entries.{at_rule_like, sign_like}
use Rattle.sheet_laws.proofs.Printed.Items.{begins_item, is_ended, ended_item_len, all_of_them, StandAsItems, items_again, ended_like, begins_like, item_len_like}
use Rattle.sheet_laws.proofs.Printed.Joins.{StandsIn, stands_whole, stands_front, stands_behind, stands_inside}
use Rattle.sheet_laws.proofs.Printed.Kept.{SameAt, kept_item_same}
use Rattle.list_facts.proofs.Zips.{AreBoth, cut_at, zip_length, zip_any, zip_map}
use Rattle.sheet_laws.proofs.Printed.Preludes.{IsSelectorAgain}
use Rattle.sheet_laws.proofs.Printed.Rules.{IsOfRule, IsRuleAgain, rule_again}
use Rattle.sheet_laws.proofs.Shown.Tokens.{shown, inner, last_of_item, kept_shown, item_shown, sourced_shown, last_from_shown}
use Rattle.sheet_laws.proofs.Shown.Values.{kept_same}

-- a kept item, by the tokens in its piece: they are an item of the source
pub record IsOfItem (source : List ℕ) (piece : Piece) : Type 0 where
  pub closable : AreClosable source (tokens_in source piece)
  pub begins : begins_item (tokens_in source piece) ≡ true
  pub is_item : item_len (tokens_in source piece) ≡ length (tokens_in source piece)
  pub ended : is_at_rule (tokens_in source piece) ≡ false → is_ended (tokens_in source piece) ≡ true
  pub is_kept : is_whole (tokens_in source piece) ≡ true
  pub with_block : list_any opens_block (tokens_in source piece) ≡ true → is_ended (tokens_in source piece) ≡ true
  pub no_namespace : is_namespace source (tokens_in source piece) ≡ false
  pub stands : piece_of (tokens_in source piece) ≡ piece

-- an item that is one of a source, or a rule of parts of it
abbrev pub IsFrom : List ℕ → Item → Type 0
IsFrom source (Rule r) = IsOfRule source r
IsFrom source (KeptRule k) = IsOfItem source k.piece
IsFrom source (KeptBlock piece) = IsOfItem source piece

-- an item that is an `@import`
abbrev pub imports : List ℕ → Item → Bool
imports source (Rule r) = false
imports source (KeptRule k) = is_import source (tokens_in source k.piece)
imports source (KeptBlock piece) = is_import source (tokens_in source piece)

-- an item that ends by itself
abbrev pub ends_itself : List ℕ → Item → Bool
ends_itself source (Rule r) = true
ends_itself source (KeptRule k) = is_ended (tokens_in source k.piece)
ends_itself source (KeptBlock piece) = is_ended (tokens_in source piece)

-- an item before others, among which an `@import` is or is not: it is kept as it stands, or as it is read
abbrev pub IsBefore : List ℕ → Bool → Item → Type 0
IsBefore source import (Rule r) = import ≡ false
IsBefore source import (KeptRule k) = (import ≡ false) × (item_of source (tokens_in source k.piece) ≡ Some (KeptRule k))
IsBefore source import (KeptBlock piece) = import ≡ false → item_of source (tokens_in source piece) ≡ Some (KeptBlock piece)

-- such an item is an `@import`
abbrev pub is_sourced_import : SourcedItem → Bool
is_sourced_import x = imports x.source x.item

-- an item that others follow ends by itself
abbrev pub EndsBefore : List SourcedItem → SourcedItem → Type 0
EndsBefore [] x = ⊤
EndsBefore (next ∷ rest) x = ends_itself x.source x.item ≡ true

-- Items each in the order of a source: each is as it is read before the others, and only the last may end by the end of its source.
abbrev pub AreSourcedInOrder : List SourcedItem → Type 0
AreSourcedInOrder [] = ⊤
AreSourcedInOrder (x ∷ rest) = IsBefore x.source (list_any is_sourced_import rest) x.item × EndsBefore rest x × AreSourcedInOrder rest

-- the same of items of one source
abbrev pub AreInOrder : List ℕ → List Item → Type 0
AreInOrder source its = AreSourcedInOrder (all_of_source source its)

-- items that are each of their source
abbrev pub AreFromSources : List SourcedItem → Type 0
AreFromSources xs = AllByRecursion (λ x. IsFrom x.source x.item) xs

-- a kept item that is read from tokens of the same kept text
pub record IsKeptAgain (new old : List ℕ) (whole : List Lexeme) (piece' piece : Piece) : Type 0 where
  pub tokens : List Lexeme
  pub inside : StandsIn whole tokens
  pub stands : piece' ≡ piece_of tokens
  pub shown_as : map (shown new) tokens ≡ kept_shown old (tokens_in old piece)
  pub text : kept (map (solid new) tokens) ≡ kept_text old piece

-- an item that is read back
abbrev pub IsAgain : List ℕ → List ℕ → List Lexeme → Item → Item → Type 0
IsAgain new old whole (Rule r') (Rule r) = IsRuleAgain new old whole r' r
IsAgain new old whole (Rule r') (KeptRule k) = ⊥
IsAgain new old whole (Rule r') (KeptBlock piece) = ⊥
IsAgain new old whole (KeptRule k') (Rule r) = ⊥
IsAgain new old whole (KeptRule k') (KeptRule k) = IsKeptAgain new old whole k'.piece k.piece × (k'.decls ≡ k.decls) × (k'.reason ≡ k.reason)
IsAgain new old whole (KeptRule k') (KeptBlock piece) = ⊥
IsAgain new old whole (KeptBlock piece') (Rule r) = ⊥
IsAgain new old whole (KeptBlock piece') (KeptRule k) = ⊥
IsAgain new old whole (KeptBlock piece') (KeptBlock piece) = IsKeptAgain new old whole piece' piece

-- what tokens are read as that are shown as an item's
record IsReadItem (new old : List ℕ) (ys : List Lexeme) (item : Item) : Type 0 where
  begins : begins_item ys ≡ true
  is_item : item_len ys ≡ length ys
  ended : is_ended ys ≡ ends_itself old item
  is_kept : is_whole ys ≡ true
  import : is_import new ys ≡ imports old item
  no_namespace : is_namespace new ys ≡ false
  reads : (later : Bool) → IsBefore old later item → (read : Item) × ((if later then Some (KeptBlock (piece_of ys)) else item_of new ys) ≡ Some read) × IsAgain new old ys read item

named_in : (k : TokenKind) (word new old : List ℕ) → unescaped (name_in k new) ≡ unescaped (name_in k old) → (is_at_keyword k && is_named word (drop 1 new)) ≡ (is_at_keyword k && is_named word (drop 1 old))
named_in kind.AtKeyword word new old e = ap (λ name. str_eq_ignore_ascii_case name word) e
named_in _ word new old e = refl

pub at_rule_named_like : (word new old : List ℕ) (ys xs : List Lexeme) → AllZip (IsLike new old) ys xs → is_at_rule_named word new ys ≡ is_at_rule_named word old xs
at_rule_named_like word new old [] [] z = refl
at_rule_named_like word new old [] (x ∷ xs) z = absurd z
at_rule_named_like word new old (y ∷ ys) [] z = absurd z
at_rule_named_like word new old (y ∷ ys) (x ∷ xs) z =
    ap (λ k. is_at_keyword k && is_named word (drop 1 (text_at new y.span))) z.0.kind ∙ named_in x.kind word (text_at new y.span) (text_at old x.span) z.0.name

pub not_named : (word source : List ℕ) (ys : List Lexeme) → is_at_rule ys ≡ false → is_at_rule_named word source ys ≡ false
not_named word source [] qualified = refl
not_named word source (y ∷ ys) qualified = ap (λ b. b && is_named word (drop 1 (text_at source y.span))) qualified

pub whole_like : (new old : List ℕ) (ys xs : List Lexeme) → AllZip (IsLike new old) ys xs → is_whole ys ≡ is_whole xs
whole_like new old ys xs z =
    ap (λ b. b || list_any opens_block ys) (at_rule_like new old ys xs z)
    ∙ ap (λ b. is_at_rule xs || b) (zip_any (IsLike new old) opens_block opens_block (sign_like new old open_curly 0) ys xs z)

-- the kept item of a piece
kept_again : (new old : List ℕ) (ys : List Lexeme) (piece : Piece) → IsOfItem old piece → map (shown new) ys ≡ kept_shown old (tokens_in old piece)
    → IsKeptAgain new old ys (piece_of ys) piece
kept_again new old ys piece sound e =
    record {
      tokens = ys;
      inside = stands_whole ys;
      stands = refl;
      shown_as = e;
      text = kept_same new old ys (tokens_in old piece) (last_from_shown (shown new) (inner old) (last_of_item old) ys (tokens_in old piece) e) (all_shut old (tokens_in old piece) sound.closable);
    }

-- what its tokens say, whatever kind of kept item they are
record IsReadKept (new old : List ℕ) (ys xs : List Lexeme) : Type 0 where
  begins : begins_item ys ≡ true
  is_item : item_len ys ≡ length ys
  ended : is_ended ys ≡ is_ended xs
  is_kept : is_whole ys ≡ true
  import : is_import new ys ≡ is_import old xs
  no_namespace : is_namespace new ys ≡ false

kept_facts : (new old : List ℕ) (ys : List Lexeme) (piece : Piece) → IsOfItem old piece → map (shown new) ys ≡ kept_shown old (tokens_in old piece) → IsReadKept new old ys (tokens_in old piece)
kept_facts new old ys piece sound e =
    let xs = tokens_in old piece in
    let like : AllZip (IsLike new old) ys xs = item_like new old ys xs (last_from_shown (shown new) (inner old) (last_of_item old) ys xs e) sound.closable in
    record {
      begins = begins_like new old ys xs like ∙ sound.begins;
      is_item = item_len_like new old ys xs like ∙ sound.is_item ∙ sym (zip_length (IsLike new old) ys xs like);
      ended = ended_like new old ys xs like;
      is_kept = whole_like new old ys xs like ∙ sound.is_kept;
      import = at_rule_named_like (codes "import") new old ys xs like;
      no_namespace = at_rule_named_like (codes "namespace") new old ys xs like ∙ sound.no_namespace;
    }

same_kept : (new old : List ℕ) (ys : List Lexeme) (piece : Piece) → IsOfItem old piece → map (shown new) ys ≡ kept_shown old (tokens_in old piece)
    → AreBoth (SameAt (piece_of ys) (piece_of (tokens_in old piece))) (item_of new ys) (item_of old (tokens_in old piece))
same_kept new old ys piece sound e =
    kept_item_same new old ys (tokens_in old piece) (last_from_shown (shown new) (inner old) (last_of_item old) ys (tokens_in old piece) e) sound.closable sound.ended

kept_rule_reads : (new old : List ℕ) (ys : List Lexeme) (k : KeptRuleParts) (piece : Piece) (read : Option Item) → AreBoth (SameAt (piece_of ys) piece) read (Some (KeptRule k))
    → IsKeptAgain new old ys (piece_of ys) k.piece → (item : Item) × (read ≡ Some item) × IsAgain new old ys item (KeptRule k)
kept_rule_reads new old ys k piece None same kept = absurd same
kept_rule_reads new old ys k piece (Some (Rule r')) same kept = absurd same
kept_rule_reads new old ys k piece (Some (KeptBlock p')) same kept = absurd same
kept_rule_reads new old ys k piece (Some (KeptRule k')) same kept =
    (KeptRule k', refl, (subst (λ p. IsKeptAgain new old ys p k.piece) (sym same.0) kept, same.2, same.3))

kept_block_reads : (new old : List ℕ) (ys : List Lexeme) (p piece : Piece) (read : Option Item) → AreBoth (SameAt (piece_of ys) piece) read (Some (KeptBlock p))
    → IsKeptAgain new old ys (piece_of ys) p → (item : Item) × (read ≡ Some item) × IsAgain new old ys item (KeptBlock p)
kept_block_reads new old ys p piece None same kept = absurd same
kept_block_reads new old ys p piece (Some (Rule r')) same kept = absurd same
kept_block_reads new old ys p piece (Some (KeptRule k')) same kept = absurd same
kept_block_reads new old ys p piece (Some (KeptBlock p')) same kept = (KeptBlock p', refl, subst (λ p'. IsKeptAgain new old ys p' p) (sym same.0) kept)

item_again : (new old : List ℕ) (ys : List Lexeme) (item : Item) → IsFrom old item → map (shown new) ys ≡ item_shown old item → IsReadItem new old ys item
item_again new old ys (Rule r) sound e =
    let again = rule_again new old ys r sound e in
    record {
      begins = again.begins;
      is_item = ap item_len (sym (append-nil ys)) ∙ ended_item_len ys [] again.ended;
      ended = again.ended;
      is_kept = again.whole;
      import = not_named (codes "import") new ys again.qualified;
      no_namespace = not_named (codes "namespace") new ys again.qualified;
      reads = λ later before. (Rule again.rule, ap (λ b. if b then Some (KeptBlock (piece_of ys)) else item_of new ys) before ∙ again.reads, again.again);
    }
item_again new old ys (KeptRule k) sound e =
    let facts = kept_facts new old ys k.piece sound e in
    record {
      begins = facts.begins;
      is_item = facts.is_item;
      ended = facts.ended;
      is_kept = facts.is_kept;
      import = facts.import;
      no_namespace = facts.no_namespace;
      reads = reads;
    }
  where
    reads : (later : Bool) → IsBefore old later (KeptRule k) → (read : Item) × ((if later then Some (KeptBlock (piece_of ys)) else item_of new ys) ≡ Some read) × IsAgain new old ys read (KeptRule k)
    reads later before =
        let same = subst (λ m. AreBoth (SameAt (piece_of ys) (piece_of (tokens_in old k.piece))) (item_of new ys) m) before.1 (same_kept new old ys k.piece sound e) in
        let got = kept_rule_reads new old ys k (piece_of (tokens_in old k.piece)) (item_of new ys) same (kept_again new old ys k.piece sound e) in
        (got.0, ap (λ b. if b then Some (KeptBlock (piece_of ys)) else item_of new ys) before.0 ∙ got.1, got.2)
item_again new old ys (KeptBlock p) sound e =
    let facts = kept_facts new old ys p sound e in
    record {
      begins = facts.begins;
      is_item = facts.is_item;
      ended = facts.ended;
      is_kept = facts.is_kept;
      import = facts.import;
      no_namespace = facts.no_namespace;
      reads = reads;
    }
  where
    reads : (later : Bool) → IsBefore old later (KeptBlock p) → (read : Item) × ((if later then Some (KeptBlock (piece_of ys)) else item_of new ys) ≡ Some read) × IsAgain new old ys read (KeptBlock p)
    reads true before = (KeptBlock (piece_of ys), refl, kept_again new old ys p sound e)
    reads false before =
        let same = subst (λ m. AreBoth (SameAt (piece_of ys) (piece_of (tokens_in old p))) (item_of new ys) m) (before refl) (same_kept new old ys p sound e) in
        kept_block_reads new old ys p (piece_of (tokens_in old p)) (item_of new ys) same (kept_again new old ys p sound e)

-- tokens of an item among those of a sheet
abbrev IsRaw : List ℕ → List Lexeme → List Lexeme → SourcedItem → Type 0
IsRaw new ys zs x = IsReadItem new x.source zs x.item × StandsIn ys zs

-- tokens that are shown as those of items, cut into those of each
record AreCutItems (new : List ℕ) (ys : List Lexeme) (xs : List SourcedItem) : Type 0 where
  raw : List (List Lexeme)
  whole : ys ≡ all_of_them raw
  each : AllZip (IsRaw new ys) raw xs

wider_items : (new : List ℕ) (outer inner : List Lexeme) (raw : List (List Lexeme)) (xs : List SourcedItem) → StandsIn outer inner
    → AllZip (IsRaw new inner) raw xs → AllZip (IsRaw new outer) raw xs
wider_items new outer inner raw xs inside = zip_map (IsRaw new inner) (IsRaw new outer) (λ zs x r. (r.0, stands_inside outer inner zs inside r.1)) raw xs

cut_items : (new : List ℕ) (ys : List Lexeme) (xs : List SourcedItem) → AreFromSources xs → map (shown new) ys ≡ sourced_shown xs → AreCutItems new ys xs
cut_items new [] [] sound e = record { raw = []; whole = refl; each = tt }
cut_items new (y ∷ ys) [] sound e = absurd (omega (arith, ap length e))
cut_items new ys (x ∷ xs) sound e =
    let cut = cut_at (shown new) ys (item_shown x.source x.item) (sourced_shown xs) e in
    let rest = cut_items new cut.lower xs sound.1 cut.is_behind in
    record {
      raw = cut.upper ∷ rest.raw;
      whole = cut.whole ∙ ap (λ zs. cut.upper ++ zs) rest.whole;
      each = (
        (item_again new x.source cut.upper x.item sound.0 cut.is_front, subst (λ zs. StandsIn zs cut.upper) (sym cut.whole) (stands_front cut.upper cut.lower)),
        wider_items new ys cut.lower rest.raw xs (subst (λ zs. StandsIn zs cut.lower) (sym cut.whole) (stands_behind cut.upper cut.lower)) rest.each,
      );
    }

wider_selectors : (new old : List ℕ) (outer inner : List Lexeme) → StandsIn outer inner → (ss' ss : List SelItem) → AllZip (IsSelectorAgain new old inner) ss' ss → AllZip (IsSelectorAgain new old outer) ss' ss
wider_selectors new old outer inner inside = zip_map (IsSelectorAgain new old inner) (IsSelectorAgain new old outer)
    (λ s' s again. record { tokens = again.tokens; inside = stands_inside outer inner again.tokens inside again.inside; stands = again.stands; same = again.same; text = again.text })

wider_kept : (new old : List ℕ) (outer inner : List Lexeme) → StandsIn outer inner → (p' p : Piece) → IsKeptAgain new old inner p' p → IsKeptAgain new old outer p' p
wider_kept new old outer inner inside p' p again =
    record { tokens = again.tokens; inside = stands_inside outer inner again.tokens inside again.inside; stands = again.stands; shown_as = again.shown_as; text = again.text }

wider_again : (new old : List ℕ) (outer inner : List Lexeme) → StandsIn outer inner → (read item : Item) → IsAgain new old inner read item → IsAgain new old outer read item
wider_again new old outer inner inside (Rule r') (Rule r) again =
    record { selectors = wider_selectors new old outer inner inside r'.selectors r.selectors again.selectors; decls = again.decls }
wider_again new old outer inner inside (Rule r') (KeptRule k) again = absurd again
wider_again new old outer inner inside (Rule r') (KeptBlock p) again = absurd again
wider_again new old outer inner inside (KeptRule k') (Rule r) again = absurd again
wider_again new old outer inner inside (KeptRule k') (KeptRule k) again = (wider_kept new old outer inner inside k'.piece k.piece again.0, again.1, again.2)
wider_again new old outer inner inside (KeptRule k') (KeptBlock p) again = absurd again
wider_again new old outer inner inside (KeptBlock p') (Rule r) again = absurd again
wider_again new old outer inner inside (KeptBlock p') (KeptRule k) again = absurd again
wider_again new old outer inner inside (KeptBlock p') (KeptBlock p) again = wider_kept new old outer inner inside p' p again

raw_stand : (new : List ℕ) (ys : List Lexeme) (raw : List (List Lexeme)) (xs : List SourcedItem) → AllZip (IsRaw new ys) raw xs → AreSourcedInOrder xs → StandAsItems raw
raw_stand new ys [] [] z order = tt
raw_stand new ys [] (x ∷ xs) z order = absurd z
raw_stand new ys (zs ∷ raw) [] z order = absurd z
raw_stand new ys (zs ∷ []) (x ∷ []) z order = (z.0.0.begins, z.0.0.is_item)
raw_stand new ys (zs ∷ []) (x ∷ next ∷ xs) z order = absurd z.1
raw_stand new ys (zs ∷ later ∷ raw) (x ∷ []) z order = absurd z.1
raw_stand new ys (zs ∷ later ∷ raw) (x ∷ next ∷ xs) z order =
    (z.0.0.begins, z.0.0.ended ∙ order.1, raw_stand new ys (later ∷ raw) (next ∷ xs) z.1 order.2)

raw_whole : (new : List ℕ) (ys : List Lexeme) (raw : List (List Lexeme)) (xs : List SourcedItem) → AllZip (IsRaw new ys) raw xs → filter is_whole raw ≡ raw
raw_whole new ys [] [] z = refl
raw_whole new ys [] (x ∷ xs) z = absurd z
raw_whole new ys (zs ∷ raw) [] z = absurd z
raw_whole new ys (zs ∷ raw) (x ∷ xs) z =
    ap (λ b. if b then zs ∷ filter is_whole raw else filter is_whole raw) z.0.0.is_kept ∙ ap (λ rest. zs ∷ rest) (raw_whole new ys raw xs z.1)

raw_names : (new : List ℕ) (ys : List Lexeme) (raw : List (List Lexeme)) (xs : List SourcedItem) → AllZip (IsRaw new ys) raw xs → find (is_namespace new) raw ≡ None
raw_names new ys [] [] z = refl
raw_names new ys [] (x ∷ xs) z = absurd z
raw_names new ys (zs ∷ raw) [] z = absurd z
raw_names new ys (zs ∷ raw) (x ∷ xs) z =
    ap (λ b. if b then Some zs else find (is_namespace new) raw) z.0.0.no_namespace ∙ raw_names new ys raw xs z.1

raw_imports : (new : List ℕ) (ys : List Lexeme) (raw : List (List Lexeme)) (xs : List SourcedItem) → AllZip (IsRaw new ys) raw xs → list_any (is_import new) raw ≡ list_any is_sourced_import xs
raw_imports new ys = zip_any (IsRaw new ys) (is_import new) is_sourced_import (λ zs x r. r.0.import)

-- an item that such an item is read back as
abbrev pub IsSourcedAgain : List ℕ → List Lexeme → Item → SourcedItem → Type 0
IsSourcedAgain new whole read x = IsAgain new x.source whole read x.item

record AreRead (new : List ℕ) (ys : List Lexeme) (raw : List (List Lexeme)) (xs : List SourcedItem) : Type 0 where
  read : List Item
  reads : read_items new raw ≡ read
  each : AllZip (IsSourcedAgain new ys) read xs

read_first : (new : List ℕ) (ys zs : List Lexeme) (raw : List (List Lexeme)) (x : SourcedItem) (xs : List SourcedItem) → IsRaw new ys zs x → IsBefore x.source (list_any is_sourced_import xs) x.item
    → list_any (is_import new) raw ≡ list_any is_sourced_import xs → AreRead new ys raw xs → AreRead new ys (zs ∷ raw) (x ∷ xs)
read_first new ys zs raw x xs r before imported rest =
    let here = r.0.reads (list_any is_sourced_import xs) before in
    record {
      read = here.0 ∷ rest.read;
      reads =
          ap (λ b. cons_option (if b then Some (KeptBlock (piece_of zs)) else item_of new zs) (read_items new raw)) imported
          ∙ ap (λ read. cons_option read (read_items new raw)) here.1
          ∙ ap (λ read. here.0 ∷ read) rest.reads;
      each = (wider_again new x.source ys zs r.1 here.0 x.item here.2, rest.each);
    }

raw_read : (new : List ℕ) (ys : List Lexeme) (raw : List (List Lexeme)) (xs : List SourcedItem) → AllZip (IsRaw new ys) raw xs → AreSourcedInOrder xs → AreRead new ys raw xs
raw_read new ys [] [] z order = record { read = []; reads = refl; each = tt }
raw_read new ys [] (x ∷ xs) z order = absurd z
raw_read new ys (zs ∷ raw) [] z order = absurd z
raw_read new ys (zs ∷ raw) (x ∷ xs) z order =
    read_first new ys zs raw x xs z.0 order.0 (raw_imports new ys raw xs z.1) (raw_read new ys raw xs z.1 order.2)

-- what the tokens of a printed sheet are read as
pub record IsSheetAgain (new : List ℕ) (ys : List Lexeme) (xs : List SourcedItem) : Type 0 where
  pub raw : List (List Lexeme)
  pub is_raw : filter is_whole (items ys) ≡ raw
  pub no_namespace : find (is_namespace new) raw ≡ None
  pub read : List Item
  pub reads : read_items new raw ≡ read
  pub each : AllZip (IsSourcedAgain new ys) read xs

-- Tokens that are shown as those of items, each of its own source, are read as these items.
pub sheet_again : (new : List ℕ) (ys : List Lexeme) (xs : List SourcedItem) → AreFromSources xs → AreSourcedInOrder xs → map (shown new) ys ≡ sourced_shown xs
    → IsSheetAgain new ys xs
sheet_again new ys xs sound order e =
    let cut = cut_items new ys xs sound e in
    let read = raw_read new ys cut.raw xs cut.each order in
    record {
      raw = cut.raw;
      is_raw =
          ap (λ zs. filter is_whole (items zs)) cut.whole
          ∙ ap (filter is_whole) (items_again cut.raw (raw_stand new ys cut.raw xs cut.each order))
          ∙ raw_whole new ys cut.raw xs cut.each;
      no_namespace = raw_names new ys cut.raw xs cut.each;
      read = read.read;
      reads = read.reads;
      each = read.each;
    }
