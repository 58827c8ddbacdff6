-- Where the kept blocks of a sheet begin: each behind those before it.
use Rattle.std.proofs.Common.{◌≡◌, inl, inr, ◌≤◌, ◌<◌, ℕ, zero, suc, ◌+◌, Bool, true, false, cond, List, [], ◌∷◌, drop, take, Option, Some, None, Result, Ok, Err, refl, sym, ap, subst, arith}
use Rattle.std.specs.Prelude.{⊤, if◌then◌else◌}
use Rattle.std.specs.List.{cons_option, filter, list_any, position_or_len}
use Rattle.css_model.specs.declared.reason.Reason.{Reason}
use Rattle.css_model.specs.declared.sheet.DeclItem.{DeclItem}
use Rattle.css_model.specs.declared.sheet.Item.{Item}
use Rattle.css_model.specs.declared.sheet.Item.TheVariants.{Rule, KeptRule, KeptBlock}
use Rattle.css_model.specs.declared.sheet.Piece.{Piece}
use Rattle.css_model.specs.declared.sheet.SelItem.{SelItem}
use Rattle.css_model.specs.declared.token.Lexeme.{Lexeme}
use Rattle.css_model.specs.Lists.{less_one}
use Rattle.css_model.specs.Sheets.ComesFrom.{Follows}
use Rattle.css_model.specs.Sheets.Declarations.{declarations}
use Rattle.css_model.specs.Sheets.Items.{closes_block, end_len, ends_prelude, is_at_keyword, is_at_rule, is_between_items, is_whole, item_len, items, items_from, opens_block}
use Rattle.css_model.specs.Sheets.Selectors.{selectors}
use Rattle.css_model.specs.Sheets.Sheet.{is_import, item_of, read_items, rule_of, rule_or_block, sheet_of}
use Rattle.css_model.specs.Sheets.Sound.{raw_items}
use Rattle.css_model.specs.Sheets.Spelling.{lexemes_of}
use Rattle.css_model.specs.Text.Lexemes.{piece_of}
use Rattle.print_laws.proofs.ForCallers.{Ground, clean-of, tested-of}
use Rattle.sheet_laws.proofs.ForCallers.{AreAscending}

-- the kept blocks of items begin from this place on, one behind the other
abbrev pub BlocksAscend : ℕ → List Item → Type 0
BlocksAscend at [] = ⊤
BlocksAscend at (Rule r ∷ items) = BlocksAscend at items
BlocksAscend at (KeptRule k ∷ items) = BlocksAscend at items
BlocksAscend at (KeptBlock piece ∷ items) = (at ≤ piece.start) × BlocksAscend (suc piece.start) items

sooner : (low at : ℕ) (items : List Item) → low ≤ at → BlocksAscend at items → BlocksAscend low items
sooner low at [] le ascend = tt
sooner low at (Rule r ∷ items) le ascend = sooner low at items le ascend
sooner low at (KeptRule k ∷ items) le ascend = sooner low at items le ascend
sooner low at (KeptBlock piece ∷ items) le ascend = (omega (arith, le, ascend.0), ascend.1)

-- ---- the items of tokens begin so

abbrev ItemsAscend : ℕ → List (List Lexeme) → Type 0
ItemsAscend at [] = ⊤
ItemsAscend at (xs ∷ rest) = (at ≤ (piece_of xs).start) × ItemsAscend (suc (piece_of xs).start) rest

items_sooner : (low at : ℕ) (raw : List (List Lexeme)) → low ≤ at → ItemsAscend at raw → ItemsAscend low raw
items_sooner low at [] le ascend = tt
items_sooner low at (xs ∷ raw) le ascend = (omega (arith, le, ascend.0), ascend.1)

-- an item has a token
some_end : (x : Lexeme) (xs : List Lexeme) → 0 < end_len (x ∷ xs)
some_end x xs = which (opens_block x)
  where
    which : (b : Bool) → 0 < cond b (2 + position_or_len closes_block xs) 1
    which true = omega arith
    which false = omega arith

some_item : (x : Lexeme) (xs : List Lexeme) → 0 < item_len (x ∷ xs)
some_item x xs = at (position_or_len (ends_prelude (is_at_keyword x.kind)) (x ∷ xs))
  where
    at : (n : ℕ) → 0 < n + end_len (drop n (x ∷ xs))
    at zero = let some = some_end x xs in omega (arith, some)
    at (suc n) = omega arith

items_ascend : (left at : ℕ) (xs : List Lexeme) → AreAscending at xs → ItemsAscend at (items_from left xs)
items_ascend left at [] ascend = tt
items_ascend (suc left) at (x ∷ xs) ascend = items_sooner at x.span.«end» (items_from left xs) (omega (arith, ascend.0, ascend.1)) (items_ascend left x.span.«end» xs ascend.2)
items_ascend zero at (x ∷ xs) ascend =
    which (is_between_items x.kind) (item_len (x ∷ xs)) (some_item x xs) (λ left. items_ascend left x.span.«end» xs ascend.2)
  where
    which : (b : Bool) (n : ℕ) → 0 < n → ((left : ℕ) → ItemsAscend x.span.«end» (items_from left xs)) →
        ItemsAscend at (if b then items_from 0 xs else take n (x ∷ xs) ∷ items_from (less_one n) xs)
    which true n some later = items_sooner at x.span.«end» (items_from 0 xs) (omega (arith, ascend.0, ascend.1)) (later 0)
    which false zero some later = absurd (omega (arith, some))
    which false (suc n) some later = (ascend.0, items_sooner (suc x.span.start) x.span.«end» (items_from n xs) (omega (arith, ascend.1)) (later n))

kept_ascend : (p : List Lexeme → Bool) (at : ℕ) (raw : List (List Lexeme)) → ItemsAscend at raw → ItemsAscend at (filter p raw)
kept_ascend p at [] ascend = tt
kept_ascend p at (xs ∷ raw) ascend = which (p xs) (kept_ascend p (suc (piece_of xs).start) raw ascend.1)
  where
    which : (b : Bool) → ItemsAscend (suc (piece_of xs).start) (filter p raw) → ItemsAscend at (if b then xs ∷ filter p raw else filter p raw)
    which true later = (ascend.0, later)
    which false later = items_sooner at (suc (piece_of xs).start) (filter p raw) (omega (arith, ascend.0)) later

-- ---- and so do those that are read

-- an item that is no kept block, or the one of this piece
abbrev IsAtPiece : Piece → Option Item → Type 0
IsAtPiece piece None = ⊤
IsAtPiece piece (Some (Rule r)) = ⊤
IsAtPiece piece (Some (KeptRule k)) = ⊤
IsAtPiece piece (Some (KeptBlock p)) = p ≡ piece

rule_at : (piece : Piece) (read : Result (List SelItem) Reason) (ds : List DeclItem) → IsAtPiece piece (rule_of piece read ds)
rule_at piece (Err reason) ds = tt
rule_at piece (Ok read) [] = tt
rule_at piece (Ok read) (d ∷ ds) = tt

item_at : (source : List ℕ) (xs : List Lexeme) → IsAtPiece (piece_of xs) (item_of source xs)
item_at source xs = which (is_at_rule xs) (declarations source xs)
  where
    which : (b : Bool) (ds : Option (List DeclItem)) → IsAtPiece (piece_of xs) (if b then Some (KeptBlock (piece_of xs)) else rule_or_block (piece_of xs) (selectors source xs) ds)
    which true ds = refl
    which false None = refl
    which false (Some ds) = rule_at (piece_of xs) (selectors source xs) ds

read_ascend : (source : List ℕ) (at : ℕ) (raw : List (List Lexeme)) → ItemsAscend at raw → BlocksAscend at (read_items source raw)
read_ascend source at [] ascend = tt
read_ascend source at (xs ∷ raw) ascend = which (list_any (is_import source) raw) (item_of source xs) (item_at source xs) (read_ascend source (suc (piece_of xs).start) raw ascend.1)
  where
    le : at ≤ suc (piece_of xs).start
    le = omega (arith, ascend.0)

    put : (o : Option Item) → IsAtPiece (piece_of xs) o → BlocksAscend (suc (piece_of xs).start) (read_items source raw) → BlocksAscend at (cons_option o (read_items source raw))
    put None is later = sooner at (suc (piece_of xs).start) (read_items source raw) le later
    put (Some (Rule r)) is later = sooner at (suc (piece_of xs).start) (read_items source raw) le later
    put (Some (KeptRule k)) is later = sooner at (suc (piece_of xs).start) (read_items source raw) le later
    put (Some (KeptBlock p)) is later =
        let start : (piece_of xs).start ≡ p.start = ap (λ (q : Piece). q.start) (sym is) in
        (omega (arith, ascend.0, start), subst (λ (n : ℕ). BlocksAscend (suc n) (read_items source raw)) start later)

    which : (b : Bool) (o : Option Item) → IsAtPiece (piece_of xs) o → BlocksAscend (suc (piece_of xs).start) (read_items source raw) →
        BlocksAscend at (cons_option (if b then Some (KeptBlock (piece_of xs)) else o) (read_items source raw))
    which true o is later = (ascend.0, later)
    which false o is later = put o is later

-- The kept blocks of a sheet that is read stand one behind the other.
pub sheet_ascends : (source : List ℕ) (its : List Item) → Ground source → sheet_of source ≡ Ok its → BlocksAscend 0 its
sheet_ascends source its g e =
    subst (BlocksAscend 0) (tested-of source its (clean-of source its e)).same
    (read_ascend source 0 (raw_items source) (kept_ascend is_whole 0 (items (lexemes_of source)) (items_ascend 0 0 (lexemes_of source) g.good.ascending)))

-- So do those of items that follow them.
pub follow_ascend : (at : ℕ) (new old : List Item) → Follows new old → BlocksAscend at old → BlocksAscend at new
follow_ascend at [] old f ascend = tt
follow_ascend at (item ∷ new) [] f ascend = absurd f
follow_ascend at (Rule q ∷ new) (Rule r ∷ old) (inl f) ascend = follow_ascend at new (Rule r ∷ old) f ascend
follow_ascend at (Rule q ∷ new) (Rule r ∷ old) (inr f) ascend = follow_ascend at (Rule q ∷ new) old f ascend
follow_ascend at (KeptRule j ∷ new) (Rule r ∷ old) f ascend = follow_ascend at (KeptRule j ∷ new) old f ascend
follow_ascend at (KeptBlock o ∷ new) (Rule r ∷ old) f ascend = follow_ascend at (KeptBlock o ∷ new) old f ascend
follow_ascend at (Rule q ∷ new) (KeptRule k ∷ old) f ascend = absurd f
follow_ascend at (KeptRule j ∷ new) (KeptRule k ∷ old) f ascend = follow_ascend at new old f.1 ascend
follow_ascend at (KeptBlock o ∷ new) (KeptRule k ∷ old) f ascend = absurd f
follow_ascend at (Rule q ∷ new) (KeptBlock p ∷ old) f ascend = absurd f
follow_ascend at (KeptRule j ∷ new) (KeptBlock p ∷ old) f ascend = absurd f
follow_ascend at (KeptBlock o ∷ new) (KeptBlock p ∷ old) f ascend =
    let start : p.start ≡ o.start = ap (λ (q : Piece). q.start) (sym f.0) in
    (omega (arith, ascend.0, start), subst (λ (n : ℕ). BlocksAscend (suc n) new) start (follow_ascend (suc p.start) new old f.1 ascend.1))
