-- Texts as they are written part by part.
use Rattle.std.proofs.Common.{◌≡◌, ◌≤◌, ◌<◌, ℕ, zero, suc, ◌-◌, ◌⊎◌, inl, inr, Bool, true, false, List, [], ◌∷◌, ◌++◌, length, map, take, drop, get_or, Option, Some, None, slice_get, refl, sym, ap, ap₂, ◌∙◌, subst, append_assoc, append-nil, arith}
use Rattle.std.specs.Prelude.{◌==◌, if◌then◌else◌}
use Rattle.std.specs.List.{AllZip, join_with_byte}
use Rattle.std.proofs.lemmas.List.{take_rest}
use Rattle.css_model.specs.declared.sheet.Item.{Item}
use Rattle.css_model.specs.declared.sheet.Piece.{Piece}
use Rattle.css_model.specs.declared.token.Lexeme.{Lexeme}
use Rattle.css_model.specs.Sheets.Printed.{printed_item}
use Rattle.css_model.specs.Sheets.SheetParts.{SheetParts}
use Rattle.css_model.specs.Text.Kept.{Solid, behind_last}
use Rattle.css_model.specs.Text.Source.{text_at}
use Rattle.media_groups.specs.declared.media.Media.{Media}
use Rattle.media_groups.specs.Printed.{begins_at, behind_kept, block_text, blocks_at, next_text, texts_with}

-- the first of a list, and those behind it
pub first_of : {A : Type 0} (rest : List A) (x : A) → 1 ≤ length rest → x ≡ get_or rest 0 x → rest ≡ x ∷ take (length rest - 1) (drop 1 rest)
first_of [] x some is = absurd (omega arith)
first_of (y ∷ ys) x some is = ap₂ (λ (z : _) (zs : List _). z ∷ zs) (sym is) (sym (take_rest (y ∷ ys) 1))

pub none_behind : (s : Solid) (xs : List Lexeme) → length xs < 1 → behind_kept s xs ≡ behind_last s
none_behind s [] none = refl
none_behind s (x ∷ xs) none = absurd (omega arith)

some_not_none : (n : ℕ) → 0 < n → (n == 0) ≡ false
some_not_none n some = grind arith

-- one more part of a joined text
sign_more : {A : Type 0} (f : A → List ℕ) (sign : ℕ) (x : A) (xs : List A) → f x ++ ((if length xs == 0 then [] else sign ∷ []) ++ join_with_byte sign (map f xs)) ≡ join_with_byte sign (map f (x ∷ xs))
sign_more f sign x [] = append-nil (f x)
sign_more f sign x (y ∷ ys) = ap (λ (b : Bool). f x ++ ((if b then [] else sign ∷ []) ++ join_with_byte sign (map f (y ∷ ys)))) (some_not_none (length (y ∷ ys)) (omega arith))

pub part_more : {A : Type 0} (f : A → List ℕ) (sign : ℕ) (out text : List ℕ) (x : A) (xs : List A) (last : Bool) → last ≡ (length xs == 0) → text ≡ f x →
    ((out ++ text) ++ (if last then [] else sign ∷ [])) ++ join_with_byte sign (map f xs) ≡ out ++ join_with_byte sign (map f (x ∷ xs))
part_more f sign out text x xs last is text_is =
    ap₂ (λ (b : Bool) (t : List ℕ). ((out ++ t) ++ (if b then [] else sign ∷ [])) ++ join_with_byte sign (map f xs)) is text_is
    ∙ append_assoc (out ++ f x) (if length xs == 0 then [] else sign ∷ []) (join_with_byte sign (map f xs))
    ∙ append_assoc out (f x) ((if length xs == 0 then [] else sign ∷ []) ++ join_with_byte sign (map f xs))
    ∙ ap (λ (t : List ℕ). out ++ t) (sign_more f sign x xs)

-- the text of a block
pub block_joined : (out head body : List ℕ) → (((out ++ head) ++ 123 ∷ []) ++ body) ++ 125 ∷ [] ≡ out ++ ((head ++ 123 ∷ body) ++ 125 ∷ [])
block_joined out head body =
    ap (λ (t : List ℕ). t ++ 125 ∷ []) (append_assoc (out ++ head) (123 ∷ []) body ∙ append_assoc out head (123 ∷ body))
    ∙ append_assoc out (head ++ 123 ∷ body) (125 ∷ [])

take_short : (n : ℕ) (xs : List ℕ) → length (take n xs) ≤ length xs
take_short zero xs = omega arith
take_short (suc n) [] = omega arith
take_short (suc n) (x ∷ xs) = let rest = take_short n xs in omega (arith, rest)

drop_short : (n : ℕ) (xs : List ℕ) → length (drop n xs) ≤ length xs
drop_short zero xs = omega arith
drop_short (suc n) [] = omega arith
drop_short (suc n) (x ∷ xs) = let rest = drop_short n xs in omega (arith, rest)

pub text_short : (source : List ℕ) (piece : Piece) → length (text_at source piece) ≤ length source
text_short source piece =
    let cut = take_short (piece.«end» - piece.start) (drop piece.start source) in
    let rest = drop_short piece.start source in
    omega (arith, cut, rest)

-- ---- the first of the blocks

same_first : {A : Type 0} (x y : A) → ◌≡◌ {A = Option A} (Some x) (Some y) → x ≡ y
same_first x y e = cc

pub first_sound : (R : Media → SheetParts → Type 0) (media : List Media) (bodies : List SheetParts) (m : Media) (b : SheetParts) → AllZip R media bodies →
    Some m ≡ slice_get media 0 → Some b ≡ slice_get bodies 0 → R m b
first_sound R [] [] m b all is is' = absurd (cc)
first_sound R [] (y ∷ ys) m b all is is' = absurd all
first_sound R (x ∷ xs) [] m b all is is' = absurd all
first_sound R (x ∷ xs) (y ∷ ys) m b all is is' =
    subst (λ (z : Media). R z b) (sym (same_first m x is)) (subst (λ (z : SheetParts). R x z) (sym (same_first b y is')) all.0)

pub block_next : (source : List ℕ) (media : List Media) (bodies : List SheetParts) (m : Media) (b : SheetParts) (item : Item) →
    Some m ≡ slice_get media 0 → Some b ≡ slice_get bodies 0 → begins_at m.head.start item ≡ true → next_text source media bodies item ≡ block_text source m b
block_next source [] bodies m b item is is' begins = absurd (cc)
block_next source (x ∷ xs) [] m b item is is' begins = absurd (cc)
block_next source (x ∷ xs) (y ∷ ys) m b item is is' begins =
    let same : m ≡ x = same_first m x is in
    let body : b ≡ y = same_first b y is' in
    ap (λ (c : Bool). if c then block_text source x y else printed_item source item) (ap (λ (z : Media). begins_at z.head.start item) (sym same) ∙ begins)
    ∙ ap₂ (λ (z : Media) (w : SheetParts). block_text source z w) (sym same) (sym body)

pub other_next : (source : List ℕ) (media : List Media) (bodies : List SheetParts) (m : Media) (b : SheetParts) (item : Item) →
    Some m ≡ slice_get media 0 → Some b ≡ slice_get bodies 0 → begins_at m.head.start item ≡ false → (next_text source media bodies item ≡ printed_item source item) × (blocks_at media item ≡ 0)
other_next source [] bodies m b item is is' begins = absurd (cc)
other_next source (x ∷ xs) [] m b item is is' begins = absurd (cc)
other_next source (x ∷ xs) (y ∷ ys) m b item is is' begins =
    let same : m ≡ x = same_first m x is in
    let no : begins_at x.head.start item ≡ false = ap (λ (z : Media). begins_at z.head.start item) (sym same) ∙ begins in
    (ap (λ (c : Bool). if c then block_text source x y else printed_item source item) no, ap (λ (c : Bool). if c then 1 else 0) no)

-- where one of both lists has ended, both have
pub none_next : (R : Media → SheetParts → Type 0) (source : List ℕ) (media : List Media) (bodies : List SheetParts) (item : Item) → AllZip R media bodies →
    (slice_get media 0 ≡ None) ⊎ (slice_get bodies 0 ≡ None) → (next_text source media bodies item ≡ printed_item source item) × (blocks_at media item ≡ 0)
none_next R source [] bodies item all none = (refl, refl)
none_next R source (x ∷ xs) [] item all none = absurd all
none_next R source (x ∷ xs) (y ∷ ys) item all (inl e) = absurd (cc)
none_next R source (x ∷ xs) (y ∷ ys) item all (inr e) = absurd (cc)

-- the blocks that are left behind an item
pub drop_zip : (R : Media → SheetParts → Type 0) (n : ℕ) (media : List Media) (bodies : List SheetParts) → AllZip R media bodies → AllZip R (drop n media) (drop n bodies)
drop_zip R zero media bodies all = all
drop_zip R (suc n) [] [] all = tt
drop_zip R (suc n) [] (y ∷ ys) all = absurd all
drop_zip R (suc n) (x ∷ xs) [] all = absurd all
drop_zip R (suc n) (x ∷ xs) (y ∷ ys) all = drop_zip R n xs ys all.1

pub zip_length : (R : Media → SheetParts → Type 0) (media : List Media) (bodies : List SheetParts) → AllZip R media bodies → length media ≡ length bodies
zip_length R [] [] all = refl
zip_length R [] (y ∷ ys) all = absurd all
zip_length R (x ∷ xs) [] all = absurd all
zip_length R (x ∷ xs) (y ∷ ys) all = let rest = zip_length R xs ys all.1 in omega (arith, rest)

pub blocks_within : (media : List Media) (item : Item) → blocks_at media item ≤ length media
blocks_within [] item = omega arith
blocks_within (m ∷ media) item = which (begins_at m.head.start item)
  where
    which : (b : Bool) → (if b then 1 else 0) ≤ length (m ∷ media)
    which true = omega arith
    which false = omega arith

-- a turn of the loop over items
pub items_step : (source : List ℕ) (out out' whole : List ℕ) (media : List Media) (bodies : List SheetParts) (rest others : List Item) (item : Item) → rest ≡ item ∷ others →
    out ++ texts_with source media bodies rest ≡ whole → out' ≡ out ++ next_text source media bodies item →
    out' ++ texts_with source (drop (blocks_at media item) media) (drop (blocks_at media item) bodies) others ≡ whole
items_step source out out' whole media bodies rest others item cut text next =
    let later = texts_with source (drop (blocks_at media item) media) (drop (blocks_at media item) bodies) others in
    ap (λ (t : List ℕ). t ++ later) next ∙ append_assoc out (next_text source media bodies item) later
    ∙ ap (λ (xs : List Item). out ++ texts_with source media bodies xs) (sym cut) ∙ text
