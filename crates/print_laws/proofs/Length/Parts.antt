-- What is printed for the parts of a rule fits in the room of their tokens.
use Rattle.std.proofs.Common.{ℕ, suc, ◌+◌, ◌-◌, ◌<◌, ◌≤◌, ◌≡◌, Bool, true, false, cond, List, [], ◌∷◌, ◌++◌, Option, Some, None, Result, Ok, Err, length, map, drop, take, refl, sym, ap, ◌∙◌, subst, arith}
use Rattle.std.specs.Prelude.{◌&&◌, ◌||◌, if◌then◌else◌, codes}
use Rattle.std.specs.List.{AllByRecursion, before_first, after_first, slice_split, onto_first, list_any, filter_map, cons_option, join_with_byte}
use Rattle.std.proofs.lemmas.Bool.{and_parts, false≢true}
use Rattle.std.proofs.lemmas.List.{length-append, length-take, take-append-drop}
use Rattle.css_model.specs.declared.sheet.DeclItem.{DeclItem}
use Rattle.css_model.specs.declared.token.Gap.{Gap}
use Rattle.css_model.specs.declared.token.Gap.TheVariants as gap
use Rattle.css_model.specs.declared.token.Lexeme.{Lexeme}
use Rattle.css_model.specs.declared.token.TokenKind.{TokenKind}
use Rattle.css_model.specs.declared.token.TokenKind.TheVariants as kind
use Rattle.css_model.specs.Text.Characters.{colon, line_feed, space, exclamation_mark}
use Rattle.css_model.specs.Text.Lexemes.{is_ident, is_delim_of}
use Rattle.css_model.specs.Text.Names.{is_named}
use Rattle.css_model.specs.Sheets.Declarations.{is_custom, is_importance, is_important, without_importance, text_of_value, decl_item, declaration}
use Rattle.css_model.specs.Text.Kept.{Solid, solid, between, behind_last, behind_value, spelled, kept, value_text, is_lone, is_open, is_white_gap}
use Rattle.css_model.specs.Text.Lexemes.{is_sign_of}
use Rattle.css_model.specs.Sheets.Printed.{importance, printed_declaration}
use Rattle.css_model.specs.Lists.{all_of, before_all}
use Rattle.css_model.specs.Text.Source.{text_at}
use Rattle.list_facts.proofs.Cuts.{before_here, before_later, after_here, after_later}
use Rattle.list_facts.proofs.Sums.{total}
use Rattle.print_laws.proofs.Length.Names.{important_size}
use Rattle.print_laws.proofs.Length.Room.{cost, cost_is, cost_by, weight}

pub total-append : {A : Type 0} (f : A → ℕ) (xs ys : List A) → total f (xs ++ ys) ≡ total f xs + total f ys
total-append f [] ys = omega arith
total-append f (x ∷ xs) ys = omega (arith, total-append f xs ys)

-- what stands before the first element that passes, that element and what stands behind it
pub total_cut : {A : Type 0} (f : A → ℕ) → ((x : A) → 0 < f x) → (p : A → Bool) (xs : List A) → list_any p xs ≡ true
    → total f (before_first p xs) + suc (total f (after_first p xs)) ≤ total f xs
total_cut f some p [] any = absurd (false≢true any)
total_cut f some p (x ∷ xs) any = which (p x) refl (total_cut f some p xs)
  where
    which : (b : Bool) → p x ≡ b → (list_any p xs ≡ true → total f (before_first p xs) + suc (total f (after_first p xs)) ≤ total f xs)
        → total f (before_first p (x ∷ xs)) + suc (total f (after_first p (x ∷ xs))) ≤ f x + total f xs
    which true is again = rw (before_here p x xs is, after_here p x xs is) (omega (arith, some x))
    which false is again =
        let later = again (ap (λ (b : Bool). b || list_any p xs) (sym is) ∙ any) in
        rw (before_later p x xs is, after_later p x xs is) (omega (arith, later))

-- the parts between separators, with one more for each
pub total_split : {A : Type 0} (f : A → ℕ) → ((x : A) → 0 < f x) → (p : A → Bool) (xs : List A)
    → total (λ part. suc (total f part)) (slice_split p xs) ≤ suc (total f xs)
total_split f some p [] = omega arith
total_split {A = A} f some p (x ∷ xs) = which (p x) (slice_split p xs) (total_split f some p xs)
  where
    ones : List (List A) → ℕ
    ones = total (λ part. suc (total f part))

    which : (b : Bool) (parts : List (List A)) → total (λ part. suc (total f part)) parts ≤ suc (total f xs)
        → total (λ part. suc (total f part)) (cond b ([] ∷ parts) (onto_first x parts)) ≤ suc (f x + total f xs)
    which true parts later = omega (arith, later, some x)
    which false [] later = omega (arith, later)
    which false (part ∷ parts) later = omega (arith, later)

-- texts with a byte between each two
pub join_size : {A : Type 0} (c : ℕ) (g : A → List ℕ) (xs : List A) → length (join_with_byte c (map g xs)) ≤ total (λ x. suc (length (g x))) xs - 1
join_size c g [] = omega arith
join_size c g (x ∷ []) = omega arith
join_size c g (x ∷ y ∷ ys) = omega (arith, length-append (g x) (c ∷ join_with_byte c (map g (y ∷ ys))), join_size c g (y ∷ ys))

-- what is made of some elements, each no larger than what it is made of
pub total_chosen : {A B : Type 0} (f : A → ℕ) (g : B → ℕ) (h : A → Option B) → ((x : A) (y : B) → h x ≡ Some y → g y ≤ f x)
    → (xs : List A) → total g (filter_map h xs) ≤ total f xs
total_chosen f g h fits [] = omega arith
total_chosen {B = B} f g h fits (x ∷ xs) = which (h x) refl (total_chosen f g h fits xs)
  where
    which : (o : Option B) → h x ≡ o → total g (filter_map h xs) ≤ total f xs → total g (cons_option o (filter_map h xs)) ≤ f x + total f xs
    which None is later = omega (arith, later)
    which (Some y) is later = omega (arith, later, fits x y is)

pub total_all : {A B E : Type 0} (P : A → Type 0) (f : A → ℕ) (g : B → ℕ) (h : A → Result B E) → ((x : A) (y : B) → P x → h x ≡ Ok y → g y ≤ f x)
    → (xs : List A) → AllByRecursion P xs → (ys : List B) → all_of h xs ≡ Ok ys → total g ys ≤ total f xs
total_all P f g h fits [] all ys is = let none : [] ≡ ys = cc in subst (λ (zs : List _). total g zs ≤ 0) none (omega arith)
total_all {B = B} {E = E} P f g h fits (x ∷ xs) (first, all) ys is = which (h x) refl (all_of h xs) refl is (λ zs more. total_all P f g h fits xs all zs more)
  where
    which : (r : Result B E) → h x ≡ r → (rest : Result (List B) E) → all_of h xs ≡ rest → before_all r rest ≡ Ok ys
        → ((zs : List B) → all_of h xs ≡ Ok zs → total g zs ≤ total f xs) → total g ys ≤ f x + total f xs
    which (Err error) is rest more e later = absurd cc
    which (Ok y) is (Err error) more e later = absurd cc
    which (Ok y) is (Ok zs) more e later =
        let same : y ∷ zs ≡ ys = cc in
        subst (λ (zs : List B). total g zs ≤ f x + total f xs) same (omega (arith, fits x y first is, later zs more))

-- a token's bytes, and what is printed behind it
pub text_size : (source : List ℕ) (x : Lexeme) → length (text_at source x.span) + cost source x ≤ weight source x
unfolding weight
text_size source x =
    let size = length-take (x.span.«end» - x.span.start) (drop x.span.start source) in
    omega (arith, size)

pub weight_some : (source : List ℕ) (x : Lexeme) → suc (cost source x) ≤ weight source x
unfolding weight
weight_some source x = omega arith

between_cost : (source : List ℕ) (x : Lexeme) → length (between (solid source x)) ≡ cost source x
unfolding cost
between_cost source x = refl

-- what stands behind the last token is no more than what would stand before a next one
last_cost : (source : List ℕ) (x : Lexeme) → length (behind_last (solid source x)) ≤ cost source x
last_cost source x = rw (cost_is source x) (which (is_lone x.kind))
  where
    which : (b : Bool) → length (if b then line_feed ∷ [] else []) ≤ cost_by b (is_open (text_at source x.span)) x.gap
    which true = omega arith
    which false = omega arith

value_cost : (source : List ℕ) (x : Lexeme) → length (behind_value (solid source x)) ≤ cost source x
value_cost source x = rw (cost_is source x) (which (is_lone x.kind) (is_open (text_at source x.span)) x.gap)
  where
    which : (b o : Bool) (g : Gap) → length (if b then line_feed ∷ [] else if is_white_gap g && o then space ∷ [] else []) ≤ cost_by b o g
    which true o g = omega arith
    which false true gap.White = omega arith
    which false false gap.White = omega arith
    which false o gap.Nothing = omega arith
    which false o gap.Comments = omega arith

spelled_size : (source : List ℕ) (last : Solid → List ℕ) → ((x : Lexeme) → length (last (solid source x)) ≤ cost source x)
    → (xs : List Lexeme) → length (spelled last (map (solid source) xs)) ≤ total (weight source) xs
spelled_size source last fits [] = omega arith
spelled_size source last fits (x ∷ []) = omega (arith, length-append (text_at source x.span) (last (solid source x)), fits x, text_size source x)
spelled_size source last fits (x ∷ y ∷ ys) =
    let rest = spelled last (map (solid source) (y ∷ ys)) in
    let text = text_at source x.span in
    let front = text ++ between (solid source x) in
    let whole : length (front ++ rest) ≡ length text + cost source x + length rest =
    length-append front rest
    ∙ ap (λ (n : ℕ). n + length rest) (length-append text (between (solid source x)) ∙ ap (λ (n : ℕ). length text + n) (between_cost source x)) in
    let here : length (front ++ rest) ≤ weight source x + total (weight source) (y ∷ ys) =
    omega (arith, whole, text_size source x, spelled_size source last fits (y ∷ ys)) in
    here

pub kept_size : (source : List ℕ) (xs : List Lexeme) → length (kept (map (solid source) xs)) ≤ total (weight source) xs
kept_size source xs = spelled_size source behind_last (last_cost source) xs

value_size : (source : List ℕ) (xs : List Lexeme) → length (value_text (map (solid source) xs)) ≤ total (weight source) xs
value_size source xs = spelled_size source behind_value (value_cost source) xs

-- `!important` has ten bytes, as its two tokens have at least
importance_size : (source : List ℕ) (xs : List Lexeme) → is_importance source xs ≡ true → 10 ≤ total (weight source) xs
importance_size source [] is = absurd (false≢true is)
importance_size source (x ∷ []) is = absurd (false≢true is)
importance_size source (x ∷ y ∷ z ∷ zs) is = absurd (false≢true is)
importance_size source (x ∷ y ∷ []) is =
    let name = text_at source y.span in
    let named = (and_parts (is_delim_of exclamation_mark x.kind && is_ident y.kind) (is_named (codes "important") name) is).1 in
    omega (arith, important_size name named, text_size source y, weight_some source x)

-- a value and its importance
plain_size : (source : List ℕ) (value : List Lexeme) → total (weight source) (without_importance source value) + length (importance (is_important source value)) ≤ total (weight source) value
plain_size source value = which (is_important source value) refl
  where
    n : ℕ
    n = length value - 2

    which : (b : Bool) → is_important source value ≡ b → total (weight source) (if b then take n value else value) + length (importance b) ≤ total (weight source) value
    which true is =
        let whole : total (weight source) value ≡ total (weight source) (take n value) + total (weight source) (drop n value) =
        ap (total (weight source)) (sym (take-append-drop n value)) ∙ total-append (weight source) (take n value) (drop n value) in
        omega (arith, whole, importance_size source (drop n value) is)
    which false is = omega arith

-- the white space behind a colon that is a value
colon_not_lone : (k : TokenKind) → is_sign_of colon k ≡ true → is_lone k ≡ false
colon_not_lone (kind.Sign c) is = refl
colon_not_lone _ is = absurd (false≢true is)

text_of_value_size : (source : List ℕ) (custom : Bool) (sign : Lexeme) (plain : List Lexeme) → is_sign_of colon sign.kind ≡ true
    → length (text_of_value source custom sign plain) ≤ cost source sign + total (weight source) plain
text_of_value_size source custom sign [] is = rw (cost_is source sign, colon_not_lone sign.kind is) (which custom (is_open (text_at source sign.span)) sign.gap)
  where
    which : (c o : Bool) (g : Gap) → length (if c && is_white_gap g then space ∷ [] else []) ≤ cost_by false o g + 0
    which true true gap.White = omega arith
    which true false gap.White = omega arith
    which true o gap.Nothing = omega arith
    which true o gap.Comments = omega arith
    which false o g = omega arith
text_of_value_size source custom sign (x ∷ xs) is = omega (arith, value_size source (x ∷ xs))

declared_size : (source : List ℕ) (name sign : Lexeme) (value : List Lexeme) → is_sign_of colon sign.kind ≡ true
    → length (printed_declaration source (decl_item source name sign value)) ≤ total (weight source) (name ∷ sign ∷ value)
declared_size source name sign value is =
    let d = decl_item source name sign value in
    let plain = without_importance source value in
    let text = text_at source name.span in
    let front = text ++ (colon ∷ d.decl.value) in
    let whole : length (front ++ importance d.decl.important) ≡ length text + suc (length d.decl.value) + length (importance d.decl.important) =
    length-append front (importance d.decl.important) ∙ ap (λ (n : ℕ). n + length (importance d.decl.important)) (length-append text (colon ∷ d.decl.value)) in
    let here : length (front ++ importance d.decl.important) ≤ weight source name + (weight source sign + total (weight source) value) =
    omega (arith, whole, text_of_value_size source (is_custom d.decl.name) sign plain is, plain_size source value, weight_some source sign, text_size source name) in
    here

pub declaration_size : (source : List ℕ) (entry : List Lexeme) (d : DeclItem) → declaration source entry ≡ Some d → length (printed_declaration source d) ≤ total (weight source) entry
declaration_size source [] d is = absurd cc
declaration_size source (x ∷ []) d is = absurd cc
declaration_size source (name ∷ sign ∷ value) d is = which (is_ident name.kind && is_sign_of colon sign.kind) refl is
  where
    which : (b : Bool) → (is_ident name.kind && is_sign_of colon sign.kind) ≡ b → (if b then Some (decl_item source name sign value) else None) ≡ Some d
        → length (printed_declaration source d) ≤ total (weight source) (name ∷ sign ∷ value)
    which true test e =
        let same : decl_item source name sign value ≡ d = cc in
        subst (λ (d : DeclItem). length (printed_declaration source d) ≤ total (weight source) (name ∷ sign ∷ value)) same
        (declared_size source name sign value (and_parts (is_ident name.kind) (is_sign_of colon sign.kind) test).1)
    which false test e = absurd cc
