-- The entries of a block and their declarations are those of the grammar.
use Rattle.std.proofs.Common.{ℕ, ◌+◌, ◌-◌, ◌≡◌, ◌⊎◌, inl, inr, Bool, true, false, cond, not, ◌&&◌, List, [], ◌∷◌, ◌++◌, Option, Some, None, length, take, drop, refl, sym, ap, ◌∙◌, subst, arith}
use Rattle.std.specs.List.{cons_option, filter_map, list_any, slice_split}
use Rattle.std.proofs.lemmas.Bool.{and_from, and_parts, false≢true, false_from_ne_true, not-true, or_cases, or_from, or_left, or_parts, or_right, true≢false}
use Rattle.std.proofs.lemmas.List.{append-nil, drop_at, length-append, take-append-drop, take_at}
use Rattle.css_model.specs.declared.sheet.DeclItem.{DeclItem}
use Rattle.css_model.specs.declared.sheet.Piece.{Piece}
use Rattle.css_model.specs.declared.token.Lexeme.{Lexeme}
use Rattle.css_model.specs.Sheets.Declarations.{decl_item, declaration, declares_custom, is_custom, is_importance, is_important, is_nested, piece_of_value, property_of, text_of_value, without_importance}
use Rattle.css_model.specs.Sheets.Items.{is_at_rule}
use Rattle.css_model.specs.Text.Characters.{colon, open_curly}
use Rattle.css_model.specs.Text.Lexemes.{is_ident, is_sign_at, is_sign_of}
use Rattle.css_model.specs.Text.Names.{decoded}
use Rattle.css_model.specs.Text.Source.{text_at}
use Rattle.list_facts.proofs.Cuts.{split_at, split_none}
use Rattle.sheet_grammar.specs.Entries.{AreDeclarations, ArePartsBy, IsDeclaration, IsEnding, IsNested}
use Rattle.sheet_grammar.specs.Entries.AreDeclarations.{at_end, declared, dropped}
use Rattle.sheet_grammar.specs.Entries.ArePartsBy.{last, more}
use Rattle.sheet_grammar.specs.Entries.IsEnding.{important, nothing}
use Rattle.sheet_grammar.specs.Entries.IsNested.{at_rule, block}
use Rattle.sheet_grammar.proofs.ItemLemmas.{none_of_any}

-- ---- the parts between signs

pub parts_read : (b n : ℕ) (xs : List Lexeme) (parts : List (List Lexeme)) → ArePartsBy b n xs parts → slice_split (is_sign_at b n) xs ≡ parts
parts_read b n xs parts (last part none) = split_none (is_sign_at b n) part (none_of_any (is_sign_at b n) part none)
parts_read b n xs parts (more part rest x others none is later) =
    split_at (is_sign_at b n) part x rest (none_of_any (is_sign_at b n) part none) is ∙ ap (λ (t : List (List Lexeme)). part ∷ t) (parts_read b n rest others later)

abbrev SomeParts : ℕ → ℕ → List Lexeme → Type 0
SomeParts b n xs = (parts : List (List Lexeme)) × ArePartsBy b n xs parts

with_first : (b n : ℕ) (x : Lexeme) → is_sign_at b n x ≡ false → (xs : List Lexeme) (parts : List (List Lexeme)) → ArePartsBy b n xs parts → SomeParts b n (x ∷ xs)
with_first b n x apart xs parts (last part none) = ((x ∷ part) ∷ [], last (x ∷ part) (or_from (is_sign_at b n x) (list_any (is_sign_at b n) part) apart none))
with_first b n x apart xs parts (more part rest y others none is later) =
    ((x ∷ part) ∷ others, more (x ∷ part) rest y others (or_from (is_sign_at b n x) (list_any (is_sign_at b n) part) apart none) is later)

some_parts : (b n : ℕ) (xs : List Lexeme) → SomeParts b n xs
some_parts b n [] = ([] ∷ [], last [] refl)
some_parts b n (x ∷ xs) = by (is_sign_at b n x) refl (some_parts b n xs)
  where
    by : (t : Bool) → is_sign_at b n x ≡ t → SomeParts b n xs → SomeParts b n (x ∷ xs)
    by true is p = ([] ∷ p.0, more [] xs x p.0 refl is p.1)
    by false apart p = with_first b n x apart xs p.0 p.1

pub parts_are : (b n : ℕ) (xs : List Lexeme) → ArePartsBy b n xs (slice_split (is_sign_at b n) xs)
parts_are b n xs = let p = some_parts b n xs in subst (ArePartsBy b n xs) (sym (parts_read b n xs p.0 p.1)) p.1

-- ---- declarations

importance_two : (source : List ℕ) (xs : List Lexeme) → is_importance source xs ≡ true → length xs ≡ 2
importance_two source [] is = absurd (false≢true is)
importance_two source (x ∷ []) is = absurd (false≢true is)
importance_two source (x ∷ y ∷ []) is = refl
importance_two source (x ∷ y ∷ z ∷ zs) is = absurd (false≢true is)

-- a value before what ends it
record Ended (source : List ℕ) (text ending : List Lexeme) : Type 0 where
  plain : without_importance source (text ++ ending) ≡ text
  flag : is_important source (text ++ ending) ≡ is_importance source ending

ended : (source : List ℕ) (text ending : List Lexeme) → IsEnding source text ending → Ended source text ending
ended source text ending (important is) =
    let whole = text ++ ending in
    let size : length text ≡ length whole - 2 = omega (arith, length-append text ending, importance_two source ending is) in
    let behind : drop (length whole - 2) whole ≡ ending = drop_at text ending (length whole - 2) size in
    let before : take (length whole - 2) whole ≡ text = take_at text ending (length whole - 2) size in
    let flag : is_important source whole ≡ is_importance source ending = ap (is_importance source) behind in
    record { plain = ap (λ (b : Bool). cond b (take (length whole - 2) whole) whole) (flag ∙ is) ∙ before; flag = flag }
ended source text ending (nothing e none) =
    let same : text ++ ending ≡ text = ap (λ (t : List Lexeme). text ++ t) e ∙ append-nil text in
    let denied : is_important source text ≡ false = none (take (length text - 2) text) (drop (length text - 2) text) (sym (take-append-drop (length text - 2) text)) in
    let plain : without_importance source text ≡ text = ap (λ (b : Bool). cond b (take (length text - 2) text) text) denied in
    record {
      plain = ap (without_importance source) same ∙ plain;
      flag = ap (is_important source) same ∙ (denied ∙ ap (is_importance source) (sym e));
    }

-- a declaration from its parts
abbrev made : List ℕ → List ℕ → Bool → Piece → Piece → DeclItem
made name value flag place value_place = record { decl = record { name = name; value = value; important = flag }; name = place; value = value_place }

pub declaration_of : (source : List ℕ) (entry : List Lexeme) (d : DeclItem) → IsDeclaration source entry d → declaration source entry ≡ Some d
declaration_of source entry d is = by (ended source is.text is.ending is.is_ending)
  where
    by : Ended source is.text is.ending → declaration source entry ≡ Some d
    by e =
        let value = is.text ++ is.ending in
        let property = property_of (decoded (text_at source is.ident.span)) in
        let test : (is_ident is.ident.kind && is_sign_of colon is.sign.kind) ≡ true = and_from (is_ident is.ident.kind) (is_sign_of colon is.sign.kind) is.is_name is.is_colon in
        let shown : declaration source entry ≡ Some (decl_item source is.ident is.sign value) =
        ap (declaration source) is.joined ∙ ap (λ (b : Bool). let o : Option DeclItem = cond b (Some (decl_item source is.ident is.sign value)) None in o) test in
        let first : decl_item source is.ident is.sign value
        ≡ made property (text_of_value source (is_custom property) is.sign is.text) (is_important source value) is.ident.span (piece_of_value (is_custom property) is.sign is.text) =
        ap
        (λ (t : List Lexeme). made property (text_of_value source (is_custom property) is.sign t) (is_important source value) is.ident.span (piece_of_value (is_custom property) is.sign t))
        e.plain in
        let second : made property (text_of_value source (is_custom property) is.sign is.text) (is_important source value) is.ident.span (piece_of_value (is_custom property) is.sign is.text)
        ≡ made property (text_of_value source (is_custom property) is.sign is.text) d.decl.important is.ident.span (piece_of_value (is_custom property) is.sign is.text) =
        ap (λ (f : Bool). made property (text_of_value source (is_custom property) is.sign is.text) f is.ident.span (piece_of_value (is_custom property) is.sign is.text)) (e.flag ∙ sym is.importance) in
        let third : made property (text_of_value source (is_custom property) is.sign is.text) d.decl.important is.ident.span (piece_of_value (is_custom property) is.sign is.text)
        ≡ made d.decl.name (text_of_value source (is_custom d.decl.name) is.sign is.text) d.decl.important is.ident.span (piece_of_value (is_custom d.decl.name) is.sign is.text) =
        ap (λ (n : List ℕ). made n (text_of_value source (is_custom n) is.sign is.text) d.decl.important is.ident.span (piece_of_value (is_custom n) is.sign is.text)) (sym is.property) in
        let fourth : made d.decl.name (text_of_value source (is_custom d.decl.name) is.sign is.text) d.decl.important is.ident.span (piece_of_value (is_custom d.decl.name) is.sign is.text)
        ≡ made d.decl.name d.decl.value d.decl.important is.ident.span (piece_of_value (is_custom d.decl.name) is.sign is.text) =
        ap (λ (v : List ℕ). made d.decl.name v d.decl.important is.ident.span (piece_of_value (is_custom d.decl.name) is.sign is.text)) (sym is.says) in
        let fifth : made d.decl.name d.decl.value d.decl.important is.ident.span (piece_of_value (is_custom d.decl.name) is.sign is.text) ≡ d =
        ap (λ (p : Piece). made d.decl.name d.decl.value d.decl.important p (piece_of_value (is_custom d.decl.name) is.sign is.text)) (sym is.name_place)
        ∙ ap (λ (p : Piece). made d.decl.name d.decl.value d.decl.important d.name p) (sym is.value_place) in
        shown ∙ ap (λ (x : DeclItem). Some x) (first ∙ (second ∙ (third ∙ (fourth ∙ fifth))))

-- what is read as a declaration is one
built : (source : List ℕ) (ident sign : Lexeme) (value : List Lexeme) → is_ident ident.kind ≡ true → is_sign_of colon sign.kind ≡ true
    → IsDeclaration source (ident ∷ sign ∷ value) (decl_item source ident sign value)
built source ident sign value is_name is_colon = by (is_important source value) refl
  where
    -- no ending is `!important`
    none_ends : is_important source value ≡ false → (front rest : List Lexeme) → value ≡ front ++ rest → is_importance source rest ≡ false
    none_ends denied front rest e = false_from_ne_true _ (λ held. true≢false (sym (there held) ∙ denied))
      where
        there : is_importance source rest ≡ true → is_important source value ≡ true
        there held =
            let size : length front ≡ length value - 2 = omega (arith, ap (λ (t : List Lexeme). length t) e, length-append front rest, importance_two source rest held) in
            let tail : drop (length value - 2) value ≡ rest = ap (λ (t : List Lexeme). drop (length value - 2) t) e ∙ drop_at front rest (length value - 2) size in
            ap (is_importance source) tail ∙ held

    by : (b : Bool) → is_important source value ≡ b → IsDeclaration source (ident ∷ sign ∷ value) (decl_item source ident sign value)
    by true is =
        let plain : without_importance source value ≡ take (length value - 2) value = ap (λ (b : Bool). cond b (take (length value - 2) value) value) is in
        let property = property_of (decoded (text_at source ident.span)) in
        record {
          ident = ident;
          sign = sign;
          text = take (length value - 2) value;
          ending = drop (length value - 2) value;
          joined = ap (λ (t : List Lexeme). ident ∷ sign ∷ t) (sym (take-append-drop (length value - 2) value));
          is_name = is_name;
          is_colon = is_colon;
          is_ending = important is;
          property = refl;
          says = ap (λ (t : List Lexeme). text_of_value source (is_custom property) sign t) plain;
          importance = refl;
          name_place = refl;
          value_place = ap (λ (t : List Lexeme). piece_of_value (is_custom property) sign t) plain;
        }
    by false denied =
        let plain : without_importance source value ≡ value = ap (λ (b : Bool). cond b (take (length value - 2) value) value) denied in
        let property = property_of (decoded (text_at source ident.span)) in
        record {
          ident = ident;
          sign = sign;
          text = value;
          ending = [];
          joined = ap (λ (t : List Lexeme). ident ∷ sign ∷ t) (sym (append-nil value));
          is_name = is_name;
          is_colon = is_colon;
          is_ending = nothing refl (none_ends denied);
          property = refl;
          says = ap (λ (t : List Lexeme). text_of_value source (is_custom property) sign t) plain;
          importance = denied;
          name_place = refl;
          value_place = ap (λ (t : List Lexeme). piece_of_value (is_custom property) sign t) plain;
        }

pub declaration_is : (source : List ℕ) (entry : List Lexeme) (d : DeclItem) → declaration source entry ≡ Some d → IsDeclaration source entry d
declaration_is source [] d e = absurd (cc (e))
declaration_is source (x ∷ []) d e = absurd (cc (e))
declaration_is source (x ∷ y ∷ value) d e = by (is_ident x.kind && is_sign_of colon y.kind) refl
  where
    shown : (b : Bool) → (is_ident x.kind && is_sign_of colon y.kind) ≡ b → ◌≡◌ {A = Option DeclItem} (cond b (Some (decl_item source x y value)) None) (Some d)
    shown b is = ap (λ (b : Bool). let o : Option DeclItem = cond b (Some (decl_item source x y value)) None in o) (sym is) ∙ e

    by : (b : Bool) → (is_ident x.kind && is_sign_of colon y.kind) ≡ b → IsDeclaration source (x ∷ y ∷ value) d
    by true is =
        let two = and_parts (is_ident x.kind) (is_sign_of colon y.kind) is in
        let somes = shown true is in
        let same : decl_item source x y value ≡ d = cc (somes) in
        subst (IsDeclaration source (x ∷ y ∷ value)) same (built source x y value two.0 two.1)
    by false is = let wrong = shown false is in absurd (cc (wrong))

-- ---- nested entries

pub nested_is : (source : List ℕ) (entry : List Lexeme) → IsNested source entry → is_nested source entry ≡ true
nested_is source entry (at_rule is) = or_left (is_at_rule entry) (list_any (is_sign_at open_curly 1) entry && not (declares_custom (declaration source entry))) is
nested_is source entry (block any none) =
    or_right (is_at_rule entry) (list_any (is_sign_at open_curly 1) entry && not (declares_custom (declaration source entry)))
    (and_from (list_any (is_sign_at open_curly 1) entry) (not (declares_custom (declaration source entry))) any (by (declaration source entry) refl))
  where
    by : (o : Option DeclItem) → declaration source entry ≡ o → not (declares_custom (declaration source entry)) ≡ true
    by None e = ap (λ (o : Option DeclItem). not (declares_custom o)) e
    by (Some d) e = ap (λ (o : Option DeclItem). not (declares_custom o)) e ∙ ap not (none d (declaration_is source entry d e))

pub is_nested_from : (source : List ℕ) (entry : List Lexeme) → is_nested source entry ≡ true → IsNested source entry
is_nested_from source entry is = by (or_cases (is_at_rule entry) (list_any (is_sign_at open_curly 1) entry && not (declares_custom (declaration source entry))) is)
  where
    by : (is_at_rule entry ≡ true) ⊎ ((list_any (is_sign_at open_curly 1) entry && not (declares_custom (declaration source entry))) ≡ true) → IsNested source entry
    by (inl flag) = at_rule flag
    by (inr both) =
        let two = and_parts (list_any (is_sign_at open_curly 1) entry) (not (declares_custom (declaration source entry))) both in
        block two.0 (λ d decl. not-true (is_custom d.decl.name) (ap (λ (o : Option DeclItem). not (declares_custom o)) (sym (declaration_of source entry d decl)) ∙ two.1))

pub decls_read : (source : List ℕ) (entries : List (List Lexeme)) (ds : List DeclItem) → AreDeclarations source entries ds
    → (list_any (is_nested source) entries ≡ false) × (filter_map (declaration source) entries ≡ ds)
decls_read source entries ds at_end = (refl, refl)
decls_read source entries ds (declared entry d others rest denied is later) =
    let more_read = decls_read source others rest later in
    let apart : is_nested source entry ≡ false = false_from_ne_true _ (λ held. denied (is_nested_from source entry held)) in (
      or_from (is_nested source entry) (list_any (is_nested source) others) apart more_read.0,
      ap (λ (o : Option DeclItem). cons_option o (filter_map (declaration source) others)) (declaration_of source entry d is) ∙ ap (λ (t : List DeclItem). d ∷ t) more_read.1,
    )
decls_read source entries ds (dropped entry others rest denied none later) =
    let more_read = decls_read source others rest later in
    let apart : is_nested source entry ≡ false = false_from_ne_true _ (λ held. denied (is_nested_from source entry held)) in (
      or_from (is_nested source entry) (list_any (is_nested source) others) apart more_read.0,
      ap (λ (o : Option DeclItem). cons_option o (filter_map (declaration source) others)) (by (declaration source entry) refl) ∙ more_read.1,
    )
  where
    by : (o : Option DeclItem) → declaration source entry ≡ o → declaration source entry ≡ None
    by None e = e
    by (Some d) e = absurd (none d (declaration_is source entry d e))

pub decls_are : (source : List ℕ) (entries : List (List Lexeme)) → list_any (is_nested source) entries ≡ false → AreDeclarations source entries (filter_map (declaration source) entries)
decls_are source [] none = at_end
decls_are source (entry ∷ others) none =
    let two = or_parts (is_nested source entry) (list_any (is_nested source) others) none in
    by (declaration source entry) refl (λ nested. true≢false (sym (nested_is source entry nested) ∙ two.0)) (decls_are source others two.1)
  where
    by : (o : Option DeclItem) → declaration source entry ≡ o → (IsNested source entry → ⊥) → AreDeclarations source others (filter_map (declaration source) others)
        → AreDeclarations source (entry ∷ others) (cons_option o (filter_map (declaration source) others))
    by None e denied later = dropped entry others (filter_map (declaration source) others) denied (λ d is. no_decl d is) later
      where
        no_decl : (d : DeclItem) → IsDeclaration source entry d → ⊥
        no_decl d is =
            let somes : ◌≡◌ {A = Option DeclItem} None (Some d) = sym e ∙ declaration_of source entry d is in
            absurd (cc (somes))
    by (Some d) e denied later = declared entry d others (filter_map (declaration source) others) denied (declaration_is source entry d e) later
