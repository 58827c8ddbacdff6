-- The declarations of a rule are read as they were from what is printed for them.
use Rattle.std.proofs.Common.{◌≡◌, ◌⊎◌, inl, inr, subst, ℕ, zero, suc, ◌-◌, ◌==◌, Bool, true, false, not, List, [], ◌∷◌, ◌++◌, length, take, drop, map, Some, None, refl, sym, ◌∙◌, ap, arith, append-nil}
use Rattle.std.proofs.lemmas.Bool.{true≢false, and_parts}
use Rattle.std.proofs.Math.Seq.{take-append_seam, drop-append_seam}
use Rattle.std.proofs.lemmas.List.{length-append}
use Rattle.std.specs.Prelude.{◌&&◌, ◌||◌, if◌then◌else◌, codes}
use Rattle.std.specs.List.{AllZip, AllByRecursion, list_any, filter_map, cons_option}
use Rattle.css_model.specs.declared.sheet.DeclItem.{DeclItem}
use Rattle.css_model.specs.declared.token.Gap.{Gap}
use Rattle.css_model.specs.declared.token.Gap.TheVariants as gap
use Rattle.css_model.specs.declared.token.Lexeme.{Lexeme}
use Rattle.css_model.specs.declared.token.TokenKind.TheVariants as kind
use Rattle.css_model.specs.Text.Characters.{colon, semicolon, open_curly, close_curly, exclamation_mark, space}
use Rattle.css_model.specs.Text.Lexemes.{is_ident, is_delim_of}
use Rattle.css_model.specs.Sheets.Declarations.{is_custom, property_of, is_importance, is_important, without_importance, text_of_value, decl_item, declaration, declares_custom, is_nested}
use Rattle.css_model.specs.Text.Names.{is_named}
use Rattle.css_model.specs.Sheets.Items.{closes_block, is_at_keyword}
use Rattle.css_model.specs.Text.Kept.{is_white_gap}
use Rattle.css_model.specs.Text.Lexemes.{is_sign_of, is_sign_at}
use Rattle.css_model.specs.Text.Source.{text_at}
use Rattle.css_model.specs.Sheets.Spelling.{tokens_in}
use Rattle.css_model.specs.Text.Names.{unescaped, decoded}
use Rattle.sheet_laws.proofs.Shown.Alike.{and_false, IsClosable, AreClosable, all_shut, value_like}
use Rattle.list_facts.proofs.Cuts.{None_of, none_append}
use Rattle.sheet_laws.proofs.Printed.Entries.{important_like, declared_same}
use Rattle.sheet_laws.proofs.Printed.Joins.{ArePartsOf, is_shown_sign, none_shown}
use Rattle.list_facts.proofs.Zips.{AllLast, cut_at, cons_head, cons_tail}
use Rattle.sheet_laws.proofs.Printed.Preludes.{some_same}
use Rattle.sheet_laws.proofs.Shown.Tokens.{Shown, shown, value_shown, colon_gap, importance_shown, declaration_shown, all_shown, inner, last_of_value, last_from_shown}
use Rattle.sheet_laws.proofs.Shown.Values.{IsInner, IsLastOfValue, AreShut, value_same}

-- the tokens of the value of an entry, without its importance
abbrev pub plain_value : List ℕ → List Lexeme → List Lexeme
plain_value source (name ∷ sign ∷ value) = without_importance source value
plain_value source _ = []

-- a declaration that an entry is read as: the entry is a declaration of its own, stands between semicolons in a block,
-- and its value alone stands in the declaration's piece
pub record IsOfDeclaration (source : List ℕ) (d : DeclItem) : Type 0 where
  pub entry : List Lexeme
  pub reads : declaration source entry ≡ Some d
  pub plain : is_nested source entry ≡ false
  pub single : None_of (is_sign_at semicolon 1) entry
  pub inside : None_of closes_block entry
  pub closable : AreClosable source entry
  pub alone : tokens_in source d.value ≡ plain_value source entry

cut_two : (xs : List Lexeme) (x y : Lexeme) → (drop (length (xs ++ x ∷ y ∷ []) - 2) (xs ++ x ∷ y ∷ []) ≡ x ∷ y ∷ []) × (take (length (xs ++ x ∷ y ∷ []) - 2) (xs ++ x ∷ y ∷ []) ≡ xs)
cut_two xs x y =
    let n : length (xs ++ x ∷ y ∷ []) - 2 ≡ length xs = omega (arith, length-append xs (x ∷ y ∷ [])) in
    (ap (λ (m : ℕ). drop m (xs ++ x ∷ y ∷ [])) n ∙ drop-append_seam xs (x ∷ y ∷ []), ap (λ (m : ℕ). take m (xs ++ x ∷ y ∷ [])) n ∙ take-append_seam xs (x ∷ y ∷ []))

-- what is shown for the importance is read as importance
importance_again : (new : List ℕ) (ys : List Lexeme) → map (shown new) ys ≡ importance_shown true → is_importance new ys ≡ true
importance_again new [] e = absurd (omega (arith, ap length e))
importance_again new (y ∷ []) e = absurd (omega (arith, ap length e))
importance_again new (y ∷ a ∷ b ∷ ys) e = absurd (omega (arith, ap length e))
importance_again new (y ∷ a ∷ []) e =
    let first = cons_head (shown new y) _ (shown new a ∷ []) _ e in
    let second = cons_head (shown new a) _ [] _ (cons_tail (shown new y) _ (shown new a ∷ []) _ e) in
    ap (λ s. is_delim_of exclamation_mark s.kind && is_ident a.kind && is_named (codes "important") (text_at new a.span)) first
    ∙ ap (λ s. is_ident s.kind && is_named (codes "important") s.bytes) second

each_take : {A : Type 0} (P : A → Type 0) (n : ℕ) (xs : List A) → AllByRecursion P xs → AllByRecursion P (take n xs)
each_take P zero xs each = tt
each_take P (suc n) [] each = tt
each_take P (suc n) (x ∷ xs) each = (each.0, each_take P n xs each.1)

each_without : (P : Lexeme → Type 0) (source : List ℕ) (xs : List Lexeme) → AllByRecursion P xs → AllByRecursion P (without_importance source xs)
each_without P source xs each = which (is_important source xs)
  where
    which : (b : Bool) → AllByRecursion P (if b then take (length xs - 2) xs else xs)
    which true = each_take P (length xs - 2) xs each
    which false = each

-- a value that is read back
record IsValueAgain (new old : List ℕ) (ys xs : List Lexeme) : Type 0 where
  important : is_important new ys ≡ is_important old xs
  plain : AllLast (IsInner new old) (IsLastOfValue new old) (without_importance new ys) (without_importance old xs)

value_again : (new old : List ℕ) (ys xs : List Lexeme) → map (shown new) ys ≡ value_shown old (without_importance old xs) ++ importance_shown (is_important old xs) → AreClosable old xs
    → IsValueAgain new old ys xs
value_again new old ys xs e closable = which (is_important old xs) refl
  where
    which : (b : Bool) → is_important old xs ≡ b → IsValueAgain new old ys xs
    which true is =
        let shown_as = e ∙ ap (λ (b : Bool). value_shown old (without_importance old xs) ++ importance_shown b) is in
        let cut = cut_at (shown new) ys (value_shown old (without_importance old xs)) (importance_shown true) shown_as in
        behind cut.upper cut.lower cut.whole cut.is_front cut.is_behind
      where
        behind : (upper lower : List Lexeme) → ys ≡ upper ++ lower → map (shown new) upper ≡ value_shown old (without_importance old xs) → map (shown new) lower ≡ importance_shown true
            → IsValueAgain new old ys xs
        behind upper [] whole front last = absurd (omega (arith, ap length last))
        behind upper (a ∷ []) whole front last = absurd (omega (arith, ap length last))
        behind upper (a ∷ b ∷ c ∷ lower) whole front last = absurd (omega (arith, ap length last))
        behind upper (a ∷ b ∷ []) whole front last =
            let two = cut_two upper a b in
            let marked : is_important new ys ≡ true = ap (is_important new) whole ∙ ap (is_importance new) two.0 ∙ importance_again new (a ∷ b ∷ []) last in
            let bare : without_importance new ys ≡ upper =
            ap (λ (b : Bool). if b then take (length ys - 2) ys else ys) marked
            ∙ ap (λ zs. take (length zs - 2) zs) whole
            ∙ two.1 in
            record {
              important = marked ∙ sym is;
              plain = subst (λ zs. AllLast (IsInner new old) (IsLastOfValue new old) zs (without_importance old xs)) (sym bare)
                  (last_from_shown (shown new) (inner old) (last_of_value old) upper (without_importance old xs) front);
            }
    which false is =
        let bare : without_importance old xs ≡ xs = ap (λ (b : Bool). if b then take (length xs - 2) xs else xs) is in
        let shown_as : map (shown new) ys ≡ value_shown old xs =
        e ∙ ap (λ (b : Bool). value_shown old (without_importance old xs) ++ importance_shown b) is ∙ append-nil (value_shown old (without_importance old xs)) ∙ ap (value_shown old) bare in
        let z = last_from_shown (shown new) (inner old) (last_of_value old) ys xs shown_as in
        let same = important_like new old ys xs (value_like new old ys xs z closable) in
        let bare' : without_importance new ys ≡ ys = ap (λ (b : Bool). if b then take (length ys - 2) ys else ys) (same ∙ is) in
        record {
          important = same;
          plain = subst (λ zs. AllLast (IsInner new old) (IsLastOfValue new old) zs (without_importance old xs)) (sym bare')
              (subst (λ zs. AllLast (IsInner new old) (IsLastOfValue new old) ys zs) (sym bare) z);
        }

-- white space behind the colon is shown where it is the value
white_again : (b : Bool) → (if is_white_gap (colon_gap (if b then space ∷ [] else []) []) then space ∷ [] else []) ≡ (if b then space ∷ [] else [])
white_again true = refl
white_again false = refl

empty_again : (custom : Bool) (g g' : Gap) → g' ≡ colon_gap (if custom && is_white_gap g then space ∷ [] else []) []
    → (if custom && is_white_gap g' then space ∷ [] else []) ≡ (if custom && is_white_gap g then space ∷ [] else [])
empty_again false g g' e = refl
empty_again true g g' e = ap (λ h. if is_white_gap h then space ∷ [] else []) e ∙ white_again (is_white_gap g)

text_again : (new old : List ℕ) (custom : Bool) (sign' sign : Lexeme) (ys xs : List Lexeme) → sign'.gap ≡ colon_gap (text_of_value old custom sign xs) xs
    → AllLast (IsInner new old) (IsLastOfValue new old) ys xs → AreShut old xs → text_of_value new custom sign' ys ≡ text_of_value old custom sign xs
text_again new old custom sign' sign [] [] same z shut = empty_again custom sign.gap sign'.gap same
text_again new old custom sign' sign [] (x ∷ xs) same z shut = absurd z
text_again new old custom sign' sign (y ∷ ys) [] same z shut = absurd z
text_again new old custom sign' sign (y ∷ ys) (x ∷ xs) same z shut = value_same new old (y ∷ ys) (x ∷ xs) z shut

-- a declaration by its tokens
record IsOfParts (source : List ℕ) (d : DeclItem) : Type 0 where
  name : Lexeme
  sign : Lexeme
  value : List Lexeme
  ident : is_ident name.kind ≡ true
  reads : declaration source (name ∷ sign ∷ value) ≡ Some d
  is : decl_item source name sign value ≡ d
  plain : is_nested source (name ∷ sign ∷ value) ≡ false
  single : None_of (is_sign_at semicolon 1) value
  inside : None_of closes_block value
  named : IsClosable source name
  closable : AreClosable source value
  alone : tokens_in source d.value ≡ without_importance source value

parts_of : (source : List ℕ) (d : DeclItem) → IsOfDeclaration source d → IsOfParts source d
parts_of source d sound = by_entry sound.entry sound.reads sound.plain sound.single sound.inside sound.closable sound.alone
  where
    by_entry : (entry : List Lexeme) → declaration source entry ≡ Some d → is_nested source entry ≡ false → None_of (is_sign_at semicolon 1) entry → None_of closes_block entry
        → AreClosable source entry → tokens_in source d.value ≡ plain_value source entry → IsOfParts source d
    by_entry [] reads plain single inside closable alone = absurd (cc)
    by_entry (x ∷ []) reads plain single inside closable alone = absurd (cc)
    by_entry (name ∷ sign ∷ value) reads plain single inside closable alone = which (is_ident name.kind && is_sign_of colon sign.kind) refl
      where
        which : (b : Bool) → (is_ident name.kind && is_sign_of colon sign.kind) ≡ b → IsOfParts source d
        which false is = absurd (no_declaration (sym (ap (λ (b : Bool). if b then Some (decl_item source name sign value) else None) is) ∙ reads))
          where
            no_declaration : None ≡ Some d → ⊥
            no_declaration e = absurd (cc)
        which true is = record {
          name = name;
          sign = sign;
          value = value;
          ident = (and_parts (is_ident name.kind) (is_sign_of colon sign.kind) is).0;
          reads = reads;
          is = some_same (decl_item source name sign value) d (sym (ap (λ (b : Bool). if b then Some (decl_item source name sign value) else None) is) ∙ reads);
          plain = plain;
          single = single.1.1;
          inside = inside.1.1;
          named = closable.0;
          closable = closable.1.1;
          alone = alone;
        }

-- signs among the tokens of a value
none_all_shown : (b level : ℕ) (others last : Lexeme → Shown) → ((x : Lexeme) → is_shown_sign b level (others x) ≡ is_sign_at b level x) → ((x : Lexeme) → is_shown_sign b level (last x) ≡ is_sign_at b level x)
    → (xs : List Lexeme) → None_of (is_sign_at b level) xs → None_of (is_shown_sign b level) (all_shown others last xs)
none_all_shown b level others last o l [] fail = tt
none_all_shown b level others last o l (x ∷ []) fail = (l x ∙ fail.0, tt)
none_all_shown b level others last o l (x ∷ next ∷ xs) fail = (o x ∙ fail.0, none_all_shown b level others last o l (next ∷ xs) fail.1)

none_value : (source : List ℕ) (b level : ℕ) (xs : List Lexeme) → None_of (is_sign_at b level) xs → None_of (is_shown_sign b level) (value_shown source xs)
none_value source b level = none_all_shown b level (inner source) (last_of_value source) (λ x. refl) (λ x. refl)

none_importance : (b level : ℕ) (important : Bool) → None_of (is_shown_sign b level) (importance_shown important)
none_importance b level false = tt
none_importance b level true = (refl, (refl, tt))

-- a declaration of these parts, as it is shown
abbrev shown_parts : List ℕ → DeclItem → List Lexeme → List Shown
shown_parts source d xs =
    record { kind = kind.Ident; bytes = text_at source d.name; gap = gap.Nothing; level = 1 }
    ∷ record { kind = kind.Sign colon; bytes = colon ∷ []; gap = colon_gap d.decl.value xs; level = 1 }
    ∷ value_shown source xs ++ importance_shown d.decl.important

none_parts : (source : List ℕ) (b level : ℕ) (d : DeclItem) (xs : List Lexeme) → (colon == b) ≡ false → None_of (is_sign_at b level) xs → None_of (is_shown_sign b level) (shown_parts source d xs)
none_parts source b level d xs other fail =
    (refl, (ap (λ (t : Bool). t && 1 == level) other, none_append (is_shown_sign b level) (value_shown source xs) (importance_shown d.decl.important) (none_value source b level xs fail) (none_importance b level d.decl.important)))

none_declaration : (source : List ℕ) (b level : ℕ) (d : DeclItem) → (colon == b) ≡ false → (sound : IsOfParts source d) → None_of (is_sign_at b level) sound.value
    → None_of (is_shown_sign b level) (declaration_shown source d)
none_declaration source b level d other sound fail =
    none_parts source b level d (tokens_in source d.value) other
    (subst (None_of (is_sign_at b level)) (sym sound.alone) (each_without (λ x. is_sign_at b level x ≡ false) source sound.value fail))

pub declarations_no_semicolon : (source : List ℕ) (ds : List DeclItem) → AllByRecursion (IsOfDeclaration source) ds → AllByRecursion (None_of (is_shown_sign semicolon 1)) (map (declaration_shown source) ds)
declarations_no_semicolon source [] sound = tt
declarations_no_semicolon source (d ∷ ds) sound =
    let parts = parts_of source d sound.0 in
    (none_declaration source semicolon 1 d refl parts parts.single, declarations_no_semicolon source ds sound.1)

pub declarations_no_close : (source : List ℕ) (ds : List DeclItem) → AllByRecursion (IsOfDeclaration source) ds → AllByRecursion (None_of (is_shown_sign close_curly 1)) (map (declaration_shown source) ds)
declarations_no_close source [] sound = tt
declarations_no_close source (d ∷ ds) sound =
    let parts = parts_of source d sound.0 in
    (none_declaration source close_curly 1 d refl parts parts.inside, declarations_no_close source ds sound.1)

-- a declaration that is read from tokens of these bytes
pub record IsDeclarationAgain (new old : List ℕ) (d' d : DeclItem) : Type 0 where
  pub same : d'.decl ≡ d.decl
  pub name : text_at new d'.name ≡ text_at old d.name

record IsEntryAgain (new old : List ℕ) (entry : List Lexeme) (d : DeclItem) : Type 0 where
  item : DeclItem
  reads : declaration new entry ≡ Some item
  plain : is_nested new entry ≡ false
  again : IsDeclarationAgain new old item d

pub or_false : (a b : Bool) → (a || b) ≡ false → (a ≡ false) × (b ≡ false)
or_false false b e = (refl, e)
or_false true b e = absurd (true≢false e)

and_not : (a b : Bool) → (a && not b) ≡ false → (b ≡ true) ⊎ (a ≡ false)
and_not true true e = inl refl
and_not true false e = absurd (true≢false e)
and_not false b e = inr refl

none_any : {A : Type 0} (p : A → Bool) (xs : List A) → list_any p xs ≡ false → None_of p xs
none_any p [] e = tt
none_any p (x ∷ xs) e = let parts = or_false (p x) (list_any p xs) e in (parts.0, none_any p xs parts.1)

any_none : {A : Type 0} (p : A → Bool) (xs : List A) → None_of p xs → list_any p xs ≡ false
any_none p [] fail = refl
any_none p (x ∷ xs) fail = ap (λ (b : Bool). b || list_any p xs) fail.0 ∙ any_none p xs fail.1

entry_again : (new old : List ℕ) (ys : List Lexeme) (d : DeclItem) → IsOfParts old d → map (shown new) ys ≡ declaration_shown old d → IsEntryAgain new old ys d
entry_again new old [] d parts e = absurd (omega (arith, ap length e))
entry_again new old (y ∷ []) d parts e = absurd (omega (arith, ap length e))
entry_again new old (y ∷ a ∷ ys) d parts e =
    record {
      item = decl_item new y a ys;
      reads = reads;
      plain = nested;
      again = record { same = same; name = ap (λ s. s.bytes) first };
    }
  where
    value : List Lexeme
    value = parts.value

    custom : Bool
    custom = is_custom (property_of (decoded (text_at old parts.name.span)))

    first : shown new y ≡ record { kind = kind.Ident; bytes = text_at old d.name; gap = gap.Nothing; level = 1 }
    first = cons_head (shown new y) _ (map (shown new) (a ∷ ys)) _ e

    second : shown new a ≡ record { kind = kind.Sign colon; bytes = colon ∷ []; gap = colon_gap d.decl.value (tokens_in old d.value); level = 1 }
    second = cons_head (shown new a) _ (map (shown new) ys) _ (cons_tail (shown new y) _ (map (shown new) (a ∷ ys)) _ e)

    third : map (shown new) ys ≡ value_shown old (tokens_in old d.value) ++ importance_shown d.decl.important
    third = cons_tail (shown new a) _ (map (shown new) ys) _ (cons_tail (shown new y) _ (map (shown new) (a ∷ ys)) _ e)

    important : d.decl.important ≡ is_important old value
    important = sym (ap (λ x. x.decl.important) parts.is)

    text : d.decl.value ≡ text_of_value old custom parts.sign (without_importance old value)
    text = sym (ap (λ x. x.decl.value) parts.is)

    again : IsValueAgain new old ys value
    again =
        value_again new old ys value
        (third ∙ ap (λ xs. value_shown old xs ++ importance_shown d.decl.important) parts.alone ∙ ap (λ b. value_shown old (without_importance old value) ++ importance_shown b) important)
        parts.closable

    colon_white : a.gap ≡ colon_gap (text_of_value old custom parts.sign (without_importance old value)) (without_importance old value)
    colon_white = ap (λ s. s.gap) second ∙ ap (λ xs. colon_gap d.decl.value xs) parts.alone ∙ ap (λ t. colon_gap t (without_importance old value)) text

    same : (decl_item new y a ys).decl ≡ d.decl
    same =
        declared_same new old parts.name parts.sign value y a ys
        (ap (λ s. unescaped s.bytes) first ∙ sym (ap (λ x. unescaped (text_at old x.name)) parts.is))
        again.important
        (text_again new old custom a parts.sign (without_importance new ys) (without_importance old value) colon_white again.plain
        (all_shut old (without_importance old value) (each_without (IsClosable old) old value parts.closable)))
        ∙ ap (λ x. x.decl) parts.is

    reads : declaration new (y ∷ a ∷ ys) ≡ Some (decl_item new y a ys)
    reads =
        ap (λ s. if is_ident s.kind && is_sign_of colon a.kind then Some (decl_item new y a ys) else None) first
        ∙ ap (λ s. if is_sign_of colon s.kind then Some (decl_item new y a ys) else None) second

    unless_custom : (is_custom d.decl.name ≡ true) ⊎ (list_any (is_sign_at open_curly 1) (parts.name ∷ parts.sign ∷ value) ≡ false) → (list_any (is_sign_at open_curly 1) (y ∷ a ∷ ys) && not (is_custom d.decl.name)) ≡ false
    unless_custom (inl is) = ap (λ b. list_any (is_sign_at open_curly 1) (y ∷ a ∷ ys) && not b) is ∙ and_false (list_any (is_sign_at open_curly 1) (y ∷ a ∷ ys))
    unless_custom (inr is) =
        let fail = none_any (is_sign_at open_curly 1) (parts.name ∷ parts.sign ∷ value) is in
        ap (λ b. b && not (is_custom d.decl.name))
        (any_none (is_sign_at open_curly 1) (y ∷ a ∷ ys)
        (none_shown new open_curly 1 (y ∷ a ∷ ys) (declaration_shown old d) e (none_declaration old open_curly 1 d refl parts fail.1.1)))

    nested : is_nested new (y ∷ a ∷ ys) ≡ false
    nested =
        let inside = or_false (is_at_keyword parts.name.kind) (list_any (is_sign_at open_curly 1) (parts.name ∷ parts.sign ∷ value) && not (declares_custom (declaration old (parts.name ∷ parts.sign ∷ value)))) parts.plain in
        let before = ap (λ x. list_any (is_sign_at open_curly 1) (parts.name ∷ parts.sign ∷ value) && not (declares_custom x)) parts.reads in
        ap (λ s. is_at_keyword s.kind || (list_any (is_sign_at open_curly 1) (y ∷ a ∷ ys) && not (declares_custom (declaration new (y ∷ a ∷ ys))))) first
        ∙ ap (λ x. list_any (is_sign_at open_curly 1) (y ∷ a ∷ ys) && not (declares_custom x)) reads
        ∙ ap (λ x. list_any (is_sign_at open_curly 1) (y ∷ a ∷ ys) && not (is_custom x.name)) same
        ∙ unless_custom (and_not (list_any (is_sign_at open_curly 1) (parts.name ∷ parts.sign ∷ value)) (is_custom d.decl.name) (sym before ∙ inside.1))

pub record AreDeclarationsAgain (new old : List ℕ) (entries : List (List Lexeme)) (ds : List DeclItem) : Type 0 where
  pub items : List DeclItem
  pub plain : list_any (is_nested new) entries ≡ false
  pub reads : filter_map (declaration new) entries ≡ items
  pub each : AllZip (IsDeclarationAgain new old) items ds

pub declarations_again : (new old : List ℕ) (whole : List Lexeme) (entries : List (List Lexeme)) (ds : List DeclItem) → AllByRecursion (IsOfDeclaration old) ds
    → ArePartsOf new whole entries (map (declaration_shown old) ds) → AreDeclarationsAgain new old entries ds
declarations_again new old whole [] [] sound z = record { items = []; plain = refl; reads = refl; each = tt }
declarations_again new old whole [] (d ∷ ds) sound z = absurd z
declarations_again new old whole (entry ∷ entries) [] sound z = absurd z
declarations_again new old whole (entry ∷ entries) (d ∷ ds) sound z =
    let here = entry_again new old entry d (parts_of old d sound.0) z.0.0 in
    let rest = declarations_again new old whole entries ds sound.1 z.1 in
    record {
      items = here.item ∷ rest.items;
      plain = ap (λ (b : Bool). b || list_any (is_nested new) entries) here.plain ∙ rest.plain;
      reads = ap (λ x. cons_option x (filter_map (declaration new) entries)) here.reads ∙ ap (λ xs. here.item ∷ xs) rest.reads;
      each = (here.again, rest.each);
    }
