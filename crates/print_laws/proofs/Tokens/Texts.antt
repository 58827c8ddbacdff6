-- The parts of shown tokens spell the printed text.
use Rattle.std.proofs.Common.{◌≡◌, ◌⊎◌, inl, inr, ℕ, Bool, true, false, not, cond, List, [], ◌∷◌, ◌++◌, map, refl, sym, ◌∙◌, ap, subst}
use Rattle.std.specs.Prelude.{◌&&◌}
use Rattle.std.specs.List.{AllByRecursion, flat_map, join_with_byte}
use Rattle.std.proofs.lemmas.List.{append-nil, append_assoc}
use Rattle.css_model.specs.declared.sheet.DeclItem.{DeclItem}
use Rattle.css_model.specs.declared.sheet.Item.{Item}
use Rattle.css_model.specs.declared.sheet.Item.TheVariants.{Rule, KeptRule, KeptBlock}
use Rattle.css_model.specs.declared.sheet.SelItem.{SelItem}
use Rattle.css_model.specs.declared.token.Gap.{Gap}
use Rattle.css_model.specs.declared.token.Gap.TheVariants as gap
use Rattle.css_model.specs.declared.token.Lexeme.{Lexeme}
use Rattle.css_model.specs.declared.token.TokenKind.{TokenKind}
use Rattle.css_model.specs.declared.token.TokenKind.TheVariants as kind
use Rattle.css_model.specs.Text.Characters.{colon, comma, semicolon, open_curly, close_curly, line_feed, space}
use Rattle.css_model.specs.Text.Kept.{Solid, behind_last, behind_value, between, gap_text, is_lone, is_open, is_white_gap, kept, solid, spelled, value_text}
use Rattle.css_model.specs.Sheets.Printed.{importance, printed_declaration, printed_item, printed_rule, printed_selector}
use Rattle.css_model.specs.Sheets.RuleParts.{RuleParts}
use Rattle.css_model.specs.Text.Source.{text_at}
use Rattle.css_model.specs.Sheets.Spelling.{tokens_in}
use Rattle.css_model.specs.Text.Tokens.{Part, text_of}
use Rattle.sheet_laws.specs.Sourced.{SourcedItem, all_of_source, sourced_text}
use Rattle.sheet_laws.proofs.ForCallers.{Shown, all_shown, closed, colon_gap, declaration_shown, importance_shown, inner, item_shown, joined, kept_shown, last_of_item, last_of_value, printed_bytes, each_of_source, rule_shown, selector_shown, sheet_shown, sign_shown, sourced_shown, text_of_source, value_shown}
use Rattle.print_laws.proofs.Tokens.Chain.{gap_parts, parts_of, token_part}

pub text-append : (ps qs : List Part) → text_of (ps ++ qs) ≡ text_of ps ++ text_of qs
text-append [] qs = refl
text-append (p ∷ ps) qs = ap (λ (cs : List ℕ). p.bytes ++ cs) (text-append ps qs) ∙ sym (append_assoc p.bytes (text_of ps) (text_of qs))

pub parts-append : (ss more : List Shown) → parts_of (ss ++ more) ≡ parts_of ss ++ parts_of more
parts-append [] more = refl
parts-append (s ∷ ss) more = ap (λ (ps : List Part). token_part s ∷ ps)
    (ap (λ (ps : List Part). gap_parts s.kind s.gap ++ ps) (parts-append ss more) ∙ sym (append_assoc (gap_parts s.kind s.gap) (parts_of ss) (parts_of more)))

-- the text that shown tokens spell
abbrev pub shown_text : List Shown → List ℕ
shown_text ss = text_of (parts_of ss)

pub shown-append : (ss more : List Shown) → shown_text (ss ++ more) ≡ shown_text ss ++ shown_text more
shown-append ss more = ap text_of (parts-append ss more) ∙ text-append (parts_of ss) (parts_of more)

pub shown-first : (s : Shown) (ss : List Shown) → shown_text (s ∷ ss) ≡ s.bytes ++ (text_of (gap_parts s.kind s.gap) ++ shown_text ss)
shown-first s ss = ap (λ (cs : List ℕ). s.bytes ++ cs) (text-append (gap_parts s.kind s.gap) (parts_of ss))

-- behind a lone backslash stands white space
abbrev pub IsLoneBeforeWhite : Lexeme → Type 0
IsLoneBeforeWhite x = is_lone x.kind ≡ true → x.gap ≡ gap.White

closed-space : (bytes : List ℕ) (b : Bool) → (cond b (bytes ++ space ∷ []) bytes) ++ (space ∷ []) ≡ bytes ++ cond b (space ∷ space ∷ []) (space ∷ [])
closed-space bytes true = append_assoc bytes (space ∷ []) (space ∷ [])
closed-space bytes false = refl

inner-text : (bytes : List ℕ) (k : TokenKind) (lone : Bool) → is_lone k ≡ lone → (g : Gap) → (lone ≡ true → g ≡ gap.White)
    → (cond (is_white_gap g && not lone) (closed bytes) bytes) ++ text_of (gap_parts k g) ≡ bytes ++ cond lone (line_feed ∷ []) (gap_text bytes g)
inner-text bytes k true is gap.Nothing white = absurd (let e = white refl in cc)
inner-text bytes k true is gap.Comments white = absurd (let e = white refl in cc)
inner-text bytes k true is gap.White white = rw is refl
inner-text bytes k false is gap.Nothing white = refl
inner-text bytes k false is gap.Comments white = refl
inner-text bytes k false is gap.White white = rw is (closed-space bytes (is_open bytes))

-- tokens that are shown one after the other, by what each is followed by
all-text : (source : List ℕ) (last : Lexeme → Shown) (behind : Solid → List ℕ)
    → ((x : Lexeme) → IsLoneBeforeWhite x → shown_text (last x ∷ []) ≡ text_at source x.span ++ behind (solid source x))
    → (xs : List Lexeme) → AllByRecursion IsLoneBeforeWhite xs → shown_text (all_shown (inner source) last xs) ≡ spelled behind (map (solid source) xs)
all-text source last behind end [] each = refl
all-text source last behind end (x ∷ []) (one, rest) = end x one
all-text source last behind end (x ∷ y ∷ xs) (one, rest) =
    shown-first (inner source x) (all_shown (inner source) last (y ∷ xs))
    ∙ sym (append_assoc (printed_bytes source x) (text_of (gap_parts x.kind x.gap)) (shown_text (all_shown (inner source) last (y ∷ xs))))
    ∙ ap (λ (cs : List ℕ). cs ++ shown_text (all_shown (inner source) last (y ∷ xs))) (inner-text (text_at source x.span) x.kind (is_lone x.kind) refl x.gap one)
    ∙ ap (λ (cs : List ℕ). (text_at source x.span ++ between (solid source x)) ++ cs) (all-text source last behind end (y ∷ xs) rest)

-- one token alone
one-text : (s : Shown) → shown_text (s ∷ []) ≡ s.bytes ++ text_of (gap_parts s.kind s.gap)
one-text s = shown-first s [] ∙ ap (λ (cs : List ℕ). s.bytes ++ cs) (append-nil (text_of (gap_parts s.kind s.gap)))

last-text : (k : TokenKind) (lone : Bool) → is_lone k ≡ lone → text_of (gap_parts k (cond lone gap.White gap.Nothing)) ≡ cond lone (line_feed ∷ []) []
last-text k true is = rw is refl
last-text k false is = refl

pub kept-text : (source : List ℕ) (xs : List Lexeme) → AllByRecursion IsLoneBeforeWhite xs → shown_text (kept_shown source xs) ≡ kept (map (solid source) xs)
kept-text source xs each = all-text source (last_of_item source) behind_last
    (λ x _. one-text (last_of_item source x) ∙ ap (λ (cs : List ℕ). text_at source x.span ++ cs) (last-text x.kind (is_lone x.kind) refl)) xs each

value-last : (bytes : List ℕ) (k : TokenKind) (lone : Bool) → is_lone k ≡ lone → (g : Gap)
    → (cond (is_white_gap g && not lone) (closed bytes) bytes) ++ text_of (gap_parts k (cond lone gap.White gap.Nothing))
    ≡ bytes ++ cond lone (line_feed ∷ []) (cond (is_white_gap g && is_open bytes) (space ∷ []) [])
value-last bytes k true is gap.Nothing = rw is refl
value-last bytes k true is gap.Comments = rw is refl
value-last bytes k true is gap.White = rw is refl
value-last bytes k false is gap.Nothing = refl
value-last bytes k false is gap.Comments = refl
value-last bytes k false is gap.White = by (is_open bytes)
  where
    by : (b : Bool) → (cond b (bytes ++ space ∷ []) bytes) ++ [] ≡ bytes ++ cond b (space ∷ []) []
    by true = append-nil (bytes ++ space ∷ [])
    by false = refl

pub value-text : (source : List ℕ) (xs : List Lexeme) → AllByRecursion IsLoneBeforeWhite xs → shown_text (value_shown source xs) ≡ value_text (map (solid source) xs)
value-text source xs each = all-text source (last_of_value source) behind_value
    (λ x _. one-text (last_of_value source x) ∙ value-last (text_at source x.span) x.kind (is_lone x.kind) refl x.gap) xs each

-- what a declaration's value is, by its tokens
pub record IsTextOf (source : List ℕ) (d : DeclItem) : Type 0 where
  pub lone : AllByRecursion IsLoneBeforeWhite (tokens_in source d.value)
  pub value : (x : Lexeme) (xs : List Lexeme) → tokens_in source d.value ≡ x ∷ xs → d.decl.value ≡ value_text (map (solid source) (x ∷ xs))
  pub white : tokens_in source d.value ≡ [] → (d.decl.value ≡ []) ⊎ (d.decl.value ≡ space ∷ [])

colon-text : (source : List ℕ) (d : DeclItem) → IsTextOf source d
    → text_of (gap_parts (kind.Sign colon) (colon_gap d.decl.value (tokens_in source d.value))) ++ shown_text (value_shown source (tokens_in source d.value)) ≡ d.decl.value
colon-text source d told = by (tokens_in source d.value) refl d.decl.value refl
  where
    by : (xs : List Lexeme) → tokens_in source d.value ≡ xs → (v : List ℕ) → d.decl.value ≡ v → text_of (gap_parts (kind.Sign colon) (colon_gap v xs)) ++ shown_text (value_shown source xs) ≡ v
    by [] none [] is = refl
    by [] none (c ∷ cs) is = white (told.white none)
      where
        white : (d.decl.value ≡ []) ⊎ (d.decl.value ≡ space ∷ []) → space ∷ [] ≡ c ∷ cs
        white (inl e) = absurd (let h = sym is ∙ e in cc)
        white (inr e) = sym e ∙ is
    by (x ∷ xs) some [] is = value-text source (x ∷ xs) (subst (AllByRecursion IsLoneBeforeWhite) some told.lone) ∙ sym (told.value x xs some) ∙ is
    by (x ∷ xs) some (c ∷ cs) is = value-text source (x ∷ xs) (subst (AllByRecursion IsLoneBeforeWhite) some told.lone) ∙ sym (told.value x xs some) ∙ is

importance-text : (important : Bool) → shown_text (importance_shown important) ≡ importance important
importance-text true = refl
importance-text false = refl

declaration-text : (source : List ℕ) (d : DeclItem) → IsTextOf source d → shown_text (declaration_shown source d) ≡ printed_declaration source d
declaration-text source d told =
    let value = value_shown source (tokens_in source d.value) in
    let important = importance_shown d.decl.important in
    let sign : Shown = record { kind = kind.Sign colon; bytes = colon ∷ []; gap = colon_gap d.decl.value (tokens_in source d.value); level = 1 } in
    let after : shown_text (sign ∷ (value ++ important)) ≡ colon ∷ (d.decl.value ++ importance d.decl.important) =
    shown-first sign (value ++ important)
    ∙ ap (λ (cs : List ℕ). colon ∷ (text_of (gap_parts sign.kind sign.gap) ++ cs)) (shown-append value important)
    ∙ ap (λ (cs : List ℕ). colon ∷ cs) (sym (append_assoc (text_of (gap_parts sign.kind sign.gap)) (shown_text value) (shown_text important)))
    ∙ ap (λ (cs : List ℕ). colon ∷ (cs ++ shown_text important)) (colon-text source d told)
    ∙ ap (λ (cs : List ℕ). colon ∷ (d.decl.value ++ cs)) (importance-text d.decl.important) in
    ap (λ (cs : List ℕ). text_at source d.name ++ cs) after ∙ sym (append_assoc (text_at source d.name) (colon ∷ d.decl.value) (importance d.decl.important))

-- a rule's parts, and how they are joined
joined-text : {X : Type 0} (b level : ℕ) (show : X → List Shown) (print : X → List ℕ) (xs : List X) → AllByRecursion (λ x. shown_text (show x) ≡ print x) xs
    → shown_text (joined (sign_shown b level) (map show xs)) ≡ join_with_byte b (map print xs)
joined-text b level show print [] each = refl
joined-text b level show print (x ∷ []) (one, rest) = one
joined-text b level show print (x ∷ y ∷ xs) (one, rest) =
    shown-append (show x) (sign_shown b level ∷ joined (sign_shown b level) (map show (y ∷ xs)))
    ∙ ap (λ (cs : List ℕ). cs ++ (b ∷ shown_text (joined (sign_shown b level) (map show (y ∷ xs))))) one
    ∙ ap (λ (cs : List ℕ). print x ++ (b ∷ cs)) (joined-text b level show print (y ∷ xs) rest)

-- what is printed for a selector is its tokens' text
abbrev pub HasText : List ℕ → SelItem → Type 0
HasText source s = shown_text (selector_shown source s) ≡ printed_selector source s

declarations-text : (source : List ℕ) (ds : List DeclItem) → AllByRecursion (IsTextOf source) ds → AllByRecursion (λ d. shown_text (declaration_shown source d) ≡ printed_declaration source d) ds
declarations-text source [] each = tt
declarations-text source (d ∷ ds) (one, rest) = (declaration-text source d one, declarations-text source ds rest)

rule-text : (source : List ℕ) (r : RuleParts) → AllByRecursion (HasText source) r.selectors → AllByRecursion (IsTextOf source) r.decls → shown_text (rule_shown source r) ≡ printed_rule source r
rule-text source r selectors each =
    let prelude = joined (sign_shown comma 0) (map (selector_shown source) r.selectors) in
    let inside = joined (sign_shown semicolon 1) (map (declaration_shown source) r.decls) in
    shown-append (prelude ++ sign_shown open_curly 0 ∷ inside) (sign_shown close_curly 1 ∷ [])
    ∙ ap (λ (cs : List ℕ). cs ++ close_curly ∷ []) (shown-append prelude (sign_shown open_curly 0 ∷ inside))
    ∙ ap (λ (cs : List ℕ). (cs ++ (open_curly ∷ shown_text inside)) ++ close_curly ∷ []) (joined-text comma 0 (selector_shown source) (printed_selector source) r.selectors selectors)
    ∙ ap (λ (cs : List ℕ). (join_with_byte comma (map (printed_selector source) r.selectors) ++ (open_curly ∷ cs)) ++ close_curly ∷ [])
    (joined-text semicolon 1 (declaration_shown source) (printed_declaration source) r.decls (declarations-text source r.decls each))

-- what is printed for an item is its tokens' text
abbrev pub IsTextOfItem : List ℕ → Item → Type 0
IsTextOfItem source (Rule r) = AllByRecursion (HasText source) r.selectors × AllByRecursion (IsTextOf source) r.decls
IsTextOfItem source (KeptRule k) = AllByRecursion IsLoneBeforeWhite (tokens_in source k.piece)
IsTextOfItem source (KeptBlock piece) = AllByRecursion IsLoneBeforeWhite (tokens_in source piece)

pub item-text : (source : List ℕ) (item : Item) → IsTextOfItem source item → shown_text (item_shown source item) ≡ printed_item source item
item-text source (Rule r) each = rule-text source r each.0 each.1
item-text source (KeptRule k) each = kept-text source (tokens_in source k.piece) each
item-text source (KeptBlock piece) each = kept-text source (tokens_in source piece) each

-- The printed text of items, each of its own source, is the text of their tokens.
pub sourced-text : (xs : List SourcedItem) → AllByRecursion (λ x. IsTextOfItem x.source x.item) xs → shown_text (sourced_shown xs) ≡ flat_map sourced_text xs
sourced-text [] each = refl
sourced-text (x ∷ xs) (one, rest) =
    shown-append (item_shown x.source x.item) (sourced_shown xs)
    ∙ ap (λ (cs : List ℕ). cs ++ shown_text (sourced_shown xs)) (item-text x.source x.item one)
    ∙ ap (λ (cs : List ℕ). sourced_text x ++ cs) (sourced-text xs rest)

pub sheet-text : (source : List ℕ) (items : List Item) → AllByRecursion (IsTextOfItem source) items → shown_text (sheet_shown source items) ≡ flat_map (printed_item source) items
sheet-text source items each =
    sourced-text (all_of_source source items) (each_of_source (λ x. IsTextOfItem x.source x.item) source items each) ∙ text_of_source source items
