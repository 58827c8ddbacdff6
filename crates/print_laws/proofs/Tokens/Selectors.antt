-- The tokens of a printed selector: their parts, their text, their brackets, and that they are read where they stand.
use Rattle.std.proofs.Common.{◌≡◌, ℕ, Bool, true, false, cond, List, [], ◌∷◌, ◌++◌, map, length, Option, Some, None, Result, Ok, Err, refl, sym, ◌∙◌, ap, subst}
use Rattle.std.specs.List.{AllByRecursion}
use Rattle.std.specs.Str.{IsUtf8}
use Rattle.std.proofs.lemmas.Bool.{false≢true}
use Rattle.std.proofs.lemmas.List.{append-nil}
use Rattle.css_model.specs.declared.sheet.SelItem.{SelItem}
use Rattle.css_model.specs.declared.token.Gap.{Gap}
use Rattle.css_model.specs.declared.token.Gap.TheVariants as gap
use Rattle.css_model.specs.declared.token.Lexeme.{Lexeme}
use Rattle.css_model.specs.declared.token.TokenKind.{TokenKind}
use Rattle.css_model.specs.declared.token.TokenKind.TheVariants as kind
use Rattle.css_model.specs.Selectors.Terms.{depth_behind}
use Rattle.css_model.specs.Selectors.Tokens.{selector_token}
use Rattle.css_model.specs.Sheets.Printed.{printed_selector}
use Rattle.css_model.specs.Sheets.PrintedSelector.{selector_text}
use Rattle.css_model.specs.Sheets.Spelling.{lexemes_of, tokens_in}
use Rattle.css_model.specs.Text.Kept.{Solid, solid}
use Rattle.css_model.specs.Text.Lexemes.{closer_of, is_sign_of, is_white_kind}
use Rattle.css_model.specs.declared.token.TokenFlaw.{TokenFlaw}
use Rattle.css_model.specs.Text.TokenAt.{Shape, part_at}
use Rattle.css_model.specs.Text.Tokens.{Part, text_of}
use Rattle.css_tokens.specs.Lexed.{IsLexed}
use Rattle.token_laws.specs.Solids.{gap_before, gap_by, solids}
use Rattle.token_laws.proofs.ForCallers.{sign_read}
use Rattle.selector_text_laws.specs.Back.{back, is_selector_kind}
use Rattle.selector_text_laws.specs.Closed as closed
use Rattle.selector_text_laws.specs.Closed.{SolidWalk}
use Rattle.selector_text_laws.specs.Text.{IsSelectorIn, IsSelectorText, parts_behind, parts_for}
use Rattle.selector_text_laws.proofs.ForCallers.{AreUtf8, back_is_utf8, selector_texts_are_lexed, selectors_close}
use Rattle.sheet_laws.proofs.ForCallers.{IsOfSelector, selector_shown, with_levels}
use Rattle.print_laws.proofs.Levels.Items.{IsPartOf}
use Rattle.print_laws.proofs.Levels.Sheet.{Chain, chain-first, chain-none}
use Rattle.print_laws.proofs.Source.Tokens.{IsGoodLexeme}
use Rattle.print_laws.proofs.Tokens.Chain.{IsTold, gap_parts, parts_of}
use Rattle.print_laws.proofs.Tokens.Lexed.{Ends, IsReadBefore, IsSpelledBy, ends-behind, part-solids}
use Rattle.print_laws.proofs.Tokens.Parts.{closers_after, opened_by}
use Rattle.print_laws.proofs.Tokens.Texts.{shown_text}

-- ---- parts

gap-same : (k : TokenKind) (g : Gap) → gap_parts k g ≡ parts_behind k g
gap-same k gap.Nothing = refl
gap-same k gap.Comments = refl
gap-same k gap.White = refl

parts-levels : (level : ℕ) (bs : List Solid) → parts_of (with_levels level bs) ≡ parts_for bs
parts-levels level [] = refl
parts-levels level (b ∷ bs) =
    let d = depth_behind level (selector_token b) in
    ap (λ (ps : List Part). record { kind = Some b.kind; bytes = b.bytes } ∷ (ps ++ parts_of (with_levels d bs))) (gap-same b.kind b.gap)
    ∙ ap (λ (ps : List Part). record { kind = Some b.kind; bytes = b.bytes } ∷ (parts_behind b.kind b.gap ++ ps)) (parts-levels d bs)

-- ---- brackets

opened-same : (o : Option ℕ) (cs : List ℕ) → closed.opened_by o cs ≡ opened_by o cs
opened-same None cs = refl
opened-same (Some c) cs = refl

closers-same : (k : TokenKind) (cs : List ℕ) → closed.closers_after k cs ≡ closers_after k cs
closers-same k [] = opened-same (closer_of k) []
closers-same k (c ∷ cs) = ap (λ (ds : List ℕ). cond (is_sign_of c k) cs ds) (opened-same (closer_of k) (c ∷ cs))

kind-solid : (k : TokenKind) → is_selector_kind k ≡ true → is_white_kind k ≡ false
kind-solid kind.White is = absurd (false≢true is)
kind-solid _ is = refl

-- comments stand before another token
abbrev AreTold : List Solid → Type 0
AreTold [] = Unit {0}
AreTold (b ∷ bs) = IsTold b.gap (with_levels 0 bs) × AreTold bs

told-level : (g : Gap) (level : ℕ) (bs : List Solid) → IsTold g (with_levels 0 bs) → IsTold g (with_levels level bs)
told-level gap.Comments level [] told = told
told-level gap.Comments level (b ∷ bs) told = tt
told-level gap.Nothing level bs told = tt
told-level gap.White level bs told = tt

walk-chain : (cs ds : List ℕ) (bs : List Solid) → SolidWalk cs bs ds → AllByRecursion (λ b. is_selector_kind b.kind ≡ true) bs → AreTold bs → Chain cs (with_levels (length cs) bs) ds
walk-chain cs ds [] walk kinds told = subst (Chain cs []) walk (chain-none cs)
walk-chain cs ds (b ∷ bs) walk kinds told =
    let es = closed.closers_after b.kind cs in
    let rest : Chain es (with_levels (length es) bs) ds = walk-chain es ds bs walk.2 kinds.1 told.1 in
    let later : Chain es (with_levels (depth_behind (length cs) (selector_token b)) bs) ds = subst (λ (n : ℕ). Chain es (with_levels n bs) ds) walk.1 rest in
    chain-first cs es ds (record { kind = b.kind; bytes = b.bytes; gap = b.gap; level = length cs }) (with_levels (depth_behind (length cs) (selector_token b)) bs)
    (kind-solid b.kind kinds.0) refl (told-level b.gap (depth_behind (length cs) (selector_token b)) bs told.0) (sym (closers-same b.kind cs)) later

-- the tokens of parts that spell tokens are these, so no comment stands behind the last
passed : (k : TokenKind) (g : Gap) (ps : List Part) → solids (parts_behind k g ++ ps) ≡ solids ps
passed k gap.Nothing ps = refl
passed k gap.Comments ps = refl
passed k gap.White ps = refl

abbrev head-gap : List Solid → Gap
head-gap [] = gap.Nothing
head-gap (b ∷ bs) = b.gap

abbrev tail-of : List Solid → List Solid
tail-of [] = []
tail-of (b ∷ bs) = bs

solids-told : (bs : List Solid) → AllByRecursion (λ b. is_selector_kind b.kind ≡ true) bs → solids (parts_for bs) ≡ bs → AreTold bs
solids-told [] kinds same = tt
solids-told (b ∷ bs) kinds same =
    let behind = parts_behind b.kind b.gap ++ parts_for bs in
    let first : solids (parts_for (b ∷ bs)) ≡ record { kind = b.kind; bytes = b.bytes; gap = gap_before false behind } ∷ solids behind =
    ap (λ (w : Bool). cond w (solids behind) (record { kind = b.kind; bytes = b.bytes; gap = gap_before false behind } ∷ solids behind)) (kind-solid b.kind kinds.0) in
    let here : gap_before false behind ≡ b.gap = ap head-gap (sym first ∙ same) in
    let later : solids (parts_for bs) ≡ bs = sym (passed b.kind b.gap (parts_for bs)) ∙ ap tail-of (sym first ∙ same) in
    (told b.gap bs here, solids-told bs kinds.1 later)
  where
    told : (g : Gap) (bs : List Solid) → gap_before false (parts_behind b.kind g ++ parts_for bs) ≡ g → IsTold g (with_levels 0 bs)
    told gap.Nothing bs e = tt
    told gap.White bs e = tt
    told gap.Comments [] e = absurd (let none : gap.Nothing ≡ gap.Comments = e in cc)
    told gap.Comments (c ∷ cs) e = tt

-- ---- a sign behind

abbrev kind-or : Result Shape TokenFlaw → Option TokenKind
kind-or (Ok s) = s.0
kind-or (Err f) = None

-- nothing stands before a sign
calm : (rest : List Part) → IsLexed rest → Ends rest → gap_before false rest ≡ gap.Nothing
calm [] lexed ends = refl
calm (p ∷ ps) lexed ends =
    let sign : p.kind ≡ Some (kind.Sign ends.first) = ap kind-or (sym lexed.0 ∙ ap part_at ends.is ∙ sign_read ends.more ends.first ends.sign) in
    ap (λ (o : Option TokenKind). gap_by o false (gap_before true ps)) sign

-- ---- a selector of a source

-- its tokens, by the parts of the source
pub selector-in : (source : List ℕ) (ps : List Part) → IsSpelledBy source ps → (s : SelItem) → IsOfSelector source s → (p : IsPartOf (lexemes_of source) (tokens_in source s.piece))
    → IsSelectorIn ps (length p.before) (length (tokens_in source s.piece)) (map (solid source) (tokens_in source s.piece)) s.selector
selector-in source ps spelled s of p = record { lexed = spelled.lexed; are = sym (part-solids source ps (tokens_in source s.piece) spelled p); reads = of.reads }

-- a selector whose tokens are shown
pub record IsShownSelector (source : List ℕ) (s : SelItem) : Type 0 where
  pub chain : Chain [] (selector_shown source s) []
  pub text : shown_text (selector_shown source s) ≡ printed_selector source s
  pub read : IsReadBefore (selector_shown source s)
  pub utf8 : AllByRecursion (λ t. IsUtf8 t.bytes) (selector_shown source s)

levels-utf8 : (level : ℕ) (bs : List Solid) → AreUtf8 bs → AllByRecursion (λ t. IsUtf8 t.bytes) (with_levels level bs)
levels-utf8 level [] each = tt
levels-utf8 level (b ∷ bs) (one, each) = (one, levels-utf8 (depth_behind level (selector_token b)) bs each)

good-utf8 : (source : List ℕ) (xs : List Lexeme) → AllByRecursion (IsGoodLexeme source) xs → AreUtf8 (map (solid source) xs)
good-utf8 source [] each = tt
good-utf8 source (x ∷ xs) (one, each) = (one.good.utf8, good-utf8 source xs each)

pub shown-selector : (source : List ℕ) (ps : List Part) → IsSpelledBy source ps → (s : SelItem) → IsOfSelector source s → IsPartOf (lexemes_of source) (tokens_in source s.piece)
    → AllByRecursion (IsGoodLexeme source) (tokens_in source s.piece) → IsShownSelector source s
shown-selector source ps spelled s of p good =
    record {
      chain = walk-chain [] [] bs (selectors_close ss s.selector of.reads) of.again.kinds told;
      text = ap text_of parts-are ∙ sym (append-nil (text_of (parts_for bs))) ∙ spells;
      read = read;
      utf8 = levels-utf8 0 bs (back_is_utf8 ss (good-utf8 source (tokens_in source s.piece) good));
    }
  where
    ss : List Solid
    ss = map (solid source) (tokens_in source s.piece)

    bs : List Solid
    bs = back ss

    inside : IsSelectorIn ps (length p.before) (length (tokens_in source s.piece)) ss s.selector
    inside = selector-in source ps spelled s of p

    parts-are : parts_of (selector_shown source s) ≡ parts_for bs
    parts-are = parts-levels 0 bs

    alone : IsSelectorText (selector_text ss) bs []
    alone = selector_texts_are_lexed ps (length p.before) (length (tokens_in source s.piece)) ss s.selector inside [] tt tt refl

    told : AreTold bs
    told = solids-told bs of.again.kinds (ap solids (sym (append-nil (parts_for bs)) ∙ sym alone.are) ∙ alone.reads ∙ append-nil bs)

    spells : text_of (parts_for bs) ++ [] ≡ selector_text ss
    spells = append-nil (text_of (parts_for bs)) ∙ ap text_of (sym (append-nil (parts_for bs)) ∙ sym alone.are) ∙ alone.spells ∙ append-nil (selector_text ss)

    read : IsReadBefore (selector_shown source s)
    read rest lexed ends =
        let before = selector_texts_are_lexed ps (length p.before) (length (tokens_in source s.piece)) ss s.selector inside rest lexed (ends-behind rest ends) (calm rest lexed ends) in
        subst IsLexed (before.are ∙ ap (λ (qs : List Part). qs ++ rest) (sym parts-are)) before.lexed
