-- The printed text of an opened block is read back as it.
use Rattle.std.proofs.Common.{◌≡◌, ℕ, suc, ◌==◌, nat_eq, Bool, true, false, List, [], ◌∷◌, ◌++◌, map, Ok, refl, sym, ◌∙◌, ap, subst, arith, append_assoc}
use Rattle.std.specs.Prelude.{◌&&◌}
use Rattle.std.specs.List.{AllByRecursion, starts_with}
use Rattle.std.proofs.lemmas.Bool.{eqb-true, ne_eqb, true≢false}
use Rattle.css_model.specs.declared.limits.TheConstants.{MAX_DEPTH}
use Rattle.css_model.specs.declared.sheet.Item.{Item}
use Rattle.css_model.specs.declared.token.Lexeme.{Lexeme}
use Rattle.css_model.specs.declared.token.TokenKind.{TokenKind}
use Rattle.css_model.specs.declared.token.TokenKind.TheVariants as kind
use Rattle.css_model.specs.Sheets.Printed.{printed}
use Rattle.css_model.specs.Sheets.Sheet.{sheet_of}
use Rattle.css_model.specs.Sheets.Spelling.{kept_text, lexemes_of}
use Rattle.css_model.specs.Text.Characters.{close_curly, open_curly}
use Rattle.css_model.specs.Text.Kept.{kept, solid}
use Rattle.css_model.specs.Text.Lexemes.{is_sign_of, opens}
use Rattle.css_model.specs.Text.Source.{text_at}
use Rattle.css_model.specs.Text.Tokens.{byte_order_mark}
use Rattle.list_facts.proofs.Cuts.{None_of}
use Rattle.selector_text_laws.specs.Back.{is_selector_kind}
use Rattle.sheet_laws.proofs.ForCallers.{sheet_shown}
use Rattle.media_groups.specs.declared.media.Media.{Media}
use Rattle.media_groups.specs.Laws.{IsBlockOf, OpenedBlocksAreSheets}
use Rattle.media_groups.specs.Opened.{opened_of}
use Rattle.media_groups.specs.Printed.{block_text}
use Rattle.opened_laws.specs.Block.Blocks.{BlocksReadBack, IsMediaText, ReadsBackAsBlock}
use Rattle.opened_laws.proofs.Block.Block.{media_text, no_second}
use Rattle.opened_laws.proofs.Block.Body.{PrintedBody, printed_body}
use Rattle.opened_laws.proofs.Block.Inside.{inner_marks, none_mapped}
use Rattle.opened_laws.proofs.Block.Levels.{is_stray}
use Rattle.opened_laws.proofs.Block.Marks.{Mark, closes_at, deeper_mark, mark, one_more}
use Rattle.opened_laws.proofs.Block.Opened.{OpenedBlock, opened_blocks}
use Rattle.opened_laws.proofs.Block.Spared.{IsSpared, none_sheet}

-- ---- what no token is that is printed for a rule

selector_stays : (k : TokenKind) → is_selector_kind k ≡ true → is_sign_of close_curly k ≡ false
selector_stays (kind.Sign c) is = which (c == close_curly) refl
  where
    which : (b : Bool) → (c == close_curly) ≡ b → (c == close_curly) ≡ false
    which false other = other
    which true same = absurd (true≢false (sym is ∙ ap (λ (n : ℕ). is_selector_kind (kind.Sign n)) (eqb-true c close_curly same)))
selector_stays _ is = refl

-- a `}` inside no bracket
stray_spared : IsSpared (λ k level. is_sign_of close_curly k && level == 0)
stray_spared = record {
  selector = λ k level is few. ap (λ (b : Bool). b && level == 0) (selector_stays k is);
  comma = refl;
  opens = refl;
  name = refl;
  colon = refl;
  bang = refl;
  semicolon = refl;
  closes = refl;
}

-- a bracket that opens too deep inside a block
deep_spared : IsSpared (λ k level. opens k && suc level == MAX_DEPTH)
deep_spared = record {
  selector = λ k level is few. no_second (opens k) (suc level == MAX_DEPTH) (ne_eqb (suc level) MAX_DEPTH (λ e. absurd (omega (arith, few, e))));
  comma = refl;
  opens = refl;
  name = refl;
  colon = refl;
  bang = refl;
  semicolon = refl;
  closes = refl;
}

-- ---- the tokens of a body

none_unmapped : {A B : Type 0} (f : A → B) (p : B → Bool) (xs : List A) → None_of p (map f xs) → None_of (λ x. p (f x)) xs
none_unmapped f p [] none = tt
none_unmapped f p (x ∷ xs) none = (none.0, none_unmapped f p xs none.1)

-- what none of the tokens of a block is, none of its body's is, one level less deep
none_inside : (inner xs : List Lexeme) → map mark inner ≡ map deeper_mark (map mark xs)
    → (p : Mark → Bool) → None_of (λ x. p (mark x)) inner → None_of (λ x. p (deeper_mark (mark x))) xs
none_inside inner xs same p none = none_unmapped mark (λ m. p (deeper_mark m)) xs (none_unmapped deeper_mark p (map mark xs) (subst (None_of p) same (none_mapped mark p inner none)))

none_stray : (xs : List Lexeme) → None_of (λ x. closes_at 1 (deeper_mark (mark x))) xs → None_of (λ x. is_sign_of close_curly x.kind && x.level == 0) xs
none_stray [] none = tt
none_stray (x ∷ xs) none = (ap (λ (b : Bool). is_sign_of close_curly x.kind && b) (sym (one_more x.level)) ∙ none.0, none_stray xs none.1)

-- ---- an opened block

block_back : (source : List ℕ) (old : List Item) → sheet_of source ≡ Ok old → (m : Media) → IsBlockOf source m → OpenedBlock source m → ReadsBackAsBlock source m
block_back source old e m of o body from short =
    subst (λ (head : List ℕ). IsMediaText (block_text source m body) head (printed (text_at source m.body) body.items)) (sym head_is)
    (media_text source o.head o.is_head (text_at source m.body) body.items b stays deep (block_text source m body) text_is short)
  where
    b : PrintedBody (text_at source m.body) body.items
    b = printed_body (text_at source m.body) m.sheet.items body.items of.reads from

    head_is : kept_text source m.head ≡ kept (map (solid source) o.head)
    head_is = ap (λ (xs : List Lexeme). kept (map (solid source) xs)) o.head_in

    marks : map mark o.inner ≡ map deeper_mark (map mark (lexemes_of (text_at source m.body)))
    marks = inner_marks source old e (o.before ++ o.head) o.open_ o.inner o.close o.rest o.block
        (ap (λ p. starts_with nat_eq (text_at source p) byte_order_mark) (sym o.body) ∙ of.unmarked)
        ∙ ap (λ p. map deeper_mark (map mark (lexemes_of (text_at source p)))) (sym o.body)

    stays : None_of is_stray (sheet_shown (text_at source m.body) body.items)
    stays = none_sheet (λ k level. is_sign_of close_curly k && level == 0) stray_spared (text_at source m.body)
        (none_stray (lexemes_of (text_at source m.body)) (none_inside o.inner (lexemes_of (text_at source m.body)) marks (closes_at 1) o.block.stays)) body.items b.from

    deep : None_of (λ s. opens s.kind && suc s.level == MAX_DEPTH) (sheet_shown (text_at source m.body) body.items)
    deep = none_sheet (λ k level. opens k && suc level == MAX_DEPTH) deep_spared (text_at source m.body)
        (none_inside o.inner (lexemes_of (text_at source m.body)) marks (λ x. opens x.kind && x.level == MAX_DEPTH) o.shallow) body.items b.from

    text_is : block_text source m body ≡ kept (map (solid source) o.head) ++ (open_curly ∷ (printed (text_at source m.body) body.items ++ close_curly ∷ []))
    text_is =
        append_assoc (kept_text source m.head) (open_curly ∷ printed (text_at source m.body) body.items) (close_curly ∷ [])
        ∙ ap (λ (cs : List ℕ). cs ++ (open_curly ∷ (printed (text_at source m.body) body.items ++ close_curly ∷ []))) head_is

all_back : (source : List ℕ) (old : List Item) → sheet_of source ≡ Ok old
    → (media : List Media) → AllByRecursion (IsBlockOf source) media → AllByRecursion (OpenedBlock source) media → AllByRecursion (ReadsBackAsBlock source) media
all_back source old e [] are opened = tt
all_back source old e (m ∷ media) are opened = (block_back source old e m are.0 opened.0, all_back source old e media are.1 opened.1)

pub read_back : OpenedBlocksAreSheets → BlocksReadBack
read_back sheets source old e = all_back source old e (opened_of old source) (sheets source old) (opened_blocks source old e)
