-- The printed text of an opened body is a sheet of its own, too.
use Rattle.std.proofs.Common.{◌≡◌, ◌≤◌, inl, ℕ, ◌==◌, Bool, true, false, cond, nat_eq, List, [], ◌∷◌, length, map, Some, Ok, refl, sym, ◌∙◌, ap, ap₂, subst}
use Rattle.std.specs.Prelude.{◌&&◌, ◌||◌}
use Rattle.std.specs.List.{AllByRecursion, AllZip, flat_map, list_any, starts_with}
use Rattle.std.proofs.lemmas.Bool.{false≢true}
use Rattle.std.proofs.lemmas.List.{append-nil}
use Rattle.css_model.specs.declared.sheet.Item.{Item}
use Rattle.css_model.specs.declared.token.Lexeme.{Lexeme}
use Rattle.css_model.specs.declared.token.TokenKind.{TokenKind}
use Rattle.css_model.specs.declared.token.TokenKind.TheVariants as kind
use Rattle.css_model.specs.Sheets.ComesFrom.{ComesFrom}
use Rattle.css_model.specs.Sheets.Items.{is_between_items}
use Rattle.css_model.specs.Sheets.Limits.{max_bytes}
use Rattle.css_model.specs.Sheets.Printed.{behind_mark, printed, printed_item}
use Rattle.css_model.specs.Sheets.Sheet.{sheet_of}
use Rattle.css_model.specs.Sheets.Sound.{IsSoundItem}
use Rattle.css_model.specs.Sheets.Spelling.{lexemes_of}
use Rattle.css_model.specs.Text.Characters.{space}
use Rattle.css_model.specs.Text.Tokens.{byte_order_mark}
use Rattle.css_tokens.specs.Lexed.{IsLexed}
use Rattle.list_facts.proofs.Cuts.{None_of}
use Rattle.media_groups.specs.Opened.{is_comment_sign, is_top_item, sheet_of_body}
use Rattle.print_laws.specs.Replaced.{IsReplacedBy}
use Rattle.print_laws.proofs.ForCallers.{AreKeptBack, IsReplacedBack, IsSourcedKeptBack, chain-shown, ground-of, names-of, parts_of, printed-tokens, replaced-kept-back, sound-item}
use Rattle.selector_text_laws.specs.Back.{is_selector_kind}
use Rattle.sheet_laws.specs.Sourced.{all_of_source, printed_sourced, sourced_text}
use Rattle.sheet_laws.specs.Twins.{AreTwins}
use Rattle.sheet_laws.proofs.ForCallers.{IsFrom, Shown, sheet_shown, shown, text_of_source, twins_of_source}
use Rattle.opened_laws.proofs.Block.Body.{printed_body}
use Rattle.opened_laws.proofs.Block.Spared.{IsSpared, none_sheet}
use Rattle.opened_laws.proofs.Alike.Bodies.{IsSheetOfBody, body_facts, body_is_sheet}
use Rattle.opened_laws.proofs.Back.Kept.{any_follow, kept_tops}

-- ---- no `<!--` and no `-->` is printed outside of brackets

abbrev is_sign : TokenKind → ℕ → Bool
is_sign k level = is_between_items k && level == 0

no_selector : (k : TokenKind) (level : ℕ) → is_selector_kind k ≡ true → is_sign k level ≡ false
no_selector kind.CommentOpen level is = absurd (false≢true is)
no_selector kind.CommentClose level is = absurd (false≢true is)
no_selector _ level is = refl

signs_spared : IsSpared is_sign
signs_spared = record { selector = λ k level is few. no_selector k level is; comma = refl; opens = refl; name = refl; colon = refl; bang = refl; semicolon = refl; closes = refl }

none_of : {A : Type 0} (p : A → Bool) (xs : List A) → list_any p xs ≡ false → None_of p xs
none_of p [] none = tt
none_of p (x ∷ xs) none = which (p x) refl none (none_of p xs)
  where
    which : (b : Bool) → p x ≡ b → (b || list_any p xs) ≡ false → (list_any p xs ≡ false → None_of p xs) → None_of p (x ∷ xs)
    which true is e later = absurd (false≢true (sym e))
    which false is e later = (is, later e)

any_none : (text : List ℕ) (ys : List Lexeme) (ss : List Shown) → map (shown text) ys ≡ ss → None_of (λ s. is_sign s.kind s.level) ss → list_any is_comment_sign ys ≡ false
any_none text ys ss e none = from ys (subst (None_of (λ s. is_sign s.kind s.level)) (sym e) none)
  where
    from : (ys : List Lexeme) → None_of (λ s. is_sign s.kind s.level) (map (shown text) ys) → list_any is_comment_sign ys ≡ false
    from [] none = refl
    from (y ∷ ys) (one, rest) = ap₂ (λ (b c : Bool). b || c) one (from ys rest)

-- ---- items of one source

stay : (source : List ℕ) (new : List Item) → AllZip (IsReplacedBy source) new (all_of_source source new)
stay source [] = tt
stay source (item ∷ new) = (inl refl, stay source new)

kept_of_source : (source text : List ℕ) (new again : List Item) → AllZip (IsSourcedKeptBack text) (all_of_source source new) again → AllZip (AreKeptBack source text) new again
kept_of_source source text [] [] z = tt
kept_of_source source text [] (item' ∷ again) z = absurd z
kept_of_source source text (item ∷ new) [] z = absurd z
kept_of_source source text (item ∷ new) (item' ∷ again) z = (z.0, kept_of_source source text new again z.1)

all_from : (source : List ℕ) (old : List Item) → sheet_of source ≡ Ok old → (new : List Item) → AllByRecursion (IsSoundItem source) new → AllByRecursion (IsFrom source) new
all_from source old e [] sound = tt
all_from source old e (item ∷ new) sound = ((sound-item source (ground-of source old e) (names-of source old e) item sound.0).from, all_from source old e new sound.1)

no_mark : (text : List ℕ) → starts_with nat_eq (behind_mark text) byte_order_mark ≡ false
no_mark text = which (starts_with nat_eq text byte_order_mark) refl
  where
    which : (b : Bool) → starts_with nat_eq text byte_order_mark ≡ b → starts_with nat_eq (cond b (space ∷ text) text) byte_order_mark ≡ false
    which true is = refl
    which false is = is

-- the tokens of what is printed
printed_shown_as : (body : List ℕ) (old new : List Item) → sheet_of body ≡ Ok old → ComesFrom body old new → map (shown (printed body new)) (lexemes_of (printed body new)) ≡ sheet_shown body new
printed_shown_as body old new e from =
    let b = printed_body body old new e from in
    let ss = sheet_shown body new in
    let lexed : IsLexed (parts_of ss) = subst IsLexed (append-nil (parts_of ss)) (b.lexed [] tt tt) in
    (printed-tokens (parts_of ss) ss (flat_map (printed_item body) new) (sym b.text) lexed (chain-shown [] ss b.chain.chain) b.chain).shown_as

-- ---- the body

-- What is printed for the items of a body, and what it is read back as: a sheet of its own.
pub record IsBodyBack (body : List ℕ) (new : List Item) : Type 0 where
  pub again : List Item
  pub is_sheet : sheet_of_body (printed body new) ≡ Some again
  pub twins : AreTwins body (printed body new) new again
  pub prints : printed (printed body new) again ≡ printed body new

-- the same of any text that is printed for them
record IsTextBack (body text : List ℕ) (new : List Item) : Type 0 where
  again : List Item
  is_sheet : sheet_of_body text ≡ Some again
  twins : AreTwins body text new again
  prints : printed text again ≡ text

text_back : (body : List ℕ) (old new : List Item) → IsSheetOfBody body old → ComesFrom body old new → (back : IsReplacedBack (all_of_source body new)) →
    map (shown (printed_sourced (all_of_source body new))) (lexemes_of (printed_sourced (all_of_source body new))) ≡ sheet_shown body new → IsTextBack body (printed_sourced (all_of_source body new)) new
text_back body old new facts from back shown_as =
    let text = printed_sourced (all_of_source body new) in
    let twins = twins_of_source body text new back.again back.twins in
    record {
      again = back.again;
      is_sheet = body_is_sheet text back.again (record {
        unmarked = no_mark (flat_map sourced_text (all_of_source body new));
        unsigned = any_none text (lexemes_of text) (sheet_shown body new) shown_as
            (none_sheet is_sign signs_spared body (none_of is_comment_sign (lexemes_of body) facts.unsigned) new (all_from body old facts.reads new from.sound));
        reads = back.reads;
        plain = kept_tops body text (ground-of body old facts.reads) new back.again twins (kept_of_source body text new back.again back.kept)
            ∙ any_follow (is_top_item body) (λ r. refl) new old from.follows ∙ facts.plain;
      });
      twins = twins;
      prints = back.prints;
    }

pub body_back : (body : List ℕ) (old new : List Item) → sheet_of_body body ≡ Some old → ComesFrom body old new → length (printed body new) ≤ max_bytes → IsBodyBack body new
body_back body old new is from short =
    let facts = body_facts body old is in
    let same : printed_sourced (all_of_source body new) ≡ printed body new = ap behind_mark (text_of_source body new) in
    let back = replaced-kept-back body old new (all_of_source body new) facts.reads from (stay body new) (subst (λ (text : List ℕ). length text ≤ max_bytes) (sym same) short) in
    let shown_as = subst (λ text. map (shown text) (lexemes_of text) ≡ sheet_shown body new) (sym same) (printed_shown_as body old new facts.reads from) in
    let t = subst (λ text. IsTextBack body text new) same (text_back body old new facts from back shown_as) in
    record { again = t.again; is_sheet = t.is_sheet; twins = t.twins; prints = t.prints }
