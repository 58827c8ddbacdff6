-- The text of a printed block, by its tokens: one kept block, whose head and body are those that were printed.
use Rattle.std.proofs.Common.{◌≡◌, ℕ, ◌==◌, nat_eq, Bool, true, false, List, [], ◌∷◌, ◌++◌, map, length, drop, None, refl, sym, ◌∙◌, ap, subst}
use Rattle.std.specs.Prelude.{◌&&◌, codes}
use Rattle.std.specs.List.{AllByRecursion, last_or, starts_with}
use Rattle.std.specs.Option.{option_map}
use Rattle.std.specs.Str.{IsUtf8}
use Rattle.std.proofs.lemmas.Bool.{and_parts, cond-false, eqb-true, false≢true}
use Rattle.std.proofs.lemmas.List.{append_assoc, length-map}
use Rattle.css_model.specs.declared.token.Lexeme.{Lexeme}
use Rattle.css_model.specs.Sheets.Items.{is_at_rule}
use Rattle.css_model.specs.Sheets.Sheet.{is_at_rule_named, unclosed}
use Rattle.css_model.specs.Sheets.Spelling.{lexemes_of}
use Rattle.css_model.specs.Text.Characters.{close_curly}
use Rattle.css_model.specs.declared.token.Gap.TheVariants as gap
use Rattle.css_model.specs.Text.Kept.{behind_last, between, is_lone, kept, solid}
use Rattle.css_model.specs.Text.Lexemes.{is_sign_of}
use Rattle.css_model.specs.Text.Names.{is_named}
use Rattle.css_model.specs.Text.Tokens.{byte_order_mark, tokens}
use Rattle.css_tokens.specs.Lexed.{IsLexed}
use Rattle.list_facts.proofs.Cuts.{None_of}
use Rattle.list_facts.proofs.Zips.{IsCut, cons_head, cons_not_empty, cons_tail, cut_at}
use Rattle.sheet_laws.proofs.ForCallers.{Shown, shown}
use Rattle.print_laws.proofs.ForCallers.{Chain, Ground, HasTokens, IsGoodLexeme, ground, parts-at, parts_of, printed-tokens, chain-shown, shown-utf8, shown_text}
use Rattle.opened_laws.proofs.Block.Inside.{lexemes_of_parts}
use Rattle.opened_laws.proofs.Block.Item.{block_tokens}
use Rattle.opened_laws.proofs.Block.Levels.{deeper, is_stray}
use Rattle.opened_laws.proofs.Block.Marks.{one_more}
use Rattle.opened_laws.proofs.Block.Places.{BlockPlaces, block_places, spans, spans_are}
use Rattle.opened_laws.proofs.Block.Spelled.{IsSpelled, all_spelled}

-- ---- what shown tokens tell of those of the text

pub none_as : {A B : Type 0} (f : A → B) (p : B → Bool) (xs : List A) (ys : List B) → map f xs ≡ ys → None_of p ys → None_of (λ x. p (f x)) xs
none_as f p xs ys same none = from xs (subst (None_of p) (sym same) none)
  where
    from : (xs : List _) → None_of p (map f xs) → None_of (λ x. p (f x)) xs
    from [] none = tt
    from (x ∷ xs) none = (none.0, from xs none.1)

pub none_deeper : (p : Shown → Bool) (ss : List Shown) → None_of (λ s. p (deeper s)) ss → None_of p (map deeper ss)
none_deeper p [] none = tt
none_deeper p (s ∷ ss) none = (none.0, none_deeper p ss none.1)

pub stays_deeper : (ss : List Shown) → None_of is_stray ss → None_of (λ s. is_sign_of close_curly s.kind && s.level == 1) (map deeper ss)
stays_deeper [] none = tt
stays_deeper (s ∷ ss) none = (ap (λ (b : Bool). is_sign_of close_curly s.kind && b) (one_more s.level) ∙ none.0, stays_deeper ss none.1)

-- the tokens of a text that are shown as a block
pub record BlockTokens (text : List ℕ) (ys : List Lexeme) (head : List Shown) (o : Shown) (inside : List Shown) (c : Shown) : Type 0 where
  pub front : List Lexeme
  pub open_ : Lexeme
  pub inner : List Lexeme
  pub close : Lexeme
  pub are : ys ≡ block_tokens front open_ inner close
  pub front_as : map (shown text) front ≡ head
  pub open_as : shown text open_ ≡ o
  pub inner_as : map (shown text) inner ≡ inside
  pub close_as : shown text close ≡ c

one_token : (text : List ℕ) (ys : List Lexeme) (c : Shown) → map (shown text) ys ≡ c ∷ [] → (y : Lexeme) × (ys ≡ y ∷ []) × (shown text y ≡ c)
one_token text [] c e = absurd (cons_not_empty c [] (sym e))
one_token text (y ∷ []) c e = (y, refl, cons_head (shown text y) c [] [] e)
one_token text (y ∷ z ∷ ys) c e = absurd (cons_not_empty (shown text z) (map (shown text) ys) (cons_tail (shown text y) c _ [] e))

block_cut : (text : List ℕ) (ys : List Lexeme) (head : List Shown) (o : Shown) (inside : List Shown) (c : Shown) → map (shown text) ys ≡ head ++ o ∷ (inside ++ c ∷ []) → BlockTokens text ys head o inside c
block_cut text ys head o inside c e = from cut.lower cut.whole cut.is_behind
  where
    cut : IsCut (shown text) ys head (o ∷ (inside ++ c ∷ []))
    cut = cut_at (shown text) ys head (o ∷ (inside ++ c ∷ [])) e

    from : (lower : List Lexeme) → ys ≡ cut.upper ++ lower → map (shown text) lower ≡ o ∷ (inside ++ c ∷ []) → BlockTokens text ys head o inside c
    from [] whole behind = absurd (cons_not_empty o (inside ++ c ∷ []) (sym behind))
    from (y ∷ lower) whole behind =
        let rest = cut_at (shown text) lower inside (c ∷ []) (cons_tail (shown text y) o (map (shown text) lower) (inside ++ c ∷ []) behind) in
        let last = one_token text rest.lower c rest.is_behind in
        record {
          front = cut.upper;
          open_ = y;
          inner = rest.upper;
          close = last.0;
          are = whole ∙ ap (λ (zs : List Lexeme). cut.upper ++ y ∷ zs) (rest.whole ∙ ap (λ (zs : List Lexeme). rest.upper ++ zs) last.1);
          front_as = cut.is_front;
          open_as = cons_head (shown text y) o (map (shown text) lower) (inside ++ c ∷ []) behind;
          inner_as = rest.is_front;
          close_as = last.2;
        }

-- ---- a text with the tokens of a block

-- a name that does not begin as the second byte of a byte order mark
pub record IsNoMark (word : List ℕ) : Type 0 where
  pub some : is_named word [] ≡ false
  pub other : (bytes : List ℕ) → is_named word (0xBB ∷ bytes) ≡ false

unmarked : (word : List ℕ) → IsNoMark word → (bytes rest : List ℕ) → is_named word (drop 1 bytes) ≡ true → starts_with nat_eq (bytes ++ rest) byte_order_mark ≡ false
unmarked word w [] rest named = absurd (false≢true (sym w.some ∙ named))
unmarked word w (a ∷ []) rest named = absurd (false≢true (sym w.some ∙ named))
unmarked word w (a ∷ b ∷ bytes) rest named = which (starts_with nat_eq (a ∷ b ∷ bytes ++ rest) byte_order_mark) refl
  where
    which : (m : Bool) → starts_with nat_eq (a ∷ b ∷ bytes ++ rest) byte_order_mark ≡ m → starts_with nat_eq (a ∷ b ∷ bytes ++ rest) byte_order_mark ≡ false
    which false none = none
    which true mark =
        let second : 0xBB ≡ b = eqb-true 0xBB b (and_parts (nat_eq 0xBB b) _ (and_parts (nat_eq 0xEF a) _ mark).1).0 in
        absurd (false≢true (sym (w.other bytes) ∙ ap (λ (n : ℕ). is_named word (n ∷ bytes)) second ∙ named))

-- an at-rule of this name does not begin as a byte order mark does
pub rule_first : (word : List ℕ) → IsNoMark word → (source : List ℕ) (xs : List Lexeme) (more : List ℕ) → is_at_rule_named word source xs ≡ true → starts_with nat_eq (kept (map (solid source) xs) ++ more) byte_order_mark ≡ false
rule_first word w source [] more named = absurd (false≢true named)
rule_first word w source (x ∷ []) more named =
    let s = solid source x in
    ap (λ (cs : List ℕ). starts_with nat_eq cs byte_order_mark) (append_assoc s.bytes (behind_last s) more)
    ∙ unmarked word w s.bytes (behind_last s ++ more) (and_parts (is_at_rule (x ∷ [])) (is_named word (drop 1 s.bytes)) named).1
rule_first word w source (x ∷ y ∷ xs) more named =
    let s = solid source x in
    let rest = kept (map (solid source) (y ∷ xs)) in
    ap (λ (cs : List ℕ). starts_with nat_eq cs byte_order_mark) (append_assoc (s.bytes ++ between s) rest more ∙ append_assoc s.bytes (between s) (rest ++ more))
    ∙ unmarked word w s.bytes (between s ++ (rest ++ more)) (and_parts (is_at_rule (x ∷ y ∷ xs)) (is_named word (drop 1 s.bytes)) named).1

pub media_word : IsNoMark (codes "media")
media_word = record { some = refl; other = λ bytes. refl }

pub import_word : IsNoMark (codes "import")
import_word = record { some = refl; other = λ bytes. refl }

pub media_first : (source : List ℕ) (xs : List Lexeme) (more : List ℕ) → is_at_rule_named (codes "media") source xs ≡ true → starts_with nat_eq (kept (map (solid source) xs) ++ more) byte_order_mark ≡ false
media_first source xs more media = rule_first (codes "media") media_word source xs more media

-- a text that is printed for a block
pub record IsBlockText (text : List ℕ) (head : List Shown) (o : Shown) (inside : List Shown) (c : Shown) : Type 0 where
  pub ground : Ground text
  pub utf8 : IsUtf8 text
  pub clean : (tokens text true).fault ≡ None
  pub closed : unclosed (tokens text true).tokens ≡ None
  pub spells : text ≡ shown_text (head ++ o ∷ (inside ++ c ∷ []))
  pub shown_as : map (shown text) (lexemes_of text) ≡ head ++ o ∷ (inside ++ c ∷ [])
  pub spelled : AllByRecursion IsSpelled (head ++ o ∷ (inside ++ c ∷ []))
  pub tokens_are : BlockTokens text (lexemes_of text) head o inside c
  pub places : BlockPlaces tokens_are.front tokens_are.open_ tokens_are.inner tokens_are.close head o inside c

lone_shown : (text : List ℕ) (xs : List Lexeme) → AllByRecursion (IsGoodLexeme text) xs → AllByRecursion (λ s. is_lone s.kind ≡ true → s.gap ≡ gap.White) (map (shown text) xs)
lone_shown text [] each = tt
lone_shown text (x ∷ xs) (one, each) = (one.good.lone, lone_shown text xs each)

-- a text whose parts are those of such tokens
pub block_text_of : (text : List ℕ) (head : List Shown) (o : Shown) (inside : List Shown) (c : Shown) → text ≡ shown_text (head ++ o ∷ (inside ++ c ∷ [])) → IsLexed (parts_of (head ++ o ∷ (inside ++ c ∷ [])))
    → Chain [] (head ++ o ∷ (inside ++ c ∷ [])) [] → AllByRecursion (λ s. IsUtf8 s.bytes) (head ++ o ∷ (inside ++ c ∷ [])) → starts_with nat_eq text byte_order_mark ≡ false
    → IsBlockText text head o inside c
block_text_of text head o inside c spells lexed chain utf8 no_mark =
    record {
      ground = g;
      utf8 = text_utf8;
      clean = has.clean;
      closed = closed;
      spells = spells;
      shown_as = has.shown_as;
      spelled = all_spelled [] (head ++ o ∷ (inside ++ c ∷ [])) chain.chain lexed (subst (AllByRecursion (λ s. is_lone s.kind ≡ true → s.gap ≡ gap.White)) has.shown_as (lone_shown text (lexemes_of text) g.each));
      tokens_are = t;
      places = block_places t.front t.open_ t.inner t.close head o inside c
          (ap (map (λ x. x.span)) (sym t.are) ∙ spanned)
          (sym (length-map t.front (shown text)) ∙ ap length t.front_as)
          (sym (length-map t.inner (shown text)) ∙ ap length t.inner_as);
    }
  where
    has : HasTokens text (head ++ o ∷ (inside ++ c ∷ []))
    has = subst (λ (cs : List ℕ). HasTokens cs (head ++ o ∷ (inside ++ c ∷ []))) (cond-false _ _ _ no_mark)
        (printed-tokens (parts_of (head ++ o ∷ (inside ++ c ∷ []))) (head ++ o ∷ (inside ++ c ∷ [])) text spells lexed (chain-shown [] (head ++ o ∷ (inside ++ c ∷ [])) chain.chain) chain)

    spanned : map (λ x. x.span) (lexemes_of text) ≡ spans 0 (head ++ o ∷ (inside ++ c ∷ []))
    spanned = ap (map (λ x. x.span)) (lexemes_of_parts text (parts_of (head ++ o ∷ (inside ++ c ∷ []))) spells lexed no_mark)
        ∙ spans_are 0 (head ++ o ∷ (inside ++ c ∷ [])) _ (parts-at 0 false [] [] (head ++ o ∷ (inside ++ c ∷ [])) chain.chain)

    text_utf8 : IsUtf8 text
    text_utf8 = subst IsUtf8 (sym spells) (shown-utf8 (head ++ o ∷ (inside ++ c ∷ [])) utf8)

    closed : unclosed (tokens text true).tokens ≡ None
    closed = ap (λ bs. option_map (λ b. b.at) (last_or None bs)) has.open_none

    g : Ground text
    g = ground text has.clean text_utf8 closed

    t : BlockTokens text (lexemes_of text) head o inside c
    t = block_cut text (lexemes_of text) head o inside c has.shown_as
