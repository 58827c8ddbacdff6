-- The printed text of a selector is read where it stands, and read back as that selector.
use Rattle.std.proofs.Common.{◌≡◌, ℕ, zero, suc, ◌==◌, inl, inr, Bool, true, false, ◌&&◌, ◌||◌, cond, List, [], ◌∷◌, ◌++◌, length, drop, Some, Ok, Err, refl, sym, ap, ◌∙◌, subst, arith, codes}
use Rattle.std.specs.List.{AllByRecursion}
use Rattle.std.proofs.lemmas.Bool.{eqb-true, false≢true}
use Rattle.css_model.specs.declared.reason.Reason.TheVariants.{NotAllowed}
use Rattle.css_model.specs.declared.token.TokenKind.{TokenKind}
use Rattle.css_model.specs.declared.token.TokenKind.TheVariants as kind
use Rattle.css_model.specs.Documents.SelectorParts.{SelectorParts}
use Rattle.css_model.specs.Lists.{begins_with, same_text}
use Rattle.css_model.specs.Selectors.Arguments.{argument_of, is_position_function}
use Rattle.css_model.specs.Selectors.Reading.{selector_of_terms}
use Rattle.css_model.specs.Selectors.Terms.{argument_of_term, depth_behind_term, first_term, more_of_term, terms, terms_from}
use Rattle.css_model.specs.Selectors.Tokens.{is_function, is_word, name_in, selector_token}
use Rattle.css_model.specs.Sheets.PrintedSelector.{selector_text}
use Rattle.css_model.specs.Text.Kept.{Solid}
use Rattle.css_model.specs.Text.Lexemes.{is_ident}
use Rattle.css_model.specs.Text.Names.{unescaped}
use Rattle.css_model.specs.Text.TokenAt.{part_at}
use Rattle.css_model.specs.Text.Tokens.{Part, text_of}
use Rattle.css_tokens.specs.Lexed.{IsLexed}
use Rattle.token_laws.specs.Solids.{ends_called, gap_before, solids, solids_of}
use Rattle.token_laws.proofs.ForCallers.{PartIs, part_is}
use Rattle.list_facts.proofs.Elements.{all_drop, all_take}
use Rattle.selector_laws.proofs.ForCallers.{word_apart}
use Rattle.selector_text_laws.specs.Back.{SelectorsReadBack, back}
use Rattle.selector_text_laws.proofs.Terms.{has_argument}
use Rattle.selector_text_laws.specs.Closed.{SolidWalk}
use Rattle.selector_text_laws.specs.Text.{IsSelectorText}
use Rattle.selector_text_laws.proofs.Left.{left_from, spelled_from}
use Rattle.selector_text_laws.specs.Text.{SelectorTextsAreLexed, SelectorTextsAreShort}
use Rattle.selector_text_laws.proofs.Back.{prints_again, terms_again, tokens}
use Rattle.selector_text_laws.proofs.Beside.{IsReadToken}
use Rattle.selector_text_laws.proofs.Clean.{left_is_back, spelled_is_printed}
use Rattle.selector_text_laws.proofs.Closed.{back_kinds, back_walk, ends_uncalled, shallow}
use Rattle.selector_text_laws.proofs.Derived.{AreTerms, IsRow, IsTerm, terms_stand}
use Rattle.selector_text_laws.proofs.Short.{selectors_are_short}
use Rattle.selector_text_laws.proofs.Spelled.{selectors_are_lexed}

-- ---- what the terms of tokens are

dashes_are : (bytes : List ℕ) → same_text bytes (codes "--") ≡ true → bytes ≡ codes "--"
dashes_are [] e = absurd (false≢true e)
dashes_are (c ∷ []) e = absurd (false≢true (sym (none (c == 45)) ∙ e))
  where
    none : (b : Bool) → (b && false) ≡ false
    none true = refl
    none false = refl
dashes_are (c ∷ d ∷ e ∷ cs) same = absurd (false≢true (sym (none (c == 45) (d == 45)) ∙ same))
  where
    none : (b a : Bool) → (b && (a && false)) ≡ false
    none true true = refl
    none true false = refl
    none false a = refl
dashes_are (c ∷ d ∷ []) e = which (c == 45) refl (d == 45) refl e
  where
    which : (a : Bool) → (c == 45) ≡ a → (b : Bool) → (d == 45) ≡ b → ((c == 45) && ((d == 45) && true)) ≡ true → c ∷ d ∷ [] ≡ codes "--"
    which true f true g e = ap (λ (n : ℕ). n ∷ d ∷ []) (eqb-true c 45 f) ∙ ap (λ (n : ℕ). 45 ∷ n ∷ []) (eqb-true d 45 g)
    which true f false g e = absurd (false≢true (sym (rw (f, g) refl) ∙ e))
    which false f b g e = absurd (false≢true (sym (rw f refl) ∙ e))

term_is : (depth : ℕ) (s : Solid) (ss : List Solid) → IsTerm (first_term depth (selector_token s) (tokens ss))
term_is depth s ss = record { dashes = dashes; plain = no_argument; other = no_not }
  where
    dashes : same_text s.bytes (codes "--") ≡ true → (begins_with s.bytes (codes "--") ≡ true) × (is_ident s.kind ≡ true → unescaped (name_in s.kind s.bytes) ≡ codes "--")
    dashes e = (let same = dashes_are s.bytes e in (ap (λ (w : List ℕ). begins_with w (codes "--")) same, λ ident. named s.kind ident same))
      where
        named : (k : TokenKind) → is_ident k ≡ true → s.bytes ≡ codes "--" → unescaped (name_in k s.bytes) ≡ codes "--"
        named kind.Ident ident same = ap unescaped same
        named _ ident same = absurd (false≢true ident)

    unless : is_position_function (selector_token s) ≡ false → has_argument (argument_of_term (selector_token s) (tokens ss)) ≡ false
    unless e = ap (λ b. has_argument (cond b (argument_of s.gap (tokens ss)) (Err NotAllowed))) e

    no_argument : is_function s.kind ≡ false → has_argument (argument_of_term (selector_token s) (tokens ss)) ≡ false
    no_argument e = unless (ap (λ b. b && (is_word (codes "nth-child") (selector_token s).name || is_word (codes "nth-last-child") (selector_token s).name)) e)

    no_not : is_word (codes "not") (selector_token s).name ≡ true → has_argument (argument_of_term (selector_token s) (tokens ss)) ≡ false
    no_not word = unless (
        ap (λ b. is_function s.kind && (b || is_word (codes "nth-last-child") (selector_token s).name)) (word_apart (selector_token s).name (codes "not") (codes "nth-child") refl word)
        ∙ ap (λ b. is_function s.kind && b) (word_apart (selector_token s).name (codes "not") (codes "nth-last-child") refl word) ∙ and_none (is_function s.kind))
      where
        and_none : (b : Bool) → (b && false) ≡ false
        and_none true = refl
        and_none false = refl

terms_are : (ss : List Solid) (depth left : ℕ) → AreTerms (terms_from depth left (tokens ss))
terms_are [] depth zero = tt
terms_are [] depth (suc left) = tt
terms_are (s ∷ ss) depth (suc left) = terms_are ss depth left
terms_are (s ∷ ss) depth zero = (term_is depth s ss, terms_are ss (depth_behind_term depth (selector_token s)) (more_of_term (selector_token s) (tokens ss)))

row_of_tokens : (ss : List Solid) (s : SelectorParts) → selector_of_terms (terms ss) ≡ Ok s → IsRow 2 (terms ss)
row_of_tokens ss s reads = terms_stand (terms ss) s (terms_are ss 0 0) reads

pub selectors_read_back : SelectorsReadBack
selectors_read_back ss s reads closable =
    let row = row_of_tokens ss s reads in
    record {
      reads = ap selector_of_terms (terms_again ss closable row.kinds) ∙ reads;
      prints = prints_again ss closable row.kinds;
      kinds = back_kinds ss row.kinds;
      depths = shallow [] (back ss) [] (back_walk ss row.kinds (row.closed [] tt));
    }

-- the brackets of what is read back
pub selectors_close : (ss : List Solid) (s : SelectorParts) → selector_of_terms (terms ss) ≡ Ok s → SolidWalk [] (back ss) []
selectors_close ss s reads = (let row = row_of_tokens ss s reads in back_walk ss row.kinds (row.closed [] tt))

-- ---- tokens of parts that are read where they stand

pub solids_read : (ps : List Part) → IsLexed ps → AllByRecursion IsReadToken (solids ps)
solids_read [] lexed = tt
solids_read (p ∷ ps) (here, lexed) = which (part_is p.kind p.bytes (text_of ps) here) (solids_read ps lexed)
  where
    which : PartIs p.kind p.bytes (text_of ps) → AllByRecursion IsReadToken (solids ps) → AllByRecursion IsReadToken (solids (p ∷ ps))
    which (inl white) later = rw white.kind later
    which (inr (inl comment)) later = rw comment.kind later
    which (inr (inr s)) later =
        let read : part_at (p.bytes ++ text_of ps) ≡ Ok (Some s.token, length p.bytes) = rw s.kind at here in
        let token : IsReadToken (record { kind = s.token; bytes = p.bytes; gap = gap_before false ps }) = record { old = text_of ps; read = read } in
        rw (s.kind, s.solid) (token, later)

read_in : (ps : List Part) (m n : ℕ) (ss : List Solid) → IsLexed ps → solids_of ps m n ≡ ss → AllByRecursion IsReadToken ss
read_in ps m n ss lexed are = subst (AllByRecursion IsReadToken) are (all_take IsReadToken n (drop m (solids ps)) (all_drop IsReadToken m (solids ps) (solids_read ps lexed)))

-- a selector has a token
some_token : (ss : List Solid) (s : SelectorParts) → selector_of_terms (terms ss) ≡ Ok s → (t : Solid) × (ts : List Solid) × (ss ≡ t ∷ ts)
some_token [] s reads = absurd (let none : ⊥ = cc in none)
some_token (t ∷ ts) s reads = (t, ts, refl)

pub selector_texts_are_lexed : SelectorTextsAreLexed
selector_texts_are_lexed ps m n ss s in_ rest lexed behind calm =
    let row = row_of_tokens ss s in_.reads in
    let read = read_in ps m n ss in_.lexed in_.are in
    let some = some_token ss s in_.reads in
    let uncalled : ends_called ss ≡ false = ends_uncalled ss row.kinds (row.closed [] tt) in
    let out : IsSelectorText (spelled_from 0 0 (some.0 ∷ some.1)) (left_from 0 0 (some.0 ∷ some.1)) rest =
    selectors_are_lexed ps rest m n some.0 some.1 in_.lexed (in_.are ∙ some.2) lexed behind calm (ap ends_called (sym some.2) ∙ uncalled) in
    let all : IsSelectorText (spelled_from 0 0 ss) (left_from 0 0 ss) rest = subst (λ ss. IsSelectorText (spelled_from 0 0 ss) (left_from 0 0 ss) rest) (sym some.2) out in
    subst (λ (w : List ℕ). IsSelectorText w (back ss) rest) (spelled_is_printed ss read row.kinds row.beside)
    (subst (λ bs. IsSelectorText (spelled_from 0 0 ss) bs rest) (left_is_back ss read row.kinds row.beside) all)

pub selector_texts_are_short : SelectorTextsAreShort
selector_texts_are_short ps m n ss s in_ =
    let row = row_of_tokens ss s in_.reads in
    let read = read_in ps m n ss in_.lexed in_.are in
    let l = selectors_are_short ss in
    let e : length (spelled_from 0 0 ss) ≡ length (selector_text ss) = ap length (spelled_is_printed ss read row.kinds row.beside) in
    omega (arith, l, e)
