-- What can be taken of a text that begins with none of the bytes that tell a kind: numbers, what begins with a name,
-- `-->`, and single characters.
use Rattle.std.proofs.Common.{ℕ, suc, ◌+◌, ◌<◌, ◌≡◌, Bool, true, false, ◌==◌, List, [], ◌∷◌, ◌++◌, Ok, Err, Some, length, refl, sym, ap, ◌∙◌, subst, arith, append_assoc}
use Rattle.std.specs.Prelude.{codes}
use Rattle.std.proofs.lemmas.Bool.{eq-eqb, true≢false}
use Rattle.std.proofs.lemmas.List.{append-nil, length-append}
use Rattle.css_model.specs.declared.token.TokenFlaw.TheVariants as flaw
use Rattle.css_model.specs.declared.token.TokenKind.{TokenKind}
use Rattle.css_model.specs.declared.token.TokenKind.TheVariants as kind
use Rattle.css_model.specs.Text.Characters.{at_sign, backslash, close_round, hash, less_than, open_round, percent, slash, is_bad_in_url, is_newline, is_sign, is_white}
use Rattle.css_model.specs.Text.TokenAt.{is_quote, rule_at, symbol_at}
use Rattle.token_grammar.specs.Flaws.{IsBadUrl, IsCut, IsCutIdent}
use Rattle.token_grammar.specs.Flaws.IsBadUrl.{forbidden, parted, escape as bad_escape}
use Rattle.token_grammar.specs.Flaws.IsCut.{in_comment, in_string, in_string_escape, in_url, in_url_escape, in_hash, in_at_keyword, in_ident, in_dimension}
use Rattle.token_grammar.specs.Longest.{Answer, IsTaken}
use Rattle.token_grammar.specs.Longest.IsTaken.{token, comment, bad_string, bad_url, cut}
use Rattle.token_grammar.specs.Names.{IsIdent, IsUrlName}
use Rattle.token_grammar.specs.Numbers.{IsNumber, IsWholeNumber}
use Rattle.token_grammar.specs.Rows.{AreWhite, IsRowOf}
use Rattle.token_grammar.specs.Rows.IsRowOf.{nothing}
use Rattle.token_grammar.specs.TokenTexts.{IsBeforeQuote, IsDelim, IsTokenText, IsUrlFront, IsUrlPart}
use Rattle.token_grammar.specs.TokenTexts.IsCommentText.{closed}
use Rattle.token_grammar.specs.TokenTexts.IsTokenText.{white, string, id_hash, other_hash, number, percentage, dimension, comment_open, comment_close, at_keyword, ident, function, url, sign, delim}
use Rattle.token_grammar.proofs.FirstBytes.{FirstIs, bad_string_first, kind_begins, token_first}
use Rattle.token_grammar.proofs.Numbers.{all_append}

-- a byte with which neither a comment, white space, a string, a hash, `<!--`, an at-keyword nor a sign begins
pub record Other (c : ℕ) : Type 0 where
  pub no_slash : (c == slash) ≡ false
  pub no_white : is_white c ≡ false
  pub no_quote : is_quote c ≡ false
  pub no_hash : (c == hash) ≡ false
  pub no_less : (c == less_than) ≡ false
  pub no_at : (c == at_sign) ≡ false
  pub no_sign : is_sign c ≡ false

pub rule_symbol : (c : ℕ) (cs : List ℕ) → Other c → rule_at (c ∷ cs) ≡ symbol_at (c ∷ cs)
rule_symbol c cs o =
    let no_slash = o.no_slash in
    let no_white = o.no_white in
    let no_quote = o.no_quote in
    let no_hash = o.no_hash in
    rw (no_slash, no_white, no_quote, no_hash) refl

-- how what follows the parts of a url, and the white space after them, ends it, and how many bytes that takes
pub data UrlEnd (inside after more : List ℕ) : List ℕ → Answer → ℕ → Type 0 where
  closes : UrlEnd inside after more (close_round ∷ more) (Ok (Some kind.Url)) 1
  ends : more ≡ [] → UrlEnd inside after more [] (Err flaw.EndInside) 0
  ends_escape : after ≡ [] → more ≡ [] → UrlEnd inside after more (backslash ∷ []) (Err flaw.EndInside) 1
  spoils : (c : ℕ) → after ≡ [] → is_bad_in_url c ≡ true → (inside ≡ [] → is_quote c ≡ false) → UrlEnd inside after more (c ∷ more) (Err flaw.BadUrl) 1
  parts : (c : ℕ) → 0 < length inside → 0 < length after → is_white c ≡ false → (c == close_round) ≡ false → UrlEnd inside after more (c ∷ more) (Err flaw.BadUrl) 1
  breaks : (c : ℕ) → after ≡ [] → is_newline c ≡ true → UrlEnd inside after more (backslash ∷ c ∷ more) (Err flaw.BadUrl) 2

-- a url, or what is wrong with one; where nothing is inside, all white space is before it
pub record UrlText (text other more : List ℕ) (another : Answer) : Type 0 where
  pub name : List ℕ
  pub before : List ℕ
  pub inside : List ℕ
  pub after : List ℕ
  pub tail : List ℕ
  pub bytes : ℕ
  pub joined : text ≡ name ++ open_round ∷ (before ++ (inside ++ (after ++ tail)))
  pub named : IsUrlName name (open_round ∷ (before ++ (inside ++ (after ++ tail))))
  pub blank : AreWhite before
  pub row : IsRowOf IsUrlPart (after ++ tail) inside
  pub blank_after : AreWhite after
  pub some : inside ≡ [] → after ≡ []
  pub ending : UrlEnd inside after more tail another bytes
  pub size : length other ≡ suc (length name + (length before + (length inside + (length after + bytes))))

url_of : (text other more : List ℕ) (another : Answer) (front inside after tail : List ℕ) (bytes : ℕ) → IsUrlFront front inside (after ++ tail) → text ≡ front ++ (after ++ tail)
    → AreWhite after → (inside ≡ [] → after ≡ []) → UrlEnd inside after more tail another bytes → length other ≡ length front + (length after + bytes)
    → UrlText text other more another
url_of text other more another front inside after tail bytes u joined all some ending size = record {
  name = u.name;
  before = u.before;
  inside = inside;
  after = after;
  tail = tail;
  bytes = bytes;
  joined =
      joined
      ∙ (ap (λ (t : List ℕ). t ++ (after ++ tail)) u.joined
      ∙ (append_assoc u.name (open_round ∷ (u.before ++ inside)) (after ++ tail) ∙ ap (λ (t : List ℕ). u.name ++ open_round ∷ t) (append_assoc u.before inside (after ++ tail))));
  named = u.named;
  blank = u.blank;
  row = u.row;
  blank_after = all;
  some = some;
  ending = ending;
  size = omega (arith, size, ap (λ (t : List ℕ). length t) u.joined, length-append u.name (open_round ∷ (u.before ++ inside)), length-append u.before inside);
}

-- where nothing is inside, the white space after it is before it
empty_front : (front after tail : List ℕ) → IsUrlFront front [] (after ++ tail) → AreWhite after → IsUrlFront (front ++ after) [] tail
empty_front front after tail u all = record {
  name = u.name;
  before = u.before ++ after;
  joined =
      ap (λ (t : List ℕ). t ++ after) u.joined
      ∙ (append_assoc u.name (open_round ∷ (u.before ++ [])) after
      ∙ ap (λ (t : List ℕ). u.name ++ open_round ∷ t) (ap (λ (t : List ℕ). t ++ after) (append-nil u.before) ∙ sym (append-nil (u.before ++ after))));
  named = subst (λ (t : List ℕ). IsUrlName u.name (open_round ∷ t)) (sym (append_assoc u.before after tail)) u.named;
  blank = all_append is_white u.before after u.blank all;
  row = nothing;
}

closing : (text other more : List ℕ) (another : Answer) (front inside after tail : List ℕ) (bytes : ℕ) → IsUrlFront front inside (after ++ tail) → text ≡ front ++ (after ++ tail)
    → AreWhite after → ((inside after : List ℕ) → UrlEnd inside after more tail another bytes) → length other ≡ length front + (length after + bytes)
    → UrlText text other more another
closing text other more another front [] after tail bytes u joined all ending size =
    url_of text other more another (front ++ after) [] [] tail bytes (empty_front front after tail u all) (joined ∙ sym (append_assoc front after tail)) refl (λ e. refl) (ending [] [])
    (omega (arith, size, length-append front after))
closing text other more another front (c ∷ inside) after tail bytes u joined all ending size =
    url_of text other more another front (c ∷ inside) after tail bytes u joined all (λ e. absurd (cc (e))) (ending (c ∷ inside) after) size

-- how such a text is taken
pub data OtherText (text other more : List ℕ) : Answer → Type 0 where
  a_number : IsNumber other → OtherText text other more (Ok (Some kind.Number))
  a_percentage : (front : List ℕ) → other ≡ front ++ percent ∷ [] → IsNumber front → OtherText text other more (Ok (Some kind.Percentage))
  a_dimension : (front unit : List ℕ) → other ≡ front ++ unit → IsNumber front → IsIdent unit more → IsWholeNumber front unit
      → OtherText text other more (Ok (Some kind.Dimension))
  a_cut_dimension : (front unit : List ℕ) → text ≡ front ++ unit → IsNumber front → IsCutIdent unit → IsWholeNumber front unit → length other ≡ length text
      → OtherText text other more (Err flaw.EndInside)
  a_close : other ≡ codes "-->" → OtherText text other more (Ok (Some kind.CommentClose))
  an_ident : IsIdent other more → OtherText text other more (Ok (Some kind.Ident))
  a_function : (name : List ℕ) → other ≡ name ++ open_round ∷ [] → IsIdent name (open_round ∷ more) → (IsUrlName name (open_round ∷ more) → IsBeforeQuote more)
      → OtherText text other more (Ok (Some kind.Function))
  a_url : (another : Answer) → UrlText text other more another → OtherText text other more another
  a_cut : IsCutIdent text → length other ≡ length text → OtherText text other more (Err flaw.EndInside)
  a_delim : (d : ℕ) → other ≡ d ∷ [] → IsDelim d more → OtherText text other more (Ok (Some (kind.Delim d)))

module _ (c : ℕ) (cs : List ℕ) (o : Other c) where
  byte : (test : ℕ → Bool) (other more : List ℕ) → c ∷ cs ≡ other ++ more → FirstIs test other → test c ≡ true
  byte test other more joined f =
      let lists : c ∷ cs ≡ f.first ∷ (f.later ++ more) = joined ∙ ap (λ (t : List ℕ). t ++ more) f.is in
      let same : f.first ≡ c = cc (lists) in
      ap test (sym same) ∙ f.passes

  -- a text that is written out from its first byte
  first_byte : (other more : List ℕ) (d : ℕ) (inside : List ℕ) → c ∷ cs ≡ other ++ more → other ≡ d ∷ inside → c ≡ d
  first_byte other more d inside joined e =
      let lists : c ∷ cs ≡ d ∷ (inside ++ more) = joined ∙ ap (λ (t : List ℕ). t ++ more) e in
      cc (lists)

  of_token : (k : TokenKind) (other more : List ℕ) → c ∷ cs ≡ other ++ more → IsTokenText more k other → kind_begins k c ≡ true → OtherText (c ∷ cs) other more (Ok (Some k))
  of_token k other more joined (white text some all) h = absurd (true≢false (sym h ∙ o.no_white))
  of_token k other more joined (string quote inside is row) h = absurd (true≢false (sym h ∙ o.no_quote))
  of_token k other more joined (id_hash name is) h = absurd (true≢false (sym h ∙ o.no_hash))
  of_token k other more joined (other_hash name some row none) h = absurd (true≢false (sym h ∙ o.no_hash))
  of_token k other more joined (number text is) h = a_number is
  of_token k other more joined (percentage front is) h = a_percentage front refl is
  of_token k other more joined (dimension front unit is named whole) h = a_dimension front unit refl is named whole
  of_token k other more joined comment_open h = absurd (true≢false (sym h ∙ o.no_less))
  of_token k other more joined comment_close h = a_close refl
  of_token k other more joined (at_keyword name is) h = absurd (true≢false (sym h ∙ o.no_at))
  of_token k other more joined (ident text is) h = an_ident is
  of_token k other more joined (function name is no_url) h = a_function name refl is no_url
  of_token k other more joined (url front inside after u all) h =
      a_url (Ok (Some kind.Url))
      (closing (c ∷ cs) (front ++ (after ++ close_round ∷ [])) more (Ok (Some kind.Url)) front inside after (close_round ∷ more) 1 u
      (joined ∙ (append_assoc front (after ++ close_round ∷ []) more ∙ ap (λ (t : List ℕ). front ++ t) (append_assoc after (close_round ∷ []) more)))
      all (λ inside after. closes) (length-append front (after ++ close_round ∷ []) ∙ ap (λ (n : ℕ). length front + n) (length-append after (close_round ∷ []))))
  of_token k other more joined (sign d is) h = absurd (true≢false (sym h ∙ o.no_sign))
  of_token k other more joined (delim d is) h = a_delim d refl is

  of_bad_url : (other more : List ℕ) → c ∷ cs ≡ other ++ more → IsBadUrl other more → OtherText (c ∷ cs) other more (Err flaw.BadUrl)
  of_bad_url other more joined (forbidden front inside d e u is open_first) =
      a_url (Err flaw.BadUrl)
      (url_of (c ∷ cs) other more (Err flaw.BadUrl) front inside [] (d ∷ more) 1 u (joined ∙ (ap (λ (t : List ℕ). t ++ more) e ∙ append_assoc front (d ∷ []) more))
      refl (λ e. refl) (spoils d refl is open_first) (ap (λ (t : List ℕ). length t) e ∙ length-append front (d ∷ [])))
  of_bad_url other more joined (parted front inside after d e u some apart all other_byte last) =
      a_url (Err flaw.BadUrl)
      (url_of (c ∷ cs) other more (Err flaw.BadUrl) front inside after (d ∷ more) 1 u
      (joined
      ∙ (ap (λ (t : List ℕ). t ++ more) e ∙ (append_assoc front (after ++ d ∷ []) more ∙ ap (λ (t : List ℕ). front ++ t) (append_assoc after (d ∷ []) more))))
      all (λ e. absurd (omega (arith, some, ap (λ (t : List ℕ). length t) e))) (parts d some apart other_byte last)
      (ap (λ (t : List ℕ). length t) e ∙ (length-append front (after ++ d ∷ []) ∙ ap (λ (n : ℕ). length front + n) (length-append after (d ∷ [])))))
  of_bad_url other more joined (bad_escape front inside d e u line) =
      a_url (Err flaw.BadUrl)
      (url_of (c ∷ cs) other more (Err flaw.BadUrl) front inside [] (backslash ∷ d ∷ more) 2 u
      (joined ∙ (ap (λ (t : List ℕ). t ++ more) e ∙ append_assoc front (backslash ∷ d ∷ []) more)) refl (λ e. refl) (breaks d refl line)
      (ap (λ (t : List ℕ). length t) e ∙ length-append front (backslash ∷ d ∷ [])))

  of_cut : (other more : List ℕ) → c ∷ cs ≡ other ++ more → more ≡ [] → IsCut other → OtherText (c ∷ cs) other more (Err flaw.EndInside)
  of_cut other more joined end is = by is
    where
      whole : c ∷ cs ≡ other
      whole = joined ∙ (ap (λ (t : List ℕ). other ++ t) end ∙ append-nil other)

      size : length other ≡ length (c ∷ cs)
      size = ap (λ (t : List ℕ). length t) (sym whole)

      by : IsCut other → OtherText (c ∷ cs) other more (Err flaw.EndInside)
      by (in_comment inside e none) = absurd (true≢false (sym (eq-eqb c slash (first_byte other more slash (42 ∷ inside) joined e)) ∙ o.no_slash))
      by (in_string quote inside e q row) =
          absurd (true≢false (sym (ap is_quote (first_byte other more quote inside joined e) ∙ q) ∙ o.no_quote))
      by (in_string_escape quote inside e q row) =
          absurd (true≢false (sym (ap is_quote (first_byte other more quote (inside ++ backslash ∷ []) joined e) ∙ q) ∙ o.no_quote))
      by (in_url front inside after e u all) =
          a_url (Err flaw.EndInside)
          (closing (c ∷ cs) other more (Err flaw.EndInside) front inside after [] 0 (subst (λ (t : List ℕ). IsUrlFront front inside t) (sym (append-nil after)) u)
          (whole ∙ (e ∙ ap (λ (t : List ℕ). front ++ t) (sym (append-nil after)))) all (λ inside after. ends end)
          (omega (arith, ap (λ (t : List ℕ). length t) e, length-append front after)))
      by (in_url_escape front inside e u) =
          a_url (Err flaw.EndInside)
          (url_of (c ∷ cs) other more (Err flaw.EndInside) front inside [] (backslash ∷ []) 1 u (whole ∙ e) refl (λ e. refl) (ends_escape refl end)
          (ap (λ (t : List ℕ). length t) e ∙ length-append front (backslash ∷ [])))
      by (in_hash row e are) = absurd (true≢false (sym (eq-eqb c hash (first_byte other more hash (row ++ backslash ∷ []) joined e)) ∙ o.no_hash))
      by (in_at_keyword name e seq) = absurd (true≢false (sym (eq-eqb c at_sign (first_byte other more at_sign name joined e)) ∙ o.no_at))
      by (in_ident seq) = a_cut (subst IsCutIdent (sym whole) seq) size
      by (in_dimension front unit e n seq first) = a_cut_dimension front unit (whole ∙ e) n seq first size

  pub other_text : (other more : List ℕ) (another : Answer) → c ∷ cs ≡ other ++ more → IsTaken other more another → OtherText (c ∷ cs) other more another
  other_text other more another joined (token k is) = of_token k other more joined is (byte (kind_begins k) other more joined (token_first more k other is))
  other_text other more another joined (comment (closed inside e none)) =
      absurd (true≢false (sym (eq-eqb c slash (first_byte other more slash (42 ∷ (inside ++ (42 ∷ 47 ∷ []))) joined e)) ∙ o.no_slash))
  other_text other more another joined (bad_string is) = absurd (true≢false (sym (byte is_quote other more joined (bad_string_first other more is)) ∙ o.no_quote))
  other_text other more another joined (bad_url is) = of_bad_url other more joined is
  other_text other more another joined (cut is end) = of_cut other more joined end is
