-- Texts that begin with a sign, or with `<`.
use Rattle.std.proofs.Common.{ℕ, suc, ◌+◌, ◌≤◌, ◌≡◌, ◌⊎◌, inl, inr, Bool, true, false, ◌&&◌, ◌||◌, ◌==◌, List, [], ◌∷◌, ◌++◌, Ok, Some, length, drop, refl, sym, ap, ◌∙◌, subst, arith}
use Rattle.std.proofs.lemmas.Bool.{and_parts, eq-eqb, eqb-true, false≢true, or_cases, true≢false}
use Rattle.css_model.specs.declared.token.TokenKind.{TokenKind}
use Rattle.css_model.specs.declared.token.TokenKind.TheVariants as kind
use Rattle.css_model.specs.Text.Characters.{backslash, dash, exclamation_mark, less_than, slash, begins, is_sign}
use Rattle.css_model.specs.Text.TokenAt.{Shape, done, is_quote, less_shape, rule_at, within}
use Rattle.token_grammar.proofs.ReadRight.{AreReadRight, IsReadRight, is_less_than}
use Rattle.token_grammar.specs.Longest.{Answer, IsTaken}
use Rattle.token_grammar.specs.Longest.IsTaken.{token, comment, bad_string, bad_url, cut}
use Rattle.token_grammar.specs.TokenTexts.{IsDelim, IsTokenText}
use Rattle.token_grammar.specs.TokenTexts.IsCommentText.{closed}
use Rattle.token_grammar.specs.TokenTexts.IsTokenText.{sign, delim, comment_open}
use Rattle.token_grammar.proofs.Decided.{IsWorse, read_right, within_fits}
use Rattle.token_grammar.proofs.FirstBytes.{FirstIs, IsCutComment, bad_string_first, bad_url_first, begins_ident, cut_begins, cut_first, kind_begins, token_first}

-- a byte with which only tokens begin that are neither comments, strings nor urls
record BeginsToken (c : ℕ) : Type 0 where
  no_slash : (c == slash) ≡ false
  no_quote : is_quote c ≡ false
  no_ident : begins_ident c ≡ false
  no_cut : cut_begins c ≡ false

-- what is taken there is a token that begins with this byte
module _ (c : ℕ) (cs : List ℕ) (begins_token : BeginsToken c) where
  byte : (test : ℕ → Bool) (other more : List ℕ) → c ∷ cs ≡ other ++ more → FirstIs test other → test c ≡ true
  byte test other more joined f =
      let lists : c ∷ cs ≡ f.first ∷ (f.later ++ more) = joined ∙ ap (λ (t : List ℕ). t ++ more) f.is in
      let same : f.first ≡ c = cc (lists) in
      ap test (sym same) ∙ f.passes

  slashed : (other more inside : List ℕ) → c ∷ cs ≡ other ++ more → other ≡ slash ∷ inside → ⊥
  slashed other more inside joined e =
      let lists : c ∷ cs ≡ slash ∷ (inside ++ more) = joined ∙ ap (λ (t : List ℕ). t ++ more) e in
      let same : c ≡ slash = cc (lists) in
      true≢false (sym (eq-eqb c slash same) ∙ begins_token.no_slash)

  only_tokens : (front : List ℕ) (answer : Answer)
      → ((other more : List ℕ) (k : TokenKind) → c ∷ cs ≡ other ++ more → IsTokenText more k other → kind_begins k c ≡ true → IsWorse other (Ok (Some k)) front answer)
      → (other more : List ℕ) (another : Answer) → c ∷ cs ≡ other ++ more → IsTaken other more another → IsWorse other another front answer
  only_tokens front answer tokens other more another joined (token k is) = tokens other more k joined is (byte (kind_begins k) other more joined (token_first more k other is))
  only_tokens front answer tokens other more another joined (comment (closed inside e none)) = absurd (slashed other more (42 ∷ (inside ++ (42 ∷ 47 ∷ []))) joined e)
  only_tokens front answer tokens other more another joined (bad_string is) = absurd (true≢false (sym (byte is_quote other more joined (bad_string_first other more is)) ∙ begins_token.no_quote))
  only_tokens front answer tokens other more another joined (bad_url is) = absurd (true≢false (sym (byte begins_ident other more joined (bad_url_first other more is)) ∙ begins_token.no_ident))
  only_tokens front answer tokens other more another joined (cut is end) = by (cut_first other is)
    where
      by : IsCutComment other ⊎ FirstIs cut_begins other → IsWorse other another front answer
      by (inl f) = absurd (slashed other more (42 ∷ f.inside) joined f.joined)
      by (inr f) = absurd (true≢false (sym (byte cut_begins other more joined f) ∙ begins_token.no_cut))

-- what holds of each sign holds of this one
sign_byte_is : (P : ℕ → Type 0) → P 58 → P 59 → P 44 → P 91 → P 93 → P 40 → P 41 → P 123 → P 125 → (c : ℕ) → is_sign c ≡ true → P c
sign_byte_is P a b d e f g h i j c is = one (or_cases (c == 58 || c == 59 || c == 44 || c == 91 || c == 93 || c == 40 || c == 41 || c == 123) (c == 125) is)
  where
    at : (b : ℕ) → (c == b) ≡ true → P b → P c
    at b same p = subst P (sym (eqb-true c b same)) p

    eight : (c == 58 ≡ true) ⊎ (c == 59 ≡ true) → P c
    eight (inl s) = at 58 s a
    eight (inr s) = at 59 s b

    seven : ((c == 58 || c == 59) ≡ true) ⊎ (c == 44 ≡ true) → P c
    seven (inl s) = eight (or_cases (c == 58) (c == 59) s)
    seven (inr s) = at 44 s d

    six : ((c == 58 || c == 59 || c == 44) ≡ true) ⊎ (c == 91 ≡ true) → P c
    six (inl s) = seven (or_cases (c == 58 || c == 59) (c == 44) s)
    six (inr s) = at 91 s e

    five : ((c == 58 || c == 59 || c == 44 || c == 91) ≡ true) ⊎ (c == 93 ≡ true) → P c
    five (inl s) = six (or_cases (c == 58 || c == 59 || c == 44) (c == 91) s)
    five (inr s) = at 93 s f

    four : ((c == 58 || c == 59 || c == 44 || c == 91 || c == 93) ≡ true) ⊎ (c == 40 ≡ true) → P c
    four (inl s) = five (or_cases (c == 58 || c == 59 || c == 44 || c == 91) (c == 93) s)
    four (inr s) = at 40 s g

    three : ((c == 58 || c == 59 || c == 44 || c == 91 || c == 93 || c == 40) ≡ true) ⊎ (c == 41 ≡ true) → P c
    three (inl s) = four (or_cases (c == 58 || c == 59 || c == 44 || c == 91 || c == 93) (c == 40) s)
    three (inr s) = at 41 s h

    two : ((c == 58 || c == 59 || c == 44 || c == 91 || c == 93 || c == 40 || c == 41) ≡ true) ⊎ (c == 123 ≡ true) → P c
    two (inl s) = three (or_cases (c == 58 || c == 59 || c == 44 || c == 91 || c == 93 || c == 40) (c == 41) s)
    two (inr s) = at 123 s i

    one : ((c == 58 || c == 59 || c == 44 || c == 91 || c == 93 || c == 40 || c == 41 || c == 123) ≡ true) ⊎ (c == 125 ≡ true) → P c
    one (inl s) = two (or_cases (c == 58 || c == 59 || c == 44 || c == 91 || c == 93 || c == 40 || c == 41) (c == 123) s)
    one (inr s) = at 125 s j

sign_begins : (c : ℕ) → is_sign c ≡ true → BeginsToken c
sign_begins c is = sign_byte_is BeginsToken here here' here'' a b d e f g c is
  where
    here : BeginsToken 58
    here = record { no_slash = refl; no_quote = refl; no_ident = refl; no_cut = refl }

    here' : BeginsToken 59
    here' = record { no_slash = refl; no_quote = refl; no_ident = refl; no_cut = refl }

    here'' : BeginsToken 44
    here'' = record { no_slash = refl; no_quote = refl; no_ident = refl; no_cut = refl }

    a : BeginsToken 91
    a = record { no_slash = refl; no_quote = refl; no_ident = refl; no_cut = refl }

    b : BeginsToken 93
    b = record { no_slash = refl; no_quote = refl; no_ident = refl; no_cut = refl }

    d : BeginsToken 40
    d = record { no_slash = refl; no_quote = refl; no_ident = refl; no_cut = refl }

    e : BeginsToken 41
    e = record { no_slash = refl; no_quote = refl; no_ident = refl; no_cut = refl }

    f : BeginsToken 123
    f = record { no_slash = refl; no_quote = refl; no_ident = refl; no_cut = refl }

    g : BeginsToken 125
    g = record { no_slash = refl; no_quote = refl; no_ident = refl; no_cut = refl }

abbrev is_sign_kind : TokenKind → Bool
is_sign_kind (kind.Sign d) = true
is_sign_kind _ = false

sign_other : (k : TokenKind) → is_sign_kind k ≡ false → (c : ℕ) → is_sign c ≡ true → kind_begins k c ≡ false
sign_other (kind.Sign d) other c is = absurd (true≢false other)
sign_other k other c is = sign_byte_is (λ (c : ℕ). kind_begins k c ≡ false) refl refl refl refl refl refl refl refl refl c is

sign_kind : (k : TokenKind) → is_sign_kind k ≡ true → (d : ℕ) × (k ≡ kind.Sign d)
sign_kind (kind.Sign d) is = (d, refl)
sign_kind _ is = absurd (false≢true is)

sign_text : (rest : List ℕ) (k : TokenKind) (text : List ℕ) → IsTokenText rest k text → (d : ℕ) → k ≡ kind.Sign d → text ≡ d ∷ []
sign_text rest k text (sign c is) d e = let same : c ≡ d = cc (e) in ap (λ (c : ℕ). c ∷ []) same
sign_text rest k text _ d e = absurd (cc (e))

sign_right : (c : ℕ) (cs : List ℕ) → is_sign c ≡ true → IsReadRight (c ∷ cs)
sign_right c cs is =
    let rule : rule_at (c ∷ cs) ≡ done (kind.Sign c) 1 = sign_byte_is (λ (c : ℕ). rule_at (c ∷ cs) ≡ done (kind.Sign c) 1) refl refl refl refl refl refl refl refl refl c is in
    read_right (c ∷ cs) (done (kind.Sign c) 1) 1 (ap (within (c ∷ cs)) rule ∙ within_fits (c ∷ cs) (done (kind.Sign c) 1) fits) (record {
      front = c ∷ [];
      rest = cs;
      joined = refl;
      len = refl;
      taken = token (kind.Sign c) (sign c is);
      best = only_tokens c cs (sign_begins c is) (c ∷ []) (Ok (Some (kind.Sign c))) best;
    })
    (λ s e. let shapes : ◌≡◌ {A = Shape} (Some (kind.Sign c), 1) s = cc (e) in sym (ap (λ (s : Shape). s.1) shapes))
  where
    fits : (s : Shape) → done (kind.Sign c) 1 ≡ Ok s → s.1 ≤ suc (length cs)
    fits s e = let shapes : ◌≡◌ {A = Shape} (Some (kind.Sign c), 1) s = cc (e) in omega (arith, ap (λ (s : Shape). s.1) shapes)

    best : (other more : List ℕ) (k : TokenKind) → c ∷ cs ≡ other ++ more → IsTokenText more k other → kind_begins k c ≡ true → IsWorse other (Ok (Some k)) (c ∷ []) (Ok (Some (kind.Sign c)))
    best other more k joined text begun = by (is_sign_kind k) refl
      where
        by : (b : Bool) → is_sign_kind k ≡ b → IsWorse other (Ok (Some k)) (c ∷ []) (Ok (Some (kind.Sign c)))
        by false other_kind = absurd (true≢false (sym begun ∙ sign_other k other_kind c is))
        by true of_sign =
            let d = sign_kind k of_sign in
            let e : other ≡ d.0 ∷ [] = sign_text more k other text d.0 d.1 in
            let lists : c ∷ cs ≡ d.0 ∷ more = joined ∙ ap (λ (t : List ℕ). t ++ more) e in
            let same : d.0 ≡ c = cc (lists) in
            inr (ap (λ (t : List ℕ). length t) e, ap (λ (k : TokenKind). let a : Answer = Ok (Some k) in a) (d.1 ∙ ap (λ (d : ℕ). kind.Sign d) same))

pub signs_are_read_right : AreReadRight is_sign
signs_are_read_right [] is = absurd (false≢true is)
signs_are_read_right (c ∷ cs) is = sign_right c cs is

-- `<`
data LessText (text : List ℕ) : TokenKind → Type 0 where
  opens : text ≡ less_than ∷ exclamation_mark ∷ dash ∷ dash ∷ [] → LessText text kind.CommentOpen
  single : (d : ℕ) → text ≡ d ∷ [] → LessText text (kind.Delim d)

less_text : (rest : List ℕ) (k : TokenKind) (text : List ℕ) → IsTokenText rest k text → kind_begins k less_than ≡ true → LessText text k
less_text rest k text comment_open h = opens refl
less_text rest k text (delim d is) h = single d refl
less_text rest k text _ h = absurd (false≢true h)

less_begins : BeginsToken less_than
less_begins = record { no_slash = refl; no_quote = refl; no_ident = refl; no_cut = refl }

less_delim : (rest : List ℕ) → IsDelim less_than rest
less_delim rest = record { no_white = refl; no_quote = refl; no_sign = refl; no_digit = refl; no_start = refl; lone = λ (e : less_than ≡ backslash). absurd (omega (arith, e)) }

abbrev bangs : List ℕ → Bool
bangs cs = begins exclamation_mark cs && (begins dash (drop 1 cs) && begins dash (drop 2 cs))

bangs_is : (cs : List ℕ) → bangs cs ≡ true → (more : List ℕ) × (cs ≡ exclamation_mark ∷ dash ∷ dash ∷ more)
bangs_is [] h = absurd (false≢true h)
bangs_is (a ∷ []) h = absurd (false≢true (and_parts (a == exclamation_mark) false h).1)
bangs_is (a ∷ b ∷ []) h = absurd (false≢true (and_parts (b == dash) false (and_parts (a == exclamation_mark) ((b == dash) && false) h).1).1)
bangs_is (a ∷ b ∷ c ∷ more) h =
    let first = and_parts (a == exclamation_mark) ((b == dash) && (c == dash)) h in
    let second = and_parts (b == dash) (c == dash) first.1 in
    let one = eqb-true a exclamation_mark first.0 in
    let two = eqb-true b dash second.0 in
    let three = eqb-true c dash second.1 in
    (more, cc (one, two, three))

less_right : (cs : List ℕ) → IsReadRight (less_than ∷ cs)
less_right cs = by (bangs cs) refl
  where
    -- what a token there is
    case : (other more : List ℕ) (k : TokenKind) → less_than ∷ cs ≡ other ++ more → LessText other k
        → ((length other ≡ 4) × (bangs cs ≡ true) × (k ≡ kind.CommentOpen)) ⊎ ((length other ≡ 1) × (k ≡ kind.Delim less_than))
    case other more k joined (opens e) =
        let lists : less_than ∷ cs ≡ less_than ∷ exclamation_mark ∷ dash ∷ dash ∷ more = joined ∙ ap (λ (t : List ℕ). t ++ more) e in
        let rest : cs ≡ exclamation_mark ∷ dash ∷ dash ∷ more = cc (lists) in
        inl (ap (λ (t : List ℕ). length t) e, ap bangs rest, refl)
    case other more k joined (single d e) =
        let lists : less_than ∷ cs ≡ d ∷ more = joined ∙ ap (λ (t : List ℕ). t ++ more) e in
        let same : d ≡ less_than = cc (lists) in
        inr (ap (λ (t : List ℕ). length t) e, ap (λ (d : ℕ). kind.Delim d) same)

    worse_open : (other : List ℕ) (k : TokenKind) → ((length other ≡ 4) × (bangs cs ≡ true) × (k ≡ kind.CommentOpen)) ⊎ ((length other ≡ 1) × (k ≡ kind.Delim less_than))
        → IsWorse other (Ok (Some k)) (less_than ∷ exclamation_mark ∷ dash ∷ dash ∷ []) (Ok (Some kind.CommentOpen))
    worse_open other k (inl (size, bang, e)) = inr (size, ap (λ (k : TokenKind). let a : Answer = Ok (Some k) in a) e)
    worse_open other k (inr (size, e)) = inl (omega (arith, size))

    worse_single : (other : List ℕ) (k : TokenKind) → bangs cs ≡ false → ((length other ≡ 4) × (bangs cs ≡ true) × (k ≡ kind.CommentOpen)) ⊎ ((length other ≡ 1) × (k ≡ kind.Delim less_than))
        → IsWorse other (Ok (Some k)) (less_than ∷ []) (Ok (Some (kind.Delim less_than)))
    worse_single other k none (inl (size, bang, e)) = absurd (true≢false (sym bang ∙ none))
    worse_single other k none (inr (size, e)) = inr (size, ap (λ (k : TokenKind). let a : Answer = Ok (Some k) in a) e)

    opened : (more : List ℕ) → cs ≡ exclamation_mark ∷ dash ∷ dash ∷ more → bangs cs ≡ true → IsReadRight (less_than ∷ cs)
    opened more e h =
        let shape : less_shape cs ≡ done kind.CommentOpen 4 = rw h refl in
        let size : length cs ≡ suc (suc (suc (length more))) = ap (λ (t : List ℕ). length t) e in
        let fits : (s : Shape) → done kind.CommentOpen 4 ≡ Ok s → s.1 ≤ suc (length cs) =
        λ s e. let shapes : ◌≡◌ {A = Shape} (Some kind.CommentOpen, 4) s = cc (e) in omega (arith, ap (λ (s : Shape). s.1) shapes, size) in
        read_right (less_than ∷ cs) (done kind.CommentOpen 4) 4 (ap (within (less_than ∷ cs)) shape ∙ within_fits (less_than ∷ cs) (done kind.CommentOpen 4) fits) (record {
          front = less_than ∷ exclamation_mark ∷ dash ∷ dash ∷ [];
          rest = more;
          joined = ap (λ (t : List ℕ). less_than ∷ t) e;
          len = refl;
          taken = token kind.CommentOpen comment_open;
          best = only_tokens less_than cs less_begins (less_than ∷ exclamation_mark ∷ dash ∷ dash ∷ []) (Ok (Some kind.CommentOpen))
              (λ other more k joined text begun. worse_open other k (case other more k joined (less_text more k other text begun)));
        })
        (λ s e. let shapes : ◌≡◌ {A = Shape} (Some kind.CommentOpen, 4) s = cc (e) in sym (ap (λ (s : Shape). s.1) shapes))

    by : (b : Bool) → bangs cs ≡ b → IsReadRight (less_than ∷ cs)
    by true h = let m = bangs_is cs h in opened m.0 m.1 h
    by false none =
        let shape : less_shape cs ≡ done (kind.Delim less_than) 1 = rw none refl in
        let fits : (s : Shape) → done (kind.Delim less_than) 1 ≡ Ok s → s.1 ≤ suc (length cs) =
        λ s e. let shapes : ◌≡◌ {A = Shape} (Some (kind.Delim less_than), 1) s = cc (e) in omega (arith, ap (λ (s : Shape). s.1) shapes) in
        read_right (less_than ∷ cs) (done (kind.Delim less_than) 1) 1 (ap (within (less_than ∷ cs)) shape ∙ within_fits (less_than ∷ cs) (done (kind.Delim less_than) 1) fits) (record {
          front = less_than ∷ [];
          rest = cs;
          joined = refl;
          len = refl;
          taken = token (kind.Delim less_than) (delim less_than (less_delim cs));
          best = only_tokens less_than cs less_begins (less_than ∷ []) (Ok (Some (kind.Delim less_than)))
              (λ other more k joined text begun. worse_single other k none (case other more k joined (less_text more k other text begun)));
        })
        (λ s e. let shapes : ◌≡◌ {A = Shape} (Some (kind.Delim less_than), 1) s = cc (e) in sym (ap (λ (s : Shape). s.1) shapes))

pub less_than_is_read_right : AreReadRight is_less_than
less_than_is_read_right [] is = absurd (false≢true is)
less_than_is_read_right (c ∷ cs) is = subst (λ (c : ℕ). IsReadRight (c ∷ cs)) (sym (eqb-true c less_than is)) (less_right cs)
