-- Texts that begin with `@`: an at-keyword, or the sign by itself.
use Rattle.std.proofs.Common.{ℕ, suc, ◌+◌, ◌<◌, ◌≤◌, ◌≡◌, ◌⊎◌, inl, inr, ltb, Bool, true, false, ◌==◌, List, [], ◌∷◌, ◌++◌, Ok, Err, Some, length, refl, sym, ap, ◌∙◌, subst, arith}
use Rattle.std.proofs.lemmas.Bool.{cases_lt, eqb-true, false≢true, le-ltb, lt-ltb}
use Rattle.std.proofs.lemmas.List.{append-nil, length-append}
use Rattle.css_model.specs.declared.token.TokenFlaw.TheVariants as flaw
use Rattle.css_model.specs.declared.token.TokenKind.{TokenKind}
use Rattle.css_model.specs.declared.token.TokenKind.TheVariants as kind
use Rattle.css_model.specs.Text.Characters.{at_sign, backslash}
use Rattle.css_model.specs.Text.Runs.{run}
use Rattle.css_model.specs.Text.TokenAt.{Shape, at_shape, done, is_quote, part_at, within}
use Rattle.css_model.specs.Text.Units.{name_start, name_unit}
use Rattle.token_grammar.specs.Flaws.{IsCut, IsCutIdent}
use Rattle.token_grammar.specs.Flaws.IsCut.{in_comment, in_string, in_string_escape, in_url, in_url_escape, in_hash, in_at_keyword, in_ident, in_dimension}
use Rattle.token_grammar.proofs.ReadRight.{AreReadRight, IsReadRight, is_at_sign}
use Rattle.token_grammar.specs.Longest.{Answer, IsTaken}
use Rattle.token_grammar.specs.Longest.IsTaken.{token, comment, bad_string, bad_url, cut}
use Rattle.token_grammar.specs.Names.{IsIdent}
use Rattle.token_grammar.specs.TokenTexts.{IsDelim, IsTokenText}
use Rattle.token_grammar.specs.TokenTexts.IsCommentText.{closed}
use Rattle.token_grammar.specs.TokenTexts.IsTokenText.{at_keyword, delim}
use Rattle.token_grammar.proofs.Decided.{IsWorse, read_right, within_fits, worse_or_same}
use Rattle.token_grammar.proofs.FirstBytes.{FirstIs, bad_string_first, bad_url_first, begins_ident, begins_number, cut_ident_first, first_front, first_of, ident_first, kind_begins, number_first, some_of, token_first, url_first}
use Rattle.token_grammar.proofs.Idents.{IdentHere, cut_ident_len, cut_ident_start, ident_here, ident_len, ident_row, ident_start, name_le}

-- how a text at `@` is taken
data AtCase (cs more other : List ℕ) : Answer → Type 0 where
  named : (name : List ℕ) → cs ≡ name ++ more → length other ≡ suc (length name) → IsIdent name more → AtCase cs more other (Ok (Some kind.AtKeyword))
  single : length other ≡ 1 → AtCase cs more other (Ok (Some (kind.Delim at_sign)))
  endless : IsCutIdent cs → length other ≡ suc (length cs) → AtCase cs more other (Err flaw.EndInside)

data AtText (rest text : List ℕ) : TokenKind → Type 0 where
  named_text : (name : List ℕ) → text ≡ at_sign ∷ name → IsIdent name rest → AtText rest text kind.AtKeyword
  single_text : (d : ℕ) → text ≡ d ∷ [] → AtText rest text (kind.Delim d)

at_text : (rest : List ℕ) (k : TokenKind) (text : List ℕ) → IsTokenText rest k text → kind_begins k at_sign ≡ true → AtText rest text k
at_text rest k text (at_keyword name is) h = named_text name refl is
at_text rest k text (delim d is) h = single_text d refl
at_text rest k text _ h = absurd (false≢true h)

no_at : (test : ℕ → Bool) (text cs : List ℕ) → test at_sign ≡ false → FirstIs test text → text ≡ at_sign ∷ cs → ⊥
no_at test text cs none f e =
    let lists : f.first ∷ f.later ≡ at_sign ∷ cs = sym f.is ∙ e in
    let same : f.first ≡ at_sign = cc (lists) in
    false≢true (sym none ∙ (ap test (sym same) ∙ f.passes))

cut_at : (text cs : List ℕ) → IsCut text → text ≡ at_sign ∷ cs → IsCutIdent cs
cut_at text cs (in_at_keyword name e seq) is =
    let lists : at_sign ∷ name ≡ at_sign ∷ cs = sym e ∙ is in
    let same : name ≡ cs = cc (lists) in
    subst IsCutIdent same seq
cut_at text cs (in_comment inside e none) is = absurd (no_at (λ c. c == 47) text cs refl (first_of (λ c. c == 47) 47 (42 ∷ inside) text e refl) is)
cut_at text cs (in_string quote inside e q row) is = absurd (no_at is_quote text cs refl (first_of is_quote quote inside text e q) is)
cut_at text cs (in_string_escape quote inside e q row) is = absurd (no_at is_quote text cs refl (first_of is_quote quote (inside ++ backslash ∷ []) text e q) is)
cut_at text cs (in_url front inside after e u all) is = absurd (no_at begins_ident text cs refl (first_front begins_ident front after text e (url_first front inside after u)) is)
cut_at text cs (in_url_escape front inside e u) is =
    absurd (no_at begins_ident text cs refl (first_front begins_ident front (backslash ∷ []) text e (url_first front inside (backslash ∷ []) u)) is)
cut_at text cs (in_hash row e are) is = absurd (no_at (λ c. c == 35) text cs refl (first_of (λ c. c == 35) 35 (row ++ backslash ∷ []) text e refl) is)
cut_at text cs (in_ident seq) is = absurd (no_at begins_ident text cs refl (cut_ident_first text seq) is)
cut_at text cs (in_dimension front unit e n seq whole) is = absurd (no_at begins_number text cs refl (first_front begins_number front unit text e (number_first front n)) is)

first_cons : (other more cs : List ℕ) → 0 < length other → at_sign ∷ cs ≡ other ++ more → (later : List ℕ) × (other ≡ at_sign ∷ later) × (cs ≡ later ++ more)
first_cons [] more cs some joined = absurd (omega (arith, some))
first_cons (c ∷ later) more cs some joined =
    let same : c ≡ at_sign = cc (joined) in
    let rest : cs ≡ later ++ more = cc (joined) in
    (later, ap (λ (c : ℕ). c ∷ later) same, rest)

behind_at : (other more cs name : List ℕ) → at_sign ∷ cs ≡ other ++ more → other ≡ at_sign ∷ name → cs ≡ name ++ more
behind_at other more cs name joined e =
    let lists : at_sign ∷ cs ≡ at_sign ∷ (name ++ more) = joined ∙ ap (λ (t : List ℕ). t ++ more) e in
    cc (lists)

at_case : (cs other more : List ℕ) (another : Answer) → at_sign ∷ cs ≡ other ++ more → IsTaken other more another → AtCase cs more other another
at_case cs other more another joined (token k is) =
    let f = token_first more k other is in
    let here = first_cons other more cs (some_of (kind_begins k) other f) joined in
    let lists : f.first ∷ f.later ≡ at_sign ∷ here.0 = sym f.is ∙ here.1 in
    let same : f.first ≡ at_sign = cc (lists) in
    by k (at_text more k other is (ap (kind_begins k) (sym same) ∙ f.passes))
  where
    by : (k : TokenKind) → AtText more other k → AtCase cs more other (Ok (Some k))
    by k (named_text name e ident) = named name (behind_at other more cs name joined e) (ap (λ (t : List ℕ). length t) e) ident
    by k (single_text d e) =
        let lists : at_sign ∷ cs ≡ d ∷ more = joined ∙ ap (λ (t : List ℕ). t ++ more) e in
        let same : at_sign ≡ d = cc (lists) in
        subst (λ (d : ℕ). AtCase cs more other (Ok (Some (kind.Delim d)))) same (single (ap (λ (t : List ℕ). length t) e))
at_case cs other more another joined (comment (closed inside e none)) =
    let lists : at_sign ∷ cs ≡ 47 ∷ 42 ∷ ((inside ++ (42 ∷ 47 ∷ [])) ++ more) = joined ∙ ap (λ (t : List ℕ). t ++ more) e in
    let wrong : at_sign ≡ 47 = cc (lists) in
    absurd (omega (arith, wrong))
at_case cs other more another joined (bad_string is) =
    let f = bad_string_first other more is in
    let here = first_cons other more cs (some_of is_quote other f) joined in
    absurd (no_at is_quote other here.0 refl f here.1)
at_case cs other more another joined (bad_url is) =
    let f = bad_url_first other more is in
    let here = first_cons other more cs (some_of begins_ident other f) joined in
    absurd (no_at begins_ident other here.0 refl f here.1)
at_case cs other more another joined (cut is end) =
    let whole : at_sign ∷ cs ≡ other = joined ∙ (ap (λ (t : List ℕ). other ++ t) end ∙ append-nil other) in
    endless (cut_at other cs is (sym whole)) (ap (λ (t : List ℕ). length t) (sym whole))

at_delim : (rest : List ℕ) → IsDelim at_sign rest
at_delim rest = record { no_white = refl; no_quote = refl; no_sign = refl; no_digit = refl; no_start = refl; lone = λ (e : at_sign ≡ backslash). absurd (omega (arith, e)) }

-- no ident sequence follows
single_right : (cs : List ℕ) → name_start cs ≡ 0 → IsReadRight (at_sign ∷ cs)
single_right cs none =
    let test : ltb 0 (name_start cs) ≡ false = le-ltb 0 (name_start cs) (omega (arith, none)) in
    let shape : at_shape cs ≡ done (kind.Delim at_sign) 1 = rw test refl in
    read_right (at_sign ∷ cs) (done (kind.Delim at_sign) 1) 1 (ap (within (at_sign ∷ cs)) shape ∙ within_fits (at_sign ∷ cs) (done (kind.Delim at_sign) 1) fits) (record {
      front = at_sign ∷ [];
      rest = cs;
      joined = refl;
      len = refl;
      taken = token (kind.Delim at_sign) (delim at_sign (at_delim cs));
      best = λ other more another e taken. best other more another (at_case cs other more another e taken);
    })
    (λ s e. let shapes : ◌≡◌ {A = Shape} (Some (kind.Delim at_sign), 1) s = cc (e) in sym (ap (λ (s : Shape). s.1) shapes))
  where
    fits : (s : Shape) → done (kind.Delim at_sign) 1 ≡ Ok s → s.1 ≤ suc (length cs)
    fits s e = let shapes : ◌≡◌ {A = Shape} (Some (kind.Delim at_sign), 1) s = cc (e) in omega (arith, ap (λ (s : Shape). s.1) shapes)

    best : (other more : List ℕ) (another : Answer) → AtCase cs more other another → IsWorse other another (at_sign ∷ []) (Ok (Some (kind.Delim at_sign)))
    best other more another (named name e size is) = absurd (omega (arith, none, ident_start name more is, ap name_start e))
    best other more another (single size) = inr (size, refl)
    best other more another (endless is size) = absurd (omega (arith, none, cut_ident_start cs is))

-- an ident sequence that lacks what its last backslash escapes
cut_right : (cs : List ℕ) → IsCutIdent cs → IsReadRight (at_sign ∷ cs)
cut_right cs is =
    let test : ltb 0 (name_start cs) ≡ true = lt-ltb 0 (name_start cs) (cut_ident_start cs is) in
    let shape : at_shape cs ≡ done kind.AtKeyword (1 + run name_unit cs) = rw test refl in
    let over : ltb (suc (length cs)) (1 + run name_unit cs) ≡ true = lt-ltb (suc (length cs)) (1 + run name_unit cs) (omega (arith, cut_ident_len cs is)) in
    let reads : part_at (at_sign ∷ cs) ≡ Err flaw.EndInside = ap (within (at_sign ∷ cs)) shape ∙ rw over refl in
    read_right (at_sign ∷ cs) (Err flaw.EndInside) (suc (length cs)) reads (record {
      front = at_sign ∷ cs;
      rest = [];
      joined = sym (append-nil (at_sign ∷ cs));
      len = refl;
      taken = cut (in_at_keyword cs refl is) refl;
      best = λ other more another joined taken. best other more another (at_case cs other more another joined taken);
    })
    (λ s wrong. absurd (cc (wrong)))
  where
    shorter : (name more : List ℕ) → cs ≡ name ++ more → IsIdent name more → length name < length cs
    shorter name [] joined ident =
        let none : run name_unit [] ≡ 0 = refl in
        absurd (omega (arith, cut_ident_len cs is, name_le cs name [] joined (ident_row name [] ident), none, ap (λ (t : List ℕ). length t) joined, length-append name []))
    shorter name (d ∷ ds) joined ident = omega (arith, ap (λ (t : List ℕ). length t) joined, length-append name (d ∷ ds))

    some : (t : List ℕ) → IsCutIdent t → 0 < length t
    some t c = some_of begins_ident t (cut_ident_first t c)

    best : (other more : List ℕ) (another : Answer) → AtCase cs more other another → IsWorse other another (at_sign ∷ cs) (Err flaw.EndInside)
    best other more another (named name joined size ident) = inl (omega (arith, size, shorter name more joined ident))
    best other more another (single size) = inl (omega (arith, size, some cs is))
    best other more another (endless there size) = inr (size, refl)

-- an at-keyword
keyword_right : (cs : List ℕ) → IdentHere cs → IsReadRight (at_sign ∷ cs)
keyword_right cs f =
    let starts : 0 < name_start cs = subst (λ (t : List ℕ). 0 < name_start t) (sym f.joined) (ident_start f.front f.rest f.ident) in
    let test : ltb 0 (name_start cs) ≡ true = lt-ltb 0 (name_start cs) starts in
    let shape : at_shape cs ≡ done kind.AtKeyword (1 + run name_unit cs) = rw test refl in
    let size : 1 + run name_unit cs ≡ suc (length f.front) = omega (arith, ident_len cs f) in
    let whole : at_shape cs ≡ done kind.AtKeyword (suc (length f.front)) = shape ∙ ap (λ (n : ℕ). done kind.AtKeyword n) size in
    read_right (at_sign ∷ cs) (done kind.AtKeyword (suc (length f.front))) (suc (length f.front))
    (ap (within (at_sign ∷ cs)) whole ∙ within_fits (at_sign ∷ cs) (done kind.AtKeyword (suc (length f.front))) fits)
    (record {
      front = at_sign ∷ f.front;
      rest = f.rest;
      joined = ap (λ (t : List ℕ). at_sign ∷ t) f.joined;
      len = refl;
      taken = token kind.AtKeyword (at_keyword f.front f.ident);
      best = λ other more another e taken. best other more another (at_case cs other more another e taken);
    })
    (λ s e. let shapes : ◌≡◌ {A = Shape} (Some kind.AtKeyword, suc (length f.front)) s = cc (e) in sym (ap (λ (s : Shape). s.1) shapes))
  where
    fits : (s : Shape) → done kind.AtKeyword (suc (length f.front)) ≡ Ok s → s.1 ≤ suc (length cs)
    fits s e =
        let shapes : ◌≡◌ {A = Shape} (Some kind.AtKeyword, suc (length f.front)) s = cc (e) in
        omega (arith, ap (λ (s : Shape). s.1) shapes, ap (λ (t : List ℕ). length t) f.joined, length-append f.front f.rest)

    some : 0 < length f.front
    some = some_of begins_ident f.front (ident_first f.front f.rest f.ident)

    best : (other more : List ℕ) (another : Answer) → AtCase cs more other another → IsWorse other another (at_sign ∷ f.front) (Ok (Some kind.AtKeyword))
    best other more another (named name e size is) = by (worse_or_same (length name) (length f.front) (omega (arith, ident_len cs f, name_le cs name more e (ident_row name more is))))
      where
        by : (length name < length f.front) ⊎ (length name ≡ length f.front) → IsWorse other (Ok (Some kind.AtKeyword)) (at_sign ∷ f.front) (Ok (Some kind.AtKeyword))
        by (inl less) = inl (omega (arith, less, size))
        by (inr same) = inr (omega (arith, same, size), refl)
    best other more another (single size) = inl (omega (arith, size, some))
    best other more another (endless is size) =
        absurd (omega (arith, cut_ident_len cs is, ident_len cs f, ap (λ (t : List ℕ). length t) f.joined, length-append f.front f.rest))

at_right : (cs : List ℕ) → IsReadRight (at_sign ∷ cs)
at_right cs = by (cases_lt 0 (name_start cs))
  where
    ident : IdentHere cs ⊎ IsCutIdent cs → IsReadRight (at_sign ∷ cs)
    ident (inl f) = keyword_right cs f
    ident (inr c) = cut_right cs c

    by : (0 < name_start cs) ⊎ (name_start cs ≤ 0) → IsReadRight (at_sign ∷ cs)
    by (inl starts) = ident (ident_here cs starts)
    by (inr none) = single_right cs (omega (arith, none))

pub at_keywords_are_read_right : AreReadRight is_at_sign
at_keywords_are_read_right [] is = absurd (false≢true is)
at_keywords_are_read_right (c ∷ cs) is = subst (λ (c : ℕ). IsReadRight (c ∷ cs)) (sym (eqb-true c at_sign is)) (at_right cs)
