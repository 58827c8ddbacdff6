-- Texts that begin with `#`: a hash whose name is an ident sequence, any other hash, or the sign by itself.
use Rattle.std.proofs.Common.{ℕ, suc, ◌+◌, ◌<◌, ◌≤◌, ◌≡◌, ◌⊎◌, inl, inr, Bool, true, false, cond, ltb, ◌==◌, List, [], ◌∷◌, ◌++◌, Ok, Err, Some, length, drop, refl, sym, ap, ◌∙◌, subst, arith}
use Rattle.std.proofs.lemmas.Bool.{cases_lt, eqb-true, false≢true, le-ltb, lt-ltb}
use Rattle.std.proofs.lemmas.List.{append-nil, drop_at, length-append}
use Rattle.css_model.specs.declared.token.TokenFlaw.TheVariants as flaw
use Rattle.css_model.specs.declared.token.TokenKind.{TokenKind}
use Rattle.css_model.specs.declared.token.TokenKind.TheVariants as kind
use Rattle.css_model.specs.Text.Characters.{backslash, dash, hash}
use Rattle.css_model.specs.Text.Runs.{run}
use Rattle.css_model.specs.Text.TokenAt.{Shape, part_at, done, hash_shape, is_quote, within}
use Rattle.css_model.specs.Text.Units.{name_start, name_unit}
use Rattle.css_tokens.proofs.ForCallers.{run_none}
use Rattle.token_grammar.specs.Flaws.{IsCut, IsCutIdent}
use Rattle.token_grammar.specs.Flaws.IsCut.{in_comment, in_string, in_string_escape, in_url, in_url_escape, in_hash, in_at_keyword, in_ident, in_dimension}
use Rattle.token_grammar.specs.Flaws.IsCutIdent.{alone, dashed, longer}
use Rattle.token_grammar.proofs.ReadRight.{AreReadRight, IsReadRight, is_hash}
use Rattle.token_grammar.specs.Longest.{Answer, IsTaken}
use Rattle.token_grammar.specs.Longest.IsTaken.{token, comment, bad_string, bad_url, cut}
use Rattle.token_grammar.specs.Names.{IsIdent, IsNamePart}
use Rattle.token_grammar.specs.Names.IsNamePart.{code_point}
use Rattle.token_grammar.specs.Rows.{IsRowOf}
use Rattle.token_grammar.specs.Rows.IsRowOf.{nothing, more as one_more}
use Rattle.token_grammar.specs.TokenTexts.{IsDelim, IsTokenText}
use Rattle.token_grammar.specs.TokenTexts.IsCommentText.{closed}
use Rattle.token_grammar.specs.TokenTexts.IsTokenText.{id_hash, other_hash, delim}
use Rattle.token_grammar.proofs.Decided.{IsWorse, read_right, same_front, within_fits, worse_or_same}
use Rattle.token_grammar.proofs.FirstBytes.{FirstIs, bad_string_first, bad_url_first, begins_ident, begins_number, cut_ident_first, first_front, first_of, ident_first, kind_begins, number_first, some_of, token_first, url_first}
use Rattle.token_grammar.proofs.Idents.{IdentHere, cut_row, ident_here, ident_row, ident_start, long_name, name_le, names}
use Rattle.token_grammar.proofs.Pieces.{RowHere, row_here, row_stops}

-- how a text at `#` is taken
data HashCase (cs more other : List ℕ) : Answer → Type 0 where
  named : (name : List ℕ) → cs ≡ name ++ more → length other ≡ suc (length name) → IsIdent name more → HashCase cs more other (Ok (Some kind.IdHash))
  unnamed : (name : List ℕ) → cs ≡ name ++ more → length other ≡ suc (length name) → 0 < length name → IsRowOf IsNamePart more name → (IsIdent name more → ⊥)
      → HashCase cs more other (Ok (Some kind.Hash))
  single : length other ≡ 1 → HashCase cs more other (Ok (Some (kind.Delim hash)))
  endless : run name_unit cs ≡ suc (length cs) → length other ≡ suc (length cs) → HashCase cs more other (Err flaw.EndInside)

-- of the tokens these begin with `#`
data HashText (rest text : List ℕ) : TokenKind → Type 0 where
  named_text : (name : List ℕ) → text ≡ hash ∷ name → IsIdent name rest → HashText rest text kind.IdHash
  unnamed_text : (name : List ℕ) → text ≡ hash ∷ name → 0 < length name → IsRowOf IsNamePart rest name → (IsIdent name rest → ⊥) → HashText rest text kind.Hash
  single_text : (d : ℕ) → text ≡ d ∷ [] → HashText rest text (kind.Delim d)

hash_text : (rest : List ℕ) (k : TokenKind) (text : List ℕ) → IsTokenText rest k text → kind_begins k hash ≡ true → HashText rest text k
hash_text rest k text (id_hash name is) h = named_text name refl is
hash_text rest k text (other_hash name some row none) h = unnamed_text name refl some row none
hash_text rest k text (delim d is) h = single_text d refl
hash_text rest k text _ h = absurd (false≢true h)

-- what lacks its end after `#`
record CutHash (text : List ℕ) : Type 0 where
  row : List ℕ
  is : text ≡ hash ∷ (row ++ backslash ∷ [])
  are : IsRowOf IsNamePart (backslash ∷ []) row

no_hash_of : (test : ℕ → Bool) (text cs : List ℕ) → test hash ≡ false → FirstIs test text → text ≡ hash ∷ cs → ⊥
no_hash_of test text cs none f e =
    let lists : f.first ∷ f.later ≡ hash ∷ cs = sym f.is ∙ e in
    let same : f.first ≡ hash = cc (lists) in
    false≢true (sym none ∙ (ap test (sym same) ∙ f.passes))

cut_hash : (text cs : List ℕ) → IsCut text → text ≡ hash ∷ cs → CutHash text
cut_hash text cs (in_hash row e are) is = record { row = row; is = e; are = are }
cut_hash text cs (in_comment inside e none) is = absurd (no_hash_of (λ c. c == 47) text cs refl (first_of (λ c. c == 47) 47 (42 ∷ inside) text e refl) is)
cut_hash text cs (in_string quote inside e q row) is = absurd (no_hash_of is_quote text cs refl (first_of is_quote quote inside text e q) is)
cut_hash text cs (in_string_escape quote inside e q row) is = absurd (no_hash_of is_quote text cs refl (first_of is_quote quote (inside ++ backslash ∷ []) text e q) is)
cut_hash text cs (in_url front inside after e u all) is = absurd (no_hash_of begins_ident text cs refl (first_front begins_ident front after text e (url_first front inside after u)) is)
cut_hash text cs (in_url_escape front inside e u) is =
    absurd (no_hash_of begins_ident text cs refl (first_front begins_ident front (backslash ∷ []) text e (url_first front inside (backslash ∷ []) u)) is)
cut_hash text cs (in_at_keyword name e seq) is = absurd (no_hash_of (λ c. c == 64) text cs refl (first_of (λ c. c == 64) 64 name text e refl) is)
cut_hash text cs (in_ident seq) is = absurd (no_hash_of begins_ident text cs refl (cut_ident_first text seq) is)
cut_hash text cs (in_dimension front unit e n seq whole) is = absurd (no_hash_of begins_number text cs refl (first_front begins_number front unit text e (number_first front n)) is)

first_cons : (other more cs : List ℕ) → 0 < length other → hash ∷ cs ≡ other ++ more → (later : List ℕ) × (other ≡ hash ∷ later) × (cs ≡ later ++ more)
first_cons [] more cs some joined = absurd (omega (arith, some))
first_cons (c ∷ later) more cs some joined =
    let same : c ≡ hash = cc (joined) in
    let rest : cs ≡ later ++ more = cc (joined) in
    (later, ap (λ (c : ℕ). c ∷ later) same, rest)

behind_hash : (other more cs name : List ℕ) → hash ∷ cs ≡ other ++ more → other ≡ hash ∷ name → cs ≡ name ++ more
behind_hash other more cs name joined e =
    let lists : hash ∷ cs ≡ hash ∷ (name ++ more) = joined ∙ ap (λ (t : List ℕ). t ++ more) e in
    cc (lists)

hash_case : (cs other more : List ℕ) (another : Answer) → hash ∷ cs ≡ other ++ more → IsTaken other more another → HashCase cs more other another
hash_case cs other more another joined (token k is) =
    let f = token_first more k other is in
    let here = first_cons other more cs (some_of (kind_begins k) other f) joined in
    let lists : f.first ∷ f.later ≡ hash ∷ here.0 = sym f.is ∙ here.1 in
    let same : f.first ≡ hash = cc (lists) in
    by k (hash_text more k other is (ap (kind_begins k) (sym same) ∙ f.passes))
  where
    by : (k : TokenKind) → HashText more other k → HashCase cs more other (Ok (Some k))
    by k (named_text name e ident) = named name (behind_hash other more cs name joined e) (ap (λ (t : List ℕ). length t) e) ident
    by k (unnamed_text name e some row none) = unnamed name (behind_hash other more cs name joined e) (ap (λ (t : List ℕ). length t) e) some row none
    by k (single_text d e) =
        let lists : hash ∷ cs ≡ d ∷ more = joined ∙ ap (λ (t : List ℕ). t ++ more) e in
        let same : hash ≡ d = cc (lists) in
        subst (λ (d : ℕ). HashCase cs more other (Ok (Some (kind.Delim d)))) same (single (ap (λ (t : List ℕ). length t) e))
hash_case cs other more another joined (comment (closed inside e none)) =
    let lists : hash ∷ cs ≡ 47 ∷ 42 ∷ ((inside ++ (42 ∷ 47 ∷ [])) ++ more) = joined ∙ ap (λ (t : List ℕ). t ++ more) e in
    let wrong : hash ≡ 47 = cc (lists) in
    absurd (omega (arith, wrong))
hash_case cs other more another joined (bad_string is) =
    let f = bad_string_first other more is in
    absurd (no_hash_of is_quote other (first_cons other more cs (some_of is_quote other f) joined).0 refl f (first_cons other more cs (some_of is_quote other f) joined).1)
hash_case cs other more another joined (bad_url is) =
    let f = bad_url_first other more is in
    absurd (no_hash_of begins_ident other (first_cons other more cs (some_of begins_ident other f) joined).0 refl f (first_cons other more cs (some_of begins_ident other f) joined).1)
hash_case cs other more another joined (cut is end) =
    let whole : hash ∷ cs ≡ other = joined ∙ (ap (λ (t : List ℕ). other ++ t) end ∙ append-nil other) in
    let c = cut_hash other cs is (sym whole) in
    let lists : hash ∷ cs ≡ hash ∷ (c.row ++ backslash ∷ []) = whole ∙ c.is in
    let rest : cs ≡ c.row ++ backslash ∷ [] = cc (lists) in
    endless
    (ap (λ (t : List ℕ). run name_unit t) rest ∙ (cut_row c.row c.are ∙ ap (λ (t : List ℕ). suc (length t)) (sym rest)))
    (ap (λ (t : List ℕ). length t) (sym whole))

ident_some : (name rest : List ℕ) → IsIdent name rest → 0 < length name
ident_some name rest is = some_of begins_ident name (ident_first name rest is)

hash_delim : (rest : List ℕ) → IsDelim hash rest
hash_delim rest = record { no_white = refl; no_quote = refl; no_sign = refl; no_digit = refl; no_start = refl; lone = λ (e : hash ≡ backslash). absurd (omega (arith, e)) }

-- no name
single_right : (cs : List ℕ) → name_unit cs ≡ 0 → IsReadRight (hash ∷ cs)
single_right cs none =
    let test : ltb 0 (name_unit cs) ≡ false = le-ltb 0 (name_unit cs) (omega (arith, none)) in
    let shape : hash_shape cs ≡ done (kind.Delim hash) 1 = rw test refl in
    let reads : part_at (hash ∷ cs) ≡ done (kind.Delim hash) 1 = ap (within (hash ∷ cs)) shape ∙ within_fits (hash ∷ cs) (done (kind.Delim hash) 1) fits in
    read_right (hash ∷ cs) (done (kind.Delim hash) 1) 1 reads (record {
      front = hash ∷ [];
      rest = cs;
      joined = refl;
      len = refl;
      taken = token (kind.Delim hash) (delim hash (hash_delim cs));
      best = λ other more another e taken. best other more another (hash_case cs other more another e taken);
    })
    (λ s e. let shapes : ◌≡◌ {A = Shape} (Some (kind.Delim hash), 1) s = cc (e) in sym (ap (λ (s : Shape). s.1) shapes))
  where
    empty : run name_unit cs ≡ 0
    empty = run_none name_unit cs none

    fits : (s : Shape) → done (kind.Delim hash) 1 ≡ Ok s → s.1 ≤ suc (length cs)
    fits s e = let shapes : ◌≡◌ {A = Shape} (Some (kind.Delim hash), 1) s = cc (e) in omega (arith, ap (λ (s : Shape). s.1) shapes)

    best : (other more : List ℕ) (another : Answer) → HashCase cs more other another → IsWorse other another (hash ∷ []) (Ok (Some (kind.Delim hash)))
    best other more another (named name e size is) = absurd (omega (arith, empty, name_le cs name more e (ident_row name more is), ident_some name more is))
    best other more another (unnamed name e size some row no_ident) = absurd (omega (arith, empty, name_le cs name more e row, some))
    best other more another (single size) = inr (size, refl)
    best other more another (endless long size) = absurd (omega (arith, long, empty))

-- a text at `#` that ends in a backslash
cut_right : (cs row : List ℕ) → cs ≡ row ++ backslash ∷ [] → IsRowOf IsNamePart (backslash ∷ []) row → 0 < name_unit cs → IsReadRight (hash ∷ cs)
cut_right cs row e are some =
    let test : ltb 0 (name_unit cs) ≡ true = lt-ltb 0 (name_unit cs) some in
    let shape : hash_shape cs ≡ done (cond (ltb 0 (name_start cs)) kind.IdHash kind.Hash) (1 + run name_unit cs) = rw test refl in
    let over : ltb (suc (length cs)) (1 + run name_unit cs) ≡ true = lt-ltb (suc (length cs)) (1 + run name_unit cs) (omega (arith, long)) in
    let reads : part_at (hash ∷ cs) ≡ Err flaw.EndInside = ap (within (hash ∷ cs)) shape ∙ rw over refl in
    read_right (hash ∷ cs) (Err flaw.EndInside) (suc (length cs)) reads (record {
      front = hash ∷ cs;
      rest = [];
      joined = sym (append-nil (hash ∷ cs));
      len = refl;
      taken = cut (in_hash row (ap (λ (t : List ℕ). hash ∷ t) e) are) refl;
      best = λ other more another joined taken. best other more another (hash_case cs other more another joined taken);
    })
    (λ s wrong. absurd (cc (wrong)))
  where
    long : run name_unit cs ≡ suc (length cs)
    long = ap (λ (t : List ℕ). run name_unit t) e ∙ (cut_row row are ∙ ap (λ (t : List ℕ). suc (length t)) (sym e))

    shorter : (name more : List ℕ) → cs ≡ name ++ more → IsRowOf IsNamePart more name → length name < length cs
    shorter name [] joined is =
        let none : run name_unit [] ≡ 0 = refl in
        absurd (omega (arith, long, name_le cs name [] joined is, none, ap (λ (t : List ℕ). length t) joined, length-append name []))
    shorter name (d ∷ ds) joined is = omega (arith, ap (λ (t : List ℕ). length t) joined, length-append name (d ∷ ds))

    best : (other more : List ℕ) (another : Answer) → HashCase cs more other another → IsWorse other another (hash ∷ cs) (Err flaw.EndInside)
    best other more another (named name joined size is) = inl (omega (arith, size, shorter name more joined (ident_row name more is)))
    best other more another (unnamed name joined size some row no_ident) = inl (omega (arith, size, shorter name more joined row))
    best other more another (single size) = inl (omega (arith, size, ap (λ (t : List ℕ). length t) e, length-append row (backslash ∷ [])))
    best other more another (endless far size) = inr (size, refl)

-- a name with its end
module _ (cs front rest : List ℕ) (joined : cs ≡ front ++ rest) (some : 0 < length front) (row : IsRowOf IsNamePart rest front) (stops : name_unit rest ≡ 0) where
  len : run name_unit cs ≡ length front
  len = ap (λ (t : List ℕ). run name_unit t) joined ∙ row_stops name_unit IsNamePart names rest front row stops

  name_worse : (name more : List ℕ) → cs ≡ name ++ more → IsRowOf IsNamePart more name → length name ≤ length front
  name_worse name more e is = omega (arith, len, name_le cs name more e is)

  -- another name that is as long is this one
  name_same : (name more : List ℕ) → cs ≡ name ++ more → length name ≡ length front → (front ≡ name) × (rest ≡ more)
  name_same name more e size =
      let fronts : name ≡ front = same_front front rest name more (sym joined ∙ e) size in
      let behind : drop (length front) (front ++ rest) ≡ rest = drop_at front rest (length front) refl in
      let there : drop (length front) (name ++ more) ≡ more = drop_at name more (length front) size in
      (sym fronts, sym behind ∙ (ap (λ (t : List ℕ). drop (length front) t) (sym joined ∙ e) ∙ there))

  no_cut : run name_unit cs ≡ suc (length cs) → ⊥
  no_cut long = omega (arith, long, len, ap (λ (t : List ℕ). length t) joined, length-append front rest)

  unit_some : 0 < name_unit cs
  unit_some = by (cases_lt 0 (name_unit cs))
    where
      by : (0 < name_unit cs) ⊎ (name_unit cs ≤ 0) → 0 < name_unit cs
      by (inl begun) = begun
      by (inr absent) = absurd (omega (arith, len, some, run_none name_unit cs (omega (arith, absent))))

  hash_reads : (k : TokenKind) → cond (ltb 0 (name_start cs)) kind.IdHash kind.Hash ≡ k → part_at (hash ∷ cs) ≡ done k (suc (length front))
  hash_reads k is =
      let test : ltb 0 (name_unit cs) ≡ true = lt-ltb 0 (name_unit cs) unit_some in
      let shape : hash_shape cs ≡ done (cond (ltb 0 (name_start cs)) kind.IdHash kind.Hash) (1 + run name_unit cs) = rw test refl in
      let size : 1 + run name_unit cs ≡ suc (length front) = omega (arith, len) in
      let whole : hash_shape cs ≡ done k (suc (length front)) = shape ∙ (ap (λ (k : TokenKind). done k (1 + run name_unit cs)) is ∙ ap (λ (n : ℕ). done k n) size) in
      let fits : (s : Shape) → done k (suc (length front)) ≡ Ok s → s.1 ≤ suc (length cs) =
      λ s e. let shapes : ◌≡◌ {A = Shape} (Some k, suc (length front)) s = cc (e) in omega (arith, ap (λ (s : Shape). s.1) shapes, ap (λ (t : List ℕ). length t) joined, length-append front rest) in
      ap (within (hash ∷ cs)) whole ∙ within_fits (hash ∷ cs) (done k (suc (length front))) fits

  named_right : IsIdent front rest → IsReadRight (hash ∷ cs)
  named_right ident =
      let starts : 0 < name_start cs = subst (λ (t : List ℕ). 0 < name_start t) (sym joined) (ident_start front rest ident) in
      let test : ltb 0 (name_start cs) ≡ true = lt-ltb 0 (name_start cs) starts in
      let choice : cond (ltb 0 (name_start cs)) kind.IdHash kind.Hash ≡ kind.IdHash = rw test refl in
      read_right (hash ∷ cs) (done kind.IdHash (suc (length front))) (suc (length front)) (hash_reads kind.IdHash choice) (record {
        front = hash ∷ front;
        rest = rest;
        joined = ap (λ (t : List ℕ). hash ∷ t) joined;
        len = refl;
        taken = token kind.IdHash (id_hash front ident);
        best = λ other more another e taken. best other more another (hash_case cs other more another e taken);
      })
      (λ s e. let shapes : ◌≡◌ {A = Shape} (Some kind.IdHash, suc (length front)) s = cc (e) in sym (ap (λ (s : Shape). s.1) shapes))
    where
      best : (other more : List ℕ) (another : Answer) → HashCase cs more other another → IsWorse other another (hash ∷ front) (Ok (Some kind.IdHash))
      best other more another (named name e size is) = by (worse_or_same (length name) (length front) (name_worse name more e (ident_row name more is)))
        where
          by : (length name < length front) ⊎ (length name ≡ length front) → IsWorse other (Ok (Some kind.IdHash)) (hash ∷ front) (Ok (Some kind.IdHash))
          by (inl less) = inl (omega (arith, less, size))
          by (inr same) = inr (omega (arith, same, size), refl)
      best other more another (unnamed name e size some there no_ident) = by (worse_or_same (length name) (length front) (name_worse name more e there))
        where
          by : (length name < length front) ⊎ (length name ≡ length front) → IsWorse other (Ok (Some kind.Hash)) (hash ∷ front) (Ok (Some kind.IdHash))
          by (inl less) = inl (omega (arith, less, size))
          by (inr same) =
              let both = name_same name more e same in
              let is = subst (λ (t : List ℕ). IsIdent t rest) both.0 ident in
              absurd (no_ident (subst (λ (t : List ℕ). IsIdent name t) both.1 is))
      best other more another (single size) = inl (omega (arith, size, some))
      best other more another (endless long size) = absurd (no_cut long)

  unnamed_right : name_start cs ≡ 0 → IsReadRight (hash ∷ cs)
  unnamed_right none =
      let test : ltb 0 (name_start cs) ≡ false = le-ltb 0 (name_start cs) (omega (arith, none)) in
      let choice : cond (ltb 0 (name_start cs)) kind.IdHash kind.Hash ≡ kind.Hash = rw test refl in
      read_right (hash ∷ cs) (done kind.Hash (suc (length front))) (suc (length front)) (hash_reads kind.Hash choice) (record {
        front = hash ∷ front;
        rest = rest;
        joined = ap (λ (t : List ℕ). hash ∷ t) joined;
        len = refl;
        taken = token kind.Hash (other_hash front some row (λ is. no_ident front rest joined is));
        best = λ other more another e taken. best other more another (hash_case cs other more another e taken);
      })
      (λ s e. let shapes : ◌≡◌ {A = Shape} (Some kind.Hash, suc (length front)) s = cc (e) in sym (ap (λ (s : Shape). s.1) shapes))
    where
      no_ident : (name more : List ℕ) → cs ≡ name ++ more → IsIdent name more → ⊥
      no_ident name more e is = omega (arith, none, ident_start name more is, ap name_start e)

      best : (other more : List ℕ) (another : Answer) → HashCase cs more other another → IsWorse other another (hash ∷ front) (Ok (Some kind.Hash))
      best other more another (named name e size is) = absurd (no_ident name more e is)
      best other more another (unnamed name e size some there no_ident) = by (worse_or_same (length name) (length front) (name_worse name more e there))
        where
          by : (length name < length front) ⊎ (length name ≡ length front) → IsWorse other (Ok (Some kind.Hash)) (hash ∷ front) (Ok (Some kind.Hash))
          by (inl less) = inl (omega (arith, less, size))
          by (inr same) = inr (omega (arith, same, size), refl)
      best other more another (single size) = inl (omega (arith, size, some))
      best other more another (endless long size) = absurd (no_cut long)

cut_ident_right : (cs : List ℕ) → IsCutIdent cs → 0 < name_unit cs → IsReadRight (hash ∷ cs)
cut_ident_right cs (alone e) some = cut_right cs [] e nothing some
cut_ident_right cs (dashed e) some = cut_right cs (dash ∷ []) e (one_more (dash ∷ []) [] (code_point dash refl refl) nothing) some
cut_ident_right cs (longer name e is) some = cut_right cs name e (ident_row name (backslash ∷ []) is) some

hash_right : (cs : List ℕ) → IsReadRight (hash ∷ cs)
hash_right cs = by (cases_lt 0 (name_unit cs)) (cases_lt 0 (name_start cs))
  where
    ident : 0 < name_unit cs → IdentHere cs ⊎ IsCutIdent cs → IsReadRight (hash ∷ cs)
    ident some (inl f) = named_right cs f.front f.rest f.joined (ident_some f.front f.rest f.ident) (ident_row f.front f.rest f.ident) f.stops f.ident
    ident some (inr c) = cut_ident_right cs c some

    row : 0 < name_unit cs → name_start cs ≡ 0 → RowHere name_unit IsNamePart cs → IsReadRight (hash ∷ cs)
    row some none r = at r.front r.joined r.row r.ends
      where
        at : (front : List ℕ) → cs ≡ front ++ r.rest → IsRowOf IsNamePart r.rest front → (name_unit r.rest ≡ 0) ⊎ (length r.rest < name_unit r.rest) → IsReadRight (hash ∷ cs)
        at front joined are (inr long) =
            let last = long_name r.rest long in
            cut_right cs front (joined ∙ ap (λ (t : List ℕ). front ++ t) last) (subst (λ (t : List ℕ). IsRowOf IsNamePart t front) last are) some
        at [] joined are (inl stops) = absurd (omega (arith, some, stops, ap name_unit joined))
        at (c ∷ front) joined are (inl stops) = unnamed_right cs (c ∷ front) r.rest joined (omega arith) are stops none

    by : (0 < name_unit cs) ⊎ (name_unit cs ≤ 0) → (0 < name_start cs) ⊎ (name_start cs ≤ 0) → IsReadRight (hash ∷ cs)
    by (inr absent) starts = single_right cs (omega (arith, absent))
    by (inl some) (inl starts) = ident some (ident_here cs starts)
    by (inl some) (inr none) = row some (omega (arith, none)) (row_here name_unit IsNamePart names cs)

pub hashes_are_read_right : AreReadRight is_hash
hashes_are_read_right [] is = absurd (false≢true is)
hashes_are_read_right (c ∷ cs) is = subst (λ (c : ℕ). IsReadRight (c ∷ cs)) (sym (eqb-true c hash is)) (hash_right cs)
