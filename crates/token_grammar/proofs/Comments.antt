-- Texts that begin with a slash: a comment, one that lacks its end, or a slash by itself.
use Rattle.std.proofs.Common.{ℕ, suc, ◌+◌, ◌≤◌, ◌≡◌, ◌⊎◌, inl, inr, Bool, true, false, ◌&&◌, ◌==◌, List, [], ◌∷◌, ◌++◌, Result, Ok, Err, Some, None, length, drop, refl, sym, ap, ◌∙◌, subst, arith}
use Rattle.std.proofs.lemmas.Bool.{and_from, and_parts, and_right, eq-eqb, eqb-true, false≢true, or_from, or_parts, or_right, true≢false}
use Rattle.std.proofs.lemmas.List.{append-nil, drop_at, length-append}
use Rattle.css_model.specs.declared.token.TokenFlaw.{TokenFlaw}
use Rattle.css_model.specs.declared.token.TokenFlaw.TheVariants as flaw
use Rattle.css_model.specs.declared.token.TokenKind.{TokenKind}
use Rattle.css_model.specs.declared.token.TokenKind.TheVariants as kind
use Rattle.css_model.specs.Positions.Notation.{has_close}
use Rattle.css_model.specs.Text.Characters.{slash, star, begins}
use Rattle.css_model.specs.Text.Runs.{run}
use Rattle.css_model.specs.Text.TokenAt.{Shape, comment_shape, done, part_at, slash_shape, within}
use Rattle.css_model.specs.Text.Units.{comment_unit}
use Rattle.token_grammar.specs.Flaws.{IsCut}
use Rattle.token_grammar.specs.Flaws.IsCut.{in_comment}
use Rattle.token_grammar.proofs.ReadRight.{AreReadRight, IsReadRight, is_slash}
use Rattle.token_grammar.specs.Longest.{Answer, IsTaken}
use Rattle.token_grammar.specs.Longest.IsTaken.{token, comment, bad_string, bad_url, cut}
use Rattle.token_grammar.specs.TokenTexts.{IsDelim, IsTokenText}
use Rattle.token_grammar.specs.TokenTexts.IsCommentText.{closed}
use Rattle.token_grammar.specs.TokenTexts.IsTokenText.{delim}
use Rattle.token_grammar.proofs.Decided.{Decides, IsWorse, read_right, within_fits}
use Rattle.token_grammar.proofs.FirstBytes.{FirstIs, IsCutComment, bad_string_first, bad_url_first, begins_ident, cut_begins, cut_first, kind_begins, token_first}

abbrev close : List ℕ → List ℕ
close rest = star ∷ slash ∷ rest

has_close_more : (c : ℕ) (cs : List ℕ) → (c == star && begins slash cs) ≡ false → has_close cs ≡ false → has_close (c ∷ cs) ≡ false
has_close_more c [] here later = refl
has_close_more c (d ∷ ds) here later = or_from (c == star && d == slash) (has_close (d ∷ ds)) here later

has_close_later : (c : ℕ) (cs : List ℕ) → has_close (c ∷ cs) ≡ false → has_close cs ≡ false
has_close_later c [] none = refl
has_close_later c (d ∷ ds) none = (or_parts (c == star && d == slash) (has_close (d ∷ ds)) none).1

has_close_at : (front rest : List ℕ) → has_close (front ++ close rest) ≡ true
has_close_at [] rest = refl
has_close_at (c ∷ []) rest = or_right (c == star && false) (has_close (close rest)) refl
has_close_at (c ∷ d ∷ ds) rest = or_right (c == star && d == slash) (has_close ((d ∷ ds) ++ close rest)) (has_close_at (d ∷ ds) rest)

-- what holds no `*/` is not longer than what comes before one
close_le : (a b m r : List ℕ) → a ++ close m ≡ b ++ close r → has_close b ≡ false → length b ≤ length a
close_le a [] m r same none = omega arith
close_le [] (c ∷ []) m r same none =
    let second : slash ≡ star = cc in
    absurd (omega (arith, second))
close_le [] (c ∷ d ∷ ds) m r same none =
    let first : c ≡ star = cc in
    let second : d ≡ slash = cc in
    let here = (or_parts (c == star && d == slash) (has_close (d ∷ ds)) none).0 in
    absurd (true≢false (sym (and_from (c == star) (d == slash) (eq-eqb c star first) (eq-eqb d slash second)) ∙ here))
close_le (x ∷ xs) (c ∷ cs) m r same none =
    let rest : xs ++ close m ≡ cs ++ close r = cc in
    let later = close_le xs cs m r rest (has_close_later c cs none) in
    omega (arith, later)

-- a text up to its first `*/`
record UpToClose (text : List ℕ) : Type 0 where
  inside : List ℕ
  rest : List ℕ
  joined : text ≡ inside ++ close rest
  none : has_close inside ≡ false
  len : run comment_unit text ≡ length inside

record NoClose (text : List ℕ) : Type 0 where
  none : has_close text ≡ false
  ends : begins star (drop (run comment_unit text) text) ≡ false

close_here : (c : ℕ) (cs : List ℕ) → (c == star && begins slash cs) ≡ true → UpToClose (c ∷ cs)
close_here c [] here = absurd (false≢true (and_parts (c == star) false here).1)
close_here c (d ∷ ds) here =
    let two = and_parts (c == star) (d == slash) here in
    let same : c ∷ d ∷ ds ≡ close ds = rw (eqb-true c star two.0, eqb-true d slash two.1) refl in
    record { inside = []; rest = ds; joined = same; none = refl; len = rw here refl }

first_close : (text : List ℕ) → UpToClose text ⊎ NoClose text
first_close [] = inr (record { none = refl; ends = refl })
first_close (c ∷ cs) = by (c == star && begins slash cs) refl (first_close cs)
  where
    still : (c == star && begins slash cs) ≡ false → (inside rest : List ℕ) → cs ≡ inside ++ rest → (c == star && begins slash inside) ≡ false
    still here [] rest e = and_right (c == star) false refl
    still here (d ∷ ds) rest e = ap (λ (t : List ℕ). c == star && begins slash t) (sym e) ∙ here

    by : (b : Bool) → (c == star && begins slash cs) ≡ b → UpToClose cs ⊎ NoClose cs → UpToClose (c ∷ cs) ⊎ NoClose (c ∷ cs)
    by true here later = inl (close_here c cs here)
    by false here (inl f) = inl (record {
      inside = c ∷ f.inside;
      rest = f.rest;
      joined = ap (λ (t : List ℕ). c ∷ t) f.joined;
      none = has_close_more c f.inside (still here f.inside (close f.rest) f.joined) f.none;
      len = rw here (ap suc f.len);
    })
    by false here (inr f) = inr (record { none = has_close_more c cs here f.none; ends = rw here f.ends })

-- of the tokens only a single character begins with a slash
delim_only : (k : TokenKind) → kind_begins k slash ≡ true → (d : ℕ) × (k ≡ kind.Delim d)
delim_only (kind.Delim d) h = (d, refl)
delim_only _ h = absurd (false≢true h)

delim_text : (rest : List ℕ) (k : TokenKind) (text : List ℕ) → IsTokenText rest k text → (d : ℕ) → k ≡ kind.Delim d → text ≡ d ∷ []
delim_text rest k text (delim c is) d e = let same : c ≡ d = cc in ap (λ (c : ℕ). c ∷ []) same
delim_text rest k text _ d e = absurd (cc)

slash_token : (k : TokenKind) (other more cs : List ℕ) → IsTokenText more k other → slash ∷ cs ≡ other ++ more → (k ≡ kind.Delim slash) × (length other ≡ 1)
slash_token k other more cs is joined = by (token_first more k other is) (λ d e. delim_text more k other is d e)
  where
    by : FirstIs (kind_begins k) other → ((d : ℕ) → k ≡ kind.Delim d → other ≡ d ∷ []) → (k ≡ kind.Delim slash) × (length other ≡ 1)
    by f texts =
        let lists : slash ∷ cs ≡ f.first ∷ (f.later ++ more) = joined ∙ ap (λ (t : List ℕ). t ++ more) f.is in
        let same : f.first ≡ slash = cc (lists) in
        let only = delim_only k (ap (kind_begins k) (sym same) ∙ f.passes) in
        let text = texts only.0 only.1 in
        let bytes : f.first ∷ f.later ≡ only.0 ∷ [] = sym f.is ∙ text in
        let byte : only.0 ≡ slash = cc (bytes, same) in
        (only.1 ∙ ap (λ (d : ℕ). kind.Delim d) byte, ap (λ (t : List ℕ). length t) text)

slash_delim : (rest : List ℕ) → IsDelim slash rest
slash_delim rest = record { no_white = refl; no_quote = refl; no_sign = refl; no_digit = refl; no_start = refl; lone = λ (e : slash ≡ 92). absurd (omega (arith, e)) }

-- other texts at a slash
no_bad_string : (other more cs : List ℕ) → FirstIs (kind_begins kind.Str) other → slash ∷ cs ≡ other ++ more → ⊥
no_bad_string other more cs f joined =
    let lists : slash ∷ cs ≡ f.first ∷ (f.later ++ more) = joined ∙ ap (λ (t : List ℕ). t ++ more) f.is in
    let same : f.first ≡ slash = cc (lists) in
    false≢true (ap (kind_begins kind.Str) (sym same) ∙ f.passes)

no_ident : (other more cs : List ℕ) → FirstIs begins_ident other → slash ∷ cs ≡ other ++ more → ⊥
no_ident other more cs f joined =
    let lists : slash ∷ cs ≡ f.first ∷ (f.later ++ more) = joined ∙ ap (λ (t : List ℕ). t ++ more) f.is in
    let same : f.first ≡ slash = cc (lists) in
    false≢true (ap begins_ident (sym same) ∙ f.passes)

slash_cut : (other more cs : List ℕ) → IsCut other → slash ∷ cs ≡ other ++ more → IsCutComment other
slash_cut other more cs is joined = by (cut_first other is)
  where
    by : IsCutComment other ⊎ FirstIs cut_begins other → IsCutComment other
    by (inl found) = found
    by (inr f) =
        let lists : slash ∷ cs ≡ f.first ∷ (f.later ++ more) = joined ∙ ap (λ (t : List ℕ). t ++ more) f.is in
        let same : f.first ≡ slash = cc (lists) in
        absurd (false≢true (ap cut_begins (sym same) ∙ f.passes))

-- a slash that no star follows
alone : (cs : List ℕ) → begins star cs ≡ false → Decides (slash ∷ cs) (Ok (Some (kind.Delim slash))) 1
alone cs none = record {
  front = slash ∷ [];
  rest = cs;
  joined = refl;
  len = refl;
  taken = token (kind.Delim slash) (delim slash (slash_delim cs));
  best = best;
}
  where
    no_star : (ds : List ℕ) → cs ≡ star ∷ ds → ⊥
    no_star ds e = true≢false (ap (begins star) (sym e) ∙ none)

    best : (other more : List ℕ) (another : Answer) → slash ∷ cs ≡ other ++ more → IsTaken other more another → IsWorse other another (slash ∷ []) (Ok (Some (kind.Delim slash)))
    best other more another joined (token k is) =
        let one = slash_token k other more cs is joined in
        inr (one.1, ap (λ (k : TokenKind). let a : Answer = Ok (Some k) in a) one.0)
    best other more another joined (comment (closed inside e open_ended)) =
        let lists : slash ∷ cs ≡ slash ∷ star ∷ ((inside ++ close []) ++ more) = joined ∙ ap (λ (t : List ℕ). t ++ more) e in
        let rest : cs ≡ star ∷ ((inside ++ close []) ++ more) = cc (lists) in
        absurd (no_star ((inside ++ close []) ++ more) rest)
    best other more another joined (bad_string is) = absurd (no_bad_string other more cs (bad_string_first other more is) joined)
    best other more another joined (bad_url is) = absurd (no_ident other more cs (bad_url_first other more is) joined)
    best other more another joined (cut is end) =
        let c = slash_cut other more cs is joined in
        let lists : slash ∷ cs ≡ slash ∷ star ∷ (c.inside ++ more) = joined ∙ ap (λ (t : List ℕ). t ++ more) c.joined in
        let rest : cs ≡ star ∷ (c.inside ++ more) = cc (lists) in
        absurd (no_star (c.inside ++ more) rest)

-- a comment with its end
ended : (ds : List ℕ) (f : UpToClose ds) → Decides (slash ∷ star ∷ ds) (Ok None) (4 + length f.inside)
ended ds f = record {
  front = slash ∷ star ∷ (f.inside ++ close []);
  rest = f.rest;
  joined = ap (λ (t : List ℕ). slash ∷ star ∷ t) (f.joined ∙ split f.inside);
  len = sizes f.inside;
  taken = comment (closed f.inside refl f.none);
  best = best;
}
  where
    split : (inside : List ℕ) → inside ++ close f.rest ≡ (inside ++ close []) ++ f.rest
    split [] = refl
    split (c ∷ cs) = ap (λ (t : List ℕ). c ∷ t) (split cs)

    again : (inside more : List ℕ) → (inside ++ close []) ++ more ≡ inside ++ close more
    again [] more = refl
    again (c ∷ cs) more = ap (λ (t : List ℕ). c ∷ t) (again cs more)

    sizes : (inside : List ℕ) → length (slash ∷ star ∷ (inside ++ close [])) ≡ 4 + length inside
    sizes inside = omega (arith, length-append inside (close []))

    best : (other more : List ℕ) (another : Answer) → slash ∷ star ∷ ds ≡ other ++ more → IsTaken other more another
        → IsWorse other another (slash ∷ star ∷ (f.inside ++ close [])) (Ok None)
    best other more another joined (token k is) =
        let one = slash_token k other more (star ∷ ds) is joined in
        inl (omega (arith, one.1, sizes f.inside))
    best other more another joined (comment (closed inside e open_ended)) =
        let lists : slash ∷ star ∷ ds ≡ slash ∷ star ∷ ((inside ++ close []) ++ more) = joined ∙ ap (λ (t : List ℕ). t ++ more) e in
        let texts : ds ≡ (inside ++ close []) ++ more = cc (lists) in
        let same : f.inside ++ close f.rest ≡ inside ++ close more = sym f.joined ∙ (texts ∙ again inside more) in
        let low = close_le f.inside inside f.rest more same open_ended in
        let high = close_le inside f.inside more f.rest (sym same) f.none in
        let size : length other ≡ length (slash ∷ star ∷ (inside ++ close [])) = ap (λ (t : List ℕ). length t) e in
        inr (omega (arith, low, high, size, sizes inside, sizes f.inside), refl)
    best other more another joined (bad_string is) = absurd (no_bad_string other more (star ∷ ds) (bad_string_first other more is) joined)
    best other more another joined (bad_url is) = absurd (no_ident other more (star ∷ ds) (bad_url_first other more is) joined)
    best other more another joined (cut is end) =
        let c = slash_cut other more (star ∷ ds) is joined in
        let lists : slash ∷ star ∷ ds ≡ slash ∷ star ∷ (c.inside ++ more) = joined ∙ ap (λ (t : List ℕ). t ++ more) c.joined in
        let texts : ds ≡ c.inside ++ more = cc (lists) in
        let whole : ds ≡ c.inside = texts ∙ (ap (λ (t : List ℕ). c.inside ++ t) end ∙ append-nil c.inside) in
        let closes : has_close c.inside ≡ true = ap has_close (sym whole ∙ f.joined) ∙ has_close_at f.inside f.rest in
        absurd (true≢false (sym closes ∙ c.open_ended))

-- a comment without its end
endless : (ds : List ℕ) → NoClose ds → Decides (slash ∷ star ∷ ds) (Err flaw.EndInside) (suc (suc (length ds)))
endless ds f = record {
  front = slash ∷ star ∷ ds;
  rest = [];
  joined = sym (append-nil (slash ∷ star ∷ ds));
  len = refl;
  taken = cut (in_comment ds refl f.none) refl;
  best = best;
}
  where
    best : (other more : List ℕ) (another : Answer) → slash ∷ star ∷ ds ≡ other ++ more → IsTaken other more another
        → IsWorse other another (slash ∷ star ∷ ds) (Err flaw.EndInside)
    best other more another joined (token k is) =
        let one = slash_token k other more (star ∷ ds) is joined in
        inl (omega (arith, one.1))
    best other more another joined (comment (closed inside e open_ended)) =
        let lists : slash ∷ star ∷ ds ≡ slash ∷ star ∷ ((inside ++ close []) ++ more) = joined ∙ ap (λ (t : List ℕ). t ++ more) e in
        let texts : ds ≡ (inside ++ close []) ++ more = cc (lists) in
        let again : (inside : List ℕ) → (inside ++ close []) ++ more ≡ inside ++ close more = all in
        let closes : has_close ds ≡ true = ap has_close (texts ∙ again inside) ∙ has_close_at inside more in
        absurd (true≢false (sym closes ∙ f.none))
      where
        all : (inside : List ℕ) → (inside ++ close []) ++ more ≡ inside ++ close more
        all [] = refl
        all (c ∷ cs) = ap (λ (t : List ℕ). c ∷ t) (all cs)
    best other more another joined (bad_string is) = absurd (no_bad_string other more (star ∷ ds) (bad_string_first other more is) joined)
    best other more another joined (bad_url is) = absurd (no_ident other more (star ∷ ds) (bad_url_first other more is) joined)
    best other more another joined (cut is end) =
        let whole : slash ∷ star ∷ ds ≡ other = joined ∙ (ap (λ (t : List ℕ). other ++ t) end ∙ append-nil other) in
        inr (ap (λ (t : List ℕ). length t) (sym whole), refl)

comment_reads : (ds : List ℕ) (f : UpToClose ds) → part_at (slash ∷ star ∷ ds) ≡ Ok (None, 4 + length f.inside)
comment_reads ds f =
    let behind : drop (length f.inside) ds ≡ close f.rest = ap (λ (t : List ℕ). drop (length f.inside) t) f.joined ∙ drop_at f.inside (close f.rest) (length f.inside) refl in
    let starred : begins star (drop (length f.inside) ds) ≡ true = ap (begins star) behind in
    let size : length ds ≡ length f.inside + (2 + length f.rest) = omega (arith, ap (λ (t : List ℕ). length t) f.joined, length-append f.inside (close f.rest)) in
    let same = f.len in
    let shape : comment_shape ds ≡ Ok (None, 4 + length f.inside) = rw (same, starred) refl in
    let fits : (s : Shape) → ◌≡◌ {A = Result Shape TokenFlaw} (Ok (None, 4 + length f.inside)) (Ok s) → s.1 ≤ suc (suc (length ds)) =
    λ s e. let shapes : ◌≡◌ {A = Shape} (None, 4 + length f.inside) s = cc (e) in omega (arith, ap (λ (s : Shape). s.1) shapes, size) in
    ap (within (slash ∷ star ∷ ds)) shape ∙ within_fits (slash ∷ star ∷ ds) (Ok (None, 4 + length f.inside)) fits

endless_reads : (ds : List ℕ) → NoClose ds → part_at (slash ∷ star ∷ ds) ≡ Err flaw.EndInside
endless_reads ds f =
    let none = f.ends in
    let shape : comment_shape ds ≡ Err flaw.EndInside = rw none refl in
    ap (within (slash ∷ star ∷ ds)) shape

alone_reads : (cs : List ℕ) → begins star cs ≡ false → part_at (slash ∷ cs) ≡ done (kind.Delim slash) 1
alone_reads cs none =
    let shape : slash_shape cs ≡ done (kind.Delim slash) 1 = rw none refl in
    let fits : (s : Shape) → done (kind.Delim slash) 1 ≡ Ok s → s.1 ≤ suc (length cs) =
    λ s e. let shapes : ◌≡◌ {A = Shape} (Some (kind.Delim slash), 1) s = cc (e) in omega (arith, ap (λ (s : Shape). s.1) shapes) in
    ap (within (slash ∷ cs)) shape ∙ within_fits (slash ∷ cs) (done (kind.Delim slash) 1) fits

slash_right : (cs : List ℕ) → IsReadRight (slash ∷ cs)
slash_right cs = by cs (begins star cs) refl
  where
    at_star : (ds : List ℕ) → UpToClose ds ⊎ NoClose ds → IsReadRight (slash ∷ star ∷ ds)
    at_star ds (inl f) =
        read_right (slash ∷ star ∷ ds) (Ok (None, 4 + length f.inside)) (4 + length f.inside) (comment_reads ds f) (ended ds f)
        (λ s e. let shapes : ◌≡◌ {A = Shape} (None, 4 + length f.inside) s = cc (e) in sym (ap (λ (s : Shape). s.1) shapes))
    at_star ds (inr f) = read_right (slash ∷ star ∷ ds) (Err flaw.EndInside) (suc (suc (length ds))) (endless_reads ds f) (endless ds f) (λ s e. absurd (cc (e)))

    by : (cs : List ℕ) (b : Bool) → begins star cs ≡ b → IsReadRight (slash ∷ cs)
    by [] true is = absurd (false≢true is)
    by (d ∷ ds) true is = subst (λ (d : ℕ). IsReadRight (slash ∷ d ∷ ds)) (sym (eqb-true d star is)) (at_star ds (first_close ds))
    by cs false none =
        read_right (slash ∷ cs) (done (kind.Delim slash) 1) 1 (alone_reads cs none) (alone cs none)
        (λ s e. let shapes : ◌≡◌ {A = Shape} (Some (kind.Delim slash), 1) s = cc (e) in sym (ap (λ (s : Shape). s.1) shapes))

pub comments_are_read_right : AreReadRight is_slash
comments_are_read_right [] is = absurd (false≢true is)
comments_are_read_right (c ∷ cs) is = subst (λ (c : ℕ). IsReadRight (c ∷ cs)) (sym (eqb-true c slash is)) (slash_right cs)
