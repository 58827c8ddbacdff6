-- Texts that begin with white space.
use Rattle.std.proofs.Common.{ℕ, suc, ◌+◌, ◌<◌, ◌≤◌, ◌≡◌, ◌⊎◌, inl, inr, Bool, true, false, ◌==◌, List, [], ◌∷◌, ◌++◌, Ok, Some, length, refl, sym, ap, ◌∙◌, arith}
use Rattle.std.specs.List.{list_all}
use Rattle.std.proofs.lemmas.Bool.{and_from, and_parts, cases_lt, eqb-true, false≢true, true≢false}
use Rattle.std.proofs.lemmas.List.{length-append}
use Rattle.css_model.specs.declared.token.TokenKind.{TokenKind}
use Rattle.css_model.specs.declared.token.TokenKind.TheVariants as kind
use Rattle.css_model.specs.Text.Characters.{carriage_return, line_feed, slash, first_passes, is_white}
use Rattle.css_model.specs.Text.Runs.{run}
use Rattle.css_model.specs.Text.TokenAt.{Shape, done, is_quote, part_at, within}
use Rattle.css_model.specs.Text.Units.{white_unit}
use Rattle.token_laws.proofs.ForCallers.{white_is}
use Rattle.token_grammar.proofs.ReadRight.{AreReadRight, IsReadRight}
use Rattle.token_grammar.specs.Longest.{Answer, IsTaken}
use Rattle.token_grammar.specs.Longest.IsTaken.{token, comment, bad_string, bad_url, cut}
use Rattle.token_grammar.specs.Rows.{AreWhite}
use Rattle.token_grammar.specs.TokenTexts.{IsTokenText}
use Rattle.token_grammar.specs.TokenTexts.IsCommentText.{closed}
use Rattle.token_grammar.specs.TokenTexts.IsTokenText.{white}
use Rattle.token_grammar.proofs.Decided.{Decides, IsWorse, read_right, within_fits}
use Rattle.token_grammar.proofs.FirstBytes.{FirstIs, IsCutComment, bad_string_first, bad_url_first, begins_ident, cut_begins, cut_first, kind_begins, token_first}

-- with a white space only white space begins
white_kind : (k : TokenKind) (c : ℕ) → is_white c ≡ true → kind_begins k c ≡ true → k ≡ kind.White
white_kind k c is = white_is (λ (c : ℕ). kind_begins k c ≡ true → k ≡ kind.White) (at_space k) (at_tab k) (at_feed k) (at_return k) (at_form k) c is
  where
    at_space : (k : TokenKind) → kind_begins k 32 ≡ true → k ≡ kind.White
    at_space kind.White h = refl
    at_space _ h = absurd (false≢true h)

    at_tab : (k : TokenKind) → kind_begins k 9 ≡ true → k ≡ kind.White
    at_tab kind.White h = refl
    at_tab _ h = absurd (false≢true h)

    at_feed : (k : TokenKind) → kind_begins k 10 ≡ true → k ≡ kind.White
    at_feed kind.White h = refl
    at_feed _ h = absurd (false≢true h)

    at_return : (k : TokenKind) → kind_begins k 13 ≡ true → k ≡ kind.White
    at_return kind.White h = refl
    at_return _ h = absurd (false≢true h)

    at_form : (k : TokenKind) → kind_begins k 12 ≡ true → k ≡ kind.White
    at_form kind.White h = refl
    at_form _ h = absurd (false≢true h)

white_no_slash : (c : ℕ) → is_white c ≡ true → (c ≡ slash → ⊥)
white_no_slash c is e = false≢true (ap is_white (sym e) ∙ is)

white_no_quote : (c : ℕ) → is_white c ≡ true → is_quote c ≡ false
white_no_quote c is = white_is (λ (c : ℕ). is_quote c ≡ false) refl refl refl refl refl c is

white_no_ident : (c : ℕ) → is_white c ≡ true → begins_ident c ≡ false
white_no_ident c is = white_is (λ (c : ℕ). begins_ident c ≡ false) refl refl refl refl refl c is

white_no_cut : (c : ℕ) → is_white c ≡ true → cut_begins c ≡ false
white_no_cut c is = white_is (λ (c : ℕ). cut_begins c ≡ false) refl refl refl refl refl c is

-- the white space at the front of a text
pub record FrontWhite (text : List ℕ) : Type 0 where
  pub front : List ℕ
  pub rest : List ℕ
  pub joined : text ≡ front ++ rest
  pub all : AreWhite front
  pub ends : first_passes is_white rest ≡ false
  pub len : run white_unit text ≡ length front

pub run_white : (c : ℕ) (cs : List ℕ) → is_white c ≡ true → run white_unit (c ∷ cs) ≡ suc (run white_unit cs)
run_white c [] is = by (c == carriage_return) refl
  where
    by : (b : Bool) → (c == carriage_return) ≡ b → run white_unit (c ∷ []) ≡ 1
    by true return = rw (is, return) refl
    by false return = rw (is, return) refl
run_white c (d ∷ ds) is = by (c == carriage_return) refl (d == line_feed) refl
  where
    one : (d == line_feed) ≡ true → run white_unit (d ∷ ds) ≡ suc (run white_unit ds)
    one feed = rw (eqb-true d line_feed feed) refl

    by : (b : Bool) → (c == carriage_return) ≡ b → (e : Bool) → (d == line_feed) ≡ e → run white_unit (c ∷ d ∷ ds) ≡ suc (run white_unit (d ∷ ds))
    by true return true feed =
        let two : white_unit (c ∷ d ∷ ds) ≡ 2 = rw (is, return, feed) refl in
        let whole : run white_unit (c ∷ d ∷ ds) ≡ suc (suc (run white_unit ds)) = rw two refl in
        whole ∙ ap suc (sym (one feed))
    by true return false feed = let two : white_unit (c ∷ d ∷ ds) ≡ 1 = rw (is, return, feed) refl in rw two refl
    by false return e feed = let two : white_unit (c ∷ d ∷ ds) ≡ 1 = rw (is, return) refl in rw two refl

pub front_white : (text : List ℕ) → FrontWhite text
front_white [] = record { front = []; rest = []; joined = refl; all = refl; ends = refl; len = refl }
front_white (c ∷ cs) = by (is_white c) refl (front_white cs)
  where
    by : (b : Bool) → is_white c ≡ b → FrontWhite cs → FrontWhite (c ∷ cs)
    by true is f = record {
      front = c ∷ f.front;
      rest = f.rest;
      joined = ap (λ (t : List ℕ). c ∷ t) f.joined;
      all = and_from (is_white c) (list_all is_white f.front) is f.all;
      ends = f.ends;
      len = run_white c cs is ∙ ap suc f.len;
    }
    by false is f =
        let none : white_unit (c ∷ cs) ≡ 0 = rw is refl in
        record { front = []; rest = c ∷ cs; joined = refl; all = refl; ends = is; len = rw none refl }

-- white space at the front is no longer than all of it
pub white_le : (other more front rest : List ℕ) → front ++ rest ≡ other ++ more → AreWhite other → first_passes is_white rest ≡ false → length other ≤ length front
white_le [] more front rest joined all ends = omega arith
white_le (c ∷ cs) more [] rest joined all ends =
    let first = (and_parts (is_white c) (list_all is_white cs) all).0 in
    absurd (true≢false (sym first ∙ (ap (first_passes is_white) (sym joined) ∙ ends)))
white_le (c ∷ cs) more (d ∷ ds) rest joined all ends =
    let same : ds ++ rest ≡ cs ++ more = cc in
    let later = white_le cs more ds rest same (and_parts (is_white c) (list_all is_white cs) all).1 ends in
    omega (arith, later)

white_text : (rest : List ℕ) (k : TokenKind) (text : List ℕ) → IsTokenText rest k text → k ≡ kind.White → AreWhite text
white_text rest k text (white front some all) e = all
white_text rest k text _ e = absurd (cc)

worse : (m n : ℕ) → m ≤ n → (m < n) ⊎ (m ≡ n)
worse m n le = by (cases_lt m n)
  where
    by : (m < n) ⊎ (n ≤ m) → (m < n) ⊎ (m ≡ n)
    by (inl less) = inl less
    by (inr least) = inr (omega (arith, le, least))

white_decides : (c : ℕ) (cs : List ℕ) → is_white c ≡ true → (f : FrontWhite (c ∷ cs)) → 0 < length f.front → Decides (c ∷ cs) (Ok (Some kind.White)) (length f.front)
white_decides c cs is f some = record {
  front = f.front;
  rest = f.rest;
  joined = f.joined;
  len = refl;
  taken = token kind.White (white f.front some f.all);
  best = best;
}
  where
    byte : (test : ℕ → Bool) (other more : List ℕ) → c ∷ cs ≡ other ++ more → FirstIs test other → test c ≡ true
    byte test other more joined first =
        let lists : c ∷ cs ≡ first.first ∷ (first.later ++ more) = joined ∙ ap (λ (t : List ℕ). t ++ more) first.is in
        let same : first.first ≡ c = cc (lists) in
        ap test (sym same) ∙ first.passes

    either : (m n : ℕ) (a : Answer) → a ≡ Ok (Some kind.White) → (m < n) ⊎ (m ≡ n) → (m < n) ⊎ ((m ≡ n) × (a ≡ Ok (Some kind.White)))
    either m n a e (inl less) = inl less
    either m n a e (inr same) = inr (same, e)

    no_cut : (other more : List ℕ) → c ∷ cs ≡ other ++ more → IsCutComment other ⊎ FirstIs cut_begins other → ⊥
    no_cut other more joined (inl found) =
        let lists : c ∷ cs ≡ slash ∷ 42 ∷ (found.inside ++ more) = joined ∙ ap (λ (t : List ℕ). t ++ more) found.joined in
        let same : c ≡ slash = cc (lists) in
        white_no_slash c is same
    no_cut other more joined (inr first) = true≢false (sym (byte cut_begins other more joined first) ∙ white_no_cut c is)

    best : (other more : List ℕ) (another : Answer) → c ∷ cs ≡ other ++ more → IsTaken other more another → IsWorse other another f.front (Ok (Some kind.White))
    best other more another joined (token k is_token) =
        let same = white_kind k c is (byte (kind_begins k) other more joined (token_first more k other is_token)) in
        let le = white_le other more f.front f.rest (sym f.joined ∙ joined) (white_text more k other is_token same) f.ends in
        either (length other) (length f.front) (Ok (Some k)) (ap (λ (k : TokenKind). let a : Answer = Ok (Some k) in a) same) (worse (length other) (length f.front) le)
    best other more another joined (comment (closed inside e open_ended)) =
        let lists : c ∷ cs ≡ slash ∷ 42 ∷ ((inside ++ (42 ∷ 47 ∷ [])) ++ more) = joined ∙ ap (λ (t : List ℕ). t ++ more) e in
        let same : c ≡ slash = cc (lists) in
        absurd (white_no_slash c is same)
    best other more another joined (bad_string wrong) = absurd (true≢false (sym (byte is_quote other more joined (bad_string_first other more wrong)) ∙ white_no_quote c is))
    best other more another joined (bad_url bad) = absurd (true≢false (sym (byte begins_ident other more joined (bad_url_first other more bad)) ∙ white_no_ident c is))
    best other more another joined (cut is_cut end) = absurd (no_cut other more joined (cut_first other is_cut))

white_right : (c : ℕ) (cs : List ℕ) → is_white c ≡ true → IsReadRight (c ∷ cs)
white_right c cs is = of (front_white (c ∷ cs))
  where
    no_slash : (c == slash) ≡ false
    no_slash = white_is (λ (c : ℕ). (c == slash) ≡ false) refl refl refl refl refl c is

    some_of : (front rest : List ℕ) → c ∷ cs ≡ front ++ rest → first_passes is_white rest ≡ false → 0 < length front
    some_of [] rest joined ends = absurd (true≢false (sym is ∙ (ap (first_passes is_white) joined ∙ ends)))
    some_of (d ∷ ds) rest joined ends = omega arith

    of : FrontWhite (c ∷ cs) → IsReadRight (c ∷ cs)
    of f =
        let n = length f.front in
        let some = some_of f.front f.rest f.joined f.ends in
        let size : suc (length cs) ≡ n + length f.rest = ap (λ (t : List ℕ). length t) f.joined ∙ length-append f.front f.rest in
        let same = f.len in
        let rule : part_at (c ∷ cs) ≡ within (c ∷ cs) (done kind.White n) = rw (no_slash, same, is) refl in
        let fits : (s : Shape) → done kind.White n ≡ Ok s → s.1 ≤ suc (length cs) =
        λ s e. let shapes : ◌≡◌ {A = Shape} (Some kind.White, n) s = cc (e) in omega (arith, ap (λ (s : Shape). s.1) shapes, size) in
        read_right (c ∷ cs) (done kind.White n) n (rule ∙ within_fits (c ∷ cs) (done kind.White n) fits) (white_decides c cs is f some)
        (λ s e. let shapes : ◌≡◌ {A = Shape} (Some kind.White, n) s = cc (e) in sym (ap (λ (s : Shape). s.1) shapes))

pub white_space_is_read_right : AreReadRight is_white
white_space_is_read_right [] is = absurd (false≢true is)
white_space_is_read_right (c ∷ cs) is = white_right c cs is
