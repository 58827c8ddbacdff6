-- Texts that begin with a number: a number, a percentage, a dimension, or one whose unit lacks its end.
use Rattle.std.proofs.Common.{ℕ, suc, ◌+◌, ◌<◌, ◌≤◌, ◌≡◌, ◌⊎◌, inl, inr, ltb, Bool, true, false, ◌==◌, List, [], ◌∷◌, ◌++◌, Ok, Err, Some, length, drop, refl, sym, ap, ◌∙◌, subst, arith, append_assoc}
use Rattle.std.specs.Char.{is_ascii_digit}
use Rattle.std.specs.List.{list_all}
use Rattle.std.proofs.lemmas.Bool.{cases_lt, eqb-true, false≢true, le-ltb, lt-ltb, true≢false}
use Rattle.std.proofs.lemmas.List.{append-nil, drop_at, length-append}
use Rattle.css_model.specs.declared.token.TokenFlaw.TheVariants as flaw
use Rattle.css_model.specs.declared.token.TokenKind.TheVariants as kind
use Rattle.css_model.specs.Text.Characters.{open_round, percent, begins}
use Rattle.css_model.specs.Text.Runs.{run}
use Rattle.css_model.specs.Text.TokenAt.{done, number_shape, part_at, rule_at, within}
use Rattle.css_model.specs.Text.Units.{exponent, name_start, name_unit, number_len, signed_decimal}
use Rattle.css_tokens.proofs.ForCallers.{symbol_number}
use Rattle.token_grammar.specs.Flaws.{IsCutIdent}
use Rattle.token_grammar.specs.Flaws.IsCut.{in_dimension}
use Rattle.token_grammar.proofs.ReadRight.{IsReadRight}
use Rattle.token_grammar.specs.Longest.{Answer, IsTaken}
use Rattle.token_grammar.specs.Longest.IsTaken.{token, cut}
use Rattle.token_grammar.specs.Names.{IsIdent}
use Rattle.token_grammar.specs.Numbers.{IsNumber, IsWholeNumber}
use Rattle.token_grammar.specs.TokenTexts.IsTokenText.{number, percentage, dimension}
use Rattle.token_grammar.proofs.Decided.{IsWorse, done_reads, done_size, front_of, read_right, same_parts, worse_or_same}
use Rattle.token_grammar.proofs.FirstBytes.{begins_ident, cut_ident_first, ident_first, some_of}
use Rattle.token_grammar.proofs.Idents.{IdentHere, cut_ident_len, cut_ident_start, ident_here, ident_len, ident_row, ident_start, name_le}
use Rattle.token_grammar.proofs.Numbers.{NumberHere, all_behind, number_byte, number_bytes, number_here, number_le, number_no_start, number_two}
use Rattle.token_grammar.proofs.OtherTexts.{Other, OtherText, other_text, rule_symbol}
use Rattle.token_grammar.proofs.OtherTexts.OtherText.{a_number, a_percentage, a_dimension, a_cut_dimension, a_close, an_ident, a_function, a_url, a_cut, a_delim}

-- how what is taken of a text lies to the longest number at its front, with what follows that
data NumberText (front rest other : List ℕ) : Answer → Type 0 where
  less : (another : Answer) → length other < length front → NumberText front rest other another
  alike : length other ≡ length front → NumberText front rest other (Ok (Some kind.Number))
  percent_next : begins percent rest ≡ true → length other ≡ suc (length front) → NumberText front rest other (Ok (Some kind.Percentage))
  unit_next : (unit more : List ℕ) → rest ≡ unit ++ more → IsIdent unit more → length other ≡ length front + length unit → NumberText front rest other (Ok (Some kind.Dimension))
  cut_next : IsCutIdent rest → length other ≡ length front + length rest → NumberText front rest other (Err flaw.EndInside)

-- no name begins with `%`
percent_no_start : (rest : List ℕ) → begins percent rest ≡ true → name_start rest ≡ 0
percent_no_start [] is = absurd (false≢true is)
percent_no_start (c ∷ cs) is = ap (λ (c : ℕ). name_start (c ∷ cs)) (eqb-true c percent is)

module _ (c : ℕ) (cs : List ℕ) (o : Other c) (some : 0 < signed_decimal (c ∷ cs)) (f : NumberHere (c ∷ cs)) where
  text_len : suc (length cs) ≡ length f.front + length f.rest
  text_len = ap (λ (t : List ℕ). length t) f.joined ∙ length-append f.front f.rest

  signed_le : signed_decimal (c ∷ cs) ≤ length f.front
  signed_le =
      let whole : number_len (c ∷ cs) ≡ signed_decimal (c ∷ cs) + exponent (drop (signed_decimal (c ∷ cs)) (c ∷ cs)) = refl in
      omega (arith, whole, f.len)

  -- a number at the front of the text is no longer
  le_front : (front rest : List ℕ) → c ∷ cs ≡ front ++ rest → IsNumber front → length front ≤ length f.front
  le_front front rest joined is = omega (arith, (number_le front rest is).0, ap number_len joined, f.len)

  no_name : (name rest : List ℕ) → c ∷ cs ≡ name ++ rest → IsIdent name rest → ⊥
  no_name name rest joined is = omega (arith, ident_start name rest is, ap name_start joined, number_no_start c cs some)

  -- `%` is no byte of a number
  no_percent : (before : List ℕ) → f.front ≡ before ++ percent ∷ [] → ⊥
  no_percent before e =
      let all = number_bytes f.front f.number in
      let there = all_behind number_byte before (percent ∷ []) (ap (λ (t : List ℕ). list_all number_byte t) (sym e) ∙ all) in
      false≢true there

  number_text : (other more : List ℕ) (another : Answer) → c ∷ cs ≡ other ++ more → OtherText (c ∷ cs) other more another → NumberText f.front f.rest other another
  number_text other more another joined (a_number is) = by (worse_or_same (length other) (length f.front) (le_front other more joined is))
    where
      by : (length other < length f.front) ⊎ (length other ≡ length f.front) → NumberText f.front f.rest other (Ok (Some kind.Number))
      by (inl short) = less (Ok (Some kind.Number)) short
      by (inr same) = alike same
  number_text other more another joined (a_percentage front e is) =
      by (worse_or_same (length front) (length f.front) (le_front front (percent ∷ more) whole is)) (cases_lt (length other) (length f.front))
    where
      whole : c ∷ cs ≡ front ++ percent ∷ more
      whole = joined ∙ (ap (λ (t : List ℕ). t ++ more) e ∙ append_assoc front (percent ∷ []) more)

      size : length other ≡ suc (length front)
      size = ap (λ (t : List ℕ). length t) e ∙ (length-append front (percent ∷ []) ∙ omega arith)

      by : (length front < length f.front) ⊎ (length front ≡ length f.front) → (length other < length f.front) ⊎ (length f.front ≤ length other)
          → NumberText f.front f.rest other (Ok (Some kind.Percentage))
      by (inr same) place =
          let two = same_parts front (percent ∷ more) f.front f.rest (sym whole ∙ f.joined) same in
          percent_next (ap (begins percent) (sym two.1)) (omega (arith, size, same))
      by (inl short) (inl less_there) = less (Ok (Some kind.Percentage)) less_there
      by (inl short) (inr long) =
          let two = same_parts f.front f.rest other more (sym f.joined ∙ joined) (omega (arith, size, short, long)) in
          absurd (no_percent front (two.0 ∙ e))
  number_text other more another joined (a_dimension front unit e is named whole_number) =
      by (worse_or_same (length front) (length f.front) (le_front front (unit ++ more) whole is)) (cases_lt (length other) (length f.front))
    where
      whole : c ∷ cs ≡ front ++ (unit ++ more)
      whole = joined ∙ (ap (λ (t : List ℕ). t ++ more) e ∙ append_assoc front unit more)

      size : length other ≡ length front + length unit
      size = ap (λ (t : List ℕ). length t) e ∙ length-append front unit

      by : (length front < length f.front) ⊎ (length front ≡ length f.front) → (length other < length f.front) ⊎ (length f.front ≤ length other)
          → NumberText f.front f.rest other (Ok (Some kind.Dimension))
      by (inr same) place =
          let two = same_parts front (unit ++ more) f.front f.rest (sym whole ∙ f.joined) same in
          unit_next unit more (sym two.1) named (omega (arith, size, same))
      by (inl short) (inl less_there) = less (Ok (Some kind.Dimension)) less_there
      by (inl short) (inr long) =
          let longer = front_of f.front f.rest other more (sym f.joined ∙ joined) long in
          absurd (omega (arith, short, whole_number f.front longer.0 (sym e ∙ longer.1) f.number))
  number_text other more another joined (a_cut_dimension front unit e is named whole_number size) =
      let longest = whole_number f.front f.rest (sym e ∙ f.joined) f.number in
      let same : length front ≡ length f.front = omega (arith, longest, le_front front unit e is) in
      let two = same_parts front unit f.front f.rest (sym e ∙ f.joined) same in
      cut_next (subst IsCutIdent two.1 named) (omega (arith, size, text_len))
  number_text other more another joined (a_close e) =
      let whole : signed_decimal (c ∷ cs) ≡ 0 = ap signed_decimal (joined ∙ ap (λ (t : List ℕ). t ++ more) e) in
      absurd (omega (arith, some, whole))
  number_text other more another joined (an_ident is) = absurd (no_name other more joined is)
  number_text other more another joined (a_function name e is no_url) =
      absurd (no_name name (open_round ∷ more) (joined ∙ (ap (λ (t : List ℕ). t ++ more) e ∙ append_assoc name (open_round ∷ []) more)) is)
  number_text other more another joined (a_url answer u) = absurd (no_name u.name (open_round ∷ (u.before ++ (u.inside ++ (u.after ++ u.tail)))) u.joined u.named.ident)
  number_text other more another joined (a_cut is size) = absurd (omega (arith, cut_ident_start (c ∷ cs) is, number_no_start c cs some))
  number_text other more another joined (a_delim d e is) =
      let lists : c ∷ cs ≡ d ∷ more = joined ∙ ap (λ (t : List ℕ). t ++ more) e in
      let same : d ≡ c = cc (lists) in
      let two = number_two c cs (ap is_ascii_digit (sym same) ∙ is.no_digit) some in
      less (Ok (Some (kind.Delim d))) (omega (arith, two, signed_le, ap (λ (t : List ℕ). length t) e))

  taken_case : (other more : List ℕ) (another : Answer) → c ∷ cs ≡ other ++ more → IsTaken other more another → NumberText f.front f.rest other another
  taken_case other more another joined taken = number_text other more another joined (other_text c cs o other more another joined taken)

  rule : rule_at (c ∷ cs) ≡ number_shape (length f.front) f.rest
  rule =
      let tail : drop (length f.front) (c ∷ cs) ≡ f.rest = ap (λ (t : List ℕ). drop (length f.front) t) f.joined ∙ drop_at f.front f.rest (length f.front) refl in
      rule_symbol c cs o
      ∙ (symbol_number (c ∷ cs) (omega arith) some
      ∙ (ap (λ (n : ℕ). number_shape n (drop n (c ∷ cs))) f.len ∙ ap (λ (t : List ℕ). number_shape (length f.front) t) tail))

  -- no unit and no `%` follows
  number_right : name_start f.rest ≡ 0 → begins percent f.rest ≡ false → IsReadRight (c ∷ cs)
  number_right none other =
      let test : ltb 0 (name_start f.rest) ≡ false = le-ltb 0 (name_start f.rest) (omega (arith, none)) in
      let shape : number_shape (length f.front) f.rest ≡ done kind.Number (length f.front) = rw (test, other) refl in
      read_right (c ∷ cs) (done kind.Number (length f.front)) (length f.front)
      (done_reads (c ∷ cs) kind.Number (length f.front) (rule ∙ shape) (omega (arith, text_len)))
      (record {
        front = f.front;
        rest = f.rest;
        joined = f.joined;
        len = refl;
        taken = token kind.Number (number f.front f.number);
        best = λ other_text more another e taken. best other_text another (taken_case other_text more another e taken);
      })
      (λ s e. done_size kind.Number (length f.front) s e)
    where
      best : (other_text : List ℕ) (another : Answer) → NumberText f.front f.rest other_text another → IsWorse other_text another f.front (Ok (Some kind.Number))
      best other_text another (less answer short) = inl short
      best other_text another (alike same) = inr (same, refl)
      best other_text another (percent_next is size) = absurd (true≢false (sym is ∙ other))
      best other_text another (unit_next unit more e is size) = absurd (omega (arith, none, ap name_start e, ident_start unit more is))
      best other_text another (cut_next is size) = absurd (omega (arith, none, cut_ident_start f.rest is))

  -- `%` follows
  percentage_right : (more : List ℕ) → f.rest ≡ percent ∷ more → IsReadRight (c ∷ cs)
  percentage_right more e =
      let percents : begins percent f.rest ≡ true = ap (begins percent) e in
      let none : name_start f.rest ≡ 0 = percent_no_start f.rest percents in
      let test : ltb 0 (name_start f.rest) ≡ false = le-ltb 0 (name_start f.rest) (omega (arith, none)) in
      let shape : number_shape (length f.front) f.rest ≡ done kind.Percentage (length f.front + 1) = rw (test, percents) refl in
      let size : length (f.front ++ percent ∷ []) ≡ length f.front + 1 = length-append f.front (percent ∷ []) in
      let behind : length f.rest ≡ suc (length more) = ap (λ (t : List ℕ). length t) e in
      read_right (c ∷ cs) (done kind.Percentage (length f.front + 1)) (length f.front + 1)
      (done_reads (c ∷ cs) kind.Percentage (length f.front + 1) (rule ∙ shape) (omega (arith, text_len, behind)))
      (record {
        front = f.front ++ percent ∷ [];
        rest = more;
        joined = f.joined ∙ (ap (λ (t : List ℕ). f.front ++ t) e ∙ sym (append_assoc f.front (percent ∷ []) more));
        len = size;
        taken = token kind.Percentage (percentage f.front f.number);
        best = λ other_text rest another e taken. best none other_text another (taken_case other_text rest another e taken);
      })
      (λ s e. done_size kind.Percentage (length f.front + 1) s e)
    where
      best : name_start f.rest ≡ 0 → (other_text : List ℕ) (another : Answer) → NumberText f.front f.rest other_text another
          → IsWorse other_text another (f.front ++ percent ∷ []) (Ok (Some kind.Percentage))
      best none other_text another (less answer short) = inl (omega (arith, short, length-append f.front (percent ∷ [])))
      best none other_text another (alike same) = inl (omega (arith, same, length-append f.front (percent ∷ [])))
      best none other_text another (percent_next is size) = inr (omega (arith, size, length-append f.front (percent ∷ [])), refl)
      best none other_text another (unit_next unit rest e is size) = absurd (omega (arith, none, ap name_start e, ident_start unit rest is))
      best none other_text another (cut_next is size) = absurd (omega (arith, none, cut_ident_start f.rest is))

  starts_shape : 0 < name_start f.rest → number_shape (length f.front) f.rest ≡ done kind.Dimension (length f.front + run name_unit f.rest)
  starts_shape starts = let test : ltb 0 (name_start f.rest) ≡ true = lt-ltb 0 (name_start f.rest) starts in rw test refl

  no_percent_next : 0 < name_start f.rest → begins percent f.rest ≡ true → ⊥
  no_percent_next starts is = omega (arith, starts, percent_no_start f.rest is)

  -- a unit follows
  dimension_right : 0 < name_start f.rest → IdentHere f.rest → IsReadRight (c ∷ cs)
  dimension_right starts g =
      let size : run name_unit f.rest ≡ length g.front = ident_len f.rest g in
      let n = length f.front + length g.front in
      let shape : number_shape (length f.front) f.rest ≡ done kind.Dimension n = starts_shape starts ∙ ap (λ (k : ℕ). done kind.Dimension (length f.front + k)) size in
      let behind : length f.rest ≡ length g.front + length g.rest = ap (λ (t : List ℕ). length t) g.joined ∙ length-append g.front g.rest in
      read_right (c ∷ cs) (done kind.Dimension n) n (done_reads (c ∷ cs) kind.Dimension n (rule ∙ shape) (omega (arith, text_len, behind)))
      (record {
        front = f.front ++ g.front;
        rest = g.rest;
        joined = whole;
        len = length-append f.front g.front;
        taken = token kind.Dimension (dimension f.front g.front f.number g.ident longest);
        best = λ other more another e taken. best other another (taken_case other more another e taken);
      })
      (λ s e. done_size kind.Dimension n s e)
    where
      whole : c ∷ cs ≡ (f.front ++ g.front) ++ g.rest
      whole = f.joined ∙ (ap (λ (t : List ℕ). f.front ++ t) g.joined ∙ sym (append_assoc f.front g.front g.rest))

      longest : IsWholeNumber f.front g.front
      longest longer rest e is = le_front longer (rest ++ g.rest) (whole ∙ (ap (λ (t : List ℕ). t ++ g.rest) e ∙ append_assoc longer rest g.rest)) is

      some_unit : 0 < length g.front
      some_unit = some_of begins_ident g.front (ident_first g.front g.rest g.ident)

      best : (other : List ℕ) (another : Answer) → NumberText f.front f.rest other another → IsWorse other another (f.front ++ g.front) (Ok (Some kind.Dimension))
      best other another (less answer short) = inl (omega (arith, short, length-append f.front g.front))
      best other another (alike same) = inl (omega (arith, same, some_unit, length-append f.front g.front))
      best other another (percent_next is size) = absurd (no_percent_next starts is)
      best other another (unit_next unit more e is size) = by (worse_or_same (length unit) (length g.front) (omega (arith, ident_len f.rest g, name_le f.rest unit more e (ident_row unit more is))))
        where
          by : (length unit < length g.front) ⊎ (length unit ≡ length g.front) → IsWorse other (Ok (Some kind.Dimension)) (f.front ++ g.front) (Ok (Some kind.Dimension))
          by (inl short) = inl (omega (arith, short, size, length-append f.front g.front))
          by (inr same) = inr (omega (arith, same, size, length-append f.front g.front), refl)
      best other another (cut_next is size) =
          absurd (omega (arith, cut_ident_len f.rest is, ident_len f.rest g, ap (λ (t : List ℕ). length t) g.joined, length-append g.front g.rest))

  -- a unit follows that lacks what its last backslash escapes
  cut_right : IsCutIdent f.rest → IsReadRight (c ∷ cs)
  cut_right seq =
      let n = length f.front + run name_unit f.rest in
      let over : ltb (suc (length cs)) n ≡ true = lt-ltb (suc (length cs)) n (omega (arith, text_len, cut_ident_len f.rest seq)) in
      let shape : rule_at (c ∷ cs) ≡ done kind.Dimension n = rule ∙ starts_shape (cut_ident_start f.rest seq) in
      let beyond : within (c ∷ cs) (done kind.Dimension n) ≡ Err flaw.EndInside = rw over refl in
      let reads : part_at (c ∷ cs) ≡ Err flaw.EndInside = ap (within (c ∷ cs)) shape ∙ beyond in
      read_right (c ∷ cs) (Err flaw.EndInside) (suc (length cs)) reads (record {
        front = c ∷ cs;
        rest = [];
        joined = sym (append-nil (c ∷ cs));
        len = refl;
        taken = cut (in_dimension f.front f.rest f.joined f.number seq longest) refl;
        best = λ other more another e taken. best other another (taken_case other more another e taken);
      })
      (λ s wrong. absurd (cc (wrong)))
    where
      longest : IsWholeNumber f.front f.rest
      longest longer rest e is = le_front longer rest (f.joined ∙ e) is

      some_unit : 0 < length f.rest
      some_unit = some_of begins_ident f.rest (cut_ident_first f.rest seq)

      shorter : (unit more : List ℕ) → f.rest ≡ unit ++ more → IsIdent unit more → length unit < length f.rest
      shorter unit [] e is =
          let none : run name_unit [] ≡ 0 = refl in
          absurd (omega (arith, cut_ident_len f.rest seq, name_le f.rest unit [] e (ident_row unit [] is), none, ap (λ (t : List ℕ). length t) e, length-append unit []))
      shorter unit (d ∷ ds) e is = omega (arith, ap (λ (t : List ℕ). length t) e, length-append unit (d ∷ ds))

      best : (other : List ℕ) (another : Answer) → NumberText f.front f.rest other another → IsWorse other another (c ∷ cs) (Err flaw.EndInside)
      best other another (less answer short) = inl (omega (arith, short, text_len))
      best other another (alike same) = inl (omega (arith, same, some_unit, text_len))
      best other another (percent_next is size) = absurd (no_percent_next (cut_ident_start f.rest seq) is)
      best other another (unit_next unit more e is size) = inl (omega (arith, size, shorter unit more e is, text_len))
      best other another (cut_next is size) = inr (omega (arith, size, text_len), refl)

pub numeric_right : (c : ℕ) (cs : List ℕ) → Other c → 0 < signed_decimal (c ∷ cs) → IsReadRight (c ∷ cs)
numeric_right c cs o some = of (number_here (c ∷ cs) some)
  where
    of : NumberHere (c ∷ cs) → IsReadRight (c ∷ cs)
    of f = by (cases_lt 0 (name_start f.rest)) f.rest refl
      where
        unit : 0 < name_start f.rest → IdentHere f.rest ⊎ IsCutIdent f.rest → IsReadRight (c ∷ cs)
        unit starts (inl g) = dimension_right c cs o some f starts g
        unit starts (inr seq) = cut_right c cs o some f seq

        by : (0 < name_start f.rest) ⊎ (name_start f.rest ≤ 0) → (rest : List ℕ) → f.rest ≡ rest → IsReadRight (c ∷ cs)
        by (inl starts) rest e = unit starts (ident_here f.rest starts)
        by (inr none) [] e = number_right c cs o some f (omega (arith, none)) (ap (begins percent) e)
        by (inr none) (d ∷ ds) e = which (d == percent) refl
          where
            which : (b : Bool) → (d == percent) ≡ b → IsReadRight (c ∷ cs)
            which true same = percentage_right c cs o some f ds (e ∙ ap (λ (d : ℕ). d ∷ ds) (eqb-true d percent same))
            which false apart = number_right c cs o some f (omega (arith, none)) (ap (begins percent) e ∙ apart)
