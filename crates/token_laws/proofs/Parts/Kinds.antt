-- What the kind of a part tells of its bytes.
use Rattle.std.proofs.Common.{ℕ, ◌+◌, ◌≤◌, ◌≡◌, ◌⊎◌, inl, inr, Bool, true, false, cond, ltb, ◌==◌, ◌&&◌, List, ◌∷◌, Some, None, Result, Ok, Err, length, drop, take, refl, sym, ap, ◌∙◌, arith}
use Rattle.std.proofs.lemmas.Bool.{eqb-true, false≢true}
use Rattle.css_model.specs.declared.token.TokenKind.{TokenKind}
use Rattle.css_model.specs.declared.token.TokenFlaw.{TokenFlaw}
use Rattle.css_model.specs.declared.token.TokenFlaw.TheVariants as flaw
use Rattle.css_model.specs.declared.token.TokenKind.TheVariants as kind
use Rattle.css_model.specs.Text.Characters.{dash, backslash, slash, star, hash, percent, less_than, greater_than, at_sign, open_round, close_round, is_newline, is_white, is_sign, begins, first_passes}
use Rattle.css_model.specs.Text.Kept.{is_lone}
use Rattle.css_model.specs.Text.Lexemes.{is_white_kind}
use Rattle.css_model.specs.Text.Runs.{run}
use Rattle.css_model.specs.Text.Units.{white_unit, name_unit, name_start, name_len, string_unit, url_unit, signed_decimal, number_len}
use Rattle.css_model.specs.Text.Names.{is_url}
use Rattle.css_model.specs.Text.TokenAt.{Shape, rule_at, done, is_quote, slash_shape, comment_shape, string_shape, hash_shape, number_shape, less_shape, at_shape, url_shape, url_end, opened_shape, named_shape, word_at, symbol_at, after_white}

-- a token that is neither white space nor a lone backslash
record IsCalm (s : Shape) : Type 0 where
  kind : TokenKind
  is : s.0 ≡ Some kind
  no_white : is_white_kind kind ≡ false
  no_lone : is_lone kind ≡ false

-- what is read, if anything is, is one
record Calm (r : Result Shape TokenFlaw) : Type 0 where
  calm : (s : Shape) → r ≡ Ok s → IsCalm s

calm_done : (k : TokenKind) (n : ℕ) → is_white_kind k ≡ false → is_lone k ≡ false → Calm (done k n)
calm_done k n white lone = record {
  calm = λ s is. record { kind = k; is = kind_is s is; no_white = white; no_lone = lone };
}
  where
    kind_is : (s : Shape) → done k n ≡ Ok s → s.0 ≡ Some k
    kind_is s is = let shapes : ◌≡◌ {A = Shape} (Some k, n) s = cc in ap (λ (s : Shape). s.0) (sym shapes)

calm_flaw : (f : TokenFlaw) → Calm (Err f)
calm_flaw f = record { calm = λ s is. absurd (cc) }

calm_if : (b : Bool) (x y : Result Shape TokenFlaw) → Calm x → Calm y → Calm (cond b x y)
calm_if true x y left right = left
calm_if false x y left right = right

string_calm : (q : ℕ) (cs : List ℕ) → Calm (string_shape q cs)
string_calm q cs =
    let rest = drop (run (string_unit q) cs) cs in
    calm_if (begins q rest) _ _ (calm_done kind.Str (2 + run (string_unit q) cs) refl refl)
    (calm_if (first_passes is_newline rest) _ _ (calm_flaw flaw.BadString) (calm_flaw flaw.EndInside))

hash_calm : (cs : List ℕ) → Calm (hash_shape cs)
hash_calm cs =
    calm_if (ltb 0 (name_unit cs)) _ _ (which (ltb 0 (name_start cs))) (calm_done (kind.Delim hash) 1 refl refl)
  where
    which : (b : Bool) → Calm (done (cond b kind.IdHash kind.Hash) (1 + name_len cs))
    which true = calm_done kind.IdHash (1 + name_len cs) refl refl
    which false = calm_done kind.Hash (1 + name_len cs) refl refl

number_calm : (n : ℕ) (rest : List ℕ) → Calm (number_shape n rest)
number_calm n rest =
    calm_if (ltb 0 (name_start rest)) _ _ (calm_done kind.Dimension (n + name_len rest) refl refl)
    (calm_if (begins percent rest) _ _ (calm_done kind.Percentage (n + 1) refl refl) (calm_done kind.Number n refl refl))

less_calm : (cs : List ℕ) → Calm (less_shape cs)
less_calm cs = calm_if _ _ _ (calm_done kind.CommentOpen 4 refl refl) (calm_done (kind.Delim less_than) 1 refl refl)

at_calm : (cs : List ℕ) → Calm (at_shape cs)
at_calm cs = calm_if (ltb 0 (name_start cs)) _ _ (calm_done kind.AtKeyword (1 + name_len cs) refl refl) (calm_done (kind.Delim at_sign) 1 refl refl)

end_calm : (n : ℕ) (rest : List ℕ) → Calm (url_end n rest)
end_calm n rest =
    calm_if (begins close_round rest) _ _ (calm_done kind.Url (n + 1) refl refl) (calm_if (length rest == 0) _ _ (calm_flaw flaw.EndInside) (calm_flaw flaw.BadUrl))

url_calm : (n : ℕ) (text : List ℕ) → Calm (url_shape n text)
url_calm n text = let rest = drop (run url_unit text) text in end_calm (n + run url_unit text + run white_unit rest) (after_white rest)

opened_calm : (name : List ℕ) (n : ℕ) (rest : List ℕ) → Calm (opened_shape name n rest)
opened_calm name n rest =
    let called = calm_done kind.Function n refl refl in
    calm_if (is_url name) _ _ (calm_if (first_passes is_quote (after_white rest)) _ _ called (url_calm (n + run white_unit rest) (after_white rest))) called

named_calm : (text : List ℕ) → Calm (named_shape text)
named_calm text =
    let n = name_len text in
    calm_if (begins open_round (drop n text)) _ _ (opened_calm (take n text) (n + 1) (drop (n + 1) text)) (calm_done kind.Ident n refl refl)

-- a token that is no white space, by its first byte: a lone backslash is that byte alone
pub record SolidRule (c : ℕ) (s : Shape) : Type 0 where
  pub no_white : is_white c ≡ false
  pub kind : TokenKind
  pub is : s.0 ≡ Some kind
  pub solid : is_white_kind kind ≡ false
  pub lone : is_lone kind ≡ true → (c ≡ backslash) × (s.1 ≡ 1)

calm_solid : (c : ℕ) (s : Shape) → is_white c ≡ false → IsCalm s → SolidRule c s
calm_solid c s white is = record {
  no_white = white;
  kind = is.kind;
  is = is.is;
  solid = is.no_white;
  lone = λ lone. absurd (false≢true (sym is.no_lone ∙ lone));
}

single_solid : (c : ℕ) (s : Shape) → is_white c ≡ false → done (cond (is_sign c) (kind.Sign c) (kind.Delim c)) 1 ≡ Ok s → SolidRule c s
single_solid c s white is =
    let shapes : ◌≡◌ {A = Shape} (Some (cond (is_sign c) (kind.Sign c) (kind.Delim c)), 1) s = cc in
    record {
      no_white = white;
      kind = cond (is_sign c) (kind.Sign c) (kind.Delim c);
      is = ap (λ (s : Shape). s.0) (sym shapes);
      solid = solid (is_sign c);
      lone = λ lone. (backslashed (is_sign c) lone, ap (λ (s : Shape). s.1) (sym shapes));
    }
  where
    solid : (b : Bool) → is_white_kind (cond b (kind.Sign c) (kind.Delim c)) ≡ false
    solid true = refl
    solid false = refl

    backslashed : (b : Bool) → is_lone (cond b (kind.Sign c) (kind.Delim c)) ≡ true → c ≡ backslash
    backslashed true lone = absurd (false≢true lone)
    backslashed false lone = eqb-true c backslash lone

word_solid : (c : ℕ) (cs : List ℕ) (s : Shape) → is_white c ≡ false → word_at (c ∷ cs) ≡ Ok s → SolidRule c s
word_solid c cs s white is = which (c == dash && (begins dash cs && begins greater_than (drop 1 cs))) (ltb 0 (name_start (c ∷ cs))) is
  where
    which : (b n : Bool) → cond b (done kind.CommentClose 3) (cond n (named_shape (c ∷ cs)) (done (cond (is_sign c) (kind.Sign c) (kind.Delim c)) 1)) ≡ Ok s → SolidRule c s
    which true n is = calm_solid c s white ((calm_done kind.CommentClose 3 refl refl).calm s is)
    which false true is = calm_solid c s white ((named_calm (c ∷ cs)).calm s is)
    which false false is = single_solid c s white is

symbol_solid : (c : ℕ) (cs : List ℕ) (s : Shape) → is_white c ≡ false → symbol_at (c ∷ cs) ≡ Ok s → SolidRule c s
symbol_solid c cs s white is = which (ltb 0 (signed_decimal (c ∷ cs))) (c == less_than) (c == at_sign) is
  where
    which : (n l a : Bool) → cond n (number_shape (number_len (c ∷ cs)) (drop (number_len (c ∷ cs)) (c ∷ cs))) (cond l (less_shape cs) (cond a (at_shape cs) (word_at (c ∷ cs)))) ≡ Ok s → SolidRule c s
    which true l a is = calm_solid c s white ((number_calm (number_len (c ∷ cs)) (drop (number_len (c ∷ cs)) (c ∷ cs))).calm s is)
    which false true a is = calm_solid c s white ((less_calm cs).calm s is)
    which false false true is = calm_solid c s white ((at_calm cs).calm s is)
    which false false false is = word_solid c cs s white is

pub record WhiteRule (c : ℕ) (cs : List ℕ) (s : Shape) : Type 0 where
  pub white : is_white c ≡ true
  pub kind : s.0 ≡ Some kind.White
  pub len : s.1 ≡ run white_unit (c ∷ cs)

pub record CommentRule (c : ℕ) (s : Shape) : Type 0 where
  pub first : c ≡ slash
  pub kind : s.0 ≡ None
  pub len : 4 ≤ s.1

abbrev pub RuleKind : ℕ → List ℕ → Shape → Type 0
RuleKind c cs s = WhiteRule c cs s ⊎ (CommentRule c s ⊎ SolidRule c s)

slash_kind : (cs : List ℕ) (s : Shape) → slash_shape cs ≡ Ok s → CommentRule slash s ⊎ SolidRule slash s
slash_kind cs s is = which (begins star cs) is
  where
    comment : (b : Bool) (n : ℕ) → cond b (Ok (None, 4 + n)) (Err flaw.EndInside) ≡ Ok s → CommentRule slash s
    comment true n is =
        let shapes : ◌≡◌ {A = Shape} (None, 4 + n) s = cc in
        record { first = refl; kind = ap (λ (s : Shape). s.0) (sym shapes); len = omega (arith, ap (λ (s : Shape). s.1) shapes) }
    comment false n is = absurd (cc)

    which : (b : Bool) → cond b (comment_shape (drop 1 cs)) (done (kind.Delim slash) 1) ≡ Ok s → CommentRule slash s ⊎ SolidRule slash s
    which true is = inl (comment _ _ is)
    which false is = inr (calm_solid slash s refl ((calm_done (kind.Delim slash) 1 refl refl).calm s is))

pub rule_kind : (c : ℕ) (cs : List ℕ) (s : Shape) → rule_at (c ∷ cs) ≡ Ok s → RuleKind c cs s
rule_kind c cs s is = which (c == slash) (is_white c) (is_quote c) (c == hash) refl refl is
  where
    slashed : c ≡ slash → CommentRule slash s ⊎ SolidRule slash s → RuleKind c cs s
    slashed first (inl comment) = inr (inl (record { first = first; kind = comment.kind; len = comment.len }))
    slashed first (inr solid) = inr (inr (rw first solid))

    which : (l w q h : Bool) → (c == slash) ≡ l → is_white c ≡ w
        → cond l (slash_shape cs) (cond w (done kind.White (run white_unit (c ∷ cs))) (cond q (string_shape c cs) (cond h (hash_shape cs) (symbol_at (c ∷ cs))))) ≡ Ok s → RuleKind c cs s
    which true w q h first white is = slashed (eqb-true c slash first) (slash_kind cs s is)
    which false true q h first white is =
        let shapes : ◌≡◌ {A = Shape} (Some kind.White, run white_unit (c ∷ cs)) s = cc in
        inl (record { white = white; kind = ap (λ (s : Shape). s.0) (sym shapes); len = ap (λ (s : Shape). s.1) (sym shapes) })
    which false false true h first white is = inr (inr (calm_solid c s white ((string_calm c cs).calm s is)))
    which false false false true first white is = inr (inr (calm_solid c s white ((hash_calm cs).calm s is)))
    which false false false false first white is = inr (inr (symbol_solid c cs s white is))
