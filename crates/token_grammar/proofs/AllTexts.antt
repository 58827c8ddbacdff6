-- Every text is read right, by its first byte, and so are the tokens of a source those of the grammar.
use Rattle.std.proofs.Common.{ℕ, ◌<◌, ◌≤◌, ◌≡◌, ◌⊎◌, inl, inr, Bool, true, false, ◌==◌, List, [], ◌∷◌, length, refl, ap, ◌∙◌, arith}
use Rattle.std.proofs.lemmas.Bool.{cases_lt, eqb-true}
use Rattle.css_model.specs.Text.Characters.{at_sign, hash, less_than, open_round, slash, begins, is_sign, is_white}
use Rattle.css_model.specs.Text.TokenAt.{is_quote}
use Rattle.css_model.specs.Text.Units.{name_start, signed_decimal}
use Rattle.token_grammar.specs.Flaws.{IsCutIdent}
use Rattle.token_grammar.specs.Laws.{TokensAreThoseOfTheGrammar}
use Rattle.token_grammar.proofs.ReadRight.{IsReadRight}
use Rattle.token_grammar.proofs.AtKeywords.{at_keywords_are_read_right}
use Rattle.token_grammar.proofs.Comments.{comments_are_read_right}
use Rattle.token_grammar.proofs.Hashes.{hashes_are_read_right}
use Rattle.token_grammar.proofs.Idents.{IdentHere, ident_here}
use Rattle.token_grammar.proofs.NumberTexts.{numeric_right}
use Rattle.token_grammar.proofs.OtherTexts.{Other}
use Rattle.token_grammar.proofs.Singles.{less_than_is_read_right, signs_are_read_right}
use Rattle.token_grammar.proofs.Strings.{strings_are_read_right}
use Rattle.token_grammar.proofs.Tokens.{tokens_given}
use Rattle.token_grammar.proofs.Urls.{opened_right}
use Rattle.token_grammar.proofs.WhiteSpace.{white_space_is_read_right}
use Rattle.token_grammar.proofs.Words.{Word, closes_comment, comment_close_right, cut_right, ident_right, lone_right}

-- a name, and what follows it
named_right : (c : ℕ) (cs : List ℕ) (w : Word c cs) (starts : 0 < name_start (c ∷ cs)) → IdentHere (c ∷ cs) ⊎ IsCutIdent (c ∷ cs) → IsReadRight (c ∷ cs)
named_right c cs w starts (inr seq) = cut_right c cs w seq
named_right c cs w starts (inl f) = at f.rest refl
  where
    at : (rest : List ℕ) → f.rest ≡ rest → IsReadRight (c ∷ cs)
    at [] e = ident_right c cs w starts f (ap (begins open_round) e)
    at (d ∷ ds) e = which (d == open_round) refl
      where
        which : (b : Bool) → (d == open_round) ≡ b → IsReadRight (c ∷ cs)
        which true same = opened_right c cs w starts f ds (e ∙ ap (λ (d : ℕ). d ∷ ds) (eqb-true d open_round same))
        which false apart = ident_right c cs w starts f (ap (begins open_round) e ∙ apart)

word_right : (c : ℕ) (cs : List ℕ) → Word c cs → IsReadRight (c ∷ cs)
word_right c cs w = by (cases_lt 0 (name_start (c ∷ cs)))
  where
    by : (0 < name_start (c ∷ cs)) ⊎ (name_start (c ∷ cs) ≤ 0) → IsReadRight (c ∷ cs)
    by (inl starts) = named_right c cs w starts (ident_here (c ∷ cs) starts)
    by (inr none) = lone_right c cs w (omega (arith, none))

other_right : (c : ℕ) (cs : List ℕ) → Other c → IsReadRight (c ∷ cs)
other_right c cs o = by (cases_lt 0 (signed_decimal (c ∷ cs)))
  where
    which : signed_decimal (c ∷ cs) ≡ 0 → (b : Bool) → closes_comment (c ∷ cs) ≡ b → IsReadRight (c ∷ cs)
    which none true is = comment_close_right c cs o is
    which none false is = word_right c cs (record { other = o; no_number = none; no_close = is })

    by : (0 < signed_decimal (c ∷ cs)) ⊎ (signed_decimal (c ∷ cs) ≤ 0) → IsReadRight (c ∷ cs)
    by (inl some) = numeric_right c cs o some
    by (inr none) = which (omega (arith, none)) (closes_comment (c ∷ cs)) refl

first_right : (c : ℕ) (cs : List ℕ) → (a : Bool) → (c == slash) ≡ a → (b : Bool) → is_white c ≡ b → (d : Bool) → is_quote c ≡ d → (e : Bool) → (c == hash) ≡ e
    → (f : Bool) → (c == less_than) ≡ f → (g : Bool) → (c == at_sign) ≡ g → (h : Bool) → is_sign c ≡ h → IsReadRight (c ∷ cs)
first_right c cs true is b white d quoted e hashed f less g at h signed = comments_are_read_right (c ∷ cs) is
first_right c cs false is true white d quoted e hashed f less g at h signed = white_space_is_read_right (c ∷ cs) white
first_right c cs false is false white true quoted e hashed f less g at h signed = strings_are_read_right (c ∷ cs) quoted
first_right c cs false is false white false quoted true hashed f less g at h signed = hashes_are_read_right (c ∷ cs) hashed
first_right c cs false is false white false quoted false hashed true less g at h signed = less_than_is_read_right (c ∷ cs) less
first_right c cs false is false white false quoted false hashed false less true at h signed = at_keywords_are_read_right (c ∷ cs) at
first_right c cs false is false white false quoted false hashed false less false at true signed = signs_are_read_right (c ∷ cs) signed
first_right c cs false is false white false quoted false hashed false less false at false signed = other_right c cs (record {
  no_slash = is;
  no_white = white;
  no_quote = quoted;
  no_hash = hashed;
  no_less = less;
  no_at = at;
  no_sign = signed;
})

every_text_is_read_right : (text : List ℕ) → 0 < length text → IsReadRight text
every_text_is_read_right [] some = absurd (omega (arith, some))
every_text_is_read_right (c ∷ cs) some =
    first_right c cs (c == slash) refl (is_white c) refl (is_quote c) refl (c == hash) refl (c == less_than) refl (c == at_sign) refl (is_sign c) refl

pub tokens_are_those_of_the_grammar : TokensAreThoseOfTheGrammar
tokens_are_those_of_the_grammar = tokens_given every_text_is_read_right
