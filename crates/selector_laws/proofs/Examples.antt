-- What selector texts are read as: the numbers of the reasons against some, and some that are read.
use Rattle.std.specs.Prelude.{ℕ, ◌≡◌, [], ◌∷◌, map, Result, Ok, Err, codes}
use Rattle.std.proofs.Common.{refl, pos, true, false, Some, None}
use Rattle.std.specs.Char.{encode_utf8}
use Rattle.std.specs.Str.{chars, is_utf8}
use Rattle.std.specs.Str.Lossy.{utf8_lossy, utf8_valid_len}
use Rattle.css_model.specs.declared.reason.Reason.{Reason}
use Rattle.css_model.specs.declared.selector.Combinator.TheVariants.{Child, Inside, Later, Next}
use Rattle.css_model.specs.declared.selector.Flag.TheVariants.{Hover}
use Rattle.css_model.specs.declared.selector.Op.TheVariants.{Dash, Word}
use Rattle.css_model.specs.declared.selector.Pseudo.TheVariants.{Before}
use Rattle.css_model.specs.declared.selector.Test.TheVariants.{Any, Attr, Id, Kind, Nth, State}
use Rattle.css_model.specs.Documents.SelectorParts.{SelectorParts}
use Rattle.css_model.specs.Positions.Reading.{alone, body_of, last_number, numbers_of, offset_of, past_blanks, past_word}
use Rattle.css_model.specs.Selectors.Reading.{selector_of}
use Rattle.css_model.specs.Selectors.Reasons.{number_of}

-- the number of the reason against a text, and 0 where it is a selector
abbrev number : Result SelectorParts Reason → ℕ
number (Ok selector) = 0
number (Err reason) = number_of reason

outside : map (λ text. number (selector_of text)) (
    codes ":foo" ∷
    codes "::foo" ∷
    codes ":5" ∷
    codes "a:foo" ∷
    codes "::before(" ∷
    codes "a|b" ∷
    codes "*|a" ∷
    codes "--|a" ∷
    codes "[a|/**/=b]" ∷
    codes "[a~/**/=b]" ∷
    codes "[a~|=b]" ∷
    codes "[id~=a]" ∷
    codes "[id~ =a]" ∷
    codes "[id|a]" ∷
    codes "[id|=a]" ∷
    codes "[id~=5]" ∷
    codes "[a=b i]" ∷
    codes "[a=b i(]" ∷
    codes "[a i]" ∷
    codes ":not(:before)" ∷
    codes ":not(:not(a))" ∷
    codes ":not(:foo)" ∷
    codes ":not" ∷
    codes ":nth-child" ∷
    codes ":hover(" ∷
    codes ":url(x)" ∷
    codes ":url(\"x\")" ∷
    codes ":not/**/(a)" ∷
    codes ":nth-child(|)" ∷
    codes ":nth-child(2n|)" ∷
    codes ":nth-child(2n+|)" ∷
    codes ":nth-child(+|)" ∷
    codes ":nth-child(2n-|)" ∷
    codes ":nth-child(x|)" ∷
    codes ":nth-child(od|)" ∷
    codes ":nth-child(-|)" ∷
    codes ":nth-child(2 n|)" ∷
    codes ":nth-child(+/**/|)" ∷
    codes ":nth-child(33n)" ∷
    codes ":nth-child(2n" ∷
    codes "a::before|b" ∷
    codes "a::before |b" ∷
    codes "a |b" ∷
    codes "--x" ∷
    codes ". a" ∷
    codes ".5" ∷
    codes "a >" ∷
    codes "> a" ∷
    codes "a,b" ∷
    codes "\"a\"" ∷
    []) ≡ 1 ∷ 2 ∷ 10 ∷ 1 ∷ 2 ∷ 3 ∷ 3 ∷ 10 ∷ 3 ∷ 10 ∷ 3 ∷ 5 ∷ 10 ∷ 3 ∷ 5 ∷ 5 ∷ 4 ∷ 10 ∷ 10 ∷ 10 ∷ 10 ∷ 1 ∷ 1 ∷ 1 ∷ 1 ∷ 10 ∷ 1 ∷ 1 ∷ 3 ∷ 3 ∷ 3 ∷ 3 ∷ 3 ∷ 10 ∷ 10 ∷ 10 ∷ 10 ∷ 10 ∷ 8 ∷ 10 ∷ 3 ∷ 10 ∷ 3 ∷ 10 ∷ 10 ∷ 10 ∷ 10 ∷ 10 ∷ 10 ∷ 10 ∷ []
unfolding chars is_utf8 utf8_valid_len utf8_lossy encode_utf8 past_blanks body_of numbers_of past_word alone last_number offset_of
outside = refl

read : selector_of (codes "A[B|=c]/**/>/**/:not( :hover ) #d+*.e:nth-child( ODD )~:before") ≡ Ok (record {
  chain =
      ((record { negated = false; test = Any }) ∷ [])
      ∷ ((record { negated = false; test = Any }) ∷ (record { negated = false; test = Attr (record { name = codes "class"; op = Word; value = codes "e" }) })
      ∷ (record { negated = false; test = Nth (record { a = pos 2; b = pos 1 }) }) ∷ [])
      ∷ ((record { negated = false; test = Id (codes "d") }) ∷ [])
      ∷ ((record { negated = true; test = State Hover }) ∷ [])
      ∷ ((record { negated = false; test = Kind (codes "a") }) ∷ (record { negated = false; test = Attr (record { name = codes "b"; op = Dash; value = codes "c" }) }) ∷ [])
      ∷ [];
  links = Later ∷ Next ∷ Inside ∷ Child ∷ [];
  pseudo = Some Before;
})
unfolding chars is_utf8 utf8_valid_len utf8_lossy encode_utf8 past_blanks body_of numbers_of past_word alone last_number offset_of
read = refl

-- a byte order mark is a code point of a name
marked : selector_of (0xEF ∷ 0xBB ∷ 0xBF ∷ 0x62 ∷ []) ≡ Ok (record { chain = ((record { negated = false; test = Kind (0xFEFF ∷ 0x62 ∷ []) }) ∷ []) ∷ []; links = []; pseudo = None })
unfolding chars is_utf8 utf8_valid_len utf8_lossy encode_utf8
marked = refl
