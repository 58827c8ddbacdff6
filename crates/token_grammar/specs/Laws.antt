-- What is read is what the grammar says.
use Rattle.std.specs.Prelude.{ℕ, ◌≡◌, ◌↔◌, Bool, List, Option}
use Rattle.css_model.specs.declared.token.Token.{Token}
use Rattle.css_model.specs.declared.token.TokenFault.{TokenFault}
use Rattle.css_model.specs.Text.Names.{decoded, unescaped}
use Rattle.css_model.specs.Text.Tokens.{tokens}
use Rattle.token_grammar.specs.Escapes.{Decodes, Says}
use Rattle.token_grammar.specs.Longest.{AreTheTokensOf}

-- the bytes that a name or the inside of a string says are those that the reader gives, and it says no others
abbrev pub NamesAreUnescaped : Type 0
NamesAreUnescaped = (text said : List ℕ) → Says text said ↔ (unescaped text ≡ said)

-- and so are its code points
abbrev pub NamesAreDecoded : Type 0
NamesAreDecoded = (text cs : List ℕ) → Decodes text cs ↔ (decoded text ≡ cs)

-- the tokens of a source, and its fault, are those of the grammar, and there are no others
abbrev pub TokensAreThoseOfTheGrammar : Type 0
TokensAreThoseOfTheGrammar = (source : List ℕ) (sheet : Bool) (ts : List Token) (fault : Option TokenFault)
    → AreTheTokensOf source sheet ts fault ↔ (tokens source sheet ≡ record { tokens = ts; fault = fault })
