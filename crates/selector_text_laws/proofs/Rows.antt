-- The steps of a printed selector that kept text has not: nothing between tokens that may stand together, and an
-- argument in its printed form.
use Rattle.std.proofs.Common.{◌≡◌, ℕ, ◌-◌, true, false, List, ◌∷◌, ◌++◌, take, length, Some, Ok, refl, sym, ◌∙◌, true≢false}
use Rattle.css_model.specs.declared.token.TokenKind.{TokenKind}
use Rattle.css_model.specs.declared.token.TokenKind.TheVariants as kind
use Rattle.css_model.specs.Text.Characters.{close_round}
use Rattle.css_model.specs.Text.TokenAt.{part_at}
use Rattle.css_model.specs.Text.Tokens.{Part, text_of}
use Rattle.css_model.specs.Text.Names.{is_url}
use Rattle.token_laws.specs.Alike.{EndsAlike}
use Rattle.css_tokens.specs.Lexed.{IsLexed}
use Rattle.token_laws.proofs.ForCallers.{through_none}
use Rattle.token_laws.proofs.ForCallers.{KeptRow, IsToken, token}
use Rattle.token_laws.proofs.ForCallers.{first_of}
use Rattle.token_laws.proofs.ForCallers.{ends_front}
use Rattle.token_laws.proofs.ForCallers.{part_again}
use Rattle.selector_text_laws.specs.Notation.Tokens.{StandsBeforeSigns}
use Rattle.selector_text_laws.specs.Together.{together}
use Rattle.selector_text_laws.proofs.Together.{together_ends_alike, looks_function}

-- a token that ends alike before other parts
pub alike_row : (k : TokenKind) (v : List ℕ) (ps G : List Part) → IsToken k v ps → IsLexed G → EndsAlike (token k v) (text_of ps) (text_of G) → KeptRow (token k v ∷ ps) (token k v ∷ G)
alike_row k v ps G is lexed ends =
    let read : part_at (v ++ text_of G) ≡ Ok (Some k, length v) = part_again v (text_of ps) (text_of G) (Some k) ends.alike ends.looks is.here in
    record {
      lexed = (read, lexed);
      first = λ test. first_of test v (text_of G) is.some ∙ sym (rw is.solid (first_of test v (text_of ps) is.some));
      ends = λ _ q. ends_front q (token k v) ps G (is.here, is.later) (read, lexed) ends.through;
    }

-- nothing between two tokens that may stand together, whatever stood there
pub together_row : (k j : TokenKind) (v w : List ℕ) (ps N : List Part) → IsToken k v ps → IsLexed (token j w ∷ N) → together k v j w ≡ true → KeptRow (token k v ∷ ps) (token k v ∷ token j w ∷ N)
together_row k j v w ps N is lexed e = alike_row k v ps (token j w ∷ N) is lexed (together_ends_alike k j v w (text_of ps) N e lexed)

-- a function that is no url, and an argument before its `)`
pub argument_row : (v text : List ℕ) (ps N : List Part) (cs : List ℕ) → IsToken kind.Function v ps → is_url (take (length v - 1) v) ≡ false → (s : StandsBeforeSigns text) → IsLexed N
    → text_of N ≡ close_round ∷ cs → KeptRow (token kind.Function v ∷ ps) (token kind.Function v ∷ (s.parts ++ N))
argument_row v text ps N cs is other s lexed closes =
    alike_row kind.Function v ps (s.parts ++ N) is (s.before N close_round cs lexed closes refl refl) (record {
      alike = λ open_ended. absurd (true≢false open_ended);
      looks = looks_function v (text_of ps) (text_of (s.parts ++ N)) other;
      through = through_none (Some kind.Function) (text_of ps) (text_of (s.parts ++ N)) refl;
    })
