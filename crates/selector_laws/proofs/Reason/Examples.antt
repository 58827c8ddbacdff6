-- Examples of bars that are refused and of one that is not, by their terms.
use Rattle.std.proofs.Common.{◌≡◌, ℕ, true, false, List, [], ◌∷◌, map, take, drop, refl, codes}
use Rattle.std.specs.Prelude.{Bool}
use Rattle.css_model.specs.Selectors.Terms.{Term, terms}
use Rattle.css_model.specs.Text.Kept.{solid}
use Rattle.css_model.specs.Text.Lexemes.{lexemes}
use Rattle.css_model.specs.Text.Tokens.{tokens}
use Rattle.selector_laws.specs.Reason.Refusals.{equals_follows, opens_match}

abbrev terms_of : List ℕ → List Term
terms_of text = terms (map (solid text) (lexemes (tokens text false).tokens))

-- whether `=` stands right behind the first of these terms
abbrev follows : List Term → Bool
follows [] = false
follows (x ∷ xs) = equals_follows x xs

-- `[a|=b]`: behind the name of an attribute, and `=` behind it
match_opens : opens_match (take 2 (terms_of (codes "[a|=b]"))) ≡ true
match_opens = refl

match_follows : follows (drop 2 (terms_of (codes "[a|=b]"))) ≡ true
match_follows = refl

-- `[a|b]`: no `=` behind it
name_follows : follows (drop 2 (terms_of (codes "[a|b]"))) ≡ false
name_follows = refl

-- `[a|/**/=b]`: a comment stands between them
comment_follows : follows (drop 2 (terms_of (codes "[a|/**/=b]"))) ≡ false
comment_follows = refl

-- `a|=b`: not behind the name of an attribute
type_opens : opens_match (take 1 (terms_of (codes "a|=b"))) ≡ false
type_opens = refl
