-- Tokens that close each bracket that they open.
use Rattle.std.specs.Prelude.{ℕ, ◌≡◌, ◌≤◌, Bool, false, if◌then◌else◌, drop, Option, Some, None, List, [], ◌∷◌, length}
use Rattle.css_model.specs.Selectors.Terms.{depth_behind}
use Rattle.css_model.specs.Selectors.Tokens.{selector_token}
use Rattle.css_model.specs.Text.Kept.{Solid}
use Rattle.css_model.specs.declared.token.TokenKind.{TokenKind}
use Rattle.css_model.specs.Text.Lexemes.{closer_of, is_sign_of}

-- the signs that close the open brackets, the innermost first, behind a token
abbrev pub closes_first : TokenKind → List ℕ → Bool
closes_first k [] = false
closes_first k (c ∷ cs) = is_sign_of c k

abbrev pub opened_by : Option ℕ → List ℕ → List ℕ
opened_by None cs = cs
opened_by (Some c) cs = c ∷ cs

abbrev pub closers_after : TokenKind → List ℕ → List ℕ
closers_after k cs = if closes_first k cs then drop 1 cs else opened_by (closer_of k) cs

-- Tokens lead from brackets that these signs close to others, no more than two of which are open at once, and their
-- number is that of their depth.
abbrev pub SolidWalk : List ℕ → List Solid → List ℕ → Type 0
SolidWalk cs [] ds = cs ≡ ds
SolidWalk cs (s ∷ ss) ds = (length cs ≤ 2) × (length (closers_after s.kind cs) ≡ depth_behind (length cs) (selector_token s)) × SolidWalk (closers_after s.kind cs) ss ds
