-- What stands in the terms of a selector that is read.
use Rattle.std.specs.Prelude.{ℕ, suc, ◌+◌, ◌≤◌, length, ◌⊎◌, ◌≡◌, ◌&&◌, ◌||◌, not, ⊤, Bool, true, false, if◌then◌else◌, List, [], ◌∷◌, codes, Some, Result, Ok, Err}
use Rattle.css_model.specs.declared.position.AnB.{AnB}
use Rattle.css_model.specs.declared.reason.Reason.{Reason}
use Rattle.css_model.specs.declared.token.TokenKind.{TokenKind}
use Rattle.css_model.specs.declared.token.TokenKind.TheVariants as kind
use Rattle.css_model.specs.Lists.{less_one}
use Rattle.css_model.specs.Selectors.Terms.{Term}
use Rattle.css_model.specs.Selectors.Tokens.{is_function, is_word}
use Rattle.css_model.specs.Text.Characters.{close_curly, close_round, close_square, colon, comma, dot, greater_than, open_curly, open_square, plus, semicolon}
use Rattle.css_model.specs.Text.Kept.{is_lone, is_white_gap}
use Rattle.css_model.specs.Text.Lexemes.{is_delim_of, is_sign_of}
use Rattle.selector_text_laws.specs.Closed.{closers_after}
use Rattle.selector_text_laws.specs.Together.{ending_bytes, is_numeric, is_one_of, lone_bytes}

-- signs before which a name ends
abbrev pub sign_bytes : List ℕ
sign_bytes = colon ∷ semicolon ∷ comma ∷ open_square ∷ close_square ∷ close_round ∷ open_curly ∷ close_curly ∷ []

-- a token before which a name ends, by its kind
abbrev pub ends_names : TokenKind → Bool
ends_names kind.IdHash = true
ends_names (kind.Sign c) = is_one_of sign_bytes c
ends_names (kind.Delim c) = is_one_of ending_bytes c
ends_names k = false

abbrev pub has_argument : Result AnB Reason → Bool
has_argument (Ok x) = true
has_argument (Err reason) = false

-- A term may stand right before another.
abbrev pub beside_by : TokenKind → Term → TokenKind → Bool
beside_by kind.Ident t k = ends_names k && not (t.only_dashes && is_delim_of greater_than k)
beside_by kind.IdHash t k = ends_names k
beside_by kind.Function t k = has_argument t.argument || not (is_word (codes "url") t.name)
beside_by kind.Str t k = true
beside_by (kind.Sign c) t k = true
beside_by (kind.Delim c) t k = is_one_of lone_bytes c || (is_one_of (plus ∷ dot ∷ []) c && not (is_numeric (Some k)))
beside_by j t k = false

abbrev pub beside : Term → Term → Bool
beside t u = beside_by t.kind t u.kind

-- each term that has no white space behind it may stand right before the next one
abbrev pub AreBeside : List Term → Type 0
AreBeside [] = ⊤
AreBeside (t ∷ []) = ⊤
AreBeside (t ∷ u ∷ ts) = (is_white_gap t.gap ≡ false → beside t u ≡ true) × AreBeside (u ∷ ts)

-- the kinds of tokens of which selectors are made
abbrev pub is_of_selector : TokenKind → Bool
is_of_selector kind.Ident = true
is_of_selector kind.IdHash = true
is_of_selector kind.Str = true
is_of_selector kind.Function = true
is_of_selector (kind.Delim c) = true
is_of_selector (kind.Sign c) = is_one_of (colon ∷ open_square ∷ close_square ∷ close_round ∷ []) c
is_of_selector k = false

-- the same behind a term, which has its argument and `)` if it is a function of a position, and behind terms
abbrev pub closers_behind : Result AnB Reason → TokenKind → List ℕ → List ℕ
closers_behind (Ok x) k cs = cs
closers_behind (Err reason) k cs = closers_after k cs

-- how many brackets are open behind a token, and behind a term
abbrev pub depth_after : TokenKind → ℕ → ℕ
depth_after k depth =
    if is_function k || is_sign_of open_square k then suc depth
    else if is_sign_of close_square k || is_sign_of close_round k then less_one depth
    else depth

abbrev pub depth_behind_by : Result AnB Reason → TokenKind → ℕ → ℕ
depth_behind_by (Ok x) k depth = depth
depth_behind_by (Err reason) k depth = depth_after k depth

-- how far inside brackets a term reaches beyond where it begins
abbrev pub reach : Result AnB Reason → ℕ
reach (Ok x) = 1
reach (Err reason) = 0

-- Terms lead from brackets that these signs close to others, no more than n of which are open at once, and their number is
-- that of their depth.
abbrev pub Walk : ℕ → List ℕ → List Term → List ℕ → Type 0
Walk n cs [] ds = cs ≡ ds
Walk n cs (t ∷ ts) ds =
    (length cs + reach t.argument ≤ n) × (length (closers_behind t.argument t.kind cs) ≡ depth_behind_by t.argument t.kind (length cs)) × Walk n (closers_behind t.argument t.kind cs) ts ds

-- A term is of a kind of which selectors are made; a function has an argument that is read, or is `not`; and it is no
-- backslash.
pub record Fits (t : Term) : Type 0 where
  pub of : is_of_selector t.kind ≡ true
  pub calls : is_function t.kind ≡ true → (has_argument t.argument ≡ true) ⊎ (is_word (codes "not") t.name ≡ true)
  pub lone : is_lone t.kind ≡ false
