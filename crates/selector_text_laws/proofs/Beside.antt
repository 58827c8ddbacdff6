-- Tokens whose terms may stand side by side do so.
use Rattle.std.proofs.Common.{◌≡◌, ℕ, ◌==◌, Bool, true, false, not, ◌&&◌, ◌||◌, List, [], ◌∷◌, ◌++◌, length, Some, Ok, refl, sym, ap, ◌∙◌, codes}
use Rattle.std.specs.Cmp.Lexicographic.{bytes_decides}
use Rattle.std.proofs.lemmas.Bool.{and_parts, eqb-true, false≢true}
use Rattle.css_model.specs.declared.token.TokenKind.{TokenKind}
use Rattle.css_model.specs.declared.token.TokenKind.TheVariants as kind
use Rattle.css_model.specs.Lists.{same_text}
use Rattle.css_model.specs.Selectors.Terms.{Term}
use Rattle.css_model.specs.Selectors.Tokens.{is_word, name_in}
use Rattle.css_model.specs.Text.Characters.{begins, dash, first_passes, greater_than, hash}
use Rattle.css_model.specs.Text.Kept.{Solid}
use Rattle.css_model.specs.Text.Lexemes.{is_delim_of}
use Rattle.css_model.specs.Text.Names.{unescaped}
use Rattle.css_model.specs.Text.TokenAt.{part_at}
use Rattle.token_laws.proofs.ForCallers.{delim-text, hash-text, sign-text}
use Rattle.selector_text_laws.proofs.Terms.{beside_by, ends_names, has_argument, sign_bytes}
use Rattle.selector_text_laws.specs.Together.{ending_bytes, ends_name, is_dashes, is_one_of, together}
use Rattle.selector_text_laws.proofs.Together.{each_of}

-- a token that is read before some rest
pub record IsReadToken (s : Solid) : Type 0 where
  pub old : List ℕ
  pub read : part_at (s.bytes ++ old) ≡ Ok (Some s.kind, length s.bytes)

and_both : (a b : Bool) → a ≡ true → b ≡ true → (a && b) ≡ true
and_both a b e f = ap (λ c. c && b) e ∙ f

first_hash : (v : List ℕ) → begins hash v ≡ true → (first_passes (is_one_of ending_bytes) v ≡ true) × (begins greater_than v ≡ false)
first_hash [] e = absurd (false≢true e)
first_hash (c ∷ cs) e = (let same = eqb-true c hash e in (ap (is_one_of ending_bytes) same, ap (λ (n : ℕ). n == greater_than) same))

-- a name ends before such a token
ends_there : (k : TokenKind) (v old : List ℕ) → part_at (v ++ old) ≡ Ok (Some k, length v) → ends_names k ≡ true → ends_name k v ≡ true
ends_there kind.IdHash v old read e = and_both (first_passes (is_one_of ending_bytes) v) true (first_hash v (hash-text v old read)).0 refl
ends_there (kind.Sign c) v old read e =
    and_both (first_passes (is_one_of ending_bytes) v) true
    (ap (first_passes (is_one_of ending_bytes)) (sign-text v old c read) ∙ each_of (λ c. is_one_of ending_bytes c ≡ true) c sign_bytes (refl, (refl, (refl, (refl, (refl, (refl, (refl, (refl, tt)))))))) e) refl
ends_there (kind.Delim c) v old read e = and_both (first_passes (is_one_of ending_bytes) v) true (ap (first_passes (is_one_of ending_bytes)) (delim-text v old c read) ∙ e) refl
ends_there _ v old read e = absurd (false≢true e)

-- `>` is the delim alone
no_greater : (k : TokenKind) (v old : List ℕ) → part_at (v ++ old) ≡ Ok (Some k, length v) → ends_names k ≡ true → is_delim_of greater_than k ≡ false → begins greater_than v ≡ false
no_greater kind.IdHash v old read e other = (first_hash v (hash-text v old read)).1
no_greater (kind.Sign c) v old read e other =
    ap (begins greater_than) (sign-text v old c read) ∙ each_of (λ c. (c == greater_than) ≡ false) c sign_bytes (refl, (refl, (refl, (refl, (refl, (refl, (refl, (refl, tt)))))))) e
no_greater (kind.Delim c) v old read e other = ap (begins greater_than) (delim-text v old c read) ∙ other
no_greater _ v old read e other = absurd (false≢true e)

not_true : (b : Bool) → not b ≡ true → b ≡ false
not_true true e = sym e
not_true false e = refl

and_none : (b : Bool) → (b && false) ≡ false
and_none true = refl
and_none false = refl

-- `--` before what is no `>`
apart : (bytes : List ℕ) (k : TokenKind) (v old : List ℕ) → part_at (v ++ old) ≡ Ok (Some k, length v) → ends_names k ≡ true → not (same_text bytes (codes "--") && is_delim_of greater_than k) ≡ true
    → not (is_dashes bytes && begins greater_than v) ≡ true
apart bytes k v old read ends e = which (is_dashes bytes) refl
  where
    which : (b : Bool) → is_dashes bytes ≡ b → not (is_dashes bytes && begins greater_than v) ≡ true
    which false is = ap (λ b. not (b && begins greater_than v)) is
    which true is =
        let same : bytes ≡ dash ∷ dash ∷ [] = (bytes_decides bytes (dash ∷ dash ∷ [])).0 is in
        let other : is_delim_of greater_than k ≡ false = not_true (is_delim_of greater_than k) (sym (ap (λ (w : List ℕ). not (same_text w (codes "--") && is_delim_of greater_than k)) same) ∙ e) in
        ap (λ b. not (is_dashes bytes && b)) (no_greater k v old read ends other) ∙ ap not (and_none (is_dashes bytes))

-- a term of this kind and name, without an argument
pub together_of : (s u : Solid) (t : Term) → IsReadToken u → t.only_dashes ≡ same_text s.bytes (codes "--") → t.name ≡ unescaped (name_in s.kind s.bytes) → has_argument t.argument ≡ false
    → beside_by s.kind t u.kind ≡ true → together s.kind s.bytes u.kind u.bytes ≡ true
together_of s u t read dashes name none e = at s.kind (λ k is. name ∙ ap (λ k. unescaped (name_in k s.bytes)) is) e
  where
    at : (j : TokenKind) → ((k : TokenKind) → j ≡ k → t.name ≡ unescaped (name_in k s.bytes)) → beside_by j t u.kind ≡ true → together j s.bytes u.kind u.bytes ≡ true
    at kind.Ident named e =
        let two = and_parts (ends_names u.kind) (not (t.only_dashes && is_delim_of greater_than u.kind)) e in
        and_both (ends_name u.kind u.bytes) (not (is_dashes s.bytes && begins greater_than u.bytes)) (ends_there u.kind u.bytes read.old read.read two.0)
        (apart s.bytes u.kind u.bytes read.old read.read two.0 (ap (λ b. not (b && is_delim_of greater_than u.kind)) (sym dashes) ∙ two.1))
    at kind.IdHash named e = ends_there u.kind u.bytes read.old read.read e
    at kind.Function named e = ap (λ (n : List ℕ). not (is_word (codes "url") n)) (sym (named kind.Function refl)) ∙ ap (λ b. b || not (is_word (codes "url") t.name)) (sym none) ∙ e
    at kind.Str named e = refl
    at (kind.Sign c) named e = refl
    at (kind.Delim c) named e = e
    at _ named e = absurd (false≢true e)
