-- Names and ident sequences (CSS Syntax 3, sections 4.3.9 and 4.3.11).
use Rattle.std.specs.Prelude.{ℕ, ◌≡◌, true, List, [], ◌∷◌, ◌++◌, map, codes}
use Rattle.std.specs.Char.{to_ascii_lowercase}
use Rattle.css_model.specs.Text.Characters.{dash, is_name, is_start}
use Rattle.token_grammar.specs.Escapes.{IsEscape, Says}
use Rattle.token_grammar.specs.Rows.{IsRowOf}

-- an ident code point or an escape
pub data IsNamePart (text rest : List ℕ) : Type 0 where
  code_point : (c : ℕ) → text ≡ c ∷ [] → is_name c ≡ true → IsNamePart text rest
  escape : (said : List ℕ) → IsEscape said text rest → IsNamePart text rest

-- an ident-start code point or an escape
pub data IsNameStart (text rest : List ℕ) : Type 0 where
  code_point : (c : ℕ) → text ≡ c ∷ [] → is_start c ≡ true → IsNameStart text rest
  escape : (said : List ℕ) → IsEscape said text rest → IsNameStart text rest

-- an ident sequence: one of these, `-` and one of these, or `--`, and then any number of the former
pub data IsIdent (text rest : List ℕ) : Type 0 where
  plain : (start others : List ℕ) → text ≡ start ++ others → IsNameStart start (others ++ rest) → IsRowOf IsNamePart rest others → IsIdent text rest
  dashed : (start others : List ℕ) → text ≡ dash ∷ (start ++ others) → IsNameStart start (others ++ rest) → IsRowOf IsNamePart rest others → IsIdent text rest
  dashes : (others : List ℕ) → text ≡ dash ∷ dash ∷ others → IsRowOf IsNamePart rest others → IsIdent text rest

-- an ident sequence that says `url` without ASCII case
pub record IsUrlName (text rest : List ℕ) : Type 0 where
  pub ident : IsIdent text rest
  pub said : List ℕ
  pub says : Says text said
  pub is : map to_ascii_lowercase said ≡ codes "url"
