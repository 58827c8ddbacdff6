-- The entries of a block (CSS Syntax 3, sections 5.4.4 and 5.4.6), and the declarations among them.
use Rattle.std.specs.Prelude.{ℕ, ◌≡◌, true, false, List, [], ◌∷◌, ◌++◌}
use Rattle.std.specs.List.{list_any}
use Rattle.css_model.specs.declared.sheet.DeclItem.{DeclItem}
use Rattle.css_model.specs.declared.token.Lexeme.{Lexeme}
use Rattle.css_model.specs.Sheets.Declarations.{is_custom, is_importance, piece_of_value, property_of, text_of_value}
use Rattle.css_model.specs.Sheets.Items.{is_at_rule}
use Rattle.css_model.specs.Text.Characters.{colon, open_curly}
use Rattle.css_model.specs.Text.Lexemes.{is_ident, is_sign_at, is_sign_of}
use Rattle.css_model.specs.Text.Names.{decoded}
use Rattle.css_model.specs.Text.Source.{text_at}

-- what is between the signs of a kind, as `;`, that are so many brackets deep
pub data ArePartsBy (b depth : ℕ) : List Lexeme → List (List Lexeme) → Type 0 where
  last : (part : List Lexeme) → list_any (is_sign_at b depth) part ≡ false → ArePartsBy b depth part (part ∷ [])
  more : (part rest : List Lexeme) (x : Lexeme) (parts : List (List Lexeme)) → list_any (is_sign_at b depth) part ≡ false → is_sign_at b depth x ≡ true
      → ArePartsBy b depth rest parts → ArePartsBy b depth (part ++ x ∷ rest) (part ∷ parts)

-- `!important` after a value, or nothing, if the value does not end with that
pub data IsEnding (source : List ℕ) (value ending : List Lexeme) : Type 0 where
  important : is_importance source ending ≡ true → IsEnding source value ending
  nothing : ending ≡ [] → ((front last : List Lexeme) → value ≡ front ++ last → is_importance source last ≡ false) → IsEnding source value ending

-- a declaration: an ident, a colon, a value, and maybe `!important`
pub record IsDeclaration (source : List ℕ) (entry : List Lexeme) (d : DeclItem) : Type 0 where
  pub ident : Lexeme
  pub sign : Lexeme
  pub text : List Lexeme
  pub ending : List Lexeme
  pub joined : entry ≡ ident ∷ sign ∷ (text ++ ending)
  pub is_name : is_ident ident.kind ≡ true
  pub is_colon : is_sign_of colon sign.kind ≡ true
  pub is_ending : IsEnding source text ending
  pub property : d.decl.name ≡ property_of (decoded (text_at source ident.span))
  pub says : d.decl.value ≡ text_of_value source (is_custom d.decl.name) sign text
  pub importance : d.decl.important ≡ is_importance source ending
  pub name_place : d.name ≡ ident.span
  pub value_place : d.value ≡ piece_of_value (is_custom d.decl.name) sign text

-- an entry that is a rule of its own, or may be one: it begins with an at-keyword, or it holds a block and declares no
-- custom property (own: a rule with such an entry is kept as it is)
pub data IsNested (source : List ℕ) (entry : List Lexeme) : Type 0 where
  at_rule : is_at_rule entry ≡ true → IsNested source entry
  block : list_any (is_sign_at open_curly 1) entry ≡ true → ((d : DeclItem) → IsDeclaration source entry d → is_custom d.decl.name ≡ false) → IsNested source entry

-- the declarations of entries, none of which is nested; any other entry is dropped
pub data AreDeclarations (source : List ℕ) : List (List Lexeme) → List DeclItem → Type 0 where
  at_end : AreDeclarations source [] []
  declared : (entry : List Lexeme) (d : DeclItem) (entries : List (List Lexeme)) (ds : List DeclItem) → (IsNested source entry → ⊥) → IsDeclaration source entry d
      → AreDeclarations source entries ds → AreDeclarations source (entry ∷ entries) (d ∷ ds)
  dropped : (entry : List Lexeme) (entries : List (List Lexeme)) (ds : List DeclItem) → (IsNested source entry → ⊥) → ((d : DeclItem) → IsDeclaration source entry d → ⊥)
      → AreDeclarations source entries ds → AreDeclarations source (entry ∷ entries) ds
