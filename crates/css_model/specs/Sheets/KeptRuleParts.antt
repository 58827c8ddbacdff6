-- What a contract sees of a kept rule.
use Rattle.std.specs.Prelude.{List, ℕ}
use Rattle.css_model.specs.declared.sheet.Piece.{Piece}
use Rattle.css_model.specs.declared.sheet.Decl.{Decl}

-- its place in the source, its declarations in the order of the source, and why it is kept
pub record KeptRuleParts : Type 0 where
  pub piece : Piece
  pub decls : List Decl
  pub reason : ℕ
