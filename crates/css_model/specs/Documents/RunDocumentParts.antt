-- What a contract sees of a document in lines.
use Rattle.std.specs.Prelude.{Bool, List}
use Rattle.css_model.specs.declared.example.RunLine.{RunLine}

-- whether its root counts as a child, and its lines
pub record RunDocumentParts : Type 0 where
  pub root_is_child : Bool
  pub lines : List RunLine
