-- What of a pair and another one tells whether they weigh (own).
use Rattle.std.specs.Prelude.{◌≡◌, ◌≢◌}
use Rattle.css_model.specs.declared.sheet.Decl.{Decl}
use Rattle.css_model.specs.Cascade.Family.{Related}

-- two declarations weigh, whose selectors have equal specificity
pub record DeclsWeigh (d f : Decl) : Type 0 where
  pub different : d ≢ f
  pub names : Related d.name f.name
  pub importance : d.important ≡ f.important
