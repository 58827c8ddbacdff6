-- What is said of one of a list (own).
use Rattle.std.specs.Prelude.{List}
use Rattle.std.specs.List.{Contains}
use Rattle.plan_laws.specs.Barrier.Hindering.{Hindrance}

-- what may block is that of one of these
abbrev pub Among : {X : Type 0} → List X → (X → Hindrance → Type 0) → Hindrance → Type 0
Among {X} xs Of by = (x : X) × Contains xs x × Of x by
