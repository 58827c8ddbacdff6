-- The parts of what compounds ask of an element: its type, its flags, and its attributes, name by name.
use Rattle.std.specs.Prelude.{◌≡◌, ℕ, Bool, true, false, List}
use Rattle.std.specs.Bool.{MatchBool}
use Rattle.css_model.specs.declared.selector.Flag.{Flag}
use Rattle.css_model.specs.declared.selector.Flag.TheVariants.{Link, Visited, Enabled, Disabled}
use Rattle.css_model.specs.declared.selector.Simple.{Simple}
use Rattle.css_model.specs.declared.selector.Test.{Test}
use Rattle.css_model.specs.declared.selector.Test.TheVariants.{Any, Kind, State}

-- what a test of the type says (Selectors 3, sections 6.1 and 6.2)
abbrev pub is_of_kind : Test → Bool
is_of_kind Any = true
is_of_kind (Kind name) = true
is_of_kind _ = false

abbrev pub KindHolds : List ℕ → Test → Type 0
KindHolds kind (Kind name) = kind ≡ name
KindHolds kind _ = Unit {0}

abbrev pub PassesKind : List ℕ → Simple → Type 0
PassesKind kind s = MatchBool (is_of_kind s.test) (MatchBool s.negated (KindHolds kind s.test → ⊥) (KindHolds kind s.test)) (Unit {0})

-- what a test of a flag says (sections 6.6.1, 6.6.2 and 6.6.4)
abbrev pub is_of_flag : Test → Bool
is_of_flag (State flag) = true
is_of_flag _ = false

abbrev pub FlagHolds : (Flag → Bool) → Test → Type 0
FlagHolds flags (State flag) = flags flag ≡ true
FlagHolds flags _ = Unit {0}

abbrev pub PassesFlag : (Flag → Bool) → Simple → Type 0
PassesFlag flags s = MatchBool (is_of_flag s.test) (MatchBool s.negated (FlagHolds flags s.test → ⊥) (FlagHolds flags s.test)) (Unit {0})

-- flags that a legal element may have
abbrev pub AreLegalFlags : (Flag → Bool) → Type 0
AreLegalFlags flags = (flags Link ≡ true → flags Visited ≡ true → ⊥) × (flags Enabled ≡ true → flags Disabled ≡ true → ⊥)
