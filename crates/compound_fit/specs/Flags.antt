-- The flags that compounds ask for (Selectors 3, sections 6.6.1, 6.6.2 and 6.6.4).
use Rattle.std.specs.Prelude.{Bool, true, false, not, ◌&&◌, ◌||◌, ◌==◌, List}
use Rattle.std.specs.List.{All, list_any}
use Rattle.css_model.specs.declared.selector.Flag.{Flag}
use Rattle.css_model.specs.declared.selector.Flag.TheVariants.{Link, Visited, Hover, Active, Focus, Target, Enabled, Disabled, Checked}
use Rattle.css_model.specs.declared.selector.Simple.{Simple}
use Rattle.css_model.specs.declared.selector.Test.{Test}
use Rattle.css_model.specs.declared.selector.Test.TheVariants.{State}
use Rattle.css_model.specs.Documents.Features.{flag_number}
use Rattle.compound_fit.specs.Parts.{AreLegalFlags, PassesFlag}

-- whether a test asks for a flag
abbrev pub is_state : Flag → Test → Bool
is_state flag (State f) = flag_number f == flag_number flag
is_state flag _ = false

abbrev pub is_flag_asked : Flag → List Simple → Bool
is_flag_asked flag simples = list_any (λ s. not s.negated && is_state flag s.test) simples

abbrev pub is_flag_refused : Flag → List Simple → Bool
is_flag_refused flag simples = list_any (λ s. s.negated && is_state flag s.test) simples

abbrev pub clashes_at : Flag → List Simple → Bool
clashes_at flag simples = is_flag_asked flag simples && is_flag_refused flag simples

-- whether a flag is both asked for and refused, or two are asked for that no element has together
abbrev pub flags_clash : List Simple → Bool
flags_clash simples =
    clashes_at Link simples || (clashes_at Visited simples || (clashes_at Hover simples || (clashes_at Active simples || (clashes_at Focus simples || (clashes_at Target simples || (clashes_at Enabled simples || (clashes_at Disabled simples || (clashes_at Checked simples ||
    (is_flag_asked Link simples && is_flag_asked Visited simples || is_flag_asked Enabled simples && is_flag_asked Disabled simples)))))))))

-- the flags that are asked for
abbrev pub asked_flags : List Simple → Flag → Bool
asked_flags simples flag = is_flag_asked flag simples

-- The flags that are asked for are legal and pass, or no legal flags pass.
abbrev pub FlagsDecided : Bool → List Simple → Type 0
FlagsDecided false simples = AreLegalFlags (asked_flags simples) × All (PassesFlag (asked_flags simples)) simples
FlagsDecided true simples = (flags : Flag → Bool) → AreLegalFlags flags → All (PassesFlag flags) simples → ⊥
