-- Simple selectors that test no flag.
use Rattle.std.proofs.Common.{◌≡◌, Bool, true, false, not, ◌&&◌, ◌||◌, List, [], ◌∷◌, refl, sym, ap, subst, ◌∙◌}
use Rattle.std.specs.Bool.{MatchBool}
use Rattle.std.specs.List.{All, list_any}
use Rattle.std.proofs.lemmas.Bool.{false≢true, true≢false, or_parts}
use Rattle.std.proofs.lemmas.List.Elements.{All-nil, All-cons}
use Rattle.css_model.specs.declared.selector.Flag.{Flag}
use Rattle.css_model.specs.declared.selector.Flag.TheVariants.{Link, Visited, Hover, Active, Focus, Target, Enabled, Disabled, Checked}
use Rattle.css_model.specs.declared.selector.Simple.{Simple}
use Rattle.css_model.specs.declared.selector.Test.{Test}
use Rattle.css_model.specs.declared.selector.Test.TheVariants.{Any, Kind, Id, Attr, Nth, NthLast, OnlyChild, Root, Empty, State}
use Rattle.css_model.specs.Documents.Features.{flags_of}
use Rattle.compound_fit.specs.Flags.{FlagsDecided, asked_flags, is_flag_asked, is_state}
use Rattle.compound_fit.specs.Parts.{FlagHolds, PassesFlag, is_of_flag}

pub none_set : (flag : Flag) → flags_of 0 flag ≡ false
none_set Link = refl
none_set Visited = refl
none_set Hover = refl
none_set Active = refl
none_set Focus = refl
none_set Target = refl
none_set Enabled = refl
none_set Disabled = refl
none_set Checked = refl

not_state : (flag : Flag) (test : Test) (negated : Bool) → is_of_flag test ≡ false → (not negated && is_state flag test) ≡ false
not_state flag test true none = refl
not_state flag (State f) false none = absurd (true≢false none)
not_state flag Any false none = refl
not_state flag (Kind v) false none = refl
not_state flag (Id v) false none = refl
not_state flag (Attr v) false none = refl
not_state flag (Nth v) false none = refl
not_state flag (NthLast v) false none = refl
not_state flag OnlyChild false none = refl
not_state flag Root false none = refl
not_state flag Empty false none = refl

pub not_asked : (flag : Flag) (simples : List Simple) → list_any (λ s. is_of_flag s.test) simples ≡ false → is_flag_asked flag simples ≡ false
not_asked flag [] none = refl
not_asked flag (s ∷ simples) none =
    let both = or_parts (is_of_flag s.test) (list_any (λ s. is_of_flag s.test) simples) none in
    ap (λ (b : Bool). b || is_flag_asked flag simples) (not_state flag s.test s.negated both.0) ∙ not_asked flag simples both.1

all_pass : (flags : Flag → Bool) (simples : List Simple) → list_any (λ s. is_of_flag s.test) simples ≡ false → All (PassesFlag flags) simples
all_pass flags [] none = All-nil (PassesFlag flags)
all_pass flags (s ∷ simples) none =
    let both = or_parts (is_of_flag s.test) (list_any (λ s. is_of_flag s.test) simples) none in
    All-cons (PassesFlag flags) s simples
    (subst (λ (b : Bool). MatchBool b (MatchBool s.negated (FlagHolds flags s.test → ⊥) (FlagHolds flags s.test)) (Unit {0})) (sym both.0) tt)
    (all_pass flags simples both.1)

pub none_clashes : (simples : List Simple) → list_any (λ s. is_of_flag s.test) simples ≡ false → FlagsDecided false simples
none_clashes simples none = (
  (λ on other. false≢true (sym (not_asked Link simples none) ∙ on), λ on other. false≢true (sym (not_asked Enabled simples none) ∙ on)),
  all_pass (asked_flags simples) simples none,
)
