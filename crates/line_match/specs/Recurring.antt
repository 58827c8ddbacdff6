-- After how many elements of a run what a selector asks repeats (own).
use Rattle.std.specs.Prelude.{ℕ, ◌*◌, ◌%◌, ◌^◌, ◌==◌, nat_lt, max, if◌then◌else◌, List, [], ◌∷◌, unsigned_abs}
use Rattle.css_model.specs.declared.position.AnB.{AnB}
use Rattle.css_model.specs.declared.selector.Simple.{Simple}
use Rattle.css_model.specs.declared.selector.Test.{Test}
use Rattle.css_model.specs.declared.selector.Test.TheVariants.{Nth, NthLast}
use Rattle.line_match.specs.declared.recurrence.Recurrence.{Recurrence}

-- A multiple of a period and of a step's size. Where the period is no shorter than any run already, it stays.
abbrev pub with_step : (period size : ℕ) → ℕ
with_step period size =
    if size == 0 then period else (if period % size == 0 then period else (if nat_lt period (2 ^ 32) then period * size else period))

abbrev pub with_positions : Recurrence → AnB → Recurrence
with_positions r x = record { threshold = max (unsigned_abs x.b) r.threshold; period = with_step r.period (unsigned_abs x.a) }

abbrev pub with_test : Recurrence → Test → Recurrence
with_test r (Nth x) = with_positions r x
with_test r (NthLast x) = with_positions r x
with_test r _ = r

abbrev pub with_compound : Recurrence → List Simple → Recurrence
with_compound r [] = r
with_compound r (s ∷ simples) = with_compound (with_test r s.test) simples

abbrev pub with_chain : Recurrence → List (List Simple) → Recurrence
with_chain r [] = r
with_chain r (c ∷ chain) = with_chain (with_compound r c) chain

-- of a selector's compounds
abbrev pub recurrence_of : List (List Simple) → Recurrence
recurrence_of chain = with_chain (record { threshold = 1; period = 1 }) chain
