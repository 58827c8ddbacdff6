-- What the solver's trail and its lists of watches are, and what a log is.
use Rattle.std.proofs.Common.{◌≡◌, [], ◌∷◌, None, refl}
use Rattle.std.specs.Prelude.{codes}
use Rattle.std.specs.Fmt.{digits}
use Rattle.cnf.specs.declared.lit.Lit.{Lit}
use Rattle.log_text.specs.CheckedTexts.{checked_text}
use Rattle.rup_check.specs.declared.log.Checked.TheVariants.{No, Yes}
use Rattle.rup_check.specs.Text.{log_text}
use Rattle.sat_arena.specs.Arena.{with_watch, without}
use Rattle.sat_trail.specs.Trail.{lits, undone_to}

-- a variable, and its negation
abbrev x : Lit
x = record { 0 = 0 }

abbrev not_x : Lit
not_x = record { 0 = 1 }

abbrev y : Lit
y = record { 0 = 2 }

-- ---- Trails

-- what was decided above a level has no value once that level is taken back, and what was decided at it has
undone_has_no_value : lits (undone_to (record { vars = 2; level = 2; entries = record { lit = x; level = 1; reason = None } ∷ record { lit = y; level = 2; reason = None } ∷ [] }) 1).entries ≡ x ∷ []
undone_has_no_value = refl

-- ---- Watches

-- the clause watches y in the place of x, and nothing else changes
watch_moves : with_watch 7 x y (record { index = 7; lits = x ∷ y ∷ not_x ∷ []; one = x; other = not_x }) ≡ record { index = 7; lits = x ∷ y ∷ not_x ∷ []; one = y; other = not_x }
watch_moves = refl

watch_leaves_its_list : without 7 (5 ∷ 7 ∷ 9 ∷ []) ≡ 5 ∷ 9 ∷ []
watch_leaves_its_list = refl

-- ---- Logs

steps_follow_the_formula : log_text (record { vars = 1; clauses = (x ∷ []) ∷ (not_x ∷ []) ∷ [] }) ([] ∷ []) ≡ codes "vars 1 clauses 2\n1 0\n-1 0\n0\n"
unfolding digits
steps_follow_the_formula = refl

yes_is_written : checked_text Yes ≡ codes "yes\n"
yes_is_written = refl

failed_step_is_written : checked_text (No 3) ≡ codes "no 3\n"
unfolding digits
failed_step_is_written = refl
