use Rattle.std.proofs.Common.{◌≡◌, ℕ, List, Some, ap, subst}
use Rattle.std.specs.Prelude.{slice_get}
use Rattle.queue_laws.specs.Beside.{HaveOtherOrderKeysThan}
use Rattle.indexed_sheet.specs.declared.marks.Mark.{Mark}
use Rattle.rule_tables.specs.Tables.{OrderKeyed}
use Rattle.step_laws.specs.Steps.{first_item, last_item}
use Rattle.planner_state.proofs.leaving.uncover.Goals as goal

-- as the code has the marks and the number
same_place : (ms ms' : List Mark) (n n' : ℕ) (rules : List OrderKeyed) → ms ≡ ms' → n ≡ n' → HaveOtherOrderKeysThan ms' n' rules → HaveOtherOrderKeysThan ms n rules
same_place ms ms' n n' rules marks number other m at = other m (subst (λ (k : ℕ). slice_get ms' k ≡ Some m) number (subst (λ (xs : List Mark). slice_get xs n ≡ Some m) marks at))

pub returns-then-first-last : goal.returns-then-first-last
returns-then-first-last c = λ e is.
    c.others_stay_covered.ensures c.args.indexed.now c.args.step.now e c.args.tables.now c.uncover_at.new.tables
    (c.marks-marks.ensures.are_marks, c.marks-marks.ensures.as_many) is
    (λ rules first last cover. c.uncover_at.ensures.still rules
    (same_place c.marks-marks.result.now c.args.indexed.now.marks c.items_of-first.result.0 (first_item c.args.step.now) rules c.marks-marks.ensures.marks (ap (λ (p : ℕ × ℕ). p.0) c.items_of-first.ensures) first) cover)

pub returns : goal.returns
returns c = λ e is.
    c.others_stay_covered.ensures c.args.indexed.now c.args.step.now e c.args.tables.now c.uncover_at-2.new.tables (c.marks-marks.ensures.are_marks, c.marks-marks.ensures.as_many) is
    (λ rules first last cover. c.uncover_at-2.ensures.still rules
    (same_place c.marks-marks.result.now c.args.indexed.now.marks c.items_of-first.result.1 (last_item c.args.step.now) rules c.marks-marks.ensures.marks (ap (λ (p : ℕ × ℕ). p.1) c.items_of-first.ensures) last)
    (c.uncover_at.ensures.still rules
    (same_place c.marks-marks.result.now c.args.indexed.now.marks c.items_of-first.result.0 (first_item c.args.step.now) rules c.marks-marks.ensures.marks (ap (λ (p : ℕ × ℕ). p.0) c.items_of-first.ensures) first) cover))
