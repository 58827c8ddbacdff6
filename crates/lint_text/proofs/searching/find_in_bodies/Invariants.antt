use Rattle.std.proofs.Common.{◌≡◌, ◌++◌, length}
use Rattle.std.specs.List.{AllByRecursion, flat_map}
use Rattle.dead_sel.specs.Held.{is_dead}
use Rattle.media_groups.specs.Laws.{IsBlockOf}
use Rattle.media_groups.specs.Levels.{body_level}
use Rattle.lint_text.specs.Findings.{found_in, seen_of}
use Rattle.lint_text.proofs.searching.find_in_bodies.Given as goal

-- what was found, and what is found in the bodies that are left
abbrev pub invariant-bodies : goal.invariant-bodies
invariant-bodies l = record {
  found : l.found.items ++ flat_map (λ m. found_in (is_dead l.pairs.answers) (seen_of l.lines.text.now (body_level l.lines.text.now m))) l.rest
      ≡ l.fn.found.items ++ flat_map (λ m. found_in (is_dead l.pairs.answers) (seen_of l.lines.text.now (body_level l.lines.text.now m))) l.fn.media;
  blocks : AllByRecursion (IsBlockOf l.lines.text.now) l.rest;
}

abbrev pub decreases-bodies : goal.decreases-bodies
decreases-bodies l = length l.rest
