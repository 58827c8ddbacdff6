use Rattle.dead_sel.specs.Held.{is_dead}
use Rattle.media_groups.specs.declared.media.Media.{Media}
use Rattle.media_groups.specs.Laws.{IsBlockOf}
use Rattle.media_groups.specs.Levels.{body_level}
use Rattle.lint_text.specs.Findings.{found_in, seen_of}
use Rattle.lint_text.proofs.Found.{next_found, next_holds}
use Rattle.lint_text.proofs.searching.find_in_bodies.Goals as goal

pub bodies-preserved : goal.bodies-preserved
bodies-preserved c =
    let text = c.args.lines.now.text.now in
    record {
      found = next_found (λ (m : Media). found_in (is_dead c.args.pairs.now.answers) (seen_of text (body_level text m))) c.bodies.rest.now c.block-item.result c.bodies.found.items c.find_in_body.new.found.items _
          c.in-len1-up.len_at_least c.block-item.is c.in_ok-find_in_body.ensures c.bodies.invariant.found;
      blocks = next_holds (IsBlockOf text) c.bodies.rest.now c.in-len1-up.len_at_least c.bodies.invariant.blocks;
    }
