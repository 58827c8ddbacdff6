use Rattle.std.proofs.Common.{◌≡◌, ◌-◌, ◌∷◌, length, map, take, drop, subst}
use Rattle.std.specs.List.{AllByRecursion}
use Rattle.css_model.specs.Text.Source.{text_at}
use Rattle.media_groups.specs.Laws.{IsBlockOf}
use Rattle.merge_plan.proofs.ForCallers.{done_more, stays_on}
use Rattle.merge_report.proofs.Inside.{AreDone, cut_media, found_on}
use Rattle.merge_report.proofs.remaining.remaining_inside.Goals as goal
use Rattle.sheet_order.specs.Laws.{answer_seen}

pub remaining_in_block-requires-clause-done : goal.remaining_in_block-requires-clause-done
remaining_in_block-requires-clause-done c =
    let rest = c.bodies.rest.now in
    let cut : rest ≡ c.block-item.result ∷ take (length rest - 1) (drop 1 rest) = cut_media rest c.block-item.result c.in-len1-up.len_at_least c.block-item.is in
    done_more c.args.pairs.now c.bodies.pairs c.bodies.invariant.stays (text_at c.args.source.now c.block-item.result.body) c.block-item.result.sheet.items
    (subst (AreDone (map answer_seen c.args.pairs.now.answers) c.args.source.now) cut c.bodies.invariant.done).0

pub bodies-preserved : goal.bodies-preserved
bodies-preserved c =
    let rest = c.bodies.rest.now in
    let cut : rest ≡ c.block-item.result ∷ take (length rest - 1) (drop 1 rest) = cut_media rest c.block-item.result c.in-len1-up.len_at_least c.block-item.is in
    record {
      stays = stays_on c.args.pairs.now c.bodies.pairs c.remaining_in_block.new.pairs c.bodies.invariant.stays c.in_ok-more.ensures.stays;
      blocks = (subst (AllByRecursion (IsBlockOf c.args.source.now)) cut c.bodies.invariant.blocks).1;
      done = (subst (AreDone (map answer_seen c.args.pairs.now.answers) c.args.source.now) cut c.bodies.invariant.done).1;
      are = found_on c.bodies.pairs c.remaining_in_block.new.pairs c.in_ok-more.ensures.stays c.args.source.now c.args.media.now rest c.block-item.result (take (length rest - 1) (drop 1 rest)) c.bodies.found.items
          c.append.new.self.items c.in_ok-more.more.items c.bodies.invariant.are cut c.in_ok-more.ensures.are c.in_ok-append.ensures.items;
    }
