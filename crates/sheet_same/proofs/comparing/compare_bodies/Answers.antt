use Rattle.std.proofs.Common.{◌≡◌, List, [], ◌∷◌, length, Option, ap, subst, arith}
use Rattle.std.specs.List.{AllByRecursion}
use Rattle.css_model.specs.Text.Source.{text_at}
use Rattle.media_groups.specs.declared.media.Media.{Media}
use Rattle.media_groups.specs.Laws.{IsBlockOf}
use Rattle.sheet_order.proofs.ForCallers.{stays_on}
use Rattle.sheet_same.specs.declared.compared.Compared.{Compared}
use Rattle.sheet_same.specs.Compared.{IsFound}
use Rattle.sheet_same.proofs.Bodies.{next_rest}
use Rattle.sheet_same.proofs.comparing.compare_bodies.Goals as goal

pub bodies-preserved : goal.bodies-preserved
bodies-preserved c =
    let first : c.bodies.rest.now ≡ c.in-Some.block.now ∷ c.in-Some.behind.now = c.in-Some.ensures.cases.0 in
    let second : c.bodies.more.now ≡ c.in-Some-split_first.other.now ∷ c.in-Some-split_first.after.now = c.in-Some-split_first.ensures.cases.0 in
    let less : length c.bodies.rest.now ≡ length (c.in-Some.block.now ∷ c.in-Some.behind.now) = ap length first in
    let few = c.bodies.invariant.few in
    record {
      stays = stays_on c.args.pairs.now c.bodies.pairs c.found_in_bodies.new.pairs c.bodies.invariant.stays c.found_in_bodies.ensures.stays;
      first = (subst (λ (xs : List Media). AllByRecursion (IsBlockOf c.args.source.now) xs) first c.bodies.invariant.first).1;
      second = (subst (λ (xs : List Media). AllByRecursion (IsBlockOf c.args.there.now) xs) second c.bodies.invariant.second).1;
      few = omega (arith, few, less);
      tells = λ q d stays h.
          c.bodies.invariant.tells q d (stays_on c.bodies.pairs c.found_in_bodies.new.pairs q c.found_in_bodies.ensures.stays stays)
          (next_rest c.bodies.number c.args.source.now c.bodies.rest.now c.in-Some.block.now c.in-Some.behind.now c.args.there.now c.bodies.more.now c.in-Some-split_first.other.now c.in-Some-split_first.after.now first second
          c.found_in_bodies.new.pairs q stays d
          (subst (λ (o : Option Compared). IsFound c.found_in_bodies.new.pairs.answers (text_at c.args.source.now c.in-Some.block.now.body) [] c.in-Some.block.now.sheet.items (text_at c.args.there.now c.in-Some-split_first.other.now.body) [] c.in-Some-split_first.other.now.sheet.items o)
          c.in_default-2.is c.in_ok-compared.ensures.found) h);
    }
