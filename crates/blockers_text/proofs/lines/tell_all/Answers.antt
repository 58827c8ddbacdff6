use Rattle.std.proofs.Common.{◌∷◌, [], List, ℕ, map, sym, subst, ◌∙◌}
use Rattle.std.specs.List.{AllByRecursion}
use Rattle.blockers_text.proofs.Answered.{grows_on}
use Rattle.blockers_text.proofs.Telling.{tells_all}
use Rattle.blockers_text.proofs.lines.tell_all.Goals as goal
use Rattle.blockers_text.specs.declared.totals.Weighed.{Weighed}
use Rattle.blockers_text.specs.Later.{IsLater, seen}
use Rattle.blockers_text.specs.Levels.{TellsLevels}
use Rattle.blockers_text.specs.Lines.{Ranked}
use Rattle.media_groups.specs.Laws.{IsBlockOf}
use Rattle.media_groups.specs.Levels.{body_level, outer_level}
use Rattle.step_laws.specs.Free.{Answered}

pub tell_bodies-requires : goal.tell_bodies-requires
tell_bodies-requires c =
    subst (λ (text : List ℕ). AllByRecursion (IsBlockOf text) c.deref.result.now) (sym c.in_ok-lines.ensures)
    (subst (AllByRecursion (IsBlockOf c.args.source.now)) (sym (c.deref.ensures.value ∙ c.in_ok-media.ensures)) (c.opened_blocks_are_sheets.ensures.sheets c.args.source.now c.args.sheet.now.items))

pub returns-in_err-tell_bodies-clause-grows : goal.returns-in_err-tell_bodies-clause-grows
returns-in_err-tell_bodies-clause-grows c = grows_on c.args.pairs.now c.tell_level.new.pairs c.tell_bodies.new.pairs c.tell_level.ensures.grows c.tell_bodies.ensures.grows

pub returns-clause-grows : goal.returns-clause-grows
returns-clause-grows c = grows_on c.args.pairs.now c.tell_level.new.pairs c.tell_bodies.new.pairs c.tell_level.ensures.grows c.tell_bodies.ensures.grows

pub returns-clause-tells : goal.returns-clause-tells
returns-clause-tells c =
    let source = c.args.source.now in
    let items = c.args.sheet.now.items in
    let p = c.tell_level.new.pairs in
    let q = c.tell_bodies.new.pairs in
    let between = c.tell_level.new.told in
    let outer : (later : List Answered) → IsLater (seen p) later → TellsLevels later source (outer_level source items ∷ []) [] between.weighed.items [] between.ranked.items =
    λ later is. subst (λ (text : List ℕ). TellsLevels later text (outer_level source items ∷ []) [] between.weighed.items [] between.ranked.items) c.in_ok-lines.ensures
    (subst (λ (ranked : List Ranked). TellsLevels later c.in_ok-lines.lines.text.now (outer_level source items ∷ []) [] between.weighed.items ranked between.ranked.items) c.nothing-told.ensures.ranked
    (subst (λ (weighed : List Weighed). TellsLevels later c.in_ok-lines.lines.text.now (outer_level source items ∷ []) weighed between.weighed.items c.nothing-told.result.ranked.items between.ranked.items) c.nothing-told.ensures.weighed
    (c.in_ok-tell_level.ensures.tells later is))) in
    tells_all source items c.deref.result.now p q c.tell_bodies.ensures.grows between.weighed.items c.tell_bodies.new.told.weighed.items between.ranked.items c.tell_bodies.new.told.ranked.items (c.deref.ensures.value ∙ c.in_ok-media.ensures) outer
    (λ later is. subst (λ (text : List ℕ). TellsLevels later text (map (body_level text) c.deref.result.now) between.weighed.items c.tell_bodies.new.told.weighed.items between.ranked.items c.tell_bodies.new.told.ranked.items)
    c.in_ok-lines.ensures (c.in_ok-tell_bodies.ensures.tells later is))
