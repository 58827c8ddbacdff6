use Rattle.same_laws.proofs.Winning.{one_scene, win_alike}
use Rattle.same_laws.proofs.same.same_sheets_win_alike.Goals as goal

pub returns-clause-scenes : goal.returns-clause-scenes
returns-clause-scenes c =
    one_scene c.same_texts_are_opened_alike.ensures c.same_parts_keep.ensures c.listed_stands_last.ensures c.order_is_decided.ensures c.weighing_is_decided.ensures c.apart_selectors_do_not_meet.ensures c.keeping_is_mutual.ensures

pub returns-clause-winners : goal.returns-clause-winners
returns-clause-winners c =
    win_alike c.same_texts_are_opened_alike.ensures c.same_parts_keep.ensures c.listed_stands_last.ensures c.order_is_decided.ensures c.weighing_is_decided.ensures c.apart_selectors_do_not_meet.ensures c.keeping_keeps_winners.ensures
    c.scenes_give_meanings.ensures c.bodies_count_by_winners.ensures.sheets
