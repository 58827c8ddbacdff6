use Rattle.diff_laws.proofs.ForCallers.{all_tally}
use Rattle.same_diff_laws.proofs.Nothing.{differ_in_nothing}
use Rattle.same_diff_laws.proofs.same.same_sheets_differ_in_nothing.Goals as goal

pub returns : goal.returns
returns c =
    differ_in_nothing all_tally (record {
      listed = c.listed_stands_last.ensures;
      order = c.order_is_decided.ensures;
      weighing = c.weighing_is_decided.ensures;
      apart = c.apart_selectors_do_not_meet.ensures;
      alike = c.same_texts_are_opened_alike.ensures;
    })
