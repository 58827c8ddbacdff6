use Rattle.std.proofs.Common.{sym, ◌∙◌}
use Rattle.std.proofs.lemmas.Bool.{false≢true}
use Rattle.css_model.specs.Sheets.KeptItems.{kept_before}
use Rattle.window_order.proofs.LastFound.{no}
use Rattle.window_order.proofs.WindowTests.{kept_reversed_told}
use Rattle.window_order.proofs.window.Window.is_kept_reversed_between.Goals as goal
use Rattle.window_order.specs.Reversed.{middle_of}

pub returns-then-not-has_other_kept_order : goal.returns-then-not-has_other_kept_order
returns-then-not-has_other_kept_order c = no (λ r. false≢true (sym c.if-not-has_other_kept_order.true ∙ c.has_other_kept_order.ensures.1 r.order))

pub returns : goal.returns
returns c =
    kept_reversed_told c.args.self.now c.args.p.now (kept_before c.args.place (middle_of c.args.self.now)) c.has_other_kept_order.result c.stands_behind.result c.if-not-has_other_kept_order.false
    c.has_other_kept_order.ensures c.stands_behind.ensures
