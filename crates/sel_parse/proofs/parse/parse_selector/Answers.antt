use Rattle.std.proofs.Common.{sym, ◌∙◌}
use Rattle.css_model.specs.declared.reason.Reason.TheVariants.{NotAllowed}
use Rattle.sel_parse.proofs.ParseLemmas.{is_cut_off, is_refused, is_whole}
use Rattle.sel_parse.proofs.parse.parse_selector.Goals as goal

pub returns-then-stream : goal.returns-then-stream
returns-then-stream c = (
  NotAllowed,
  is_cut_off c.args.text.now c.as_slice.result.now c.in-Ok-read.selector (c.as_slice.ensures.value ∙ c.in-Ok.ensures.tokens)
      (sym c.if-stream.true ∙ c.in-Ok.ensures.fault) c.in-Ok-read.ensures,
  c.number.ensures,
)

pub returns-in-Ok-read : goal.returns-in-Ok-read
returns-in-Ok-read c =
    is_whole c.args.text.now c.as_slice.result.now c.in-Ok-read.selector (c.as_slice.ensures.value ∙ c.in-Ok.ensures.tokens)
    (sym c.if-stream.false ∙ c.in-Ok.ensures.fault) c.in-Ok-read.ensures

pub returns-in-Err-Outside : goal.returns-in-Err-Outside
returns-in-Err-Outside c = (
  c.in-Err-Outside.reason,
  is_refused c.args.text.now c.as_slice.result.now c.in-Ok.stream.ends_in_fault c.in-Err-Outside.reason (c.as_slice.ensures.value ∙ c.in-Ok.ensures.tokens)
      c.in-Ok.ensures.fault (rw c.in-Err-Outside.field-0-is at c.in-Err-Outside.ensures),
  c.number-in-Err-Outside.ensures,
)
