use Rattle.std.proofs.Common.{ℕ, List, Some, None, ◌≡◌, ◌+◌, ◌-◌, false, true, sym, ap, ◌∙◌, drop, length, arith}
use Rattle.std.proofs.lemmas.List.{take_rest, length-drop}
use Rattle.memchr.specs.Find.{IsFirstByte, is_byte}
use Rattle.css_model.specs.Text.Characters.{backslash}
use Rattle.css_model.specs.Text.Units.{escape_after}
use Rattle.css_model.specs.Text.Kept.{is_open_escape, is_open}
use Rattle.css_tokens.proofs.EscapeLemmas.{ends_none, ends_shut, ends_true}
use Rattle.css_tokens.proofs.escapes.ends_open.Goals as goal

pub returns-then-is_open_escape : goal.returns-then-is_open_escape
returns-then-is_open_escape c =
    let rest = c.escapes.rest.now in
    let n = c.in-Some.at in
    let found : IsFirstByte (is_byte backslash) rest (Some n) = rw c.in-Some.is at c.memchr.ensures in
    let whole : is_open_escape (drop (n + 1) rest) ≡ true = ap is_open_escape (sym (take_rest rest (n + 1))) ∙ sym c.is_open_escape.ensures ∙ c.if-is_open_escape.true in
    sym (ends_true rest n found whole) ∙ c.escapes.invariant.0

pub escapes-preserved : goal.escapes-preserved
escapes-preserved c =
    let rest = c.escapes.rest.now in
    let n = c.in-Some.at in
    let m = c.saturating_sub.result in
    let found : IsFirstByte (is_byte backslash) rest (Some n) = rw c.in-Some.is at c.memchr.ensures in
    let behind = take_rest rest (n + 1) in
    let shut : is_open_escape (drop (n + 1) rest) ≡ false = ap is_open_escape (sym behind) ∙ sym c.is_open_escape.ensures ∙ c.if-is_open_escape.false in
    let len : m ≡ escape_after (drop (n + 1) rest) - 1 = c.saturating_sub.ensures ∙ ap (λ (n : ℕ). n - 1) (c.escape_after.ensures.value ∙ ap escape_after behind) in
    let left : c.after-rest.result.now ≡ drop m (drop (n + 1) rest) = c.after-rest.ensures ∙ ap (λ (text : List ℕ). drop m text) behind in (
      ap is_open left ∙ ends_shut rest n m found shut len ∙ c.escapes.invariant.0,
      omega (arith, c.escapes.invariant.1, ap length left, length-drop m (drop (n + 1) rest), length-drop (n + 1) rest),
    )

pub returns : goal.returns
returns c =
    let rest = c.escapes.rest.now in
    let found : IsFirstByte (is_byte backslash) rest None = rw c.in_default.is at c.memchr.ensures in
    sym (ends_none rest found) ∙ c.escapes.invariant.0
