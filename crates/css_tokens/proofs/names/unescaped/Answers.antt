use Rattle.std.proofs.Common.{ℕ, List, ◌≡◌, ◌+◌, ◌++◌, sym, ap, ◌∙◌, drop, get_or, arith, append_assoc}
use Rattle.std.proofs.lemmas.List.{take_rest}
use Rattle.css_model.specs.Text.Names.{first_len, first_text, unescaped}
use Rattle.css_tokens.specs.Said.{said_text}
use Rattle.css_tokens.proofs.SaidLemmas.{unescaped_more}
use Rattle.css_tokens.proofs.names.unescaped.Goals as goal

pub names-preserved : goal.names-preserved
names-preserved c =
    let whole = c.args.text.now in
    let i = c.names.i in
    let n = c.first_said-said.result.1 in
    let said = c.first_said-said.result.0 in
    let first = get_or whole i 0 in
    let rest = take_rest whole (i + 1) in
    let len : first_len first (drop (i + 1) whole) ≡ n = sym (c.first_said-said.ensures.len ∙ ap (first_len first) rest) in
    let text : said_text said ≡ first_text first (drop (i + 1) whole) = c.first_said-said.ensures.text ∙ ap (first_text first) rest in
    let later = unescaped (drop (i + n) whole) in
    let all : unescaped (drop i whole) ≡ said_text said ++ later = unescaped_more whole i n c.names-test.true len (omega arith) ∙ ap (λ (said : List ℕ). said ++ later) (sym text) in
    let out = c.names.out.items in (
      ap (λ (out : List ℕ). out ++ later) c.in_ok-push_said.ensures ∙ append_assoc out (said_text said) later
          ∙ ap (λ (more : List ℕ). out ++ more) (sym all) ∙ c.names.invariant.0,
      omega arith,
    )
