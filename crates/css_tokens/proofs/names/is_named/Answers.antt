use Rattle.std.proofs.Common.{ℕ, List, ◌≡◌, ◌+◌, ◌++◌, sym, ap, ◌∙◌, drop, get_or, arith}
use Rattle.std.specs.Str.{str_eq_ignore_ascii_case}
use Rattle.std.proofs.lemmas.List.{take_rest}
use Rattle.css_model.specs.Text.Names.{first_len, first_text, unescaped}
use Rattle.css_tokens.specs.Said.{said_text}
use Rattle.css_tokens.proofs.SaidLemmas.{unescaped_more}
use Rattle.css_tokens.proofs.names.is_named.Goals as goal

pub names-preserved : goal.names-preserved
names-preserved c =
    let name = c.args.name.now in
    let i = c.names.i in
    let n = c.first_said-said.result.1 in
    let said = c.first_said-said.result.0 in
    let first = get_or name i 0 in
    let rest = take_rest name (i + 1) in
    let len : first_len first (drop (i + 1) name) ≡ n = sym (c.first_said-said.ensures.len ∙ ap (first_len first) rest) in
    let text : said_text said ≡ first_text first (drop (i + 1) name) = c.first_said-said.ensures.text ∙ ap (first_text first) rest in
    let later = unescaped (drop (i + n) name) in
    let all : unescaped (drop i name) ≡ said_text said ++ later = unescaped_more name i n c.names-test.true len (omega arith) ∙ ap (λ (said : List ℕ). said ++ later) (sym text) in (
      sym (c.in-Some.ensures.cases later) ∙ ap (λ (said : List ℕ). str_eq_ignore_ascii_case said c.names.left.now) (sym all) ∙ c.names.invariant.0,
      c.in-Some.ensures.ascii,
      omega arith,
    )
