use Rattle.std.proofs.Common.{◌++◌, List, ap, ap₂, subst, sym, arith}
use Rattle.css_model.specs.Selectors.Tokens.{SelectorToken}
use Rattle.css_model.specs.Text.Tokens.{Stream}
use Rattle.css_tokens.specs.Laws.{Restarts}
use Rattle.css_tokens.specs.Left.{left}
use Rattle.sel_parse.proofs.TokenLemmas.{restarts_stand}
use Rattle.sel_parse.specs.Tokens.{tokens_of}
use Rattle.sel_parse.proofs.parse.tokens_of.Goals as goal

pub tokens-init : goal.tokens-init
tokens-init c =
    let text = c.args.text.now in
    let all = c.from_place-reader.ensures in
    record {
      parts = ap₂ (λ (xs : List SelectorToken) (s : Stream). xs ++ tokens_of text s.tokens) c.new-tokens.ensures.items all;
      fault = ap (λ (s : Stream). s.fault) all;
      stand = restarts_stand text 0 (left c.from_place-reader.result).tokens (subst (λ (s : Stream). Restarts text 0 s.tokens) (sym all) (c.tokens_restart.ensures text 0 (omega arith)));
      last = tt;
    }
