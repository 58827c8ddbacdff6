use Rattle.std.proofs.Common.{◌≡◌, ◌+◌, length, true}
use Rattle.std.specs.Str.{IsUtf8}
use Rattle.css_model.specs.Text.Tokens.{tokens}
use Rattle.css_tokens.specs.Left.{left}
use Rattle.bench_counts.proofs.tokens.token_count.Given as goal

abbrev pub invariant-tokens : goal.invariant-tokens
invariant-tokens l =
    IsUtf8 l.source × (l.count + length (left l.tokens).tokens ≡ length (tokens l.source true).tokens) × ((left l.tokens).fault ≡ (tokens l.source true).fault)

abbrev pub decreases-tokens : goal.decreases-tokens
decreases-tokens l = length (left l.tokens).tokens
