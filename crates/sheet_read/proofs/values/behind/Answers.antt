use Rattle.std.proofs.Common.{◌≡◌, ℕ, ◌<◌, List, [], ◌∷◌, ◌++◌, length, map, ap, arith}
use Rattle.css_model.specs.declared.token.Lexeme.{Lexeme}
use Rattle.css_model.specs.Text.Kept.{between, solid, value_text}
use Rattle.css_model.specs.Text.Source.{text_at}
use Rattle.sheet_read.proofs.values.behind.Goals as goal

before_others : (source : List ℕ) (x : Lexeme) (others : List Lexeme) (gap : List ℕ) → 0 < length others → gap ≡ between (solid source x)
    → text_at source x.span ++ gap ++ value_text (map (solid source) others) ≡ value_text (map (solid source) (x ∷ others))
before_others source x [] gap some is = absurd (omega arith)
before_others source x (y ∷ ys) gap some is = ap (λ part. text_at source x.span ++ part ++ value_text (map (solid source) (y ∷ ys))) is

pub returns-in_default : goal.returns-in_default
returns-in_default c =
    let source = c.args.source.now in
    let x = c.args.x.now in
    let here : c.between.result.now ≡ between (solid source x) = rw c.text-bytes.ensures at c.between.ensures in
    before_others source x c.args.others.now c.between.result.now (omega arith) here
