use Rattle.std.proofs.Common.{◌≡◌, ◌-◌, ℕ, suc, take, sym, ap, ◌∙◌, arith}
use Rattle.line_places.specs.Lines as spec
use Rattle.line_places.proofs.Beginnings.{last_taken}
use Rattle.line_places.proofs.lines.last_start.Goals as goal

pub returns-else-count-eq0 : goal.returns-else-count-eq0
returns-else-count-eq0 c =
    let count = c.args.count in
    let some : count ≡ suc (count - 1) = omega (arith, c.if-count-eq0.false) in
    sym (ap (λ (n : ℕ). spec.last_of c.args.first (take n c.args.starts.now)) some ∙ last_taken c.args.first (count - 1) 0 c.args.starts.now (omega (arith, some, c.requires)))
