use Rattle.std.proofs.Common.{◌≡◌, ℕ, length, subst, arith}
use Rattle.css_model.specs.Text.Lexemes.{piece_of}
use Rattle.sheet_read.specs.Cut.{AreFirst}
use Rattle.sheet_read.proofs.Rooms.{first_may}
use Rattle.sheet_read.proofs.read.rule_of.Goals as goal

pub returns-in-Ok : goal.returns-in-Ok
returns-in-Ok c =
    let piece = piece_of c.args.item.now in
    let first = c.in-Ok.ensures in
    let len : c.len.result ≡ length c.args.decls.items = omega (arith, c.len.ensures) in
    rw (c.style_rule.ensures piece, first.1)
    (first_may c.args.room piece c.args.decls.items c.in-Ok.selectors.items first.0
    (subst (λ (n : ℕ). AreFirst n c.args.room c.in-Ok.selectors.items first.0) len first.2))
