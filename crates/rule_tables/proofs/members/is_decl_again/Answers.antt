use Rattle.std.proofs.Common.{◌≡◌, ◌↔◌, ◌+◌, true, List, map, refl, subst, sym, true≢false}
use Rattle.std.specs.List.{Contains}
use Rattle.css_model.specs.declared.sheet.DeclItem.{DeclItem}
use Rattle.rule_tables.proofs.PartTests.{one_second, others_are}
use Rattle.rule_tables.proofs.members.is_decl_again.Goals as goal

pub returns : goal.returns
returns c =
    one_second c.is_decl_among.result c.is_decl_among.ensures (others_are (λ (x : DeclItem). x.decl) c.args.decls.now c.args.number (c.args.number + 1) c.args.decl.now refl) c.if-is_decl_among.false
    c.is_decl_among-2.result
    (subst (λ (xs : List DeclItem). (c.is_decl_among-2.result ≡ true) ↔ Contains (map (λ (x : DeclItem). x.decl) xs) c.args.decl.now) c.decls_behind.ensures c.is_decl_among-2.ensures)

pub returns-then-once : goal.returns-then-once
returns-then-once c = (λ h. absurd (true≢false (sym h)), λ h. absurd (c.requires.once c.if-once.true h))
