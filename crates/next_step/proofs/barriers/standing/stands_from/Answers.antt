use Rattle.std.proofs.Common.{sym, true≢false, ◌∙◌}
use Rattle.indexed_sheet.specs.MarkList.{order_keys_of}
use Rattle.next_step.specs.Marked.{rules_of}
use Rattle.next_step.proofs.FromOrderKey.{cover_from, has_from}
use Rattle.next_step.proofs.barriers.standing.stands_from.Goals as goal

pub is_elsewhere-requires : goal.is_elsewhere-requires
is_elsewhere-requires c = cover_from c.args.from (rules_of c.args.indexed.now) c.args.tables.now c.requires.cover

pub returns : goal.returns
returns c = λ none n r order_key at order_key_at most other has.
    true≢false (sym (c.is_elsewhere.ensures.1 (
      order_key,
      other,
      (has_from c.args.from (rules_of c.args.indexed.now) order_key c.args.selector.now c.args.decl.now most).0
          (r, c.rules_are_order_keyed.ensures c.args.indexed.now.items (order_keys_of c.args.indexed.now.marks) n r order_key at order_key_at, has),
    )) ∙ none)
