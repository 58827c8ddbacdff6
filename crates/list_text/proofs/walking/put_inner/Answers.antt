use Rattle.std.proofs.Common.{◌-◌, ◌++◌, false, length, map, take, drop, subst, arith, ap}
use Rattle.std.specs.List.{enumerate_from}
use Rattle.doc_text.specs.DocText.{ended}
use Rattle.css_model.specs.Sheets.Sound.{IsSound}
use Rattle.list_text.specs.ListTexts.{item_line}
use Rattle.list_text.proofs.Writing.{cons_of, inner_more}
use Rattle.list_text.proofs.walking.put_inner.Goals as goal

pub items-preserved : goal.items-preserved
items-preserved c =
    let rest = c.items.rest.now in
    let others = take (length rest - 1) (drop 1 rest) in
    let item = c.item-item.result in
    let cut = cons_of rest item c.in-len1-up.len_at_least c.item-item.is in
    record {
      text = inner_more (item_line c.args.lines.now.text.now c.args.level.now false) c.items.before item others rest c.items.out.items c.put_line.new.out.items (c.args.out.now.items ++ ended (map (item_line c.args.lines.now.text.now c.args.level.now false) (enumerate_from 1 c.args.level.now.items))) cut c.items.invariant.text c.in_ok-put_line.ensures;
      sound = (subst (IsSound c.args.level.now.source) cut c.items.invariant.sound).1;
      size = omega (arith, ap length cut, c.items.invariant.size);
    }
