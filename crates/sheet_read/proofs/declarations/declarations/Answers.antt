use Rattle.std.proofs.Common.{refl}
use Rattle.sheet_read.specs.Placed.{IsPlaced}
use Rattle.sheet_read.proofs.Entries.{all_entries}
use Rattle.sheet_read.proofs.declarations.declarations.Goals as goal

pub loop-rest-init : goal.loop-rest-init
loop-rest-init c = rw c.block.ensures (record {
  placed = all_entries (IsPlaced c.args.source.now) c.args.item.now c.requires;
  same = rw c.new-decls.ensures.items refl;
})
