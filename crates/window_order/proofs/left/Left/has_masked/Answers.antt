use Rattle.css_model.specs.Cascade.Order.{Pair}
use Rattle.css_model.specs.declared.sheet.Decl.{Decl}
use Rattle.css_model.specs.Documents.SelectorParts.{SelectorParts}
use Rattle.window_order.proofs.LastFound.{no}
use Rattle.window_order.proofs.MaskedTests.{uncovered}
use Rattle.window_order.proofs.left.Left.has_masked.Goals as goal
use Rattle.window_order.specs.Left.{items_of}

abbrev pair : SelectorParts → Decl → Pair
pair s d = record { selector = s; decl = d }

pub returns-then-not-meets : goal.returns-then-not-meets
returns-then-not-meets c = no (uncovered c.args.mask c.p.inside.mask (items_of c.args.self.now) c.args.p.now (pair c.p.inside.selector.now c.p.inside.decl.now) c.meets.result c.requires c.p.view_is c.p.inside.masked c.meets.ensures c.if-not-meets.true)
