-- What the code's entries stand for.
use Rattle.order_laws.specs.Reversed as order
use Rattle.sheet_order.specs.declared.entries.Counterpart.{Counterpart}
use Rattle.sheet_order.specs.declared.entries.Counterpart.TheVariants as parts

-- a pair, or the number of a kept item (own)
abbrev pub other_seen : Counterpart → order.Other
other_seen (parts.Pair q) = order.AnotherPair q
other_seen (parts.Kept n) = order.KeptAt n
