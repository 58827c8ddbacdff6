-- What the code's members stand for.
use Rattle.sheet_same.specs.declared.members.Kind.{Kind}
use Rattle.sheet_same.specs.declared.members.Kind.TheVariants as kinds
use Rattle.sheet_same.specs.Members.{Member, Paired, KeptAt}

-- a pair, or a kept item with its number (own)
abbrev pub member_seen : Kind → Member
member_seen (kinds.Pair x) = Paired x
member_seen (kinds.Kept n item) = KeptAt n item.now
