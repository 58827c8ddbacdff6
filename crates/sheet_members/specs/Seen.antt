-- What the code's parts stand for.
use Rattle.sheet_members.specs.declared.occurrence.Part as declared
use Rattle.sheet_members.specs.declared.occurrence.Part.TheVariants as parts
use Rattle.sheet_members.specs.Occurrences.{Part, Paired, Kept}

-- a pair or a kept item (own)
abbrev pub part_seen : declared.Part → Part
part_seen (parts.Pair s d) = Paired s.now d.now
part_seen (parts.Kept item) = Kept item.now
