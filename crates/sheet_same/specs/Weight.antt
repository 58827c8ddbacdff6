-- What of members tells at once that they do not weigh with one another.
use Rattle.std.specs.Prelude.{◌==◌, Bool, true, false, not, ◌&&◌, Option, Some, None, bit_and}
use Rattle.css_model.specs.Documents.Specificity.{specificity_of}
use Rattle.related_props.specs.Masks.{decl_mask, item_mask}
use Rattle.sheet_same.specs.contracts.weight.RankPartialEq.TheImpl as ranks
use Rattle.sheet_same.specs.declared.weight.Rank.{Rank}
use Rattle.sheet_same.specs.declared.weight.Weight.{Weight}
use Rattle.sheet_same.specs.Members.{Member, Paired, KeptAt}

-- the weight of a member (own): of a pair the mask of its declaration and the rank that it applies with, of a kept item its mask
abbrev pub weight_of : Member → Weight
weight_of (Paired x) = record {
  mask = decl_mask x.pair.decl;
  rank = Some (record { important = x.pair.decl.important; specificity = specificity_of x.pair.selector });
}
weight_of (KeptAt n item) = record { mask = item_mask item; rank = None }

-- whether members of these ranks may weigh: two pairs only with equal ones, and two kept items never
abbrev pub ranks_agree : Option Rank → Option Rank → Bool
ranks_agree None None = false
ranks_agree (Some r) None = true
ranks_agree None (Some r) = true
ranks_agree (Some r) (Some r') = (ranks.ghosts).eq r r'

-- whether members of these weights may weigh (own): where they do not, the members do not
abbrev pub may_weigh : Weight → Weight → Bool
may_weigh v w = not (bit_and v.mask w.mask == 0) && ranks_agree v.rank w.rank
