-- What of common members shows at once that they do not weigh.
use Rattle.std.specs.Prelude.{ℕ, ◌==◌, Bool, true, not, ◌&&◌, Option, Some, None, bit_and}
use Rattle.css_model.specs.Documents.Specificity.{specificity_of}
use Rattle.related_props.specs.Masks.{decl_mask, item_mask}
use Rattle.sheet_members.specs.Occurrences.{Part, Paired, Kept}
use Rattle.turned_members.specs.contracts.weight.RankPartialEq.TheImpl as ranks
use Rattle.turned_members.specs.declared.weight.Rank.{Rank}
use Rattle.turned_members.specs.declared.weight.Weight.{Weight}

-- the weight of a part (own): of a pair the mask of its declaration and the rank that it applies with, of a kept item its mask
abbrev pub weight_of : Part → Weight
weight_of (Paired s d) = record {
  mask = decl_mask d.decl;
  rank = Some (record { important = d.decl.important; specificity = specificity_of s.selector });
}
weight_of (Kept item) = record { mask = item_mask item; rank = None }

abbrev pub have_common : (mask other : ℕ) → Bool
have_common mask other = not (bit_and mask other == 0)

-- whether members of these masks and ranks may weigh: two pairs only with equal ranks, and two kept items always
abbrev pub ranks_may : (masks : Bool) → Option Rank → Option Rank → Bool
ranks_may masks None None = true
ranks_may masks None (Some r) = masks
ranks_may masks (Some r) None = masks
ranks_may masks (Some r) (Some r') = masks && (ranks.ghosts).eq r r'

-- whether members of these weights may weigh (own): where they do not, the members do not
abbrev pub may_weigh : Weight → Weight → Bool
may_weigh v w = ranks_may (have_common v.mask w.mask) v.rank w.rank
