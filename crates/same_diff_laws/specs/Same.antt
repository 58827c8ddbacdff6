-- What `same` calls the same, `diff` calls the same.
use Rattle.std.specs.Prelude.{◌≡◌, ℕ, List, [], None}
use Rattle.std.specs.List.{Contains}
use Rattle.css_model.specs.declared.sheet.Item.{Item}
use Rattle.overlap.specs.PairsParts.{Answered}
use Rattle.same_laws.specs.Same.{AreSame}
use Rattle.sheet_members.specs.Compared.{changed, compared}
use Rattle.turned_members.specs.Telling.{IsJudged}
use Rattle.turned_members.specs.Turned.{Couple, turned}

-- Nothing is found between two sheets laid flat, by answers that are held: neither lacks a member of the other, none is changed, and
-- each couple that weighs and comes in another order is of two pairs that are answered to be apart, the one that comes first in the
-- first sheet asked first (own).
pub record NothingIsFound (held : List Answered) (source : List ℕ) (s : List Item) (other : List ℕ) (t : List Item) : Type 0 where
  pub none_missing : (compared source s other t).missing ≡ []
  pub none_extra : (compared source s other t).extra ≡ []
  pub none_changed : changed (compared source s other t) ≡ []
  pub all_apart : (c : Couple) → Contains (turned (compared source s other t).commons) c → IsJudged held c None

-- In two sheets that compare as the same nothing is found where they are laid flat, by the same answers. So what `same` calls the
-- same, `diff` calls the same: all that `diff` asks for is answered to be apart.
abbrev pub SameSheetsDifferInNothing : Type 0
SameSheetsDifferInNothing = (source : List ℕ) (s : List Item) (other : List ℕ) (t : List Item) (same : AreSame source s other t) → NothingIsFound same.pairs.answers source s other t
