-- What entries before another one set, and where (own).
use Rattle.std.specs.Prelude.{◌≡◌, ℕ, Bool, ◌&&◌, ◌||◌, ◌++◌, List, [], Option, Some, None, codes}
use Rattle.std.specs.Hash as fed
use Rattle.std.specs.List.{list_any}
use Rattle.css_model.specs.Lists.{same_text}
use Rattle.inspect_laws.specs.Entries.{Entry}
use Rattle.inspect_laws.specs.Words.{applies_with, same_head, sets_of}

-- a property, set in the blocks with one head, or in none
pub record ClaimParts : Type 0 where
  pub name : List ℕ
  pub head : Option (List ℕ)

abbrev pub same_claim : ClaimParts → ClaimParts → Bool
same_claim a b = same_text a.name b.name && same_head a.head b.head

-- what an entry sets, and where
abbrev pub claim_of : Entry → ClaimParts
claim_of e = record { name = e.decl.name; head = e.head }

-- whether one of these entries sets this there
abbrev pub is_claimed : List Entry → ClaimParts → Bool
is_claimed before claim = list_any (λ f. same_claim (claim_of f) claim) before

-- whether one of these entries sets this property in the blocks with this head, or in no block
abbrev pub is_set_with : List Entry → (name : List ℕ) → (head : Option (List ℕ)) → Bool
is_set_with before name head = list_any (λ f. same_text f.decl.name name && (same_head f.head None || same_head f.head head)) before

-- whether one sets it or `all` there
abbrev pub is_overridden : List Entry → (name : List ℕ) → (head : Option (List ℕ)) → Bool
is_overridden before name head = is_set_with before name head || is_set_with before (codes "all") head

-- whether one of these entries sets what another one sets wherever that one applies
abbrev pub is_beaten : (before : List Entry) → Entry → Bool
is_beaten before e = list_any (λ f. sets_of f e && applies_with f e) before

-- these keys are the claims of these entries
abbrev pub AreClaims : List Entry → (keys : List ClaimParts) → Type 0
AreClaims before keys = (claim : ClaimParts) → list_any (same_claim claim) keys ≡ is_claimed before claim

-- what is fed to a hasher
abbrev pub head_fed : Option (List ℕ) → fed.HashWrites
head_fed None = []
head_fed (Some head) = fed.slice fed.u8 head

abbrev pub claim_fed : ClaimParts → fed.HashWrites
claim_fed claim = fed.slice fed.char claim.name ++ head_fed claim.head
