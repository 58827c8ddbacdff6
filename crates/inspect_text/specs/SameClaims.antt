-- That two claims are the same exactly where they are equal.
use Rattle.std.proofs.Common.{◌≡◌, ℕ, List, Bool, true, false, Option, Some, None, refl, sym, ap, ap₂}
use Rattle.std.specs.Bool.{Decides}
use Rattle.std.specs.Cmp.Lexicographic.{bytes_decides}
use Rattle.std.proofs.lemmas.Bool.{and_from, and_parts, false≢true}
use Rattle.css_model.specs.Lists.{same_text}
use Rattle.inspect_laws.specs.Words.{same_head}
use Rattle.inspect_text.specs.Claims.{ClaimParts, same_claim}

head_or : List ℕ → Option (List ℕ) → List ℕ
head_or other None = other
head_or other (Some head) = head

pub head_decides : (a b : Option (List ℕ)) → Decides (same_head a b) (a ≡ b)
head_decides None None = (λ h. refl, λ e. refl)
head_decides None (Some b) = (λ h. absurd (false≢true h), λ e. absurd (let none : ⊥ = cc in none))
head_decides (Some a) None = (λ h. absurd (false≢true h), λ e. absurd (let none : ⊥ = cc in none))
head_decides (Some a) (Some b) = (λ h. ap Some ((bytes_decides a b).0 h), λ e. (bytes_decides a b).1 (let same : a ≡ b = cc in same))

pub claim_decides : (a b : ClaimParts) → Decides (same_claim a b) (a ≡ b)
claim_decides a b = (
  λ same. let w = and_parts (same_text a.name b.name) (same_head a.head b.head) same in
      ap₂ (λ (name : List ℕ) (head : Option (List ℕ)). record { name = name; head = head }) ((bytes_decides a.name b.name).0 w.0) ((head_decides a.head b.head).0 w.1),
  λ e. and_from (same_text a.name b.name) (same_head a.head b.head)
      ((bytes_decides a.name b.name).1 (ap (λ (c : ClaimParts). c.name) e)) ((head_decides a.head b.head).1 (ap (λ (c : ClaimParts). c.head) e)),
)
