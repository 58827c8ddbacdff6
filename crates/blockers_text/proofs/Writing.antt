-- Parts of lines that are written one after the other.
use Rattle.std.proofs.Common.{◌≡◌, ℕ, List, ◌++◌, refl, sym, ap, ◌∙◌, append_assoc}

-- a part more
pub part_more : (out x y wrote next : List ℕ) → wrote ≡ out ++ x → next ≡ wrote ++ y → next ≡ out ++ (x ++ y)
part_more out x y wrote next is more = more ∙ ap (λ (text : List ℕ). text ++ y) is ∙ append_assoc out x y

-- two parts more
pub parts_more : (out x y z wrote next : List ℕ) → wrote ≡ out ++ x → next ≡ wrote ++ (y ++ z) → next ≡ out ++ (x ++ y ++ z)
parts_more out x y z wrote next is more = part_more out (x ++ y) z (wrote ++ y) next (part_more out x y wrote (wrote ++ y) is refl) (more ∙ sym (append_assoc wrote y z))
