-- The greatest of some occurrences, one after the other.
use Rattle.std.proofs.Common.{◌≡◌, ◌≤◌, ◌-◌, List, [], ◌∷◌, length, get_or, take, drop, Option, None, refl, sym, ap, ap₂, subst, ◌∙◌, arith}
use Rattle.std.specs.List.{AllByRecursion}
use Rattle.std.proofs.lemmas.List.{take_rest}
use Rattle.css_model.specs.declared.example.Example.{Example}
use Rattle.sheet_members.specs.Occurrences.{Occurrence}
use Rattle.sheet_members.specs.Ready.{IsReady}
use Rattle.turned_members.specs.Turned.{Couple}
use Rattle.diff_text.specs.Winning.{greatest_from}

-- the first of a list, and the others
pub cut_first : {X : Type 0} (rest : List X) (x : X) → 1 ≤ length rest → x ≡ get_or rest 0 x → rest ≡ x ∷ take (length rest - 1) (drop 1 rest)
cut_first [] x some is = absurd (omega (arith, some))
cut_first {X = X} (y ∷ rest) x some is = ap₂ (λ (z : X) (zs : List X). z ∷ zs) (sym is) (sym (take_rest (y ∷ rest) 1))

pub ready_next : (rest : List Occurrence) (o : Occurrence) → 1 ≤ length rest → o ≡ get_or rest 0 o → AllByRecursion IsReady rest → IsReady o × AllByRecursion IsReady (take (length rest - 1) (drop 1 rest))
ready_next rest o some is ready = subst (AllByRecursion IsReady) (cut_first rest o some is) ready

pub greatest_next : (x : Example) (c : Couple) (old best : Option Occurrence) (o : Occurrence) (all rest : List Occurrence) → 1 ≤ length rest → o ≡ get_or rest 0 o →
    ((more : List Occurrence) → greatest_from x c best more ≡ greatest_from x c old (o ∷ more)) → greatest_from x c old rest ≡ greatest_from x c None all →
    greatest_from x c best (take (length rest - 1) (drop 1 rest)) ≡ greatest_from x c None all
greatest_next x c old best o all rest some is greater so =
    greater (take (length rest - 1) (drop 1 rest)) ∙ ap (greatest_from x c old) (sym (cut_first rest o some is)) ∙ so
