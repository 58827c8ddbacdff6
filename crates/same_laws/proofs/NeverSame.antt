-- What is found is never that the sheets are the same.
use Rattle.std.proofs.Common.{◌≡◌, ℕ, List, Option, Some, None, refl}
use Rattle.css_model.specs.declared.sheet.Item.{Item}
use Rattle.media_groups.specs.declared.media.Media.{Media}
use Rattle.order_laws.specs.Places.{last_pairs}
use Rattle.overlap.specs.declared.answer.Answer.{Answer}
use Rattle.overlap.specs.declared.answer.Answer.TheVariants as answers
use Rattle.overlap.specs.PairsParts.{Answered}
use Rattle.sheet_order.specs.declared.places.PairPlace.{PairPlace}
use Rattle.sheet_order.specs.Places.{place_of}
use Rattle.sheet_same.specs.declared.compared.Compared.{Compared}
use Rattle.sheet_same.specs.declared.compared.Compared.TheVariants.{Same, Missing, Extra, KeptItem, Reversed, Unsure}
use Rattle.sheet_same.specs.Compared.{first_of, found_in_parts, FoundBehind, IsFound}
use Rattle.sheet_same.specs.Judging.{found_by, JudgesMembers}
use Rattle.sheet_same.specs.Kept.{first_differing}
use Rattle.sheet_same.specs.Lacking.{first_lacking}
use Rattle.sheet_same.specs.Members.{Member, Paired, KeptAt, members}

never_in_parts : (a b : Option PairPlace) (k : Option ℕ) → first_of a b k ≡ Some Same → ⊥
never_in_parts (Some place) b k h = let e : Some (Missing place) ≡ Some Same = h in cc
never_in_parts None (Some place) k h = let e : Some (Extra place) ≡ Some Same = h in cc
never_in_parts None None (Some number) h = let e : Some (KeptItem number) ≡ Some Same = h in cc
never_in_parts None None None h = let e : None ≡ Some Same = h in cc

never_by : (p q : PairPlace) (answer : Answer) → found_by p q answer ≡ Some Same → ⊥
never_by p q answers.Apart h = let e : None ≡ Some Same = h in cc
never_by p q (answers.Meet example) h = let e : Some (Reversed p q example) ≡ Some Same = h in cc
never_by p q (answers.Outside reason number) h = let e : Some (Unsure reason) ≡ Some Same = h in cc
never_by p q (answers.Spent ledger) h = let e : Some (Unsure 0) ≡ Some Same = h in cc

never_in_members : (held : List Answered) (items : List Item) (m x : Member) → JudgesMembers held items m x (Some Same) → ⊥
never_in_members held items (Paired x) (Paired y) h = never_by (place_of x.place) (place_of y.place) h.answer h.says
never_in_members held items (Paired x) (KeptAt n item) h = let e = h in cc
never_in_members held items (KeptAt n item) m h = let e = h in cc

pub never_found : (held : List Answered) (source : List ℕ) (media : List Media) (s : List Item) (other : List ℕ) (media' : List Media) (t : List Item) → IsFound held source media s other media' t (Some Same) → ⊥
never_found held source media s other media' t h = which (found_in_parts source media s other media' t) refl h
  where
    which : (o : Option Compared) → found_in_parts source media s other media' t ≡ o → FoundBehind held s t o (Some Same) → ⊥
    which (Some found) e g =
        let same : found ≡ Same = let f : Some Same ≡ Some found = g in cc in
        let parts : first_of (first_lacking (last_pairs t) (members s)) (first_lacking (last_pairs s) (members t)) (first_differing source media s other media' t) ≡ Some found = e in
        never_in_parts (first_lacking (last_pairs t) (members s)) (first_lacking (last_pairs s) (members t)) (first_differing source media s other media' t) (let a = parts in let b = same in cc)
    which None e g = never_in_members held s g.couple.earlier g.couple.later g.judges
