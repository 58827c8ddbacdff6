use Rattle.std.proofs.Common.{ℕ, ◌≡◌, ◌+◌, ◌++◌, ◌∷◌, Some, None, List, sym, subst, take}
use Rattle.std.proofs.lemmas.List.{take_rest}
use Rattle.memchr.specs.Find.{IsFirstByte, is_byte}
use Rattle.doc_text.proofs.Pieces.{found_cut, found_none}
use Rattle.doc_text.proofs.cuts.cut.Goals as goal

pub returns-in-Some : goal.returns-in-Some
returns-in-Some c =
    let text = c.args.text.now in
    let i = c.in-Some.i in
    let found : IsFirstByte (is_byte c.args.at) text (Some i) = rw c.in-Some.is at c.memchr.ensures in
    let parts = found_cut c.args.at text i found in
    let rest = take_rest text (i + 1) in
    (subst (λ (more : List ℕ). text ≡ take i text ++ c.args.at ∷ more) (sym rest) parts.0, parts.1)

pub returns-in-None : goal.returns-in-None
returns-in-None c =
    let found : IsFirstByte (is_byte c.args.at) c.args.text.now None = rw c.in-None.is at c.memchr.ensures in
    found_none c.args.at c.args.text.now found
