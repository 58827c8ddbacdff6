use Rattle.std.proofs.Common.{◌≡◌, ◌^◌, ◌<◌, ◌++◌, ◌∷◌, ℕ, List, codes, sym, ◌∙◌, arith}
use Rattle.std.specs.Prelude.{decimal}
use Rattle.rup_check.specs.Text.{head_text}
use Rattle.rup_check.proofs.FrontLemmas.{front-tail, head-parts, number-unique}
use Rattle.rup_check.proofs.lines.head.Goals as goal

-- what follows the number of variables
behind : (text r1 r2 rest : List ℕ) (vars count v : ℕ) → v < 2 ^ 32 → vars < 2 ^ 32 → text ≡ head_text vars count ++ rest → text ≡ codes "vars " ++ r1 → r1 ≡ decimal v ++ 32 ∷ r2 → r2 ≡ codes "clauses " ++ (decimal count ++ 10 ∷ rest)
behind text r1 r2 rest vars count v hv hs e a b =
    let tail = codes "clauses " ++ (decimal count ++ 10 ∷ rest) in
    let first = front-tail (codes "vars ") r1 (decimal vars ++ 32 ∷ tail) (sym a ∙ (e ∙ head-parts vars count rest)) in
    (number-unique v vars 32 r2 tail (omega arith) (omega arith) (omega arith) (sym b ∙ first)).1

pub returns-in-None-after : goal.returns-in-None-after
returns-in-None-after c vars count rest bv bc e =
    let n = c.in-Some-number.ensures in
    let k = n.0 in
    c.in-None-after.ensures (decimal count ++ 10 ∷ rest) (behind c.args.text.now c.in-Some.rest.now c.in-Some-number.found.1.now rest vars count c.in-Some-number.found.0 (omega arith) (omega arith) e c.in-Some.ensures n.1)

pub returns-in-None-number-2 : goal.returns-in-None-number-2
returns-in-None-number-2 c vars count rest bv bc e =
    let n = c.in-Some-number.ensures in
    let k = n.0 in
    let tail = behind c.args.text.now c.in-Some.rest.now c.in-Some-number.found.1.now rest vars count c.in-Some-number.found.0 (omega arith) (omega arith) e c.in-Some.ensures n.1 in
    c.in-None-number-2.ensures count rest bc (front-tail (codes "clauses ") c.in-Some-after.rest.now (decimal count ++ 10 ∷ rest) (sym c.in-Some-after.ensures ∙ tail))
