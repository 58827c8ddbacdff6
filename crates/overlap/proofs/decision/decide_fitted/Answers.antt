use Rattle.std.proofs.Common.{rules, ◌≡◌, ◌∷◌, [], List, Option, IfOk, IsTrue, false, subst}
use Rattle.std.proofs.Common.{slice_index_or}
use Rattle.std.specs.Prelude.{slice_index_or}
use Rattle.css_model.specs.declared.selector.Pseudo.{Pseudo}
use Rattle.css_model.specs.Documents.FeatureParts.{FeatureParts}
use Rattle.overlap.specs.Singles.{IsSingleAnswer}
use Rattle.slot_plan.specs.PairParts.{PairParts}
use Rattle.overlap.specs.Answers.{are_single}
use Rattle.overlap.specs.Combined.{IsCombinedLog}
use Rattle.overlap.proofs.Deciding.{first_fits, single_decided}
use Rattle.overlap.proofs.Limits.{no_links, singles_are_few}
use Rattle.overlap.proofs.Logging.{combined_logged}
use Rattle.overlap.proofs.decision.decide_fitted.Goals as goal

pub decide_single-requires-clause-few : goal.decide_single-requires-clause-few
decide_single-requires-clause-few c =
    let e : c.args.x.now.chain ≡ c.in-Some-Some.c.now ∷ [] = search rules in
    let f : c.args.y.now.chain ≡ c.in-Some-Some.d.now ∷ [] = search rules in
    singles_are_few c.args.x.now c.args.y.now c.in-Some-Some.c.now c.in-Some-Some.d.now e f
    (c.profile_keeps_the_limits.ensures c.args.x.now c.requires.first) (c.profile_keeps_the_limits.ensures c.args.y.now c.requires.second) c.requires.few

pub decide_single-requires-clause-found : goal.decide_single-requires-clause-found
decide_single-requires-clause-found c =
    let e : c.args.x.now.chain ≡ c.in-Some-Some.c.now ∷ [] = search rules in
    let f : c.args.y.now.chain ≡ c.in-Some-Some.d.now ∷ [] = search rules in
    first_fits c.args.x.now c.args.y.now c.in-Some-Some.c.now c.in-Some-Some.d.now c.args.table.now.fits c.index-fits-0.result e f c.requires.table.fits
    (subst (λ (fits : List (Option FeatureParts)). c.index-fits-0.result ≡ slice_index_or fits 0 c.index-fits-0.result) c.fits.ensures c.index-fits-0.is)

pub returns-in_ok-answer-in-Some-Some-clause-answer : goal.returns-in_ok-answer-in-Some-Some-clause-answer
returns-in_ok-answer-in-Some-Some-clause-answer c =
    let e : c.args.x.now.chain ≡ c.in-Some-Some.c.now ∷ [] = search rules in
    let f : c.args.y.now.chain ≡ c.in-Some-Some.d.now ∷ [] = search rules in
    let p : c.x.inside.pseudo ≡ c.args.x.now.pseudo = search rules in
    single_decided c.args.x.now c.args.y.now c.args.budget c.in-Some-Some.c.now c.in-Some-Some.d.now c.in_ok-answer-in-Some-Some.answer e f
    (no_links c.args.x.now c.in-Some-Some.c.now e (c.profile_keeps_the_limits.ensures c.args.x.now c.requires.first))
    (no_links c.args.y.now c.in-Some-Some.d.now f (c.profile_keeps_the_limits.ensures c.args.y.now c.requires.second)) c.requires.pseudo
    (subst (λ (p : Option Pseudo). IsSingleAnswer c.in-Some-Some.c.now c.in-Some-Some.d.now p c.in_ok-answer-in-Some-Some.answer) p c.in_ok-answer-in-Some-Some.ensures)

pub returns-in_default-clause-log : goal.returns-in_default-clause-log
returns-in_default-clause-log c =
    let single : are_single c.args.x.now c.args.y.now ≡ false = search rules in
    combined_logged c.args.with_log c.args.x.now c.args.y.now c.args.budget c.decide_combined.result single c.requires.pseudo
    (subst (λ (p : PairParts). IfOk c.decide_combined.result (λ d. IsTrue c.args.with_log → IsCombinedLog p.left p.right c.args.budget d.answer d.log)) c.requires.plan c.decide_combined.ensures.log)
