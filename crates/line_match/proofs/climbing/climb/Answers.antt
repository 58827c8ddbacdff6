use Rattle.std.proofs.Common.{◌≡◌, ◌≢◌, ℕ, suc, ◌+◌, ◌-◌, List, map, sym, ap, ◌∙◌, arith}
use Rattle.css_model.specs.declared.example.RunLine.{RunLine}
use Rattle.cascade_laws.specs.declared.reaching.Reached.{Reached}
use Rattle.cascade_laws.specs.Eval.Climbing.{climbed, count_at, has_one_at, standings_of}
use Rattle.cascade_laws.specs.Eval.Reaching.{from_child, located, passed}
use Rattle.line_match.specs.Runs.{run_tests}
use Rattle.line_match.proofs.Climbed.{climbed_above, climbed_beside, climbed_apart}
use Rattle.line_match.proofs.climbing.climb.Goals as goal

pub loop-line-preserved-in_ok-known : goal.loop-line-preserved-in_ok-known
loop-line-preserved-in_ok-known c =
    let chain = c.args.selector.now.chain in
    let links = c.args.selector.now.links in
    let line = c.in-Some.line.now in
    let lines = c.in-Some.behind.now in
    let tests = run_tests chain line.element (has_one_at lines (c.loop-line.depth + 1)) c.loop-line.before (count_at lines c.loop-line.depth) in
    let more : c.loop-line.number ≡ suc (c.loop-line.number - 1) = omega arith in
    let here : line.depth ≡ c.loop-line.depth = sym c.from.ensures ∙ c.if-from-depth.true in
    let found : c.as_slice-then-is_below-2.result.now ≡ located tests links c.loop-line.known.items =
    c.as_slice-then-is_below-2.ensures.value ∙ c.in_ok-found-2.ensures ∙ ap (located tests links) c.as_slice-then-is_below.ensures.value in
    let known : c.in_ok-known.known.items ≡ map from_child (located tests links c.loop-line.known.items) = c.in_ok-known.ensures ∙ ap (map from_child) found in
    record {
      known =
          ap (λ (rs : List Reached). climbed chain links lines (standings_of lines (c.loop-line.depth + 1) (c.loop-line.number - 1)) 0 rs) known
          ∙ sym (climbed_above chain links line lines c.loop-line.depth c.loop-line.number (c.loop-line.number - 1) c.loop-line.before c.loop-line.known.items more here (sym c.if-is_below.ensures))
          ∙ ap (λ (ls : List RunLine). climbed chain links ls (standings_of ls c.loop-line.depth c.loop-line.number) c.loop-line.before c.loop-line.known.items) (sym c.in-Some.ensures.cases.0)
          ∙ c.loop-line.invariant.known;
      deep = omega arith;
      near = omega arith;
    }

pub loop-line-preserved-in_ok-known-2 : goal.loop-line-preserved-in_ok-known-2
loop-line-preserved-in_ok-known-2 c =
    let chain = c.args.selector.now.chain in
    let links = c.args.selector.now.links in
    let line = c.in-Some.line.now in
    let lines = c.in-Some.behind.now in
    let tests = run_tests chain line.element (has_one_at lines (c.loop-line.depth + 1)) in
    let more : c.loop-line.number ≡ suc (c.loop-line.number - 1) = omega arith in
    let here : line.depth ≡ c.loop-line.depth = sym c.from.ensures ∙ c.if-from-depth.true in
    let known : c.in_ok-known-2.known.items ≡ passed tests links line.count c.loop-line.before (count_at lines c.loop-line.depth) c.loop-line.known.items =
    c.in_ok-known-2.ensures ∙ ap (passed tests links line.count c.loop-line.before (count_at lines c.loop-line.depth)) c.as_slice-else-is_below.ensures.value in
    record {
      known =
          ap (λ (m : ℕ). climbed chain links lines (standings_of lines c.loop-line.depth (c.loop-line.number - 1)) (c.loop-line.before + m) c.in_ok-known-2.known.items) c.from-before.ensures
          ∙ ap (λ (rs : List Reached). climbed chain links lines (standings_of lines c.loop-line.depth (c.loop-line.number - 1)) (c.loop-line.before + line.count) rs) known
          ∙ sym (climbed_beside chain links line lines c.loop-line.depth c.loop-line.number (c.loop-line.number - 1) c.loop-line.before c.loop-line.known.items more here (sym c.if-is_below.ensures))
          ∙ ap (λ (ls : List RunLine). climbed chain links ls (standings_of ls c.loop-line.depth c.loop-line.number) c.loop-line.before c.loop-line.known.items) (sym c.in-Some.ensures.cases.0)
          ∙ c.loop-line.invariant.known;
      deep = omega arith;
      near = omega arith;
    }

pub loop-line-preserved : goal.loop-line-preserved
loop-line-preserved c =
    let chain = c.args.selector.now.chain in
    let links = c.args.selector.now.links in
    let line = c.in-Some.line.now in
    let lines = c.in-Some.behind.now in
    let more : c.loop-line.number ≡ suc (c.loop-line.number - 1) = omega arith in
    let apart : line.depth ≢ c.loop-line.depth = λ here. c.if-from-depth.false (c.from.ensures ∙ here) in
    record {
      known =
          sym (climbed_apart chain links line lines c.loop-line.depth c.loop-line.number (c.loop-line.number - 1) c.loop-line.before c.loop-line.known.items more apart)
          ∙ ap (λ (ls : List RunLine). climbed chain links ls (standings_of ls c.loop-line.depth c.loop-line.number) c.loop-line.before c.loop-line.known.items) (sym c.in-Some.ensures.cases.0)
          ∙ c.loop-line.invariant.known;
      deep = omega arith;
      near = omega arith;
    }
