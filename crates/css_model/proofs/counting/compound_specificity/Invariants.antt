use Rattle.std.proofs.Common.{◌≡◌, ◌≤◌, take}
use Rattle.std.specs.List.{count_by}
use Rattle.css_model.specs.Documents.Specificity.{is_id, is_class, is_type}
use Rattle.css_model.proofs.counting.compound_specificity.Given as goal

abbrev pub invariant-loop-simple : goal.invariant-loop-simple
invariant-loop-simple l = record {
  ids : l.total.a ≡ count_by (λ s. is_id s.test) (take l.simple-index l.simple-items);
  classes : l.total.b ≡ count_by (λ s. is_class s.test) (take l.simple-index l.simple-items);
  types : l.total.c ≡ count_by (λ s. is_type s.test) (take l.simple-index l.simple-items);
  bounds : (l.total.a ≤ l.simple-index) × (l.total.b ≤ l.simple-index) × (l.total.c ≤ l.simple-index);
}
