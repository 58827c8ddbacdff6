use Rattle.std.proofs.Common.{◌≡◌, ◌+◌, ◌*◌, ◌≤◌, take}
use Rattle.std.specs.List.{count_by, flat_map}
use Rattle.css_model.specs.Documents.Specificity.{is_id, is_class, is_type, pseudo_count}
use Rattle.css_model.proofs.counting.specificity.Given as goal

abbrev pub invariant-loop-compound : goal.invariant-loop-compound
invariant-loop-compound l = record {
  ids : l.total.a ≡ count_by (λ s. is_id s.test) (flat_map (λ c. c) (take l.compound-index l.compound-items));
  classes : l.total.b ≡ count_by (λ s. is_class s.test) (flat_map (λ c. c) (take l.compound-index l.compound-items));
  types : l.total.c ≡ count_by (λ s. is_type s.test) (flat_map (λ c. c) (take l.compound-index l.compound-items)) + pseudo_count l.selector.pseudo;
  bounds : (l.total.a ≤ 32 * l.compound-index) × (l.total.b ≤ 32 * l.compound-index) × (l.total.c ≤ 32 * l.compound-index + 1);
}
