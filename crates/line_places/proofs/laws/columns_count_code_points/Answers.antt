use Rattle.line_places.proofs.Encoding.{columns}
use Rattle.line_places.proofs.laws.columns_count_code_points.Goals as goal

pub returns : goal.returns
returns c = columns
