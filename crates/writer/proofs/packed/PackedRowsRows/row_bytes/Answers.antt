use Rattle.std.proofs.lemmas.List.FromFn.{length-map-range_with_len}
use Rattle.writer.proofs.packed.PackedRowsRows.row_bytes.Goals as goal

pub returns-clause-each : goal.returns-clause-each
returns-clause-each g c = λ row. length-map-range_with_len _ _ _
