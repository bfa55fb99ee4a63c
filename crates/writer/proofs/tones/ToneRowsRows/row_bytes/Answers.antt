use Rattle.std.proofs.lemmas.List.FromFn.{length-map-range_with_len}
use Rattle.writer.proofs.Fill.{pieces_long}
use Rattle.writer.proofs.tones.ToneRowsRows.row_bytes.Goals as goal

pub returns-clause-each : goal.returns-clause-each
returns-clause-each g c = λ row. pieces_long _ _ _ (λ column. length-map-range_with_len _ _ _)
