use Rattle.std.proofs.Common.{◌≡◌, ◌*◌, ◌<◌, ℕ, List, length, Err, refl, length-append, arith}
use Rattle.std.proofs.lemmas.Bool.{lt-leb}
use Rattle.writer.specs.Buffers.{Wrote}
use Rattle.writer.proofs.Fill.{pieces_long}
use Rattle.writer.proofs.writing.put_page.Goals as goal

too_short : (page b : List ℕ) → length b < length page → Wrote page b b (Err 19)
too_short page b short = let no = lt-leb (length page) (length b) short in record { answer = rw no refl; buffer = rw no refl }

pub returns-then-buffer-length : goal.returns-then-buffer-length
returns-then-buffer-length g c =
    let rows = g.R.Rows in
    let long = pieces_long (rows.bytes c.args.rows.now) (rows.number c.args.rows.now) (rows.row_bytes c.args.rows.now) c.row_bytes.ensures.each in
    let same : c.from.result * c.row_bytes.result ≡ rows.number c.args.rows.now * rows.row_bytes c.args.rows.now = cc in
    too_short _ _ (simp length-append (omega (arith, long, same)))
