use Rattle.std.proofs.Common.{rules}
use Rattle.writer.proofs.Bits.{bit_fits, byte_is}
use Rattle.writer.proofs.packed.PackedRows.byte_at.Goals as goal

pub overflow_mul-byte : goal.overflow_mul-byte
overflow_mul-byte g c = search (rules, bit_fits)

pub overflow_add-byte : goal.overflow_add-byte
overflow_add-byte g c = search (rules, bit_fits)

pub returns : goal.returns
returns g c = search (rules, byte_is)
