-- The direction of a row.
use Rattle.std.specs.Prelude.{ℕ, ◌%◌, Bool, false, ◌==◌}
use Rattle.ledger.specs.declared.order.Order.{Order}
use Rattle.ledger.specs.declared.order.Order.TheVariants.{Raster, Serpentine}

-- whether row r runs right to left
abbrev pub runs_back : Order → ℕ → Bool
runs_back Raster r = false
runs_back Serpentine r = r % 2 == 1
