-- The largest page that a job takes. Sheets are made within these limits.
use Rattle.std.specs.Prelude.{ℕ, Bool, ◌&&◌, nat_le}

abbrev pub max_width : ℕ
max_width = 1024

abbrev pub max_height : ℕ
max_height = 8192

-- whether a sheet of this size, in need of so many bytes, can be made in so much memory
abbrev pub fits : ℕ → ℕ → ℕ → ℕ → Bool
fits width height bytes memory =
    (nat_le 1 width && nat_le width max_width) && ((nat_le 1 height && nat_le height max_height) && nat_le bytes memory)
