-- Cutting a text into lines. Private functions cite this.
use Rattle.std.specs.Prelude.{ℕ, Bool, ◌==◌, not}

-- every byte but a line feed
abbrev pub in_line : ℕ → Bool
in_line b = not (b == 10)
