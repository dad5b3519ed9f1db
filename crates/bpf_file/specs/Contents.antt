-- What an array has at first, as lines say it (our own choice).
use Rattle.std.specs.Prelude.{ℕ, ◌+◌, ◌-◌, List, ◌++◌, length, replicate}
use Rattle.bpf_base.specs.Bytes.{with_part}

-- bytes up to this offset at least: zeros follow them
abbrev pub up_to : ℕ → List ℕ → List ℕ
up_to end bytes = bytes ++ replicate (end - length bytes) 0

-- with others from an offset on
abbrev pub laid : List ℕ → ℕ → List ℕ → List ℕ
laid bytes at others = with_part (up_to (at + length others) bytes) at others
