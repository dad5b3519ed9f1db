-- What a thread asks of its port.
use Rattle.std.specs.Prelude.{◌≡◌, false}
use Rattle.hop_words.specs.Inside.{Shown}
use Rattle.hop_words.specs.Trial.{IsTrial}
use Rattle.hop_map.specs.Port.{Port, IsPortOf, runs}

-- the port is one of such a store, and its CPU is in no run
abbrev pub IsNewPort : Shown → Port → Type 0
IsNewPort t p = IsPortOf t p × IsTrial t.about × (runs p ≡ false)
