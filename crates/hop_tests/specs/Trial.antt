-- What the tests ask of a port.
use Rattle.std.specs.Prelude.{◌≡◌, true, false, List}
use Rattle.bpf_shared.specs.declared.shapes.MapShape.{MapShape}
use Rattle.bpf_shared.specs.Shape.{IsMap}
use Rattle.hop_words.specs.Inside.{Shown}
use Rattle.hop_map.specs.Port.{Port, IsPortOf, runs}

-- the port is one of this table's, and its CPU is in no run
abbrev pub IsIdlePort : Shown → Port → Type 0
IsIdlePort t p = IsPortOf t p × (runs p ≡ false)

-- the port is one of this table's, and its CPU is in a run
abbrev pub IsRunning : Shown → Port → Type 0
IsRunning t p = IsPortOf t p × (runs p ≡ true)

-- the first map has keys of four bytes and values of eight
abbrev pub HasSizes : List MapShape → Type 0
HasSizes maps = (h : MapShape) × IsMap maps 0 h × (h.key ≡ 4) × (h.value ≡ 8)
