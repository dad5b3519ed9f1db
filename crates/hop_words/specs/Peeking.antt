-- What the steps of readings without a lock ask of what a CPU knows.
use Rattle.std.specs.Prelude.{◌≡◌, ℕ, [], ◌∷◌, slice_index_or}
use Rattle.hop_words.specs.declared.known.Known.{Known}
use Rattle.hop_words.specs.declared.known.Reading.{Reading}

abbrev pub no_reading : Reading
no_reading = record { map = 0; segment = 0; stamp = 0; peeks = [] }

-- the reading that the CPU began last
abbrev pub latest_reading : Known → Reading
latest_reading l = slice_index_or l.readings 0 no_reading

-- the CPU reads this segment, and no other
abbrev pub HasReading : Known → ℕ → ℕ → Type 0
HasReading l m s = (l.readings ≡ latest_reading l ∷ []) × ((latest_reading l).map ≡ m)
    × ((latest_reading l).segment ≡ s)
