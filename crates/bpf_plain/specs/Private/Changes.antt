-- The bytes of an array that aren't as at first, as they are saved.
use Rattle.std.specs.Prelude.{ℕ, ◌+◌, ◌==◌, if◌then◌else◌, List, [], ◌∷◌, ◌++◌}
use Rattle.bpf_base.specs.Bytes.{low_bytes}

-- a byte: the number after its offset, and itself
abbrev pub change : ℕ → ℕ → List ℕ
change o byte = low_bytes 4 (o + 1) ++ byte ∷ []

-- those of the bytes from an offset on, each where it isn't as at first
abbrev pub changes_from : (ℕ → ℕ) → ℕ → List ℕ → List ℕ
changes_from first o [] = []
changes_from first o (byte ∷ bytes) =
    (if byte == first o then [] else change o byte) ++ changes_from first (o + 1) bytes

-- of all the bytes. No offset has the number 0: no more follow
abbrev pub changes : (ℕ → ℕ) → List ℕ → List ℕ
changes first bytes = changes_from first 0 bytes ++ low_bytes 4 0
