-- What waits, as bytes.
use Rattle.std.specs.Prelude.{ℕ, ◌++◌, List, [], ◌∷◌, length}
use Rattle.std.specs.List.{flat_map, AllByRecursion}
use Rattle.bpf_shared.specs.Access.{bytes_in}
use Rattle.bpf_mem.specs.Saved.{IsWord, words_saved}
use Rattle.bpf_buffering.specs.declared.waiting.Stored.{Stored}

-- how many stores wait
abbrev pub count_saved : ℕ → List ℕ
count_saved n = words_saved 0 (n ∷ [])

-- a store that waits: the place, how many bytes, and the word that they are the low ones of
abbrev pub stored_saved : Stored → List ℕ
stored_saved e = words_saved 0 (e.at ∷ bytes_in e.size ∷ e.word ∷ [])

-- those of a CPU: how many wait, and each, the oldest first
abbrev pub buffer_saved : List Stored → List ℕ
buffer_saved es = count_saved (length es) ++ flat_map stored_saved es

-- CPU by CPU
abbrev pub buffers_saved : List (List Stored) → List ℕ
buffers_saved buffers = flat_map buffer_saved buffers

-- numbers of 64 bits
abbrev pub IsSavable : Stored → Type 0
IsSavable e = IsWord e.at × IsWord e.word

abbrev pub AreSavable : List Stored → Type 0
AreSavable es = IsWord (length es) × AllByRecursion IsSavable es
