-- What follows from the definitions of areas, of a write and of what is saved.
use Rattle.std.specs.Prelude.{◌≡◌, ℕ, ◌≤◌, List, ◌++◌, All, length, Some, slice_get}
use Rattle.bpf_mem.specs.declared.memory.PrivateMemory.{PrivateMemory}
use Rattle.bpf_mem.specs.Limits.{max_context, max_packet}
use Rattle.bpf_mem.specs.Memory.{Area, areas, byte_in, Writes}
use Rattle.bpf_mem.specs.Saved.{IsSavable, IsWord, frames_saved, words_saved}
use Rattle.bpf_mem.specs.Stack.{IsStack, Stack}

-- the memory of a CPU: its live frames, and a context and a packet that aren't too long
pub record IsMemory (m : PrivateMemory) : Type 0 where
  pub stack : IsStack m.frames
  pub small : length m.context ≤ max_context
  pub brief : length m.packet ≤ max_packet

-- a write to the memory of a CPU leaves one memory, and it is the memory of a CPU again
abbrev pub WritesAreDetermined : Type 0
WritesAreDetermined =
    (old : PrivateMemory) (address : ℕ) (bytes : List ℕ) (new other : PrivateMemory)
    → IsMemory old → Writes old address bytes new → Writes old address bytes other
    → IsMemory new × (new ≡ other)

-- no address is in two areas of the memory of a CPU
abbrev pub AreasAreApart : Type 0
AreasAreApart =
    (m : PrivateMemory) (i j : ℕ) (a b : Area) (address byte other : ℕ)
    → IsMemory m → slice_get (areas m) i ≡ Some a → slice_get (areas m) j ≡ Some b
    → byte_in a address ≡ Some byte → byte_in b address ≡ Some other → i ≡ j

-- what this many words are saved as determines them, and where it ends
abbrev pub SavedTellsWords : Type 0
SavedTellsWords =
    (words others rest more : List ℕ) → length words ≡ length others
    → All IsWord words → All IsWord others
    → words_saved 0 words ++ rest ≡ words_saved 0 others ++ more
    → (words ≡ others) × (rest ≡ more)

-- what frames are saved as determines them, and where it ends
abbrev pub SavedTellsFrames : Type 0
SavedTellsFrames =
    (stack other : Stack) (rest more : List ℕ) → IsSavable stack → IsSavable other
    → frames_saved stack ++ rest ≡ frames_saved other ++ more
    → (stack ≡ other) × (rest ≡ more)
