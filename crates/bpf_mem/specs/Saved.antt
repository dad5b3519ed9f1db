-- What a CPU's private memory is saved as: bytes that determine all of it.
use Rattle.std.specs.Prelude.{◌≡◌, ℕ, zero, suc, ◌^◌, ◌<◌, List, [], ◌∷◌, ◌++◌, All, length, take, drop}
use Rattle.std.specs.List.{flat_map}
use Rattle.bpf_base.specs.Bytes.{little_endian, low_bytes}
use Rattle.bpf_mem.specs.declared.frames.Caller.{Caller}
use Rattle.bpf_mem.specs.Limits.{frame_bytes}
use Rattle.bpf_mem.specs.Stack.{Stack, IsStack}

-- a number of 64 bits
abbrev pub IsWord : ℕ → Type 0
IsWord x = x < 2 ^ 64

-- its eight bytes
unfoldable pub word_bytes : ℕ → List ℕ
word_bytes x = low_bytes 8 x

-- words after this many zeros: each that isn't zero, after the number of zeros before it, and at
-- the end the number of those there
abbrev pub words_saved : ℕ → List ℕ → List ℕ
words_saved n [] = n ∷ []
words_saved n (zero ∷ words) = words_saved (suc n) words
words_saved n (suc x ∷ words) = n ∷ word_bytes (suc x) ++ words_saved 0 words

-- the first n words that bytes are, eight bytes each
unfoldable pub words_of : ℕ → List ℕ → List ℕ
words_of zero bytes = []
words_of (suc n) bytes = little_endian (take 8 bytes) ∷ words_of n (drop 8 bytes)

-- a frame is saved as its 64 words
unfoldable pub frame_saved : List ℕ → List ℕ
frame_saved frame = words_saved 0 (words_of 64 frame)

-- what a caller gets back, as five words: where it goes on, and four registers
abbrev pub caller_saved : Caller → List ℕ
caller_saved caller = words_saved 0 (caller.return_pc ∷ caller.saved)

-- how many frames are live, these, and what their callers get back
abbrev pub frames_saved : Stack → List ℕ
frames_saved stack =
    (length stack.live ∷ flat_map frame_saved stack.live) ++ flat_map caller_saved stack.callers

-- ---- what is saved is determined by its bytes, where it is made of bytes and words
pub record IsFrame (frame : List ℕ) : Type 0 where
  pub size : length frame ≡ frame_bytes
  pub bytes : All (λ byte. byte < 256) frame

pub record IsCaller (caller : Caller) : Type 0 where
  pub pc : caller.return_pc < 2 ^ 32
  pub four : length caller.saved ≡ 4
  pub words : All IsWord caller.saved

pub record IsSavable (stack : Stack) : Type 0 where
  pub is_stack : IsStack stack
  pub frames : All IsFrame stack.live
  pub callers : All IsCaller stack.callers
