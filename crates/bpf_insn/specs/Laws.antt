-- What follows from the definitions of encodings and refusals, of all bytes.
use Rattle.std.specs.Prelude.{◌≡◌, ◌≢◌, ℕ, ◌<◌, ◌≤◌, List, All}
use Rattle.bpf_insn.specs.declared.instruction.Insn.{Insn}
use Rattle.bpf_insn.specs.declared.error.InsnError.{InsnError}
use Rattle.bpf_insn.specs.declared.error.InsnError.TheVariants.{OutOfMemory}
use Rattle.bpf_insn.specs.Table.{word_length}
use Rattle.bpf_insn.specs.Encoding.{IsEncodedAs}
use Rattle.bpf_insn.specs.Refusal.{max_words, IsSized, IsRefused}

-- bytes are those of one list at most
abbrev pub WordsAreDetermined : Type 0
WordsAreDetermined =
    (bytes : List ℕ) (is js : List Insn) → IsEncodedAs is bytes → IsEncodedAs js bytes → is ≡ js

-- a list has one encoding at most
abbrev pub EncodingsAreDetermined : Type 0
EncodingsAreDetermined =
    (is : List Insn) (a b : List ℕ) → All (λ x. x < 256) a → All (λ x. x < 256) b →
    IsEncodedAs is a → IsEncodedAs is b → a ≡ b

-- bytes are refused for one reason at most, and where they are instructions of the right length for
-- none; unless memory runs out
abbrev pub RefusalsAreDetermined : Type 0
RefusalsAreDetermined =
    ((bytes : List ℕ) (e f : InsnError) → e ≢ OutOfMemory → f ≢ OutOfMemory →
    IsRefused e bytes → IsRefused f bytes → e ≡ f)
    × ((bytes : List ℕ) (is : List Insn) (e : InsnError) → e ≢ OutOfMemory →
    IsSized bytes → IsEncodedAs is bytes → ¬ IsRefused e bytes)

-- The encoding of a list of 1 to max_words words is decoded as that list: its length is right, it
-- is the encoding of no other list, and it is refused because memory ran out alone.
abbrev pub EncodingsAreDecoded : Type 0
EncodingsAreDecoded =
    (is : List Insn) (bytes : List ℕ) → 0 < word_length is → word_length is ≤ max_words →
    IsEncodedAs is bytes →
    IsSized bytes
    × ((js : List Insn) → IsEncodedAs js bytes → js ≡ is)
    × ((e : InsnError) → IsRefused e bytes → e ≡ OutOfMemory)
