-- Which programs are sound, and which refusal is the first that applies to one that isn't. That R10
-- is read-only is the calling convention of Linux; that a jump into a wide instruction has no
-- meaning is RFC 9669's (section 4.3). That a run may not leave the program by a jump or past its
-- end, the limits, the numbers of the refusals and their order are our own choice.
use Rattle.std.specs.Prelude.{◌≡◌, ◌≢◌, ℕ, ◌+◌, ◌<◌, IsTrue, List, [], Some, IsSomeAnd, IfSome}
use Rattle.bpf_insn.specs.declared.register.Reg.TheVariants.{R10}
use Rattle.bpf_insn.specs.declared.instruction.Insn.{Insn}
use Rattle.bpf_loader.specs.declared.refusal.LoadError.{LoadError}
use Rattle.bpf_loader.specs.declared.refusal.LoadError.TheVariants.{Empty, TooLong, WritesR10, JumpOut, JumpIntoWide, FallsOff}
use Rattle.bpf_loader.specs.declared.refusal.LoadError.TheVariants.{UnknownHelper, UnknownMap, OutOfMemory}
use Rattle.bpf_insn.specs.Table.{words}
use Rattle.bpf_insn.specs.First.{IsFirst}
use Rattle.bpf_insn.specs.Refusal.{max_words}
use Rattle.bpf_insn.specs.Table.{word_length}
use Rattle.bpf_loader.specs.declared.named.Named.{Named}
use Rattle.bpf_loader.specs.Named.{IsNamed, IsUnknown}
use Rattle.bpf_loader.specs.Places.{Begins, IsStart, target, IsOutside, IsSecondWord, Leads}
use Rattle.bpf_loader.specs.Rows.{destination, jump_offset, goes_on, helper_of, map_of, IsHelper, stride}

-- the instruction at this pc has this property
abbrev pub HasAt : List Insn → ℕ → (Insn → Type 0) → Type 0
HasAt is pc P = (i : Insn) × Begins is pc i × P i

-- what each refusal says of the list, where these maps and arrays may be named
abbrev pub Applies : Named → List Insn → LoadError → Type 0
Applies named is Empty = is ≡ []
Applies named is TooLong = max_words < word_length is
Applies named is (WritesR10 pc) = HasAt is pc (λ i. destination i ≡ Some R10)
Applies named is (JumpOut pc) =
    HasAt is pc (λ i. IsSomeAnd (jump_offset i) (λ offset. IsOutside is (target pc offset)))
Applies named is (JumpIntoWide pc) =
    HasAt is pc (λ i. IsSomeAnd (jump_offset i) (λ offset. IsSecondWord is (target pc offset)))
Applies named is (FallsOff pc) =
    HasAt is pc (λ i. IsTrue (goes_on i) × (pc + words i ≡ word_length is))
Applies named is (UnknownHelper pc) =
    HasAt is pc (λ i. IsSomeAnd (helper_of i) (λ number. ¬ IsHelper number))
Applies named is (UnknownMap pc) = HasAt is pc (λ i. IsSomeAnd (map_of i) (IsUnknown named))
Applies named is OutOfMemory = ⊥

-- a list that no refusal applies to
abbrev pub IsSound : Named → List Insn → Type 0
IsSound named is = (e : LoadError) → ¬ Applies named is e

-- the refusal's number
abbrev pub refusal_number : LoadError → ℕ
refusal_number Empty = 1
refusal_number TooLong = 3
refusal_number (WritesR10 pc) = 8
refusal_number (JumpOut pc) = 9
refusal_number (JumpIntoWide pc) = 10
refusal_number (FallsOff pc) = 11
refusal_number (UnknownHelper pc) = 12
refusal_number (UnknownMap pc) = 13
refusal_number OutOfMemory = 14

-- the word that the refusal speaks of; of one that speaks of the whole list, the first
abbrev pub place : LoadError → ℕ
place Empty = 0
place TooLong = 0
place (WritesR10 pc) = pc
place (JumpOut pc) = pc
place (JumpIntoWide pc) = pc
place (FallsOff pc) = pc
place (UnknownHelper pc) = pc
place (UnknownMap pc) = pc
place OutOfMemory = 0

-- this refusal is the first that applies, by places and then by numbers
pub record IsFirstRefusal (named : Named) (is : List Insn) (e : LoadError) : Type 0 where
  pub first : IsFirst place refusal_number (Applies named is) e

-- what a run may rely on at an instruction of a sound program
pub record IsSafe (named : Named) (is : List Insn) (pc : ℕ) (i : Insn) : Type 0 where
  pub short : pc < max_words
  pub writes : IfSome (destination i) (λ r. r ≢ R10)
  pub next : IfSome (stride i) (λ n. IsStart is (pc + n))
  pub jumps : IfSome (jump_offset i) (Leads is pc)
  pub helper : IfSome (helper_of i) IsHelper
  pub map : IfSome (map_of i) (IsNamed named)
