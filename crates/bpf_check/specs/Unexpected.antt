-- Why a file's comments aren't what its outcomes are compared with.
use Rattle.std.specs.Prelude.{◌≡◌, ◌≤◌, ℕ, Bool, false, List, Some, length}
use Rattle.bpf_check.specs.declared.expectation.Unexpected.{Unexpected}
use Rattle.bpf_check.specs.declared.expectation.Unexpected.TheVariants as unexpected
use Rattle.bpf_check.specs.Expectation.{first_amiss}
use Rattle.bpf_check.specs.Subjects.{Subjects}

-- the line of this number is the first whose comment is meant to expect something and can't, where such
-- comments aren't passed over; out of memory may take the place of any answer
abbrev pub IsUnexpected : Subjects → (lenient : Bool) → List ℕ → Unexpected → Type 0
IsUnexpected s lenient text (unexpected.At n) =
    (lenient ≡ false) × (first_amiss s text ≡ Some n) × (n ≤ length text)
IsUnexpected s lenient text unexpected.OutOfMemory = Unit {0}
