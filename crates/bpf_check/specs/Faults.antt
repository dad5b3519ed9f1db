-- Jobs that end in a fault, where something is expected, and nothing of faults. Our own choice.
use Rattle.std.specs.Prelude.{◌≡◌, ℕ, ◌==◌, ◌&&◌, Bool, true, false, not, if◌then◌else◌, length, List, Option, Some, None, slice_get}
use Rattle.std.specs.List.{list_any, position}
use Rattle.bpf_lines.specs.Lines.{lines_of}
use Rattle.bpf_explore.specs.Outcomes.{Found}
use Rattle.bpf_check.specs.declared.claim.Kind.{Kind}
use Rattle.bpf_check.specs.declared.claim.Kind.TheVariants as kind
use Rattle.bpf_check.specs.Claim.{is_fault_line}
use Rattle.bpf_check.specs.Expectation.{Expected}
use Rattle.bpf_check.specs.Findings.{Findings}

-- an outcome of this text has a job that ended in a fault
abbrev pub has_fault : List ℕ → Bool
has_fault text = list_any is_fault_line (lines_of text)

-- ---- who speaks of faults

-- a line speaks of them where it is that of a job that ended in one
abbrev pub is_of_faults : Kind → (bytes : List ℕ) → Bool
is_of_faults kind.Line bytes = is_fault_line bytes
is_of_faults (kind.Result c) bytes = false
is_of_faults (kind.Field f c) bytes = false
is_of_faults kind.Fault bytes = true

-- some part of what is expected does
abbrev pub speaks_of_faults : Expected → Bool
speaks_of_faults e = list_any (λ p. is_of_faults p.kind p.bytes) e.parts

-- something is expected, and nothing of faults
abbrev pub are_faults_unexpected : List Expected → Bool
are_faults_unexpected expected =
    not (length expected == 0) && not (list_any speaks_of_faults expected)

-- ---- a fault of which nothing speaks

-- THE PLACE OF THE FIRST ANSWER WITH A FAULT, where something is expected, and nothing of faults
abbrev pub unexpected_fault : Findings → List Expected → Option ℕ
unexpected_fault f expected = if are_faults_unexpected expected
    then position (λ found. has_fault found.text) f.answers else None

-- what that says of texts, of which answers by their schedules show some
abbrev pub IsTrueFault : (IsText : List ℕ → Type 0) → (IsAnswer : Found → Type 0) → Findings
    → List Expected → Option ℕ → Type 0
IsTrueFault IsText IsAnswer f expected (Some i) = (found : Found)
    × (slice_get f.answers i ≡ Some found) × IsAnswer found × (has_fault found.text ≡ true)
IsTrueFault IsText IsAnswer f expected None = are_faults_unexpected expected ≡ true → f.all ≡ true
    → (text : List ℕ) → IsText text → has_fault text ≡ false
