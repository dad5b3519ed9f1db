-- What the reader's functions answer, by what is read. Private functions cite this.
use Rattle.std.specs.Prelude.{◌≡◌, ℕ, Option, Some, None, Result, Ok, Err, IsSomeAnd, ℤ, pos, neg_ℤ, Bool, true, false, FitsSigned}
use Rattle.std.specs.Int.{w32}
use Rattle.std.specs.Option.{option_copied}
use Rattle.bpf_insn.specs.Encoding.{Fits}
use Rattle.bpf_insn.specs.declared.instruction.Operand.{Operand}
use Rattle.bpf_insn.specs.declared.instruction.Operand.TheVariants as operand
use Rattle.bpf_text.specs.declared.reading.LineError.{LineError}
use Rattle.bpf_text.specs.declared.reading.LineError.TheVariants.{BadLine, BadNumber, UnknownName}
use Rattle.bpf_text.specs.declared.reading.Draft.{Draft as DraftValue}
use Rattle.bpf_text.specs.declared.numbers.Literal.{Literal}
use Rattle.bpf_text.specs.declared.reading.operand.RawOperand.{RawOperand}
use Rattle.bpf_text.specs.declared.reading.operand.RawOperand.TheVariants as raw
use Rattle.bpf_text.specs.declared.reading.target.RawTarget.{RawTarget}
use Rattle.bpf_text.specs.declared.reading.target.RawTarget.TheVariants as target
use Rattle.bpf_lines.specs.Words.{numeral_value}
use Rattle.bpf_text.specs.Private.Pieces.{Target}
use Rattle.bpf_text.specs.Line.{Written}

-- what an option answers, seen by view, is what is read
abbrev pub Gives : {X Y : Type 0} → (X → Y) → Option X → Option Y → Type 0
Gives view (Some x) read = read ≡ Some (view x)
Gives view None read = read ≡ None

abbrev pub signed_of : Bool → ℕ → ℤ
signed_of true n = neg_ℤ (pos n)
signed_of false n = pos n

abbrev pub literal_value : Literal → ℤ
literal_value l = signed_of l.is_negative (numeral_value l.radix l.digits.now)

abbrev pub operand_of : RawOperand → Operand
operand_of (raw.Register r) = operand.Register r
operand_of (raw.Number l) = operand.Immediate (literal_value l)

abbrev pub FitsOperand : Operand → Type 0
FitsOperand (operand.Immediate n) = FitsSigned w32 n
FitsOperand (operand.Register r) = Unit {0}

abbrev pub target_of : RawTarget → Target
target_of (target.Distance l) = record { distance = literal_value l; name = None }
target_of (target.Label n) = record { distance = pos 0; name = Some n.now }

-- a draft without where its name lies
abbrev pub drafted : DraftValue → Written
drafted d = record { insn = d.insn; name = option_copied d.target }

-- the line is read as the draft; has no form; has one, with a number that doesn't fit
abbrev pub Judged : Result DraftValue LineError → Option Written → Type 0
Judged (Ok d) read = (read ≡ Some (drafted d)) × Fits d.insn
Judged (Err BadLine) read = read ≡ None
Judged (Err BadNumber) read = IsSomeAnd read (λ i. Fits i.insn → ⊥)
Judged (Err UnknownName) read = ⊥
