-- What follows from the checks of a word against the row that it can be of: the instruction, or the
-- first refusal that applies; and never both.
use Rattle.std.proofs.Common.{◌≡◌, ◌≤◌, Some, None, Ok, Err, sym, subst, ◌∙◌, arith}
use Rattle.bpf_insn.specs.Table.{row_of}
use Rattle.bpf_insn.specs.Encoding.{IsWrittenAs, Fits}
use Rattle.bpf_insn.specs.Refusal.{IsOfRow, IsClean, IsWhole, HasRegisters, IsAmiss, IsFirstAmiss, error_number, error_at}
use Rattle.bpf_insn.specs.Private.Bytes.{IsNarrow}
use Rattle.bpf_insn.specs.Private.Candidate.{candidate_at}
use Rattle.bpf_insn.specs.Private.Reading.{IsChecked}
use Rattle.bpf_insn.specs.declared.instruction.Insn.{Insn}
use Rattle.bpf_insn.specs.declared.word.Window.{Window}
use Rattle.bpf_insn.specs.declared.fault.Fault.{Fault}
use Rattle.bpf_insn.specs.declared.fault.Fault.TheVariants.{UnknownOpcode, ReservedNotZero, HalfWide, BadRegister}
use Rattle.bpf_insn.proofs.Shape.{of_row_by_shape, clean_by_shape, whole_by_shape, registers_by_shape}
use Rattle.bpf_insn.proofs.Dispatch.{rebuilt, found, found_shape, one_shape}
use Rattle.bpf_insn.proofs.Spelling.{written_of_row, written_clean, written_whole, written_registers, held, passing}

-- ---- the refusals

unknown : (w : Window) → ((i : Insn) → ¬ IsOfRow (row_of i) w.word) → IsFirstAmiss w UnknownOpcode
unknown w n = record { applies = n; lowest = λ g a. omega arith; least = λ g a s. least g }
  where
    least : (g : Fault) → 4 ≤ error_number (error_at g 0)
    least UnknownOpcode = omega arith
    least g = omega arith

pub none_found : (w : Window) → candidate_at w ≡ None → IsFirstAmiss w UnknownOpcode
none_found w e = unknown w (λ i o. let both : Some (rebuilt i w.word w.next) ≡ None = sym (found i w o) ∙ e in cc)

other_row : (j : Insn) (w : Window) → candidate_at w ≡ Some j → ¬ IsOfRow (row_of j) w.word → IsFirstAmiss w UnknownOpcode
other_row j w e n = unknown w (λ i o. n (of_row_by_shape (row_of i) (row_of j) w.word (found_shape i j w o e) o))

dirty : (j : Insn) (w : Window) → IsOfRow (row_of j) w.word → ¬ IsClean (row_of j) w → IsFirstAmiss w ReservedNotZero
dirty j w o n = record { applies = (j, o, n); lowest = λ g a. omega arith; least = λ g a s. least g a }
  where
    least : (g : Fault) → IsAmiss w g → 5 ≤ error_number (error_at g 0)
    least UnknownOpcode a = absurd (a j o)
    least g a = omega arith

half : (j : Insn) (w : Window) → IsOfRow (row_of j) w.word → IsClean (row_of j) w → ¬ IsWhole (row_of j).encoding w.next → IsFirstAmiss w HalfWide
half j w o c n = record { applies = (j, o, n); lowest = λ g a. omega arith; least = λ g a s. least g a }
  where
    least : (g : Fault) → IsAmiss w g → 6 ≤ error_number (error_at g 0)
    least UnknownOpcode a = absurd (a j o)
    least ReservedNotZero a = absurd (a.2 (clean_by_shape (row_of j) (row_of a.0) w (one_shape j a.0 w o a.1) c))
    least g a = omega arith

misnamed : (j : Insn) (w : Window) → IsOfRow (row_of j) w.word → IsClean (row_of j) w → IsWhole (row_of j).encoding w.next → ¬ HasRegisters
    (row_of j) w.word → IsFirstAmiss w BadRegister
misnamed j w o c h n = record { applies = (j, o, n); lowest = λ g a. omega arith; least = λ g a s. least g a }
  where
    least : (g : Fault) → IsAmiss w g → 7 ≤ error_number (error_at g 0)
    least UnknownOpcode a = absurd (a j o)
    least ReservedNotZero a = absurd (a.2 (clean_by_shape (row_of j) (row_of a.0) w (one_shape j a.0 w o a.1) c))
    least HalfWide a = absurd (a.2 (whole_by_shape (row_of j) (row_of a.0) w.next (one_shape j a.0 w o a.1) h))
    least BadRegister a = omega arith

pub first_refused : (j : Insn) (w : Window) (f : Fault) → candidate_at w ≡ Some j → IsChecked (row_of j) w (Err f) → IsFirstAmiss w f
first_refused j w UnknownOpcode e h = other_row j w e h
first_refused j w ReservedNotZero e h = dirty j w h.0 h.1
first_refused j w HalfWide e h = half j w h.0 h.1 h.2
first_refused j w BadRegister e h = misnamed j w h.0 h.1 h.2 h.3

-- ---- the instruction

pub passed : (j : Insn) (w : Window) → IsNarrow w.word → candidate_at w ≡ Some j → IsChecked (row_of j) w (Ok tt) → IsWrittenAs j w
passed j w k e p =
    let both : Some (rebuilt j w.word w.next) ≡ Some j = sym (found j w p.0) ∙ e in
    let same : rebuilt j w.word w.next ≡ j = cc in
    subst (λ (x : Insn). IsWrittenAs x w) same (passing j w k p.0 p.1 p.2 p.3)

-- ---- never both, and never two

pub one_written : (i j : Insn) (w : Window) → IsWrittenAs i w → Fits i → IsWrittenAs j w → Fits j → i ≡ j
one_written i j w p f q g =
    let both : Some (rebuilt i w.word w.next) ≡ Some (rebuilt j w.word w.next) = sym (found i w (written_of_row i w p)) ∙ found j w (written_of_row j w q) in
    let same : rebuilt i w.word w.next ≡ rebuilt j w.word w.next = cc in
    sym (held i w p f) ∙ same ∙ held j w q g

pub none_amiss : (f : Fault) (j : Insn) (w : Window) → IsWrittenAs j w → ¬ IsAmiss w f
none_amiss UnknownOpcode j w p a = a j (written_of_row j w p)
none_amiss ReservedNotZero j w p a = a.2 (clean_by_shape (row_of j) (row_of a.0) w (one_shape j a.0 w (written_of_row j w p) a.1) (written_clean j w p))
none_amiss HalfWide j w p a = a.2 (whole_by_shape (row_of j) (row_of a.0) w.next (one_shape j a.0 w (written_of_row j w p) a.1) (written_whole j w p))
none_amiss BadRegister j w p a = a.2 (registers_by_shape (row_of j) (row_of a.0) w.word (one_shape j a.0 w (written_of_row j w p) a.1)
    (written_registers j w p))
