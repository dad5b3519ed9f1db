-- What a row asks of a word, it asks by its shape: the numbers that it holds don't matter.
use Rattle.std.proofs.Common.{◌≡◌, ℕ, Option, Some, None, ap, subst}
use Rattle.bpf_insn.specs.Refusal.{Selected, IsOfRow, IsZeroed, IsZeroedSecond, IsClean, IsWhole, IsRegister, HasRegisters}
use Rattle.bpf_insn.specs.declared.row.Field.{Field}
use Rattle.bpf_insn.specs.declared.row.Field.TheVariants.{Unused, Selects, Holds}
use Rattle.bpf_insn.specs.declared.row.Encoding.{Encoding}
use Rattle.bpf_insn.specs.declared.row.Encoding.TheVariants.{Basic, Wide}
use Rattle.bpf_insn.specs.declared.row.Row.{Row}
use Rattle.bpf_insn.specs.declared.word.Word.{Word}
use Rattle.bpf_insn.specs.declared.word.Window.{Window}

abbrev pub blank : Field → Field
blank Unused = Unused
blank (Selects n) = Selects n
blank (Holds n) = Holds 0

abbrev pub blank_encoding : Encoding → Encoding
blank_encoding Basic = Basic
blank_encoding (Wide f) = Wide (blank f)

-- the row, holding nothing
abbrev pub shape : Row → Row
shape r = record {
  opcode = r.opcode;
  dst = blank r.dst;
  src = blank r.src;
  offset = blank r.offset;
  imm = blank r.imm;
  encoding = blank_encoding r.encoding;
}

-- what is asked of a field is asked of the blank one, and the other way round
record IsBlind (P : Field → Type 0) : Type 0 where
  to : (f : Field) → P f → P (blank f)
  back : (f : Field) → P (blank f) → P f

along : (P : Field → Type 0) (f g : Field) → IsBlind P → blank f ≡ blank g → P f → P g
along P f g b e h = b.back g (subst P e (b.to f h))

selected_to : (n : ℕ) (f : Field) → Selected f n → Selected (blank f) n
selected_to n Unused h = h
selected_to n (Selects m) h = h
selected_to n (Holds m) h = h

selected_back : (n : ℕ) (f : Field) → Selected (blank f) n → Selected f n
selected_back n Unused h = h
selected_back n (Selects m) h = h
selected_back n (Holds m) h = h

zeroed_to : (n : ℕ) (f : Field) → IsZeroed f n → IsZeroed (blank f) n
zeroed_to n Unused h = h
zeroed_to n (Selects m) h = h
zeroed_to n (Holds m) h = h

zeroed_back : (n : ℕ) (f : Field) → IsZeroed (blank f) n → IsZeroed f n
zeroed_back n Unused h = h
zeroed_back n (Selects m) h = h
zeroed_back n (Holds m) h = h

register_to : (n : ℕ) (f : Field) → IsRegister f n → IsRegister (blank f) n
register_to n Unused h = h
register_to n (Selects m) h = h
register_to n (Holds m) h = h

register_back : (n : ℕ) (f : Field) → IsRegister (blank f) n → IsRegister f n
register_back n Unused h = h
register_back n (Selects m) h = h
register_back n (Holds m) h = h

selected : (n : ℕ) (f g : Field) → blank f ≡ blank g → Selected f n → Selected g n
selected n f g = along (λ x. Selected x n) f g (record { to = selected_to n; back = selected_back n })

zeroed : (n : ℕ) (f g : Field) → blank f ≡ blank g → IsZeroed f n → IsZeroed g n
zeroed n f g = along (λ x. IsZeroed x n) f g (record { to = zeroed_to n; back = zeroed_back n })

is_register : (n : ℕ) (f g : Field) → blank f ≡ blank g → IsRegister f n → IsRegister g n
is_register n f g = along (λ x. IsRegister x n) f g (record { to = register_to n; back = register_back n })

zeroed_second : (next : Option Word) (s t : Encoding) → blank_encoding s ≡ blank_encoding t → IsZeroedSecond s next → IsZeroedSecond t next
zeroed_second next Basic Basic e h = tt
zeroed_second next Basic (Wide g) e h = absurd cc
zeroed_second next (Wide f) Basic e h = absurd cc
zeroed_second None (Wide f) (Wide g) e h = tt
zeroed_second (Some v) (Wide f) (Wide g) e h =
    let same : blank f ≡ blank g = cc in
    (h.0, h.1, h.2, h.3, zeroed v.imm f g same h.4)

whole : (next : Option Word) (s t : Encoding) → blank_encoding s ≡ blank_encoding t → IsWhole s next → IsWhole t next
whole next Basic Basic e h = tt
whole next Basic (Wide g) e h = absurd cc
whole next (Wide f) Basic e h = absurd cc
whole next (Wide f) (Wide g) e h = h

pub of_row_by_shape : (r s : Row) (w : Word) → shape r ≡ shape s → IsOfRow r w → IsOfRow s w
of_row_by_shape r s w e h =
    let opcode : r.opcode ≡ s.opcode = ap (λ (x : Row). x.opcode) e in
    record {
      opcode = subst (λ (n : ℕ). w.opcode ≡ n) opcode h.opcode;
      dst = selected w.dst r.dst s.dst (ap (λ (x : Row). x.dst) e) h.dst;
      src = selected w.src r.src s.src (ap (λ (x : Row). x.src) e) h.src;
      offset = selected w.offset r.offset s.offset (ap (λ (x : Row). x.offset) e) h.offset;
      imm = selected w.imm r.imm s.imm (ap (λ (x : Row). x.imm) e) h.imm;
    }

pub clean_by_shape : (r s : Row) (w : Window) → shape r ≡ shape s → IsClean r w → IsClean s w
clean_by_shape r s w e h = record {
  dst = zeroed w.word.dst r.dst s.dst (ap (λ (x : Row). x.dst) e) h.dst;
  src = zeroed w.word.src r.src s.src (ap (λ (x : Row). x.src) e) h.src;
  offset = zeroed w.word.offset r.offset s.offset (ap (λ (x : Row). x.offset) e) h.offset;
  imm = zeroed w.word.imm r.imm s.imm (ap (λ (x : Row). x.imm) e) h.imm;
  second = zeroed_second w.next r.encoding s.encoding (ap (λ (x : Row). x.encoding) e) h.second;
}

pub whole_by_shape : (r s : Row) (next : Option Word) → shape r ≡ shape s → IsWhole r.encoding next → IsWhole s.encoding next
whole_by_shape r s next e h = whole next r.encoding s.encoding (ap (λ (x : Row). x.encoding) e) h

pub registers_by_shape : (r s : Row) (w : Word) → shape r ≡ shape s → HasRegisters r w → HasRegisters s w
registers_by_shape r s w e h = record {
  dst = is_register w.dst r.dst s.dst (ap (λ (x : Row). x.dst) e) h.dst;
  src = is_register w.src r.src s.src (ap (λ (x : Row). x.src) e) h.src;
}
