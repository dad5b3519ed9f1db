-- The bytes of instructions are read as they were written.
use Rattle.std.proofs.Common.{◌≡◌, ℕ, ◌+◌, ◌*◌, ◌<◌, ◌≤◌, List, [], ◌∷◌, ◌++◌, length, take, drop, get_or, Some, refl, sym, ap, subst, ◌∙◌, arith, append_assoc}
use Rattle.std.specs.Prelude.{IfSome}
use Rattle.std.proofs.lemmas.List.{take_more, append-nil}
use Rattle.std.proofs.lemmas.Bool.{le-ltb}
use Rattle.byteorder.specs.Endian.{little_bytes}
use Rattle.byteorder.specs.Numbers.{little_number-reads_back}
use Rattle.bpf_insn.specs.declared.instruction.Insn.{Insn}
use Rattle.bpf_insn.specs.declared.word.Word.{Word}
use Rattle.bpf_insn.specs.Table.{row_of, word_count, words}
use Rattle.bpf_insn.specs.declared.row.Encoding.{Encoding}
use Rattle.bpf_insn.specs.declared.row.Encoding.TheVariants.{Basic, Wide}
use Rattle.bpf_insn.specs.Encoding.{word_at, next_at, value_of, first_word, second_word, IsFollowed, BeginsWith, IsEncodedAs}
use Rattle.bpf_insn.specs.Private.Bytes.{word_bytes, second_bytes, insn_bytes, IsNarrow, IsWritable}
use Rattle.bpf_insn.proofs.Spelling.{word_is}

word_at-bytes : (w : Word) (rest : List ℕ) → IsNarrow w → word_at (word_bytes w ++ rest) ≡ w
word_at-bytes w rest h =
    let d = h.dst in
    let s = h.src in
    word_is _ w refl (omega arith) (omega arith) (little_number-reads_back 2 w.offset (little_bytes 4 w.imm ++ rest) h.offset)
    (little_number-reads_back 4 w.imm rest h.imm)

next_of : (bytes : List ℕ) → 16 ≤ length bytes → next_at bytes ≡ Some (word_at (drop 8 bytes))
next_of bytes h = rw (le-ltb (length bytes) 16 h) refl

-- the words of a row, and what follows them
record Splits (s : Encoding) (w : Word) (rest bytes : List ℕ) : Type 0 where
  long : 8 * word_count s ≤ length bytes
  first : word_at bytes ≡ w
  next : IsFollowed s (next_at bytes)
  rest_is : drop (8 * word_count s) bytes ≡ rest

splits : (s : Encoding) (w : Word) (rest : List ℕ) → IsNarrow w → IfSome (second_word s) IsNarrow → Splits s w rest
    ((word_bytes w ++ second_bytes (second_word s)) ++ rest)
splits Basic w rest h k = record { long = omega arith; first = word_at-bytes w rest h; next = tt; rest_is = refl }
splits (Wide f) w rest h k =
    let v : Word = record { opcode = 0; dst = 0; src = 0; offset = 0; imm = value_of f } in
    record {
      long = omega arith;
      first = word_at-bytes w (word_bytes v ++ rest) h;
      next = next_of (word_bytes w ++ (word_bytes v ++ rest))
          (omega arith) ∙ ap (λ (x : Word). Some x) (word_at-bytes v rest k);
      rest_is = refl;
    }

-- what is written goes before whatever instructions follow
pub record IsWritten (insns : List Insn) (bytes : List ℕ) : Type 0 where
  pub encoded : (tail : List Insn) (rest : List ℕ) → IsEncodedAs tail rest → IsEncodedAs (insns ++ tail) (bytes ++ rest)

pub written_none : (bytes : List ℕ) → bytes ≡ [] → IsWritten [] bytes
written_none bytes e = record { encoded = λ tail rest c. rw e c }

pub written_next : (insns : List Insn) (k : ℕ) (d : Insn) (old new : List ℕ) → k < length insns → IsWritten (take k insns) old → new ≡ old
    ++ insn_bytes (get_or insns k d) → IsWritable (get_or insns k d) → IsWritten (take (k + 1) insns) new
written_next insns k d old new l w e h = record {
  encoded = λ tail rest c.
      let i = get_or insns k d in
      let s = splits (row_of i).encoding (first_word (row_of i)) rest h.first h.second in
      let begins : BeginsWith i (insn_bytes i ++ rest) = record { long = s.long; written = record { first = s.first; second = s.next }; fits = h.fits } in
      let after : IsEncodedAs tail (drop (8 * words i) (insn_bytes i ++ rest)) = subst (IsEncodedAs tail) (sym s.rest_is) c in
      rw (take_more insns k d l, e, append_assoc, append_assoc) (w.encoded (i ∷ tail) (insn_bytes i ++ rest) (begins, after));
}

pub written_all : (insns : List Insn) (bytes : List ℕ) (k : ℕ) → take k insns ≡ insns → IsWritten (take k insns) bytes → IsEncodedAs insns bytes
written_all insns bytes k e w =
    let c = w.encoded [] [] refl in
    let P = λ (x : List Insn). IsEncodedAs x bytes in
    let Q = λ (x : List ℕ). IsEncodedAs (take k insns ++ []) x in
    subst P (append-nil (take k insns) ∙ e) (subst Q (append-nil bytes) c)
