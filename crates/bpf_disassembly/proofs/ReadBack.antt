-- The canonical text of every instruction list reads back to it.
use Rattle.std.proofs.Common.{◌≡◌, ℕ, ◌+◌, ◌^◌, ◌<◌, ◌≤◌, Bool, true, false, not, ◌==◌, List, [], ◌∷◌, ◌++◌, length, take, Option, Some}
use Rattle.std.proofs.Common.{None, refl, sym, ap, subst, ◌∙◌, arith}
use Rattle.std.specs.Prelude.{ℤ, pos, negsuc}
use Rattle.std.specs.List.{list_all}
use Rattle.std.proofs.lemmas.Bool.{and_parts}
use Rattle.bpf_insn.specs.declared.register.Reg.{Reg}
use Rattle.bpf_insn.specs.declared.operation.widths.Width.{Width}
use Rattle.bpf_spelling.specs.declared.keywords.Keyword.TheVariants as key
use Rattle.bpf_spelling.specs.declared.signs.Sign.TheVariants as sign
use Rattle.bpf_spelling.specs.Token.{Tok, Register, Word, Mark}
use Rattle.bpf_spelling.specs.Form.{Item, Is, Blank, Signed, Target}
use Rattle.std.specs.Prelude.{FitsSigned, Ok}
use Rattle.std.proofs.Common.{get_or}
use Rattle.std.proofs.lemmas.List.{take_all, take_more}
use Rattle.std.specs.Int.{w16, w32}
use Rattle.std.proofs.lemmas.Int.{ints}
use Rattle.bpf_insn.specs.Encoding.{Fits}
use Rattle.bpf_insn.specs.Table.{words}
use Rattle.bpf_insn.specs.declared.operation.arithmetic.AluOp.{AluOp}
use Rattle.bpf_insn.specs.declared.operation.arithmetic.AluOp.TheVariants as alu
use Rattle.bpf_insn.specs.declared.operation.conditions.Condition.{Condition}
use Rattle.bpf_insn.specs.declared.operation.conditions.Condition.TheVariants as test
use Rattle.bpf_insn.specs.declared.operation.atomics.AtomicOp.{AtomicOp}
use Rattle.bpf_insn.specs.declared.operation.atomics.AtomicOp.TheVariants as atomic
use Rattle.bpf_insn.specs.declared.instruction.Operand.{Operand}
use Rattle.bpf_insn.specs.declared.instruction.Operand.TheVariants as operand
use Rattle.bpf_insn.specs.declared.instruction.Insn.{Insn}
use Rattle.bpf_insn.specs.declared.instruction.Insn.TheVariants as insn
use Rattle.bpf_text.specs.declared.labels.Place.{Place}
use Rattle.bpf_spelling.specs.Form.{form_of, line_of, canonical, operator_items, atomic_items}
use Rattle.bpf_spelling.specs.Operators.{operator_of, comparison_of, atomic_form, operation_named}
use Rattle.bpf_spelling.specs.declared.atomics.AtomicForm.{AtomicForm}
use Rattle.bpf_spelling.specs.declared.atomics.AtomicForm.TheVariants as form
use Rattle.bpf_spelling.specs.declared.operators.Operator.{Operator}
use Rattle.bpf_spelling.specs.declared.operators.Operator.TheVariants.{Plain, Signed as SignedBy}
use Rattle.bpf_text.specs.Line.{Written}
use Rattle.bpf_text.specs.Private.Pieces.{operator_at, target_at, label_at, cell_at}
use Rattle.bpf_text.specs.Private.Lines.{line_at, statement_at, register_at, operation_at, lock_at, branch_at, jump_at, jump_long_at}
use Rattle.bpf_text.specs.Private.Lines.{call_at, call_local_at, store_at}
use Rattle.bpf_lines.specs.Private.Cutting.{in_line}
use Rattle.bpf_text.specs.Assembly.{Source, IsLine, AreLinesWith, Assembles, label_of, unlabelled, IsBody, first_place, meaning_of, program_of}
use Rattle.bpf_lines.specs.Lines.{lines_of}
use Rattle.std.specs.List.{onto_first}
use Rattle.bpf_text.proofs.Complete.{line_complete}
use Rattle.bpf_disassembly.proofs.Shown.{shown, form_in_line, is_apart, AreSmall, SmallInteger}

-- ---- each form's tokens are apart, and its numbers are small

alu_apart : (op : AluOp) (w : Width) (d : Reg) (s : Operand) → is_apart (form_of (insn.Alu w op d s) None) ≡ true
alu_apart alu.Add w d (operand.Immediate n) = refl
alu_apart alu.Add w d (operand.Register r) = refl
alu_apart op w d (operand.Immediate n) = refl
alu_apart op w d (operand.Register r) = refl

branch_apart : (c : Condition) (w : Width) (d : Reg) (s : Operand) (o : ℤ) → is_apart (form_of (insn.JumpIf w c d s o) None) ≡ true
branch_apart test.Eq w d (operand.Immediate n) o = refl
branch_apart test.Eq w d (operand.Register r) o = refl
branch_apart c w d (operand.Immediate n) o = refl
branch_apart c w d (operand.Register r) o = refl

atomic_apart : (op : AtomicOp) (w : Width) (b : Reg) (o : ℤ) (r : Reg) → is_apart (atomic_items (atomic_form op) w b o r) ≡ true
atomic_apart atomic.Add w b o r = refl
atomic_apart op w b o r = refl

form_apart : (i : Insn) → is_apart (form_of i None) ≡ true
form_apart (insn.Alu w op d s) = alu_apart op w d s
form_apart (insn.JumpIf w c d s o) = branch_apart c w d s o
form_apart (insn.Atomic w op b o r) = atomic_apart op w b o r
form_apart i = refl

small16 : (z : ℤ) → FitsSigned w16 z → SmallInteger z
small16 (pos n) h = omega (arith, ints, h)
small16 (negsuc n) h = omega (arith, ints, h)

small32 : (z : ℤ) → FitsSigned w32 z → SmallInteger z
small32 (pos n) h = omega (arith, ints, h)
small32 (negsuc n) h = omega (arith, ints, h)

operator_small : (o : Operator) (is : List Item) → AreSmall is → AreSmall (operator_items o ++ is)
operator_small (Plain s) is h = (tt, h)
operator_small (SignedBy s) is h = (tt, (tt, h))

alu_small : (op : AluOp) (w : Width) (d : Reg) (s : Operand) → Fits (insn.Alu w op d s) → AreSmall (form_of (insn.Alu w op d s) None)
alu_small op w d (operand.Immediate n) h = (tt, (tt, operator_small (operator_of op) (Blank ∷ Signed n ∷ []) (tt, (small32 n h, tt))))
alu_small op w d (operand.Register r) h = (tt, (tt, operator_small (operator_of op) (Blank ∷ Is (Register w r) ∷ []) (tt, (tt, tt))))

branch_small : (c : Condition) (w : Width) (d : Reg) (s : Operand) (o : ℤ) → Fits (insn.JumpIf w c d s o) → AreSmall (form_of (insn.JumpIf w c d s o) None)
branch_small c w d (operand.Immediate n) o h = (
  tt,
  (
    tt,
    (
      tt,
      (
        tt,
        operator_small (comparison_of c)
            (Blank ∷ Signed n ∷ Blank ∷ Is (Word key.Goto) ∷ Blank ∷ Target o None ∷ []) (tt, (small32 n h.0, (tt, (tt, (tt, (small16 o h.1, tt)))))),
      ),
    ),
  ),
)
branch_small c w d (operand.Register r) o h = (
  tt,
  (
    tt,
    (
      tt,
      (
        tt,
        operator_small (comparison_of c)
            (Blank ∷ Is (Register w r) ∷ Blank ∷ Is (Word key.Goto) ∷ Blank ∷ Target o None ∷ []) (tt, (tt, (tt, (tt, (tt, (small16 o h, tt)))))),
      ),
    ),
  ),
)

atomic_small : (f : AtomicForm) (w : Width) (b : Reg) (o : ℤ) (r : Reg) → SmallInteger o → AreSmall (atomic_items f w b o r)
atomic_small (form.Locked s) w b o r h = assumption h
atomic_small (form.Fetch k) w b o r h = assumption h
atomic_small f w b o r h = assumption h

form_small : (i : Insn) → Fits i → AreSmall (form_of i None)
form_small (insn.Alu w op d s) h = alu_small op w d s h
form_small (insn.JumpIf w c d s o) h = branch_small c w d s o h
form_small (insn.Atomic w op b o r) h = atomic_small (atomic_form op) w b o r (small16 o h)
form_small (insn.Jump o) h = let s = small16 o h in assumption s
form_small (insn.JumpLong o) h = let s = small32 o h in assumption s
form_small (insn.CallLocal o) h = let s = small32 o h in assumption s
form_small (insn.CallHelper n) h = let s : n < 2 ^ 64 = omega (arith, h) in assumption s
form_small (insn.LoadMap d n) h = let s : n < 2 ^ 64 = omega (arith, h) in assumption s
form_small (insn.LoadNumber d n) h = assumption h
form_small (insn.Load z d b o) h = let s = small16 o h in assumption s
form_small (insn.LoadSigned z d b o) h = let s = small16 o h in assumption s
form_small (insn.StoreImmediate z b o v) h = let s = small16 o h.0 in let v = small32 v h.1 in assumption (s, v)
form_small (insn.Store z b o r) h = let s = small16 o h in assumption s
form_small i h = assumption h

-- ---- a line reads back

colon_target : (us : List Tok) → target_at (Mark sign.Colon ∷ us) ≡ None
unfolding target_at label_at
colon_target [] = refl
colon_target (u ∷ us) = refl

colon_call : (us : List Tok) → call_at (Mark sign.Colon ∷ us) ≡ call_local_at (Mark sign.Colon ∷ us)
unfolding call_at
colon_call us = refl

no_jump : (us : List Tok) → (jump_at (Mark sign.Colon ∷ us) ≡ None) × (jump_long_at (Mark sign.Colon ∷ us) ≡ None) ×
    (call_local_at (Mark sign.Colon ∷ us) ≡ None)
unfolding jump_at jump_long_at call_local_at
no_jump us = let e = colon_target us in rw e (refl, refl, refl)

-- no form has a colon after its first token
no_colon : (t : Tok) (us : List Tok) → line_at (t ∷ Mark sign.Colon ∷ us) ≡ None
unfolding line_at statement_at register_at operation_at operator_at operation_named lock_at branch_at store_at cell_at
no_colon (Register w d) us = refl
no_colon (Word key.Goto) us = (no_jump us).0
no_colon (Word key.GotoLong) us = (no_jump us).1
no_colon (Word key.Call) us = colon_call us ∙ (no_jump us).2
no_colon (Mark sign.Star) us = refl
no_colon t us = refl

no_label : (ts : List Tok) (i : Written) → line_at ts ≡ Some i → (None ≡ label_of ts) × (ts ≡ unlabelled ts)
unfolding label_of unlabelled
no_label (t ∷ Mark sign.Colon ∷ us) i e = let none = no_colon t us in absurd (let both : None ≡ Some i = sym none ∙ e in cc)
no_label ts i e = (refl, refl)

-- the line of an instruction
abbrev pub line_source : Insn → Source
line_source i = record { label = None; body = Ok (Some (record { insn = i; name = None })) }

pub line_reads : (i : Insn) → Fits i → IsLine (line_of i) (line_source i)
line_reads i fits =
    let t = shown (form_of i None) (form_apart i) (form_small i fits) in
    let plain = no_label t.0 (record { insn = i; name = None }) (line_complete i None t.0 t.2) in
    let P : List Tok → Type 0 = λ ts. IsBody (Ok (Some (record { insn = i; name = None }))) ts in
    record { tokens = t.0; cut_up = t.1; labelled = plain.0; body = subst P plain.1 (t.2, fits) }

-- ---- and so does the whole text

abbrev pub end_source : Source
end_source = record { label = None; body = Ok None }

pub end_reads : IsLine [] end_source
unfolding label_of unlabelled
end_reads = record { tokens = []; cut_up = tt; labelled = refl; body = refl }

abbrev pub AllFit : List Insn → Type 0
AllFit [] = Unit {0}
AllFit (i ∷ is) = Fits i × AllFit is

abbrev sources : List Insn → List Source
sources [] = end_source ∷ []
sources (i ∷ is) = line_source i ∷ sources is

pub fed_line : (line rest : List ℕ) → list_all in_line line ≡ true → lines_of (line ++ 10 ∷ rest) ≡ line ∷ lines_of rest
fed_line [] rest h = refl
fed_line (b ∷ line) rest h =
    let p = and_parts (in_line b) (list_all in_line line) h in
    fed_byte b (line ++ 10 ∷ rest) line (lines_of rest) p.0 (fed_line line rest p.1)
  where
    fed_byte : (b : ℕ) (text line : List ℕ) (ls : List (List ℕ)) → in_line b ≡ true → lines_of text ≡ line ∷ ls → lines_of (b ∷ text) ≡ (b ∷ line) ∷ ls
    fed_byte b text line ls e f = by_test (b == 10) refl e
      where
        by_test : (t : Bool) → b == 10 ≡ t → not t ≡ true → lines_of (b ∷ text) ≡ (b ∷ line) ∷ ls
        by_test true g h = cc
        by_test false g h = rw g (ap (onto_first b) f)

-- the first line of a canonical text is its first instruction's
pub first_line : (i : Insn) (is : List Insn) → Fits i → lines_of (canonical (i ∷ is)) ≡ line_of i ∷ lines_of (canonical is)
first_line i is fits = fed_line (line_of i) (canonical is) (form_in_line (form_of i None) (form_apart i) (form_small i fits))

all_lines : (is : List Insn) → AllFit is → AreLinesWith None (lines_of (canonical is)) (sources is)
all_lines [] h = (end_reads, tt)
all_lines (i ∷ is) h =
    let P : List (List ℕ) → Type 0 = λ ls. AreLinesWith None ls (line_source i ∷ sources is) in
    subst P (sym (first_line i is h.0)) (line_reads i h.0, all_lines is h.1)

means_itself : (labels : List ℕ → Option Place) (line pc : ℕ) (i : Insn) → meaning_of labels line pc (line_source i) ≡ Ok (Some i)
unfolding meaning_of
means_itself labels line pc i = refl

means_nothing : (labels : List ℕ → Option Place) (line pc : ℕ) → meaning_of labels line pc end_source ≡ Ok None
unfolding meaning_of
means_nothing labels line pc = refl

all_meant : (labels : List ℕ → Option Place) (line pc : ℕ) (is : List Insn) → Ok is ≡ program_of labels line pc (sources is)
all_meant labels line pc [] = rw (means_nothing labels line pc) refl
all_meant labels line pc (i ∷ is) = rw (means_itself labels line pc i, sym (all_meant labels (line + 1) (pc + words i) is)) refl

-- THE CANONICAL TEXT reads back
pub reads_back : (is : List Insn) → AllFit is → Assembles (canonical is) (Ok is)
reads_back is h = record { sources = sources is; lines = all_lines is h; meant = all_meant (first_place (sources is) 0 0) 0 0 is }

-- ---- along a loop

AllFit-append : (is : List Insn) (i : Insn) → AllFit is → Fits i → AllFit (is ++ i ∷ [])
AllFit-append [] i h f = (f, tt)
AllFit-append (j ∷ is) i h f = (h.0, AllFit-append is i h.1 f)

pub AllFit-more : (is : List Insn) (k : ℕ) (d : Insn) → k < length is → AllFit (take k is) → Fits (get_or is k d) → AllFit (take (k + 1) is)
AllFit-more is k d lt h f =
    let P : List Insn → Type 0 = λ js. AllFit js in
    subst P (sym (take_more is k d lt)) (AllFit-append (take k is) (get_or is k d) h f)

pub AllFit-all : (is : List Insn) (k : ℕ) → length is ≤ k → AllFit (take k is) → AllFit is
AllFit-all is k le h = let P : List Insn → Type 0 = λ js. AllFit js in subst P (take_all k is le) h
