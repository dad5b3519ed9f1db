-- What is read is spelled: the tokens that the reader takes for an instruction are those of its form.
use Rattle.std.proofs.Common.{◌≡◌, ℕ, cond, ◌&&◌, List, [], ◌∷◌, ◌++◌, Option, Some, None, refl, sym, ap, ◌∙◌, subst}
use Rattle.std.specs.Prelude.{IfSome, ℤ, pos, neg_ℤ}
use Rattle.std.proofs.lemmas.Bool.{and_parts}
use Rattle.bpf_insn.specs.declared.register.Reg.{Reg}
use Rattle.bpf_insn.specs.declared.register.Reg.TheVariants.{R0}
use Rattle.bpf_insn.specs.declared.operation.widths.Width.{Width}
use Rattle.bpf_insn.specs.declared.operation.widths.Width.TheVariants.{Bits32, Bits64}
use Rattle.bpf_insn.specs.declared.operation.arithmetic.AluOp.{AluOp}
use Rattle.bpf_insn.specs.declared.operation.arithmetic.AluOp.TheVariants as alu
use Rattle.bpf_insn.specs.declared.operation.sizes.SignedSize.{SignedSize}
use Rattle.bpf_insn.specs.declared.operation.sizes.SignedSize.TheVariants as signed_size
use Rattle.bpf_insn.specs.declared.operation.sizes.Size.TheVariants as size
use Rattle.bpf_insn.specs.declared.operation.swaps.ByteSwap.{ByteSwap}
use Rattle.bpf_insn.specs.declared.operation.swaps.SwapWidth.{SwapWidth}
use Rattle.bpf_insn.specs.declared.operation.atomics.AtomicOp.{AtomicOp}
use Rattle.bpf_insn.specs.declared.operation.atomics.AtomicOp.TheVariants as atomic
use Rattle.bpf_insn.specs.declared.operation.conditions.Condition.{Condition}
use Rattle.bpf_insn.specs.declared.instruction.Operand.{Operand}
use Rattle.bpf_insn.specs.declared.instruction.Operand.TheVariants as operand
use Rattle.bpf_insn.specs.declared.instruction.Insn.TheVariants as insn
use Rattle.bpf_spelling.specs.declared.keywords.Keyword.{Keyword}
use Rattle.bpf_spelling.specs.declared.keywords.Keyword.TheVariants as key
use Rattle.bpf_spelling.specs.declared.signs.Sign.{Sign}
use Rattle.bpf_spelling.specs.declared.signs.Sign.TheVariants as sign
use Rattle.bpf_spelling.specs.declared.atomics.AtomicForm.TheVariants as form
use Rattle.bpf_spelling.specs.declared.operators.Operator.{Operator}
use Rattle.bpf_insn.specs.declared.operation.arithmetic.TheConstants.{ALU_OPS}
use Rattle.bpf_insn.specs.declared.operation.conditions.TheConstants.{CONDITIONS}
use Rattle.bpf_insn.specs.declared.operation.atomics.TheConstants.{ATOMIC_OPS}
use Rattle.bpf_spelling.specs.Operators.{operator_of, comparison_of, atomic_form, same_operator, operation_named, condition_named}
use Rattle.bpf_spelling.specs.Operators.{is_locked_by, is_fetched_by, fetched_op, locked_op}
use Rattle.bpf_spelling.specs.Token.{Tok, Register, Word, Number, Mark}
use Rattle.bpf_spelling.specs.Form.{Item, Blank, Signed, Target as TargetItem, mark, reg, word, address, cell_items, cell_size}
use Rattle.bpf_spelling.specs.Form.{operator_items, operand_item, extended_width, extended_size, atomic_items}
use Rattle.bpf_text.specs.Line.{Written, Spells, IsSpelled, name_of}
use Rattle.bpf_text.specs.Private.Pieces.{Middle, operator_at, ◌>>=◌, Address, Place, Second, Target, same_width, same_register, address_at}
use Rattle.bpf_text.specs.Private.Pieces.{closed_at, pointer_at, cell_at, operand_at, label_at, target_at, extension_of, cell_width}
use Rattle.bpf_text.specs.Private.Lines.{fetched_at, operation_at, ends, alu_end, alu_at, extend_at, loaded_at, load_at, atomic_end}
use Rattle.bpf_text.specs.Private.Lines.{atomic_at, fetch_at, exchange_at, compared_at, expected_at, compare_exchange_at, swap_at, map_at}
use Rattle.bpf_text.specs.Private.Lines.{keyword_at, moved_at, wide_at, negative_at, number_at, assigned_at, register_at, stored_end}
use Rattle.bpf_text.specs.Private.Lines.{stored_at, store_at, locked_at, lock_at, jump_at, jump_long_at, branch_to, branch_end, branch_at}
use Rattle.bpf_text.specs.Private.Lines.{helper_at, call_local_at, call_at, statement_at, line_at}
use Rattle.bpf_spelling.proofs.Finding.{found_by, same_operator-true, is_locked_by-true, is_fetched_by-true}
use Rattle.bpf_text.proofs.Chains.{IfSome-then, IfSome-if, IfSome-ends, same_width-true, same_register-true}

-- ---- pieces, before whatever follows

abbrev SpellsAddress : List Tok → Address → Type 0
SpellsAddress ts a = (is : List Item) → Spells is a.rest → Spells (address a.base a.offset is) ts

address_sound : (ts : List Tok) → IfSome (address_at ts) (SpellsAddress ts)
unfolding address_at
address_sound (Register Bits64 b ∷ Mark sign.Plus ∷ Number n ∷ ts) = λ is s. (refl, (refl, s))
address_sound (Register Bits64 b ∷ Mark sign.Minus ∷ Number n ∷ ts) = λ is s. (refl, (refl, s))
address_sound ts = tt

abbrev SpellsCell : List Tok → Place → Type 0
SpellsCell ts c = (is : List Item) → Spells is c.rest → Spells (cell_items c.size c.base c.offset is) ts

closed_sound : (k : Keyword) (b : Reg) (o : ℤ) (ts us : List Tok) → ((is : List Item) → Spells is us → Spells (address b o is) ts)
    → IfSome (closed_at k b o us) (SpellsCell (Mark sign.Open ∷ Word k ∷ Mark sign.Star ∷ Mark sign.Close ∷ Mark sign.Open ∷ ts))
unfolding closed_at
closed_sound k b o ts (Mark sign.Close ∷ us) h = λ is s. (refl, (refl, (refl, (refl, (refl, h (mark sign.Close ∷ is) (refl, s))))))
closed_sound k b o ts us h = tt

pointer_sound : (k : Keyword) (ts : List Tok) → IfSome (pointer_at k ts) (SpellsCell (Mark sign.Open ∷ Word k ∷ Mark sign.Star ∷ ts))
unfolding pointer_at
pointer_sound k (Mark sign.Close ∷ Mark sign.Open ∷ ts) =
    IfSome-then (address_at ts) (λ a. closed_at k a.base a.offset a.rest) (SpellsAddress ts)
    (SpellsCell (Mark sign.Open ∷ Word k ∷ Mark sign.Star ∷ Mark sign.Close ∷ Mark sign.Open ∷ ts))
    (address_sound ts) (λ a h. closed_sound k a.base a.offset ts a.rest h)
pointer_sound k ts = tt

cell_sound : (ts : List Tok) → IfSome (cell_at ts) (SpellsCell ts)
unfolding cell_at
cell_sound (Mark sign.Open ∷ Word k ∷ Mark sign.Star ∷ ts) = pointer_sound k ts
cell_sound ts = tt

abbrev SpellsSecond : Width → List Tok → Second → Type 0
SpellsSecond w ts s = (is : List Item) → Spells is s.rest → Spells (operand_item w s.operand ∷ is) ts

operand_sound : (w : Width) (ts : List Tok) → IfSome (operand_at w ts) (SpellsSecond w ts)
unfolding operand_at
operand_sound w (Register v r ∷ ts) = IfSome-if (same_width v w) _ (SpellsSecond w (Register v r ∷ ts))
    (λ e is s. (ap (λ x. Register x r) (same_width-true v w e), s))
operand_sound w (Number n ∷ ts) = λ is s. (refl, s)
operand_sound w (Mark sign.Minus ∷ Number n ∷ ts) = λ is s. (refl, s)
operand_sound w ts = tt

abbrev SpellsTarget : List Tok → Target → Type 0
SpellsTarget ts g = Spells (TargetItem g.distance g.name ∷ []) ts

label_sound : (t : Tok) (o : Option (List ℕ)) → name_of t ≡ o → IfSome (label_at o) (SpellsTarget (t ∷ []))
unfolding label_at
label_sound t (Some name) e = (refl, e, refl)
label_sound t None e = tt

target_sound : (ts : List Tok) → IfSome (target_at ts) (SpellsTarget ts)
unfolding target_at
target_sound (Mark sign.Plus ∷ Number n ∷ []) = (refl, refl)
target_sound (Mark sign.Minus ∷ Number n ∷ []) = (refl, refl)
target_sound (t ∷ []) = label_sound t (name_of t) refl
target_sound ts = tt

-- ---- operations, by how they are written

abbrev SpellsMiddle : List Tok → Middle → Type 0
SpellsMiddle ts m = (is : List Item) → Spells is m.rest → Spells (operator_items m.operator ++ is) ts

operator_sound : (ts : List Tok) → IfSome (operator_at ts) (SpellsMiddle ts)
unfolding operator_at
operator_sound (Word key.Signed ∷ Mark s ∷ ts) = λ is h. (refl, (refl, h))
operator_sound (Mark s ∷ ts) = λ is h. (refl, h)
operator_sound ts = tt

pub operation_sound : (o : Operator) → IfSome (operation_named o) (λ op. operator_of op ≡ o)
unfolding operation_named
operation_sound o = found_by (λ op. same_operator (operator_of op) o) ALU_OPS (λ op. operator_of op ≡ o) (λ op e. same_operator-true (operator_of op) o e)

pub condition_sound : (o : Operator) → IfSome (condition_named o) (λ c. comparison_of c ≡ o)
unfolding condition_named
condition_sound o = found_by (λ c. same_operator (comparison_of c) o) CONDITIONS (λ c. comparison_of c ≡ o) (λ c e. same_operator-true (comparison_of c) o e)

pub locked_op_sound : (s : Sign) → IfSome (locked_op s) (λ op. atomic_form op ≡ form.Locked s)
unfolding locked_op
locked_op_sound s = found_by (λ op. is_locked_by (atomic_form op) s) ATOMIC_OPS (λ op. atomic_form op ≡ form.Locked s)
    (λ op e. is_locked_by-true (atomic_form op) s e)

pub fetched_op_sound : (k : Keyword) → IfSome (fetched_op k) (λ op. atomic_form op ≡ form.Fetch k)
unfolding fetched_op
fetched_op_sound k = found_by (λ op. is_fetched_by (atomic_form op) k) ATOMIC_OPS (λ op. atomic_form op ≡ form.Fetch k)
    (λ op e. is_fetched_by-true (atomic_form op) k e)

pub extension_sound : (w : Width) (z : SignedSize) → IfSome (extension_of w z) (λ e. (extended_width e ≡ w) × (extended_size e ≡ z))
unfolding extension_of
extension_sound Bits32 signed_size.Byte = (refl, refl)
extension_sound Bits32 signed_size.Half = (refl, refl)
extension_sound Bits32 signed_size.Word = tt
extension_sound Bits64 z = all z
  where
    all : (z : SignedSize) → IfSome (extension_of Bits64 z) (λ e. (extended_width e ≡ Bits64) × (extended_size e ≡ z))
    all signed_size.Byte = (refl, refl)
    all signed_size.Half = (refl, refl)
    all signed_size.Word = (refl, refl)

cell_width_sound : (k : Keyword) → IfSome (cell_width k) (λ w. k ≡ cell_size w)
unfolding cell_width
cell_width_sound (key.Unsigned size.Word) = refl
cell_width_sound (key.Unsigned size.Double) = refl
cell_width_sound k = tt

-- ---- lines that begin with a register

abbrev Reads : List Tok → Option Written → Type 0
Reads ts o = IfSome o (λ i. IsSpelled i ts)

alu_sound : (w : Width) (d : Reg) (op : AluOp) (ts whole : List Tok) → ((is : List Item) → Spells is ts → Spells (operator_items (operator_of op) ++ is) whole)
    → Reads (Register w d ∷ whole) (alu_at w d op ts)
unfolding alu_at alu_end
alu_sound w d op ts whole h =
    IfSome-then (operand_at w ts) (λ s. alu_end w d op s.operand s.rest) (SpellsSecond w ts) (λ i. IsSpelled i (Register w d ∷ whole)) (operand_sound w ts)
    (λ s spelled. IfSome-ends (insn.Alu w op d s.operand) s.rest (λ i. IsSpelled i (Register w d ∷ whole))
    (λ e. (refl, h (Blank ∷ operand_item w s.operand ∷ []) (spelled [] e))))

arithmetic_sound : (w : Width) (d : Reg) (ts : List Tok) → Reads (Register w d ∷ ts) (operation_at w d ts)
unfolding operation_at
arithmetic_sound w d ts =
    IfSome-then (operator_at ts) (λ m. operation_named m.operator >>= λ op. alu_at w d op m.rest) (SpellsMiddle ts)
    (λ i. IsSpelled i (Register w d ∷ ts)) (operator_sound ts)
    (λ m h. IfSome-then (operation_named m.operator) (λ op. alu_at w d op m.rest) (λ op. operator_of op ≡ m.operator)
    (λ i. IsSpelled i (Register w d ∷ ts)) (operation_sound m.operator)
    (λ op e. alu_sound w d op m.rest ts (λ is s. let P : Operator → Type 0 = λ o. Spells (operator_items o ++ is) ts in subst P (sym e) (h is s))))

moved_sound : (w : Width) (d : Reg) (z : ℤ) (pre : List Tok → List Tok) (ts : List Tok) →
    ((us : List Tok) → us ≡ [] → Spells (Signed z ∷ []) (pre us)) → Reads (Register w d ∷ Mark sign.Assign ∷ pre ts) (moved_at w d z ts)
unfolding moved_at
moved_sound w d z pre ts h = IfSome-ends (insn.Alu w alu.Mov d (operand.Immediate z)) ts
    (λ i. IsSpelled i (Register w d ∷ Mark sign.Assign ∷ pre ts)) (λ e. (refl, (refl, h ts e)))

negative_sound : (w : Width) (d : Reg) (ts : List Tok) → Reads (Register w d ∷ Mark sign.Assign ∷ Mark sign.Minus ∷ ts) (negative_at w d ts)
unfolding negative_at
negative_sound w d (Register v r ∷ ts) =
    IfSome-if (same_width v w && same_register r d) (ends (insn.Negate w d) ts)
    (λ i. IsSpelled i (Register w d ∷ Mark sign.Assign ∷ Mark sign.Minus ∷ Register v r ∷ ts))
    (λ e. let p = and_parts (same_width v w) (same_register r d) e in
    IfSome-ends (insn.Negate w d) ts (λ i. IsSpelled i (Register w d ∷ Mark sign.Assign ∷ Mark sign.Minus ∷ Register v r ∷ ts))
    (λ f. (refl, (refl, (refl, (ap (λ x. Register x r) (same_width-true v w p.0) ∙ ap (Register w) (same_register-true r d p.1), f))))))
negative_sound w d (Number n ∷ ts) = moved_sound w d (neg_ℤ (pos n)) (λ us. Mark sign.Minus ∷ Number n ∷ us) ts (λ us e. (refl, e))
negative_sound w d ts = tt

number_sound : (w : Width) (d : Reg) (n : ℕ) (ts : List Tok) → Reads (Register w d ∷ Mark sign.Assign ∷ Number n ∷ ts) (number_at w d n ts)
unfolding number_at wide_at
number_sound Bits64 d n (Word key.Wide ∷ ts) = IfSome-ends (insn.LoadNumber d n) ts
    (λ i. IsSpelled i (Register Bits64 d ∷ Mark sign.Assign ∷ Number n ∷ Word key.Wide ∷ ts)) (λ e. (refl, (refl, (refl, (refl, e)))))
number_sound w d n ts = moved_sound w d (pos n) (λ us. Number n ∷ us) ts (λ us e. (refl, e))

extend_sound : (w : Width) (d : Reg) (ts : List Tok) → Reads (Register w d ∷ Mark sign.Assign ∷ Mark sign.Open ∷ ts) (extend_at w d ts)
unfolding extend_at
extend_sound w d (Word (key.Extended z) ∷ Mark sign.Close ∷ Register v s ∷ ts) =
    IfSome-if (same_width v w) (extension_of w z >>= λ e. ends (insn.SignExtend e d s) ts) Q
    (λ f. IfSome-then (extension_of w z) (λ e. ends (insn.SignExtend e d s) ts) (λ e. (extended_width e ≡ w) × (extended_size e ≡ z)) Q (extension_sound w z)
    (λ e g. IfSome-ends (insn.SignExtend e d s) ts Q
    (λ h. (
      ap (λ x. Register x d) (sym g.0),
      (
        refl,
        (
          refl,
          (
            ap (λ x. Word (key.Extended x)) (sym g.1),
            (refl, (ap (λ x. Register x s) (same_width-true v w f ∙ sym g.0), h)),
          ),
        ),
      ),
    ))))
  where
    Q : Written → Type 0
    Q i = IsSpelled i (Register w d ∷ Mark sign.Assign ∷ Mark sign.Open ∷ Word (key.Extended z) ∷ Mark sign.Close ∷ Register v s ∷ ts)
extend_sound w d ts = tt

loaded_sound : (d : Reg) (k : Keyword) (b : Reg) (o : ℤ) (ts us : List Tok) →
    ((is : List Item) → Spells is us → Spells (cell_items k b o is) ts) → Reads (Register Bits64 d ∷ Mark sign.Assign ∷ Mark sign.Star ∷ ts)
    (loaded_at d k b o us)
unfolding loaded_at
loaded_sound d (key.Unsigned z) b o ts us h = IfSome-ends (insn.Load z d b o) us
    (λ i. IsSpelled i (Register Bits64 d ∷ Mark sign.Assign ∷ Mark sign.Star ∷ ts)) (λ e. (refl, (refl, (refl, h [] e))))
loaded_sound d (key.Extended z) b o ts us h = IfSome-ends (insn.LoadSigned z d b o) us
    (λ i. IsSpelled i (Register Bits64 d ∷ Mark sign.Assign ∷ Mark sign.Star ∷ ts)) (λ e. (refl, (refl, (refl, h [] e))))
loaded_sound d k b o ts us h = tt

load_sound : (w : Width) (d : Reg) (ts : List Tok) → Reads (Register w d ∷ Mark sign.Assign ∷ Mark sign.Star ∷ ts) (load_at w d ts)
unfolding load_at
load_sound Bits32 d ts = tt
load_sound Bits64 d ts =
    IfSome-then (cell_at ts) (λ c. loaded_at d c.size c.base c.offset c.rest) (SpellsCell ts)
    (λ i. IsSpelled i (Register Bits64 d ∷ Mark sign.Assign ∷ Mark sign.Star ∷ ts)) (cell_sound ts)
    (λ c h. loaded_sound d c.size c.base c.offset ts c.rest h)

-- ---- atomic operations

atomic_end_sound : (op : AtomicOp) (w : Width) (b : Reg) (o : ℤ) (s : Reg) (ts whole : List Tok) →
    (ts ≡ [] → Spells (atomic_items (atomic_form op) w b o s) whole) → Reads whole (atomic_end op w b o s ts)
unfolding atomic_end
atomic_end_sound op w b o s ts whole h = IfSome-ends (insn.Atomic w op b o s) ts (λ i. IsSpelled i whole) h

-- after the place of an operation that fetches, `, R)`
atomic_sound : (op : AtomicOp) (w : Width) (d b : Reg) (o : ℤ) (ts whole : List Tok) →
    (Spells (mark sign.Comma ∷ Blank ∷ reg w d ∷ mark sign.Close ∷ []) ts → Spells (atomic_items (atomic_form op) w b o d) whole) → Reads
    whole (atomic_at op w d b o ts)
unfolding atomic_at
atomic_sound op w d b o (Mark sign.Comma ∷ Register v s ∷ Mark sign.Close ∷ ts) whole h =
    IfSome-if (same_width v w && same_register s d) (atomic_end op w b o d ts) (λ i. IsSpelled i whole)
    (λ e. let p = and_parts (same_width v w) (same_register s d) e in
    atomic_end_sound op w b o d ts whole
    (λ f. h (refl, (ap (λ x. Register x s) (same_width-true v w p.0) ∙ ap (Register w) (same_register-true s d p.1), (refl, f)))))
atomic_sound op w d b o ts whole h = tt

fetch_sound : (op : AtomicOp) (k : Keyword) (w : Width) (d : Reg) (ts : List Tok) → atomic_form op ≡ form.Fetch k → Reads
    (Register w d ∷ Mark sign.Assign ∷ Word k ∷ ts) (fetch_at op w d ts)
unfolding fetch_at
fetch_sound op k w d (Mark sign.Open ∷ ts) same =
    IfSome-then (cell_at ts) (λ c. cell_width c.size >>= λ v. cond (same_width v w) (atomic_at op w d c.base c.offset c.rest) None)
    (SpellsCell ts) Q (cell_sound ts)
    (λ c h. IfSome-then (cell_width c.size) (λ v. cond (same_width v w) (atomic_at op w d c.base c.offset c.rest) None)
    (λ v. c.size ≡ cell_size v) Q (cell_width_sound c.size)
    (λ v sized. IfSome-if (same_width v w) (atomic_at op w d c.base c.offset c.rest) Q
    (λ e. atomic_sound op w d c.base c.offset c.rest whole (λ tail.
    let sizes : c.size ≡ cell_size w = sized ∙ ap cell_size (same_width-true v w e) in
    let Tail : List Item = mark sign.Comma ∷ Blank ∷ reg w d ∷ mark sign.Close ∷ [] in
    let P : Keyword → Type 0 = λ x. Spells (cell_items x c.base c.offset Tail) ts in
    let F : List Item → Type 0 = λ is. Spells is whole in
    subst F (sym (ap (λ f. atomic_items f w c.base c.offset d) same)) (refl, (refl, (refl, (refl, subst P sizes (h Tail tail)))))))))
  where
    whole : List Tok
    whole = Register w d ∷ Mark sign.Assign ∷ Word k ∷ Mark sign.Open ∷ ts

    Q : Written → Type 0
    Q i = IsSpelled i whole
fetch_sound op k w d ts same = tt

exchange_sound : (w : Width) (d : Reg) (ts : List Tok) → Reads (Register w d ∷ Mark sign.Assign ∷ Word (key.Exchange w) ∷ ts) (exchange_at w d ts)
unfolding exchange_at
exchange_sound w d (Mark sign.Open ∷ ts) =
    let whole = Register w d ∷ Mark sign.Assign ∷ Word (key.Exchange w) ∷ Mark sign.Open ∷ ts in
    IfSome-then (address_at ts) (λ a. atomic_at atomic.Exchange w d a.base a.offset a.rest) (SpellsAddress ts) (λ i. IsSpelled i whole) (address_sound ts)
    (λ a h. atomic_sound atomic.Exchange w d a.base a.offset a.rest whole
    (λ tail. (refl, (refl, (refl, (refl, h (mark sign.Comma ∷ Blank ∷ reg w d ∷ mark sign.Close ∷ []) tail))))))
exchange_sound w d ts = tt

compared_sound : (w : Width) (b : Reg) (o : ℤ) (ts whole : List Tok) →
    ((s : Reg) → Spells (mark sign.Comma ∷ Blank ∷ reg w s ∷ mark sign.Close ∷ []) ts → Spells (atomic_items form.CompareExchange w b o s)
    whole) → Reads whole (compared_at w b o ts)
unfolding compared_at
compared_sound w b o (Mark sign.Comma ∷ Register v s ∷ Mark sign.Close ∷ ts) whole h =
    IfSome-if (same_width v w) (atomic_end atomic.CompareExchange w b o s ts) (λ i. IsSpelled i whole)
    (λ e. atomic_end_sound atomic.CompareExchange w b o s ts whole (λ f. h s (refl, (ap (λ x. Register x s) (same_width-true v w e), (refl, f)))))
compared_sound w b o ts whole h = tt

expected_sound : (w : Width) (b : Reg) (o : ℤ) (ts whole : List Tok) →
    ((s : Reg) → Spells (mark sign.Comma ∷ Blank ∷ reg w R0 ∷ mark sign.Comma ∷ Blank ∷ reg w s ∷ mark sign.Close ∷ []) ts → Spells
    (atomic_items form.CompareExchange w b o s) whole) → Reads whole (expected_at w b o ts)
unfolding expected_at
expected_sound w b o (Mark sign.Comma ∷ Register v R0 ∷ ts) whole h =
    IfSome-if (same_width v w) (compared_at w b o ts) (λ i. IsSpelled i whole)
    (λ e. compared_sound w b o ts whole (λ s tail. h s (refl, (ap (λ x. Register x R0) (same_width-true v w e), tail))))
expected_sound w b o ts whole h = tt

compare_exchange_sound : (w : Width) (d : Reg) (ts : List Tok) → Reads (Register w d ∷ Mark sign.Assign ∷ Word (key.CompareExchange w) ∷ ts)
    (compare_exchange_at w d ts)
unfolding compare_exchange_at
compare_exchange_sound w R0 (Mark sign.Open ∷ ts) =
    let whole = Register w R0 ∷ Mark sign.Assign ∷ Word (key.CompareExchange w) ∷ Mark sign.Open ∷ ts in
    IfSome-then (address_at ts) (λ a. expected_at w a.base a.offset a.rest) (SpellsAddress ts) (λ i. IsSpelled i whole) (address_sound ts)
    (λ a h. expected_sound w a.base a.offset a.rest whole
    (λ s tail. (refl, (refl, (refl, (refl, h (mark sign.Comma ∷ Blank ∷ reg w R0 ∷ mark sign.Comma ∷ Blank ∷ reg w s ∷ mark sign.Close ∷ []) tail))))))
compare_exchange_sound w d ts = tt

-- ---- after `=`

swap_sound : (w : Width) (d : Reg) (k : ByteSwap) (z : SwapWidth) (ts : List Tok) → Reads
    (Register w d ∷ Mark sign.Assign ∷ Word (key.Swap k z) ∷ ts) (swap_at w d k z ts)
unfolding swap_at
swap_sound Bits64 d k z (Register Bits64 r ∷ ts) =
    let whole = Register Bits64 d ∷ Mark sign.Assign ∷ Word (key.Swap k z) ∷ Register Bits64 r ∷ ts in
    IfSome-if (same_register r d) (ends (insn.SwapBytes k z d) ts) (λ i. IsSpelled i whole)
    (λ e. IfSome-ends (insn.SwapBytes k z d) ts (λ i. IsSpelled i whole) (λ f. (refl, (refl, (refl, (ap (Register Bits64) (same_register-true r d e), f))))))
swap_sound w d k z ts = tt

map_sound : (w : Width) (d : Reg) (ts : List Tok) → Reads (Register w d ∷ Mark sign.Assign ∷ Word key.Map ∷ ts) (map_at w d ts)
unfolding map_at
map_sound Bits64 d (Number n ∷ ts) = IfSome-ends (insn.LoadMap d n) ts
    (λ i. IsSpelled i (Register Bits64 d ∷ Mark sign.Assign ∷ Word key.Map ∷ Number n ∷ ts)) (λ e. (refl, (refl, (refl, (refl, e)))))
map_sound w d ts = tt

fetched_sound : (w : Width) (d : Reg) (k : Keyword) (ts : List Tok) → Reads (Register w d ∷ Mark sign.Assign ∷ Word k ∷ ts) (fetched_at w d k ts)
unfolding fetched_at
fetched_sound w d k ts =
    IfSome-then (fetched_op k) (λ op. fetch_at op w d ts) (λ op. atomic_form op ≡ form.Fetch k)
    (λ i. IsSpelled i (Register w d ∷ Mark sign.Assign ∷ Word k ∷ ts)) (fetched_op_sound k)
    (λ op same. fetch_sound op k w d ts same)

keyword_sound : (w : Width) (d : Reg) (k : Keyword) (ts : List Tok) → Reads (Register w d ∷ Mark sign.Assign ∷ Word k ∷ ts) (keyword_at w d k ts)
unfolding keyword_at
keyword_sound w d (key.Swap k z) ts = swap_sound w d k z ts
keyword_sound w d key.Map ts = map_sound w d ts
keyword_sound w d (key.Exchange v) ts =
    IfSome-if (same_width v w) (exchange_at w d ts) (λ i. IsSpelled i (Register w d ∷ Mark sign.Assign ∷ Word (key.Exchange v) ∷ ts))
    (λ e. let P : Width → Type 0 = λ x. Reads (Register w d ∷ Mark sign.Assign ∷ Word (key.Exchange x) ∷ ts) (exchange_at w d ts) in subst P
    (sym (same_width-true v w e)) (exchange_sound w d ts))
keyword_sound w d (key.CompareExchange v) ts =
    IfSome-if (same_width v w) (compare_exchange_at w d ts) (λ i. IsSpelled i (Register w d ∷ Mark sign.Assign ∷ Word (key.CompareExchange v) ∷ ts))
    (λ e. let P : Width → Type 0 = λ x. Reads (Register w d ∷ Mark sign.Assign ∷ Word (key.CompareExchange x) ∷ ts) (compare_exchange_at w d ts) in
    subst P (sym (same_width-true v w e)) (compare_exchange_sound w d ts))
keyword_sound w d k ts = fetched_sound w d k ts

assigned_sound : (w : Width) (d : Reg) (ts : List Tok) → Reads (Register w d ∷ Mark sign.Assign ∷ ts) (assigned_at w d ts)
unfolding assigned_at
assigned_sound w d (Mark sign.Minus ∷ ts) = negative_sound w d ts
assigned_sound w d (Mark sign.Open ∷ ts) = extend_sound w d ts
assigned_sound w d (Mark sign.Star ∷ ts) = load_sound w d ts
assigned_sound w d (Word k ∷ ts) = keyword_sound w d k ts
assigned_sound w d (Number n ∷ ts) = number_sound w d n ts
assigned_sound w d ts = alu_sound w d alu.Mov ts (Mark sign.Assign ∷ ts) (λ is s. (refl, s))

register_sound : (w : Width) (d : Reg) (ts : List Tok) → Reads (Register w d ∷ ts) (register_at w d ts)
unfolding register_at
register_sound w d (Mark sign.Assign ∷ ts) = assigned_sound w d ts
register_sound w d ts = arithmetic_sound w d ts

-- ---- the other lines

stored_end_sound : (k : Keyword) (b : Reg) (o : ℤ) (s : Operand) (ts us whole : List Tok) →
    (us ≡ [] → Spells (mark sign.Star ∷ cell_items k b o (Blank ∷ mark sign.Assign ∷ Blank ∷ operand_item Bits64 s ∷ [])) whole) → Reads
    whole (stored_end k b o s us)
unfolding stored_end
stored_end_sound (key.Unsigned z) b o (operand.Immediate n) ts us whole h = IfSome-ends (insn.StoreImmediate z b o n) us (λ i. IsSpelled i whole) h
stored_end_sound (key.Unsigned z) b o (operand.Register r) ts us whole h = IfSome-ends (insn.Store z b o r) us (λ i. IsSpelled i whole) h
stored_end_sound k b o s ts us whole h = tt

stored_sound : (k : Keyword) (b : Reg) (o : ℤ) (ts us : List Tok) → ((is : List Item) → Spells is us → Spells (cell_items k b o is) ts) →
    Reads (Mark sign.Star ∷ ts) (stored_at k b o us)
unfolding stored_at
stored_sound k b o ts (Mark sign.Assign ∷ us) h =
    IfSome-then (operand_at Bits64 us) (λ s. stored_end k b o s.operand s.rest) (SpellsSecond Bits64 us)
    (λ i. IsSpelled i (Mark sign.Star ∷ ts)) (operand_sound Bits64 us)
    (λ s spelled. stored_end_sound k b o s.operand us s.rest (Mark sign.Star ∷ ts)
    (λ e. (refl, h (Blank ∷ mark sign.Assign ∷ Blank ∷ operand_item Bits64 s.operand ∷ []) (refl, spelled [] e))))
stored_sound k b o ts us h = tt

store_sound : (ts : List Tok) → Reads (Mark sign.Star ∷ ts) (store_at ts)
unfolding store_at
store_sound ts =
    IfSome-then (cell_at ts) (λ c. stored_at c.size c.base c.offset c.rest) (SpellsCell ts) (λ i. IsSpelled i (Mark sign.Star ∷ ts)) (cell_sound ts)
    (λ c h. stored_sound c.size c.base c.offset ts c.rest h)

locked_sound : (w : Width) (b : Reg) (o : ℤ) (ts us : List Tok) →
    ((is : List Item) → Spells is us → Spells (cell_items (cell_size w) b o is) ts) → Reads (Word key.Lock ∷ Mark sign.Star ∷ ts) (locked_at w b o us)
unfolding locked_at
locked_sound w b o ts (Mark s ∷ Register Bits64 r ∷ us) h =
    IfSome-then (locked_op s) (λ op. atomic_end op w b o r us) (λ op. atomic_form op ≡ form.Locked s)
    (λ i. IsSpelled i (Word key.Lock ∷ Mark sign.Star ∷ ts)) (locked_op_sound s)
    (λ op same. atomic_end_sound op w b o r us (Word key.Lock ∷ Mark sign.Star ∷ ts)
    (λ e. let F : List Item → Type 0 = λ is. Spells is (Word key.Lock ∷ Mark sign.Star ∷ ts) in
    subst F (sym (ap (λ f. atomic_items f w b o r) same)) (refl, (refl, h (Blank ∷ mark s ∷ Blank ∷ reg Bits64 r ∷ []) (refl, (refl, e))))))
locked_sound w b o ts us h = tt

lock_sound : (ts : List Tok) → Reads (Word key.Lock ∷ ts) (lock_at ts)
unfolding lock_at
lock_sound (Mark sign.Star ∷ ts) =
    IfSome-then (cell_at ts) (λ c. cell_width c.size >>= λ w. locked_at w c.base c.offset c.rest) (SpellsCell ts)
    (λ i. IsSpelled i (Word key.Lock ∷ Mark sign.Star ∷ ts)) (cell_sound ts)
    (λ c h. IfSome-then (cell_width c.size) (λ w. locked_at w c.base c.offset c.rest) (λ w. c.size ≡ cell_size w)
    (λ i. IsSpelled i (Word key.Lock ∷ Mark sign.Star ∷ ts)) (cell_width_sound c.size)
    (λ w sized. locked_sound w c.base c.offset ts c.rest (λ is s.
    let P : Keyword → Type 0 = λ x. Spells (cell_items x c.base c.offset is) ts in subst P sized (h is s))))
lock_sound ts = tt

jump_sound : (ts : List Tok) → Reads (Word key.Goto ∷ ts) (jump_at ts)
unfolding jump_at
jump_sound ts = IfSome-then (target_at ts) (λ g. Some (record { insn = insn.Jump g.distance; name = g.name })) (SpellsTarget ts)
    (λ i. IsSpelled i (Word key.Goto ∷ ts)) (target_sound ts) (λ g h. (refl, h))

jump_long_sound : (ts : List Tok) → Reads (Word key.GotoLong ∷ ts) (jump_long_at ts)
unfolding jump_long_at
jump_long_sound ts = IfSome-then (target_at ts) (λ g. Some (record { insn = insn.JumpLong g.distance; name = g.name })) (SpellsTarget ts)
    (λ i. IsSpelled i (Word key.GotoLong ∷ ts)) (target_sound ts) (λ g h. (refl, h))

branch_end_sound : (w : Width) (c : Condition) (d : Reg) (s : Operand) (ts whole : List Tok) →
    ((z : ℤ) (name : Option (List ℕ)) → Spells (Blank ∷ word key.Goto ∷ Blank ∷ TargetItem z name ∷ []) ts → IsSpelled
    (record { insn = insn.JumpIf w c d s z; name = name }) whole) → Reads whole (branch_end w c d s ts)
unfolding branch_end branch_to
branch_end_sound w c d s (Word key.Goto ∷ ts) whole h = IfSome-then (target_at ts) (branch_to w c d s) (SpellsTarget ts)
    (λ i. IsSpelled i whole) (target_sound ts) (λ g spelled. h g.distance g.name (refl, spelled))
branch_end_sound w c d s ts whole h = tt

branch_sound : (ts : List Tok) → Reads (Word key.If ∷ ts) (branch_at ts)
unfolding branch_at
branch_sound (Register w d ∷ ts) =
    let whole = Word key.If ∷ Register w d ∷ ts in
    IfSome-then (operator_at ts) (λ m. condition_named m.operator >>= λ c. operand_at w m.rest >>= λ s. branch_end w c d s.operand s.rest)
    (SpellsMiddle ts) (λ i. IsSpelled i whole) (operator_sound ts)
    (λ t h. IfSome-then (condition_named t.operator) (λ c. operand_at w t.rest >>= λ s. branch_end w c d s.operand s.rest)
    (λ c. comparison_of c ≡ t.operator) (λ i. IsSpelled i whole) (condition_sound t.operator)
    (λ c same. IfSome-then (operand_at w t.rest) (λ s. branch_end w c d s.operand s.rest) (SpellsSecond w t.rest) (λ i. IsSpelled i whole)
    (operand_sound w t.rest)
    (λ s k. branch_end_sound w c d s.operand s.rest whole
    (λ z name spelled. (
      refl,
      (
        refl,
        let others : List Item = Blank ∷ operand_item w s.operand ∷ Blank ∷ word key.Goto ∷ Blank ∷ TargetItem z name ∷ [] in
            let P : Operator → Type 0 = λ o. Spells (operator_items o ++ others) ts in
            subst P (sym same) (h others (k (Blank ∷ word key.Goto ∷ Blank ∷ TargetItem z name ∷ []) spelled)),
      ),
    )))))
branch_sound ts = tt

call_local_sound : (ts : List Tok) → Reads (Word key.Call ∷ ts) (call_local_at ts)
unfolding call_local_at
call_local_sound ts = IfSome-then (target_at ts) (λ g. Some (record { insn = insn.CallLocal g.distance; name = g.name })) (SpellsTarget ts)
    (λ i. IsSpelled i (Word key.Call ∷ ts)) (target_sound ts) (λ g h. (refl, h))

call_sound : (ts : List Tok) → Reads (Word key.Call ∷ ts) (call_at ts)
unfolding call_at helper_at
call_sound (Number n ∷ ts) = IfSome-ends (insn.CallHelper n) ts (λ i. IsSpelled i (Word key.Call ∷ Number n ∷ ts)) (λ e. (refl, (refl, e)))
call_sound ts = call_local_sound ts

statement_sound : (k : Keyword) (ts : List Tok) → Reads (Word k ∷ ts) (statement_at k ts)
unfolding statement_at
statement_sound key.Lock ts = lock_sound ts
statement_sound key.If ts = branch_sound ts
statement_sound key.Goto ts = jump_sound ts
statement_sound key.GotoLong ts = jump_long_sound ts
statement_sound key.Call ts = call_sound ts
statement_sound key.Exit ts = IfSome-ends insn.Exit ts (λ i. IsSpelled i (Word key.Exit ∷ ts)) (λ e. (refl, e))
statement_sound k ts = tt

-- WHAT IS READ IS SPELLED
pub line_sound : (ts : List Tok) → Reads ts (line_at ts)
unfolding line_at
line_sound (Register w d ∷ ts) = register_sound w d ts
line_sound (Mark sign.Star ∷ ts) = store_sound ts
line_sound (Word k ∷ ts) = statement_sound k ts
line_sound ts = tt
