-- What is spelled is read: of the tokens of a form the reader makes its instruction.
use Rattle.std.proofs.Common.{◌≡◌, ℕ, Bool, true, false, List, [], ◌∷◌, ◌++◌, Option, Some, None, append-nil, refl, sym, ap, ◌∙◌}
use Rattle.std.specs.Prelude.{ℤ, pos, neg_ℤ, map}
use Rattle.bpf_insn.specs.declared.register.Reg.{Reg}
use Rattle.bpf_insn.specs.declared.register.Reg.TheVariants.{R0}
use Rattle.bpf_insn.specs.declared.operation.widths.Width.{Width}
use Rattle.bpf_insn.specs.declared.operation.widths.Width.TheVariants.{Bits32, Bits64}
use Rattle.bpf_insn.specs.declared.operation.arithmetic.AluOp.{AluOp}
use Rattle.bpf_insn.specs.declared.operation.arithmetic.AluOp.TheVariants as alu
use Rattle.bpf_insn.specs.declared.operation.extensions.SignExtension.{SignExtension}
use Rattle.bpf_insn.specs.declared.operation.sizes.Size.{Size}
use Rattle.bpf_insn.specs.declared.operation.extensions.SignExtension.TheVariants as extend
use Rattle.bpf_insn.specs.declared.operation.swaps.ByteSwap.{ByteSwap}
use Rattle.bpf_insn.specs.declared.operation.swaps.SwapWidth.{SwapWidth}
use Rattle.bpf_insn.specs.declared.operation.atomics.AtomicOp.{AtomicOp}
use Rattle.bpf_insn.specs.declared.operation.atomics.AtomicOp.TheVariants as atomic
use Rattle.bpf_insn.specs.declared.operation.conditions.Condition.{Condition}
use Rattle.bpf_insn.specs.declared.operation.conditions.Condition.TheVariants as test
use Rattle.bpf_insn.specs.declared.instruction.Operand.{Operand}
use Rattle.bpf_insn.specs.declared.instruction.Operand.TheVariants as operand
use Rattle.bpf_insn.specs.declared.instruction.Insn.{Insn}
use Rattle.bpf_insn.specs.declared.instruction.Insn.TheVariants as insn
use Rattle.bpf_spelling.specs.declared.keywords.Keyword.{Keyword}
use Rattle.bpf_spelling.specs.declared.keywords.Keyword.TheVariants as key
use Rattle.bpf_spelling.specs.declared.signs.Sign.{Sign}
use Rattle.bpf_spelling.specs.declared.signs.Sign.TheVariants as sign
use Rattle.bpf_insn.specs.declared.operation.swaps.ByteSwap.TheVariants as swap
use Rattle.bpf_insn.specs.declared.operation.swaps.SwapWidth.TheVariants as bits
use Rattle.bpf_insn.specs.declared.operation.sizes.Size.TheVariants as size
use Rattle.bpf_insn.specs.declared.operation.sizes.SignedSize.TheVariants as signed_size
use Rattle.bpf_spelling.specs.declared.atomics.AtomicForm.{AtomicForm}
use Rattle.bpf_spelling.specs.declared.atomics.AtomicForm.TheVariants as form
use Rattle.bpf_spelling.specs.declared.operators.Operator.{Operator}
use Rattle.bpf_spelling.specs.declared.operators.Operator.TheVariants.{Plain, Signed as SignedBy}
use Rattle.bpf_spelling.specs.Operators.{operator_of, comparison_of, atomic_form, operation_named, condition_named, fetched_op, locked_op}
use Rattle.bpf_spelling.specs.Token.{Tok, Register, Word, Name, Number, Mark}
use Rattle.bpf_spelling.specs.Form.{Item, Is, Blank, Natural, Hex, Offset, Target as TargetItem, mark, reg, word, address, cell_items}
use Rattle.bpf_spelling.specs.Form.{cell_size, operator_items, operand_item, extended_width, extended_size, locked, fetched, exchanged}
use Rattle.bpf_spelling.specs.Form.{compare_exchanged, atomic_items, form_of}
use Rattle.bpf_text.specs.Line.{Written, Spells, name_of, TokenThen, NaturalThen, NegatedThen, SignedThen, OffsetThen}
use Rattle.bpf_text.specs.Private.Judging.{signed_of}
use Rattle.bpf_text.specs.Private.Pieces.{Middle, operator_at, Target, address_at, closed_at, pointer_at, cell_at, operand_at, label_at}
use Rattle.bpf_text.specs.Private.Pieces.{target_at, extension_of, cell_width}
use Rattle.bpf_text.specs.Private.Lines.{fetched_at, operation_at, alu_end, alu_at, extend_at, loaded_at, load_at, atomic_end, atomic_at}
use Rattle.bpf_text.specs.Private.Lines.{fetch_at, exchange_at, compared_at, expected_at, compare_exchange_at, swap_at, map_at, keyword_at}
use Rattle.bpf_text.specs.Private.Lines.{moved_at, wide_at, negative_at, number_at, assigned_at, register_at, stored_end, stored_at}
use Rattle.bpf_text.specs.Private.Lines.{store_at, locked_at, lock_at, jump_at, jump_long_at, branch_to, branch_end, branch_at, helper_at}
use Rattle.bpf_text.specs.Private.Lines.{call_local_at, call_at, statement_at, line_at}
use Rattle.bpf_text.proofs.Chains.{same_width-refl, same_register-refl}

-- ---- the tokens that an item has at the front

pub token_then : (t : Tok) (next : List Tok → Type 0) (ts : List Tok) → TokenThen t next ts → (rest : List Tok) × (ts ≡ t ∷ rest) × next rest
token_then t next [] h = absurd h
token_then t next (u ∷ us) h = (us, ap (λ x. x ∷ us) h.0, h.1)

-- some tokens in a row
tokens_then : (ps : List Tok) (is : List Item) (ts : List Tok) → Spells (map Is ps ++ is) ts → (rest : List Tok) × (ts ≡ ps ++ rest) × Spells is rest
tokens_then [] is ts h = (ts, refl, h)
tokens_then (p ∷ ps) is ts h =
    let first = token_then p (Spells (map Is ps ++ is)) ts h in
    let others = tokens_then ps is first.0 first.2 in
    (others.0, first.1 ∙ ap (λ x. p ∷ x) others.1, others.2)

tokens_end : (ps ts : List Tok) → Spells (map Is ps ++ []) ts → ts ≡ ps
tokens_end ps ts h = let all = tokens_then ps [] ts h in all.1 ∙ ap (λ x. ps ++ x) all.2 ∙ append-nil ps

pub natural_then : (z : ℤ) (next : List Tok → Type 0) (ts : List Tok) → NaturalThen z next ts → (n : ℕ) × (rest : List Tok) × (z ≡ pos n) ×
    (ts ≡ Number n ∷ rest) × next rest
natural_then z next (Number n ∷ ts) h = (n, ts, h.0, refl, h.1)
natural_then z next ts h = absurd h

negated_then : (z : ℤ) (next : List Tok → Type 0) (ts : List Tok) → NegatedThen z next ts → (n : ℕ) × (rest : List Tok) ×
    (z ≡ neg_ℤ (pos n)) × (ts ≡ Number n ∷ rest) × next rest
negated_then z next (Number n ∷ ts) h = (n, ts, h.0, refl, h.1)
negated_then z next ts h = absurd h

abbrev pub minus : Bool → List Tok → List Tok
minus true ts = Mark sign.Minus ∷ ts
minus false ts = ts

abbrev pub either_sign : Bool → List Tok → List Tok
either_sign true ts = Mark sign.Minus ∷ ts
either_sign false ts = Mark sign.Plus ∷ ts

-- a number with what is before it
pub record Written_number (before : Bool → List Tok → List Tok) (z : ℤ) (next : List Tok → Type 0) (ts : List Tok) : Type 0 where
  pub negative : Bool
  pub size : ℕ
  pub rest : List Tok
  pub value : z ≡ signed_of negative size
  pub tokens : ts ≡ before negative (Number size ∷ rest)
  pub follows : next rest

negative_number : (before : Bool → List Tok → List Tok) (z : ℤ) (next : List Tok → Type 0) (ts : List Tok) → NegatedThen z next ts →
    Written_number before z next (before true ts)
negative_number before z next ts h =
    let n = negated_then z next ts h in record { negative = true; size = n.0; rest = n.1; value = n.2; tokens = ap (before true) n.3; follows = n.4 }

natural_number : (before : Bool → List Tok → List Tok) (z : ℤ) (next : List Tok → Type 0) (ts : List Tok) → NaturalThen z next ts →
    Written_number before z next (before false ts)
natural_number before z next ts h =
    let n = natural_then z next ts h in record { negative = false; size = n.0; rest = n.1; value = n.2; tokens = ap (before false) n.3; follows = n.4 }

pub signed_then : (z : ℤ) (next : List Tok → Type 0) (ts : List Tok) → SignedThen z next ts → Written_number minus z next ts
signed_then z next (Mark sign.Minus ∷ ts) h = negative_number minus z next ts h
signed_then z next (Number n ∷ ts) h = natural_number minus z next (Number n ∷ ts) h
signed_then z next ts h = absurd h

pub offset_then : (z : ℤ) (next : List Tok → Type 0) (ts : List Tok) → OffsetThen z next ts → Written_number either_sign z next ts
offset_then z next (Mark sign.Minus ∷ ts) h = negative_number either_sign z next ts h
offset_then z next (Mark sign.Plus ∷ ts) h = natural_number either_sign z next ts h
offset_then z next ts h = absurd h

-- ---- pieces

signed_address : (b : Reg) (o : ℤ) (negative : Bool) (n : ℕ) (rest : List Tok) → o ≡ signed_of negative n → address_at
    (Register Bits64 b ∷ either_sign negative (Number n ∷ rest)) ≡ Some (record { base = b; offset = o; rest = rest })
unfolding address_at
signed_address b o true n rest e = rw e refl
signed_address b o false n rest e = rw e refl

full_address : (b : Reg) (o : ℤ) (is : List Item) (ts : List Tok) → Spells (address b o is) ts → (rest : List Tok) ×
    (address_at ts ≡ Some (record { base = b; offset = o; rest = rest })) × Spells is rest
full_address b o is ts s =
    let first = token_then (Register Bits64 b) (Spells (Offset o ∷ is)) ts s in
    let n = offset_then o (Spells is) first.0 first.2 in
    (n.rest, ap address_at (first.1 ∙ ap (λ x. Register Bits64 b ∷ x) n.tokens) ∙ signed_address b o n.negative n.size n.rest n.value, n.follows)

cell_by : (k : Keyword) (b : Reg) (o : ℤ) (us rest end : List Tok) → address_at us ≡ Some (record { base = b; offset = o; rest = rest }) →
    rest ≡ Mark sign.Close ∷ end
    → cell_at (Mark sign.Open ∷ Word k ∷ Mark sign.Star ∷ Mark sign.Close ∷ Mark sign.Open ∷ us) ≡ Some (record { size = k; base = b; offset = o; rest = end })
unfolding cell_at pointer_at closed_at
cell_by k b o us rest end e f = rw (e, f) refl

full_cell : (k : Keyword) (b : Reg) (o : ℤ) (is : List Item) (ts : List Tok) → Spells (cell_items k b o is) ts → (rest : List Tok) ×
    (cell_at ts ≡ Some (record { size = k; base = b; offset = o; rest = rest })) × Spells is rest
full_cell k b o is ts s =
    let front = tokens_then (Mark sign.Open ∷ Word k ∷ Mark sign.Star ∷ Mark sign.Close ∷ Mark sign.Open ∷ []) (address b o (mark sign.Close ∷ is)) ts s in
    let place = full_address b o (mark sign.Close ∷ is) front.0 front.2 in
    let end = token_then (Mark sign.Close) (Spells is) place.0 place.2 in
    (end.0, ap cell_at front.1 ∙ cell_by k b o front.0 place.0 end.0 place.1 end.1, end.2)

signed_operand : (w : Width) (z : ℤ) (negative : Bool) (n : ℕ) (rest : List Tok) → z ≡ signed_of negative n → operand_at w
    (minus negative (Number n ∷ rest)) ≡ Some (record { operand = operand.Immediate z; rest = rest })
unfolding operand_at
signed_operand w z true n rest e = rw e refl
signed_operand w z false n rest e = rw e refl

register_operand : (w : Width) (r : Reg) (rest : List Tok) → operand_at w (Register w r ∷ rest) ≡ Some (record { operand = operand.Register r; rest = rest })
unfolding operand_at
register_operand w r rest = rw same_width-refl refl

full_operand : (w : Width) (src : Operand) (is : List Item) (ts : List Tok) → Spells (operand_item w src ∷ is) ts → (rest : List Tok) ×
    (operand_at w ts ≡ Some (record { operand = src; rest = rest })) × Spells is rest
full_operand w (operand.Register r) is ts s =
    let first = token_then (Register w r) (Spells is) ts s in
    (first.0, ap (operand_at w) first.1 ∙ register_operand w r first.0, first.2)
full_operand w (operand.Immediate z) is ts s =
    let n = signed_then z (Spells is) ts s in
    (n.rest, ap (operand_at w) n.tokens ∙ signed_operand w z n.negative n.size n.rest n.value, n.follows)

named_target : (z : ℤ) (name : List ℕ) (t : Tok) (ts : List Tok) → z ≡ pos 0 → name_of t ≡ Some name → ts ≡ [] → target_at (t ∷ ts) ≡ Some
    (record { distance = z; name = Some name })
unfolding target_at label_at
named_target z name (Register w r) ts e f g = rw (g, f, e) refl
named_target z name (Word k) ts e f g = rw (g, f, e) refl
named_target z name (Name w) ts e f g = rw (g, f, e) refl
named_target z name t ts e f g = cc

signed_target : (z : ℤ) (negative : Bool) (n : ℕ) (rest : List Tok) → z ≡ signed_of negative n → rest ≡ [] → target_at
    (either_sign negative (Number n ∷ rest)) ≡ Some (record { distance = z; name = None })
unfolding target_at
signed_target z true n rest e f = rw (f, e) refl
signed_target z false n rest e f = rw (f, e) refl

full_target : (z : ℤ) (name : Option (List ℕ)) (ts : List Tok) → Spells (TargetItem z name ∷ []) ts → target_at ts ≡ Some (record { distance = z; name = name })
full_target z None ts s =
    let n = offset_then z (Spells []) ts s in
    ap target_at n.tokens ∙ signed_target z n.negative n.size n.rest n.value n.follows
full_target z (Some name) [] s = absurd s
full_target z (Some name) (t ∷ ts) s = named_target z name t ts s.0 s.1 s.2

full_operator : (o : Operator) (is : List Item) (ts : List Tok) → Spells (operator_items o ++ is) ts → (rest : List Tok) ×
    (operator_at ts ≡ Some (record { operator = o; rest = rest })) × Spells is rest
unfolding operator_at
full_operator (Plain m) is ts s = let f = tokens_then (Mark m ∷ []) is ts s in (f.0, ap operator_at f.1, f.2)
full_operator (SignedBy m) is ts s = let f = tokens_then (Word key.Signed ∷ Mark m ∷ []) is ts s in (f.0, ap operator_at f.1, f.2)

-- each operation is found by how it is written
pub named_operation : (op : AluOp) → operation_named (operator_of op) ≡ Some op
unfolding operation_named
named_operation alu.Add = refl
named_operation op = refl

pub named_condition : (c : Condition) → condition_named (comparison_of c) ≡ Some c
unfolding condition_named
named_condition test.Eq = refl
named_condition c = refl

-- ---- arithmetic

abbrev line : Insn → Option Written
line i = Some (record { insn = i; name = None })

alu_by : (w : Width) (d : Reg) (op : AluOp) (src : Operand) (ts rest : List Tok) → operand_at w ts ≡ Some
    (record { operand = src; rest = rest }) → rest ≡ [] → alu_at w d op ts ≡ line (insn.Alu w op d src)
unfolding alu_at alu_end
alu_by w d op src ts rest e f = rw (e, f) refl

full_alu : (w : Width) (d : Reg) (op : AluOp) (src : Operand) (ts : List Tok) → Spells (operand_item w src ∷ []) ts → alu_at w d op ts ≡
    line (insn.Alu w op d src)
full_alu w d op src ts s = let f = full_operand w src [] ts s in alu_by w d op src ts f.0 f.1 f.2

full_moved : (w : Width) (d : Reg) (z : ℤ) (negative : Bool) (n : ℕ) (rest : List Tok) → z ≡ signed_of negative n → rest ≡ [] → assigned_at
    w d (minus negative (Number n ∷ rest)) ≡ line (insn.Alu w alu.Mov d (operand.Immediate z))
unfolding assigned_at negative_at number_at moved_at
full_moved w d z true n rest e f = rw (f, e) refl
full_moved Bits32 d z false n rest e f = rw (f, e) refl
full_moved Bits64 d z false n rest e f = rw (f, e) refl

mov_register : (w : Width) (d r : Reg) (ts : List Tok) → assigned_at w d (Register w r ∷ ts) ≡ alu_at w d alu.Mov (Register w r ∷ ts)
unfolding assigned_at
mov_register w d r ts = refl

full_mov : (w : Width) (d : Reg) (src : Operand) (ts : List Tok) → Spells (operand_item w src ∷ []) ts → assigned_at w d ts ≡ line (insn.Alu w alu.Mov d src)
full_mov w d (operand.Register r) ts s =
    let first = token_then (Register w r) (Spells []) ts s in
    ap (assigned_at w d) first.1 ∙ mov_register w d r first.0 ∙ ap (alu_at w d alu.Mov) (sym first.1) ∙ full_alu w d alu.Mov (operand.Register r) ts s
full_mov w d (operand.Immediate z) ts s =
    let n = signed_then z (Spells []) ts s in
    ap (assigned_at w d) n.tokens ∙ full_moved w d z n.negative n.size n.rest n.value n.follows

-- after another sign than `=`
register_other : (w : Width) (d : Reg) (ts : List Tok) (m : Middle) → operator_at ts ≡ Some m → (m.operator ≡ Plain sign.Assign → ⊥) →
    register_at w d ts ≡ operation_at w d ts
unfolding register_at operator_at
register_other w d (Mark sign.Assign ∷ ts) m e n = absurd
    (n (let same : m ≡ record { operator = Plain sign.Assign; rest = ts } = cc in ap (λ x. x.operator) same))
register_other w d ts m e n = refl

operation_by : (w : Width) (d : Reg) (op : AluOp) (ts rest : List Tok) → operator_at ts ≡ Some
    (record { operator = operator_of op; rest = rest }) → operation_named (operator_of op) ≡ Some op → operation_at w d ts ≡ alu_at w d op rest
unfolding operation_at
operation_by w d op ts rest e f = rw (e, f) refl

full_other : (op : AluOp) (w : Width) (d : Reg) (src : Operand) (ts : List Tok) → (operator_of op ≡ Plain sign.Assign → ⊥) → Spells
    (operator_items (operator_of op) ++ Blank ∷ operand_item w src ∷ []) ts
    → register_at w d ts ≡ line (insn.Alu w op d src)
full_other op w d src ts other s =
    let f = full_operator (operator_of op) (Blank ∷ operand_item w src ∷ []) ts s in
    register_other w d ts (record { operator = operator_of op; rest = f.0 }) f.1 other ∙ operation_by w d op ts f.0 f.1 (named_operation op)
    ∙ full_alu w d op src f.0 f.2

full_op : (op : AluOp) (w : Width) (d : Reg) (src : Operand) (ts : List Tok) → Spells
    (operator_items (operator_of op) ++ Blank ∷ operand_item w src ∷ []) ts → register_at w d ts ≡ line (insn.Alu w op d src)
unfolding register_at
full_op alu.Mov w d src ts s = let f = tokens_then (Mark sign.Assign ∷ []) (operand_item w src ∷ []) ts s in ap (register_at w d) f.1 ∙ full_mov w d src f.0 f.2
full_op op w d src ts s = full_other op w d src ts (λ e. cc) s

-- ---- atomic operations

locked_by : (k : Sign) (op : AtomicOp) (w : Width) (b : Reg) (o : ℤ) (r : Reg) (us rest : List Tok) → locked_op k ≡ Some op → cell_at us ≡
    Some (record { size = cell_size w; base = b; offset = o; rest = rest })
    → rest ≡ Mark k ∷ Register Bits64 r ∷ [] → line_at (Word key.Lock ∷ Mark sign.Star ∷ us) ≡ line (insn.Atomic w op b o r)
unfolding line_at statement_at lock_at locked_at cell_width atomic_end
locked_by k op Bits32 b o r us rest e f g = rw (f, g, e) refl
locked_by k op Bits64 b o r us rest e f g = rw (f, g, e) refl

full_locked : (k : Sign) (op : AtomicOp) (w : Width) (b : Reg) (o : ℤ) (r : Reg) (ts : List Tok) → locked_op k ≡ Some op → Spells
    (locked k w b o r) ts → line_at ts ≡ line (insn.Atomic w op b o r)
full_locked k op w b o r ts e s =
    let tail : List Item = Blank ∷ mark k ∷ Blank ∷ reg Bits64 r ∷ [] in
    let front = tokens_then (Word key.Lock ∷ Mark sign.Star ∷ []) (cell_items (cell_size w) b o tail) ts s in
    let place = full_cell (cell_size w) b o tail front.0 front.2 in
    ap line_at front.1 ∙ locked_by k op w b o r front.0 place.0 e place.1 (tokens_end (Mark k ∷ Register Bits64 r ∷ []) place.0 place.2)

-- after `=` and the name of a fetching operation
keyword_fetched : (k : Keyword) (op : AtomicOp) (w : Width) (d : Reg) (ts : List Tok) → fetched_op k ≡ Some op → keyword_at w d k ts ≡ fetch_at op w d ts
unfolding keyword_at fetched_at fetched_op
keyword_fetched (key.Swap swap.ToLittle bits.Bits16) op w d ts e = cc
keyword_fetched (key.Swap swap.ToBig bits.Bits16) op w d ts e = cc
keyword_fetched (key.Swap swap.Reverse bits.Bits16) op w d ts e = cc
keyword_fetched (key.Exchange Bits32) op w d ts e = cc
keyword_fetched (key.CompareExchange Bits32) op w d ts e = cc
keyword_fetched (key.Unsigned size.Byte) op w d ts e = cc
keyword_fetched (key.Extended signed_size.Byte) op w d ts e = cc
keyword_fetched k op w d ts e = cc

fetched_by : (k : Keyword) (op : AtomicOp) (w : Width) (b : Reg) (o : ℤ) (r : Reg) (us rest : List Tok) → fetched_op k ≡ Some op → cell_at
    us ≡ Some (record { size = cell_size w; base = b; offset = o; rest = rest })
    → rest ≡ Mark sign.Comma ∷ Register w r ∷ Mark sign.Close ∷ [] → line_at
    (Register w r ∷ Mark sign.Assign ∷ Word k ∷ Mark sign.Open ∷ us) ≡ line (insn.Atomic w op b o r)
unfolding line_at register_at assigned_at fetch_at atomic_at cell_width atomic_end
fetched_by k op Bits32 b o r us rest e f g = keyword_fetched k op Bits32 r (Mark sign.Open ∷ us) e ∙ rw (f, g, same_register-refl r) refl
fetched_by k op Bits64 b o r us rest e f g = keyword_fetched k op Bits64 r (Mark sign.Open ∷ us) e ∙ rw (f, g, same_register-refl r) refl

full_fetched : (k : Keyword) (op : AtomicOp) (w : Width) (b : Reg) (o : ℤ) (r : Reg) (ts : List Tok) → fetched_op k ≡ Some op → Spells
    (fetched k w b o r) ts → line_at ts ≡ line (insn.Atomic w op b o r)
full_fetched k op w b o r ts e s =
    let tail : List Item = mark sign.Comma ∷ Blank ∷ reg w r ∷ mark sign.Close ∷ [] in
    let front = tokens_then (Register w r ∷ Mark sign.Assign ∷ Word k ∷ Mark sign.Open ∷ []) (cell_items (cell_size w) b o tail) ts s in
    let place = full_cell (cell_size w) b o tail front.0 front.2 in
    ap line_at front.1 ∙ fetched_by k op w b o r front.0 place.0 e place.1 (tokens_end (Mark sign.Comma ∷ Register w r ∷ Mark sign.Close ∷ []) place.0 place.2)

exchange_by : (w : Width) (b : Reg) (o : ℤ) (r : Reg) (us rest : List Tok) → address_at us ≡ Some (record { base = b; offset = o; rest = rest })
    → rest ≡ Mark sign.Comma ∷ Register w r ∷ Mark sign.Close ∷ [] → line_at
    (Register w r ∷ Mark sign.Assign ∷ Word (key.Exchange w) ∷ Mark sign.Open ∷ us) ≡ line (insn.Atomic w atomic.Exchange b o r)
unfolding line_at register_at assigned_at keyword_at exchange_at atomic_at atomic_end
exchange_by Bits32 b o r us rest e f = rw (e, f, same_register-refl r) refl
exchange_by Bits64 b o r us rest e f = rw (e, f, same_register-refl r) refl

full_exchange : (w : Width) (b : Reg) (o : ℤ) (r : Reg) (ts : List Tok) → Spells (exchanged w b o r) ts → line_at ts ≡ line
    (insn.Atomic w atomic.Exchange b o r)
full_exchange w b o r ts s =
    let tail : List Item = mark sign.Comma ∷ Blank ∷ reg w r ∷ mark sign.Close ∷ [] in
    let front = tokens_then (Register w r ∷ Mark sign.Assign ∷ Word (key.Exchange w) ∷ Mark sign.Open ∷ []) (address b o tail) ts s in
    let place = full_address b o tail front.0 front.2 in
    ap line_at front.1 ∙ exchange_by w b o r front.0 place.0 place.1 (tokens_end (Mark sign.Comma ∷ Register w r ∷ Mark sign.Close ∷ []) place.0 place.2)

compare_exchange_by : (w : Width) (b : Reg) (o : ℤ) (r : Reg) (us rest : List Tok) → address_at us ≡ Some (record { base = b; offset = o; rest = rest })
    → rest ≡ Mark sign.Comma ∷ Register w R0 ∷ Mark sign.Comma ∷ Register w r ∷ Mark sign.Close ∷ [] → line_at
    (Register w R0 ∷ Mark sign.Assign ∷ Word (key.CompareExchange w) ∷ Mark sign.Open ∷ us) ≡ line (insn.Atomic w atomic.CompareExchange b o r)
unfolding line_at register_at assigned_at keyword_at compare_exchange_at expected_at compared_at atomic_end
compare_exchange_by Bits32 b o r us rest e f = rw (e, f) refl
compare_exchange_by Bits64 b o r us rest e f = rw (e, f) refl

full_compare_exchange : (w : Width) (b : Reg) (o : ℤ) (r : Reg) (ts : List Tok) → Spells (compare_exchanged w b o r) ts → line_at ts ≡ line
    (insn.Atomic w atomic.CompareExchange b o r)
full_compare_exchange w b o r ts s =
    let tail : List Item = mark sign.Comma ∷ Blank ∷ reg w R0 ∷ mark sign.Comma ∷ Blank ∷ reg w r ∷ mark sign.Close ∷ [] in
    let front = tokens_then (Register w R0 ∷ Mark sign.Assign ∷ Word (key.CompareExchange w) ∷ Mark sign.Open ∷ []) (address b o tail) ts s in
    let place = full_address b o tail front.0 front.2 in
    ap line_at front.1 ∙ compare_exchange_by w b o r front.0 place.0 place.1
    (tokens_end (Mark sign.Comma ∷ Register w R0 ∷ Mark sign.Comma ∷ Register w r ∷ Mark sign.Close ∷ []) place.0 place.2)

-- each atomic operation is found by its form
abbrev pub IsNamed : AtomicOp → AtomicForm → Type 0
IsNamed op (form.Locked k) = locked_op k ≡ Some op
IsNamed op (form.Fetch k) = fetched_op k ≡ Some op
IsNamed op form.Exchange = atomic.Exchange ≡ op
IsNamed op form.CompareExchange = atomic.CompareExchange ≡ op

pub named_atomic : (op : AtomicOp) → IsNamed op (atomic_form op)
unfolding locked_op fetched_op
named_atomic atomic.Add = refl
named_atomic op = refl

full_form : (op : AtomicOp) (f : AtomicForm) (w : Width) (b : Reg) (o : ℤ) (r : Reg) (ts : List Tok) → IsNamed op f → Spells
    (atomic_items f w b o r) ts → line_at ts ≡ line (insn.Atomic w op b o r)
full_form op (form.Locked k) w b o r ts e s = full_locked k op w b o r ts e s
full_form op (form.Fetch k) w b o r ts e s = full_fetched k op w b o r ts e s
full_form op form.Exchange w b o r ts e s = full_exchange w b o r ts s ∙ ap (λ x. line (insn.Atomic w x b o r)) e
full_form op form.CompareExchange w b o r ts e s = full_compare_exchange w b o r ts s ∙ ap (λ x. line (insn.Atomic w x b o r)) e

full_atomic : (op : AtomicOp) (w : Width) (b : Reg) (o : ℤ) (r : Reg) (ts : List Tok) → Spells (atomic_items (atomic_form op) w b o r) ts →
    line_at ts ≡ line (insn.Atomic w op b o r)
full_atomic op w b o r ts s = full_form op (atomic_form op) w b o r ts (named_atomic op) s

-- ---- the other lines

stored_by : (z : Size) (b : Reg) (o : ℤ) (src : Operand) (us rest others end : List Tok) → cell_at us ≡ Some
    (record { size = key.Unsigned z; base = b; offset = o; rest = rest }) → rest ≡ Mark sign.Assign ∷ others
    → operand_at Bits64 others ≡ Some (record { operand = src; rest = end }) → end ≡ [] → line_at (Mark sign.Star ∷ us) ≡ stored_end (key.Unsigned z) b o src []
unfolding line_at store_at stored_at
stored_by z b o src us rest others end e f g h = rw (e, f, g, h) refl

full_stored : (z : Size) (b : Reg) (o : ℤ) (src : Operand) (ts : List Tok) → Spells
    (mark sign.Star ∷ cell_items (key.Unsigned z) b o (Blank ∷ mark sign.Assign ∷ Blank ∷ operand_item Bits64 src ∷ [])) ts → line_at ts ≡
    stored_end (key.Unsigned z) b o src []
full_stored z b o src ts s =
    let tail : List Item = Blank ∷ mark sign.Assign ∷ Blank ∷ operand_item Bits64 src ∷ [] in
    let front = tokens_then (Mark sign.Star ∷ []) (cell_items (key.Unsigned z) b o tail) ts s in
    let place = full_cell (key.Unsigned z) b o tail front.0 front.2 in
    let equals = tokens_then (Mark sign.Assign ∷ []) (operand_item Bits64 src ∷ []) place.0 place.2 in
    let value = full_operand Bits64 src [] equals.0 equals.2 in
    ap line_at front.1 ∙ stored_by z b o src front.0 place.0 equals.0 value.0 place.1 equals.1 value.1 value.2

loaded_by : (k : Keyword) (d b : Reg) (o : ℤ) (us rest : List Tok) → cell_at us ≡ Some (record { size = k; base = b; offset = o; rest = rest }) → rest ≡ []
    → line_at (Register Bits64 d ∷ Mark sign.Assign ∷ Mark sign.Star ∷ us) ≡ loaded_at d k b o []
unfolding line_at register_at assigned_at load_at
loaded_by k d b o us rest e f = rw (e, f) refl

full_loaded : (k : Keyword) (d b : Reg) (o : ℤ) (ts : List Tok) → Spells
    (reg Bits64 d ∷ Blank ∷ mark sign.Assign ∷ Blank ∷ mark sign.Star ∷ cell_items k b o []) ts → line_at ts ≡ loaded_at d k b o []
full_loaded k d b o ts s =
    let front = tokens_then (Register Bits64 d ∷ Mark sign.Assign ∷ Mark sign.Star ∷ []) (cell_items k b o []) ts s in
    let place = full_cell k b o [] front.0 front.2 in
    ap line_at front.1 ∙ loaded_by k d b o front.0 place.0 place.1 place.2

extended_by : (e : SignExtension) (d r : Reg) → line_at (Register (extended_width e) d ∷ Mark sign.Assign ∷ Mark sign.Open ∷ Word
    (key.Extended (extended_size e)) ∷ Mark sign.Close ∷ Register (extended_width e) r ∷ []) ≡ line (insn.SignExtend e d r)
unfolding line_at register_at assigned_at extend_at extension_of
extended_by extend.From8To32 d r = refl
extended_by extend.From16To32 d r = refl
extended_by extend.From8To64 d r = refl
extended_by extend.From16To64 d r = refl
extended_by extend.From32To64 d r = refl

negated_by : (w : Width) (d : Reg) → line_at (Register w d ∷ Mark sign.Assign ∷ Mark sign.Minus ∷ Register w d ∷ []) ≡ line (insn.Negate w d)
unfolding line_at register_at assigned_at negative_at
negated_by Bits32 d = rw same_register-refl refl
negated_by Bits64 d = rw same_register-refl refl

swapped_by : (k : ByteSwap) (z : SwapWidth) (d : Reg) → line_at (Register Bits64 d ∷ Mark sign.Assign ∷ Word (key.Swap k z) ∷ Register
    Bits64 d ∷ []) ≡ line (insn.SwapBytes k z d)
unfolding line_at register_at assigned_at keyword_at swap_at
swapped_by k z d = rw same_register-refl refl

branch_by : (w : Width) (c : Condition) (d : Reg) (src : Operand) (z : ℤ) (name : Option (List ℕ)) (us vs rest end : List Tok) → operator_at
    us ≡ Some (record { operator = comparison_of c; rest = vs }) → condition_named (comparison_of c) ≡ Some c → operand_at w vs ≡ Some
    (record { operand = src; rest = rest }) → rest ≡ Word key.Goto ∷ end
    → target_at end ≡ Some (record { distance = z; name = name }) → line_at (Word key.If ∷ Register w d ∷ us) ≡ Some
    (record { insn = insn.JumpIf w c d src z; name = name })
unfolding line_at statement_at branch_at branch_end branch_to
branch_by w c d src z name us vs rest end e n f g h = rw (e, n, f, g, h) refl

full_branch : (w : Width) (c : Condition) (d : Reg) (src : Operand) (z : ℤ) (name : Option (List ℕ)) (ts : List Tok) → Spells
    (form_of (insn.JumpIf w c d src z) name) ts → line_at ts ≡ Some (record { insn = insn.JumpIf w c d src z; name = name })
full_branch w c d src z name ts s =
    let goal : List Item = Blank ∷ word key.Goto ∷ Blank ∷ TargetItem z name ∷ [] in
    let front = tokens_then (Word key.If ∷ Register w d ∷ []) (operator_items (comparison_of c) ++ Blank ∷ operand_item w src ∷ goal) ts s in
    let test = full_operator (comparison_of c) (Blank ∷ operand_item w src ∷ goal) front.0 front.2 in
    let second = full_operand w src goal test.0 test.2 in
    let go = tokens_then (Word key.Goto ∷ []) (TargetItem z name ∷ []) second.0 second.2 in
    ap line_at front.1 ∙ branch_by w c d src z name front.0 test.0 second.0 go.0 test.1 (named_condition c) second.1 go.1 (full_target z name go.0 go.2)

goto_by : (z : ℤ) (name : Option (List ℕ)) (us : List Tok) → target_at us ≡ Some (record { distance = z; name = name }) → line_at
    (Word key.Goto ∷ us) ≡ Some (record { insn = insn.Jump z; name = name })
unfolding line_at statement_at jump_at
goto_by z name us e = rw e refl

goto_long_by : (z : ℤ) (name : Option (List ℕ)) (us : List Tok) → target_at us ≡ Some (record { distance = z; name = name }) → line_at
    (Word key.GotoLong ∷ us) ≡ Some (record { insn = insn.JumpLong z; name = name })
unfolding line_at statement_at jump_long_at
goto_long_by z name us e = rw e refl

-- a target that is a number has a sign before it
call_target : (us : List Tok) (g : Target) → target_at us ≡ Some g → call_at us ≡ call_local_at us
unfolding call_at target_at label_at
call_target (Number n ∷ []) g e = cc
call_target (Number n ∷ t ∷ ts) g e = cc
call_target us g e = refl

call_by : (z : ℤ) (name : Option (List ℕ)) (us : List Tok) → target_at us ≡ Some (record { distance = z; name = name }) → call_local_at us ≡
    Some (record { insn = insn.CallLocal z; name = name })
unfolding call_local_at
call_by z name us e = rw e refl

call_line : (us : List Tok) → line_at (Word key.Call ∷ us) ≡ call_at us
unfolding line_at statement_at
call_line us = refl

helper_by : (n : ℕ) → call_at (Number n ∷ []) ≡ line (insn.CallHelper n)
unfolding call_at helper_at
helper_by n = refl

number_line : (d : Reg) (n : ℕ) → line_at (Register Bits64 d ∷ Mark sign.Assign ∷ Number n ∷ Word key.Wide ∷ []) ≡ line (insn.LoadNumber d n)
unfolding line_at register_at assigned_at number_at wide_at
number_line d n = refl

map_line : (d : Reg) (n : ℕ) → line_at (Register Bits64 d ∷ Mark sign.Assign ∷ Word key.Map ∷ Number n ∷ []) ≡ line (insn.LoadMap d n)
unfolding line_at register_at assigned_at keyword_at map_at
map_line d n = refl

exit_line : line_at (Word key.Exit ∷ []) ≡ line insn.Exit
unfolding line_at statement_at
exit_line = refl

register_line : (w : Width) (d : Reg) (us : List Tok) → line_at (Register w d ∷ us) ≡ register_at w d us
unfolding line_at
register_line w d us = refl

pos_same : (m n : ℕ) → pos m ≡ pos n → n ≡ m
pos_same m n e = cc

-- WHAT IS SPELLED IS READ
pub line_complete : (i : Insn) (name : Option (List ℕ)) (ts : List Tok) → Spells (form_of i name) ts → line_at ts ≡ Some (record { insn = i; name = name })
unfolding stored_end loaded_at
line_complete (insn.Alu w op d src) None ts s =
    let first = token_then (Register w d) (Spells (operator_items (operator_of op) ++ Blank ∷ operand_item w src ∷ [])) ts s in
    ap line_at first.1 ∙ register_line w d first.0 ∙ full_op op w d src first.0 first.2
line_complete (insn.Negate w d) None ts s = ap line_at (tokens_end (Register w d ∷ Mark sign.Assign ∷ Mark sign.Minus ∷ Register w d ∷ [])
    ts s) ∙ negated_by w d
line_complete (insn.SignExtend e d r) None ts s = ap line_at (tokens_end
    (Register (extended_width e) d ∷ Mark sign.Assign ∷ Mark sign.Open ∷ Word (key.Extended (extended_size e)) ∷ Mark sign.Close ∷ Register
    (extended_width e) r ∷ []) ts s) ∙ extended_by e d r
line_complete (insn.SwapBytes k z d) None ts s = ap line_at (tokens_end
    (Register Bits64 d ∷ Mark sign.Assign ∷ Word (key.Swap k z) ∷ Register Bits64 d ∷ []) ts s) ∙ swapped_by k z d
line_complete (insn.Jump z) name ts s =
    let first = token_then (Word key.Goto) (Spells (TargetItem z name ∷ [])) ts s in ap line_at first.1 ∙ goto_by z name first.0
    (full_target z name first.0 first.2)
line_complete (insn.JumpLong z) name ts s =
    let first = token_then (Word key.GotoLong) (Spells (TargetItem z name ∷ [])) ts s in ap line_at first.1 ∙ goto_long_by z name first.0
    (full_target z name first.0 first.2)
line_complete (insn.JumpIf w c d src z) name ts s = full_branch w c d src z name ts s
line_complete (insn.CallHelper n) None ts s =
    let first = token_then (Word key.Call) (Spells (Natural n ∷ [])) ts s in
    let number = natural_then (pos n) (Spells []) first.0 first.2 in
    ap line_at (first.1 ∙ ap (λ x. Word key.Call ∷ x) (number.3 ∙ ap (λ x. Number number.0 ∷ x) number.4 ∙ ap (λ m. Number m ∷ [])
    (pos_same n number.0 number.2))) ∙ call_line (Number n ∷ []) ∙ helper_by n
line_complete (insn.CallLocal z) name ts s =
    let first = token_then (Word key.Call) (Spells (TargetItem z name ∷ [])) ts s in
    let target = full_target z name first.0 first.2 in
    ap line_at first.1 ∙ call_line first.0 ∙ call_target first.0 _ target ∙ call_by z name first.0 target
line_complete insn.Exit None ts s = ap line_at (tokens_end (Word key.Exit ∷ []) ts s) ∙ exit_line
line_complete (insn.Load z d b o) None ts s = full_loaded (key.Unsigned z) d b o ts s
line_complete (insn.LoadSigned z d b o) None ts s = full_loaded (key.Extended z) d b o ts s
line_complete (insn.StoreImmediate z b o v) None ts s = full_stored z b o (operand.Immediate v) ts s
line_complete (insn.Store z b o r) None ts s = full_stored z b o (operand.Register r) ts s
line_complete (insn.Atomic w op b o r) None ts s = full_atomic op w b o r ts s
line_complete (insn.LoadNumber d n) None ts s =
    let front = tokens_then (Register Bits64 d ∷ Mark sign.Assign ∷ []) (Hex n ∷ Blank ∷ word key.Wide ∷ []) ts s in
    let number = natural_then (pos n) (Spells (Blank ∷ word key.Wide ∷ [])) front.0 front.2 in
    let end = tokens_end (Word key.Wide ∷ []) number.1 number.4 in
    ap line_at (front.1 ∙ ap (λ x. Register Bits64 d ∷ Mark sign.Assign ∷ x)
    (number.3 ∙ ap (λ x. Number number.0 ∷ x) end ∙ ap (λ m. Number m ∷ Word key.Wide ∷ []) (pos_same n number.0 number.2))) ∙ number_line d n
line_complete (insn.LoadMap d n) None ts s =
    let front = tokens_then (Register Bits64 d ∷ Mark sign.Assign ∷ Word key.Map ∷ []) (Natural n ∷ []) ts s in
    let number = natural_then (pos n) (Spells []) front.0 front.2 in
    ap line_at (front.1 ∙ ap (λ x. Register Bits64 d ∷ Mark sign.Assign ∷ Word key.Map ∷ x)
    (number.3 ∙ ap (λ x. Number number.0 ∷ x) number.4 ∙ ap (λ m. Number m ∷ []) (pos_same n number.0 number.2))) ∙ map_line d n
line_complete i (Some name) ts s = absurd s
