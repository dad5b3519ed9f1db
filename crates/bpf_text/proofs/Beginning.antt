-- Tokens begin a form of the table where some form of the language goes on after them.
use Rattle.std.proofs.Common.{◌≡◌, ◌||◌, ℕ, Bool, true, false, List, [], ◌∷◌, ◌++◌, Option, Some, None, ◌⊎◌, inl, inr, refl, sym, ap, subst, ◌∙◌}
use Rattle.std.specs.Prelude.{ℤ, IsTrue, ◌↔◌}
use Rattle.std.specs.List.{list_any}
use Rattle.bpf_insn.specs.declared.register.Reg.{Reg}
use Rattle.bpf_insn.specs.declared.register.Reg.TheVariants.{R0, R1, R2, R3, R4, R5, R6, R7, R8, R9, R10}
use Rattle.bpf_insn.specs.declared.operation.widths.Width.{Width}
use Rattle.bpf_insn.specs.declared.operation.widths.Width.TheVariants.{Bits32, Bits64}
use Rattle.bpf_insn.specs.declared.operation.arithmetic.AluOp.{AluOp}
use Rattle.bpf_insn.specs.declared.operation.atomics.AtomicOp.{AtomicOp}
use Rattle.bpf_insn.specs.declared.operation.atomics.AtomicOp.TheVariants as atomic
use Rattle.bpf_insn.specs.declared.operation.conditions.Condition.{Condition}
use Rattle.bpf_insn.specs.declared.operation.sizes.Size.{Size}
use Rattle.bpf_insn.specs.declared.instruction.Operand.{Operand}
use Rattle.bpf_insn.specs.declared.instruction.Operand.TheVariants as operand
use Rattle.bpf_insn.specs.declared.instruction.Insn.{Insn}
use Rattle.bpf_insn.specs.declared.instruction.Insn.TheVariants as insn
use Rattle.bpf_spelling.specs.declared.atomics.AtomicForm.{AtomicForm}
use Rattle.bpf_spelling.specs.declared.atomics.AtomicForm.TheVariants as form
use Rattle.bpf_spelling.specs.declared.keywords.Keyword.TheVariants as key
use Rattle.bpf_spelling.specs.declared.operators.Operator.{Operator}
use Rattle.bpf_spelling.specs.declared.operators.Operator.TheVariants.{Plain, Signed as SignedBy}
use Rattle.bpf_spelling.specs.declared.registers.TheConstants.{REGISTERS}
use Rattle.bpf_spelling.specs.declared.signs.Sign.TheVariants as sign
use Rattle.bpf_spelling.specs.Form.{Item, Blank, Target, cell_items, word, mark, reg, operator_items, operand_item, atomic_items}
use Rattle.bpf_spelling.specs.Form.{extended_width, extended_size, form_of}
use Rattle.bpf_spelling.specs.Operators.{operator_of, comparison_of, atomic_form}
use Rattle.bpf_spelling.specs.Token.{Tok}
use Rattle.bpf_text.specs.declared.forms.TheConstants.{FORMS}
use Rattle.bpf_text.specs.Line.{Spells}
use Rattle.bpf_text.specs.Misfit.{FormGoesOn}
use Rattle.bpf_text.specs.Private.Forms.{fits, pieces, begins_form, begins}
use Rattle.bpf_text.proofs.Fitting.{fits_sound, fits_complete}

-- ---- what some value of a list has

abbrev Among : {A : Type 0} → (A → Type 0) → List A → Type 0
Among P [] = ⊥
Among P (x ∷ xs) = P x ⊎ Among P xs

any_of : {A : Type 0} (p : A → Bool) (xs : List A) → Among (λ x. p x ≡ true) xs → list_any p xs ≡ true
any_of p [] h = absurd h
any_of p (x ∷ xs) (inl h) = ap (λ b. b || list_any p xs) h
any_of p (x ∷ xs) (inr h) = by_test (p x) (any_of p xs h)
  where
    by_test : (b : Bool) → list_any p xs ≡ true → b || list_any p xs ≡ true
    by_test true e = refl
    by_test false e = e

of_any : {A : Type 0} (p : A → Bool) (xs : List A) → list_any p xs ≡ true → Among (λ x. p x ≡ true) xs
of_any p [] e = cc
of_any {A} p (x ∷ xs) e = by_test (p x) refl e (λ h. of_any p xs h)
  where
    by_test : (b : Bool) → p x ≡ b → b || list_any p xs ≡ true → (list_any p xs ≡ true → Among (λ (y : A). p y ≡ true) xs) → (p x ≡ true) ⊎
        Among (λ (y : A). p y ≡ true) xs
    by_test true f e more = inl f
    by_test false f e more = inr (more e)

some_of : {A : Type 0} (P : A → Type 0) (xs : List A) → Among P xs → (x : A) × P x
some_of P [] h = absurd h
some_of P (x ∷ xs) (inl h) = (x, h)
some_of P (x ∷ xs) (inr h) = some_of P xs h

registers : (P : (Width × Reg) → Type 0) (w : Width) (r : Reg) → P (w, r) → Among P REGISTERS
registers P Bits64 R0 h = inl h
registers P Bits64 R1 h = inr (inl h)
registers P Bits64 R2 h = inr (inr (inl h))
registers P Bits64 R3 h = inr (inr (inr (inl h)))
registers P Bits64 R4 h = inr (inr (inr (inr (inl h))))
registers P Bits64 R5 h = inr (inr (inr (inr (inr (inl h)))))
registers P Bits64 R6 h = inr (inr (inr (inr (inr (inr (inl h))))))
registers P Bits64 R7 h = inr (inr (inr (inr (inr (inr (inr (inl h)))))))
registers P Bits64 R8 h = inr (inr (inr (inr (inr (inr (inr (inr (inl h))))))))
registers P Bits64 R9 h = inr (inr (inr (inr (inr (inr (inr (inr (inr (inl h)))))))))
registers P Bits64 R10 h = inr (inr (inr (inr (inr (inr (inr (inr (inr (inr (inl h))))))))))
registers P Bits32 R0 h = inr (inr (inr (inr (inr (inr (inr (inr (inr (inr (inr (inl h)))))))))))
registers P Bits32 R1 h = inr (inr (inr (inr (inr (inr (inr (inr (inr (inr (inr (inr (inl h))))))))))))
registers P Bits32 R2 h = inr (inr (inr (inr (inr (inr (inr (inr (inr (inr (inr (inr (inr (inl h)))))))))))))
registers P Bits32 R3 h = inr (inr (inr (inr (inr (inr (inr (inr (inr (inr (inr (inr (inr (inr (inl h))))))))))))))
registers P Bits32 R4 h = inr (inr (inr (inr (inr (inr (inr (inr (inr (inr (inr (inr (inr (inr (inr (inl h)))))))))))))))
registers P Bits32 R5 h = inr (inr (inr (inr (inr (inr (inr (inr (inr (inr (inr (inr (inr (inr (inr (inr (inl h))))))))))))))))
registers P Bits32 R6 h = inr (inr (inr (inr (inr (inr (inr (inr (inr (inr (inr (inr (inr (inr (inr (inr (inr (inl h)))))))))))))))))
registers P Bits32 R7 h = inr (inr (inr (inr (inr (inr (inr (inr (inr (inr (inr (inr (inr (inr (inr (inr (inr (inr (inl h))))))))))))))))))
registers P Bits32 R8 h = inr (inr (inr (inr (inr (inr (inr (inr (inr (inr (inr (inr (inr (inr (inr (inr (inr (inr (inr (inl h)))))))))))))))))))
registers P Bits32 R9 h = inr (inr (inr (inr (inr (inr (inr (inr (inr (inr (inr (inr (inr (inr (inr (inr (inr (inr (inr (inr (inl h))))))))))))))))))))
registers P Bits32 R10 h = inr (inr (inr (inr (inr (inr (inr (inr (inr (inr (inr (inr (inr (inr (inr (inr (inr (inr (inr (inr (inr (inl h)))))))))))))))))))))

-- with this width and register
begun_with : (w : Width) (r : Reg) (ts : List Tok) → begins_form w r ts ≡ true → begins ts ≡ true
begun_with w r ts e = any_of (λ x. begins_form x.0 x.1 ts) REGISTERS (registers (λ x. begins_form x.0 x.1 ts ≡ true) w r e)

-- ---- each form of the language is one of the table

abbrev InTable : Width → Reg → List Tok → Type 0
InTable w r ts = Among (λ f. fits w r (pieces f) ts ≡ true) FORMS

begun : (w : Width) (r : Reg) (ts : List Tok) → InTable w r ts → begins ts ≡ true
begun w r ts h = begun_with w r ts (any_of (λ f. fits w r (pieces f) ts) FORMS h)

alu_begun : (w : Width) (d : Reg) (op : AluOp) (src : Operand) (o : Operator) (ts others : List Tok) → operator_of op ≡ o
    → Spells (reg w d ∷ Blank ∷ (operator_items o ++ Blank ∷ operand_item w src ∷ [])) (ts ++ others) → InTable w d ts
alu_begun w d op src (Plain m) ts others e s = inl (fits_complete w d _ (tt, ((op, m, e), (src, tt))) ts others s)
alu_begun w d op src (SignedBy m) ts others e s = inr (inl (fits_complete w d _ (tt, (tt, ((op, m, e), (src, tt)))) ts others s))

branch_begun : (w : Width) (c : Condition) (d : Reg) (src : Operand) (z : ℤ) (name : Option (List ℕ)) (o : Operator) (ts others : List Tok)
    → comparison_of c ≡ o
    → Spells (word key.If ∷ Blank ∷ reg w d ∷ Blank ∷ (operator_items o ++ Blank ∷ operand_item w src ∷ Blank ∷ word key.Goto ∷ Blank ∷
    Target z name ∷ [])) (ts ++ others) → InTable w d ts
branch_begun w c d src z name (Plain m) ts others e s = inr (inr
    (inr (inr (inr (inr (inr (inr (inr (inr (inr (inr (inr (inr (inr
    (inr (inl (fits_complete w d _ (tt, (d, ((c, m, e), (src, (tt, ((z, name), tt)))))) ts others s)))))))))))))))))
branch_begun w c d src z name (SignedBy m) ts others e s = inr (inr
    (inr (inr (inr (inr (inr (inr (inr (inr (inr (inr (inr (inr (inr
    (inr (inr (inl (fits_complete w d _ (tt, (d, (tt, ((c, m, e), (src, (tt, ((z, name), tt))))))) ts others s))))))))))))))))))

atomic_begun : (op : AtomicOp) (w : Width) (b : Reg) (z : ℤ) (d : Reg) (f : AtomicForm) (ts others : List Tok) → atomic_form op ≡ f → Spells
    (atomic_items f w b z d) (ts ++ others) → InTable w d ts
atomic_begun op w b z d (form.Locked m) ts others e s = inr (inr
    (inr (inr (inr (inr (inr (inr (inr (inr (inl (fits_complete w d _
    (tt, (tt, (tt, (tt, (tt, (tt, (tt, (b, (z, (tt, ((op, m, e), (d, tt)))))))))))) ts others s)))))))))))
atomic_begun op w b z d (form.Fetch k) ts others e s = inr (inr (inr
    (inr (inr (inr (inr (inr (inr (inr (inr (inl (fits_complete w d _
    (tt, (tt, ((op, k, e), (tt, (tt, (tt, (tt, (tt, (tt, (b, (z, (tt, (tt, (tt, (tt, tt))))))))))))))) ts others s))))))))))))
atomic_begun op w b z d form.Exchange ts others e s = inr (inr (inr
    (inr (inr (inr (inr (inr (inr (inr (inr (inr (inl (fits_complete w d _ (tt, (tt, (tt, (tt, (b, (z, (tt, (tt, (tt, tt))))))))) ts others
    s)))))))))))))
atomic_begun op w b z d form.CompareExchange ts others e s = inr
    (inr (inr (inr (inr (inr (inr (inr (inr (inr (inr (inr (inr (inl
    (fits_complete w d _ (tt, (tt, (tt, (tt, (b, (z, (tt, (tt, (tt, (d, (tt, tt))))))))))) ts others s))))))))))))))

pub language_begun : (i : Insn) (name : Option (List ℕ)) (ts others : List Tok) → Spells (form_of i name) (ts ++ others) → begins ts ≡ true
language_begun (insn.Alu w op d src) None ts others s = begun w d ts (alu_begun w d op src (operator_of op) ts others refl s)
language_begun (insn.Negate w d) None ts others s = begun w d ts (inr (inr (inl (fits_complete w d _ (tt, (tt, (tt, (tt, tt)))) ts others s))))
language_begun (insn.SignExtend e d r) None ts others s = begun (extended_width e) d ts
    (inr (inr (inr (inl (fits_complete (extended_width e) d _ (tt, (tt, (tt, ((e, refl), (tt, (r, tt)))))) ts others s)))))
language_begun (insn.SwapBytes k z d) None ts others s = begun Bits64 d ts
    (inr (inr (inr (inr (inl (fits_complete Bits64 d _ (tt, (tt, ((k, z), (tt, tt)))) ts others s))))))
language_begun (insn.Jump z) name ts others s = begun Bits64 R0 ts
    (inr (inr (inr (inr (inr (inr (inr (inr (inr (inr (inr (inr (inr
    (inr (inl (fits_complete Bits64 R0 _ (tt, ((z, name), tt)) ts others s))))))))))))))))
language_begun (insn.JumpLong z) name ts others s = begun Bits64 R0 ts
    (inr (inr (inr (inr (inr (inr (inr (inr (inr (inr (inr (inr (inr
    (inr (inr (inl (fits_complete Bits64 R0 _ (tt, ((z, name), tt)) ts others s)))))))))))))))))
language_begun (insn.JumpIf w c d src z) name ts others s = begun w d ts (branch_begun w c d src z name (comparison_of c) ts others refl s)
language_begun (insn.CallHelper n) None ts others s = begun Bits64 R0 ts
    (inr (inr (inr (inr (inr (inr (inr (inr (inr (inr (inr (inr (inr
    (inr (inr (inr (inr (inr (inl (fits_complete Bits64 R0 _ (tt, (n, tt)) ts others s))))))))))))))))))))
language_begun (insn.CallLocal z) name ts others s = begun Bits64 R0 ts
    (inr (inr (inr (inr (inr (inr (inr (inr (inr (inr (inr (inr (inr
    (inr (inr (inr (inr (inr (inr (inl (fits_complete Bits64 R0 _ (tt, ((z, name), tt)) ts others s)))))))))))))))))))))
language_begun insn.Exit None ts others s = begun Bits64 R0 ts (inr
    (inr (inr (inr (inr (inr (inr (inr (inr (inr (inr (inr (inr (inr
    (inr (inr (inr (inr (inr (inr (inl (fits_complete Bits64 R0 _ (tt, tt) ts others s))))))))))))))))))))))
language_begun (insn.Load z d b o) None ts others s = begun Bits64 R0 ts
    (inr (inr (inr (inr (inr (inr (inr (inl (fits_complete Bits64 R0 _ (d, (tt, (tt, (tt, (z, (tt, (tt, (tt, (b, (o, (tt, tt))))))))))) ts
    others s)))))))))
language_begun (insn.LoadSigned z d b o) None ts others s = begun Bits64 R0 ts
    (inr (inr (inr (inr (inr (inr (inr (inr (inl (fits_complete Bits64 R0 _ (d, (tt, (tt, (tt, (z, (tt, (tt, (tt, (b, (o, (tt, tt)))))))))))
    ts others s))))))))))
language_begun (insn.StoreImmediate z b o v) None ts others s = begun Bits64 R0 ts
    (inr (inr (inr (inr (inr (inr (inr (inr (inr (inl (fits_complete Bits64 R0 _
    (tt, (tt, (z, (tt, (tt, (tt, (b, (o, (tt, (tt, (operand.Immediate v, tt))))))))))) ts others s)))))))))))
language_begun (insn.Store z b o r) None ts others s = begun Bits64 R0 ts
    (inr (inr (inr (inr (inr (inr (inr (inr (inr (inl (fits_complete Bits64 R0 _
    (tt, (tt, (z, (tt, (tt, (tt, (b, (o, (tt, (tt, (operand.Register r, tt))))))))))) ts others s)))))))))))
language_begun (insn.Atomic w op b o d) None ts others s = begun w d ts (atomic_begun op w b o d (atomic_form op) ts others refl s)
language_begun (insn.LoadNumber d n) None ts others s = begun Bits64 R0 ts
    (inr (inr (inr (inr (inr (inl (fits_complete Bits64 R0 _ (d, (tt, (n, (tt, tt)))) ts others s)))))))
language_begun (insn.LoadMap d n) None ts others s = begun Bits64 R0 ts
    (inr (inr (inr (inr (inr (inr (inl (fits_complete Bits64 R0 _ (d, (tt, (tt, (n, tt)))) ts others s))))))))
language_begun i (Some name) ts others s = absurd s

-- ---- and each form of the table is one of the language

spelled_by : (ts : List Tok) (i : Insn) (name : Option (List ℕ)) (others : List Tok) → Spells (form_of i name) (ts ++ others) → FormGoesOn ts
spelled_by ts i name others s = (record { insn = i; name = name }, others, s)

by_operator : (w : Width) (d : Reg) (src : Operand) (a b : Operator) (us : List Tok) → a ≡ b → Spells
    (reg w d ∷ Blank ∷ (operator_items b ++ Blank ∷ operand_item w src ∷ [])) us → Spells
    (reg w d ∷ Blank ∷ (operator_items a ++ Blank ∷ operand_item w src ∷ [])) us
by_operator w d src a b us e s =
    let P : Operator → Type 0 = λ o. Spells (reg w d ∷ Blank ∷ (operator_items o ++ Blank ∷ operand_item w src ∷ [])) us in subst P (sym e) s

by_comparison : (w : Width) (d : Reg) (src : Operand) (z : ℤ) (name : Option (List ℕ)) (a b : Operator) (us : List Tok) → a ≡ b
    → Spells (word key.If ∷ Blank ∷ reg w d ∷ Blank ∷ (operator_items b ++ Blank ∷ operand_item w src ∷ Blank ∷ word key.Goto ∷ Blank ∷ Target z name ∷ [])) us
    → Spells (word key.If ∷ Blank ∷ reg w d ∷ Blank ∷ (operator_items a ++ Blank ∷ operand_item w src ∷ Blank ∷ word key.Goto ∷ Blank ∷ Target z name ∷ [])) us
by_comparison w d src z name a b us e s =
    let P : Operator → Type 0 = λ o. Spells (word key.If ∷ Blank ∷ reg w d ∷ Blank ∷
    (operator_items o ++ Blank ∷ operand_item w src ∷ Blank ∷ word key.Goto ∷ Blank ∷ Target z name ∷ [])) us in subst P (sym e) s

by_atomic : (w : Width) (b : Reg) (z : ℤ) (d : Reg) (f g : AtomicForm) (us : List Tok) → f ≡ g → Spells (atomic_items g w b z d) us → Spells
    (atomic_items f w b z d) us
by_atomic w b z d f g us e s = let P : AtomicForm → Type 0 = λ x. Spells (atomic_items x w b z d) us in subst P (sym e) s

-- a sign extension, of the width that the form is taken with
by_extension : (w v : Width) (z : Item) (d r : Reg) (us : List Tok) → v ≡ w → Spells
    (reg w d ∷ mark sign.Assign ∷ mark sign.Open ∷ z ∷ mark sign.Close ∷ reg w r ∷ []) us → Spells
    (reg v d ∷ mark sign.Assign ∷ mark sign.Open ∷ z ∷ mark sign.Close ∷ reg v r ∷ []) us
by_extension w v z d r us e s =
    let P : Width → Type 0 = λ x. Spells (reg x d ∷ mark sign.Assign ∷ mark sign.Open ∷ z ∷ mark sign.Close ∷ reg x r ∷ []) us in subst P (sym e) s

stored : (z : Size) (b : Reg) (o : ℤ) (src : Operand) (ts others : List Tok) → Spells
    (mark sign.Star ∷ cell_items (key.Unsigned z) b o (Blank ∷ mark sign.Assign ∷ Blank ∷ operand_item Bits64 src ∷ [])) (ts ++ others) →
    FormGoesOn ts
stored z b o (operand.Immediate v) ts others s = spelled_by ts (insn.StoreImmediate z b o v) None others s
stored z b o (operand.Register r) ts others s = spelled_by ts (insn.Store z b o r) None others s

in_table : (w : Width) (r : Reg) (ts : List Tok) → InTable w r ts → FormGoesOn ts
in_table w r ts (inl h) =
    let f = fits_sound w r _ ts h in spelled_by ts (insn.Alu w f.0.1.0.0 r f.0.1.1.0) None f.1
    (by_operator w r f.0.1.1.0 (operator_of f.0.1.0.0) (Plain f.0.1.0.1) (ts ++ f.1) f.0.1.0.2 f.2)
in_table w r ts (inr (inl h)) =
    let f = fits_sound w r _ ts h in spelled_by ts (insn.Alu w f.0.1.1.0.0 r f.0.1.1.1.0) None f.1
    (by_operator w r f.0.1.1.1.0 (operator_of f.0.1.1.0.0) (SignedBy f.0.1.1.0.1) (ts ++ f.1) f.0.1.1.0.2 f.2)
in_table w r ts (inr (inr (inl h))) = let f = fits_sound w r _ ts h in spelled_by ts (insn.Negate w r) None f.1 f.2
in_table w r ts (inr (inr (inr (inl h)))) =
    let f = fits_sound w r _ ts h in spelled_by ts (insn.SignExtend f.0.1.1.1.0.0 r f.0.1.1.1.1.1.0) None f.1
    (by_extension w (extended_width f.0.1.1.1.0.0) (word (key.Extended (extended_size f.0.1.1.1.0.0))) r f.0.1.1.1.1.1.0 (ts ++ f.1)
    f.0.1.1.1.0.1 f.2)
in_table w r ts (inr (inr (inr (inr (inl h))))) = let f = fits_sound w r _ ts h in spelled_by ts (insn.SwapBytes f.0.1.1.0.0 f.0.1.1.0.1 r) None f.1 f.2
in_table w r ts (inr (inr (inr (inr (inr (inl h)))))) = let f = fits_sound w r _ ts h in spelled_by ts (insn.LoadNumber f.0.0 f.0.1.1.0) None f.1 f.2
in_table w r ts (inr (inr (inr (inr (inr (inr (inl h))))))) = let f = fits_sound w r _ ts h in spelled_by ts (insn.LoadMap f.0.0 f.0.1.1.1.0) None f.1 f.2
in_table w r ts (inr (inr (inr (inr (inr (inr (inr (inl h)))))))) =
    let f = fits_sound w r _ ts h in spelled_by ts (insn.Load f.0.1.1.1.1.0 f.0.0 f.0.1.1.1.1.1.1.1.1.0 f.0.1.1.1.1.1.1.1.1.1.0) None f.1 f.2
in_table w r ts (inr (inr (inr (inr (inr (inr (inr (inr (inl h))))))))) =
    let f = fits_sound w r _ ts h in spelled_by ts (insn.LoadSigned f.0.1.1.1.1.0 f.0.0 f.0.1.1.1.1.1.1.1.1.0 f.0.1.1.1.1.1.1.1.1.1.0) None f.1 f.2
in_table w r ts (inr (inr (inr (inr (inr (inr (inr (inr (inr (inl h)))))))))) =
    let f = fits_sound w r _ ts h in stored f.0.1.1.0 f.0.1.1.1.1.1.1.0 f.0.1.1.1.1.1.1.1.0 f.0.1.1.1.1.1.1.1.1.1.1.0 ts f.1 f.2
in_table w r ts (inr (inr (inr (inr (inr (inr (inr (inr (inr (inr (inl h))))))))))) =
    let f = fits_sound w r _ ts h in spelled_by ts (insn.Atomic w f.0.1.1.1.1.1.1.1.1.1.1.0.0 f.0.1.1.1.1.1.1.1.0 f.0.1.1.1.1.1.1.1.1.0
    f.0.1.1.1.1.1.1.1.1.1.1.1.0) None f.1 (by_atomic w f.0.1.1.1.1.1.1.1.0 f.0.1.1.1.1.1.1.1.1.0 f.0.1.1.1.1.1.1.1.1.1.1.1.0
    (atomic_form f.0.1.1.1.1.1.1.1.1.1.1.0.0) (form.Locked f.0.1.1.1.1.1.1.1.1.1.1.0.1) (ts ++ f.1) f.0.1.1.1.1.1.1.1.1.1.1.0.2 f.2)
in_table w r ts (inr (inr (inr (inr (inr (inr (inr (inr (inr (inr (inr (inl h)))))))))))) =
    let f = fits_sound w r _ ts h in spelled_by ts (insn.Atomic w f.0.1.1.0.0 f.0.1.1.1.1.1.1.1.1.1.0 f.0.1.1.1.1.1.1.1.1.1.1.0 r) None f.1
    (by_atomic w f.0.1.1.1.1.1.1.1.1.1.0 f.0.1.1.1.1.1.1.1.1.1.1.0 r (atomic_form f.0.1.1.0.0) (form.Fetch f.0.1.1.0.1) (ts ++ f.1)
    f.0.1.1.0.2 f.2)
in_table w r ts (inr (inr (inr (inr (inr (inr (inr (inr (inr (inr (inr (inr (inl h))))))))))))) =
    let f = fits_sound w r _ ts h in spelled_by ts (insn.Atomic w atomic.Exchange f.0.1.1.1.1.0 f.0.1.1.1.1.1.0 r) None f.1 f.2
in_table w r ts (inr (inr (inr (inr (inr (inr (inr (inr (inr (inr (inr (inr (inr (inl h)))))))))))))) =
    let f = fits_sound w r _ ts h in spelled_by ts (insn.Atomic w atomic.CompareExchange f.0.1.1.1.1.0 f.0.1.1.1.1.1.0 f.0.1.1.1.1.1.1.1.1.1.0) None f.1 f.2
in_table w r ts (inr (inr (inr (inr (inr (inr (inr (inr (inr (inr (inr (inr (inr (inr (inl h))))))))))))))) =
    let f = fits_sound w r _ ts h in spelled_by ts (insn.Jump f.0.1.0.0) f.0.1.0.1 f.1 f.2
in_table w r ts (inr (inr (inr (inr (inr (inr (inr (inr (inr (inr (inr (inr (inr (inr (inr (inl h)))))))))))))))) =
    let f = fits_sound w r _ ts h in spelled_by ts (insn.JumpLong f.0.1.0.0) f.0.1.0.1 f.1 f.2
in_table w r ts (inr (inr (inr (inr (inr (inr (inr (inr (inr (inr (inr (inr (inr (inr (inr (inr (inl h))))))))))))))))) =
    let f = fits_sound w r _ ts h in spelled_by ts (insn.JumpIf w f.0.1.1.0.0 f.0.1.0 f.0.1.1.1.0 f.0.1.1.1.1.1.0.0) f.0.1.1.1.1.1.0.1 f.1
    (by_comparison w f.0.1.0 f.0.1.1.1.0 f.0.1.1.1.1.1.0.0 f.0.1.1.1.1.1.0.1 (comparison_of f.0.1.1.0.0) (Plain f.0.1.1.0.1)
    (ts ++ f.1) f.0.1.1.0.2 f.2)
in_table w r ts (inr (inr (inr (inr (inr (inr (inr (inr (inr (inr (inr (inr (inr (inr (inr (inr (inr (inl h)))))))))))))))))) =
    let f = fits_sound w r _ ts h in spelled_by ts (insn.JumpIf w f.0.1.1.1.0.0 f.0.1.0 f.0.1.1.1.1.0 f.0.1.1.1.1.1.1.0.0)
    f.0.1.1.1.1.1.1.0.1 f.1 (by_comparison w f.0.1.0 f.0.1.1.1.1.0 f.0.1.1.1.1.1.1.0.0 f.0.1.1.1.1.1.1.0.1
    (comparison_of f.0.1.1.1.0.0) (SignedBy f.0.1.1.1.0.1) (ts ++ f.1) f.0.1.1.1.0.2 f.2)
in_table w r ts (inr (inr (inr (inr (inr (inr (inr (inr (inr (inr (inr (inr (inr (inr (inr (inr (inr (inr (inl h))))))))))))))))))) =
    let f = fits_sound w r _ ts h in spelled_by ts (insn.CallHelper f.0.1.0) None f.1 f.2
in_table w r ts (inr (inr (inr (inr (inr (inr (inr (inr (inr (inr (inr (inr (inr (inr (inr (inr (inr (inr (inr (inl h)))))))))))))))))))) =
    let f = fits_sound w r _ ts h in spelled_by ts (insn.CallLocal f.0.1.0.0) f.0.1.0.1 f.1 f.2
in_table w r ts (inr (inr (inr (inr (inr (inr (inr (inr (inr (inr
    (inr (inr (inr (inr (inr (inr (inr (inr (inr (inr (inl h))))))))))))))))))))) =
    let f = fits_sound w r _ ts h in spelled_by ts (insn.Exit) None f.1 f.2
in_table w r ts (inr (inr (inr (inr (inr (inr (inr (inr (inr (inr (inr (inr (inr (inr (inr (inr (inr (inr (inr (inr (inr x))))))))))))))))))))) = elim x [ ]

pub begun_goes_on : (ts : List Tok) → begins ts ≡ true → FormGoesOn ts
begun_goes_on ts e =
    let with = some_of (λ x. begins_form x.0 x.1 ts ≡ true) REGISTERS (of_any (λ x. begins_form x.0 x.1 ts) REGISTERS e) in
    in_table with.0.0 with.0.1 ts (of_any (λ f. fits with.0.0 with.0.1 (pieces f) ts) FORMS with.1)

pub goes_on_begun : (ts : List Tok) → FormGoesOn ts → begins ts ≡ true
goes_on_begun ts g = language_begun g.0.insn g.0.name ts g.1 g.2

pub goes_on_is : (b : Bool) (ts : List Tok) → b ≡ begins ts → IsTrue b ↔ FormGoesOn ts
goes_on_is b ts e = (λ h. begun_goes_on ts (sym e ∙ h), λ g. e ∙ goes_on_begun ts g)
