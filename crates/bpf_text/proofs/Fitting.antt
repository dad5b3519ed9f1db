-- Tokens fit pieces where those tokens, and others after them, spell them; and only there.
use Rattle.std.proofs.Common.{◌≡◌, ℕ, ◌<◌, Bool, true, false, ◌&&◌, List, [], ◌∷◌, ◌++◌, length, map, drop, drop-cons, Option, Some, None}
use Rattle.std.proofs.Common.{is_some, ◌⊎◌, inl, inr, refl, sym, ap, subst, ◌∙◌}
use Rattle.std.specs.Prelude.{IfSome, ℤ, pos, neg_ℤ}
use Rattle.std.proofs.lemmas.Bool.{and_parts}
use Rattle.std.proofs.lemmas.Slice.Eq.{bytes_eq-Decides}
use Rattle.bpf_insn.specs.declared.register.Reg.{Reg}
use Rattle.bpf_insn.specs.declared.register.Reg.TheVariants.{R0}
use Rattle.bpf_insn.specs.declared.operation.widths.Width.{Width}
use Rattle.bpf_insn.specs.declared.operation.widths.Width.TheVariants.{Bits64}
use Rattle.bpf_insn.specs.declared.operation.arithmetic.AluOp.{AluOp}
use Rattle.bpf_insn.specs.declared.operation.atomics.AtomicOp.{AtomicOp}
use Rattle.bpf_insn.specs.declared.operation.conditions.Condition.{Condition}
use Rattle.bpf_insn.specs.declared.operation.extensions.SignExtension.{SignExtension}
use Rattle.bpf_insn.specs.declared.operation.extensions.SignExtension.TheVariants as extend
use Rattle.bpf_insn.specs.declared.instruction.Operand.{Operand}
use Rattle.bpf_insn.specs.declared.instruction.Operand.TheVariants as operand
use Rattle.bpf_spelling.specs.declared.atomics.AtomicForm.TheVariants as form
use Rattle.bpf_spelling.specs.declared.keywords.Keyword.{Keyword}
use Rattle.bpf_spelling.specs.declared.keywords.Keyword.TheVariants as key
use Rattle.bpf_spelling.specs.declared.operators.Operator.{Operator}
use Rattle.bpf_spelling.specs.declared.operators.Operator.TheVariants.{Plain, Signed as SignedBy}
use Rattle.bpf_spelling.specs.declared.signs.Sign.{Sign}
use Rattle.bpf_spelling.specs.declared.signs.Sign.TheVariants as sign
use Rattle.bpf_spelling.specs.Form.{cell_size, operand_item, extended_width, extended_size}
use Rattle.bpf_spelling.specs.Names.{keyword_text, register_text, same_keyword}
use Rattle.bpf_spelling.specs.Signs.{sign_text, same_sign}
use Rattle.bpf_spelling.specs.Operators.{operator_of, comparison_of, atomic_form, operation_named, condition_named, locked_op, fetched_op}
use Rattle.bpf_spelling.specs.Token.{Tok, Register, Word, Name, Number, Mark}
use Rattle.bpf_spelling.proofs.Finding.{same_sign-true, same_keyword-true}
use Rattle.bpf_text.specs.declared.forms.Fit.{Fit}
use Rattle.bpf_text.specs.declared.forms.Fit.TheVariants as fitting
use Rattle.bpf_text.specs.declared.forms.Piece.{Piece}
use Rattle.bpf_text.specs.declared.forms.Piece.TheVariants as piece
use Rattle.bpf_text.specs.declared.token.Token.{Token}
use Rattle.bpf_text.specs.declared.token.Token.TheVariants as token
use Rattle.bpf_text.specs.Line.{ItemThen, Spells, TokenThen, NaturalThen, OffsetThen, TargetThen, name_of}
use Rattle.bpf_text.specs.Private.Look.{look}
use Rattle.bpf_text.specs.Private.Pieces.{same_width, same_register, extension_of}
use Rattle.bpf_text.specs.Private.Forms.{fit_of, fits, whole_if, is_register, is_of_width, is_word, is_mark, is_operation}
use Rattle.bpf_text.specs.Private.Forms.{is_signed_operation, is_comparison, is_signed_comparison, is_lock_sign, is_fetch_name, is_extended}
use Rattle.bpf_text.specs.Private.Forms.{operand_fit, offset_fit, target_fit}
use Rattle.bpf_text.proofs.Chains.{same_width-true, same_width-refl, same_register-true, same_register-refl}
use Rattle.bpf_text.proofs.Sound.{operation_sound, condition_sound, locked_op_sound, fetched_op_sound, extension_sound}
use Rattle.bpf_text.proofs.Complete.{token_then, natural_then, signed_then, offset_then, minus, either_sign, named_operation}
use Rattle.bpf_text.proofs.Complete.{named_condition, IsNamed, named_atomic}
use Rattle.bpf_text.proofs.Choices.{Choice, item_of, Choices, items_of, Opens, Completed, spelled}

-- ---- a token that fits a piece spells it

whole-true : (b : Bool) → whole_if b ≡ fitting.Whole → b ≡ true
whole-true true e = refl
whole-true false e = cc

whole-sign : (b : Bool) → whole_if b ≡ fitting.Sign → ⊥
whole-sign true e = cc
whole-sign false e = cc

is_word-true : (k : Keyword) (t : Tok) → is_word k t ≡ true → t ≡ Word k
is_word-true k (Word j) e = ap Word (same_keyword-true j k e)
is_word-true k t e = cc

is_mark-true : (s : Sign) (t : Tok) → is_mark s t ≡ true → t ≡ Mark s
is_mark-true s (Mark m) e = ap Mark (same_sign-true m s e)
is_mark-true s t e = cc

is_register-true : (w : Width) (r : Reg) (t : Tok) → is_register w r t ≡ true → t ≡ Register w r
is_register-true w r (Register v s) e =
    let p = and_parts (same_width v w) (same_register s r) e in
    ap (λ x. Register x s) (same_width-true v w p.0) ∙ ap (Register w) (same_register-true s r p.1)
is_register-true w r t e = cc

is_of_width-true : (w : Width) (t : Tok) → is_of_width w t ≡ true → (r : Reg) × (t ≡ Register w r)
is_of_width-true w (Register v s) e = (s, ap (λ x. Register x s) (same_width-true v w e))
is_of_width-true w t e = cc

-- what an option has, where it has something
taken : {A : Type 0} (o : Option A) (P : A → Type 0) → is_some o ≡ true → IfSome o P → (a : A) × P a
taken (Some a) P e h = (a, h)
taken None P e h = cc

is_operation-true : (t : Tok) → is_operation t ≡ true → (op : AluOp) × (s : Sign) × (operator_of op ≡ Plain s) × (t ≡ Mark s)
is_operation-true (Mark s) e = let o = taken (operation_named (Plain s)) (λ op. operator_of op ≡ Plain s) e (operation_sound (Plain s)) in (o.0, s, o.1, refl)
is_operation-true t e = cc

is_signed_operation-true : (t : Tok) → is_signed_operation t ≡ true → (op : AluOp) × (s : Sign) × (operator_of op ≡ SignedBy s) × (t ≡ Mark s)
is_signed_operation-true (Mark s) e =
    let o = taken (operation_named (SignedBy s)) (λ op. operator_of op ≡ SignedBy s) e (operation_sound (SignedBy s)) in (o.0, s, o.1, refl)
is_signed_operation-true t e = cc

is_comparison-true : (t : Tok) → is_comparison t ≡ true → (c : Condition) × (s : Sign) × (comparison_of c ≡ Plain s) × (t ≡ Mark s)
is_comparison-true (Mark s) e = let o = taken (condition_named (Plain s)) (λ c. comparison_of c ≡ Plain s) e (condition_sound (Plain s)) in (o.0, s, o.1, refl)
is_comparison-true t e = cc

is_signed_comparison-true : (t : Tok) → is_signed_comparison t ≡ true → (c : Condition) × (s : Sign) × (comparison_of c ≡ SignedBy s) × (t ≡ Mark s)
is_signed_comparison-true (Mark s) e =
    let o = taken (condition_named (SignedBy s)) (λ c. comparison_of c ≡ SignedBy s) e (condition_sound (SignedBy s)) in (o.0, s, o.1, refl)
is_signed_comparison-true t e = cc

is_lock_sign-true : (t : Tok) → is_lock_sign t ≡ true → (op : AtomicOp) × (s : Sign) × (atomic_form op ≡ form.Locked s) × (t ≡ Mark s)
is_lock_sign-true (Mark s) e = let o = taken (locked_op s) (λ op. atomic_form op ≡ form.Locked s) e (locked_op_sound s) in (o.0, s, o.1, refl)
is_lock_sign-true t e = cc

is_fetch_name-true : (t : Tok) → is_fetch_name t ≡ true → (op : AtomicOp) × (k : Keyword) × (atomic_form op ≡ form.Fetch k) × (t ≡ Word k)
is_fetch_name-true (Word k) e = let o = taken (fetched_op k) (λ op. atomic_form op ≡ form.Fetch k) e (fetched_op_sound k) in (o.0, k, o.1, refl)
is_fetch_name-true t e = cc

is_extended-true : (w : Width) (t : Tok) → is_extended w t ≡ true → (e : SignExtension) × (extended_width e ≡ w) × (t ≡ Word (key.Extended (extended_size e)))
is_extended-true w (Word (key.Extended z)) e =
    let o = taken (extension_of w z) (λ e. (extended_width e ≡ w) × (extended_size e ≡ z)) e (extension_sound w z) in
    (o.0, o.1.0, ap (λ x. Word (key.Extended x)) (sym o.1.1))
is_extended-true w t e = cc

-- a token spells a piece before whatever follows
abbrev Spelled : Width → Reg → Piece → Tok → Type 1
Spelled w r p t = (c : Choice w p) × Opens w r p c (t ∷ [])

operand_whole : (w : Width) (t : Tok) → operand_fit w t ≡ fitting.Whole → (c : Operand) ×
    ((next : List Tok → Type 0) (ts : List Tok) → next ts → ItemThen (operand_item w c) next (t ∷ ts))
operand_whole w (Register v r) e = (operand.Register r, λ next ts h. (ap (λ x. Register x r) (same_width-true v w (whole-true _ e)), h))
operand_whole w (Number n) e = (operand.Immediate (pos n), λ next ts h. (refl, h))
operand_whole w (Mark sign.Minus) e = cc
operand_whole w t e = cc

target_whole : (t : Tok) → target_fit t ≡ fitting.Whole → (c : ℤ × Option (List ℕ)) ×
    ((next : List Tok → Type 0) (ts : List Tok) → next ts → TargetThen c.0 c.1 next (t ∷ ts))
target_whole (Register w r) e = ((pos 0, Some (register_text w r)), λ next ts h. (refl, refl, h))
target_whole (Word k) e = ((pos 0, Some (keyword_text k)), λ next ts h. (refl, refl, h))
target_whole (Name w) e = ((pos 0, Some w), λ next ts h. (refl, refl, h))
target_whole (Mark sign.Plus) e = cc
target_whole (Mark sign.Minus) e = cc
target_whole t e = cc

whole_spells : (w : Width) (r : Reg) (p : Piece) (t : Tok) → fit_of w r p t ≡ fitting.Whole → Spelled w r p t
unfolding fit_of
whole_spells w r (piece.Word k) t e = (tt, λ next ts h. (is_word-true k t (whole-true _ e), h))
whole_spells w r (piece.Mark s) t e = (tt, λ next ts h. (is_mark-true s t (whole-true _ e), h))
whole_spells w r piece.Same t e = (tt, λ next ts h. (is_register-true w r t (whole-true _ e), h))
whole_spells w r piece.SameWhole t e = (tt, λ next ts h. (is_register-true Bits64 r t (whole-true _ e), h))
whole_spells w r piece.Source t e = let o = is_of_width-true w t (whole-true _ e) in (o.0, λ next ts h. (o.1, h))
whole_spells w r piece.Whole t e = let o = is_of_width-true Bits64 t (whole-true _ e) in (o.0, λ next ts h. (o.1, h))
whole_spells w r piece.Zero t e = (tt, λ next ts h. (is_register-true w R0 t (whole-true _ e), h))
whole_spells w r piece.Operation t e = let o = is_operation-true t (whole-true _ e) in ((o.0, o.1, o.2), λ next ts h. (o.3, h))
whole_spells w r piece.SignedOperation t e = let o = is_signed_operation-true t (whole-true _ e) in ((o.0, o.1, o.2), λ next ts h. (o.3, h))
whole_spells w r piece.Comparison t e = let o = is_comparison-true t (whole-true _ e) in ((o.0, o.1, o.2), λ next ts h. (o.3, h))
whole_spells w r piece.SignedComparison t e = let o = is_signed_comparison-true t (whole-true _ e) in ((o.0, o.1, o.2), λ next ts h. (o.3, h))
whole_spells w r piece.LockSign t e = let o = is_lock_sign-true t (whole-true _ e) in ((o.0, o.1, o.2), λ next ts h. (o.3, h))
whole_spells w r piece.FetchName t e = let o = is_fetch_name-true t (whole-true _ e) in ((o.0, o.1, o.2), λ next ts h. (o.3, h))
whole_spells w r piece.Operand t e = operand_whole w t e
whole_spells w r piece.Stored t e = operand_whole Bits64 t e
whole_spells w r piece.Extended t e = let o = is_extended-true w t (whole-true _ e) in ((o.0, o.1), λ next ts h. (o.2, h))
whole_spells w r piece.Swap (Word (key.Swap k z)) e = ((k, z), λ next ts h. (refl, h))
whole_spells w r piece.Swap t e = cc
whole_spells w r piece.Unsigned (Word (key.Unsigned z)) e = (z, λ next ts h. (refl, h))
whole_spells w r piece.Unsigned t e = cc
whole_spells w r piece.SignedSize (Word (key.Extended z)) e = (z, λ next ts h. (refl, h))
whole_spells w r piece.SignedSize t e = cc
whole_spells w r piece.Cell t e = (tt, λ next ts h. (is_word-true (cell_size w) t (whole-true _ e), h))
whole_spells w r piece.Exchange t e = (tt, λ next ts h. (is_word-true (key.Exchange w) t (whole-true _ e), h))
whole_spells w r piece.CompareExchange t e = (tt, λ next ts h. (is_word-true (key.CompareExchange w) t (whole-true _ e), h))
whole_spells w r piece.Number (Number n) e = (n, λ next ts h. (refl, h))
whole_spells w r piece.Number t e = cc
whole_spells w r piece.Offset (Mark sign.Plus) e = cc
whole_spells w r piece.Offset (Mark sign.Minus) e = cc
whole_spells w r piece.Offset t e = cc
whole_spells w r piece.Target t e = target_whole t e

-- a sign spells a piece with any number after it
abbrev SpelledBy : Width → Reg → Piece → Tok → ℕ → Type 1
SpelledBy w r p t n = (c : Choice w p) × Opens w r p c (t ∷ Number n ∷ [])

operand_sign : (w : Width) (t : Tok) (n : ℕ) → operand_fit w t ≡ fitting.Sign → (c : Operand) ×
    ((next : List Tok → Type 0) (ts : List Tok) → next ts → ItemThen (operand_item w c) next (t ∷ Number n ∷ ts))
operand_sign w (Register v r) n e = absurd (whole-sign _ e)
operand_sign w (Mark sign.Minus) n e = (operand.Immediate (neg_ℤ (pos n)), λ next ts h. (refl, h))
operand_sign w t n e = cc

offset_sign : (t : Tok) (n : ℕ) → offset_fit t ≡ fitting.Sign → (z : ℤ) ×
    ((next : List Tok → Type 0) (ts : List Tok) → next ts → OffsetThen z next (t ∷ Number n ∷ ts))
offset_sign (Mark sign.Plus) n e = (pos n, λ next ts h. (refl, h))
offset_sign (Mark sign.Minus) n e = (neg_ℤ (pos n), λ next ts h. (refl, h))
offset_sign t n e = cc

target_sign : (t : Tok) (n : ℕ) → target_fit t ≡ fitting.Sign → (c : ℤ × Option (List ℕ)) ×
    ((next : List Tok → Type 0) (ts : List Tok) → next ts → TargetThen c.0 c.1 next (t ∷ Number n ∷ ts))
target_sign (Mark sign.Plus) n e = ((pos n, None), λ next ts h. (refl, h))
target_sign (Mark sign.Minus) n e = ((neg_ℤ (pos n), None), λ next ts h. (refl, h))
target_sign t n e = cc

sign_spells : (w : Width) (r : Reg) (p : Piece) (t : Tok) (n : ℕ) → fit_of w r p t ≡ fitting.Sign → SpelledBy w r p t n
unfolding fit_of
sign_spells w r piece.Operand t n e = operand_sign w t n e
sign_spells w r piece.Stored t n e = operand_sign Bits64 t n e
sign_spells w r piece.Offset t n e = offset_sign t n e
sign_spells w r piece.Target t n e = target_sign t n e
sign_spells w r p t n e = absurd (whole-sign _ e)

-- ---- TOKENS THAT FIT PIECES spell them, with others after them
pub fits_sound : (w : Width) (r : Reg) (ps : List Piece) (ts : List Tok) → fits w r ps ts ≡ true → Completed w r ps ts
fits_sound w r ps [] e = spelled w r ps
fits_sound w r [] (t ∷ ts) e = cc
fits_sound w r (p ∷ ps) (t ∷ ts) e = by_fit (fit_of w r p t) refl e (λ h. fits_sound w r ps ts h) (λ h. fits_sound w r (piece.Number ∷ ps) ts h)
  where
    by_fit : (f : Fit) → fit_of w r p t ≡ f →
        elim f [ fitting.Not ↦ false | fitting.Whole ↦ fits w r ps ts | fitting.Sign ↦ fits w r (piece.Number ∷ ps) ts ] ≡ true
        → (fits w r ps ts ≡ true → Completed w r ps ts) → (fits w r (piece.Number ∷ ps) ts ≡ true → Completed w r (piece.Number ∷ ps) ts) →
        Completed w r (p ∷ ps) (t ∷ ts)
    by_fit fitting.Not fit e whole sign = cc
    by_fit fitting.Whole fit e whole sign =
        let behind = whole e in
        let first = whole_spells w r p t fit in
        ((first.0, behind.0), behind.1, first.1 (Spells (items_of w r ps behind.0)) (ts ++ behind.1) behind.2)
    by_fit fitting.Sign fit e whole sign =
        let behind = sign e in
        let next : List Tok → Type 0 = λ us. Spells (items_of w r ps behind.0.1) us in
        let number = natural_then (pos behind.0.0) next (ts ++ behind.1) behind.2 in
        let first = sign_spells w r p t number.0 fit in
        let P : List Tok → Type 0 = λ us. ItemThen (item_of w r p first.0) next (t ∷ us) in
        ((first.0, behind.0.1), behind.1, subst P (sym number.3) (first.1 next number.1 number.4))

-- ---- what a piece is spelled by fits it

abbrev FitsWhole : Width → Reg → Piece → (List Tok → Type 0) → List Tok → Type 0
FitsWhole w r p next ts = (t : Tok) × (us : List Tok) × (ts ≡ t ∷ us) × (fit_of w r p t ≡ fitting.Whole) × next us

abbrev FitsSigned : Width → Reg → Piece → (List Tok → Type 0) → List Tok → Type 0
FitsSigned w r p next ts = (t : Tok) × (n : ℕ) × (us : List Tok) × (ts ≡ t ∷ Number n ∷ us) × (fit_of w r p t ≡ fitting.Sign) × next us

abbrev FitsFirst : Width → Reg → Piece → (List Tok → Type 0) → List Tok → Type 0
FitsFirst w r p next ts = FitsWhole w r p next ts ⊎ FitsSigned w r p next ts

by_token : (w : Width) (r : Reg) (p : Piece) (t : Tok) (next : List Tok → Type 0) (ts : List Tok) → fit_of w r p t ≡ fitting.Whole →
    TokenThen t next ts → FitsFirst w r p next ts
by_token w r p t next ts e h = let first = token_then t next ts h in inl (t, first.0, first.1, e, first.2)

same_keyword-refl : (k : Keyword) → same_keyword k k ≡ true
same_keyword-refl k = (bytes_eq-Decides (keyword_text k) (keyword_text k)).1 refl

same_sign-refl : (s : Sign) → same_sign s s ≡ true
same_sign-refl s = (bytes_eq-Decides (sign_text s) (sign_text s)).1 refl

same_register_whole : (w : Width) (r : Reg) → same_width w w && same_register r r ≡ true
same_register_whole w r = rw (same_width-refl w, same_register-refl r) refl

known_operation : (op : AluOp) (o : Operator) → operator_of op ≡ o → is_some (operation_named o) ≡ true
known_operation op o e = ap (λ x. is_some (operation_named x)) (sym e) ∙ ap is_some (named_operation op)

known_condition : (c : Condition) (o : Operator) → comparison_of c ≡ o → is_some (condition_named o) ≡ true
known_condition c o e = ap (λ x. is_some (condition_named x)) (sym e) ∙ ap is_some (named_condition c)

known_lock : (op : AtomicOp) (s : Sign) → atomic_form op ≡ form.Locked s → is_some (locked_op s) ≡ true
known_lock op s e = let found : locked_op s ≡ Some op = subst (IsNamed op) e (named_atomic op) in ap is_some found

known_fetch : (op : AtomicOp) (k : Keyword) → atomic_form op ≡ form.Fetch k → is_some (fetched_op k) ≡ true
known_fetch op k e = let found : fetched_op k ≡ Some op = subst (IsNamed op) e (named_atomic op) in ap is_some found

own_extension : (e : SignExtension) → is_some (extension_of (extended_width e) (extended_size e)) ≡ true
unfolding extension_of
own_extension extend.From8To32 = refl
own_extension extend.From16To32 = refl
own_extension extend.From8To64 = refl
own_extension extend.From16To64 = refl
own_extension extend.From32To64 = refl

known_extension : (w : Width) (e : SignExtension) → extended_width e ≡ w → is_some (extension_of w (extended_size e)) ≡ true
known_extension w e q = let P : Width → Type 0 = λ v. is_some (extension_of v (extended_size e)) ≡ true in subst P q (own_extension e)

operand_first : (w : Width) (r : Reg) (p : Piece) (v : Width) (c : Operand) (next : List Tok → Type 0) (ts : List Tok) →
    ((t : Tok) → fit_of w r p t ≡ operand_fit v t) → ItemThen (operand_item v c) next ts → FitsFirst w r p next ts
operand_first w r p v (operand.Register s) next ts same h = by_token w r p (Register v s) next ts (same (Register v s) ∙ ap whole_if (same_width-refl v)) h
operand_first w r p v (operand.Immediate z) next ts same h = let n = signed_then z next ts h in by_sign n.negative n.size n.rest n.tokens n.follows
  where
    by_sign : (negative : Bool) (n : ℕ) (rest : List Tok) → ts ≡ minus negative (Number n ∷ rest) → next rest → FitsFirst w r p next ts
    by_sign true n rest e f = inr (Mark sign.Minus, n, rest, e, same (Mark sign.Minus), f)
    by_sign false n rest e f = inl (Number n, rest, e, same (Number n), f)

offset_first : (w : Width) (r : Reg) (p : Piece) (z : ℤ) (next : List Tok → Type 0) (ts : List Tok) → fit_of w r p (Mark sign.Plus) ≡
    fitting.Sign → fit_of w r p (Mark sign.Minus) ≡ fitting.Sign → OffsetThen z next ts → FitsFirst w r p next ts
offset_first w r p z next ts plus less h = let n = offset_then z next ts h in by_sign n.negative n.size n.rest n.tokens n.follows
  where
    by_sign : (negative : Bool) (n : ℕ) (rest : List Tok) → ts ≡ either_sign negative (Number n ∷ rest) → next rest → FitsFirst w r p next ts
    by_sign true n rest e f = inr (Mark sign.Minus, n, rest, e, less, f)
    by_sign false n rest e f = inr (Mark sign.Plus, n, rest, e, plus, f)

named_whole : (t : Tok) (name : List ℕ) → name_of t ≡ Some name → target_fit t ≡ fitting.Whole
named_whole (Register w r) name e = refl
named_whole (Word k) name e = refl
named_whole (Name w) name e = refl
named_whole t name e = cc

fits_first : (w : Width) (r : Reg) (p : Piece) (c : Choice w p) (next : List Tok → Type 0) (ts : List Tok) → ItemThen (item_of w r p c) next
    ts → FitsFirst w r p next ts
unfolding fit_of
fits_first w r (piece.Word k) c next ts h = by_token w r (piece.Word k) (Word k) next ts (ap whole_if (same_keyword-refl k)) h
fits_first w r (piece.Mark s) c next ts h = by_token w r (piece.Mark s) (Mark s) next ts (ap whole_if (same_sign-refl s)) h
fits_first w r piece.Same c next ts h = by_token w r piece.Same (Register w r) next ts (ap whole_if (same_register_whole w r)) h
fits_first w r piece.SameWhole c next ts h = by_token w r piece.SameWhole (Register Bits64 r) next ts (ap whole_if (same_register_whole Bits64 r)) h
fits_first w r piece.Source c next ts h = by_token w r piece.Source (Register w c) next ts (ap whole_if (same_width-refl w)) h
fits_first w r piece.Whole c next ts h = by_token w r piece.Whole (Register Bits64 c) next ts refl h
fits_first w r piece.Zero c next ts h = by_token w r piece.Zero (Register w R0) next ts (ap whole_if (same_register_whole w R0)) h
fits_first w r piece.Operation c next ts h = by_token w r piece.Operation (Mark c.1) next ts (ap whole_if (known_operation c.0 (Plain c.1) c.2)) h
fits_first w r piece.SignedOperation c next ts h = by_token w r piece.SignedOperation (Mark c.1) next ts
    (ap whole_if (known_operation c.0 (SignedBy c.1) c.2)) h
fits_first w r piece.Comparison c next ts h = by_token w r piece.Comparison (Mark c.1) next ts (ap whole_if (known_condition c.0 (Plain c.1) c.2)) h
fits_first w r piece.SignedComparison c next ts h = by_token w r piece.SignedComparison (Mark c.1) next ts
    (ap whole_if (known_condition c.0 (SignedBy c.1) c.2)) h
fits_first w r piece.LockSign c next ts h = by_token w r piece.LockSign (Mark c.1) next ts (ap whole_if (known_lock c.0 c.1 c.2)) h
fits_first w r piece.FetchName c next ts h = by_token w r piece.FetchName (Word c.1) next ts (ap whole_if (known_fetch c.0 c.1 c.2)) h
fits_first w r piece.Operand c next ts h = operand_first w r piece.Operand w c next ts (λ t. refl) h
fits_first w r piece.Stored c next ts h = operand_first w r piece.Stored Bits64 c next ts (λ t. refl) h
fits_first w r piece.Extended c next ts h = by_token w r piece.Extended (Word (key.Extended (extended_size c.0))) next ts
    (ap whole_if (known_extension w c.0 c.1)) h
fits_first w r piece.Swap c next ts h = by_token w r piece.Swap (Word (key.Swap c.0 c.1)) next ts refl h
fits_first w r piece.Unsigned c next ts h = by_token w r piece.Unsigned (Word (key.Unsigned c)) next ts refl h
fits_first w r piece.SignedSize c next ts h = by_token w r piece.SignedSize (Word (key.Extended c)) next ts refl h
fits_first w r piece.Cell c next ts h = by_token w r piece.Cell (Word (cell_size w)) next ts (ap whole_if (same_keyword-refl (cell_size w))) h
fits_first w r piece.Exchange c next ts h = by_token w r piece.Exchange (Word (key.Exchange w)) next ts (ap whole_if (same_keyword-refl (key.Exchange w))) h
fits_first w r piece.CompareExchange c next ts h = by_token w r piece.CompareExchange (Word (key.CompareExchange w)) next ts
    (ap whole_if (same_keyword-refl (key.CompareExchange w))) h
fits_first w r piece.Number c next ts h = let n = natural_then (pos c) next ts h in inl (Number n.0, n.1, n.3, refl, n.4)
fits_first w r piece.Offset c next ts h = offset_first w r piece.Offset c next ts refl refl h
fits_first w r piece.Target (z, None) next ts h = offset_first w r piece.Target z next ts refl refl h
fits_first w r piece.Target (z, Some name) next [] h = absurd h
fits_first w r piece.Target (z, Some name) next (t ∷ ts) h = inl (t, ts, refl, named_whole t name h.1, h.2)

first_token : (t u : Tok) (ts us : List Tok) → t ∷ ts ≡ u ∷ us → u ≡ t
first_token t u ts us e = cc

other_tokens : (t u : Tok) (ts us : List Tok) → t ∷ ts ≡ u ∷ us → us ≡ ts
other_tokens t u ts us e = cc

-- what a fit results in
abbrev chosen : Width → Reg → List Piece → List Tok → Fit → Bool
chosen w r ps ts f = elim f [ fitting.Not ↦ false | fitting.Whole ↦ fits w r ps ts | fitting.Sign ↦ fits w r (piece.Number ∷ ps) ts ]

fits_next : (w : Width) (r : Reg) (p : Piece) (ps : List Piece) (t : Tok) (ts others : List Tok) (next : List Tok → Type 0) → FitsFirst w r
    p next (t ∷ (ts ++ others))
    → (next (ts ++ others) → fits w r ps ts ≡ true) → ((n : ℕ) → NaturalThen (pos n) next (ts ++ others) → fits w r (piece.Number ∷ ps) ts ≡
    true) → fits w r (p ∷ ps) (t ∷ ts) ≡ true
fits_next w r p ps t ts others next (inl (u, us, e, fit, h)) whole sign =
    let same : fit_of w r p t ≡ fitting.Whole = ap (λ x. fit_of w r p x) (sym (first_token t u (ts ++ others) us e)) ∙ fit in
    ap (chosen w r ps ts) same ∙ whole (subst next (other_tokens t u (ts ++ others) us e) h)
fits_next w r p ps t ts others next (inr (u, n, us, e, fit, h)) whole sign =
    let same : fit_of w r p t ≡ fitting.Sign = ap (λ x. fit_of w r p x) (sym (first_token t u (ts ++ others) (Number n ∷ us) e)) ∙ fit in
    let P : List Tok → Type 0 = λ vs. NaturalThen (pos n) next vs in
    ap (chosen w r ps ts) same ∙ sign n (subst P (other_tokens t u (ts ++ others) (Number n ∷ us) e) (refl, h))

-- ---- WHAT PIECES ARE SPELLED BY fits them, as far as it goes
pub fits_complete : (w : Width) (r : Reg) (ps : List Piece) (c : Choices w ps) (ts others : List Tok) → Spells (items_of w r ps c)
    (ts ++ others) → fits w r ps ts ≡ true
fits_complete w r ps c [] others s = refl
fits_complete w r [] c (t ∷ ts) others s = cc
fits_complete w r (p ∷ ps) c (t ∷ ts) others s =
    fits_next w r p ps t ts others (Spells (items_of w r ps c.1)) (fits_first w r p c.0 (Spells (items_of w r ps c.1)) (t ∷ (ts ++ others)) s)
    (λ h. fits_complete w r ps c.1 ts others h) (λ n h. fits_complete w r (piece.Number ∷ ps) (n, c.1) ts others h)

-- ---- the loop

pub nothing_left : (w : Width) (r : Reg) (ps : List Piece) (tokens : List Token) (i : ℕ) (whole : Bool) → i < length tokens → ps ≡ [] → fits
    w r ps (map look (drop i tokens)) ≡ whole → false ≡ whole
nothing_left w r ps tokens i whole lt none h =
    ap (λ (ts : List Token). fits w r [] (map look ts)) (sym (drop-cons tokens i token.Junk lt)) ∙ ap
    (λ (qs : List Piece). fits w r qs (map look (drop i tokens))) (sym none) ∙ h
