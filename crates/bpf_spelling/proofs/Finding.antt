-- Looking a value up by how it is spelled.
use Rattle.std.proofs.Common.{◌≡◌, Bool, true, false, cond, List, [], ◌∷◌, Option, Some, refl, sym, ap, ◌∙◌}
use Rattle.std.specs.Prelude.{IfSome, ℕ, find}
use Rattle.std.specs.Str.{bytes_eq}
use Rattle.std.proofs.lemmas.Slice.Eq.{bytes_eq-Decides}
use Rattle.bpf_insn.specs.declared.operation.sizes.Size.TheVariants as size
use Rattle.bpf_insn.specs.declared.operation.sizes.SignedSize.TheVariants as signed_size
use Rattle.bpf_insn.specs.declared.operation.swaps.ByteSwap.TheVariants as swap
use Rattle.bpf_insn.specs.declared.operation.swaps.SwapWidth.TheVariants as bits
use Rattle.bpf_insn.specs.declared.operation.widths.Width.TheVariants.{Bits32}
use Rattle.bpf_spelling.specs.declared.atomics.AtomicForm.{AtomicForm}
use Rattle.bpf_spelling.specs.declared.atomics.AtomicForm.TheVariants as form
use Rattle.bpf_spelling.specs.declared.keywords.Keyword.{Keyword}
use Rattle.bpf_spelling.specs.declared.keywords.Keyword.TheVariants as key
use Rattle.bpf_spelling.specs.declared.operators.Operator.{Operator}
use Rattle.bpf_spelling.specs.declared.operators.Operator.TheVariants.{Plain, Signed}
use Rattle.bpf_spelling.specs.declared.signs.Sign.{Sign}
use Rattle.bpf_spelling.specs.declared.signs.Sign.TheVariants as sign
use Rattle.bpf_spelling.specs.declared.signs.TheConstants.{SIGNS}
use Rattle.bpf_spelling.specs.Names.{keyword_text, keyword_of, same_keyword}
use Rattle.bpf_spelling.specs.Signs.{sign_text, same_sign}
use Rattle.bpf_spelling.specs.Operators.{same_operator, is_locked_by, is_fetched_by}

-- what is found passes the test
pub found_by : {A : Type 0} (p : A → Bool) (xs : List A) (P : A → Type 0) → ((x : A) → p x ≡ true → P x) → IfSome (find p xs) P
found_by p [] P h = tt
found_by {A} p (x ∷ xs) P h = by_test (p x) refl (found_by p xs P h)
  where
    by_test : (b : Bool) → p x ≡ b → IfSome (find p xs) P → IfSome (cond b (Some x) (find p xs)) P
    by_test true e more = h x e
    by_test false e more = more

-- no two signs are spelled alike
sign_spelled : List ℕ → Option Sign
sign_spelled text = find (λ s. bytes_eq (sign_text s) text) SIGNS

sign_spelled-text : (s : Sign) → sign_spelled (sign_text s) ≡ Some s
unfolding sign_spelled
sign_spelled-text sign.ShlAssign = refl
sign_spelled-text s = refl

pub same_sign-true : (a b : Sign) → same_sign a b ≡ true → a ≡ b
same_sign-true a b e =
    let text : sign_text a ≡ sign_text b = (bytes_eq-Decides (sign_text a) (sign_text b)).0 e in
    let both : Some a ≡ Some b = sym (sign_spelled-text a) ∙ ap sign_spelled text ∙ sign_spelled-text b in cc

-- nor two keywords
pub keyword_of-text : (k : Keyword) → keyword_of (keyword_text k) ≡ Some k
unfolding keyword_of
keyword_of-text (key.Unsigned size.Byte) = refl
keyword_of-text (key.Extended signed_size.Byte) = refl
keyword_of-text (key.Swap swap.ToLittle bits.Bits16) = refl
keyword_of-text (key.Swap swap.ToBig bits.Bits16) = refl
keyword_of-text (key.Swap swap.Reverse bits.Bits16) = refl
keyword_of-text (key.Exchange Bits32) = refl
keyword_of-text (key.CompareExchange Bits32) = refl
keyword_of-text k = refl

pub same_keyword-true : (a b : Keyword) → same_keyword a b ≡ true → a ≡ b
same_keyword-true a b e =
    let text : keyword_text a ≡ keyword_text b = (bytes_eq-Decides (keyword_text a) (keyword_text b)).0 e in
    let both : Some a ≡ Some b = sym (keyword_of-text a) ∙ ap keyword_of text ∙ keyword_of-text b in cc

pub same_operator-true : (a b : Operator) → same_operator a b ≡ true → a ≡ b
same_operator-true (Plain a) (Plain b) e = ap Plain (same_sign-true a b e)
same_operator-true (Signed a) (Signed b) e = ap Signed (same_sign-true a b e)
same_operator-true (Plain a) (Signed b) e = cc
same_operator-true (Signed a) (Plain b) e = cc

pub is_locked_by-true : (f : AtomicForm) (s : Sign) → is_locked_by f s ≡ true → f ≡ form.Locked s
is_locked_by-true (form.Locked a) s e = ap form.Locked (same_sign-true a s e)
is_locked_by-true f s e = cc

pub is_fetched_by-true : (f : AtomicForm) (k : Keyword) → is_fetched_by f k ≡ true → f ≡ form.Fetch k
is_fetched_by-true (form.Fetch a) k e = ap form.Fetch (same_keyword-true a k e)
is_fetched_by-true f k e = cc
