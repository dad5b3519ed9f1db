-- Steps that every proof about reading takes.
use Rattle.std.proofs.Common.{◌≡◌, ℕ, Bool, true, false, cond, ◌==◌, List, [], ◌∷◌, Option, Some, None, refl, sym, ap, ◌∙◌}
use Rattle.std.specs.Prelude.{IfSome}
use Rattle.std.proofs.lemmas.Bool.{eqb-true}
use Rattle.bpf_insn.specs.Register.{register_number}
use Rattle.bpf_insn.specs.declared.register.Reg.{Reg}
use Rattle.bpf_insn.specs.declared.register.Reg.TheVariants.{R0, R1, R2, R3, R4, R5, R6, R7, R8, R9, R10}
use Rattle.bpf_insn.specs.declared.operation.widths.Width.{Width}
use Rattle.bpf_insn.specs.declared.operation.widths.Width.TheVariants.{Bits32, Bits64}
use Rattle.bpf_insn.specs.declared.instruction.Insn.{Insn}
use Rattle.bpf_spelling.specs.Token.{Tok}
use Rattle.bpf_text.specs.Line.{Written}
use Rattle.bpf_text.specs.Private.Pieces.{◌>>=◌, same_width, same_register}
use Rattle.bpf_text.specs.Private.Lines.{ends}

-- what holds of a step's value, and of the next step's
pub IfSome-then : {A B : Type 0} (o : Option A) (f : A → Option B) (P : A → Type 0) (Q : B → Type 0) → IfSome o P →
    ((a : A) → P a → IfSome (f a) Q) → IfSome (o >>= f) Q
IfSome-then None f P Q h k = tt
IfSome-then (Some a) f P Q h k = k a h

-- after a test
pub IfSome-if : {A : Type 0} (b : Bool) (o : Option A) (Q : A → Type 0) → (b ≡ true → IfSome o Q) → IfSome (cond b o None) Q
IfSome-if true o Q h = h refl
IfSome-if false o Q h = tt

-- where the line ends
pub IfSome-ends : (i : Insn) (ts : List Tok) (Q : Written → Type 0) → (ts ≡ [] → Q (record { insn = i; name = None })) → IfSome (ends i ts) Q
IfSome-ends i [] Q h = h refl
IfSome-ends i (t ∷ ts) Q h = tt

pub same_width-true : (v w : Width) → same_width v w ≡ true → v ≡ w
same_width-true Bits32 Bits32 e = refl
same_width-true Bits64 Bits64 e = refl
same_width-true Bits32 Bits64 e = cc
same_width-true Bits64 Bits32 e = cc

pub same_width-refl : (w : Width) → same_width w w ≡ true
same_width-refl Bits32 = refl
same_width-refl Bits64 = refl

numbered : ℕ → Reg
numbered n = cond (n == 0) R0 (cond (n == 1) R1 (cond (n == 2) R2
    (cond (n == 3) R3 (cond (n == 4) R4 (cond (n == 5) R5 (cond (n == 6) R6 (cond (n == 7) R7 (cond (n == 8) R8 (cond (n == 9) R9 R10)))))))))

numbered-register_number : (r : Reg) → numbered (register_number r) ≡ r
unfolding numbered
numbered-register_number R0 = refl
numbered-register_number r = refl

pub same_register-true : (r s : Reg) → same_register r s ≡ true → r ≡ s
same_register-true r s e = sym (numbered-register_number r) ∙ ap numbered (eqb-true (register_number r) (register_number s) e) ∙ numbered-register_number s

pub same_register-refl : (r : Reg) → same_register r r ≡ true
same_register-refl R0 = refl
same_register-refl r = refl
