-- The registers, by their numbers.
use Rattle.std.proofs.Common.{◌≡◌, ℕ, zero, suc, ◌<◌, ◌≤◌, Option, Some, None, refl, sym, arith, IfSome, IsSome}
use Rattle.std.specs.Option.{unwrap_or}
use Rattle.std.proofs.lemmas.Bool.{false≢true}
use Rattle.bpf_insn.specs.Register.{register_number}
use Rattle.bpf_insn.specs.Private.Lookup.{register_at}
use Rattle.bpf_insn.specs.declared.register.Reg.{Reg}
use Rattle.bpf_insn.specs.declared.register.Reg.TheVariants.{R0, R1, R2, R3, R4, R5, R6, R7, R8, R9, R10}

pub register_at-number : (r : Reg) → register_at (register_number r) ≡ Some r
unfolding register_at
register_at-number R0 = refl
register_at-number R1 = refl
register_at-number R2 = refl
register_at-number R3 = refl
register_at-number R4 = refl
register_at-number R5 = refl
register_at-number R6 = refl
register_at-number R7 = refl
register_at-number R8 = refl
register_at-number R9 = refl
register_at-number R10 = refl

pub number-small : (r : Reg) → register_number r ≤ 10
number-small R0 = omega arith
number-small r = omega arith

-- what a look-up gives
abbrev pub GivesRegister : ℕ → Option Reg → Type 0
GivesRegister n (Some r) = register_number r ≡ n
GivesRegister n None = 10 < n

pub gives_register : (n : ℕ) → GivesRegister n (register_at n)
unfolding register_at
gives_register zero = refl
gives_register (suc zero) = refl
gives_register (suc (suc zero)) = refl
gives_register (suc (suc (suc zero))) = refl
gives_register (suc (suc (suc (suc zero)))) = refl
gives_register (suc (suc (suc (suc (suc zero))))) = refl
gives_register (suc (suc (suc (suc (suc (suc zero)))))) = refl
gives_register (suc (suc (suc (suc (suc (suc (suc zero))))))) = refl
gives_register (suc (suc (suc (suc (suc (suc (suc (suc zero)))))))) = refl
gives_register (suc (suc (suc (suc (suc (suc (suc (suc (suc zero))))))))) = refl
gives_register (suc (suc (suc (suc (suc (suc (suc (suc (suc (suc zero)))))))))) = refl
gives_register (suc (suc (suc (suc (suc (suc (suc (suc (suc (suc (suc n))))))))))) = omega arith

none_found : (n : ℕ) (o : Option Reg) → (n ≤ 10 → IsSome {T = Reg} None) → GivesRegister n o → None ≡ o
none_found n None k g = refl
none_found n (Some r) k g = absurd (false≢true (k (omega (arith, number-small r))))

-- an answer with the right number is the look-up's
pub looked_up : (n : ℕ) (o : Option Reg) → IfSome o (λ r. register_number r ≡ n) → (n ≤ 10 → IsSome o) → o ≡ register_at n
looked_up n (Some r) h k = rw (← h) (sym (register_at-number r))
looked_up n None h k = none_found n (register_at n) k (gives_register n)

-- a number up to 10 is that of the register that it names
there : (n : ℕ) (o : Option Reg) → n ≤ 10 → GivesRegister n o → register_number (unwrap_or o R0) ≡ n
there n (Some r) h g = g
there n None h g = absurd (omega arith)

pub register-there : (n : ℕ) → n ≤ 10 → register_number (unwrap_or (register_at n) R0) ≡ n
register-there n h = there n (register_at n) h (gives_register n)
