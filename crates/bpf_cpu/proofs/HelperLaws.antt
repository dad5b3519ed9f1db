-- Which helpers ask the store, and what a try of a lock leads to.
use Rattle.std.proofs.Common.{◌≡◌, ◌≢◌, ℕ, zero, suc, inl, inr, refl}
use Rattle.bpf_loader.specs.Rows.{IsHelper}
use Rattle.bpf_helpers.specs.Calls.{IsHelperNumber, lock_number, unlock_number}
use Rattle.bpf_helpers.specs.Given.{IsJobHelper}
use Rattle.bpf_cpu.specs.declared.cpu.Cpu.{Cpu}
use Rattle.bpf_cpu.specs.Row.{after_helper}
use Rattle.bpf_cpu.specs.Helping.{tried}

-- what is no other is one of maps, or the one for the CPU's number
pub store_helper : (n : ℕ) → IsHelper n → ¬ IsJobHelper n → n ≢ lock_number → n ≢ unlock_number → IsHelperNumber n
store_helper n (inl e) job lock unlock = inl e
store_helper n (inr (inl e)) job lock unlock = inr (inl e)
store_helper n (inr (inr (inl e))) job lock unlock = inr (inr (inl e))
store_helper n (inr (inr (inr (inl e)))) job lock unlock = inr (inr (inr e))
store_helper n (inr (inr (inr (inr (inl e))))) job lock unlock = absurd (job (inl e))
store_helper n (inr (inr (inr (inr (inr (inl e)))))) job lock unlock = absurd (job (inr (inl e)))
store_helper n (inr (inr (inr (inr (inr (inr (inl e))))))) job lock unlock = absurd (job (inr (inr (inl e))))
store_helper n (inr (inr (inr (inr (inr (inr (inr (inl e)))))))) job lock unlock = absurd (job (inr (inr (inr (inl e)))))
store_helper n (inr (inr (inr (inr (inr (inr (inr (inr (inl e))))))))) job lock unlock = absurd (job (inr (inr (inr (inr (inl e))))))
store_helper n (inr (inr (inr (inr (inr (inr (inr (inr (inr (inl e)))))))))) job lock unlock = absurd (job (inr (inr (inr (inr (inr e))))))
store_helper n (inr (inr (inr (inr (inr (inr (inr (inr (inr (inr (inl e))))))))))) job lock unlock = absurd (lock e)
store_helper n (inr (inr (inr (inr (inr (inr (inr (inr (inr (inr (inr e))))))))))) job lock unlock = absurd (unlock e)

-- a free lock is taken
pub tried_free : (cpu : Cpu) (x : ℕ) → x ≡ 0 → after_helper cpu 0 ≡ tried cpu x
tried_free cpu zero e = refl
tried_free cpu (suc x) e = cc

-- one that somebody has leaves the CPU as it is
pub tried_taken : (cpu : Cpu) (x : ℕ) → x ≢ 0 → cpu ≡ tried cpu x
tried_taken cpu zero h = absurd (h refl)
tried_taken cpu (suc x) h = refl
