-- The helpers that answer from what a job was given: their answers are determined, and none is one of
-- the others.
use Rattle.std.proofs.Common.{◌≡◌, ◌≤◌, ◌⊎◌, ℕ, inl, inr, sym, ◌∙◌, arith}
use Rattle.bpf_helpers.specs.declared.given.Given.{Given}
use Rattle.bpf_helpers.specs.Calls.{IsHelperNumber, lock_number, unlock_number}
use Rattle.bpf_helpers.specs.Given.{AnswersJob, AsksOnce, IsJobHelper, boot_time_number, print_number, time_number, user_number}

-- one for the time is none of the others
no_time : (n k : ℕ) → (n ≡ time_number) ⊎ (n ≡ boot_time_number) → n ≡ k → 6 ≤ k → k ≤ 15 → ⊥
no_time n k (inl e) f low high = omega (arith, e, f, low, high)
no_time n k (inr e) f low high = omega (arith, e, f, low, high)

-- nor is one that answers 0
no_zero : (n k : ℕ) → (n ≡ user_number) ⊎ (n ≡ print_number) → n ≡ k → 7 ≤ k → k ≤ 14 → ⊥
no_zero n k (inl e) f low high = omega (arith, e, f, low, high)
no_zero n k (inr e) f low high = omega (arith, e, f, low, high)

time_or_zero : (n : ℕ) → (n ≡ time_number) ⊎ (n ≡ boot_time_number) → (n ≡ user_number) ⊎ (n ≡ print_number) → ⊥
time_or_zero n time (inl e) = no_time n 15 time e (omega arith) (omega arith)
time_or_zero n time (inr e) = no_time n 6 time e (omega arith) (omega arith)

pub answers_once : (n : ℕ) (given : Given) (drawn a b x y : ℕ) → AnswersJob n given drawn a x → AnswersJob n given drawn b y → (a ≡ b) × (x ≡ y)
answers_once n given drawn a b x y (inl r) (inl s) = (r.1 ∙ sym s.1, r.2 ∙ sym s.2)
answers_once n given drawn a b x y (inl r) (inr (inl s)) = absurd (no_time n 7 r.0 s.0 (omega arith) (omega arith))
answers_once n given drawn a b x y (inl r) (inr (inr (inl s))) = absurd (no_time n 14 r.0 s.0 (omega arith) (omega arith))
answers_once n given drawn a b x y (inl r) (inr (inr (inr s))) = absurd (time_or_zero n r.0 s.0)
answers_once n given drawn a b x y (inr (inl r)) (inl s) = absurd (no_time n 7 s.0 r.0 (omega arith) (omega arith))
answers_once n given drawn a b x y (inr (inl r)) (inr (inl s)) = (r.1 ∙ sym s.1, r.2 ∙ sym s.2)
answers_once n given drawn a b x y (inr (inl r)) (inr (inr (inl s))) = absurd (let e = r.0 in let f = s.0 in omega arith)
answers_once n given drawn a b x y (inr (inl r)) (inr (inr (inr s))) = absurd (no_zero n 7 s.0 r.0 (omega arith) (omega arith))
answers_once n given drawn a b x y (inr (inr (inl r))) (inl s) = absurd (no_time n 14 s.0 r.0 (omega arith) (omega arith))
answers_once n given drawn a b x y (inr (inr (inl r))) (inr (inl s)) = absurd (let e = r.0 in let f = s.0 in omega arith)
answers_once n given drawn a b x y (inr (inr (inl r))) (inr (inr (inl s))) = (r.1 ∙ sym s.1, r.2 ∙ sym s.2)
answers_once n given drawn a b x y (inr (inr (inl r))) (inr (inr (inr s))) = absurd (no_zero n 14 s.0 r.0 (omega arith) (omega arith))
answers_once n given drawn a b x y (inr (inr (inr r))) (inl s) = absurd (time_or_zero n s.0 r.0)
answers_once n given drawn a b x y (inr (inr (inr r))) (inr (inl s)) = absurd (no_zero n 7 r.0 s.0 (omega arith) (omega arith))
answers_once n given drawn a b x y (inr (inr (inr r))) (inr (inr (inl s))) = absurd (no_zero n 14 r.0 s.0 (omega arith) (omega arith))
answers_once n given drawn a b x y (inr (inr (inr r))) (inr (inr (inr s))) = (r.1 ∙ sym s.1, r.2 ∙ sym s.2)

-- who answers is one of them
pub of_job : (n : ℕ) (given : Given) (drawn a x : ℕ) → AnswersJob n given drawn a x → IsJobHelper n
of_job n given drawn a x (inl (inl e, r, s)) = inl e
of_job n given drawn a x (inl (inr e, r, s)) = inr (inr (inr (inr (inl e))))
of_job n given drawn a x (inr (inl r)) = inr (inl r.0)
of_job n given drawn a x (inr (inr (inl r))) = inr (inr (inl r.0))
of_job n given drawn a x (inr (inr (inr (inl e, r, s)))) = inr (inr (inr (inl e)))
of_job n given drawn a x (inr (inr (inr (inr e, r, s)))) = inr (inr (inr (inr (inr e))))

small : (n : ℕ) → IsHelperNumber n → (n ≤ 3) ⊎ (n ≡ 8)
small n (inl e) = inl (omega (arith, e))
small n (inr (inl e)) = inl (omega (arith, e))
small n (inr (inr (inl e))) = inl (omega (arith, e))
small n (inr (inr (inr e))) = inr e

apart : (n k : ℕ) → (n ≤ 3) ⊎ (n ≡ 8) → n ≡ k → (k ≡ 8 → ⊥) → 5 ≤ k → ⊥
apart n k (inl low) e other high = omega (arith, low, e, high)
apart n k (inr eight) e other high = other (sym e ∙ eight)

pub store_or_job : (n : ℕ) → IsHelperNumber n → IsJobHelper n → ⊥
store_or_job n h (inl e) = apart n 5 (small n h) e (λ f. cc) (omega arith)
store_or_job n h (inr (inl e)) = apart n 7 (small n h) e (λ f. cc) (omega arith)
store_or_job n h (inr (inr (inl e))) = apart n 14 (small n h) e (λ f. cc) (omega arith)
store_or_job n h (inr (inr (inr (inl e)))) = apart n 15 (small n h) e (λ f. cc) (omega arith)
store_or_job n h (inr (inr (inr (inr (inl e))))) = apart n 125 (small n h) e (λ f. cc) (omega arith)
store_or_job n h (inr (inr (inr (inr (inr e))))) = apart n 6 (small n h) e (λ f. cc) (omega arith)

-- a helper of maps asks the store something
map_helper : (n : ℕ) → (n ≡ 1) ⊎ (n ≡ 2) ⊎ (n ≡ 3) → IsHelperNumber n
map_helper n (inl e) = inl e
map_helper n (inr (inl e)) = inr (inl e)
map_helper n (inr (inr e)) = inr (inr (inl e))

low : (n : ℕ) → (n ≡ 1) ⊎ (n ≡ 2) ⊎ (n ≡ 3) → n ≤ 3
low n (inl e) = omega (arith, e)
low n (inr (inl e)) = omega (arith, e)
low n (inr (inr e)) = omega (arith, e)

-- the lock's helpers are none of the others
high : (n : ℕ) → (n ≡ lock_number) ⊎ (n ≡ unlock_number) → (93 ≤ n) × (n ≤ 94)
high n (inl e) = (omega (arith, e), omega (arith, e))
high n (inr e) = (omega (arith, e), omega (arith, e))

pub store_or_lock : (n : ℕ) → IsHelperNumber n → (n ≡ lock_number) ⊎ (n ≡ unlock_number) → ⊥
store_or_lock n (inl e) lock = let above = (high n lock).0 in omega (arith, above, e)
store_or_lock n (inr (inl e)) lock = let above = (high n lock).0 in omega (arith, above, e)
store_or_lock n (inr (inr (inl e))) lock = let above = (high n lock).0 in omega (arith, above, e)
store_or_lock n (inr (inr (inr e))) lock = let above = (high n lock).0 in omega (arith, above, e)

pub job_or_lock : (n : ℕ) → IsJobHelper n → (n ≡ lock_number) ⊎ (n ≡ unlock_number) → ⊥
job_or_lock n (inl e) lock = let above = (high n lock).0 in omega (arith, above, e)
job_or_lock n (inr (inl e)) lock = let above = (high n lock).0 in omega (arith, above, e)
job_or_lock n (inr (inr (inl e))) lock = let above = (high n lock).0 in omega (arith, above, e)
job_or_lock n (inr (inr (inr (inl e)))) lock = let above = (high n lock).0 in omega (arith, above, e)
job_or_lock n (inr (inr (inr (inr (inl e))))) lock = let below = (high n lock).1 in omega (arith, below, e)
job_or_lock n (inr (inr (inr (inr (inr e))))) lock = let above = (high n lock).0 in omega (arith, above, e)

pub map_asks : (n : ℕ) → (n ≡ 1) ⊎ (n ≡ 2) ⊎ (n ≡ 3) → AsksOnce n → ⊥
map_asks n m (inl (inl e)) = let below = low n m in omega (arith, below, e)
map_asks n m (inl (inr job)) = store_or_job n (map_helper n m) job
map_asks n m (inr lock) = store_or_lock n (map_helper n m) lock
