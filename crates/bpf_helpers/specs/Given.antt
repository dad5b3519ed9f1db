-- The helpers that answer from what a job was given (bpf-helpers(7)): they ask no store, and have no
-- arguments and no faults.
use Rattle.std.specs.Prelude.{◌≡◌, ◌⊎◌, ℕ, ◌+◌, ◌*◌, ◌%◌, ◌^◌}
use Rattle.rand_core.specs.Stream.{next_u32}
use Rattle.rand_core.specs.Steps.{stream_of}
use Rattle.rand_xoshiro.specs.SplitMix64.{splitmix_steps}
use Rattle.bpf_helpers.specs.declared.given.Given.{Given}
use Rattle.bpf_helpers.specs.Calls.{lock_number, processor_number, unlock_number}

-- the helpers' numbers: ktime_get_ns, trace_printk, get_prandom_u32, get_current_pid_tgid,
-- get_current_uid_gid, ktime_get_boot_ns
abbrev pub time_number : ℕ
time_number = 5

abbrev pub print_number : ℕ
print_number = 6

abbrev pub random_number : ℕ
random_number = 7

abbrev pub process_number : ℕ
process_number = 14

abbrev pub user_number : ℕ
user_number = 15

abbrev pub boot_time_number : ℕ
boot_time_number = 125

abbrev pub IsJobHelper : ℕ → Type 0
IsJobHelper n =
    (n ≡ time_number) ⊎ (n ≡ random_number) ⊎ (n ≡ process_number) ⊎ (n ≡ user_number)
    ⊎ (n ≡ boot_time_number) ⊎ (n ≡ print_number)

-- the helpers that ask no store, whatever registers hold: these, and the one for the CPU's number
abbrev pub AsksNothing : ℕ → Type 0
AsksNothing n = (n ≡ processor_number) ⊎ IsJobHelper n

-- those that have one event at most, whatever registers hold: these, and those of locks
abbrev pub AsksOnce : ℕ → Type 0
AsksOnce n = AsksNothing n ⊎ (n ≡ lock_number) ⊎ (n ≡ unlock_number)

-- a job's random numbers are those of the generator SplitMix64 (Steele, Lea and Flood), whose state is
-- the seed at first and goes on by this step: here the one after n others
abbrev pub random_step : ℕ
random_step = 0x9e37_79b9_7f4a_7c15

abbrev pub random_after : ℕ → ℕ → ℕ
random_after seed n =
    (next_u32 (stream_of splitmix_steps ((seed + n * random_step % 2 ^ 64) % 2 ^ 64))).0

-- the number of a job as one of a process, from 1 on: in both halves, since a job has one thread
abbrev pub process_of : ℕ → ℕ
process_of job = (job + 1) % 2 ^ 32 * (2 ^ 32 + 1)

-- AnswersJob n given drawn answer after: what helper n answers a job that has drawn `drawn` random
-- numbers; the job has drawn `after` of them then. trace_printk prints nothing.
abbrev pub AnswersJob : ℕ → Given → ℕ → ℕ → ℕ → Type 0
AnswersJob n given drawn answer after =
    (((n ≡ time_number) ⊎ (n ≡ boot_time_number)) × (answer ≡ given.time) × (after ≡ drawn))
    ⊎ ((n ≡ random_number) × (answer ≡ random_after given.seed drawn)
    × (after ≡ (drawn + 1) % 2 ^ 64))
    ⊎ ((n ≡ process_number) × (answer ≡ process_of given.job) × (after ≡ drawn))
    ⊎ (((n ≡ user_number) ⊎ (n ≡ print_number)) × (answer ≡ 0) × (after ≡ drawn))
