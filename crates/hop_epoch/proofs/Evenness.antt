-- The counter of a CPU that is in no run is even.
use Rattle.std.proofs.Common.{◌≡◌, ℕ, ◌-◌, ◌%◌, ◌^◌, ◌<◌, ◌≤◌, false, arith}
use Rattle.std.proofs.lemmas.Bool.Decides.{nat_tests}
use Rattle.bpf_shared.specs.History.{events_of}
use Rattle.hop_layout.specs.declared.about.About.{About}
use Rattle.hop_words.specs.declared.known.Known.{Known}
use Rattle.hop_words.specs.Kinds.{run_count}
use Rattle.bpf_shared.specs.Own.{in_run}

pub idle_even : (a : About) (l : Known) → a.count % 2 ≡ 0 → in_run (events_of l.cpu l.seen) ≡ false → run_count a l % 2 ≡ 0
idle_even a l even idle = grind (arith, nat_tests)

-- so the counter that is too large to go on is the last even one
pub last_even : (n : ℕ) → n % 2 ≡ 0 → n < 2 ^ 64 → 18446744073709551614 ≤ n → n ≡ 2 ^ 64 - 2
last_even n even fits large = omega arith
