-- How far each CPU is ahead of the round that is next.
use Rattle.std.specs.Prelude.{◌≡◌, ℕ, ◌-◌, ◌<◌, ◌≤◌, List, slice_index_or}
use Rattle.bpf_machine.specs.declared.machine.ahead.Headway.{Headway}
use Rattle.bpf_machine.specs.declared.machine.ahead.Headway.TheVariants.{Idle, Turns}

abbrev pub headway_at : List Headway → ℕ → Headway
headway_at headways c = slice_index_or headways c Idle

-- this many turns later, of which none is made anew
abbrev pub spent : ℕ → Headway → Headway
spent m Idle = Idle
spent m (Turns n) = Turns (n - m)

abbrev pub HasSoMany : ℕ → Headway → Type 0
HasSoMany m Idle = Unit {0}
HasSoMany m (Turns n) = m ≤ n

-- what is found of the CPUs below a number: this many have work, and the least is so far ahead
pub record AreCounted (headways : List Headway) (c working least : ℕ) : Type 0 where
  pub most : (d k : ℕ) → d < c → headway_at headways d ≡ Turns k
      → (least ≤ k) × (1 ≤ working) × (working ≡ 1 → k ≡ least)
  pub some : 1 ≤ working → (d : ℕ) × (d < c) × (headway_at headways d ≡ Turns least)
  pub within : working ≤ c

-- of all CPUs it is known how far they are
abbrev pub Everywhere : ℕ → Type 0
Everywhere c = Unit {0}
