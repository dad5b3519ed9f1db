-- What a CPU's turn leads to from some bytes.
use Rattle.std.specs.Prelude.{◌≡◌, ℕ, List}
use Rattle.bpf_expand.specs.declared.expander.Next.{Next}
use Rattle.bpf_expand.specs.declared.expander.Next.TheVariants.{Refused, Idle, State}
use Rattle.bpf_expand.specs.State.{Host, HasWorkIn, IsIdleIn, IsNoState, IsSuccessor}

abbrev pub IsNext : Host → List ℕ → ℕ → Next → Type 0
IsNext h bytes c Refused = IsNoState h bytes
IsNext h bytes c Idle = IsIdleIn h bytes c
IsNext h bytes c (State s) =
    (s.cpu ≡ c) × HasWorkIn h bytes c × IsSuccessor h bytes c s.ahead s.bytes.items
