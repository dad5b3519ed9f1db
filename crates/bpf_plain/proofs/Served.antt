-- Only CPUs that a `PlainStore` has are in a run.
use Rattle.std.proofs.Common.{◌≡◌, ◌<◌, ℕ, true}
use Rattle.bpf_shared.specs.Store.{Plain}
use Rattle.bpf_hash.proofs.Served as maps
use Rattle.bpf_plain.specs.PlainStore.{Contents, StandsFor}

-- in each plain store that is shown only its own CPUs are in a run
pub runs_are_served : (p : Contents) (s : Plain) → StandsFor p s
    → (c : ℕ) → s.running c ≡ true → c < s.shape.cpus
runs_are_served p s shows = maps.runs_are_served p.maps s shows.maps
