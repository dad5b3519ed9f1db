use Rattle.std.proofs.Common.{◌≡◌, ℕ, ◌<◌, []}
use Rattle.std.specs.Prelude.{slice_index_or}
use Rattle.bpf_shared.specs.Contents.{bytes_of_all}
use Rattle.bpf_races.proofs.shape.are_alike.Given as goal

-- the first of them are
abbrev pub invariant-loop-array : goal.invariant-loop-array
invariant-loop-array l = (i : ℕ) → i < l.array → slice_index_or (bytes_of_all l.one) i [] ≡ slice_index_or (bytes_of_all l.two) i []
