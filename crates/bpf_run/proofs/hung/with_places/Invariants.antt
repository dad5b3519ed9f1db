use Rattle.std.proofs.Common.{ℕ, List, ◌++◌, string_bytes}
use Rattle.std.specs.Option.{option_copied}
use Rattle.bpf_lines.specs.Lines.{lines_behind, lines_of, rest_size}
use Rattle.bpf_run.specs.Hung.{HavePlaces}
use Rattle.bpf_run.proofs.hung.with_places.Given as goal

-- what is there and what follows the rest of the lines is what follows all
abbrev pub invariant-lines : goal.invariant-lines
invariant-lines l = (more : List ℕ) → HavePlaces l.x86 l.file (lines_behind (option_copied l.rest)) more
    → HavePlaces l.x86 l.file (lines_of l.printed) (string_bytes l.text ++ more)

abbrev pub decreases-lines : goal.decreases-lines
decreases-lines l = rest_size (option_copied l.rest)
