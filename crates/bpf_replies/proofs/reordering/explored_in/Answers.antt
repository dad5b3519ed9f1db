use Rattle.std.proofs.Common.{ℕ, true, subst}
use Rattle.bpf_file.specs.File.{file_of}
use Rattle.bpf_reorderings.specs.Outcomes.{IsExploredX86}
use Rattle.bpf_replies.specs.Script.{first_world_of}
use Rattle.bpf_replies.proofs.reordering.explored_in.Goals as goal

pub returns-clause-found : goal.returns-clause-found
returns-clause-found g c =
    let file = file_of c.in_ok-file.file in (
      file,
      c.in_ok-file.ensures.said,
      subst (λ (n : ℕ). IsExploredX86 (first_world_of file) file.names true n c.in_ok-explored.explored) c.bounds_of.ensures c.in_ok-explored.ensures,
    )
