use Rattle.std.proofs.Common.{[], ◌∷◌, subst}
use Rattle.bpf_x86.specs.Machine.{FlushOf}
use Rattle.bpf_flushes.specs.Moves.{MakesTo}
use Rattle.bpf_flushes.proofs.Turning.{flush_made}
use Rattle.bpf_reorderings.specs.Private.Searching.{Searched}
use Rattle.bpf_reorderings.proofs.explorer.Explorer.pass_flush.Goals as goal

pub returns-clause-makes : goal.returns-clause-makes
returns-clause-makes c =
    let m = c.self.inside in
    subst (λ (a : Searched). MakesTo a.machine (FlushOf c.args.cpu ∷ []) c.flush_alone.new.self.machine) c.self.view_is
    (flush_made m.album.machine c.flush_alone.new.self.machine c.args.cpu c.flush_alone.result c.flush_alone.ensures.flushed c.flush_alone.ensures.empty
    c.flush_alone.ensures.unchanged)
