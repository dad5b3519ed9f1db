use Rattle.std.proofs.Common.{◌≡◌, ◌&&◌, Decides, refl, ap, eqb}
use Rattle.std.specs.Cmp.Lexicographic.{pointwise}
use Rattle.std.proofs.lemmas.Bool.Decides.{Decides-and, Decides-eqb}
use Rattle.std.proofs.lemmas.Slice.Eq.{slice_eq-Decides}
use Rattle.bpf_mem.specs.declared.frames.Caller.{Caller}
use Rattle.bpf_mem.proofs.frames.same_callers.Goals as goal

caller_Decides : (a b : Caller) → Decides (eqb a.return_pc b.return_pc && pointwise eqb a.saved b.saved) (a ≡ b)
caller_Decides a b =
    let fields = Decides-and (eqb a.return_pc b.return_pc) (pointwise eqb a.saved b.saved) (Decides-eqb a.return_pc b.return_pc)
    (slice_eq-Decides Decides-eqb a.saved b.saved (pointwise eqb a.saved b.saved) refl) in (
      λ e. (let f = fields.0 e in λ j. record { return_pc = f.0 j; saved = f.1 j }),
      λ same. fields.1 (ap (λ (c : Caller). c.return_pc) same, ap (λ (c : Caller). c.saved) same),
    )

pub returns : goal.returns
returns c = slice_eq-Decides caller_Decides c.args.callers.now c.args.others.now c.eq.result c.eq.ensures
