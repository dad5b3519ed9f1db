use Rattle.std.proofs.Common.{◌≡◌, ◌&&◌, Decides, ap, eqb}
use Rattle.std.proofs.lemmas.Bool.Decides.{Decides-and, Decides-eqb}
use Rattle.std.proofs.lemmas.Slice.Eq.{slice_eq-Decides}
use Rattle.bpf_shared.specs.declared.events.Span.{Span}
use Rattle.bpf_helpers.proofs.held.same_spans.Goals as goal

span_Decides : (a b : Span) → Decides (eqb a.at b.at && eqb a.size b.size) (a ≡ b)
span_Decides a b =
    let fields = Decides-and (eqb a.at b.at) (eqb a.size b.size) (Decides-eqb a.at b.at) (Decides-eqb a.size b.size) in (
      λ e. (let f = fields.0 e in λ j. record { at = f.0 j; size = f.1 j }),
      λ same. fields.1 (ap (λ (s : Span). s.at) same, ap (λ (s : Span). s.size) same),
    )

pub returns : goal.returns
returns c = slice_eq-Decides span_Decides c.args.spans.now c.args.others.now c.eq.result c.eq.ensures
