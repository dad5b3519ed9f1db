use Rattle.std.proofs.Common.{ℕ, ◌+◌, subst}
use Rattle.std.specs.Prelude.{string_bytes}
use Rattle.bpf_debug.specs.Nearby.{IsLineAt, first_shown}
use Rattle.bpf_debug.proofs.NearbyLaws.{line_more}
use Rattle.bpf_debug.proofs.nearby.program_lines.Goals as goal

pub loop-place-preserved : goal.loop-place-preserved
loop-place-preserved c =
    let program = c.args.program.now in
    let here = c.args.here in
    let at = c.loop-place.place in
    let v = c.in_ok-push_pc.ensures in
    let P : ℕ → Type 0 = λ first. IsLineAt program here (first + at) v.0 in
    line_more program here (first_shown here) at (string_bytes c.loop-place.text) v.0 (string_bytes c.push_pc.new.text)
    c.loop-place.invariant (subst P c.first_shown-first.ensures v.1) v.2
